-- The grammar of a drawing (02, K14): which texts draw what. Assumes nothing: these are
-- definitions.
use Rattle.std.specs.Prelude.{ℕ, ◌≡◌, true, List, [], ◌∷◌, ◌++◌}
use Rattle.dot_text.specs.Tokens.{is_blank, blanks, Token, fixed, number, quoted, Spelled, digraph, scopes_word, label_word, arrow, open_brace, close_brace, open_bracket, close_bracket, equals, semicolon, comment}

-- What is drawn of an edge: where it comes from, the byte of its label's letter, where it leads.
pub record DrawnEdge : Type 0 where
  pub from : ℕ
  pub letter : ℕ
  pub to : ℕ

-- What a text draws: its scopes and its edges, each in the text's sequence.
pub record Drawing : Type 0 where
  pub scopes : List ℕ
  pub edges : List DrawnEdge

-- the edges, each as `1 -> 0 [label="P"];`, and the closing brace
unfoldable pub edge_tokens : List DrawnEdge → List Token
edge_tokens [] = fixed close_brace ∷ []
edge_tokens (e ∷ edges) =
    number e.from ∷ fixed arrow ∷ number e.to
    ∷ fixed open_bracket ∷ fixed label_word ∷ fixed equals ∷ quoted e.letter ∷ fixed close_bracket ∷ fixed semicolon ∷ edge_tokens edges

-- the scopes, each as `4;`, then the edges
unfoldable pub body_tokens : List ℕ → List DrawnEdge → List Token
body_tokens [] edges = edge_tokens edges
body_tokens (s ∷ scopes) edges = number s ∷ fixed semicolon ∷ body_tokens scopes edges

-- all tokens after the first, `digraph`
unfoldable pub tokens_of : Drawing → List Token
tokens_of d = fixed scopes_word ∷ fixed open_brace ∷ body_tokens d.scopes d.edges

-- A graph: `digraph`, a blank that parts the two words, and the other tokens. Of all tokens only
-- these two would run together without a blank.
pub record Graph (text : List ℕ) (d : Drawing) : Type 0 where
  pub gap : List ℕ
  pub blank : ℕ
  pub rest : List ℕ
  pub whole : text ≡ gap ++ (digraph ++ (blank ∷ rest))
  pub before : blanks gap ≡ true
  pub parted : is_blank blank ≡ true
  pub spelled : Spelled (tokens_of d) rest

-- The text is a drawing: a graph, or the comment and a graph. The comment stands first or nowhere,
-- and once.
pub data Drawn : List ℕ → Drawing → Type 0 where
  plain : {text : List ℕ} {d : Drawing} → Graph text d → Drawn text d
  commented : {text : List ℕ} {d : Drawing} → Graph text d → Drawn (comment ++ text) d
