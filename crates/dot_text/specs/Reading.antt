-- What a text draws, computed from its bytes: 18 for a text outside the subset (02, K14). That this
-- is the grammar's meaning is promised (specs/Promises). Assumes nothing: these are definitions.
use Rattle.std.specs.Prelude.{ℕ, zero, suc, Bool, true, false, not, ◌&&◌, List, [], ◌∷◌, eqb, length, drop}
use Rattle.text_field.specs.Bytes.{is_capital}
use Rattle.text_field.specs.Outcome.{Outcome, refused, done, and_then, refuse_if}
use Rattle.text_field.specs.Number.{number_here}
use Rattle.std.specs.declared.option.Option.{Option}
use Rattle.std.specs.declared.option.Option.TheVariants.{Some, None}
use Rattle.dot_text.specs.Tokens.{is_blank, digraph, scopes_word, label_word, arrow, open_brace, close_brace, open_bracket, close_bracket, equals, semicolon, comment}
use Rattle.dot_text.specs.Grammar.{DrawnEdge, Drawing}

-- what was read at the front of a text, and the text after it
pub record Taken (A : Type 0) : Type 0 where
  pub value : A
  pub rest : List ℕ

-- the text after the blanks that it begins with
unfoldable pub past_blanks : List ℕ → List ℕ
past_blanks [] = []
past_blanks (x ∷ text) = elim (is_blank x) [ true ↦ past_blanks text | false ↦ x ∷ text ]

-- the text after bytes that it must begin with
unfoldable pub past_bytes : List ℕ → List ℕ → Outcome (List ℕ)
past_bytes [] text = done text
past_bytes (b ∷ bytes) [] = refused 18
past_bytes (b ∷ bytes) (x ∷ text) = elim (eqb x b) [ true ↦ past_bytes bytes text | false ↦ refused 18 ]

-- a number, or the byte of a letter, and the place after it, in a text
unfoldable pub number_of : Option (ℕ × ℕ) → List ℕ → Outcome (Taken ℕ)
number_of (Some (v, next)) text = done (record { value = v; rest = drop next text })
number_of None text = refused 18

-- The next token: fixed bytes, a number, or a letter in quotes.
unfoldable pub fixed_next : List ℕ → List ℕ → Outcome (List ℕ)
fixed_next bytes text = past_bytes bytes (past_blanks text)

unfoldable pub number_next : List ℕ → Outcome (Taken ℕ)
number_next text = number_of (number_here (past_blanks text)) (past_blanks text)

unfoldable pub quoted_here : List ℕ → Outcome (Taken ℕ)
quoted_here [] = refused 18
quoted_here (a ∷ []) = refused 18
quoted_here (a ∷ x ∷ []) = refused 18
quoted_here (a ∷ x ∷ b ∷ text) =
    elim (eqb a 34 && (is_capital x && eqb b 34)) [ true ↦ done (record { value = x; rest = text }) | false ↦ refused 18 ]

unfoldable pub quoted_next : List ℕ → Outcome (Taken ℕ)
quoted_next text = quoted_here (past_blanks text)

-- a scope: a number and `;`
unfoldable pub scope_next : List ℕ → Outcome (Taken ℕ)
scope_next text = and_then (number_next text) (λ n. and_then (fixed_next semicolon n.rest) (λ rest. done (record { value = n.value; rest = rest })))

-- `[`, `label` and `=`
unfoldable pub label_opens : List ℕ → Outcome (List ℕ)
label_opens text = and_then (fixed_next open_bracket text) (λ word. and_then (fixed_next label_word word) (fixed_next equals))

-- `]` and `;`
unfoldable pub label_closes : List ℕ → Outcome (List ℕ)
label_closes text = and_then (fixed_next close_bracket text) (fixed_next semicolon)

-- the label: what opens it, its letter, what closes it
unfoldable pub label_next : List ℕ → Outcome (Taken ℕ)
label_next text =
    and_then (label_opens text)
    (λ letter. and_then (quoted_next letter) (λ x. and_then (label_closes x.rest) (λ rest. done (record { value = x.value; rest = rest }))))

-- `->` and a number
unfoldable pub target_next : List ℕ → Outcome (Taken ℕ)
target_next text = and_then (fixed_next arrow text) number_next

-- an edge: where it comes from, where it leads, its label
unfoldable pub edge_next : List ℕ → Outcome (Taken DrawnEdge)
edge_next text =
    and_then (number_next text)
    (λ from. and_then (target_next from.rest)
    (λ to. and_then (label_next to.rest)
    (λ x. done (record { value = record { from = from.value; letter = x.value; to = to.value }; rest = x.rest }))))

-- As many as there are, one after the other, at most so many turns. Each takes a byte at least, so
-- as many turns as the text has bytes never run out.
unfoldable pub more_of : {A : Type 0} → Outcome (Taken A) → List ℕ → (List ℕ → Taken (List A)) → Taken (List A)
more_of (refused n) text more = record { value = []; rest = text }
more_of (done t) text more = record { value = t.value ∷ (more t.rest).value; rest = (more t.rest).rest }

unfoldable pub many : {A : Type 0} → (List ℕ → Outcome (Taken A)) → ℕ → List ℕ → Taken (List A)
many read zero text = record { value = []; rest = text }
many read (suc turns) text = more_of (read text) text (many read turns)

-- the scopes from here on, and the edges
unfoldable pub scopes_next : List ℕ → Taken (List ℕ)
scopes_next text = many scope_next (length text) text

unfoldable pub edges_next : List ℕ → Taken (List DrawnEdge)
edges_next text = many edge_next (length text) text

-- the text without the comment, if it begins with it
unfoldable pub rest_or : Outcome (List ℕ) → List ℕ → List ℕ
rest_or (refused n) text = text
rest_or (done rest) text = rest

unfoldable pub past_comment : List ℕ → List ℕ
past_comment text = rest_or (past_bytes comment text) text

-- a blank, which must stand here
unfoldable pub past_blank : List ℕ → Outcome (List ℕ)
past_blank [] = refused 18
past_blank (x ∷ text) = elim (is_blank x) [ true ↦ done text | false ↦ refused 18 ]

-- `digraph`, a blank, `scopes` and `{`
unfoldable pub head_next : List ℕ → Outcome (List ℕ)
head_next text = and_then (fixed_next digraph text) (λ parted. and_then (past_blank parted) (λ word. and_then (fixed_next scopes_word word) (fixed_next open_brace)))

unfoldable pub is_empty : List ℕ → Bool
is_empty [] = true
is_empty (x ∷ text) = false

-- Does `}` come next, and nothing but blanks after it?
unfoldable pub ends_after : Outcome (List ℕ) → Bool
ends_after (refused n) = false
ends_after (done rest) = is_empty (past_blanks rest)

unfoldable pub ends_next : List ℕ → Bool
ends_next text = ends_after (fixed_next close_brace text)

-- Where a drawing's parts begin: the text from its first scope on, and from its first edge on.
pub record Places : Type 0 where
  pub scopes : List ℕ
  pub edges : List ℕ

-- The whole text: its head, scopes, edges and end.
unfoldable pub places_in : List ℕ → Outcome Places
places_in body =
    refuse_if (not (ends_next (edges_next (scopes_next body).rest).rest)) 18
    (done (record { scopes = body; edges = (scopes_next body).rest }))

unfoldable pub parts_of : List ℕ → Outcome Places
parts_of text = and_then (head_next (past_comment text)) places_in

-- what the text draws
unfoldable pub drawn_at : Places → Drawing
drawn_at p = record { scopes = (scopes_next p.scopes).value; edges = (edges_next p.edges).value }

unfoldable pub drawn : List ℕ → Outcome Drawing
drawn text = and_then (parts_of text) (λ p. done (drawn_at p))
