-- The tokens of a drawing in the DOT language, and texts that spell them (02, K14): blanks are free
-- around tokens, and a token holds none. Assumes nothing: these are definitions.
use Rattle.std.specs.Prelude.{ℕ, ◌≤◌, ◌≡◌, Bool, true, ◌&&◌, ◌||◌, List, [], ◌∷◌, ◌++◌, eqb}
use Rattle.text_field.specs.Bytes.{is_capital}
use Rattle.text_field.specs.Number.{number_text}

-- a space, a tab or an LF; a CR is no blank
unfoldable pub is_blank : ℕ → Bool
is_blank x = eqb x 32 || (eqb x 9 || eqb x 10)

-- nothing but blanks, possibly none
unfoldable pub blanks : List ℕ → Bool
blanks [] = true
blanks (x ∷ rest) = is_blank x && blanks rest

-- A token: a word, an arrow or a sign, by its bytes; a number; or a letter in quotes.
pub data Token : Type 0 where
  fixed : List ℕ → Token
  number : ℕ → Token
  quoted : ℕ → Token

-- a number has the gym file's form, at most five digits; a quoted letter is A to Z
abbrev pub Proper : Token → Type 0
Proper (fixed bytes) = Unit {0}
Proper (number n) = n ≤ 99999
Proper (quoted x) = is_capital x ≡ true

-- its bytes
unfoldable pub spelling : Token → List ℕ
spelling (fixed bytes) = bytes
spelling (number n) = number_text n
spelling (quoted x) = 34 ∷ x ∷ 34 ∷ []

-- The text spells the tokens one after the other, with any blanks before, between and after them.
pub data Spelled : List Token → List ℕ → Type 0 where
  nothing : (gap : List ℕ) → blanks gap ≡ true → Spelled [] gap
  first : {t : Token} {ts : List Token} (gap rest : List ℕ) → blanks gap ≡ true → Proper t → Spelled ts rest
      → Spelled (t ∷ ts) (gap ++ (spelling t ++ rest))

-- the words: `digraph`, `scopes`, `label`
abbrev pub digraph : List ℕ
digraph = 100 ∷ 105 ∷ 103 ∷ 114 ∷ 97 ∷ 112 ∷ 104 ∷ []

abbrev pub scopes_word : List ℕ
scopes_word = 115 ∷ 99 ∷ 111 ∷ 112 ∷ 101 ∷ 115 ∷ []

abbrev pub label_word : List ℕ
label_word = 108 ∷ 97 ∷ 98 ∷ 101 ∷ 108 ∷ []

-- `->`
abbrev pub arrow : List ℕ
arrow = 45 ∷ 62 ∷ []

-- the signs `{`, `}`, `[`, `]`, `=` and `;`
abbrev pub open_brace : List ℕ
open_brace = 123 ∷ []

abbrev pub close_brace : List ℕ
close_brace = 125 ∷ []

abbrev pub open_bracket : List ℕ
open_bracket = 91 ∷ []

abbrev pub close_bracket : List ℕ
close_bracket = 93 ∷ []

abbrev pub equals : List ℕ
equals = 61 ∷ []

abbrev pub semicolon : List ℕ
semicolon = 59 ∷ []

-- `// turns dropped` with its LF: the one comment, which an export may begin with
abbrev pub comment : List ℕ
comment = 47 ∷ 47 ∷ 32 ∷ 116 ∷ 117 ∷ 114 ∷ 110 ∷ 115 ∷ 32 ∷ 100 ∷ 114 ∷ 111 ∷ 112 ∷ 112 ∷ 101 ∷ 100 ∷ 10 ∷ []
