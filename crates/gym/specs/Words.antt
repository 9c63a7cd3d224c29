-- What the words of a command ask for. Assumes nothing: these are definitions.
use Rattle.std.specs.Prelude.{ℕ, List, [], ◌∷◌, Bool, true, false, ◌&&◌, eqb, length}
use Rattle.std.specs.declared.option.Option.{Option}
use Rattle.std.specs.declared.option.Option.TheVariants.{Some, None}
use Rattle.text_field.specs.Number.{number_here}
use Rattle.gym.specs.Text.{bytes}

-- What may be asked for. Words that ask for nothing of this get the usage text, and so does who asks
-- for help: the one as a complaint, the other as an answer.
pub data Asked : Type 0 where
  list : Asked
  old : Asked
  new : Asked
  judge : ℕ → List ℕ → Asked
  compare : List ℕ → List ℕ → Asked
  rules : List ℕ → Asked
  count : ℕ → Asked
  readers : ℕ → Asked
  renumber : Asked
  was : Asked
  back : Asked
  dot : Asked
  undot : Asked
  help : Asked
  usage : Asked

-- a word without arguments
unfoldable pub alone : Asked → List (List ℕ) → Asked
alone x [] = x
alone x (a ∷ more) = usage

-- a word with one argument
unfoldable pub with_one : (List ℕ → Asked) → List (List ℕ) → Asked
with_one x [] = usage
with_one x (a ∷ []) = x a
with_one x (a ∷ b ∷ more) = usage

-- a word with two arguments
unfoldable pub with_two : (List ℕ → List ℕ → Asked) → List (List ℕ) → Asked
with_two x [] = usage
with_two x (a ∷ []) = usage
with_two x (a ∷ b ∷ []) = x a b
with_two x (a ∷ b ∷ c ∷ more) = usage

-- QUERY is a number of the file's form (01, "The gym file"), with nothing behind it
unfoldable pub query_asked : (ℕ → Asked) → Option (ℕ × ℕ) → List ℕ → Asked
query_asked x (Some (i, width)) query = elim (eqb width (length query)) [ true ↦ x i | false ↦ usage ]
query_asked x None query = usage

unfoldable pub by_query : (ℕ → Asked) → List ℕ → Asked
by_query x query = query_asked x (number_here query) query

unfoldable pub judge_asked : List ℕ → List ℕ → Asked
judge_asked query row = by_query (λ i. judge i row) query

unfoldable pub count_asked : List ℕ → Asked
count_asked query = by_query count query

-- PLACE is a number of that form too
unfoldable pub readers_asked : List ℕ → Asked
readers_asked place = by_query readers place

-- FILE names a second file. Its bytes are handed over beside the input, and its name says nothing.
unfoldable pub back_asked : List ℕ → Asked
back_asked file = back

unfoldable pub undot_asked : List ℕ → Asked
undot_asked file = undot

-- A word: its name, how its arguments are shown and what it does, for who does not know it, and what
-- its arguments ask for.
pub record Word : Type 0 where
  pub name : List ℕ
  pub shown : List ℕ
  pub does : List ℕ
  pub asks : List (List ℕ) → Asked

unfoldable pub list_word : Word
list_word = record { name = bytes "list"; shown = bytes ""; does = bytes "all listings, then the summary"; asks = alone list }

-- the file's form that is wanted (02, K9)
unfoldable pub old_word : Word
old_word = record { name = bytes "old"; shown = bytes ""; does = bytes "the file in the old form, without kinds"; asks = alone old }

unfoldable pub new_word : Word
new_word = record { name = bytes "new"; shown = bytes ""; does = bytes "the file in the form with kinds"; asks = alone new }

unfoldable pub judge_word : Word
judge_word =
    record {
      name = bytes "judge";
      shown = bytes " QUERY ROW";
      does = bytes "the standing of a path row such as '10 3P1' for query 0, 1, ..";
      asks = with_two judge_asked;
    }

unfoldable pub compare_word : Word
compare_word =
    record {
      name = bytes "compare";
      shown = bytes " ROW ROW";
      does = bytes "which of two path rows is more specific, and how many steps agree";
      asks = with_two compare;
    }

-- the file with other path rules (02, K6)
unfoldable pub rules_word : Word
rules_word =
    record {
      name = bytes "rules";
      shown = bytes " EXPRESSION";
      does = bytes "the file with the path rules of an expression such as 'P*I*'";
      asks = with_one rules;
    }

-- how many lawful beginnings the query has (02, K11)
unfoldable pub count_word : Word
count_word =
    record {
      name = bytes "count";
      shown = bytes " QUERY";
      does = bytes "how many lawful beginnings a query follows";
      asks = with_one count_asked;
    }

-- who sees a declaration (02, K5)
unfoldable pub readers_word : Word
readers_word =
    record {
      name = bytes "readers";
      shown = bytes " PLACE";
      does = bytes "the scopes that see a declaration, by its place among the rows";
      asks = with_one readers_asked;
    }

-- scopes numbered for storage, the list of their old numbers, the way back by such a list (02, K13)
unfoldable pub renumber_word : Word
renumber_word =
    record {
      name = bytes "renumber";
      shown = bytes "";
      does = bytes "the file with its scopes numbered for storage, neighbours near each other";
      asks = alone renumber;
    }

unfoldable pub was_word : Word
was_word = record { name = bytes "was"; shown = bytes ""; does = bytes "the list of the numbers that the scopes had before that"; asks = alone was }

unfoldable pub back_word : Word
back_word =
    record {
      name = bytes "back";
      shown = bytes " FILE";
      does = bytes "the file with the old numbers again, by the list in FILE";
      asks = with_one back_asked;
    }

-- the exchange with DOT (02, K14)
unfoldable pub dot_word : Word
dot_word = record { name = bytes "dot"; shown = bytes ""; does = bytes "the scopes and edges in the DOT language, for Graphviz"; asks = alone dot }

unfoldable pub undot_word : Word
undot_word =
    record {
      name = bytes "undot";
      shown = bytes " FILE";
      does = bytes "the file with the edges of the DOT text in FILE";
      asks = with_one undot_asked;
    }

-- the usage text, as an answer and not as a complaint
unfoldable pub help_word : Word
help_word = record { name = bytes "help"; shown = bytes ""; does = bytes "this text"; asks = alone help }

-- all words; a new one is added to the last ones
unfoldable pub last_words : List Word
last_words = renumber_word ∷ was_word ∷ back_word ∷ dot_word ∷ undot_word ∷ help_word ∷ []

unfoldable pub later_words : List Word
later_words = rules_word ∷ count_word ∷ readers_word ∷ last_words

unfoldable pub words : List Word
words = list_word ∷ old_word ∷ new_word ∷ judge_word ∷ compare_word ∷ later_words

-- are two texts the same?
unfoldable pub same_bytes : List ℕ → List ℕ → Bool
same_bytes [] [] = true
same_bytes [] (y ∷ b) = false
same_bytes (x ∷ a) [] = false
same_bytes (x ∷ a) (y ∷ b) = eqb x y && same_bytes a b

-- by the first word of that name
unfoldable pub asked_of : List Word → List ℕ → List (List ℕ) → Asked
asked_of [] name arguments = usage
asked_of (w ∷ ws) name arguments = elim (same_bytes name w.name) [ true ↦ w.asks arguments | false ↦ asked_of ws name arguments ]

-- what a list of words asks for: the word's name, then its arguments
unfoldable pub asked : List (List ℕ) → Asked
asked [] = usage
asked (name ∷ arguments) = asked_of words name arguments
