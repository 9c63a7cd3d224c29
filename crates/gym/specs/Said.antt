-- What the program says: one text, on standard output or on standard error. Assumes nothing: these
-- are definitions.
use Rattle.std.specs.Prelude.{ℕ}
use mathlib.Core.List.{List, [], ◌∷◌, ◌++◌, flat_map}
use Rattle.scope_graph.specs.Agree.{Judgement, as_visible, as_shadowed, as_unreached}
use Rattle.text_field.specs.Number.{number_text}
use Rattle.text_field.specs.Outcome.{Outcome, done, and_then}
use Rattle.path_row.specs.Form.{most_steps}
use Rattle.comparison.specs.Compare.{Comparison, first, second, neither, Told, compare_answer}
use Rattle.judge.specs.Judge.{judge_answer}
use Rattle.conversion.specs.Conversion.{old_of, new_of}
use Rattle.ruled.specs.Ruled.{ruled_of}
use Rattle.beginnings.specs.Beginnings.{count_for}
use Rattle.readers.specs.Readers.{readers_for}
use Rattle.renumbering.specs.Renumbering.{renumber_of, file_of, list_of, back_for}
use Rattle.dot.specs.Drawing.{dot_of}
use Rattle.undot.specs.Undrawn.{undot_of}
use Rattle.printing.specs.Printed.{in_place, program_text}
use Rattle.gym.specs.declared.replies.Stream.{Stream}
use Rattle.gym.specs.declared.replies.Stream.TheVariants.{Out, Err}
use Rattle.gym.specs.Text.{bytes, padded}
use Rattle.gym.specs.Words.{Asked, list, old, new, judge, compare, rules, count, readers, renumber, was, back, dot, undot, help, usage, Word, words, asked}

-- the text, and the stream that gets it; the other one gets nothing
pub record Said : Type 0 where
  pub on : Stream
  pub text : List ℕ

abbrev pub spoken : Stream → List ℕ → Said
spoken on text = record { on = on; text = text }

-- the room that a reply is lent: a whole gym file fits it
abbrev pub reply_room : ℕ
reply_room = 32768

-- a reply: its text, or the line of its refusal
abbrev pub replied : Outcome (List ℕ) → Said
replied o = spoken Out (in_place reply_room o)

-- an answer's name as a line
unfoldable pub line_of : {A : Type 0} → (A → List ℕ) → Outcome A → Outcome (List ℕ)
line_of name o = and_then o (λ a. done (name a ++ (10 ∷ [])))

-- a name with the number of steps that comes with it, as `first 2`
unfoldable pub counted : List ℕ → ℕ → List ℕ
counted name n = name ++ (32 ∷ number_text n)

unfoldable pub standing_name : Judgement → List ℕ
standing_name as_visible = bytes "visible"
standing_name (as_shadowed n) = counted (bytes "shadowed") n
standing_name as_unreached = bytes "unreached"

unfoldable pub which_name : Comparison → List ℕ
which_name first = bytes "first"
which_name second = bytes "second"
which_name neither = bytes "neither"

-- with the number of equal steps
unfoldable pub comparison_name : Told → List ℕ
comparison_name t = counted (which_name t.which) t.steps

-- The standing of a row, and which of two rows is more specific (01, "Paths"), with their numbers
-- of steps (02, K7). Records are lent for as many steps as a row may have.
unfoldable pub judge_line : List ℕ → ℕ → List ℕ → Outcome (List ℕ)
judge_line text i row = line_of standing_name (judge_answer text i row most_steps)

unfoldable pub compare_line : List ℕ → List ℕ → List ℕ → Outcome (List ℕ)
compare_line text a b = line_of comparison_name (compare_answer text a b most_steps most_steps)

-- the count of a query's lawful beginnings (02, K11)
unfoldable pub count_line : List ℕ → ℕ → Outcome (List ℕ)
count_line text i = line_of number_text (count_for text i)

-- two spaces, the word with its arguments, and from a column on what it does
unfoldable pub usage_line : Word → List ℕ
usage_line w = bytes "  " ++ (padded 18 (w.name ++ w.shown) ++ (w.does ++ (10 ∷ [])))

-- how the program is called, and a line for each word
unfoldable pub usage_text : List ℕ
usage_text = bytes "usage: gym WORD [ARGUMENT..] < FILE\n" ++ flat_map usage_line words

-- What is said for a gym file's text. `more` is the second file's, of a word whose argument names one;
-- for the others it says nothing.
unfoldable pub answered : Asked → List ℕ → List ℕ → Said
answered list text more = spoken Out (program_text text)
answered old text more = replied (old_of text)
answered new text more = replied (new_of text)
answered (judge i row) text more = replied (judge_line text i row)
answered (compare a b) text more = replied (compare_line text a b)
answered (rules expression) text more = replied (ruled_of expression text)
answered (count i) text more = replied (count_line text i)
answered (readers i) text more = replied (readers_for text i)
answered renumber text more = replied (file_of (renumber_of text))
answered was text more = replied (list_of (renumber_of text))
answered back text more = replied (back_for text more)
answered dot text more = replied (dot_of text)
answered undot text more = replied (undot_of text more)
answered help text more = spoken Out usage_text
answered usage text more = spoken Err usage_text

-- What the program says for a list of words, its own name left off, an input, and the second file
-- if the words name one.
unfoldable pub said : List (List ℕ) → List ℕ → List ℕ → Said
said given input more = answered (asked given) input more
