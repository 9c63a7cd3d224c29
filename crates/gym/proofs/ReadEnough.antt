-- What is read of the words and of the input is enough. Assumes nothing.
use Prim.Native.Nat.{ℕ, zero, suc, ◌<◌}
use mathlib.Core.Path.{◌≡◌, refl, sym, ap, ◌∙◌}
use mathlib.Core.Bool.{Bool, true, false, ◌&&◌}
use mathlib.Core.List.{List, [], ◌∷◌}
use native.Mathlib.Omega.{arith}
use lib.Dec.{eqb, ltb}
use lib.ListN.{length, get_or, take}
use lib.Seq.{take_all, length-take-le}
use borrow.Author.Tests.{ltb-true, ltb-false, lt-ltb, ne_eqb}
use Rattle.std.specs.declared.option.Option.{Option}
use Rattle.std.specs.declared.option.Option.TheVariants.{Some, None}
use Rattle.text_field.specs.Number.{number_here}
use Rattle.text_field.specs.Outcome.{Outcome, refused, done, and_then, refuse_if}
use Rattle.text_field.proofs.NumberLaws.{number_found}
use Rattle.graph_file.specs.File.{read_cells, made_of}
use Rattle.graph_rows.specs.Decode.{letters_of}
use Rattle.graph_file.proofs.SectionLaws.{whole_long}
use Rattle.path_rules.specs.Rules.{rules_of}
use Rattle.path_rules.specs.declared.Rules.{Rules}
use Rattle.std.specs.declared.result.Result.{Result}
use Rattle.text_field.specs.declared.refusal.Refusal.{Refusal}
use Rattle.path_rules.proofs.Ends.{rules_long}
use Rattle.path_row.specs.Form.{row_here}
use Rattle.comparison.specs.Compare.{compare_rows, compare_answer}
use Rattle.judge.specs.Judge.{judge_of, judge_answer}
use Rattle.conversion.specs.Conversion.{text_of, old_of, new_of}
use Rattle.ruled.specs.Ruled.{ruled_text, text_by, ruled_of}
use Rattle.printing.specs.Printed.{program_text}
use Rattle.beginnings.specs.Beginnings.{count_for}
use Rattle.readers.specs.Readers.{readers_for}
use Rattle.renumbering.specs.Renumbering.{renumber_of, back_for}
use Rattle.dot.specs.Drawing.{dot_of}
use Rattle.undot.specs.Undrawn.{undot_of}
use Rattle.gym.specs.Words.{Asked, list, old, new, judge, compare, rules, count, readers, renumber, was, back, dot, undot, help, usage, Word, alone, with_one, with_two, query_asked, by_query, judge_asked, count_asked, readers_asked, back_asked, undot_asked, list_word, old_word, new_word, judge_word, compare_word, rules_word, count_word, readers_word, renumber_word, was_word, back_word, dot_word, undot_word, help_word, last_words, later_words, words, same_bytes, asked_of, asked}
use Rattle.gym.specs.Said.{Said, judge_line, compare_line, count_line, answered, said}
use Rattle.gym.specs.Handed.{arguments, handed}
use Rattle.gym.specs.Promises.{word_bytes, input_bytes, words_read, ReadEnough}

-- a text is as long as that, or cut there
pub data Cut (k : ℕ) (s : List ℕ) : Type 0 where
  whole : take k s ≡ s → Cut k s
  cut : k < length s → length (take k s) ≡ k → Cut k s

cut_or_whole : (k : ℕ) (s : List ℕ) → Cut k s
cut_or_whole k s = by (ltb k (length s)) refl
  where
    by : (t : Bool) → ltb k (length s) ≡ t → Cut k s
    by true e = let h = ltb-true k (length s) e in cut h (length-take-le k s (omega arith))
    by false e = whole (take_all k s (ltb-false k (length s) e))

-- the input: past 32,768 bytes it is refused by 1, however it goes on
module _ (input : List ℕ) where
  long : (s : List ℕ) → 32768 < length s → read_cells s ≡ made_of (refused 1)
  unfolding read_cells
  long s h = ap made_of (sym (whole_long s h))

  input_read : read_cells (take input_bytes input) ≡ read_cells input
  input_read = by (cut_or_whole input_bytes input)
    where
      by : Cut input_bytes input → read_cells (take input_bytes input) ≡ read_cells input
      by (whole e) = ap read_cells e
      by (cut h e) = long (take input_bytes input) (omega arith) ∙ sym (long input (omega arith))

  pub input_enough : (more : List ℕ) (x : Asked) → answered x (take input_bytes input) more ≡ answered x input more
  unfolding answered program_text old_of new_of text_of judge_line judge_answer compare_line compare_answer ruled_of count_line count_for readers_for renumber_of back_for dot_of undot_of
  input_enough more list = rw input_read
  input_enough more old = rw input_read
  input_enough more new = rw input_read
  input_enough more (judge i row) = rw input_read
  input_enough more (compare a b) = rw input_read
  input_enough more (rules expression) = rw input_read
  input_enough more (count i) = rw input_read
  input_enough more (readers i) = rw input_read
  input_enough more renumber = rw input_read
  input_enough more was = rw input_read
  input_enough more back = rw input_read
  input_enough more dot = rw input_read
  input_enough more undot = rw input_read
  input_enough more help = refl
  input_enough more usage = refl

-- a row: past 256 bytes it is refused by 8
module _ (row : List ℕ) where
  row_long : (s : List ℕ) → 256 < length s → row_here s ≡ refused 8
  unfolding row_here refuse_if
  row_long s h = rw (lt-ltb 256 (length s) h)

  row_read : row_here (take word_bytes row) ≡ row_here row
  row_read = by (cut_or_whole word_bytes row)
    where
      by : Cut word_bytes row → row_here (take word_bytes row) ≡ row_here row
      by (whole e) = ap row_here e
      by (cut h e) = row_long (take word_bytes row) (omega arith) ∙ sym (row_long row (omega arith))

-- an expression: past 64 bytes it is refused by 12
module _ (expression : List ℕ) where
  expression_read : (labels : List ℕ) → rules_of labels (take word_bytes expression) ≡ rules_of labels expression
  expression_read labels = by (cut_or_whole word_bytes expression)
    where
      by : Cut word_bytes expression → rules_of labels (take word_bytes expression) ≡ rules_of labels expression
      by (whole e) = ap (rules_of labels) e
      by (cut h e) = sym (rules_long labels (take word_bytes expression) (omega arith)) ∙ rules_long labels expression (omega arith)

  rules_read : (input : List ℕ) → ruled_of (take word_bytes expression) input ≡ ruled_of expression input
  unfolding ruled_of text_by and_then
  rules_read input = by (read_cells input)
    where
      by : (o : Outcome (List ℕ)) → and_then o (text_by (take word_bytes expression)) ≡ and_then o (text_by expression)
      by (refused n) = refl
      by (done cells) = ap (λ (r : Result Rules Refusal). ruled_text r cells) (expression_read (letters_of cells))

-- a query's number has five bytes at most
query_long : (x : ℕ → Asked) (q : List ℕ) → 5 < length q → by_query x q ≡ usage
unfolding query_asked by_query
query_long x q h = by (number_here q) refl
  where
    by : (n : Option (ℕ × ℕ)) → number_here q ≡ n → query_asked x n q ≡ usage
    by (Some (i, w)) e =
        let n = (number_found q i w e).most in
        rw (ne_eqb w (length q) (λ (z : w ≡ length q). omega arith), query_asked)
    by None e = refl

query_cut : (x : ℕ → Asked) (q : List ℕ) → by_query x (take word_bytes q) ≡ by_query x q
query_cut x q = by (cut_or_whole word_bytes q)
  where
    by : Cut word_bytes q → by_query x (take word_bytes q) ≡ by_query x q
    by (whole e) = ap (by_query x) e
    by (cut h e) = query_long x (take word_bytes q) (omega arith) ∙ sym (query_long x q (omega arith))

-- of a word's name
same_cut : (k : ℕ) (a b : List ℕ) → length b < k → same_bytes (take k a) b ≡ same_bytes a b
unfolding same_bytes
same_cut zero a b h = absurd (omega arith)
same_cut (suc k) [] b h = refl
same_cut (suc k) (x ∷ a) [] h = refl
same_cut (suc k) (x ∷ a) (y ∷ b) h = ap (λ (t : Bool). eqb x y && t) (same_cut k a b (omega arith))

module _ (input more : List ℕ) where
  abbrev saying : Asked → Said
  saying x = answered x input more

  judge_row : (i : ℕ) (row : List ℕ) → saying (judge i (take word_bytes row)) ≡ saying (judge i row)
  unfolding answered judge_line judge_answer judge_of
  judge_row i row = rw (row_read row)

  compare_rows_lem : (a b : List ℕ) → saying (compare (take word_bytes a) (take word_bytes b)) ≡ saying (compare a b)
  unfolding answered compare_line compare_answer compare_rows
  compare_rows_lem a b = rw (row_read a, row_read b)

  rules_expression : (expression : List ℕ) → saying (rules (take word_bytes expression)) ≡ saying (rules expression)
  unfolding answered
  rules_expression expression = rw (rules_read expression input)

  query_row_lem : (n : Option (ℕ × ℕ)) (q row : List ℕ) → saying (query_asked (λ i. judge i (take word_bytes row)) n q) ≡ saying (query_asked (λ i. judge i row) n q)
  unfolding query_asked
  query_row_lem None q row = refl
  query_row_lem (Some (i, w)) q row = by (eqb w (length q)) (judge_row i row)
    where
      by : (t : Bool) → saying (judge i (take word_bytes row)) ≡ saying (judge i row)
          → saying (elim t as (λ _. Asked) [ true ↦ judge i (take word_bytes row) | false ↦ usage ]) ≡ saying (elim t as (λ _. Asked) [ true ↦ judge i row | false ↦ usage ])
      by true h = h
      by false h = refl

  query_read : (q row : List ℕ) → saying (judge_asked (take word_bytes q) (take word_bytes row)) ≡ saying (judge_asked q row)
  unfolding judge_asked by_query
  query_read q row = ap saying (query_cut (λ i. judge i (take word_bytes row)) q) ∙ query_row_lem (number_here q) q row

  count_read : (q : List ℕ) → saying (count_asked (take word_bytes q)) ≡ saying (count_asked q)
  unfolding count_asked
  count_read q = ap saying (query_cut count q)

  readers_read : (q : List ℕ) → saying (readers_asked (take word_bytes q)) ≡ saying (readers_asked q)
  unfolding readers_asked
  readers_read q = ap saying (query_cut readers q)

  back_read : (file : List ℕ) → saying (back_asked (take word_bytes file)) ≡ saying (back_asked file)
  unfolding back_asked
  back_read file = refl

  undot_read : (file : List ℕ) → saying (undot_asked (take word_bytes file)) ≡ saying (undot_asked file)
  unfolding undot_asked
  undot_read file = refl

  -- the arguments that are read
  abbrev read : List (List ℕ) → List (List ℕ)
  read given = arguments (length given) (take word_bytes (get_or given 0 [])) (take word_bytes (get_or given 1 []))

  alone_read : (x : Asked) (given : List (List ℕ)) → saying (alone x (read given)) ≡ saying (alone x given)
  unfolding alone arguments
  alone_read x [] = refl
  alone_read x (a ∷ given) = refl

  one_read : (x : List ℕ → Asked) → ((a : List ℕ) → saying (x (take word_bytes a)) ≡ saying (x a))
      → (given : List (List ℕ)) → saying (with_one x (read given)) ≡ saying (with_one x given)
  unfolding with_one arguments
  one_read x e [] = refl
  one_read x e (a ∷ []) = e a
  one_read x e (a ∷ b ∷ given) = refl

  two_read : (x : List ℕ → List ℕ → Asked) → ((a b : List ℕ) → saying (x (take word_bytes a) (take word_bytes b)) ≡ saying (x a b))
      → (given : List (List ℕ)) → saying (with_two x (read given)) ≡ saying (with_two x given)
  unfolding with_two arguments
  two_read x e [] = refl
  two_read x e (a ∷ []) = refl
  two_read x e (a ∷ b ∷ []) = e a b
  two_read x e (a ∷ b ∷ c ∷ given) = refl

  -- one word after the other
  module _ (name : List ℕ) (given : List (List ℕ)) where
    abbrev Enough : List Word → Type 0
    Enough ws = saying (asked_of ws (take word_bytes name) (read given)) ≡ saying (asked_of ws name given)

    one_given : (w : Word) (ws : List Word) → length w.name < word_bytes → saying (w.asks (read given)) ≡ saying (w.asks given) → Enough ws → Enough (w ∷ ws)
    unfolding asked_of
    one_given w ws short here rest = rw (same_cut word_bytes name w.name short, asked_of) (by (same_bytes name w.name))
      where
        by : (t : Bool)
            → saying (elim t as (λ _. Asked) [ true ↦ w.asks (read given) | false ↦ asked_of ws (take word_bytes name) (read given) ])
            ≡ saying (elim t as (λ _. Asked) [ true ↦ w.asks given | false ↦ asked_of ws name given ])
        by true = here
        by false = rest

    words_enough : Enough words
    unfolding words list_word old_word new_word judge_word compare_word rules_word count_word readers_word renumber_word was_word back_word dot_word undot_word help_word last_words later_words asked_of
    words_enough =
        one_given list_word (old_word ∷ new_word ∷ judge_word ∷ compare_word ∷ later_words) (omega arith) (alone_read list given)
        (one_given old_word (new_word ∷ judge_word ∷ compare_word ∷ later_words) (omega arith) (alone_read old given)
        (one_given new_word (judge_word ∷ compare_word ∷ later_words) (omega arith) (alone_read new given)
        (one_given judge_word (compare_word ∷ later_words) (omega arith) (two_read judge_asked query_read given)
        (one_given compare_word later_words (omega arith) (two_read compare compare_rows_lem given)
        (one_given rules_word (count_word ∷ readers_word ∷ last_words) (omega arith) (one_read rules rules_expression given)
        (one_given count_word (readers_word ∷ last_words) (omega arith) (one_read count_asked count_read given)
        (one_given readers_word last_words (omega arith) (one_read readers_asked readers_read given)
        (one_given renumber_word (was_word ∷ back_word ∷ dot_word ∷ undot_word ∷ help_word ∷ []) (omega arith) (alone_read renumber given)
        (one_given was_word (back_word ∷ dot_word ∷ undot_word ∷ help_word ∷ []) (omega arith) (alone_read was given)
        (one_given back_word (dot_word ∷ undot_word ∷ help_word ∷ []) (omega arith) (one_read back_asked back_read given)
        (one_given dot_word (undot_word ∷ help_word ∷ []) (omega arith) (alone_read dot given)
        (one_given undot_word (help_word ∷ []) (omega arith) (one_read undot_asked undot_read given)
        (one_given help_word [] (omega arith) (alone_read help given) refl)))))))))))))

  words_read_lem : (given : List (List ℕ)) → saying (asked (words_read given)) ≡ saying (asked given)
  unfolding asked words_read handed
  words_read_lem [] = refl
  words_read_lem (name ∷ rest) = words_enough name rest

pub read_enough : ReadEnough
unfolding said
read_enough given input more = input_enough input more (asked (words_read given)) ∙ words_read_lem input more given
