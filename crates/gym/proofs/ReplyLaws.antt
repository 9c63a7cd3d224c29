-- A reply's text, put whole. Assumes nothing.
use Prim.Native.Nat.{ℕ, ◌≤◌, ◌<◌, ◌^◌}
use mathlib.Core.Path.{◌≡◌, refl, sym, ap, ◌∙◌}
use mathlib.Core.Bool.{Bool, true, false}
use mathlib.Core.List.{List, [], ◌∷◌, ◌++◌, flat_map}
use native.Mathlib.Omega.{arith}
use lib.Dec.{ltb}
use lib.ListN.{length, length-append, take}
use borrow.Author.Tests.{ltb-false}
use Rattle.scope_graph.specs.Agree.{Judgement, as_visible, as_shadowed, as_unreached}
use Rattle.text_field.specs.Buffer.{Buf, puts}
use Rattle.text_field.specs.Number.{number_text}
use Rattle.text_field.specs.Outcome.{Outcome, refused, done, and_then}
use Rattle.text_field.specs.Answer.{answer, leaves, answer_of}
use Rattle.std.specs.declared.result.Result.{Result}
use Rattle.std.specs.declared.result.Result.TheVariants.{Ok, Err}
use Rattle.text_field.specs.declared.refusal.Refusal.{Refusal}
use Rattle.text_field.specs.Refusal.{number_of}
use Rattle.text_field.proofs.RefusalLaws.{number_below}
use Rattle.text_field.proofs.OutcomeLaws.{not_done}
use Rattle.text_field.proofs.NumberLaws.{length_below}
use Rattle.text_field.proofs.AnswerLaws.{answer_refused}
use Rattle.printing.specs.Printed.{refused_line, in_place}
use Rattle.printing.specs.Parts.{answered as answered_in, numbered}
use Rattle.printing.proofs.Laws.{refused_short, in_place_lem, done_fits, Stands, stands}
use Rattle.comparison.specs.Compare.{Comparison, first, second, neither, Told, as_told, compare_answer}
use Rattle.judge.specs.Judge.{judge_answer}
use Rattle.beginnings.specs.Beginnings.{count_for}
use Rattle.gym.specs.declared.words.Reply.{Reply}
use Rattle.gym.specs.declared.words.Reply.TheVariants.{Old, New, Judge, Compare, Rules, Count, Readers, Renumber, Was, Back, Dot, Undot, Help, Usage}
use Rattle.gym.specs.declared.words.Command.{Command}
use Rattle.gym.specs.declared.replies.Given.{Given}
use Rattle.gym.specs.declared.replies.Stream.{Stream}
use Rattle.gym.specs.declared.replies.Stream.TheVariants.{Out}
use Rattle.gym.specs.Text.{bytes, spaces, padded}
use Rattle.gym.specs.Words.{Asked, list_word, old_word, new_word, judge_word, compare_word, rules_word, count_word, readers_word, renumber_word, was_word, back_word, dot_word, undot_word, help_word, last_words, later_words, words, asked}
use Rattle.gym.specs.Said.{Said, spoken, reply_room, line_of, counted, standing_name, which_name, comparison_name, judge_line, compare_line, count_line, usage_line, usage_text, answered, said}
use Rattle.gym.specs.Handed.{Replied, reply_meaning, reply_said, meaning}

-- a short text as a line
pub short_replied : (text lent left : List ℕ) (size : ℕ) → length text ≤ 32 → ◌≡◌ {A = Buf} (left, size) (puts (lent, 0) (text ++ (10 ∷ []))) → Replied lent left size (text ++ (10 ∷ []))
short_replied text lent left size short h = let l = length-append text (10 ∷ []) in record { written = h; fits = omega arith }

-- an answer's line, or its refusal's
module _ {A : Type 0} (name : A → List ℕ) (o : Outcome A) (lent left : List ℕ) (size : ℕ) where
  pub line_replied : (a : A) → o ≡ done a → Replied lent left size (name a ++ (10 ∷ [])) → Replied lent left size (in_place reply_room (line_of name o))
  unfolding line_of and_then
  line_replied a e h = let f = h.fits in rw (e, done_fits reply_room (name a ++ (10 ∷ [])) f) h

  pub refused_replied : (n : ℕ) → n < 18446744073709551616 → o ≡ refused n → ◌≡◌ {A = Buf} (left, size) (puts (lent, 0) (refused_line n))
      → Replied lent left size (in_place reply_room (line_of name o))
  unfolding line_of and_then in_place
  refused_replied n b e h =
      let s = refused_short n b in
      rw e (record { written = h; fits = omega arith })

-- an outcome refused by a number that is told of the refusal
pub refused_by : {A : Type 0} {o : Outcome A} {n m : ℕ} → n ≡ m → o ≡ refused m → o ≡ refused n
refused_by e f = f ∙ ap refused (sym e)

-- the number of a refusal that was answered is small
number_small : (a : Result ℕ Refusal) (n : ℕ) → answer_of a ≡ refused n → n < 20
unfolding answer_of
number_small (Err r) n e = let k : number_of r ≡ n = cc in let f = number_below r in omega arith
number_small (Ok m) n e = absurd (not_done n m (sym e))

-- a text with the room of a reply, or its refusal's line, fits that room
place_fits : (o : Outcome (List ℕ)) → ((n : ℕ) → o ≡ refused n → n < 20) → length (in_place reply_room o) ≤ reply_room
unfolding in_place
place_fits (refused n) small = let k = small n refl in let s = refused_short n (omega arith) in omega arith
place_fits (done text) small = by (ltb reply_room (length text)) refl
  where
    by : (t : Bool) → ltb reply_room (length text) ≡ t → length (in_place reply_room (done text)) ≤ reply_room
    by true t = let s = refused_short 9 (omega arith) in rw (t, in_place) (omega arith)
    by false t = rw (t, in_place) (ltb-false reply_room (length text) t)

-- what the library answered and wrote where a reply's room was lent, or the line of its refusal
module _ (o : Outcome (List ℕ)) (a : Result ℕ Refusal) (lent mid left : List ℕ) (size : ℕ) where
  pub answer_replied : length lent ≡ reply_room → answer_of a ≡ answer o (length lent) → mid ≡ leaves o lent → ◌≡◌ {A = Buf} (left, size) (answered_in (numbered a) mid) → Replied lent left size (in_place reply_room o)
  answer_replied room e l put =
      record {
        written = in_place_lem a lent mid (left, size) put o e l ∙ ap (λ (n : ℕ). puts (lent, 0) (in_place n o)) room;
        fits = place_fits o (λ n f. number_small a n (e ∙ sym (answer_refused o n (length lent) f)));
      }

-- the names of answers, and the usage text
digits_few : (n : ℕ) → n < 18446744073709551616 → length (number_text n) ≤ 20
digits_few n h = length_below 19 n (let z : 10 ^ 20 ≡ 100000000000000000000 = refl in rw z (omega arith))

pub number_short : (n : ℕ) → n < 18446744073709551616 → length (number_text n) ≤ 32
number_short n h = let d = digits_few n h in omega arith

counted_short : (name : List ℕ) (n : ℕ) → length name ≤ 9 → n < 18446744073709551616 → length (counted name n) ≤ 32
unfolding counted
counted_short name n few h =
    let d = digits_few n h in
    let l = length-append name (32 ∷ number_text n) in
    omega arith

pub shadowed_short : (n : ℕ) → n < 18446744073709551616 → length (standing_name (as_shadowed n)) ≤ 32
unfolding standing_name
shadowed_short n h = counted_short (bytes "shadowed") n (omega arith) h

pub visible_short : length (standing_name as_visible) ≤ 32
unfolding standing_name
visible_short = omega arith

pub unreached_short : length (standing_name as_unreached) ≤ 32
unfolding standing_name
unreached_short = omega arith

which_short : (c : Comparison) → length (which_name c) ≤ 9
unfolding which_name
which_short first = omega arith
which_short second = omega arith
which_short neither = omega arith

pub comparison_short : (c : Comparison) (n : ℕ) → n < 18446744073709551616 → length (comparison_name (as_told c n)) ≤ 32
unfolding comparison_name
comparison_short c n h = counted_short (which_name c) n (which_short c) h

pub usage_replied : (lent left : List ℕ) (size : ℕ) → ◌≡◌ {A = Buf} (left, size) (puts (lent, 0) usage_text) → Replied lent left size usage_text
unfolding usage_text flat_map words usage_line padded spaces list_word old_word new_word judge_word compare_word rules_word count_word readers_word renumber_word was_word back_word dot_word undot_word help_word last_words later_words
usage_replied lent left size h = record { written = h; fits = omega arith }

-- a reply by what was computed for it
module _ (lent left : List ℕ) (size : ℕ) where
  pub judge_replied : (text : List ℕ) (i : ℕ) (row : List ℕ) (o : Outcome Judgement) → o ≡ judge_answer text i row 63 → Replied lent left size (in_place reply_room (line_of standing_name o)) → Replied lent left size (in_place reply_room (judge_line text i row))
  unfolding judge_line
  judge_replied text i row o e h = rw (sym e) h

  pub compare_replied : (text a b : List ℕ) (o : Outcome Told) → o ≡ compare_answer text a b 63 63 → Replied lent left size (in_place reply_room (line_of comparison_name o)) → Replied lent left size (in_place reply_room (compare_line text a b))
  unfolding compare_line
  compare_replied text a b o e h = rw (sym e) h

  pub count_replied : (text : List ℕ) (i : ℕ) (o : Outcome ℕ) → o ≡ count_for text i → Replied lent left size (in_place reply_room (line_of number_text o)) → Replied lent left size (in_place reply_room (count_line text i))
  unfolding count_line
  count_replied text i o e h = rw (sym e) h

  -- of what is asked for
  pub reply_is : (q r : Reply) (g : Given) → q ≡ r → Replied lent left size (reply_said r g).text → Replied lent left size (reply_said q g).text
  reply_is q r g e h = rw e h

-- the usage text alone is a complaint
pub others_out : (q : Reply) → (q ≡ Usage → ⊥) → (a b text more : List ℕ) → Out ≡ (answered (reply_meaning q a b) text more).on
unfolding answered reply_meaning
others_out Old e a b text more = refl
others_out New e a b text more = refl
others_out (Judge i) e a b text more = refl
others_out Compare e a b text more = refl
others_out Rules e a b text more = refl
others_out (Count i) e a b text more = refl
others_out (Readers i) e a b text more = refl
others_out Renumber e a b text more = refl
others_out Was e a b text more = refl
others_out Back e a b text more = refl
others_out Dot e a b text more = refl
others_out Undot e a b text more = refl
others_out Help e a b text more = refl
others_out Usage e a b text more = absurd (e refl)

-- A reply in a buffer of its room is all that is said: the piece is due, and as long as that.
module _ (due : Said) (lent left : List ℕ) (size : ℕ) (room : length lent ≡ reply_room) (h : Replied lent left size due.text) where
  pub reply_stands : Stands due.text left size
  reply_stands = let f = h.fits in stands due.text lent left size h.written (omega arith)

  pub reply_due : (on : Stream) → on ≡ due.on → spoken on (take size left) ≡ due
  reply_due on e = ap (λ (t : List ℕ). spoken on t) reply_stands.whole ∙ ap (λ (x : Stream). spoken x due.text) e

-- what is said, by the command that the words are
pub said_is : (given : List (List ℕ)) (input more a b : List ℕ) (r x : Command) → r ≡ x → meaning r a b ≡ asked given
    → said given input more ≡ answered (meaning x a b) input more
unfolding said
said_is given input more a b r x e h =
    ap (λ (y : Asked). answered y input more) (sym h) ∙ ap (λ (y : Command). answered (meaning y a b) input more) e
