-- The promises of reading a drawing. Assumes nothing.
use Prim.Native.Nat.{ℕ}
use mathlib.Core.Path.{◌≡◌, refl, sym, ap, ◌∙◌}
use mathlib.Core.Bool.{Bool, true, false, not}
use mathlib.Core.List.{List, [], ◌∷◌}
use lib.Dec.{eqb}
use Rattle.text_field.specs.Outcome.{Outcome, refused, done, and_then, refuse_if}
use Rattle.text_field.proofs.OutcomeLaws.{done_same, not_done}
use Rattle.dot_text.specs.Tokens.{is_blank, digraph, scopes_word, open_brace}
use Rattle.dot_text.specs.Grammar.{Drawing, Drawn}
use Rattle.dot_text.specs.Reading.{past_blanks, past_bytes, fixed_next, past_comment, past_blank, head_next, scopes_next, edges_next, ends_next, Places, places_in, parts_of, drawn_at, drawn}
use Rattle.dot_text.specs.Promises.{DrawnIs, OneMeaning, Eighteen}
use Rattle.dot_text.proofs.GrammarLaws.{read_drawn, drawn_read}

pub drawn_is : DrawnIs
drawn_is text d = (read_drawn text d, drawn_read text d)

pub one_meaning : OneMeaning
one_meaning text d e p q = done_same d e (sym (drawn_read text d p) ∙ drawn_read text e q)

-- an outcome is refused by no other number than 18
abbrev Only : {A : Type 0} → Outcome A → Type 0
Only {A} o = (n : ℕ) → o ≡ refused n → n ≡ 18

refused_same : {A : Type 0} (m n : ℕ) → ◌≡◌ {A = Outcome A} (refused m) (refused n) → m ≡ n
refused_same m n e = cc

only_then : {A B : Type 0} (o : Outcome A) (next : A → Outcome B) → Only o → ((a : A) → Only (next a)) → Only (and_then o next)
unfolding and_then
only_then {A} {B} (refused m) next a b n e = sym (refused_same {A = B} m n e) ∙ a m refl
only_then (done x) next a b n e = b x n e

only_refused : {A : Type 0} → Only {A = A} (refused 18)
only_refused {A} n e = sym (refused_same {A = A} 18 n e)

only_done : {A : Type 0} (a : A) → Only (done a)
only_done a n e = absurd (not_done n a (sym e))

bytes_only : (bytes s : List ℕ) → Only (past_bytes bytes s)
unfolding past_bytes
bytes_only [] s = only_done s
bytes_only (b ∷ bytes) [] = only_refused
bytes_only (b ∷ bytes) (x ∷ s) = by (eqb x b) (bytes_only bytes s)
  where
    by : (t : Bool) → Only (past_bytes bytes s) → Only {A = List ℕ} (elim t as (λ _. Outcome (List ℕ)) [ true ↦ past_bytes bytes s | false ↦ refused 18 ])
    by true so = so
    by false so = only_refused

blank_only : (s : List ℕ) → Only (past_blank s)
unfolding past_blank
blank_only [] = only_refused
blank_only (x ∷ s) = by (is_blank x)
  where
    by : (t : Bool) → Only {A = List ℕ} (elim t as (λ _. Outcome (List ℕ)) [ true ↦ done s | false ↦ refused 18 ])
    by true = only_done s
    by false = only_refused

fixed_only : (bytes s : List ℕ) → Only (fixed_next bytes s)
unfolding fixed_next
fixed_only bytes s = bytes_only bytes (past_blanks s)

head_only : (s : List ℕ) → Only (head_next s)
unfolding head_next
head_only s =
    only_then (fixed_next digraph s) _ (fixed_only digraph s)
    (λ a. only_then (past_blank a) _ (blank_only a) (λ b. only_then (fixed_next scopes_word b) _ (fixed_only scopes_word b) (λ c. fixed_only open_brace c)))

places_only : (s : List ℕ) → Only (places_in s)
unfolding places_in refuse_if
places_only s = by (not (ends_next (edges_next (scopes_next s).rest).rest))
  where
    by : (t : Bool) → Only {A = Places} (refuse_if t 18 (done (record { scopes = s; edges = (scopes_next s).rest })))
    by true = only_refused
    by false = only_done _

drawn_only : (text : List ℕ) → Only (drawn text)
unfolding drawn parts_of
drawn_only text =
    only_then (parts_of text) (λ p. done (drawn_at p)) (only_then (head_next (past_comment text)) places_in (head_only (past_comment text)) places_only)
    (λ p. only_done (drawn_at p))

pub eighteen : Eighteen
eighteen = record { outside = λ text. (λ e d g. not_done 18 d (sym e ∙ drawn_read text d g), outside text); only = drawn_only }
  where
    outside : (text : List ℕ) → ((d : Drawing) → ¬ Drawn text d) → drawn text ≡ refused 18
    outside text none = by (drawn text) refl
      where
        by : (o : Outcome Drawing) → drawn text ≡ o → o ≡ refused 18
        by (refused n) e = ap refused (drawn_only text n e)
        by (done d) e = absurd (none d (read_drawn text d e))
