-- Laws of lines and of the name in a query's line. Assumes nothing.
use Prim.Native.Nat.{ℕ, zero, suc, ◌+◌, ◌-◌, ◌≤◌, ◌<◌}
use mathlib.Core.Path.{◌≡◌, refl, sym, ap, subst, ◌∙◌}
use mathlib.Core.List.{List, [], ◌∷◌, ◌++◌}
use mathlib.Core.Bool.{Bool, true, false}
use native.Mathlib.Omega.{arith}
use borrow.Author.Tests.{eq-eqb, ne_eqb, lt-ltb, le-ltb, leb-true, leb-false}
use lib.Dec.{eqb, ltb, leb}
use lib.ListN.{length, get_or, take, drop, length-drop, drop_of_length-le}
use Rattle.std.specs.List.{count_by}
use Rattle.std.proofs.Common.{cond}
use Rattle.std.proofs.lemmas.List.Recursion.{is_count_by}
use Rattle.text_field.proofs.NameLaws.{name_parts, name_found}
use Rattle.text_field.proofs.LineLaws.{bare_first, bare_tail, line_told, no_line_told}
use lib.Seq.{drop-drop, drop-length, length-take-le}
use Rattle.std.specs.declared.option.Option.{Option}
use Rattle.std.specs.declared.option.Option.TheVariants.{Some, None}
use Rattle.text_field.specs.Number.{number_here, number_meaning}
use Rattle.text_field.specs.Name.{name_here, name_placed, name_meaning}
use Rattle.text_field.specs.Bytes.{is_capital, is_lower}
use Rattle.text_field.specs.Lines.{line_placed, line_here, no_lf}
use Rattle.graph_file.specs.declared.reader.Part.{Part}
use Rattle.graph_file.specs.declared.sought.NamePlace.{NamePlace}
use Rattle.graph_rows.specs.Format.{Item, byte, field, state, scope, mark, count, letter, label, end, name, kind, plain, turn, shape_at, query_section}
use Rattle.text_field.specs.Outcome.{Outcome, refused, done, and_then}
use Rattle.graph_file.specs.Line.{Reading, number_taken, name_taken, byte_taken, end_taken, read_field, read_item}
use Rattle.graph_rows.specs.Way.{starts_with, Stage}
use Rattle.graph_rows.specs.Admission.{place}
use Rattle.graph_file.specs.File.{form_of, read_stage}
use Rattle.graph_rows.specs.Table.{sofar_at}
use Rattle.graph_file.specs.Reader.{stage_at}
use Rattle.graph_file.specs.NameSought.{after_lines, line_count, name_part, rest_of, is_name_field, from_name, query_from, from_within, from_sought, name_front, name_sought, place_from, place_sought}
use Rattle.graph_file.specs.Sought.{SoughtThere}

-- a byte more
pub count_step : (b : ℕ) (s : List ℕ) → line_count (b ∷ s) ≡ line_count (b ∷ []) + line_count s
unfolding line_count
count_step b s = by_byte (eqb b 10)
  where
    by_byte : (t : Bool) → (elim t as (λ _. ℕ) [ true ↦ suc (line_count s) | false ↦ line_count s ])
        ≡ (elim t as (λ _. ℕ) [ true ↦ suc 0 | false ↦ 0 ]) + line_count s
    by_byte true = omega arith
    by_byte false = omega arith

pub count_end : (b : ℕ) → b ≡ 10 → 1 ≡ line_count (b ∷ [])
unfolding line_count
count_end b e = rw (eq-eqb b 10 e, line_count)

pub count_other : (b : ℕ) → (b ≡ 10 → ⊥) → 0 ≡ line_count (b ∷ [])
unfolding line_count
count_other b e = rw (ne_eqb b 10 e, line_count)

pub after_zero : (s : List ℕ) → after_lines 0 s ≡ s
unfolding after_lines
after_zero s = refl

pub after_step : (k b : ℕ) (s : List ℕ) → (k ≡ 0 → ⊥) → after_lines k (b ∷ s) ≡ after_lines (k - line_count (b ∷ [])) s
unfolding after_lines line_count
after_step zero b s h = absurd (h refl)
after_step (suc k) b s h = by_byte (eqb b 10)
  where
    by_byte : (t : Bool) → (elim t as (λ _. List ℕ) [ true ↦ after_lines k s | false ↦ after_lines (suc k) s ])
        ≡ after_lines (suc k - (elim t as (λ _. ℕ) [ true ↦ suc 0 | false ↦ 0 ])) s
    by_byte true = let e : k ≡ suc k - 1 = omega arith in ap (λ (n : ℕ). after_lines n s) e
    by_byte false = let e : suc k ≡ suc k - 0 = omega arith in ap (λ (n : ℕ). after_lines n s) e

pub placed_name : (x : Option (ℕ × ℕ × ℕ)) (at h l a : ℕ) → Some (h, l, a) ≡ name_placed at x → (w : ℕ) × (x ≡ Some (h, l, w)) × (a ≡ at + w)
unfolding name_placed
placed_name (Some (h', l', w)) at h l a e =
    let o = name_parts h l a h' l' (at + w) e
    in (w, rw (o.high, o.low), o.next)
placed_name None at h l a e = absurd (let z : ◌≡◌ {A = ℕ} 0 1 = cc in omega arith)

pub unplaced_name : (x : Option (ℕ × ℕ × ℕ)) (at : ℕ) → None ≡ name_placed at x → x ≡ None
unfolding name_placed
unplaced_name (Some (h, l, w)) at e = absurd (let z : ◌≡◌ {A = ℕ} 0 1 = cc in omega arith)
unplaced_name None at e = refl

-- an empty last part stands at the end
at_end : (s x : List ℕ) → x ≡ [] → length s ≡ length s - length x
at_end s x e = let z : length x ≡ 0 = ap length e in omega (arith, z)

-- the name at a place
pub no_name_there : (s : List ℕ) (at : ℕ) → None ≡ name_placed at (name_here (drop at s)) → at ≡ at + length (name_front (drop at s))
unfolding name_front name_part
no_name_there s at e =
    let z : length (name_front (drop at s)) ≡ 0 = ap (λ (x : Option (ℕ × ℕ × ℕ)). length (name_part x (drop at s))) (unplaced_name _ at e)
    in omega (arith, z)

pub name_there : (s : List ℕ) (at high low after : ℕ) → Some (high, low, after) ≡ name_placed at (name_here (drop at s)) → after ≡ at + length (name_front (drop at s))
unfolding name_front name_part
name_there s at high low after e =
    let p = placed_name (name_here (drop at s)) at high low after e
    in let k = name_found (drop at s) high low p.0 p.1
    in p.2 ∙ ap (λ (n : ℕ). at + n) (sym (ap (λ (x : Option (ℕ × ℕ × ℕ)). length (name_part x (drop at s))) p.1 ∙ length-take-le p.0 (drop at s) k.inside))

-- as many lines as bytes that end one
pub count_ends : (t : List ℕ) → line_count t ≡ count_by (λ b. eqb b 10) t
unfolding line_count
count_ends t = is_count_by line_count (λ b. eqb b 10) refl step t
  where
    step : (b : ℕ) (s : List ℕ) → line_count (b ∷ s) ≡ cond (eqb b 10) (1 + line_count s) (line_count s)
    step b s = by (eqb b 10)
      where
        by : (t : Bool) → (elim t as (λ _. ℕ) [ true ↦ suc (line_count s) | false ↦ line_count s ]) ≡ cond t (1 + line_count s) (line_count s)
        by true = omega arith
        by false = refl

-- for the loop over a text's lines
pub after_stop : (k : ℕ) (s x : List ℕ) → k ≡ 0 → after_lines k s ≡ x → s ≡ x
after_stop k s x h e = sym (after_zero s) ∙ ap (λ (n : ℕ). after_lines n s) (sym h) ∙ e

-- a line is passed, or there is none
line_passed : (n : ℕ) (line rest : List ℕ) → no_lf line ≡ true → after_lines (suc n) (line ++ (10 ∷ rest)) ≡ after_lines n rest
unfolding after_lines
line_passed n [] rest b = refl
line_passed n (x ∷ line) rest b = rw (ne_eqb x 10 (bare_first x line b), after_lines) (line_passed n line rest (bare_tail x line b))

none_passed : (n : ℕ) (s : List ℕ) → no_lf s ≡ true → after_lines (suc n) s ≡ []
unfolding after_lines
none_passed n [] b = refl
none_passed n (x ∷ s) b = rw (ne_eqb x 10 (bare_first x s b), after_lines) (none_passed n s (bare_tail x s b))

module _ (k : ℕ) (more : 0 < k) (t : List ℕ) (at : ℕ) (x : List ℕ) (left : after_lines k (drop at t) ≡ x) where
  one_more_lem : k ≡ suc (k - 1)
  one_more_lem = omega arith

  pub after_line : (stop next : ℕ) → Some (stop, next) ≡ line_placed at (line_here (drop at t)) → after_lines (k - 1) (drop next t) ≡ x
  after_line stop next e =
      let l = (line_told t at stop next).0 (sym e) in
      sym (line_passed (k - 1) (take (stop - at) (drop at t)) (drop next t) l.bare)
      ∙ ap (after_lines (suc (k - 1))) (sym l.whole)
      ∙ ap (λ (n : ℕ). after_lines n (drop at t)) (sym one_more_lem) ∙ left

  pub after_last_line : None ≡ line_placed at (line_here (drop at t)) → drop (length t) t ≡ x
  after_last_line e =
      drop-length t
      ∙ sym (none_passed (k - 1) (drop at t) ((no_line_told t at).0 (sym e)))
      ∙ ap (λ (n : ℕ). after_lines n (drop at t)) (sym one_more_lem) ∙ left

-- What is left after an item, after lines, from a name on, is a last part of the text: the text
-- from some place on.
abbrev LastOf : List ℕ → List ℕ → Type 0
LastOf x s = (w : ℕ) × (x ≡ drop w s)

none_last : (s : List ℕ) → LastOf [] s
none_last s = (length s, sym (drop-length s))

last_trans : (x y s : List ℕ) → LastOf x y → LastOf y s → LastOf x s
last_trans x y s (v, e) (w, f) = (w + v, e ∙ ap (drop v) f ∙ drop-drop v w s)

number_last : (x : Option (ℕ × ℕ)) (t : List ℕ) → LastOf (rest_of (number_taken x t)) t
unfolding rest_of number_taken number_meaning and_then
number_last (Some (v, w)) t = (w, refl)
number_last None t = none_last t

name_last : (x : Option (ℕ × ℕ × ℕ)) (t : List ℕ) → LastOf (rest_of (name_taken x t)) t
unfolding rest_of name_taken name_meaning and_then
name_last (Some (h, l, w)) t = (w, refl)
name_last None t = none_last t

byte_last : (b : Bool) (v : ℕ) (t : List ℕ) → LastOf (rest_of (byte_taken b v t)) t
unfolding rest_of byte_taken
byte_last true v t = (1, refl)
byte_last false v t = none_last t

end_last : (ls : List ℕ) (x : ℕ) (t : List ℕ) → LastOf (rest_of (end_taken ls x t)) t
unfolding end_taken
end_last ls x t = by_mark (eqb x 36)
  where
    by_mark : (b : Bool) → LastOf (rest_of (elim b as (λ _. Outcome Reading) [ true ↦ byte_taken true 0 t | false ↦ byte_taken (is_capital x) (suc (place x ls)) t ])) t
    by_mark true = byte_last true 0 t
    by_mark false = byte_last (is_capital x) (suc (place x ls)) t

item_last : (i : Item) (t : List ℕ) → LastOf (rest_of (read_item [] i t)) t
unfolding read_item read_field rest_of
item_last (byte b) t = by_byte (starts_with b t)
  where
    by_byte : (z : Bool) → LastOf (rest_of (elim z as (λ _. Outcome Reading) [ true ↦ done (record { values = []; rest = drop 1 t }) | false ↦ refused 2 ])) t
    by_byte true = (1, refl)
    by_byte false = none_last t
item_last (field state c) t = number_last (number_here t) t
item_last (field scope c) t = number_last (number_here t) t
item_last (field mark c) t = number_last (number_here t) t
item_last (field count c) t = number_last (number_here t) t
item_last (field letter c) t = byte_last (is_capital (get_or t 0 0)) (get_or t 0 0) t
item_last (field label c) t = byte_last (is_capital (get_or t 0 0)) (place (get_or t 0 0) []) t
item_last (field end c) t = end_last [] (get_or t 0 0) t
item_last (field name c) t = name_last (name_here t) t
item_last (field kind c) t = byte_last (is_lower (get_or t 0 0)) (get_or t 0 0) t
item_last (field plain c) t = (0, refl)
item_last (field turn c) t = number_last (number_here t) t

from_last : (items : List Item) (t : List ℕ) → LastOf (from_name items t) t
unfolding from_name
from_last [] t = none_last t
from_last (i ∷ items) t = by_item (from_last items (rest_of (read_item [] i t))) (is_name_field i)
  where
    by_item : LastOf (from_name items (rest_of (read_item [] i t))) (rest_of (read_item [] i t)) → (b : Bool) → LastOf (elim b as (λ _. List ℕ) [ true ↦ t | false ↦ from_name items (rest_of (read_item [] i t)) ]) t
    by_item l true = (0, refl)
    by_item l false = last_trans _ (rest_of (read_item [] i t)) t l (item_last i t)

after_last : (n : ℕ) (t : List ℕ) → LastOf (after_lines n t) t
unfolding after_lines
after_last zero t = (0, refl)
after_last (suc n) [] = (0, refl)
after_last (suc n) (x ∷ t) = by_byte (after_last n t) (after_last (suc n) t) (eqb x 10)
  where
    by_byte : LastOf (after_lines n t) t → LastOf (after_lines (suc n) t) t → (b : Bool) → LastOf (elim b as (λ _. List ℕ) [ true ↦ after_lines n t | false ↦ after_lines (suc n) t ]) (x ∷ t)
    by_byte l m true = last_trans _ t (x ∷ t) l (1, refl)
    by_byte l m false = last_trans _ t (x ∷ t) m (1, refl)

line_last : (form n : ℕ) (t : List ℕ) → LastOf (from_name (shape_at form query_section).row (after_lines n t)) t
line_last form n t = last_trans _ (after_lines n t) t (from_last (shape_at form query_section).row (after_lines n t)) (after_last n t)

query_last : (form n : ℕ) (text : List ℕ) (q : ℕ) → LastOf (query_from form n text q) text
unfolding query_from
query_last form n text q = by_test (ltb q n)
  where
    by_test : (b : Bool) → LastOf (elim b as (λ _. List ℕ) [ true ↦ from_name (shape_at form query_section).row (after_lines (line_count text - n + q) text) | false ↦ [] ]) text
    by_test true = line_last form (line_count text - n + q) text
    by_test false = none_last text

within_last : (o : Outcome Stage) (text : List ℕ) (q : ℕ) → LastOf (from_within o text q) text
unfolding from_within
within_last (refused n) text q = none_last text
within_last (done g) text q = query_last (form_of text) g.sofar.rows text q

sought_last : (text : List ℕ) (q : ℕ) → LastOf (from_sought text q) text
unfolding from_sought
sought_last text q = within_last (read_stage text) text q

-- a last part is the text from its place on
last_place_lem : (x s : List ℕ) → LastOf x s → drop (length s - length x) s ≡ x
last_place_lem x s (w, e) = by_place (leb w (length s)) refl
  where
    long : length x ≡ length s - w
    long = ap length e ∙ length-drop w s

    by_place : (b : Bool) → leb w (length s) ≡ b → drop (length s - length x) s ≡ x
    by_place true t = let z : length s - length x ≡ w = omega (arith, long, leb-true w (length s) t) in ap (λ (n : ℕ). drop n s) z ∙ sym e
    by_place false t =
        let h : length s < w = leb-false w (length s) t
        in let z : length s - length x ≡ length s = omega (arith, long, h)
        in ap (λ (n : ℕ). drop n s) z ∙ drop-length s ∙ sym (e ∙ drop_of_length-le s {i = w} (omega (arith, h)))

front_within : (x : List ℕ) → (take (length (name_front x)) x ≡ name_front x) × (length (name_front x) ≤ length x)
unfolding name_front name_part
front_within x = by_name (name_here x) refl
  where
    by_name : (r : Option (ℕ × ℕ × ℕ)) → name_here x ≡ r → (take (length (name_part r x)) x ≡ name_part r x) × (length (name_part r x) ≤ length x)
    by_name (Some (h, l, w)) e =
        let k = name_found x h l w e
        in let z : length (take w x) ≡ w = length-take-le w x k.inside
        in (ap (λ (n : ℕ). take n x) z, subst (λ (n : ℕ). n ≤ length x) (sym z) k.inside)
    by_name None e = (refl, omega arith)

-- a place by its two numbers
pub same_place : (p : NamePlace) (a b : ℕ) → (a ≡ p.from) × (b ≡ p.to) → record { from = a; to = b } ≡ p
same_place p a b (e, f) = rw (e, f) refl

-- the answer of the search for a name in a line
pub place_after : (form : ℕ) (s : List ℕ) (n k from to : ℕ) → drop k s ≡ after_lines n s → from ≡ length s - length (from_name (shape_at form query_section).row (drop k s)) → to ≡ from + length (name_front (drop from s))
    → record { from = from; to = to } ≡ place_from s (from_name (shape_at form query_section).row (after_lines n s))
unfolding place_from
place_after form s n k from to d e f =
    let x = from_name (shape_at form query_section).row (after_lines n s)
    in let z : from ≡ length s - length x = e ∙ ap (λ (y : List ℕ). length s - length (from_name (shape_at form query_section).row y)) d
    in let y : drop from s ≡ x = ap (λ (m : ℕ). drop m s) z ∙ last_place_lem x s (line_last form n s)
    in same_place (place_from s x) from to (z, f ∙ ap (λ (y : List ℕ). from + length (name_front y)) y ∙ ap (λ (m : ℕ). m + length (name_front x)) z)

-- The part of the text at the place sought is the name sought.
pub sought_there : SoughtThere
unfolding place_sought place_from name_sought
sought_there text q =
    let x = from_sought text q
    in let l = sought_last text q
    in let d : drop (length text - length x) text ≡ x = last_place_lem x text l
    in let k = front_within x
    in let z : length text - length x + length (name_front x) - (length text - length x) ≡ length (name_front x) = omega arith
    in let b : length x ≡ length text - l.0 = ap length l.1 ∙ length-drop l.0 text
    in (ap (λ (n : ℕ). take n (drop (length text - length x) text)) z ∙ ap (take (length (name_front x))) d ∙ k.0, (omega arith, omega (arith, k.1, b)))

-- the whole answer: the text's end where the file or the query's number is refused
pub nowhere : (text x : List ℕ) → x ≡ [] → (length text ≡ (place_from text x).from) × (length text ≡ (place_from text x).to)
unfolding place_from name_front name_part name_here
nowhere text x e =
    let z : length text ≡ length text - length x = at_end text x e
    in let y : length (name_front x) ≡ 0 = ap (λ (u : List ℕ). length (name_front u)) e
    in (z, z ∙ omega (arith, y))

-- after a refusal there is no query to look for
pub file_refused : (text : List ℕ) (q n : ℕ) → refused n ≡ read_stage text → (length text ≡ (place_sought text q).from) × (length text ≡ (place_sought text q).to)
unfolding from_sought from_within place_sought
file_refused text q n e = nowhere text (from_sought text q) (rw (← e))

module _ (r : Part) (table text : List ℕ) (q : ℕ) (e : done (stage_at table r.cells r.counts (drop r.next text)) ≡ read_stage text) where
  file_read : from_sought text q ≡ query_from (form_of text) r.counts.rows text q
  unfolding from_sought from_within stage_at sofar_at
  file_read = rw (← e)

  pub query_refused : r.counts.rows ≤ q → (length text ≡ (place_sought text q).from) × (length text ≡ (place_sought text q).to)
  unfolding query_from place_sought
  query_refused k = nowhere text (from_sought text q) (file_read ∙ rw (le-ltb q r.counts.rows k, query_from))

  pub query_read : q < r.counts.rows → (k : ℕ) → k ≡ line_count text - r.counts.rows + q
      → place_from text (from_name (shape_at (form_of text) query_section).row (after_lines k text)) ≡ place_sought text q
  unfolding query_from place_sought
  query_read l k z = ap (place_from text) (sym (file_read ∙ rw (lt-ltb q r.counts.rows l, query_from, z)))
