-- Laws of reading a line. Assumes nothing.
use Prim.Native.Nat.{ℕ, suc, ◌+◌, ◌-◌, ◌/◌, ◌%◌, ◌≤◌, ◌<◌}
use mathlib.Core.Path.{◌≡◌, refl, sym, ap, ◌∙◌}
use mathlib.Core.List.{List, [], ◌∷◌}
use mathlib.Core.Bool.{Bool, true, false}
use native.Mathlib.Omega.{arith}
use lib.Dec.{eqb, ltb}
use Rattle.std.specs.Bool.{then_some}
use lib.ListN.{length, get_or, drop, set, drop_of_length-le}
use lib.Seq.{drop-drop, sets, length-sets, get_or-drop, drop-cons}
use Rattle.std.specs.declared.option.Option.{Option}
use Rattle.std.specs.declared.option.Option.TheVariants.{Some, None}
use Rattle.std.proofs.lemmas.Option.{some_pair_parts}
use Rattle.text_field.proofs.NameLaws.{name_parts}
use Rattle.text_field.specs.Number.{number_placed, number_meaning, number_here}
use Rattle.text_field.specs.Name.{name_placed, name_meaning}
use Rattle.graph_file.specs.declared.line.Taken.{Taken}
use Rattle.graph_file.specs.declared.line.Taken.TheVariants.{One, Two}
use Rattle.graph_file.specs.declared.line.Line.{Line}
use Rattle.graph_rows.specs.Format.{Content, Item, byte, field}
use Rattle.text_field.specs.Outcome.{Outcome, refused, done, and_then}
use native.Mathlib.Nat.{add-zero}
use native.Mathlib.Numerals.{add-one}
use borrow.Author.Tests.{eq-eqb, ne_eqb, ltb-true, ltb-false}
use Rattle.text_field.specs.Bytes.{is_capital}
use Rattle.graph_rows.specs.Admission.{Row, place}
use Rattle.graph_file.specs.Line.{Reading, number_taken, name_taken, byte_taken, end_taken, read_field, read_item, place_of, read_items}
use Rattle.graph_rows.specs.Way.{starts_with}
use Rattle.graph_rows.specs.Table.{content_of, content_meaning, item_of, line_of}
use Rattle.graph_rows.specs.declared.items.Content as held
use Rattle.graph_rows.specs.declared.items.Content.TheVariants.{State, Scope, Mark, Count, Turn}
use mathlib.Core.Logic.{◌⊎◌, inl, inr}
use Rattle.graph_rows.proofs.FormatLaws.{item_byte, item_field, line_more, line_last}
use Rattle.graph_file.specs.Reader.{values_of, took, passed, row_outcome, line_outcome, item_put, item_line}

-- a number as it is read, and none
module _ (text : List ℕ) (at : ℕ) where
  pub number_took : (x : Option (ℕ × ℕ)) (v n : ℕ) → number_placed at x ≡ Some (v, n) → took (Some (One v, n)) text ≡ number_taken x (drop at text)
  unfolding number_placed took values_of number_taken number_meaning and_then
  number_took (Some (v', w)) v n e =
      let o = some_pair_parts v' v (at + w) n e in
      rw (← o.0, ← o.1, drop-drop w at text)
  number_took None v n e = let z : ◌≡◌ {A = ℕ} 0 1 = cc in absurd (omega arith)

  pub number_none : (x : Option (ℕ × ℕ)) → number_placed at x ≡ None → took None text ≡ number_taken x (drop at text)
  unfolding number_placed took number_taken number_meaning and_then
  number_none (Some (v', w)) e = let z : ◌≡◌ {A = ℕ} 0 1 = cc in absurd (omega arith)
  number_none None e = refl

  -- a name as it is read, and none
  pub name_took : (x : Option (ℕ × ℕ × ℕ)) (high low n : ℕ) → name_placed at x ≡ Some (high, low, n) → took (Some (Two high low, n)) text ≡ name_taken x (drop at text)
  unfolding name_placed took values_of name_taken name_meaning and_then
  name_took (Some (h, l, w)) high low n e =
      let o = name_parts h l (at + w) high low n e in
      rw (← o.high, ← o.low, ← o.next, drop-drop w at text)
  name_took None high low n e = let z : ◌≡◌ {A = ℕ} 0 1 = cc in absurd (omega arith)

  pub name_none : (x : Option (ℕ × ℕ × ℕ)) → name_placed at x ≡ None → took None text ≡ name_taken x (drop at text)
  unfolding name_placed took name_taken name_meaning and_then
  name_none (Some (h, l, w)) e = let z : ◌≡◌ {A = ℕ} 0 1 = cc in absurd (omega arith)
  name_none None e = refl

-- the end mark, and any other byte of an end
pub end_mark : (letters : List ℕ) (x : ℕ) (text : List ℕ) → x ≡ 36 → end_taken letters x text ≡ byte_taken true 0 text
unfolding end_taken
end_mark letters x text e = rw e

pub end_letter : (letters : List ℕ) (x : ℕ) (text : List ℕ) → (x ≡ 36 → ⊥) → end_taken letters x text ≡ byte_taken (is_capital x) (place x letters + 1) text
unfolding end_taken
end_letter letters x text n = rw (ne_eqb x 36 n, end_taken, add-one (place x letters))

-- the first byte of the text from a place on
pub first_at : (text : List ℕ) (at : ℕ) → get_or (drop at text) 0 0 ≡ get_or text at 0
first_at text at = get_or-drop at text 0 0 ∙ rw (add-zero at)

pub starts_at : (x : ℕ) (text : List ℕ) (at : ℕ) → at < length text → starts_with x (drop at text) ≡ eqb (get_or text at 0) x
unfolding starts_with
starts_at x text at h = rw (drop-cons text at 0 h)

pub byte_here : (letters : List ℕ) (x : ℕ) (text : List ℕ) → starts_with x text ≡ true → read_item letters (byte x) text ≡ done (record { values = []; rest = drop 1 text })
unfolding read_item
byte_here letters x text e = rw (e, read_item)

-- a byte at the text's end, another byte, and the byte itself
module _ (letters : List ℕ) (x : ℕ) (text : List ℕ) (at : ℕ) where
  pub bare_none : length text ≤ at → passed None text ≡ read_item letters (byte x) (drop at text)
  unfolding passed read_item starts_with
  bare_none h = rw (drop_of_length-le text {i = at} h)

  pub bare_other : at < length text → (get_or text at 0 ≡ x → ⊥) → passed None text ≡ read_item letters (byte x) (drop at text)
  unfolding passed read_item starts_with
  bare_other h n = rw (drop-cons text at 0 h, ne_eqb (get_or text at 0) x n, read_item)

  pub bare_same : at < length text → get_or text at 0 ≡ x → passed (Some (at + 1)) text ≡ read_item letters (byte x) (drop at text)
  unfolding passed
  bare_same h e = rw (byte_here letters x (drop at text) (starts_at x text at h ∙ eq-eqb (get_or text at 0) x e), drop-drop 1 at text)

-- an item of a code, a byte and a field
pub item_is_byte : (letters : List ℕ) (x : ℕ) (text : List ℕ) → x < 128 → read_item letters (item_of x) text ≡ read_item [] (byte x) text
unfolding read_item
item_is_byte letters x text h = rw (item_byte x h)

pub item_is_field : (letters : List ℕ) (x : ℕ) (text : List ℕ) → 128 ≤ x → read_item letters (item_of x) text ≡ read_field letters (content_of ((x - 128) / 8)) text
unfolding read_item
item_is_field letters x text h = rw (item_field x h)

pub place_byte : (x : ℕ) → x < 128 → place_of (item_of x) ≡ 0
unfolding place_of
place_byte x h = rw (item_byte x h)

pub place_field : (x : ℕ) → 128 ≤ x → place_of (item_of x) ≡ x % 8
unfolding place_of
place_field x h = rw (item_field x h)

pub place_small : (x : ℕ) → place_of (item_of x) < 8
place_small x = go (ltb x 128) refl
  where
    go : (b : Bool) → ltb x 128 ≡ b → place_of (item_of x) < 8
    go true e = let h : place_of (item_of x) ≡ 0 = place_byte x (ltb-true x 128 e) in omega arith
    go false e = let h : place_of (item_of x) ≡ x % 8 = place_field x (ltb-false x 128 e) in omega arith

-- the contents that are numbers
abbrev pub NumberContent : held.Content → Type 0
NumberContent k = (k ≡ State) ⊎ ((k ≡ Scope) ⊎ ((k ≡ Mark) ⊎ ((k ≡ Count) ⊎ (k ≡ Turn))))

pub number_field : (letters s : List ℕ) (k : held.Content) → NumberContent k → number_taken (number_here s) s ≡ read_field letters (content_meaning k) s
unfolding read_field content_meaning
number_field letters s k (inl e) = rw e
number_field letters s k (inr (inl e)) = rw e
number_field letters s k (inr (inr (inl e))) = rw e
number_field letters s k (inr (inr (inr (inl e)))) = rw e
number_field letters s k (inr (inr (inr (inr e)))) = rw e

-- one byte by its class
pub byte_took : (b : Bool) (v at next : ℕ) (text : List ℕ) → drop next text ≡ drop 1 (drop at text) → took (then_some b (One v, next)) text ≡ byte_taken b v (drop at text)
unfolding took values_of byte_taken
byte_took true v at next text e = rw e
byte_took false v at next text e = refl

-- a field's values at their place
module _ (t : Taken) (row : Row) (c d : ℕ) (same : d ≡ c) where
  pub one_value : (v : ℕ) (q : Row) → t ≡ One v → q ≡ set row d v → q ≡ sets row c (values_of t)
  unfolding values_of
  one_value v q e w = rw (e, ← same) w

  pub two_values : (v w : ℕ) (p q : Row) → t ≡ Two v w → p ≡ set row d v → q ≡ set p (d + 1) w → q ≡ sets row c (values_of t)
  unfolding values_of
  two_values v w p q e f g = rw (e, ← same, ← add-one d, ← f) g

-- an item's values put into the row: a byte has none
module _ (letters : List ℕ) (row : Row) (s text : List ℕ) where
  bare_row : (b : ℕ) (t : Option ℕ) → row_outcome t row text ≡ and_then (passed t text) (λ r. done (item_put (byte b) row r))
  unfolding row_outcome passed and_then item_put place_of
  bare_row b None = refl
  bare_row b (Some next) = refl

  pub byte_put : (b : ℕ) (t : Option ℕ) → passed t text ≡ read_item [] (byte b) s → row_outcome t row text ≡ item_line letters (byte b) row s
  unfolding item_line read_item
  byte_put b t e = bare_row b t ∙ rw e

  module _ (k : Content) (c : ℕ) (t : Option (Taken × ℕ)) (e : took t text ≡ read_field letters k s) where
    pub field_none : (q : Row) → t ≡ None → row_outcome None q text ≡ item_line letters (field k c) row s
    unfolding row_outcome item_line read_item took and_then
    field_none q p = rw (← e, p)

    pub field_put : (v : Taken) (next : ℕ) (q : Row) → t ≡ Some (v, next) → q ≡ sets row c (values_of v) → row_outcome (Some next) q text ≡ item_line letters (field k c) row s
    unfolding row_outcome item_line read_item took and_then item_put place_of
    field_put v next q p h = rw (← e, p, h)

-- what follows a step that only makes something of what was gained
module _ {A B C : Type 0} (o : Outcome A) (f : A → B) (g : B → Outcome C) where
  pub then_done : (y : B) → and_then o (λ a. done (f a)) ≡ done y → and_then o (λ a. g (f a)) ≡ g y
  unfolding and_then
  then_done = elim o as (λ k. (y : B) → and_then k (λ a. done (f a)) ≡ done y → and_then k (λ a. g (f a)) ≡ g y) [ refused n ↦ λ y e. absurd (never n y e) | done a ↦ λ y e. ap g (inner a y e) ]
    where
      never : (n : ℕ) (y : B) → ◌≡◌ {A = Outcome B} (refused n) (done y) → ⊥
      never n y e = let z : ◌≡◌ {A = ℕ} 0 1 = cc in omega arith

      inner : (a : A) (y : B) → ◌≡◌ {A = Outcome B} (done (f a)) (done y) → f a ≡ y
      inner a y e = cc

  pub then_refused : (n : ℕ) → and_then o (λ a. done (f a)) ≡ refused n → and_then o (λ a. g (f a)) ≡ refused n
  unfolding and_then
  then_refused = elim o as (λ k. (n : ℕ) → and_then k (λ a. done (f a)) ≡ refused n → and_then k (λ a. g (f a)) ≡ refused n) [ refused m ↦ λ n e. inner m n e | done a ↦ λ n e. absurd (never (f a) n e) ]
    where
      never : (y : B) (n : ℕ) → ◌≡◌ {A = Outcome B} (done y) (refused n) → ⊥
      never y n e = let z : ◌≡◌ {A = ℕ} 0 1 = cc in omega arith

      inner : (m n : ℕ) → ◌≡◌ {A = Outcome B} (refused m) (refused n) → ◌≡◌ {A = Outcome C} (refused m) (refused n)
      inner m n e = let p : m ≡ n = cc in ap refused p

-- the items of the format's codes from place i on: the code there is no end of line
pub code_more : (codes : List ℕ) (i : ℕ) → i < length codes → (get_or codes i 0 ≡ 10 → ⊥) → line_of (drop i codes) ≡ item_of (get_or codes i 0) ∷ line_of (drop (i + 1) codes)
unfolding line_of
code_more codes i h n = rw (drop-cons codes i 0 h, line_more (get_or codes i 0) (line_of (drop (suc i) codes)) n, add-one i)

-- a line read on at the code in place i
module _ (letters codes : List ℕ) (i : ℕ) (within : i < length codes) (row : Row) (s text : List ℕ) where
  module _ (item : Item) (is : item ≡ item_of (get_or codes i 0)) (n : get_or codes i 0 ≡ 10 → ⊥) where
    line_split : read_items letters (line_of (drop i codes)) row s ≡ and_then (read_item letters item s) (λ r. read_items letters (line_of (drop (i + 1) codes)) (item_put item row r).values (item_put item row r).rest)
    unfolding read_items item_put
    line_split = rw (code_more codes i within n, is)

    pub line_refused : (q : Row) → row_outcome None q text ≡ item_line letters item row s → refused 2 ≡ read_items letters (line_of (drop i codes)) row s
    unfolding item_line row_outcome
    line_refused q e = sym (line_split ∙ then_refused (read_item letters item s) (item_put item row) (λ y. read_items letters (line_of (drop (i + 1) codes)) y.values y.rest) 2 (sym e))

    pub line_on : (q : Row) (next : ℕ) → row_outcome (Some next) q text ≡ item_line letters item row s → read_items letters (line_of (drop (i + 1) codes)) q (drop next text) ≡ read_items letters (line_of (drop i codes)) row s
    unfolding item_line row_outcome
    line_on q next e = sym (line_split ∙ then_done (read_item letters item s) (item_put item row) (λ y. read_items letters (line_of (drop (i + 1) codes)) y.values y.rest) (record { values = q; rest = drop next text }) (sym e))

-- the codes' line ends: at its end of line, or where there is no code left
pub code_last : (codes : List ℕ) (i : ℕ) → i < length codes → get_or codes i 0 ≡ 10 → line_of (drop i codes) ≡ byte 10 ∷ []
unfolding line_of
code_last codes i h e = rw (drop-cons codes i 0 h, line_last (get_or codes i 0) (line_of (drop (suc i) codes)) e)

pub code_none : (codes : List ℕ) (i : ℕ) → length codes ≤ i → line_of (drop i codes) ≡ byte 10 ∷ []
unfolding line_of
code_none codes i h = rw (drop_of_length-le codes {i = i} h)

-- then the end of line is due
module _ (letters : List ℕ) (items : List Item) (last : items ≡ byte 10 ∷ []) (row : Row) (s text : List ℕ) (t : Option ℕ) (e : passed t text ≡ read_item [] (byte 10) s) where
  line_end : read_items letters items row s ≡ row_outcome t row text
  unfolding read_items item_line item_put
  line_end = rw last (sym (byte_put letters row s text 10 t e))

  pub line_open : t ≡ None → line_outcome None text ≡ read_items letters items row s
  unfolding line_outcome row_outcome
  line_open p = sym (line_end ∙ rw p)

  pub line_done : (next : ℕ) → t ≡ Some next → line_outcome (Some (record { row = row; next = next })) text ≡ read_items letters items row s
  unfolding line_outcome row_outcome
  line_done next p = sym (line_end ∙ rw p)

-- what comes after a step comes after its gain
pub then_split : {A B : Type 0} (o : Outcome A) (g : A → Outcome B) (y : B) → and_then o g ≡ done y → (a : A) × (o ≡ done a) × (g a ≡ done y)
unfolding and_then
then_split (refused n) g y e = let z : ◌≡◌ {A = ℕ} 0 1 = cc in absurd (omega arith)
then_split (done a) g y e = (a, refl, e)

-- a line keeps the row's length
pub items_length : (letters : List ℕ) (items : List Item) (row : Row) (text : List ℕ) (r : Reading) → read_items letters items row text ≡ done r → length r.values ≡ length row
unfolding read_items
items_length letters [] row text r e = let p : record { values = row; rest = text } ≡ r = cc in ap (λ (x : Reading). length x.values) (sym p)
items_length letters (i ∷ items) row text r e =
    let s = then_split (read_item letters i text) (λ x. read_items letters items (sets row (place_of i) x.values) x.rest) r e in
    items_length letters items (sets row (place_of i) s.0.values) s.0.rest r s.2 ∙ length-sets row (place_of i) s.0.values

pub line_length : (letters : List ℕ) (items : List Item) (row : Row) (s text : List ℕ) (l : Line) → line_outcome (Some l) text ≡ read_items letters items row s → length l.row ≡ length row
unfolding line_outcome
line_length letters items row s text l e = items_length letters items row s (record { values = l.row; rest = drop l.next text }) (sym e)
