-- Where the name stands in a query's line, in either form. Assumes nothing.
use Prim.Native.Nat.{ℕ, ◌+◌, ◌-◌, ◌≤◌, ◌<◌}
use mathlib.Core.Path.{◌≡◌, refl, sym, ap, ◌∙◌}
use mathlib.Core.List.{List, []}
use mathlib.Core.Bool.{Bool, true, false}
use native.Mathlib.Omega.{arith}
use lib.ListN.{length, get_or, drop, length-drop, drop_of_length-le}
use lib.Seq.{drop-drop}
use Rattle.std.specs.declared.option.Option.{Option}
use Rattle.std.specs.declared.option.Option.TheVariants.{Some, None}
use Rattle.text_field.specs.Number.{number_here, number_placed, number_meaning}
use Rattle.std.proofs.lemmas.Option.{some_pair_parts}
use Rattle.text_field.specs.Bytes.{within, is_lower}
use Rattle.graph_rows.specs.Format.{Item, byte, field, kind, values_of, has_kinds, query_shape, shapes_of, shape_at, query_section}
use Rattle.text_field.specs.Outcome.{and_then}
use Rattle.graph_file.specs.Line.{number_taken, byte_taken, read_field, read_item}
use Rattle.graph_file.specs.Reader.{passed, rest_after}
use Rattle.std.specs.Option.{IfSome, unwrap_or}
use Rattle.graph_rows.specs.Way.{starts_with}
use Rattle.graph_file.specs.NameSought.{rest_of, is_name_field, from_name}
use Rattle.graph_file.proofs.LineLaws.{first_at}

pub placed_number : (x : Option (ℕ × ℕ)) (at v a : ℕ) → Some (v, a) ≡ number_placed at x → (w : ℕ) × (x ≡ Some (v, w)) × (a ≡ at + w)
unfolding number_placed
placed_number (Some (v', w)) at v a e = let o = some_pair_parts v v' a (at + w) e in (w, ap (λ (z : ℕ). Some (z, w)) (sym o.0), o.1)
placed_number None at v a e = absurd (let z : ◌≡◌ {A = ℕ} 0 1 = cc in omega arith)

pub unplaced_number : (x : Option (ℕ × ℕ)) (at : ℕ) → None ≡ number_placed at x → x ≡ None
unfolding number_placed
unplaced_number (Some (v, w)) at e = absurd (let z : ◌≡◌ {A = ℕ} 0 1 = cc in omega arith)
unplaced_number None at e = refl

-- What is left of a query's line from its name on: behind the scope's number and a space, and
-- behind a kind and a space where kinds are shown.
abbrev after_number : List ℕ → List ℕ
after_number t = rest_of (number_taken (number_here t) t)

abbrev after_item : Item → List ℕ → List ℕ
after_item i t = rest_of (read_item [] i t)

line_plain : (t : List ℕ) → from_name (query_shape false).row t ≡ after_item (byte 32) (after_number t)
unfolding from_name is_name_field values_of read_item read_field rest_of query_shape
line_plain t = refl

line_kinds : (t : List ℕ) → from_name (query_shape true).row t ≡ after_item (byte 32) (after_item (field kind 1) (after_item (byte 32) (after_number t)))
unfolding from_name is_name_field values_of read_item read_field query_shape
line_kinds t = refl

-- the queries' line is the one with kinds where the form shows them
line_by : (form : ℕ) (t : List ℕ) (b : Bool) → has_kinds form ≡ b → from_name (shape_at form query_section).row t ≡ from_name (query_shape b).row t
unfolding shape_at shapes_of
line_by form t b e = ap (λ (z : Bool). from_name (query_shape z).row t) e

-- without a number and a space there is no name
no_start : (form : ℕ) (t : List ℕ) → after_item (byte 32) (after_number t) ≡ [] → [] ≡ from_name (shape_at form query_section).row t
unfolding read_item read_field byte_taken starts_with rest_of is_lower within
no_start form t e = sym (line_by form t (has_kinds form) refl ∙ by (has_kinds form))
  where
    by : (b : Bool) → from_name (query_shape b).row t ≡ []
    by true = line_kinds t ∙ ap (λ (u : List ℕ). after_item (byte 32) (after_item (field kind 1) u)) e
    by false = line_plain t ∙ e

-- what is left behind a byte that must stand there
bare_rest : (b : ℕ) (o : Option ℕ) (text s : List ℕ) → passed o text ≡ read_item [] (byte b) s → rest_after o text ≡ after_item (byte b) s
unfolding rest_of rest_after passed
bare_rest b None text s e = ap rest_of e
bare_rest b (Some next) text s e = ap rest_of e

-- behind a kind: nothing, another byte, or what comes after it
module _ (s : List ℕ) (at : ℕ) where
  pub kind_none : length s ≤ at → [] ≡ after_item (field kind 1) (drop at s)
  unfolding read_item read_field byte_taken rest_of is_lower within
  kind_none h = rw (drop_of_length-le s {i = at} h)

  module _ (h : at < length s) where
    kind_by : (t : Bool) → is_lower (get_or s at 0) ≡ t → after_item (field kind 1) (drop at s) ≡ rest_of (byte_taken t (get_or s at 0) (drop at s))
    unfolding read_item read_field
    kind_by t e = rw (first_at s at, e)

    pub kind_other : is_lower (get_or s at 0) ≡ false → [] ≡ after_item (field kind 1) (drop at s)
    unfolding byte_taken rest_of
    kind_other e = sym (kind_by false e)

    pub kind_here_lem : is_lower (get_or s at 0) ≡ true → drop (at + 1) s ≡ after_item (field kind 1) (drop at s)
    unfolding byte_taken rest_of
    kind_here_lem e = sym (kind_by true e ∙ drop-drop 1 at s)

-- where the name stands, by the form
module _ (form : ℕ) (s : List ℕ) (at : ℕ) where
  -- no number
  pub start_unnumbered : number_placed at (number_here (drop at s)) ≡ None → [] ≡ from_name (shape_at form query_section).row (drop at s)
  unfolding number_taken number_meaning and_then read_item starts_with rest_of
  start_unnumbered e = no_start form (drop at s) (rw (unplaced_number (number_here (drop at s)) at (sym e)))

  module _ (v next : ℕ) (e : number_placed at (number_here (drop at s)) ≡ Some (v, next)) (o : Option ℕ) (bare : passed o s ≡ read_item [] (byte 32) (drop next s)) where
    numbered : drop next s ≡ after_number (drop at s)
    unfolding rest_of number_taken number_meaning and_then
    numbered =
        let k = placed_number (number_here (drop at s)) at v next (sym e) in
        ap (λ (n : ℕ). drop n s) k.2 ∙ sym (drop-drop k.0 at s) ∙ sym (ap (λ (x : Option (ℕ × ℕ)). rest_of (number_taken x (drop at s))) k.1)

    spaced : rest_after o s ≡ after_item (byte 32) (after_number (drop at s))
    spaced = bare_rest 32 o s (drop next s) bare ∙ ap (after_item (byte 32)) numbered

    -- no space behind it
    pub start_unspaced : o ≡ None → [] ≡ from_name (shape_at form query_section).row (drop at s)
    unfolding rest_after
    start_unspaced p = no_start form (drop at s) (sym spaced ∙ rw p)

    -- a name without a kind
    pub start_plain : has_kinds form ≡ false → rest_after o s ≡ from_name (shape_at form query_section).row (drop at s)
    start_plain h = spaced ∙ sym (line_by form (drop at s) false h ∙ line_plain (drop at s))

    module _ (name : ℕ) (p : o ≡ Some name) (h : has_kinds form ≡ true) (k : Option ℕ) (kinds : rest_after k s ≡ after_item (field kind 1) (drop name s)) where
      behind_kind : from_name (shape_at form query_section).row (drop at s) ≡ after_item (byte 32) (rest_after k s)
      unfolding rest_after
      behind_kind =
          let left : drop name s ≡ after_item (byte 32) (after_number (drop at s)) = rw p at spaced in
          line_by form (drop at s) true h ∙ line_kinds (drop at s) ∙ sym (ap (after_item (byte 32)) (kinds ∙ ap (after_item (field kind 1)) left))

      -- no kind
      pub start_unkinded : k ≡ None → [] ≡ from_name (shape_at form query_section).row (drop at s)
      unfolding rest_after read_item starts_with rest_of
      start_unkinded q = sym (behind_kind ∙ rw q)

      -- a name behind its kind
      pub start_kinds : (behind : ℕ) → k ≡ Some behind → (d : Option ℕ) → passed d s ≡ read_item [] (byte 32) (drop behind s) → rest_after d s ≡ from_name (shape_at form query_section).row (drop at s)
      unfolding rest_after
      start_kinds behind q d f = bare_rest 32 d s (drop behind s) f ∙ sym (behind_kind ∙ rw q)

-- a place in the text, by what is left from it on
pub start_place : (s x : List ℕ) (o : Option ℕ) → rest_after o s ≡ x → IfSome o (λ n. n ≤ length s) → unwrap_or o (length s) ≡ length s - length x
unfolding rest_after
start_place s x (Some n) e h = let z : length x ≡ length s - n = ap length (sym e) ∙ length-drop n s in omega (arith, z)
start_place s x None e h = let z : length x ≡ 0 = ap length (sym e) in omega (arith, z)
