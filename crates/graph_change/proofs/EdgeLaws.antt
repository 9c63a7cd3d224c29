-- An edge looked for row by row, at whatever turn. Assumes nothing.
use Prim.Native.Nat.{ℕ, ◌+◌, ◌-◌, ◌≤◌, ◌<◌}
use mathlib.Core.Path.{◌≡◌, refl, sym, ap, ◌∙◌}
use mathlib.Core.Bool.{Bool, true, false, ◌&&◌, ◌||◌}
use mathlib.Core.List.{List, [], ◌∷◌}
use native.Mathlib.Omega.{arith}
use borrow.Author.Tests.{eq-eqb, ne_eqb}
use lib.Dec.{eqb}
use lib.ListN.{length, get_or, drop, length-drop}
use lib.Seq.{drop-drop, get_or-drop}
use Rattle.graph_rows.specs.Format.{edge_section}
use Rattle.graph_rows.specs.Admission.{Row, value, row_of, same_source, same_edge, repeats}
use Rattle.graph_rows.specs.Way.{starts_with}
use Rattle.graph_rows.specs.Decode.{kept_if, rows_among, rows_in}
use Rattle.graph_table.specs.Sections.{first_row}
use Rattle.graph_table.proofs.Leading.{first_within}
use Rattle.graph_change.specs.Place.{is_edge}

-- Is the edge of the row among the cells?
unfoldable pub edge_among : Row → List ℕ → Bool
edge_among row cells = repeats (rows_among edge_section cells) row

repeats_kept : (row : Row) (t : Bool) (a : Row) (rows : List Row) → repeats (kept_if t a rows) row ≡ ((t && same_edge a row) || repeats rows row)
unfolding repeats kept_if
repeats_kept row true a rows = refl
repeats_kept row false a rows = refl

module _ (row : Row) where
  among_six : (l : List ℕ) → 6 ≤ length l → edge_among row l ≡ (is_edge row l || edge_among row (drop 6 l))
  unfolding edge_among rows_among is_edge starts_with row_of
  among_six [] h = absurd (omega arith)
  among_six (s ∷ []) h = absurd (omega arith)
  among_six (s ∷ a ∷ []) h = absurd (omega arith)
  among_six (s ∷ a ∷ b ∷ []) h = absurd (omega arith)
  among_six (s ∷ a ∷ b ∷ c ∷ []) h = absurd (omega arith)
  among_six (s ∷ a ∷ b ∷ c ∷ d ∷ []) h = absurd (omega arith)
  among_six (s ∷ a ∷ b ∷ c ∷ d ∷ e ∷ l) h = repeats_kept row (eqb s edge_section) (a ∷ b ∷ c ∷ d ∷ e ∷ []) (rows_among edge_section l)

  among_few : (l : List ℕ) → length l < 6 → edge_among row l ≡ false
  unfolding edge_among rows_among repeats
  among_few [] h = refl
  among_few (s ∷ []) h = refl
  among_few (s ∷ a ∷ []) h = refl
  among_few (s ∷ a ∷ b ∷ []) h = refl
  among_few (s ∷ a ∷ b ∷ c ∷ []) h = refl
  among_few (s ∷ a ∷ b ∷ c ∷ d ∷ []) h = refl
  among_few (s ∷ a ∷ b ∷ c ∷ d ∷ e ∷ l) h = absurd (omega arith)

  -- the rows after the form are all
  pub among_all : (t : List ℕ) (p : ℕ) → p ≡ first_row t → edge_among row (drop p t) ≡ repeats (rows_in edge_section t) row
  unfolding edge_among rows_in first_row
  among_all [] p e = rw e
  among_all (form ∷ t) p e = rw e

  -- from a place on
  module _ (t : List ℕ) (p : ℕ) where
    pub among_hit : 6 ≤ length t - p → is_edge row (drop p t) ≡ true → edge_among row (drop p t) ≡ true
    among_hit h e = among_six (drop p t) (rw (length-drop p t) h) ∙ rw e

    pub among_next : 6 ≤ length t - p → is_edge row (drop p t) ≡ false → edge_among row (drop (p + 6) t) ≡ edge_among row (drop p t)
    among_next h e = ap (edge_among row) (sym (drop-drop 6 p t)) ∙ sym (among_six (drop p t) (rw (length-drop p t) h) ∙ rw e)

    pub among_end : length t - p < 6 → edge_among row (drop p t) ≡ false
    among_end h = among_few (drop p t) (rw (length-drop p t) h)

    -- the row at the place, value by value
    pub edge_none : starts_with edge_section (drop p t) ≡ false → is_edge row (drop p t) ≡ false
    unfolding is_edge
    edge_none other = rw other

    module _ (so : starts_with edge_section (drop p t) ≡ true) where
      edge_is : is_edge row (drop p t) ≡ ((eqb (get_or t (p + 1) 0) (value row 0) && eqb (get_or t (p + 2) 0) (value row 1)) && eqb (get_or t (p + 3) 0) (value row 2))
      unfolding is_edge same_edge same_source row_of
      edge_is = rw (so, get_or-drop p t 1 0, get_or-drop p t 2 0, get_or-drop p t 3 0)

      pub other_from : ¬ (get_or t (p + 1) 0 ≡ value row 0) → is_edge row (drop p t) ≡ false
      other_from n = edge_is ∙ rw (ne_eqb (get_or t (p + 1) 0) (value row 0) n)

      pub other_label : get_or t (p + 1) 0 ≡ value row 0 → ¬ (get_or t (p + 2) 0 ≡ value row 1) → is_edge row (drop p t) ≡ false
      other_label from n = edge_is ∙ rw (eq-eqb (get_or t (p + 1) 0) (value row 0) from, ne_eqb (get_or t (p + 2) 0) (value row 1) n)

      pub by_to : get_or t (p + 1) 0 ≡ value row 0 → get_or t (p + 2) 0 ≡ value row 1 → is_edge row (drop p t) ≡ eqb (get_or t (p + 3) 0) (value row 2)
      by_to from label = edge_is ∙ rw (eq-eqb (get_or t (p + 1) 0) (value row 0) from, eq-eqb (get_or t (p + 2) 0) (value row 1) label)

pub ruleset edge_steps = (edge_none, other_from, other_label, by_to)

pub ruleset among_steps = (first_within, among_all, among_hit, among_next, among_end)
