-- Laws of reading a row: does one stand there, which name has it? Assumes nothing.
use mathlib.Core.Path.{◌≡◌, refl, sym, ap}
use mathlib.Core.Bool.{Bool, true, false, ◌&&◌, and-false}
use mathlib.Core.List.{List, [], ◌∷◌}
use Prim.Native.Nat.{ℕ, zero, suc, ◌-◌, ◌≤◌, ◌<◌}
use native.Mathlib.Omega.{arith}
use borrow.Author.Tests.{eq-eqb, ne_eqb}
use lib.Dec.{eqb}
use lib.ListN.{length, get_or, drop, set, drop_of_length-le, get_or-eq_default}
use lib.Seq.{drop-cons}
use Rattle.graph_rows.specs.Format.{has_kinds}
use Rattle.graph_rows.specs.Admission.{Row, value, row_of}
use Rattle.graph_rows.specs.Tested.{form_in}
use Rattle.graph_rows.specs.Way.{starts_with}
use Rattle.scope_graph.specs.Rows.{PackedName, same_name}
use Rattle.std.specs.declared.option.Option.TheVariants.{None}
use Rattle.scope_graph.specs.declared.End.TheVariants.{Stop, Label}
use Rattle.graph_rows.proofs.RowLaws.{row_cells}
use Rattle.graph_table.specs.declared.names.Name.{Name}
use Rattle.graph_table.specs.Values.{packed, row_end, declaration_row, query_row, row_declared, declares}
use Rattle.graph_table.specs.declared.rows.DeclarationRow.{DeclarationRow}
use Rattle.graph_table.specs.declared.rows.QueryRow.{QueryRow}
use Rattle.graph_table.specs.declared.sections.Form.{Form}
use Rattle.graph_table.specs.declared.sections.Form.TheVariants.{Old, Kinds}
use Rattle.graph_table.specs.Sections.{table_form, form_number, with_form}
use Rattle.graph_table.proofs.Tests.{and_true}

-- does a row stand there?
module _ (cells : List ℕ) (p k : ℕ) where
  pub row_none : length cells ≤ p → starts_with k (drop p cells) ≡ false
  unfolding starts_with
  row_none h = rw (drop_of_length-le cells {i = p} h)

  pub row_test : p < length cells → starts_with k (drop p cells) ≡ eqb (get_or cells p 0) k
  unfolding starts_with
  row_test h = rw (drop-cons cells p 0 h)

-- an order row's end, by its cell
pub row_end_stop : (cell : ℕ) → cell ≡ 0 → Stop ≡ row_end cell
unfolding row_end
row_end_stop cell e = rw e

pub row_end_label : (cell : ℕ) → (cell ≡ 0 → ⊥) → Label (cell - 1) None ≡ row_end cell
unfolding row_end
row_end_label zero h = absurd (h refl)
row_end_label (suc n) h = ap (λ (k : ℕ). Label k None) (omega arith)

-- a query's row by its five values
abbrev pub row_query : Row → QueryRow
row_query row = record { start = value row 0; name = record { kind = value row 1; high = value row 2; low = value row 3 } }

-- a declaration's and a query's row, by cells and by values
pub declaration_cells : (rows : List ℕ) (p : ℕ) → declaration_row rows p ≡ row_declared (row_of (drop p rows))
declaration_cells rows p = ap row_declared (sym (row_cells rows p))

pub query_cells : (rows : List ℕ) (p : ℕ) → query_row rows p ≡ row_query (row_of (drop p rows))
query_cells rows p = ap row_query (sym (row_cells rows p))

-- names are told apart by any of their three numbers
module _ (a b : Name) where
  pub names_high : (a.high ≡ b.high → ⊥) → same_name (packed a) (packed b) ≡ false
  unfolding same_name
  names_high h = rw (ne_eqb a.high b.high h) (and-false (eqb a.kind b.kind))

  module _ (e : a.high ≡ b.high) where
    pub names_low : (a.low ≡ b.low → ⊥) → same_name (packed a) (packed b) ≡ false
    unfolding same_name
    names_low h = rw (eq-eqb a.high b.high e, ne_eqb a.low b.low h) (and-false (eqb a.kind b.kind))

    pub names_kind : a.low ≡ b.low → same_name (packed a) (packed b) ≡ eqb a.kind b.kind
    unfolding same_name
    names_kind h = rw (eq-eqb a.high b.high e, eq-eqb a.low b.low h) (and_true (eqb a.kind b.kind) true refl)

-- Names are equal, field by field in their sequence, exactly if the rules have them as the same.
pub names_told : (a b : Name) → (eqb a.high b.high && (eqb a.low b.low && eqb a.kind b.kind)) ≡ same_name (packed a) (packed b)
unfolding same_name
names_told a b = turned (eqb a.high b.high) (eqb a.low b.low) (eqb a.kind b.kind)
  where
    turned : (h l k : Bool) → (h && (l && k)) ≡ (k && (h && l))
    turned true true k = sym (and_true k true refl)
    turned true false k = sym (and-false k)
    turned false l k = sym (and-false k)

-- a row declares the name at a scope: by the scope, then by the name
module _ (x : PackedName) (s : ℕ) (d : DeclarationRow) where
  pub declares_there : d.at ≡ s → declares x s d ≡ same_name (packed d.name) x
  unfolding declares
  declares_there h = rw (eq-eqb d.at s h)

  pub declares_apart : (d.at ≡ s → ⊥) → declares x s d ≡ false
  unfolding declares
  declares_apart h = rw (ne_eqb d.at s h)

pub ruleset declares_steps = (names_told, declares_there, declares_apart)

-- a table's form, by its first cell
module _ (cells : List ℕ) where
  pub form_none : length cells ≡ 0 → Old ≡ table_form cells
  unfolding table_form form_in has_kinds
  form_none h = rw (get_or-eq_default cells 0 {n = 0} (omega arith), table_form)

  pub form_kinds : true ≡ has_kinds (get_or cells 0 0) → Kinds ≡ table_form cells
  unfolding table_form form_in
  form_kinds h = rw (sym h, table_form)

  pub form_old : false ≡ has_kinds (get_or cells 0 0) → Old ≡ table_form cells
  unfolding table_form form_in
  form_old h = rw (sym h, table_form)

pub ruleset form_steps = (form_none, form_kinds, form_old)

-- the number that a wanted form gets
module _ (form : Form) (number : ℕ) where
  pub number_old : form ≡ Old → 0 ≡ form_number form number
  unfolding form_number
  number_old e = rw e

  pub number_kept : form ≡ Kinds → true ≡ has_kinds number → number ≡ form_number form number
  unfolding form_number
  number_kept e h = rw (e, sym h, form_number)

  pub number_kinds : form ≡ Kinds → false ≡ has_kinds number → 1 ≡ form_number form number
  unfolding form_number
  number_kinds e h = rw (e, sym h, form_number)

pub ruleset number_steps = (number_old, number_kept, number_kinds)

-- the first cell set to a form's number
pub form_kept : (form : Form) (cells : List ℕ) → length cells ≡ 0 → cells ≡ with_form form cells
unfolding with_form
form_kept form [] h = refl
form_kept form (old ∷ rows) h = absurd (omega arith)

pub form_set : (form : Form) (n : ℕ) (cells : List ℕ) → n ≡ form_number form (get_or cells 0 0) → (length cells ≡ 0 → ⊥) → set cells 0 n ≡ with_form form cells
unfolding with_form
form_set form n [] e h = absurd (h refl)
form_set form n (number ∷ rows) e h = rw e
