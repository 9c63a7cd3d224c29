-- Laws of the ways through a file whose product goes into a buffer: what is made so far stands
-- before what is made after it, so a way may start with nothing made. Assumes nothing.
use Prim.Native.Nat.{ℕ, zero, suc}
use mathlib.Core.Path.{◌≡◌, refl, sym, ap, ◌∙◌}
use mathlib.Core.List.{List, ◌++◌, append_assoc, append-nil}
use mathlib.Core.Bool.{Bool, true, false, not}
use lib.Dec.{ltb}
use Rattle.text_field.specs.Buffer.{Buf, puts}
use Rattle.text_field.proofs.BufferLaws.{puts_append}
use Rattle.graph_rows.specs.Format.{section_at}
use Rattle.text_field.specs.Outcome.{Outcome, refused, done, and_then, refuse_if}
use Rattle.graph_rows.specs.Admission.{begun, taken, admission}
use Rattle.graph_rows.specs.Order.{order_fault}
use Rattle.graph_rows.specs.Way.{Piece, Way, Stage, if_admitted, after_row, one_row, through_rows, after_names, enough, through_section, is_empty, through_sections, through_some, ordered}
use Rattle.graph_rows.specs.Tested.{stage_from}
use Rattle.graph_file.specs.Writer.{poured, pour}
use Rattle.graph_rows.proofs.WayLaws.{rows_off, rows_on}

-- the stage with more made before it
unfoldable pub after : List ℕ → Stage → Stage
after m g = record { sofar = g.sofar; made = m ++ g.made; rest = g.rest }

unfoldable pub mapped : List ℕ → Outcome Stage → Outcome Stage
mapped m o = and_then o (λ g. done (after m g))

-- a step that looks at nothing made, and makes its own behind it
abbrev pub Onward : (Stage → Outcome Stage) → Type 0
Onward f = (m : List ℕ) (g : Stage) → f (after m g) ≡ mapped m (f g)

pub onward_then : (f h : Stage → Outcome Stage) → Onward f → Onward h → Onward (λ g. and_then (f g) h)
unfolding mapped and_then
onward_then f h p q m g = ap (λ (o : Outcome Stage). and_then o h) (p m g) ∙ inner (f g)
  where
    inner : (o : Outcome Stage) → and_then (mapped m o) h ≡ mapped m (and_then o h)
    inner (refused n) = refl
    inner (done x) = q m x

pub onward_row : (w : Way) (k : ℕ) → Onward (one_row w k)
unfolding one_row mapped after after_row if_admitted and_then
onward_row w k m g = inner (w.row k g.sofar.letters g.rest)
  where
    stage : (p : Piece) → after_row k (after m g) p ≡ after m (after_row k g p)
    stage p = λ i. record { sofar = taken k g.sofar p.row; made = append_assoc m g.made p.made i; rest = p.rest }

    admit : (a : ℕ) (p : Piece) → if_admitted a (done (after_row k (after m g) p)) ≡ mapped m (if_admitted a (done (after_row k g p)))
    admit zero p = ap done (stage p)
    admit (suc a) p = refl

    inner : (o : Outcome Piece) → and_then o (λ p. if_admitted (admission w.form k g.sofar p.row) (done (after_row k (after m g) p))) ≡ mapped m (and_then o (λ p. if_admitted (admission w.form k g.sofar p.row) (done (after_row k g p))))
    inner (refused n) = refl
    inner (done p) = admit (admission w.form k g.sofar p.row) p

pub onward_rows : (w : Way) (turns k : ℕ) → Onward (through_rows w turns k)
unfolding mapped and_then through_rows after
onward_rows w zero k m g = refl
onward_rows w (suc turns) k m g = inner (onward_rows w turns k) (w.more k g.rest) refl
  where
    inner : Onward (through_rows w turns k) → (b : Bool) → w.more k g.rest ≡ b → through_rows w (suc turns) k (after m g) ≡ mapped m (through_rows w (suc turns) k g)
    inner ih true e = rows_on w turns k (after m g) e ∙ onward_then (one_row w k) (through_rows w turns k) (onward_row w k) ih m g ∙ ap (mapped m) (sym (rows_on w turns k g e))
    inner ih false e = rows_off w turns k (after m g) e ∙ ap (mapped m) (sym (rows_off w turns k g e))

refuse_mapped : (b : Bool) (n : ℕ) (m : List ℕ) (g : Stage) → refuse_if b n (done (after m g)) ≡ mapped m (refuse_if b n (done g))
unfolding refuse_if mapped and_then
refuse_mapped true n m g = refl
refuse_mapped false n m g = refl

pub onward_enough : (k : ℕ) → Onward (enough k)
unfolding enough after
onward_enough k m g = refuse_mapped (ltb g.sofar.rows (section_at k).least) 2 m g

pub onward_section : (w : Way) (k : ℕ) → Onward (through_section w k)
unfolding through_section mapped after after_names and_then
onward_section w k m g = inner (w.names k g.rest)
  where
    go : Stage → Outcome Stage
    go x = and_then (through_rows w (suc (section_at k).most) k x) (enough k)

    stage : (p : Piece) → after_names (after m g) p ≡ after m (after_names g p)
    stage p = λ i. record { sofar = begun g.sofar; made = append_assoc m g.made p.made i; rest = p.rest }

    inner : (o : Outcome Piece) → and_then o (λ p. go (after_names (after m g) p)) ≡ mapped m (and_then o (λ p. go (after_names g p)))
    inner (refused n) = refl
    inner (done p) = ap go (stage p) ∙ onward_then (through_rows w (suc (section_at k).most) k) (enough k) (onward_rows w (suc (section_at k).most) k) (onward_enough k) m (after_names g p)

pub onward_sections : (w : Way) (left k : ℕ) → Onward (through_sections w left k)
unfolding through_sections after
onward_sections w zero k m g = refuse_mapped (not (is_empty g.rest)) 2 m g
onward_sections w (suc left) k m g = onward_then (through_section w k) (through_sections w left (suc k)) (onward_section w k) (onward_sections w left (suc k)) m g

pub onward_some : (w : Way) (left k : ℕ) → Onward (through_some w left k)
unfolding through_some mapped and_then
onward_some w zero k m g = refl
onward_some w (suc left) k m g = onward_then (through_section w k) (through_some w left (suc k)) (onward_section w k) (onward_some w left (suc k)) m g

pub onward_ordered : Onward ordered
unfolding ordered after
onward_ordered m g = refuse_mapped (order_fault g.sofar.pairs) 6 m g

pour_mapped : (b : Buf) (m : List ℕ) (o : Outcome Stage) → pour b (mapped m o) ≡ pour (puts b m) o
unfolding pour poured mapped after and_then
pour_mapped b m (refused n) = refl
pour_mapped b m (done g) = λ i. done (record { sofar = g.sofar; buffer = puts_append b m g.made i; rest = g.rest })

-- what is made already is poured first
pub pour_from : (h : Stage → Outcome Stage) → Onward h → (b : Buf) (g : Stage) → pour b (h g) ≡ pour (puts b g.made) (h (stage_from g.sofar g.rest))
unfolding stage_from after
pour_from h p b g = ap (λ (x : Stage). pour b (h x)) whole ∙ ap (pour b) (p g.made (stage_from g.sofar g.rest)) ∙ pour_mapped b g.made (h (stage_from g.sofar g.rest))
  where
    whole : g ≡ after g.made (stage_from g.sofar g.rest)
    whole = λ i. record { sofar = g.sofar; made = sym (append-nil g.made) i; rest = g.rest }

-- one step after another, poured
pub pour_then : (h : Stage → Outcome Stage) → Onward h → (b : Buf) (o : Outcome Stage) → pour b (and_then o h) ≡ and_then (pour b o) (λ q. pour q.buffer (h (stage_from q.sofar q.rest)))
unfolding pour poured and_then
pour_then h p b (refused n) = refl
pour_then h p b (done g) = pour_from h p b g
