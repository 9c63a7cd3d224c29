-- Two cells spelled into a fresh array, and read back. Assumes nothing.
use mathlib.Core.Path.{◌≡◌, refl, ap, ◌∙◌}
use mathlib.Core.Bool.{true, false, ◌&&◌}
use mathlib.Core.List.{List, ◌++◌}
use Prim.Native.Nat.{ℕ, zero, suc, ◌≤◌}
use native.Mathlib.Nat.{zero-add}
use native.Mathlib.Omega.{arith}
use lib.Dec.{eqb}
use lib.ListN.{length, get_or, drop, replicate, length-replicate}
use lib.Seq.{get_or-drop}
use borrow.Author.Tests.{eq-eqb, ne_eqb, eqb-true}
use Rattle.text_field.specs.Bytes.{within, is_digit, is_lower, is_name_byte}
use Rattle.text_field.specs.Name.{name_text, is_name_cells, name_here, name_placed}
use Rattle.text_field.specs.Buffer.{Buf, puts}
use Rattle.text_field.proofs.ByteLaws.{both, clash, same_test}
use Rattle.text_field.proofs.BufferLaws.{puts_fits}
use Rattle.text_field.proofs.NameLaws.{name_parts, name_back, name_found}
use Rattle.text_field.proofs.CellLaws.{name_length}
use Rattle.std.specs.declared.option.Option.TheVariants.{Some, None}
use Rattle.std.specs.declared.option.Option.{Option}

zeros : (k i : ℕ) → ◌≡◌ {A = ℕ} (get_or (replicate k 0) i 0) 0
zeros zero i = refl
zeros (suc k) zero = refl
zeros (suc k) (suc i) = zeros k i

zero_ends : is_name_byte 0 ≡ false
unfolding within is_digit is_lower is_name_byte
zero_ends = refl

-- a name placed is a name read
record Placed (r : Option (ℕ × ℕ × ℕ)) (h l : ℕ) : Type 0 where
  width : ℕ
  is : r ≡ Some (h, l, width)

placed : (r : Option (ℕ × ℕ × ℕ)) (at h l n : ℕ) → Some (h, l, n) ≡ name_placed at r → Placed r h l
unfolding name_placed
placed (Some (h', l', w)) at h l n e =
    let p = name_parts _ _ _ _ _ _ e
    in record { width = w; is = rw (p.high, p.low) }
placed None at h l n e = absurd (let z : ◌≡◌ {A = ℕ} 0 1 = cc in omega arith)

module _ (k high low place : ℕ) (text : List ℕ) (room : 16 ≤ k) (e : ◌≡◌ {A = Buf} (text, place) (puts (replicate k 0, 0) (name_text high low))) where
  fresh : ◌≡◌ {A = Buf} (text, place) (name_text high low ++ drop (length (name_text high low)) (replicate k 0), length (name_text high low))
  fresh = e ∙ puts_fits (replicate k 0) 0 (name_text high low) (rw length-replicate (omega (arith, name_length high low))) ∙ simp zero-add

  -- where the cells are a name's, it is read back
  back : is_name_cells high low ≡ true → name_here text ≡ Some (high, low, length (name_text high low))
  back h =
      ap (λ (b : Buf). name_here b.0) fresh
      ∙ name_back high low (drop (length (name_text high low)) (replicate k 0)) h (rw (get_or-drop {A = ℕ} (length (name_text high low)) (replicate k 0) 0 0, zeros) zero_ends)

  -- no name is read back: the cells are none's
  pub spells_none : None ≡ name_placed 0 (name_here text) → false ≡ is_name_cells high low
  unfolding name_placed
  spells_none f = same_test false (is_name_cells high low) (λ h. absurd (clash h refl)) (λ h. absurd (let z : ◌≡◌ {A = ℕ} 0 1 = cc (ap (name_placed 0) (back h)) in omega arith))

  -- a name is read back: the cells are a name's where they are its cells
  pub spells_some : (h l n : ℕ) → Some (h, l, n) ≡ name_placed 0 (name_here text) → (eqb h high && eqb l low) ≡ is_name_cells high low
  unfolding name_placed
  spells_some h l n f = same_test (eqb h high && eqb l low) (is_name_cells high low)
      (λ t.
      let p = both (eqb h high) (eqb l low) t
      in let r = placed (name_here text) 0 h l n f
      in rw (eqb-true h high p.0, eqb-true l low p.1) at (name_found text h l r.width r.is).cells)
      (λ t.
      let p = name_parts _ _ _ _ _ _ (f ∙ ap (name_placed 0) (back t))
      in simp (eq-eqb h high p.high, eq-eqb l low p.low))

  pub spells_high : (h l n : ℕ) → Some (h, l, n) ≡ name_placed 0 (name_here text) → h ≡ high → eqb l low ≡ is_name_cells high low
  spells_high h l n f t = (simp (eq-eqb h high t)) ∙ spells_some h l n f

  pub spells_other : (h l n : ℕ) → Some (h, l, n) ≡ name_placed 0 (name_here text) → (h ≡ high → ⊥) → eqb h high ≡ is_name_cells high low
  spells_other h l n f t = (simp (ne_eqb h high t)) ∙ spells_some h l n f
