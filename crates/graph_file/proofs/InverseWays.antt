-- Going through a file one way can be gone through the other way, and gives back what was used up.
-- Said once for any two ways that mirror each other row by row; reading and writing are then the
-- two instances. Assumes nothing.
use Prim.Native.Nat.{ℕ, zero, suc, ◌+◌, ◌<◌}
use mathlib.Core.Path.{◌≡◌, refl, sym, ap, ◌∙◌}
use mathlib.Core.List.{List, [], ◌∷◌, ◌++◌, append_assoc, append-nil}
use mathlib.Core.Bool.{Bool, true, false, not}
use native.Mathlib.Omega.{arith}
use lib.Dec.{ltb}
use Rattle.text_field.proofs.ByteLaws.{clash}
use Rattle.graph_rows.specs.Format.{section_at, shape_at}
use Rattle.text_field.specs.Outcome.{done, and_then, refuse_if}
use Rattle.graph_rows.specs.Admission.{blank, Sofar, nothing, taken, admission}
use Rattle.graph_rows.specs.Values.{formed}
use Rattle.graph_rows.specs.Order.{order_fault}
use Rattle.graph_rows.specs.Way.{Piece, Way, Stage, if_admitted, after_row, one_row, through_rows, after_names, enough, through_section, is_empty, through_sections, ordered, at_start, whole}
use Rattle.graph_file.proofs.InverseOutcome.{admitted}
use Rattle.text_field.proofs.OutcomeLaws.{done_same, not_done, went, passed}
use Rattle.graph_file.proofs.InverseSofar.{Sound, sound_nothing, sound_begun, Admitted, row_admitted, sound_taken}
use Rattle.graph_rows.proofs.WayLaws.{at, rows_off, rows_take}

-- A row gone through one way: what it used up, that it can be written, and that the other way goes
-- from what it made to what it used up.
pub record RowBack (form : ℕ) (v : Way) (k : ℕ) (letters s : List ℕ) (p : Piece) : Type 0 where
  pub used : List ℕ
  pub whole : s ≡ used ++ p.rest
  pub formed : formed (shape_at form k).row p.row ≡ true
  pub more : (t : List ℕ) → v.more k (p.made ++ t) ≡ true
  pub back : (t : List ℕ) → v.row k letters (p.made ++ t) ≡ done (record { row = p.row; made = used; rest = t })

-- a names line gone through one way, and back by the other
pub record NamesBack (v : Way) (k : ℕ) (s : List ℕ) (p : Piece) : Type 0 where
  pub used : List ℕ
  pub whole : s ≡ used ++ p.rest
  pub back : (t : List ℕ) → v.names k (p.made ++ t) ≡ done (record { row = blank; made = used; rest = t })

-- Way v mirrors way w, in a file of the same form. `Outer left k t`: t may be what w makes of
-- `left` sections from section k on; `Inner left k n t`: what it makes of at most n rows of section
-- k and the `left` sections after it.
pub record Mirror (w v : Way) : Type 1 where
  pub same : v.form ≡ w.form
  pub Outer : ℕ → ℕ → List ℕ → Type 0
  pub Inner : ℕ → ℕ → ℕ → List ℕ → Type 0
  pub ended : (k : ℕ) → Outer 0 k []
  pub resting : (left k n : ℕ) (t : List ℕ) → Outer left (suc k) t → Inner left k n t
  pub halts : (left k : ℕ) (t : List ℕ) → Outer left (suc k) t → v.more k t ≡ false
  pub names : (k : ℕ) (s : List ℕ) (p : Piece) → w.names k s ≡ done p → NamesBack v k s p
  pub names_outer : (left k : ℕ) (s : List ℕ) (p : Piece) (t : List ℕ) → k < 9 → w.names k s ≡ done p → Inner left k (section_at k).most t
      → Outer (suc left) k (p.made ++ t)
  pub row : (k : ℕ) (st : Sofar) (s : List ℕ) (p : Piece) → k < 9 → Sound st → w.more k s ≡ true → w.row k st.letters s ≡ done p
      → Admitted w.form k st p.row → RowBack w.form v k st.letters s p
  pub row_inner : (left k n : ℕ) (st : Sofar) (s : List ℕ) (p : Piece) (t : List ℕ) → Sound st → w.more k s ≡ true
      → w.row k st.letters s ≡ done p → Admitted w.form k st p.row → Inner left k n t → Inner left k (suc n) (p.made ++ t)

record RowTaken (w : Way) (n k : ℕ) (g g' : Stage) : Type 0 where
  piece : Piece
  came : w.row k g.sofar.letters g.rest ≡ done piece
  allowed : admission w.form k g.sofar piece.row ≡ 0
  further : through_rows w n k (after_row k g piece) ≡ done g'

rows_taken : (w : Way) (n k : ℕ) (g g' : Stage) → w.more k g.rest ≡ true → through_rows w (suc n) k g ≡ done g' → RowTaken w n k g g'
unfolding through_rows one_row
rows_taken w n k g g' h e =
    let o = went (one_row w k g) (through_rows w n k) g' (rw (h, through_rows) at e)
    in let s = went (w.row k g.sofar.letters g.rest) (λ p. if_admitted (admission w.form k g.sofar p.row) (done (after_row k g p))) o.gained o.before
    in let a = admitted (admission w.form k g.sofar s.gained.row) (done (after_row k g s.gained)) o.gained s.after
    in record { piece = s.gained; came = s.before; allowed = a.0; further = rw (done_same (after_row k g s.gained) o.gained a.1) o.after }

rows_out : (w : Way) (k : ℕ) (g g' : Stage) → through_rows w zero k g ≡ done g' → ⊥
unfolding through_rows
rows_out w k g g' e = not_done 5 g' e

module _ (w v : Way) (M : Mirror w v) where
  record RowsBack (left n k : ℕ) (g g' : Stage) : Type 0 where
    used : List ℕ
    made : List ℕ
    whole : g.rest ≡ used ++ g'.rest
    grown : g'.made ≡ g.made ++ made
    sound : Sound g'.sofar
    inner : (t : List ℕ) → M.Outer left (suc k) t → M.Inner left k n (made ++ t)
    back : (m t : List ℕ) → M.Outer left (suc k) t → through_rows v (suc n) k (at g.sofar m (made ++ t)) ≡ done (at g'.sofar (m ++ used) t)

  rows_none : (left n k : ℕ) (g g' : Stage) → Sound g.sofar → g ≡ g' → RowsBack left n k g g'
  rows_none left n k g g' S e =
      record {
        used = [];
        made = [];
        whole = ap (λ (z : Stage). z.rest) e;
        grown = sym (ap (λ (z : Stage). z.made) e) ∙ sym (append-nil g.made);
        sound = rw e at S;
        inner = λ t o. M.resting left k n t o;
        back = λ m t o. rows_off v n k (at g.sofar m t) (M.halts left k t o) ∙ rw (append-nil m, ← e);
      }

  rows_one : (left n k : ℕ) (g g' : Stage) (p : Piece) → k < 9 → Sound g.sofar → w.more k g.rest ≡ true
      → w.row k g.sofar.letters g.rest ≡ done p → admission w.form k g.sofar p.row ≡ 0
      → (Sound (taken k g.sofar p.row) → RowsBack left n k (after_row k g p) g') → RowsBack left (suc n) k g g'
  unfolding after_row
  rows_one left n k g g' p l S h e a next =
      let A = row_admitted w.form k g.sofar p.row a
      in let b = M.row k g.sofar g.rest p l S h e A
      in let r = next (sound_taken w.form k g.sofar p.row S b.formed A)
      in record {
        used = b.used ++ r.used;
        made = p.made ++ r.made;
        whole = b.whole ∙ ap (λ (z : List ℕ). b.used ++ z) r.whole ∙ sym (append_assoc b.used r.used g'.rest);
        grown = r.grown ∙ append_assoc g.made p.made r.made;
        sound = r.sound;
        inner = λ t o. rw (append_assoc p.made r.made t) (M.row_inner left k n g.sofar g.rest p (r.made ++ t) S h e A (r.inner t o));
        back = λ m t o.
            ap (λ (z : List ℕ). through_rows v (suc (suc n)) k (at g.sofar m z)) (append_assoc p.made r.made t)
            ∙ rows_take v (suc n) k (at g.sofar m (p.made ++ (r.made ++ t))) (record { row = p.row; made = b.used; rest = r.made ++ t }) (b.more (r.made ++ t)) (b.back (r.made ++ t)) (ap (λ (f : ℕ). admission f k g.sofar p.row) M.same ∙ a)
            ∙ r.back (m ++ b.used) t o
            ∙ rw (append_assoc m b.used r.used);
      }

  -- the rows of section k, gone back
  rows_back_lem : (left n k : ℕ) (g g' : Stage) → k < 9 → Sound g.sofar → through_rows w (suc n) k g ≡ done g' → RowsBack left n k g g'
  rows_back_lem left zero k g g' l S e = by (w.more k g.rest) refl
    where
      by : (t : Bool) → w.more k g.rest ≡ t → RowsBack left 0 k g g'
      by true t = let r = rows_taken w 0 k g g' t e in absurd (rows_out w k (after_row k g r.piece) g' r.further)
      by false t = rows_none left 0 k g g' S (done_same g g' (sym (rows_off w 0 k g t) ∙ e))
  rows_back_lem left (suc n) k g g' l S e = by (w.more k g.rest) refl (λ h. rows_back_lem left n k h g' l)
    where
      by : (t : Bool) → w.more k g.rest ≡ t → ((h : Stage) → Sound h.sofar → through_rows w (suc n) k h ≡ done g' → RowsBack left n k h g')
          → RowsBack left (suc n) k g g'
      by true t next =
          let r = rows_taken w (suc n) k g g' t e
          in rows_one left n k g g' r.piece l S t r.came r.allowed (λ T. next (after_row k g r.piece) (unfold after_row in T) r.further)
      by false t next = rows_none left (suc n) k g g' S (done_same g g' (sym (rows_off w (suc n) k g t) ∙ e))

  record SectionsBack (left k : ℕ) (g g' : Stage) : Type 0 where
    made : List ℕ
    grown : g'.made ≡ g.made ++ made
    outer : M.Outer left k made
    back : (m : List ℕ) → through_sections v left k (at g.sofar m made) ≡ done (at g'.sofar (m ++ g.rest) [])

  empty : (s : List ℕ) → not (is_empty s) ≡ false → s ≡ []
  unfolding is_empty
  empty [] h = refl
  empty (x ∷ s) h = absurd (clash refl h)

  sections_none : (k : ℕ) (g g' : Stage) → through_sections w 0 k g ≡ done g' → SectionsBack 0 k g g'
  unfolding through_sections refuse_if is_empty
  sections_none k g g' e =
      let p = passed (not (is_empty g.rest)) 2 (done g) g' e
      in let q = done_same g g' p.1
      in record {
        made = [];
        grown = sym (ap (λ (z : Stage). z.made) q) ∙ sym (append-nil g.made);
        outer = M.ended k;
        back = λ m. rw (empty g.rest p.0, append-nil m, ← q);
      }

  section_one : (left k : ℕ) (g h g' : Stage) (p : Piece) → k < 9 → w.names k g.rest ≡ done p
      → RowsBack left (section_at k).most k (after_names g p) h → ltb h.sofar.rows (section_at k).least ≡ false → SectionsBack left (suc k) h g'
      → SectionsBack (suc left) k g g'
  unfolding through_sections through_section after_names enough and_then refuse_if
  section_one left k g h g' p l e r n s =
      let b = M.names k g.rest p e
      in record {
        made = p.made ++ (r.made ++ s.made);
        grown = s.grown ∙ ap (λ (z : List ℕ). z ++ s.made) r.grown ∙ append_assoc (g.made ++ p.made) r.made s.made ∙ append_assoc g.made p.made (r.made ++ s.made);
        outer = M.names_outer left k g.rest p (r.made ++ s.made) l e (r.inner s.made s.outer);
        back = λ m. rw (b.back (r.made ++ s.made), r.back (m ++ b.used) s.made s.outer, n) (s.back ((m ++ b.used) ++ r.used) ∙ ap (λ (z : List ℕ). done (at g'.sofar z [])) (all m b.used r.used h.rest p.rest g.rest r.whole b.whole));
      }
    where
      all : (m a b c d e : List ℕ) → d ≡ b ++ c → e ≡ a ++ d → ((m ++ a) ++ b) ++ c ≡ m ++ e
      all m a b c d e i j = append_assoc (m ++ a) b c ∙ append_assoc m a (b ++ c) ∙ rw (j, i)

  -- the sections from section k on, gone back
  sections_back : (left k : ℕ) (g g' : Stage) → k + left ≡ 9 → Sound g.sofar → through_sections w left k g ≡ done g' → SectionsBack left k g g'
  unfolding through_sections through_section enough after_names
  sections_back zero k g g' l S e = sections_none k g g' e
  sections_back (suc left) k g g' l S e =
      let s = went (through_section w k g) (through_sections w left (suc k)) g' e
      in let a = went (w.names k g.rest) (λ p. and_then (through_rows w (suc (section_at k).most) k (after_names g p)) (enough k)) s.gained s.before
      in let b = went (through_rows w (suc (section_at k).most) k (after_names g a.gained)) (enough k) s.gained a.after
      in let c = passed (ltb b.gained.sofar.rows (section_at k).least) 2 (done b.gained) s.gained b.after
      in let q = done_same b.gained s.gained c.1
      in let r = rows_back_lem left (section_at k).most k (after_names g a.gained) b.gained (omega arith) (sound_begun g.sofar S) b.before
      in section_one left k g b.gained g' a.gained (omega arith) a.before r c.0 (sections_back left (suc k) b.gained g' (omega arith) r.sound (rw q s.after))

  -- the whole file gone through, and back
  pub record WholeBack (m s : List ℕ) (g : Stage) : Type 0 where
    pub made : List ℕ
    pub grown : g.made ≡ m ++ made
    pub outer : M.Outer 9 0 made
    pub back : (m' : List ℕ) → whole v m' made ≡ done (record { sofar = g.sofar; made = m' ++ s; rest = [] })

  pub whole_back : (m s : List ℕ) (g : Stage) → whole w m s ≡ done g → WholeBack m s g
  unfolding whole at_start ordered and_then refuse_if
  whole_back m s g e =
      let a = went (through_sections w 9 0 (at nothing m s)) ordered g e
      in let c = passed (order_fault a.gained.sofar.pairs) 6 (done a.gained) g a.after
      in let q = done_same a.gained g c.1
      in let b = sections_back 9 0 (at nothing m s) a.gained refl sound_nothing a.before
      in record {
        made = b.made;
        grown = ap (λ (z : Stage). z.made) (sym q) ∙ b.grown;
        outer = b.outer;
        back = λ m'. rw (b.back m', c.0, q);
      }
