-- Laws of what is counted of the rows so far (specs/Counting). Assumes nothing.
use Prim.Native.Nat.{ℕ, zero, suc, ◌+◌, ◌*◌, ◌≤◌, ◌<◌}
use mathlib.Core.Path.{◌≡◌, refl}
use mathlib.Core.Bool.{Bool, true, false}
use native.Mathlib.Omega.{arith}
use borrow.Author.Tests.{eqb-true, eqb-false, ne_eqb, ltb-true}
use lib.Dec.{eqb, ltb}
use Rattle.graph_rows.specs.declared.rows.Counts.{Counts}
use Rattle.graph_rows.specs.Format.{section_at, labels, pairs, transitions, accepts, scope_count, edges, declarations, open_pairs, queries, past_last, sections}
use Rattle.graph_rows.specs.Admission.{Row, Sofar, counted, unless, admission}
use Rattle.graph_rows.specs.Counting.{Placed, counts_after, room_before, counts_begun}
use native.Mathlib.Numerals.{add-one}

-- the counts after a row, by the section
module _ (k : ℕ) (c : Counts) (v : ℕ) where
  pub after_label : k ≡ 0 → record { labels = c.labels + 1; pairs = c.pairs; scopes = c.scopes; rows = c.rows + 1 } ≡ counts_after k c v
  unfolding counts_after counted
  after_label e = rw e

  pub after_pair : k ≡ 1 → record { labels = c.labels; pairs = c.pairs + 1; scopes = c.scopes; rows = c.rows + 1 } ≡ counts_after k c v
  unfolding counts_after counted
  after_pair e = rw e

  pub after_count : k ≡ 4 → record { labels = c.labels; pairs = c.pairs; scopes = v; rows = c.rows + 1 } ≡ counts_after k c v
  unfolding counts_after counted
  after_count e = rw e

  pub after_other : (k ≡ 0 → ⊥) → (k ≡ 1 → ⊥) → (k ≡ 4 → ⊥) → record { labels = c.labels; pairs = c.pairs; scopes = c.scopes; rows = c.rows + 1 } ≡ counts_after k c v
  unfolding counts_after counted
  after_other a b d = rw (ne_eqb k 0 a, ne_eqb k 1 b, ne_eqb k 4 d)

-- the counts still fit
pub placed_after : (k n : ℕ) (c : Counts) (v : ℕ) → Placed k n c → Placed k (n + 6) (counts_after k c v)
unfolding counts_after counted
placed_after k n c v p = go (eqb k 0) (eqb k 1) refl refl
  where
    go : (a b : Bool) → eqb k 0 ≡ a → eqb k 1 ≡ b → Placed k (n + 6) (record { labels = counted a (c.labels + 1) c.labels; pairs = counted b (c.pairs + 1) c.pairs; scopes = counted (eqb k 4) v c.scopes; rows = c.rows + 1 })
    go true true d e = let x : k ≡ 0 = eqb-true k 0 d in let y : k ≡ 1 = eqb-true k 1 e in absurd (omega arith)
    go true false d e =
        let x : k ≡ 0 = eqb-true k 0 d in
        let q : n ≡ 1 + 6 * c.labels + 6 * c.pairs = p.early (omega arith) in
        record { early = λ h. omega arith; first = λ h. p.first h; within = omega arith; rowed = omega (arith, p.rowed) }
    go false true d e =
        let y : k ≡ 1 = eqb-true k 1 e in
        let q : n ≡ 1 + 6 * c.labels + 6 * c.pairs = p.early (omega arith) in
        record { early = λ h. omega arith; first = λ h. absurd (omega arith); within = omega arith; rowed = omega (arith, p.rowed) }
    go false false d e =
        let x : k ≡ 0 → ⊥ = eqb-false k 0 d in
        let y : k ≡ 1 → ⊥ = eqb-false k 1 e in
        record { early = λ h. absurd (omega arith); first = λ h. absurd (omega arith); within = omega (arith, p.within); rowed = omega (arith, p.rowed) }

-- an admitted row had room
pub admitted_room : (form k : ℕ) (st : Sofar) (row : Row) → admission form k st row ≡ 0 → st.rows < (section_at k).most
unfolding admission unless
admitted_room form k st row = go (ltb st.rows (section_at k).most) refl
  where
    go : (b : Bool) → ltb st.rows (section_at k).most ≡ b → admission form k st row ≡ 0 → st.rows < (section_at k).most
    go true e z = ltb-true st.rows (section_at k).most e
    go false e z = let f : admission form k st row ≡ 5 = rw e in absurd (omega arith)

-- the counts where a section begins
abbrev pub fresh : Counts → Counts
fresh c = record { labels = c.labels; pairs = c.pairs; scopes = c.scopes; rows = 0 }

pub placed_fresh : (k n : ℕ) (c : Counts) → Placed k n c → Placed k n (fresh c)
placed_fresh k n c p = record { early = p.early; first = p.first; within = p.within; rowed = omega (arith, p.within) }

-- the counts fit the next section
pub placed_next : (k n : ℕ) (c : Counts) → Placed k n c → Placed (k + 1) n c
placed_next k n c p = record { early = λ h. p.early (omega arith); first = λ h. absurd (omega arith); within = p.within; rowed = p.rowed }

-- the room of the sections above
pub room_next : (k : ℕ) → room_before (k + 1) ≡ room_before k + 6 * (section_at k).most
unfolding room_before
room_next k = rw (add-one k)

pub room_below : (k : ℕ) → k ≤ 9 → room_before k ≤ 12271
unfolding room_before labels pairs transitions accepts scope_count edges declarations open_pairs queries past_last sections section_at
room_below zero h = omega arith
room_below (suc zero) h = omega arith
room_below (suc (suc zero)) h = omega arith
room_below (suc (suc (suc zero))) h = omega arith
room_below (suc (suc (suc (suc zero)))) h = omega arith
room_below (suc (suc (suc (suc (suc zero))))) h = omega arith
room_below (suc (suc (suc (suc (suc (suc zero)))))) h = omega arith
room_below (suc (suc (suc (suc (suc (suc (suc zero))))))) h = omega arith
room_below (suc (suc (suc (suc (suc (suc (suc (suc zero)))))))) h = omega arith
room_below (suc (suc (suc (suc (suc (suc (suc (suc (suc zero))))))))) h = omega arith
room_below (suc (suc (suc (suc (suc (suc (suc (suc (suc (suc k)))))))))) h = absurd (omega arith)

pub placed_start : Placed 0 1 (record { labels = 0; pairs = 0; scopes = 0; rows = 0 })
placed_start = record { early = λ h. refl; first = λ h. refl; within = omega arith; rowed = omega arith }

-- the counts when a section begins: they fit, and have no row
pub placed_begun : (k p : ℕ) (c : Counts) → Placed k p c → Placed k p (counts_begun c)
unfolding counts_begun
placed_begun k p c d = placed_fresh k p c d

pub rows_begun : (c : Counts) → (counts_begun c).rows ≡ 0
unfolding counts_begun
rows_begun c = refl

-- the room of a section, and the cells before the next one
pub section_room : (k p : ℕ) → k < 9 → p ≤ room_before k → p + 6 * (section_at k).most ≤ 12271
section_room k p h l = omega (arith, room_next k, room_below (k + 1) (omega arith))

pub next_room : (k p cells rows : ℕ) → p ≤ room_before k → rows ≤ (section_at k).most → cells ≡ p + 6 * rows → cells ≤ room_before (k + 1)
next_room k p cells rows l m e = omega (arith, room_next k)

-- the form stands before the sections
pub first_room : 1 ≤ room_before 0
unfolding room_before
first_room = omega arith
