-- The rows of each section in an admitted table. One proof over the section. Assumes nothing.
use Prim.Native.Nat.{ℕ, suc, ◌+◌, ◌≤◌, ◌<◌}
use mathlib.Core.Path.{◌≡◌, refl, sym, ap, subst, ◌∙◌}
use mathlib.Core.Bool.{Bool, true, false}
use mathlib.Core.Logic.{inl, inr, ⊎_elim}
use mathlib.Core.List.{List, [], ◌∷◌, ◌++◌, append-nil, append_assoc}
use native.Mathlib.Omega.{arith}
use lib.Dec.{eqb}
use lib.ListN.{length}
use borrow.Author.Tests.{eqb-true, ne_eqb, eqb-false}
use Rattle.scope_graph.proofs.Lists.{Two}
use Rattle.graph_rows.specs.Format.{section_at}
use Rattle.graph_rows.specs.Admission.{Row, Sofar, begun, taken}
use Rattle.graph_rows.specs.Decode.{kept_if, rows_among}
use Rattle.graph_rows.proofs.DecodeWay.{taken_all, AdmittedRows, cells_of, table_cells, sofar_after, AdmittedSections}
use Rattle.graph_rows.proofs.DecodeRows.{Fresh, Grows, grows_then, rows_grow}

-- the rows of section j, where the lists are the sections' from section k on
unfoldable pub joined_if : Bool → List Row → List Row → List Row
joined_if true rows more = rows ++ more
joined_if false rows more = more

unfoldable pub gathered : ℕ → ℕ → List (List Row) → List Row
gathered j k [] = []
gathered j k (rows ∷ rest) = joined_if (eqb k j) rows (gathered j (suc k) rest)

-- the table's cells hold just these rows
pub among_row : (j k : ℕ) (row more : List ℕ) → length row ≡ 5 → rows_among j (k ∷ (row ++ more)) ≡ kept_if (eqb k j) row (rows_among j more)
unfolding rows_among
among_row j k [] more h = absurd (omega arith)
among_row j k (a ∷ []) more h = absurd (omega arith)
among_row j k (a ∷ b ∷ []) more h = absurd (omega arith)
among_row j k (a ∷ b ∷ c ∷ []) more h = absurd (omega arith)
among_row j k (a ∷ b ∷ c ∷ d ∷ []) more h = absurd (omega arith)
among_row j k (a ∷ b ∷ c ∷ d ∷ e ∷ []) more h = refl
among_row j k (a ∷ b ∷ c ∷ d ∷ e ∷ f ∷ l) more h = absurd (omega arith)

pub kept_joined : (t : Bool) (row : Row) (rows more : List Row) → kept_if t row (joined_if t rows more) ≡ joined_if t (row ∷ rows) more
unfolding kept_if joined_if
kept_joined true row rows more = refl
kept_joined false row rows more = refl

pub joined_none : (t : Bool) (more : List Row) → more ≡ joined_if t [] more
unfolding joined_if
joined_none true more = refl
joined_none false more = refl

among_rows : (form j k : ℕ) (st : Sofar) (rows : List Row) (more : List ℕ) → AdmittedRows form k st rows
    → rows_among j (cells_of k rows ++ more) ≡ joined_if (eqb k j) rows (rows_among j more)
unfolding cells_of
among_rows form j k st [] more h = joined_none (eqb k j) (rows_among j more)
among_rows form j k st (row ∷ rows) more h =
    ap (λ (l : List ℕ). rows_among j (k ∷ l)) (append_assoc row (cells_of k rows) more)
    ∙ among_row j k row (cells_of k rows ++ more) h.1
    ∙ ap (kept_if (eqb k j) row) (among_rows form j k (taken k st row) rows more h.2)
    ∙ kept_joined (eqb k j) row rows (rows_among j more)

pub among_sections : (form j k : ℕ) (st : Sofar) (sections : List (List Row)) → AdmittedSections form k st sections
    → rows_among j (table_cells k sections) ≡ gathered j k sections
unfolding table_cells gathered rows_among
among_sections form j k st [] h = refl
among_sections form j k st (rows ∷ rest) h =
    among_rows form j k (begun st) rows (table_cells (suc k) rest) h.0
    ∙ ap (joined_if (eqb k j) rows) (among_sections form j (suc k) (taken_all k (begun st) rows) rest h.2)

-- section j has none among the sections after it
pub gathered_later : (j k : ℕ) (sections : List (List Row)) → j < k → gathered j k sections ≡ []
unfolding gathered joined_if
gathered_later j k [] h = refl
gathered_later j k (rows ∷ rest) h =
    rw (ne_eqb k j (λ e. omega arith)) (gathered_later j (suc k) rest (omega arith))

-- A section of an admitted table: its rows after those above it, and what the table's end adds.
pub record SectionAt (form : ℕ) (f : Sofar) (j : ℕ) (rows : List Row) : Type 0 where
  pub before : Sofar
  pub admitted : AdmittedRows form j (begun before) rows
  pub enough : (section_at j).least ≤ length rows
  pub fresh : Fresh j (begun before)
  pub grows : Grows (taken_all j (begun before) rows) f

next_fresh : (k : ℕ) (st : Sofar) → Fresh k st → Fresh (suc k) (begun st)
unfolding begun
next_fresh k st (inl z) = inl z
next_fresh k st (inr (inl l)) = inr (inl (omega arith))
next_fresh k st (inr (inr m)) = inr (inl (let e = m.0 in omega arith))

begun_grows : (st f : Sofar) → Grows (begun st) f → Grows st f
unfolding begun
begun_grows st f g = record { labels = g.labels; scopes = g.scopes }

sections_grow : (form k : ℕ) (st : Sofar) (sections : List (List Row)) → AdmittedSections form k st sections → Fresh k (begun st) → Grows st (sofar_after k st sections)
unfolding sofar_after
sections_grow form k st [] h f = record { labels = omega arith; scopes = omega arith }
sections_grow form k st (rows ∷ rest) h f =
    let m = taken_all k (begun st) rows in
    let g = rows_grow form k (begun st) rows h.0 f in
    begun_grows st (sofar_after (suc k) m rest)
    (grows_then (begun st) m (sofar_after (suc k) m rest) g.0 (sections_grow form (suc k) m rest h.2 (next_fresh k m g.1)))

pub section_at_lem : (form j k : ℕ) (st : Sofar) (sections : List (List Row)) → AdmittedSections form k st sections → Fresh k (begun st) → k ≤ j → j < k + length sections
    → SectionAt form (sofar_after k st sections) j (gathered j k sections)
unfolding sofar_after gathered joined_if
section_at_lem form j k st [] h f l m = absurd (omega arith)
section_at_lem form j k st (rows ∷ rest) h f l m =
    let after = taken_all k (begun st) rows in
    let g = rows_grow form k (begun st) rows h.0 f in
    let n = next_fresh k after g.1 in
    ⊎_elim
    (λ e.
    let same = eqb-true k j e in
    let here : SectionAt form (sofar_after (suc k) after rest) k rows = record {
      before = st;
      admitted = h.0;
      enough = h.1;
      fresh = f;
      grows = sections_grow form (suc k) after rest h.2 n;
    } in
    rw (e, gathered_later j (suc k) rest (omega arith), append-nil rows) (subst (λ x. SectionAt form (sofar_after (suc k) after rest) x rows) same here))
    (λ e. rw e (section_at_lem form j (suc k) after rest h.2 n (let d = eqb-false k j e in omega arith) (omega arith)))
    (Two (eqb k j))

-- What the table's end has of some field of the rows so far is what the rows of one section, number
-- s, bring to it one by one.
unfoldable pub fold : {A : Type 0} → (A → Row → A) → A → List Row → A
fold step a [] = a
fold step a (row ∷ rows) = fold step (step a row) rows

module _ {A : Type 0} (get : Sofar → A) (step : A → Row → A) (s : ℕ)
    (same : (k : ℕ) (st : Sofar) (row : Row) → eqb k s ≡ true → get (taken k st row) ≡ step (get st) row)
    (other : (k : ℕ) (st : Sofar) (row : Row) → eqb k s ≡ false → get (taken k st row) ≡ get st)
    (start : (st : Sofar) → get (begun st) ≡ get st) where
  fold_append : (a : A) (rows more : List Row) → fold step a (rows ++ more) ≡ fold step (fold step a rows) more
  unfolding fold
  fold_append a [] more = refl
  fold_append a (row ∷ rows) more = fold_append (step a row) rows more

  fold_same : (k : ℕ) (st : Sofar) (rows : List Row) → eqb k s ≡ true → get (taken_all k st rows) ≡ fold step (get st) rows
  unfolding fold taken_all
  fold_same k st [] e = refl
  fold_same k st (row ∷ rows) e = fold_same k (taken k st row) rows e ∙ ap (λ (a : A). fold step a rows) (same k st row e)

  fold_other : (k : ℕ) (st : Sofar) (rows : List Row) → eqb k s ≡ false → get (taken_all k st rows) ≡ get st
  unfolding taken_all
  fold_other k st [] e = refl
  fold_other k st (row ∷ rows) e = fold_other k (taken k st row) rows e ∙ other k st row e

  fold_rows : (k : ℕ) (st : Sofar) (rows more : List Row) → fold step (get (taken_all k (begun st) rows)) more ≡ fold step (get st) (joined_if (eqb k s) rows more)
  unfolding joined_if
  fold_rows k st rows more =
      ⊎_elim
      (λ e. ap (λ (a : A). fold step a more) (fold_same k (begun st) rows e ∙ ap (λ (a : A). fold step a rows) (start st)) ∙ sym (fold_append (get st) rows more) ∙ rw e)
      (λ e. ap (λ (a : A). fold step a more) (fold_other k (begun st) rows e ∙ start st) ∙ rw e)
      (Two (eqb k s))

  pub folded : (k : ℕ) (st : Sofar) (sections : List (List Row)) → get (sofar_after k st sections) ≡ fold step (get st) (gathered s k sections)
  unfolding sofar_after gathered fold
  folded k st [] = refl
  folded k st (rows ∷ rest) =
      folded (suc k) (taken_all k (begun st) rows) rest ∙ fold_rows k st rows (gathered s (suc k) rest)
