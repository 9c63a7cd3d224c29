-- In admitted rows no edge stands twice. Assumes nothing.
use Prim.Native.Nat.{ℕ}
use mathlib.Core.Path.{◌≡◌}
use mathlib.Core.Bool.{true, false, not}
use mathlib.Core.Logic.{⊎_elim}
use mathlib.Core.List.Memᴰ
use mathlib.Core.List.{List, [], ◌∷◌}
use Rattle.scope_graph.specs.Language.{◌∈◌}
use Rattle.scope_graph.specs.Listing.{Pairwise}
use Rattle.scope_graph.proofs.Lists.{here, there, and_right, not_is}
use Rattle.graph_rows.specs.Format.{edges, sections, section_at, edge_section}
use Rattle.graph_rows.specs.Admission.{Row, Sofar, taken, ascends, same_edge, repeats, follows}
use Rattle.graph_rows.proofs.LookBackLaws.{none_repeated}
use Rattle.graph_rows.proofs.DecodeWay.{AdmittedRows}
use Rattle.graph_rows.proofs.DecodeRows.{passed}

not_repeated : (letters : List ℕ) (own : List Row) (row : Row) → follows (section_at edge_section).sequence (section_at edge_section).key letters own row ≡ true → repeats own row ≡ false
unfolding section_at sections edges follows
not_repeated letters own row h = not_is _ (and_right (ascends (0 ∷ 1 ∷ 3 ∷ 2 ∷ []) own row) (not (repeats own row)) h)

-- admitted edges: each is another than all above it, and than all that come later
pub rows_apart : (form : ℕ) (st : Sofar) (rows : List Row) → AdmittedRows form edge_section st rows
    → ((a row : Row) → a ∈ st.own → row ∈ rows → same_edge a row ≡ false) × Pairwise (λ (a b : Row). same_edge a b ≡ false) rows
unfolding taken
rows_apart form st [] h = ((λ a row m n. absurd (Memᴰ.not-nil n)), tt)
rows_apart form st (row ∷ rows) h =
    let p = passed form edge_section st row h.0 in
    let new = none_repeated st.own row (not_repeated st.letters st.own row p.follow) in
    let r = rows_apart form (taken edge_section st row) rows h.2 in (
      (λ a later m n. ⊎_elim (λ e. rw e (new a m)) (λ k. r.0 a later (there m) k) (Memᴰ.cases_cons n)),
      ((λ later m. r.0 row later here m), r.1),
    )
