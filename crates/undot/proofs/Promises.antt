-- The promises of a drawing put into a file. Assumes nothing.
use Prim.Native.Nat.{ℕ, ◌≤◌, ◌<◌}
use mathlib.Core.Path.{◌≡◌, refl, sym, ap, subst, ◌∙◌}
use mathlib.Core.List.{List, [], ◌∷◌, ◌++◌, append_assoc}
use mathlib.Core.Bool.{true, false}
use mathlib.Core.Logic.{◌⊎◌, inl, inr, ⊎_elim}
use native.Mathlib.Omega.{arith}
use lib.ListN.{length}
use Rattle.scope_graph.specs.Language.{◌∈◌}
use Rattle.scope_graph.specs.Listing.{Pairwise}
use Rattle.scope_graph.proofs.Lists.{Two, true_false, map_elim, pairwise_weaken}
use Rattle.text_field.specs.Outcome.{Outcome, refused, done, and_then, refuse_if}
use Rattle.text_field.specs.Answer.{answer}
use Rattle.text_field.proofs.OutcomeLaws.{done_same, not_done}
use Rattle.graph_rows.specs.Format.{section_at, sections, edges, shape_at, shapes_of, has_turns, label_section, edge_section, text_bytes}
use Rattle.graph_rows.specs.Admission.{Row, place, same_edge, key_less}
use Rattle.graph_rows.specs.Tested.{form_in}
use Rattle.graph_rows.specs.Decode.{rows_in, letters_of, scopes_of}
use Rattle.graph_rows.specs.Formed.{scopes_in, FormedRow, FormedSection, FormedTable}
use Rattle.graph_file.specs.File.{read_cells, write_text}
use Rattle.graph_file.proofs.Promises.{read_formed, formed_written, nothing_but_nine}
use Rattle.graph_change.specs.Promises.{Ascending, ChangedAt, scopes_at}
use Rattle.graph_change.proofs.Keys.{less_not_same}
use Rattle.graph_change.proofs.FormedLaws.{formed_replaced}
use Rattle.dot_text.specs.Grammar.{DrawnEdge, Drawing, Drawn}
use Rattle.dot_text.specs.Reading.{drawn}
use Rattle.dot_text.proofs.Answers.{then_none, then_some}
use Rattle.dot_text.proofs.GrammarLaws.{drawn_read}
use Rattle.dot_text.proofs.Promises.{eighteen}
use Rattle.undot.specs.Scopes.{file_scopes}
use Rattle.undot.specs.Edges.{edge_row, rows_with}
use Rattle.undot.specs.Undrawn.{with_edges, drawn_rows, undrawn_text, undrawn_by, undot_of}
use Rattle.undot.specs.Promises.{SameScopes, Fault, past, unknown, again, Faultless, FaultlessAfter, AllFaultless, FirstFault, Refusals, PutOut, Taken, IsPutOut}
use Rattle.undot.proofs.Places.{labels_are}
use Rattle.undot.proofs.Tables.{accepted, not_labels, not_count, not_pairs}
use Rattle.undot.proofs.Joining.{known_is, edge_formed, key_edge}
use Rattle.undot.proofs.ScopesRight.{file_same, same_file}
use Rattle.undot.proofs.EdgesRight.{Rows, no_rows, rows_turn, Went, Stopped, result, fault_told, not_both}

-- The rows of all edges, in place of the table's own.
module _ (cells : List ℕ) (t : FormedTable cells) (es : List DrawnEdge) (rows : List Row) (r : Rows cells es rows) where
  row_formed : (a : Row) → a ∈ rows → FormedRow (length (rows_in label_section cells)) (scopes_at cells) (shape_at (form_in cells) edge_section).row a
  unfolding shape_at shapes_of edge_row scopes_in scopes_of
  row_formed a m =
      let o = map_elim (edge_row (letters_of cells)) es ((r.has a).0 m) in
      let k = known_is (letters_of cells) (scopes_of cells) o.0 (r.known o.0 o.1) in
      subst (FormedRow (length (rows_in label_section cells)) (scopes_at cells) (shape_at (form_in cells) edge_section).row) (sym o.2)
      (edge_formed (has_turns (form_in cells)) (length (rows_in label_section cells)) (scopes_of cells) o.0.from (place o.0.letter (letters_of cells)) o.0.to
      (accepted cells t).scopes_most k.from (omega (arith, k.label, labels_are cells t)) k.to)

  apart : Pairwise (λ (a b : Row). same_edge a b ≡ false) rows
  apart = pairwise_weaken (λ (a b : Row). key_less (section_at edge_section).key a b ≡ true) (λ (a b : Row). same_edge a b ≡ false) rows
      (λ a b m k h. sym (key_edge a b (rows_turn cells es rows r a m) (rows_turn cells es rows r b k)) ∙ less_not_same (section_at edge_section).key a b h) r.ascends

  section : FormedSection (length (rows_in label_section cells)) (scopes_at cells) (form_in cells) edge_section rows
  unfolding section_at sections edges
  section = record { each = row_formed; in_turn = (r.ascends, apart); least = omega arith; most = r.few }

  changed : ChangedAt edge_section rows cells (with_edges cells rows)
  unfolding with_edges
  changed = formed_replaced cells t edge_section (omega arith) not_labels not_count rows section (λ e. not_pairs e)

  -- nothing refuses it but 9, and it is put out
  written : (out : List ℕ) × (write_text (with_edges cells rows) ≡ done out) × PutOut cells es out
  written =
      let w = formed_written (with_edges cells rows) changed.formed in (
        w.0,
        w.1,
        record {
          after = with_edges cells rows;
          read = w.2;
          form = changed.form;
          others = λ k h n. changed.others k h n;
          has = λ a. ((λ m. (r.has a).0 (subst (λ (z : List Row). a ∈ z) changed.own m)), (λ m. subst (λ (z : List Row). a ∈ z) (sym changed.own) ((r.has a).1 m)));
          count = ap length changed.own ∙ r.size;
          ascends = subst (Ascending (section_at edge_section).key) (sym changed.own) r.ascends;
        },
      )

  only_nine : (room n : ℕ) → answer (write_text (with_edges cells rows)) room ≡ refused n → (n ≡ 9) × (room < text_bytes)
  only_nine room n e = nothing_but_nine (with_edges cells rows) changed.formed room n e

-- a fault's number
fault_number : (cells : List ℕ) (above : List DrawnEdge) (e : DrawnEdge) (n : ℕ) → Fault cells above e n → n ≤ 5
fault_number cells above e n f = by f
  where
    by : {m : ℕ} → Fault cells above e m → m ≤ 5
    by (past h) = omega arith
    by (unknown h u) = omega arith
    by (again h u m) = omega arith

-- of edges without a fault each has none
faultless_at : (cells : List ℕ) (above good : List DrawnEdge) (e : DrawnEdge) (below : List DrawnEdge) → FaultlessAfter cells above (good ++ (e ∷ below)) → Faultless cells (above ++ good) e
faultless_at cells above [] e below g = subst (λ (z : List DrawnEdge). Faultless cells z e) (sym (none above)) g.0
  where
    none : (xs : List DrawnEdge) → xs ++ [] ≡ xs
    none [] = refl
    none (x ∷ xs) = ap (λ (z : List DrawnEdge). x ∷ z) (none xs)
faultless_at cells above (x ∷ good) e below g =
    subst (λ (z : List DrawnEdge). Faultless cells z e) (append_assoc above (x ∷ []) good) (faultless_at cells (above ++ (x ∷ [])) good e below g.1)

refused_same : (m n : ℕ) → ◌≡◌ {A = Outcome (List ℕ)} (refused m) (refused n) → m ≡ n
refused_same m n e = cc

module _ (text dot cells : List ℕ) (read : read_cells text ≡ done cells) where
  formed : FormedTable cells
  formed = read_formed text cells read

  by_drawing : undot_of text dot ≡ undrawn_by dot cells
  unfolding undot_of
  by_drawing = sym (then_some cells (read_cells text) (undrawn_by dot) read)

  undrawn : ((d : Drawing) → ¬ Drawn dot d) → undot_of text dot ≡ refused 18
  unfolding undrawn_by
  undrawn none = by_drawing ∙ sym (then_none 18 (drawn dot) (undrawn_text cells) ((eighteen.outside dot).1 none))

  module _ (d : Drawing) (dr : Drawn dot d) where
    abbrev es : List DrawnEdge
    es = d.edges

    abbrev outcome : Outcome (List Row)
    outcome = rows_with (letters_of cells) (scopes_of cells) [] es

    undrawn_is : undot_of text dot ≡ undrawn_text cells d
    unfolding undrawn_by
    undrawn_is = by_drawing ∙ sym (then_some d (drawn dot) (undrawn_text cells) (drawn_read dot d dr))

    other_scopes : file_scopes (scopes_of cells) d.scopes ≡ false → undot_of text dot ≡ refused 19
    unfolding undrawn_text drawn_rows refuse_if and_then
    other_scopes h = undrawn_is ∙ rw h

    same_scopes : file_scopes (scopes_of cells) d.scopes ≡ true → undot_of text dot ≡ and_then outcome (λ rows. write_text (with_edges cells rows))
    unfolding undrawn_text drawn_rows refuse_if
    same_scopes h = undrawn_is ∙ rw h

    -- what comes of it
    went_out : file_scopes (scopes_of cells) d.scopes ≡ true → (w : Went cells [] es outcome) → undot_of text dot ≡ write_text (with_edges cells w.rows)
    went_out h w = same_scopes h ∙ sym (then_some w.rows outcome (λ rows. write_text (with_edges cells rows)) w.is)

    put_out : file_scopes (scopes_of cells) d.scopes ≡ true → Went cells [] es outcome → (out : List ℕ) × (undot_of text dot ≡ done out) × PutOut cells es out
    put_out h w = let x = written cells formed es w.rows w.are in (x.0, went_out h w ∙ x.1, x.2)

    stopped_out : file_scopes (scopes_of cells) d.scopes ≡ true → (s : Stopped cells [] es outcome) → undot_of text dot ≡ refused s.number
    stopped_out h s = same_scopes h ∙ sym (then_none s.number outcome (λ rows. write_text (with_edges cells rows)) s.is)

    first_fault_lem : (s : Stopped cells [] es outcome) → FirstFault cells es s.number
    first_fault_lem s = record { above = s.good; edge = s.edge; below = s.below; whole = s.whole; good = s.faultless; fault = s.fault }

    -- which refusals
    refusals_are : (n : ℕ) → undot_of text dot ≡ refused n
        → ((¬ SameScopes (scopes_of cells) d.scopes) × (n ≡ 19)) ⊎ (SameScopes (scopes_of cells) d.scopes × FirstFault cells es n)
    refusals_are n e =
        ⊎_elim
        (λ (h : file_scopes (scopes_of cells) d.scopes ≡ true).
        ⊎_elim
        (λ w. let x = put_out h w in absurd (not_done n x.0 (sym e ∙ x.1)))
        (λ s. inr (file_same (scopes_of cells) d.scopes h, subst (FirstFault cells es) (refused_same s.number n (sym (stopped_out h s) ∙ e)) (first_fault_lem s)))
        (result cells [] [] (no_rows cells) es))
        (λ (h : file_scopes (scopes_of cells) d.scopes ≡ false).
        inl ((λ q. true_false (same_file (scopes_of cells) d.scopes q) h), refused_same n 19 (sym e ∙ other_scopes h)))
        (Two (file_scopes (scopes_of cells) d.scopes))

    not_eighteen : ¬ (undot_of text dot ≡ refused 18)
    not_eighteen e =
        ⊎_elim (λ a. let q = a.1 in omega arith)
        (λ b. let f = b.1 in let q = fault_number cells f.above f.edge 18 f.fault in omega arith) (refusals_are 18 e)

    nineteen_tells : (undot_of text dot ≡ refused 19 → ¬ SameScopes (scopes_of cells) d.scopes) × (¬ SameScopes (scopes_of cells) d.scopes → undot_of text dot ≡ refused 19)
    nineteen_tells = (
      (λ e. ⊎_elim (λ a. a.0) (λ b. let f = b.1 in let q = fault_number cells f.above f.edge 19 f.fault in absurd (omega arith)) (refusals_are 19 e)),
      (λ n. ⊎_elim (λ h. absurd (n (file_same (scopes_of cells) d.scopes h))) other_scopes (Two (file_scopes (scopes_of cells) d.scopes))),
    )

    -- with the file's scopes
    module _ (same : SameScopes (scopes_of cells) d.scopes) where
      these : file_scopes (scopes_of cells) d.scopes ≡ true
      these = same_file (scopes_of cells) d.scopes same

      edges_tell : (n : ℕ) → (undot_of text dot ≡ refused n → FirstFault cells es n) × (FirstFault cells es n → undot_of text dot ≡ refused n)
      edges_tell n = (
        (λ e. ⊎_elim (λ a. absurd (a.0 same)) (λ b. b.1) (refusals_are n e)),
        (λ f. same_scopes these ∙ sym (then_none n outcome (λ rows. write_text (with_edges cells rows))
            (ap (rows_with (letters_of cells) (scopes_of cells) []) f.whole ∙ fault_told cells [] [] (no_rows cells) f.above f.good f.edge f.below n f.fault))),
      )

      all_went : AllFaultless cells es → Went cells [] es outcome
      all_went g =
          ⊎_elim (λ w. w)
          (λ s. absurd (not_both cells s.good s.edge s.number
          (faultless_at cells [] s.good s.edge s.below (subst (FaultlessAfter cells []) s.whole g)) s.fault))
          (result cells [] [] (no_rows cells) es)

      nine_only : AllFaultless cells es → (room n : ℕ) → answer (undot_of text dot) room ≡ refused n → (n ≡ 9) × (room < text_bytes)
      nine_only g room n e =
          let w = all_went g in
          only_nine cells formed es w.rows w.are room n (ap (λ (o : Outcome (List ℕ)). answer o room) (sym (went_out these w)) ∙ e)

    -- what is put out comes of faultless edges
    out_went : (out : List ℕ) → undot_of text dot ≡ done out → (file_scopes (scopes_of cells) d.scopes ≡ true) × Went cells [] es outcome
    out_went out e =
        ⊎_elim
        (λ h. ⊎_elim (λ w. (h, w)) (λ s. absurd (not_done s.number out (sym (stopped_out h s) ∙ e))) (result cells [] [] (no_rows cells) es))
        (λ h. absurd (not_done 19 out (sym (other_scopes h) ∙ e)))
        (Two (file_scopes (scopes_of cells) d.scopes))

pub refusals : Refusals
unfolding undot_of
refusals = record {
  reading = λ text dot n e. sym (then_none n (read_cells text) (undrawn_by dot) e);
  eighteen = λ text dot cells read. ((λ e d dr. not_eighteen text dot cells read d dr e), undrawn text dot cells read);
  nineteen = λ text dot cells d read dr. nineteen_tells text dot cells read d dr;
  edges = λ text dot cells d n read dr same. edges_tell text dot cells read d dr same n;
  others = λ text dot cells d read dr same g. nine_only text dot cells read d dr same g;
}

pub taken : Taken
taken text dot cells d read dr = (
  (λ x. let w = out_went text dot cells read d dr x.0 x.1 in (file_same (scopes_of cells) d.scopes w.0, w.1.faultless)),
  (λ g. let x = put_out text dot cells read d dr (same_file (scopes_of cells) d.scopes g.0) (all_went text dot cells read d dr g.0 g.1) in (x.0, x.1)),
)

pub is_put_out : IsPutOut
is_put_out text dot cells out d read dr e =
    let w = out_went text dot cells read d dr out e in
    let x = put_out text dot cells read d dr w.0 w.1 in
    subst (PutOut cells d.edges) (done_same x.0 out (sym x.1 ∙ e)) x.2
