-- A drawing put into the table of a file that was read. Assumes nothing.
use Prim.Native.Nat.{ℕ, ◌+◌, ◌-◌, ◌/◌, ◌≤◌}
use mathlib.Core.Path.{◌≡◌, refl, sym, ap, subst, ◌∙◌}
use mathlib.Core.List.Memᴰ
use mathlib.Core.List.{List, [], ◌∷◌}
use mathlib.Core.Bool.{Bool, true, false}
use native.Mathlib.Omega.{arith}
use lib.ListN.{length, take, drop}
use Rattle.scope_graph.specs.Language.{◌∈◌}
use Rattle.std.specs.declared.result.Result.{Result}
use Rattle.std.specs.declared.result.Result.TheVariants.{Ok, Err}
use Rattle.text_field.specs.declared.refusal.Refusal.{Refusal}
use Rattle.text_field.specs.Refusal.{number_of}
use Rattle.text_field.specs.Outcome.{Outcome, refused, done, and_then, refuse_if}
use Rattle.text_field.specs.Answer.{answer, leaves, answer_of}
use Rattle.text_field.proofs.AnswerLaws.{answer_refused, leaves_refused}
use Rattle.text_field.proofs.OutcomeLaws.{done_same, not_done}
use Rattle.graph_rows.specs.Format.{edge_section, table_cells}
use Rattle.graph_rows.specs.Admission.{Row}
use Rattle.graph_rows.specs.Decode.{rows_in, letters_of, rules_of, scopes_of}
use Rattle.graph_rows.specs.Formed.{FormedTable}
use Rattle.graph_file.specs.File.{WasRead, write_text}
use Rattle.graph_file.specs.Reader.{table_read, WrittenIn}
use Rattle.graph_table.specs.Sections.{leading, start_of}
use Rattle.graph_change.specs.Changed.{with_rows}
use Rattle.std.specs.Result.{result_unwrap_or}
use Rattle.std.specs.declared.option.Option.{Option}
use Rattle.std.specs.declared.option.Option.TheVariants.{Some, None}
use Rattle.dot_text.specs.Grammar.{DrawnEdge, Drawing}
use Rattle.dot_text.specs.Reading.{scopes_next, edges_next, parts_of, drawn_at, drawn}
use Rattle.dot_text.specs.Answers.{places_of}
use Rattle.dot_text.proofs.Answers.{then_none, then_some}
use Rattle.undot.specs.Scopes.{file_scopes}
use Rattle.undot.specs.Edges.{rows_with}
use Rattle.undot.specs.Undrawn.{with_edges, drawn_rows, undrawn_text, undrawn_by}
use Rattle.undot.specs.Rows.{Ready, without_edges, edges_put, edges_text}
use Rattle.undot.proofs.Places.{label_count, some_cell}
use Rattle.undot.proofs.Tables.{read_table, accepted, size_most, with_again, letters_stay, scopes_stay, none_left}
use Rattle.undot.proofs.Putting.{changed_read}

-- a place looked for from the first row on
start_at : (k : ℕ) (t : List ℕ) → 1 ≤ length t → 1 + leading 0 k (drop 1 t) ≡ start_of k t
unfolding start_of
start_at k [] h = absurd (omega arith)
start_at k (x ∷ t) h = omega arith

-- counts of a table that was read
module _ (cells : List ℕ) (was : WasRead cells) where
  abbrev formed : FormedTable cells
  formed = read_table cells was

  pub read_some : 1 ≤ length cells
  read_some = some_cell cells formed

  pub labels_counted : (r : ℕ) → r ≡ 1 + leading 0 1 (drop 1 cells) → ((r - 1) / 6 ≡ length (letters_of cells)) × ((r - 1) / 6 ≤ 8)
  unfolding rules_of
  labels_counted r e =
      let s : r ≡ start_of 1 cells = e ∙ start_at 1 cells read_some in
      let c : (r - 1) / 6 ≡ length (letters_of cells) = ap (λ (n : ℕ). (n - 1) / 6) s ∙ label_count cells formed in
      (c, few c)
    where
      few : (r - 1) / 6 ≡ length (letters_of cells) → (r - 1) / 6 ≤ 8
      few c = let most = (accepted cells formed).labels in omega arith

  pub scopes_few : (n : ℕ) → n ≡ scopes_of cells → n ≤ 64
  scopes_few n e = let most = (accepted cells formed).scopes_most in omega arith

  -- the edges taken out
  module _ (r : Result ℕ Refusal) (u t : List ℕ) (told : answer_of r ≡ answer (done (with_rows edge_section [] cells)) (length t))
      (left : u ≡ leaves (done (with_rows edge_section [] cells)) t) (room : table_cells ≤ length t) where
    cleared : (table_read r u ≡ done (without_edges cells)) × WrittenIn r u
    unfolding without_edges
    cleared =
        let most = size_most (with_rows edge_section [] cells) (none_left cells formed).formed in
        changed_read r u t (with_rows edge_section [] cells) told left (omega arith)

    pub cleared_never : {A : Type 0} (k : Refusal) → r ≡ Err k → A
    unfolding table_read
    cleared_never k h = absurd (not_done (number_of k) (without_edges cells) (sym (ap (λ (z : Result ℕ Refusal). table_read z u) h) ∙ cleared.0))

    pub cleared_cells : (m : ℕ) → r ≡ Ok m → (take m u ≡ without_edges cells) × (m ≤ length u)
    unfolding table_read
    cleared_cells m h = (done_same (take m u) (without_edges cells) (sym (ap (λ (z : Result ℕ Refusal). table_read z u) h) ∙ cleared.0), cleared.1 m h)

    -- how many cells are left, whatever stands in for a refusal
    pub cleared_left : (n : ℕ) → (take (result_unwrap_or r n) u ≡ without_edges cells) × (result_unwrap_or r n ≤ length u)
    cleared_left n = by r refl
      where
        by : (z : Result ℕ Refusal) → r ≡ z → (take (result_unwrap_or r n) u ≡ without_edges cells) × (result_unwrap_or r n ≤ length u)
        by (Ok m) h = rw h (cleared_cells m h)
        by (Err k) h = cleared_never k h

  -- the table without edges is ready for others
  module _ (labels scopes : ℕ) (a : labels ≡ length (letters_of cells)) (b : scopes ≡ scopes_of cells) where
    abbrev bare : List ℕ
    bare = without_edges cells

    none_rows : rows_in edge_section bare ≡ []
    none_rows = (none_left cells formed).own

    bare_ready : Ready labels scopes bare
    bare_ready = record {
      formed = (none_left cells formed).formed;
      turns = λ row m. absurd (Memᴰ.not-nil (subst (λ (l : List Row). row ∈ l) none_rows m));
      label_count = a ∙ sym (ap length (letters_stay [] cells bare (none_left cells formed)));
      scope_count = b ∙ sym (scopes_stay [] cells bare (none_left cells formed));
    }

    pub cleared_ready : (c : List ℕ) → c ≡ bare → Ready labels scopes c × (length (rows_in edge_section c) ≡ 0)
    cleared_ready c e = (subst (Ready labels scopes) (sym e) bare_ready, ap (λ (z : List ℕ). length (rows_in edge_section z)) e ∙ ap length none_rows)

  -- the text of the table with the edges
  module _ (es : List DrawnEdge) (c : List ℕ) (e : c ≡ without_edges cells) (r : Result ℕ Refusal) (u : List ℕ) (put : table_read r u ≡ edges_put c es) where
    this : table_read r u ≡ edges_put (without_edges cells) es
    this = put ∙ ap (λ (z : List ℕ). edges_put z es) e

    pub put_refused : (out : List ℕ) (k : Refusal) → r ≡ Err k → (refused (number_of k) ≡ answer (edges_text cells es) (length out)) × (out ≡ leaves (edges_text cells es) out)
    unfolding table_read edges_text
    put_refused out k h =
        let o : edges_text cells es ≡ refused (number_of k) = sym (then_none (number_of k) (edges_put (without_edges cells) es) write_text (sym this ∙ ap (λ (z : Result ℕ Refusal). table_read z u) h)) in
        (answer_refused (edges_text cells es) (number_of k) (length out) o, leaves_refused (edges_text cells es) (number_of k) out o)

    pub put_written : (out : List ℕ) (m : ℕ) → r ≡ Ok m → (a : Outcome ℕ) (o : List ℕ)
        → (a ≡ answer (write_text (take m u)) (length out)) × (o ≡ leaves (write_text (take m u)) out)
        → (a ≡ answer (edges_text cells es) (length out)) × (o ≡ leaves (edges_text cells es) out)
    unfolding table_read edges_text
    put_written out m h a o w =
        let f : write_text (take m u) ≡ edges_text cells es = then_some (take m u) (edges_put (without_edges cells) es) write_text (sym this ∙ ap (λ (z : Result ℕ Refusal). table_read z u) h) in
        (w.0 ∙ ap (λ (z : Outcome (List ℕ)). answer z (length out)) f, w.1 ∙ ap (λ (z : Outcome (List ℕ)). leaves z out) f)

  -- it is the text that the definition names
  pub edges_text_lem : (es : List DrawnEdge) → edges_text cells es ≡ and_then (rows_with (letters_of cells) (scopes_of cells) [] es) (λ rows. write_text (with_edges cells rows))
  unfolding edges_text edges_put and_then
  edges_text_lem es =
      rw (letters_stay [] cells (without_edges cells) (none_left cells formed), scopes_stay [] cells (without_edges cells) (none_left cells formed), (none_left cells formed).own)
      (twice (rows_with (letters_of cells) (scopes_of cells) [] es))
    where
      twice : (o : Outcome (List Row)) → and_then (and_then o (λ rows. done (with_edges (without_edges cells) rows))) write_text ≡ and_then o (λ rows. write_text (with_edges cells rows))
      twice (refused n) = refl
      twice (done rows) = ap write_text (with_again cells formed [] (without_edges cells) (none_left cells formed) rows)

  -- the drawing is tested first
  module _ (dot : List ℕ) (r : Option (ℕ × ℕ)) (told : places_of r dot ≡ parts_of dot) (out : List ℕ) where
    pub drawn_never : r ≡ None → (refused 18 ≡ answer (undrawn_by dot cells) (length out)) × (out ≡ leaves (undrawn_by dot cells) out)
    unfolding places_of undrawn_by drawn
    drawn_never h =
        let p : parts_of dot ≡ refused 18 = sym told ∙ ap (λ (z : Option (ℕ × ℕ)). places_of z dot) h in
        let d : drawn dot ≡ refused 18 = sym (then_none 18 (parts_of dot) (λ p. done (drawn_at p)) p) in
        let o : undrawn_by dot cells ≡ refused 18 = sym (then_none 18 (drawn dot) (undrawn_text cells) d) in
        (answer_refused (undrawn_by dot cells) 18 (length out) o, leaves_refused (undrawn_by dot cells) 18 out o)

    module _ (a b : ℕ) (h : r ≡ Some (a, b)) (s : ℕ) (count : s ≡ scopes_of cells) (t : Bool) (same : t ≡ file_scopes s (scopes_next (drop a dot)).value) where
      abbrev this_drawn : Drawing
      this_drawn = record { scopes = (scopes_next (drop a dot)).value; edges = (edges_next (drop b dot)).value }

      by_drawn : undrawn_text cells this_drawn ≡ undrawn_by dot cells
      unfolding places_of undrawn_by drawn drawn_at
      by_drawn =
          let p : parts_of dot ≡ done (record { scopes = drop a dot; edges = drop b dot }) = sym told ∙ ap (λ (z : Option (ℕ × ℕ)). places_of z dot) h in
          let d : drawn dot ≡ done this_drawn = sym (then_some (record { scopes = drop a dot; edges = drop b dot }) (parts_of dot) (λ p. done (drawn_at p)) p) in
          then_some this_drawn (drawn dot) (undrawn_text cells) d

      are_file : file_scopes (scopes_of cells) this_drawn.scopes ≡ t
      are_file = ap (λ (n : ℕ). file_scopes n this_drawn.scopes) (sym count) ∙ sym same

      pub scopes_other : t ≡ false → (refused 19 ≡ answer (undrawn_by dot cells) (length out)) × (out ≡ leaves (undrawn_by dot cells) out)
      unfolding undrawn_text drawn_rows refuse_if and_then
      scopes_other q =
          let o : undrawn_by dot cells ≡ refused 19 = sym by_drawn ∙ rw (are_file ∙ q) in
          (answer_refused (undrawn_by dot cells) 19 (length out) o, leaves_refused (undrawn_by dot cells) 19 out o)

      pub scopes_same : t ≡ true → (w : Outcome ℕ) (o : List ℕ)
          → (w ≡ answer (edges_text cells this_drawn.edges) (length out)) × (o ≡ leaves (edges_text cells this_drawn.edges) out)
          → (w ≡ answer (undrawn_by dot cells) (length out)) × (o ≡ leaves (undrawn_by dot cells) out)
      unfolding undrawn_text drawn_rows refuse_if
      scopes_same q w o x =
          let f : edges_text cells this_drawn.edges ≡ undrawn_by dot cells = edges_text_lem this_drawn.edges ∙ sym (rw (are_file ∙ q)) ∙ by_drawn in
          (x.0 ∙ ap (λ (z : Outcome (List ℕ)). answer z (length out)) f, x.1 ∙ ap (λ (z : Outcome (List ℕ)). leaves z out) f)
