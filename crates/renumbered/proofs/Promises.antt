-- Proves specs/Promises. Assumes nothing.
use Prim.Native.Nat.{ℕ, zero, suc, ◌≤◌, ◌<◌}
use mathlib.Core.Path.{◌≡◌, refl, sym, ap, subst, ◌∙◌}
use mathlib.Core.Logic.{◌↔◌}
use mathlib.Core.Option.{none}
use mathlib.Core.List.{List, ◌∷◌, map}
use mathlib.Core.Bool.{false}
use native.Mathlib.Omega.{arith}
use lib.ListN.{length, get_or, length-map}
use Rattle.scope_graph.specs.Language.{◌∈◌}
use Rattle.scope_graph.specs.Rows.{Rules, language}
use Rattle.scope_graph.specs.Graph.{Query}
use Rattle.scope_graph.specs.Computed.{awaits}
use Rattle.scope_graph.specs.Listing.{Accepted}
use Rattle.scope_graph.specs.Renamed.{new_number, old_number, SameElements, edge_under, declaration_under, open_under, query_under, Renumbers, Renamed, RenamedPromises}
use Rattle.scope_graph.proofs.Renamed.{renamed_right}
use Rattle.graph_rows.specs.Format.{queries, sections, section_at, shape_at, label_section, pair_section, transition_section, accept_section, count_section, edge_section, declaration_section, open_section, query_section}
use Rattle.graph_rows.specs.Admission.{Row, value, blank}
use Rattle.graph_rows.specs.Order.{order_fault}
use Rattle.graph_rows.specs.Tested.{form_in}
use Rattle.graph_rows.specs.Decode.{rows_in, letters_of, order_pair_of, transition_of, rules_of, edge_of, declaration_of, open_pair_of, query_of, scopes_of, graph_in, opens_in, queries_in, graph_of, opens_of, queries_of, section_place}
use Rattle.graph_rows.specs.Formed.{table_of, scopes_in, FormedSection, FormedRows, FormedTable}
use Rattle.graph_rows.specs.Accepted.{AcceptedTable}
use Rattle.graph_rows.proofs.AlikeLaws.{accepted_in}
use Rattle.graph_rows.proofs.DecodeAccepted.{table_accepted}
use Rattle.graph_rows.proofs.FormedTable.{formed_admitted, table_formed}
use Rattle.graph_change.proofs.SectionLaws.{sections_same}
use Rattle.renumbered.specs.Renumbered.{row_under, sequenced, rows_under, renumbered_by, EachOnce, back_of}
use Rattle.renumbered.specs.Promises.{StillFormed, WayBackGiven, FormedGiven, GraphGiven}
use Rattle.renumbered.proofs.Rows.{sequenced_length}
use Rattle.renumbered.proofs.SectionUnder.{rows_kept, section_formed, section_back}
use Rattle.renumbered.proofs.Graphs.{edge_under_lem, declaration_under_lem, open_under_lem, query_under_lem, same_elements, same_sequence}
use Rattle.renumbered.proofs.BackList.{renumbers, back_once, back_new, back_twice}

-- where a section begins goes by how many rows the sections above have
places_same : (k : ℕ) (cells others : List ℕ) → k ≤ 9 → ((j : ℕ) → j < 9 → length (rows_in j cells) ≡ length (rows_in j others)) → section_place k cells ≡ section_place k others
unfolding section_place
places_same zero cells others h same = refl
places_same (suc k) cells others h same =
    let so = places_same k cells others (omega arith) same in
    let own = same k (omega arith) in
    omega arith

module _ (was cells : List ℕ) (t : FormedTable cells) (o : EachOnce (scopes_of cells) was) where
  abbrev f : ℕ → ℕ
  f = new_number was

  abbrev form : ℕ
  form = form_in cells

  abbrev labels : ℕ
  labels = length (rows_in label_section cells)

  abbrev new : ℕ → List Row
  new k = rows_under f form k (rows_in k cells)

  numbers : Renumbers (scopes_of cells) f (old_number was)
  numbers = renumbers (scopes_of cells) was o

  accepted : AcceptedTable cells
  accepted = table_accepted cells (formed_admitted cells t)

  few : scopes_of cells ≤ 99999
  few = let m = accepted.scopes_most in omega arith

  section : (k : ℕ) → k < 9 → FormedSection labels (scopes_of cells) form k (rows_in k cells)
  unfolding scopes_in scopes_of
  section k h = t.rows.sections k h

  -- the rules' sections and the count stay
  kept : (k : ℕ) → k < 5 → new k ≡ rows_in k cells
  kept k h = rows_kept f form k h labels (scopes_of cells) (rows_in k cells) (section k (omega arith))

  new_scopes : scopes_in new ≡ scopes_of cells
  unfolding scopes_in scopes_of
  new_scopes = ap (λ (rows : List Row). value (get_or rows 0 blank) 0) (kept count_section (omega arith))

  new_section : (k : ℕ) → k < 9 → FormedSection labels (scopes_of cells) form k (new k)
  new_section k h = section_formed (scopes_of cells) f (old_number was) numbers few labels form k (rows_in k cells) (section k h)

  new_rows : FormedRows form new
  new_rows = record {
    known = t.rows.known;
    sections = λ k h.
        subst (λ (m : ℕ). FormedSection m (scopes_in new) form k (new k)) (sym (ap length (kept label_section (omega arith))))
        (subst (λ (m : ℕ). FormedSection labels m form k (new k)) (sym new_scopes) (new_section k h));
    order = subst (λ (rows : List Row). order_fault rows ≡ false) (sym (kept pair_section (omega arith))) t.rows.order;
  }

  -- the renumbered table, and its rows
  pub new_formed : FormedTable (renumbered_by was cells)
  unfolding renumbered_by
  new_formed = (table_formed form new new_rows).0

  pub rows_are : (k : ℕ) → k < 9 → rows_in k (renumbered_by was cells) ≡ new k
  unfolding renumbered_by
  rows_are k h = (table_formed form new new_rows).1 k h

  pub form_is : form_in (renumbered_by was cells) ≡ form
  unfolding renumbered_by form_in table_of
  form_is = refl

  rows_stay : (k : ℕ) → k < 5 → rows_in k (renumbered_by was cells) ≡ rows_in k cells
  rows_stay k h = rows_are k (omega arith) ∙ kept k h

  as_many : (k : ℕ) → k < 9 → length (rows_in k (renumbered_by was cells)) ≡ length (rows_in k cells)
  unfolding rows_under
  as_many k h =
      ap length (rows_are k h) ∙ sequenced_length (section_at k).sequence (section_at k).key (map (row_under f (shape_at form k).row) (rows_in k cells))
      ∙ length-map (rows_in k cells) (row_under f (shape_at form k).row)

  pub rules_stay : rules_of (renumbered_by was cells) ≡ rules_of cells
  unfolding rules_of letters_of
  rules_stay = λ i. record {
    labels = length (map (λ (row : Row). value row 0) (rows_stay label_section (omega arith) i));
    order = map order_pair_of (rows_stay pair_section (omega arith) i);
    transitions = map transition_of (rows_stay transition_section (omega arith) i);
    accept = map (λ (row : Row). value row 0) (rows_stay accept_section (omega arith) i);
  }

  pub scopes_stay : scopes_of (renumbered_by was cells) ≡ scopes_of cells
  unfolding scopes_of
  scopes_stay = ap (λ (rows : List Row). value (get_or rows 0 blank) 0) (rows_stay count_section (omega arith))

  still_formed : StillFormed cells (renumbered_by was cells)
  still_formed = record {
    formed = new_formed;
    form = form_is;
    size =
        (table_accepted (renumbered_by was cells) (formed_admitted (renumbered_by was cells) new_formed)).size
        ∙ places_same 9 (renumbered_by was cells) cells (omega arith) as_many ∙ sym accepted.size;
    rules = rules_stay;
    scopes = scopes_stay;
    labels_stay = rows_stay label_section (omega arith);
    order_stays = rows_stay pair_section (omega arith);
    transitions_stay = rows_stay transition_section (omega arith);
    accepts_stay = rows_stay accept_section (omega arith);
    count_stays = rows_stay count_section (omega arith);
    as_many = as_many;
  }

  -- the way back
  back_numbers : Renumbers (scopes_of cells) (new_number (back_of was)) (old_number (back_of was))
  back_numbers = renumbers (scopes_of cells) (back_of was) (back_once (scopes_of cells) was o)

  rows_back_lem : (k : ℕ) → k < 9 → rows_under (new_number (back_of was)) form k (rows_in k (renumbered_by was cells)) ≡ rows_in k cells
  rows_back_lem k h =
      ap (rows_under (new_number (back_of was)) form k) (rows_are k h)
      ∙ section_back (scopes_of cells) f (old_number was) (new_number (back_of was)) (old_number (back_of was)) numbers back_numbers (back_new (scopes_of cells) was o) few labels form k
      (rows_in k cells) (section k h)

  pub cells_back : renumbered_by (back_of was) (renumbered_by was cells) ≡ cells
  unfolding renumbered_by table_of form_in
  cells_back =
      ap (λ (l : List ℕ). form ∷ l)
      (sections_same 9 0 (λ k. rows_under (new_number (back_of was)) form k (rows_in k (renumbered_by was cells))) (λ k. rows_in k cells) (λ k a h. rows_back_lem k h))
      ∙ sym t.in_turn

  -- the graph
  five : (k : ℕ) → k < 9 → (row : Row) → row ∈ rows_in k cells → length row ≡ 5
  five k h row m = ((section k h).each row m).five

  abbrev r : Rules
  r = rules_of cells

  -- the elements of a section's rows, under the new numbers
  elements : {A : Type 0} (k : ℕ) → k < 9 → (of : Row → A) (change : A → A) → ((row : Row) → length row ≡ 5 → of (row_under f (shape_at form k).row row) ≡ change (of row))
      → SameElements (map of (rows_in k (renumbered_by was cells))) (map change (map of (rows_in k cells)))
  unfolding rows_under
  elements {A} k h of change each =
      subst (λ (rows : List Row). SameElements (map of rows) (map change (map of (rows_in k cells)))) (sym (rows_are k h))
      (same_elements (row_under f (shape_at form k).row) of change (rows_in k cells) (λ row m. each row (five k h row m)) (section_at k).sequence (section_at k).key)

  new_graph : Renamed (language r) f (graph_in r cells) (graph_in r (renumbered_by was cells))
  new_graph = record {
    scopes = scopes_stay;
    edges = elements edge_section (omega arith) (edge_of r) (edge_under (language r) f) (edge_under_lem r f form);
    declarations = elements declaration_section (omega arith) (declaration_of r) (declaration_under (language r) f) (declaration_under_lem r f form);
  }

  new_opens : SameElements (opens_in r (renumbered_by was cells)) (map (open_under (language r) f) (opens_in r cells))
  new_opens = elements open_section (omega arith) (open_pair_of r) (open_under (language r) f) (open_under_lem r f form)

  new_queries : queries_in r (renumbered_by was cells) ≡ map (query_under (language r) f) (queries_in r cells)
  unfolding rows_under sequenced section_at sections queries
  new_queries =
      ap (map (query_of r)) (rows_are query_section (omega arith))
      ∙ same_sequence (row_under f (shape_at form query_section).row) (query_of r) (query_under (language r) f) (rows_in query_section cells)
      (λ row m. query_under_lem r f form row (five query_section (omega arith) row m))

  new_accepted : (q : Query (language r)) → q.start < scopes_of cells → Accepted (language r) (graph_in r (renumbered_by was cells)) (opens_in r (renumbered_by was cells)) q
  new_accepted q h =
      accepted_in (renumbered_by was cells) (table_accepted (renumbered_by was cells) (formed_admitted (renumbered_by was cells) new_formed)) r rules_stay q
      (subst (λ (n : ℕ). q.start < n) (sym scopes_stay) h)

  seen : (q : Query (language r)) → q ∈ queries_in r cells
      → RenamedPromises (language r) f (old_number was) (graph_in r cells) (graph_in r (renumbered_by was cells)) (opens_in r cells) (opens_in r (renumbered_by was cells)) q
  unfolding graph_of opens_of queries_of
  seen q m =
      let start = accepted.starts q m in
      let a = accepted.accepted q start in
      renamed_right.renamed (language r) f (old_number was) (graph_in r cells) (graph_in r (renumbered_by was cells)) (opens_in r cells) (opens_in r (renumbered_by was cells)) q
      a.laws a.in_range start accepted.open_at numbers new_graph new_opens

  awaits_none : (q : Query (language r)) → q ∈ queries_in r cells
      → (awaits (language r) (graph_in r cells) q (opens_in r cells) ≡ none)
      ↔ (awaits (language r) (graph_in r (renumbered_by was cells)) (query_under (language r) f q) (opens_in r (renumbered_by was cells)) ≡ none)
  unfolding graph_of opens_of queries_of
  awaits_none q m =
      let s = seen q m in
      s.same_awaits (accepted.accepted q (accepted.starts q m))
      (new_accepted (query_under (language r) f q) (numbers.new_below q.start (accepted.starts q m)))

pub way_back_given : WayBackGiven
way_back_given was cells t o =
    let n = scopes_of cells in
    let once = back_once (scopes_of cells) was o in
    let twice = back_twice (scopes_of cells) was o in
    record {
      back = cells_back was cells t o;
      forth = ap (λ (l : List ℕ). renumbered_by l (renumbered_by (back_of was) cells)) (sym twice) ∙ cells_back (back_of was) cells t once;
      once = once;
      twice = twice;
    }

pub formed_given : FormedGiven
formed_given was cells t o = still_formed was cells t o

pub graph_given : GraphGiven
graph_given was cells t o = record {
  graph = new_graph was cells t o;
  opens = new_opens was cells t o;
  queries = new_queries was cells t o;
  accepted = new_accepted was cells t o;
  seen = seen was cells t o;
  awaits_none = awaits_none was cells t o;
}
