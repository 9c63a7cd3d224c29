-- What is read from a text, or written to one, is a sound table, and a scope's rows in it are all
-- found (specs/Promises): from graph_file's theorems on accepted tables. Assumes nothing.
use Prim.Native.Nat.{ℕ, suc, ◌≤◌, ◌<◌}
use mathlib.Core.Path.{◌≡◌}
use mathlib.Core.List.{List, [], ◌∷◌, ◌++◌, append_assoc}
use native.Mathlib.Omega.{arith}
use lib.ListN.{length, drop}
use Rattle.scope_graph.specs.Language.{End, stop, by}
use Rattle.scope_graph.specs.Graph.{InRange, Query}
use Rattle.scope_graph.specs.Rows.{language}
use Rattle.graph_rows.specs.Admission.{Row, Sofar, nothing, begun, taken}
use Rattle.graph_rows.specs.Decode.{rows_in, rules_of, graph_of}
use Rattle.graph_rows.specs.Accepted.{EndListed, AcceptedTable}
use Rattle.graph_rows.specs.Format.{edges, sections, section_at, edge_section}
use Rattle.graph_rows.proofs.DecodeWay.{AdmittedRows, taken_all, cells_of, table_cells, AdmittedSections, AdmittedTable}
use Rattle.graph_file.proofs.Promises.{read_admitted, written_admitted, read_accepted, written_accepted}
use Rattle.graph_table.proofs.Promises.{ascending_all}
use Rattle.search.specs.Tables.{end_number}
use Rattle.graph_table.specs.Sections.{SectionsAscend, part_of}
use Rattle.board.specs.Promises.{Sound, ReadSound, WrittenSound, EdgesAscend, EdgesFound}
use Rattle.board.proofs.Ascending.{admitted_edges, admitted_declarations}

-- the section numbers of admitted rows ascend
ascend_from : (least k : ℕ) (l : List ℕ) → least ≤ k → SectionsAscend k l → SectionsAscend least l
ascend_from least k [] h a = tt
ascend_from least k (s ∷ []) h a = tt
ascend_from least k (s ∷ v ∷ []) h a = tt
ascend_from least k (s ∷ v ∷ w ∷ []) h a = tt
ascend_from least k (s ∷ v ∷ w ∷ x ∷ []) h a = tt
ascend_from least k (s ∷ v ∷ w ∷ x ∷ y ∷ []) h a = tt
ascend_from least k (s ∷ v ∷ w ∷ x ∷ y ∷ z ∷ l) h a = (let m = a.0 in omega arith, a.1)

row_ascends : (least k : ℕ) (row more : List ℕ) → length row ≡ 5 → least ≤ k → SectionsAscend k more → SectionsAscend least (k ∷ (row ++ more))
row_ascends least k [] more e h a = absurd (omega arith)
row_ascends least k (v ∷ []) more e h a = absurd (omega arith)
row_ascends least k (v ∷ w ∷ []) more e h a = absurd (omega arith)
row_ascends least k (v ∷ w ∷ x ∷ []) more e h a = absurd (omega arith)
row_ascends least k (v ∷ w ∷ x ∷ y ∷ []) more e h a = absurd (omega arith)
row_ascends least k (v ∷ w ∷ x ∷ y ∷ z ∷ []) more e h a = (h, a)
row_ascends least k (v ∷ w ∷ x ∷ y ∷ z ∷ u ∷ row) more e h a = absurd (omega arith)

rows_ascend : (form least k : ℕ) (st : Sofar) (rows : List Row) (more : List ℕ) → least ≤ k → AdmittedRows form k st rows → SectionsAscend k more → SectionsAscend least (cells_of k rows ++ more)
unfolding cells_of
rows_ascend form least k st [] more h r a = ascend_from least k more h a
rows_ascend form least k st (row ∷ rows) more h r a =
    rw (append_assoc row (cells_of k rows) more)
    (row_ascends least k row (cells_of k rows ++ more) r.1 h (rows_ascend form k k (taken k st row) rows more (omega arith) r.2 a))

sections_ascend : (form least k : ℕ) (st : Sofar) (sections : List (List Row)) → least ≤ k → AdmittedSections form k st sections → SectionsAscend least (table_cells k sections)
unfolding table_cells
sections_ascend form least k st [] h r = tt
sections_ascend form least k st (rows ∷ rest) h r =
    rows_ascend form least k (begun st) rows (table_cells (suc k) rest) h r.0 (sections_ascend form k (suc k) (taken_all k (begun st) rows) rest (omega arith) r.2)

table_ascends : (cells : List ℕ) → AdmittedTable cells → SectionsAscend 0 (drop 1 cells)
table_ascends cells t = rw t.cells_are (sections_ascend t.form 0 0 nothing t.sections (omega arith) t.admitted)

end_below : (labels : ℕ) (e : End ℕ) → labels ≤ 8 → EndListed labels e → end_number e < 9
unfolding end_number
end_below labels stop h l = omega arith
end_below labels (by n) h l = omega arith

module _ (cells : List ℕ) (a : AcceptedTable cells) (t : AdmittedTable cells) where
  abbrev any_query : Query (language (rules_of cells))
  any_query = record { start = 0; name = record { kind = 0; high = 0; low = 0 } }

  in_range : InRange (language (rules_of cells)) (graph_of cells)
  in_range = let least = a.scopes_least in (a.accepted any_query (omega arith)).in_range

  scopes : (graph_of cells).scopes ≤ 64
  unfolding graph_of
  scopes = a.scopes_most

  edges_few : length (rows_in edge_section cells) ≤ 512
  unfolding section_at sections edges
  edges_few = a.limits edge_section (omega arith)

  sound : Sound cells
  sound = record {
    ascend = table_ascends cells t;
    edges_ascend = admitted_edges cells t (table_ascends cells t);
    declarations_ascend = admitted_declarations cells t (table_ascends cells t);
    edges_few = edges_few;
    edges_from = λ e m. let most = scopes in let here = in_range.from_scope e m in omega arith;
    edges_label = λ e m. let most = a.labels in let here = in_range.listed e m in omega arith;
    edges_to = λ e m. let most = scopes in let here = in_range.to_scope e m in omega arith;
    edges_turn = a.turns;
    labels = a.labels;
    states = a.states;
    listed = a.rules.labels;
    next_states = a.rules.states;
    accepts = a.accepts;
    order_less = λ p m. end_below (rules_of cells).labels p.less a.labels (a.order_ends p m).0;
    order_more = λ p m. end_below (rules_of cells).labels p.more a.labels (a.order_ends p m).1;
    declared = λ d m. let most = scopes in let here = in_range.at_scope d m in omega arith;
  }

pub read_sound : ReadSound
read_sound text cells e = sound cells (read_accepted text cells e) (read_admitted text cells e)

pub written_sound : WrittenSound
written_sound cells text e = sound cells (written_accepted cells text e) (written_admitted cells text e)

pub edges_ascend : EdgesAscend
edges_ascend text cells e = (read_sound text cells e).edges_ascend

pub edges_found : EdgesFound
edges_found text cells e s = ascending_all (part_of edge_section cells) (edges_ascend text cells e) s
