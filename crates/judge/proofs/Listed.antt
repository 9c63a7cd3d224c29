-- What a listing shows is judged visible: the value of specs/Listed. Assumes nothing.
use Prim.Native.Nat.{ℕ, zero, suc, ◌≤◌, ◌<◌}
use mathlib.Core.Path.{◌≡◌, refl, sym, ap, ◌∙◌, subst}
use mathlib.Core.Bool.{true, ◌&&◌}
use mathlib.Core.Logic.{⊎_elim}
use mathlib.Core.List.Memᴰ
use mathlib.Core.List.{List, [], ◌∷◌, map}
use native.Mathlib.Omega.{arith}
use borrow.Author.Tests.{le-leb}
use lib.Dec.{leb}
use lib.ListN.{length, get_or, length-map}
use Rattle.scope_graph.specs.Language.{◌∈◌, Language}
use Rattle.scope_graph.specs.Graph.{Graph, InRange}
use Rattle.scope_graph.specs.Path.{Distinct, Hop, Along, tos, Entry}
use Rattle.scope_graph.specs.Path.{PathRow as RulesRow}
use Rattle.scope_graph.specs.Turns.{turn_by}
use Rattle.scope_graph.specs.Rows.{language}
use Rattle.scope_graph.specs.Computed.{hops_at}
use Rattle.scope_graph.specs.Agree.{as_visible}
use Rattle.scope_graph.proofs.Lists.{and_both, map_elim}
use Rattle.scope_graph.proofs.Nodes.{hops_at_elim, hops_at_intro, tos_length, tos_bounded}
use Rattle.scope_graph.proofs.Pigeon.{distinct_bounded}
use Rattle.text_field.specs.Bytes.{is_capital}
use Rattle.graph_rows.specs.Format.{label_section}
use Rattle.text_field.specs.Outcome.{done}
use Rattle.graph_rows.specs.Admission.{Row, value}
use Rattle.graph_file.specs.File.{read_cells}
use Rattle.graph_rows.specs.Decode.{rows_in, rules_of, graph_of, queries_of, letters_of}
use Rattle.graph_rows.specs.Accepted.{AcceptedTable}
use Rattle.graph_file.proofs.Promises.{read_accepted}
use Rattle.path_row.specs.Form.{PathRow, most_mark, most_scope, most_steps, row_text, are_steps, is_row}
use Rattle.path_row.specs.Numbering.{label_number, hop_of, hops_of, path_of}
use Rattle.path_row.proofs.FormLaws.{written_then_read}
use Rattle.path_row.proofs.NumberingLaws.{number_within}
use Rattle.path_row.proofs.TurnLaws.{turn_is}
use Rattle.follow.specs.Text.{letter_of, shown_step, shown_row}
use Rattle.follow.specs.Text.{row_text as listed_text}
use Rattle.board.specs.Queries.{query_at}
use Rattle.board.proofs.Queries.{get_d_in}
use Rattle.board.proofs.Capitals.{capitals}
use Rattle.judge.specs.Judge.{as_rules_row, judge_answer}
use Rattle.judge.specs.Listed.{ListedVisible}
use Rattle.judge.proofs.Right.{judged_right}

-- letters that stand once stand at one place each
one_place : (xs : List ℕ) (i j : ℕ) → Distinct xs → i < length xs → j < length xs → get_or xs i 0 ≡ get_or xs j 0 → i ≡ j
one_place [] i j d h k e = absurd (omega arith)
one_place (x ∷ xs) zero zero d h k e = refl
one_place (x ∷ xs) zero (suc j) d h k e = absurd (d.0 (subst (λ (y : ℕ). y ∈ xs) (sym e) (get_d_in xs j 0 (omega arith))))
one_place (x ∷ xs) (suc i) zero d h k e = absurd (d.0 (subst (λ (y : ℕ). y ∈ xs) e (get_d_in xs i 0 (omega arith))))
one_place (x ∷ xs) (suc i) (suc j) d h k e = ap suc (one_place xs i j d.1 (omega arith) (omega arith) e)

module _ (letters : List ℕ) where
  -- a label's letter has the label's number
  pub numbered : Distinct letters → (l : ℕ) → l < length letters → label_number letters (letter_of letters l) ≡ l
  unfolding letter_of
  numbered d l h =
      let n = number_within letters (get_or letters l 0) (get_d_in letters l 0 h) in
      one_place letters (label_number letters (get_or letters l 0)) l d n.0 h n.1

module _ (text cells : List ℕ) (read : read_cells text ≡ done cells) where
  abbrev L : Language
  L = language (rules_of cells)

  abbrev g : Graph L
  g = graph_of cells

  abbrev letters : List ℕ
  letters = letters_of cells

  table : AcceptedTable cells
  table = read_accepted text cells read

  scopes_few : g.scopes ≤ 64
  unfolding graph_of
  scopes_few = table.scopes_most

  labels_are : (rules_of cells).labels ≡ length letters
  unfolding rules_of
  labels_are = refl

  pub capital : (l : ℕ) → l < length letters → is_capital (letter_of letters l) ≡ true
  unfolding letter_of letters_of
  capital l h =
      let m = map_elim (λ (row : Row). value row 0) (rows_in label_section cells) (get_d_in (letters_of cells) l 0 h) in
      ap is_capital m.2 ∙ capitals text cells read m.0 m.1

  module _ (range : InRange L g) where
    hop_listed : (s : ℕ) (h : Hop L) → record { from = s; step = h.step; to = h.to } ∈ g.edges → h.step.label < length letters
    hop_listed s h m = rw labels_are at (range.listed _ m)

    hop_scope : (s : ℕ) (h : Hop L) → record { from = s; step = h.step; to = h.to } ∈ g.edges → h.to ≤ 63
    hop_scope s h m = let k = range.to_scope _ m in let f = scopes_few in omega arith

    steps_good : (s : ℕ) (hs : List (Hop L)) → Along L g s hs → are_steps (map (shown_step letters) hs) ≡ true
    unfolding are_steps
    steps_good s [] a = refl
    steps_good s (h ∷ hs) a =
        and_both (is_capital (letter_of letters h.step.label)) (leb h.to most_scope && are_steps (map (shown_step letters) hs)) (capital h.step.label (hop_listed s h a.0))
        (and_both (leb h.to most_scope) (are_steps (map (shown_step letters) hs)) (le-leb h.to most_scope (hop_scope s h a.0)) (steps_good h.to hs a.1))

    abbrev leaving : ℕ → List (Hop L)
    leaving s = hops_at L g.edges s

    -- a hop along an edge has the turn that is looked up: edges by one label from and to the same
    -- scopes have one turn
    turn_back : (s : ℕ) (h : Hop L) → record { from = s; step = h.step; to = h.to } ∈ g.edges
        → turn_by (leaving s) h.step.label h.to ≡ h.step.turn
    turn_back s h m =
        turn_is (leaving s) h (hops_at_intro L g.edges m)
        (λ k n e f. range.together _ _ (hops_at_elim L g.edges s n) m refl f e)

    hop_back : (s : ℕ) (h : Hop L) → record { from = s; step = h.step; to = h.to } ∈ g.edges
        → hop_of leaving letters s (shown_step letters h) ≡ h
    unfolding hop_of
    hop_back s h m = rw (numbered letters table.letters h.step.label (hop_listed s h m), turn_back s h m)

    hops_back : (s : ℕ) (hs : List (Hop L)) → Along L g s hs → hops_of leaving letters s (map (shown_step letters) hs) ≡ hs
    unfolding hops_of
    hops_back s [] a = refl
    hops_back s (h ∷ hs) a = rw (hop_back s h a.0, hops_back h.to hs a.1)

  module _ (i : ℕ) (inside : i < length (queries_of cells)) (r : RulesRow L) (entry : Entry L g (query_at cells i) r) where
    abbrev p : PathRow
    p = shown_row letters r.mark r.path.start r.path.hops

    range : InRange L g
    unfolding query_at
    range = (table.accepted (query_at cells i) (table.starts (query_at cells i) (get_d_in (queries_of cells) i _ inside))).in_range

    few : length p.steps ≤ 63
    few =
        let w = entry.visible.reached.path in
        let n = distinct_bounded g.scopes (r.path.start ∷ tos L r.path.hops) w.simple
        (λ x m. ⊎_elim (λ e. subst (λ (y : ℕ). y < g.scopes) (sym e) w.starts) (λ k. tos_bounded L g range r.path.start r.path.hops w.along x k) (Memᴰ.cases_cons m)) in
        let f = scopes_few in
        let t = tos_length L r.path.hops in
        let l : length (map (shown_step letters) r.path.hops) ≡ length r.path.hops = length-map r.path.hops (shown_step letters) in
        omega arith

    pub is_row_lem : is_row p ≡ true
    unfolding is_row
    is_row_lem =
        let w = entry.visible.reached.path in
        let m = table.marks _ entry.declared in
        let s = w.starts in
        let f = scopes_few in
        and_both (leb p.mark most_mark) _ (le-leb p.mark most_mark (omega arith))
        (and_both (leb p.start most_scope) _ (le-leb p.start most_scope (omega arith))
        (and_both (leb (length p.steps) most_steps) _ (le-leb (length p.steps) most_steps few) (steps_good range r.path.start r.path.hops w.along)))

    pub rules_row_is : as_rules_row cells p ≡ r
    unfolding as_rules_row path_of
    rules_row_is = rw (hops_back range r.path.start r.path.hops entry.visible.reached.path.along)

    pub judged_visible : judge_answer text i (row_text p) 63 ≡ done as_visible
    judged_visible =
        ((judged_right text cells read i inside (row_text p) p (written_then_read p is_row_lem) 63 few).answered as_visible).1
        (subst (Entry L g (query_at cells i)) (sym rules_row_is) entry)

pub listed_visible : ListedVisible
unfolding listed_text
listed_visible text cells read i inside r entry = (
  row_text (shown_row (letters_of cells) r.mark r.path.start r.path.hops),
  refl,
  judged_visible text cells read i inside r entry,
)
