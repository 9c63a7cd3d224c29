-- An admitted table is an accepted scope graph (specs/Accepted). Assumes nothing.
use Prim.Native.Nat.{ℕ, ◌<◌}
use mathlib.Core.Path.{◌≡◌, refl, sym, ap, subst}
use mathlib.Core.Bool.{Bool, true, false, ◌&&◌}
use mathlib.Core.Logic.{◌⊎◌, inl, inr, ⊎_elim}
use mathlib.Core.Option.{some}
use mathlib.Core.List.{List, [], ◌∷◌, map}
use native.Mathlib.Omega.{arith}
use lib.Dec.{leb}
use lib.ListN.{length, get_or, length-map}
use borrow.Author.Tests.{ltb-true, leb-true}
use Rattle.scope_graph.specs.Language.{◌∈◌, Language}
use Rattle.scope_graph.specs.Rows.{OrderPair, Transition, PackedName, Rules, RulesPass, language}
use Rattle.scope_graph.specs.Graph.{Edge, Declaration, InRange, Query, OpenPair}
use Rattle.scope_graph.specs.Completion.{PairBefore}
use Rattle.scope_graph.specs.Order.{end_of}
use Rattle.scope_graph.specs.Listing.{Pairwise, EdgeBefore, MarkBefore, Accepted}
use Rattle.scope_graph.proofs.Lists.{here, there, and_left, and_right, map_elim}
use Rattle.scope_graph.proofs.Rows.{language_laws}
use Rattle.text_field.specs.Bytes.{is_lower}
use Rattle.graph_rows.specs.Format.{Content, state, scope, mark, count, label, end, plain_kind, field, labels, transitions, edges, declarations, open_pairs, sections, section_at, has_kinds, has_turns, edge_shape, declaration_shape, query_shape, shapes_of, shape_at, label_section, pair_section, transition_section, accept_section, count_section, edge_section, declaration_section, open_section, query_section, turn_count}
use Rattle.graph_rows.specs.Admission.{Row, value, blank, content_in_range, item_in_range, in_range}
use Rattle.graph_rows.specs.Decode.{rows_in, letters_of, order_pair_of, transition_of, rules_of, name_at, edge_of, declaration_of, open_pair_of, query_of, scopes_of, graph_of, opens_of, queries_of}
use Rattle.graph_rows.specs.Accepted.{EndListed, TransitionBefore, AcceptedTable}
use Rattle.graph_rows.proofs.DecodeWay.{AdmittedTable}
use Rattle.graph_rows.proofs.KeyLaws.{KeyBefore}
use Rattle.graph_rows.proofs.DecodeRows.{item_in, Ascends}
use Rattle.graph_rows.proofs.DecodeTable.{table_limit, table_count, table_in_range, table_ascends, table_order_lem, table_letters}
use Rattle.graph_rows.proofs.DecodeEdges.{edge_key_lem, old_turns, turn_in, one_turn}
use Rattle.graph_rows.proofs.DecodeKinds.{declared_lower, declared_plain, sought_lower, sought_plain}
use Rattle.graph_rows.proofs.DecodePlaces.{table_rows, table_length, table_most}
use Rattle.graph_rows.proofs.DecodeOrder.{end_of_before, end_of_listed, order_passes}

-- what holds of every row holds of what it stands for
each : {B : Type 0} (f : Row → B) (P : B → Type 0) (rows : List Row) → ((row : Row) → row ∈ rows → P (f row)) → (b : B) → b ∈ map f rows → P b
each f P rows h b m = let r = map_elim f rows m in subst P (sym r.2) (h r.0 r.1)

pairwise_map : {B : Type 0} (f : Row → B) (R : Row → Row → Type 0) (S : B → B → Type 0) (rows : List Row) → ((a b : Row) → R a b → S (f a) (f b))
    → Pairwise R rows → Pairwise S (map f rows)
pairwise_map f R S [] h p = tt
pairwise_map f R S (row ∷ rows) h p = (each f (S (f row)) rows (λ b m. h row b (p.0 b m)), pairwise_map f R S rows h p.1)

-- the orders of the rules, from the orders by key
mark_key : (r : Rules) (a b : Row) → KeyBefore (section_at declaration_section).key a b → MarkBefore (language r) (declaration_of r a) (declaration_of r b)
unfolding section_at sections declarations declaration_of name_at
mark_key r a b k at named =
    let kind : value a 1 ≡ value b 1 = ap (λ (n : PackedName). n.kind) named in
    let high : value a 2 ≡ value b 2 = ap (λ (n : PackedName). n.high) named in
    let low : value a 3 ≡ value b 3 = ap (λ (n : PackedName). n.low) named in
    later (value a 0) (value b 0) at (later (value a 1) (value b 1) kind (later (value a 2) (value b 2) high (later (value a 3) (value b 3) low (⊎_elim (λ l. l) (λ h. absurd h.1))))) k
  where
    -- where the values at a place are equal, the key goes on behind it
    later : {A B : Type 0} (x y : ℕ) → x ≡ y → (A → B) → (x < y) ⊎ ((x ≡ y) × A) → B
    later x y e f c = ⊎_elim (λ l. absurd (omega arith)) (λ d. f d.1) c

transition_key : (a b : Row) → KeyBefore (section_at transition_section).key a b → TransitionBefore (transition_of a) (transition_of b)
unfolding section_at sections transitions transition_of
transition_key a b k = ⊎_elim (λ l. inl l) (λ e. inr (e.0, ⊎_elim (λ l. l) (λ f. absurd f.1) e.1)) k

open_key : (r : Rules) (a b : Row) → KeyBefore (section_at open_section).key a b → PairBefore (language r) (open_pair_of r a) (open_pair_of r b)
unfolding section_at sections open_pairs open_pair_of
open_key r a b k =
    ⊎_elim (λ l. inl l) (λ e. inr (e.0, ⊎_elim (λ l. end_of_before (value a 1) (value b 1) l) (λ f. absurd f.1) e.1)) k

module _ (cells : List ℕ) (t : AdmittedTable cells) where
  -- a field of a row is in its range
  field_in : (k : ℕ) → k < 9 → (content : Content) (c : ℕ) → field content c ∈ (shape_at t.form k).row → (row : Row) → row ∈ rows_in k cells
      → content_in_range (length (letters_of cells)) (scopes_of cells) content (value row c) ≡ true
  unfolding in_range item_in_range
  field_in k h content c m row r = item_in _ (shape_at t.form k).row (field content c) m (table_in_range cells t k h row r)

  module _ (k : ℕ) (h : k < 9) (c : ℕ) where
    scope_in : field scope c ∈ (shape_at t.form k).row → (row : Row) → row ∈ rows_in k cells → value row c < scopes_of cells
    unfolding content_in_range
    scope_in m row r = ltb-true _ _ (field_in k h scope c m row r)

    label_in_lem : field label c ∈ (shape_at t.form k).row → (row : Row) → row ∈ rows_in k cells → value row c < length (letters_of cells)
    unfolding content_in_range
    label_in_lem m row r = ltb-true _ _ (field_in k h label c m row r)

    state_in : field state c ∈ (shape_at t.form k).row → (row : Row) → row ∈ rows_in k cells → value row c < 16
    unfolding content_in_range
    state_in m row r = ltb-true _ _ (field_in k h state c m row r)

    mark_in : field mark c ∈ (shape_at t.form k).row → (row : Row) → row ∈ rows_in k cells → value row c < 65536
    unfolding content_in_range
    mark_in m row r = ltb-true _ _ (field_in k h mark c m row r)

    end_in : field end c ∈ (shape_at t.form k).row → (row : Row) → row ∈ rows_in k cells → EndListed (length (letters_of cells)) (end_of (value row c))
    unfolding content_in_range
    end_in m row r = end_of_listed _ _ (leb-true _ _ (field_in k h end c m row r))

  -- from, label and to of an edge, with turns and without
  edge_from : field scope 0 ∈ (shape_at t.form edge_section).row
  unfolding edge_shape shape_at shapes_of
  edge_from = by (has_turns t.form)
    where
      by : (b : Bool) → field scope 0 ∈ (edge_shape b).row
      by true = here
      by false = here

  edge_label : field label 1 ∈ (shape_at t.form edge_section).row
  unfolding edge_shape shape_at shapes_of
  edge_label = by (has_turns t.form)
    where
      by : (b : Bool) → field label 1 ∈ (edge_shape b).row
      by true = there (there here)
      by false = there (there here)

  edge_to_lem : field scope 2 ∈ (shape_at t.form edge_section).row
  unfolding edge_shape shape_at shapes_of
  edge_to_lem = by (has_turns t.form)
    where
      by : (b : Bool) → field scope 2 ∈ (edge_shape b).row
      by true = there (there (there (there (there (there here)))))
      by false = there (there (there (there here)))

  -- the scope and the mark of a declaration, and the scope of a query, with kinds and without
  declared_at : field scope 0 ∈ (shape_at t.form declaration_section).row
  unfolding declaration_shape shape_at shapes_of
  declared_at = by (has_kinds t.form)
    where
      by : (b : Bool) → field scope 0 ∈ (declaration_shape b).row
      by true = here
      by false = here

  declared_mark : field mark 4 ∈ (shape_at t.form declaration_section).row
  unfolding declaration_shape shape_at shapes_of
  declared_mark = by (has_kinds t.form)
    where
      by : (b : Bool) → field mark 4 ∈ (declaration_shape b).row
      by true = there (there (there (there (there (there here)))))
      by false = there (there (there (there (there here))))

  query_start : field scope 0 ∈ (shape_at t.form query_section).row
  unfolding query_shape shape_at shapes_of
  query_start = by (has_kinds t.form)
    where
      by : (b : Bool) → field scope 0 ∈ (query_shape b).row
      by true = here
      by false = here

  count_in : (leb 1 (scopes_of cells) && leb (scopes_of cells) 64) ≡ true
  unfolding shape_at shapes_of content_in_range scopes_of
  count_in = field_in count_section (omega arith) count 0 here (get_or (rows_in count_section cells) 0 blank) (rw (table_count cells t) here)

  rules_pass : RulesPass (rules_of cells)
  unfolding rules_of transition_of shape_at shapes_of
  rules_pass = record {
    order = order_passes (rows_in pair_section cells) (table_order_lem cells t);
    labels = each transition_of (λ (x : Transition). x.label < length (letters_of cells)) (rows_in transition_section cells)
        (label_in_lem transition_section (omega arith) 1 (there (there here)));
    states = each transition_of (λ (x : Transition). x.next < 16) (rows_in transition_section cells)
        (state_in transition_section (omega arith) 2 (there (there (there (there here)))));
  }

  abbrev L : Language
  L = language (rules_of cells)

  abbrev as_edge : Row → Edge L
  as_edge = edge_of (rules_of cells)

  abbrev as_declaration : Row → Declaration L
  as_declaration = declaration_of (rules_of cells)

  abbrev as_open_pair : Row → OpenPair L
  as_open_pair = open_pair_of (rules_of cells)

  abbrev Beside : Edge L → Edge L → Type 0
  Beside e f = e.from ≡ f.from → e.to ≡ f.to → L.Together e.step f.step

  graph_in_range : InRange L (graph_of cells)
  unfolding graph_of edge_of declaration_of rules_of shape_at shapes_of
  graph_in_range = record {
    from_scope = each as_edge (λ (e : Edge L). e.from < scopes_of cells) (rows_in edge_section cells) (scope_in edge_section (omega arith) 0 edge_from);
    to_scope = each as_edge (λ (e : Edge L). e.to < scopes_of cells) (rows_in edge_section cells)
        (scope_in edge_section (omega arith) 2 edge_to_lem);
    listed = each as_edge (λ (e : Edge L). e.step.label < length (letters_of cells)) (rows_in edge_section cells)
        (label_in_lem edge_section (omega arith) 1 edge_label);
    carried = each as_edge (λ (e : Edge L). L.Carried e.step) (rows_in edge_section cells) (λ row m. (value row 3, refl));
    at_scope = each as_declaration (λ (d : Declaration L). d.at < scopes_of cells) (rows_in declaration_section cells)
        (scope_in declaration_section (omega arith) 0 declared_at);
    together = λ e f m n. each as_edge (λ (x : Edge L). Beside x f) (rows_in edge_section cells)
        (λ a k. each as_edge (Beside (as_edge a)) (rows_in edge_section cells) (λ b l from to label. ap some (one_turn cells t a b k l from label to)) f n) e m;
  }

  -- a section that is to ascend, in the order of what its rows stand for
  ascend : {B : Type 0} (f : Row → B) (S : B → B → Type 0) (k : ℕ) → k < 9 → Ascends (section_at k).sequence
      → ((a b : Row) → KeyBefore (section_at k).key a b → S (f a) (f b)) → Pairwise S (map f (rows_in k cells))
  ascend f S k h a s = pairwise_map f (KeyBefore (section_at k).key) S (rows_in k cells) s (table_ascends cells t k h a)

  accepted : (q : Query L) → q.start < scopes_of cells → Accepted L (graph_of cells) (opens_of cells) q
  unfolding graph_of opens_of section_at sections edges declarations open_pairs
  accepted q s = record {
    laws = language_laws (rules_of cells) rules_pass;
    in_range = graph_in_range;
    edges_ascend = ascend as_edge (EdgeBefore L) edge_section (omega arith) tt (edge_key_lem (rules_of cells));
    declarations_ascend = ascend as_declaration (MarkBefore L) declaration_section (omega arith) tt (mark_key (rules_of cells));
    opens_ascend = ascend as_open_pair (PairBefore L) open_section (omega arith) tt (open_key (rules_of cells));
    starts = s;
  }

  pub table_accepted : AcceptedTable cells
  unfolding rules_of graph_of opens_of queries_of order_pair_of transition_of edge_of name_at declaration_of open_pair_of query_of letters_of section_at sections labels transitions shape_at shapes_of
  table_accepted = record {
    rules = rules_pass;
    accepted = accepted;
    starts = each (query_of (rules_of cells)) (λ (q : Query L). q.start < scopes_of cells) (rows_in query_section cells)
        (scope_in query_section (omega arith) 0 query_start);
    transitions_ascend = ascend transition_of TransitionBefore transition_section (omega arith) tt transition_key;
    limits = table_limit cells t;
    labels = rw (length-map (rows_in label_section cells) (λ (row : Row). value row 0)) (table_limit cells t label_section (omega arith));
    letters = table_letters cells t;
    scopes_least = leb-true _ _ (and_left _ _ count_in);
    scopes_most = leb-true _ _ (and_right (leb 1 (scopes_of cells)) _ count_in);
    order_ends = each order_pair_of (λ (p : OrderPair). EndListed (length (letters_of cells)) p.less × EndListed (length (letters_of cells)) p.more) (rows_in pair_section cells)
        (λ row m. (end_in pair_section (omega arith) 0 here row m, end_in pair_section (omega arith) 1 (there (there here)) row m));
    states = each transition_of (λ (x : Transition). x.state < 16) (rows_in transition_section cells) (state_in transition_section (omega arith) 0 here);
    accepts = each (λ (row : Row). value row 0) (λ s. s < 16) (rows_in accept_section cells) (state_in accept_section (omega arith) 0 here);
    turns = each as_edge (λ (e : Edge L). (n : ℕ) → e.step.turn ≡ some n → n < turn_count) (rows_in edge_section cells)
        (λ row m n e. let same : value row 3 ≡ n = cc in subst (λ v. v < turn_count) same (turn_in cells t row m));
    old_line = λ n. each as_edge (λ (e : Edge L). e.step.turn ≡ some 0) (rows_in edge_section cells)
        (λ row m. ap (λ (v : ℕ). some v) (old_turns cells t n row m));
    declared_kinds = each as_declaration (λ (d : Declaration L). is_lower d.name.kind ≡ true) (rows_in declaration_section cells) (declared_lower cells t);
    sought_kinds = each (query_of (rules_of cells)) (λ (q : Query L). is_lower q.name.kind ≡ true) (rows_in query_section cells) (sought_lower cells t);
    old_declared = λ n. each as_declaration (λ (d : Declaration L). d.name.kind ≡ plain_kind) (rows_in declaration_section cells) (declared_plain cells t n);
    old_sought = λ n. each (query_of (rules_of cells)) (λ (q : Query L). q.name.kind ≡ plain_kind) (rows_in query_section cells) (sought_plain cells t n);
    marks = each as_declaration (λ (d : Declaration L). d.mark < 65536) (rows_in declaration_section cells)
        (mark_in declaration_section (omega arith) 4 declared_mark);
    open_at = each as_open_pair (λ (o : OpenPair L). o.at < scopes_of cells) (rows_in open_section cells) (scope_in open_section (omega arith) 0 here);
    open_end = each as_open_pair (λ (o : OpenPair L). EndListed (length (letters_of cells)) o.end) (rows_in open_section cells)
        (end_in open_section (omega arith) 1 (there (there here)));
    places = table_rows cells t;
    size = table_length cells t;
    size_most = table_most cells t;
  }
