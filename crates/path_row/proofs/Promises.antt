-- The values of specs/Promises. Assumes nothing.
use Prim.Native.Nat.{ℕ, ◌≤◌, ◌<◌}
use mathlib.Core.Path.{◌≡◌, refl, ap, ◌∙◌}
use mathlib.Core.Bool.{false, or-false}
use mathlib.Core.Logic.{◌↔◌}
use mathlib.Core.Option.{some, none}
use mathlib.Core.List.{List, [], ◌∷◌}
use native.Mathlib.Omega.{arith}
use lib.ListN.{length}
use Rattle.graph_rows.specs.Decode.{letters_of, rules_of, graph_of}
use Rattle.graph_rows.specs.Accepted.{AcceptedTable}
use Rattle.graph_file.proofs.Promises.{read_accepted}
use Rattle.scope_graph.specs.Language.{◌∈◌, End, by, Language}
use Rattle.scope_graph.specs.Graph.{Edge, InRange, Query}
use Rattle.scope_graph.specs.Turns.{Turned, label_end}
use Rattle.scope_graph.specs.Rows.{language}
use Rattle.scope_graph.specs.Computed.{hops_at}
use Rattle.scope_graph.proofs.Lists.{not_true}
use Rattle.scope_graph.proofs.Rows.{preferred_by_row}
use Rattle.scope_graph.proofs.Nodes.{hops_at_elim, hops_at_intro}
use Rattle.path_row.specs.declared.form.Step.{Step}
use Rattle.path_row.specs.Form.{behind_front, first_step, letters_in, scopes_in}
use Rattle.path_row.specs.Numbering.{label_number, hop_of, hop_in, path_of}
use Rattle.path_row.specs.Promises.{FirstSteps, Numbers, LettersNumbered, TurnsLookedUp, TurnOfRow, HeldAreTaken, HeldAreAtHand}
use Rattle.path_row.proofs.FormLaws.{head_found}
use Rattle.path_row.proofs.RowReads.{steps_first}
use Rattle.path_row.proofs.TakenLaws.{taken_held, at_hand_held}
use Rattle.path_row.proofs.NumberingLaws.{number_tells, number_beyond, number_within}
use Rattle.path_row.proofs.TurnLaws.{turn_none, turn_is, turn_found, never_later, never_earlier}

pub first_step_lem : FirstSteps
unfolding first_step behind_front
first_step_lem s = record {
  behind = λ h e. rw e (head_found s h.mark h.start h.width e).place;
  at_end = λ e. rw e;
  steps = steps_first s (first_step s) refl;
}

module _ (cells : List ℕ) (table : AcceptedTable cells) where
  abbrev L : Language
  L = language (rules_of cells)

  -- a query of a graph that has a scope: any serves
  abbrev some_query : Query L
  some_query = record { start = 0; name = record { kind = 0; high = 0; low = 0 } }

  range : InRange L (graph_of cells)
  range = (table.accepted some_query (let n = table.scopes_least in omega arith)).in_range

  module _ (t : Step) (absent : ¬ (t.label ∈ letters_of cells)) where
    far : length (letters_of cells) ≤ label_number (letters_of cells) t.label
    far = number_beyond (letters_of cells) t.label absent

    no_turn : (s : ℕ) → (hop_in cells s t).step.turn ≡ none
    unfolding hop_of rules_of
    no_turn s =
        turn_none (hops_at L (graph_of cells).edges s) (label_number (letters_of cells) t.label) t.scope
        (λ h m e. let near = range.listed _ (hops_at_elim L (graph_of cells).edges s m) in let k = far in omega arith)

    abbrev step : ℕ → Turned
    step s = (hop_in cells s t).step

    is_less : (s : ℕ) (e : End Turned) → L.prefers (by (step s)) e ≡ false
    unfolding hop_of rules_of
    is_less s e =
        rw (never_later (step s) e (no_turn s)) (or-false _)
        ∙ not_true _ (λ h.
        let near : label_number (letters_of cells) t.label < length (letters_of cells) = (table.order_ends _ (preferred_by_row (rules_of cells).order (by (label_number (letters_of cells) t.label)) (label_end e) h)).0 in
        let k = far in omega arith)

    is_more : (s : ℕ) (e : End Turned) → L.prefers e (by (step s)) ≡ false
    unfolding hop_of rules_of
    is_more s e =
        rw (never_earlier (step s) e (no_turn s)) (or-false _)
        ∙ not_true _ (λ h.
        let near : label_number (letters_of cells) t.label < length (letters_of cells) = (table.order_ends _ (preferred_by_row (rules_of cells).order (label_end e) (by (label_number (letters_of cells) t.label)) h)).1 in
        let k = far in omega arith)

  numbers : Numbers cells
  unfolding rules_of
  numbers = record {
    listed = number_within (letters_of cells);
    past = number_beyond (letters_of cells);
    unturned = no_turn;
    never_less = is_less;
    never_more = is_more;
    apart = λ x y differ same. differ (number_tells (letters_of cells) x y same);
  }

  -- the edge row that a step goes along at a turn
  module _ (s : ℕ) (t : Step) (n : ℕ) where
    abbrev row : Edge L
    row = record { from = s; step = record { label = label_number (letters_of cells) t.label; turn = some n }; to = t.scope }

    of_row : ((hop_in cells s t).step.turn ≡ some n) ↔ (row ∈ (graph_of cells).edges)
    unfolding hop_of
    of_row = (
      λ e. hops_at_elim L (graph_of cells).edges s (turn_found (hops_at L (graph_of cells).edges s) row.step.label t.scope n e),
      λ m. turn_is (hops_at L (graph_of cells).edges s) (record { step = row.step; to = row.to }) (hops_at_intro L {e = row} (graph_of cells).edges m)
          (λ k o label to. range.together _ row (hops_at_elim L (graph_of cells).edges s o) m refl to label),
    )

pub letters_numbered : LettersNumbered
letters_numbered text cells e = numbers cells (read_accepted text cells e)

-- steps by their letters and scopes
steps_parted : (ss ts : List Step) → letters_in ss ≡ letters_in ts → scopes_in ss ≡ scopes_in ts → ss ≡ ts
steps_parted [] [] e f = refl
steps_parted [] (t ∷ ts) e f = absurd (let z : ◌≡◌ {A = ℕ} 0 1 = cc in omega arith)
steps_parted (s ∷ ss) [] e f = absurd (let z : ◌≡◌ {A = ℕ} 0 1 = cc in omega arith)
steps_parted (s ∷ ss) (t ∷ ts) e f =
    let l : s.label ≡ t.label = cc in
    let k : s.scope ≡ t.scope = cc in
    let m : letters_in ss ≡ letters_in ts = cc in
    let n : scopes_in ss ≡ scopes_in ts = cc in
    rw (steps_parted ss ts m n) (ap (λ (x : Step). x ∷ ts) (λ i. record { label = l i; scope = k i }))

pub turns_looked_up : TurnsLookedUp
unfolding path_of
turns_looked_up cells p q start letters scopes = rw (start, steps_parted p.steps q.steps letters scopes)

pub turn_of_row : TurnOfRow
turn_of_row text cells e = of_row cells (read_accepted text cells e)

pub held_are_taken : HeldAreTaken
held_are_taken = taken_held

pub held_are_at_hand : HeldAreAtHand
held_are_at_hand = at_hand_held
