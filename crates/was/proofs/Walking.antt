-- The loops that grow the list: what holds between two turns. Assumes nothing.
use Prim.Native.Nat.{ℕ, suc, ◌+◌, ◌≤◌, ◌<◌}
use mathlib.Core.Path.{◌≡◌, sym, ap, ◌∙◌, subst}
use mathlib.Core.Logic.{⊎_elim}
use mathlib.Core.List.Memᴰ
use mathlib.Core.List.{List, [], ◌∷◌, ◌++◌, flat_map}
use native.Mathlib.Omega.{arith}
use native.Mathlib.Numerals.{add-one}
use lib.ListN.{length, get_or, set, take, drop, length-set}
use lib.Seq.{length-take-le, take_all, take-suc, split_at, take-append-le, get_or-take}
use Rattle.scope_graph.specs.Language.{◌∈◌}
use Rattle.scope_graph.specs.Readers.{numbers_below}
use Rattle.scope_graph.proofs.Lists.{here, there}
use Rattle.graph_rows.specs.Format.{most_scopes}
use Rattle.graph_table.specs.Rows.{next_row}
use Rattle.was.specs.Order.{with_new, gathered, met_from, met_all}
use Rattle.was.specs.Cells.{at_front, scopes_by, Scopes, Begins}
use Rattle.was.proofs.Growing.{scopes_new, scopes_gathered, new_longer, longer_in, longer_size, gathered_longer, gathered_in, gathered_next}
use Rattle.was.proofs.Meeting.{met_append, met_one, rounds, rounds_start, rounds_end, rounds_gather}
use Rattle.was.proofs.CellLaws.{front_take, front_front, front_more, Held, held_start, held_take, held_grown, held_all}
use Rattle.was.proofs.RowLaws.{scopes_from, from_all, from_row, from_none, next_is, from_next}

-- the scopes that the rows of s lead to, row by row
pub record Gathering (edges : List ℕ) (s : ℕ) (first : List ℕ) (n : ℕ) (cells : List ℕ) (k p : ℕ) : Type 0 where
  pub held : Held first cells k
  pub row : p < length edges → (p + 6 ≤ length edges) × (get_or edges (p + 1) 0 ≡ s)
  pub rest : gathered (take k cells) (scopes_from edges s p) ≡ gathered (take n first) (scopes_by edges s)
  pub below : (t : ℕ) → t ∈ scopes_from edges s p → t < most_scopes

module _ (edges : List ℕ) (s : ℕ) (first : List ℕ) (n : ℕ) where
  pub gathering_start : (p : ℕ) → Begins first n → ((t : ℕ) → t ∈ scopes_by edges s → t < most_scopes) → p ≡ next_row edges s 0 → Gathering edges s first n first n p
  gathering_start p b h e = record {
    held = held_start first n b;
    row = next_is edges s 0 p e;
    rest = ap (gathered (take n first)) (sym (from_all edges s ∙ from_next edges s 0 p e));
    below = λ t m. h t (subst (λ (l : List ℕ). t ∈ l) (sym (from_all edges s ∙ from_next edges s 0 p e)) m);
  }

  module _ (cells : List ℕ) (k p : ℕ) (so : Gathering edges s first n cells k p) where
    pub gathering_end : length edges ≤ p
        → (k ≡ length (gathered (take n first) (scopes_by edges s))) × (cells ≡ at_front (gathered (take n first) (scopes_by edges s)) first)
    unfolding gathered
    gathering_end h = held_all first cells k _ so.held (sym (ap (gathered (take k cells)) (from_none edges s p h)) ∙ so.rest)

    module _ (inside : p < length edges) where
      here_first : scopes_from edges s p ≡ get_or edges (p + 3) 0 ∷ scopes_from edges s (p + 6)
      here_first = from_row edges s p (so.row inside).0 (so.row inside).1

      pub gathering_below : get_or edges (p + 3) 0 < most_scopes
      gathering_below = so.below (get_or edges (p + 3) 0) (subst (λ (l : List ℕ). get_or edges (p + 3) 0 ∈ l) (sym here_first) here)

      module _ (v : ℕ) (is : v ≡ get_or edges (p + 3) 0) (m q : ℕ) (after : List ℕ) (count : m ≡ length (with_new (take k cells) v))
          (put : after ≡ at_front (with_new (take k cells) v) cells) (next : q ≡ next_row edges s (p + 6)) where
        scopes : Scopes most_scopes (with_new (take k cells) v)
        scopes = scopes_new most_scopes (take k cells) v so.held.begins.scopes (rw is gathering_below)

        pub gathering_next : Gathering edges s first n after m q
        unfolding gathered
        gathering_next = record {
          held = held_grown first cells k so.held (with_new (take k cells) v) after m (new_longer (take k cells) v) scopes count put;
          row = next_is edges s (p + 6) q next;
          rest =
              ap (λ (l : List ℕ). gathered l (scopes_from edges s q))
              (held_take first cells k so.held (with_new (take k cells) v) after m (new_longer (take k cells) v) scopes count put)
              ∙ ap (gathered (with_new (take k cells) v)) (sym (from_next edges s (p + 6) q next))
              ∙ ap (λ (x : ℕ). gathered (with_new (take k cells) x) (scopes_from edges s (p + 6))) is
              ∙ ap (gathered (take k cells)) (sym here_first)
              ∙ so.rest;
          below = λ t j. so.below t
              (subst (λ (l : List ℕ). t ∈ l) (sym here_first) (there (subst (λ (l : List ℕ). t ∈ l) (sym (from_next edges s (p + 6) q next)) j)));
        }

-- the scopes that are not listed, in turn
pub record Missing (first : List ℕ) (n : ℕ) (cells : List ℕ) (k s : ℕ) : Type 0 where
  pub held : Held first cells k
  pub is : take k cells ≡ gathered (take n first) (numbers_below s)

module _ (first : List ℕ) (n : ℕ) where
  pub missing_start : (s : ℕ) → s ≡ 0 → Begins first n → Missing first n first n s
  unfolding numbers_below gathered
  missing_start s e b = record { held = held_start first n b; is = ap (λ (x : ℕ). gathered (take n first) (numbers_below x)) (sym e) }

  pub missing_next : (cells : List ℕ) (k s next m : ℕ) (after : List ℕ) → Missing first n cells k s → s < most_scopes → next ≡ s + 1
      → m ≡ length (with_new (take k cells) s) → after ≡ at_front (with_new (take k cells) s) cells → Missing first n after m next
  missing_next cells k s next m after so h e count put =
      let l = new_longer (take k cells) s in
      let z = scopes_new most_scopes (take k cells) s so.held.begins.scopes h in
      record {
        held = held_grown first cells k so.held (with_new (take k cells) s) after m l z count put;
        is =
            held_take first cells k so.held (with_new (take k cells) s) after m l z count put
            ∙ ap (λ (x : List ℕ). with_new x s) so.is ∙ sym (gathered_next s (take n first))
            ∙ ap (λ (x : ℕ). gathered (take n first) (numbers_below x)) (sym e);
      }

  pub missing_end : (cells : List ℕ) (k s count : ℕ) → Missing first n cells k s → s ≡ count
      → (k ≡ length (gathered (take n first) (numbers_below count))) × (cells ≡ at_front (gathered (take n first) (numbers_below count)) first)
  missing_end cells k s count so e = held_all first cells k _ so.held (so.is ∙ ap (λ (x : ℕ). gathered (take n first) (numbers_below x)) e)

-- The list as its own queue: the first i scopes are passed, and what they meet is listed.
pub record Queue (after : ℕ → List ℕ) (start : ℕ) (first cells : List ℕ) (n i : ℕ) : Type 0 where
  pub held : Held first cells n
  pub some : 1 ≤ n
  pub within : i ≤ n
  pub all : rounds after (take n cells) ≡ met_all after start
  pub passed : (x : ℕ) → x ∈ met_from after (take i (take n cells)) → x ∈ take n cells

module _ (after : ℕ → List ℕ) (start : ℕ) (first : List ℕ) (below : (s t : ℕ) → t ∈ after s → t < most_scopes) where
  one : length first ≡ most_scopes → take 1 (set first 0 start) ≡ start ∷ []
  unfolding at_front
  one size = ap (take 1) (front_more first 0 start (omega arith)) ∙ front_take (start ∷ []) first

  pub queue_start : length first ≡ most_scopes → start < most_scopes → Queue after start first (set first 0 start) 1 0
  unfolding met_from flat_map
  queue_start size h = record {
    held = record {
      begins = record {
        size = length-set first 0 start ∙ size;
        most = omega arith;
        scopes = subst (λ (l : List ℕ). Scopes most_scopes l) (sym (one size)) (record {
          once = ((λ m. Memᴰ.not-nil m), tt);
          below = λ x m. let e = Memᴰ.eq_of_singleton m in omega arith;
        });
      };
      is = front_more first 0 start (omega arith) ∙ ap (λ (l : List ℕ). at_front l first) (sym (one size));
    };
    some = omega arith;
    within = omega arith;
    all = ap (rounds after) (one size) ∙ rounds_start after start;
    passed = λ x m. absurd (Memᴰ.not-nil m);
  }

  module _ (cells : List ℕ) (n i : ℕ) (so : Queue after start first cells n i) where
    abbrev listed : List ℕ
    listed = take n cells

    size : length listed ≡ n
    size = let s = so.held.begins.size in let m = so.held.begins.most in length-take-le n cells (omega arith)

    pub queue_end : n ≤ i → (n ≡ length (met_all after start)) × (cells ≡ at_front (met_all after start) first)
    queue_end h =
        held_all first cells n (met_all after start) so.held
        (sym (rounds_end after listed
        (λ x m. so.passed x (subst (λ (l : List ℕ). x ∈ met_from after l) (sym (take_all i listed (let z = size in omega arith))) m)))
        ∙ so.all)

    module _ (h : i < n) where
      abbrev scope : ℕ
      scope = get_or cells i 0

      this : get_or listed i 0 ≡ scope
      this = get_or-take n cells i 0 h

      next_take : take (i + 1) listed ≡ take i listed ++ (scope ∷ [])
      next_take = ap (λ (k : ℕ). take k listed) (add-one i) ∙ take-suc listed i 0 (let z = size in omega arith) ∙ ap (λ (x : ℕ). take i listed ++ (x ∷ [])) this

      parts : met_from after listed ≡ met_from after (take i listed) ++ (after scope ++ met_from after (drop (suc i) listed))
      parts =
          ap (met_from after) (split_at listed i 0 (let z = size in omega arith) ∙ ap (λ (x : ℕ). take i listed ++ (x ∷ drop (suc i) listed)) this)
          ∙ met_append after (take i listed) (scope ∷ drop (suc i) listed)
          ∙ ap (λ (l : List ℕ). met_from after (take i listed) ++ l)
          (met_append after (scope ∷ []) (drop (suc i) listed) ∙ ap (λ (l : List ℕ). l ++ met_from after (drop (suc i) listed)) (met_one after scope))

      module _ (m : ℕ) (next : List ℕ) (count : m ≡ length (gathered listed (after scope))) (put : next ≡ at_front (gathered listed (after scope)) cells) where
        grown : Scopes most_scopes (gathered listed (after scope))
        grown = scopes_gathered most_scopes (after scope) listed so.held.begins.scopes (below scope)

        is : take m next ≡ gathered listed (after scope)
        is = held_take first cells n so.held (gathered listed (after scope)) next m (gathered_longer (after scope) listed) grown count put

        longer : length listed ≤ m
        longer = let l = longer_size listed (gathered listed (after scope)) (gathered_longer (after scope) listed) in omega arith

        first_part : take (i + 1) (take m next) ≡ take i listed ++ (scope ∷ [])
        first_part =
            let w = gathered_longer (after scope) listed in
            ap (take (i + 1)) (is ∙ w.is) ∙ take-append-le (i + 1) listed w.more (let z = size in omega arith) ∙ next_take

        in_part : (x : ℕ) → x ∈ met_from after (take (i + 1) (take m next)) → x ∈ (met_from after (take i listed) ++ after scope)
        in_part x =
            subst (λ (l : List ℕ). x ∈ l)
            (ap (met_from after) first_part ∙ met_append after (take i listed) (scope ∷ []) ∙ ap (λ (l : List ℕ). met_from after (take i listed) ++ l) (met_one after scope))

        pub queue_next : Queue after start first next m (i + 1)
        queue_next = record {
          held = held_grown first cells n so.held (gathered listed (after scope)) next m (gathered_longer (after scope) listed) grown count put;
          some = let z = size in let w = longer in let o = so.some in omega arith;
          within = let z = size in let w = longer in omega arith;
          all =
              ap (rounds after) is
              ∙ sym (rounds_gather after (after scope) (met_from after (take i listed)) (met_from after (drop (suc i) listed)) listed parts so.passed
              so.held.begins.scopes (below scope))
              ∙ so.all;
          passed = λ x y. subst (λ (l : List ℕ). x ∈ l) (sym is)
              (⊎_elim (λ j. longer_in listed (gathered listed (after scope)) (gathered_longer (after scope) listed) x (so.passed x j))
              (λ j. gathered_in (after scope) listed x j) (Memᴰ.append_cases (met_from after (take i listed)) (in_part x y)));
        }

-- The loop begins with the start put already; seen from the cells before that, it ends alike.
module _ (after : ℕ → List ℕ) (start : ℕ) (first : List ℕ) (below : (s t : ℕ) → t ∈ after s → t < most_scopes) (size : length first ≡ most_scopes) where
  pub queue_begun : start < most_scopes → Queue after start (set first 0 start) (set first 0 start) 1 0
  queue_begun h =
      let q = queue_start after start first below size h in
      record { held = held_start (set first 0 start) 1 q.held.begins; some = q.some; within = q.within; all = q.all; passed = q.passed }

  pub queue_all : (cells : List ℕ) (n i : ℕ) → Queue after start (set first 0 start) cells n i → n ≤ i
      → (n ≡ length (met_all after start)) × (cells ≡ at_front (met_all after start) first)
  queue_all cells n i so h =
      let e = queue_end after start (set first 0 start) below cells n i so h in
      let o = so.some in
      let l = e.0 in (
        e.0,
        e.1 ∙ ap (at_front (met_all after start)) (front_more first 0 start (omega arith))
            ∙ front_front (start ∷ []) (met_all after start) first (omega arith),
      )
