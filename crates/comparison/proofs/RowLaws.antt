-- Which of two rows is more specific, test by test; and that over the block of a table that was
-- read it is what the rules say. Assumes nothing.
use mathlib.Core.Path.{◌≡◌, sym, ap, ◌∙◌, fun_ext}
use mathlib.Core.Bool.{Bool, true, false, ◌&&◌, ◌||◌}
use mathlib.Core.Logic.{◌⊎◌, inl, inr}
use mathlib.Core.List.{List, [], ◌∷◌}
use Prim.Native.Nat.{ℕ, ◌≤◌, ◌<◌}
use borrow.Author.Tests.{ne_eqb, eq-eqb, eqb-true, lt-ltb, le-ltb}
use lib.Dec.{eqb, ltb}
use Rattle.text_field.specs.Outcome.{Outcome, refused, done, and_then, refuse_if}
use Rattle.graph_rows.specs.Decode.{letters_of, rules_of, graph_of}
use Rattle.graph_file.specs.File.{WasRead}
use Rattle.scope_graph.specs.Language.{Language, End, stop, by}
use Rattle.scope_graph.specs.Rows.{language}
use Rattle.scope_graph.specs.Path.{Hop}
use Rattle.scope_graph.specs.Turns.{Turned}
use Rattle.scope_graph.specs.Computed.{hops_at, preferred_to, same_hop, more_specific}
use Rattle.block.specs.Block.{block_hops}
use Rattle.scope_graph.proofs.Lists.{Two, and_right}
use Rattle.search.specs.Tables.{table_order}
use Rattle.board.specs.Made.{Made}
use Rattle.board.proofs.Queries.{sound}
use Rattle.board.proofs.Board.{hops_are, order_is}
use Rattle.path_row.specs.declared.form.Step.{Step}
use Rattle.path_row.specs.Form.{PathRow, row_here}
use Rattle.path_row.specs.Numbering.{label_number, hop_of, hops_of, path_of}
use Rattle.path_row.proofs.TurnLaws.{same_hop_lem}
use Rattle.path_row.proofs.RowReads.{RowIs}
use Rattle.comparison.specs.declared.rows.Compared.{Compared}
use Rattle.comparison.specs.declared.rows.Compared.TheVariants.{First, Second, Neither}
use Rattle.comparison.specs.Compare.{neither, Told, as_told, which_of, told_in, row_before, comparison, told, told_of, compare_rows}
use Rattle.comparison.specs.Promises.{agree_steps}
use Rattle.comparison.specs.Steps.{step_at, same_step, steps_preferred, steps_compared}
use Rattle.comparison.specs.Letters.{block_letters}
use Rattle.comparison.proofs.LetterLaws.{letters_same}
use Rattle.comparison.proofs.AgreeLaws.{agreement_apart, agreement_same}

-- which of two rows with one start is more specific
module _ (block : List ℕ) (s : ℕ) (ts us : List Step) (n : ℕ) (t : Bool) (e : t ≡ steps_preferred block s ts us) where
  pub first_is : t ≡ true → told_in (First n) ≡ as_told (steps_compared block s ts us) n
  unfolding told_in steps_compared which_of
  first_is f = rw (← e, f)

  module _ (f : t ≡ false) (u : Bool) (g : u ≡ steps_preferred block s us ts) where
    pub second_is : u ≡ true → told_in (Second n) ≡ as_told (steps_compared block s ts us) n
    unfolding told_in steps_compared which_of
    second_is h = rw (← e, f, ← g, h)

    pub neither_is : u ≡ false → told_in (Neither n) ≡ as_told (steps_compared block s ts us) n
    unfolding told_in steps_compared which_of
    neither_is h = rw (← e, f, ← g, h)

-- over the block of a table that was read, as the rules have it
module _ (cells block : List ℕ) (was : WasRead cells) (made : Made cells block) where
  abbrev L : Language
  L = language (rules_of cells)

  -- the block's edges and letters are the file's
  pub steps_here : (s : ℕ) (ts : List Step) → hops_of (hops_at L (graph_of cells).edges) (letters_of cells) s ts ≡ hops_of (block_hops block) (block_letters block) s ts
  steps_here s ts = rw (letters_same cells block was made, fun_ext (hops_are cells block (sound cells was) made))

  abbrev hops : ℕ → List Step → List (Hop L)
  hops s ts = hops_of (block_hops block) (block_letters block) s ts

  order_here : (a c : End Turned) → L.prefers a c ≡ table_order block a c
  order_here a c = ap (λ (f : End Turned → End Turned → Bool). f a c) (sym (order_is cells block (sound cells was) made))

  -- behind steps that leave one scope: the same hop is one label and one scope
  rest_same : (s : ℕ) (t u : Step) (ts us : List Step)
      → preferred_to L (hops t.scope ts) (hops t.scope us) stop ≡ steps_preferred block t.scope ts us
      → (same_hop L.same_step (hop_of (block_hops block) (block_letters block) s t) (hop_of (block_hops block) (block_letters block) s u)
      && preferred_to L (hops t.scope ts) (hops u.scope us) stop)
      ≡ (same_step block t u && steps_preferred block t.scope ts us)
  unfolding same_hop hop_of
  rest_same s t u ts us rest =
      ap (λ (z : Bool). z && preferred_to L (hops t.scope ts) (hops u.scope us) stop) (same_hop_lem (block_hops block) (block_letters block) s t u)
      ∙ at (Two (same_step block t u))
    where
      at : (same_step block t u ≡ true) ⊎ (same_step block t u ≡ false)
          → (same_step block t u && preferred_to L (hops t.scope ts) (hops u.scope us) stop)
          ≡ (same_step block t u && steps_preferred block t.scope ts us)
      at (inl e) =
          let one : t.scope ≡ u.scope = eqb-true _ _ (and_right (eqb (label_number (block_letters block) t.label) (label_number (block_letters block) u.label)) _ e) in
          rw (e, ← one) rest
      at (inr e) = rw e

  preferred_same : (s : ℕ) (ts us : List Step) → preferred_to L (hops s ts) (hops s us) stop ≡ steps_preferred block s ts us
  unfolding preferred_to hops_of steps_preferred
  preferred_same s [] [] = order_here stop stop
  preferred_same s (t ∷ ts) [] = order_here (by (step_at block s t)) stop
  preferred_same s [] (u ∷ us) = order_here stop (by (step_at block s u))
  preferred_same s (t ∷ ts) (u ∷ us) =
      rw (order_here (by (step_at block s t)) (by (step_at block s u)))
      (ap (λ (z : Bool). table_order block (by (step_at block s t)) (by (step_at block s u)) || z) (rest_same s t u ts us (preferred_same t.scope ts us)))

  before_same : (p q : PathRow) → p.start ≡ q.start → row_before cells p q ≡ steps_preferred block p.start p.steps q.steps
  unfolding row_before more_specific path_of
  before_same p q e =
      rw (eq-eqb p.start q.start e, steps_here p.start p.steps, steps_here q.start q.steps, ← e)
      (preferred_same p.start p.steps q.steps)

before_apart : (cells : List ℕ) (p q : PathRow) → (p.start ≡ q.start → ⊥) → row_before cells p q ≡ false
unfolding row_before more_specific path_of
before_apart cells p q e = rw (ne_eqb p.start q.start e)

compared_same : (cells block : List ℕ) → WasRead cells → Made cells block → (p q : PathRow) → p.start ≡ q.start
    → comparison cells p q ≡ steps_compared block p.start p.steps q.steps
unfolding comparison steps_compared
compared_same cells block was made p q e = rw (before_same cells block was made p q e, before_same cells block was made q p (sym e), e)

compared_apart : (cells : List ℕ) (p q : PathRow) → (p.start ≡ q.start → ⊥) → comparison cells p q ≡ neither
unfolding comparison which_of
compared_apart cells p q e = rw (before_apart cells p q e, before_apart cells q p (λ f. e (sym f)))

-- the whole comparison, test by test
module _ (cells a b : List ℕ) (n m : ℕ) where
  abbrev whole : Outcome Told
  whole = compare_rows cells a b n m

  pub first_bad : row_here a ≡ refused 8 → refused 8 ≡ whole
  unfolding compare_rows and_then
  first_bad e = rw e

  module _ (mark start count : ℕ) (p : RowIs a mark start count) where
    pub second_bad : row_here b ≡ refused 8 → refused 8 ≡ whole
    unfolding compare_rows and_then
    second_bad e = rw (p.read, e)

    module _ (mark' other more : ℕ) (q : RowIs b mark' other more) where
      opened : whole ≡ refuse_if (ltb n count) 9 (refuse_if (ltb m more) 9 (done (told cells p.row q.row)))
      unfolding compare_rows and_then
      opened = rw (p.read, q.read, p.counts, q.counts)

      pub first_over : n < count → refused 9 ≡ whole
      unfolding refuse_if
      first_over h = sym (opened ∙ rw (lt-ltb n count h))

      module _ (h : count ≤ n) where
        pub second_over : m < more → refused 9 ≡ whole
        unfolding refuse_if
        second_over k = sym (opened ∙ rw (le-ltb n count h, lt-ltb m more k))

        module _ (k : more ≤ m) where
          pub fits : whole ≡ done (told cells p.row q.row)
          unfolding refuse_if
          fits = opened ∙ rw (le-ltb n count h, le-ltb m more k)

-- by the starts and the steps of the rows
module _ (cells : List ℕ) (s t : ℕ) (ts us : List Step) where
  pub starts_apart : (s ≡ t → ⊥) → told_in (Neither 0) ≡ told_of cells s t ts us
  unfolding told_in told told_of
  starts_apart z = sym (rw (compared_apart cells (record { mark = 0; start = s; steps = ts }) (record { mark = 0; start = t; steps = us }) z, agreement_apart cells (record { mark = 0; start = s; steps = ts }) (record { mark = 0; start = t; steps = us }) z))

  pub starts_same : WasRead cells → s ≡ t → (block : List ℕ) → Made cells block → (k : ℕ) → k ≡ agree_steps ts us → (r : Compared)
      → told_in r ≡ as_told (steps_compared block s ts us) k → told_in r ≡ told_of cells s t ts us
  unfolding told told_of
  starts_same was z block made k f r e =
      e ∙ rw f (sym (rw (compared_same cells block was made (record { mark = 0; start = s; steps = ts }) (record { mark = 0; start = t; steps = us }) z, agreement_same cells (record { mark = 0; start = s; steps = ts }) (record { mark = 0; start = t; steps = us }) z)))
