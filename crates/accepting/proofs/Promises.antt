-- The values of specs/Promises. Assumes nothing.
use Prim.Native.Nat.{ℕ, ◌+◌, ◌<◌}
use mathlib.Core.Path.{◌≡◌, refl, sym, ap, ◌∙◌, subst}
use mathlib.Core.Bool.{Bool, true, false}
use mathlib.Core.Logic.{◌↔◌}
use mathlib.Core.Option.{none}
use mathlib.Core.List.{List, [], flat_map}
use native.Mathlib.Omega.{arith}
use lib.ListN.{length}
use Rattle.scope_graph.specs.Graph.{Query}
use Rattle.scope_graph.specs.Rows.{language}
use Rattle.scope_graph.specs.Computed.{found_none}
use Rattle.text_field.specs.Outcome.{Outcome, refused, done, and_then}
use Rattle.text_field.proofs.ByteLaws.{both, clash}
use Rattle.text_field.proofs.OutcomeLaws.{done_same, not_done, went}
use Rattle.graph_file.specs.File.{read_cells}
use Rattle.graph_rows.specs.Decode.{rules_of, queries_of, scopes_of}
use Rattle.board.specs.Queries.{query_at}
use Rattle.board.proofs.Queries.{get_d_in, accepted}
use Rattle.resolution.specs.Listing.{listing_text}
use Rattle.told.specs.Delivered.{Delivered, is_named, are_rows, is_delivered, Printed}
use Rattle.told.specs.Apart.{told_of}
use Rattle.told.proofs.Promises.{taken_apart, no_printing}
use Rattle.accepting.specs.Tests.{is_right}
use Rattle.accepting.specs.Verdict.{Finding, all_right, wrong_at, first_wrong, accept_of, accept_for}
use Rattle.accepting.specs.Promises.{list_at, RightList, AcceptedExactly, FirstWrong, AcceptRefused, OwnAccepted, Promises}
use Rattle.accepting.proofs.VerdictLaws.{text_read}
use Rattle.accepting.proofs.Rules.{right_is}
use Rattle.accepting.proofs.Firsts.{First, all_forth, all_back, first_forth, first_back}
use Rattle.accepting.proofs.Own.{own_printing}

-- what `query_at` and `list_at` are past the end
abbrev no_query : (cells : List ℕ) → Query (language (rules_of cells))
no_query cells = record { start = 0; name = record { kind = 0; high = 0; low = 0 } }

abbrev no_list : Delivered
no_list = record { found = found_none; awaits = none; rows = [] }

-- a finding is that of the listings that the text is the printing of
module _ (cells lists : List ℕ) (f : Finding) where
  found_forth : accept_of cells lists ≡ done f → (ds : List Delivered) × Printed cells ds lists × (first_wrong cells 0 (queries_of cells) ds ≡ f)
  unfolding accept_of
  found_forth e =
      let w = went (told_of cells lists) (λ ds. done (first_wrong cells 0 (queries_of cells) ds)) f e in
      (w.gained, (taken_apart cells lists w.gained).0 w.before, done_same (first_wrong cells 0 (queries_of cells) w.gained) f w.after)

  found_back : (ds : List Delivered) → Printed cells ds lists → first_wrong cells 0 (queries_of cells) ds ≡ f → accept_of cells lists ≡ done f
  unfolding accept_of and_then
  found_back ds p e = rw ((taken_apart cells lists ds).1 p) (ap {B = Outcome Finding} (λ (x : Finding). done x) e)

-- the test of one listing is the rules' own
module _ (text cells : List ℕ) (read : read_cells text ≡ done cells) (lists : List ℕ) (ds : List Delivered) (p : Printed cells ds lists) where
  starts : (i : ℕ) → i < length (queries_of cells) → (query_at cells i).start < scopes_of cells
  unfolding query_at
  starts i h = (accepted cells (text, read)).starts (query_at cells i) (get_d_in (queries_of cells) i _ h)

  formed : (i : ℕ) → i < length (queries_of cells) → are_rows (list_at ds i).rows ≡ true
  unfolding list_at is_delivered
  formed i h =
      let d = list_at ds i in
      let k = p.one_each in
      (both (is_named d.awaits) (are_rows d.rows) (p.formed d (get_d_in ds i _ (omega arith)))).1

  right : (i : ℕ) → i < length (queries_of cells) → (is_right cells (query_at cells i) (list_at ds i) ≡ true) ↔ RightList cells i (list_at ds i)
  right i h = right_is text cells read (query_at cells i) (starts i h) (list_at ds i) (formed i h)

  wrong : (i : ℕ) → i < length (queries_of cells) → (is_right cells (query_at cells i) (list_at ds i) ≡ false) ↔ (¬ RightList cells i (list_at ds i))
  wrong i h = (
    λ e r. clash ((right i h).1 r) e,
    λ n. by (is_right cells (query_at cells i) (list_at ds i)) refl n,
  )
    where
      by : (t : Bool) → is_right cells (query_at cells i) (list_at ds i) ≡ t → (¬ RightList cells i (list_at ds i)) → t ≡ false
      by true e n = absurd (n ((right i h).0 e))
      by false e n = refl

pub accepted_exactly : AcceptedExactly
unfolding query_at list_at
accepted_exactly text cells read lists = (
  λ e.
      let w = found_forth cells lists all_right (sym (text_read text lists cells read) ∙ e) in
      let p = w.1 in
      (w.0, p, λ i h. (right text cells read lists w.0 p i h).0 (all_forth cells (no_query cells) no_list 0 (queries_of cells) w.0 p.one_each w.2 i h)),
  λ w.
      let p = w.1 in
      text_read text lists cells read
      ∙ found_back cells lists all_right w.0 p (all_back cells (no_query cells) no_list 0 (queries_of cells) w.0 p.one_each (λ i h. (right text cells read lists w.0 p i h).1 (w.2 i h))),
)

pub first_wrong_lem : FirstWrong
unfolding query_at list_at
first_wrong_lem text cells read lists i = (
  λ e.
      let w = found_forth cells lists (wrong_at i) (sym (text_read text lists cells read) ∙ e) in
      let p = w.1 in
      let f = first_forth cells (no_query cells) no_list 0 (queries_of cells) w.0 p.one_each i w.2 in
      to w.0 p f.0 f.1 f.2,
  λ w.
      let p = w.1 in
      let h = w.2 in
      let z : 0 + i ≡ i = omega arith in
      text_read text lists cells read
      ∙ found_back cells lists (wrong_at i) w.0 p
      (first_back cells (no_query cells) no_list 0 (queries_of cells) w.0 p.one_each i (record {
        inside = h;
        wrong = (wrong text cells read lists w.0 p i h).1 w.3;
        before = λ j k. (right text cells read lists w.0 p j (omega arith)).1 (w.4 j k);
      })
      ∙ ap wrong_at z),
)
  where
    to : (ds : List Delivered) (p : Printed cells ds lists) (k : ℕ) → i ≡ 0 + k → First cells (no_query cells) no_list (queries_of cells) ds k
        → (es : List Delivered) × Printed cells es lists × (i < length (queries_of cells)) × (¬ RightList cells i (list_at es i)) × ((j : ℕ) → j < i → RightList cells j (list_at es j))
    to ds p k e f =
        let n = f.inside in
        let h : i < length (queries_of cells) = omega arith in
        let same : k ≡ i = omega arith in
        let w : is_right cells (query_at cells i) (list_at ds i) ≡ false = subst (λ (m : ℕ). is_right cells (query_at cells m) (list_at ds m) ≡ false) same f.wrong in
        (ds, p, h, (wrong text cells read lists ds p i h).0 w, λ j g. (right text cells read lists ds p j (omega arith)).0 (f.before j (omega arith)))

pub refusals : AcceptRefused
unfolding accept_for accept_of and_then
refusals text lists = (
  λ n e. rw e,
  λ cells read n. (
    λ e. (no_printing cells lists n).0 (by cells n (told_of cells lists) refl (sym (text_read text lists cells read) ∙ e)),
    λ w. text_read text lists cells read ∙ rw ((no_printing cells lists n).1 w),
  ),
)
  where
    by : (cells : List ℕ) (n : ℕ) (o : Outcome (List Delivered)) → told_of cells lists ≡ o
        → and_then o (λ ds. done (first_wrong cells 0 (queries_of cells) ds)) ≡ refused n → told_of cells lists ≡ refused n
    by cells n (refused m) f e = f ∙ (let k : m ≡ n = cc in ap refused k)
    by cells n (done ds) f e = absurd (not_done n (first_wrong cells 0 (queries_of cells) ds) (sym e))

pub own : OwnAccepted
own text cells read = (accepted_exactly text cells read (flat_map (listing_text cells) (queries_of cells))).1 (own_printing text cells read)

pub promises : Promises
promises = record { accepted_exactly = accepted_exactly; first_wrong = first_wrong_lem; refusals = refusals; own = own }
