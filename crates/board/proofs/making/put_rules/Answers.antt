use Prim.Native.Nat.{ℕ}
use mathlib.Core.Path.{◌≡◌, ap, subst, ◌∙◌}
use mathlib.Core.List.{List}
use lib.ListN.{length, get_or, set, length-set}
use borrow.Rule.Slice.PartMut.{put_mid}
use Rattle.graph_rows.specs.Admission.{value, blank}
use Rattle.graph_table.specs.Sections.{rows_of}
use Rattle.block.specs.Layout.{DELTA, BETTER, ACCEPT, SCOPES, USABLE, LETTER}
use Rattle.board.specs.Tables.{tabulate, transition_cells, accepted, letter_of, BetterIs}
use Rattle.board.proofs.CellLaws.{puts_size, copied}
use Rattle.board.proofs.FillLaws.{rules_put}
use native.Mathlib.Omega.{arith}
use Rattle.board.proofs.making.put_rules.Goals as goal

pub returns : goal.returns
returns c = record {
  put = let table = c.args.table.now in
      let b0 = c.args.block.now in
      let delta = c.transition_table-delta.result in
      let better = c.better_table-better.result in
      let usable = c.usable_table-usable.result in
      let letters = c.letter_table-letters.result in
      let b1 : List ℕ = put_mid DELTA 128 b0 c.copy_from_slice.new.self in
      let b2 : List ℕ = put_mid BETTER 9 b1 c.copy_from_slice-2.new.self in
      let b4 : List ℕ = set (set b2 ACCEPT c.accepting.result) SCOPES c.value_of.result in
      let b5 : List ℕ = put_mid USABLE 9 b4 c.copy_from_slice-3.new.self in
      let b6 : List ℕ = put_mid LETTER 8 b5 c.copy_from_slice-4.new.self in
      let e1 = copied b0 DELTA 128 _ delta c.copy_from_slice.ensures.after (omega arith) (omega arith) in
      let l1 : length b1 ≡ 1900 = ap length e1 ∙ puts_size delta b0 DELTA ∙ c.told-block in
      let e2 = copied b1 BETTER 9 _ better c.copy_from_slice-2.ensures.after (omega arith) (omega arith) in
      let l2 : length b2 ≡ 1900 = ap length e2 ∙ puts_size better b1 BETTER ∙ l1 in
      let l4 : length b4 ≡ 1900 = simp length-set l2 in
      let e5 = copied b4 USABLE 9 _ usable c.copy_from_slice-3.ensures.after (omega arith) (omega arith) in
      let l5 : length b5 ≡ 1900 = ap length e5 ∙ puts_size usable b4 USABLE ∙ l4 in
      let e6 = copied b5 LETTER 8 _ letters c.copy_from_slice-4.ensures.after (omega arith) (omega arith) in
      rules_put table b0 better c.accepting.result c.value_of.result c.told-block
      (subst (λ (x : List ℕ). BetterIs (rows_of x) better) c.rows_at-2.ensures.answer c.better_table-better.ensures.answer)
      c.states_of.result delta usable letters b1 b2 b5 b6
      (c.transition_table-delta.ensures.answer ∙ ap (λ (x : List ℕ). transition_cells (rows_of x)) c.rows_at.ensures.answer)
      e1 e2 c.usable_table-usable.ensures.answer e5
      (c.letter_table-letters.ensures.answer ∙ ap (λ (x : List ℕ). tabulate (letter_of (rows_of x)) 8) c.rows_at-5.ensures.answer)
      e6
      (λ q h. c.accepting.ensures.answer q h ∙ ap (λ (x : List ℕ). accepted (rows_of x) q) c.rows_at-3.ensures.answer)
      (c.value_of.ensures.answer ∙ ap (λ (x : List ℕ). value (get_or (rows_of x) 0 blank) 0) c.rows_at-4.ensures.answer)
      c.states_of.ensures.still;
}
