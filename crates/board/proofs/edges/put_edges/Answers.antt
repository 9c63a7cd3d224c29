use Prim.Native.Nat.{◌+◌}
use mathlib.Core.Path.{◌≡◌, refl, sym, ◌∙◌}
use lib.ListN.{set, length-set}
use Rattle.block.specs.Layout.{FIRST}
use Rattle.board.proofs.EdgeLaws.{upto_none, upto_more, most_more, upto_all}
use native.Mathlib.Omega.{arith}
use Rattle.board.proofs.edges.put_edges.Goals as goal

pub loop-s-init : goal.loop-s-init
loop-s-init c = record { upto = upto_none c.args.rows.now c.args.block.now (omega arith); on = λ u h. refl; most = λ j h. absurd (omega arith) }

pub loop-s-preserved : goal.loop-s-preserved
loop-s-preserved c = let all = c.loop-s.invariant.on c.loop-s.s (omega arith) in
    let place : FIRST + c.loop-s.s + 1 ≡ FIRST + (c.loop-s.s + 1) = omega arith in
    rw place (record {
      upto = upto_more c.args.rows.now (set c.args.block.now FIRST 0) c.loop-s.block c.loop-s.s c.loop-s.put.edges c.loop-s.invariant.upto (omega arith) (simp length-set (omega arith))
          _ _ (rw (sym all) at c.put_scope-put.ensures.put.cells) (rw (sym all) at c.put_scope-put.ensures.put.count);
      on = λ u h. c.loop-s.invariant.on u (omega arith) ∙ c.put_scope-put.ensures.put.on u (omega arith);
      most = most_more c.args.rows.now (set c.args.block.now FIRST 0) c.loop-s.block c.loop-s.s c.loop-s.put.edges c.loop-s.invariant.upto (omega arith) (simp length-set (omega arith))
          c.put_scope-put.new.block c.put_scope-put.result.edges c.loop-s.put.top c.put_scope-put.result.top
          (rw (sym all) at c.put_scope-put.ensures.put.cells) c.loop-s.invariant.most c.put_scope-put.ensures.put.more c.put_scope-put.ensures.put.most;
    })

pub returns : goal.returns
returns c = record { put = upto_all _ c.args.block.now _ _ _ c.loop-s.put.top c.loop-s.invariant.upto c.loop-s.invariant.most (omega arith) }
