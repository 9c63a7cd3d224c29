-- `put_readers` meets its contract. The loop's invariant: the lines of the readers below the next
-- scope are written. Assumes nothing.
use Prim.Native.Nat.{ℕ}
use mathlib.Core.Path.{◌≡◌, sym, ap, ◌∙◌, subst}
use mathlib.Core.Bool.{Bool}
use mathlib.Core.List.{List}
use native.Mathlib.Omega.{arith}
use borrow.Author.Rules.{rules}
use Rattle.scope_graph.specs.Rows.{language}
use Rattle.scope_graph.specs.Ends.{ends_at}
use Rattle.scope_graph.specs.Readers.{query_for, readers}
use Rattle.text_field.specs.Buffer.{puts}
use Rattle.text_field.proofs.WritingLaws.{◌then◌, wrote_none, written}
use Rattle.graph_rows.specs.Decode.{rules_of, graph_of}
use Rattle.graph_table.specs.declared.rows.DeclarationRow.{DeclarationRow}
use Rattle.graph_table.specs.Values.{packed}
use Rattle.board.specs.Marks.{DeclaringIs}
use Rattle.readers.specs.Given.{declaration_on}
use Rattle.readers.proofs.Asked.{scopes_counted, scopes_all}
use Rattle.readers.proofs.Texts.{lines_none, lines_passed, lines_read, text_whole}
use Rattle.readers.proofs.scopes.put_readers.Goals.{then-reads, else-reads}
use Rattle.readers.proofs.scopes.put_readers.Goals as goal

abbrev test : List ℕ → DeclarationRow → ℕ → Bool
test cells d s = ends_at (language (rules_of cells)) (graph_of cells) (query_for (language (rules_of cells)) (declaration_on cells d) s) d.at

pub part-requires : goal.part-requires
part-requires c = record { made = c.requires.stands.made; section = omega arith }

pub loop-s-init : goal.loop-s-init
loop-s-init c = rw (lines_none (test c.args.table.now c.args.d)) (wrote_none _)

pub reads-requires : goal.reads-requires
reads-requires c = let m = scopes_counted c.args.table.now c.args.block.now c.args.d c.requires.stands in record { stands = c.requires.stands; declared = subst (λ (l : List ℕ). DeclaringIs l (packed c.args.d.name) c.declaring-declared.result) c.part.ensures.answer c.declaring-declared.ensures.answer; scope = omega arith }

pub loop-s-preserved : goal.loop-s-preserved
loop-s-preserved c =
    elim c.if-reads.branch [
      | then-reads w ↦
          rw (w.to-is, lines_read (test c.args.table.now c.args.d) c.loop-s.s (sym c.reads.ensures.answer ∙ w.if-reads.true))
          (c.loop-s.invariant then w.put_scope.ensures.wrote)
      | else-reads w ↦ rw (w.to-is, lines_passed (test c.args.table.now c.args.d) c.loop-s.s (sym c.reads.ensures.answer ∙ w.if-reads.false)) c.loop-s.invariant
    ]

pub returns : goal.returns
unfolding readers
returns c =
    let all : c.loop-s.s ≡ c.scope_count-count.result = omega arith in
    let w = c.put_bytes.ensures.wrote then c.loop-s.invariant in
    let text =
    text_whole (test c.args.table.now c.args.d) c.loop-s.s _
    (all ∙ c.scope_count-count.ensures.answer ∙ scopes_all c.args.table.now c.args.block.now c.args.d c.requires.stands) in
    let m = written _ _ _ _ c.new-to.ensures.starts w ∙ ap (puts (c.args.out.now, 0)) text in
    record { written = search (rules, w.same, m) }
