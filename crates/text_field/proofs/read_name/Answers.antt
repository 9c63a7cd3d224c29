use mathlib.Core.Path.{◌∙◌}
use Prim.Native.Nat.{◌<◌}
use lib.ListN.{length}
use borrow.Author.Rules.{rules}
use borrow.Author.Tests.{tests}
use Rattle.text_field.proofs.Steps.{no_name, no_lower, name_ends, name_inside, some_name}
use Rattle.text_field.proofs.read_name.Goals as goal

pub returns-in_err-first : goal.returns-in_err-first
returns-in_err-first c = record { answer = c.from_residual.ensures ∙ no_name c.args.s.now c.args.at (search (rules, tests)) }

pub returns-then-not-is_lower : goal.returns-then-not-is_lower
returns-then-not-is_lower c = record { answer = no_lower c.args.s.now c.args.at (search (rules, tests)) (search (rules, tests)) }

pub overflow_add-end-2 : goal.overflow_add-end-2
overflow_add-end-2 c =
    let a = c.args
    in let h : a.at < length a.s.now = search (rules, tests)
    in let i = name_inside a.s.now a.at h _ _ (name_ends a.s.now a.at _ _ c.name_len.ensures.answer)
    in search rules

pub slice_bounds-name-end : goal.slice_bounds-name-end
slice_bounds-name-end c =
    let a = c.args
    in let h : a.at < length a.s.now = search (rules, tests)
    in let i = name_inside a.s.now a.at h _ _ (name_ends a.s.now a.at _ _ c.name_len.ensures.answer)
    in search rules

pub returns : goal.returns
returns c =
    let a = c.args
    in let h : a.at < length a.s.now = search (rules, tests)
    in record {
      answer = some_name a.s.now a.at h _ (name_ends a.s.now a.at _ _ c.name_len.ensures.answer) (search (rules, tests)) _ _ c.pack_high.ensures.answer c.pack_low.ensures.answer;
    }
