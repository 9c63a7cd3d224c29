use mathlib.Core.Path.{sym, ap, ◌∙◌}
use Rattle.graph_file.specs.Reader.{rest_after}
use Rattle.graph_file.proofs.SoughtStart.{start_unnumbered, start_unspaced, start_plain, start_unkinded, start_kinds}
use Rattle.graph_file.proofs.sought.name_start.Goals as goal

pub returns-in_err-next-clause-place : goal.returns-in_err-next-clause-place
unfolding rest_after
returns-in_err-next-clause-place c = ap (λ x. rest_after x c.args.text.now) c.from_residual.ensures ∙ start_unnumbered c.args.form c.args.text.now c.args.at (sym c.read_number.ensures.answer ∙ c.in_err-next.was)

pub returns-in_err-name-clause-place : goal.returns-in_err-name-clause-place
unfolding rest_after
returns-in_err-name-clause-place c = ap (λ x. rest_after x c.args.text.now) c.from_residual-in_err-name.ensures ∙ start_unspaced c.args.form c.args.text.now c.args.at _ _ (sym c.read_number.ensures.answer ∙ c.in_ok-next.was) _ c.take_bare.ensures.answer c.in_err-name.was

pub returns-then-not-has_kinds : goal.returns-then-not-has_kinds
unfolding rest_after
returns-then-not-has_kinds c = record {
  place = ap (λ x. rest_after x c.args.text.now) (sym c.in_ok-name.was) ∙ start_plain c.args.form c.args.text.now c.args.at _ _ (sym c.read_number.ensures.answer ∙ c.in_ok-next.was) _ c.take_bare.ensures.answer (sym c.has_kinds.ensures.answer ∙ c.if-not-has_kinds.true);
  inside = c.in_ok-name.ensures.inside;
}

pub returns-in_err-past_kind-clause-place : goal.returns-in_err-past_kind-clause-place
unfolding rest_after
returns-in_err-past_kind-clause-place c = ap (λ x. rest_after x c.args.text.now) c.from_residual-in_err-past_kind.ensures ∙ start_unkinded c.args.form c.args.text.now c.args.at _ _ (sym c.read_number.ensures.answer ∙ c.in_ok-next.was) _ c.take_bare.ensures.answer _ c.in_ok-name.was (sym c.has_kinds.ensures.answer ∙ c.if-not-has_kinds.false) _ c.past_kind.ensures.place c.in_err-past_kind.was

pub returns : goal.returns
returns c = record {
  place = start_kinds c.args.form c.args.text.now c.args.at _ _ (sym c.read_number.ensures.answer ∙ c.in_ok-next.was) _ c.take_bare.ensures.answer _ c.in_ok-name.was (sym c.has_kinds.ensures.answer ∙ c.if-not-has_kinds.false) _ c.past_kind.ensures.place _ c.in_ok-past_kind.was _ c.take_bare-2.ensures.answer;
  inside = c.take_bare-2.ensures.inside;
}
