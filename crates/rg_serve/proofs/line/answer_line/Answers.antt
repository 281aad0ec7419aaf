use Rattle.std.proofs.Common.{◌==◌, inl, refl, sym, ◌∙◌, ap}
use Rattle.std.specs.Prelude.{Some}
use Rattle.std.specs.List.{list_any}
use Rattle.rg_config.specs.Plans.{planned}
use Rattle.rg_task.specs.Terms.{terms_of}
use Rattle.rg_run.proofs.Laws.{no_lf_cleaned, as_header, as_row, as_control}
use Rattle.rg_serve.proofs.line.answer_line.Goals as goal

pub answer_row-requires-clause-one_line : goal.answer_row-requires-clause-one_line
answer_row-requires-clause-one_line g c = ap (λ l. list_any (λ byte. byte == 10) l) c.clean-cleaned.ensures ∙ no_lf_cleaned c.args.offset c.args.line.now c.requires.one_line

pub returns-then-is_header-clause-answers : goal.returns-then-is_header-clause-answers
returns-then-is_header-clause-answers g c =
    c.answer_decided.ensures.answers (planned c.args.plan.now) c.args.line.now (inl (as_header (terms_of (planned c.args.plan.now)).basis c.args.offset (Some c.args.line.now) (sym c.is_header.ensures ∙ c.if-is_header.true), refl))

pub returns-in-Some-clause-answers : goal.returns-in-Some-clause-answers
returns-in-Some-clause-answers g c =
    c.answer_control.ensures.answers (planned c.args.plan.now) c.args.line.now
    (as_control (terms_of (planned c.args.plan.now)).basis c.args.offset c.args.line.now c.clean-cleaned.result.now (sym c.is_header.ensures ∙ c.if-is_header.false) c.clean-cleaned.ensures c.in-Some.control (sym c.in-Some.is ∙ c.control_in.ensures))

pub returns-in-None-clause-answers : goal.returns-in-None-clause-answers
returns-in-None-clause-answers g c =
    c.answer_row.ensures.answers c.args.line.now
    (as_row (terms_of (planned c.args.plan.now)).basis c.args.offset c.args.line.now c.clean-cleaned.result.now (sym c.is_header.ensures ∙ c.if-is_header.false) c.clean-cleaned.ensures (sym c.in-None.is ∙ c.control_in.ensures))
