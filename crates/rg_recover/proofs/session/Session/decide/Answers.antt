use Rattle.std.proofs.Common.{◌≡◌, ◌∙◌, ℕ, Ok, ap, subst}
use Rattle.rg_event.specs.Shapes.{Shape}
use Rattle.rg_row.specs.Rows.{row_of}
use Rattle.rg_run_spec.specs.Verdicts.{verdict_of}
use Rattle.rg_reservoir.specs.Kept.{base}
use Rattle.rg_recover.specs.Deciding.{as_verdict}
use Rattle.rg_recover.proofs.Lines.{says_row, no_answers}
use Rattle.rg_recover.proofs.session.Session.decide.Goals as goal

pub returns-in-Ok-clause-says : goal.returns-in-Ok-clause-says
returns-in-Ok-clause-says g c = rw (← c.self.view_is) (λ events before.
    let s = c.self.inside in
    let event = c.in-Ok.event in
    let given = subst (λ (shape : Shape). row_of shape.fields c.args.offset c.args.line.now ≡ Ok event) c.self.invariant.shape_is c.in-Ok.ensures.agrees in
    says_row (base s.reservoir).limit s.grace events (row_of (base s.reservoir).shape.fields c.args.offset c.args.line.now) event (as_verdict c.judge.result) given
    (c.judge.ensures.says events before ∙ ap (λ (most : ℕ). verdict_of most s.grace events (Ok event)) c.self.invariant.most_is))

pub returns-in-Err-clause-accepts : goal.returns-in-Err-clause-accepts
returns-in-Err-clause-accepts g c = no_answers c.in-Err.fault c.row_reply.result c.row_reply.ensures
