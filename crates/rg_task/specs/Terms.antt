-- What the text of a run of a plan rests on, what is decided on a row, and which replies answer one.
use Rattle.std.specs.Prelude.{ℕ, List, ⊤}
use Rattle.rg_event.specs.declared.event.Event.{Event}
use Rattle.rg_config.specs.Plans.{Planned}
use Rattle.rg_row.specs.Rows.{row_of}
use Rattle.rg_reply.specs.declared.reply.Reply.{Reply}
use Rattle.rg_reply.specs.declared.reply.Reply.TheVariants.{Answered, Moved}
use Rattle.rg_run_spec.specs.Verdicts.{Verdict, verdict_of, or_reply}
use Rattle.rg_run_spec.specs.Output.{Terms}

abbrev pub terms_of : Planned → Terms
terms_of plan = record {
  basis = record { fields = plan.shape.fields; queries = plan.queries; most = plan.settings.events; header = plan.settings.header; grace = plan.settings.grace };
  commit = plan.settings.commit;
  save = plan.settings.save;
}

-- the verdict of a plan on a cleaned line with that offset, where these events were accepted before it
abbrev pub verdict_on : Planned → List Event → ℕ → List ℕ → Verdict
verdict_on plan events offset line = verdict_of plan.settings.events plan.settings.grace events (or_reply (row_of plan.shape.fields offset line))

-- the reply has the answers to an accepted event
abbrev pub HasAnswers : Reply → Type 0
HasAnswers (Answered answers) = ⊤
HasAnswers (Moved answers) = ⊤
HasAnswers other = ⊥
