-- What is decided on a line.
use Rattle.std.specs.Prelude.{◌≡◌, ◌<◌, ◌≤◌, ℕ, Bool, List, length, if◌then◌else◌}
use Rattle.rg_event.specs.Codec.{IsEventOf}
use Rattle.rg_event.specs.Rising.{last_time}
use Rattle.rg_event.specs.declared.event.Event.{Event}
use Rattle.rg_metric.specs.declared.answer.Answer.{Answer}
use Rattle.rg_reply.specs.declared.reply.Reply.{Reply}
use Rattle.rg_reply.specs.declared.reply.Reply.TheVariants.{Answered, Moved}
use Rattle.rg_config.specs.Plans.{Planned}
use Rattle.rg_reservoir.specs.Kept.{base, time_of}
use Rattle.rg_reservoir.specs.declared.reservoir.Reservoir.{Reservoir}
use Rattle.rg_row.specs.Rows.{row_of}
use Rattle.rg_run_spec.specs.Verdicts.{Verdict, refused, accepted, moved, verdict_of, or_reply}
use Rattle.rg_task.specs.Terms.{HasAnswers}
use Rattle.rg_recover.specs.Sessions.{count_in}
use Rattle.rg_recover.specs.declared.line.Decision.{Decision}
use Rattle.rg_recover.specs.declared.line.Decision.TheVariants.{Refused, Accepted}

-- the verdict of a plan on a cleaned line with that offset, where these events were accepted before it
abbrev pub verdict_on : Planned → List Event → ℕ → List ℕ → Verdict
verdict_on plan events offset line = verdict_of plan.settings.events plan.settings.grace events (or_reply (row_of plan.shape.fields offset line))

-- a decision as a verdict
abbrev pub as_verdict : Decision → Verdict
as_verdict (Accepted event is_moved) = if is_moved then moved event else accepted event
as_verdict (Refused reply) = refused reply

-- the reservoir has these events, by their number and their last time, which is one that a row may have
pub record AreBefore (events : List Event) (r : Reservoir) : Type 0 where
  pub small : last_time events ≤ 1000000000000000
  pub last : time_of r ≡ last_time events
  pub count : length events ≡ count_in r

-- the event of that offset may be taken behind those of the reservoir: it is of its columns, no earlier than the last one, and there is room for it
pub record Follows (r : Reservoir) (offset : ℕ) (event : Event) : Type 0 where
  pub fits : IsEventOf (base r).shape.fields event
  pub placed : event.offset ≡ offset
  pub in_time : 0 < count_in r → time_of r ≤ event.time
  pub below : count_in r < (base r).limit

-- an accepted event has that offset and may be taken, and a reply that refuses a line answers none
abbrev pub MayBe : Reservoir → ℕ → Decision → Type 0
MayBe r offset (Accepted event is_moved) = Follows r offset event
MayBe r offset (Refused reply) = HasAnswers reply → ⊥

-- the reply of these answers to an event, with the last time in place of its own or not
abbrev pub answered_as : Bool → List Answer → Reply
answered_as is_moved answers = if is_moved then Moved answers else Answered answers
