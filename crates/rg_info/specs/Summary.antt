-- What a log comes to.
use Rattle.std.specs.Prelude.{ℕ, ◌+◌, ◌-◌, ◌^◌, min, List, length}
use Rattle.rg_event.specs.Rising.{next_offset, last_time}
use Rattle.rg_event.specs.declared.event.Event.{Event}
use Rattle.rg_chunk.specs.Heads.{last_stamp}
use Rattle.rg_reservoir.specs.declared.walk.Stage.{Stage}
use Rattle.rg_reservoir.specs.declared.walk.Stage.TheVariants as stage
use Rattle.rg_dump.specs.Behind.{events_in}
use Rattle.rg_dump.specs.Stages.{stages_of}
use Rattle.rg_info.specs.declared.summary.Summary.{Summary}

-- so many frames with these events
abbrev pub summary_with : ℕ → List Event → Summary
summary_with frames events = record { frames = frames; events = length events; next = next_offset events; time = last_time events }

abbrev pub summary_of : List Stage → Summary
summary_of stages = summary_with (length stages) (events_in stages)

-- that of the log of a file, up to where it ends or is damaged
abbrev pub summary_in : List ℕ → Summary
summary_in bytes = summary_of (stages_of bytes).stages

-- a sum that stops at the greatest number
abbrev pub up_to_most : ℕ → ℕ
up_to_most n = min n (2 ^ 64 - 1)

-- with one frame more
abbrev pub with_stage : Summary → Stage → Summary
with_stage summary (stage.Schema shape) = record { frames = summary.frames + 1; events = summary.events; next = summary.next; time = summary.time }
with_stage summary (stage.Growth shape values) = record { frames = summary.frames + 1; events = summary.events; next = summary.next; time = summary.time }
with_stage summary (stage.Chunk events) = record {
  frames = summary.frames + 1;
  events = up_to_most (summary.events + length events);
  next = up_to_most ((last_stamp events).0 + 1);
  time = (last_stamp events).1;
}
