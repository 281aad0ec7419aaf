-- The lines of a replay: each stored event is answered by the events up to and with it.
use Rattle.std.specs.Prelude.{ℕ, zero, suc, nat_le, List, [], ◌∷◌, ◌++◌, length, take, slice_get, Option, Some, None, if◌then◌else◌}
use Rattle.rg_event.specs.declared.event.Event.{Event}
use Rattle.rg_event.specs.Rising.{next_offset}
use Rattle.rg_metric.specs.Queries.{Asked}
use Rattle.rg_metric.specs.Replies.{answers_to}
use Rattle.rg_metric.specs.declared.answer.Answer.{Answer}
use Rattle.rg_reply.specs.declared.reply.Reply.{Reply}
use Rattle.rg_reply.specs.declared.reply.Reply.TheVariants.{Answered}
use Rattle.rg_reply.specs.Texts.{reply_line, mark_line}
use Rattle.rg_reply.specs.declared.mark.Mark.TheVariants.{Finished}

-- the answers to the event e of number i, by the events up to and with it
abbrev pub replayed : List Asked → List Event → ℕ → Event → List Answer
replayed queries events i e = answers_to queries (take (suc i) events) e

-- the line of the reply to an event with this offset, where that is at least `first`
abbrev pub line_from : ℕ → ℕ → Reply → List (List ℕ)
line_from first offset reply = if nat_le first offset then reply_line offset reply ∷ [] else []

-- the line of the event of number i, where there is one
abbrev pub line_of : List Asked → ℕ → List Event → ℕ → Option Event → List (List ℕ)
line_of queries first events i (Some e) = line_from first e.offset (Answered (replayed queries events i e))
line_of queries first events i None = []

abbrev pub line_at : List Asked → ℕ → List Event → ℕ → List (List ℕ)
line_at queries first events i = line_of queries first events i (slice_get events i)

-- the lines of the first i events
abbrev pub lines_before : List Asked → ℕ → List Event → ℕ → List (List ℕ)
lines_before queries first events zero = []
lines_before queries first events (suc i) = lines_before queries first events i ++ line_at queries first events i

-- the lines of all events
abbrev pub replay_lines : List Asked → ℕ → List Event → List (List ℕ)
replay_lines queries first events = lines_before queries first events (length events)

-- the last line: the least offset of the next event, and how many events there are
abbrev pub end_line : List Event → List ℕ
end_line events = mark_line (Finished (next_offset events) (length events))

-- the whole text, as lines
abbrev pub replay_text : List Asked → ℕ → List Event → List (List ℕ)
replay_text queries first events = replay_lines queries first events ++ end_line events ∷ []
