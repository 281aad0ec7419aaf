-- The events accepted among some lines of an input, over a store that held some before.
use Rattle.std.specs.Prelude.{ℕ, zero, suc, ◌+◌, nat_lt, List, length, get_or, Option, Some, None, if◌then◌else◌}
use Rattle.rg_event.specs.declared.event.Event.{Event}
use Rattle.rg_event.specs.Rising.{next_offset}
use Rattle.rg_run_spec.specs.Verdicts.{Basis, Verdict, accepted_after, line_verdict}

-- the verdict on the line at this offset, where these events were accepted before it; a line below the next offset is passed over
abbrev pub verdict_from : Basis → ℕ → List Event → ℕ → Option (List ℕ) → Option Verdict
verdict_from basis next events offset line = if nat_lt offset next then None else Some (line_verdict basis events offset line)

-- the events up to and with a line of this verdict; one that is passed over adds none
abbrev pub after_turn : List Event → Option Verdict → List Event
after_turn events None = events
after_turn events (Some verdict) = accepted_after events verdict

-- the events that the store held, and then those accepted of the first i lines, where the first line has this offset
abbrev pub events_before : Basis → List Event → ℕ → List (Option (List ℕ)) → ℕ → List Event
events_before basis held first lines zero = held
events_before basis held first lines (suc i) =
    after_turn (events_before basis held first lines i) (verdict_from basis (next_offset held) (events_before basis held first lines i) (first + i) (get_or lines i None))

-- the events that the store held, and then those accepted of all these lines
abbrev pub events_after : Basis → List Event → ℕ → List (Option (List ℕ)) → List Event
events_after basis held first lines = events_before basis held first lines (length lines)
