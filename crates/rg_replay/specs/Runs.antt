-- The lines that a run puts for the payments that it accepts.
use Rattle.std.specs.Prelude.{ℕ, zero, suc, ◌+◌, nat_le, List, [], ◌∷◌, ◌++◌, length, drop, codes, decimal, get_or, Option, Some, None, if◌then◌else◌}
use Rattle.rg_event.specs.declared.event.Event.{Event}
use Rattle.rg_event.specs.Rising.{next_offset}
use Rattle.rg_run_spec.specs.Verdicts.{Verdict}
use Rattle.rg_run_spec.specs.Verdicts.Verdict.{accepted, moved}
use Rattle.rg_run_spec.specs.Accepted.{verdict_from, events_before}
use Rattle.rg_run_spec.specs.Output.{Terms, put_at}
use Rattle.rg_replay.specs.Replay.{replay_lines, end_line}

-- the line of a reply that begins with the word `moved`, with `ok` in place of it
abbrev pub with_ok : ℕ → List ℕ → List ℕ
with_ok offset line = decimal offset ++ (codes " ok" ++ drop (length (decimal offset ++ codes " moved")) line)

-- the first of these lines, where the verdict is that an event is accepted; with `ok`, where it is moved: that isn't stored
abbrev pub reply_if : ℕ → Option Verdict → List (List ℕ) → List (List ℕ)
reply_if offset (Some (accepted e)) (line ∷ lines) = line ∷ []
reply_if offset (Some (moved e)) (line ∷ lines) = with_ok offset line ∷ []
reply_if offset verdict lines = []

-- the reply to line i of an input, where its event is accepted: the first line that the run puts for it
abbrev pub answered_at : Terms → List Event → ℕ → List (Option (List ℕ)) → ℕ → List (List ℕ)
answered_at terms held first lines i =
    reply_if (first + i) (verdict_from terms.basis (next_offset held) (events_before terms.basis held first lines i) (first + i) (get_or lines i None)) (put_at terms held first lines i)

-- the replies to the first i lines of an input, where their events are accepted
abbrev pub answered_before : Terms → List Event → ℕ → List (Option (List ℕ)) → ℕ → List (List ℕ)
answered_before terms held first lines zero = []
answered_before terms held first lines (suc i) = answered_before terms held first lines i ++ answered_at terms held first lines i

-- these lines, where that offset is at least `from`
abbrev pub where_from : ℕ → ℕ → List (List ℕ) → List (List ℕ)
where_from from offset lines = if nat_le from offset then lines else []

-- the replies to those of the first i lines whose events are accepted, from that offset on, as the run puts them
abbrev pub answered_from : ℕ → Terms → List Event → ℕ → List (Option (List ℕ)) → ℕ → List (List ℕ)
answered_from from terms held first lines zero = []
answered_from from terms held first lines (suc i) = answered_from from terms held first lines i ++ where_from from (first + i) (answered_at terms held first lines i)

-- What a replay from that offset on puts of what a run leaves after the first i lines: the lines of the events that its store held before,
-- the run's own lines of those that it accepted, and the last line.
abbrev pub text_of_left : ℕ → Terms → List Event → ℕ → List (Option (List ℕ)) → ℕ → List (List ℕ)
text_of_left from terms held first lines i =
    replay_lines terms.basis.queries from held ++ (answered_from from terms held first lines i ++ end_line (events_before terms.basis held first lines i) ∷ [])
