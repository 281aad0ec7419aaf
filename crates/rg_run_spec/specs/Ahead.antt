-- What is still to come of a run, from the events so far and the lines that are left.
use Rattle.std.specs.Prelude.{ℕ, ◌+◌, List, [], ◌∷◌, ◌++◌, length, Option}
use Rattle.rg_event.specs.declared.event.Event.{Event}
use Rattle.rg_event.specs.Rising.{next_offset}
use Rattle.rg_run_spec.specs.Verdicts.{Basis}
use Rattle.rg_run_spec.specs.Accepted.{verdict_from, after_turn}
use Rattle.rg_run_spec.specs.Output.{Terms, turn_lines, end_lines}

-- the events after the line at this offset; a line below the next offset of the events so far is passed over
abbrev pub after_line : Basis → List Event → ℕ → Option (List ℕ) → List Event
after_line basis events offset line = after_turn events (verdict_from basis (next_offset events) events offset line)

-- the lines that are put for it
abbrev pub lines_for : Terms → List Event → ℕ → Option (List ℕ) → List (List ℕ)
lines_for terms events offset line = turn_lines terms events offset (verdict_from terms.basis (next_offset events) events offset line)

-- the events after these lines, the first of which has this offset
abbrev pub events_from : Basis → List Event → ℕ → List (Option (List ℕ)) → List Event
events_from basis events offset [] = events
events_from basis events offset (line ∷ lines) = events_from basis (after_line basis events offset line) (offset + 1) lines

-- the lines that are put for them
abbrev pub put_from : Terms → List Event → ℕ → List (Option (List ℕ)) → List (List ℕ)
put_from terms events offset [] = []
put_from terms events offset (line ∷ lines) = lines_for terms events offset line ++ put_from terms (after_line terms.basis events offset line) (offset + 1) lines

-- the lines that are put for them, and then those of the end
abbrev pub out_from : Terms → List Event → ℕ → List (Option (List ℕ)) → List (List ℕ)
out_from terms events offset lines = put_from terms events offset lines ++ end_lines (offset + length lines) (events_from terms.basis events offset lines)
