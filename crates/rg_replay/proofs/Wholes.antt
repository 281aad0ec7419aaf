-- The text of a replay over what a run leaves.
use Rattle.std.proofs.Common.{◌≡◌, ◌∙◌, ℕ, List, [], ◌∷◌, ◌++◌, Option, ap, append_assoc}
use Rattle.rg_event.specs.declared.event.Event.{Event}
use Rattle.rg_event.specs.Rising.{next_offset, IsRising}
use Rattle.rg_run_spec.specs.Accepted.{events_before}
use Rattle.rg_run_spec.specs.Output.{Terms}
use Rattle.rg_replay.specs.Replay.{replay_lines, end_line, replay_text}
use Rattle.rg_replay.specs.Runs.{answered_before, answered_from, text_of_left}
use Rattle.rg_replay.proofs.Runs.{same_as_run, same_from}

-- it is the lines for the payments that the run accepted, and the last one
pub same_text : (terms : Terms) (held : List Event) (first : ℕ) (lines : List (Option (List ℕ))) (i : ℕ) (events : List Event) → IsRising held → events ≡ events_before terms.basis held first lines i →
    replay_text terms.basis.queries (next_offset held) events ≡ answered_before terms held first lines i ++ end_line events ∷ []
same_text terms held first lines i events rising is =
    ap (λ l. l ++ end_line events ∷ []) (ap (λ (l : List Event). replay_lines terms.basis.queries (next_offset held) l) is ∙ same_as_run terms held first lines i rising)

-- from any offset on, it is the lines of what the store held, those that the run puts for the payments that it accepts, and the last one
pub same_text_from : (from : ℕ) (terms : Terms) (held : List Event) (first : ℕ) (lines : List (Option (List ℕ))) (i : ℕ) (events : List Event) → events ≡ events_before terms.basis held first lines i →
    replay_text terms.basis.queries from events ≡ text_of_left from terms held first lines i
same_text_from from terms held first lines i events is =
    ap (λ (l : List Event). replay_text terms.basis.queries from l) is
    ∙ ap (λ l. l ++ end_line (events_before terms.basis held first lines i) ∷ []) (same_from from terms held first lines i)
    ∙ append_assoc (replay_lines terms.basis.queries from held) (answered_from from terms held first lines i) (end_line (events_before terms.basis held first lines i) ∷ [])
