-- The laws, by names without a dash.
use Rattle.std.proofs.Common.{◌≡◌, ◌≤◌, ◌<◌, ◌^◌, ◌+◌, ◌++◌, ℕ, List, Option, Ok, length}
use Rattle.rg_event.specs.declared.event.Event.{Event}
use Rattle.rg_event.specs.Codec.{IsEventOf}
use Rattle.rg_event.specs.Rising.{next_offset}
use Rattle.rg_row.proofs.Laws.{event_is}
use Rattle.rg_run_spec.specs.Verdicts.{Basis, read_as, accepted_after, line_verdict, accepted_before, reply_to}
use Rattle.rg_run_spec.proofs.Accepted.{accepted-first, reply-first}
use Rattle.rg_run_spec.proofs.Events.{read_fits, next_after}

pub accepted_first : (basis : Basis) (lines more : List (Option (List ℕ))) (i : ℕ) → i ≤ length lines → accepted_before basis (lines ++ more) i ≡ accepted_before basis lines i
accepted_first basis lines more i h = accepted-first basis lines more i h

pub reply_first : (basis : Basis) (lines more : List (Option (List ℕ))) (i : ℕ) → i < length lines → reply_to basis (lines ++ more) i ≡ reply_to basis lines i
reply_first basis lines more i h = reply-first basis lines more i h

pub read_event : (basis : Basis) (offset : ℕ) (line : Option (List ℕ)) (e : Event) → read_as basis offset line ≡ Ok e → offset < 2 ^ 62 → IsEventOf basis.fields e
read_event basis offset line e is small = event_is basis.fields offset e small (read_fits basis offset line e is)

pub next_after_line : (basis : Basis) (events : List Event) (offset : ℕ) (line : Option (List ℕ)) → next_offset events ≤ offset → next_offset (accepted_after events (line_verdict basis events offset line)) ≤ offset + 1
next_after_line basis events offset line next = next_after events basis offset line next
