-- Requests that are no lines of the expected offset change nothing.
use Rattle.std.proofs.Common.{◌≡◌, List, [], ◌∷◌, refl, ap}
use Rattle.rg_event.specs.declared.event.Event.{Event}
use Rattle.rg_pipe.specs.Handing.{Given}
use Rattle.rg_pipe.specs.Handing.Given.{row, again, gap, commits, saves}
use Rattle.rg_run_spec.specs.Output.{Terms}
use Rattle.rg_serve_spec.specs.Replies.{events_with, reply_to, events_all, replies_to, rows_in, row_replies}

pub same_replies : (terms : Terms) (events : List Event) (given : List Given) → row_replies given (replies_to terms events given) ≡ replies_to terms events (rows_in given)
same_replies terms events [] = refl
same_replies terms events (row offset text ∷ given) = ap (λ r. reply_to terms events (row offset text) ∷ r) (same_replies terms (events_with terms.basis events (row offset text)) given)
same_replies terms events (again offset ∷ given) = same_replies terms events given
same_replies terms events (gap offset expected ∷ given) = same_replies terms events given
same_replies terms events (commits ∷ given) = same_replies terms events given
same_replies terms events (saves ∷ given) = same_replies terms events given

pub same_events : (terms : Terms) (events : List Event) (given : List Given) → events_all terms.basis events given ≡ events_all terms.basis events (rows_in given)
same_events terms events [] = refl
same_events terms events (row offset text ∷ given) = same_events terms (events_with terms.basis events (row offset text)) given
same_events terms events (again offset ∷ given) = same_events terms events given
same_events terms events (gap offset expected ∷ given) = same_events terms events given
same_events terms events (commits ∷ given) = same_events terms events given
same_events terms events (saves ∷ given) = same_events terms events given
