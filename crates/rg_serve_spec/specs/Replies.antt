-- The replies to requests, in order.
use Rattle.std.specs.Prelude.{ℕ, List, [], ◌∷◌, ◌++◌, Option, Some, codes, decimal}
use Rattle.rg_event.specs.declared.event.Event.{Event}
use Rattle.rg_pipe.specs.Handing.{Given}
use Rattle.rg_pipe.specs.Handing.Given.{row, again, gap, commits, saves}
use Rattle.rg_run_spec.specs.Verdicts.{Basis, accepted_after, line_verdict}
use Rattle.rg_run_spec.specs.Output.{Terms, verdict_lines, stored_line, saved_line, end_lines, open_line}
use Rattle.rg_serve_spec.specs.Frames.{Reply}

-- the line that answers a line that was sent before
abbrev pub again_line : ℕ → List ℕ
again_line offset = decimal offset ++ codes " again"

-- the line that answers a line behind a gap, and says the expected offset
abbrev pub gap_line : ℕ → ℕ → List ℕ
gap_line offset expected = decimal offset ++ (codes " gap " ++ decimal expected)

-- the events after a request: only a line that has the expected offset may add one
abbrev pub events_with : Basis → List Event → Given → List Event
events_with basis events (row offset text) = accepted_after events (line_verdict basis events offset (Some text))
events_with basis events (again offset) = events
events_with basis events (gap offset expected) = events
events_with basis events commits = events
events_with basis events saves = events

-- the reply to a request, after these events: a line is answered as a run answers it, with its marks
abbrev pub reply_to : Terms → List Event → Given → Reply
reply_to terms events (row offset text) = verdict_lines terms events offset (line_verdict terms.basis events offset (Some text))
reply_to terms events (again offset) = again_line offset ∷ []
reply_to terms events (gap offset expected) = gap_line offset expected ∷ []
reply_to terms events commits = stored_line events ∷ []
reply_to terms events saves = stored_line events ∷ (saved_line events ∷ [])

-- the events after some requests, one after another
abbrev pub events_all : Basis → List Event → List Given → List Event
events_all basis events [] = events
events_all basis events (given ∷ more) = events_all basis (events_with basis events given) more

-- the replies to some requests, one each, in order
abbrev pub replies_to : Terms → List Event → List Given → List Reply
replies_to terms events [] = []
replies_to terms events (given ∷ more) = reply_to terms events given ∷ replies_to terms (events_with terms.basis events given) more

-- all replies over a store that held these events, where the states come from a checkpoint of `from` of them: the open line, one reply to
-- each request, and the end, where the next line would have this offset
abbrev pub all_replies : Terms → List Event → ℕ → List Given → ℕ → List Reply
all_replies terms held from given offset = (open_line held from ∷ []) ∷ (replies_to terms held given ++ end_lines offset (events_all terms.basis held given) ∷ [])

-- the lines among some requests that have the expected offset
abbrev pub rows_in : List Given → List Given
rows_in [] = []
rows_in (row offset text ∷ given) = row offset text ∷ rows_in given
rows_in (again offset ∷ given) = rows_in given
rows_in (gap offset expected ∷ given) = rows_in given
rows_in (commits ∷ given) = rows_in given
rows_in (saves ∷ given) = rows_in given

-- of the replies to some requests, those to such lines
abbrev pub row_replies : List Given → List Reply → List Reply
row_replies [] replies = []
row_replies (given ∷ more) [] = []
row_replies (row offset text ∷ given) (reply ∷ replies) = reply ∷ row_replies given replies
row_replies (again offset ∷ given) (reply ∷ replies) = row_replies given replies
row_replies (gap offset expected ∷ given) (reply ∷ replies) = row_replies given replies
row_replies (commits ∷ given) (reply ∷ replies) = row_replies given replies
row_replies (saves ∷ given) (reply ∷ replies) = row_replies given replies

-- the texts of such lines, as the lines of a run's input
abbrev pub texts_of : List Given → List (Option (List ℕ))
texts_of [] = []
texts_of (row offset text ∷ given) = Some text ∷ texts_of given
texts_of (again offset ∷ given) = texts_of given
texts_of (gap offset expected ∷ given) = texts_of given
texts_of (commits ∷ given) = texts_of given
texts_of (saves ∷ given) = texts_of given
