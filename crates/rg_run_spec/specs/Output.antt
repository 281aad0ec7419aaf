-- What a run over a store puts, line by line: what answers each line of the input, and the marks.
use Rattle.std.specs.Prelude.{ℕ, zero, suc, ◌+◌, ◌%◌, ◌==◌, ◌||◌, Bool, true, false, List, [], ◌∷◌, ◌++◌, length, get_or, Option, Some, None}
use Rattle.rg_event.specs.declared.event.Event.{Event}
use Rattle.rg_event.specs.Rising.{next_offset}
use Rattle.rg_reply.specs.Texts.{reply_line, mark_line}
use Rattle.rg_reply.specs.declared.mark.Mark.TheVariants.{Opened, Stored, Saved, Finished}
use Rattle.rg_run_spec.specs.Verdicts.{Basis, Verdict, accepted_after, reply_of}
use Rattle.rg_run_spec.specs.Verdicts.Verdict.{refused, obeyed, accepted, moved}
use Rattle.rg_run_spec.specs.declared.control.Control.TheVariants.{Commit, Save, Ahead}
use Rattle.rg_run_spec.specs.Accepted.{verdict_from, events_before, events_after}

-- All of a plan that the text of a run rests on: neither the size of the cache nor that of a chunk.
pub record Terms : Type 0 where
  -- what each line is answered by
  pub basis : Basis
  -- a commit follows each so many events
  pub commit : ℕ
  -- a checkpoint, and a commit before it, follows each so many
  pub save : ℕ

-- what is stored, and what is saved, once these are all events
abbrev pub stored_line : List Event → List ℕ
stored_line events = mark_line (Stored (next_offset events))

abbrev pub saved_line : List Event → List ℕ
saved_line events = mark_line (Saved (length events))

-- the count is a multiple of n
abbrev pub is_every : ℕ → ℕ → Bool
is_every n count = (count % n) == 0

-- a checkpoint of these events is due
abbrev pub is_saved : Terms → List Event → Bool
is_saved terms events = is_every terms.save (length events)

-- a commit of these events is due
abbrev pub is_stored : Terms → List Event → Bool
is_stored terms events = is_every terms.commit (length events) || is_saved terms events

-- all events are stored before a line with this verdict is answered
abbrev pub stores : Terms → List Event → Verdict → Bool
stores terms events (refused reply) = false
stores terms events (obeyed Commit) = true
stores terms events (obeyed Save) = true
stores terms events (obeyed Ahead) = false
stores terms events (accepted e) = is_stored terms (events ++ e ∷ [])
stores terms events (moved e) = is_stored terms (events ++ e ∷ [])

-- a checkpoint of all events is saved before it is answered
abbrev pub saves : Terms → List Event → Verdict → Bool
saves terms events (refused reply) = false
saves terms events (obeyed Commit) = false
saves terms events (obeyed Save) = true
saves terms events (obeyed Ahead) = false
saves terms events (accepted e) = is_saved terms (events ++ e ∷ [])
saves terms events (moved e) = is_saved terms (events ++ e ∷ [])

abbrev pub line_where : Bool → List ℕ → List (List ℕ)
line_where true line = line ∷ []
line_where false line = []

-- the marks behind the reply to a line with this verdict
abbrev pub marks_of : Terms → List Event → Verdict → List (List ℕ)
marks_of terms events verdict =
    line_where (stores terms events verdict) (stored_line (accepted_after events verdict)) ++ line_where (saves terms events verdict) (saved_line (accepted_after events verdict))

-- the lines that are put for the line at this offset, after these events
abbrev pub verdict_lines : Terms → List Event → ℕ → Verdict → List (List ℕ)
verdict_lines terms events offset verdict = reply_line offset (reply_of terms.basis.queries events verdict) ∷ marks_of terms events verdict

-- the lines that are put for the line at this offset, none where it is passed over
abbrev pub turn_lines : Terms → List Event → ℕ → Option Verdict → List (List ℕ)
turn_lines terms events offset None = []
turn_lines terms events offset (Some verdict) = verdict_lines terms events offset verdict

-- the lines that are put for line i
abbrev pub put_at : Terms → List Event → ℕ → List (Option (List ℕ)) → ℕ → List (List ℕ)
put_at terms held first lines i =
    turn_lines terms (events_before terms.basis held first lines i) (first + i) (verdict_from terms.basis (next_offset held) (events_before terms.basis held first lines i) (first + i) (get_or lines i None))

-- the lines that are put for the first i lines
abbrev pub put_before : Terms → List Event → ℕ → List (Option (List ℕ)) → ℕ → List (List ℕ)
put_before terms held first lines zero = []
put_before terms held first lines (suc i) = put_before terms held first lines i ++ put_at terms held first lines i

-- the lines that are put at the end, where the next line would have this offset
abbrev pub end_lines : ℕ → List Event → List (List ℕ)
end_lines offset events = stored_line events ∷ (saved_line events ∷ (mark_line (Finished offset (length events)) ∷ []))

-- all lines that are put for these lines, the first of which has this offset, over a store that held these events
abbrev pub out : Terms → List Event → ℕ → List (Option (List ℕ)) → List (List ℕ)
out terms held first lines = put_before terms held first lines (length lines) ++ end_lines (first + length lines) (events_after terms.basis held first lines)

-- the line before them, where the states come from a checkpoint of so many events
abbrev pub open_line : List Event → ℕ → List ℕ
open_line held from = mark_line (Opened (next_offset held) (length held) from)

-- the whole text of a run, as lines
abbrev pub text_of_run : Terms → List Event → ℕ → ℕ → List (Option (List ℕ)) → List (List ℕ)
text_of_run terms held from first lines = open_line held from ∷ out terms held first lines

-- what a run puts behind its first line that begins with an empty store and isn't stopped
abbrev pub unstopped : Terms → List (Option (List ℕ)) → List (List ℕ)
unstopped terms lines = out terms [] 0 lines
