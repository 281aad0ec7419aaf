-- What is due before a line is answered, what is put behind its reply, and what at the end of the input.
use Rattle.std.specs.Prelude.{ℕ, nat_le, List, [], ◌∷◌, if◌then◌else◌}
use Rattle.rg_reply.specs.Texts.{mark_line}
use Rattle.rg_reply.specs.declared.mark.Mark.TheVariants.{Stored, Saved, Finished}
use Rattle.rg_run_spec.specs.Output.{is_every}
use Rattle.rg_run_spec.specs.declared.control.Control.{Control}
use Rattle.rg_run_spec.specs.declared.control.Control.TheVariants as control
use Rattle.rg_run.specs.declared.due.Due.{Due}
use Rattle.rg_run.specs.declared.due.Due.TheVariants.{Nothing, Commit, Save}

-- after a line that changed the number of events from `before` to `after`
abbrev pub is_due : ℕ → ℕ → ℕ → ℕ → Due
is_due commit save before after =
    if nat_le after before then Nothing
    else if is_every save after then Save
    else if is_every commit after then Commit
    else Nothing

-- for a line that asks for this
abbrev pub due_for : Control → Due
due_for control.Commit = Commit
due_for control.Save = Save
due_for control.Ahead = Nothing

-- the marks behind the reply, where the next offset and the number of events are these
abbrev pub marks_for : Due → ℕ → ℕ → List (List ℕ)
marks_for Nothing next count = []
marks_for Commit next count = mark_line (Stored next) ∷ []
marks_for Save next count = mark_line (Stored next) ∷ (mark_line (Saved count) ∷ [])

-- the lines of the end, where the next line would have this offset, and the next offset of the events and their number are these
abbrev pub last_lines : ℕ → ℕ → ℕ → List (List ℕ)
last_lines offset next count = mark_line (Stored next) ∷ (mark_line (Saved count) ∷ (mark_line (Finished offset count) ∷ []))
