use Rattle.std.proofs.Common.{inl, inr, List, ℕ, ◌∷◌, sym, ◌∙◌, subst}
use Rattle.std.proofs.lemmas.Bool.{ltb-true, ltb-false}
use Rattle.rg_run.specs.Turning.{IsHeld}
use Rattle.rg_run.proofs.Replied.{still_on_course, passed, passed_events, refused_awaits, refused_events}
use Rattle.rg_run.proofs.Gathering.{awaiting_held, keeps_none}
use Rattle.rg_run.proofs.Logged.{no_files}
use Rattle.rg_run.proofs.turning.Turning.refuse.Goals as goal

pub returns-then-is_passed-clause-moments : goal.returns-then-is_passed-clause-moments
returns-then-is_passed-clause-moments g c = λ plan course item items a reads.
    let t = c.args.self.now in
    still_on_course g.K.Task.view g.met.K.Task.only_now g.met.K.Task.sinks plan course t.offset (item ∷ items)
    c.args.task.now t.gathered.items a

pub returns-then-is_passed-clause-awaits : goal.returns-then-is_passed-clause-awaits
returns-then-is_passed-clause-awaits g c = λ plan course item items a reads.
    let t = c.args.self.now in
    passed g.K.Task.view plan course t.offset item items
    c.args.task.now t.gathered.items a (ltb-true _ _ (sym c.is_passed.ensures ∙ c.if-is_passed.true))

pub returns-then-is_passed-clause-events : goal.returns-then-is_passed-clause-events
returns-then-is_passed-clause-events g c = λ plan course item items a reads.
    let t = c.args.self.now in
    passed_events g.K.Task.view plan course t.offset item items
    c.args.task.now t.gathered.items a (ltb-true _ _ (sym c.is_passed.ensures ∙ c.if-is_passed.true))

pub returns-then-is_passed-clause-keeps : goal.returns-then-is_passed-clause-keeps
returns-then-is_passed-clause-keeps g c = keeps_none g.K.Task.view c.args.task.now

pub returns-in-Ok-clause-moments : goal.returns-in-Ok-clause-moments
returns-in-Ok-clause-moments g c = λ plan course item items a reads.
    let t = c.args.self.now in
    still_on_course g.K.Task.view g.met.K.Task.only_now g.met.K.Task.sinks plan course t.offset (item ∷ items) c.args.task.now t.gathered.items a

pub returns-in-Ok-clause-awaits : goal.returns-in-Ok-clause-awaits
returns-in-Ok-clause-awaits g c = λ plan course item items a reads.
    let t = c.args.self.now in
    refused_awaits g.K.Task.view plan course t.offset item items c.args.task.now t.gathered.items a
    c.args.reply.now (ltb-false _ _ (sym c.is_passed.ensures ∙ c.if-is_passed.false)) reads c.requires.small c.tell.new.gathered.items c.in-Ok.ensures.all

pub returns-in-Ok-clause-events : goal.returns-in-Ok-clause-events
returns-in-Ok-clause-events g c = λ plan course item items a reads.
    let t = c.args.self.now in
    refused_events g.K.Task.view plan course t.offset item items c.args.task.now t.gathered.items a
    c.args.reply.now (ltb-false _ _ (sym c.is_passed.ensures ∙ c.if-is_passed.false)) reads

pub returns-in-Ok-clause-keeps : goal.returns-in-Ok-clause-keeps
returns-in-Ok-clause-keeps g c = keeps_none g.K.Task.view c.args.task.now

pub returns-in-Err-clause-moments : goal.returns-in-Err-clause-moments
returns-in-Err-clause-moments g c = λ plan course item items a reads.
    let t = c.args.self.now in
    let h = c.args.task.now in
    c.stop.ensures.stops.moments plan course (subst (λ (l : List ℕ). IsHeld g.K.Task.view plan course h l) (sym c.in-Err.ensures.none) (awaiting_held g.K.Task.view plan course t.offset h t.gathered.items (item ∷ items) a))

pub returns-in-Err-clause-stopped : goal.returns-in-Err-clause-stopped
returns-in-Err-clause-stopped g c = λ plan course item items a reads.
    let t = c.args.self.now in
    let h = c.args.task.now in
    c.stop.ensures.stops.stopped plan course (subst (λ (l : List ℕ). IsHeld g.K.Task.view plan course h l) (sym c.in-Err.ensures.none) (awaiting_held g.K.Task.view plan course t.offset h t.gathered.items (item ∷ items) a))

pub returns-in-Err-clause-keeps : goal.returns-in-Err-clause-keeps
returns-in-Err-clause-keeps g c = c.stop.ensures.only.keeps

pub returns-in-Err-clause-faults : goal.returns-in-Err-clause-faults
returns-in-Err-clause-faults g c = elim c.stop.ensures.which [
  | inl same ↦ inr (same ∙ c.in-Err.ensures.faults)
  | inr write ↦ inl write.0
]

pub returns-in-Err-clause-write : goal.returns-in-Err-clause-write
returns-in-Err-clause-write g c = λ is. elim c.stop.ensures.which [
  | inl same ↦ absurd (let e = sym (same ∙ c.in-Err.ensures.faults) in cc)
  | inr write ↦ write.1
]

pub returns-then-is_passed-clause-files : goal.returns-then-is_passed-clause-files
returns-then-is_passed-clause-files g c = no_files g.K.Task.view g.met.K.Task.only_now g.met.K.Task.sinks c.args.task.now

pub returns-in-Ok-clause-files : goal.returns-in-Ok-clause-files
returns-in-Ok-clause-files g c = no_files g.K.Task.view g.met.K.Task.only_now g.met.K.Task.sinks c.args.task.now

pub returns-in-Err-clause-files : goal.returns-in-Err-clause-files
returns-in-Err-clause-files g c = c.stop.ensures.only.files
