use Rattle.std.proofs.Common.{sym, subst}
use Rattle.std.specs.Prelude.{All}
use Rattle.rg_event.specs.Codec.{IsEventOf}
use Rattle.rg_event.specs.Shapes.{Shape}
use Rattle.rg_recover.specs.Sessions.{events_of}
use Rattle.rg_recover.proofs.Keeping.{running_keeps}
use Rattle.rg_recover.proofs.Running.{none_open}
use Rattle.rg_recover.proofs.Sound.{long, all_rise, next_is, all_fit, log_framed, log_stored}
use Rattle.rg_recover.proofs.law.law_running.Goals as goal

pub returns-clause-next : goal.returns-clause-next
returns-clause-next g c = λ plan host s runs. let log = runs.ready.in_step.reservoir in next_is (g.H.Host.now host) (g.H.Host.may host) s.reservoir log.sound log.going

pub returns-clause-count : goal.returns-clause-count
returns-clause-count g c = λ plan host s runs. sym (long (g.H.Host.now host) s.reservoir)

pub returns-clause-saved : goal.returns-clause-saved
returns-clause-saved g c = λ plan host s slot runs is all. none_open s.reservoir s.saved (runs.kept slot is).stored all

pub returns-clause-rising : goal.returns-clause-rising
returns-clause-rising g c = λ plan host s runs. let log = runs.ready.in_step.reservoir in all_rise (g.H.Host.now host) (g.H.Host.may host) s.reservoir log.sound log.going

pub returns-clause-fits : goal.returns-clause-fits
returns-clause-fits g c = λ plan host s runs.
    let log = runs.ready.in_step.reservoir in
    subst (λ (shape : Shape). All (IsEventOf shape.fields) (events_of (g.H.Host.now host) s)) log.shape (all_fit (g.H.Host.now host) (g.H.Host.may host) s.reservoir log.sound log.going)

pub returns-clause-framed : goal.returns-clause-framed
returns-clause-framed g c = λ plan host s u runs left. let log = runs.ready.in_step.reservoir in log_framed (g.H.Host.now host) (g.H.Host.may host) s.reservoir log.sound log.going plan.shape log.shape log.file u left

pub returns-clause-stored : goal.returns-clause-stored
returns-clause-stored g c = λ plan host s u runs left. let log = runs.ready.in_step.reservoir in log_stored (g.H.Host.now host) (g.H.Host.may host) s.reservoir log.sound log.going plan.shape log.shape log.file u left

pub returns-clause-keeps : goal.returns-clause-keeps
returns-clause-keeps g c = λ plan host s runs. running_keeps plan (g.H.Host.now host) (g.H.Host.may host) g.T.Table.tells g.T.Table.cell g.T.Table.named g.T.Table.there s runs
