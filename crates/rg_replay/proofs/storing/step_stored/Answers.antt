use Rattle.std.proofs.Common.{rules, ◌≡◌, ◌∙◌, ◌≤◌, length, arith, refl, ap, subst, Err, MatchOption}
use Rattle.rg_engine.specs.declared.fault.EngineFault.{EngineFault}
use Rattle.rg_engine.specs.declared.fault.EngineFault.TheVariants as engine
use Rattle.rg_past.specs.declared.past.PastFault.{PastFault}
use Rattle.rg_past.specs.declared.past.PastFault.TheVariants as past
use Rattle.rg_reservoir.specs.Chain.{IsIllegalBy}
use Rattle.rg_reservoir.specs.Kept.{Base, base, view_of, opened, cache_of, all_events}
use Rattle.rg_reservoir.specs.Reached.{IsReached}
use Rattle.rg_reservoir.specs.declared.reservoir.Reservoir.{Reservoir}
use Rattle.rg_state.specs.contracts.mem_table.MemTableTable.TheImpl.{ghosts as rows}
use Rattle.rg_replay.specs.Playing.{IsCaused, IsPlaced, IsPlaying, IsReachedAt, IsWholeIn}
use Rattle.rg_replay.specs.Faults.{of_engine}
use Rattle.rg_replay.specs.declared.fault.ReplayFault.{ReplayFault}
use Rattle.rg_replay.proofs.Causes.{outside_by}
use Rattle.rg_replay.proofs.Played.{moved, came_on, within_front, on_list, playing, placed, step_caused}
use Rattle.rg_replay.proofs.Reading.{read_on}
use Rattle.rg_replay.proofs.Starting.{long}
use Rattle.rg_replay.proofs.storing.step_stored.Goals as goal

pub step-requires-clause-shown : goal.step-requires-clause-shown
step-requires-clause-shown g c =
    let need : c.args.spot.now.number ≤ length (all_events (g.H.Host.now c.args.host.now) (base c.args.reservoir.now) (opened c.args.reservoir.now)) = omega (arith, c.requires.placed.number, long (g.H.Host.now c.args.host.now) c.args.reservoir.now) in
    rw (c.new-past.ensures.past, c.new-past.ensures.shown, c.new.ensures.reservoir, c.new.ensures.host) need

pub step-requires-clause-within : goal.step-requires-clause-within
step-requires-clause-within g c =
    let need = within_front (g.H.Host.now c.args.host.now) c.args.reservoir.now c.args.spot.now.number c.args.engine.now.spots c.requires.placed.number c.requires.placed.within in
    rw (c.new-past.ensures.past, c.new-past.ensures.shown, c.new.ensures.reservoir, c.new.ensures.host) need

pub engine_fault-requires : goal.engine_fault-requires
engine_fault-requires g c =
    let refused = c.in-Err.ensures in
    let cause = rw (c.new-past.ensures.past, c.new.ensures.reservoir, c.new.ensures.host) at refused.cause in
    let past_as = λ (f : PastFault) (is : c.in-Err.fault ≡ engine.Past f). cause f (ap (λ (e : EngineFault). Err e) is) in
    record {
      full = λ is. past_as past.Full is;
      over = λ is. let ended = past_as past.Ended is in let runs = c.requires.placed.runs in absurd cc;
      ended = λ is. let ended = refused.ended (ap (λ (e : EngineFault). Err e) is) in let going = c.requires.placed.going in absurd cc;
      table = λ is. let rose = refused.table (ap (λ (e : EngineFault). Err e) is) in omega (arith, rose);
    }

pub returns-in-Ok-clause-came : goal.returns-in-Ok-clause-came
returns-in-Ok-clause-came g c = λ queries events is.
    let went = rw (c.new-past.ensures.past, c.new-past.ensures.shown, c.new.ensures.reservoir, c.new.ensures.host) at c.in-Ok.ensures.came in
    let same = rw (c.new-past.ensures.past, c.new.ensures.reservoir, c.new.ensures.host) at c.step.ensures.events in
    let e = c.args.engine.now in
    let new = c.step.new.engine in
    let spot = c.step.new.spot in
    let past = c.step.new.past in
    came_on queries (all_events (g.H.Host.now c.args.host.now) (base c.args.reservoir.now) (opened c.args.reservoir.now)) events c.args.spot.now.number c.in-Ok.found _ _ is.list
    (λ on. moved (λ (h : g.row.H.Denot) (r : Reservoir). IsPlaying queries events (g.H.Host.now h) (g.H.Host.may h) (rows.tells new.table) (rows.cell new.table) r new spot)
    past.past.host.now _ past.past.reservoir.now _ (search rules) (search rules)
    (playing queries events (g.H.Host.now past.past.host.now) (g.H.Host.may past.past.host.now) (rows.tells new.table) (rows.cell new.table) past.past.reservoir.now new spot past.shown c.step.ensures.number (same ∙ is.list) on))
    (went queries (on_list queries events (g.H.Host.now c.args.host.now) (g.H.Host.may c.args.host.now) (rows.tells e.table) (rows.cell e.table) c.args.reservoir.now e c.args.spot.now is))

pub returns-in-Err-clause-came : goal.returns-in-Err-clause-came
returns-in-Err-clause-came g c = λ queries events is.
    let went = rw (c.new-past.ensures.past, c.new-past.ensures.shown, c.new.ensures.reservoir, c.new.ensures.host) at c.in-Err.ensures.outside in
    let e = c.args.engine.now in
    rw (← c.engine_fault.ensures) at (outside_by c.in-Err.fault (went queries (on_list queries events (g.H.Host.now c.args.host.now) (g.H.Host.may c.args.host.now) (rows.tells e.table) (rows.cell e.table) c.args.reservoir.now e c.args.spot.now is)))

pub returns-in-Ok-clause-placed : goal.returns-in-Ok-clause-placed
returns-in-Ok-clause-placed g c =
    let new = c.step.new.engine in
    let spot = c.step.new.spot in
    let past = c.step.new.past in
    let goes = rw (c.new-past.ensures.past) at c.step.ensures.goes in
    let runs = ap (λ (b : Base). b.ended) (goes.base ∙ ap base c.new.ensures.reservoir) ∙ c.requires.placed.runs in
    moved (λ (h : g.row.H.Denot) (r : Reservoir). IsPlaced r new spot) past.past.host.now past.past.host.now past.past.reservoir.now _ refl (search rules)
    (placed (g.H.Host.now past.past.host.now) past.past.reservoir.now new spot past.shown c.step.ensures.number c.step.ensures.shown c.in-Ok.ensures.within (c.in-Ok.ensures.going c.requires.placed.going) runs)

pub returns-in-Ok-clause-reads : goal.returns-in-Ok-clause-reads
returns-in-Ok-clause-reads g c = λ at.
    let reached = rw (c.new-past.ensures.past, c.new.ensures.reservoir, c.new.ensures.host) at c.in-Ok.ensures.reached in
    let whole = rw (c.new-past.ensures.past, c.new.ensures.reservoir, c.new.ensures.host) at c.in-Ok.ensures.whole in
    let spot = c.step.new.spot in
    let past = c.step.new.past in
    moved (λ (h : g.row.H.Denot) (r : Reservoir). MatchOption c.in-Ok.found (IsWholeIn g.H.Host.now (base c.args.reservoir.now) c.args.host.now) (λ _. IsReachedAt g.H.Host.now r h spot))
    past.past.host.now _ past.past.reservoir.now _ (search rules) (search rules)
    (read_on c.in-Ok.found (IsWholeIn g.H.Host.now (base c.args.reservoir.now) c.args.host.now) (IsReached (g.H.Host.now past.past.host.now) (base past.past.reservoir.now) (cache_of past.past.reservoir.now) spot) (IsReachedAt g.H.Host.now past.past.reservoir.now past.past.host.now spot) (λ is. record { is = is }) (reached at.is) (whole at.is))

pub returns-in-Err-clause-cause : goal.returns-in-Err-clause-cause
returns-in-Err-clause-cause g c =
    let after = c.step.new.past in
    let old = c.args.host.now in
    let new = after.past.host.now in
    let r = c.args.reservoir.now in
    let cause = rw (c.new-past.ensures.past, c.new.ensures.reservoir, c.new.ensures.host) at c.in-Err.ensures.cause in
    let goes = rw (c.new-past.ensures.past) at c.step.ensures.goes in
    moved (λ (h : g.row.H.Denot) (f : ReplayFault). IsCaused g.H.Host.now g.H.Host.disk_faults g.H.Host.out_faults (base r) f old h) new _ (of_engine c.in-Err.fault) _ (search rules) c.engine_fault.ensures
    (step_caused g.H.Host.now g.H.Host.disk_faults g.H.Host.out_faults (base r) c.in-Err.fault old new (λ is. cause past.Disk (ap Err is)) (λ p is v told.
    subst (λ (b : Base). IsIllegalBy (view_of b) p (v b.file)) (goes.base ∙ ap base c.new.ensures.reservoir) (cause (past.Damaged p) (ap Err is) v (goes.leaves.now_stays ∙ ap g.H.Host.now c.new.ensures.host ∙ told))))
