use Rattle.std.proofs.Common.{◌∙◌, refl, sym, ap, subst, arith, List, Err}
use Rattle.std.specs.Prelude.{All}
use Rattle.rg_past.specs.declared.past.Spot.{Spot}
use Rattle.rg_reservoir.specs.Ahead.{all_ahead}
use Rattle.rg_reservoir.specs.Kept.{Base, base, opened, cache_of, loads_of, stored, Spells, AllTouched}
use Rattle.rg_reservoir.proofs.Laws.{some_none}
use Rattle.rg_open.specs.Stores.{store_of}
use Rattle.rg_recover.specs.Sessions.{Sitting}
use Rattle.rg_recover.proofs.Causes.{same_fault}
use Rattle.rg_recover.proofs.Keeping.{keeps_still}
use Rattle.rg_recover.proofs.Loading.{events_still, stored_still, running_ahead, node_ahead, placed_ahead, illegal_still, damaged_load, disk_load, ended_load, load_faults, never_load}
use Rattle.rg_recover.proofs.Stays.{slots_quiet}
use Rattle.rg_recover.proofs.Within.{quiet_within, quiet_stored}
use Rattle.rg_recover.proofs.session.Session.ahead.Goals as goal

pub returns-then-self-clause-touched : goal.returns-then-self-clause-touched
returns-then-self-clause-touched g c = λ v told was.
    let r = c.args.self.now.reservoir in
    some_none (all_ahead (base r) (v (base r).file) c.args.self.now.engine.spots) (cache_of r) (cache_of r) (loads_of r) (loads_of r) refl refl

pub returns-in-Ok-clause-within_step : goal.returns-in-Ok-clause-within_step
returns-in-Ok-clause-within_step g c = rw (← c.self.view_is) (λ plan keep runs.
    quiet_within g.H.Host.now g.H.Host.may g.H.Host.clock g.H.Host.since g.H.Host.said (store_of plan) keep (opened c.self.inside.reservoir) c.args.host.now c.ahead.new.host c.ahead.ensures.leaves)

pub returns-in-Ok-clause-stored : goal.returns-in-Ok-clause-stored
returns-in-Ok-clause-stored g c = rw (← c.self.view_is) (λ plan keep runs.
    let h = g.H.Host.now c.args.host.now in
    let then = g.H.Host.now c.ahead.new.host in
    let r = c.self.inside.reservoir in
    let s = c.ahead.new.self in
    quiet_stored g.H.Host.now g.H.Host.may g.H.Host.clock g.H.Host.since g.H.Host.said (store_of plan) keep (opened r) (stored h (base r)) (stored then (base s)) c.args.host.now c.ahead.new.host c.ahead.ensures.leaves
    (stored_still h then r s c.ahead.ensures.leaves.now_stays c.ahead.ensures.stays))

pub returns-in-Ok-clause-events : goal.returns-in-Ok-clause-events
returns-in-Ok-clause-events g c = rw (← c.self.view_is)
    (let h = g.H.Host.now c.args.host.now in
    let then = g.H.Host.now c.ahead.new.host in
    let same = c.ahead.ensures.leaves.now_stays in
    (events_still h then c.self.inside.reservoir c.ahead.new.self same c.ahead.ensures.stays, stored_still h then c.self.inside.reservoir c.ahead.new.self same c.ahead.ensures.stays))

pub returns-in-Ok-clause-running : goal.returns-in-Ok-clause-running
returns-in-Ok-clause-running g c = rw (← c.self.view_is) (λ plan runs.
    let h = c.args.host.now in
    let then = c.ahead.new.host in
    let e = c.self.inside.engine in
    let s : Sitting g.row.T.Denot = record { reservoir = c.self.inside.reservoir; engine = e; texts = c.self.inside.texts; grace = c.self.inside.grace; slots = c.self.inside.slots; keep = c.self.inside.keep; saved = c.self.inside.saved; ended = c.self.inside.ended } in
    running_ahead (g.H.Host.now h) (g.H.Host.now then) c.self.inside.reservoir c.ahead.new.self c.ahead.ensures.leaves.now_stays c.ahead.ensures.stays (g.H.Host.may h) (g.H.Host.may then) c.ahead.ensures.leaves.may_stays c.ahead.ensures.sound plan
    g.T.Table.tells g.T.Table.cell g.T.Table.named g.T.Table.there s runs)

pub returns-in-Ok-clause-loaded : goal.returns-in-Ok-clause-loaded
returns-in-Ok-clause-loaded g c = rw (← c.self.view_is) (λ plan placed.
    let h = c.args.host.now in
    let r = c.self.inside.reservoir in
    let s = c.ahead.new.self in
    let image = placed.reservoir.sound.0 in
    let spelled = subst (λ (l : List Spot). All (Spells (g.H.Host.now h) (base r) (opened r)) l) (sym c.spots.ensures.spots) placed.spots in
    subst (λ (l : List Spot). AllTouched (all_ahead (base r) (image (base r).file) l) (cache_of r) (loads_of r) (g.H.Host.reads h) (cache_of s) (loads_of s) (g.H.Host.reads c.ahead.new.host)) c.spots.ensures.spots
    (c.in-Ok.ensures.loaded placed.reservoir.sound spelled))

pub returns-in-Ok-clause-node : goal.returns-in-Ok-clause-node
returns-in-Ok-clause-node g c = rw (← c.self.view_is) (λ plan n runs.
    let h = c.args.host.now in
    let then = c.ahead.new.host in
    let e = c.self.inside.engine in
    node_ahead (g.H.Host.now h) (g.H.Host.now then) c.self.inside.reservoir c.ahead.new.self c.ahead.ensures.leaves.now_stays c.ahead.ensures.stays (g.H.Host.may h) (g.H.Host.may then) c.ahead.ensures.leaves.may_stays c.ahead.ensures.sound plan
    (g.T.Table.tells e.table) (g.T.Table.cell e.table) n e runs)

pub returns-in-Ok-clause-placed : goal.returns-in-Ok-clause-placed
returns-in-Ok-clause-placed g c = rw (← c.self.view_is) (λ plan placed.
    let h = c.args.host.now in
    let then = c.ahead.new.host in
    placed_ahead (g.H.Host.now h) (g.H.Host.now then) c.self.inside.reservoir c.ahead.new.self c.ahead.ensures.leaves.now_stays c.ahead.ensures.stays (g.H.Host.may h) (g.H.Host.may then) c.ahead.ensures.leaves.may_stays c.ahead.ensures.sound plan
    c.self.inside.engine placed)

pub returns-in-Ok-clause-touched : goal.returns-in-Ok-clause-touched
returns-in-Ok-clause-touched g c = rw (← c.self.view_is, ← c.spots.ensures.spots) c.ahead.ensures.touched

pub returns-in-Err-clause-touched : goal.returns-in-Err-clause-touched
returns-in-Err-clause-touched g c = rw (← c.self.view_is, ← c.spots.ensures.spots) c.ahead.ensures.touched

pub returns-in-Err-clause-within_step : goal.returns-in-Err-clause-within_step
returns-in-Err-clause-within_step g c = rw (← c.self.view_is) (λ plan keep runs.
    quiet_within g.H.Host.now g.H.Host.may g.H.Host.clock g.H.Host.since g.H.Host.said (store_of plan) keep (opened c.self.inside.reservoir) c.args.host.now c.ahead.new.host c.ahead.ensures.leaves)

pub reservoir_fault-requires : goal.reservoir_fault-requires
reservoir_fault-requires g c =
    let not = never_load c.in-Err.fault c.in-Err.ensures.faults in
    record {
      differs = not.0;
      full = not.1;
      ended = λ is.
          let ended = c.in-Err.ensures.ended.0 (ap (λ v. Err v) is) in
          let goes = c.self.invariant.reservoir_goes c.if-self.false in
          absurd cc;
    }

pub returns-in-Err-clause-events : goal.returns-in-Err-clause-events
returns-in-Err-clause-events g c = rw (← c.self.view_is)
    (let h = g.H.Host.now c.args.host.now in
    let then = g.H.Host.now c.ahead.new.host in
    let same = c.ahead.ensures.leaves.now_stays in
    (events_still h then c.self.inside.reservoir c.ahead.new.self same c.ahead.ensures.stays, stored_still h then c.self.inside.reservoir c.ahead.new.self same c.ahead.ensures.stays))

pub returns-in-Err-clause-never_damaged : goal.returns-in-Err-clause-never_damaged
returns-in-Err-clause-never_damaged g c = rw (← c.self.view_is) (λ plan p runs is.
    let h = c.args.host.now in
    let r = c.self.inside.reservoir in
    let spelled = subst (λ (l : List Spot). All (Spells (g.H.Host.now h) (base r) (opened r)) l) (sym c.spots.ensures.spots) runs.ready.in_step.stands.spots.spelled in
    c.in-Err.ensures.never_damaged p runs.ready.in_step.reservoir.sound spelled (ap (λ v. Err v) (damaged_load c.in-Err.fault p c.in-Err.ensures.faults (sym c.reservoir_fault.ensures ∙ same_fault c.reservoir_fault.result _ is))))

pub returns-in-Err-clause-undamaged : goal.returns-in-Err-clause-undamaged
returns-in-Err-clause-undamaged g c = rw (← c.self.view_is) (λ plan p placed is.
    let h = c.args.host.now in
    let r = c.self.inside.reservoir in
    let spelled = subst (λ (l : List Spot). All (Spells (g.H.Host.now h) (base r) (opened r)) l) (sym c.spots.ensures.spots) placed.spots in
    c.in-Err.ensures.never_damaged p placed.reservoir.sound spelled (ap (λ v. Err v) (damaged_load c.in-Err.fault p c.in-Err.ensures.faults (sym c.reservoir_fault.ensures ∙ same_fault c.reservoir_fault.result _ is))))

pub returns-in-Err-clause-damaged : goal.returns-in-Err-clause-damaged
returns-in-Err-clause-damaged g c = λ p is.
    illegal_still (g.H.Host.now c.args.host.now) (g.H.Host.now c.ahead.new.host) c.self.inside.reservoir c.ahead.new.self c.ahead.ensures.leaves.now_stays c.ahead.ensures.stays p
    (c.in-Err.ensures.damaged p (ap (λ v. Err v) (damaged_load c.in-Err.fault p c.in-Err.ensures.faults (sym c.reservoir_fault.ensures ∙ same_fault c.reservoir_fault.result _ is))))

pub returns-in-Err-clause-disk : goal.returns-in-Err-clause-disk
returns-in-Err-clause-disk g c = λ is. c.in-Err.ensures.disk (ap (λ v. Err v) (disk_load c.in-Err.fault (sym c.reservoir_fault.ensures ∙ same_fault c.reservoir_fault.result _ is)))

pub returns-in-Err-clause-faults : goal.returns-in-Err-clause-faults
returns-in-Err-clause-faults g c = rw c.reservoir_fault.ensures (load_faults c.in-Err.fault c.in-Err.ensures.faults)

pub returns-in-Err-clause-ended : goal.returns-in-Err-clause-ended
returns-in-Err-clause-ended g c = rw (← c.self.view_is) (
  λ is.
      let fault = ended_load c.in-Err.fault c.in-Err.ensures.faults (sym c.reservoir_fault.ensures ∙ same_fault c.reservoir_fault.result _ is) in
      let ended = c.in-Err.ensures.ended.0 (ap (λ v. Err v) fault) in
      let goes = c.self.invariant.reservoir_goes c.if-self.false in
      absurd cc,
  λ ended. let goes = c.if-self.false in absurd cc,
)

pub returns-in-Err-clause-untouched : goal.returns-in-Err-clause-untouched
returns-in-Err-clause-untouched g c = λ is.
    let fault = ended_load c.in-Err.fault c.in-Err.ensures.faults (sym c.reservoir_fault.ensures ∙ same_fault c.reservoir_fault.result _ is) in
    let ended = c.in-Err.ensures.ended.0 (ap (λ v. Err v) fault) in
    let goes = c.self.invariant.reservoir_goes c.if-self.false in
    absurd cc

pub returns-in-Ok-clause-keeps : goal.returns-in-Ok-clause-keeps
returns-in-Ok-clause-keeps g c = rw (← c.self.view_is) (λ keeps.
    let h = c.args.host.now in
    let then = c.ahead.new.host in
    let e = c.self.inside.engine in
    let s : Sitting g.row.T.Denot = record { reservoir = c.self.inside.reservoir; engine = e; texts = c.self.inside.texts; grace = c.self.inside.grace; slots = c.self.inside.slots; keep = c.self.inside.keep; saved = c.self.inside.saved; ended = c.self.inside.ended } in
    let new : Sitting g.row.T.Denot = record { reservoir = c.ahead.new.self; engine = e; texts = c.self.inside.texts; grace = c.self.inside.grace; slots = c.self.inside.slots; keep = c.self.inside.keep; saved = c.self.inside.saved; ended = c.self.inside.ended } in
    keeps_still (g.H.Host.now h) (g.H.Host.now then) (g.H.Host.may h) (g.H.Host.may then) g.T.Table.cell g.T.Table.named g.T.Table.there s new keeps
    (slots_quiet (g.H.Host.now h) (g.H.Host.now then) (g.H.Host.may h) (g.H.Host.may then) c.ahead.ensures.leaves.now_stays c.ahead.ensures.leaves.may_stays.no_more) (λ rows is. is) refl refl refl refl
    (omega (arith, ap (λ (b : Base). b.committed) c.ahead.ensures.stays.base)))
