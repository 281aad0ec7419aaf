use Rattle.std.proofs.Common.{rules, ◌≡◌, false, arith}
use Rattle.rg_reservoir.specs.Attached.{IsForeign}
use Rattle.rg_reservoir.proofs.Firsts.{at_start, at_end, log_kept, opened_then, opening_quiet, opening_then, stops_then, disk_stops}
use Rattle.rg_reservoir.proofs.first.open_log.Goals as goal

-- the log has no frame

pub begin_log-requires-clause-start : goal.begin_log-requires-clause-start
begin_log-requires-clause-start g c =
    at_start (g.H.Host.now c.args.host.now) (g.H.Host.now c.read_frames.new.host) c.new-log.result c.read_frames.new.log c.new-log.ensures.fresh (c.new-log.ensures.reaches (g.H.Host.now c.args.host.now)) c.read_frames.ensures.leaves.leaves.now_stays (rw c.in-Ok-None.field-0-is at c.in-Ok-None.ensures.read)

pub returns-in-Ok-None-clause-opened : goal.returns-in-Ok-None-clause-opened
returns-in-Ok-None-clause-opened g c =
    opened_then g.H.Host.now g.H.Host.may g.H.Host.clock g.H.Host.since g.H.Host.said c.args.schema.now c.args.defaults.now c.begin_log.result _ _ _ c.read_frames.ensures.leaves.leaves (c.begin_log.ensures.opened c.args.defaults.now)

pub returns-in-Ok-None-clause-stops : goal.returns-in-Ok-None-clause-stops
returns-in-Ok-None-clause-stops g c =
    let differs = IsForeign c.args.schema.now c.args.defaults.now in
    stops_then differs _ _ _ _ c.begin_log.result c.read_frames.ensures.leaves.leaves.now_stays (λ rose. omega (arith, rose, c.read_frames.ensures.leaves.disk_faults_rise)) (disk_stops differs _ _ c.begin_log.result c.begin_log.ensures.disk)

pub returns-in-Ok-None-clause-writes : goal.returns-in-Ok-None-clause-writes
returns-in-Ok-None-clause-writes g c =
    opening_then g.H.Host.now g.H.Host.may g.H.Host.clock g.H.Host.since g.H.Host.said c.args.schema.now c.args.defaults.now g.H.Host.disk_faults g.H.Host.out_faults c.begin_log.result _ _ _ c.read_frames.ensures.leaves (c.begin_log.ensures.writes c.args.defaults.now)

-- this schema is in force at its end

pub returns-in-Ok-true-clause-opened : goal.returns-in-Ok-true-clause-opened
returns-in-Ok-true-clause-opened g c =
    let leaves = c.read_frames.ensures.leaves.leaves in
    let at = at_end (g.H.Host.now c.args.host.now) (g.H.Host.now c.read_frames.new.host) c.new-log.result c.read_frames.new.log c.in-Ok-Some.read c.new-log.ensures.fresh (c.new-log.ensures.reaches (g.H.Host.now c.args.host.now)) leaves.now_stays (rw c.in-Ok-Some.field-0-is at c.in-Ok-Some.ensures.read) in
    log_kept g.H.Host.now g.H.Host.may g.H.Host.clock g.H.Host.since g.H.Host.said c.args.schema.now c.args.defaults.now _ _ c.read_frames.new.log c.in-Ok-Some.read leaves at (search rules)

pub returns-in-Ok-true-clause-writes : goal.returns-in-Ok-true-clause-writes
returns-in-Ok-true-clause-writes g c =
    opening_quiet g.H.Host.now g.H.Host.may g.H.Host.clock g.H.Host.since g.H.Host.said c.args.schema.now c.args.defaults.now g.H.Host.disk_faults g.H.Host.out_faults _ _ _ c.read_frames.ensures.leaves

-- another one is

pub grow_log-requires-clause-read : goal.grow_log-requires-clause-read
grow_log-requires-clause-read g c =
    at_end (g.H.Host.now c.args.host.now) (g.H.Host.now c.read_frames.new.host) c.new-log.result c.read_frames.new.log c.in-Ok-Some.read c.new-log.ensures.fresh (c.new-log.ensures.reaches (g.H.Host.now c.args.host.now)) c.read_frames.ensures.leaves.leaves.now_stays (rw c.in-Ok-Some.field-0-is at c.in-Ok-Some.ensures.read)

pub grow_log-requires-clause-other : goal.grow_log-requires-clause-other
grow_log-requires-clause-other g c = let no : c.in-Ok-false.field-0 ≡ false = search rules in c.in-Ok-false.ensures.differs no

pub returns-in-Ok-false-clause-opened : goal.returns-in-Ok-false-clause-opened
returns-in-Ok-false-clause-opened g c =
    opened_then g.H.Host.now g.H.Host.may g.H.Host.clock g.H.Host.since g.H.Host.said c.args.schema.now c.args.defaults.now c.grow_log.result _ _ _ c.read_frames.ensures.leaves.leaves c.grow_log.ensures.opened

pub returns-in-Ok-false-clause-stops : goal.returns-in-Ok-false-clause-stops
returns-in-Ok-false-clause-stops g c =
    stops_then (IsForeign c.args.schema.now c.args.defaults.now) _ _ _ _ c.grow_log.result c.read_frames.ensures.leaves.leaves.now_stays (λ rose. omega (arith, rose, c.read_frames.ensures.leaves.disk_faults_rise)) c.grow_log.ensures.stops

pub returns-in-Ok-false-clause-writes : goal.returns-in-Ok-false-clause-writes
returns-in-Ok-false-clause-writes g c =
    opening_then g.H.Host.now g.H.Host.may g.H.Host.clock g.H.Host.since g.H.Host.said c.args.schema.now c.args.defaults.now g.H.Host.disk_faults g.H.Host.out_faults c.grow_log.result _ _ _ c.read_frames.ensures.leaves c.grow_log.ensures.writes

-- it wasn't read

pub returns-in-Err-clause-writes : goal.returns-in-Err-clause-writes
returns-in-Err-clause-writes g c =
    opening_quiet g.H.Host.now g.H.Host.may g.H.Host.clock g.H.Host.since g.H.Host.said c.args.schema.now c.args.defaults.now g.H.Host.disk_faults g.H.Host.out_faults _ _ _ c.read_frames.ensures.leaves

pub returns-in-Err-is_in_force-clause-writes : goal.returns-in-Err-is_in_force-clause-writes
returns-in-Err-is_in_force-clause-writes g c =
    opening_quiet g.H.Host.now g.H.Host.may g.H.Host.clock g.H.Host.since g.H.Host.said c.args.schema.now c.args.defaults.now g.H.Host.disk_faults g.H.Host.out_faults _ _ _ c.read_frames.ensures.leaves
