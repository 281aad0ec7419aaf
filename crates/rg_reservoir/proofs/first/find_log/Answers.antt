use Rattle.std.proofs.Common.{rules, ◌∙◌}
use Rattle.rg_reservoir.proofs.Firsts.{at_start, at_end, read_opened, schema_read}
use Rattle.rg_reservoir.proofs.first.find_log.Goals as goal

pub returns-in-Some-clause-found : goal.returns-in-Some-clause-found
returns-in-Some-clause-found g c =
    let same = c.read_frames.ensures.leaves.leaves.now_stays in
    let at = at_end (g.H.Host.now c.args.host.now) (g.H.Host.now c.read_frames.new.host) c.new-log.result c.read_frames.new.log c.in-Ok-Some.read c.new-log.ensures.fresh (c.new-log.ensures.reaches (g.H.Host.now c.args.host.now)) same (rw c.in-Ok-Some.field-0-is at c.in-Ok-Some.ensures.read) in
    record {
      opened = λ v told. read_opened c.in-Some.schema c.in-Ok-Some.read c.read_frames.new.log.end (v 2) (search rules) (at.has_read v (same ∙ told));
      none = tt;
      log = (at.stands.0, at.stands.1, at.stands.2, at.few);
    }

pub returns-in-None-clause-found : goal.returns-in-None-clause-found
returns-in-None-clause-found g c =
    let same = c.read_frames.ensures.leaves.leaves.now_stays in
    let at = at_end (g.H.Host.now c.args.host.now) (g.H.Host.now c.read_frames.new.host) c.new-log.result c.read_frames.new.log c.in-Ok-Some.read c.new-log.ensures.fresh (c.new-log.ensures.reaches (g.H.Host.now c.args.host.now)) same (rw c.in-Ok-Some.field-0-is at c.in-Ok-Some.ensures.read) in
    record { opened = tt; none = λ v told. absurd (schema_read c.in-Ok-Some.read c.read_frames.new.log.end (v 2) (at.has_read v (same ∙ told)) (search rules)); log = tt }

pub returns-in-Ok-None-clause-found : goal.returns-in-Ok-None-clause-found
returns-in-Ok-None-clause-found g c =
    let same = c.read_frames.ensures.leaves.leaves.now_stays in
    let at = at_start (g.H.Host.now c.args.host.now) (g.H.Host.now c.read_frames.new.host) c.new-log.result c.read_frames.new.log c.new-log.ensures.fresh (c.new-log.ensures.reaches (g.H.Host.now c.args.host.now)) same (rw c.in-Ok-None.field-0-is at c.in-Ok-None.ensures.read) in
    record { opened = tt; none = λ v told. at.none v (same ∙ told); log = tt }
