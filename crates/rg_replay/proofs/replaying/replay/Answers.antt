use Rattle.std.proofs.Common.{Result, refl, subst}
use Rattle.rg_replay.specs.declared.fault.ReplayFault.{ReplayFault}
use Rattle.rg_replay.specs.Playing.{IsCausedOver, IsExpected, IsRefusedOf}
use Rattle.rg_replay.proofs.Reading.{if_err_then, refused_of, not_expected}
use Rattle.std.specs.Prelude.{⊤, IfErr}
use Rattle.rg_host.specs.Puts.{Puts}
use Rattle.rg_replay.specs.Replay.{replay_text}
use Rattle.rg_replay.specs.declared.fault.ReplayFault.TheVariants.{Disk, Damaged, SchemaDiffers, Write}
use Rattle.rg_replay.proofs.Played.{if_err_at}
use Rattle.rg_replay.proofs.Progress.{answered_ok, answered_stops, answered_expected}
use Rattle.rg_replay.proofs.replaying.replay.Goals as goal

pub returns-clause-completes : goal.returns-clause-completes
returns-clause-completes g c = λ queries events is.
    let text = replay_text queries c.args.first events in
    answered_ok text text (Puts g.H.Host.said g.H.Host.clock g.H.Host.since c.args.host.now c.replay_log.new.host) ⊤ c.replay_log.result (c.replay_log.ensures.answered queries events is)

pub returns-clause-stops : goal.returns-clause-stops
returns-clause-stops g c = λ queries events is.
    let text = replay_text queries c.args.first events in
    answered_stops text text (Puts g.H.Host.said g.H.Host.clock g.H.Host.since c.args.host.now c.replay_log.new.host) ⊤ c.replay_log.result (c.replay_log.ensures.answered queries events is)

pub returns-clause-expected : goal.returns-clause-expected
returns-clause-expected g c = λ queries events is.
    let text = replay_text queries c.args.first events in
    answered_expected text text (Puts g.H.Host.said g.H.Host.clock g.H.Host.since c.args.host.now c.replay_log.new.host) ⊤ c.replay_log.result (c.replay_log.ensures.answered queries events is)

pub returns-clause-differs : goal.returns-clause-differs
returns-clause-differs g c = λ is. (if_err_at c.replay_log.result _ c.replay_log.ensures.ends.cause SchemaDiffers is).differs refl

pub returns-clause-damaged : goal.returns-clause-damaged
returns-clause-damaged g c = λ p is. (if_err_at c.replay_log.result _ c.replay_log.ensures.ends.cause (Damaged p) is).damaged p refl

pub returns-clause-disk : goal.returns-clause-disk
returns-clause-disk g c = λ is. (if_err_at c.replay_log.result _ c.replay_log.ensures.ends.cause Disk is).disk refl

pub returns-clause-write : goal.returns-clause-write
returns-clause-write g c = λ is. (if_err_at c.replay_log.result _ c.replay_log.ensures.ends.cause Write is).write refl

pub returns-clause-leaves : goal.returns-clause-leaves
returns-clause-leaves g c = c.replay_log.ensures.ends.leaves.leaves

pub returns-clause-disk_faults : goal.returns-clause-disk_faults
returns-clause-disk_faults g c = c.replay_log.ensures.ends.leaves.disk

pub returns-clause-out_faults : goal.returns-clause-out_faults
returns-clause-out_faults g c = c.replay_log.ensures.ends.leaves.out

pub returns-clause-refused_of : goal.returns-clause-refused_of
returns-clause-refused_of g c =
    let shape = c.args.schema.now in
    let host = c.args.host.now in
    if_err_then c.replay_log.result (λ fault. IsCausedOver g.H.Host.now g.H.Host.disk_faults g.H.Host.out_faults shape fault host c.replay_log.new.host) (IsRefusedOf c.args.plan shape (g.H.Host.now host) (g.H.Host.may host)) (λ fault came cause.
    refused_of g.H.Host.now (g.H.Host.may host) g.H.Host.disk_faults g.H.Host.out_faults c.args.plan shape fault host c.replay_log.new.host cause (λ node is queries events ready.
    not_expected fault node is (subst (λ (r : Result Unit ReplayFault). IfErr r IsExpected) came (returns-clause-expected g c queries events ready)))) c.replay_log.ensures.ends.cause
