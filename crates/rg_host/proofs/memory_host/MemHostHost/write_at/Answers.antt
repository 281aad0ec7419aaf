use Rattle.std.proofs.Common.{◌≡◌, ◌∷◌, ◌∙◌, length, ap, rules}
use Rattle.rg_host.specs.CallTrace.{with_effect}
use Rattle.rg_host.specs.Effects.{wrote, failed_write}
use Rattle.rg_host.specs.MemHost.{noted, unnoted, with_disk_fault}
use Rattle.rg_host.proofs.LedgerMoments.{first_in, effects_in, first_of, effects_of, unnoted-write, wrote-moments, failed_write-moments}
use Rattle.rg_host.proofs.memory_host.MemHostHost.write_at.Goals as goal

pub returns-then-is_err-clause-moments : goal.returns-then-is_err-clause-moments
returns-then-is_err-clause-moments c =
    let is : c.disk_fault.new.self ≡ unnoted (with_disk_fault c.args.self.now) = search rules in
    unnoted-write _ _ (ap first_in is) (ap effects_in is) c.args.file c.args.at (length c.args.bytes.now)

pub returns-then-listed-clause-moments : goal.returns-then-listed-clause-moments
returns-then-listed-clause-moments c =
    let is : c.disk_fault-then-listed.new.self ≡ noted (failed_write c.args.file c.args.at (length c.args.bytes.now)) (with_disk_fault c.args.self.now) = search rules in
    failed_write-moments _ _ (ap first_in is) c.args.file c.args.at (length c.args.bytes.now) (ap effects_in is)

pub returns-then-is_err-2-clause-moments : goal.returns-then-is_err-2-clause-moments
returns-then-is_err-2-clause-moments c =
    let is : c.disk_fault-then-is_err-2.new.self ≡ unnoted (with_disk_fault c.args.self.now) = search rules in
    unnoted-write _ _ (ap first_in is) (ap effects_in is) c.args.file c.args.at (length c.args.bytes.now)

pub returns-clause-moments : goal.returns-clause-moments
returns-clause-moments c =
    let effect = wrote c.args.file c.args.at c.args.bytes.now in
    let is : c.note_write.new.self ≡ with_effect effect c.self-2.inside.trace = search rules in
    wrote-moments _ _ (ap first_of is ∙ ap first_in (c.self-2.view_is ∙ c.begin-listed.ensures.next)) c.args.file c.args.at c.args.bytes.now (ap effects_of is ∙ ap (λ l. effect ∷ l) (ap effects_in (c.self-2.view_is ∙ c.begin-listed.ensures.next)))
