use Rattle.std.proofs.Common.{◌≡◌, ◌∷◌, ◌∙◌, ap, rules}
use Rattle.rg_host.specs.Effects.{nothing, synced}
use Rattle.rg_host.specs.CallTrace.{with_effect}
use Rattle.rg_host.specs.MemHost.{noted, unnoted, with_disk_fault}
use Rattle.rg_host.proofs.LedgerMoments.{first_in, effects_in, first_of, effects_of, unnoted-leaves_all, nothing-leaves_all, synced-moments}
use Rattle.rg_host.proofs.memory_host.MemHostHost.sync.Goals as goal

pub returns-then-is_err-clause-moments : goal.returns-then-is_err-clause-moments
returns-then-is_err-clause-moments c =
    let is : c.disk_fault.new.self ≡ unnoted (with_disk_fault c.args.self.now) = search rules in
    (unnoted-leaves_all _ _ (ap first_in is) (ap effects_in is)).moments

pub returns-then-begin-clause-moments : goal.returns-then-begin-clause-moments
returns-then-begin-clause-moments c =
    let is : c.disk_fault-then-begin.new.self ≡ noted nothing (with_disk_fault c.args.self.now) = search rules in
    (nothing-leaves_all _ _ (ap first_in is) (ap effects_in is)).moments

pub returns-then-is_err-2-clause-moments : goal.returns-then-is_err-2-clause-moments
returns-then-is_err-2-clause-moments c =
    let is : c.disk_fault-then-is_err-2.new.self ≡ unnoted (with_disk_fault c.args.self.now) = search rules in
    (unnoted-leaves_all _ _ (ap first_in is) (ap effects_in is)).moments

pub returns-clause-moments : goal.returns-clause-moments
returns-clause-moments c =
    let is : c.note_sync.new.self ≡ with_effect (synced c.args.file) c.self-2.inside.trace = search rules in
    synced-moments _ _ (ap first_of is ∙ ap first_in (c.self-2.view_is ∙ c.begin.ensures.next)) c.args.file (ap effects_of is ∙ ap (λ l. (synced c.args.file) ∷ l) (ap effects_in (c.self-2.view_is ∙ c.begin.ensures.next)))
