use Rattle.std.proofs.Common.{◌≡◌, ◌∷◌, ◌∙◌, ap, rules}
use Rattle.rg_host.specs.Effects.{nothing}
use Rattle.rg_host.specs.CallTrace.{with_effect}
use Rattle.rg_host.specs.MemHost.{noted, unnoted, with_disk_fault, with_read}
use Rattle.rg_host.proofs.LedgerMoments.{first_in, effects_in, first_of, effects_of, unnoted-leaves_all, nothing-leaves_all}
use Rattle.rg_host.proofs.memory_host.MemHostHost.read_at.Goals as goal

pub returns-then-is_err-clause-leaves : goal.returns-then-is_err-clause-leaves
returns-then-is_err-clause-leaves c =
    let is : c.disk_fault.new.self ≡ unnoted (with_disk_fault (with_read c.args.self.now)) = search rules in
    unnoted-leaves_all _ _ (ap first_in is) (ap effects_in is)

pub returns-then-listed-clause-leaves : goal.returns-then-listed-clause-leaves
returns-then-listed-clause-leaves c =
    let is : c.disk_fault-then-listed.new.self ≡ noted nothing (with_disk_fault (with_read c.args.self.now)) = search rules in
    nothing-leaves_all _ _ (ap first_in is) (ap effects_in is)

pub returns-clause-leaves : goal.returns-clause-leaves
returns-clause-leaves c =
    let is : c.note_nothing.new.self ≡ with_effect nothing c.self.inside.trace = search rules in
    nothing-leaves_all _ _ (ap first_of is ∙ ap first_in (c.self.view_is ∙ c.begin-listed.ensures.next)) (ap effects_of is ∙ ap (λ l. nothing ∷ l) (ap effects_in (c.self.view_is ∙ c.begin-listed.ensures.next)))
