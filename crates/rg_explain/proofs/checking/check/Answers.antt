use Rattle.std.proofs.Common.{◌≡◌, []}
use Rattle.rg_config.specs.Plans.{planned}
use Rattle.rg_host.proofs.Laws.{puts-nothing, leaves_files-none}
use Rattle.rg_explain.specs.Listing.{check_text}
use Rattle.rg_explain.specs.declared.fault.CheckFault.TheVariants.{Memory, Write}
use Rattle.rg_explain.proofs.Stopped.{nothing_stops}
use Rattle.rg_explain.proofs.checking.check.Goals as goal

pub returns-in-Err-clause-stops : goal.returns-in-Err-clause-stops
returns-in-Err-clause-stops g c =
    ([], puts-nothing g.H.Host.said g.H.Host.clock g.H.Host.since _ (λ t u m. g.met.H.Host.sinks _ t u m) (λ m. g.met.H.Host.only_now _ m), nothing_stops (Memory ≡ Write) (check_text (planned c.args.plan.now)))

pub returns-in-Err-clause-leaves : goal.returns-in-Err-clause-leaves
returns-in-Err-clause-leaves g c = leaves_files-none g.H.Host.now g.H.Host.may g.H.Host.clock g.H.Host.since _ (λ t u m. g.met.H.Host.sinks _ t u m) (λ m now. (g.met.H.Host.only_now _ m now).0)
