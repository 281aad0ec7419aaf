use Rattle.std.proofs.Common.{List, ℕ, Ok, refl, subst}
use Rattle.rg_host.specs.Effects.{said_after}
use Rattle.rg_config.specs.Plans.{Says, planned}
use Rattle.rg_commands.proofs.Counting.{text_is, numbers}
use Rattle.rg_commands.proofs.self_command.run_trial.Goals as goal

pub unreachable-requires : goal.unreachable-requires
unreachable-requires g c =
    let ran = c.in-Ok-ran.ensures.ran in
    let asks = planned c.in-Ok.plan in
    let input = c.in-Ok-made_input.input.items in
    let said = said_after c.in-Ok-ran.host.effects in
    c.count-counted.ensures.found asks input (text_is asks input c.output.result.now said ran (c.output.ensures said refl)) ran.few c.in-None.is

pub returns-in-Some-clause-counted : goal.returns-in-Some-clause-counted
returns-in-Some-clause-counted g c =
    let says = subst (λ (bytes : List ℕ). Says bytes (Ok (planned c.in-Ok.plan))) c.plan_bytes.ensures c.in-Ok.ensures.sound in
    let said = said_after c.in-Ok-ran.host.effects in
    numbers c.args.seed c.args.lines (planned c.in-Ok.plan) c.in-Ok-made_input.input.items c.output.result.now said c.in-Some.trial
    says c.in-Ok-made_input.ensures c.in-Ok-ran.ensures.ran (c.output.ensures said refl) c.in-Some.ensures.lines c.in-Some.ensures.events c.in-Some.ensures.bytes c.in-Some.ensures.sum
