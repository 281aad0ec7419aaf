use Rattle.std.proofs.Common.{List, ℕ, Ok, Err, refl, ap, subst}
use Rattle.rg_host.specs.declared.source.AllFault.{AllFault}
use Rattle.rg_config.specs.Plans.{Tells, Says, planned}
use Rattle.rg_commands.specs.Outcome.{source_outcome}
use Rattle.rg_commands.specs.Plan.{IsPlan}
use Rattle.rg_commands.proofs.Inputs.{told_all}
use Rattle.rg_commands.proofs.Unread.{unread_refused, long_taken, told_fault}
use Rattle.rg_commands.proofs.load.load_plan.Goals as goal

pub returns-in-Err-Read-clause-unread : goal.returns-in-Err-Read-clause-unread
returns-in-Err-Read-clause-unread g c = (c.in-Err-Read.ensures.read (ap (λ (f : AllFault). Err f) c.in-Err-Read.field-0-is), refl)

pub returns-in-Err-Limit-clause-unread : goal.returns-in-Err-Limit-clause-unread
returns-in-Err-Limit-clause-unread g c =
    let took = c.in-Err-Limit.ensures.limit (ap (λ (f : AllFault). Err f) c.in-Err-Limit.field-0-is) in
    (long_taken _ _ took.0 took.1 took.2, refl)

pub returns-in-Err-Memory-clause-unread : goal.returns-in-Err-Memory-clause-unread
returns-in-Err-Memory-clause-unread g c = refl

pub returns-in-Ok-read_plan-clause-legal : goal.returns-in-Ok-read_plan-clause-legal
returns-in-Ok-read_plan-clause-legal g c =
    let P : List ℕ → Type 0 = λ bytes. Says bytes (Ok (planned c.in-Ok-read_plan.asked)) in
    told_all (λ bytes. IsPlan bytes (planned c.in-Ok-read_plan.asked)) _ _ c.in-Ok.bytes.items c.in-Ok.ensures.all c.in-Ok.ensures.end
    (record { within = c.in-Ok.ensures.within; says = subst P c.deref.ensures.value c.in-Ok-read_plan.ensures.sound })

pub returns-clause-unread : goal.returns-clause-unread
returns-clause-unread g c =
    let P : List ℕ → Type 0 = λ bytes. Tells bytes (Err c.in-Err.fault) in
    unread_refused (source_outcome g.P.Source c.args.plan.now c.read_all.new.src) _ c.in-Ok.bytes.items c.in-Ok.ensures.all c.in-Ok.ensures.end c.in-Ok.ensures.within c.in-Err.fault c.refuse_plan.result c.refuse_plan.ensures
    (told_fault c.in-Ok.bytes.items c.in-Err.fault (subst P c.deref.ensures.value c.in-Err.ensures.sound))
