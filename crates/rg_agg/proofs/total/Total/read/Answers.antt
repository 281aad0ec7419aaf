use Rattle.std.proofs.Common.{rules, inl}
use Rattle.std.proofs.lemmas.Int.{to_z-of_z}
use Rattle.std.specs.Int.{w128}
use Rattle.std.specs.Int.RustNames.{FitsSigned}
use Rattle.rg_agg.specs.Held.{is_sum}
use Rattle.rg_agg.specs.declared.fault.StateFault.TheVariants.{Short, Memory}
use Rattle.rg_agg.proofs.Fields.{total_size_stops, total_sum_short, total_read, total_bad}
use Rattle.rg_bytes.proofs.Laws.{agrees_stopped}
use Rattle.rg_agg.proofs.total.Total.read.Goals as goal

pub returns-in_err-count-clause-agrees : goal.returns-in_err-count-clause-agrees
returns-in_err-count-clause-agrees c = agrees_stopped Memory _ _ c.from_residual.result _ _ c.from_residual.ensures.1 (total_size_stops is_sum _ _ _ c.in_err-count.ensures.agrees)

pub returns-in_err-sum-clause-agrees : goal.returns-in_err-sum-clause-agrees
returns-in_err-sum-clause-agrees c =
    agrees_stopped Memory _ _ c.from_residual-in_err-sum.result _ Short c.from_residual-in_err-sum.ensures.1 (inl (total_sum_short is_sum _ _ _ _ c.in_ok-count.ensures.agrees (search rules)))

pub returns-then-is_within-clause-agrees : goal.returns-then-is_within-clause-agrees
returns-then-is_within-clause-agrees c =
    let fits : FitsSigned w128 c.in_ok-sum.sum = search rules in
    rw (c.new.ensures, to_z-of_z w128 c.in_ok-sum.sum fits) (total_read is_sum _ _ _ _ c.in_ok-sum.sum _ c.in_ok-count.ensures.agrees c.in_ok-sum.ensures.ok fits (search (rules, to_z-of_z w128 c.in_ok-sum.sum fits)))

pub returns-else-is_within-clause-agrees : goal.returns-else-is_within-clause-agrees
returns-else-is_within-clause-agrees c =
    let fits : FitsSigned w128 c.in_ok-sum.sum = search rules in
    inl (total_bad is_sum _ _ _ _ c.in_ok-sum.sum _ c.in_ok-count.ensures.agrees c.in_ok-sum.ensures.ok fits (search (rules, to_z-of_z w128 c.in_ok-sum.sum fits)))
