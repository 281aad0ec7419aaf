use Rattle.std.proofs.Common.{Some, rules}
use Rattle.std.proofs.lemmas.Int.{to_z-of_z}
use Rattle.std.specs.Int.{w128}
use Rattle.std.specs.Int.RustNames.{FitsSigned}
use Rattle.rg_agg.specs.Numbers.{value_of}
use Rattle.rg_agg.specs.Stands.{IsEnd}
use Rattle.rg_agg.proofs.Ends.{answers_last}
use Rattle.rg_agg.proofs.last.LastAggregate.answer.Goals as goal

pub returns-in-Some : goal.returns-in-Some
returns-in-Some c = λ values stands.
    let fits : FitsSigned w128 c.amount.result = search rules in
    let kept : IsEnd c.args.self.now.count (Some (value_of c.in-Some.number)) values = rw c.in-Some.is at stands in
    rw (to_z-of_z w128 c.amount.result fits, c.amount.ensures) (answers_last _ _ values kept)
