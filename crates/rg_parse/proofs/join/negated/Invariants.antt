use Rattle.std.proofs.Common.{◌≡◌, ℕ, ◌-◌, List}
use Rattle.rg_grammar.specs.Machine.{nots}
use Rattle.rg_parse.specs.Views.{tree}
use Rattle.rg_parse.specs.Parts.{IsCondition}
use Rattle.rg_parse.proofs.join.negated.Given as goal

abbrev pub invariant-loop : goal.invariant-loop
invariant-loop l = record {
  means : (text : List ℕ) → nots (l.times - l.counter) (tree text l.expr) ≡ nots l.times (tree text l.initial.expr);
  made : (text : List ℕ) → IsCondition text l.initial.expr → IsCondition text l.expr;
}
