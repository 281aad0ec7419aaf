use Rattle.std.proofs.Common.{◌≡◌, ◌++◌}
use Rattle.rg_plan.proofs.number.in_order.Given as goal

abbrev pub invariant-loop-member : goal.invariant-loop-member
invariant-loop-member g l = l.items.items ++ l.member-iterator ≡ l.fn.members.keys
