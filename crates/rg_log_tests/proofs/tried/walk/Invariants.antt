use Rattle.std.proofs.Common.{◌≤◌, length}
use Rattle.rg_log_tests.proofs.tried.walk.Given as goal

abbrev pub invariant-loop-met : goal.invariant-loop-met
invariant-loop-met g l = l.spot.number ≤ length (g.P.Past.events l.past)
