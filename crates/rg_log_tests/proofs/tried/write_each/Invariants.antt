use Rattle.rg_frame.specs.LogState.{ReachesEnd}
use Rattle.rg_reservoir.specs.Kept.{log_of}
use Rattle.rg_log_tests.proofs.tried.write_each.Given as goal

abbrev pub invariant-loop-put : goal.invariant-loop-put
invariant-loop-put g l = ReachesEnd (log_of l.reservoir) (g.H.Host.now l.host)
