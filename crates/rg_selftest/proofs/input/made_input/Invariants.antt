use Rattle.std.proofs.Common.{◌≡◌}
use Rattle.rg_host.specs.Lines.{ended}
use Rattle.rg_selftest.specs.Trials.{made_lines}
use Rattle.rg_selftest.proofs.input.made_input.Given as goal

abbrev pub invariant-lines : goal.invariant-lines
invariant-lines l = l.input.items ≡ ended (made_lines l.seed l.i)
