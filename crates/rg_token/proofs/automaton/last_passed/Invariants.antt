use Rattle.std.proofs.Common.{◌≡◌, drop, None}
use Rattle.rg_token.specs.declared.automaton.Mode.TheVariants.{Start}
use Rattle.rg_token.specs.Automaton.{best_of}
use Rattle.rg_token.proofs.automaton.last_passed.Given as goal

abbrev pub invariant-loop-at : goal.invariant-loop-at
invariant-loop-at l = best_of l.mode (drop l.at l.text) l.at l.best ≡ best_of Start (drop l.from l.text) l.from None
