use Rattle.std.proofs.Common.{◌≡◌, drop}
use Rattle.rg_grammar.specs.Machine.{run, at_start}
use Rattle.rg_parse.specs.Tokens.{tokens_of}
use Rattle.rg_parse.specs.States.{state}
use Rattle.rg_parse.specs.Steps.{IsState}
use Rattle.rg_parse.proofs.parse.read.Given as goal

abbrev pub invariant-loop-i : goal.invariant-loop-i
invariant-loop-i l = record {
  made : IsState l.text l.state;
  same : run 32 (state l.text l.state) (tokens_of l.text (drop l.i l.pieces)) ≡ run 32 at_start (tokens_of l.text l.pieces);
}
