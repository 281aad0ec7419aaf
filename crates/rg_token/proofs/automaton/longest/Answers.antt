use Rattle.std.proofs.Common.{drop}
use Rattle.rg_token.proofs.Longest.{if_found, if_none, if_spelled, if_within}
use Rattle.rg_token.proofs.automaton.longest.Goals as goal

pub returns : goal.returns
returns c = record {
  found = if_found (drop c.args.from c.args.text.now) c.args.from c.last_passed.result c.last_passed.ensures;
  within = if_within c.args.text.now c.args.from c.requires c.last_passed.result c.last_passed.ensures;
  spelled = if_spelled c.args.text.now c.args.from c.last_passed.result c.last_passed.ensures;
  none = if_none (drop c.args.from c.args.text.now) c.args.from c.last_passed.result c.last_passed.ensures;
}
