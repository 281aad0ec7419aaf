use Rattle.std.proofs.Common.{arith, refl, []}
use Rattle.std.proofs.lemmas.List.Elements.{All-push, All-same}
use Rattle.rg_parse.specs.Steps.{IsLevel}
use Rattle.rg_parse.proofs.Levels.{no_deeper, one_deeper, levels_push, count_push}
use Rattle.rg_parse.proofs.condition.open_group.Goals as goal

pub returns-then-before-ge-MAX_DEPTH-clause-gives : goal.returns-then-before-ge-MAX_DEPTH-clause-gives
returns-then-before-ge-MAX_DEPTH-clause-gives c = λ text. no_deeper text c.args.before.outer.items c.args.before.here.nots c.args.before.depth _ c.args.before.counted (omega arith)

pub invariant_of-result-clause-counted : goal.invariant_of-result-clause-counted
invariant_of-result-clause-counted c = rw (c.in-Ok.ensures.items, count_push) (omega arith)

pub returns-clause-gives : goal.returns-clause-gives
returns-clause-gives c = λ text. one_deeper text c.args.before.outer.items c.args.before.here.nots c.args.before.depth _ _ c.args.before.counted (omega arith) (rw (c.in-Ok.ensures.items, levels_push text c.args.before.outer.items c.args.before.here []) refl)

pub returns-clause-made : goal.returns-clause-made
returns-clause-made c = λ text h. record {
  head = h.head;
  outer = All-same (IsLevel text) _ _ c.in-Ok.ensures.items (All-push (IsLevel text) c.args.before.outer.items c.args.before.here h.outer h.here);
  here = record { either = tt; both = tt };
}
