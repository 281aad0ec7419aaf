use Rattle.std.proofs.Common.{add-one, arith, refl}
use Rattle.rg_parse.proofs.Levels.{no_deeper, one_deeper}
use Rattle.rg_parse.proofs.condition.negate.Goals as goal

pub returns-then-before-ge-MAX_DEPTH-clause-gives : goal.returns-then-before-ge-MAX_DEPTH-clause-gives
returns-then-before-ge-MAX_DEPTH-clause-gives c = λ text. no_deeper text c.args.before.outer.items c.args.before.here.nots c.args.before.depth _ c.args.before.counted (omega arith)

pub returns-clause-gives : goal.returns-clause-gives
returns-clause-gives c = λ text. one_deeper text c.args.before.outer.items c.args.before.here.nots c.args.before.depth _ _ c.args.before.counted (omega arith) (rw add-one refl)
