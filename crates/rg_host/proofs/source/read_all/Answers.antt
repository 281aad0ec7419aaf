use Rattle.std.proofs.Common.{◌++◌, take, arith, length-append, length-take}
use Rattle.rg_host.proofs.Taking.{before_more}
use Rattle.rg_host.proofs.source.read_all.Goals as goal

pub returns-then-count-max-clause-taken : goal.returns-then-count-max-clause-taken
returns-then-count-max-clause-taken g c = (
  c.pieces.all.items ++ take c.in-Ok.count c.read.new.buf,
  before_more _ _ _ _ _ c.pieces.invariant.taken c.in-Ok.ensures.bytes,
  omega (arith, c.in-Ok.ensures.count, c.min-asked.ensures, c.saturating_add.ensures, length-take c.min-asked.result c.pieces.piece, length-append c.pieces.all.items (take c.in-Ok.count c.read.new.buf), length-take c.in-Ok.count c.read.new.buf),
)

pub returns-then-count-max-clause-limit : goal.returns-then-count-max-clause-limit
returns-then-count-max-clause-limit g c = λ _. (
  c.pieces.all.items ++ take c.in-Ok.count c.read.new.buf,
  before_more _ _ _ _ _ c.pieces.invariant.taken c.in-Ok.ensures.bytes,
  omega (arith, c.in-Ok.ensures.count, c.min-asked.ensures, c.saturating_add.ensures, length-take c.min-asked.result c.pieces.piece, length-append c.pieces.all.items (take c.in-Ok.count c.read.new.buf), length-take c.in-Ok.count c.read.new.buf),
)

pub returns-in_err-map_err-clause-taken : goal.returns-in_err-map_err-clause-taken
returns-in_err-map_err-clause-taken g c = (
  c.pieces.all.items ++ take c.in-Ok.count c.read.new.buf,
  before_more _ _ _ _ _ c.pieces.invariant.taken c.in-Ok.ensures.bytes,
  omega (arith, c.if-count-max.false, c.pieces.invariant.within, c.len-in-pieces.ensures, c.pieces.all.ok.0, length-append c.pieces.all.items (take c.in-Ok.count c.read.new.buf), length-take c.in-Ok.count c.read.new.buf),
)

pub returns-in_err-map_err-clause-taken_within : goal.returns-in_err-map_err-clause-taken_within
returns-in_err-map_err-clause-taken_within g c = λ _. (
  c.pieces.all.items ++ take c.in-Ok.count c.read.new.buf,
  before_more _ _ _ _ _ c.pieces.invariant.taken c.in-Ok.ensures.bytes,
  omega (arith, c.if-count-max.false, c.pieces.invariant.within, c.len-in-pieces.ensures, c.pieces.all.ok.0, length-append c.pieces.all.items (take c.in-Ok.count c.read.new.buf), length-take c.in-Ok.count c.read.new.buf),
)
