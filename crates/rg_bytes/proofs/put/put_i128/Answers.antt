use Rattle.std.proofs.lemmas.Int.{to_z-of_z}
use Rattle.std.specs.Int.{w128}
use Rattle.rg_bytes.proofs.put.put_i128.Goals as goal

pub returns-clause-ok : goal.returns-clause-ok
returns-clause-ok c =
    let bytes = rw (to_z-of_z w128 c.args.v c.ranges.v) at c.to_be_bytes.ensures in
    rw bytes at c.put_bytes.ensures.ok
