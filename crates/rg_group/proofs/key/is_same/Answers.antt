use Rattle.std.proofs.Common.{◌≡◌, sym, arith}
use Rattle.std.specs.Cmp.Lexicographic.{bytes_decides}
use Rattle.rg_group.proofs.Heads.{told}
use Rattle.rg_group.proofs.key.is_same.Goals as goal

pub returns-then-bytes-le8 : goal.returns-then-bytes-le8
returns-then-bytes-le8 c =
    let same : c.args.bytes.now ≡ c.args.other.now = told 8 0 c.args.bytes.now c.args.other.now c.requires.my_bytes c.requires.other_bytes (omega arith) (omega arith) (c.requires.heads) in
    sym ((bytes_decides c.args.bytes.now c.args.other.now).1 same)
