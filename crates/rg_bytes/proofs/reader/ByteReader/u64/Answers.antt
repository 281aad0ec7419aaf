use Rattle.std.proofs.Common.{◌^◌, rules, ap, Ok}
use Rattle.std.specs.Int.{w64}
use Rattle.rg_bytes.proofs.Bytes.{wide_64, taken, read_back}
use Rattle.rg_bytes.proofs.reader.ByteReader.u64.Goals as goal

pub returns-clause-ok : goal.returns-clause-ok
returns-clause-ok c = taken w64 (2 ^ 64) wide_64 _ c.in_ok-array.field-0 c.array.new.self _ c.in_ok-array.ensures.ok (search rules) (search rules) c.from_be_bytes.ensures

pub returns-clause-reads_back : goal.returns-clause-reads_back
returns-clause-reads_back c n rest fits stood =
    let same = read_back w64 (2 ^ 64) wide_64 c.args.self.now c.array.new.self rest c.from_be_bytes.result n (search rules) fits (returns-clause-ok c) stood in
    (ap (λ m. Ok m) same.0, same.1)
