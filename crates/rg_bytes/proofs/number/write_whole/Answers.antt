use Rattle.std.proofs.Common.{rules}
use Rattle.rg_bytes.proofs.Decimals.{whole_of-decimal}
use Rattle.rg_bytes.proofs.number.write_whole.Goals as goal

pub returns-clause-reads_back : goal.returns-clause-reads_back
returns-clause-reads_back c = whole_of-decimal c.args.v (search rules)
