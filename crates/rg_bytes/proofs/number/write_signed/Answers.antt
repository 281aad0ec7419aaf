use Rattle.rg_bytes.proofs.Decimals.{signed_of-signed_decimal}
use Rattle.rg_bytes.proofs.number.write_signed.Goals as goal

pub returns-clause-reads_back : goal.returns-clause-reads_back
returns-clause-reads_back c = signed_of-signed_decimal c.args.v
