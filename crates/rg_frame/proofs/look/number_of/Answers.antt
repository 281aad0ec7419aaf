use Rattle.std.proofs.Common.{rules}
use Rattle.std.proofs.lemmas.Nat.{be_bytes_8}
use Rattle.rg_frame.proofs.look.number_of.Goals as goal

pub returns-clause-spelled : goal.returns-clause-spelled
returns-clause-spelled c = be_bytes_8 c.args.bytes.now c.from_be_bytes.result c.requires (λ i. (c.type_inv.bytes i).fits) (search rules)
