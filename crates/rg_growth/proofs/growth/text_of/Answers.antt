use Rattle.std.proofs.Common.{◌≡◌, rules}
use Rattle.rg_event.specs.Shapes.{schema_text}
use Rattle.rg_growth.proofs.Lengths.{written_short}
use Rattle.rg_growth.proofs.growth.text_of.Goals as goal

pub returns-clause-short : goal.returns-clause-short
returns-clause-short c =
    let same : c.write.new.out.items ≡ schema_text c.args.schema.now = search rules in
    written_short c.args.schema.now c.write.new.out.items c.in_ok-write.ensures.legal same
