use Rattle.std.proofs.Common.{◌≡◌, true, false, rules}
use Rattle.rg_growth.specs.Growing.{grows}
use Rattle.rg_growth.proofs.Whole.{no_shape, not_grown, grown_tested}
use Rattle.rg_growth.proofs.growth.read_grown.Goals as goal

pub returns-in-Err-Bad-clause-agrees : goal.returns-in-Err-Bad-clause-agrees
returns-in-Err-Bad-clause-agrees c = not_grown c.args.from.now c.args.text.now (no_shape c.args.text.now c.parse.result (search rules) c.parse.ensures.reads_back)

pub returns-then-not-grows_to-clause-agrees : goal.returns-then-not-grows_to-clause-agrees
returns-then-not-grows_to-clause-agrees c =
    let not_so : grows c.args.from.now c.in-Ok.to ≡ false = search rules in
    grown_tested c.args.from.now c.in-Ok.to c.args.text.now false c.in-Ok.ensures.legal c.in-Ok.ensures.ok not_so

pub returns-clause-agrees : goal.returns-clause-agrees
returns-clause-agrees c =
    let so : grows c.args.from.now c.in-Ok.to ≡ true = search rules in
    grown_tested c.args.from.now c.in-Ok.to c.args.text.now true c.in-Ok.ensures.legal c.in-Ok.ensures.ok so
