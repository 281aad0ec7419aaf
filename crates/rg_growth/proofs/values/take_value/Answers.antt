use Rattle.std.proofs.Common.{◌≡◌, true, false, inl, rules}
use Rattle.rg_event.specs.Tagged.{value_kind}
use Rattle.rg_growth.specs.Growing.{is_kind}
use Rattle.rg_growth.proofs.Grown.{value_of_kind}
use Rattle.rg_growth.proofs.Read.{value_stops, value_tested}
use Rattle.rg_growth.proofs.values.take_value.Goals as goal

pub returns-in-Err-clause-agrees : goal.returns-in-Err-clause-agrees
returns-in-Err-clause-agrees c = rw c.from.ensures (value_stops c.args.kind c.args.from.now c.in-Err.fault c.in-Err.ensures.agrees)

pub returns-then-not-is_of-clause-agrees : goal.returns-then-not-is_of-clause-agrees
returns-then-not-is_of-clause-agrees c =
    let other : is_kind (value_kind c.in-Ok.value) c.args.kind ≡ false = search rules in
    inl (value_tested c.args.kind c.args.from.now c.in-Ok.value c.get_tagged.new.from false c.in-Ok.ensures.agrees other)

pub returns-clause-agrees : goal.returns-clause-agrees
returns-clause-agrees c =
    let same : is_kind (value_kind c.in-Ok.value) c.args.kind ≡ true = search rules in
    value_tested c.args.kind c.args.from.now c.in-Ok.value c.get_tagged.new.from true c.in-Ok.ensures.agrees same

pub returns-clause-of : goal.returns-clause-of
returns-clause-of c =
    let same : is_kind (value_kind c.in-Ok.value) c.args.kind ≡ true = search rules in
    value_of_kind c.args.kind c.in-Ok.value c.in-Ok.ensures.legal same
