use Rattle.std.proofs.Common.{◌≡◌, drop}
use Rattle.rg_config.specs.Documents.{is_one_of, names}
use Rattle.rg_config.proofs.defaults.is_name.Given as goal

abbrev pub invariant-columns : goal.invariant-columns
invariant-columns l = is_one_of (names l.fields) l.name ≡ is_one_of (names (drop l.field-index l.fields)) l.name
