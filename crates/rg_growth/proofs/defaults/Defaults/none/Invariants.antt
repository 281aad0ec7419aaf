use Rattle.std.proofs.Common.{◌≡◌, ◌++◌, drop}
use Rattle.rg_growth.specs.Growing.{no_defaults}
use Rattle.rg_growth.proofs.defaults.Defaults.none.Given as goal

abbrev pub invariant-loop-field : goal.invariant-loop-field
invariant-loop-field l = l.defaults ++ no_defaults (drop l._field-index l.fields) ≡ no_defaults l.fields
