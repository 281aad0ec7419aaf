use Rattle.std.proofs.Common.{◌≡◌, drop}
use Rattle.rg_metric.specs.Replies.{key_of}
use Rattle.rg_metric.specs.Same.{same_values}
use Rattle.rg_scratch.proofs.counting.have_same_key.Given as goal

abbrev pub invariant-places : goal.invariant-places
invariant-places l = same_values (key_of l.columns l.one) (key_of l.columns l.other) ≡ same_values (drop l.place (key_of l.columns l.one)) (drop l.place (key_of l.columns l.other))
