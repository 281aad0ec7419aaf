use Rattle.std.proofs.Common.{◌≡◌, slice_get, drop}
use Rattle.rg_metric.specs.Replies.{key_of}
use Rattle.rg_scratch.proofs.counting.part.Given as goal

abbrev pub invariant-columns : goal.invariant-columns
invariant-columns l = slice_get (key_of l.columns l.event) l.place ≡ slice_get (key_of (drop l.column-index l.columns) l.event) l.left
