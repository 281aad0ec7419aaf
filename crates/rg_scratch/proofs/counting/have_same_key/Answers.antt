use Rattle.std.proofs.Common.{rules}
use Rattle.rg_metric.specs.Replies.{key_of}
use Rattle.rg_scratch.proofs.Keys.{apart, goes_on, none_left}
use Rattle.rg_scratch.proofs.counting.have_same_key.Goals as goal

pub returns-then-not-are_alike : goal.returns-then-not-are_alike
returns-then-not-are_alike c =
    apart (key_of c.args.columns.now c.args.one.now) (key_of c.args.columns.now c.args.other.now) c.places.place c.places.invariant
    (search (rules, c.are_alike.ensures, c.part.ensures, c.part-in-places.ensures, c.if-not-are_alike.true))

pub places-preserved : goal.places-preserved
places-preserved c =
    goes_on (key_of c.args.columns.now c.args.one.now) (key_of c.args.columns.now c.args.other.now) c.places.place c.places.invariant
    (search (rules, c.are_alike.ensures, c.part.ensures, c.part-in-places.ensures, c.if-not-are_alike.false))

pub returns : goal.returns
returns c = none_left c.args.columns.now c.args.one.now c.args.other.now c.places.place (search rules) c.places.invariant
