use Rattle.std.proofs.Common.{None, Some, slice_range}
use Rattle.memchr.specs.Find.{IsFirstByte, is_byte}
use Rattle.rg_host.proofs.Ranges.{range_found, range_unfound}
use Rattle.rg_host.proofs.buffer.first_lf.Goals as goal

pub returns-in-None : goal.returns-in-None
returns-in-None c =
    let none : IsFirstByte (is_byte 10) (slice_range c.args.bytes.now c.args.from c.args.to) None = rw c.in-None.is at c.memchr.ensures in
    record { searched = range_unfound c.args.bytes.now c.args.from c.args.to c.requires.range.ordered none }

pub returns-in-Some : goal.returns-in-Some
returns-in-Some c =
    let some : IsFirstByte (is_byte 10) (slice_range c.args.bytes.now c.args.from c.args.to) (Some c.in-Some.place) = rw c.in-Some.is at c.memchr.ensures in
    record { searched = range_found c.args.bytes.now c.args.from c.args.to c.in-Some.place c.requires.range.ordered c.requires.range.within some }
