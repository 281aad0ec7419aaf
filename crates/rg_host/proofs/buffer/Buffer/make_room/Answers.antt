use Rattle.std.proofs.Common.{◌≡◌, ◌-◌, arith, rules, slice_range}
use Rattle.std.proofs.lemmas.Grind.{common_steps}
use Rattle.rg_host.proofs.Filling.{searched_moved}
use Rattle.rg_host.proofs.buffer.Buffer.make_room.Goals as goal

pub invariant_of-self : goal.invariant_of-self
invariant_of-self c =
    let b = c.self.inside in
    let was = c.self.invariant in
    let moved : slice_range c.copy_within.new.self.items 0 (b.end - b.start) ≡ slice_range b.bytes.items b.start b.end = grind (arith, common_steps, c.copy_within.ensures.items) in
    record {
      size = search rules;
      line_ordered = omega arith;
      line_within = omega arith;
      within = omega (arith, was.within);
      search = searched_moved b.bytes.items c.copy_within.new.self.items b.start b.searched b.end b.has_lf moved was.search;
    }
