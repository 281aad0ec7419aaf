use Rattle.std.proofs.Common.{true, ◌<◌, ◌≡◌, ap, length, arith}
use Rattle.std.proofs.lemmas.Bool.Decides.{nat_tests}
use Rattle.std.specs.Prelude.{vec_capacity, Ok, Err}
use Rattle.rg_state.specs.Cells.{count_at}
use Rattle.rg_state.specs.Slots.{slot_filled, slot_key}
use Rattle.rg_state.specs.declared.table.Change.TheVariants.{Remove}
use Rattle.rg_state.proofs.Held.{held_written, held_lost}
use Rattle.rg_state.proofs.Slotted.{within_of, count_there, bound_written, bound_spared, found_in, step_written, step_lost}
use Rattle.rg_state.proofs.Unused.{free_written, free_put, room_left}
use Rattle.rg_state.proofs.Flagged.{flagged_written, quiet_written}
use Rattle.rg_state.proofs.slots.Slots.remove.Goals as goal

pub touch-requires : goal.touch-requires
touch-requires c =
    let self = c.find.new.self in
    let found = found_in self.rows.items c.args.self.now.rows.items c.args.key.now c.in-Some.slot (ap (λ rows. rows.items) c.in-Some.ensures.rows) c.in-Some.ensures.slot in
    omega (arith, within_of self.rows.items c.in-Some.slot (slot_filled self.rows.items c.args.key.now c.in-Some.slot found), self.flagged)

pub index_mut-rows-requires : goal.index_mut-rows-requires
index_mut-rows-requires c =
    let self = c.find.new.self in
    let found = found_in self.rows.items c.args.self.now.rows.items c.args.key.now c.in-Some.slot (ap (λ rows. rows.items) c.in-Some.ensures.rows) c.in-Some.ensures.slot in
    omega (arith, within_of self.rows.items c.in-Some.slot (slot_filled self.rows.items c.args.key.now c.in-Some.slot found), self.rows.ok)

pub invariant_of-self : goal.invariant_of-self
invariant_of-self c =
    let self = c.find.new.self in
    let slot = c.in-Some.slot in
    let old = c.index_mut-rows.result.now in
    let filled : 0 < count_at self.rows.items slot = slot_filled self.rows.items c.args.key.now slot (found_in self.rows.items c.args.self.now.rows.items c.args.key.now slot (ap (λ rows. rows.items) c.in-Some.ensures.rows) c.in-Some.ensures.slot) in
    let within : slot < length self.rows.items = within_of self.rows.items slot filled in
    let some : 0 < length c.take.new.self.kept.items = omega (arith, c.in-Err.ensures.step.err.count, filled, count_there self.rows.items slot old within c.index_mut-rows.ensures.value) in
    record {
      bound = bound_written self.rows.items slot old c.take.new.self within c.index_mut-rows.ensures.value self.bound c.take.ensures.key filled;
      unused = free_written _ _ self.rows.items slot c.take.new.self self.unused within filled some;
      held = held_written self.index.buckets.items self.index.overflow self.rows.items slot old c.take.new.self self.held within c.index_mut-rows.ensures.value c.take.ensures.key filled;
      flagged = flagged_written self.touched.flags.items c.touch.new.self.flags.items self.rows.items slot true c.take.new.self self.flagged c.touch.ensures;
      quiet = quiet_written self.touched.flags.items c.touch.new.self.flags.items self.rows.items slot c.take.new.self self.quiet (omega (arith, within, self.flagged)) c.touch.ensures;
    }

pub returns-in-Err : goal.returns-in-Err
returns-in-Err c =
    let self = c.find.new.self in
    let slot = c.in-Some.slot in
    let old = c.index_mut-rows.result.now in
    let found = found_in self.rows.items c.args.self.now.rows.items c.args.key.now slot (ap (λ rows. rows.items) c.in-Some.ensures.rows) c.in-Some.ensures.slot in
    let filled : 0 < count_at self.rows.items slot = slot_filled self.rows.items c.args.key.now slot found in
    let some : 0 < length c.take.new.self.kept.items = omega (arith, c.in-Err.ensures.step.err.count, filled, count_there self.rows.items slot old (within_of self.rows.items slot filled) c.index_mut-rows.ensures.value) in
    step_written self.rows.items c.args.self.now.rows.items c.args.key.now slot c.args.node old c.take.new.self (ap (λ rows. rows.items) c.in-Some.ensures.rows) self.bound found c.index_mut-rows.ensures.value c.take.ensures.key some
    c.args.func Remove c.args.value.now (Err c.in-Err.refusal) c.in-Err.ensures.step

pub invariant_of-self-then-not-is_empty : goal.invariant_of-self-then-not-is_empty
invariant_of-self-then-not-is_empty c =
    let self = c.find.new.self in
    let slot = c.in-Some.slot in
    let old = c.index_mut-rows.result.now in
    let filled : 0 < count_at self.rows.items slot = slot_filled self.rows.items c.args.key.now slot (found_in self.rows.items c.args.self.now.rows.items c.args.key.now slot (ap (λ rows. rows.items) c.in-Some.ensures.rows) c.in-Some.ensures.slot) in
    let within : slot < length self.rows.items = within_of self.rows.items slot filled in
    let some : 0 < length c.take.new.self.kept.items = grind (arith, nat_tests) in
    record {
      bound = bound_written self.rows.items slot old c.take.new.self within c.index_mut-rows.ensures.value self.bound c.take.ensures.key filled;
      unused = free_written _ _ self.rows.items slot c.take.new.self self.unused within filled some;
      held = held_written self.index.buckets.items self.index.overflow self.rows.items slot old c.take.new.self self.held within c.index_mut-rows.ensures.value c.take.ensures.key filled;
      flagged = flagged_written self.touched.flags.items c.touch.new.self.flags.items self.rows.items slot true c.take.new.self self.flagged c.touch.ensures;
      quiet = quiet_written self.touched.flags.items c.touch.new.self.flags.items self.rows.items slot c.take.new.self self.quiet (omega (arith, within, self.flagged)) c.touch.ensures;
    }

pub returns-then-not-is_empty : goal.returns-then-not-is_empty
returns-then-not-is_empty c =
    let self = c.find.new.self in
    let slot = c.in-Some.slot in
    let found = found_in self.rows.items c.args.self.now.rows.items c.args.key.now slot (ap (λ rows. rows.items) c.in-Some.ensures.rows) c.in-Some.ensures.slot in
    let some : 0 < length c.take.new.self.kept.items = grind (arith, nat_tests) in
    step_written self.rows.items c.args.self.now.rows.items c.args.key.now slot c.args.node c.index_mut-rows.result.now c.take.new.self (ap (λ rows. rows.items) c.in-Some.ensures.rows) self.bound found c.index_mut-rows.ensures.value c.take.ensures.key some
    c.args.func Remove c.args.value.now (Ok tt) c.in-Ok.ensures.step

pub push_within-requires : goal.push_within-requires
push_within-requires c =
    let self = c.find.new.self in
    let slot = c.in-Some.slot in
    let filled : 0 < count_at self.rows.items slot = slot_filled self.rows.items c.args.key.now slot (found_in self.rows.items c.args.self.now.rows.items c.args.key.now slot (ap (λ rows. rows.items) c.in-Some.ensures.rows) c.in-Some.ensures.slot) in
    room_left self.free.items (vec_capacity self.free) self.rows.items slot self.unused (within_of self.rows.items slot filled) filled

pub invariant_of-self-2 : goal.invariant_of-self-2
invariant_of-self-2 c =
    let self = c.find.new.self in
    let slot = c.in-Some.slot in
    let found = found_in self.rows.items c.args.self.now.rows.items c.args.key.now slot (ap (λ rows. rows.items) c.in-Some.ensures.rows) c.in-Some.ensures.slot in
    let filled : 0 < count_at self.rows.items slot = slot_filled self.rows.items c.args.key.now slot found in
    let within : slot < length self.rows.items = within_of self.rows.items slot filled in
    let none : length c.take.new.self.kept.items ≡ 0 = grind (arith, nat_tests) in
    record {
      bound = bound_spared self.rows.items slot c.take.new.self self.bound within none;
      unused = free_put self.free.items c.push_within.new.list.items (vec_capacity self.free) (vec_capacity c.push_within.new.list) self.rows.items slot c.take.new.self self.unused within filled none c.push_within.ensures.items c.push_within.ensures.capacity;
      held = held_lost self.index.buckets.items c.remove.new.self.buckets.items self.index.overflow c.remove.new.self.overflow self.rows.items slot c.take.new.self c.args.key.now self.held self.bound within filled (slot_key self.rows.items c.args.key.now slot found) none c.remove.ensures.others;
      flagged = flagged_written self.touched.flags.items c.touch.new.self.flags.items self.rows.items slot true c.take.new.self self.flagged c.touch.ensures;
      quiet = quiet_written self.touched.flags.items c.touch.new.self.flags.items self.rows.items slot c.take.new.self self.quiet (omega (arith, within, self.flagged)) c.touch.ensures;
    }

pub returns : goal.returns
returns c =
    let self = c.find.new.self in
    let slot = c.in-Some.slot in
    let found = found_in self.rows.items c.args.self.now.rows.items c.args.key.now slot (ap (λ rows. rows.items) c.in-Some.ensures.rows) c.in-Some.ensures.slot in
    let none : length c.take.new.self.kept.items ≡ 0 = grind (arith, nat_tests) in
    step_lost self.rows.items c.args.self.now.rows.items c.args.key.now slot c.args.node c.index_mut-rows.result.now c.take.new.self (ap (λ rows. rows.items) c.in-Some.ensures.rows) self.bound found c.index_mut-rows.ensures.value c.take.ensures.key none
    c.args.func Remove c.args.value.now c.in-Ok.ensures.step
