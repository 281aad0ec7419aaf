use Rattle.std.proofs.Common.{true, ◌<◌, ap, sym, ◌∙◌, List, length, arith}
use Rattle.rg_state.specs.Cells.{count_at, seen_in}
use Rattle.rg_state.specs.Slots.{slot_filled}
use Rattle.rg_state.specs.Kepts.{Seen}
use Rattle.rg_state.specs.declared.key_rows.KeyRows.{KeyRows}
use Rattle.rg_state.specs.States.{held_of}
use Rattle.rg_state.proofs.Held.{held_written}
use Rattle.rg_state.proofs.Slotted.{within_of, count_there, bound_written, found_in, got_written, cell_read}
use Rattle.rg_state.proofs.Unused.{free_written}
use Rattle.rg_state.proofs.Flagged.{flagged_written, quiet_written}
use Rattle.rg_state.proofs.slots.Slots.insert.Goals as goal

pub touch-requires : goal.touch-requires
touch-requires c =
    let self = c.find.new.self in
    let found = found_in self.rows.items c.args.self.now.rows.items c.args.key c.in-Some.slot (ap (λ rows. rows.items) c.in-Some.ensures.rows) c.in-Some.ensures.slot in
    omega (arith, within_of self.rows.items c.in-Some.slot (slot_filled self.rows.items c.args.key c.in-Some.slot found), self.flagged)

pub index_mut-rows-requires : goal.index_mut-rows-requires
index_mut-rows-requires c =
    let self = c.find.new.self in
    let found = found_in self.rows.items c.args.self.now.rows.items c.args.key c.in-Some.slot (ap (λ rows. rows.items) c.in-Some.ensures.rows) c.in-Some.ensures.slot in
    omega (arith, within_of self.rows.items c.in-Some.slot (slot_filled self.rows.items c.args.key c.in-Some.slot found), self.rows.ok)

pub insert-requires-clause-free : goal.insert-requires-clause-free
insert-requires-clause-free c =
    let self = c.find.new.self in
    let slot = c.in-Some.slot in
    let found = found_in self.rows.items c.args.self.now.rows.items c.args.key slot (ap (λ rows. rows.items) c.in-Some.ensures.rows) c.in-Some.ensures.slot in
    let within = within_of self.rows.items slot (slot_filled self.rows.items c.args.key slot found) in
    ap (λ (row : Seen). row.held) (sym (cell_read self.rows.items c.args.key slot c.args.node c.index_mut-rows.result.now found within c.index_mut-rows.ensures.value)
    ∙ ap (λ (rows : List KeyRows). seen_in rows c.args.node c.args.key) (ap (λ rows. rows.items) c.in-Some.ensures.rows)) ∙ c.requires.free

pub invariant_of-self : goal.invariant_of-self
invariant_of-self c =
    let self = c.find.new.self in
    let slot = c.in-Some.slot in
    let old = c.index_mut-rows.result.now in
    let filled : 0 < count_at self.rows.items slot = slot_filled self.rows.items c.args.key slot (found_in self.rows.items c.args.self.now.rows.items c.args.key slot (ap (λ rows. rows.items) c.in-Some.ensures.rows) c.in-Some.ensures.slot) in
    let within : slot < length self.rows.items = within_of self.rows.items slot filled in
    let some : 0 < length c.insert.new.self.kept.items = omega (arith, c.insert.ensures.count, filled, count_there self.rows.items slot old within c.index_mut-rows.ensures.value) in
    record {
      bound = bound_written self.rows.items slot old c.insert.new.self within c.index_mut-rows.ensures.value self.bound c.insert.ensures.key filled;
      unused = free_written _ _ self.rows.items slot c.insert.new.self self.unused within filled some;
      held = held_written self.index.buckets.items self.index.overflow self.rows.items slot old c.insert.new.self self.held within c.index_mut-rows.ensures.value c.insert.ensures.key filled;
      flagged = flagged_written self.touched.flags.items c.touch.new.self.flags.items self.rows.items slot true c.insert.new.self self.flagged c.touch.ensures;
      quiet = quiet_written self.touched.flags.items c.touch.new.self.flags.items self.rows.items slot c.insert.new.self self.quiet (omega (arith, within, self.flagged)) c.touch.ensures;
    }

pub returns-in-Some : goal.returns-in-Some
returns-in-Some c =
    let self = c.find.new.self in
    let slot = c.in-Some.slot in
    let old = c.index_mut-rows.result.now in
    let found = found_in self.rows.items c.args.self.now.rows.items c.args.key slot (ap (λ rows. rows.items) c.in-Some.ensures.rows) c.in-Some.ensures.slot in
    let filled : 0 < count_at self.rows.items slot = slot_filled self.rows.items c.args.key slot found in
    let some : 0 < length c.insert.new.self.kept.items = omega (arith, c.insert.ensures.count, filled, count_there self.rows.items slot old (within_of self.rows.items slot filled) c.index_mut-rows.ensures.value) in
    got_written self.rows.items c.args.self.now.rows.items c.args.key slot c.args.node old c.insert.new.self (ap (λ rows. rows.items) c.in-Some.ensures.rows) self.bound found c.index_mut-rows.ensures.value c.insert.ensures.key some
    (held_of c.args.state) c.insert.result c.insert.ensures.got
