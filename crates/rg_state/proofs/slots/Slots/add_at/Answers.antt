use Rattle.std.proofs.Common.{true, refl, ◌<◌, length, arith}
use Rattle.rg_state.specs.declared.table.Change.TheVariants.{Add}
use Rattle.rg_state.proofs.Held.{held_written}
use Rattle.rg_state.proofs.Slotted.{within_of, count_there, bound_written, step_written}
use Rattle.rg_state.proofs.Unused.{free_written}
use Rattle.rg_state.proofs.Flagged.{flagged_written, quiet_written}
use Rattle.rg_state.proofs.slots.Slots.add_at.Goals as goal

pub touch-requires : goal.touch-requires
touch-requires c =
    let self = c.args.self.now in
    omega (arith, within_of self.rows.items c.args.slot c.requires.used, self.flagged)

pub index_mut-rows-requires : goal.index_mut-rows-requires
index_mut-rows-requires c =
    let self = c.args.self.now in
    omega (arith, within_of self.rows.items c.args.slot c.requires.used, self.rows.ok)

pub invariant_of-self : goal.invariant_of-self
invariant_of-self c =
    let self = c.args.self.now in
    let slot = c.args.slot in
    let old = c.index_mut-rows.result.now in
    let within : slot < length self.rows.items = within_of self.rows.items slot c.requires.used in
    let some : 0 < length c.add.new.self.kept.items = omega (arith, c.add.ensures.count, c.requires.used, count_there self.rows.items slot old within c.index_mut-rows.ensures.value) in
    record {
      bound = bound_written self.rows.items slot old c.add.new.self within c.index_mut-rows.ensures.value self.bound c.add.ensures.key c.requires.used;
      unused = free_written _ _ self.rows.items slot c.add.new.self self.unused within c.requires.used some;
      held = held_written self.index.buckets.items self.index.overflow self.rows.items slot old c.add.new.self self.held within c.index_mut-rows.ensures.value c.add.ensures.key c.requires.used;
      flagged = flagged_written self.touched.flags.items c.touch.new.self.flags.items self.rows.items slot true c.add.new.self self.flagged c.touch.ensures;
      quiet = quiet_written self.touched.flags.items c.touch.new.self.flags.items self.rows.items slot c.add.new.self self.quiet (omega (arith, within, self.flagged)) c.touch.ensures;
    }

pub returns : goal.returns
returns c = λ key found.
    let self = c.args.self.now in
    let slot = c.args.slot in
    let within : slot < length self.rows.items = within_of self.rows.items slot c.requires.used in
    let some : 0 < length c.add.new.self.kept.items = omega (arith, c.add.ensures.count, c.requires.used, count_there self.rows.items slot c.index_mut-rows.result.now within c.index_mut-rows.ensures.value) in
    step_written self.rows.items self.rows.items key slot c.args.node c.index_mut-rows.result.now c.add.new.self refl self.bound found c.index_mut-rows.ensures.value c.add.ensures.key some
    c.args.func Add c.args.value.now c.add.result c.add.ensures.step
