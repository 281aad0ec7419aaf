use Rattle.std.proofs.Common.{◌≡◌, ◌+◌, ◌<◌, ◌^◌, ◌∙◌, Some, length, get_or, drop, refl, sym, subst, arith}
use Rattle.rg_state.specs.Cells.{key_at, slot_in, AreBelow}
use Rattle.rg_state.specs.Sheets.{pairs_of}
use Rattle.rg_state.proofs.Ordered.{found_at, first_pair, no_pair, count_pairs}
use Rattle.rg_state.proofs.Sheeted.{first_left, walk_more, walk_end, ready_at}
use Rattle.rg_state.proofs.writing.fill_listed.Goals as goal

pub loop-slot-init : goal.loop-slot-init
loop-slot-init c =
    let all = pairs_of c.args.slots.now.rows.items c.args.list.now in
    record {
      pages = first_left c.args.wanted c.args.nodes c.args.slots.now.rows.items all all c.in_ok-sheets.sheets.items refl c.in_ok-sheets.ensures.pages;
      count = c.in_ok-sheets.ensures.count;
    }

pub put_slot-requires : goal.put_slot-requires
put_slot-requires c =
    let slots = c.args.slots.now in
    let rows = slots.rows.items in
    let i = c.loop-slot.slot-index in
    let slot = get_or c.args.list.now i 0 in
    let found : slot_in rows (key_at rows slot) ≡ Some slot = found_at rows c.args.list.now i slot c.requires.order.found c.loop-slot-test.true refl in
    let few : length (pairs_of rows c.args.list.now) < 2 ^ 32 = omega (arith, count_pairs rows c.args.list.now, c.requires.few) in
    ready_at c.args.wanted rows (key_at rows slot, slot) (pairs_of rows (drop i c.args.list.now)) (pairs_of rows c.args.list.now) c.loop-slot.sheets.items
    slots.bound few (subst (λ n. AreBelow n rows) (sym c.loop-slot.invariant.count) c.requires.below) found c.loop-slot.invariant.pages

pub loop-slot-preserved : goal.loop-slot-preserved
loop-slot-preserved c =
    let rows = c.args.slots.now.rows.items in
    let i = c.loop-slot.slot-index in
    let slot = get_or c.args.list.now i 0 in
    record {
      pages = λ node. walk_more c.args.wanted rows (key_at rows slot, slot) (pairs_of rows (drop i c.args.list.now)) (pairs_of rows (drop (i + 1) c.args.list.now)) c.loop-slot.sheets.items c.put_slot.new.sheets.items node _
          (first_pair rows c.args.list.now i slot (key_at rows slot) c.loop-slot-test.true refl refl) c.in_ok-put_slot.ensures (c.loop-slot.invariant.pages node);
      count = c.in_ok-put_slot.ensures.count ∙ c.loop-slot.invariant.count;
    }

pub returns : goal.returns
returns c =
    let rows = c.args.slots.now.rows.items in
    let i = c.loop-slot.slot-index in
    record {
      pairs = pairs_of rows c.args.list.now;
      order = c.requires.order;
      few = omega (arith, count_pairs rows c.args.list.now, c.requires.few);
      filled = record {
        pages = λ node. walk_end c.args.wanted rows (pairs_of rows (drop i c.args.list.now)) c.loop-slot.sheets.items node _ (no_pair rows c.args.list.now i c.loop-slot-test.false) (c.loop-slot.invariant.pages node);
        count = c.loop-slot.invariant.count;
      };
    }
