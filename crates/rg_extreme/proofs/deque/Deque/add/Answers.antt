use Rattle.std.proofs.Common.{refl, sym}
use Rattle.rg_agg.specs.Numbers.{value_of}
use Rattle.rg_agg.specs.Stands.{IsNumber}
use Rattle.rg_event.specs.Tagged.{value_kind}
use Rattle.rg_extreme.specs.States.{as_pairs, pairs_in}
use Rattle.rg_multiset.proofs.Laws.{alike_with, pairs_length}
use Rattle.rg_extreme.proofs.Additions.{added_deque, added_pairs, added_ticks}
use Rattle.rg_extreme.proofs.deque.Deque.add.Goals as goal

pub returns : goal.returns
returns g c =
    let self = c.args.self.now in
    let old = pairs_in self in
    let gone = c.drop_beaten-gone.ensures in
    let middle = as_pairs c.drop_beaten-gone.new.pairs.items in
    let number = value_of c.in-Some.number in
    let pairs = added_pairs c.args.side old middle _ number c.args.value.now c.in-Some.ensures.same gone.tally gone.stays gone.same c.in_ok-join.ensures.ok in
    let are = gone.kept (value_kind c.args.value.now) (alike_with IsNumber c.args.value.now old c.requires.sound.tally.alike c.requires.like) in
    record {
      sound = added_deque c.args.side self.size self.kept c.drop_beaten-gone.result old middle _ number c.args.value.now c.requires.takes c.requires.like c.requires.room c.requires.sound pairs c.in_ok-join.ensures.ok gone.sum;
      pairs = pairs;
      size = refl;
      ticks = added_ticks _ _ _ _ old middle _ number (value_kind c.args.value.now) are c.in_ok-join.ensures.ok (sym (pairs_length value_of c.drop_beaten-gone.new.pairs.items)) (sym (pairs_length value_of self.pairs.items)) gone.ticks;
      err = tt;
      err_size = tt;
      no_tick = tt;
    }
