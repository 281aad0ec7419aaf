use Rattle.std.proofs.Common.{◌≡◌, ◌<◌, ◌==◌, false, sym, ◌∙◌, subst, arith, get_or}
use Rattle.std.proofs.lemmas.List.{length-set}
use Rattle.rg_agg.specs.Standing.{size_in}
use Rattle.rg_state.specs.States.{held_of}
use Rattle.rg_state.specs.declared.key_rows.Kept.{Kept}
use Rattle.rg_state.proofs.Marking.{clean_set, clean_dropped, rows_forgotten, rows_dropped}
use Rattle.rg_state.proofs.Lent.{lent_at, lent_count, lent_gone, lent_set}
use Rattle.rg_state.proofs.Placed.{sound_set, sound_gone}
use Rattle.rg_state.proofs.Stepping.{fair_some, marked_clear, some_of}
use Rattle.rg_state.proofs.key_rows.settle_at.Goals as goal

pub returns-then-not-is_empty : goal.returns-then-not-is_empty
returns-then-not-is_empty c =
    let ks = c.args.kept.now.items in
    let place = c.args.place in
    let lent = c.deref_mut.result.now in
    let same = c.deref_mut.ensures.value in
    let old : Kept = get_or lent place c.index-deref_mut-place.result in
    let is = lent_at ks lent place same c.index-deref_mut-place.result c.index-deref_mut-place.is in
    let new : Kept = c.forget.new.self in
    let full : (size_in (held_of old.state) == 0) ≡ false = sym c.is_empty.ensures ∙ c.if-not-is_empty.true in
    let some : 0 < size_in (held_of new.state) = subst (λ st. 0 < size_in (held_of st)) (sym c.forget.ensures.state) (some_of (size_in (held_of old.state)) full) in
    rw (lent_set ks lent place same new) (record {
      sound = sound_set ks place old new c.requires.sound is c.forget.ensures.node (fair_some new some (marked_clear new c.forget.ensures.there));
      rows = λ node. rows_forgotten ks place old new node c.requires.sound c.requires.within is c.forget.ensures.node c.forget.ensures.state;
      clean = λ all. clean_set ks place new c.requires.within (record { named = c.forget.ensures.named; there = c.forget.ensures.there }) all;
      left = omega (arith, length-set ks place new);
      within = omega (arith, length-set ks place new, c.requires.within);
    })

pub returns : goal.returns
returns c =
    let ks = c.args.kept.now.items in
    let place = c.args.place in
    let lent = c.deref_mut.result.now in
    let same = c.deref_mut.ensures.value in
    let old : Kept = get_or lent place c.index-deref_mut-place.result in
    let is = lent_at ks lent place same c.index-deref_mut-place.result c.index-deref_mut-place.is in
    let d : Kept = c.swap_remove.result in
    let left = lent_gone ks lent place same c.swap_remove.new.self.items old d c.swap_remove.ensures.items in
    let fewer = c.swap_remove.ensures.len in
    let count = lent_count ks lent place same old in
    record {
      sound = sound_gone ks c.swap_remove.new.self.items place d old c.requires.sound c.requires.within is left;
      rows = λ node. rows_dropped ks c.swap_remove.new.self.items place d old node c.requires.sound c.requires.within is (sym c.is_empty.ensures ∙ c.if-not-is_empty.false) left;
      clean = clean_dropped ks c.swap_remove.new.self.items place d c.requires.within left;
      left = omega (arith, count, fewer);
      within = omega (arith, count, fewer, c.requires.within);
    }
