use Rattle.std.proofs.Common.{◌∙◌, get_or, refl, sym}
use Rattle.std.specs.Prelude.{Ok, Err}
use Rattle.rg_state.specs.declared.key_rows.Kept.{Kept}
use Rattle.rg_state.specs.declared.table.Change.TheVariants.{Remove}
use Rattle.rg_state.proofs.Lent.{lent_at, lent_fair, lent_gone, lent_sound, lent_stepped}
use Rattle.rg_state.proofs.Placed.{sound_gone}
use Rattle.rg_state.proofs.RowSteps.{rows_gone, none_taken}
use Rattle.rg_state.proofs.Stepping.{fair_by}
use Rattle.rg_state.proofs.key_rows.KeyRows.take.Goals as goal

pub take-requires : goal.take-requires
take-requires c = lent_fair c.args.self.now.kept.items c.deref_mut.result.now c.in-Some.place c.deref_mut.ensures.value c.index-deref_mut-place.result c.index-deref_mut-place.is c.args.self.now.sound c.in-Some.ensures.found.0

pub returns-in-None-clause-step : goal.returns-in-None-clause-step
returns-in-None-clause-step c = none_taken c.args.func c.args.value.now c.args.self.now.kept.items c.args.node (c.in-None.ensures.none refl)

pub invariant_of-self : goal.invariant_of-self
invariant_of-self c = record { sound = lent_sound c.args.self.now.kept.items c.deref_mut.result.now c.in-Some.place c.deref_mut.ensures.value c.index-deref_mut-place.result c.index-deref_mut-place.is c.take.new.self c.args.self.now.sound c.take.ensures.step.node c.in-Err.ensures.fair }

pub returns-in-Err-clause-step : goal.returns-in-Err-clause-step
returns-in-Err-clause-step c = lent_stepped c.args.self.now.kept.items c.deref_mut.result.now c.in-Some.place c.deref_mut.ensures.value c.index-deref_mut-place.result c.index-deref_mut-place.is c.args.func Remove c.args.value.now c.args.node c.take.new.self c.args.self.now.sound c.in-Some.ensures.found (Err c.in-Err.refusal) c.in-Err.ensures.step

pub invariant_of-self-then-not-is_idle : goal.invariant_of-self-then-not-is_idle
invariant_of-self-then-not-is_idle c = record { sound = lent_sound c.args.self.now.kept.items c.deref_mut.result.now c.in-Some.place c.deref_mut.ensures.value c.index-deref_mut-place.result c.index-deref_mut-place.is c.take.new.self c.args.self.now.sound c.take.ensures.step.node (fair_by c.take.new.self (sym c.is_idle.ensures ∙ c.if-not-is_idle.true) c.take.ensures.marked) }

pub returns-then-not-is_idle-clause-step : goal.returns-then-not-is_idle-clause-step
returns-then-not-is_idle-clause-step c = lent_stepped c.args.self.now.kept.items c.deref_mut.result.now c.in-Some.place c.deref_mut.ensures.value c.index-deref_mut-place.result c.index-deref_mut-place.is c.args.func Remove c.args.value.now c.args.node c.take.new.self c.args.self.now.sound c.in-Some.ensures.found (Ok tt) c.in-Ok.ensures.step

pub invariant_of-self-2 : goal.invariant_of-self-2
invariant_of-self-2 c =
    let ks = c.args.self.now.kept.items in
    let place = c.in-Some.place in
    let lent = c.deref_mut.result.now in
    let same = c.deref_mut.ensures.value in
    let one : Kept = c.index-deref_mut-place.result in
    let old : Kept = get_or lent place one in
    let is = lent_at ks lent place same one c.index-deref_mut-place.is in
    let left = lent_gone ks lent place same c.swap_remove.new.self.items c.take.new.self c.swap_remove.result c.swap_remove.ensures.items in
    record { sound = sound_gone ks c.swap_remove.new.self.items place c.swap_remove.result old c.args.self.now.sound c.in-Some.ensures.found.0 is left }

pub returns-clause-step : goal.returns-clause-step
returns-clause-step c =
    let ks = c.args.self.now.kept.items in
    let place = c.in-Some.place in
    let lent = c.deref_mut.result.now in
    let same = c.deref_mut.ensures.value in
    let one : Kept = c.index-deref_mut-place.result in
    let old : Kept = get_or lent place one in
    let is = lent_at ks lent place same one c.index-deref_mut-place.is in
    let left = lent_gone ks lent place same c.swap_remove.new.self.items c.take.new.self c.swap_remove.result c.swap_remove.ensures.items in
    rows_gone c.args.func Remove c.args.value.now ks place c.args.node old c.take.new.self c.args.self.now.sound c.in-Some.ensures.found is c.swap_remove.new.self.items c.swap_remove.result left (sym c.is_idle.ensures ∙ c.if-not-is_idle.false) c.in-Ok.ensures.step
