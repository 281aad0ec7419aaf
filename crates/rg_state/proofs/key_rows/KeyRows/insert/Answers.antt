use Rattle.std.proofs.Common.{◌≡◌, ◌==◌, true, refl, ap, sym, ◌∙◌, arith, get_or}
use Rattle.std.proofs.lemmas.Result.{on_ok_weaker}
use Rattle.rg_state.proofs.RowSteps.{grown, put_marks}
use Rattle.rg_agg.specs.Standing.{size_in}
use Rattle.rg_state.specs.Kepts.{Seen, seen, seen_at}
use Rattle.rg_state.specs.States.{held_of}
use Rattle.rg_state.specs.declared.key_rows.Kept.{Kept}
use Rattle.rg_state.proofs.Lent.{lent_at, lent_count, lent_fair, lent_set, lent_sound}
use Rattle.rg_state.proofs.Placed.{read_at, written_at, others_at, fair_at, none_seen}
use Rattle.rg_state.proofs.Stepping.{fair_some, fair_marked, named_gone, none_shown, shown_some, marked_put}
use Rattle.rg_state.proofs.key_rows.KeyRows.insert.Goals as goal

pub invariant_of-self : goal.invariant_of-self
invariant_of-self c =
    let old : Kept = get_or c.deref_mut.result.now c.in-Some.place c.index-deref_mut-place.result in
    let new : Kept = record { node = old.node; named = old.named; there = old.there; state = c.args.state } in
    record { sound = lent_sound c.args.self.now.kept.items c.deref_mut.result.now c.in-Some.place c.deref_mut.ensures.value c.index-deref_mut-place.result c.index-deref_mut-place.is new c.args.self.now.sound refl (fair_some new c.requires.some (fair_marked old (lent_fair c.args.self.now.kept.items c.deref_mut.result.now c.in-Some.place c.deref_mut.ensures.value c.index-deref_mut-place.result c.index-deref_mut-place.is c.args.self.now.sound c.in-Some.ensures.found.0))) }

pub returns-in-Some-clause-count : goal.returns-in-Some-clause-count
returns-in-Some-clause-count c =
    let old : Kept = get_or c.deref_mut.result.now c.in-Some.place c.index-deref_mut-place.result in
    omega (arith, lent_count c.args.self.now.kept.items c.deref_mut.result.now c.in-Some.place c.deref_mut.ensures.value (record { node = old.node; named = old.named; there = old.there; state = c.args.state }))

pub returns-in-Some-clause-got : goal.returns-in-Some-clause-got
returns-in-Some-clause-got c =
    let ks = c.args.self.now.kept.items in
    let place = c.in-Some.place in
    let lent = c.deref_mut.result.now in
    let same = c.deref_mut.ensures.value in
    let old : Kept = get_or lent place c.index-deref_mut-place.result in
    let is = lent_at ks lent place same c.index-deref_mut-place.result c.index-deref_mut-place.is in
    let new : Kept = record { node = old.node; named = old.named; there = old.there; state = c.args.state } in
    let sound = c.args.self.now.sound in
    let placed = c.in-Some.ensures.found in
    let read = read_at ks place c.args.node old sound placed is in
    let written = written_at ks place c.args.node old new sound placed is refl in
    let gone : (size_in (held_of old.state) == 0) ≡ true = none_shown (held_of old.state) (sym (ap (λ (s : Seen). s.held) read) ∙ c.requires.free) in
    rw (lent_set ks lent place same new) (record {
      row = ap (λ (s : Seen). s.held) written ∙ shown_some (held_of c.args.state) c.requires.some;
      marks = rw (read, written) (marked_put (seen old) (seen new) (named_gone old (fair_at ks place old sound placed.0 is) gone) refl refl);
      others = others_at ks place c.args.node old new placed is refl;
      err = tt;
    })

pub returns-clause-got : goal.returns-clause-got
returns-clause-got c = record {
  row = on_ok_weaker c.push.result (λ is. ap (λ (s : Seen). s.held) is) c.push.ensures.row;
  marks = put_marks c.push.result (seen_at c.args.self.now.kept.items c.args.node) (seen_at c.push.new.self.kept.items c.args.node) (held_of c.args.state) (none_seen c.args.self.now.kept.items c.args.node (c.in-None.ensures.none refl)) c.push.ensures.row;
  others = c.push.ensures.others;
  err = c.push.ensures.err;
}

pub returns-clause-count : goal.returns-clause-count
returns-clause-count c = grown c.push.result c.args.self.now.kept.items c.push.new.self.kept.items c.push.ensures.count c.push.ensures.err
