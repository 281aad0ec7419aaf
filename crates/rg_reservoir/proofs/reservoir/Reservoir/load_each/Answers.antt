use Rattle.std.proofs.Common.{◌≡◌, ◌∙◌, sym, subst, refl, rules, List, [], arith}
use Rattle.std.proofs.lemmas.List.{take_all}
use Rattle.rg_host.proofs.Laws.{leaves_all-none}
use Rattle.rg_past.specs.declared.past.Spot.{Spot}
use Rattle.rg_reservoir.specs.Ahead.{ahead_places, all_ahead, SomeTouched}
use Rattle.rg_reservoir.specs.Kept.{Base, base, view_of, opened, IsCached, IsSound, SpellsSettled, AllTouched}
use Rattle.rg_reservoir.proofs.Peeking.{spells_stay}
use Rattle.rg_reservoir.proofs.Loading.{only_then, only_sound, stays_same, some_none, some_step, some_stop, all_step}
use Rattle.rg_reservoir.proofs.reservoir.Reservoir.load_each.Goals as goal

pub spots-init : goal.spots-init
spots-init g c =
    let self = c.args.self.now in
    record {
      only = record {
        stays = stays_same self;
        cached = λ v told was. was;
        inside = λ was. was;
        leaves = leaves_all-none g.H.Host.now g.H.Host.may g.H.Host.clock g.H.Host.since g.H.Host.said c.args.host.now (g.met.H.Host.sinks c.args.host.now) (g.met.H.Host.only_now c.args.host.now);
        disk_faults_rise = omega arith;
        out_faults_stay = refl;
      };
      touched = λ v told was. some_none [] self.cache self.cache self.loads self.loads refl refl;
      loaded = λ sound all. (refl, refl, refl);
    }

pub spots-preserved : goal.spots-preserved
spots-preserved g c =
    let self = c.args.self.now in
    let mid = c.spots.self in
    let new = c.load_ahead.new.self in
    let only = c.spots.invariant.only in
    let same : base mid ≡ base self = only.stays.base in
    record {
      only = only_then self mid new c.args.host.now c.spots.host c.load_ahead.new.host only c.load_ahead.ensures.only;
      touched = λ v told was.
          let held = subst (λ (b : Base). IsCached (view_of b) (v b.file) mid.cache) (sym same) (only.cached v told was) in
          some_step self mid same v c.args.spots.now c.spots.spot-index _ c.spots-test.true self.cache mid.cache new.cache self.loads mid.loads new.loads (c.spots.invariant.touched v told was)
          (subst (λ (s : Spot). SomeTouched (ahead_places (base mid) (v mid.log.file) s) mid.cache new.cache mid.loads new.loads) c.settled.ensures (c.load_ahead.ensures.touches.touched v (only.leaves.now_stays ∙ told) held));
      loaded = λ sound all.
          let still = only_sound self mid c.args.host.now c.spots.host only sound in
          let sound-now : IsSound (g.H.Host.now c.spots.host) (g.H.Host.may c.spots.host) mid = (sound.0, still.0, still.1) in
          let spells = spells_stay (g.H.Host.now c.args.host.now) (g.H.Host.now c.spots.host) self mid _ only.leaves.now_stays only.stays (all c.spots.spot-index _ c.spots-test.true) in
          let there = subst (λ (s : Spot). SpellsSettled (g.H.Host.now c.spots.host) (base mid) (opened mid) s) (sym c.settled.ensures) spells.there in
          all_step self mid same sound.0 c.args.spots.now c.spots.spot-index _ c.spots-test.true self.cache mid.cache new.cache self.loads mid.loads new.loads (g.H.Host.reads c.args.host.now) (g.H.Host.reads c.spots.host) (g.H.Host.reads c.load_ahead.new.host) (c.spots.invariant.loaded sound all)
          (subst (λ (s : Spot). AllTouched (ahead_places (base mid) (sound.0 mid.log.file) s) mid.cache mid.loads (g.H.Host.reads c.spots.host) new.cache new.loads (g.H.Host.reads c.load_ahead.new.host)) c.settled.ensures (c.in-Ok.ensures.touches.loaded sound-now there));
    }

pub returns-in-Err-clause-only : goal.returns-in-Err-clause-only
returns-in-Err-clause-only g c =
    only_then c.args.self.now c.spots.self c.load_ahead.new.self c.args.host.now c.spots.host c.load_ahead.new.host c.spots.invariant.only c.load_ahead.ensures.only

pub returns-in-Err-clause-touches : goal.returns-in-Err-clause-touches
returns-in-Err-clause-touches g c =
    let self = c.args.self.now in
    let mid = c.spots.self in
    let new = c.load_ahead.new.self in
    let only = c.spots.invariant.only in
    let same : base mid ≡ base self = only.stays.base in
    record {
      touched = λ v told was.
          let held = subst (λ (b : Base). IsCached (view_of b) (v b.file) mid.cache) (sym same) (only.cached v told was) in
          some_stop self mid same v c.args.spots.now c.spots.spot-index _ c.spots-test.true self.cache mid.cache new.cache self.loads mid.loads new.loads (c.spots.invariant.touched v told was)
          (subst (λ (s : Spot). SomeTouched (ahead_places (base mid) (v mid.log.file) s) mid.cache new.cache mid.loads new.loads) c.settled.ensures (c.load_ahead.ensures.touches.touched v (only.leaves.now_stays ∙ told) held));
      loaded = λ sound all. search rules;
      never_damaged = λ sound all p e.
          let still = only_sound self mid c.args.host.now c.spots.host only sound in
          let sound-now : IsSound (g.H.Host.now c.spots.host) (g.H.Host.may c.spots.host) mid = (sound.0, still.0, still.1) in
          let spells = spells_stay (g.H.Host.now c.args.host.now) (g.H.Host.now c.spots.host) self mid _ only.leaves.now_stays only.stays (all c.spots.spot-index _ c.spots-test.true) in
          let there = subst (λ (s : Spot). SpellsSettled (g.H.Host.now c.spots.host) (base mid) (opened mid) s) (sym c.settled.ensures) spells.there in
          c.in-Err.ensures.touches.never_damaged sound-now there p (search rules);
    }

pub returns-clause-touches : goal.returns-clause-touches
returns-clause-touches g c =
    let self = c.args.self.now in
    let last = c.spots.self in
    let whole = take_all c.spots.spot-index c.args.spots.now c.spots-test.false in
    record {
      touched = λ v told was. subst (λ (l : List Spot). SomeTouched (all_ahead (base self) (v self.log.file) l) self.cache last.cache self.loads last.loads) whole (c.spots.invariant.touched v told was);
      loaded = λ sound all.
          subst (λ (l : List Spot). AllTouched (all_ahead (base self) (sound.0 self.log.file) l) self.cache self.loads (g.H.Host.reads c.args.host.now) last.cache last.loads (g.H.Host.reads c.spots.host)) whole (c.spots.invariant.loaded sound all);
      never_damaged = λ sound all p e. search rules;
    }
