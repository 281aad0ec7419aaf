use Rattle.std.proofs.Common.{◌≡◌, ◌∙◌, sym, subst, refl, rules, ℕ, List, [], ◌∷◌, Some, None, arith}
use Rattle.rg_cache.specs.Cache.{item_at}
use Rattle.rg_reservoir.specs.Ahead.{closed_behind, closed_next, SomeTouched}
use Rattle.rg_reservoir.specs.Chain.{chunk_at}
use Rattle.rg_reservoir.specs.Kept.{base, view_of, IsAbsent, OneTouch, AllTouched}
use Rattle.rg_reservoir.proofs.Chains.{one_chunk}
use Rattle.rg_reservoir.proofs.Loading.{picks_all, some_none, some_by, touch_one, load_of, one_load, one_touch, none_behind, some_behind, follows_on}
use Rattle.rg_reservoir.proofs.reservoir.Reservoir.load_behind.Goals as goal

pub returns-in-None-clause-touches : goal.returns-in-None-clause-touches
returns-in-None-clause-touches g c =
    let self = c.args.self.now in
    let reads = g.H.Host.reads c.args.host.now in
    let kept = c.requires.held in
    let none : closed_next self.log.end (item_at c.args.place self.cache) ≡ None = search rules in
    record {
      touched = λ v told was. some_none (closed_behind self.log.end (chunk_at (view_of (base self)) c.args.place (v self.log.file))) self.cache self.cache self.loads self.loads refl refl;
      loaded = λ sound at.
          let empty = none_behind self.log.end (view_of (base self)) (sound.0 self.log.file) self.cache c.args.place kept.0 (sound.2.right c.requires.going).cached kept.1 none in
          subst (λ (l : List ℕ). AllTouched l self.cache self.loads reads self.cache self.loads reads) (sym empty) (refl, refl, refl);
      never_damaged = λ sound at p e. search rules;
    }

pub returns-in-Ok-true-clause-touches : goal.returns-in-Ok-true-clause-touches
returns-in-Ok-true-clause-touches g c =
    let self = c.args.self.now in
    let new = c.touch.new.self in
    let reads = g.H.Host.reads c.args.host.now in
    let reads_then = g.H.Host.reads c.touch.new.host in
    let n = c.in-Some.next in
    let kept = c.requires.held in
    let some : closed_next self.log.end (item_at c.args.place self.cache) ≡ Some n = search rules in
    let one : OneTouch n self.cache self.loads reads new.cache new.loads reads_then =
    touch_one n self.cache new.cache self.loads new.loads reads reads_then (search rules) c.touch.ensures.only.stays.cap (λ held. let k = c.touch.ensures.touched.hit held in (k.1, k.2)) (λ missed. search (rules, c.touch.ensures.touched.miss missed)) in
    record {
      touched = λ v told was.
          let is = some_behind self.log.end (view_of (base self)) (v self.log.file) self.cache c.args.place kept.0 n was kept.1 some in
          subst (λ (l : List ℕ). SomeTouched l self.cache new.cache self.loads new.loads) (sym is.0)
          (some_by (n ∷ []) (n ∷ []) self.cache new.cache self.loads new.loads (picks_all (n ∷ [])) (one_load n self.cache new.cache self.loads new.loads (load_of n self.cache new.cache self.loads new.loads reads reads_then one)));
      loaded = λ sound at.
          let is = some_behind self.log.end (view_of (base self)) (sound.0 self.log.file) self.cache c.args.place kept.0 n (sound.2.right c.requires.going).cached kept.1 some in
          subst (λ (l : List ℕ). AllTouched l self.cache self.loads reads new.cache new.loads reads_then) (sym is.0) (one_touch n self.cache new.cache self.loads new.loads reads reads_then one);
      never_damaged = λ sound at p e. search rules;
    }

pub returns-in-Ok-false-clause-touches : goal.returns-in-Ok-false-clause-touches
returns-in-Ok-false-clause-touches g c =
    let self = c.args.self.now in
    let new = c.touch.new.self in
    let n = c.in-Some.next in
    let kept = c.requires.held in
    let some : closed_next self.log.end (item_at c.args.place self.cache) ≡ Some n = search rules in
    let left : (new.cache ≡ self.cache) × (new.loads ≡ self.loads) = search rules in
    record {
      touched = λ v told was. some_none (closed_behind self.log.end (chunk_at (view_of (base self)) c.args.place (v self.log.file))) self.cache new.cache self.loads new.loads left.0 left.1;
      loaded = λ sound at.
          let right = sound.2.right c.requires.going in
          let i = at.2 in
          let is = some_behind self.log.end (view_of (base self)) (sound.0 self.log.file) self.cache c.args.place kept.0 n right.cached kept.1 some in
          let same : i.next ≡ n = sym (one_chunk _ kept.0.chunk i.chunk kept.0.next i.next (right.cached c.args.place kept.0 kept.1) i.here).1 ∙ is.1 in
          let f = follows_on sound.0 (g.H.Host.may c.args.host.now) (base self) self.open.events self.next_offset self.last_time self.cache right c.args.place at.0 at.1 i (omega (arith, same, is.2)) in
          let absent : IsAbsent (view_of (base self)) n self.log.end (sound.0 self.log.file) = c.in-Ok-false.ensures.touched.absent c.in-Ok-false.field-0-test sound.0 sound.1 in
          let here : chunk_at (view_of (base self)) n (sound.0 self.log.file) ≡ Some (f.0, f.1) = subst (λ (p : ℕ). chunk_at (view_of (base self)) p (sound.0 self.log.file) ≡ Some (f.0, f.1)) same f.2 in
          absurd (omega (arith, absent f.0 f.1 here, f.3));
      never_damaged = λ sound at p e. search rules;
    }

pub returns-in-Err-clause-touches : goal.returns-in-Err-clause-touches
returns-in-Err-clause-touches g c =
    let self = c.args.self.now in
    let new = c.touch.new.self in
    let n = c.in-Some.next in
    let kept = c.requires.held in
    let some : closed_next self.log.end (item_at c.args.place self.cache) ≡ Some n = search rules in
    let left : (new.cache ≡ self.cache) × (new.loads ≡ self.loads) = c.in-Err.ensures.touched.refused in
    record {
      touched = λ v told was. some_none (closed_behind self.log.end (chunk_at (view_of (base self)) c.args.place (v self.log.file))) self.cache new.cache self.loads new.loads left.0 left.1;
      loaded = λ sound at. search rules;
      never_damaged = λ sound at p e.
          let right = sound.2.right c.requires.going in
          let i = at.2 in
          let is = some_behind self.log.end (view_of (base self)) (sound.0 self.log.file) self.cache c.args.place kept.0 n right.cached kept.1 some in
          let same : i.next ≡ n = sym (one_chunk _ kept.0.chunk i.chunk kept.0.next i.next (right.cached c.args.place kept.0 kept.1) i.here).1 ∙ is.1 in
          let f = follows_on sound.0 (g.H.Host.may c.args.host.now) (base self) self.open.events self.next_offset self.last_time self.cache right c.args.place at.0 at.1 i (omega (arith, same, is.2)) in
          let here : chunk_at (view_of (base self)) n (sound.0 self.log.file) ≡ Some (f.0, f.1) = subst (λ (q : ℕ). chunk_at (view_of (base self)) q (sound.0 self.log.file) ≡ Some (f.0, f.1)) same f.2 in
          c.in-Err.ensures.touched.never_damaged sound.0 f.0 f.1 p sound.1 here (search rules);
    }
