use Rattle.std.proofs.Common.{◌≡◌, ◌∙◌, ◌≤◌, ◌<◌, ◌++◌, ap, sym, subst, refl, rules, ℕ, List, [], ◌∷◌, Some, None, arith}
use Rattle.std.proofs.lemmas.Result.{on_ok_weaker}
use Rattle.rg_cache.specs.Cache.{item_at}
use Rattle.rg_reservoir.specs.declared.kept.Kept.{Kept}
use Rattle.rg_reservoir.specs.Ahead.{ahead_places, closed_behind, SomeTouched, OnlyLoads}
use Rattle.rg_reservoir.specs.Chain.{chunk_at}
use Rattle.rg_reservoir.specs.Kept.{Base, base, view_of, IsCached, IsAbsent, IsSound, InChunk, next_in, OneTouch, AllTouched}
use Rattle.rg_reservoir.proofs.Seeking.{near, turn, before_end, cached_same, absent_same}
use Rattle.rg_reservoir.proofs.Loading.{only_then, only_sound, picks_all, picks_front, some_none, some_by, some_then, touch_one, load_of, one_load, one_touch, loaded_then, touched_then, ahead_far, ahead_one, ahead_two}
use Rattle.rg_reservoir.proofs.reservoir.Reservoir.load_ahead.Goals as goal

-- What each way ends as.

pub returns-in-None-clause-only : goal.returns-in-None-clause-only
returns-in-None-clause-only g c =
    let first : OnlyLoads g.H.Host.now g.H.Host.may g.H.Host.clock g.H.Host.since g.H.Host.said g.H.Host.disk_faults g.H.Host.out_faults c.args.self.now c.touch.new.self c.args.host.now c.touch.new.host = search rules in
    only_then c.args.self.now c.touch.new.self c.load_behind.new.self c.args.host.now c.touch.new.host c.load_behind.new.host first c.load_behind.ensures.only

pub returns-in-Ok-false-touch-clause-only : goal.returns-in-Ok-false-touch-clause-only
returns-in-Ok-false-touch-clause-only g c =
    let first : OnlyLoads g.H.Host.now g.H.Host.may g.H.Host.clock g.H.Host.since g.H.Host.said g.H.Host.disk_faults g.H.Host.out_faults c.args.self.now c.touch.new.self c.args.host.now c.touch.new.host = search rules in
    let second : OnlyLoads g.H.Host.now g.H.Host.may g.H.Host.clock g.H.Host.since g.H.Host.said g.H.Host.disk_faults g.H.Host.out_faults c.touch.new.self c.touch-2.new.self c.touch.new.host c.touch-2.new.host = search rules in
    only_then c.args.self.now c.touch.new.self c.touch-2.new.self c.args.host.now c.touch.new.host c.touch-2.new.host first second

pub returns-in-Err-touch-clause-only : goal.returns-in-Err-touch-clause-only
returns-in-Err-touch-clause-only g c =
    let first : OnlyLoads g.H.Host.now g.H.Host.may g.H.Host.clock g.H.Host.since g.H.Host.said g.H.Host.disk_faults g.H.Host.out_faults c.args.self.now c.touch.new.self c.args.host.now c.touch.new.host = search rules in
    let second : OnlyLoads g.H.Host.now g.H.Host.may g.H.Host.clock g.H.Host.since g.H.Host.said g.H.Host.disk_faults g.H.Host.out_faults c.touch.new.self c.touch-2.new.self c.touch.new.host c.touch-2.new.host = search rules in
    only_then c.args.self.now c.touch.new.self c.touch-2.new.self c.args.host.now c.touch.new.host c.touch-2.new.host first second

pub returns-clause-only : goal.returns-clause-only
returns-clause-only g c =
    let first : OnlyLoads g.H.Host.now g.H.Host.may g.H.Host.clock g.H.Host.since g.H.Host.said g.H.Host.disk_faults g.H.Host.out_faults c.args.self.now c.touch.new.self c.args.host.now c.touch.new.host = search rules in
    let second : OnlyLoads g.H.Host.now g.H.Host.may g.H.Host.clock g.H.Host.since g.H.Host.said g.H.Host.disk_faults g.H.Host.out_faults c.touch.new.self c.touch-2.new.self c.touch.new.host c.touch-2.new.host = search rules in
    only_then c.args.self.now c.touch-2.new.self c.load_behind-2.new.self c.args.host.now c.touch-2.new.host c.load_behind-2.new.host
    (only_then c.args.self.now c.touch.new.self c.touch-2.new.self c.args.host.now c.touch.new.host c.touch-2.new.host first second) c.load_behind-2.ensures.only

-- A spot of the open chunk asks for nothing.
pub returns-then-spot-self-clause-touches : goal.returns-then-spot-self-clause-touches
returns-then-spot-self-clause-touches g c =
    let self = c.args.self.now in
    let spot = c.args.spot in
    let reads = g.H.Host.reads c.args.host.now in
    let far : self.committed ≤ spot.number = omega (arith, c.if-spot-self.true) in
    record {
      touched = λ v told was. some_none (ahead_places (base self) (v self.log.file) spot) self.cache self.cache self.loads self.loads refl refl;
      loaded = λ sound spells. subst (λ (l : List ℕ). AllTouched l self.cache self.loads reads self.cache self.loads reads) (sym (ahead_far (base self) (sound.0 self.log.file) spot far)) (refl, refl, refl);
      never_damaged = λ sound spells p e. search rules;
    }

-- At the first place: nothing stands there, or it can't be read.
pub returns-in-Ok-false-clause-touches : goal.returns-in-Ok-false-clause-touches
returns-in-Ok-false-clause-touches g c =
    let self = c.args.self.now in
    let spot = c.args.spot in
    let lt : spot.number < self.committed = omega (arith, c.if-spot-self.false) in
    let left : (c.touch.new.self.cache ≡ self.cache) × (c.touch.new.self.loads ≡ self.loads) = search rules in
    record {
      touched = λ v told was. some_none (ahead_places (base self) (v self.log.file) spot) self.cache c.touch.new.self.cache self.loads c.touch.new.self.loads left.0 left.1;
      loaded = λ sound spells.
          let v = sound.0 in
          let told : g.H.Host.now c.args.host.now ≡ Some v = sound.1 in
          let right = sound.2.right c.requires.going in
          let i = near (g.H.Host.now c.args.host.now) v (base self) self.open.events spot told spells lt in
          let absent : IsAbsent (view_of (base self)) spot.place self.log.end (v self.log.file) = c.in-Ok-false.ensures.touched.absent c.in-Ok-false.field-0-test v told in
          absurd (omega (arith, absent i.chunk i.next i.here, before_end v (g.H.Host.may c.args.host.now) (base self) self.open.events self.next_offset self.last_time self.cache right spot.place spot.index spot.number i));
      never_damaged = λ sound spells p e. search rules;
    }

pub returns-in-Err-clause-touches : goal.returns-in-Err-clause-touches
returns-in-Err-clause-touches g c =
    let self = c.args.self.now in
    let spot = c.args.spot in
    let lt : spot.number < self.committed = omega (arith, c.if-spot-self.false) in
    let left : (c.touch.new.self.cache ≡ self.cache) × (c.touch.new.self.loads ≡ self.loads) = c.in-Err.ensures.touched.refused in
    record {
      touched = λ v told was. some_none (ahead_places (base self) (v self.log.file) spot) self.cache c.touch.new.self.cache self.loads c.touch.new.self.loads left.0 left.1;
      loaded = λ sound spells. search rules;
      never_damaged = λ sound spells p e.
          let i = near (g.H.Host.now c.args.host.now) sound.0 (base self) self.open.events spot sound.1 spells lt in
          c.in-Err.ensures.touched.never_damaged sound.0 i.chunk i.next p sound.1 i.here (search rules);
    }

-- The event's chunk stands at the spot's place, and then the one behind it is touched.
pub returns-in-None-clause-touches : goal.returns-in-None-clause-touches
returns-in-None-clause-touches g c =
    let self = c.args.self.now in
    let spot = c.args.spot in
    let mid = c.touch.new.self in
    let new = c.load_behind.new.self in
    let reads = g.H.Host.reads c.args.host.now in
    let reads_mid = g.H.Host.reads c.touch.new.host in
    let reads_then = g.H.Host.reads c.load_behind.new.host in
    let lt : spot.number < self.committed = omega (arith, c.if-spot-self.false) in
    let h : (kept : Kept) × (item_at spot.place mid.cache ≡ Some kept) = search rules in
    let none : next_in (item_at spot.place mid.cache) spot.index ≡ None = search rules in
    let only : OnlyLoads g.H.Host.now g.H.Host.may g.H.Host.clock g.H.Host.since g.H.Host.said g.H.Host.disk_faults g.H.Host.out_faults self mid c.args.host.now c.touch.new.host = search rules in
    let one : OneTouch spot.place self.cache self.loads reads mid.cache mid.loads reads_mid =
    touch_one spot.place self.cache mid.cache self.loads mid.loads reads reads_mid (search rules) c.touch.ensures.only.stays.cap (λ held. let k = c.touch.ensures.touched.hit held in (k.1, k.2)) (λ missed. search (rules, c.touch.ensures.touched.miss missed)) in
    record {
      touched = λ v told was.
          let cached : IsCached (view_of (base self)) (v self.log.file) mid.cache = c.touch.ensures.only.cached v told was in
          let cached-1 = cached_same _ _ _ _ v mid.cache (sym (ap (λ (b : Base). view_of b) only.stays.base)) (sym (ap (λ (b : Base). b.file) only.stays.base)) cached in
          let behind = c.load_behind.ensures.touches.touched v (only.leaves.now_stays ∙ told) cached-1 in
          let more = subst (λ (b : Base). SomeTouched (closed_behind b.end (chunk_at (view_of b) spot.place (v b.file))) mid.cache new.cache mid.loads new.loads) only.stays.base behind in
          subst (λ (l : List ℕ). SomeTouched l self.cache new.cache self.loads new.loads) (sym (ahead_one (base self) (v self.log.file) spot mid.cache h.0 lt cached h.1 none))
          (some_then (spot.place ∷ []) (closed_behind self.log.end (chunk_at (view_of (base self)) spot.place (v self.log.file))) self.cache mid.cache new.cache self.loads mid.loads new.loads
          (some_by (spot.place ∷ []) (spot.place ∷ []) self.cache mid.cache self.loads mid.loads (picks_all (spot.place ∷ [])) (one_load spot.place self.cache mid.cache self.loads mid.loads (load_of spot.place self.cache mid.cache self.loads mid.loads reads reads_mid one))) more);
      loaded = λ sound spells.
          let v = sound.0 in
          let told : g.H.Host.now c.args.host.now ≡ Some v = sound.1 in
          let cached : IsCached (view_of (base self)) (v self.log.file) mid.cache = c.touch.ensures.only.cached v told (sound.2.right c.requires.going).cached in
          let still = only_sound self mid c.args.host.now c.touch.new.host only sound in
          let sound-1 : IsSound (g.H.Host.now c.touch.new.host) (g.H.Host.may c.touch.new.host) mid = (v, still.0, still.1) in
          let i = near (g.H.Host.now c.args.host.now) v (base self) self.open.events spot told spells lt in
          let i-1 = subst (λ (b : Base). InChunk b (v b.file) spot.place spot.index spot.number) (sym only.stays.base) i in
          on_ok_weaker c.load_behind.result (λ behind.
          let more = subst (λ (b : Base). AllTouched (closed_behind b.end (chunk_at (view_of b) spot.place (v b.file))) mid.cache mid.loads reads_mid new.cache new.loads reads_then) only.stays.base behind in
          subst (λ (l : List ℕ). AllTouched l self.cache self.loads reads new.cache new.loads reads_then) (sym (ahead_one (base self) (v self.log.file) spot mid.cache h.0 lt cached h.1 none))
          (touched_then (spot.place ∷ []) (closed_behind self.log.end (chunk_at (view_of (base self)) spot.place (v self.log.file))) self.cache mid.cache new.cache self.loads mid.loads new.loads reads reads_mid reads_then
          (one_touch spot.place self.cache mid.cache self.loads mid.loads reads reads_mid one) more))
          (c.load_behind.ensures.touches.loaded sound-1 (spot.index, spot.number, i-1));
      never_damaged = λ sound spells p e.
          let still = only_sound self mid c.args.host.now c.touch.new.host only sound in
          let sound-1 : IsSound (g.H.Host.now c.touch.new.host) (g.H.Host.may c.touch.new.host) mid = (sound.0, still.0, still.1) in
          let i = near (g.H.Host.now c.args.host.now) sound.0 (base self) self.open.events spot sound.1 spells lt in
          let i-1 = subst (λ (b : Base). InChunk b (sound.0 b.file) spot.place spot.index spot.number) (sym only.stays.base) i in
          c.load_behind.ensures.touches.never_damaged sound-1 (spot.index, spot.number, i-1) p e;
    }

-- The spot is behind the last event of the chunk there: at the next place nothing stands, or it can't be read.
pub returns-in-Ok-false-touch-clause-touches : goal.returns-in-Ok-false-touch-clause-touches
returns-in-Ok-false-touch-clause-touches g c =
    let self = c.args.self.now in
    let spot = c.args.spot in
    let mid = c.touch.new.self in
    let new = c.touch-2.new.self in
    let n = c.in-Some.next in
    let reads = g.H.Host.reads c.args.host.now in
    let reads_mid = g.H.Host.reads c.touch.new.host in
    let lt : spot.number < self.committed = omega (arith, c.if-spot-self.false) in
    let turns : next_in (item_at spot.place mid.cache) spot.index ≡ Some n = search rules in
    let left : (new.cache ≡ mid.cache) × (new.loads ≡ mid.loads) = search rules in
    let one : OneTouch spot.place self.cache self.loads reads mid.cache mid.loads reads_mid =
    touch_one spot.place self.cache mid.cache self.loads mid.loads reads reads_mid (search rules) c.touch.ensures.only.stays.cap (λ held. let k = c.touch.ensures.touched.hit held in (k.1, k.2)) (λ missed. search (rules, c.touch.ensures.touched.miss missed)) in
    record {
      touched = λ v told was.
          let cached : IsCached (view_of (base self)) (v self.log.file) mid.cache = c.touch.ensures.only.cached v told was in
          let first = one_load spot.place self.cache mid.cache self.loads mid.loads (load_of spot.place self.cache mid.cache self.loads mid.loads reads reads_mid one) in
          let both = loaded_then (spot.place ∷ []) [] self.cache mid.cache new.cache self.loads mid.loads new.loads first left in
          subst (λ (l : List ℕ). SomeTouched l self.cache new.cache self.loads new.loads) (sym (ahead_two (base self) (v self.log.file) spot mid.cache n lt cached turns))
          (some_by ((spot.place ∷ (n ∷ [])) ++ closed_behind self.log.end (chunk_at (view_of (base self)) n (v self.log.file))) (spot.place ∷ []) self.cache new.cache self.loads new.loads (picks_front (spot.place ∷ []) (n ∷ closed_behind self.log.end (chunk_at (view_of (base self)) n (v self.log.file)))) both);
      loaded = λ sound spells.
          let v = sound.0 in
          let told : g.H.Host.now c.args.host.now ≡ Some v = sound.1 in
          let right = sound.2.right c.requires.going in
          let cached : IsCached (view_of (base self)) (v self.log.file) mid.cache = c.touch.ensures.only.cached v told right.cached in
          let eqF = ap (λ (b : Base). view_of b) c.touch.ensures.only.stays.base in
          let eqf = ap (λ (b : Base). b.file) c.touch.ensures.only.stays.base in
          let eqe = ap (λ (b : Base). b.end) c.touch.ensures.only.stays.base in
          let f = turn (g.H.Host.now c.args.host.now) v (g.H.Host.may c.args.host.now) (base self) self.open.events self.next_offset self.last_time self.cache mid.cache spot n told right spells lt cached turns in
          let absent : IsAbsent (view_of (base mid)) n mid.log.end (v mid.log.file) = c.in-Ok-false-touch.ensures.touched.absent c.in-Ok-false-touch.field-0-test v (c.touch.ensures.only.leaves.now_stays ∙ told) in
          let far : self.log.end < f.chunk.next = absent_same _ _ _ _ _ _ v n eqF eqf eqe absent f.chunk.chunk f.chunk.next f.chunk.here in
          absurd (omega (arith, far, before_end v (g.H.Host.may c.args.host.now) (base self) self.open.events self.next_offset self.last_time self.cache right n 0 spot.number f.chunk));
      never_damaged = λ sound spells p e. search rules;
    }

pub returns-in-Err-touch-clause-touches : goal.returns-in-Err-touch-clause-touches
returns-in-Err-touch-clause-touches g c =
    let self = c.args.self.now in
    let spot = c.args.spot in
    let mid = c.touch.new.self in
    let new = c.touch-2.new.self in
    let n = c.in-Some.next in
    let reads = g.H.Host.reads c.args.host.now in
    let reads_mid = g.H.Host.reads c.touch.new.host in
    let lt : spot.number < self.committed = omega (arith, c.if-spot-self.false) in
    let turns : next_in (item_at spot.place mid.cache) spot.index ≡ Some n = search rules in
    let left : (new.cache ≡ mid.cache) × (new.loads ≡ mid.loads) = c.in-Err-touch.ensures.touched.refused in
    let one : OneTouch spot.place self.cache self.loads reads mid.cache mid.loads reads_mid =
    touch_one spot.place self.cache mid.cache self.loads mid.loads reads reads_mid (search rules) c.touch.ensures.only.stays.cap (λ held. let k = c.touch.ensures.touched.hit held in (k.1, k.2)) (λ missed. search (rules, c.touch.ensures.touched.miss missed)) in
    record {
      touched = λ v told was.
          let cached : IsCached (view_of (base self)) (v self.log.file) mid.cache = c.touch.ensures.only.cached v told was in
          let first = one_load spot.place self.cache mid.cache self.loads mid.loads (load_of spot.place self.cache mid.cache self.loads mid.loads reads reads_mid one) in
          let both = loaded_then (spot.place ∷ []) [] self.cache mid.cache new.cache self.loads mid.loads new.loads first left in
          subst (λ (l : List ℕ). SomeTouched l self.cache new.cache self.loads new.loads) (sym (ahead_two (base self) (v self.log.file) spot mid.cache n lt cached turns))
          (some_by ((spot.place ∷ (n ∷ [])) ++ closed_behind self.log.end (chunk_at (view_of (base self)) n (v self.log.file))) (spot.place ∷ []) self.cache new.cache self.loads new.loads (picks_front (spot.place ∷ []) (n ∷ closed_behind self.log.end (chunk_at (view_of (base self)) n (v self.log.file)))) both);
      loaded = λ sound spells. search rules;
      never_damaged = λ sound spells p e.
          let v = sound.0 in
          let told : g.H.Host.now c.args.host.now ≡ Some v = sound.1 in
          let right = sound.2.right c.requires.going in
          let cached : IsCached (view_of (base self)) (v self.log.file) mid.cache = c.touch.ensures.only.cached v told right.cached in
          let f = turn (g.H.Host.now c.args.host.now) v (g.H.Host.may c.args.host.now) (base self) self.open.events self.next_offset self.last_time self.cache mid.cache spot n told right spells lt cached turns in
          let here = subst (λ (b : Base). chunk_at (view_of b) n (v b.file) ≡ Some (f.chunk.chunk, f.chunk.next)) (sym c.touch.ensures.only.stays.base) f.chunk.here in
          c.in-Err-touch.ensures.touched.never_damaged v f.chunk.chunk f.chunk.next p (c.touch.ensures.only.leaves.now_stays ∙ told) here (search rules);
    }

-- The event's chunk stands at the next place, and then the one behind it is touched.
pub returns-clause-touches : goal.returns-clause-touches
returns-clause-touches g c =
    let self = c.args.self.now in
    let spot = c.args.spot in
    let mid = c.touch.new.self in
    let two = c.touch-2.new.self in
    let new = c.load_behind-2.new.self in
    let n = c.in-Some.next in
    let reads = g.H.Host.reads c.args.host.now in
    let reads_mid = g.H.Host.reads c.touch.new.host in
    let reads_two = g.H.Host.reads c.touch-2.new.host in
    let reads_then = g.H.Host.reads c.load_behind-2.new.host in
    let lt : spot.number < self.committed = omega (arith, c.if-spot-self.false) in
    let turns : next_in (item_at spot.place mid.cache) spot.index ≡ Some n = search rules in
    let h : (kept : Kept) × (item_at n two.cache ≡ Some kept) = search rules in
    let only-1 : OnlyLoads g.H.Host.now g.H.Host.may g.H.Host.clock g.H.Host.since g.H.Host.said g.H.Host.disk_faults g.H.Host.out_faults self mid c.args.host.now c.touch.new.host = search rules in
    let only-2 : OnlyLoads g.H.Host.now g.H.Host.may g.H.Host.clock g.H.Host.since g.H.Host.said g.H.Host.disk_faults g.H.Host.out_faults mid two c.touch.new.host c.touch-2.new.host = search rules in
    let only = only_then self mid two c.args.host.now c.touch.new.host c.touch-2.new.host only-1 only-2 in
    let first : OneTouch spot.place self.cache self.loads reads mid.cache mid.loads reads_mid =
    touch_one spot.place self.cache mid.cache self.loads mid.loads reads reads_mid (search rules) c.touch.ensures.only.stays.cap (λ held. let k = c.touch.ensures.touched.hit held in (k.1, k.2)) (λ missed. search (rules, c.touch.ensures.touched.miss missed)) in
    let second : OneTouch n mid.cache mid.loads reads_mid two.cache two.loads reads_two =
    touch_one n mid.cache two.cache mid.loads two.loads reads_mid reads_two (search rules) c.touch-2.ensures.only.stays.cap (λ held. let k = c.touch-2.ensures.touched.hit held in (k.1, k.2)) (λ missed. search (rules, c.touch-2.ensures.touched.miss missed)) in
    record {
      touched = λ v told was.
          let cached : IsCached (view_of (base self)) (v self.log.file) mid.cache = c.touch.ensures.only.cached v told was in
          let cached-2 : IsCached (view_of (base self)) (v self.log.file) two.cache = only.cached v told was in
          let cached-3 = cached_same _ _ _ _ v two.cache (sym (ap (λ (b : Base). view_of b) only.stays.base)) (sym (ap (λ (b : Base). b.file) only.stays.base)) cached-2 in
          let behind = c.load_behind-2.ensures.touches.touched v (only.leaves.now_stays ∙ told) cached-3 in
          let more = subst (λ (b : Base). SomeTouched (closed_behind b.end (chunk_at (view_of b) n (v b.file))) two.cache new.cache two.loads new.loads) only.stays.base behind in
          let both = loaded_then (spot.place ∷ []) (n ∷ []) self.cache mid.cache two.cache self.loads mid.loads two.loads
          (one_load spot.place self.cache mid.cache self.loads mid.loads (load_of spot.place self.cache mid.cache self.loads mid.loads reads reads_mid first)) (one_load n mid.cache two.cache mid.loads two.loads (load_of n mid.cache two.cache mid.loads two.loads reads_mid reads_two second)) in
          subst (λ (l : List ℕ). SomeTouched l self.cache new.cache self.loads new.loads) (sym (ahead_two (base self) (v self.log.file) spot mid.cache n lt cached turns))
          (some_then (spot.place ∷ (n ∷ [])) (closed_behind self.log.end (chunk_at (view_of (base self)) n (v self.log.file))) self.cache two.cache new.cache self.loads two.loads new.loads
          (some_by (spot.place ∷ (n ∷ [])) (spot.place ∷ (n ∷ [])) self.cache two.cache self.loads two.loads (picks_all (spot.place ∷ (n ∷ []))) both) more);
      loaded = λ sound spells.
          let v = sound.0 in
          let told : g.H.Host.now c.args.host.now ≡ Some v = sound.1 in
          let right = sound.2.right c.requires.going in
          let cached : IsCached (view_of (base self)) (v self.log.file) mid.cache = c.touch.ensures.only.cached v told right.cached in
          let still = only_sound self two c.args.host.now c.touch-2.new.host only sound in
          let sound-2 : IsSound (g.H.Host.now c.touch-2.new.host) (g.H.Host.may c.touch-2.new.host) two = (v, still.0, still.1) in
          let f = turn (g.H.Host.now c.args.host.now) v (g.H.Host.may c.args.host.now) (base self) self.open.events self.next_offset self.last_time self.cache mid.cache spot n told right spells lt cached turns in
          let i-2 = subst (λ (b : Base). InChunk b (v b.file) n 0 spot.number) (sym only.stays.base) f.chunk in
          on_ok_weaker c.load_behind-2.result (λ behind.
          let more = subst (λ (b : Base). AllTouched (closed_behind b.end (chunk_at (view_of b) n (v b.file))) two.cache two.loads reads_two new.cache new.loads reads_then) only.stays.base behind in
          let both = touched_then (spot.place ∷ []) (n ∷ []) self.cache mid.cache two.cache self.loads mid.loads two.loads reads reads_mid reads_two (one_touch spot.place self.cache mid.cache self.loads mid.loads reads reads_mid first) (one_touch n mid.cache two.cache mid.loads two.loads reads_mid reads_two second) in
          subst (λ (l : List ℕ). AllTouched l self.cache self.loads reads new.cache new.loads reads_then) (sym (ahead_two (base self) (v self.log.file) spot mid.cache n lt cached turns))
          (touched_then (spot.place ∷ (n ∷ [])) (closed_behind self.log.end (chunk_at (view_of (base self)) n (v self.log.file))) self.cache two.cache new.cache self.loads two.loads new.loads reads reads_two reads_then both more))
          (c.load_behind-2.ensures.touches.loaded sound-2 (0, spot.number, i-2));
      never_damaged = λ sound spells p e.
          let v = sound.0 in
          let told : g.H.Host.now c.args.host.now ≡ Some v = sound.1 in
          let right = sound.2.right c.requires.going in
          let cached : IsCached (view_of (base self)) (v self.log.file) mid.cache = c.touch.ensures.only.cached v told right.cached in
          let still = only_sound self two c.args.host.now c.touch-2.new.host only sound in
          let sound-2 : IsSound (g.H.Host.now c.touch-2.new.host) (g.H.Host.may c.touch-2.new.host) two = (v, still.0, still.1) in
          let f = turn (g.H.Host.now c.args.host.now) v (g.H.Host.may c.args.host.now) (base self) self.open.events self.next_offset self.last_time self.cache mid.cache spot n told right spells lt cached turns in
          let i-2 = subst (λ (b : Base). InChunk b (v b.file) n 0 spot.number) (sym only.stays.base) f.chunk in
          c.load_behind-2.ensures.touches.never_damaged sound-2 (0, spot.number, i-2) p e;
    }
