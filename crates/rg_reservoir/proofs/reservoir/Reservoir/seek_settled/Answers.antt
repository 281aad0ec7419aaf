use Rattle.rg_bytes.specs.Counts.{Rose}
use Rattle.std.proofs.Common.{◌≡◌, inl, ◌∙◌, ◌≤◌, ◌<◌, ◌-◌, ap, sym, subst, refl, rules, Some, None, ◌∷◌, [], arith, ◌+◌, ◌^◌, min, ℕ, List}
use Rattle.rg_host.specs.Image.{Image}
use Rattle.rg_cache.specs.Cache.{item_at, places, least_recently_used, touches}
use Rattle.rg_reservoir.specs.declared.kept.Kept.{Kept}
use Rattle.rg_reservoir.specs.declared.fault.ReservoirFault.TheVariants.{Damaged}
use Rattle.rg_reservoir.specs.Chain.{chunk_at, IsIllegalBy}
use Rattle.rg_reservoir.specs.Kept.{Base, base, view_of, IsCached, IsAbsent, next_in, look_places, held_after, OneTouch, AllTouched}
use Rattle.rg_reservoir.specs.Views.{shape_at}
use Rattle.rg_reservoir.proofs.Fetching.{chunk_legal}
use Rattle.rg_reservoir.proofs.Seeking.{cached_same, illegal_same, next_some, absent_same, one_image, before_end, found_open, found_here, found_next, turn, near}
use Rattle.rg_reservoir.proofs.Peeking.{err_moves}
use Rattle.rg_reservoir.proofs.Reaching.{whole_far, whole_here, whole_next, or_holds_here, or_holds_next}
use Rattle.rg_reservoir.proofs.Settling.{end_rests}
use Rattle.rg_reservoir.proofs.Touching.{none_touched, one_touched, two_touched, two_places, asks_one, asks_next, look_one, look_two, look_far, no_next, one_next, is_behind, none_behind}
use Rattle.rg_reservoir.proofs.reservoir.Reservoir.seek_settled.Goals as goal

pub returns-then-spot-self-clause-sought : goal.returns-then-spot-self-clause-sought
returns-then-spot-self-clause-sought g c = record {
  legal = λ v told was lt. absurd (omega (arith, c.if-spot-self.true, lt));
  reached = λ v told was so_far.
      let self = c.args.self.now in
      inl (whole_far (base self) (v self.log.file) c.args.spot.now (omega (arith, c.if-spot-self.true)) so_far);
  number = search rules;
  placed = search rules;
  spelled = λ sound spells.
      let self = c.args.self.now in
      let rests = end_rests sound.0 (g.H.Host.may c.args.host.now) (base self) self.open.events self.next_offset self.last_time self.cache (sound.2.right c.if-self.false) in
      (found_open (g.H.Host.now c.args.host.now) (base self) self.open.events self.cache c.args.spot.now (record { place = c.end-spot.result; index = c.args.spot.now.number - self.committed; number = c.args.spot.now.number }) rests spells (omega (arith, c.if-spot-self.true)) refl c.end-spot.ensures.end refl).0;
  finds = λ sound spells.
      let self = c.args.self.now in
      let rests = end_rests sound.0 (g.H.Host.may c.args.host.now) (base self) self.open.events self.next_offset self.last_time self.cache (sound.2.right c.if-self.false) in
      (found_open (g.H.Host.now c.args.host.now) (base self) self.open.events self.cache c.args.spot.now (record { place = c.end-spot.result; index = c.args.spot.now.number - self.committed; number = c.args.spot.now.number }) rests spells (omega (arith, c.if-spot-self.true)) refl c.end-spot.ensures.end refl).1;
}

pub returns-in-None-clause-sought : goal.returns-in-None-clause-sought
returns-in-None-clause-sought g c = record {
  legal = λ v told was lt.
      let self = c.args.self.now in
      let view = view_of (base self) in
      let bytes = v self.log.file in
      let place = c.args.spot.now.place in
      let index = c.args.spot.now.index in
      let mid : IsCached view bytes c.touch.new.self.cache = c.touch.ensures.only.cached v told was in
      let h : (kept : Kept) × (item_at place c.touch.new.self.cache ≡ Some kept) = search rules in
      let stays : next_in (item_at place c.touch.new.self.cache) index ≡ None = search rules in
      record {
        here = chunk_legal view place h.0.next h.0.chunk bytes (mid place h.0 h.1);
        behind = λ chunk next at within is. absurd (none_behind view bytes place index chunk next (no_next view bytes c.touch.new.self.cache place index h.0 mid h.1 stays) at is);
      };
  reached = λ v told was so_far.
      let self = c.args.self.now in
      let place = c.args.spot.now.place in
      let mid : IsCached (view_of (base self)) (v self.log.file) c.touch.new.self.cache = c.touch.ensures.only.cached v told was in
      let h : (kept : Kept) × (item_at place c.touch.new.self.cache ≡ Some kept) = search rules in
      let stays : next_in (item_at place c.touch.new.self.cache) c.args.spot.now.index ≡ None = search rules in
      or_holds_here (base self) (v self.log.file) c.touch.new.self.cache c.args.spot.now h.0 (omega (arith, c.if-spot-self.false)) mid h.1 stays so_far;
  number = search rules;
  placed = search rules;
  spelled = search rules;
  finds = λ sound spells.
      let v = sound.0 in
      let told : g.H.Host.now c.args.host.now ≡ Some v = sound.1 in
      let right = sound.2.right c.if-self.false in
      let lt : c.args.spot.now.number < c.args.self.now.committed = omega (arith, c.if-spot-self.false) in
      let mid : IsCached (view_of (base c.args.self.now)) (v c.args.self.now.log.file) c.touch.new.self.cache = c.touch.ensures.only.cached v told right.cached in
      let h : (kept : Kept) × (item_at c.args.spot.now.place c.touch.new.self.cache ≡ Some kept) = search rules in
      let stays : next_in (item_at c.args.spot.now.place c.touch.new.self.cache) c.args.spot.now.index ≡ None = search rules in
      found_here (g.H.Host.now c.args.host.now) v (g.H.Host.may c.args.host.now) (base c.args.self.now) c.args.self.now.open.events c.args.self.now.next_offset c.args.self.now.last_time c.args.self.now.cache c.touch.new.self.cache c.args.spot.now h.0 told right spells lt mid h.1 stays;
}

pub returns-in-Ok-false-touch-clause-only : goal.returns-in-Ok-false-touch-clause-only
returns-in-Ok-false-touch-clause-only g c = record {
  stays = search rules;
  cached = λ v told was.
      let eqF = ap (λ (b : Base). view_of b) c.touch.ensures.only.stays.base in
      let eqf = ap (λ (b : Base). b.file) c.touch.ensures.only.stays.base in
      cached_same _ _ _ _ v c.touch-2.new.self.cache eqF eqf (c.touch-2.ensures.only.cached v (c.touch.ensures.only.leaves.now_stays ∙ told) (cached_same _ _ _ _ v c.touch.new.self.cache (sym eqF) (sym eqf) (c.touch.ensures.only.cached v told was)));
  inside = search rules;
  leaves = search rules;
  disk_faults_rise = search rules;
  out_faults_stay = search rules;
}

pub returns-in-Err-touch-clause-only : goal.returns-in-Err-touch-clause-only
returns-in-Err-touch-clause-only g c = record {
  stays = search rules;
  cached = λ v told was.
      let eqF = ap (λ (b : Base). view_of b) c.touch.ensures.only.stays.base in
      let eqf = ap (λ (b : Base). b.file) c.touch.ensures.only.stays.base in
      cached_same _ _ _ _ v c.touch-2.new.self.cache eqF eqf (c.touch-2.ensures.only.cached v (c.touch.ensures.only.leaves.now_stays ∙ told) (cached_same _ _ _ _ v c.touch.new.self.cache (sym eqF) (sym eqf) (c.touch.ensures.only.cached v told was)));
  inside = search rules;
  leaves = search rules;
  disk_faults_rise = search rules;
  out_faults_stay = search rules;
}

pub returns-clause-only : goal.returns-clause-only
returns-clause-only g c = record {
  stays = search rules;
  cached = λ v told was.
      let eqF = ap (λ (b : Base). view_of b) c.touch.ensures.only.stays.base in
      let eqf = ap (λ (b : Base). b.file) c.touch.ensures.only.stays.base in
      cached_same _ _ _ _ v c.touch-2.new.self.cache eqF eqf (c.touch-2.ensures.only.cached v (c.touch.ensures.only.leaves.now_stays ∙ told) (cached_same _ _ _ _ v c.touch.new.self.cache (sym eqF) (sym eqf) (c.touch.ensures.only.cached v told was)));
  inside = search rules;
  leaves = search rules;
  disk_faults_rise = search rules;
  out_faults_stay = search rules;
}

pub returns-in-Ok-false-touch-clause-sought : goal.returns-in-Ok-false-touch-clause-sought
returns-in-Ok-false-touch-clause-sought g c = record {
  legal = λ v told was lt.
      let self = c.args.self.now in
      let view = view_of (base self) in
      let bytes = v self.log.file in
      let place = c.args.spot.now.place in
      let index = c.args.spot.now.index in
      let mid : IsCached view bytes c.touch.new.self.cache = c.touch.ensures.only.cached v told was in
      let eqF = ap (λ (b : Base). view_of b) c.touch.ensures.only.stays.base in
      let eqf = ap (λ (b : Base). b.file) c.touch.ensures.only.stays.base in
      let turns : next_in (item_at place c.touch.new.self.cache) index ≡ Some c.in-Some.next = search rules in
      let k = next_some (item_at place c.touch.new.self.cache) index c.in-Some.next turns in
      let second = c.in-Ok-false-touch.ensures.touched.legal v (c.touch.ensures.only.leaves.now_stays ∙ told) (cached_same _ _ _ _ v c.touch.new.self.cache (sym eqF) (sym eqf) mid) in
      let moved : IsIllegalBy view c.in-Some.next bytes → ⊥ = λ bad. second (illegal_same _ _ _ _ v c.in-Some.next (sym (ap (λ (b : Base). (shape_at (view_of b) c.in-Some.next).fields) c.touch.ensures.only.stays.base)) (sym eqf) bad) in
      record {
        here = chunk_legal view place k.0.next k.0.chunk bytes (mid place k.0 k.1);
        behind = λ chunk next at within is bad. moved (subst (λ (q : ℕ). IsIllegalBy view q bytes) (is_behind view bytes place index c.in-Some.next chunk next (one_next view bytes c.touch.new.self.cache place index c.in-Some.next mid turns) at is) bad);
      };
  reached = λ v told was so_far.
      let self = c.args.self.now in
      let view = view_of (base self) in
      let bytes = v self.log.file in
      let place = c.args.spot.now.place in
      let index = c.args.spot.now.index in
      let mid : IsCached view bytes c.touch.new.self.cache = c.touch.ensures.only.cached v told was in
      let eqF = ap (λ (b : Base). view_of b) c.touch.ensures.only.stays.base in
      let eqf = ap (λ (b : Base). b.file) c.touch.ensures.only.stays.base in
      let eqe = ap (λ (b : Base). b.end) c.touch.ensures.only.stays.base in
      let turns : next_in (item_at place c.touch.new.self.cache) index ≡ Some c.in-Some.next = search rules in
      let k = next_some (item_at place c.touch.new.self.cache) index c.in-Some.next turns in
      let second = c.in-Ok-false-touch.ensures.touched.legal v (c.touch.ensures.only.leaves.now_stays ∙ told) (cached_same _ _ _ _ v c.touch.new.self.cache (sym eqF) (sym eqf) mid) in
      let moved : IsIllegalBy view c.in-Some.next bytes → ⊥ = λ bad. second (illegal_same _ _ _ _ v c.in-Some.next (sym (ap (λ (b : Base). (shape_at (view_of b) c.in-Some.next).fields) c.touch.ensures.only.stays.base)) (sym eqf) bad) in
      let absent : IsAbsent (view_of (base c.touch.new.self)) c.in-Some.next c.touch.new.self.log.end (v c.touch.new.self.log.file) = c.in-Ok-false-touch.ensures.touched.absent c.in-Ok-false-touch.field-0-test v (c.touch.ensures.only.leaves.now_stays ∙ told) in
      inl (whole_next (base self) bytes c.args.spot.now k.0.chunk c.in-Some.next (mid place k.0 k.1 ∙ ap (λ (n : ℕ). Some (k.0.chunk, n)) k.3) k.2 moved (absent_same _ _ _ _ _ _ v c.in-Some.next eqF eqf eqe absent) so_far);
  number = search rules;
  placed = search rules;
  spelled = search rules;
  finds = λ sound spells.
      let v = sound.0 in
      let told : g.H.Host.now c.args.host.now ≡ Some v = sound.1 in
      let right = sound.2.right c.if-self.false in
      let lt : c.args.spot.now.number < c.args.self.now.committed = omega (arith, c.if-spot-self.false) in
      let mid : IsCached (view_of (base c.args.self.now)) (v c.args.self.now.log.file) c.touch.new.self.cache = c.touch.ensures.only.cached v told right.cached in
      let eqF = ap (λ (b : Base). view_of b) c.touch.ensures.only.stays.base in
      let eqf = ap (λ (b : Base). b.file) c.touch.ensures.only.stays.base in
      let turns : next_in (item_at c.args.spot.now.place c.touch.new.self.cache) c.args.spot.now.index ≡ Some c.in-Some.next = search rules in
      let eqe = ap (λ (b : Base). b.end) c.touch.ensures.only.stays.base in
      let f = turn (g.H.Host.now c.args.host.now) v (g.H.Host.may c.args.host.now) (base c.args.self.now) c.args.self.now.open.events c.args.self.now.next_offset c.args.self.now.last_time c.args.self.now.cache c.touch.new.self.cache c.args.spot.now c.in-Some.next told right spells lt mid turns in
      let absent : IsAbsent (view_of (base c.touch.new.self)) c.in-Some.next c.touch.new.self.log.end (v c.touch.new.self.log.file) = c.in-Ok-false-touch.ensures.touched.absent c.in-Ok-false-touch.field-0-test v (c.touch.ensures.only.leaves.now_stays ∙ told) in
      let far : c.args.self.now.log.end < f.chunk.next = absent_same _ _ _ _ _ _ v c.in-Some.next eqF eqf eqe absent f.chunk.chunk f.chunk.next f.chunk.here in
      let le : f.chunk.next ≤ c.args.self.now.log.end = before_end v (g.H.Host.may c.args.host.now) (base c.args.self.now) c.args.self.now.open.events c.args.self.now.next_offset c.args.self.now.last_time c.args.self.now.cache right c.in-Some.next 0 c.args.spot.now.number f.chunk in
      absurd (omega (arith, far, le));
}

pub returns-in-Ok-false-touch-clause-loads : goal.returns-in-Ok-false-touch-clause-loads
returns-in-Ok-false-touch-clause-loads g c = record {
  touched = λ v told was.
      let self = c.args.self.now in
      let spot = c.args.spot.now in
      let lt : spot.number < self.committed = omega (arith, c.if-spot-self.false) in
      let first : places c.touch.new.self.cache ≡ least_recently_used self.cache.cap (touches self.cache (spot.place ∷ [])) = search rules in
      let turns : next_in (item_at spot.place c.touch.new.self.cache) spot.index ≡ Some c.in-Some.next = search rules in
      let mid : IsCached (view_of (base self)) (v self.log.file) c.touch.new.self.cache = c.touch.ensures.only.cached v told was in
      let one : OneTouch spot.place self.cache self.loads (g.H.Host.reads c.args.host.now) c.touch.new.self.cache c.touch.new.self.loads (g.H.Host.reads c.touch.new.host) = record {
        places_are = first;
        cap_stays = c.touch.ensures.only.stays.cap;
        hit = λ held. let k = c.touch.ensures.touched.hit held in (k.2, k.1);
        miss = λ missed. let k : Rose (g.H.Host.reads c.args.host.now) (g.H.Host.reads c.touch.new.host) × (c.touch.new.self.loads ≡ min (self.loads + 1) (2 ^ 64 - 1)) = search (rules, c.touch.ensures.touched.miss missed) in (k.1, k.0);
      } in
      let left : (c.touch-2.new.self.cache ≡ c.touch.new.self.cache) × (c.touch-2.new.self.loads ≡ c.touch.new.self.loads) = c.in-Ok-false-touch.ensures.touched.left c.in-Ok-false-touch.field-0-test in
      one_touched (base self) (v self.log.file) spot self.cache c.touch.new.self.cache c.touch-2.new.self.cache self.loads (g.H.Host.reads c.args.host.now) c.touch.new.self.loads (g.H.Host.reads c.touch.new.host) c.touch-2.new.self.loads (g.H.Host.reads c.touch-2.new.host) lt one left.0 left.1 c.touch-2.ensures.touched.no_fewer (λ none. absurd (asks_next (view_of (base self)) (v self.log.file) c.touch.new.self.cache spot.place spot.index c.in-Some.next mid turns none));
  all_touched = λ sound spells.
      let v = sound.0 in
      let told : g.H.Host.now c.args.host.now ≡ Some v = sound.1 in
      let right = sound.2.right c.if-self.false in
      let lt : c.args.spot.now.number < c.args.self.now.committed = omega (arith, c.if-spot-self.false) in
      let mid : IsCached (view_of (base c.args.self.now)) (v c.args.self.now.log.file) c.touch.new.self.cache = c.touch.ensures.only.cached v told right.cached in
      let eqF = ap (λ (b : Base). view_of b) c.touch.ensures.only.stays.base in
      let eqf = ap (λ (b : Base). b.file) c.touch.ensures.only.stays.base in
      let turns : next_in (item_at c.args.spot.now.place c.touch.new.self.cache) c.args.spot.now.index ≡ Some c.in-Some.next = search rules in
      let eqe = ap (λ (b : Base). b.end) c.touch.ensures.only.stays.base in
      let f = turn (g.H.Host.now c.args.host.now) v (g.H.Host.may c.args.host.now) (base c.args.self.now) c.args.self.now.open.events c.args.self.now.next_offset c.args.self.now.last_time c.args.self.now.cache c.touch.new.self.cache c.args.spot.now c.in-Some.next told right spells lt mid turns in
      let absent : IsAbsent (view_of (base c.touch.new.self)) c.in-Some.next c.touch.new.self.log.end (v c.touch.new.self.log.file) = c.in-Ok-false-touch.ensures.touched.absent c.in-Ok-false-touch.field-0-test v (c.touch.ensures.only.leaves.now_stays ∙ told) in
      let far : c.args.self.now.log.end < f.chunk.next = absent_same _ _ _ _ _ _ v c.in-Some.next eqF eqf eqe absent f.chunk.chunk f.chunk.next f.chunk.here in
      let le : f.chunk.next ≤ c.args.self.now.log.end = before_end v (g.H.Host.may c.args.host.now) (base c.args.self.now) c.args.self.now.open.events c.args.self.now.next_offset c.args.self.now.last_time c.args.self.now.cache right c.in-Some.next 0 c.args.spot.now.number f.chunk in
      absurd (omega (arith, far, le));
  loaded = λ sound spells.
      let v = sound.0 in
      let told : g.H.Host.now c.args.host.now ≡ Some v = sound.1 in
      let right = sound.2.right c.if-self.false in
      let lt : c.args.spot.now.number < c.args.self.now.committed = omega (arith, c.if-spot-self.false) in
      let mid : IsCached (view_of (base c.args.self.now)) (v c.args.self.now.log.file) c.touch.new.self.cache = c.touch.ensures.only.cached v told right.cached in
      let eqF = ap (λ (b : Base). view_of b) c.touch.ensures.only.stays.base in
      let eqf = ap (λ (b : Base). b.file) c.touch.ensures.only.stays.base in
      let turns : next_in (item_at c.args.spot.now.place c.touch.new.self.cache) c.args.spot.now.index ≡ Some c.in-Some.next = search rules in
      let eqe = ap (λ (b : Base). b.end) c.touch.ensures.only.stays.base in
      let f = turn (g.H.Host.now c.args.host.now) v (g.H.Host.may c.args.host.now) (base c.args.self.now) c.args.self.now.open.events c.args.self.now.next_offset c.args.self.now.last_time c.args.self.now.cache c.touch.new.self.cache c.args.spot.now c.in-Some.next told right spells lt mid turns in
      let absent : IsAbsent (view_of (base c.touch.new.self)) c.in-Some.next c.touch.new.self.log.end (v c.touch.new.self.log.file) = c.in-Ok-false-touch.ensures.touched.absent c.in-Ok-false-touch.field-0-test v (c.touch.ensures.only.leaves.now_stays ∙ told) in
      let far : c.args.self.now.log.end < f.chunk.next = absent_same _ _ _ _ _ _ v c.in-Some.next eqF eqf eqe absent f.chunk.chunk f.chunk.next f.chunk.here in
      let le : f.chunk.next ≤ c.args.self.now.log.end = before_end v (g.H.Host.may c.args.host.now) (base c.args.self.now) c.args.self.now.open.events c.args.self.now.next_offset c.args.self.now.last_time c.args.self.now.cache right c.in-Some.next 0 c.args.spot.now.number f.chunk in
      absurd (omega (arith, far, le));
}

pub returns-in-Ok-false-clause-sought : goal.returns-in-Ok-false-clause-sought
returns-in-Ok-false-clause-sought g c = record {
  legal = λ v told was lt.
      let absent : IsAbsent (view_of (base c.args.self.now)) c.args.spot.now.place c.args.self.now.log.end (v c.args.self.now.log.file) = c.in-Ok-false.ensures.touched.absent c.in-Ok-false.field-0-test v told in
      record {
        here = c.in-Ok-false.ensures.touched.legal v told was;
        behind = λ chunk next at within is. absurd (omega (arith, within, absent chunk next at));
      };
  reached = λ v told was so_far.
      let self = c.args.self.now in
      let absent : IsAbsent (view_of (base self)) c.args.spot.now.place self.log.end (v self.log.file) = c.in-Ok-false.ensures.touched.absent c.in-Ok-false.field-0-test v told in
      inl (whole_here (base self) (v self.log.file) c.args.spot.now (c.in-Ok-false.ensures.touched.legal v told was) absent so_far);
  number = search rules;
  placed = search rules;
  spelled = search rules;
  finds = λ sound spells.
      let v = sound.0 in
      let told : g.H.Host.now c.args.host.now ≡ Some v = sound.1 in
      let right = sound.2.right c.if-self.false in
      let lt : c.args.spot.now.number < c.args.self.now.committed = omega (arith, c.if-spot-self.false) in
      let i = near (g.H.Host.now c.args.host.now) v (base c.args.self.now) c.args.self.now.open.events c.args.spot.now told spells lt in
      let absent : IsAbsent (view_of (base c.args.self.now)) c.args.spot.now.place c.args.self.now.log.end (v c.args.self.now.log.file) = c.in-Ok-false.ensures.touched.absent c.in-Ok-false.field-0-test v told in
      let far : c.args.self.now.log.end < i.next = absent i.chunk i.next i.here in
      let le : i.next ≤ c.args.self.now.log.end = before_end v (g.H.Host.may c.args.host.now) (base c.args.self.now) c.args.self.now.open.events c.args.self.now.next_offset c.args.self.now.last_time c.args.self.now.cache right c.args.spot.now.place c.args.spot.now.index c.args.spot.now.number i in
      absurd (omega (arith, far, le));
}

pub returns-in-Ok-false-clause-loads : goal.returns-in-Ok-false-clause-loads
returns-in-Ok-false-clause-loads g c = record {
  touched = λ v told was.
      let self = c.args.self.now in
      let spot = c.args.spot.now in
      let lt : spot.number < self.committed = omega (arith, c.if-spot-self.false) in
      let left : (c.touch.new.self.cache ≡ self.cache) × (c.touch.new.self.loads ≡ self.loads) = c.in-Ok-false.ensures.touched.left c.in-Ok-false.field-0-test in
      none_touched (look_places (base self) (v self.log.file) spot) self.cache c.touch.new.self.cache self.loads (g.H.Host.reads c.args.host.now) c.touch.new.self.loads (g.H.Host.reads c.touch.new.host) left.0 left.1 c.touch.ensures.touched.no_fewer (λ none. absurd (asks_one (base self) (v self.log.file) spot lt none));
  all_touched = λ sound spells.
      let v = sound.0 in
      let told : g.H.Host.now c.args.host.now ≡ Some v = sound.1 in
      let right = sound.2.right c.if-self.false in
      let lt : c.args.spot.now.number < c.args.self.now.committed = omega (arith, c.if-spot-self.false) in
      let i = near (g.H.Host.now c.args.host.now) v (base c.args.self.now) c.args.self.now.open.events c.args.spot.now told spells lt in
      let absent : IsAbsent (view_of (base c.args.self.now)) c.args.spot.now.place c.args.self.now.log.end (v c.args.self.now.log.file) = c.in-Ok-false.ensures.touched.absent c.in-Ok-false.field-0-test v told in
      let far : c.args.self.now.log.end < i.next = absent i.chunk i.next i.here in
      let le : i.next ≤ c.args.self.now.log.end = before_end v (g.H.Host.may c.args.host.now) (base c.args.self.now) c.args.self.now.open.events c.args.self.now.next_offset c.args.self.now.last_time c.args.self.now.cache right c.args.spot.now.place c.args.spot.now.index c.args.spot.now.number i in
      absurd (omega (arith, far, le));
  loaded = λ sound spells.
      let v = sound.0 in
      let told : g.H.Host.now c.args.host.now ≡ Some v = sound.1 in
      let right = sound.2.right c.if-self.false in
      let lt : c.args.spot.now.number < c.args.self.now.committed = omega (arith, c.if-spot-self.false) in
      let i = near (g.H.Host.now c.args.host.now) v (base c.args.self.now) c.args.self.now.open.events c.args.spot.now told spells lt in
      let absent : IsAbsent (view_of (base c.args.self.now)) c.args.spot.now.place c.args.self.now.log.end (v c.args.self.now.log.file) = c.in-Ok-false.ensures.touched.absent c.in-Ok-false.field-0-test v told in
      let far : c.args.self.now.log.end < i.next = absent i.chunk i.next i.here in
      let le : i.next ≤ c.args.self.now.log.end = before_end v (g.H.Host.may c.args.host.now) (base c.args.self.now) c.args.self.now.open.events c.args.self.now.next_offset c.args.self.now.last_time c.args.self.now.cache right c.args.spot.now.place c.args.spot.now.index c.args.spot.now.number i in
      absurd (omega (arith, far, le));
}

pub returns-in-Err-clause-loads : goal.returns-in-Err-clause-loads
returns-in-Err-clause-loads g c = record {
  touched = λ v told was.
      let self = c.args.self.now in
      let spot = c.args.spot.now in
      let lt : spot.number < self.committed = omega (arith, c.if-spot-self.false) in
      let left : (c.touch.new.self.cache ≡ self.cache) × (c.touch.new.self.loads ≡ self.loads) = c.in-Err.ensures.touched.refused in
      none_touched (look_places (base self) (v self.log.file) spot) self.cache c.touch.new.self.cache self.loads (g.H.Host.reads c.args.host.now) c.touch.new.self.loads (g.H.Host.reads c.touch.new.host) left.0 left.1 c.touch.ensures.touched.no_fewer (λ none. absurd (asks_one (base self) (v self.log.file) spot lt none));
  all_touched = search rules;
  loaded = search rules;
}

pub returns-in-None-clause-loads : goal.returns-in-None-clause-loads
returns-in-None-clause-loads g c = record {
  touched = λ v told was.
      let self = c.args.self.now in
      let spot = c.args.spot.now in
      let lt : spot.number < self.committed = omega (arith, c.if-spot-self.false) in
      let first : places c.touch.new.self.cache ≡ least_recently_used self.cache.cap (touches self.cache (spot.place ∷ [])) = search rules in
      let one : OneTouch spot.place self.cache self.loads (g.H.Host.reads c.args.host.now) c.touch.new.self.cache c.touch.new.self.loads (g.H.Host.reads c.touch.new.host) = record {
        places_are = first;
        cap_stays = c.touch.ensures.only.stays.cap;
        hit = λ held. let k = c.touch.ensures.touched.hit held in (k.2, k.1);
        miss = λ missed. let k : Rose (g.H.Host.reads c.args.host.now) (g.H.Host.reads c.touch.new.host) × (c.touch.new.self.loads ≡ min (self.loads + 1) (2 ^ 64 - 1)) = search (rules, c.touch.ensures.touched.miss missed) in (k.1, k.0);
      } in
      one_touched (base self) (v self.log.file) spot self.cache c.touch.new.self.cache c.touch.new.self.cache self.loads (g.H.Host.reads c.args.host.now) c.touch.new.self.loads (g.H.Host.reads c.touch.new.host) c.touch.new.self.loads (g.H.Host.reads c.touch.new.host) lt one refl refl (omega arith) (λ _. refl);
  all_touched = λ sound spells w there.
      let v = sound.0 in
      let told : g.H.Host.now c.args.host.now ≡ Some v = sound.1 in
      let right = sound.2.right c.if-self.false in
      let lt : c.args.spot.now.number < c.args.self.now.committed = omega (arith, c.if-spot-self.false) in
      let mid : IsCached (view_of (base c.args.self.now)) (v c.args.self.now.log.file) c.touch.new.self.cache = c.touch.ensures.only.cached v told right.cached in
      let first : places c.touch.new.self.cache ≡ least_recently_used c.args.self.now.cache.cap (touches c.args.self.now.cache (c.args.spot.now.place ∷ [])) = search rules in
      let h : (kept : Kept) × (item_at c.args.spot.now.place c.touch.new.self.cache ≡ Some kept) = search rules in
      let stays : next_in (item_at c.args.spot.now.place c.touch.new.self.cache) c.args.spot.now.index ≡ None = search rules in
      subst (λ (u : Image). places c.touch.new.self.cache ≡ held_after c.args.self.now.cache (look_places (base c.args.self.now) (u c.args.self.now.log.file) c.args.spot.now)) (one_image (g.H.Host.now c.args.host.now) v w told there) (first ∙ sym (ap (held_after c.args.self.now.cache) (look_one (base c.args.self.now) (v c.args.self.now.log.file) c.args.spot.now c.touch.new.self.cache h.0 lt mid h.1 stays)));
  loaded = λ sound spells w there.
      let self = c.args.self.now in
      let v = sound.0 in
      let told : g.H.Host.now c.args.host.now ≡ Some v = sound.1 in
      let right = sound.2.right c.if-self.false in
      let lt : c.args.spot.now.number < self.committed = omega (arith, c.if-spot-self.false) in
      let mid : IsCached (view_of (base self)) (v self.log.file) c.touch.new.self.cache = c.touch.ensures.only.cached v told right.cached in
      let first : places c.touch.new.self.cache ≡ least_recently_used self.cache.cap (touches self.cache (c.args.spot.now.place ∷ [])) = search rules in
      let h : (kept : Kept) × (item_at c.args.spot.now.place c.touch.new.self.cache ≡ Some kept) = search rules in
      let stays : next_in (item_at c.args.spot.now.place c.touch.new.self.cache) c.args.spot.now.index ≡ None = search rules in
      let one : OneTouch c.args.spot.now.place self.cache self.loads (g.H.Host.reads c.args.host.now) c.touch.new.self.cache c.touch.new.self.loads (g.H.Host.reads c.touch.new.host) = record {
        places_are = first;
        cap_stays = c.touch.ensures.only.stays.cap;
        hit = λ held. let k = c.touch.ensures.touched.hit held in (k.2, k.1);
        miss = λ missed. let k : Rose (g.H.Host.reads c.args.host.now) (g.H.Host.reads c.touch.new.host) × (c.touch.new.self.loads ≡ min (self.loads + 1) (2 ^ 64 - 1)) = search (rules, c.touch.ensures.touched.miss missed) in (k.1, k.0);
      } in
      subst (λ (u : Image). AllTouched (look_places (base self) (u self.log.file) c.args.spot.now) self.cache self.loads (g.H.Host.reads c.args.host.now) c.touch.new.self.cache c.touch.new.self.loads (g.H.Host.reads c.touch.new.host)) (one_image (g.H.Host.now c.args.host.now) v w told there)
      (subst (λ (l : List ℕ). AllTouched l self.cache self.loads (g.H.Host.reads c.args.host.now) c.touch.new.self.cache c.touch.new.self.loads (g.H.Host.reads c.touch.new.host)) (sym (look_one (base self) (v self.log.file) c.args.spot.now c.touch.new.self.cache h.0 lt mid h.1 stays))
      (c.touch.new.self.cache, c.touch.new.self.loads, g.H.Host.reads c.touch.new.host, one, (refl, refl, refl)));
}

pub returns-in-Err-touch-clause-loads : goal.returns-in-Err-touch-clause-loads
returns-in-Err-touch-clause-loads g c = record {
  touched = λ v told was.
      let self = c.args.self.now in
      let spot = c.args.spot.now in
      let lt : spot.number < self.committed = omega (arith, c.if-spot-self.false) in
      let first : places c.touch.new.self.cache ≡ least_recently_used self.cache.cap (touches self.cache (spot.place ∷ [])) = search rules in
      let turns : next_in (item_at spot.place c.touch.new.self.cache) spot.index ≡ Some c.in-Some.next = search rules in
      let mid : IsCached (view_of (base self)) (v self.log.file) c.touch.new.self.cache = c.touch.ensures.only.cached v told was in
      let one : OneTouch spot.place self.cache self.loads (g.H.Host.reads c.args.host.now) c.touch.new.self.cache c.touch.new.self.loads (g.H.Host.reads c.touch.new.host) = record {
        places_are = first;
        cap_stays = c.touch.ensures.only.stays.cap;
        hit = λ held. let k = c.touch.ensures.touched.hit held in (k.2, k.1);
        miss = λ missed. let k : Rose (g.H.Host.reads c.args.host.now) (g.H.Host.reads c.touch.new.host) × (c.touch.new.self.loads ≡ min (self.loads + 1) (2 ^ 64 - 1)) = search (rules, c.touch.ensures.touched.miss missed) in (k.1, k.0);
      } in
      let left : (c.touch-2.new.self.cache ≡ c.touch.new.self.cache) × (c.touch-2.new.self.loads ≡ c.touch.new.self.loads) = c.in-Err-touch.ensures.touched.refused in
      one_touched (base self) (v self.log.file) spot self.cache c.touch.new.self.cache c.touch-2.new.self.cache self.loads (g.H.Host.reads c.args.host.now) c.touch.new.self.loads (g.H.Host.reads c.touch.new.host) c.touch-2.new.self.loads (g.H.Host.reads c.touch-2.new.host) lt one left.0 left.1 c.touch-2.ensures.touched.no_fewer (λ none. absurd (asks_next (view_of (base self)) (v self.log.file) c.touch.new.self.cache spot.place spot.index c.in-Some.next mid turns none));
  all_touched = search rules;
  loaded = search rules;
}

pub returns-clause-loads : goal.returns-clause-loads
returns-clause-loads g c = record {
  touched = λ v told was.
      let self = c.args.self.now in
      let spot = c.args.spot.now in
      let lt : spot.number < self.committed = omega (arith, c.if-spot-self.false) in
      let first : places c.touch.new.self.cache ≡ least_recently_used self.cache.cap (touches self.cache (spot.place ∷ [])) = search rules in
      let turns : next_in (item_at spot.place c.touch.new.self.cache) spot.index ≡ Some c.in-Some.next = search rules in
      let mid : IsCached (view_of (base self)) (v self.log.file) c.touch.new.self.cache = c.touch.ensures.only.cached v told was in
      let second : places c.touch-2.new.self.cache ≡ least_recently_used c.touch.new.self.cache.cap (touches c.touch.new.self.cache (c.in-Some.next ∷ [])) = search rules in
      let one : OneTouch spot.place self.cache self.loads (g.H.Host.reads c.args.host.now) c.touch.new.self.cache c.touch.new.self.loads (g.H.Host.reads c.touch.new.host) = record {
        places_are = first;
        cap_stays = c.touch.ensures.only.stays.cap;
        hit = λ held. let k = c.touch.ensures.touched.hit held in (k.2, k.1);
        miss = λ missed. let k : Rose (g.H.Host.reads c.args.host.now) (g.H.Host.reads c.touch.new.host) × (c.touch.new.self.loads ≡ min (self.loads + 1) (2 ^ 64 - 1)) = search (rules, c.touch.ensures.touched.miss missed) in (k.1, k.0);
      } in
      let two : OneTouch c.in-Some.next c.touch.new.self.cache c.touch.new.self.loads (g.H.Host.reads c.touch.new.host) c.touch-2.new.self.cache c.touch-2.new.self.loads (g.H.Host.reads c.touch-2.new.host) = record {
        places_are = second;
        cap_stays = c.touch-2.ensures.only.stays.cap;
        hit = λ held. let k = c.touch-2.ensures.touched.hit held in (k.2, k.1);
        miss = λ missed. let k : Rose (g.H.Host.reads c.touch.new.host) (g.H.Host.reads c.touch-2.new.host) × (c.touch-2.new.self.loads ≡ min (c.touch.new.self.loads + 1) (2 ^ 64 - 1)) = search (rules, c.touch-2.ensures.touched.miss missed) in (k.1, k.0);
      } in
      two_touched (base self) (v self.log.file) spot c.in-Some.next self.cache c.touch.new.self.cache c.touch-2.new.self.cache self.loads (g.H.Host.reads c.args.host.now) c.touch.new.self.loads (g.H.Host.reads c.touch.new.host) c.touch-2.new.self.loads (g.H.Host.reads c.touch-2.new.host) lt mid turns one two;
  all_touched = λ sound spells w there.
      let v = sound.0 in
      let told : g.H.Host.now c.args.host.now ≡ Some v = sound.1 in
      let right = sound.2.right c.if-self.false in
      let lt : c.args.spot.now.number < c.args.self.now.committed = omega (arith, c.if-spot-self.false) in
      let mid : IsCached (view_of (base c.args.self.now)) (v c.args.self.now.log.file) c.touch.new.self.cache = c.touch.ensures.only.cached v told right.cached in
      let first : places c.touch.new.self.cache ≡ least_recently_used c.args.self.now.cache.cap (touches c.args.self.now.cache (c.args.spot.now.place ∷ [])) = search rules in
      let turns : next_in (item_at c.args.spot.now.place c.touch.new.self.cache) c.args.spot.now.index ≡ Some c.in-Some.next = search rules in
      let second : places c.touch-2.new.self.cache ≡ least_recently_used c.touch.new.self.cache.cap (touches c.touch.new.self.cache (c.in-Some.next ∷ [])) = search rules in
      let both = two_places c.args.self.now.cache c.touch.new.self.cache c.touch-2.new.self.cache c.args.spot.now.place c.in-Some.next first c.touch.ensures.only.stays.cap second in
      subst (λ (u : Image). places c.touch-2.new.self.cache ≡ held_after c.args.self.now.cache (look_places (base c.args.self.now) (u c.args.self.now.log.file) c.args.spot.now)) (one_image (g.H.Host.now c.args.host.now) v w told there) (both ∙ sym (ap (held_after c.args.self.now.cache) (look_two (base c.args.self.now) (v c.args.self.now.log.file) c.args.spot.now c.touch.new.self.cache c.in-Some.next lt mid turns)));
  loaded = λ sound spells w there.
      let self = c.args.self.now in
      let v = sound.0 in
      let told : g.H.Host.now c.args.host.now ≡ Some v = sound.1 in
      let right = sound.2.right c.if-self.false in
      let lt : c.args.spot.now.number < self.committed = omega (arith, c.if-spot-self.false) in
      let mid : IsCached (view_of (base self)) (v self.log.file) c.touch.new.self.cache = c.touch.ensures.only.cached v told right.cached in
      let first : places c.touch.new.self.cache ≡ least_recently_used self.cache.cap (touches self.cache (c.args.spot.now.place ∷ [])) = search rules in
      let turns : next_in (item_at c.args.spot.now.place c.touch.new.self.cache) c.args.spot.now.index ≡ Some c.in-Some.next = search rules in
      let second : places c.touch-2.new.self.cache ≡ least_recently_used c.touch.new.self.cache.cap (touches c.touch.new.self.cache (c.in-Some.next ∷ [])) = search rules in
      let one : OneTouch c.args.spot.now.place self.cache self.loads (g.H.Host.reads c.args.host.now) c.touch.new.self.cache c.touch.new.self.loads (g.H.Host.reads c.touch.new.host) = record {
        places_are = first;
        cap_stays = c.touch.ensures.only.stays.cap;
        hit = λ held. let k = c.touch.ensures.touched.hit held in (k.2, k.1);
        miss = λ missed. let k : Rose (g.H.Host.reads c.args.host.now) (g.H.Host.reads c.touch.new.host) × (c.touch.new.self.loads ≡ min (self.loads + 1) (2 ^ 64 - 1)) = search (rules, c.touch.ensures.touched.miss missed) in (k.1, k.0);
      } in
      let two : OneTouch c.in-Some.next c.touch.new.self.cache c.touch.new.self.loads (g.H.Host.reads c.touch.new.host) c.touch-2.new.self.cache c.touch-2.new.self.loads (g.H.Host.reads c.touch-2.new.host) = record {
        places_are = second;
        cap_stays = c.touch-2.ensures.only.stays.cap;
        hit = λ held. let k = c.touch-2.ensures.touched.hit held in (k.2, k.1);
        miss = λ missed. let k : Rose (g.H.Host.reads c.touch.new.host) (g.H.Host.reads c.touch-2.new.host) × (c.touch-2.new.self.loads ≡ min (c.touch.new.self.loads + 1) (2 ^ 64 - 1)) = search (rules, c.touch-2.ensures.touched.miss missed) in (k.1, k.0);
      } in
      subst (λ (u : Image). AllTouched (look_places (base self) (u self.log.file) c.args.spot.now) self.cache self.loads (g.H.Host.reads c.args.host.now) c.touch-2.new.self.cache c.touch-2.new.self.loads (g.H.Host.reads c.touch-2.new.host)) (one_image (g.H.Host.now c.args.host.now) v w told there)
      (subst (λ (l : List ℕ). AllTouched l self.cache self.loads (g.H.Host.reads c.args.host.now) c.touch-2.new.self.cache c.touch-2.new.self.loads (g.H.Host.reads c.touch-2.new.host)) (sym (look_two (base self) (v self.log.file) c.args.spot.now c.touch.new.self.cache c.in-Some.next lt mid turns))
      (c.touch.new.self.cache, c.touch.new.self.loads, g.H.Host.reads c.touch.new.host, one, (c.touch-2.new.self.cache, c.touch-2.new.self.loads, g.H.Host.reads c.touch-2.new.host, two, (refl, refl, refl))));
}

pub returns-clause-sought : goal.returns-clause-sought
returns-clause-sought g c = record {
  legal = λ v told was lt.
      let self = c.args.self.now in
      let view = view_of (base self) in
      let bytes = v self.log.file in
      let place = c.args.spot.now.place in
      let index = c.args.spot.now.index in
      let mid : IsCached view bytes c.touch.new.self.cache = c.touch.ensures.only.cached v told was in
      let eqF = ap (λ (b : Base). view_of b) c.touch.ensures.only.stays.base in
      let eqf = ap (λ (b : Base). b.file) c.touch.ensures.only.stays.base in
      let turns : next_in (item_at place c.touch.new.self.cache) index ≡ Some c.in-Some.next = search rules in
      let k = next_some (item_at place c.touch.new.self.cache) index c.in-Some.next turns in
      let h : (kept : Kept) × (item_at c.in-Some.next c.touch-2.new.self.cache ≡ Some kept) = search rules in
      let last : IsCached view bytes c.touch-2.new.self.cache = cached_same _ _ _ _ v c.touch-2.new.self.cache eqF eqf (c.touch-2.ensures.only.cached v (c.touch.ensures.only.leaves.now_stays ∙ told) (cached_same _ _ _ _ v c.touch.new.self.cache (sym eqF) (sym eqf) mid)) in
      record {
        here = chunk_legal view place k.0.next k.0.chunk bytes (mid place k.0 k.1);
        behind = λ chunk next at within is bad. chunk_legal view c.in-Some.next h.0.next h.0.chunk bytes (last c.in-Some.next h.0 h.1) (subst (λ (q : ℕ). IsIllegalBy view q bytes) (is_behind view bytes place index c.in-Some.next chunk next (one_next view bytes c.touch.new.self.cache place index c.in-Some.next mid turns) at is) bad);
      };
  reached = λ v told was so_far.
      let self = c.args.self.now in
      let view = view_of (base self) in
      let bytes = v self.log.file in
      let place = c.args.spot.now.place in
      let index = c.args.spot.now.index in
      let mid : IsCached view bytes c.touch.new.self.cache = c.touch.ensures.only.cached v told was in
      let eqF = ap (λ (b : Base). view_of b) c.touch.ensures.only.stays.base in
      let eqf = ap (λ (b : Base). b.file) c.touch.ensures.only.stays.base in
      let turns : next_in (item_at place c.touch.new.self.cache) index ≡ Some c.in-Some.next = search rules in
      let k = next_some (item_at place c.touch.new.self.cache) index c.in-Some.next turns in
      let h : (kept : Kept) × (item_at c.in-Some.next c.touch-2.new.self.cache ≡ Some kept) = search rules in
      let last : IsCached view bytes c.touch-2.new.self.cache = cached_same _ _ _ _ v c.touch-2.new.self.cache eqF eqf (c.touch-2.ensures.only.cached v (c.touch.ensures.only.leaves.now_stays ∙ told) (cached_same _ _ _ _ v c.touch.new.self.cache (sym eqF) (sym eqf) mid)) in
      or_holds_next (base self) bytes c.touch-2.new.self.cache c.args.spot.now (record { place = c.in-Some.next; index = 0; number = c.args.spot.now.number }) k.0.chunk h.0 (omega (arith, c.if-spot-self.false)) (mid place k.0 k.1 ∙ ap (λ (n : ℕ). Some (k.0.chunk, n)) k.3) k.2 refl refl last h.1 so_far;
  number = search rules;
  placed = search rules;
  spelled = λ sound spells.
      let v = sound.0 in
      let told : g.H.Host.now c.args.host.now ≡ Some v = sound.1 in
      let right = sound.2.right c.if-self.false in
      let lt : c.args.spot.now.number < c.args.self.now.committed = omega (arith, c.if-spot-self.false) in
      let mid : IsCached (view_of (base c.args.self.now)) (v c.args.self.now.log.file) c.touch.new.self.cache = c.touch.ensures.only.cached v told right.cached in
      let eqF = ap (λ (b : Base). view_of b) c.touch.ensures.only.stays.base in
      let eqf = ap (λ (b : Base). b.file) c.touch.ensures.only.stays.base in
      let turns : next_in (item_at c.args.spot.now.place c.touch.new.self.cache) c.args.spot.now.index ≡ Some c.in-Some.next = search rules in
      let h : (kept : Kept) × (item_at c.in-Some.next c.touch-2.new.self.cache ≡ Some kept) = search rules in
      let cached : IsCached (view_of (base c.args.self.now)) (v c.args.self.now.log.file) c.touch-2.new.self.cache = cached_same _ _ _ _ v c.touch-2.new.self.cache eqF eqf (c.touch-2.ensures.only.cached v (c.touch.ensures.only.leaves.now_stays ∙ told) (cached_same _ _ _ _ v c.touch.new.self.cache (sym eqF) (sym eqf) mid)) in
      (found_next (g.H.Host.now c.args.host.now) v (g.H.Host.may c.args.host.now) (base c.args.self.now) c.args.self.now.open.events c.args.self.now.next_offset c.args.self.now.last_time c.args.self.now.cache c.touch.new.self.cache c.touch-2.new.self.cache c.args.spot.now (record { place = c.in-Some.next; index = 0; number = c.args.spot.now.number }) h.0 c.in-Some.next told right spells lt mid turns refl refl refl cached h.1).0;
  finds = λ sound spells.
      let v = sound.0 in
      let told : g.H.Host.now c.args.host.now ≡ Some v = sound.1 in
      let right = sound.2.right c.if-self.false in
      let lt : c.args.spot.now.number < c.args.self.now.committed = omega (arith, c.if-spot-self.false) in
      let mid : IsCached (view_of (base c.args.self.now)) (v c.args.self.now.log.file) c.touch.new.self.cache = c.touch.ensures.only.cached v told right.cached in
      let eqF = ap (λ (b : Base). view_of b) c.touch.ensures.only.stays.base in
      let eqf = ap (λ (b : Base). b.file) c.touch.ensures.only.stays.base in
      let turns : next_in (item_at c.args.spot.now.place c.touch.new.self.cache) c.args.spot.now.index ≡ Some c.in-Some.next = search rules in
      let h : (kept : Kept) × (item_at c.in-Some.next c.touch-2.new.self.cache ≡ Some kept) = search rules in
      let cached : IsCached (view_of (base c.args.self.now)) (v c.args.self.now.log.file) c.touch-2.new.self.cache = cached_same _ _ _ _ v c.touch-2.new.self.cache eqF eqf (c.touch-2.ensures.only.cached v (c.touch.ensures.only.leaves.now_stays ∙ told) (cached_same _ _ _ _ v c.touch.new.self.cache (sym eqF) (sym eqf) mid)) in
      (found_next (g.H.Host.now c.args.host.now) v (g.H.Host.may c.args.host.now) (base c.args.self.now) c.args.self.now.open.events c.args.self.now.next_offset c.args.self.now.last_time c.args.self.now.cache c.touch.new.self.cache c.touch-2.new.self.cache c.args.spot.now (record { place = c.in-Some.next; index = 0; number = c.args.spot.now.number }) h.0 c.in-Some.next told right spells lt mid turns refl refl refl cached h.1).1;
}

pub returns-then-spot-self-clause-loads : goal.returns-then-spot-self-clause-loads
returns-then-spot-self-clause-loads g c = record {
  touched = search rules;
  all_touched = λ sound spells w there.
      let self = c.args.self.now in
      sym (ap (held_after self.cache) (look_far (base self) (w self.log.file) c.args.spot.now (omega (arith, c.if-spot-self.true))));
  loaded = λ sound spells w there.
      let self = c.args.self.now in
      let far : self.committed ≤ c.args.spot.now.number = omega (arith, c.if-spot-self.true) in
      subst (λ (l : List ℕ). AllTouched l self.cache self.loads (g.H.Host.reads c.args.host.now) self.cache self.loads (g.H.Host.reads c.args.host.now)) (sym (look_far (base self) (w self.log.file) c.args.spot.now far)) (refl, refl, refl);
}

pub returns-in-Err-clause-stops : goal.returns-in-Err-clause-stops
returns-in-Err-clause-stops g c = record {
  ended = search rules;
  faults = search rules;
  damaged = search rules;
  never_damaged = λ p sound spells e.
      let v = sound.0 in
      let told : g.H.Host.now c.args.host.now ≡ Some v = sound.1 in
      let lt : c.args.spot.now.number < c.args.self.now.committed = omega (arith, c.if-spot-self.false) in
      let i = near (g.H.Host.now c.args.host.now) v (base c.args.self.now) c.args.self.now.open.events c.args.spot.now told spells lt in
      c.in-Err.ensures.touched.never_damaged v i.chunk i.next p told i.here (err_moves c.in-Err.fault (Damaged p) e);
  disk = search rules;
}

pub returns-in-Err-touch-clause-stops : goal.returns-in-Err-touch-clause-stops
returns-in-Err-touch-clause-stops g c = record {
  ended = search rules;
  faults = search rules;
  damaged = search rules;
  never_damaged = λ p sound spells e.
      let v = sound.0 in
      let told : g.H.Host.now c.args.host.now ≡ Some v = sound.1 in
      let right = sound.2.right c.if-self.false in
      let lt : c.args.spot.now.number < c.args.self.now.committed = omega (arith, c.if-spot-self.false) in
      let mid : IsCached (view_of (base c.args.self.now)) (v c.args.self.now.log.file) c.touch.new.self.cache = c.touch.ensures.only.cached v told right.cached in
      let turns : next_in (item_at c.args.spot.now.place c.touch.new.self.cache) c.args.spot.now.index ≡ Some c.in-Some.next = search rules in
      let f = turn (g.H.Host.now c.args.host.now) v (g.H.Host.may c.args.host.now) (base c.args.self.now) c.args.self.now.open.events c.args.self.now.next_offset c.args.self.now.last_time c.args.self.now.cache c.touch.new.self.cache c.args.spot.now c.in-Some.next told right spells lt mid turns in
      let here = ap (λ (b : Base). chunk_at (view_of b) c.in-Some.next (v b.file)) c.touch.ensures.only.stays.base ∙ f.chunk.here in
      c.in-Err-touch.ensures.touched.never_damaged v f.chunk.chunk f.chunk.next p (c.touch.ensures.only.leaves.now_stays ∙ told) here (err_moves c.in-Err-touch.fault (Damaged p) e);
  disk = search rules;
}
