-- What the calls of a past over a disk leave.
use Rattle.std.proofs.Common.{◌≡◌, ◌∙◌, ◌⊎◌, inl, inr, ℕ, ◌+◌, ◌^◌, ◌≤◌, ◌<◌, true, false, List, [], ◌∷◌, ◌++◌, length, Option, Some, None, Result, Ok, Err, IfSome, IsErrOf, sym, ap, subst, arith, append_assoc}
use Rattle.std.proofs.lemmas.List.{append-nil}
use Rattle.std.specs.List.{AllByRecursion}
use Rattle.std.specs.Borrow.{MutBor}
use Rattle.std.specs.Option.{ForSome}
use Rattle.rg_host.specs.Image.{Image, SameOutcomes}
use Rattle.rg_event.specs.Codec.{IsEventOf}
use Rattle.rg_event.specs.declared.event.Event.{Event}
use Rattle.rg_event.specs.Rising.{IsRising, MayFollow, next_offset, last_time}
use Rattle.rg_past.specs.declared.past.Spot.{Spot}
use Rattle.rg_event.proofs.Laws.{IsRising-push, next_offset-push, last_time-push}
use Rattle.rg_host.specs.Moments.{Moment, LeavesAll}
use Rattle.rg_host.proofs.Laws.{leaves_all-none}
use Rattle.rg_cache.specs.Cache.{Cache}
use Rattle.rg_reservoir.specs.declared.kept.Kept.{Kept}
use Rattle.rg_reservoir.specs.declared.reservoir.Reservoir.{Reservoir}
use Rattle.rg_log.specs.Log.{joined}
use Rattle.rg_reservoir.specs.Chain.{chunk_at, Chain, IsIllegalBy}
use Rattle.rg_reservoir.specs.Kept.{Base, base, view_of, room_of, stored, all_events, IsCached, IsInside, IsRight, IsSoundIn, IsSound, InChunk, InFront, InOpen, count_of, LaterSettled, Spells, SpellsLater, Stays, seen}
use Rattle.rg_reservoir.specs.Views.{passed}
use Rattle.rg_reservoir.specs.Going.{Goes}
use Rattle.rg_reservoir.specs.GoingLaws.{not_false, spells_here}
use Rattle.rg_reservoir.proofs.Seeking.{one_image}
use Rattle.rg_reservoir.proofs.Settling.{first_rests, end_rests, chunk_rests}

-- fewer outcomes of a crash, and another cache that is right
sound_cache : (v : Image) (may after : Image → Type 0) (b : Base) (opened : List Event) (next time : ℕ) (cache new : Cache Kept) → ((u : Image) → after u → may u) → (IsCached (view_of b) (v b.file) cache → IsCached (view_of b) (v b.file) new) → (IsInside b.end cache → IsInside b.end new)
    → IsSoundIn v may b opened next time cache → IsSoundIn v after b opened next time new
sound_cache v may after b opened next time cache new fewer kept stay sound = record {
  each = λ u left. sound.each u (fewer u left);
  right = λ going. let r = sound.right going in record {
    settled = λ u left. r.settled u (fewer u left);
    stages = r.stages;
    view = r.view;
    first_is = r.first_is;
    chunks = r.chunks;
    chain = r.chain;
    ends = r.ends;
    payloads = r.payloads;
    has = r.has;
    end_is = r.end_is;
    legal = r.legal;
    framed = r.framed;
    counted = r.counted;
    cached = kept r.cached;
    inside = stay r.inside;
    rising = r.rising;
    next_is = r.next_is;
    time_is = r.time_is;
    fits = r.fits;
    few = r.few;
  };
}

-- what is sound stays so where only the cache changes
pub sound_stays :
    (now then : Option Image) (may after : Image → Type 0) (old new : Reservoir) → then ≡ now → SameOutcomes may after → Stays old new
    → ((v : Image) → now ≡ Some v → IsCached (view_of (base old)) (v old.log.file) old.cache → IsCached (view_of (base old)) (v old.log.file) new.cache) → (IsInside old.log.end old.cache → IsInside old.log.end new.cache) → IsSound now may old → IsSound then after new
sound_stays now then may after old new same outcomes stays kept stay sound =
    let s0 = sound_cache sound.0 may after (base old) old.open.events old.next_offset old.last_time old.cache new.cache outcomes.no_more (kept sound.0 sound.1) stay sound.2 in
    let s1 = subst (λ (b : Base). IsSoundIn sound.0 after b old.open.events old.next_offset old.last_time new.cache) (sym stays.base) s0 in
    let s2 = subst (λ (l : List Event). IsSoundIn sound.0 after (base new) l old.next_offset old.last_time new.cache) (sym stays.opened) s1 in
    let s3 = subst (λ (n : ℕ). IsSoundIn sound.0 after (base new) new.open.events n old.last_time new.cache) (sym stays.next) s2 in
    (sound.0, same ∙ sound.1, subst (λ (n : ℕ). IsSoundIn sound.0 after (base new) new.open.events new.next_offset n new.cache) (sym stays.time) s3)

all_push : (P : Event → Type 0) (xs : List Event) (x : Event) → AllByRecursion P xs → P x → AllByRecursion P (xs ++ x ∷ [])
all_push P [] x all here = (here, tt)
all_push P (y ∷ xs) x all here = (all.0, all_push P xs x all.1 here)

sound_added : (v : Image) (may : Image → Type 0) (b : Base) (opened : List Event) (next time : ℕ) (cache : Cache Kept) (e : Event) → (b.ended ≡ false → MayFollow (all_events (Some v) b opened) e) → IsEventOf b.shape.fields e → b.committed + length (opened ++ e ∷ []) ≤ 2 ^ 40
    → IsSoundIn v may b opened next time cache → IsSoundIn v may b (opened ++ e ∷ []) (e.offset + 1) e.time cache
sound_added v may b opened next time cache e follows fits few sound =
    let all : all_events (Some v) b (opened ++ e ∷ []) ≡ all_events (Some v) b opened ++ e ∷ [] = sym (append_assoc (stored (Some v) b) opened (e ∷ [])) in
    record {
      each = λ u left. let s = sound.each u left in (s.0, s.1, s.2, s.3, (s.4.0 ++ e ∷ [], all ∙ ap (λ (l : List Event). l ++ e ∷ []) s.4.1 ∙ append_assoc s.0 s.4.0 (e ∷ [])));
      right = λ going. let r = sound.right going in record {
        settled = r.settled;
        stages = r.stages;
        view = r.view;
        first_is = r.first_is;
        chunks = r.chunks;
        chain = r.chain;
        ends = r.ends;
        payloads = r.payloads;
        has = r.has;
        end_is = r.end_is;
        legal = r.legal;
        framed = r.framed;
        counted = r.counted;
        cached = r.cached;
        inside = r.inside;
        rising = subst IsRising (sym all) (IsRising-push (all_events (Some v) b opened) e r.rising (follows going));
        next_is = sym (ap next_offset all ∙ next_offset-push (all_events (Some v) b opened) e);
        time_is = sym (ap last_time all ∙ last_time-push (all_events (Some v) b opened) e);
        fits = all_push (IsEventOf b.shape.fields) opened e r.fits fits;
        few = few;
      };
    }

pub sound_append :
    (now : Option Image) (may : Image → Type 0) (old new : Reservoir) (e : Event) → ((base old).ended ≡ false → MayFollow (all_events now (base old) old.open.events) e) → IsEventOf old.schema.fields e
    → base new ≡ base old → new.cache ≡ old.cache → new.open.events ≡ old.open.events ++ e ∷ [] → new.next_offset ≡ e.offset + 1 → new.last_time ≡ e.time → (base new).committed + length new.open.events ≤ 2 ^ 40 → IsSound now may old → IsSound now may new
sound_append now may old new e follows fits same cache added next time few sound =
    let f = λ (going : (base old).ended ≡ false). subst (λ (n : Option Image). MayFollow (all_events n (base old) old.open.events) e) sound.1 (follows going) in
    let s0 = sound_added sound.0 may (base old) old.open.events old.next_offset old.last_time old.cache e f fits (omega (arith, few, ap (λ (b : Base). b.committed) same, ap length added)) sound.2 in
    let s1 = subst (λ (b : Base). IsSoundIn sound.0 may b (old.open.events ++ e ∷ []) (e.offset + 1) e.time old.cache) (sym same) s0 in
    let s2 = subst (λ (l : List Event). IsSoundIn sound.0 may (base new) l (e.offset + 1) e.time old.cache) (sym added) s1 in
    let s3 = subst (λ (n : ℕ). IsSoundIn sound.0 may (base new) new.open.events n e.time old.cache) (sym next) s2 in
    let s4 = subst (λ (n : ℕ). IsSoundIn sound.0 may (base new) new.open.events new.next_offset n old.cache) (sym time) s3 in
    (sound.0, sound.1, subst (λ (c : Cache Kept). IsSoundIn sound.0 may (base new) new.open.events new.next_offset new.last_time c) (sym cache) s4)

-- the next spot
pub advanced : (now : Option Image) (b : Base) (opened : List Event) (old spot : Spot) → old.number < count_of b opened → spot.place ≡ old.place → spot.index ≡ old.index + 1 → spot.number ≡ old.number + 1 → SpellsLater now b opened old → Spells now b opened spot
advanced now b opened old spot lt place index number later =
    let there = later.there in
    let rests : passed b.growths spot.place ≡ spot.place = subst (λ (p : ℕ). passed b.growths p ≡ p) (sym place) later.at in
    spells_here now b opened spot (record { image = there.image; told = there.told; number = omega (arith, lt, number); spelling = by there.spelling; at = rests })
  where
    by : ((old.number < b.committed) × InFront b (later.there.image b.file) old.place old.index old.number) ⊎ InOpen b old.place old.index old.number → ((spot.number ≤ b.committed) × InChunk b (later.there.image b.file) spot.place spot.index spot.number) ⊎ InOpen b spot.place spot.index spot.number
    by (inl f) = let i = f.1.chunk in inl (
      omega (arith, f.0, number),
      record {
        chunks = i.chunks;
        chunk = i.chunk;
        next = i.next;
        chain = subst (λ (p : ℕ). Chain (view_of b) (later.there.image b.file) b.first i.chunks p) (sym place) i.chain;
        here = subst (λ (p : ℕ). chunk_at (view_of b) p (later.there.image b.file) ≡ Some (i.chunk, i.next)) (sym place) i.here;
        number_is = omega (arith, number, index, i.number_is);
        most = omega (arith, f.1.within, index);
      },
    )
    by (inr o) = inr (record { place_is = place ∙ o.place_is; number_is = omega (arith, number, index, o.number_is) })

-- the first spot
pub started : (now : Option Image) (v : Image) (may : Image → Type 0) (b : Base) (opened : List Event) (next time : ℕ) (cache : Cache Kept) (spot : Spot) → now ≡ Some v → IsRight v may b opened next time cache → spot.place ≡ b.first → spot.index ≡ 0 → spot.number ≡ 0 → Spells now b opened spot
started now v may b opened next time cache spot told right place index number =
    let rests : passed b.growths spot.place ≡ spot.place = subst (λ (p : ℕ). passed b.growths p ≡ p) (sym place) (first_rests v may b opened next time cache right) in
    spells_here now b opened spot (record { image = v; told = told; number = omega (arith, number); spelling = by right.chunks right.chain right.counted; at = rests })
  where
    by : (chunks : List (List Event)) → Chain (view_of b) (v b.file) b.first chunks b.end → length (joined chunks) ≡ b.committed → ((spot.number ≤ b.committed) × InChunk b (v b.file) spot.place spot.index spot.number) ⊎ InOpen b spot.place spot.index spot.number
    by [] chain counted = inr (record { place_is = place ∙ chain; number_is = omega (arith, number, index, counted) })
    by (c ∷ chunks) chain counted = inl (
      omega (arith, number),
      record {
        chunks = [];
        chunk = c;
        next = chain.0;
        chain = sym place;
        here = subst (λ (p : ℕ). chunk_at (view_of b) p (v b.file) ≡ Some (c, chain.0)) (sym place) chain.1;
        number_is = omega (arith, number, index);
        most = omega (arith, index);
      },
    )

pub true_false : true ≡ false → ⊥
true_false e = cc

-- over a sound reservoir no growth stands where a spot is in its later spelling
later_in : (v : Image) (may : Image → Type 0) (b : Base) (opened : List Event) (next time : ℕ) (cache : Cache Kept) (spot : Spot) → IsRight v may b opened next time cache
    → ((spot.number < b.committed) × InFront b (v b.file) spot.place spot.index spot.number) ⊎ InOpen b spot.place spot.index spot.number → passed b.growths spot.place ≡ spot.place
later_in v may b opened next time cache spot right (inl f) = chunk_rests v may b opened next time cache right spot.place spot.index spot.number f.1.chunk
later_in v may b opened next time cache spot right (inr o) = subst (λ (p : ℕ). passed b.growths p ≡ p) (sym o.place_is) (end_rests v may b opened next time cache right)

pub later_rests : (now : Option Image) (may : Image → Type 0) (r : Reservoir) (spot : Spot) → ((base r).ended ≡ true → ⊥) → IsSound now may r → LaterSettled now (base r) r.open.events spot → SpellsLater now (base r) r.open.events spot
later_rests now may r spot going sound later =
    let same = one_image now later.image sound.0 later.told sound.1 in
    let b = base r in
    let spelling : ((spot.number < b.committed) × InFront b (sound.0 b.file) spot.place spot.index spot.number) ⊎ InOpen b spot.place spot.index spot.number =
    subst (λ (u : Image). ((spot.number < b.committed) × InFront b (u b.file) spot.place spot.index spot.number) ⊎ InOpen b spot.place spot.index spot.number) same later.spelling in
    record { there = later; at = later_in sound.0 may b r.open.events r.next_offset r.last_time r.cache spot (sound.2.right (not_false b.ended going)) spelling }

-- what stays where only the cache changes
pub events_stay : (now then : Option Image) (old new : Reservoir) → then ≡ now → Stays old new → all_events then (base new) new.open.events ≡ all_events now (base old) old.open.events
events_stay now then old new same stays =
    ap (λ (n : Option Image). all_events n (base new) new.open.events) same ∙ ap (λ (b : Base). all_events now b new.open.events) stays.base ∙ ap (λ (l : List Event). all_events now (base old) l) stays.opened

pub spells_stay : (now then : Option Image) (old new : Reservoir) (s : Spot) → then ≡ now → Stays old new → Spells now (base old) old.open.events s → Spells then (base new) new.open.events s
spells_stay now then old new s same stays spells =
    let s1 = subst (λ (n : Option Image). Spells n (base old) old.open.events s) (sym same) spells in
    let s2 = subst (λ (b : Base). Spells then b old.open.events s) (sym stays.base) s1 in
    subst (λ (l : List Event). Spells then (base new) l s) (sym stays.opened) s2

pub later_stays : (now then : Option Image) (old new : Reservoir) (s : Spot) → then ≡ now → Stays old new → SpellsLater now (base old) old.open.events s → SpellsLater then (base new) new.open.events s
later_stays now then old new s same stays spells =
    let s1 = subst (λ (n : Option Image). SpellsLater n (base old) old.open.events s) (sym same) spells in
    let s2 = subst (λ (b : Base). SpellsLater then b old.open.events s) (sym stays.base) s1 in
    subst (λ (l : List Event). SpellsLater then (base new) l s) (sym stays.opened) s2

pub illegal_stays : (now then : Option Image) (old new : Reservoir) (p : ℕ) → then ≡ now → Stays old new → ForSome now (λ v. IsIllegalBy (view_of (base old)) p (v old.log.file)) → ForSome then (λ v. IsIllegalBy (view_of (base new)) p (v new.log.file))
illegal_stays now then old new p same stays illegal = λ v told.
    let i = illegal v (sym same ∙ told) in
    subst (λ (b : Base). IsIllegalBy (view_of b) p (v b.file)) (sym stays.base) i

pub seen_stays : (old new : Reservoir) (spot : Spot) → Stays old new → seen new.committed new.open.events new.cache spot ≡ seen (base old).committed old.open.events new.cache spot
seen_stays old new spot stays = ap (λ (b : Base). seen b.committed new.open.events new.cache spot) stays.base ∙ ap (λ (l : List Event). seen (base old).committed l new.cache spot) stays.opened

abbrev err_in : {A E : Type 0} → E → Result A E → E
err_in d (Err e) = e
err_in d (Ok x) = d

pub err_is : {A E : Type 0} (f e : E) → IsErrOf {T = A} (Err f) e → f ≡ e
err_is f e p = ap (err_in f) p

pub err_moves : {A B E : Type 0} (f e : E) → IsErrOf {T = A} (Err f) e → IsErrOf {T = B} (Err f) e
err_moves f e p = ap (λ x. Err x) (ap (err_in f) p)

pub ok_not_err : {A E : Type 0} (x : A) (e : E) → IsErrOf {E = E} (Ok x) e → ⊥
ok_not_err x e p = cc

pub some_map : {A : Type 0} (o : Option A) (P Q : A → Type 0) → ((x : A) → P x → Q x) → IfSome o P → IfSome o Q
some_map None P Q f h = h
some_map (Some x) P Q f h = f x h

-- how a seek goes on
module _ {H : Type 0} (now : H → Option Image) (may : H → Image → Type 0) (clock : H → ℕ) (since : H → ℕ → Moment → Type 0) (said : H → Option (List ℕ)) (out_faults : H → ℕ) where
  pub goes_seek :
      (pr : MutBor Reservoir) (ph : MutBor H) (qr : MutBor Reservoir) (qh : MutBor H) → qr.ghost_name ≡ pr.ghost_name → qh.ghost_name ≡ ph.ghost_name → Stays pr.now qr.now → LeavesAll now may clock since said ph.now qh.now → out_faults qh.now ≡ out_faults ph.now
      → ((v : Image) → now ph.now ≡ Some v → IsCached (view_of (base pr.now)) (v pr.now.log.file) pr.now.cache → IsCached (view_of (base pr.now)) (v pr.now.log.file) qr.now.cache) → (IsInside pr.now.log.end pr.now.cache → IsInside pr.now.log.end qr.now.cache) → Goes now may clock since said out_faults pr ph qr qh
  goes_seek pr ph qr qh r h stays leaves outs kept stay = record {
    same_reservoir = r;
    same_host = h;
    base = stays.base;
    room = stays.room;
    cap = stays.cap;
    leaves = leaves;
    outs_stay = outs;
    added = ([], stays.opened ∙ sym (append-nil pr.now.open.events));
    cached = kept;
    sound = sound_stays (now ph.now) (now qh.now) (may ph.now) (may qh.now) pr.now qr.now leaves.now_stays leaves.may_stays stays kept stay;
  }

  pub goes_append :
      ((h : H) (m : Moment) → since h (clock h) m → may h m.image × ForSome (said h) (λ s. m.said ≡ s)) → ((h : H) (t u : ℕ) (m : Moment) → t ≤ u → since h u m → since h t m)
      → (pr : MutBor Reservoir) (ph : MutBor H) (qr : MutBor Reservoir) (qh : MutBor H) → qr.ghost_name ≡ pr.ghost_name → qh.ghost_name ≡ ph.ghost_name → qh.now ≡ ph.now → base qr.now ≡ base pr.now → room_of qr.now ≡ room_of pr.now → qr.now.cache ≡ pr.now.cache
      → (events : List Event) → qr.now.open.events ≡ pr.now.open.events ++ events → (IsSound (now ph.now) (may ph.now) pr.now → IsSound (now ph.now) (may ph.now) qr.now) → Goes now may clock since said out_faults pr ph qr qh
  goes_append only sinks pr ph qr qh r h same base_is room cache events added sound = record {
    same_reservoir = r;
    same_host = h;
    base = base_is;
    room = room;
    cap = ap (λ (c : Cache Kept). c.cap) cache;
    leaves = subst (λ (w : H). LeavesAll now may clock since said ph.now w) (sym same) (leaves_all-none now may clock since said ph.now (λ t u m le left. sinks ph.now t u m le left) (λ m left. only ph.now m left));
    outs_stay = ap out_faults same;
    added = (events, added);
    cached = λ v told was. subst (λ (c : Cache Kept). IsCached (view_of (base pr.now)) (v (base pr.now).file) c) (sym cache) was;
    sound = λ was. subst (λ (w : H). IsSound (now w) (may w) qr.now) (sym same) (sound was);
  }
