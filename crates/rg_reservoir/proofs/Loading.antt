-- The touches of a load ahead.
use Rattle.std.proofs.Common.{◌≡◌, ◌∙◌, inl, inr, ℕ, ◌+◌, ◌-◌, ◌^◌, min, ◌≤◌, ◌<◌, ◌==◌, nat_lt, Bool, true, false, List, [], ◌∷◌, ◌++◌, length, take, drop, reverse, get_or, Option, Some, None, refl, sym, ap, subst, arith, append_assoc}
use Rattle.std.specs.Prelude.{IsTrue}
use Rattle.std.proofs.lemmas.List.{append-nil, take_more, take-append-drop}
use Rattle.std.proofs.lemmas.Bool.{ltb-true}
use Rattle.rg_host.specs.Image.{Image, SameOutcomes}
use Rattle.rg_host.specs.Moments.{Moment}
use Rattle.rg_host.proofs.Laws.{leaves_all-then}
use Rattle.rg_event.specs.declared.event.Event.{Event}
use Rattle.rg_reservoir.specs.Views.{View}
use Rattle.rg_past.specs.declared.past.Spot.{Spot}
use Rattle.rg_bytes.specs.Counts.{Rose}
use Rattle.rg_cache.specs.Cache.{Cache, item_at, holds_place, places, least_recently_used, touches}
use Rattle.rg_cache.proofs.Laws.{touched_further}
use Rattle.rg_reservoir.specs.declared.kept.Kept.{Kept}
use Rattle.rg_reservoir.specs.Chain.{chunk_at, Chain}
use Rattle.rg_reservoir.specs.Kept.{Base, base, view_of, opened, next_of, time_of, cache_of, settled, IsCached, IsInside, IsRight, IsSoundIn, IsSound, InChunk, Stays, next_in, look_places, held_after, OneTouch, AllTouched}
use Rattle.rg_reservoir.specs.declared.reservoir.Reservoir.{Reservoir}
use Rattle.rg_reservoir.specs.Ahead.{event_place, closed_behind, ahead_places, all_ahead, closed_next, Picks, OneLoad, AllLoaded, SomeTouched, OnlyLoads}
use Rattle.rg_reservoir.proofs.Chains.{chain_split}
use Rattle.rg_reservoir.proofs.Committing.{chain_behind}
use Rattle.rg_reservoir.proofs.Fetching.{fetch_none}
use Rattle.rg_reservoir.proofs.Peeking.{sound_stays}
use Rattle.rg_reservoir.proofs.Seeking.{one_image, if_true, if_false, le_true, le_false, eq_true, next_some}
use Rattle.rg_reservoir.proofs.Touching.{look_one, look_two}

-- Some of some places.

pub picks_none : (wanted : List ℕ) → Picks [] wanted
picks_none [] = refl
picks_none (place ∷ wanted) = inl (picks_none wanted)

pub picks_all : (wanted : List ℕ) → Picks wanted wanted
picks_all [] = refl
picks_all (place ∷ wanted) = inr (wanted, refl, picks_all wanted)

pub picks_front : (front back : List ℕ) → Picks front (front ++ back)
picks_front [] back = picks_none back
picks_front (place ∷ front) back = inr (front, refl, picks_front front back)

pub picks_then : (one two first second : List ℕ) → Picks one first → Picks two second → Picks (one ++ two) (first ++ second)
picks_then one two [] second here there = subst (λ (l : List ℕ). Picks (l ++ two) second) (sym here) there
picks_then one two (place ∷ first) second (inl here) there = inl (picks_then one two first second here there)
picks_then one two (place ∷ first) second (inr here) there = inr (here.0 ++ two, ap (λ (l : List ℕ). l ++ two) here.1, picks_then here.0 two first second here.2 there)

-- Touches one after another.

pub loaded_then : (one two : List ℕ) (old mid new : Cache Kept) (loads loads_mid loads_then : ℕ) → AllLoaded one old mid loads loads_mid → AllLoaded two mid new loads_mid loads_then → AllLoaded (one ++ two) old new loads loads_then
loaded_then [] two old mid new loads loads_mid loads_then first second =
    subst (λ (c : Cache Kept). AllLoaded two c new loads loads_then) first.0 (subst (λ (n : ℕ). AllLoaded two mid new n loads_then) first.1 second)
loaded_then (place ∷ one) two old mid new loads loads_mid loads_then first second = (first.0, first.1, first.2, loaded_then one two first.0 mid new first.1 loads_mid loads_then first.3 second)

pub touched_then : (one two : List ℕ) (old mid new : Cache Kept) (loads loads_mid loads_then reads reads_mid reads_then : ℕ) → AllTouched one old loads reads mid loads_mid reads_mid → AllTouched two mid loads_mid reads_mid new loads_then reads_then
    → AllTouched (one ++ two) old loads reads new loads_then reads_then
touched_then [] two old mid new loads loads_mid loads_then reads reads_mid reads_then first second =
    subst (λ (c : Cache Kept). AllTouched two c loads reads new loads_then reads_then) first.0
    (subst (λ (n : ℕ). AllTouched two mid n reads new loads_then reads_then) first.1 (subst (λ (n : ℕ). AllTouched two mid loads_mid n new loads_then reads_then) first.2 second))
touched_then (place ∷ one) two old mid new loads loads_mid loads_then reads reads_mid reads_then first second =
    (first.0, first.1, first.2, first.3, touched_then one two first.0 mid new first.1 loads_mid loads_then first.2 reads_mid reads_then first.4 second)

-- the places that are held after some touches
pub loaded_held : (done : List ℕ) (old new : Cache Kept) (loads loads_then : ℕ) → AllLoaded done old new loads loads_then → places new ≡ held_after old done
loaded_held [] old new loads loads_then all = ap places all.0
loaded_held (place ∷ []) old new loads loads_then all = ap places all.3.0 ∙ all.2.places_are
loaded_held (place ∷ (next ∷ done)) old new loads loads_then all =
    loaded_held (next ∷ done) all.0 new all.1 loads_then all.3
    ∙ ap (λ (k : ℕ). least_recently_used k (reverse (places all.0) ++ next ∷ done)) all.2.cap_stays
    ∙ ap (λ (l : List ℕ). least_recently_used old.cap (reverse l ++ next ∷ done)) all.2.places_are
    ∙ touched_further old.cap (reverse (places old) ++ place ∷ []) (next ∷ done)
    ∙ ap (least_recently_used old.cap) (append_assoc (reverse (places old)) (place ∷ []) (next ∷ done))

pub some_by : (wanted done : List ℕ) (old new : Cache Kept) (loads loads_then : ℕ) → Picks done wanted → AllLoaded done old new loads loads_then → SomeTouched wanted old new loads loads_then
some_by wanted done old new loads loads_then picked all = record { done = done; picked = picked; each = all; held = loaded_held done old new loads loads_then all }

pub some_none : (wanted : List ℕ) (old new : Cache Kept) (loads loads_then : ℕ) → new ≡ old → loads_then ≡ loads → SomeTouched wanted old new loads loads_then
some_none wanted old new loads loads_then same count = some_by wanted [] old new loads loads_then (picks_none wanted) (same, count)

pub some_then : (one two : List ℕ) (old mid new : Cache Kept) (loads loads_mid loads_then : ℕ) → SomeTouched one old mid loads loads_mid → SomeTouched two mid new loads_mid loads_then → SomeTouched (one ++ two) old new loads loads_then
some_then one two old mid new loads loads_mid loads_then first second =
    some_by (one ++ two) (first.done ++ second.done) old new loads loads_then (picks_then first.done second.done one two first.picked second.picked) (loaded_then first.done second.done old mid new loads loads_mid loads_then first.each second.each)

-- a touch of a place where a chunk is held then
pub touch_one : (place : ℕ) (old new : Cache Kept) (loads loads_then reads reads_then : ℕ) → places new ≡ least_recently_used old.cap (touches old (place ∷ [])) → new.cap ≡ old.cap
    → (IsTrue (holds_place place old) → (reads_then ≡ reads) × (loads_then ≡ loads)) → (holds_place place old ≡ false → Rose reads reads_then × (loads_then ≡ min (loads + 1) (2 ^ 64 - 1)))
    → OneTouch place old loads reads new loads_then reads_then
touch_one place old new loads loads_then reads reads_then first cap hit miss = record {
  places_are = first;
  cap_stays = cap;
  hit = λ held. let k = hit held in (k.1, k.0);
  miss = λ missed. let k = miss missed in (k.1, k.0);
}

pub load_of : (place : ℕ) (old new : Cache Kept) (loads loads_then reads reads_then : ℕ) → OneTouch place old loads reads new loads_then reads_then → OneLoad place old new loads loads_then
load_of place old new loads loads_then reads reads_then one = record { places_are = one.places_are; cap_stays = one.cap_stays; hit = λ held. (one.hit held).0; miss = λ missed. (one.miss missed).0 }

pub one_load : (place : ℕ) (old new : Cache Kept) (loads loads_then : ℕ) → OneLoad place old new loads loads_then → AllLoaded (place ∷ []) old new loads loads_then
one_load place old new loads loads_then one = (new, loads_then, one, (refl, refl))

pub one_touch : (place : ℕ) (old new : Cache Kept) (loads loads_then reads reads_then : ℕ) → OneTouch place old loads reads new loads_then reads_then → AllTouched (place ∷ []) old loads reads new loads_then reads_then
one_touch place old new loads loads_then reads reads_then one = (new, loads_then, reads_then, one, (refl, refl, refl))

-- The places of a load ahead.

pub ahead_far : (b : Base) (bytes : List ℕ) (spot : Spot) → b.committed ≤ spot.number → ahead_places b bytes spot ≡ []
ahead_far b bytes spot far = if_true _ _ _ (le_true _ _ far)

ahead_near : (b : Base) (bytes : List ℕ) (spot : Spot) → spot.number < b.committed →
    ahead_places b bytes spot ≡ look_places b bytes spot ++ closed_behind b.end (chunk_at (view_of b) (event_place (chunk_at (view_of b) spot.place bytes) spot.index spot.place) bytes)
ahead_near b bytes spot near = if_false _ _ _ (le_false _ _ near)

-- where the event's chunk is that at the spot's place
event_here : (view : View) (bytes : List ℕ) (cache : Cache Kept) (place index : ℕ) (kept : Kept) → IsCached view bytes cache → item_at place cache ≡ Some kept → next_in (item_at place cache) index ≡ None → event_place (chunk_at view place bytes) index place ≡ place
event_here view bytes cache place index kept cached held none = ap (λ o. event_place o index place) (cached place kept held) ∙ by (index == length kept.chunk) refl
  where
    by : (c : Bool) → (index == length kept.chunk) ≡ c → event_place (Some (kept.chunk, kept.next)) index place ≡ place
    by true t = let f : Some kept.next ≡ None = sym (if_true _ _ _ t) ∙ sym (ap (λ o. next_in o index) held) ∙ none in absurd cc
    by false f = if_false _ _ _ f

-- where it is the next one
event_next : (view : View) (bytes : List ℕ) (cache : Cache Kept) (place index n : ℕ) → IsCached view bytes cache → next_in (item_at place cache) index ≡ Some n → event_place (chunk_at view place bytes) index place ≡ n
event_next view bytes cache place index n cached some =
    let k = next_some (item_at place cache) index n some in
    ap (λ o. event_place o index place) (cached place k.0 k.1) ∙ if_true _ _ _ (eq_true index (length k.0.chunk) k.2) ∙ k.3

pub ahead_one : (b : Base) (bytes : List ℕ) (spot : Spot) (mid : Cache Kept) (kept : Kept) → spot.number < b.committed → IsCached (view_of b) bytes mid → item_at spot.place mid ≡ Some kept → next_in (item_at spot.place mid) spot.index ≡ None →
    ahead_places b bytes spot ≡ (spot.place ∷ []) ++ closed_behind b.end (chunk_at (view_of b) spot.place bytes)
ahead_one b bytes spot mid kept near cached held none =
    ahead_near b bytes spot near ∙ ap (λ (l : List ℕ). l ++ closed_behind b.end (chunk_at (view_of b) (event_place (chunk_at (view_of b) spot.place bytes) spot.index spot.place) bytes)) (look_one b bytes spot mid kept near cached held none)
    ∙ ap (λ (p : ℕ). (spot.place ∷ []) ++ closed_behind b.end (chunk_at (view_of b) p bytes)) (event_here (view_of b) bytes mid spot.place spot.index kept cached held none)

pub ahead_two : (b : Base) (bytes : List ℕ) (spot : Spot) (mid : Cache Kept) (n : ℕ) → spot.number < b.committed → IsCached (view_of b) bytes mid → next_in (item_at spot.place mid) spot.index ≡ Some n →
    ahead_places b bytes spot ≡ (spot.place ∷ (n ∷ [])) ++ closed_behind b.end (chunk_at (view_of b) n bytes)
ahead_two b bytes spot mid n near cached some =
    ahead_near b bytes spot near ∙ ap (λ (l : List ℕ). l ++ closed_behind b.end (chunk_at (view_of b) (event_place (chunk_at (view_of b) spot.place bytes) spot.index spot.place) bytes)) (look_two b bytes spot mid n near cached some)
    ∙ ap (λ (p : ℕ). (spot.place ∷ (n ∷ [])) ++ closed_behind b.end (chunk_at (view_of b) p bytes)) (event_next (view_of b) bytes mid spot.place spot.index n cached some)

-- The chunk behind one that is held.

pub behind_held : (end : ℕ) (view : View) (bytes : List ℕ) (cache : Cache Kept) (place : ℕ) (kept : Kept) → IsCached view bytes cache → item_at place cache ≡ Some kept → closed_behind end (chunk_at view place bytes) ≡ closed_behind end (Some (kept.chunk, kept.next))
behind_held end view bytes cache place kept cached held = ap (closed_behind end) (cached place kept held)

pub none_behind : (end : ℕ) (view : View) (bytes : List ℕ) (cache : Cache Kept) (place : ℕ) (kept : Kept) → IsCached view bytes cache → item_at place cache ≡ Some kept → closed_next end (item_at place cache) ≡ None → closed_behind end (chunk_at view place bytes) ≡ []
none_behind end view bytes cache place kept cached held none = behind_held end view bytes cache place kept cached held ∙ by (nat_lt kept.next end) refl
  where
    by : (c : Bool) → nat_lt kept.next end ≡ c → closed_behind end (Some (kept.chunk, kept.next)) ≡ []
    by true t = let f : Some kept.next ≡ None = sym (if_true _ _ _ t) ∙ sym (ap (λ o. closed_next end o) held) ∙ none in absurd cc
    by false f = if_false _ _ _ f

pub some_behind : (end : ℕ) (view : View) (bytes : List ℕ) (cache : Cache Kept) (place : ℕ) (kept : Kept) (n : ℕ) → IsCached view bytes cache → item_at place cache ≡ Some kept → closed_next end (item_at place cache) ≡ Some n →
    (closed_behind end (chunk_at view place bytes) ≡ n ∷ []) × (kept.next ≡ n) × (n < end)
some_behind end view bytes cache place kept n cached held some = by (nat_lt kept.next end) refl
  where
    by : (c : Bool) → nat_lt kept.next end ≡ c → (closed_behind end (chunk_at view place bytes) ≡ n ∷ []) × (kept.next ≡ n) × (n < end)
    by true t =
        let f : Some kept.next ≡ Some n = sym (if_true _ _ _ t) ∙ sym (ap (λ o. closed_next end o) held) ∙ some in
        let same : kept.next ≡ n = cc in
        (behind_held end view bytes cache place kept cached held ∙ if_true _ _ _ t ∙ ap (λ (m : ℕ). m ∷ []) same, same, omega (arith, same, ltb-true _ _ t))
    by false f = let g : None ≡ Some n = sym (if_false _ _ _ f) ∙ sym (ap (λ o. closed_next end o) held) ∙ some in absurd cc

-- a chunk stands where one that isn't the last ends
pub follows_on : (v : Image) (may : Image → Type 0) (b : Base) (opened : List Event) (next time : ℕ) (cache : Cache Kept) → IsRight v may b opened next time cache → (place index number : ℕ) (i : InChunk b (v b.file) place index number) → i.next < b.end →
    (chunk : List Event) × (behind : ℕ) × (chunk_at (view_of b) i.next (v b.file) ≡ Some (chunk, behind)) × (behind ≤ b.end)
follows_on v may b opened next time cache right place index number i before =
    let split = chain_split (view_of b) (v b.file) b.first right.chunks i.chunks b.end place i.chunk i.next right.chain (fetch_none (view_of b) b.end (v b.file) right.ends) i.chain i.here in
    more split.0 split.2
  where
    more : (after : List (List Event)) → Chain (view_of b) (v b.file) i.next after b.end → (chunk : List Event) × (behind : ℕ) × (chunk_at (view_of b) i.next (v b.file) ≡ Some (chunk, behind)) × (behind ≤ b.end)
    more [] chain = absurd (omega (arith, chain, before))
    more (c ∷ after) chain = (c, chain.0, chain.1, chain_behind (view_of b) (v b.file) chain.0 after b.end chain.2)

-- For spots in order.

pub all_push : (b : Base) (bytes : List ℕ) (spots : List Spot) (spot : Spot) → all_ahead b bytes (spots ++ spot ∷ []) ≡ all_ahead b bytes spots ++ ahead_places b bytes (settled b spot)
all_push b bytes [] spot = append-nil (ahead_places b bytes (settled b spot))
all_push b bytes (x ∷ spots) spot =
    ap (λ (l : List ℕ). ahead_places b bytes (settled b x) ++ l) (all_push b bytes spots spot) ∙ sym (append_assoc (ahead_places b bytes (settled b x)) (all_ahead b bytes spots) (ahead_places b bytes (settled b spot)))

pub all_split : (b : Base) (bytes : List ℕ) (front back : List Spot) → all_ahead b bytes (front ++ back) ≡ all_ahead b bytes front ++ all_ahead b bytes back
all_split b bytes [] back = refl
all_split b bytes (x ∷ front) back =
    ap (λ (l : List ℕ). ahead_places b bytes (settled b x) ++ l) (all_split b bytes front back) ∙ sym (append_assoc (ahead_places b bytes (settled b x)) (all_ahead b bytes front) (all_ahead b bytes back))

pub take_spot : (b : Base) (bytes : List ℕ) (spots : List Spot) (i : ℕ) (spot : Spot) → i < length spots → spot ≡ get_or spots i spot → all_ahead b bytes (take (i + 1) spots) ≡ all_ahead b bytes (take i spots) ++ ahead_places b bytes (settled b spot)
take_spot b bytes spots i spot within is =
    ap (all_ahead b bytes) (take_more spots i spot within ∙ ap (λ (x : Spot). take i spots ++ x ∷ []) (sym is)) ∙ all_push b bytes (take i spots) spot

-- the places of the first spots are the first ones
pub all_of_front : (b : Base) (bytes : List ℕ) (spots : List Spot) (i : ℕ) → all_ahead b bytes (take i spots) ++ all_ahead b bytes (drop i spots) ≡ all_ahead b bytes spots
all_of_front b bytes spots i = sym (all_split b bytes (take i spots) (drop i spots)) ∙ ap (all_ahead b bytes) (take-append-drop i spots)

pub some_more : (wanted more : List ℕ) (old new : Cache Kept) (loads loads_then : ℕ) → SomeTouched wanted old new loads loads_then → SomeTouched (wanted ++ more) old new loads loads_then
some_more wanted more old new loads loads_then some =
    some_by (wanted ++ more) some.done old new loads loads_then (subst (λ (l : List ℕ). Picks l (wanted ++ more)) (append-nil some.done) (picks_then some.done [] wanted more some.picked (picks_none more))) some.each

-- One call after another.

pub stays_then : (a b c : Reservoir) → Stays a b → Stays b c → Stays a c
stays_then a b c first second = record {
  base = second.base ∙ first.base;
  opened = second.opened ∙ first.opened;
  room = second.room ∙ first.room;
  next = second.next ∙ first.next;
  time = second.time ∙ first.time;
  log = second.log ∙ first.log;
  cap = second.cap ∙ first.cap;
}

pub stays_same : (a : Reservoir) → Stays a a
stays_same a = record { base = refl; opened = refl; room = refl; next = refl; time = refl; log = refl; cap = refl }

module _ (a b : Reservoir) (same : base b ≡ base a) where
  pub cached_step : (v : Image) (old new : Cache Kept) → (IsCached (view_of (base b)) (v (base b).file) old → IsCached (view_of (base b)) (v (base b).file) new) → IsCached (view_of (base a)) (v (base a).file) old → IsCached (view_of (base a)) (v (base a).file) new
  cached_step v old new step was = subst (λ (x : Base). IsCached (view_of x) (v x.file) new) same (step (subst (λ (x : Base). IsCached (view_of x) (v x.file) old) (sym same) was))

  pub inside_step : (old new : Cache Kept) → (IsInside (base b).end old → IsInside (base b).end new) → IsInside (base a).end old → IsInside (base a).end new
  inside_step old new step was = subst (λ (x : Base). IsInside x.end new) same (step (subst (λ (x : Base). IsInside x.end old) (sym same) was))

-- what is sound stays so, over the same image
pub sound_still :
    (now then : Option Image) (may after : Image → Type 0) (old new : Reservoir) → then ≡ now → SameOutcomes may after → Stays old new
    → ((v : Image) → now ≡ Some v → IsCached (view_of (base old)) (v old.log.file) old.cache → IsCached (view_of (base old)) (v old.log.file) new.cache) → (IsInside old.log.end old.cache → IsInside old.log.end new.cache) → (sound : IsSound now may old)
    → (then ≡ Some sound.0) × IsSoundIn sound.0 after (base new) (opened new) (next_of new) (time_of new) (cache_of new)
sound_still now then may after old new same outcomes stays kept inside sound =
    let s = sound_stays now then may after old new same outcomes stays kept inside sound in
    let told = same ∙ sound.1 in
    (told, subst (λ (w : Image). IsSoundIn w after (base new) (opened new) (next_of new) (time_of new) (cache_of new)) (one_image then s.0 sound.0 s.1 told) s.2)

module _ {H : Type 0} {now : H → Option Image} {may : H → Image → Type 0} {clock : H → ℕ} {since : H → ℕ → Moment → Type 0} {said : H → Option (List ℕ)} {disk_faults out_faults : H → ℕ} where
  pub only_then : (a b c : Reservoir) (h i j : H) → OnlyLoads now may clock since said disk_faults out_faults a b h i → OnlyLoads now may clock since said disk_faults out_faults b c i j → OnlyLoads now may clock since said disk_faults out_faults a c h j
  only_then a b c h i j first second = record {
    stays = stays_then a b c first.stays second.stays;
    cached = λ v told was. cached_step a b first.stays.base v b.cache c.cache (second.cached v (first.leaves.now_stays ∙ told)) (first.cached v told was);
    inside = λ was. inside_step a b first.stays.base b.cache c.cache second.inside (first.inside was);
    leaves = leaves_all-then now may clock since said h i j first.leaves second.leaves;
    disk_faults_rise = omega (arith, first.disk_faults_rise, second.disk_faults_rise);
    out_faults_stay = second.out_faults_stay ∙ first.out_faults_stay;
  }

  -- a sound reservoir stays so
  pub only_sound : (a b : Reservoir) (h i : H) → OnlyLoads now may clock since said disk_faults out_faults a b h i → (sound : IsSound (now h) (may h) a)
      → (now i ≡ Some sound.0) × IsSoundIn sound.0 (may i) (base b) (opened b) (next_of b) (time_of b) (cache_of b)
  only_sound a b h i only sound = sound_still (now h) (now i) (may h) (may i) a b only.leaves.now_stays only.leaves.may_stays only.stays only.cached only.inside sound

-- one spot more
module _ (a b : Reservoir) (same : base b ≡ base a) (v : Image) (spots : List Spot) (i : ℕ) (d : Spot) (within : i < length spots) (old mid new : Cache Kept) (loads loads_mid loads_then : ℕ) where
  one_more : all_ahead (base a) (v (base a).file) (take (i + 1) spots) ≡ all_ahead (base a) (v (base a).file) (take i spots) ++ ahead_places (base a) (v (base a).file) (settled (base a) (get_or spots i d))
  one_more = ap (all_ahead (base a) (v (base a).file)) (take_more spots i d within) ∙ all_push (base a) (v (base a).file) (take i spots) (get_or spots i d)

  pub some_step : SomeTouched (all_ahead (base a) (v (base a).file) (take i spots)) old mid loads loads_mid → SomeTouched (ahead_places (base b) (v (base b).file) (settled (base b) (get_or spots i d))) mid new loads_mid loads_then
      → SomeTouched (all_ahead (base a) (v (base a).file) (take (i + 1) spots)) old new loads loads_then
  some_step first second =
      let here = subst (λ (x : Base). SomeTouched (ahead_places x (v x.file) (settled x (get_or spots i d))) mid new loads_mid loads_then) same second in
      subst (λ (l : List ℕ). SomeTouched l old new loads loads_then) (sym one_more) (some_then (all_ahead (base a) (v (base a).file) (take i spots)) (ahead_places (base a) (v (base a).file) (settled (base a) (get_or spots i d))) old mid new loads loads_mid loads_then first here)

  -- and so of all spots, where there are more
  pub some_stop : SomeTouched (all_ahead (base a) (v (base a).file) (take i spots)) old mid loads loads_mid → SomeTouched (ahead_places (base b) (v (base b).file) (settled (base b) (get_or spots i d))) mid new loads_mid loads_then
      → SomeTouched (all_ahead (base a) (v (base a).file) spots) old new loads loads_then
  some_stop first second =
      subst (λ (l : List ℕ). SomeTouched l old new loads loads_then) (all_of_front (base a) (v (base a).file) spots (i + 1))
      (some_more (all_ahead (base a) (v (base a).file) (take (i + 1) spots)) (all_ahead (base a) (v (base a).file) (drop (i + 1) spots)) old new loads loads_then (some_step first second))

  pub all_step : (reads reads_mid reads_then : ℕ) → AllTouched (all_ahead (base a) (v (base a).file) (take i spots)) old loads reads mid loads_mid reads_mid → AllTouched (ahead_places (base b) (v (base b).file) (settled (base b) (get_or spots i d))) mid loads_mid reads_mid new loads_then reads_then
      → AllTouched (all_ahead (base a) (v (base a).file) (take (i + 1) spots)) old loads reads new loads_then reads_then
  all_step reads reads_mid reads_then first second =
      let here = subst (λ (x : Base). AllTouched (ahead_places x (v x.file) (settled x (get_or spots i d))) mid loads_mid reads_mid new loads_then reads_then) same second in
      subst (λ (l : List ℕ). AllTouched l old loads reads new loads_then reads_then) (sym one_more)
      (touched_then (all_ahead (base a) (v (base a).file) (take i spots)) (ahead_places (base a) (v (base a).file) (settled (base a) (get_or spots i d))) old mid new loads loads_mid loads_then reads reads_mid reads_then first here)
