-- The places that a look touches.
use Rattle.std.proofs.Common.{◌≡◌, ◌∙◌, ℕ, ◌≤◌, ◌<◌, ◌==◌, Bool, true, false, List, [], ◌∷◌, ◌++◌, reverse, length, Some, None, refl, sym, ap, arith, append_assoc}
use Rattle.rg_event.specs.declared.event.Event.{Event}
use Rattle.rg_reservoir.specs.Views.{View}
use Rattle.rg_past.specs.declared.past.Spot.{Spot}
use Rattle.rg_cache.specs.Cache.{Cache, item_at, places, least_recently_used, touches}
use Rattle.rg_cache.proofs.Laws.{touched_further}
use Rattle.rg_reservoir.specs.declared.kept.Kept.{Kept}
use Rattle.rg_reservoir.specs.Chain.{chunk_at}
use Rattle.rg_reservoir.specs.Kept.{Base, view_of, IsCached, next_in, next_place, look_places, OneTouch, IsTouched}
use Rattle.rg_reservoir.proofs.Seeking.{if_true, if_false, le_true, le_false, eq_true, next_some}

pub look_far : (b : Base) (bytes : List ℕ) (spot : Spot) → b.committed ≤ spot.number → look_places b bytes spot ≡ []
look_far b bytes spot far = if_true _ _ _ (le_true _ _ far)

pub look_near : (b : Base) (bytes : List ℕ) (spot : Spot) → spot.number < b.committed → look_places b bytes spot ≡ spot.place ∷ next_place (chunk_at (view_of b) spot.place bytes) spot.index
look_near b bytes spot near = if_false _ _ _ (le_false _ _ near)

pub no_next : (view : View) (bytes : List ℕ) (cache : Cache Kept) (place index : ℕ) (kept : Kept) → IsCached view bytes cache → item_at place cache ≡ Some kept → next_in (item_at place cache) index ≡ None → next_place (chunk_at view place bytes) index ≡ []
no_next view bytes cache place index kept cached held none = ap (λ o. next_place o index) (cached place kept held) ∙ by (index == length kept.chunk) refl
  where
    by : (c : Bool) → (index == length kept.chunk) ≡ c → next_place (Some (kept.chunk, kept.next)) index ≡ []
    by true t = let f : Some kept.next ≡ None = sym (if_true _ _ _ t) ∙ sym (ap (λ o. next_in o index) held) ∙ none in absurd cc
    by false f = if_false _ _ _ f

pub one_next : (view : View) (bytes : List ℕ) (cache : Cache Kept) (place index n : ℕ) → IsCached view bytes cache → next_in (item_at place cache) index ≡ Some n → next_place (chunk_at view place bytes) index ≡ n ∷ []
one_next view bytes cache place index n cached some =
    let k = next_some (item_at place cache) index n some in
    ap (λ o. next_place o index) (cached place k.0 k.1) ∙ if_true _ _ _ (eq_true index (length k.0.chunk) k.2) ∙ ap (λ m. m ∷ []) k.3

-- a spot of a closed chunk asks for a touch
pub asks_one : (b : Base) (bytes : List ℕ) (spot : Spot) → spot.number < b.committed → look_places b bytes spot ≡ [] → ⊥
asks_one b bytes spot near none = let e : spot.place ∷ next_place (chunk_at (view_of b) spot.place bytes) spot.index ≡ [] = sym (look_near b bytes spot near) ∙ none in cc

-- and for another one behind the last event of its chunk
pub asks_next : (view : View) (bytes : List ℕ) (cache : Cache Kept) (place index n : ℕ) → IsCached view bytes cache → next_in (item_at place cache) index ≡ Some n → next_place (chunk_at view place bytes) index ≡ [] → ⊥
asks_next view bytes cache place index n cached some none = let e : n ∷ [] ≡ [] = sym (one_next view bytes cache place index n cached some) ∙ none in cc

pub none_touched : (wanted : List ℕ) (old new : Cache Kept) (loads reads loads_then reads_then : ℕ) → new ≡ old → loads_then ≡ loads → reads ≤ reads_then → (wanted ≡ [] → reads_then ≡ reads) → IsTouched wanted old loads reads new loads_then reads_then
none_touched wanted old new loads reads loads_then reads_then same count fewer more = record {
  done = [];
  left = wanted;
  both = refl;
  held = ap places same;
  reads_done = reads;
  each = (same, count, refl);
  no_fewer = fewer;
  no_more = more;
}

pub one_touched :
    (b : Base) (bytes : List ℕ) (spot : Spot) (old mid new : Cache Kept) (loads reads loads_mid reads_mid loads_then reads_then : ℕ) → spot.number < b.committed → OneTouch spot.place old loads reads mid loads_mid reads_mid → new ≡ mid → loads_then ≡ loads_mid → reads_mid ≤ reads_then
    → (next_place (chunk_at (view_of b) spot.place bytes) spot.index ≡ [] → reads_then ≡ reads_mid) → IsTouched (look_places b bytes spot) old loads reads new loads_then reads_then
one_touched b bytes spot old mid new loads reads loads_mid reads_mid loads_then reads_then near one same count fewer more = record {
  done = spot.place ∷ [];
  left = next_place (chunk_at (view_of b) spot.place bytes) spot.index;
  both = sym (look_near b bytes spot near);
  held = ap places same ∙ one.places_are;
  reads_done = reads_mid;
  each = (mid, loads_mid, reads_mid, one, (same, count, refl));
  no_fewer = fewer;
  no_more = more;
}

pub two_places : (old mid new : Cache Kept) (p n : ℕ) → places mid ≡ least_recently_used old.cap (touches old (p ∷ [])) → mid.cap ≡ old.cap → places new ≡ least_recently_used mid.cap (touches mid (n ∷ [])) → places new ≡ least_recently_used old.cap (touches old (p ∷ (n ∷ [])))
two_places old mid new p n first cap second =
    second ∙ ap (λ k. least_recently_used k (reverse (places mid) ++ n ∷ [])) cap ∙ ap (λ (l : List ℕ). least_recently_used old.cap (reverse l ++ n ∷ [])) first ∙ touched_further old.cap (reverse (places old) ++ p ∷ []) (n ∷ []) ∙ ap (least_recently_used old.cap) (append_assoc (reverse (places old)) (p ∷ []) (n ∷ []))

pub look_two : (b : Base) (bytes : List ℕ) (spot : Spot) (mid : Cache Kept) (n : ℕ) → spot.number < b.committed → IsCached (view_of b) bytes mid → next_in (item_at spot.place mid) spot.index ≡ Some n → look_places b bytes spot ≡ spot.place ∷ (n ∷ [])
look_two b bytes spot mid n near cached some = look_near b bytes spot near ∙ ap (λ (l : List ℕ). spot.place ∷ l) (one_next (view_of b) bytes mid spot.place spot.index n cached some)

pub look_one : (b : Base) (bytes : List ℕ) (spot : Spot) (mid : Cache Kept) (kept : Kept) → spot.number < b.committed → IsCached (view_of b) bytes mid → item_at spot.place mid ≡ Some kept → next_in (item_at spot.place mid) spot.index ≡ None → look_places b bytes spot ≡ spot.place ∷ []
look_one b bytes spot mid kept near cached held none = look_near b bytes spot near ∙ ap (λ (l : List ℕ). spot.place ∷ l) (no_next (view_of b) bytes mid spot.place spot.index kept cached held none)

pub two_touched :
    (b : Base) (bytes : List ℕ) (spot : Spot) (n : ℕ) (old mid new : Cache Kept) (loads reads loads_mid reads_mid loads_then reads_then : ℕ) → spot.number < b.committed → IsCached (view_of b) bytes mid → next_in (item_at spot.place mid) spot.index ≡ Some n
    → OneTouch spot.place old loads reads mid loads_mid reads_mid → OneTouch n mid loads_mid reads_mid new loads_then reads_then → IsTouched (look_places b bytes spot) old loads reads new loads_then reads_then
two_touched b bytes spot n old mid new loads reads loads_mid reads_mid loads_then reads_then near cached some one two = record {
  done = spot.place ∷ (n ∷ []);
  left = [];
  both = sym (look_two b bytes spot mid n near cached some);
  held = two_places old mid new spot.place n one.places_are one.cap_stays two.places_are;
  reads_done = reads_then;
  each = (mid, loads_mid, reads_mid, one, (new, loads_then, reads_then, two, (refl, refl, refl)));
  no_fewer = omega arith;
  no_more = λ _. refl;
}

-- a spot behind the last event of a chunk has that chunk's next place, and no other
pub is_behind : (view : View) (bytes : List ℕ) (place index n : ℕ) (chunk : List Event) (next : ℕ) → next_place (chunk_at view place bytes) index ≡ n ∷ [] → chunk_at view place bytes ≡ Some (chunk, next) → index ≡ length chunk → next ≡ n
is_behind view bytes place index n chunk next one at is =
    let e : next ∷ [] ≡ n ∷ [] = sym (if_true _ _ _ (eq_true index (length chunk) is)) ∙ sym (ap (λ o. next_place o index) at) ∙ one in
    cc

pub none_behind : (view : View) (bytes : List ℕ) (place index : ℕ) (chunk : List Event) (next : ℕ) → next_place (chunk_at view place bytes) index ≡ [] → chunk_at view place bytes ≡ Some (chunk, next) → index ≡ length chunk → ⊥
none_behind view bytes place index chunk next none at is =
    let e : next ∷ [] ≡ [] = sym (if_true _ _ _ (eq_true index (length chunk) is)) ∙ sym (ap (λ o. next_place o index) at) ∙ none in
    cc
