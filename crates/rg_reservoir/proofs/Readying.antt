-- A look at a spot of the chunk that was touched last.
use Rattle.std.proofs.Common.{◌≡◌, ◌∙◌, ℕ, ◌<◌, true, false, List, [], ◌∷◌, length, Option, Some, None, Ok, option_map, is_some, refl, sym, ap, subst, arith}
use Rattle.std.proofs.lemmas.Bool.{ne_eqb}
use Rattle.rg_host.specs.Image.{Image}
use Rattle.rg_past.specs.declared.past.Spot.{Spot}
use Rattle.rg_cache.specs.Cache.{item_at, places, least_recently_used, touches}
use Rattle.rg_reservoir.specs.declared.kept.Kept.{Kept}
use Rattle.rg_reservoir.specs.declared.last.Last.{Last}
use Rattle.rg_reservoir.specs.declared.reservoir.Reservoir.{Reservoir}
use Rattle.rg_reservoir.specs.Kept.{base, view_of, opened, cache_of, loads_of, next_of, time_of, next_in, look_places, held_after, IsCached, OneTouch, AllTouched}
use Rattle.rg_reservoir.specs.Ready.{IsReady}
use Rattle.rg_reservoir.specs.Touched.{HasSought, SeekLoads}
use Rattle.rg_reservoir.proofs.Fetching.{chunk_legal}
use Rattle.rg_reservoir.proofs.Reaching.{or_holds_here}
use Rattle.rg_reservoir.proofs.Seeking.{if_false, one_image, found_here}
use Rattle.rg_reservoir.proofs.Touching.{one_touched, look_one, no_next, none_behind}

-- an index below the count of a chunk is in that
is_in : (o : Option Kept) (count index : ℕ) → option_map (λ kept. length kept.chunk) o ≡ Some count → index < count → (kept : Kept) × (o ≡ Some kept) × (index < length kept.chunk)
is_in None count index counted lt = absurd cc
is_in (Some kept) count index counted lt = let same : length kept.chunk ≡ count = cc in (kept, refl, omega (arith, same, lt))

-- what is known of the chunk that was touched last, of a spot of it
pub now_ready : (r : Reservoir) (spot : Spot) (l : Last) → (base r).ended ≡ false → spot.number < (base r).committed → r.last ≡ Some l → spot.place ≡ l.place → spot.index < l.count → IsReady r spot
now_ready r spot l going near is at lt =
    let known = r.touched l is in
    record {
      going = going;
      near = near;
      item = subst (λ (p : ℕ). (kept : Kept) × (item_at p (cache_of r) ≡ Some kept) × (spot.index < length kept.chunk)) (sym at) (is_in (item_at l.place (cache_of r)) l.count spot.index known.0 lt);
      stays = subst (λ (p : ℕ). places (cache_of r) ≡ least_recently_used (cache_of r).cap (touches (cache_of r) (p ∷ []))) (sym at) known.1;
    }

module _ {H : Type 0} (now : H → Option Image) (may : H → Image → Type 0) (reads : H → ℕ) (r : Reservoir) (host : H) (spot : Spot) (ready : IsReady r spot) where
  turns_not : next_in (item_at spot.place (cache_of r)) spot.index ≡ None
  turns_not = ap (λ o. next_in o spot.index) ready.item.1 ∙ if_false _ _ _ (ne_eqb spot.index (length ready.item.0.chunk) (λ same. omega (arith, same, ready.item.2)))

  pub ready_sought : HasSought now may (Ok tt) r r host spot spot
  ready_sought = record {
    legal = λ v told was lt. record {
      here = chunk_legal (view_of (base r)) spot.place ready.item.0.next ready.item.0.chunk (v (base r).file) (was spot.place ready.item.0 ready.item.1);
      behind = λ chunk next at within is. absurd (none_behind (view_of (base r)) (v (base r).file) spot.place spot.index chunk next (no_next (view_of (base r)) (v (base r).file) (cache_of r) spot.place spot.index ready.item.0 was ready.item.1 turns_not) at is);
    };
    reached = λ v told was so_far. or_holds_here (base r) (v (base r).file) (cache_of r) spot ready.item.0 ready.near was ready.item.1 turns_not so_far;
    number = refl;
    placed = λ far. absurd (omega (arith, far, ready.near));
    spelled = λ sound spells. spells;
    finds = λ sound spells.
        let right = sound.2.right ready.going in
        found_here (now host) sound.0 (may host) (base r) (opened r) (next_of r) (time_of r) (cache_of r) (cache_of r) spot ready.item.0 sound.1 right spells ready.near right.cached ready.item.1 turns_not;
  }

  one : OneTouch spot.place (cache_of r) (loads_of r) (reads host) (cache_of r) (loads_of r) (reads host)
  one = record {
    places_are = ready.stays;
    cap_stays = refl;
    hit = λ _. (refl, refl);
    miss = λ missed. let held : true ≡ false = sym (ap is_some ready.item.1) ∙ missed in absurd cc;
  }

  looks_one : (v : Image) → IsCached (view_of (base r)) (v (base r).file) (cache_of r) → look_places (base r) (v (base r).file) spot ≡ spot.place ∷ []
  looks_one v was = look_one (base r) (v (base r).file) spot (cache_of r) ready.item.0 ready.near was ready.item.1 turns_not

  pub ready_loads : SeekLoads now may reads (Ok tt) r r host host spot
  ready_loads = record {
    touched = λ v told was.
        one_touched (base r) (v (base r).file) spot (cache_of r) (cache_of r) (cache_of r) (loads_of r) (reads host) (loads_of r) (reads host) (loads_of r) (reads host) ready.near one refl refl (omega arith) (λ _. refl);
    all_touched = λ sound spells w there.
        subst (λ (u : Image). places (cache_of r) ≡ held_after (cache_of r) (look_places (base r) (u (base r).file) spot)) (one_image (now host) sound.0 w sound.1 there)
        (ready.stays ∙ sym (ap (held_after (cache_of r)) (looks_one sound.0 (sound.2.right ready.going).cached)));
    loaded = λ sound spells w there.
        subst (λ (u : Image). AllTouched (look_places (base r) (u (base r).file) spot) (cache_of r) (loads_of r) (reads host) (cache_of r) (loads_of r) (reads host)) (one_image (now host) sound.0 w sound.1 there)
        (subst (λ (l : List ℕ). AllTouched l (cache_of r) (loads_of r) (reads host) (cache_of r) (loads_of r) (reads host)) (sym (looks_one sound.0 (sound.2.right ready.going).cached))
        (cache_of r, loads_of r, reads host, one, (refl, refl, refl)));
  }
