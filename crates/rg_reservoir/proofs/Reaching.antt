-- How a log is read on, whatever stands in it.
use Rattle.std.proofs.Common.{◌≡◌, ◌≢◌, ◌∙◌, ◌⊎◌, inl, inr, ℕ, zero, suc, ◌+◌, ◌≤◌, ◌<◌, List, [], ◌∷◌, ◌++◌, length, Option, Some, None, IfSome, refl, sym, ap, subst, arith, length-append}
use Rattle.std.specs.Borrow.{Bor}
use Rattle.std.specs.Prelude.{slice_get, IfNone}
use Rattle.std.specs.Option.{option_copied}
use Rattle.std.proofs.lemmas.Option.{slice_get_within}
use Rattle.rg_event.specs.declared.event.Event.{Event}
use Rattle.rg_past.specs.declared.past.Spot.{Spot}
use Rattle.rg_cache.specs.Cache.{Cache, item_at}
use Rattle.rg_log.specs.Log.{joined}
use Rattle.rg_reservoir.specs.Chain.{chunk_at, Chain, IsIllegalBy}
use Rattle.rg_reservoir.specs.Kept.{Base, view_of, settled, IsCached, IsAbsent, next_in, seen, seen_in}
use Rattle.rg_host.specs.Image.{Image}
use Rattle.rg_log.specs.declared.summary.LogSummary.{LogSummary}
use Rattle.rg_reservoir.specs.Attached.{IsOpened}
use Rattle.rg_reservoir.specs.Reached.{IsWhole, IsBehind, IsAtEvent, IsReached, HoldsEvent, AreApart}
use Rattle.rg_reservoir.specs.Views.{View, passed}
use Rattle.rg_reservoir.specs.declared.kept.Kept.{Kept}
use Rattle.rg_reservoir.proofs.Chains.{one_chunk, some_none, chunk_at_size, joined-append, chain_push}
use Rattle.rg_reservoir.proofs.Committing.{chain_behind}
use Rattle.rg_reservoir.proofs.Fetching.{chunk_legal}
use Rattle.rg_reservoir.proofs.Seeking.{if_true, if_false, le_false, eq_true, next_some}
use Rattle.rg_reservoir.proofs.Settling.{chain_rests, said_twice}

-- of two chains from one place one begins the other, or a chunk stands where the second ends
two_chains : (view : View) (bytes : List ℕ) (place : ℕ) (xs ys : List (List Event)) (p q : ℕ) → Chain view bytes place xs p → Chain view bytes place ys q
    → ((rest : List (List Event)) × (ys ≡ xs ++ rest) × Chain view bytes p rest q) ⊎ ((chunk : List Event) × (next : ℕ) × (chunk_at view q bytes ≡ Some (chunk, next)))
two_chains view bytes place [] ys p q to from = inl (ys, refl, subst (λ (a : ℕ). Chain view bytes a ys q) to from)
two_chains view bytes place (x ∷ xs) [] p q to from = inr (x, to.0, subst (λ (a : ℕ). chunk_at view a bytes ≡ Some (x, to.0)) from to.1)
two_chains view bytes place (x ∷ xs) (y ∷ ys) p q to from =
    let same = one_chunk _ x y to.0 from.0 to.1 from.1 in
    elim (two_chains view bytes from.0 xs ys p q (subst (λ (a : ℕ). Chain view bytes a xs p) same.1 to.2) from.2) [
      | inl k ↦ inl (k.0, ap (λ (l : List (List Event)). y ∷ l) k.1 ∙ sym (ap (λ (c : List Event). c ∷ (xs ++ k.0)) same.0), k.2)
      | inr k ↦ inr k
    ]

module _ (b : Base) (bytes : List ℕ) (chunks : List (List Event)) (place : ℕ) (chain : Chain (view_of b) bytes b.first chunks place) where
  -- where reading stops at a place that isn't illegal, no illegal chunk stands further on
  pub whole_stop : (IsIllegalBy (view_of b) place bytes → ⊥) → IsAbsent (view_of b) place b.end bytes → IsWhole b bytes
  whole_stop legal absent = record {
    none = λ others q to few before bad. elim (two_chains (view_of b) bytes b.first chunks others place q chain to) [
      | inl k ↦ further k.0 q k.2 before bad
      | inr k ↦ chunk_legal (view_of b) q k.1 k.0 bytes k.2 bad
    ];
  }
    where
      further : (rest : List (List Event)) (q : ℕ) → Chain (view_of b) bytes place rest q → q < b.end → IsIllegalBy (view_of b) q bytes → ⊥
      further [] q same before bad = legal (subst (λ (p : ℕ). IsIllegalBy (view_of b) p bytes) (sym same) bad)
      further (c ∷ rest) q on before bad = omega (arith, absent c on.0 on.1, chain_behind (view_of b) bytes on.0 rest q on.2, before)

  -- nor behind chunks that have all events
  pub whole_count : b.committed ≤ length (joined chunks) → IsWhole b bytes
  whole_count all = record {
    none = λ others q to few before bad. elim (two_chains (view_of b) bytes b.first chunks others place q chain to) [
      | inl k ↦ omega (arith, all, few, ap length (ap joined k.1 ∙ joined-append chunks k.0), length-append (joined chunks) (joined k.0))
      | inr k ↦ chunk_legal (view_of b) q k.1 k.0 bytes k.2 bad
    ];
  }

pub joined_push : (chunks : List (List Event)) (chunk : List Event) → length (joined (chunks ++ chunk ∷ [])) ≡ length (joined chunks) + length chunk
joined_push chunks chunk = omega (arith, ap length (joined-append chunks (chunk ∷ [])), length-append (joined chunks) (chunk ++ []), length-append chunk [])

pub whole_behind : (b : Base) (bytes : List ℕ) (spot : Spot) → IsBehind b bytes spot → b.committed ≤ spot.number → IsWhole b bytes
whole_behind b bytes spot i all = by i.most
  where
    by : (spot.index ≡ 0) ⊎ ((chunk : List Event) × (next : ℕ) × (chunk_at (view_of b) spot.place bytes ≡ Some (chunk, next)) × (spot.index ≤ length chunk)) → IsWhole b bytes
    by (inl first) = whole_count b bytes i.chunks spot.place i.chain (omega (arith, all, i.number_is, first))
    by (inr k) = whole_count b bytes (i.chunks ++ k.0 ∷ []) k.1 (chain_push (view_of b) bytes b.first i.chunks spot.place k.0 k.1 i.chain k.2) (omega (arith, all, i.number_is, k.3, joined_push i.chunks k.0))

-- a spot of a chunk that is held, where the next one isn't looked at
pub holds_here : (b : Base) (bytes : List ℕ) (cache : Cache Kept) (spot : Spot) (kept : Kept) → IsBehind b bytes spot → spot.number < b.committed → IsCached (view_of b) bytes cache → item_at spot.place cache ≡ Some kept → next_in (item_at spot.place cache) spot.index ≡ None → HoldsEvent b bytes cache spot
holds_here b bytes cache spot kept i near cached held stays =
    let here = cached spot.place kept held in
    let size = chunk_at_size (view_of b) spot.place bytes kept.chunk kept.next here in
    let none : next_in (Some kept) spot.index ≡ None = sym (ap (λ (o : Option Kept). next_in o spot.index) held) ∙ stays in
    let differs : spot.index ≢ length kept.chunk = λ e. some_none (next_in (Some kept) spot.index) kept.next (if_true _ _ _ (eq_true spot.index (length kept.chunk) e)) none in
    record {
      at = record { chunks = i.chunks; chunk = kept.chunk; next = kept.next; chain = i.chain; here = here; number_is = i.number_is; within = by here size.0 differs i.most };
      near = near;
      kept = kept;
      held = held;
    }
  where
    by : chunk_at (view_of b) spot.place bytes ≡ Some (kept.chunk, kept.next) → 1 ≤ length kept.chunk → spot.index ≢ length kept.chunk → (spot.index ≡ 0) ⊎ ((chunk : List Event) × (next : ℕ) × (chunk_at (view_of b) spot.place bytes ≡ Some (chunk, next)) × (spot.index ≤ length chunk)) → spot.index < length kept.chunk
    by here some differs (inl first) = omega (arith, first, some)
    by here some differs (inr k) = omega (arith, differs, k.3, ap length (one_chunk _ kept.chunk k.0 kept.next k.1 here k.2).0)

-- the chunk at the spot, and the next one behind it
pub behind_turn : (b : Base) (bytes : List ℕ) (spot : Spot) (chunk : List Event) (next : ℕ) → IsBehind b bytes spot → chunk_at (view_of b) spot.place bytes ≡ Some (chunk, next) → spot.index ≡ length chunk
    → (chunks : List (List Event)) × Chain (view_of b) bytes b.first chunks next × (length (joined chunks) ≡ spot.number)
behind_turn b bytes spot chunk next i here all =
    (i.chunks ++ chunk ∷ [], chain_push (view_of b) bytes b.first i.chunks spot.place chunk next i.chain here, omega (arith, i.number_is, all, joined_push i.chunks chunk))

pub holds_next : (b : Base) (bytes : List ℕ) (cache : Cache Kept) (old spot : Spot) (chunk : List Event) (kept : Kept) → IsBehind b bytes old → old.number < b.committed → chunk_at (view_of b) old.place bytes ≡ Some (chunk, spot.place) → old.index ≡ length chunk → spot.index ≡ 0 → spot.number ≡ old.number
    → IsCached (view_of b) bytes cache → item_at spot.place cache ≡ Some kept → HoldsEvent b bytes cache spot
holds_next b bytes cache old spot chunk kept i near here all index number cached held =
    let t = behind_turn b bytes old chunk spot.place i here all in
    let there = cached spot.place kept held in
    let size = chunk_at_size (view_of b) spot.place bytes kept.chunk kept.next there in
    record {
      at = record { chunks = t.0; chunk = kept.chunk; next = kept.next; chain = t.1; here = there; number_is = omega (arith, number, index, t.2); within = omega (arith, index, size.0) };
      near = omega (arith, number, near);
      kept = kept;
      held = held;
    }

-- The same, where the log may be known to be whole.
module _ (b : Base) (bytes : List ℕ) (spot : Spot) where
  pub whole_far : b.committed ≤ spot.number → IsWhole b bytes ⊎ IsBehind b bytes spot → IsWhole b bytes
  whole_far all (inl whole) = whole
  whole_far all (inr i) = whole_behind b bytes spot i all

  pub whole_here : (IsIllegalBy (view_of b) spot.place bytes → ⊥) → IsAbsent (view_of b) spot.place b.end bytes → IsWhole b bytes ⊎ IsBehind b bytes spot → IsWhole b bytes
  whole_here legal absent (inl whole) = whole
  whole_here legal absent (inr i) = whole_stop b bytes i.chunks spot.place i.chain legal absent

  pub whole_next : (chunk : List Event) (next : ℕ) → chunk_at (view_of b) spot.place bytes ≡ Some (chunk, next) → spot.index ≡ length chunk → (IsIllegalBy (view_of b) next bytes → ⊥) → IsAbsent (view_of b) next b.end bytes → IsWhole b bytes ⊎ IsBehind b bytes spot → IsWhole b bytes
  whole_next chunk next here all legal absent (inl whole) = whole
  whole_next chunk next here all legal absent (inr i) = let t = behind_turn b bytes spot chunk next i here all in whole_stop b bytes t.0 next t.1 legal absent

pub or_holds_here : (b : Base) (bytes : List ℕ) (cache : Cache Kept) (spot : Spot) (kept : Kept) → spot.number < b.committed → IsCached (view_of b) bytes cache → item_at spot.place cache ≡ Some kept → next_in (item_at spot.place cache) spot.index ≡ None → IsWhole b bytes ⊎ IsBehind b bytes spot → IsWhole b bytes ⊎ HoldsEvent b bytes cache spot
or_holds_here b bytes cache spot kept near cached held stays (inl whole) = inl whole
or_holds_here b bytes cache spot kept near cached held stays (inr i) = inr (holds_here b bytes cache spot kept i near cached held stays)

pub or_holds_next : (b : Base) (bytes : List ℕ) (cache : Cache Kept) (old spot : Spot) (chunk : List Event) (kept : Kept) → old.number < b.committed → chunk_at (view_of b) old.place bytes ≡ Some (chunk, spot.place) → old.index ≡ length chunk → spot.index ≡ 0 → spot.number ≡ old.number
    → IsCached (view_of b) bytes cache → item_at spot.place cache ≡ Some kept → IsWhole b bytes ⊎ IsBehind b bytes old → IsWhole b bytes ⊎ HoldsEvent b bytes cache spot
or_holds_next b bytes cache old spot chunk kept near here all index number cached held (inl whole) = inl whole
or_holds_next b bytes cache old spot chunk kept near here all index number cached held (inr i) = inr (holds_next b bytes cache old spot chunk kept i near here all index number cached held)

some_at : (xs : List Event) (i : ℕ) → i < length xs → slice_get xs i ≡ None → ⊥
some_at [] i lt none = omega (arith, lt)
some_at (x ∷ xs) zero lt none = cc
some_at (x ∷ xs) (suc i) lt none = some_at xs i (omega (arith, lt)) none

-- an event that is held is seen
pub held_seen : (b : Base) (bytes : List ℕ) (opened : List Event) (cache : Cache Kept) (spot : Spot) → IsCached (view_of b) bytes cache → HoldsEvent b bytes cache spot → seen b.committed opened cache spot ≡ None → ⊥
held_seen b bytes opened cache spot cached h none =
    let same = one_chunk _ h.kept.chunk h.at.chunk h.kept.next h.at.next (cached spot.place h.kept h.held) h.at.here in
    some_at h.kept.chunk spot.index (omega (arith, h.at.within, ap length same.0))
    (sym (ap (λ (o : Option Kept). seen_in o spot.index) h.held) ∙ sym (if_false _ _ _ (le_false b.committed spot.number h.near)) ∙ none)

pub whole_seen : (b : Base) (bytes : List ℕ) (opened : List Event) (cache : Cache Kept) (spot : Spot) → IsCached (view_of b) bytes cache → seen b.committed opened cache spot ≡ None → IsWhole b bytes ⊎ HoldsEvent b bytes cache spot → IsWhole b bytes
whole_seen b bytes opened cache spot cached none (inl whole) = whole
whole_seen b bytes opened cache spot cached none (inr h) = absurd (held_seen b bytes opened cache spot cached h none)

pub at_event : (b : Base) (bytes : List ℕ) (cache : Cache Kept) (spot : Spot) → IsWhole b bytes ⊎ HoldsEvent b bytes cache spot → IsWhole b bytes ⊎ IsAtEvent b bytes spot
at_event b bytes cache spot (inl whole) = inl whole
at_event b bytes cache spot (inr h) = inr h.at

-- the spot behind an event
pub behind_event : (b : Base) (bytes : List ℕ) (old spot : Spot) → AreApart b → IsAtEvent b bytes old → spot.place ≡ old.place → spot.index ≡ old.index + 1 → spot.number ≡ old.number + 1 → IsBehind b bytes (settled b spot)
behind_event b bytes old spot apart i place index number =
    let rests : passed b.growths old.place ≡ old.place = chain_rests (view_of b) bytes b.first i.chunks old.place apart.twice apart.first i.chain in
    let same : passed b.growths spot.place ≡ old.place = ap (passed b.growths) place ∙ rests in
    record {
      chunks = i.chunks;
      chain = subst (λ (p : ℕ). Chain (view_of b) bytes b.first i.chunks p) (sym same) i.chain;
      number_is = omega (arith, number, index, i.number_is);
      most = inr (i.chunk, i.next, subst (λ (p : ℕ). chunk_at (view_of b) p bytes ≡ Some (i.chunk, i.next)) (sym same) i.here, omega (arith, index, i.within));
    }

pub or_behind : (b : Base) (bytes : List ℕ) (old spot : Spot) → AreApart b → spot.place ≡ old.place → spot.index ≡ old.index + 1 → spot.number ≡ old.number + 1 → IsWhole b bytes ⊎ IsAtEvent b bytes old → IsWhole b bytes ⊎ IsBehind b bytes (settled b spot)
or_behind b bytes old spot apart place index number (inl whole) = inl whole
or_behind b bytes old spot apart place index number (inr i) = inr (behind_event b bytes old spot apart i place index number)

-- the spot of event 0, over a cache without a chunk
pub first_reached : (now : Option Image) (v : Image) (b : Base) (cache : Cache Kept) (summary : LogSummary) → now ≡ Some v → IsOpened (view_of b) b.first b.end summary (v b.file) → ((place : ℕ) → item_at place cache ≡ None) → IsReached now b cache (record { place = b.first; index = 0; number = 0 })
first_reached now v b cache summary told opened none =
    let twice = said_twice b.growths (opened.start ∷ opened.payloads) opened.growths in
    let first : passed b.growths b.first ≡ b.first = subst (λ (p : ℕ). passed b.growths p ≡ p) (sym opened.first_is) (twice (9 + length opened.start)) in
    record {
      image = v;
      told = told;
      cached = λ place kept held. absurd (some_none (item_at place cache) kept held (none place));
      apart = record { twice = twice; first = first };
      so_far = inr (record { chunks = []; chain = sym first; number_is = omega arith; most = inl refl });
    }

-- what is read of an option

pub if_none : {A : Type 0} (o : Option (Bor A)) (P : Type 0) → (option_copied o ≡ None → P) → IfNone o P
if_none None P f = f refl
if_none (Some x) P f = tt

pub if_some : {A : Type 0} (o : Option A) (P : Type 0) → P → IfSome o (λ _. P)
if_some None P p = tt
if_some (Some x) P p = p
