-- What stands at a spot.
use Rattle.std.proofs.Common.{◌≡◌, ◌≢◌, ◌∙◌, ◌⊎◌, inl, inr, ℕ, ◌+◌, ◌-◌, ◌≤◌, ◌<◌, ◌==◌, nat_le, Bool, true, false, List, [], ◌∷◌, ◌++◌, length, Option, Some, None, refl, sym, ap, subst, arith, length-append, if◌then◌else◌}
use Rattle.std.proofs.lemmas.Bool.Decides.{nat_tests}
use Rattle.std.specs.Prelude.{slice_get}
use Rattle.rg_host.specs.Image.{Image}
use Rattle.rg_event.specs.declared.event.Event.{Event}
use Rattle.rg_event.specs.declared.schema.Field.{Field}
use Rattle.rg_reservoir.specs.Views.{View, passed}
use Rattle.rg_past.specs.declared.past.Spot.{Spot}
use Rattle.rg_cache.specs.Cache.{Cache, item_at}
use Rattle.rg_reservoir.specs.declared.kept.Kept.{Kept}
use Rattle.rg_log.specs.Log.{joined}
use Rattle.rg_reservoir.specs.Chain.{chunk_at, Chain, padded, IsIllegal}
use Rattle.rg_reservoir.specs.Kept.{Base, view_of, stored, all_events, IsCached, IsInside, IsAbsent, IsRight, InChunk, InFront, InOpen, count_of, SpellsSettled, seen_in, seen, next_in, Found}
use Rattle.rg_reservoir.proofs.Fetching.{fetch_none}
use Rattle.rg_reservoir.proofs.Settling.{chunk_rests}
use Rattle.rg_reservoir.proofs.Committing.{chain_behind}
use Rattle.rg_reservoir.proofs.Chains.{one_chunk, some_none, joined-append, chunk_at_size, chain_push, chain_split, from_chain, padded_same, padded_long, get_right, get_chunk}

abbrev image_in : Image → Option Image → Image
image_in u (Some w) = w
image_in u None = u

pub one_image : (now : Option Image) (u v : Image) → now ≡ Some u → now ≡ Some v → u ≡ v
one_image now u v e f = let g : Some u ≡ Some v = sym e ∙ f in ap (image_in u) g

pub stored_long : (now : Option Image) (b : Base) → length (stored now b) ≡ b.committed
stored_long (Some v) b = padded_long b.committed _
stored_long None b = padded_long b.committed []

pub counted : (now : Option Image) (b : Base) (opened : List Event) → length (all_events now b opened) ≡ count_of b opened
counted now b opened = omega (arith, length-append (stored now b) opened, stored_long now b)

module _ (v : Image) (may : Image → Type 0) (b : Base) (opened : List Event) (next time : ℕ) (cache : Cache Kept) (right : IsRight v may b opened next time cache) where
  pub stored_is : stored (Some v) b ≡ joined right.chunks
  stored_is =
      ap (padded b.committed) (from_chain (view_of b) (v b.file) b.committed b.first right.chunks b.end right.chain (fetch_none (view_of b) b.end (v b.file) right.ends) (omega (arith, right.counted)))
      ∙ padded_same b.committed (joined right.chunks) right.counted

  -- the event of an index of a chunk
  pub event_is : (place index number : ℕ) (i : InChunk b (v b.file) place index number) → index < length i.chunk → slice_get (all_events (Some v) b opened) number ≡ slice_get i.chunk index
  event_is place index number i lt =
      let split = chain_split (view_of b) (v b.file) b.first right.chunks i.chunks b.end place i.chunk i.next right.chain (fetch_none (view_of b) b.end (v b.file) right.ends) i.chain i.here in
      ap (λ (n : ℕ). slice_get (all_events (Some v) b opened) n) i.number_is
      ∙ ap (λ (l : List Event). slice_get (l ++ opened) (length (joined i.chunks) + index)) (stored_is ∙ ap joined split.1)
      ∙ get_chunk i.chunks split.0 i.chunk opened index lt

  -- no chunk goes past the end
  pub before_end : (place index number : ℕ) (i : InChunk b (v b.file) place index number) → i.next ≤ b.end
  before_end place index number i =
      let split = chain_split (view_of b) (v b.file) b.first right.chunks i.chunks b.end place i.chunk i.next right.chain (fetch_none (view_of b) b.end (v b.file) right.ends) i.chain i.here in
      chain_behind (view_of b) (v b.file) i.next split.0 b.end split.2

  -- where events follow a chunk, the next one stands behind it
  pub goes_on : (place index number : ℕ) (i : InChunk b (v b.file) place index number) → index ≡ length i.chunk → number < b.committed → InFront b (v b.file) i.next 0 number
  goes_on place index number i all lt =
      let split = chain_split (view_of b) (v b.file) b.first right.chunks i.chunks b.end place i.chunk i.next right.chain (fetch_none (view_of b) b.end (v b.file) right.ends) i.chain i.here in
      more split.0 split.1 split.2
    where
      more : (after : List (List Event)) → right.chunks ≡ i.chunks ++ i.chunk ∷ after → Chain (view_of b) (v b.file) i.next after b.end → InFront b (v b.file) i.next 0 number
      more [] is chain =
          let all_of : joined right.chunks ≡ joined i.chunks ++ (i.chunk ++ []) = ap joined is ∙ joined-append i.chunks (i.chunk ∷ []) in
          absurd (omega (arith, right.counted, ap length all_of, length-append (joined i.chunks) (i.chunk ++ []), length-append i.chunk [], all, i.number_is, lt))
      more (d ∷ after) is chain =
          let size = chunk_at_size (view_of b) i.next (v b.file) d chain.0 chain.1 in
          record {
            chunk = record {
              chunks = i.chunks ++ i.chunk ∷ [];
              chunk = d;
              next = chain.0;
              chain = chain_push (view_of b) (v b.file) b.first i.chunks place i.chunk i.next i.chain i.here;
              here = chain.1;
              number_is = omega (arith, i.number_is, all, ap length (joined-append i.chunks (i.chunk ∷ [])), length-append (joined i.chunks) (i.chunk ++ []), length-append i.chunk []);
              most = omega arith;
            };
            within = omega (arith, size.0);
          }

-- a spot below what is committed names an event of a chunk
pub near : (now : Option Image) (v : Image) (b : Base) (opened : List Event) (spot : Spot) → now ≡ Some v → SpellsSettled now b opened spot → spot.number < b.committed → InChunk b (v b.file) spot.place spot.index spot.number
near now v b opened spot told spells lt = by spells.spelling
  where
    by : ((spot.number ≤ b.committed) × InChunk b (spells.image b.file) spot.place spot.index spot.number) ⊎ InOpen b spot.place spot.index spot.number → InChunk b (v b.file) spot.place spot.index spot.number
    by (inl i) = subst (λ (u : Image). InChunk b (u b.file) spot.place spot.index spot.number) (one_image now spells.image v spells.told told) i.1
    by (inr o) = absurd (omega (arith, o.number_is, lt))

pub if_true : {A : Type 0} (x y : A) (c : Bool) → c ≡ true → (if c then x else y) ≡ x
if_true x y true e = refl
if_true x y false e = absurd cc

pub if_false : {A : Type 0} (x y : A) (c : Bool) → c ≡ false → (if c then x else y) ≡ y
if_false x y false e = refl
if_false x y true e = absurd cc

pub le_true : (m n : ℕ) → m ≤ n → nat_le m n ≡ true
le_true m n h = grind (arith, nat_tests)

pub le_false : (m n : ℕ) → n < m → nat_le m n ≡ false
le_false m n h = grind (arith, nat_tests)

pub eq_true : (m n : ℕ) → m ≡ n → (m == n) ≡ true
eq_true m n h = grind (arith, nat_tests)

-- a spot of the open chunk, or of the end
pub found_open :
    (now : Option Image) (b : Base) (opened : List Event) (cache : Cache Kept) (old spot : Spot) → passed b.growths b.end ≡ b.end → SpellsSettled now b opened old → b.committed ≤ old.number → spot.number ≡ old.number → spot.place ≡ b.end → spot.index ≡ old.number - b.committed
    → SpellsSettled now b opened spot × Found now b opened cache spot old.number
found_open now b opened cache old spot rests spells ge number place index =
    let o : InOpen b spot.place spot.index spot.number = record { place_is = place; number_is = omega (arith, number, index, ge) } in
    let most : spot.number ≤ count_of b opened = omega (arith, number, spells.number) in
    let shows : seen b.committed opened cache spot ≡ slice_get (all_events now b opened) old.number =
    if_true _ _ (nat_le b.committed spot.number) (le_true _ _ (omega (arith, number, ge)))
    ∙ sym (get_right (stored now b) opened spot.index) ∙ ap (slice_get (all_events now b opened)) (omega (arith, stored_long now b, index, ge)) in (
      record { image = spells.image; told = spells.told; number = most; spelling = inr o; at = subst (λ (p : ℕ). passed b.growths p ≡ p) (sym place) rests },
      record { later = record { image = spells.image; told = spells.told; number = most; spelling = inr o }; shows = shows },
    )

found_by :
    (now : Option Image) (v : Image) (may : Image → Type 0) (b : Base) (opened : List Event) (next time : ℕ) (first cache : Cache Kept) (spot : Spot) (kept : Kept) → now ≡ Some v → IsRight v may b opened next time first
    → (f : InFront b (v b.file) spot.place spot.index spot.number) → spot.number < b.committed → IsCached (view_of b) (v b.file) cache → item_at spot.place cache ≡ Some kept → Found now b opened cache spot spot.number
found_by now v may b opened next time first cache spot kept told right f lt cached held =
    let i = f.chunk in
    let same = one_chunk _ kept.chunk i.chunk kept.next i.next (cached spot.place kept held) i.here in
    record {
      later = record { image = v; told = told; number = omega (arith, lt); spelling = inl (lt, f) };
      shows = if_false _ _ (nat_le b.committed spot.number) (le_false _ _ lt) ∙ ap (λ (o : Option Kept). seen_in o spot.index) held ∙ ap (λ (l : List Event). slice_get l spot.index) same.0
          ∙ sym (event_is v may b opened next time first right spot.place spot.index spot.number i f.within)
          ∙ sym (ap (λ (n : Option Image). slice_get (all_events n b opened) spot.number) told);
    }

-- no turn to the next chunk
pub found_here :
    (now : Option Image) (v : Image) (may : Image → Type 0) (b : Base) (opened : List Event) (next time : ℕ) (first cache : Cache Kept) (spot : Spot) (kept : Kept) → now ≡ Some v → IsRight v may b opened next time first
    → SpellsSettled now b opened spot → spot.number < b.committed → IsCached (view_of b) (v b.file) cache → item_at spot.place cache ≡ Some kept → next_in (item_at spot.place cache) spot.index ≡ None → Found now b opened cache spot spot.number
found_here now v may b opened next time first cache spot kept told right spells lt cached held stays =
    let i = near now v b opened spot told spells lt in
    let same = one_chunk _ kept.chunk i.chunk kept.next i.next (cached spot.place kept held) i.here in
    let none : next_in (Some kept) spot.index ≡ None = sym (ap (λ (o : Option Kept). next_in o spot.index) held) ∙ stays in
    let differs : spot.index ≢ length i.chunk = λ e. some_none (next_in (Some kept) spot.index) kept.next (if_true _ _ _ (eq_true spot.index (length kept.chunk) (e ∙ sym (ap length same.0)))) none in
    let within : spot.index < length i.chunk = omega (arith, i.most, differs) in
    found_by now v may b opened next time first cache spot kept told right (record { chunk = i; within = within }) lt cached held

pub next_some : (o : Option Kept) (index n : ℕ) → next_in o index ≡ Some n → (kept : Kept) × (o ≡ Some kept) × (index ≡ length kept.chunk) × (kept.next ≡ n)
next_some None index n e = absurd cc
next_some (Some kept) index n e = by (index == length kept.chunk) refl
  where
    by : (c : Bool) → (index == length kept.chunk) ≡ c → (k : Kept) × (Some kept ≡ Some k) × (index ≡ length k.chunk) × (k.next ≡ n)
    by true t = let f : Some kept.next ≡ Some n = sym (if_true _ _ _ t) ∙ e in (kept, refl, grind (arith, nat_tests), cc)
    by false f = let g : None ≡ Some n = sym (if_false _ _ _ f) ∙ e in absurd cc

-- the turn to the next chunk
pub turn :
    (now : Option Image) (v : Image) (may : Image → Type 0) (b : Base) (opened : List Event) (next time : ℕ) (first mid : Cache Kept) (spot : Spot) (n : ℕ) → now ≡ Some v → IsRight v may b opened next time first
    → SpellsSettled now b opened spot → spot.number < b.committed → IsCached (view_of b) (v b.file) mid → next_in (item_at spot.place mid) spot.index ≡ Some n → InFront b (v b.file) n 0 spot.number
turn now v may b opened next time first mid spot n told right spells lt cached turns =
    let i = near now v b opened spot told spells lt in
    let k = next_some (item_at spot.place mid) spot.index n turns in
    let same = one_chunk _ k.0.chunk i.chunk k.0.next i.next (cached spot.place k.0 k.1) i.here in
    subst (λ (p : ℕ). InFront b (v b.file) p 0 spot.number) (sym same.1 ∙ k.3) (goes_on v may b opened next time first right spot.place spot.index spot.number i (k.2 ∙ ap length same.0) lt)

pub found_next :
    (now : Option Image) (v : Image) (may : Image → Type 0) (b : Base) (opened : List Event) (next time : ℕ) (first mid cache : Cache Kept) (old spot : Spot) (kept : Kept) (n : ℕ) → now ≡ Some v → IsRight v may b opened next time first
    → SpellsSettled now b opened old → old.number < b.committed → IsCached (view_of b) (v b.file) mid → next_in (item_at old.place mid) old.index ≡ Some n → spot.number ≡ old.number → spot.place ≡ n → spot.index ≡ 0
    → IsCached (view_of b) (v b.file) cache → item_at n cache ≡ Some kept → SpellsSettled now b opened spot × Found now b opened cache spot old.number
found_next now v may b opened next time first mid cache old spot kept n told right spells lt cached_mid turns number place index cached held =
    let f0 = turn now v may b opened next time first mid old n told right spells lt cached_mid turns in
    let f1 = subst (λ (p : ℕ). InFront b (v b.file) p 0 old.number) (sym place) f0 in
    let f2 = subst (λ (i : ℕ). InFront b (v b.file) spot.place i old.number) (sym index) f1 in
    let f = subst (λ (m : ℕ). InFront b (v b.file) spot.place spot.index m) (sym number) f2 in
    let less : spot.number < b.committed = omega (arith, number, lt) in (
      record {
        image = v;
        told = told;
        number = omega (arith, less);
        spelling = inl (omega (arith, less), f.chunk);
        at = chunk_rests v may b opened next time first right spot.place spot.index spot.number f.chunk;
      },
      subst (λ (m : ℕ). Found now b opened cache spot m) number (found_by now v may b opened next time first cache spot kept told right f less cached (subst (λ (p : ℕ). item_at p cache ≡ Some kept) (sym place) held)),
    )

-- the same view of the same file has the same chunks
pub cached_same : (F G : View) (f g : ℕ) (v : Image) (cache : Cache Kept) → F ≡ G → f ≡ g → IsCached F (v f) cache → IsCached G (v g) cache
cached_same F G f g v cache view file cached = subst (λ (n : ℕ). IsCached G (v n) cache) file (subst (λ (w : View). IsCached w (v f) cache) view cached)

pub absent_same : (F G : View) (f g d e : ℕ) (v : Image) (place : ℕ) → F ≡ G → f ≡ g → d ≡ e → IsAbsent F place d (v f) → IsAbsent G place e (v g)
absent_same F G f g d e v place view file end absent =
    subst (λ (m : ℕ). IsAbsent G place m (v g)) end (subst (λ (n : ℕ). IsAbsent G place d (v n)) file (subst (λ (w : View). IsAbsent w place d (v f)) view absent))

pub illegal_same : (F G : List Field) (f g : ℕ) (v : Image) (place : ℕ) → F ≡ G → f ≡ g → IsIllegal F place (v f) → IsIllegal G place (v g)
illegal_same F G f g v place fields file bad = subst (λ (n : ℕ). IsIllegal G place (v n)) file (subst (λ (l : List Field). IsIllegal l place (v f)) fields bad)

pub inside_others : (end : ℕ) (old new : Cache Kept) (place : ℕ) (kept : Kept) → kept.next ≤ end → ((q : ℕ) (x : Kept) → item_at q new ≡ Some x → ((q ≡ place) × (x ≡ kept)) ⊎ (item_at q old ≡ Some x)) → IsInside end old → IsInside end new
inside_others end old new place kept le others was q x held = elim (others q x held) [
  | inl same ↦ subst (λ (k : Kept). k.next ≤ end) (sym same.1) le
  | inr there ↦ was q x there
]

pub inside_moved : (end : ℕ) (old new : Cache Kept) → ((q : ℕ) → item_at q new ≡ item_at q old) → IsInside end old → IsInside end new
inside_moved end old new items was q x held = was q x (sym (items q) ∙ held)

pub absent_none : (view : View) (place end : ℕ) (bytes : List ℕ) → chunk_at view place bytes ≡ None → IsAbsent view place end bytes
absent_none view place end bytes none = λ chunk next some. absurd (some_none _ _ some none)

pub absent_far : (view : View) (place end : ℕ) (bytes : List ℕ) (kept : Kept) → chunk_at view place bytes ≡ Some (kept.chunk, kept.next) → end < kept.next → IsAbsent view place end bytes
absent_far view place end bytes kept here far = λ chunk next some. omega (arith, (one_chunk _ kept.chunk chunk kept.next next here some).1, far)

-- what was put, and what was there
pub kept_others : (view : View) (bytes : List ℕ) (old new : Cache Kept) (place : ℕ) (kept : Kept) → chunk_at view place bytes ≡ Some (kept.chunk, kept.next)
    → ((q : ℕ) (x : Kept) → item_at q new ≡ Some x → ((q ≡ place) × (x ≡ kept)) ⊎ (item_at q old ≡ Some x)) → IsCached view bytes old → IsCached view bytes new
kept_others view bytes old new place kept here others was q x held = elim (others q x held) [
  | inl same ↦ subst (λ (p : ℕ). chunk_at view p bytes ≡ Some (x.chunk, x.next)) (sym same.0) (here ∙ ap (λ (k : Kept). Some (k.chunk, k.next)) (sym same.1))
  | inr there ↦ was q x there
]

pub cached_moved : (view : View) (bytes : List ℕ) (old new : Cache Kept) → ((q : ℕ) → item_at q new ≡ item_at q old) → IsCached view bytes old → IsCached view bytes new
cached_moved view bytes old new items was q x held = was q x (sym (items q) ∙ held)
