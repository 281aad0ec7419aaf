-- What is kept after a commit.
use Rattle.std.proofs.Common.{◌≡◌, ◌∙◌, ◌⊎◌, inl, inr, ℕ, zero, suc, ◌+◌, ◌^◌, ◌≤◌, Bool, true, false, List, [], ◌∷◌, ◌++◌, length, take, Option, Some, None, refl, sym, ap, subst, arith, append_assoc, length-append}
use Rattle.std.proofs.lemmas.List.{append-nil, take_all}
use Rattle.rg_host.specs.Image.{Image}
use Rattle.rg_event.specs.Codec.{IsEventOf}
use Rattle.rg_event.specs.declared.event.Event.{Event}
use Rattle.rg_event.specs.Rising.{IsRising, next_offset, last_time}
use Rattle.rg_past.specs.declared.past.Spot.{Spot}
use Rattle.rg_frame.proofs.Laws.{payloads_one}
use Rattle.rg_frame.specs.Frames.{frames, IsLog, HasPayloads, EndsAt}
use Rattle.rg_frame.specs.Looks.{IsClosed}
use Rattle.rg_frame.specs.Steps.{Leaves, From, Grown}
use Rattle.rg_host.specs.Image.{NothingPending}
use Rattle.rg_cache.specs.Cache.{Cache}
use Rattle.rg_chunk.specs.Chunks.{chunk_bytes, chunk_of}
use Rattle.rg_chunk.specs.declared.head.Layout.TheVariants.{Columns}
use Rattle.rg_chunk.proofs.Laws.{chunk_back}
use Rattle.rg_reservoir.specs.declared.kept.Kept.{Kept}
use Rattle.std.proofs.lemmas.List.Elements.{All-from_recursion}
use Rattle.rg_log.specs.Log.{schema_payload, joined, IsChunkOf, HasEvents, IsInForce}
use Rattle.rg_log.specs.Stages.{chunk}
use Rattle.rg_log.proofs.Laws.{adds_log, added_log, head_same}
use Rattle.rg_reservoir.specs.Chain.{chunk_in, chunk_at, Chain, with_chunk, events_from, padded}
use Rattle.rg_reservoir.specs.GrownViews.{IsViewOf, IsUngrown}
use Rattle.rg_event.specs.Shapes.{Shape}
use Rattle.rg_reservoir.specs.Views.{View, shape_at, passed}
use Rattle.rg_reservoir.proofs.Listing.{log_of, last_small, grown_log as grown_end}
use Rattle.rg_reservoir.specs.Kept.{Base, view_of, stored, all_events, CommittedOrAll, IsRight, IsSoundIn, InChunk, InOpen, Spells, Adds}
use Rattle.rg_reservoir.proofs.Chains.{chunk_at_size, joined-append, chain_push, from_chain, padded_same}
use Rattle.rg_reservoir.proofs.Committing.{chunk_stays, chunk_behind, chain_stays, LogAt, log_at, LogMore, log_more}
use Rattle.rg_reservoir.proofs.GrownViews.{end as end_of, more}
use Rattle.rg_reservoir.proofs.Seeking.{stored_is, before_end, one_image}
use Rattle.rg_reservoir.proofs.Viewing.{chunk_by}

rising_behind : (xs ys : List Event) → IsRising (xs ++ ys) → IsRising ys
rising_behind [] ys rising = rising
rising_behind (x ∷ []) [] rising = tt
rising_behind (x ∷ []) (y ∷ ys) rising = rising.2
rising_behind (x ∷ (z ∷ xs)) ys rising = rising_behind (z ∷ xs) ys rising.2

pub stored_by : (v : Image) (b : Base) (chunks : List (List Event)) → Chain (view_of b) (v b.file) b.first chunks b.end → chunk_at (view_of b) b.end (v b.file) ≡ None → length (joined chunks) ≡ b.committed → stored (Some v) b ≡ joined chunks
stored_by v b chunks chain ends counted =
    ap (padded b.committed) (from_chain (view_of b) (v b.file) b.committed b.first chunks b.end chain ends (omega (arith, counted))) ∙ padded_same b.committed (joined chunks) counted

abbrev pub grown : Base → ℕ → ℕ → Base
grown b end count = record { shape = b.shape; growths = b.growths; file = b.file; first = b.first; end = end; ended = b.ended; committed = b.committed + count; limit = b.limit }

joined_push : (chunks : List (List Event)) (c : List Event) → joined (chunks ++ c ∷ []) ≡ joined chunks ++ c
joined_push chunks c = joined-append chunks (c ∷ []) ∙ ap (λ (l : List Event). joined chunks ++ l) (append-nil c)

-- what an open chunk says as a payload
module _ (v : Image) (may : Image → Type 0) (b : Base) (opened : List Event) (next time : ℕ) (cache : Cache Kept) (right : IsRight v may b opened next time cache) (some : 1 ≤ length opened) (few : length opened ≤ 4096) where
  pub all_is : all_events (Some v) b opened ≡ joined right.chunks ++ opened
  all_is = ap (λ (l : List Event). l ++ opened) (stored_is v may b opened next time cache right)

  pub rises : IsRising (joined right.chunks ++ opened)
  rises = subst IsRising all_is right.rising

  pub fewer : length (joined right.chunks ++ opened) ≤ 2 ^ 40
  fewer = omega (arith, length-append (joined right.chunks) opened, right.counted, right.few)

  pub said : chunk_of b.shape.fields (chunk_bytes b.shape.fields opened) ≡ Some opened
  said = chunk_back Columns b.shape.fields opened (record { legal = All-from_recursion (IsEventOf b.shape.fields) opened right.fits; rising = rising_behind (joined right.chunks) opened rises; some = some; few = few })

  pub is_chunk : IsChunkOf b.shape (chunk_bytes b.shape.fields opened) opened
  is_chunk = record { said = said; of = All-from_recursion (IsEventOf b.shape.fields) opened right.fits }

  pub was : IsLog right.payloads b.end (v b.file)
  was = log_of right.payloads b.end (v b.file) right.has right.end_is

module _ (v w : Image) (may after : Image → Type 0) (b : Base) (opened : List Event) (next time : ℕ) (cache : Cache Kept) (right : IsRight v may b opened next time cache) (end : ℕ) (some : 1 ≤ length opened) (few : length opened ≤ 4096)
    (step : Grown (chunk_bytes b.shape.fields opened) (v b.file) (w b.file)) (end_is : end ≡ b.end + 9 + length (chunk_bytes b.shape.fields opened)) where
  more_payloads : HasPayloads (right.payloads ++ chunk_bytes b.shape.fields opened ∷ []) (w b.file)
  more_payloads = step right.payloads right.has

  is : IsLog (right.payloads ++ chunk_bytes b.shape.fields opened ∷ []) end (w b.file)
  is = grown_end right.payloads (chunk_bytes b.shape.fields opened) b.end end (v b.file) (w b.file) step right.has right.end_is end_is

  old : LogAt right.payloads b.end (v b.file)
  old = log_at right.payloads b.end (v b.file) (was v may b opened next time cache right some few)

  new : LogMore right.payloads (chunk_bytes b.shape.fields opened) b.end end (w b.file)
  new = log_more right.payloads (chunk_bytes b.shape.fields opened) b.end end (w b.file) (last_small right.payloads (chunk_bytes b.shape.fields opened) (w b.file) more_payloads) (sym right.end_is) is

  legal : IsInForce b.shape (w b.file) × HasEvents b.shape (joined right.chunks ++ opened) (w b.file)
  legal = added_log payloads_one b.shape (joined right.chunks) opened (chunk_bytes b.shape.fields opened) (v b.file) (w b.file) right.framed right.legal (is_chunk v may b opened next time cache right some few)
      (rises v may b opened next time cache right some few) (fewer v may b opened next time cache right some few) step

  all_here : all_events (Some v) b opened ≡ joined right.chunks ++ opened
  all_here = all_is v may b opened next time cache right some few

  front : take b.end (w b.file) ≡ take b.end (v b.file)
  front = new.front ∙ sym old.front

  -- no growth stands where the frames end, or behind it
  ungrown : (place : ℕ) → b.end ≤ place → IsUngrown (view_of b) place
  ungrown place on = end_of payloads_one (view_of b) right.stages right.payloads (v b.file) place right.view right.has (omega (arith, right.end_is, on))

  -- so what is written there is seen as it is
  pub here : chunk_at (view_of b) b.end (w b.file) ≡ Some (opened, end)
  here =
      let bytes = chunk_bytes b.shape.fields opened in
      let last = ungrown b.end (omega arith) in
      let says : chunk_of (shape_at (view_of b) b.end).fields bytes ≡ Some opened = ap (λ (s : Shape). chunk_of s.fields bytes) last.schema ∙ said v may b opened next time cache right some few in
      let behind : passed b.growths (b.end + 9 + length bytes) ≡ end = (ungrown (b.end + 9 + length bytes) (omega arith)).stays ∙ sym new.next_is in
      chunk_by (view_of b) b.end (w b.file) bytes opened new.here says
      ∙ ap (λ (l : List Event). Some (l, passed b.growths (b.end + 9 + length bytes))) (last.events opened) ∙ ap (λ (n : ℕ). Some (opened, n)) behind

  -- and the view stays
  pub view : IsViewOf (view_of b) (right.stages ++ chunk opened ∷ []) (w b.file)
  view = more payloads_one (view_of b) right.stages (chunk opened) right.payloads (chunk_bytes b.shape.fields opened) (v b.file) (w b.file) right.view right.has (is_chunk v may b opened next time cache right some few) step

  first_is : b.first ≡ passed b.growths (9 + length (schema_payload view.begun))
  first_is =
      let was = right.view in
      let lists = payloads_one (schema_payload was.begun ∷ (was.payloads ++ chunk_bytes b.shape.fields opened ∷ [])) (schema_payload view.begun ∷ view.payloads) (w b.file) (step (schema_payload was.begun ∷ was.payloads) was.has) view.has in
      right.first_is ∙ ap (λ (p : List ℕ). passed b.growths (9 + length p)) (head_same (schema_payload was.begun) (schema_payload view.begun) (was.payloads ++ chunk_bytes b.shape.fields opened ∷ []) view.payloads lists)

  pub chain : Chain (view_of b) (w b.file) b.first right.chunks b.end
  chain = chain_stays (view_of b) (v b.file) (w b.file) b.first b.end right.chunks b.end front (λ _. new.more) (omega arith) right.chain

  pub longer : Chain (view_of b) (w b.file) b.first (right.chunks ++ opened ∷ []) end
  longer = chain_push (view_of b) (w b.file) b.first right.chunks b.end opened end chain here

  pub ends : chunk_at (view_of b) end (w b.file) ≡ None
  ends = ap (chunk_in (view_of b) end) (log_at (right.payloads ++ chunk_bytes b.shape.fields opened ∷ []) end (w b.file) is).none

  pub closed : IsClosed end (w b.file)
  closed = (log_at (right.payloads ++ chunk_bytes b.shape.fields opened ∷ []) end (w b.file) is).closed

  counted : length (joined (right.chunks ++ opened ∷ [])) ≡ b.committed + length opened
  counted = ap length (joined_push right.chunks opened) ∙ omega (arith, length-append (joined right.chunks) opened, right.counted)

  pub stored_new : stored (Some w) (grown b end (length opened)) ≡ all_events (Some v) b opened
  stored_new = stored_by w (grown b end (length opened)) (right.chunks ++ opened ∷ []) longer ends counted ∙ joined_push right.chunks opened ∙ sym all_here

  pub all_new : all_events (Some w) (grown b end (length opened)) [] ≡ all_events (Some v) b opened
  all_new = append-nil _ ∙ stored_new

  sound_all : ((u : Image) → after u → u b.file ≡ w b.file) → IsSoundIn w after (grown b end (length opened)) [] next time cache
  sound_all settled = record {
    each = λ u left. (
      all_events (Some v) b opened,
      subst (λ (bytes : List ℕ). HasEvents b.shape (all_events (Some v) b opened) bytes) (sym (settled u left)) (subst (λ (l : List Event). HasEvents b.shape l (w b.file)) (sym all_here) legal.1),
      subst (λ (bytes : List ℕ). IsInForce b.shape bytes) (sym (settled u left)) legal.0,
      ([], sym stored_new ∙ sym (append-nil _)),
      ([], all_new ∙ sym (append-nil _)),
    );
    right = λ going. record {
      settled = settled;
      stages = right.stages ++ chunk opened ∷ [];
      view = view;
      first_is = first_is;
      chunks = right.chunks ++ opened ∷ [];
      chain = longer;
      ends = closed;
      payloads = right.payloads ++ chunk_bytes b.shape.fields opened ∷ [];
      has = more_payloads;
      end_is = sym is.ends;
      legal = subst (λ (l : List Event). HasEvents b.shape l (w b.file)) (sym (joined_push right.chunks opened)) legal.1;
      framed = legal.0;
      counted = counted;
      cached = λ place kept held. chunk_stays (view_of b) place b.end (v b.file) (w b.file) kept.chunk kept.next front (right.cached place kept held) (right.inside place kept held) new.more;
      inside = λ place kept held. omega (arith, right.inside place kept held, new.next_is);
      rising = subst IsRising (sym all_new) right.rising;
      next_is = right.next_is ∙ ap next_offset (sym all_new);
      time_is = right.time_is ∙ ap last_time (sym all_new);
      fits = tt;
      few = omega (arith, right.few);
    };
  }

  pub committed : ((u : Image) → after u → u b.file ≡ w b.file) → IsSoundIn w after (grown b end (length opened)) [] next time cache
  committed settled = sound_all settled

  -- a spelled spot stays spelled
  pub spells_on : (now then : Option Image) (s : Spot) → now ≡ Some v → then ≡ Some w → Spells now b opened s → Spells then (grown b end (length opened)) [] s
  spells_on now then s told new_told spells = record {
    there = record { image = w; told = new_told; number = omega (arith, spells.there.number); spelling = inl (omega (arith, spells.there.number), by spells.there.spelling); at = spells.there.at };
    at = spells.at;
  }
    where
      by : ((s.number ≤ b.committed) × InChunk b (spells.there.image b.file) (passed b.growths s.place) s.index s.number) ⊎ InOpen b (passed b.growths s.place) s.index s.number → InChunk (grown b end (length opened)) (w b.file) (passed b.growths s.place) s.index s.number
      by (inl i0) =
          let place = passed b.growths s.place in
          let i = subst (λ (u : Image). InChunk b (u b.file) place s.index s.number) (one_image now spells.there.image v spells.there.told told) i0.1 in
          let le = before_end v may b opened next time cache right place s.index s.number i in
          record {
            chunks = i.chunks;
            chunk = i.chunk;
            next = i.next;
            chain = chain_stays (view_of b) (v b.file) (w b.file) b.first b.end i.chunks place front (λ _. new.more) (omega (arith, le, chunk_behind (view_of b) place (v b.file) i.chunk i.next i.here)) i.chain;
            here = chunk_stays (view_of b) place b.end (v b.file) (w b.file) i.chunk i.next front i.here le new.more;
            number_is = i.number_is;
            most = i.most;
          }
      by (inr o) = record {
        chunks = right.chunks;
        chunk = opened;
        next = end;
        chain = subst (λ (p : ℕ). Chain (view_of b) (w b.file) b.first right.chunks p) (sym o.place_is) chain;
        here = subst (λ (p : ℕ). chunk_at (view_of b) p (w b.file) ≡ Some (opened, end)) (sym o.place_is) here;
        number_is = omega (arith, o.number_is, right.counted);
        most = omega (arith, o.number_is, spells.there.number);
      }

pub grown_is : (b : Base) (file end committed count : ℕ) (ended : Bool) → file ≡ b.file → ended ≡ b.ended → committed ≡ b.committed + count
    → record { shape = b.shape; growths = b.growths; file = file; first = b.first; end = end; ended = ended; committed = committed; limit = b.limit } ≡ grown b end count
grown_is b file end committed count ended f e c =
    ap (λ (n : ℕ). record { shape = b.shape; growths = b.growths; file = n; first = b.first; end = end; ended = ended; committed = committed; limit = b.limit }) f
    ∙ (ap (λ (x : Bool). record { shape = b.shape; growths = b.growths; file = b.file; first = b.first; end = end; ended = x; committed = committed; limit = b.limit }) e
    ∙ ap (λ (n : ℕ). record { shape = b.shape; growths = b.growths; file = b.file; first = b.first; end = end; ended = b.ended; committed = n; limit = b.limit }) c)

module _ (v : Image) (may : Image → Type 0) (b : Base) (opened : List Event) (next time : ℕ) (cache : Cache Kept) (right : IsRight v may b opened next time cache) where
  -- nothing is pending
  pub settled_told : (now : Option Image) → now ≡ Some v → NothingPending b.file now may
  settled_told now told = λ w is u left. right.settled u left ∙ ap (λ (i : Image). i b.file) (one_image now v w told is)

  pub ends_at : EndsAt b.end (v b.file)
  ends_at = (right.payloads, log_of right.payloads b.end (v b.file) right.has right.end_is)

  -- the log as it is, in an image that might be left
  pub same_events : (u : List ℕ) → u ≡ v b.file → IsInForce b.shape u × HasEvents b.shape (joined right.chunks) u
  same_events u same = (subst (λ (bytes : List ℕ). IsInForce b.shape bytes) (sym same) right.framed, subst (λ (bytes : List ℕ). HasEvents b.shape (joined right.chunks) bytes) (sym same) right.legal)

  -- within the append, and after it
  pub adds_events : (u : List ℕ) → length opened ≤ 4096 → Adds b.shape.fields opened (v b.file) u → IsInForce b.shape u × (HasEvents b.shape (joined right.chunks) u ⊎ HasEvents b.shape (joined right.chunks ++ opened) u)
  adds_events u few (inl same) = let e = same_events u same in (e.0, inl e.1)
  adds_events u few (inr (some, grows)) =
      adds_log payloads_one b.shape (joined right.chunks) opened (chunk_bytes b.shape.fields opened) (v b.file) u right.framed right.legal (is_chunk v may b opened next time cache right some few)
      (rises v may b opened next time cache right some few) (fewer v may b opened next time cache right some few) grows

  pub left_adds : (now : Option Image) → now ≡ Some v → (u : Image) → Leaves b.file (From b.end (Adds b.shape.fields opened)) now may u → Adds b.shape.fields opened (v b.file) (u b.file)
  left_adds now told u left = left.1 (settled_told now told) v told ends_at

  pub left_events : (now : Option Image) → now ≡ Some v → length opened ≤ 4096 → (u : Image) → Leaves b.file (From b.end (Adds b.shape.fields opened)) now may u → CommittedOrAll now b opened u
  left_events now told few u left = subst (λ (o : Option Image). CommittedOrAll o b opened u) (sym told) (by (adds_events (u b.file) few (left_adds now told u left)).1)
    where
      is : stored (Some v) b ≡ joined right.chunks
      is = stored_is v may b opened next time cache right

      by : HasEvents b.shape (joined right.chunks) (u b.file) ⊎ HasEvents b.shape (joined right.chunks ++ opened) (u b.file) → CommittedOrAll (Some v) b opened u
      by (inl has) = inl (subst (λ (l : List Event). HasEvents b.shape l (u b.file)) (sym is) has)
      by (inr has) = inr (subst (λ (l : List Event). HasEvents b.shape (l ++ opened) (u b.file)) (sym is) has)

padded_front : (n : ℕ) (xs ys : List Event) → n ≤ length xs → padded n (xs ++ ys) ≡ take n xs
padded_front zero xs ys le = refl
padded_front (suc n) [] ys le = absurd (omega arith)
padded_front (suc n) (x ∷ xs) ys le = ap (λ (l : List Event). x ∷ l) (padded_front n xs ys (omega arith))

-- the events from a place on begin with those of the chunks there
from_front : (view : View) (bytes : List ℕ) (most place : ℕ) (chunks : List (List Event)) (end : ℕ) → Chain view bytes place chunks end → length (joined chunks) ≤ most → (tail : List Event) × (events_from view most place bytes ≡ joined chunks ++ tail)
from_front view bytes most place [] end chain few = (events_from view most place bytes, refl)
from_front view bytes zero place (c ∷ chunks) end chain few = absurd (omega (arith, length-append c (joined chunks), (chunk_at_size view place bytes c chain.0 chain.1).0, few))
from_front view bytes (suc most) place (c ∷ chunks) end chain few =
    let rest = from_front view bytes most chain.0 chunks end chain.2 (omega (arith, length-append c (joined chunks), (chunk_at_size view place bytes c chain.0 chain.1).0, few)) in
    (rest.0, ap (λ (o : Option (List Event × ℕ)). with_chunk o (λ n. events_from view most n bytes)) chain.1 ∙ ap (λ (l : List Event). c ++ l) rest.1 ∙ sym (append_assoc c (joined chunks) rest.0))

stored_front : (w : Image) (b : Base) (chunks : List (List Event)) (end : ℕ) → Chain (view_of b) (w b.file) b.first chunks end → length (joined chunks) ≡ b.committed → stored (Some w) b ≡ joined chunks
stored_front w b chunks end chain counted =
    let f = from_front (view_of b) (w b.file) b.committed b.first chunks end chain (omega (arith, counted)) in
    ap (padded b.committed) f.1 ∙ padded_front b.committed (joined chunks) f.0 (omega (arith, counted)) ∙ take_all b.committed (joined chunks) (omega (arith, counted))

abbrev pub failed : Base → Base
failed b = record { shape = b.shape; growths = b.growths; file = b.file; first = b.first; end = b.end; ended = true; committed = b.committed; limit = b.limit }

pub failed_is : (b : Base) (file end : ℕ) (ended : Bool) → file ≡ b.file → end ≡ b.end → ended ≡ true → record { shape = b.shape; growths = b.growths; file = file; first = b.first; end = end; ended = ended; committed = b.committed; limit = b.limit } ≡ failed b
failed_is b file end ended f n e =
    ap (λ (m : ℕ). record { shape = b.shape; growths = b.growths; file = m; first = b.first; end = end; ended = ended; committed = b.committed; limit = b.limit }) f
    ∙ (ap (λ (m : ℕ). record { shape = b.shape; growths = b.growths; file = b.file; first = b.first; end = m; ended = ended; committed = b.committed; limit = b.limit }) n
    ∙ ap (λ (x : Bool). record { shape = b.shape; growths = b.growths; file = b.file; first = b.first; end = b.end; ended = x; committed = b.committed; limit = b.limit }) e)

true_false : true ≡ false → ⊥
true_false e = cc

module _ (v : Image) (may : Image → Type 0) (b : Base) (opened : List Event) (next time : ℕ) (cache : Cache Kept) (right : IsRight v may b opened next time cache) where
  chain_left : (u : List ℕ) → length opened ≤ 4096 → Adds b.shape.fields opened (v b.file) u → Chain (view_of b) u b.first right.chunks b.end
  chain_left u few (inl same) = subst (λ (bytes : List ℕ). Chain (view_of b) bytes b.first right.chunks b.end) (sym same) right.chain
  chain_left u few (inr (some, grows)) = by (grows right.payloads right.has)
    where
      was_at : LogAt right.payloads b.end (v b.file)
      was_at = log_at right.payloads b.end (v b.file) (log_of right.payloads b.end (v b.file) right.has right.end_is)

      by : HasPayloads right.payloads u ⊎ HasPayloads (right.payloads ++ chunk_bytes b.shape.fields opened ∷ []) u → Chain (view_of b) u b.first right.chunks b.end
      by (inl has) =
          let at = log_at right.payloads b.end u (log_of right.payloads b.end u has right.end_is) in
          chain_stays (view_of b) (v b.file) u b.first b.end right.chunks b.end (at.front ∙ sym was_at.front) at.more (omega arith) right.chain
      by (inr has) =
          let end = length (frames (right.payloads ++ chunk_bytes b.shape.fields opened ∷ [])) in
          let more = log_more right.payloads (chunk_bytes b.shape.fields opened) b.end end u (last_small right.payloads (chunk_bytes b.shape.fields opened) u has) (sym right.end_is) (log_of (right.payloads ++ chunk_bytes b.shape.fields opened ∷ []) end u has refl) in
          chain_stays (view_of b) (v b.file) u b.first b.end right.chunks b.end (more.front ∙ sym was_at.front) (λ _. more.more) (omega arith) right.chain

  pub failed_sound :
      (now : Option Image) (w : Image) (after : Image → Type 0) → now ≡ Some v → length opened ≤ 4096
      → ((u : Image) → after u → Leaves b.file (From b.end (Adds b.shape.fields opened)) now may u) → after w → IsSoundIn w after (failed b) opened next time cache
  failed_sound now w after told few left left_w =
      let was = stored_is v may b opened next time cache right in
      let is : stored (Some w) (failed b) ≡ joined right.chunks =
      stored_front w b right.chunks b.end (chain_left (w b.file) few (left_adds v may b opened next time cache right now told w (left w left_w))) right.counted in
      record {
        each = λ u left_u. let e = adds_events v may b opened next time cache right (u b.file) few (left_adds v may b opened next time cache right now told u (left u left_u)) in elim e.1 [
          | inl has ↦ (joined right.chunks, has, e.0, ([], sym is ∙ sym (append-nil _)), (opened, ap (λ (l : List Event). l ++ opened) is))
          | inr has ↦ (joined right.chunks ++ opened, has, e.0, (opened, ap (λ (l : List Event). l ++ opened) (sym is)), ([], ap (λ (l : List Event). l ++ opened) is ∙ sym (append-nil _)))
        ];
        right = λ going. absurd (true_false going);
      }
