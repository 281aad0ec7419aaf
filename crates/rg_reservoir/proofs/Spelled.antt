-- Spots of closed chunks, by places and in words of the frame list.
use Rattle.std.proofs.Common.{◌≡◌, ◌∙◌, ◌⊎◌, inl, inr, ℕ, ◌+◌, ◌≤◌, ◌<◌, ◌==◌, Bool, true, false, List, [], ◌∷◌, ◌++◌, length, Option, Some, None, refl, sym, ap, subst, arith, append_assoc, length-append, if◌then◌else◌}
use Rattle.std.proofs.lemmas.Bool.{eqb-true, eq-eqb}
use Rattle.std.proofs.lemmas.List.{append-nil}
use Rattle.std.specs.Option.{unwrap_or}
use Rattle.rg_host.specs.Image.{Image}
use Rattle.rg_event.specs.Shapes.{Shape}
use Rattle.rg_event.specs.declared.event.Event.{Event}
use Rattle.rg_past.specs.declared.past.Spot.{Spot}
use Rattle.rg_frame.specs.Frames.{frames, HasPayloads, payload_at}
use Rattle.rg_frame.proofs.Laws.{length-frames, length-frames-push, payloads_one, payload_between, payload_none}
use Rattle.rg_cache.specs.Cache.{Cache}
use Rattle.rg_chunk.specs.Chunks.{chunk_of}
use Rattle.rg_chunk.specs.Extended.{all_extended}
use Rattle.rg_growth.specs.declared.growth.Growth.{Growth}
use Rattle.rg_log.specs.Log.{schema_payload, joined, IsChunkOf}
use Rattle.rg_log.specs.Spots.{IsInChunk, IsBetween, SpotAt, SpotIn}
use Rattle.rg_log.specs.Stages.{Stage, chunk, growth, shape_after, in_force, IsStage, AreStages, values_of, logged}
use Rattle.rg_log.proofs.Laws.{length-extended, one_shape, head_same, rest_same, after_of, one_stage, part}
use Rattle.rg_reservoir.specs.declared.growing.Growing.{Growing}
use Rattle.rg_reservoir.specs.declared.kept.Kept.{Kept}
use Rattle.rg_reservoir.specs.Chain.{chunk_in, chunk_at, Chain}
use Rattle.rg_reservoir.specs.GrownViews.{growing_at, growths_from}
use Rattle.rg_reservoir.specs.Kept.{Base, view_of, IsRight, InChunk, InOpen, Spells}
use Rattle.rg_reservoir.specs.Views.{View, before as found_before, shape_at, grown_at, passed}
use Rattle.rg_reservoir.proofs.Chains.{one_chunk, some_none, joined-append, chain_split}
use Rattle.rg_reservoir.proofs.Committing.{chunk_behind, chain_behind}
use Rattle.rg_reservoir.proofs.Fetching.{fetch_none}
use Rattle.rg_reservoir.proofs.GrownViews.{Tells, tells_all, tells_later, tells_behind, passed-front, shape-front, just}
use Rattle.rg_reservoir.proofs.Seeking.{one_image}
use Rattle.rg_reservoir.proofs.Settling.{settles}
use Rattle.rg_reservoir.proofs.Viewing.{length-grown, chunk_by}

-- Chains from one place.

-- to another place there is one
chain_to : (view : View) (bytes : List ℕ) (place : ℕ) (a b : List (List Event)) (q : ℕ) → Chain view bytes place a q → Chain view bytes place b q → a ≡ b
chain_to view bytes place [] [] q x y = refl
chain_to view bytes place [] (c ∷ b) q x y = absurd (omega (arith, x, chunk_behind view place bytes c y.0 y.1, chain_behind view bytes y.0 b q y.2))
chain_to view bytes place (c ∷ a) [] q x y = absurd (omega (arith, y, chunk_behind view place bytes c x.0 x.1, chain_behind view bytes x.0 a q x.2))
chain_to view bytes place (c ∷ a) (d ∷ b) q x y =
    let same = one_chunk _ c d x.0 y.0 x.1 y.1 in
    ap (λ (e : List Event). e ∷ a) same.0 ∙ ap (λ (l : List (List Event)). d ∷ l) (chain_to view bytes y.0 a b q (subst (λ (n : ℕ). Chain view bytes n a q) same.1 x.2) y.2)

-- one comes to the end, or to a chunk
chain_on : (view : View) (bytes : List ℕ) (place : ℕ) (all before : List (List Event)) (end q : ℕ) → Chain view bytes place all end → chunk_at view end bytes ≡ None → Chain view bytes place before q → (q ≡ end) ⊎ ((c : List Event) × (n : ℕ) × (chunk_at view q bytes ≡ Some (c, n)))
chain_on view bytes place [] [] end q chain none to = inl (sym to ∙ chain)
chain_on view bytes place (d ∷ all) [] end q chain none to = inr (d, chain.0, subst (λ (n : ℕ). chunk_at view n bytes ≡ Some (d, chain.0)) to chain.1)
chain_on view bytes place [] (b ∷ before) end q chain none to = absurd (some_none _ _ to.1 (subst (λ (n : ℕ). chunk_at view n bytes ≡ None) (sym chain) none))
chain_on view bytes place (d ∷ all) (b ∷ before) end q chain none to =
    let same = one_chunk _ d b chain.0 to.0 chain.1 to.1 in
    chain_on view bytes to.0 all before end q (subst (λ (n : ℕ). Chain view bytes n all end) same.1 chain.2) none to.2

-- The frames from a place on, one after another.

module _ (done : List (List ℕ)) (p : List ℕ) (rest : List (List ℕ)) where
  next_has : (bytes : List ℕ) → HasPayloads (done ++ p ∷ rest) bytes → HasPayloads ((done ++ p ∷ []) ++ rest) bytes
  next_has bytes has = subst (λ (l : List (List ℕ)). HasPayloads l bytes) (sym (append_assoc done (p ∷ []) rest)) has

  next_at : (place : ℕ) → place ≡ length (frames done) → place + 9 + length p ≡ length (frames (done ++ p ∷ []))
  next_at place at = ap (λ (n : ℕ). n + 9 + length p) at ∙ sym (length-frames-push done p)

  next_ends : length (frames ((done ++ p ∷ []) ++ rest)) ≡ length (frames (done ++ p ∷ rest))
  next_ends = ap (λ (l : List (List ℕ)). length (frames l)) (append_assoc done (p ∷ []) rest)

-- a chunk's frame
record AtChunk (view : View) (bytes : List ℕ) (place : ℕ) (shape : Shape) (p : List ℕ) (rest : List (List ℕ)) (events : List Event) (stages : List Stage) : Type 0 where
  stands : passed view.growths place ≡ place
  here : chunk_at view place bytes ≡ Some (grown_at view.growths place events, passed view.growths (place + 9 + length p))
  more : Tells view.growths (growths_from (place + 9 + length p) shape rest stages) (place + 9 + length p)

at_chunk : (view : View) (bytes : List ℕ) (place : ℕ) (shape : Shape) (p : List ℕ) (rest : List (List ℕ)) (events : List Event) (stages : List Stage) → payload_at place bytes ≡ Some p → IsChunkOf shape p events → AreStages shape rest stages
    → view.shape ≡ in_force shape stages → Tells view.growths (growths_from (place + 9 + length p) shape rest stages) place → AtChunk view bytes place shape p rest events stages
at_chunk view bytes place shape p rest events stages there is are last tells =
    let back = growths_from (place + 9 + length p) shape rest stages in
    let same : place ≤ place = omega arith in
    let front : place < place + 9 + length p = omega arith in
    let upto : place ≤ place + 9 + length p = omega arith in
    let schema : shape_at view place ≡ shape =
    ap (λ (o : Option Shape). unwrap_or o view.shape) (tells.before_is place same) ∙ ap (λ (s : Shape). unwrap_or (found_before back place) s) last ∙ shape-front (place + 9 + length p) shape rest stages place are upto in
    record {
      stands = tells.passed_is place same ∙ passed-front (place + 9 + length p) shape rest stages place front;
      here = chunk_by view place bytes p events there (ap (λ (s : Shape). chunk_of s.fields p) schema ∙ is.said);
      more = tells_later view.growths back place (place + 9 + length p) upto tells;
    }

-- a growth's
record AtGrowth (view : View) (place : ℕ) (to : Shape) (p : List ℕ) (rest : List (List ℕ)) (stages : List Stage) : Type 0 where
  skips : passed view.growths place ≡ passed view.growths (place + 9 + length p)
  more : Tells view.growths (growths_from (place + 9 + length p) to rest stages) (place + 9 + length p)

at_growth : (view : View) (place : ℕ) (shape : Shape) (p : List ℕ) (rest : List (List ℕ)) (grown : Growth) (stages : List Stage) → Tells view.growths (growths_from place shape (p ∷ rest) (growth grown ∷ stages)) place → AtGrowth view place grown.to p rest stages
at_growth view place shape p rest grown stages tells =
    let back = growths_from (place + 9 + length p) grown.to rest stages in
    let same : place ≤ place = omega arith in
    let front : place < place + 9 + length p = omega arith in
    let upto : place ≤ place + 9 + length p = omega arith in
    let on : place + 9 + length p ≤ place + 9 + length p = omega arith in
    let more = tells_behind view.growths (growing_at place shape p grown.values) back place (place + 9 + length p) front upto tells in
    record { skips = tells.passed_is place same ∙ ap (λ (b : Bool). passed back (if b then place + 9 + length p else place)) (eq-eqb place place refl) ∙ sym (more.passed_is (place + 9 + length p) on); more = more }

no_chunk : (view : View) (done : List (List ℕ)) (bytes : List ℕ) (q : ℕ) (c : List Event) (n : ℕ) → HasPayloads (done ++ []) bytes → q ≡ length (frames done) → chunk_at view q bytes ≡ Some (c, n) → ⊥
no_chunk view done bytes q c n has at is =
    let ends : q ≡ length (frames (done ++ [])) = at ∙ ap (λ (l : List (List ℕ)). length (frames l)) (sym (append-nil done)) in
    some_none _ _ is (ap (chunk_in view q) (subst (λ (m : ℕ). payload_at m bytes ≡ None) (sym ends) (payload_none (done ++ []) bytes has)))

-- A chunk of the file is one of the frame list, and the chunks in front of it have just the events of the frames in front of that one.
record Found (shape : Shape) (done rest : List (List ℕ)) (chunks : List (List Event)) (q : ℕ) (c : List Event) : Type 0 where
  earlier : List (List ℕ)
  payload : List ℕ
  later : List (List ℕ)
  before : List Stage
  own : List Event
  is : rest ≡ earlier ++ payload ∷ later
  before_are : AreStages shape earlier before
  chunk_is : IsChunkOf (in_force shape before) payload own
  long : length c ≡ length own
  place_is : q ≡ length (frames (done ++ earlier))
  count_is : length (joined chunks) ≡ length (logged before)

found : (view : View) (bytes : List ℕ) (done rest : List (List ℕ)) (place : ℕ) (shape : Shape) (stages : List Stage) (chunks : List (List Event)) (q : ℕ) (c : List Event) (next : ℕ) → HasPayloads (done ++ rest) bytes → place ≡ length (frames done) → AreStages shape rest stages
    → view.shape ≡ in_force shape stages → Tells view.growths (growths_from place shape rest stages) place → Chain view bytes (passed view.growths place) chunks q → chunk_at view q bytes ≡ Some (c, next) → Found shape done rest chunks q c
found view bytes done [] place shape [] [] q c next has at are last tells chain here = absurd (no_chunk view done bytes q c next has (sym chain ∙ tells.passed_is place (omega arith) ∙ at) here)
found view bytes done [] place shape [] (d ∷ chunks) q c next has at are last tells chain here = absurd (no_chunk view done bytes (passed view.growths place) d chain.0 has (tells.passed_is place (omega arith) ∙ at) chain.1)
found view bytes done [] place shape (s ∷ stages) chunks q c next has at are last tells chain here = absurd are
found view bytes done (p ∷ rest) place shape [] chunks q c next has at are last tells chain here = absurd are
found view bytes done (p ∷ rest) place shape (chunk events ∷ stages) [] q c next has at are last tells chain here =
    let there : payload_at place bytes ≡ Some p = subst (λ (n : ℕ). payload_at n bytes ≡ Some p) (sym at) (payload_between done rest p bytes has) in
    let f = at_chunk view bytes place shape p rest events stages there are.0 are.1 last tells in
    let is_at : q ≡ place = sym chain ∙ f.stands in
    let one = one_chunk _ c (grown_at view.growths place events) next (passed view.growths (place + 9 + length p)) (subst (λ (n : ℕ). chunk_at view n bytes ≡ Some (c, next)) is_at here) f.here in
    record {
      earlier = [];
      payload = p;
      later = rest;
      before = [];
      own = events;
      is = refl;
      before_are = tt;
      chunk_is = are.0;
      long = ap length one.0 ∙ length-grown view.growths place events;
      place_is = is_at ∙ at ∙ ap (λ (l : List (List ℕ)). length (frames l)) (sym (append-nil done));
      count_is = refl;
    }
found view bytes done (p ∷ rest) place shape (chunk events ∷ stages) (d ∷ chunks) q c next has at are last tells chain here =
    let there : payload_at place bytes ≡ Some p = subst (λ (n : ℕ). payload_at n bytes ≡ Some p) (sym at) (payload_between done rest p bytes has) in
    let f = at_chunk view bytes place shape p rest events stages there are.0 are.1 last tells in
    let first : chunk_at view place bytes ≡ Some (d, chain.0) = subst (λ (n : ℕ). chunk_at view n bytes ≡ Some (d, chain.0)) f.stands chain.1 in
    let one = one_chunk _ d (grown_at view.growths place events) chain.0 (passed view.growths (place + 9 + length p)) first f.here in
    let on : Chain view bytes (passed view.growths (place + 9 + length p)) chunks q = subst (λ (n : ℕ). Chain view bytes n chunks q) one.1 chain.2 in
    let r = found view bytes (done ++ p ∷ []) rest (place + 9 + length p) shape stages chunks q c next (next_has done p rest bytes has) (next_at done p rest place at) are.1 last f.more on here in
    let same : length d ≡ length (grown_at view.growths place events) = ap length one.0 in
    record {
      earlier = p ∷ r.earlier;
      payload = r.payload;
      later = r.later;
      before = chunk events ∷ r.before;
      own = r.own;
      is = ap (λ (l : List (List ℕ)). p ∷ l) r.is;
      before_are = (are.0, r.before_are);
      chunk_is = r.chunk_is;
      long = r.long;
      place_is = r.place_is ∙ next_ends done p r.earlier;
      count_is = omega (arith, same, length-grown view.growths place events, length-append d (joined chunks), length-append (all_extended (values_of r.before) events) (logged r.before), length-extended (values_of r.before) events, r.count_is);
    }
found view bytes done (p ∷ rest) place shape (growth grown ∷ stages) chunks q c next has at are last tells chain here =
    let f = at_growth view place shape p rest grown stages tells in
    let on : Chain view bytes (passed view.growths (place + 9 + length p)) chunks q = subst (λ (n : ℕ). Chain view bytes n chunks q) f.skips chain in
    let r = found view bytes (done ++ p ∷ []) rest (place + 9 + length p) grown.to stages chunks q c next (next_has done p rest bytes has) (next_at done p rest place at) are.1 last f.more on here in
    record {
      earlier = p ∷ r.earlier;
      payload = r.payload;
      later = r.later;
      before = growth grown ∷ r.before;
      own = r.own;
      is = ap (λ (l : List (List ℕ)). p ∷ l) r.is;
      before_are = (are.0, r.before_are);
      chunk_is = r.chunk_is;
      long = r.long;
      place_is = r.place_is ∙ next_ends done p r.earlier;
      count_is = r.count_is;
    }

-- In front of a frame of the list stand chunks with just the events of the frames in front of it.
record Over (view : View) (bytes : List ℕ) (place there : ℕ) (shape : Shape) (later : List (List ℕ)) (before after : List Stage) : Type 0 where
  chunks : List (List Event)
  chain : Chain view bytes (passed view.growths place) chunks (passed view.growths there)
  count : length (joined chunks) ≡ length (logged before)
  last : view.shape ≡ in_force (in_force shape before) after
  tells : Tells view.growths (growths_from there (in_force shape before) later after) there

over : (view : View) (bytes : List ℕ) (done earlier later : List (List ℕ)) (place there : ℕ) (shape : Shape) (before after : List Stage) → HasPayloads (done ++ (earlier ++ later)) bytes → place ≡ length (frames done) → there ≡ length (frames (done ++ earlier)) → AreStages shape earlier before
    → AreStages shape (earlier ++ later) (before ++ after) → view.shape ≡ in_force shape (before ++ after) → Tells view.growths (growths_from place shape (earlier ++ later) (before ++ after)) place → Over view bytes place there shape later before after
over view bytes done [] later place there shape [] after has at ends was are last tells =
    let same : place ≡ there = at ∙ ap (λ (l : List (List ℕ)). length (frames l)) (sym (append-nil done)) ∙ sym ends in
    subst (λ (n : ℕ). Over view bytes place n shape later [] after) same (record { chunks = []; chain = refl; count = refl; last = last; tells = tells })
over view bytes done [] later place there shape (s ∷ before) after has at ends was are last tells = absurd was
over view bytes done (p ∷ earlier) later place there shape [] after has at ends was are last tells = absurd was
over view bytes done (p ∷ earlier) later place there shape (chunk events ∷ before) after has at ends was are last tells =
    let here : payload_at place bytes ≡ Some p = subst (λ (n : ℕ). payload_at n bytes ≡ Some p) (sym at) (payload_between done (earlier ++ later) p bytes has) in
    let f = at_chunk view bytes place shape p (earlier ++ later) events (before ++ after) here was.0 are.1 last tells in
    let r = over view bytes (done ++ p ∷ []) earlier later (place + 9 + length p) there shape before after (next_has done p (earlier ++ later) bytes has) (next_at done p earlier place at) (ends ∙ sym (next_ends done p earlier)) was.1 are.1 last f.more in
    let own = grown_at view.growths place events in
    let next = passed view.growths (place + 9 + length p) in
    record {
      chunks = own ∷ r.chunks;
      chain = (next, subst (λ (n : ℕ). chunk_at view n bytes ≡ Some (own, next)) (sym f.stands) f.here, r.chain);
      count = omega (arith, length-grown view.growths place events, length-append own (joined r.chunks), length-append (all_extended (values_of before) events) (logged before), length-extended (values_of before) events, r.count);
      last = r.last;
      tells = r.tells;
    }
over view bytes done (p ∷ earlier) later place there shape (growth grown ∷ before) after has at ends was are last tells =
    let f = at_growth view place shape p (earlier ++ later) grown (before ++ after) tells in
    let r = over view bytes (done ++ p ∷ []) earlier later (place + 9 + length p) there grown.to before after (next_has done p (earlier ++ later) bytes has) (next_at done p earlier place at) (ends ∙ sym (next_ends done p earlier)) was.1 are.1 last f.more in
    record { chunks = r.chunks; chain = subst (λ (n : ℕ). Chain view bytes n r.chunks (passed view.growths there)) (sym f.skips) r.chain; count = r.count; last = r.last; tells = r.tells }

-- A place behind which growths stand is that of a frame.
record FrameAt (place : ℕ) (shape : Shape) (rest : List (List ℕ)) (stages : List Stage) (q : ℕ) : Type 0 where
  earlier : List (List ℕ)
  later : List (List ℕ)
  before : List Stage
  after : List Stage
  is : rest ≡ earlier ++ later
  stages_are : stages ≡ before ++ after
  before_are : AreStages shape earlier before
  place_is : q ≡ place + length (frames earlier)

frame_on : (place : ℕ) (shape : Shape) (p : List ℕ) (rest : List (List ℕ)) (s : Stage) (stages : List Stage) (q : ℕ) → IsStage shape p s → FrameAt (place + 9 + length p) (shape_after shape s) rest stages q → FrameAt place shape (p ∷ rest) (s ∷ stages) q
frame_on place shape p rest s stages q said f = record {
  earlier = p ∷ f.earlier;
  later = f.later;
  before = s ∷ f.before;
  after = f.after;
  is = ap (λ (l : List (List ℕ)). p ∷ l) f.is;
  stages_are = ap (λ (l : List Stage). s ∷ l) f.stages_are;
  before_are = (said, f.before_are);
  place_is = omega (arith, f.place_is, length-frames p f.earlier);
}

frame_at : (place : ℕ) (shape : Shape) (rest : List (List ℕ)) (stages : List Stage) (q : ℕ) → AreStages shape rest stages → (passed (growths_from place shape rest stages) q ≡ q) ⊎ FrameAt place shape rest stages q
frame_at place shape [] [] q are = inl refl
frame_at place shape [] (s ∷ stages) q are = absurd are
frame_at place shape (p ∷ rest) [] q are = absurd are
frame_at place shape (p ∷ rest) (chunk events ∷ stages) q are = elim (frame_at (place + 9 + length p) shape rest stages q are.1) [
  | inl same ↦ inl same
  | inr f ↦ inr (frame_on place shape p rest (chunk events) stages q are.0 f)
]
frame_at place shape (p ∷ rest) (growth grown ∷ stages) q are = by (place == q) refl (frame_at (place + 9 + length p) grown.to rest stages q are.1)
  where
    by : (b : Bool) → (place == q) ≡ b → (passed (growths_from (place + 9 + length p) grown.to rest stages) q ≡ q) ⊎ FrameAt (place + 9 + length p) grown.to rest stages q
        → (passed (growths_from (place + 9 + length p) grown.to rest stages) (if b then place + 9 + length p else q) ≡ q) ⊎ FrameAt place shape (p ∷ rest) (growth grown ∷ stages) q
    by true is further =
        let none : length (frames []) ≡ 0 = refl in
        inr (record { earlier = []; later = p ∷ rest; before = []; after = growth grown ∷ stages; is = refl; stages_are = refl; before_are = tt; place_is = omega (arith, eqb-true place q is, none) })
    by false is (inl same) = inl same
    by false is (inr f) = inr (frame_on place shape p rest (growth grown) stages q are.0 f)

-- the first stage behind a frame's front is that frame's
first_is : (shape : Shape) (payload : List ℕ) (later : List (List ℕ)) (c : List Event) (after : List Stage) → IsChunkOf shape payload c → AreStages shape (payload ∷ later) after → (behind : List Stage) × (after ≡ chunk c ∷ behind) × AreStages shape later behind
first_is shape payload later c after said are =
    let f = part shape payload later after are in
    let one : f.stage ≡ chunk c = one_stage shape payload f.stage (chunk c) f.said said in
    (f.more, f.is ∙ ap (λ (s : Stage). s ∷ f.more) one, subst (λ (s : Stage). AreStages (shape_after shape s) later f.more) one f.rest)

module _ (v : Image) (may : Image → Type 0) (b : Base) (next time : ℕ) (cache : Cache Kept) (right : IsRight v may b [] next time cache) where
  abbrev begun : Shape
  begun = right.view.begun

  abbrev rest : List (List ℕ)
  rest = right.view.payloads

  abbrev start : ℕ
  start = 9 + length (schema_payload begun)

  has : HasPayloads (schema_payload begun ∷ rest) (v b.file)
  has = right.view.has

  start_is : start ≡ length (frames (schema_payload begun ∷ []))
  start_is = omega (arith, length-frames (schema_payload begun) [])

  growths_are : b.growths ≡ growths_from start begun rest right.stages
  growths_are = ap (λ (u : View). u.growths) right.view.is

  last : b.shape ≡ in_force begun right.stages
  last = ap (λ (u : View). u.shape) right.view.is

  tells : Tells b.growths (growths_from start begun rest right.stages) start
  tells = subst (λ (l : List Growing). Tells l (growths_from start begun rest right.stages) start) (sym growths_are) (tells_all (growths_from start begun rest right.stages) start)

  end_is : b.end ≡ length (frames (schema_payload begun ∷ rest))
  end_is = right.end_is ∙ ap (λ (l : List (List ℕ)). length (frames l)) (payloads_one right.payloads (schema_payload begun ∷ rest) (v b.file) right.has has)

  ends : chunk_at (view_of b) b.end (v b.file) ≡ None
  ends = fetch_none (view_of b) b.end (v b.file) right.ends

  -- the chunks have the events of the stages
  all_is : joined right.chunks ≡ logged right.stages
  all_is = just payloads_one (view_of b) right.stages (joined right.chunks) (v b.file) right.view (record {
    first = schema_payload begun;
    payloads = rest;
    has = has;
    chunks = right.chunks;
    chain = subst (λ (n : ℕ). Chain (view_of b) (v b.file) n right.chunks (length (frames (schema_payload begun ∷ rest)))) right.first_is (subst (λ (n : ℕ). Chain (view_of b) (v b.file) b.first right.chunks n) end_is right.chain);
    have = refl;
  })

  -- what stands in front of a frame
  in_front : (earlier later : List (List ℕ)) (before after : List Stage) → rest ≡ earlier ++ later → right.stages ≡ before ++ after → AreStages begun earlier before → Over (view_of b) (v b.file) start (length (frames (schema_payload begun ∷ earlier))) begun later before after
  in_front earlier later before after is stages was =
      let has-1 : HasPayloads (schema_payload begun ∷ (earlier ++ later)) (v b.file) = subst (λ (l : List (List ℕ)). HasPayloads (schema_payload begun ∷ l) (v b.file)) is has in
      let are-1 : AreStages begun (earlier ++ later) (before ++ after) = subst (λ (l : List Stage). AreStages begun (earlier ++ later) l) stages (subst (λ (l : List (List ℕ)). AreStages begun l right.stages) is right.view.are) in
      let last-1 : b.shape ≡ in_force begun (before ++ after) = last ∙ ap (in_force begun) stages in
      let tells-1 : Tells b.growths (growths_from start begun (earlier ++ later) (before ++ after)) start =
      subst (λ (l : List Stage). Tells b.growths (growths_from start begun (earlier ++ later) l) start) stages (subst (λ (l : List (List ℕ)). Tells b.growths (growths_from start begun l right.stages) start) is tells) in
      over (view_of b) (v b.file) (schema_payload begun ∷ []) earlier later start (length (frames (schema_payload begun ∷ earlier))) begun before after has-1 start_is refl was are-1 last-1 tells-1

  from_first : (chunks : List (List Event)) (q : ℕ) → Chain (view_of b) (v b.file) (passed b.growths start) chunks q → Chain (view_of b) (v b.file) b.first chunks q
  from_first chunks q chain = subst (λ (n : ℕ). Chain (view_of b) (v b.file) n chunks q) (sym right.first_is) chain

  -- the events in front of the end
  to_end : (chunks : List (List Event)) (q : ℕ) → Chain (view_of b) (v b.file) b.first chunks q → q ≡ b.end → length (joined chunks) ≡ b.committed
  to_end chunks q chain at =
      let same : chunks ≡ right.chunks = chain_to (view_of b) (v b.file) b.first chunks right.chunks b.end (subst (λ (n : ℕ). Chain (view_of b) (v b.file) b.first chunks n) at chain) right.chain in
      ap (λ (l : List (List Event)). length (joined l)) same ∙ right.counted

  -- a spot that the reservoir spells is spelled in the log
  there_at : (spot : Spot) → passed b.growths spot.place ≡ spot.place → spot.number ≤ b.committed
      → ((spot.number ≤ b.committed) × InChunk b (v b.file) (passed b.growths spot.place) spot.index spot.number) ⊎ InOpen b (passed b.growths spot.place) spot.index spot.number → SpotAt (schema_payload begun ∷ rest) spot
  there_at spot rests most (inl near) =
      let i = near.1 in
      let chain : Chain (view_of b) (v b.file) (passed b.growths start) i.chunks (passed b.growths spot.place) = subst (λ (n : ℕ). Chain (view_of b) (v b.file) n i.chunks (passed b.growths spot.place)) right.first_is i.chain in
      let f = found (view_of b) (v b.file) (schema_payload begun ∷ []) rest start begun right.stages i.chunks (passed b.growths spot.place) i.chunk i.next has start_is right.view.are last tells chain i.here in
      inl (record {
        begun = begun;
        schema = right.view.legal;
        earlier = f.earlier;
        payload = f.payload;
        later = f.later;
        before = f.before;
        chunk = f.own;
        is = ap (λ (l : List (List ℕ)). schema_payload begun ∷ l) f.is;
        before_are = f.before_are;
        chunk_is = f.chunk_is;
        place_is = sym rests ∙ f.place_is;
        number_is = omega (arith, i.number_is, f.count_is);
        most = omega (arith, i.most, f.long);
      })
  there_at spot rests most (inr o) =
      let count : length (joined right.chunks) ≡ length (logged right.stages) = ap (λ (l : List Event). length l) all_is in
      inr (record {
        begun = begun;
        schema = right.view.legal;
        earlier = rest;
        later = [];
        before = right.stages;
        is = ap (λ (l : List (List ℕ)). schema_payload begun ∷ l) (sym (append-nil rest));
        before_are = right.view.are;
        place_is = sym rests ∙ o.place_is ∙ end_is;
        index_is = omega (arith, o.number_is, most);
        number_is = omega (arith, o.number_is, most, right.counted, count);
      })

  -- also one at whose place growths stand
  there_before : (spot : Spot) → spot.index ≡ 0 → ((spot.number ≤ b.committed) × InChunk b (v b.file) (passed b.growths spot.place) spot.index spot.number) ⊎ InOpen b (passed b.growths spot.place) spot.index spot.number
      → FrameAt start begun rest right.stages spot.place → SpotAt (schema_payload begun ∷ rest) spot
  there_before spot first spelling f =
      let o = in_front f.earlier f.later f.before f.after f.is f.stages_are f.before_are in
      let at : spot.place ≡ length (frames (schema_payload begun ∷ f.earlier)) = omega (arith, f.place_is, length-frames (schema_payload begun) f.earlier) in
      let chain : Chain (view_of b) (v b.file) b.first o.chunks (passed b.growths spot.place) = from_first o.chunks (passed b.growths spot.place) (subst (λ (n : ℕ). Chain (view_of b) (v b.file) (passed b.growths start) o.chunks (passed b.growths n)) (sym at) o.chain) in
      inr (record {
        begun = begun;
        schema = right.view.legal;
        earlier = f.earlier;
        later = f.later;
        before = f.before;
        is = ap (λ (l : List (List ℕ)). schema_payload begun ∷ l) f.is;
        before_are = f.before_are;
        place_is = at;
        index_is = first;
        number_is = omega (arith, by o.chunks chain spelling, o.count);
      })
    where
      by : (chunks : List (List Event)) → Chain (view_of b) (v b.file) b.first chunks (passed b.growths spot.place) → ((spot.number ≤ b.committed) × InChunk b (v b.file) (passed b.growths spot.place) spot.index spot.number) ⊎ InOpen b (passed b.growths spot.place) spot.index spot.number → spot.number ≡ length (joined chunks)
      by chunks chain (inl near) =
          let i = near.1 in
          let same : i.chunks ≡ chunks = chain_to (view_of b) (v b.file) b.first i.chunks chunks (passed b.growths spot.place) i.chain chain in
          let count : length (joined i.chunks) ≡ length (joined chunks) = ap (λ (l : List (List Event)). length (joined l)) same in
          omega (arith, i.number_is, first, count)
      by chunks chain (inr e) = omega (arith, e.number_is, first, to_end chunks (passed b.growths spot.place) chain e.place_is)

  pub spelled_there : (now : Option Image) (spot : Spot) → now ≡ Some v → Spells now b [] spot → SpotIn (v b.file) spot
  spelled_there now spot told spells = (schema_payload begun ∷ rest, has, by spells.at)
    where
      spelling : ((spot.number ≤ b.committed) × InChunk b (v b.file) (passed b.growths spot.place) spot.index spot.number) ⊎ InOpen b (passed b.growths spot.place) spot.index spot.number
      spelling = subst (λ (u : Image). ((spot.number ≤ b.committed) × InChunk b (u b.file) (passed b.growths spot.place) spot.index spot.number) ⊎ InOpen b (passed b.growths spot.place) spot.index spot.number) (one_image now spells.there.image v spells.there.told told) spells.there.spelling

      most : spot.number ≤ b.committed
      most = omega (arith, spells.there.number)

      moved : (passed b.growths spot.place ≡ spot.place) ⊎ FrameAt start begun rest right.stages spot.place
      moved = subst (λ (l : List Growing). (passed l spot.place ≡ spot.place) ⊎ FrameAt start begun rest right.stages spot.place) (sym growths_are) (frame_at start begun rest right.stages spot.place right.view.are)

      by : (passed b.growths spot.place ≡ spot.place) ⊎ (spot.index ≡ 0) → SpotAt (schema_payload begun ∷ rest) spot
      by (inl rests) = there_at spot rests most spelling
      by (inr first) = elim moved [
        | inl rests ↦ there_at spot rests most spelling
        | inr f ↦ there_before spot first spelling f
      ]

  -- and the other way round
  in_chunk : (now : Option Image) (spot : Spot) → now ≡ Some v → (q : ℕ) → q ≡ passed b.growths spot.place → (passed b.growths spot.place ≡ spot.place) ⊎ (spot.index ≡ 0) → InChunk b (v b.file) q spot.index spot.number → Spells now b [] spot
  in_chunk now spot told q at how i-0 =
      let i = subst (λ (n : ℕ). InChunk b (v b.file) n spot.index spot.number) at i-0 in
      let split = chain_split (view_of b) (v b.file) b.first right.chunks i.chunks b.end (passed b.growths spot.place) i.chunk i.next right.chain ends i.chain i.here in
      let all : length (joined right.chunks) ≡ length (joined i.chunks ++ (i.chunk ++ joined split.0)) = ap (λ (l : List (List Event)). length (joined l)) split.1 ∙ ap (λ (l : List Event). length l) (joined-append i.chunks (i.chunk ∷ split.0)) in
      let most : spot.number ≤ b.committed = omega (arith, right.counted, all, length-append (joined i.chunks) (i.chunk ++ joined split.0), length-append i.chunk (joined split.0), i.number_is, i.most) in
      record {
        there = record { image = v; told = told; number = omega (arith, most); spelling = inl (most, i); at = settles v may b [] next time cache right spot.place };
        at = how;
      }

  at_end : (now : Option Image) (spot : Spot) → now ≡ Some v → passed b.growths spot.place ≡ b.end → spot.index ≡ 0 → spot.number ≡ b.committed → Spells now b [] spot
  at_end now spot told at first count = record {
    there = record { image = v; told = told; number = omega (arith, count); spelling = inr (record { place_is = at; number_is = omega (arith, count, first) }); at = settles v may b [] next time cache right spot.place };
    at = inr first;
  }

  here_in : (now : Option Image) (spot : Spot) → now ≡ Some v → IsInChunk (schema_payload begun ∷ rest) spot → Spells now b [] spot
  here_in now spot told s =
      let heads : schema_payload begun ≡ schema_payload s.begun = head_same (schema_payload begun) (schema_payload s.begun) rest (s.earlier ++ s.payload ∷ s.later) s.is in
      let tails : rest ≡ s.earlier ++ s.payload ∷ s.later = rest_same (schema_payload begun) (schema_payload s.begun) rest (s.earlier ++ s.payload ∷ s.later) s.is in
      let same : s.begun ≡ begun = sym (one_shape begun s.begun right.view.legal s.schema heads) in
      let was : AreStages begun s.earlier s.before = subst (λ (x : Shape). AreStages x s.earlier s.before) same s.before_are in
      let said : IsChunkOf (in_force begun s.before) s.payload s.chunk = subst (λ (x : Shape). IsChunkOf (in_force x s.before) s.payload s.chunk) same s.chunk_is in
      let at : spot.place ≡ length (frames (schema_payload begun ∷ s.earlier)) = s.place_is ∙ ap (λ (p : List ℕ). length (frames (p ∷ s.earlier))) (sym heads) in
      let a = after_of b.shape begun (schema_payload begun ∷ rest) s.earlier (s.payload ∷ s.later) s.before right.stages (begun, right.view.legal, refl, right.view.are, sym last) right.view.legal (ap (λ (l : List (List ℕ)). schema_payload begun ∷ l) tails) was in
      let f = first_is (in_force begun s.before) s.payload s.later s.chunk a.after said a.are in
      let o = in_front s.earlier (s.payload ∷ s.later) s.before (chunk s.chunk ∷ f.0) tails (a.is ∙ ap (λ (l : List Stage). s.before ++ l) f.1) was in
      let place = length (frames (schema_payload begun ∷ s.earlier)) in
      let listed : HasPayloads (schema_payload begun ∷ (s.earlier ++ s.payload ∷ s.later)) (v b.file) = subst (λ (l : List (List ℕ)). HasPayloads (schema_payload begun ∷ l) (v b.file)) tails has in
      let c = at_chunk (view_of b) (v b.file) place (in_force begun s.before) s.payload s.later s.chunk f.0 (payload_between (schema_payload begun ∷ s.earlier) s.later s.payload (v b.file) listed) said f.2 o.last o.tells in
      let rests : passed b.growths spot.place ≡ spot.place = subst (λ (n : ℕ). passed b.growths n ≡ n) (sym at) c.stands in
      in_chunk now spot told place (sym at ∙ sym rests) (inl rests) (record {
        chunks = o.chunks;
        chunk = grown_at b.growths place s.chunk;
        next = passed b.growths (place + 9 + length s.payload);
        chain = from_first o.chunks place (subst (λ (n : ℕ). Chain (view_of b) (v b.file) (passed b.growths start) o.chunks n) c.stands o.chain);
        here = c.here;
        number_is = omega (arith, s.number_is, o.count);
        most = omega (arith, s.most, length-grown b.growths place s.chunk);
      })

  here_between : (now : Option Image) (spot : Spot) → now ≡ Some v → IsBetween (schema_payload begun ∷ rest) spot → Spells now b [] spot
  here_between now spot told s =
      let heads : schema_payload begun ≡ schema_payload s.begun = head_same (schema_payload begun) (schema_payload s.begun) rest (s.earlier ++ s.later) s.is in
      let tails : rest ≡ s.earlier ++ s.later = rest_same (schema_payload begun) (schema_payload s.begun) rest (s.earlier ++ s.later) s.is in
      let same : s.begun ≡ begun = sym (one_shape begun s.begun right.view.legal s.schema heads) in
      let was : AreStages begun s.earlier s.before = subst (λ (x : Shape). AreStages x s.earlier s.before) same s.before_are in
      let at : spot.place ≡ length (frames (schema_payload begun ∷ s.earlier)) = s.place_is ∙ ap (λ (p : List ℕ). length (frames (p ∷ s.earlier))) (sym heads) in
      let a = after_of b.shape begun (schema_payload begun ∷ rest) s.earlier s.later s.before right.stages (begun, right.view.legal, refl, right.view.are, sym last) right.view.legal (ap (λ (l : List (List ℕ)). schema_payload begun ∷ l) tails) was in
      let o = in_front s.earlier s.later s.before a.after tails a.is was in
      let chain : Chain (view_of b) (v b.file) b.first o.chunks (passed b.growths spot.place) =
      from_first o.chunks (passed b.growths spot.place) (subst (λ (n : ℕ). Chain (view_of b) (v b.file) (passed b.growths start) o.chunks (passed b.growths n)) (sym at) o.chain) in
      elim (chain_on (view_of b) (v b.file) b.first right.chunks o.chunks b.end (passed b.growths spot.place) right.chain ends chain) [
        | inl end ↦ at_end now spot told end s.index_is (omega (arith, s.number_is, o.count, to_end o.chunks (passed b.growths spot.place) chain end))
        | inr c ↦ in_chunk now spot told (passed b.growths spot.place) refl (inr s.index_is) (record {
          chunks = o.chunks;
          chunk = c.0;
          next = c.1;
          chain = chain;
          here = c.2;
          number_is = omega (arith, s.number_is, s.index_is, o.count);
          most = omega (arith, s.index_is);
        })
      ]

  pub spelled_here : (now : Option Image) (spot : Spot) → now ≡ Some v → SpotIn (v b.file) spot → Spells now b [] spot
  spelled_here now spot told (payloads, is, at) = by (subst (λ (l : List (List ℕ)). SpotAt l spot) (payloads_one payloads (schema_payload begun ∷ rest) (v b.file) is has) at)
    where
      by : SpotAt (schema_payload begun ∷ rest) spot → Spells now b [] spot
      by (inl s) = here_in now spot told s
      by (inr s) = here_between now spot told s
