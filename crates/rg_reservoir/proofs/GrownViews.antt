-- What is read through the view that the frames of a grown log give.
use Rattle.std.proofs.Common.{◌≡◌, ◌∙◌, ℕ, ◌+◌, ◌≤◌, ◌<◌, Bool, List, [], ◌∷◌, ◌++◌, length, Option, Some, None, option_map, refl, sym, ap, subst, arith, append_assoc, if◌then◌else◌}
use Rattle.std.proofs.lemmas.Bool.{le-leb, lt-leb, eq-eqb, ne_eqb}
use Rattle.std.proofs.lemmas.List.{append-nil}
use Rattle.std.specs.Option.{unwrap_or}
use Rattle.rg_event.specs.Shapes.{Shape}
use Rattle.rg_event.specs.declared.event.Event.{Event}
use Rattle.rg_frame.specs.Frames.{frames, HasPayloads, payload_at}
use Rattle.rg_frame.specs.Steps.{Grown}
use Rattle.rg_frame.proofs.Laws.{length-frames, length-frames-push, payload_between, payload_none}
use Rattle.rg_chunk.specs.Chunks.{chunk_of}
use Rattle.rg_chunk.specs.Extended.{all_extended}
use Rattle.rg_log.specs.Log.{schema_payload, joined, IsLegalLog, HasFrame}
use Rattle.rg_log.specs.Plain.{IsPlainLog}
use Rattle.rg_log.specs.Stages.{Stage, chunk, growth, shape_after, in_force, IsStage, AreStages, values_of, logged, plain as plain_stages, HasStages}
use Rattle.rg_log.proofs.Laws.{extended-none, extended-twice, one_shape, as_before}
use Rattle.rg_reservoir.specs.Chain.{chunk_in, chunk_at, Chain, events_from}
use Rattle.rg_reservoir.specs.GrownViews.{growing_at, growths_from, grown_view, IsViewOf, IsReadThrough, IsUngrown, view_after}
use Rattle.rg_reservoir.specs.Views.{View, seen_from, plain, before, shape_at, grown_at, passed}
use Rattle.rg_reservoir.specs.declared.growing.Growing.{Growing}
use Rattle.rg_reservoir.proofs.Chains.{one_chunk, some_none, from_chain}

-- of all growths, these tell what is seen from that place on
pub record Tells (growths rest : List Growing) (place : ℕ) : Type 0 where
  pub before_is : (q : ℕ) → place ≤ q → before growths q ≡ before rest q
  pub grown_is : (q : ℕ) (events : List Event) → place ≤ q → grown_at growths q events ≡ grown_at rest q events
  pub passed_is : (q : ℕ) → place ≤ q → passed growths q ≡ passed rest q

pub tells_all : (growths : List Growing) (place : ℕ) → Tells growths growths place
tells_all growths place = record { before_is = λ q le. refl; grown_is = λ q events le. refl; passed_is = λ q le. refl }

pub tells_later : (growths rest : List Growing) (place next : ℕ) → place ≤ next → Tells growths rest place → Tells growths rest next
tells_later growths rest place next le t = record {
  before_is = λ q on. t.before_is q (omega (arith, le, on));
  grown_is = λ q events on. t.grown_is q events (omega (arith, le, on));
  passed_is = λ q on. t.passed_is q (omega (arith, le, on));
}

-- behind one of them the others do
pub tells_behind : (growths : List Growing) (g : Growing) (rest : List Growing) (place next : ℕ) → g.place < next → place ≤ next → Tells growths (g ∷ rest) place → Tells growths rest next
tells_behind growths g rest place next lt le t = record {
  before_is = λ q on. t.before_is q (omega (arith, le, on)) ∙ ap (λ (b : Bool). if b then Some g.from else before rest q) (lt-leb q g.place (omega (arith, lt, on)));
  grown_is = λ q events on. t.grown_is q events (omega (arith, le, on)) ∙ ap (λ (b : Bool). grown_at rest q (if b then all_extended g.values events else events)) (lt-leb q g.place (omega (arith, lt, on)));
  passed_is = λ q on. t.passed_is q (omega (arith, le, on)) ∙ ap (λ (b : Bool). passed rest (if b then g.next else q)) (ne_eqb g.place q (λ e. omega (arith, e, lt, on)));
}

-- No growth stands in front of the first stage's frame. There the first schema is in force, and the values of all growths come behind those of an event.

pub passed-front : (place : ℕ) (shape : Shape) (payloads : List (List ℕ)) (stages : List Stage) (q : ℕ) → q < place → passed (growths_from place shape payloads stages) q ≡ q
passed-front place shape [] stages q lt = refl
passed-front place shape (p ∷ payloads) [] q lt = refl
passed-front place shape (p ∷ payloads) (chunk events ∷ stages) q lt = passed-front (place + 9 + length p) shape payloads stages q (omega (arith, lt))
passed-front place shape (p ∷ payloads) (growth grown ∷ stages) q lt =
    ap (λ (b : Bool). passed (growths_from (place + 9 + length p) grown.to payloads stages) (if b then place + 9 + length p else q)) (ne_eqb place q (λ e. omega (arith, e, lt)))
    ∙ passed-front (place + 9 + length p) grown.to payloads stages q (omega (arith, lt))

pub shape-front : (place : ℕ) (shape : Shape) (payloads : List (List ℕ)) (stages : List Stage) (q : ℕ) → AreStages shape payloads stages → q ≤ place → unwrap_or (before (growths_from place shape payloads stages) q) (in_force shape stages) ≡ shape
shape-front place shape [] [] q are le = refl
shape-front place shape [] (stage ∷ stages) q are le = absurd are
shape-front place shape (p ∷ payloads) [] q are le = absurd are
shape-front place shape (p ∷ payloads) (chunk events ∷ stages) q are le = shape-front (place + 9 + length p) shape payloads stages q are.1 (omega (arith, le))
shape-front place shape (p ∷ payloads) (growth grown ∷ stages) q are le =
    ap (λ (b : Bool). unwrap_or (if b then Some shape else before (growths_from (place + 9 + length p) grown.to payloads stages) q) (in_force grown.to stages)) (le-leb q place le)

events-front : (place : ℕ) (shape : Shape) (payloads : List (List ℕ)) (stages : List Stage) (q : ℕ) (events : List Event) → AreStages shape payloads stages → q ≤ place → grown_at (growths_from place shape payloads stages) q events ≡ all_extended (values_of stages) events
events-front place shape [] [] q events are le = sym (extended-none events)
events-front place shape [] (stage ∷ stages) q events are le = absurd are
events-front place shape (p ∷ payloads) [] q events are le = absurd are
events-front place shape (p ∷ payloads) (chunk first ∷ stages) q events are le = events-front (place + 9 + length p) shape payloads stages q events are.1 (omega (arith, le))
events-front place shape (p ∷ payloads) (growth grown ∷ stages) q events are le =
    ap (λ (b : Bool). grown_at (growths_from (place + 9 + length p) grown.to payloads stages) q (if b then all_extended grown.values events else events)) (le-leb q place le)
    ∙ events-front (place + 9 + length p) grown.to payloads stages q (all_extended grown.values events) are.1 (omega (arith, le))
    ∙ extended-twice grown.values (values_of stages) events

-- the chunks of these stages as their end sees them
abbrev seen_chunks : List Stage → List (List Event)
seen_chunks [] = []
seen_chunks (chunk events ∷ stages) = all_extended (values_of stages) events ∷ seen_chunks stages
seen_chunks (growth grown ∷ stages) = seen_chunks stages

joined-seen : (stages : List Stage) → joined (seen_chunks stages) ≡ logged stages
joined-seen [] = refl
joined-seen (chunk events ∷ stages) = ap (λ (l : List Event). all_extended (values_of stages) events ++ l) (joined-seen stages)
joined-seen (growth grown ∷ stages) = joined-seen stages

-- they stand one after another, each of them behind the growths in front of it
through : (view : View) (bytes : List ℕ) (place end : ℕ) (done rest : List (List ℕ)) (shape : Shape) (stages : List Stage) → HasPayloads (done ++ rest) bytes → place ≡ length (frames done) → end ≡ length (frames (done ++ rest)) → AreStages shape rest stages
    → view.shape ≡ in_force shape stages → Tells view.growths (growths_from place shape rest stages) place → Chain view bytes (passed view.growths place) (seen_chunks stages) end
through view bytes place end done [] shape [] has at ends are last tells = tells.passed_is place (omega arith) ∙ at ∙ ap (λ (l : List (List ℕ)). length (frames l)) (sym (append-nil done)) ∙ sym ends
through view bytes place end done [] shape (stage ∷ stages) has at ends are last tells = absurd are
through view bytes place end done (p ∷ rest) shape [] has at ends are last tells = absurd are
through view bytes place end done (p ∷ rest) shape (chunk events ∷ stages) has at ends are last tells =
    let back = growths_from (place + 9 + length p) shape rest stages in
    let next = passed view.growths (place + 9 + length p) in
    let same : place ≤ place = omega arith in
    let front : place < place + 9 + length p = omega arith in
    let upto : place ≤ place + 9 + length p = omega arith in
    let here : payload_at place bytes ≡ Some p = subst (λ (q : ℕ). payload_at q bytes ≡ Some p) (sym at) (payload_between done rest p bytes has) in
    let schema : shape_at view place ≡ shape = ap (λ (o : Option Shape). unwrap_or o view.shape) (tells.before_is place same) ∙ ap (λ (s : Shape). unwrap_or (before back place) s) last ∙ shape-front (place + 9 + length p) shape rest stages place are.1 upto in
    let says : chunk_of (shape_at view place).fields p ≡ Some events = ap (λ (s : Shape). chunk_of s.fields p) schema ∙ are.0.said in
    let seen : grown_at view.growths place events ≡ all_extended (values_of stages) events = tells.grown_is place events same ∙ events-front (place + 9 + length p) shape rest stages place events are.1 upto in
    let made : chunk_at view place bytes ≡ Some (all_extended (values_of stages) events, next) =
    ap (chunk_in view place) here ∙ ap (option_map (λ (events : List Event). (grown_at view.growths place events, next))) says ∙ ap (λ (l : List Event). Some (l, next)) seen in
    let stands : passed view.growths place ≡ place = tells.passed_is place same ∙ passed-front (place + 9 + length p) shape rest stages place front in
    let assoc = append_assoc done (p ∷ []) rest in (
      next,
      subst (λ (q : ℕ). chunk_at view q bytes ≡ Some (all_extended (values_of stages) events, next)) (sym stands) made,
      through view bytes (place + 9 + length p) end (done ++ p ∷ []) rest shape stages (subst (λ (l : List (List ℕ)). HasPayloads l bytes) (sym assoc) has) (ap (λ (n : ℕ). n + 9 + length p) at ∙ sym (length-frames-push done p))
          (ends ∙ ap (λ (l : List (List ℕ)). length (frames l)) (sym assoc)) are.1 last (tells_later view.growths back place (place + 9 + length p) upto tells),
    )
through view bytes place end done (p ∷ rest) shape (growth grown ∷ stages) has at ends are last tells =
    let back = growths_from (place + 9 + length p) grown.to rest stages in
    let same : place ≤ place = omega arith in
    let front : place < place + 9 + length p = omega arith in
    let upto : place ≤ place + 9 + length p = omega arith in
    let on : place + 9 + length p ≤ place + 9 + length p = omega arith in
    let more = tells_behind view.growths (growing_at place shape p grown.values) back place (place + 9 + length p) front upto tells in
    let skips : passed view.growths place ≡ passed view.growths (place + 9 + length p) =
    tells.passed_is place same ∙ ap (λ (b : Bool). passed back (if b then place + 9 + length p else place)) (eq-eqb place place refl) ∙ sym (more.passed_is (place + 9 + length p) on) in
    let assoc = append_assoc done (p ∷ []) rest in
    subst (λ (q : ℕ). Chain view bytes q (seen_chunks stages) end) (sym skips)
    (through view bytes (place + 9 + length p) end (done ++ p ∷ []) rest grown.to stages (subst (λ (l : List (List ℕ)). HasPayloads l bytes) (sym assoc) has) (ap (λ (n : ℕ). n + 9 + length p) at ∙ sym (length-frames-push done p))
    (ends ∙ ap (λ (l : List (List ℕ)). length (frames l)) (sym assoc)) are.1 last more)

-- a grown log is read through its view
pub reads : (view : View) (stages : List Stage) (bytes : List ℕ) → IsViewOf view stages bytes → IsReadThrough view (logged stages) bytes
reads view stages bytes v =
    let ours = schema_payload v.begun in
    let all = growths_from (9 + length ours) v.begun v.payloads stages in
    let at : 9 + length ours ≡ length (frames (ours ∷ [])) = omega (arith, length-frames ours []) in
    subst (λ (u : View). IsReadThrough u (logged stages) bytes) (sym v.is) (record {
      first = ours;
      payloads = v.payloads;
      has = v.has;
      chunks = seen_chunks stages;
      chain = through (grown_view v.begun v.payloads stages) bytes (9 + length ours) (length (frames (ours ∷ v.payloads))) (ours ∷ []) v.payloads v.begun stages v.has at refl v.are refl (tells_all all (9 + length ours));
      have = joined-seen stages;
    })

-- one place has one chain to where no chunk stands
chain_one : (view : View) (bytes : List ℕ) (place : ℕ) (a b : List (List Event)) (m n : ℕ) → Chain view bytes place a m → Chain view bytes place b n → chunk_at view m bytes ≡ None → chunk_at view n bytes ≡ None → a ≡ b
chain_one view bytes place [] [] m n x y none other = refl
chain_one view bytes place [] (c ∷ b) m n x y none other = absurd (some_none _ _ y.1 (subst (λ (q : ℕ). chunk_at view q bytes ≡ None) (sym x) none))
chain_one view bytes place (c ∷ a) [] m n x y none other = absurd (some_none _ _ x.1 (subst (λ (q : ℕ). chunk_at view q bytes ≡ None) (sym y) other))
chain_one view bytes place (c ∷ a) (d ∷ b) m n x y none other =
    let same = one_chunk _ c d x.0 y.0 x.1 y.1 in
    ap (λ (e : List Event). e ∷ a) same.0 ∙ ap (λ (l : List (List Event)). d ∷ l) (chain_one view bytes y.0 a b m n (subst (λ (q : ℕ). Chain view bytes q a m) same.1 x.2) y.2 none other)

-- no growth stands behind the last frame
tells_end : (growths : List Growing) (place end : ℕ) (shape : Shape) (payloads : List (List ℕ)) (stages : List Stage) → AreStages shape payloads stages → end ≡ place + length (frames payloads) → Tells growths (growths_from place shape payloads stages) place → Tells growths [] end
tells_end growths place end shape [] [] are is tells = tells_later growths [] place end (omega (arith, is)) tells
tells_end growths place end shape [] (stage ∷ stages) are is tells = absurd are
tells_end growths place end shape (p ∷ payloads) [] are is tells = absurd are
tells_end growths place end shape (p ∷ payloads) (chunk events ∷ stages) are is tells =
    let upto : place ≤ place + 9 + length p = omega arith in
    let ends : end ≡ place + 9 + length p + length (frames payloads) = omega (arith, is, length-frames p payloads) in
    tells_end growths (place + 9 + length p) end shape payloads stages are.1 ends (tells_later growths (growths_from (place + 9 + length p) shape payloads stages) place (place + 9 + length p) upto tells)
tells_end growths place end shape (p ∷ payloads) (growth grown ∷ stages) are is tells =
    let front : place < place + 9 + length p = omega arith in
    let upto : place ≤ place + 9 + length p = omega arith in
    let ends : end ≡ place + 9 + length p + length (frames payloads) = omega (arith, is, length-frames p payloads) in
    tells_end growths (place + 9 + length p) end grown.to payloads stages are.1 ends (tells_behind growths (growing_at place shape p grown.values) (growths_from (place + 9 + length p) grown.to payloads stages) place (place + 9 + length p) front upto tells)

-- a stage more

in-force-push : (shape : Shape) (stages : List Stage) (stage : Stage) → in_force shape (stages ++ stage ∷ []) ≡ shape_after (in_force shape stages) stage
in-force-push shape [] stage = refl
in-force-push shape (first ∷ stages) stage = in-force-push (shape_after shape first) stages stage

are-push : (shape : Shape) (payloads : List (List ℕ)) (stages : List Stage) (p : List ℕ) (stage : Stage) → AreStages shape payloads stages → IsStage (in_force shape stages) p stage → AreStages shape (payloads ++ p ∷ []) (stages ++ stage ∷ [])
are-push shape [] [] p stage are is = (is, tt)
are-push shape [] (first ∷ stages) p stage are is = absurd are
are-push shape (q ∷ payloads) [] p stage are is = absurd are
are-push shape (q ∷ payloads) (first ∷ stages) p stage are is = (are.0, are-push (shape_after shape first) payloads stages p stage are.1 is)

-- the growths, once a frame more stands at that place
abbrev growths_after : List Growing → ℕ → Shape → List ℕ → Stage → List Growing
growths_after growths place shape p (chunk events) = growths
growths_after growths place shape p (growth grown) = growths ++ growing_at place shape p grown.values ∷ []

growths-more : (g : Growing) (growths : List Growing) (place : ℕ) (shape : Shape) (p : List ℕ) (stage : Stage) → g ∷ growths_after growths place shape p stage ≡ growths_after (g ∷ growths) place shape p stage
growths-more g growths place shape p (chunk events) = refl
growths-more g growths place shape p (growth grown) = refl

growths-push : (place end : ℕ) (shape : Shape) (payloads : List (List ℕ)) (stages : List Stage) (p : List ℕ) (stage : Stage) → AreStages shape payloads stages → end ≡ place + length (frames payloads)
    → growths_from place shape (payloads ++ p ∷ []) (stages ++ stage ∷ []) ≡ growths_after (growths_from place shape payloads stages) end (in_force shape stages) p stage
growths-push place end shape [] [] p (chunk events) are is = refl
growths-push place end shape [] [] p (growth grown) are is = let same : place ≡ end = omega (arith, is) in ap (λ (n : ℕ). growing_at n shape p grown.values ∷ []) same
growths-push place end shape [] (first ∷ stages) p stage are is = absurd are
growths-push place end shape (q ∷ payloads) [] p stage are is = absurd are
growths-push place end shape (q ∷ payloads) (chunk events ∷ stages) p stage are is =
    let ends : end ≡ place + 9 + length q + length (frames payloads) = omega (arith, is, length-frames q payloads) in
    growths-push (place + 9 + length q) end shape payloads stages p stage are.1 ends
growths-push place end shape (q ∷ payloads) (growth grown ∷ stages) p stage are is =
    let ends : end ≡ place + 9 + length q + length (frames payloads) = omega (arith, is, length-frames q payloads) in
    let back = growths_from (place + 9 + length q) grown.to payloads stages in
    ap (λ (l : List Growing). growing_at place shape q grown.values ∷ l) (growths-push (place + 9 + length q) end grown.to payloads stages p stage are.1 ends)
    ∙ growths-more (growing_at place shape q grown.values) back end (in_force grown.to stages) p stage

view-push : (shape : Shape) (growths : List Growing) (place : ℕ) (p : List ℕ) (stage : Stage) → view_after (seen_from shape growths) place p stage ≡ seen_from (shape_after shape stage) (growths_after growths place shape p stage)
view-push shape growths place p (chunk events) = refl
view-push shape growths place p (growth grown) = refl

-- a log without a growth

no_growths : (place : ℕ) (shape : Shape) (payloads : List (List ℕ)) (chunks : List (List Event)) → growths_from place shape payloads (plain_stages chunks) ≡ []
no_growths place shape [] chunks = refl
no_growths place shape (p ∷ payloads) [] = refl
no_growths place shape (p ∷ payloads) (c ∷ chunks) = no_growths (place + 9 + length p) shape payloads chunks

-- from here on, a file has one frame list
module _ (unique : (a b : List (List ℕ)) (bytes : List ℕ) → HasPayloads a bytes → HasPayloads b bytes → a ≡ b) where
  -- a grown log with a frame gives a view, that of its last schema
  pub gives : (shape : Shape) (stages : List Stage) (bytes : List ℕ) → HasFrame bytes → IsLegalLog shape stages bytes → (view : View) × IsViewOf view stages bytes × (view.shape ≡ shape)
  gives shape stages bytes frame log =
      let has : HasStages shape (frame.0 ∷ frame.1) stages = subst (λ (l : List (List ℕ)). HasStages shape l stages) (unique log.payloads (frame.0 ∷ frame.1) bytes log.has frame.2) log.log in (
        grown_view has.0 frame.1 stages,
        record { begun = has.0; legal = has.1; payloads = frame.1; has = subst (λ (p : List ℕ). HasPayloads (p ∷ frame.1) bytes) has.2 frame.2; are = has.3; is = refl },
        has.4,
      )

  -- and no other
  pub one : (view other : View) (stages : List Stage) (bytes : List ℕ) → IsViewOf view stages bytes → IsViewOf other stages bytes → view ≡ other
  one view other stages bytes v w =
      let lists : schema_payload v.begun ∷ v.payloads ≡ schema_payload w.begun ∷ w.payloads = unique _ _ bytes v.has w.has in
      let heads : schema_payload v.begun ≡ schema_payload w.begun = cc in
      let tails : v.payloads ≡ w.payloads = cc in
      let begun : v.begun ≡ w.begun = one_shape v.begun w.begun v.legal w.legal heads in
      v.is ∙ ap (λ (s : Shape). grown_view s v.payloads stages) begun ∙ ap (λ (l : List (List ℕ)). grown_view w.begun l stages) tails ∙ sym w.is

  -- and no other events are read through it
  pub just : (view : View) (stages : List Stage) (events : List Event) (bytes : List ℕ) → IsViewOf view stages bytes → IsReadThrough view events bytes → events ≡ logged stages
  just view stages events bytes v r =
      let s = reads view stages bytes v in
      let lists : r.first ∷ r.payloads ≡ s.first ∷ s.payloads = unique _ _ bytes r.has s.has in
      let first : r.first ≡ s.first = cc in
      let from : Chain view bytes (passed view.growths (9 + length s.first)) r.chunks (length (frames (r.first ∷ r.payloads))) =
      subst (λ (l : List ℕ). Chain view bytes (passed view.growths (9 + length l)) r.chunks (length (frames (r.first ∷ r.payloads)))) first r.chain in
      let none : (payloads : List (List ℕ)) → HasPayloads payloads bytes → chunk_at view (length (frames payloads)) bytes ≡ None = λ payloads has. ap (chunk_in view (length (frames payloads))) (payload_none payloads bytes has) in
      let same : r.chunks ≡ s.chunks = chain_one view bytes (passed view.growths (9 + length s.first)) r.chunks s.chunks (length (frames (r.first ∷ r.payloads))) (length (frames (s.first ∷ s.payloads))) from s.chain (none (r.first ∷ r.payloads) r.has) (none (s.first ∷ s.payloads) s.has) in
      sym r.have ∙ ap joined same ∙ s.have

  -- so the events that stand from there on are those that the stages say
  pub stored : (view : View) (stages : List Stage) (first : List ℕ) (payloads : List (List ℕ)) (bytes : List ℕ) (most : ℕ) → IsViewOf view stages bytes → HasPayloads (first ∷ payloads) bytes → length (logged stages) ≤ most → events_from view most (passed view.growths (9 + length first)) bytes ≡ logged stages
  stored view stages first payloads bytes most v has few =
      let r = reads view stages bytes v in
      let lists : r.first ∷ r.payloads ≡ first ∷ payloads = unique _ _ bytes r.has has in
      let same : r.first ≡ first = cc in
      let stop = length (frames (r.first ∷ r.payloads)) in
      let chain : Chain view bytes (passed view.growths (9 + length first)) r.chunks stop = subst (λ (l : List ℕ). Chain view bytes (passed view.growths (9 + length l)) r.chunks stop) same r.chain in
      let none : chunk_at view stop bytes ≡ None = ap (chunk_in view stop) (payload_none (r.first ∷ r.payloads) bytes r.has) in
      from_chain view bytes most (passed view.growths (9 + length first)) r.chunks stop chain none (subst (λ (l : List Event). length l ≤ most) (sym r.have) few) ∙ r.have

  -- what is written at the end of the frames is of the last schema
  pub end : (view : View) (stages : List Stage) (payloads : List (List ℕ)) (bytes : List ℕ) (place : ℕ) → IsViewOf view stages bytes → HasPayloads payloads bytes → length (frames payloads) ≤ place → IsUngrown view place
  end view stages payloads bytes place v has on =
      let ours = schema_payload v.begun in
      let all = growths_from (9 + length ours) v.begun v.payloads stages in
      let lists : payloads ≡ ours ∷ v.payloads = unique payloads (ours ∷ v.payloads) bytes has v.has in
      let ends : length (frames payloads) ≡ 9 + length ours + length (frames v.payloads) = ap (λ (l : List (List ℕ)). length (frames l)) lists ∙ length-frames ours v.payloads in
      let tells = tells_end all (9 + length ours) (length (frames payloads)) v.begun v.payloads stages v.are ends (tells_all all (9 + length ours)) in
      subst (λ (u : View). IsUngrown u place) (sym v.is) (record {
        schema = ap (λ (o : Option Shape). unwrap_or o (in_force v.begun stages)) (tells.before_is place on);
        events = λ events. tells.grown_is place events on;
        stays = tells.passed_is place on;
      })

  -- a frame more moves the view on
  pub more : (view : View) (stages : List Stage) (stage : Stage) (payloads : List (List ℕ)) (payload old new : List ℕ) → IsViewOf view stages old → HasPayloads payloads old → IsStage view.shape payload stage → Grown payload old new
      → IsViewOf (view_after view (length (frames payloads)) payload stage) (stages ++ stage ∷ []) new
  more view stages stage payloads payload old new v has is grown =
      let ours = schema_payload v.begun in
      let last = in_force v.begun stages in
      let all = growths_from (9 + length ours) v.begun v.payloads stages in
      let lists : payloads ≡ ours ∷ v.payloads = unique payloads (ours ∷ v.payloads) old has v.has in
      let ends : length (frames payloads) ≡ 9 + length ours + length (frames v.payloads) = ap (λ (l : List (List ℕ)). length (frames l)) lists ∙ length-frames ours v.payloads in
      let said : IsStage last payload stage = subst (λ (u : View). IsStage u.shape payload stage) v.is is in
      record {
        begun = v.begun;
        legal = v.legal;
        payloads = v.payloads ++ payload ∷ [];
        has = grown (ours ∷ v.payloads) v.has;
        are = are-push v.begun v.payloads stages payload stage v.are said;
        is =
            ap (λ (u : View). view_after u (length (frames payloads)) payload stage) v.is ∙ view-push last all (length (frames payloads)) payload stage
            ∙ ap (λ (s : Shape). seen_from s (growths_after all (length (frames payloads)) last payload stage)) (sym (in-force-push v.begun stages stage))
            ∙ ap (λ (l : List Growing). seen_from (in_force v.begun (stages ++ stage ∷ [])) l) (sym (growths-push (9 + length ours) (length (frames payloads)) v.begun v.payloads stages payload stage v.are ends));
      }

  -- the view of a log without a growth
  pub ungrown : (shape : Shape) (chunks : List (List Event)) (bytes : List ℕ) → HasFrame bytes → IsPlainLog shape chunks bytes → IsViewOf (plain shape) (plain_stages chunks) bytes
  ungrown shape chunks bytes frame log =
      let g = gives shape (plain_stages chunks) bytes frame ((as_before shape chunks bytes).0 log) in
      let v = g.1 in
      let last : in_force v.begun (plain_stages chunks) ≡ shape = sym (ap (λ (u : View). u.shape) v.is) ∙ g.2 in
      let is : g.0 ≡ plain shape = v.is ∙ ap (λ (l : List Growing). seen_from (in_force v.begun (plain_stages chunks)) l) (no_growths (9 + length (schema_payload v.begun)) v.begun v.payloads chunks) ∙ ap plain last in
      subst (λ (u : View). IsViewOf u (plain_stages chunks) bytes) is v
