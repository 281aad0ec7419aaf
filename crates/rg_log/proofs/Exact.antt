-- What the functions read in a file of bytes is a legal log, and its events.
use Rattle.std.proofs.Common.{◌≡◌, ◌∙◌, ◌⊎◌, inl, inr, ℕ, ◌≤◌, ◌==◌, ◌&&◌, nat_le, nat_lt, Bool, true, false, List, [], ◌∷◌, ◌++◌, length, Option, Some, None, option_map, option_and_then, refl, sym, ap, subst, rules, if◌then◌else◌}
use Rattle.std.proofs.lemmas.Bool.{and_parts, eqb-true, leb-true, ltb-true}
use Rattle.std.proofs.lemmas.List.Elements.{All-nil, All-cons, All-head, All-tail}
use Rattle.std.specs.Prelude.{◌↔◌, All, IsSome}
use Rattle.std.specs.Int.{to_be_bytes, w64}
use Rattle.rg_event.specs.Reading.{shape_of}
use Rattle.rg_event.specs.Rising.{IsRising}
use Rattle.rg_event.specs.Shapes.{Shape, IsSchema}
use Rattle.rg_event.specs.declared.event.Event.{Event}
use Rattle.rg_event.proofs.Laws.{joined_of, legal_of}
use Rattle.rg_growth.specs.Payloads.{growth_of}
use Rattle.rg_growth.specs.declared.growth.Growth.{Growth}
use Rattle.rg_frame.specs.Bytes.{IsByte}
use Rattle.rg_frame.specs.FrameList.{payloads_in}
use Rattle.rg_frame.specs.Frames.{body, frames, HasPayloads}
use Rattle.rg_frame.proofs.Laws.{has_listed}
use Rattle.rg_chunk.specs.Chunks.{chunk_of}
use Rattle.rg_log.specs.Log.{schema_payload, HasEvents, HasLegalLog, IsInForce}
use Rattle.rg_log.specs.Reading.{schema_of, is_rising, legal_events, chunk_or, stage_of, stages_from, listed_stages, events_of}
use Rattle.rg_log.specs.Stages.{Stage, chunk, growth, shape_after, in_force, IsStage, AreStages, logged, HasStages}
use Rattle.rg_log.proofs.Chunked.{chunk_within}
use Rattle.rg_log.proofs.GrowthBytes.{growth_is}
use Rattle.rg_log.proofs.Shapes.{same_some}

rising_is : (events : List Event) → is_rising events ≡ true → IsRising events
rising_is [] is = tt
rising_is (x ∷ []) is = tt
rising_is (x ∷ (y ∷ events)) is =
    let a = and_parts (nat_lt x.offset y.offset && nat_le x.time y.time) (is_rising (y ∷ events)) is in
    let b = and_parts (nat_lt x.offset y.offset) (nat_le x.time y.time) a.0 in
    (ltb-true x.offset y.offset b.0, leb-true x.time y.time b.1, rising_is (y ∷ events) a.1)

pub record Legal (events all : List Event) : Type 0 where
  pub same : events ≡ all
  pub rising : IsRising events
  pub few : length events ≤ 1099511627776

pub legal_is : (events all : List Event) → legal_events events ≡ Some all → Legal events all
legal_is events all is = by (is_rising events && nat_le (length events) 1099511627776) refl
  where
    by : (b : Bool) → (is_rising events && nat_le (length events) 1099511627776) ≡ b → Legal events all
    by true t =
        let f = and_parts (is_rising events) (nat_le (length events) 1099511627776) t in
        record { same = let e : Some events ≡ Some all = sym (ap (λ (b : Bool). if b then Some events else None) t) ∙ is in cc; rising = rising_is events f.0; few = leb-true (length events) 1099511627776 f.1 }
    by false f = absurd (let e : None ≡ Some all = sym (ap (λ (b : Bool). if b then Some events else None) f) ∙ is in cc)

-- a payload that says a schema is that schema's
pub schema_is : (payload : List ℕ) (shape : Shape) → schema_of payload ≡ Some shape → IsSchema shape × (payload ≡ schema_payload shape)
schema_is [] shape is = absurd cc
schema_is (tag ∷ text) shape is = by (tag == 83) refl
  where
    by : (b : Bool) → (tag == 83) ≡ b → IsSchema shape × (tag ∷ text ≡ schema_payload shape)
    by true t =
        let said : shape_of text ≡ Some shape = sym (ap (λ (b : Bool). if b then shape_of text else None) t) ∙ is in
        (legal_of text shape said, ap (λ (n : ℕ). n ∷ text) (eqb-true tag 83 t) ∙ ap (λ (l : List ℕ). 83 ∷ l) (joined_of text shape said))
    by false f = absurd (let e : None ≡ Some shape = sym (ap (λ (b : Bool). if b then shape_of text else None) f) ∙ is in cc)

pub small_first : (a b : List ℕ) → All IsByte (a ++ b) → All IsByte a
small_first [] b small = All-nil IsByte
small_first (n ∷ a) b small = All-cons IsByte n a (All-head IsByte n (a ++ b) small) (small_first a b (All-tail IsByte n (a ++ b) small))

pub small_second : (a b : List ℕ) → All IsByte (a ++ b) → All IsByte b
small_second [] b small = small
small_second (n ∷ a) b small = small_second a b (All-tail IsByte n (a ++ b) small)

-- what is read as a stage is said so
stage_is : (shape : Shape) (payload : List ℕ) (stage : Stage) → All IsByte payload → stage_of shape payload ≡ Some stage → IsStage shape payload stage
stage_is shape payload stage small is = by (chunk_of shape.fields payload) refl is
  where
    grown_by : (o : Option Growth) → growth_of shape payload ≡ o → option_map (λ (g : Growth). growth g) o ≡ Some stage → IsStage shape payload stage
    grown_by None said e = absurd cc
    grown_by (Some g) said e = subst (λ (s : Stage). IsStage shape payload s) (same_some (Some (growth g)) (growth g) stage refl e) (growth_is shape payload g small said)

    by : (o : Option (List Event)) → chunk_of shape.fields payload ≡ o → chunk_or o (growth_of shape payload) ≡ Some stage → IsStage shape payload stage
    by None said e = grown_by (growth_of shape payload) refl e
    by (Some events) said e =
        subst (λ (s : Stage). IsStage shape payload s) (same_some (Some (chunk events)) (chunk events) stage refl e) (record { said = said; of = chunk_within shape.fields payload events small said })

schema_after : (shape : Shape) (payload : List ℕ) (stage : Stage) → IsSchema shape → IsStage shape payload stage → IsSchema (shape_after shape stage)
schema_after shape payload (chunk events) legal is = legal
schema_after shape payload (growth grown) legal is = is.of.grows.legal

-- the first stage of some, and the others
record Parted (shape : Shape) (payload : List ℕ) (payloads : List (List ℕ)) (stages : List Stage) : Type 0 where
  pub stage : Stage
  pub more : List Stage
  pub said : stage_of shape payload ≡ Some stage
  pub rest : stages_from (shape_after shape stage) payloads ≡ Some more
  pub is : stages ≡ stage ∷ more

part : (shape : Shape) (payload : List ℕ) (payloads : List (List ℕ)) (stages : List Stage) → stages_from shape (payload ∷ payloads) ≡ Some stages → Parted shape payload payloads stages
part shape payload payloads stages is = by (stage_of shape payload) refl is
  where
    more : (stage : Stage) → stage_of shape payload ≡ Some stage → (o : Option (List Stage)) → stages_from (shape_after shape stage) payloads ≡ o → option_map (λ (l : List Stage). stage ∷ l) o ≡ Some stages → Parted shape payload payloads stages
    more stage said None rest e = absurd cc
    more stage said (Some l) rest e = record { stage = stage; more = l; said = said; rest = rest; is = sym (same_some (Some (stage ∷ l)) (stage ∷ l) stages refl e) }

    by : (o : Option Stage) → stage_of shape payload ≡ o → option_and_then (λ (stage : Stage). option_map (λ (l : List Stage). stage ∷ l) (stages_from (shape_after shape stage) payloads)) o ≡ Some stages → Parted shape payload payloads stages
    by None said e = absurd cc
    by (Some stage) said e = more stage said (stages_from (shape_after shape stage) payloads) refl e

-- these payloads say these stages, and the schema in force behind them is one
record Are (shape : Shape) (payloads : List (List ℕ)) (stages : List Stage) : Type 0 where
  pub are : AreStages shape payloads stages
  pub schema : IsSchema (in_force shape stages)

stages_are : (shape : Shape) (payloads : List (List ℕ)) (stages : List Stage) → IsSchema shape → All IsByte (frames payloads) → stages_from shape payloads ≡ Some stages → Are shape payloads stages
stages_are shape [] stages legal small is = subst (λ (l : List Stage). Are shape [] l) (same_some (Some []) [] stages refl is) (record { are = tt; schema = legal })
stages_are shape (p ∷ payloads) stages legal small is =
    let f = part shape p payloads stages is in
    let here : All IsByte p = small_second (to_be_bytes w64 (length p)) p (All-tail IsByte 1 (body p) (small_first (1 ∷ body p) (frames payloads) small)) in
    let one : IsStage shape p f.stage = stage_is shape p f.stage here f.said in
    let rest = stages_are (shape_after shape f.stage) payloads f.more (schema_after shape p f.stage legal one) (small_second (1 ∷ body p) (frames payloads) small) f.rest in
    subst (λ (l : List Stage). Are shape (p ∷ payloads) l) (sym f.is) (record { are = (one, rest.are); schema = rest.schema })

abbrev Read : List ℕ → List Event → Type 0
Read bytes events = (HasPayloads [] bytes × (events ≡ [])) ⊎ ((shape : Shape) × IsInForce shape bytes × HasEvents shape events bytes)

-- the frame list of a file whose first payload says a schema
framed : (bytes : List ℕ) (events : List Event) (begun : Shape) (payloads : List (List ℕ)) → All IsByte bytes → IsSchema begun → HasPayloads (schema_payload begun ∷ payloads) bytes
    → option_and_then (λ (stages : List Stage). legal_events (logged stages)) (stages_from begun payloads) ≡ Some events → Read bytes events
framed bytes events begun payloads small legal has is = by (stages_from begun payloads) refl is
  where
    all_small : All IsByte (frames payloads)
    all_small =
        let whole : All IsByte (frames (schema_payload begun ∷ payloads) ++ has.frames.1.rest) = subst (λ (l : List ℕ). All IsByte l) has.frames.1.is small in
        small_second (1 ∷ body (schema_payload begun)) (frames payloads) (small_first (frames (schema_payload begun ∷ payloads)) has.frames.1.rest whole)

    by : (o : Option (List Stage)) → stages_from begun payloads ≡ o → option_and_then (λ (stages : List Stage). legal_events (logged stages)) o ≡ Some events → Read bytes events
    by None here e = absurd cc
    by (Some stages) here e =
        let f = legal_is (logged stages) events e in
        let a = stages_are begun payloads stages legal all_small here in
        let log : HasStages (in_force begun stages) (schema_payload begun ∷ payloads) stages = (begun, legal, refl, a.are, refl) in
        inr (in_force begun stages, (schema_payload begun, payloads, stages, has, log), (stages, record { schema = a.schema; payloads = schema_payload begun ∷ payloads; has = has; log = log; rising = f.rising; few = f.few }, f.same))

pub events_legal : (bytes : List ℕ) (events : List Event) → All IsByte bytes → events_of bytes ≡ Some events → Read bytes events
events_legal bytes events small is = by (payloads_in bytes) refl is
  where
    begun_by : (first : List ℕ) (payloads : List (List ℕ)) (o : Option Shape) → schema_of first ≡ o → HasPayloads (first ∷ payloads) bytes
        → option_and_then (λ (stages : List Stage). legal_events (logged stages)) (option_and_then (λ (begun : Shape). stages_from begun payloads) o) ≡ Some events → Read bytes events
    begun_by first payloads None here has e = absurd cc
    begun_by first payloads (Some begun) here has e =
        let s = schema_is first begun here in
        framed bytes events begun payloads small s.0 (subst (λ (p : List ℕ). HasPayloads (p ∷ payloads) bytes) s.1 has) e

    listed : (payloads : List (List ℕ)) → HasPayloads payloads bytes → option_and_then (λ (stages : List Stage). legal_events (logged stages)) (listed_stages payloads) ≡ Some events → Read bytes events
    listed [] has e = inl (has, sym (same_some (Some []) [] events refl e))
    listed (first ∷ payloads) has e = begun_by first payloads (schema_of first) refl has e

    by : (o : Option (List (List ℕ))) → payloads_in bytes ≡ o → option_and_then (λ (stages : List Stage). legal_events (logged stages)) (option_and_then listed_stages o) ≡ Some events → Read bytes events
    by None here e = absurd cc
    by (Some payloads) here e = listed payloads (has_listed bytes payloads small here) e

-- so there are events exactly where the log is legal
module _ (reads : (shape : Shape) (events : List Event) (bytes : List ℕ) → HasEvents shape events bytes → events_of bytes ≡ Some events) (none : (bytes : List ℕ) → HasPayloads [] bytes → events_of bytes ≡ Some []) where
  pub exact : (bytes : List ℕ) → All IsByte bytes → IsSome (events_of bytes) ↔ HasLegalLog bytes
  exact bytes small = (λ some. to (events_of bytes) refl some, back)
    where
      legal : (events : List Event) → Read bytes events → HasLegalLog bytes
      legal events (inl framed) = inl framed.0
      legal events (inr log) = inr (log.0, log.2.0, log.2.1)

      to : (o : Option (List Event)) → events_of bytes ≡ o → IsSome o → HasLegalLog bytes
      to None is some = absurd cc
      to (Some events) is some = legal events (events_legal bytes events small is)

      back : HasLegalLog bytes → IsSome (events_of bytes)
      back (inl framed) = subst (λ (o : Option (List Event)). IsSome o) (sym (none bytes framed)) (search rules)
      back (inr log) = subst (λ (o : Option (List Event)). IsSome o) (sym (reads log.0 (logged log.1) bytes (log.1, log.2, refl))) (search rules)
