-- The events of a log for a schema and its defaults.
use Rattle.std.proofs.Common.{◌≡◌, ◌∙◌, ◌⊎◌, inl, inr, ℕ, ◌≤◌, ◌^◌, List, [], ◌∷◌, ◌++◌, length, Some, None, refl, sym, ap, subst, arith}
use Rattle.std.specs.Prelude.{All}
use Rattle.rg_event.specs.Codec.{IsEventOf}
use Rattle.rg_event.specs.Rising.{IsRising, next_offset}
use Rattle.rg_event.specs.Shapes.{Shape, IsSchema}
use Rattle.rg_event.specs.declared.event.Event.{Event}
use Rattle.rg_event.specs.declared.schema.Field.{Field}
use Rattle.rg_event.specs.declared.value.Value.{Value}
use Rattle.rg_growth.specs.Filling.{Given, IsFilled, filled, growth_to}
use Rattle.rg_growth.specs.Payloads.{IsGrowth, growth_bytes}
use Rattle.rg_growth.proofs.Laws.{not_itself}
use Rattle.rg_frame.specs.FrameList.{payloads_in}
use Rattle.rg_frame.specs.Frames.{HasPayloads}
use Rattle.rg_frame.specs.Steps.{Grows, Grown}
use Rattle.rg_chunk.specs.Extended.{all_extended}
use Rattle.rg_log.specs.Filled.{HasFilled, HasEventsFor, IsOfSchemaFor}
use Rattle.rg_log.specs.Log.{IsLegalLog, HasEvents, HasLegalLog, HasFrame, IsInForce}
use Rattle.rg_log.specs.Reading.{next_of}
use Rattle.rg_log.specs.Stages.{growth, logged}
use Rattle.rg_log.proofs.Extending.{length-extended, rising-extended, next-extended}
use Rattle.rg_log.proofs.Growing.{none_legal, log_by, one_schema, one_list, in_force_of, grows_log, grown_log}
use Rattle.rg_log.proofs.Reading.{next_read}
use Rattle.rg_log.proofs.Shapes.{same_some}
use Rattle.rg_log.proofs.Staging.{has-push, all-extended, events_of_schema}

-- a log with a frame, by the schema in force at its end
pub framed_by : (shape : Shape) (bytes : List ℕ) → IsInForce shape bytes → HasFrame bytes
framed_by shape bytes here = (here.0, here.1, here.3)

-- the growth by these defaults
pub growth_said : (from shape : Shape) (defaults : Given) (values : List Value) → IsFilled from shape defaults values → IsGrowth from (growth_bytes (growth_to shape values)) (growth_to shape values)
growth_said from shape defaults values fills = record { is = refl; of = fills.of }

-- the events are of the schema, they rise, and they are few

filled_of : (shape : Shape) (defaults : Given) (events : List Event) (bytes : List ℕ) → HasFilled shape defaults events bytes → All (IsEventOf shape.fields) events
filled_of shape defaults events bytes f =
    let added = f.fills.of.added in
    let all : All (IsEventOf (f.from.fields ++ added)) (all_extended f.values f.own) = all-extended f.from.fields added f.values f.own f.fills.of.of (events_of_schema f.from f.own bytes f.has) in
    subst (All (IsEventOf shape.fields)) (sym f.are) (subst (λ (l : List Field). All (IsEventOf l) (all_extended f.values f.own)) (sym f.fills.of.grows.fields) all)

pub of_for : (shape : Shape) (defaults : Given) (events : List Event) (bytes : List ℕ) → HasEventsFor shape defaults events bytes → All (IsEventOf shape.fields) events
of_for shape defaults events bytes (inl has) = events_of_schema shape events bytes has
of_for shape defaults events bytes (inr f) = filled_of shape defaults events bytes f

rising_of : (shape : Shape) (events : List Event) (bytes : List ℕ) → HasEvents shape events bytes → IsRising events
rising_of shape events bytes x = subst IsRising x.2 x.1.rising

few_of : (shape : Shape) (events : List Event) (bytes : List ℕ) → HasEvents shape events bytes → length events ≤ 2 ^ 40
few_of shape events bytes x = subst (λ (l : List Event). length l ≤ 2 ^ 40) x.2 x.1.few

pub rising_for : (shape : Shape) (defaults : Given) (events : List Event) (bytes : List ℕ) → HasEventsFor shape defaults events bytes → IsRising events
rising_for shape defaults events bytes (inl has) = rising_of shape events bytes has
rising_for shape defaults events bytes (inr f) = subst IsRising (sym f.are) (rising-extended f.values f.own (rising_of f.from f.own bytes f.has))

pub few_for : (shape : Shape) (defaults : Given) (events : List Event) (bytes : List ℕ) → HasEventsFor shape defaults events bytes → length events ≤ 2 ^ 40
few_for shape defaults events bytes (inl has) = few_of shape events bytes has
few_for shape defaults events bytes (inr f) = omega (arith, ap (λ (l : List Event). length l) f.are, length-extended f.values f.own, few_of f.from f.own bytes f.has)

-- the growth comes behind a log of the schema
pub schema_for : (from shape : Shape) (defaults : Given) (values : List Value) (old new : List ℕ) → IsFilled from shape defaults values → IsInForce from old → Grows (growth_bytes (growth_to shape values)) old new → IsOfSchemaFor shape defaults new
schema_for from shape defaults values old new fills here step = by (step (here.0 ∷ here.1) here.3)
  where
    by : HasPayloads (here.0 ∷ here.1) new ⊎ HasPayloads (here.0 ∷ (here.1 ++ growth_bytes (growth_to shape values) ∷ [])) new → IsOfSchemaFor shape defaults new
    by (inl same) = inr (from, values, fills, (here.0, here.1, here.2, same, here.4))
    by (inr has) =
        let payload = growth_bytes (growth_to shape values) in
        let stage = growth (growth_to shape values) in
        inl (inr (here.0, here.1 ++ payload ∷ [], here.2 ++ stage ∷ [], has, has-push from here.0 here.1 here.2 payload stage here.4 (growth_said from shape defaults values fills)))

-- the events of a log of that schema, with these values behind their own
abbrev Fills : Shape → List Value → List Event → List ℕ → Type 0
Fills from values events bytes = (own : List Event) × HasEvents from own bytes × (events ≡ all_extended values own)

-- from here on, a file has one frame list
module _ (unique : (a b : List (List ℕ)) (bytes : List ℕ) → HasPayloads a bytes → HasPayloads b bytes → a ≡ b) where
  -- the schema that grows isn't the one that it grows to
  not_own : (from shape : Shape) (defaults : Given) (values : List Value) (bytes : List ℕ) → IsFilled from shape defaults values → IsInForce from bytes → IsInForce shape bytes → ⊥
  not_own from shape defaults values bytes fills framed here =
      let same : from ≡ shape = one_schema unique from shape bytes framed here in
      let itself : filled shape shape defaults ≡ Some values = subst (λ (s : Shape). filled s shape defaults ≡ Some values) same fills.filled_is in
      absurd (let e : None ≡ Some values = sym (not_itself shape defaults) ∙ itself in cc)

  pub own_events : (shape : Shape) (defaults : Given) (events : List Event) (bytes : List ℕ) → IsInForce shape bytes → HasEventsFor shape defaults events bytes → HasEvents shape events bytes
  own_events shape defaults events bytes here (inl has) = has
  own_events shape defaults events bytes here (inr f) = absurd (not_own f.from shape defaults f.values bytes f.fills f.framed here)

  pub unframed_events : (shape : Shape) (defaults : Given) (events : List Event) (bytes : List ℕ) → HasPayloads [] bytes → HasEventsFor shape defaults events bytes → events ≡ []
  unframed_events shape defaults events bytes none (inl has) = sym has.2 ∙ ap logged (log_by unique shape has.0 [] bytes none has.1)
  unframed_events shape defaults events bytes none (inr f) = absurd (let e : [] ≡ f.framed.0 ∷ f.framed.1 = unique [] (f.framed.0 ∷ f.framed.1) bytes none f.framed.3 in cc)

  -- where a schema is in force that grows to the other one, these are its own events with the defaults behind
  fills_by : (from shape : Shape) (defaults : Given) (values : List Value) (events : List Event) (bytes : List ℕ) → IsFilled from shape defaults values → IsInForce from bytes → HasEventsFor shape defaults events bytes → Fills from values events bytes
  fills_by from shape defaults values events bytes fills here (inl has) = absurd (not_own from shape defaults values bytes fills here (in_force_of unique shape events bytes (framed_by from bytes here) has))
  fills_by from shape defaults values events bytes fills here (inr f) =
      let same : f.from ≡ from = one_schema unique f.from from bytes f.framed here in
      let said : filled from shape defaults ≡ Some f.values = subst (λ (s : Shape). filled s shape defaults ≡ Some f.values) same f.fills.filled_is in
      let one : f.values ≡ values = same_some (filled from shape defaults) f.values values said fills.filled_is in
      (f.own, subst (λ (s : Shape). HasEvents s f.own bytes) same f.has, f.are ∙ ap (λ (v : List Value). all_extended v f.own) one)

  -- a log has one list of events
  filled_one : (shape : Shape) (defaults : Given) (events others : List Event) (bytes : List ℕ) → HasFilled shape defaults events bytes → HasEventsFor shape defaults others bytes → events ≡ others
  filled_one shape defaults events others bytes f has =
      let g = fills_by f.from shape defaults f.values others bytes f.fills f.framed has in
      f.are ∙ ap (λ (l : List Event). all_extended f.values l) (one_list unique f.from f.from f.own g.0 bytes f.has g.1) ∙ sym g.2

  pub one_for : (shape : Shape) (defaults : Given) (events others : List Event) (bytes : List ℕ) → HasEventsFor shape defaults events bytes → HasEventsFor shape defaults others bytes → events ≡ others
  one_for shape defaults events others bytes (inl x) (inl y) = one_list unique shape shape events others bytes x y
  one_for shape defaults events others bytes (inl x) (inr g) = sym (filled_one shape defaults others events bytes g (inl x))
  one_for shape defaults events others bytes (inr f) y = filled_one shape defaults events others bytes f y

  -- the growth comes behind a log with these events

  fills_grow : (from shape : Shape) (defaults : Given) (values : List Value) (events : List Event) (old new : List ℕ) → IsFilled from shape defaults values → IsInForce from old → Fills from values events old
      → Grows (growth_bytes (growth_to shape values)) old new → HasEventsFor shape defaults events new
  fills_grow from shape defaults values events old new fills here f step = by (grows_log unique from (growth_to shape values) f.0 (growth_bytes (growth_to shape values)) old new here f.1 (growth_said from shape defaults values fills) step)
    where
      by : (IsInForce from new × HasEvents from f.0 new) ⊎ (IsInForce shape new × HasEvents shape (all_extended values f.0) new) → HasEventsFor shape defaults events new
      by (inl same) = inr (record { from = from; values = values; fills = fills; framed = same.0; own = f.0; has = same.1; are = f.2 })
      by (inr more) = inl (subst (λ (l : List Event). HasEvents shape l new) (sym f.2) more.1)

  pub grows_for : (from shape : Shape) (defaults : Given) (values : List Value) (events : List Event) (old new : List ℕ) → IsFilled from shape defaults values → IsInForce from old → HasEventsFor shape defaults events old
      → Grows (growth_bytes (growth_to shape values)) old new → HasEventsFor shape defaults events new
  grows_for from shape defaults values events old new fills here has step = fills_grow from shape defaults values events old new fills here (fills_by from shape defaults values events old fills here has) step

  pub grown_for : (from shape : Shape) (defaults : Given) (values : List Value) (events : List Event) (old new : List ℕ) → IsFilled from shape defaults values → IsInForce from old → HasEventsFor shape defaults events old
      → Grown (growth_bytes (growth_to shape values)) old new → HasEvents shape events new
  grown_for from shape defaults values events old new fills here has step =
      let f = fills_by from shape defaults values events old fills here has in
      let more = grown_log unique from (growth_to shape values) f.0 (growth_bytes (growth_to shape values)) old new here f.1 (growth_said from shape defaults values fills) step in
      subst (λ (l : List Event). HasEvents shape l new) (sym f.2) more.1

  -- a legal log of the schema has events
  pub events_in : (shape : Shape) (bytes : List ℕ) → IsInForce shape bytes → HasLegalLog bytes → (events : List Event) × HasEvents shape events bytes
  events_in shape bytes framed (inl none) = absurd (let e : [] ≡ framed.0 ∷ framed.1 = unique [] (framed.0 ∷ framed.1) bytes none framed.3 in cc)
  events_in shape bytes framed (inr is) =
      let here : IsInForce is.0 bytes = in_force_of unique is.0 (logged is.1) bytes (framed_by shape bytes framed) (is.1, is.2, refl) in
      let same : is.0 ≡ shape = one_schema unique is.0 shape bytes here framed in
      (logged is.1, (is.1, subst (λ (s : Shape). IsLegalLog s is.1 bytes) same is.2, refl))

  pub for_legal : (shape : Shape) (defaults : Given) (bytes : List ℕ) → IsSchema shape → HasLegalLog bytes → IsOfSchemaFor shape defaults bytes → (events : List Event) × HasEventsFor shape defaults events bytes
  for_legal shape defaults bytes schema log (inl (inl none)) = ([], inl (none_legal shape bytes schema none))
  for_legal shape defaults bytes schema log (inl (inr framed)) = let e = events_in shape bytes framed log in (e.0, inl e.1)
  for_legal shape defaults bytes schema log (inr (from, values, fills, framed)) =
      let e = events_in from bytes framed log in
      (all_extended values e.0, inr (record { from = from; values = values; fills = fills; framed = framed; own = e.0; has = e.1; are = refl }))

-- what `law_frames` promises of reading
module _ (frames_defined : (payloads : List (List ℕ)) (bytes : List ℕ) → HasPayloads payloads bytes → payloads_in bytes ≡ Some payloads) where
  pub next_for : (shape : Shape) (defaults : Given) (events : List Event) (bytes : List ℕ) → HasEventsFor shape defaults events bytes → next_of bytes ≡ Some (next_offset events)
  next_for shape defaults events bytes (inl has) = next_read frames_defined shape events bytes has
  next_for shape defaults events bytes (inr f) =
      next_read frames_defined f.from f.own bytes f.has ∙ ap (λ (n : ℕ). Some n) (sym (next-extended f.values f.own)) ∙ ap (λ (l : List Event). Some (next_offset l)) (sym f.are)
