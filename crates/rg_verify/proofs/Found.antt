-- A log that was found by its heads and growths, and what comes behind the values of its payments.
use Rattle.std.proofs.Common.{◌≡◌, ◌∙◌, inl, inr, ℕ, List, [], ◌∷◌, Option, Some, None, sym, ap}
use Rattle.rg_event.specs.Shapes.{Shape}
use Rattle.rg_event.specs.declared.event.Event.{Event}
use Rattle.rg_event.specs.declared.value.Value.{Value}
use Rattle.rg_frame.specs.Frames.{HasPayloads}
use Rattle.rg_frame.proofs.Laws.{payloads_one}
use Rattle.rg_growth.specs.Filling.{Given, IsFilled, filled}
use Rattle.rg_growth.proofs.Laws.{not_itself}
use Rattle.rg_chunk.specs.Extended.{all_extended}
use Rattle.rg_log.specs.Entries.{behind}
use Rattle.rg_log.specs.Filled.{HasEventsFor}
use Rattle.rg_log.specs.Log.{HasEvents, IsInForce}
use Rattle.rg_log.specs.declared.summary.LogSummary.{LogSummary}
use Rattle.rg_log.proofs.Laws.{in_force_of}
use Rattle.rg_reservoir.specs.Attached.{IsForeign, IsOpened}
use Rattle.rg_reservoir.specs.Views.{View}
use Rattle.rg_reservoir.proofs.Laws.{said_in_force, not_other, is_foreign, not_to_grow, unframed_for}
use Rattle.rg_verify.specs.Finding.{IsFurther, IsApart, IsFoundFor}
use Rattle.rg_verify.specs.Payments.{payments_in}
use Rattle.rg_verify.proofs.Logs.{payments_are}

-- a schema doesn't grow to itself
never_filled : (from shape : Shape) (defaults : Given) (values : List Value) → from ≡ shape → IsFilled from shape defaults values → ⊥
never_filled from shape defaults values same fills =
    let e : None ≡ Some values = sym (not_itself shape defaults) ∙ ap (λ (s : Shape). filled s shape defaults) (sym same) ∙ fills.filled_is in
    absurd (cc)

module _ (shape : Shape) (defaults : Given) (bytes : List ℕ) where
  -- it has no frame
  module _ (none : HasPayloads [] bytes) where
    none_events : (events : List Event) → HasEventsFor shape defaults events bytes → payments_in bytes ≡ events
    none_events events (inl own) = payments_are shape events bytes own
    none_events events (inr grows) =
        let e : [] ≡ grows.framed.0 ∷ grows.framed.1 = payloads_one [] (grows.framed.0 ∷ grows.framed.1) bytes none grows.framed.3 in
        absurd (cc)

    pub none_found : IsFoundFor shape defaults None bytes
    none_found = record { events = none_events; ours = λ foreign. unframed_for shape defaults bytes none (inl foreign) }

  -- it was read to its end
  module _ (view : View) (first end : ℕ) (summary : LogSummary) (o : IsOpened view first end summary bytes) where
    in_force : (other : Shape) → IsInForce other bytes → other ≡ view.shape
    in_force other is = said_in_force view.shape other (o.start ∷ o.payloads) summary bytes o.has o.say is

    own_shape : (events : List Event) → HasEvents shape events bytes → shape ≡ view.shape
    own_shape events own = in_force shape (in_force_of payloads_one shape events bytes (o.start, o.payloads, o.has) own)

    -- its schema is this one
    module _ (same : view.shape ≡ shape) where
      same_events : (events : List Event) → HasEventsFor shape defaults events bytes → payments_in bytes ≡ events
      same_events events (inl own) = payments_are shape events bytes own
      same_events events (inr grows) = absurd (never_filled grows.from shape defaults grows.values (in_force grows.from grows.framed ∙ same) grows.fills)

      same_found : IsFoundFor shape defaults None bytes
      same_found = record {
        events = same_events;
        ours = λ foreign. not_other shape (o.start ∷ o.payloads) (behind view.shape summary) bytes o.has o.say (inr (ap (λ (s : Shape). Some s) same)) foreign.is;
      }

    -- its schema grows to this one
    module _ (values : List Value) (fills : IsFilled view.shape shape defaults values) where
      grown_events : (events : List Event) → HasEventsFor shape defaults events bytes → all_extended values (payments_in bytes) ≡ events
      grown_events events (inl own) = absurd (never_filled view.shape shape defaults values (sym (own_shape events own)) fills)
      grown_events events (inr grows) =
          let e : Some values ≡ Some grows.values = sym fills.filled_is ∙ ap (λ (s : Shape). filled s shape defaults) (sym (in_force grows.from grows.framed)) ∙ grows.fills.filled_is in
          let same : values ≡ grows.values = cc in
          ap (λ (l : List Event). all_extended values l) (payments_are grows.from grows.own bytes grows.has) ∙ ap (λ (v : List Value). all_extended v grows.own) same ∙ sym grows.are

      grown_found : IsFoundFor shape defaults (Some values) bytes
      grown_found = record {
        events = grown_events;
        ours = λ foreign. not_to_grow shape defaults bytes (record { from = view.shape; values = values; fills = fills; payloads = o.start ∷ o.payloads; has = o.has; summary = summary; say = o.say }) (inl foreign);
      }

    pub found : (further : Option (List Value)) → IsFurther view.shape shape defaults further → IsFoundFor shape defaults further bytes
    found None same = same_found same
    found (Some values) fills = grown_found values fills

    -- it is neither
    pub apart : IsApart view.shape shape defaults → IsForeign shape defaults bytes
    apart is = is_foreign shape defaults o.start o.payloads (behind view.shape summary) bytes o.has o.say
        (λ e. let known : Some view.shape ≡ Some shape = e in is.differs (cc))
        (λ from e.
        let known : Some view.shape ≡ Some from = e in
        let same : view.shape ≡ from = cc in
        ap (λ (s : Shape). filled s shape defaults) (sym same) ∙ is.cannot)
