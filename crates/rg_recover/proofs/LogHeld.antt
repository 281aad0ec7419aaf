-- What calls do to the log of a plan.
use Rattle.std.proofs.Common.{◌≡◌, ◌≢◌, ◌⊎◌, inl, inr, ⊎_elim, ◌≤◌, ◌<◌, ℕ, List, [], ◌++◌, Option, None, sym, subst, arith}
use Rattle.std.proofs.lemmas.List.{append-nil}
use Rattle.std.specs.Option.{ForSome}
use Rattle.rg_host.specs.Image.{Image}
use Rattle.rg_host.specs.Moments.{Moment}
use Rattle.rg_host.proofs.Laws.{moments_then, moments-weaker}
use Rattle.rg_event.specs.declared.event.Event.{Event}
use Rattle.rg_frame.specs.Calls.{Writes}
use Rattle.rg_frame.specs.Steps.{Leaves}
use Rattle.rg_config.specs.Plans.{Planned}
use Rattle.rg_log.specs.Filled.{HasEventsFor}
use Rattle.rg_run_spec.specs.Stores.{Store}
use Rattle.rg_run_spec.specs.Steps.{IsMidStep, IsMidLog}
use Rattle.rg_task.specs.Stepping.{IsWithinLog, IsWithinStep}
use Rattle.rg_open.specs.Stores.{store_of}
use Rattle.rg_recover.proofs.Within.{still_within}

mid_log : (store : Store Image) (keep : Option ℕ) (chunk : List Event) (may : Image → Type 0) (u : Image) → IsMidStep store keep chunk may u → IsMidLog store chunk may u
mid_log store keep chunk may u w = record { from = w.from; left = w.left; events = w.events }

-- an image within a step that adds nothing, behind one within a step that adds a chunk
mid_log-then : (store : Store Image) (chunk : List Event) (may next : Image → Type 0) (u : Image) → ((v : Image) → next v → IsMidLog store chunk may v) → IsMidLog store [] next u → IsMidLog store chunk may u
mid_log-then store chunk may next u first w =
    let a = first w.from w.left in
    record {
      from = a.from;
      left = a.left;
      events = λ es has. ⊎_elim (λ same. inl (flat es (w.events es same))) (λ more. inr (flat (es ++ chunk) (w.events (es ++ chunk) more))) (a.events es has);
    }
  where
    flat : (es : List Event) → store.HasEvents es u ⊎ store.HasEvents (es ++ []) u → store.HasEvents es u
    flat es (inl has) = has
    flat es (inr has) = subst (λ (l : List Event). store.HasEvents l u) (append-nil es) has

module _ {H : Type 0} (now : H → Option Image) (may : H → Image → Type 0) (clock : H → ℕ) (since : H → ℕ → Moment → Type 0) (said : H → Option (List ℕ)) where
  -- a step is one of the log
  pub step_log : (store : Store Image) (keep : Option ℕ) (chunk : List Event) (old new : H) → IsWithinStep may clock since said store keep chunk old new → IsWithinLog may clock since store chunk old new
  step_log store keep chunk old new w = record {
    moments = moments-weaker clock since old new (λ m. IsMidStep store keep chunk (may old) m.image × ForSome (said old) (λ s. m.said ≡ s)) (λ m. IsMidLog store chunk (may old) m.image) w.moments (λ m h. mid_log store keep chunk (may old) m.image h.0);
    left = λ u one. mid_log store keep chunk (may old) u (w.left u one);
  }

  -- no call
  pub still_log : ((h : H) (m : Moment) → since h (clock h) m → may h m.image × ForSome (said h) (λ s. m.said ≡ s)) → ((h : H) (t u : ℕ) (m : Moment) → t ≤ u → since h u m → since h t m)
      → (store : Store Image) (chunk : List Event) (host : H) → IsWithinLog may clock since store chunk host host
  still_log only sinks store chunk host = step_log store None chunk host host (still_within now may clock since said only sinks store None chunk host)

  -- a slot is written
  pub slot_log : (plan : Planned) (slot : ℕ) (Step : List ℕ → List ℕ → Type 0) (old new : H) → slot < 2 → Writes now may clock since said slot Step old new → IsWithinLog may clock since (store_of plan) [] old new
  slot_log plan slot Step old new below writes = record {
    moments = moments-weaker clock since old new (λ m. Leaves slot Step (now old) (may old) m.image × ForSome (said old) (λ s. m.said ≡ s)) (λ m. IsMidLog (store_of plan) [] (may old) m.image) writes.moments (λ m h. by m.image h.0);
    left = λ u one. by u (writes.left u one);
  }
    where
      apart : 2 ≢ slot
      apart e = absurd (omega (arith, below, e))

      by : (u : Image) → Leaves slot Step (now old) (may old) u → IsMidLog (store_of plan) [] (may old) u
      by u leaves = record {
        from = leaves.0.0;
        left = leaves.0.1;
        events = λ es has. inl (subst (λ (bytes : List ℕ). HasEventsFor plan.shape plan.defaults es bytes) (sym (leaves.0.2 2 apart)) has);
      }

  -- and so behind a chunk that was stored
  pub log_then : (store : Store Image) (chunk : List Event) (old mid new : H) → IsWithinLog may clock since store chunk old mid → IsWithinLog may clock since store [] mid new → IsWithinLog may clock since store chunk old new
  log_then store chunk old mid new first second = record {
    moments = moments_then clock since old mid new (λ m. IsMidLog store chunk (may old) m.image) (λ m. IsMidLog store [] (may mid) m.image) (λ m. IsMidLog store chunk (may old) m.image) first.moments second.moments (λ m h. h)
        (λ m h. mid_log-then store chunk (may old) (may mid) m.image first.left h);
    left = λ u one. mid_log-then store chunk (may old) (may mid) u first.left (second.left u one);
  }
