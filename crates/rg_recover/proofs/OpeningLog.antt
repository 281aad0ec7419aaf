-- What a run does to a legal log, from its opening on.
use Rattle.std.proofs.Common.{◌≡◌, ◌⊎◌, inl, inr, ℕ, List, [], ◌++◌, Option, refl, sym, subst}
use Rattle.std.proofs.lemmas.List.{append-nil}
use Rattle.std.specs.Option.{ForSome}
use Rattle.rg_host.specs.Image.{Image}
use Rattle.rg_host.specs.Moments.{Moment, Moments}
use Rattle.rg_host.proofs.Laws.{moments_then, moments-weaker}
use Rattle.rg_event.specs.declared.event.Event.{Event}
use Rattle.rg_config.specs.Plans.{Planned}
use Rattle.rg_log.specs.Filled.{HasEventsFor}
use Rattle.rg_run_spec.specs.Steps.{IsMidStep, IsStepped}
use Rattle.rg_run_spec.specs.Stores.{HasAtLeast}
use Rattle.rg_open.specs.Stores.{Has, store_of}
use Rattle.rg_open.specs.Within.{IsAsRead, IsInOpening, IsAfterOpening, IsWithinOpening}
use Rattle.rg_recover.specs.Answered.{StaysHeld, HoldsLog}

module _ {H : Type 0} (may : H → Image → Type 0) (clock : H → ℕ) (since : H → ℕ → Moment → Type 0) (said : H → Option (List ℕ)) (plan : Planned) (keep : Option ℕ) (v : Image) (events : List Event) (old mid : H) (has : Has plan events v) (within : IsWithinOpening may clock since said plan keep v old mid) where
  as_read : (u : Image) → IsAsRead v (may old) u → Has plan events u
  as_read u read = subst (λ (bytes : List ℕ). HasEventsFor plan.shape plan.defaults events bytes) (sym read.3) has

  within_has : (u : Image) → Has plan events u ⊎ Has plan (events ++ []) u → HasAtLeast (store_of plan) events u
  within_has u (inl here) = (events, ([], append-nil events), here)
  within_has u (inr here) = (events ++ [], ([], refl), here)

  in_opening : (u : Image) → IsInOpening plan keep v (may old) u → may old u ⊎ HasAtLeast (store_of plan) events u
  in_opening u (inl left) = inl left
  in_opening u (inr step) = inr (within_has u (step.0.events events (as_read step.0.from step.0.left)))

  moments : Moments clock since old mid (λ m. may old m.image ⊎ HasAtLeast (store_of plan) events m.image)
  moments = moments-weaker clock since old mid (λ m. IsInOpening plan keep v (may old) m.image × ForSome (said old) (λ s. m.said ≡ s)) (λ m. may old m.image ⊎ HasAtLeast (store_of plan) events m.image) within.moments (λ m h. in_opening m.image h.0)

  -- the opening alone
  pub opening_log : HoldsLog may clock since plan events old mid
  opening_log = record { moments = moments; left = λ u one. in_opening u (within.left u one) }

module _ {H : Type 0} (may : H → Image → Type 0) (clock : H → ℕ) (since : H → ℕ → Moment → Type 0) (said : H → Option (List ℕ)) (plan : Planned) (keep : Option ℕ) (v : Image) (events : List Event) (old mid new : H) (has : Has plan events v) (within : IsWithinOpening may clock since said plan keep v old mid) where
  -- and then the lines
  pub opened_log : ((u : Image) → may mid u → IsAfterOpening plan keep v (may old) u) → (((u : Image) → may mid u → HasAtLeast (store_of plan) events u) → StaysHeld may clock since plan events mid new) → HoldsLog may clock since plan events old new
  opened_log stepped lines =
      let first = opening_log may clock since said plan keep v events old mid has within in
      let s = lines holds in
      record {
        moments = moments_then clock since old mid new (λ m. may old m.image ⊎ HasAtLeast (store_of plan) events m.image) (λ m. HasAtLeast (store_of plan) events m.image) (λ m. may old m.image ⊎ HasAtLeast (store_of plan) events m.image) first.moments s.moments (λ m h. h) (λ m h. inr h);
        left = λ u one. inr (s.left u one);
      }
    where
      holds : (u : Image) → may mid u → HasAtLeast (store_of plan) events u
      holds u one =
          let step = (stepped u one).0 in
          (events ++ [], ([], refl), step.events events (as_read may clock since said plan keep v events old mid has within step.from step.left))
