-- What an opening does to the store of its plan.
use Rattle.std.specs.Prelude.{◌≡◌, ◌≢◌, ◌⊎◌, ℕ, List, [], Option}
use Rattle.std.specs.Option.{ForSome}
use Rattle.rg_host.specs.Image.{Image}
use Rattle.rg_host.specs.Moments.{Moment, Moments}
use Rattle.rg_config.specs.Plans.{Planned}
use Rattle.rg_reservoir.specs.Attached.{LogOpens}
use Rattle.rg_run_spec.specs.Steps.{IsMidStep, IsStepped}
use Rattle.rg_open.specs.Stores.{store_of}

-- an image that might have been left, of which the log and the slots are as reads give them
abbrev pub IsAsRead : Image → (Image → Type 0) → Image → Type 0
IsAsRead v may u = may u × (u 0 ≡ v 0) × (u 1 ≡ v 1) × (u 2 ≡ v 2)

-- But for the log, the image is one that might have been left, with the slots as reads give them. The log is as reads give it; or it
-- had no frame there and has none here or the schema's alone; or its schema grows to the plan's by the plan's defaults, and its frames
-- are the same here, or these and the growth.
abbrev pub IsOpenedImage : Planned → Image → (Image → Type 0) → Image → Type 0
IsOpenedImage plan v may u = (w : Image) × IsAsRead v may w × ((file : ℕ) → file ≢ 2 → u file ≡ w file) × LogOpens plan.shape plan.defaults (v 2) (u 2)

-- an image within an opening: it might have been left before, or comes by a step that adds nothing to the log but the schema's frame or a growth
abbrev pub IsInOpening : Planned → Option ℕ → Image → (Image → Type 0) → Image → Type 0
IsInOpening plan keep v may u = may u ⊎ (IsMidStep (store_of plan) keep [] (IsAsRead v may) u × IsOpenedImage plan v may u)

-- an image that may be left after an opening: it comes by such a step, after which the events are the same
abbrev pub IsAfterOpening : Planned → Option ℕ → Image → (Image → Type 0) → Image → Type 0
IsAfterOpening plan keep v may u = IsStepped (store_of plan) keep [] (IsAsRead v may) u × IsOpenedImage plan v may u

module _ {H : Type 0} (may : H → Image → Type 0) (clock : H → ℕ) (since : H → ℕ → Moment → Type 0) (said : H → Option (List ℕ)) where
  -- From old, where reads give the image v, to new nothing was put. Each image of a moment, and each that is left, might have been
  -- left at old, or comes by a step that adds nothing to the log but the schema's frame or a growth from one that is as reads give it.
  pub record IsWithinOpening (plan : Planned) (keep : Option ℕ) (v : Image) (old new : H) : Type 0 where
    pub moments : Moments clock since old new (λ m. IsInOpening plan keep v (may old) m.image × ForSome (said old) (λ s. m.said ≡ s))
    pub left : (u : Image) → may new u → IsInOpening plan keep v (may old) u
    pub said_stays : said new ≡ said old
