-- What a call on a task does to the store of its plan.
use Rattle.std.specs.Prelude.{◌≡◌, ◌⊎◌, ℕ, List, [], ◌++◌, length, Option, Some}
use Rattle.std.specs.Option.{ForSome}
use Rattle.rg_host.specs.Image.{Image}
use Rattle.rg_host.specs.Moments.{Moment, Moments}
use Rattle.rg_event.specs.declared.event.Event.{Event}
use Rattle.rg_run_spec.specs.Stores.{Store}
use Rattle.rg_run_spec.specs.Steps.{IsMidStep, IsMidLog, IsStepped}
use Rattle.rg_task.specs.State.{State}

module _ {K : Type 0} (may : K → Image → Type 0) (clock : K → ℕ) (since : K → ℕ → Moment → Type 0) (said : K → Option (List ℕ)) where
  -- From old to new nothing was put, and each image of a moment, and each that is left, is one within a step that stores this chunk.
  pub record IsWithinStep (store : Store Image) (keep : Option ℕ) (chunk : List Event) (old new : K) : Type 0 where
    pub moments : Moments clock since old new (λ m. IsMidStep store keep chunk (may old) m.image × ForSome (said old) (λ s. m.said ≡ s))
    pub left : (u : Image) → may new u → IsMidStep store keep chunk (may old) u
    pub said_stays : said new ≡ said old

module _ {K : Type 0} (may : K → Image → Type 0) (clock : K → ℕ) (since : K → ℕ → Moment → Type 0) where
  -- From old to new the log stays in each image of a moment, and in each that is left: there is at most this chunk behind its events.
  pub record IsWithinLog (store : Store Image) (chunk : List Event) (old new : K) : Type 0 where
    pub moments : Moments clock since old new (λ m. IsMidLog store chunk (may old) m.image)
    pub left : (u : Image) → may new u → IsMidLog store chunk (may old) u

-- The step is done: behind the stored events come none or the whole chunk, in each image that might be left.
pub record IsStored (store : Store Image) (keep : Option ℕ) (chunk before after : List Event) (old_may new_may : Image → Type 0) : Type 0 where
  pub more : List Event
  pub whole : (more ≡ []) ⊎ (more ≡ chunk)
  pub grown : after ≡ before ++ more
  pub left : (u : Image) → new_may u → IsStepped store keep more old_may u

-- All events are stored, and the slot that is kept has a checkpoint of them in each image that might be left.
pub record IsAllSaved (store : Store Image) (may : Image → Type 0) (s : State) : Type 0 where
  pub all_stored : s.stored ≡ s.events
  pub slot : ℕ
  pub kept : s.keep ≡ Some slot
  pub has : (v : Image) → may v → store.HasSaved slot (length s.events) v
