-- The moments of an opening, as steps of the store of its plan.
use Rattle.std.proofs.Common.{◌≡◌, ◌∙◌, inl, inr, ℕ, List, [], Option, Some}
use Rattle.std.specs.Option.{ForSome}
use Rattle.rg_host.specs.Image.{Image}
use Rattle.rg_host.specs.Moments.{Moment}
use Rattle.rg_host.proofs.Laws.{moments_then, moments-weaker}
use Rattle.rg_event.specs.Shapes.{IsSchema}
use Rattle.rg_frame.specs.Calls.{Writes}
use Rattle.rg_frame.specs.Steps.{Leaves}
use Rattle.rg_config.specs.Plans.{Planned}
use Rattle.rg_reservoir.specs.Attached.{LogOpens}
use Rattle.rg_run_spec.specs.Stores.{Store}
use Rattle.rg_run_spec.specs.Steps.{IsMidStep, IsStepped}
use Rattle.rg_open.specs.Stores.{store_of}
use Rattle.rg_open.specs.Settling.{AreSettled, LeavesFewer}
use Rattle.rg_open.specs.Within.{IsAsRead, IsOpenedImage, IsInOpening, IsAfterOpening, IsWithinOpening}
use Rattle.rg_open.proofs.Attached.{mid_step, stepped}

-- an image that might be left once all is settled is as reads give it
pub as_read : (now then : Option Image) (may after : Image → Type 0) (v : Image) → now ≡ Some v → then ≡ now → ((u : Image) → after u → may u) → AreSettled then after → (u : Image) → after u → IsAsRead v may u
as_read now then may after v told same fewer settled u left =
    let at : then ≡ Some v = same ∙ told in
    (fewer u left, settled.first v at u left, settled.second v at u left, settled.log v at u left)

-- from images of which there are more
mid_before : (store : Store Image) (keep : Option ℕ) (may after : Image → Type 0) (u : Image) → ((v : Image) → after v → may v) → IsMidStep store keep [] after u → IsMidStep store keep [] may u
mid_before store keep may after u fewer is = record { from = is.from; left = fewer is.from is.left; truthful = is.truthful; schema = is.schema; grown = is.grown; events = is.events; slots = is.slots }

stepped_before : (store : Store Image) (keep : Option ℕ) (may after : Image → Type 0) (u : Image) → ((v : Image) → after v → may v) → IsStepped store keep [] after u → IsStepped store keep [] may u
stepped_before store keep may after u fewer is = record { from = is.from; left = fewer is.from is.left; truthful = is.truthful; schema = is.schema; grown = is.grown; events = is.events; slots = is.slots }

module _ {H : Type 0} (now : H → Option Image) (may : H → Image → Type 0) (clock : H → ℕ) (since : H → ℕ → Moment → Type 0) (said : H → Option (List ℕ)) where
  -- calls that wrote nothing
  pub quiet_within : (plan : Planned) (keep : Option ℕ) (v : Image) (old new : H) → LeavesFewer now may clock since said old new → IsWithinOpening may clock since said plan keep v old new
  quiet_within plan keep v old new fewer = record {
    moments = moments-weaker clock since old new (λ m. may old m.image × ForSome (said old) (λ s. m.said ≡ s)) (λ m. IsInOpening plan keep v (may old) m.image × ForSome (said old) (λ s. m.said ≡ s)) fewer.moments
        (λ m has. (inl has.0, has.1));
    left = λ u left. inl (fewer.fewer u left);
    said_stays = fewer.said_stays;
  }

  module _ (plan : Planned) (schema : IsSchema plan.shape) (keep : Option ℕ) (old mid new : H) (v : Image) (told : now old ≡ Some v) (fewer : LeavesFewer now may clock since said old mid) (settled : AreSettled (now mid) (may mid))
      (writes : Writes now may clock since said 2 (LogOpens plan.shape plan.defaults) mid new) where
    at_mid : now mid ≡ Some v
    at_mid = fewer.now_stays ∙ told

    as_read_mid : (u : Image) → may mid u → IsAsRead v (may old) u
    as_read_mid u left = as_read (now old) (now mid) (may old) (may mid) v told fewer.now_stays fewer.fewer settled u left

    opened_image : (m : Image) → Leaves 2 (LogOpens plan.shape plan.defaults) (now mid) (may mid) m → IsOpenedImage plan v (may old) m
    opened_image m left = (left.0.0, as_read_mid left.0.0 left.0.1, left.0.2, left.1 settled.log v at_mid)

    in_opening : (m : Image) → Leaves 2 (LogOpens plan.shape plan.defaults) (now mid) (may mid) m → IsInOpening plan keep v (may old) m
    in_opening m left = inr (mid_before (store_of plan) keep (IsAsRead v (may old)) (may mid) m as_read_mid (mid_step plan schema keep (now mid) (may mid) v at_mid settled.log m left), opened_image m left)

    -- and then those that open the log
    pub opened_within : IsWithinOpening may clock since said plan keep v old new
    opened_within = record {
      moments = moments_then clock since old mid new _ _ (λ m. IsInOpening plan keep v (may old) m.image × ForSome (said old) (λ s. m.said ≡ s)) fewer.moments writes.moments
          (λ m has. (inl has.0, has.1))
          (λ m has. (in_opening m.image has.0, λ s is. has.1 s (fewer.said_stays ∙ is)));
      left = λ u left. in_opening u (writes.left u left);
      said_stays = writes.said_stays ∙ fewer.said_stays;
    }

    -- each image that is left then
    pub opened_stepped : (u : Image) → may new u → IsAfterOpening plan keep v (may old) u
    opened_stepped u left = (stepped_before (store_of plan) keep (IsAsRead v (may old)) (may mid) u as_read_mid (stepped plan schema keep (now mid) (may mid) v at_mid settled.log u (writes.left u left)), opened_image u (writes.left u left))
