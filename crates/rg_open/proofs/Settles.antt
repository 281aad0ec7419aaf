-- How the calls of an opening join.
use Rattle.std.proofs.Common.{◌≡◌, ◌∙◌, ℕ, List, Option, refl}
use Rattle.rg_host.specs.Image.{Image, NothingPending}
use Rattle.rg_host.specs.Moments.{Moment, LeavesAll}
use Rattle.rg_host.proofs.Laws.{nothing_pending-kept, moments_then, moments-silent}
use Rattle.rg_frame.specs.Calls.{Writes}
use Rattle.rg_frame.specs.Steps.{Leaves}
use Rattle.rg_open.specs.Settling.{AreSettled, LeavesFewer}

module _ {H : Type 0} (now : H → Option Image) (may : H → Image → Type 0) (clock : H → ℕ) (since : H → ℕ → Moment → Type 0) (said : H → Option (List ℕ)) where
  -- one after another
  pub fewer-then : (old mid new : H) → LeavesFewer now may clock since said old mid → LeavesFewer now may clock since said mid new → LeavesFewer now may clock since said old new
  fewer-then old mid new first second = record {
    now_stays = second.now_stays ∙ first.now_stays;
    fewer = λ v left. first.fewer v (second.fewer v left);
    said_stays = second.said_stays ∙ first.said_stays;
    moments = moments-silent clock since old mid new (may old) (may mid) (said old) (said mid) first.moments second.moments first.said_stays first.fewer;
  }

  -- calls that leave all leave no more
  pub all-fewer : (old new : H) → LeavesAll now may clock since said old new → LeavesFewer now may clock since said old new
  all-fewer old new leaves = record { now_stays = leaves.now_stays; fewer = leaves.may_stays.no_more; said_stays = leaves.said_stays; moments = leaves.moments }

  -- a file of which nothing was pending
  pub fewer-settled : (file : ℕ) (old new : H) → LeavesFewer now may clock since said old new → NothingPending file (now old) (may old) → NothingPending file (now new) (may new)
  fewer-settled file old new leaves settled = nothing_pending-kept file (now old) (now new) (may old) (may new) leaves.now_stays leaves.fewer settled

  pub fewer-all_settled : (old new : H) → LeavesFewer now may clock since said old new → AreSettled (now old) (may old) → AreSettled (now new) (may new)
  fewer-all_settled old new leaves settled = record {
    log = fewer-settled 2 old new leaves settled.log;
    first = fewer-settled 0 old new leaves settled.first;
    second = fewer-settled 1 old new leaves settled.second;
  }

  module _ (file : ℕ) (Step : List ℕ → List ℕ → Type 0) (old mid new : H) where
    -- then a file was written
    pub writes-after : ((a b : List ℕ) → b ≡ a → Step a b) → LeavesFewer now may clock since said old mid → Writes now may clock since said file Step mid new → Writes now may clock since said file Step old new
    writes-after same fewer writes = record {
      moments = moments_then clock since old mid new _ _ _ fewer.moments writes.moments (λ m has. (start m.image has.0, has.1)) (λ m has. (later m.image has.0, λ s told. has.1 s (fewer.said_stays ∙ told)));
      left = λ v left. later v (writes.left v left);
      said_stays = writes.said_stays ∙ fewer.said_stays;
    }
      where
        start : (v : Image) → may old v → Leaves file Step (now old) (may old) v
        start v left = ((v, left, λ f other. refl), λ settled w told. same (w file) (v file) (settled w told v left))

        later : (v : Image) → Leaves file Step (now mid) (may mid) v → Leaves file Step (now old) (may old) v
        later v left = ((left.0.0, fewer.fewer left.0.0 left.0.1, left.0.2), λ settled w told. left.1 (fewer-settled file old mid fewer settled) w (fewer.now_stays ∙ told))

    -- and nothing after that
    pub writes-before : Writes now may clock since said file Step old mid → LeavesFewer now may clock since said mid new → Writes now may clock since said file Step old new
    writes-before writes fewer = record {
      moments = moments_then clock since old mid new _ _ _ writes.moments fewer.moments (λ m has. has) (λ m has. (writes.left m.image has.0, λ s told. has.1 s (writes.said_stays ∙ told)));
      left = λ v left. writes.left v (fewer.fewer v left);
      said_stays = fewer.said_stays ∙ writes.said_stays;
    }
