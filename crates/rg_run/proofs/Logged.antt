-- What calls do to the log.
use Rattle.std.proofs.Common.{inl, inr, ◌++◌, List}
use Rattle.rg_host.specs.Image.{Image}
use Rattle.rg_host.specs.Moments.{Moment, LeavesFiles, LeavesAll}
use Rattle.rg_host.proofs.Laws.{leaves_files-none, leaves_files-then, moments_then, moments-weaker}
use Rattle.rg_event.specs.declared.event.Event.{Event}
use Rattle.rg_config.specs.Plans.{Planned}
use Rattle.rg_run_spec.specs.Stores.{HasAtLeast}
use Rattle.rg_run_spec.specs.Steps.{IsMidLog}
use Rattle.rg_run_spec.proofs.Laws.{prefix_more}
use Rattle.rg_task.specs.Stepping.{IsWithinLog}
use Rattle.rg_task.specs.View.{View, OnlyNow, Sinks}
use Rattle.rg_run.specs.Logs.{Holds, StaysHeld}

-- a call that leaves all leaves the files
pub files_of : {K : Type 0} (view : View K) (old new : K) → LeavesAll view.now view.may view.clock view.since view.said old new → LeavesFiles view.now view.may view.clock view.since old new
files_of view old new leaves = record {
  now_stays = leaves.now_stays;
  may_stays = leaves.may_stays;
  moments = moments-weaker view.clock view.since old new _ (λ m. view.may old m.image) leaves.moments (λ m at. at.0);
}

-- and so does none
pub no_files : {K : Type 0} (view : View K) → OnlyNow view → Sinks view → (t : K) → LeavesFiles view.now view.may view.clock view.since t t
no_files view only sinks t = leaves_files-none view.now view.may view.clock view.since t (λ a b m le at. sinks t a b m le at) (λ m at. (only t m at).0)

-- one call after another
pub files_join : {K : Type 0} (view : View K) (old mid new : K) → LeavesFiles view.now view.may view.clock view.since old mid → LeavesFiles view.now view.may view.clock view.since mid new → LeavesFiles view.now view.may view.clock view.since old new
files_join view old mid new first second = leaves_files-then view.now view.may view.clock view.since old mid new first second

module _ {K : Type 0} (view : View K) (plan : Planned) (held : List Event) where
  abbrev Q : Moment → Type 0
  Q m = HasAtLeast (view.store plan) held m.image

  -- the files stay
  pub files_held : (old new : K) → LeavesFiles view.now view.may view.clock view.since old new → Holds view plan held old → StaysHeld view plan held old new
  files_held old new files holds = record {
    moments = moments-weaker view.clock view.since old new (λ m. view.may old m.image) Q files.moments (λ m at. holds m.image at);
    left = λ u at. holds u (files.may_stays.no_more u at);
  }

  step_held : (chunk : List Event) (old : K) (v : Image) → Holds view plan held old → IsMidLog (view.store plan) chunk (view.may old) v → HasAtLeast (view.store plan) held v
  step_held chunk old v holds w =
      let h = holds w.from w.left in
      elim (w.events h.0 h.2) [
        | inl has ↦ (h.0, h.1, has)
        | inr has ↦ (h.0 ++ chunk, prefix_more held h.0 chunk h.1, has)
      ]

  -- at most a chunk comes behind the log
  pub log_held : (chunk : List Event) (old new : K) → IsWithinLog view.may view.clock view.since (view.store plan) chunk old new → Holds view plan held old → StaysHeld view plan held old new
  log_held chunk old new within holds = record {
    moments = moments-weaker view.clock view.since old new (λ m. IsMidLog (view.store plan) chunk (view.may old) m.image) Q within.moments (λ m at. step_held chunk old m.image holds at);
    left = λ u at. step_held chunk old u holds (within.left u at);
  }

  -- one call after another
  pub held_then : (old mid new : K) → StaysHeld view plan held old mid → (Holds view plan held mid → StaysHeld view plan held mid new) → StaysHeld view plan held old new
  held_then old mid new first second =
      let s = second first.left in
      record { moments = moments_then view.clock view.since old mid new Q Q Q first.moments s.moments (λ m h. h) (λ m h. h); left = s.left }
