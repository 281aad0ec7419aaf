-- A whole run, from its beginning and its lines.
use Rattle.std.proofs.Common.{◌≡◌, inl, ℕ, ◌≤◌, List, [], Option, refl, sym, ◌∙◌}
use Rattle.std.proofs.lemmas.List.{append-nil}
use Rattle.std.specs.Option.{ForSome}
use Rattle.rg_host.specs.Image.{Image}
use Rattle.rg_host.specs.Moments.{Moment, Moments}
use Rattle.rg_host.proofs.Laws.{moments-none}
use Rattle.rg_config.specs.Plans.{Planned}
use Rattle.rg_run_spec.specs.Stores.{StaysOnCourseSince}
use Rattle.rg_open.specs.Stores.{store_of}
use Rattle.rg_run.specs.Begun.{Begun, course_for}
use Rattle.rg_recover.specs.Ready.{IsReadyRun, begun_by}
use Rattle.rg_recover.specs.Ran.{IsUnopened}

module _ {H : Type 0} (now : H → Option Image) (may : H → Image → Type 0) (clock : H → ℕ) (since : H → ℕ → Moment → Type 0) (said : H → Option (List ℕ)) (plan : Planned) where
  -- a run that never began
  pub none_moments : (only : (h : H) (m : Moment) → since h (clock h) m → may h m.image × ForSome (said h) (λ t. m.said ≡ t)) (sinks : (h : H) (t u : ℕ) (m : Moment) → t ≤ u → since h u m → since h t m) (old : H) (ready : IsReadyRun plan (now old) (may old) (said old)) (from first : ℕ) (input : List ℕ) →
      Moments clock since old old (StaysOnCourseSince (store_of plan) (course_for plan (begun_by ready from first input)) (may old) [])
  none_moments only sinks old ready from first input = moments-none clock since old (StaysOnCourseSince (store_of plan) (course_for plan (begun_by ready from first input)) (may old) []) (λ t u m le h. sinks old t u m le h)
      (λ m h. let at = only old m h in inl (at.0, ([], ([], refl), at.1 ready.put ready.told ∙ sym (append-nil ready.put))))

  pub none_unopened : (b : Begun) (old : H) → IsUnopened may said plan b old old
  none_unopened b old = record { said_stays = refl; left = λ u left. inl left }
