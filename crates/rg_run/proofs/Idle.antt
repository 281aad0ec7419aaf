-- A row at which no file changes.
use Rattle.std.proofs.Common.{◌≡◌, ℕ, List, length, sym, ◌∙◌, ap, subst}
use Rattle.rg_config.specs.Plans.{Planned}
use Rattle.rg_run_spec.specs.Verdicts.{accepted_after}
use Rattle.rg_task.specs.State.{State}
use Rattle.rg_task.specs.Terms.{verdict_on}
use Rattle.rg_task.specs.View.{View, Keeps}
use Rattle.rg_run.specs.Due.{is_due}
use Rattle.rg_run.specs.Idle.{IsIdle}
use Rattle.rg_run.specs.declared.due.Due.{Due}
use Rattle.rg_run.specs.declared.due.Due.TheVariants.{Nothing}
use Rattle.rg_run.proofs.Marking.{none_due}

module _ {K : Type 0} (view : View K) (plan : Planned) (offset : ℕ) (line : List ℕ) where
  -- so it is once lines are put
  pub idle_still : (old new : K) → Keeps view old new → IsIdle view plan offset line old → IsIdle view plan offset line new
  idle_still old new keeps idle = record {
    running = keeps.running plan idle.running;
    room = keeps.roomy idle.room;
    none_due = subst (λ (x : State). is_due plan.settings.commit plan.settings.save (length x.events) (length (accepted_after x.events (verdict_on plan x.events offset line))) ≡ Nothing) (sym keeps.at_stays) idle.none_due;
  }

  -- nothing is due
  pub idle_due : (old taken : K) (due : Due) (before count : ℕ) → due ≡ is_due plan.settings.commit plan.settings.save before count → before ≡ length (view.at old).events → count ≡ length (view.at taken).events
      → (view.at taken).events ≡ accepted_after (view.at old).events (verdict_on plan (view.at old).events offset line) → IsIdle view plan offset line old → due ≡ Nothing
  idle_due old taken due before count due_is before_is count_is events idle =
      let es = (view.at old).events in
      let last : count ≡ length (accepted_after es (verdict_on plan es offset line)) = count_is ∙ ap length events in
      due_is ∙ ap (λ n. is_due plan.settings.commit plan.settings.save n count) before_is ∙ ap (λ n. is_due plan.settings.commit plan.settings.save (length es) n) last ∙ idle.none_due

-- nothing is due where no event was taken
pub still_due : {K : Type 0} (view : View K) (old taken : K) (commit save : ℕ) (due : Due) (before count : ℕ) → due ≡ is_due commit save before count → before ≡ length (view.at old).events → count ≡ length (view.at taken).events
    → view.at taken ≡ view.at old → due ≡ Nothing
still_due view old taken commit save due before count due_is before_is count_is same =
    let now : count ≡ before = count_is ∙ ap (λ (s : State). length s.events) same ∙ sym before_is in
    due_is ∙ ap (λ n. is_due commit save before n) now ∙ sym (none_due commit save before)
