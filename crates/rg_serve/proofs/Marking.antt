-- A commit or a save is answered.
use Rattle.std.proofs.Common.{◌≡◌, ℕ, ◌<◌, ◌^◌, List, [], ◌∷◌, ◌++◌, length, sym, ◌∙◌, ap, subst}
use Rattle.rg_event.specs.declared.event.Event.{Event}
use Rattle.rg_event.specs.Rising.{next_offset}
use Rattle.rg_config.specs.Plans.{Planned}
use Rattle.rg_pipe.specs.Handing.{Given}
use Rattle.rg_pipe.specs.Handing.Given.{commits, saves}
use Rattle.rg_reply.specs.Texts.{mark_line}
use Rattle.rg_reply.specs.declared.mark.Mark.TheVariants.{Stored, Saved}
use Rattle.rg_run_spec.specs.Output.{stored_line, saved_line}
use Rattle.rg_run_spec.specs.Steps.{MarksHold}
use Rattle.rg_run.specs.declared.due.Due.TheVariants.{Commit, Save}
use Rattle.rg_run.specs.Due.{marks_for}
use Rattle.rg_run.specs.Turning.{IsDueDone}
use Rattle.rg_task.specs.View.{View}
use Rattle.rg_serve_spec.specs.Frames.{text_of, framed}
use Rattle.rg_serve_spec.specs.Errands.{Errand, course_of}
use Rattle.rg_serve.specs.Serving.{IsWithin, IsAwaiting}
use Rattle.rg_serve.proofs.Marked.{commit_holds, save_holds}
use Rattle.rg_serve.proofs.Replied.{replies, answered}

module _ {K : Type 0} (view : View K) (plan : Planned) (e : Errand) (ahead : List Given) (old : K) (gathered : List ℕ) (t : K) (left then_left : List ℕ) where
  pub commit_answered : (a : IsAwaiting view plan e (commits ∷ ahead) old gathered) → IsWithin view plan e (replies view plan e commits ahead old gathered a) t left → (view.at t).events ≡ (view.at old).events → IsDueDone view Commit plan t → (view.at t).next < 2 ^ 64
      → then_left ≡ left ++ framed (text_of (marks_for Commit (view.at t).next (length (view.at t).events))) → length (text_of (marks_for Commit (view.at t).next (length (view.at t).events))) < 2 ^ 32 → IsAwaiting view plan e ahead t then_left
  commit_answered a w same done small told fits =
      let next : (view.at t).next ≡ next_offset (view.at t).events = view.next_is plan t w.running in
      answered view plan e commits ahead old gathered a t left then_left (mark_line (Stored (view.at t).next) ∷ []) w same (ap (λ n. mark_line (Stored n) ∷ []) (next ∙ ap next_offset same))
      (subst (λ n. MarksHold (view.store plan) (view.at t).stored (view.at t).keep (view.may t) (mark_line (Stored n) ∷ [])) (sym next) (commit_holds view plan t w.running (subst (λ n. n < 2 ^ 64) next small) done)) told fits

  pub save_answered : (a : IsAwaiting view plan e (saves ∷ ahead) old gathered) → IsWithin view plan e (replies view plan e saves ahead old gathered a) t left → (view.at t).events ≡ (view.at old).events → IsDueDone view Save plan t → (view.at t).next < 2 ^ 64
      → then_left ≡ left ++ framed (text_of (marks_for Save (view.at t).next (length (view.at t).events))) → length (text_of (marks_for Save (view.at t).next (length (view.at t).events))) < 2 ^ 32 → IsAwaiting view plan e ahead t then_left
  save_answered a w same done small told fits =
      let next : (view.at t).next ≡ next_offset (view.at t).events = view.next_is plan t w.running in
      answered view plan e saves ahead old gathered a t left then_left (mark_line (Stored (view.at t).next) ∷ (mark_line (Saved (length (view.at t).events)) ∷ [])) w same
      (ap (λ n. mark_line (Stored n) ∷ (mark_line (Saved (length (view.at t).events)) ∷ [])) next ∙ ap (λ (l : List Event). stored_line l ∷ (saved_line l ∷ [])) same)
      (subst (λ n. MarksHold (view.store plan) (view.at t).stored (view.at t).keep (view.may t) (mark_line (Stored n) ∷ (mark_line (Saved (length (view.at t).events)) ∷ []))) (sym next)
      (save_holds view plan t w.running (course_of e) (subst (λ n. n < 2 ^ 64) next small) done)) told fits
