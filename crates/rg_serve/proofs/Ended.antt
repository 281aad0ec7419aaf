-- The end of a serve.
use Rattle.std.proofs.Common.{◌≡◌, ℕ, ◌<◌, ◌^◌, List, [], ◌∷◌, ◌++◌, length, sym, ◌∙◌, ap, subst}
use Rattle.std.proofs.lemmas.List.{append-nil}
use Rattle.rg_event.specs.declared.event.Event.{Event}
use Rattle.rg_event.specs.Rising.{next_offset}
use Rattle.rg_host.specs.Moments.{LeavesFiles}
use Rattle.rg_config.specs.Plans.{Planned}
use Rattle.rg_pipe.specs.Handing.{Given}
use Rattle.rg_run_spec.specs.Output.{end_lines, open_line}
use Rattle.rg_run_spec.specs.Steps.{MarksHold}
use Rattle.rg_run_spec.proofs.Laws.{end_are_lines}
use Rattle.rg_run.specs.declared.due.Due.TheVariants.{Save}
use Rattle.rg_run.specs.Due.{last_lines}
use Rattle.rg_run.specs.Turning.{IsDueDone}
use Rattle.rg_task.specs.State.{State}
use Rattle.rg_task.specs.View.{View, Keeps}
use Rattle.rg_serve_spec.specs.Frames.{Reply, text_of, framed}
use Rattle.rg_serve_spec.specs.Replies.{events_all, replies_to}
use Rattle.rg_serve_spec.specs.Errands.{Errand, replies_of, course_of}
use Rattle.rg_serve.specs.Serving.{IsWithin, IsAwaiting, HasServed}
use Rattle.rg_serve.proofs.Marked.{end_holds}
use Rattle.rg_serve.proofs.Within.{told_within, told_whole}

module _ {K : Type 0} (view : View K) (plan : Planned) (e : Errand) (offset : ℕ) (offset_is : e.offset ≡ offset) (old : K) (gathered : List ℕ) (a : IsAwaiting view plan e [] old gathered) where
  abbrev pub replies : List Reply
  replies = (open_line e.held e.from ∷ []) ∷ replies_to e.terms e.held a.done

  all : e.given ≡ a.done
  all = a.given ∙ append-nil a.done

  -- the last reply
  abbrev pub end : Reply
  end = end_lines e.offset (events_all e.terms.basis e.held e.given)

  pub whole : replies ++ end ∷ [] ≡ replies_of e
  whole = ap (λ (l : List Given). (open_line e.held e.from ∷ []) ∷ (replies_to e.terms e.held l ++ end ∷ [])) (sym all)

  module _ (t : K) (left then_left : List ℕ) (w : IsWithin view plan e replies t left) (same : (view.at t).events ≡ (view.at old).events) (done : IsDueDone view Save plan t) (small : (view.at t).next < 2 ^ 64)
      (told : then_left ≡ left ++ framed (text_of (last_lines offset (view.at t).next (length (view.at t).events)))) (fits : length (text_of (last_lines offset (view.at t).next (length (view.at t).events))) < 2 ^ 32) where
    events_are : (view.at t).events ≡ events_all e.terms.basis e.held e.given
    events_are = same ∙ a.events ∙ ap (events_all e.terms.basis e.held) (sym all)

    lines_are : last_lines offset (view.at t).next (length (view.at t).events) ≡ end
    lines_are =
        ap (λ n. last_lines n (view.at t).next (length (view.at t).events)) (sym offset_is) ∙ ap (λ n. last_lines e.offset n (length (view.at t).events)) (view.next_is plan t w.running)
        ∙ ap (λ (l : List Event). last_lines e.offset (next_offset l) (length l)) events_are

    marks : MarksHold (view.store plan) (view.at t).stored (view.at t).keep (view.may t) end
    marks =
        subst (λ (l : List Event). MarksHold (view.store plan) (view.at t).stored (view.at t).keep (view.may t) (end_lines e.offset l)) events_are
        (end_holds view plan t w.running e.offset (subst (λ n. n < 2 ^ 64) (view.next_is plan t w.running) small) done)

    pub end_within : IsWithin view plan e (replies_of e) t then_left
    end_within =
        subst (λ (l : List ℕ). IsWithin view plan e (replies_of e) t l) (sym (told ∙ ap (λ (r : Reply). left ++ framed (text_of r)) lines_are))
        (subst (λ (l : List Reply). IsWithin view plan e l t (left ++ framed (text_of end))) whole
        (told_within view plan e replies end t left w marks ([], append-nil (replies ++ end ∷ []) ∙ whole) (subst (λ (r : Reply). length (text_of r) < 2 ^ 32) lines_are fits) (end_are_lines e.offset (events_all e.terms.basis e.held e.given))))

    pub served : (last : K) → Keeps view t last → LeavesFiles view.now view.may view.clock view.since t last → IsWithin view plan e (replies_of e) last [] → HasServed view plan e last
    served last keeps files put =
        let stored : (view.at last).stored ≡ (course_of e).accepted = ap (λ (x : State). x.stored) keeps.at_stays ∙ done.all_stored ∙ events_are in
        record {
          told = told_whole view plan e (replies_of e) last put;
          truthful = put.at_rest.truthful;
          grown = put.at_rest.grown;
          has = λ v left. subst (λ (l : List Event). (view.store plan).HasEvents l v) stored (put.at_rest.has v left);
          saved = λ v left. (done.slot, subst (λ (n : ℕ). (view.store plan).HasSaved done.slot n v) (ap (λ (l : List Event). length l) events_are) (done.has v (files.may_stays.no_more v left)));
        }
