-- A serve begins.
use Rattle.std.proofs.Common.{◌≡◌, inl, ℕ, ◌<◌, ◌^◌, List, [], ◌∷◌, ◌++◌, length, Some, refl, sym, ◌∙◌, ap, subst}
use Rattle.std.proofs.lemmas.List.{append-nil}
use Rattle.rg_event.specs.declared.event.Event.{Event}
use Rattle.rg_event.specs.Rising.{next_offset}
use Rattle.rg_config.specs.Plans.{Planned}
use Rattle.rg_host.specs.Image.{Image}
use Rattle.rg_reply.specs.Texts.{mark_line}
use Rattle.rg_reply.specs.declared.mark.Mark.TheVariants.{Opened}
use Rattle.rg_run_spec.specs.Laws.{IsPrefixOf}
use Rattle.rg_run_spec.specs.Output.{open_line, end_lines}
use Rattle.rg_run_spec.proofs.Laws.{rest_more, open_marks, mark_no_lf}
use Rattle.rg_task.specs.View.{View}
use Rattle.rg_serve_spec.specs.Frames.{Reply, text_of, framed}
use Rattle.rg_serve_spec.specs.Replies.{events_all, replies_to}
use Rattle.rg_serve_spec.specs.Errands.{Errand, course_of}
use Rattle.rg_serve.specs.Serving.{IsToOpen, IsAwaiting}
use Rattle.rg_serve.proofs.Listing.{with_all}

pub opened : {K : Type 0} (view : View K) (plan : Planned) (e : Errand) (from : ℕ) (t : K) (gathered : List ℕ) → IsToOpen view plan e from t → gathered ≡ framed (text_of (mark_line (Opened (view.at t).next (length (view.at t).events) from) ∷ []))
    → length (text_of (mark_line (Opened (view.at t).next (length (view.at t).events) from) ∷ [])) < 2 ^ 32 → IsAwaiting view plan e e.given t gathered
opened view plan e from t gathered o told fits =
    let one : Reply = open_line e.held e.from ∷ [] in
    let line_is : mark_line (Opened (view.at t).next (length (view.at t).events) from) ≡ open_line e.held e.from =
    ap (λ n. mark_line (Opened n (length (view.at t).events) from)) (view.next_is plan t o.running) ∙ ap (λ (l : List Event). mark_line (Opened (next_offset l) (length l) from)) o.events ∙ ap (λ n. mark_line (Opened (next_offset e.held) (length e.held) n)) o.from_is in
    record {
      terms = o.terms;
      done = [];
      given = refl;
      events = o.events;
      within = record {
        running = o.running;
        first = [];
        rest = one ∷ [];
        split = record {
          whole = refl;
          gathered_is = told ∙ ap (λ (l : List ℕ). framed (text_of (l ∷ []))) line_is ∙ sym (append-nil (framed (text_of one)));
          of_replies = (replies_to e.terms e.held e.given ++ end_lines e.offset (events_all e.terms.basis e.held e.given) ∷ [], refl);
          small = (subst (λ (l : List ℕ). length (text_of (l ∷ [])) < 2 ^ 32) line_is fits, tt);
          lines = (mark_no_lf (Opened (next_offset e.held) (length e.held) e.from), tt);
        };
        told = o.told ∙ ap (λ (l : List ℕ). Some l) (sym (append-nil e.said));
        at_rest = rest_more Image (view.store plan) (course_of e) [] one (view.at t).stored (view.at t).keep (view.may t) o.at_rest (open_marks Image (view.store plan) e.held e.from (view.at t).stored (view.at t).keep (view.may t));
        near = inl o.stored;
        begins = subst (λ (l : List Event). IsPrefixOf l (course_of e).accepted) (sym o.events) (with_all e.terms.basis e.held e.given);
        near_events = inl o.events;
      };
    }
