-- A request that is answered.
use Rattle.std.proofs.Common.{◌≡◌, ℕ, ◌<◌, ◌^◌, List, [], ◌∷◌, ◌++◌, length, sym, ◌∙◌, ap, subst}
use Rattle.rg_event.specs.declared.event.Event.{Event}
use Rattle.rg_config.specs.Plans.{Planned}
use Rattle.rg_pipe.specs.Handing.{Given}
use Rattle.rg_run_spec.specs.Laws.{IsPrefixOf}
use Rattle.rg_run_spec.specs.Output.{Terms, open_line}
use Rattle.rg_run_spec.specs.Stores.{IsNear}
use Rattle.rg_run_spec.specs.Steps.{MarksHold}
use Rattle.rg_task.specs.Terms.{terms_of}
use Rattle.rg_task.specs.View.{View}
use Rattle.rg_serve_spec.specs.Frames.{Reply, text_of, framed, lines_in}
use Rattle.rg_serve_spec.specs.Replies.{events_with, reply_to, replies_to}
use Rattle.rg_serve_spec.specs.Errands.{Errand, course_of}
use Rattle.rg_serve.specs.Serving.{IsWithin, IsAwaiting}
use Rattle.rg_serve.proofs.Within.{told_within}
use Rattle.rg_serve.proofs.Listing as listing

module _ {K : Type 0} (view : View K) (plan : Planned) (e : Errand) (given : Given) (ahead : List Given) (old : K) (gathered : List ℕ) (a : IsAwaiting view plan e (given ∷ ahead) old gathered) where
  abbrev pub replies : List Reply
  replies = listing.replies e a.done ahead given a.given

  abbrev pub reply : Reply
  reply = reply_to (terms_of plan) (view.at old).events given

  abbrev pub behind : List Event
  behind = events_with (terms_of plan).basis (view.at old).events given

  reply_is : reply ≡ listing.reply e a.done ahead given a.given
  reply_is = ap (λ (t : Terms). reply_to t (view.at old).events given) (sym a.terms) ∙ ap (λ (l : List Event). reply_to e.terms l given) a.events

  behind_is : behind ≡ events_with e.terms.basis (listing.before e a.done ahead given a.given) given
  behind_is = ap (λ (t : Terms). events_with t.basis (view.at old).events given) (sym a.terms) ∙ ap (λ (l : List Event). events_with e.terms.basis l given) a.events

  -- the events with the request begin those accepted, and are near those that were answered
  pub behind_begins : IsPrefixOf behind (course_of e).accepted
  behind_begins = subst (λ (l : List Event). IsPrefixOf l (course_of e).accepted) (sym behind_is) (listing.begins e a.done ahead given a.given)

  pub behind_near : IsNear (course_of e) (lines_in replies) behind
  behind_near = subst (λ (l : List Event). IsNear (course_of e) (lines_in replies) l) (sym behind_is) (listing.near_next e a.done ahead given a.given)

  pub answered : (t : K) (left then_left : List ℕ) (lines : Reply) → IsWithin view plan e replies t left → (view.at t).events ≡ behind → lines ≡ reply
      → MarksHold (view.store plan) (view.at t).stored (view.at t).keep (view.may t) lines → then_left ≡ left ++ framed (text_of lines) → length (text_of lines) < 2 ^ 32 → IsAwaiting view plan e ahead t then_left
  answered t left then_left lines w events lines_are marks told small =
      let same : lines ≡ listing.reply e a.done ahead given a.given = lines_are ∙ reply_is in
      record {
        terms = a.terms;
        done = a.done ++ given ∷ [];
        given = listing.one_more e a.done ahead given a.given;
        events = events ∙ behind_is ∙ sym (listing.behind_is e a.done ahead given a.given);
        within = subst (λ (l : List ℕ). IsWithin view plan e ((open_line e.held e.from ∷ []) ∷ replies_to e.terms e.held (a.done ++ given ∷ [])) t l) (sym (told ∙ ap (λ (r : Reply). left ++ framed (text_of r)) same))
            (subst (λ (l : List Reply). IsWithin view plan e l t (left ++ framed (text_of (listing.reply e a.done ahead given a.given)))) (sym (listing.replied_is e a.done ahead given a.given))
            (told_within view plan e replies (listing.reply e a.done ahead given a.given) t left w
            (subst (λ (r : Reply). MarksHold (view.store plan) (view.at t).stored (view.at t).keep (view.may t) r) same marks) (listing.of_replies e a.done ahead given a.given)
            (subst (λ (r : Reply). length (text_of r) < 2 ^ 32) same small) (listing.reply_lines e.terms (listing.before e a.done ahead given a.given) given)));
      }

  -- what came before the request is done, and no event changed
  abbrev pub awaits_still : (t : K) (left : List ℕ) → IsWithin view plan e replies t left → (view.at t).events ≡ (view.at old).events → IsAwaiting view plan e (given ∷ ahead) t left
  awaits_still t left w same = record { terms = a.terms; done = a.done; given = a.given; events = same ∙ a.events; within = w }
