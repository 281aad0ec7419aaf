-- The replies and the events of requests, one after another.
use Rattle.std.proofs.Common.{◌≡◌, inr, ℕ, ◌+◌, List, [], ◌∷◌, ◌++◌, length, take, Some, refl, sym, ◌∙◌, ap, arith, append_assoc, length-append}
use Rattle.std.proofs.lemmas.List.{append-nil}
use Rattle.std.proofs.Math.Seq.{take-append_seam}
use Rattle.std.specs.Prelude.{codes, decimal}
use Rattle.rg_event.specs.declared.event.Event.{Event}
use Rattle.rg_host.specs.Lines.{HasNoLf}
use Rattle.rg_pipe.specs.Handing.{Given}
use Rattle.rg_pipe.specs.Handing.Given.{row, again, gap, commits, saves}
use Rattle.rg_event.specs.Rising.{next_offset}
use Rattle.rg_reply.specs.declared.mark.Mark.TheVariants.{Stored, Saved}
use Rattle.rg_run_spec.specs.Laws.{IsPrefixOf}
use Rattle.rg_run_spec.specs.Output.{Terms, open_line, end_lines}
use Rattle.rg_run_spec.specs.Pieces.{AreLines}
use Rattle.rg_run_spec.specs.Stores.{IsNear}
use Rattle.rg_run_spec.specs.Verdicts.{Basis, Verdict, accepted_after, line_verdict}
use Rattle.rg_run_spec.specs.Verdicts.Verdict.{refused, obeyed, accepted, moved}
use Rattle.rg_run_spec.proofs.Laws.{mark_no_lf, turn_are_lines}
use Rattle.rg_serve_spec.specs.Frames.{Reply, lines_in}
use Rattle.rg_serve_spec.specs.Replies.{events_with, reply_to, events_all, replies_to}
use Rattle.rg_serve_spec.specs.Errands.{Errand, replies_of, course_of}

pub events-append : (basis : Basis) (events : List Event) (a b : List Given) → events_all basis events (a ++ b) ≡ events_all basis (events_all basis events a) b
events-append basis events [] b = refl
events-append basis events (given ∷ a) b = events-append basis (events_with basis events given) a b

pub replies-append : (terms : Terms) (events : List Event) (a b : List Given) → replies_to terms events (a ++ b) ≡ replies_to terms events a ++ replies_to terms (events_all terms.basis events a) b
replies-append terms events [] b = refl
replies-append terms events (given ∷ a) b = ap (λ (l : List Reply). reply_to terms events given ∷ l) (replies-append terms (events_with terms.basis events given) a b)

with_verdict : (events : List Event) (v : Verdict) → IsPrefixOf events (accepted_after events v)
with_verdict events (refused reply) = ([], append-nil events)
with_verdict events (obeyed control) = ([], append-nil events)
with_verdict events (accepted x) = (x ∷ [], refl)
with_verdict events (moved x) = (x ∷ [], refl)

with_one : (basis : Basis) (events : List Event) (given : Given) → IsPrefixOf events (events_with basis events given)
with_one basis events (row offset text) = with_verdict events (line_verdict basis events offset (Some text))
with_one basis events (again offset) = ([], append-nil events)
with_one basis events (gap offset expected) = ([], append-nil events)
with_one basis events commits = ([], append-nil events)
with_one basis events saves = ([], append-nil events)

-- the events before some requests begin those behind them
pub with_all : (basis : Basis) (events : List Event) (given : List Given) → IsPrefixOf events (events_all basis events given)
with_all basis events [] = ([], append-nil events)
with_all basis events (one ∷ given) =
    let first = with_one basis events one in
    let more = with_all basis (events_with basis events one) given in
    (first.0 ++ more.0, sym (append_assoc events first.0 more.0) ∙ ap (λ (l : List Event). l ++ more.0) first.1 ∙ more.1)

no_lf_back : (a b : List ℕ) → HasNoLf (a ++ b) → HasNoLf b
no_lf_back [] b none = none
no_lf_back (x ∷ a) b none = no_lf_back a b none.1

no_lf_join : (a b : List ℕ) → HasNoLf a → HasNoLf b → HasNoLf (a ++ b)
no_lf_join [] b none more = more
no_lf_join (x ∷ a) b none more = (none.0, no_lf_join a b none.1 more)

decimal_no_lf : (n : ℕ) → HasNoLf (decimal n)
decimal_no_lf n = no_lf_back (codes "stored ") (decimal n) (mark_no_lf (Stored n))

-- no line of a reply holds an LF
pub reply_lines : (terms : Terms) (events : List Event) (given : Given) → AreLines (reply_to terms events given)
reply_lines terms events (row offset text) = turn_are_lines terms events offset (Some (line_verdict terms.basis events offset (Some text)))
reply_lines terms events (again offset) = (no_lf_join (decimal offset) (codes " again") (decimal_no_lf offset) (refl, (refl, (refl, (refl, (refl, (refl, tt)))))), tt)
reply_lines terms events (gap offset expected) = (no_lf_join (decimal offset) (codes " gap " ++ decimal expected) (decimal_no_lf offset) (refl, (refl, (refl, (refl, (refl, decimal_no_lf expected))))), tt)
reply_lines terms events commits = (mark_no_lf (Stored (next_offset events)), tt)
reply_lines terms events saves = (mark_no_lf (Stored (next_offset events)), (mark_no_lf (Saved (length events)), tt))

module _ (e : Errand) (done ahead : List Given) (given : Given) (all : e.given ≡ done ++ given ∷ ahead) where
  abbrev pub before : List Event
  before = events_all e.terms.basis e.held done

  abbrev pub replies : List Reply
  replies = (open_line e.held e.from ∷ []) ∷ replies_to e.terms e.held done

  abbrev pub reply : Reply
  reply = reply_to e.terms before given

  pub one_more : e.given ≡ (done ++ given ∷ []) ++ ahead
  one_more = all ∙ sym (append_assoc done (given ∷ []) ahead)

  -- the events with the request
  pub behind_is : events_all e.terms.basis e.held (done ++ given ∷ []) ≡ events_with e.terms.basis before given
  behind_is = events-append e.terms.basis e.held done (given ∷ [])

  -- the replies with its own
  pub replied_is : (open_line e.held e.from ∷ []) ∷ replies_to e.terms e.held (done ++ given ∷ []) ≡ replies ++ reply ∷ []
  replied_is = ap (λ (l : List Reply). (open_line e.held e.from ∷ []) ∷ l) (replies-append e.terms e.held done (given ∷ []))

  pub begins : IsPrefixOf (events_with e.terms.basis before given) (course_of e).accepted
  begins =
      let more = with_all e.terms.basis (events_with e.terms.basis before given) ahead in
      (more.0, more.1 ∙ sym (ap (events_all e.terms.basis e.held) all ∙ events-append e.terms.basis e.held done (given ∷ ahead)))

  -- the events with it came with at most one request more than was answered
  pub near_next : IsNear (course_of e) (lines_in replies) (events_with e.terms.basis before given)
  near_next =
      let n = length done in
      let first : take n e.given ≡ done = ap (take n) all ∙ take-append_seam done (given ∷ ahead) in
      let m : n + 1 ≡ length (done ++ given ∷ []) = sym (length-append done (given ∷ [])) in
      let next : take (n + 1) e.given ≡ done ++ given ∷ [] = ap (λ k. take k e.given) m ∙ ap (take (length (done ++ given ∷ []))) one_more ∙ take-append_seam (done ++ given ∷ []) ahead in
      inr (
        n,
        n + 1,
        omega arith,
        omega (arith, ap (λ (l : List Given). length l) all, length-append done (given ∷ ahead)),
        ([], append-nil _ ∙ ap (λ (l : List Given). lines_in ((open_line e.held e.from ∷ []) ∷ replies_to e.terms e.held l)) first),
        ([], append-nil (events_with e.terms.basis before given) ∙ sym (ap (events_all e.terms.basis e.held) next ∙ behind_is)),
      )

  pub of_replies : IsPrefixOf (replies ++ reply ∷ []) (replies_of e)
  of_replies =
      let end = end_lines e.offset (events_all e.terms.basis e.held e.given) ∷ [] in
      let behind = replies_to e.terms (events_with e.terms.basis before given) ahead in
      let parts : replies_to e.terms e.held e.given ≡ replies_to e.terms e.held done ++ reply ∷ behind = ap (replies_to e.terms e.held) all ∙ replies-append e.terms e.held done (given ∷ ahead) in (
        behind ++ end,
        ap (λ (l : List Reply). (open_line e.held e.from ∷ []) ∷ l)
            (append_assoc (replies_to e.terms e.held done) (reply ∷ []) (behind ++ end) ∙ sym (append_assoc (replies_to e.terms e.held done) (reply ∷ behind) end) ∙ ap (λ (l : List Reply). l ++ end) (sym parts)),
      )
