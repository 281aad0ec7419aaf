-- The turn at which nothing is due: the line is taken, and its lines are put.
use Rattle.std.proofs.Common.{◌≡◌, ℕ, ◌+◌, List, [], ◌∷◌, ◌++◌, Option, Some, refl, sym, ◌∙◌, ap, subst}
use Rattle.std.proofs.lemmas.List.{append-nil}
use Rattle.rg_event.specs.declared.event.Event.{Event}
use Rattle.rg_event.specs.Rising.{next_offset}
use Rattle.rg_host.specs.Image.{Image}
use Rattle.rg_host.specs.Lines.{ended}
use Rattle.rg_host.specs.Moments.{Moment, Moments, LeavesFiles, LeavesAll}
use Rattle.rg_host.specs.Puts.{IsPartWay, Puts}
use Rattle.rg_host.proofs.Laws.{moments_then}
use Rattle.rg_run_spec.specs.Accepted.{verdict_from}
use Rattle.rg_run_spec.specs.Output.{Terms}
use Rattle.rg_run_spec.specs.Ahead.{after_line, lines_for, out_from}
use Rattle.rg_run_spec.specs.Laws.{IsPrefixOf}
use Rattle.rg_run_spec.specs.Stores.{Store, Course, StaysOnCourse}
use Rattle.rg_run_spec.specs.Steps.{IsAtRest, MarksHold}
use Rattle.rg_run_spec.specs.Turns.{IsBetween}
use Rattle.rg_run_spec.proofs.Steps.{Item}
use Rattle.rg_run_spec.proofs.Folds.{grown}
use Rattle.rg_run_spec.proofs.Prefixes.{prefix_then}
use Rattle.rg_run_spec.proofs.Texts.{turn_are_lines}
use Rattle.rg_run_spec.proofs.Keeping.{rest_fewer}
use Rattle.rg_run_spec.proofs.Courses.{on_course_put}
use Rattle.rg_run_spec.proofs.Betweens.{ahead_next, between_next, events_begin, near_next}
use Rattle.rg_run_spec.proofs.Turns.{Turned, on_course_step}
use Rattle.rg_run_spec.proofs.Hosts.{Quiet, quiet, Put, put}

module _ (H : Type 0) (now : H → Option Image) (may : H → Image → Type 0) (clock : H → ℕ) (since : H → ℕ → Moment → Type 0) (said : H → Option (List ℕ)) (store : Store Image) (terms : Terms) (course : Course)
    (events : List Event) (offset : ℕ) (item : Item) (items : List Item) (stored : List Event) (keep : Option ℕ) (old taken new : H) (s : List ℕ)
    (b : IsBetween store terms course events offset (item ∷ items) stored keep (may old) s)
    (told : said old ≡ Some s)
    -- the line is taken, and nothing is written
    (take : LeavesAll now may clock since said old taken)
    (marks : MarksHold store stored keep (may taken) (lines_for terms events offset item))
    -- the lines are put
    (files : LeavesFiles now may clock since taken new)
    (puts : Puts said clock since taken new (ended (lines_for terms events offset item))) where
  abbrev lines : List (List ℕ)
  lines = lines_for terms events offset item

  abbrev next : List Event
  next = after_line terms.basis events offset item

  taking : Quiet H now may clock since said store keep [] old taken s
  taking = quiet H now may clock since said store keep [] old taken s told take

  putting : Put H now may clock since said taken new s (ended lines)
  putting = put H now may clock since said taken new s (ended lines) taking.told files puts

  of_next : IsPrefixOf stored next
  of_next = let g = grown terms events offset (item ∷ []) in prefix_then stored events next b.of_events (g.added, sym g.is)

  of_accepted : IsPrefixOf next course.accepted
  of_accepted = events_begin course terms next (offset + 1) items b.accepted

  at_taken : IsAtRest store course b.lines stored keep (may taken)
  at_taken = rest_fewer Image store course b.lines stored keep (may old) (may taken) b.at_rest take.may_stays.no_more

  none_more : stored ++ [] ≡ stored
  none_more = append-nil stored

  ahead : b.lines ++ (lines ++ out_from terms next (offset + 1) items) ≡ course.text
  ahead = ap (λ (l : List (List ℕ)). b.lines ++ l) (sym (ahead_next terms events offset item items)) ∙ b.text

  taking_holds : Moments clock since old taken (StaysOnCourse store course [])
  taking_holds =
      let of_next_more : IsPrefixOf (stored ++ []) next = subst (λ (l : List Event). IsPrefixOf l next) (sym none_more) of_next in
      on_course_step H clock since may store terms course b.lines (out_from terms events offset (item ∷ items)) stored [] keep s old taken b.at_rest (prefix_then (stored ++ []) next course.accepted of_next_more of_accepted)
      (near_next Image store course terms events offset item items stored keep (may old) s b (stored ++ []) of_next_more) b.are_lines b.text b.said_is taking.moments

  put_holds : (m : Moment) → may taken m.image × IsPartWay s (ended lines) m.said → StaysOnCourse store course [] m
  put_holds m p =
      on_course_put Image store course b.lines lines (out_from terms next (offset + 1) items) stored keep (may taken) [] m.image m.said at_taken b.are_lines
      (turn_are_lines terms events offset (verdict_from terms.basis (next_offset events) events offset item)) ahead marks p.0 (subst (λ (l : List ℕ). IsPartWay l (ended lines) m.said) b.said_is p.1)

  pub quiet_turned : Turned H clock since may store terms course events offset item items stored keep old new s (s ++ ended lines)
  quiet_turned = record {
    moments = moments_then clock since old taken new (StaysOnCourse store course []) (λ m. may taken m.image × IsPartWay s (ended lines) m.said) (StaysOnCourse store course []) taking_holds putting.moments (λ m h. h) put_holds;
    between = between_next Image store course terms events offset item items stored stored keep keep (may old) (may taken) (may new) s (s ++ ended lines) b at_taken of_next marks putting.fewer refl;
  }

  pub quiet_told : said new ≡ Some (s ++ ended lines)
  quiet_told = putting.told
