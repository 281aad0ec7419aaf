-- What a stopped run and the next one cover.
use Rattle.std.proofs.Common.{inl, inr, ℕ, ◌^◌, ◌<◌, List, ◌∷◌, ap, arith, subst}
use Rattle.std.specs.List.{Contains}
use Rattle.std.proofs.lemmas.List.Elements.{Contains-append_left}
use Rattle.rg_event.specs.declared.event.Event.{Event}
use Rattle.rg_event.specs.Rising.{next_offset, IsRising}
use Rattle.rg_run_spec.specs.Output.{open_line, put_before, Terms}
use Rattle.rg_run_spec.specs.Laws.{IsPrefixOf, MayLeave}
use Rattle.rg_run_spec.specs.Acknowledged.{HoldsBelow, IsAcknowledged}
use Rattle.rg_run_spec.specs.Stores.{Store, Course, course_of, IsNear, IsKeptInStore}
use Rattle.rg_run_spec.specs.Turns.{Covers}
use Rattle.rg_run_spec.proofs.Acknowledging.{holds_below, acknowledged}
use Rattle.rg_run_spec.proofs.Steps.{Item}
use Rattle.rg_run_spec.proofs.Covering.{one_ahead}
use Rattle.rg_run_spec.proofs.Prefixes.{prefix_then}

-- What an image lacks whose events came with at most one line more than were answered.
module _ (terms : Terms) (said : List ℕ) (held : List Event) (from first : ℕ) (lines : List Item) (put : List (List ℕ)) (left : List Event) where
  near_by : IsPrefixOf held left → next_offset held < next_offset left → IsNear (course_of terms said held from first lines) put left → Covers terms held from first lines left put
  near_by keeps more (inl same) = absurd (omega (arith, more, ap next_offset same))
  near_by keeps more (inr (count, reach, within, turns, answers, begins)) =
      let one = one_ahead terms held first lines left reach turns keeps begins more in
      let before = one.before count within in
      record {
        line = one.line;
        next = one.next;
        before = prefix_then (open_line held from ∷ put_before terms held first lines one.line) (open_line held from ∷ put_before terms held first lines count) put (before.0, ap (λ (l : List (List ℕ)). open_line held from ∷ l) before.1) answers;
        whole = one.whole;
      }

pub near_covers : (terms : Terms) (said : List ℕ) (held : List Event) (from first : ℕ) (lines : List Item) (put : List (List ℕ)) (left : List Event) →
    IsPrefixOf held left → next_offset held < next_offset left → IsNear (course_of terms said held from first lines) put left → Covers terms held from first lines left put
near_covers terms said held from first lines put left keeps more near = near_by terms said held from first lines put left keeps more near

module _ (Image : Type 0) (store : Store Image) (terms : Terms) (said : List ℕ) (held : List Event) (from first : ℕ) (lines : List Item) (put : List (List ℕ)) (v : Image) (kept : IsKeptInStore store (course_of terms said held from first lines) put v) where
  -- the image's events are what a run may leave
  pub kept_leaves : MayLeave terms.basis held first lines kept.events
  kept_leaves = record { keeps = kept.keeps; begins = kept.begins }

  pub kept_covers : next_offset held < next_offset kept.events → Covers terms held from first lines kept.events put
  kept_covers more = near_covers terms said held from first lines put kept.events kept.keeps more kept.near

-- what the store held at the start is held
start_held : (held accepted events : List Event) → IsRising accepted → IsPrefixOf held events → IsPrefixOf events accepted → HoldsBelow (next_offset held) accepted events
start_held held accepted events rising keeps begins e has low =
    let among : Contains held e = holds_below held accepted (next_offset held) rising (prefix_then held events accepted keeps begins) (omega arith) e has low in
    subst (λ (l : List Event). Contains l e) keeps.1 (Contains-append_left held keeps.0 e among)

-- every accepted event below the number in the last `stored` line, or below what the store began with where no line has one, is in the image
pub kept_acknowledged : (Image : Type 0) (store : Store Image) (course : Course) (put : List (List ℕ)) (v : Image) (n : ℕ) → IsRising course.accepted → n < 2 ^ 64 → (kept : IsKeptInStore store course put v) → IsAcknowledged (next_offset course.held) put n → HoldsBelow n course.accepted kept.events
kept_acknowledged Image store course put v n rising small kept last =
    acknowledged (next_offset course.held) put course.accepted kept.events n small kept.stored (start_held course.held course.accepted kept.events rising kept.keeps kept.begins) last
