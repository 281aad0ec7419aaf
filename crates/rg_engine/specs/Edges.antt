-- The edges of one node's window: from where they start, and what they visit.
use Rattle.std.specs.Prelude.{◌≡◌, ℕ, ◌+◌, ◌<◌, ◌≤◌, ◌^◌, true, List, ◌++◌, ◌∷◌, length, Some, slice_get, slice_index_or, All}
use Rattle.std.specs.Option.{ForSome}
use Rattle.rg_event.specs.Tagged.{value_kind}
use Rattle.rg_event.specs.declared.event.Event.{Event}
use Rattle.rg_event.specs.declared.value.Kind.{Kind}
use Rattle.rg_event.specs.declared.value.Value.{Value}
use Rattle.rg_event.specs.Rising.{last_time, IsRising}
use Rattle.rg_plan.specs.Named.{Node}
use Rattle.rg_plan.specs.Offsets.{AreRising}
use Rattle.rg_window.specs.Chain.{visited_at, passed_at}
use Rattle.rg_engine.specs.Windows.{position}
use Rattle.rg_engine.specs.Standing.{has_edge}
use Rattle.rg_engine.specs.Deeds.{handed}

-- what the event hands an aggregator of this column is of that kind
abbrev pub HandsOf : Kind → ℕ → Event → Type 0
HandsOf kind field x = (value : Value) → handed field x ≡ Some value → value_kind value ≡ kind

-- Of one node: the edges of its window are there, and each stands where it had come to when the last one of the events in front came. More events
-- follow in order, few enough, and all of them hand the node values of one kind.
pub record Starts (node : Node) (front more : List Event) (offsets numbers : List ℕ) : Type 0 where
  pub rising : AreRising offsets
  pub enters : (edge : ℕ) × (slice_get offsets edge ≡ Some node.window.delay)
  pub leaves : (lasts : ℕ) → node.window.length ≡ Some lasts → (edge : ℕ) × (slice_get offsets edge ≡ Some (node.window.delay + lasts))
  pub lasting : ForSome node.window.length (λ lasts. 0 < lasts)
  pub places : (edge offset : ℕ) → slice_get offsets edge ≡ Some offset → has_edge node.window offset ≡ true → slice_index_or numbers edge 0 ≡ position front (last_time front) offset
  pub ordered : IsRising (front ++ more)
  pub few : length (front ++ more) ≤ 2 ^ 40
  pub alike : (kind : Kind) × All (HandsOf kind node.agg.field) (front ++ more)

-- each edge of the node's window that is before `end` visited what it passes
abbrev pub VisitsBefore : Node → List Event → ℕ → List ℕ → List ℕ → List (List Event) → ℕ → Type 0
VisitsBefore node events t offsets numbers passes end =
    (edge offset : ℕ) → edge < end → slice_get offsets edge ≡ Some offset → has_edge node.window offset ≡ true → visited_at passes edge ≡ passed_at events t offsets numbers edge

-- where the edge `end` is one of the node's window, these events and then that one are the front of what it passes
abbrev pub VisitsInto : Node → List Event → ℕ → List ℕ → List ℕ → ℕ → List Event → Event → Type 0
VisitsInto node events t offsets numbers end some last =
    (offset : ℕ) → slice_get offsets end ≡ Some offset → has_edge node.window offset ≡ true → (rest : List Event) × (passed_at events t offsets numbers end ≡ some ++ last ∷ rest)
