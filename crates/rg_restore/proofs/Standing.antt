-- From an engine that stands to its nodes, and back.
use Rattle.std.proofs.Common.{◌≡◌, ℕ, ◌<◌, List, [], length, slice_get, get_or, Some, refl, sym, ◌∙◌, arith}
use Rattle.std.proofs.lemmas.List.{append-nil}
use Rattle.std.proofs.lemmas.Option.{slice_get-get_or}
use Rattle.rg_event.specs.declared.event.Event.{Event}
use Rattle.rg_past.specs.declared.past.Spot.{Spot}
use Rattle.rg_plan.specs.Plans.{Tasks}
use Rattle.rg_state.specs.Rows.{Cells}
use Rattle.rg_window.specs.Placed.{IsSpelledAt, numbers_of}
use Rattle.rg_engine.specs.Carrying.{CarriesOn}
use Rattle.rg_engine.specs.Passed.{AreAtPositions}
use Rattle.rg_engine.specs.Standing.{NodeStands}
use Rattle.rg_restore.specs.Opening.{CanStand}
use Rattle.rg_restore.specs.Truthful.{EngineStands}
use Rattle.rg_restore.proofs.Placing.{all_at, node_stands, node_told}

-- a node of an engine that stands can be carried on
pub carries : (is_sound : Type 0) (Spells : Spot → Type 0) (is_told : Type 0) (plan : Tasks) (events all : List Event) (cells : Cells) (spots : List Spot) (n : ℕ) → CanStand is_sound is_told plan all → EngineStands Spells plan events cells spots →
    CarriesOn plan n is_sound Spells is_told events all events cells spots
carries is_sound Spells is_told plan events all cells spots n can stands = record {
  sound = can.sound;
  spelled = node_told Spells plan events spots stands.spots n;
  tells = can.tells;
  fed = can.fed;
  more = [];
  begins = sym (append-nil events);
  stood = node_stands Spells plan events cells spots stands.rows stands.spots n;
}

-- an offset for each edge
offset_at : (offsets : List ℕ) (edge : ℕ) → edge < length offsets → slice_get offsets edge ≡ Some (get_or offsets edge 0)
offset_at offsets edge h = slice_get-get_or offsets edge 0 h

-- an engine stands where each node does and each edge is at its position
pub stands : (Spells : Spot → Type 0) (plan : Tasks) (events : List Event) (cells : Cells) (spots : List Spot) → length spots ≡ length plan.offsets → ((n : ℕ) → NodeStands plan n events cells (numbers_of spots)) → AreAtPositions plan events (numbers_of spots) →
    ((edge offset : ℕ) → slice_get plan.offsets edge ≡ Some offset → IsSpelledAt Spells spots edge) → EngineStands Spells plan events cells spots
stands Spells plan events cells spots many nodes placed spelled = record {
  rows = λ n. (nodes n).rows;
  spots = all_at Spells plan events spots many placed (λ edge h. spelled edge (get_or plan.offsets edge 0) (offset_at plan.offsets edge (omega (arith, h, many))));
}
