-- Edges at their positions, seen as a list of numbers.
use Rattle.std.proofs.Common.{◌≡◌, ℕ, zero, suc, ◌<◌, List, [], ◌∷◌, length, map, get_or, slice_get, Some, refl, ap, sym, subst, ◌∙◌, arith}
use Rattle.std.specs.Prelude.{All}
use Rattle.std.proofs.lemmas.List.{length-map}
use Rattle.std.proofs.lemmas.Option.{slice_get-get_or, get_or_from_slice_get}
use Rattle.rg_event.specs.declared.event.Event.{Event}
use Rattle.rg_past.specs.declared.past.Spot.{Spot}
use Rattle.rg_event.specs.Rising.{last_time}
use Rattle.rg_plan.specs.Named.{node_at}
use Rattle.rg_plan.specs.Plans.{Tasks}
use Rattle.rg_state.specs.Rows.{Cells, Entry, Lists}
use Rattle.rg_window.specs.Placed.{IsSpelledAt, numbers_of}
use Rattle.rg_engine.specs.Passed.{AreAtPositions}
use Rattle.rg_engine.specs.Standing.{RowIs, NodeStands, IsTold}
use Rattle.rg_engine.proofs.Laws.{all_told}
use Rattle.rg_restore.specs.Truthful.{StandsFor, SpotsAt, position_in}
use Rattle.rg_restore.proofs.Listing.{one_table}

at_place : (f : ℕ → ℕ) (offsets : List ℕ) (edge offset : ℕ) → slice_get offsets edge ≡ Some offset → get_or (map f offsets) edge 0 ≡ f offset
at_place f [] edge offset is = cc
at_place f (o ∷ offsets) zero offset is = let e : o ≡ offset = cc in ap f e
at_place f (o ∷ offsets) (suc edge) offset is = at_place f offsets edge offset is

-- each number is that of its offset, so the list is theirs
in_places : (f : ℕ → ℕ) (offsets numbers : List ℕ) → length numbers ≡ length offsets → ((edge offset : ℕ) → slice_get offsets edge ≡ Some offset → get_or numbers edge 0 ≡ f offset) → numbers ≡ map f offsets
in_places f [] [] same at = refl
in_places f [] (n ∷ numbers) same at = absurd (omega arith)
in_places f (o ∷ offsets) [] same at = absurd (omega arith)
in_places f (o ∷ offsets) (n ∷ numbers) same at =
    ap (λ m. m ∷ numbers) (at 0 o refl) ∙ ap (λ ns. f o ∷ ns) (in_places f offsets numbers (omega arith) (λ edge offset is. at (suc edge) offset is))

abbrev no_spot : Spot
no_spot = record { place = 0; index = 0; number = 0 }

module _ (Spells : Spot → Type 0) (plan : Tasks) (events : List Event) (spots : List Spot) where
  pub are_at : SpotsAt Spells plan.offsets events spots → AreAtPositions plan events (numbers_of spots)
  are_at at edge offset is = ap (λ ns. get_or ns edge 0) at.numbers ∙ at_place (position_in events) plan.offsets edge offset is

  pub as_many : SpotsAt Spells plan.offsets events spots → length spots ≡ length plan.offsets
  as_many at = sym (length-map spots (λ (spot : Spot). spot.number)) ∙ ap length at.numbers ∙ length-map plan.offsets (position_in events)

  pub spelled_in : SpotsAt Spells plan.offsets events spots → (edge : ℕ) → edge < length plan.offsets → IsSpelledAt Spells spots edge
  spelled_in at edge h =
      let below : edge < length spots = omega (arith, h, as_many at) in
      (get_or spots edge no_spot, slice_get-get_or spots edge no_spot below, at.spelled edge no_spot below)

  spelled_by : (edge : ℕ) (d : Spot) → IsSpelledAt Spells spots edge → Spells (get_or spots edge d)
  spelled_by edge d at = subst Spells (sym (get_or_from_slice_get spots edge at.0 d at.1)) at.2

  pub all_at : length spots ≡ length plan.offsets → AreAtPositions plan events (numbers_of spots) → ((edge : ℕ) → edge < length spots → IsSpelledAt Spells spots edge) → SpotsAt Spells plan.offsets events spots
  all_at same at spelled = record {
    numbers = in_places (position_in events) plan.offsets (numbers_of spots) (length-map spots (λ (spot : Spot). spot.number) ∙ same) at;
    spelled = λ edge d h. spelled_by edge d (spelled edge h);
  }

-- all of as many spots are spelled, where each that was spelled is so still
pub all_later : (Spells Later : Spot → Type 0) (old new : List Spot) → length new ≡ length old → ((edge : ℕ) → IsSpelledAt Spells old edge → IsSpelledAt Later new edge) → All Spells old → All Later new
all_later Spells Later old new same later all = λ edge d below.
    let within : edge < length old = omega (arith, below, same) in
    let at = later edge (get_or old edge d, slice_get-get_or old edge d within, all edge d within) in
    subst Later (sym (get_or_from_slice_get new edge at.0 d at.1)) at.2

-- each node of an engine that stands
pub node_stands : (Spells : Spot → Type 0) (plan : Tasks) (events : List Event) (cells : Cells) (spots : List Spot) → StandsFor plan events cells → SpotsAt Spells plan.offsets events spots → (n : ℕ) → NodeStands plan n events cells (numbers_of spots)
node_stands Spells plan events cells spots rows at n = record {
  rows = rows n;
  places = λ edge offset is has. are_at Spells plan events spots at edge offset is;
}

pub node_told : (Spells : Spot → Type 0) (plan : Tasks) (events : List Event) (spots : List Spot) → SpotsAt Spells plan.offsets events spots → (n : ℕ) → IsTold plan n Spells spots
node_told Spells plan events spots at n = all_told plan n Spells spots (as_many Spells plan events spots at) at.spelled

-- rows that stand, in another table of the same ones
pub rows_same : (plan : Tasks) (events : List Event) (cells cells' : Cells) (entries : List Entry) → Lists cells entries → Lists cells' entries → StandsFor plan events cells → StandsFor plan events cells'
rows_same plan events cells cells' entries first second rows n key =
    subst (λ row. RowIs (node_at plan n) key (last_time events) events row) (sym (one_table cells cells' entries first second n key)) (rows n key)

pub node_same : (plan : Tasks) (n : ℕ) (events : List Event) (cells cells' : Cells) (numbers : List ℕ) (entries : List Entry) → Lists cells entries → Lists cells' entries → NodeStands plan n events cells numbers → NodeStands plan n events cells' numbers
node_same plan n events cells cells' numbers entries first second stands = record {
  rows = λ key. subst (λ row. RowIs (node_at plan n) key (last_time events) events row) (sym (one_table cells cells' entries first second n key)) (stands.rows key);
  places = stands.places;
}
