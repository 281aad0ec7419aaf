-- Checkpoints of the events that an engine stands for, of more events, and of none.
use Rattle.std.proofs.Common.{◌≡◌, ℕ, ◌≤◌, List, [], ◌∷◌, ◌++◌, length, map, take, replicate, Option, Some, None, refl, ap, sym, subst, ◌∙◌, arith, length-append, All}
use Rattle.std.proofs.lemmas.List.{take-append-le, take_all, length-map}
use Rattle.std.proofs.lemmas.List.Elements.{All-weaker, All-replicate}
use Rattle.rg_event.specs.declared.event.Event.{Event}
use Rattle.rg_past.specs.declared.past.Spot.{Spot}
use Rattle.rg_plan.specs.Named.{Node, node_at}
use Rattle.rg_plan.specs.Plans.{Tasks}
use Rattle.rg_state.specs.Rows.{Cells, Entry, Lists}
use Rattle.rg_window.specs.Placed.{AreWithin, numbers_of}
use Rattle.rg_engine.specs.Standing.{RowIs}
use Rattle.rg_checkpoint.specs.declared.base.Checkpoint.{Checkpoint}
use Rattle.rg_restore.specs.Opening.{IsUsable}
use Rattle.rg_restore.specs.Truthful.{SpotsAt, EngineStands, AreRowsFor, IsTruthful, position_in}
use Rattle.rg_restore.proofs.Listing.{none_listed}

take_whole : (events : List Event) (count : ℕ) → count ≡ length events → take count events ≡ events
take_whole events count is = take_all count events (omega (arith, is))

pub saved : (Spells : Spot → Type 0) (plan : Tasks) (events : List Event) (cells : Cells) (checkpoint : Checkpoint) → EngineStands Spells plan events cells checkpoint.spots → Lists cells checkpoint.rows → checkpoint.count ≡ length events →
    IsTruthful Spells plan events checkpoint
saved Spells plan events cells checkpoint stands lists is = record {
  within = omega (arith, is);
  spots = subst (λ xs. SpotsAt Spells plan.offsets xs checkpoint.spots) (sym (take_whole events checkpoint.count is)) stands.spots;
  rows = subst (λ xs. AreRowsFor checkpoint.rows plan xs) (sym (take_whole events checkpoint.count is)) (record { cells = cells; lists = lists; stand = stands.rows });
}

pub later : (Spells Later : Spot → Type 0) (plan : Tasks) (events more : List Event) (checkpoint : Checkpoint) → ((spot : Spot) → Spells spot → Later spot) → IsTruthful Spells plan events checkpoint → IsTruthful Later plan (events ++ more) checkpoint
later Spells Later plan events more checkpoint goes is =
    let same : take checkpoint.count (events ++ more) ≡ take checkpoint.count events = take-append-le checkpoint.count events more is.within in
    record {
      within = omega (arith, is.within, length-append events more);
      spots = subst (λ xs. SpotsAt Later plan.offsets xs checkpoint.spots) (sym same) (record {
        numbers = is.spots.numbers;
        spelled = All-weaker Spells Later goes checkpoint.spots is.spots.spelled;
      });
      rows = subst (λ xs. AreRowsFor checkpoint.rows plan xs) (sym same) is.rows;
    }

-- of a later state of the past, whose events begin with these
pub later_past : (Spells Later : Spot → Type 0) (plan : Tasks) (events all : List Event) (checkpoint : Checkpoint) → ((spot : Spot) → Spells spot → Later spot) → (more : List Event) × (all ≡ events ++ more) → IsTruthful Spells plan events checkpoint → IsTruthful Later plan all checkpoint
later_past Spells Later plan events all checkpoint goes more is = subst (λ xs. IsTruthful Later plan xs checkpoint) (sym more.1) (later Spells Later plan events more.0 checkpoint goes is)

-- of another state of the past, with the same events
pub same_past : (Spells Later : Spot → Type 0) (plan : Tasks) (events all : List Event) (checkpoint : Checkpoint) → ((spot : Spot) → Spells spot → Later spot) → all ≡ events → IsTruthful Spells plan events checkpoint → IsTruthful Later plan all checkpoint
same_past Spells Later plan events all checkpoint goes same is = subst (λ xs. IsTruthful Later plan xs checkpoint) (sym same) (record {
  within = is.within;
  spots = record { numbers = is.spots.numbers; spelled = All-weaker Spells Later goes checkpoint.spots is.spots.spelled };
  rows = is.rows;
})

-- Of no events

no_row : (o : Option Node) (key : List ℕ) → RowIs o key 0 [] None
no_row None key = refl
no_row (Some node) key = refl

abbrev no_cells : Cells
no_cells node key = None

none_stand : (plan : Tasks) → AreRowsFor [] plan []
none_stand plan = record { cells = no_cells; lists = none_listed no_cells (λ node key. refl); stand = λ n key. no_row (node_at plan n) key }

zeros : (offsets : List ℕ) (spot : Spot) → spot.number ≡ 0 → numbers_of (replicate (length offsets) spot) ≡ map (λ _. 0) offsets
zeros [] spot is = refl
zeros (o ∷ offsets) spot is = ap (λ n. n ∷ numbers_of (replicate (length offsets) spot)) is ∙ ap (λ ns. 0 ∷ ns) (zeros offsets spot is)

at_none : (offsets : List ℕ) → map (λ _. 0) offsets ≡ map (position_in []) offsets
at_none [] = refl
at_none (o ∷ offsets) = ap (λ ns. 0 ∷ ns) (at_none offsets)

module _ (plan : Tasks) (checkpoint : Checkpoint) (spot : Spot) (spots : checkpoint.spots ≡ replicate (length plan.offsets) spot) (zero_is : spot.number ≡ 0) where
  pub start_zeros : numbers_of checkpoint.spots ≡ map (λ _. 0) plan.offsets
  start_zeros = ap numbers_of spots ∙ zeros plan.offsets spot zero_is

  pub start_usable : (count : ℕ) → IsUsable plan count checkpoint
  start_usable count = record {
    same = sym (length-map checkpoint.spots (λ (s : Spot). s.number)) ∙ ap length start_zeros ∙ length-map plan.offsets (λ _. 0);
    within = subst (λ xs. AreWithin xs count) (sym spots) (All-replicate (λ (s : Spot). s.number ≤ count) (length plan.offsets) spot (omega (arith, zero_is)));
  }

  -- the checkpoint of no events is true of all
  pub start_true : (Spells : Spot → Type 0) (events : List Event) → checkpoint.count ≡ 0 → checkpoint.rows ≡ [] → Spells spot → IsTruthful Spells plan events checkpoint
  start_true Spells events count rows spelled =
      let none : [] ≡ take checkpoint.count events = ap (λ n. take n events) (sym count) in
      record {
        within = omega (arith, count);
        spots = subst (λ xs. SpotsAt Spells plan.offsets xs checkpoint.spots) none (record {
          numbers = start_zeros ∙ at_none plan.offsets;
          spelled = subst (λ xs. All Spells xs) (sym spots) (All-replicate Spells (length plan.offsets) spot spelled);
        });
        rows = subst (λ xs. AreRowsFor checkpoint.rows plan xs) none (subst (λ rows. AreRowsFor rows plan []) (sym rows) (none_stand plan));
      }
