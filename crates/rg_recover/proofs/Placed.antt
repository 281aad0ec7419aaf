-- An engine whose edges stand at spelled spots, from one call to the next.
use Rattle.std.proofs.Common.{◌≡◌, ◌∙◌, ℕ, List, length, Option, sym, ap, subst}
use Rattle.std.proofs.lemmas.List.Elements.{All-weaker}
use Rattle.std.specs.Prelude.{All}
use Rattle.rg_host.specs.Image.{Image}
use Rattle.rg_past.specs.declared.past.Spot.{Spot}
use Rattle.rg_config.specs.Plans.{Planned}
use Rattle.rg_window.specs.Placed.{IsSpelledAt}
use Rattle.rg_engine.specs.Seen.{Seen}
use Rattle.rg_reservoir.specs.Kept.{Base, base, opened, IsSound, Spells}
use Rattle.rg_reservoir.specs.declared.reservoir.Reservoir.{Reservoir}
use Rattle.rg_restore.proofs.Laws.{all_later}
use Rattle.rg_open.specs.Opened.{IsOpenedFor}
use Rattle.rg_open.specs.Blame.{IsPlaced}
use Rattle.rg_recover.specs.Stepping.{LogStays}
use Rattle.rg_recover.proofs.Beside.{sound_beside, spells_beside}

module _ {T : Type 0} (plan : Planned) (now : Option Image) (may : Image → Type 0) (r : Reservoir) (engine : Seen T) (placed : IsPlaced plan now may r engine) (then : Option Image) (after : Image → Type 0) where
  abbrev Spelled : Spot → Type 0
  Spelled = Spells now (base r) (opened r)

  -- after the engine took an event
  pub placed_again : (s : Reservoir) (new : Seen T) → base s ≡ base r → IsSound then after s → length new.spots ≡ length engine.spots
      → ((edge : ℕ) → IsSpelledAt Spelled engine.spots edge → IsSpelledAt (Spells then (base s) (opened s)) new.spots edge) → IsPlaced plan then after s new
  placed_again s new same sound many spelled = record {
    reservoir = record {
      sound = sound;
      going = ap (λ (b : Base). b.ended) same ∙ placed.reservoir.going;
      file = ap (λ (b : Base). b.file) same ∙ placed.reservoir.file;
      shape = ap (λ (b : Base). b.shape) same ∙ placed.reservoir.shape;
    };
    spots = all_later Spelled (Spells then (base s) (opened s)) engine.spots new.spots many spelled placed.spots;
  }

  -- over the log that a chunk was stored in
  pub placed_stored : (s : Reservoir) → IsOpenedFor plan then after s → ((spot : Spot) → Spelled spot → Spells then (base s) (opened s) spot) → IsPlaced plan then after s engine
  placed_stored s log spelled = record { reservoir = log; spots = All-weaker Spelled (Spells then (base s) (opened s)) spelled engine.spots placed.spots }

  -- and where another file than the log was written, by an engine with the same spots
  pub placed_beside : (new : Seen T) → LogStays now then may after → new.spots ≡ engine.spots → IsPlaced plan then after r new
  placed_beside new stays same =
      let log = placed.reservoir in
      record {
        reservoir = record { sound = sound_beside now then may after r log.file stays log.sound; going = log.going; file = log.file; shape = log.shape };
        spots = subst (λ (spots : List Spot). All (Spells then (base r) (opened r)) spots) (sym same) (All-weaker Spelled (Spells then (base r) (opened r)) (spells_beside now then may after r log.file stays) engine.spots placed.spots);
      }
