-- A session that is made of a store that was opened.
use Rattle.std.proofs.Common.{◌≡◌, ◌≤◌, ℕ, false, List, [], length, Option, Some, refl, sym, ap, subst, arith}
use Rattle.std.proofs.lemmas.List.{append-nil}
use Rattle.rg_host.specs.Image.{Image}
use Rattle.rg_event.specs.declared.event.Event.{Event}
use Rattle.rg_past.specs.declared.past.Spot.{Spot}
use Rattle.rg_config.specs.Plans.{Planned}
use Rattle.rg_state.specs.Changes.{Marks}
use Rattle.rg_state.specs.Rows.{Cells}
use Rattle.rg_checkpoint.specs.Slots.{Attached, sizes_in}
use Rattle.rg_window.specs.Placed.{AreWithin}
use Rattle.rg_engine.specs.Seen.{Seen}
use Rattle.rg_reservoir.specs.Kept.{base, opened, stored, all_events}
use Rattle.rg_reservoir.specs.declared.reservoir.Reservoir.{Reservoir}
use Rattle.rg_open.specs.Opened.{IsKeptSince}
use Rattle.rg_open.specs.Opening.{IsStarted}
use Rattle.rg_open.specs.Settling.{AreSettled}
use Rattle.rg_recover.specs.Sessions.{IsRunning, count_in}

-- it runs, where its engine was started over a settled store
pub started_running : {T : Type 0} (plan : Planned) (now : Option Image) (may : Image → Type 0) (Tells : T → Type 0) (cell : T → Cells) (named there : T → Marks) (r : Reservoir) (engine : Seen T) (texts : List (List ℕ)) (grace : ℕ) (slots : Attached) (keep : Option ℕ) (saved : ℕ)
    → IsStarted plan now may (Tells engine.table) (cell engine.table) r engine texts keep saved → AreSettled now may → (base r).limit ≡ plan.settings.events → grace ≡ plan.settings.grace
    → ((slot : ℕ) → keep ≡ Some slot → IsKeptSince may slot saved texts (sizes_in slots slot) (named engine.table) (there engine.table) (cell engine.table))
    → IsRunning plan now may Tells cell named there (record { reservoir = r; engine = engine; texts = texts; grace = grace; slots = slots; keep = keep; saved = saved; ended = false })
started_running plan now may Tells cell named there r engine texts grace slots keep saved started settled limit grace_is since = record {
  ready = record { in_step = started.in_step; tells = started.tells; serves = started.serves; plan_is = started.plan_is };
  limit_is = limit;
  grace_is = grace_is;
  going = refl;
  first_settled = settled.first;
  second_settled = settled.second;
  kept = started.kept;
  since = since;
}

-- all its events are stored
pub all_of_none : (now : Option Image) (r : Reservoir) → opened r ≡ [] → all_events now (base r) (opened r) ≡ all_events now (base r) []
all_of_none now r none = ap (λ (l : List Event). all_events now (base r) l) none

pub stored_of_none : (now : Option Image) (r : Reservoir) → stored now (base r) ≡ all_events now (base r) []
stored_of_none now r = sym (append-nil (stored now (base r)))

pub count_of_none : (r : Reservoir) → opened r ≡ [] → count_in r ≡ (base r).committed
count_of_none r none = omega (arith, ap length none)

-- no edge is behind the end of the events
pub within_count : (r : Reservoir) (spots : List Spot) → opened r ≡ [] → AreWithin spots (base r).committed → AreWithin spots (count_in r)
within_count r spots none within = subst (λ (n : ℕ). AreWithin spots n) (sym (count_of_none r none)) within

pub fits_none : (r : Reservoir) (room : ℕ) → opened r ≡ [] → length (opened r) ≤ room
fits_none r room none = omega (arith, ap length none)
