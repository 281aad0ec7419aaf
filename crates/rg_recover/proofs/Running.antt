-- A session that runs, from one call to the next.
use Rattle.std.proofs.Common.{◌≡◌, ℕ, ◌≤◌, false, List, [], ◌∷◌, length, Option, Some, refl, sym, ◌∙◌, subst, arith}
use Rattle.rg_host.specs.Image.{Image}
use Rattle.rg_event.specs.declared.event.Event.{Event}
use Rattle.rg_config.specs.Plans.{Planned}
use Rattle.rg_state.specs.Changes.{Marks, IsSince}
use Rattle.rg_state.specs.Rows.{Cells}
use Rattle.rg_reservoir.specs.Kept.{base, opened}
use Rattle.rg_reservoir.specs.declared.reservoir.Reservoir.{Reservoir}
use Rattle.rg_run_spec.specs.Steps.{IsStepped}
use Rattle.rg_open.specs.Stores.{store_of}
use Rattle.rg_open.specs.Opened.{IsKeptInSlot}
use Rattle.rg_recover.specs.Sessions.{Sitting, HasKept, IsReady, IsRunning, count_in}
use Rattle.rg_recover.specs.Stepping.{SlotsStay}
use Rattle.rg_recover.proofs.Keeping.{keeps_still, running_keeps}

-- the slot that is kept, after a step on the log
pub kept_still : (plan : Planned) (may after : Image → Type 0) (keep : Option ℕ) (chunk : List Event) (slot saved committed then : ℕ) → keep ≡ Some slot → committed ≤ then → ((u : Image) → after u → IsStepped (store_of plan) keep chunk may u)
    → IsKeptInSlot plan may slot saved committed → IsKeptInSlot plan after slot saved then
kept_still plan may after keep chunk slot saved committed then is more stepped kept = record {
  below = kept.below;
  stored = omega (arith, kept.stored, more);
  has = λ u left. let step = stepped u left in step.slots slot saved is (kept.has step.from step.left);
}

-- it runs still after a step on the log that leaves its engine ready
pub runs_still : {T : Type 0} (plan : Planned) (now then : Option Image) (may after : Image → Type 0) (Tells : T → Type 0) (cell : T → Cells) (named there : T → Marks) (s new : Sitting T) (chunk : List Event) → IsRunning plan now may Tells cell named there s
    → IsReady plan then after (Tells new.engine.table) (cell new.engine.table) new.reservoir new.engine new.texts → (base new.reservoir).limit ≡ (base s.reservoir).limit → new.grace ≡ s.grace → new.ended ≡ false → SlotsStay now then may after
    → ((old : Cells) → IsSince old (named s.engine.table) (there s.engine.table) (cell s.engine.table) → IsSince old (named new.engine.table) (there new.engine.table) (cell new.engine.table))
    → new.keep ≡ s.keep → new.saved ≡ s.saved → new.texts ≡ s.texts → new.slots ≡ s.slots → (base s.reservoir).committed ≤ (base new.reservoir).committed → ((u : Image) → after u → IsStepped (store_of plan) s.keep chunk may u)
    → IsRunning plan then after Tells cell named there new
runs_still plan now then may after Tells cell named there s new chunk runs ready limit grace going stays goes keep saved texts slots more stepped = record {
  ready = ready;
  limit_is = limit ∙ runs.limit_is;
  grace_is = grace ∙ runs.grace_is;
  going = going;
  first_settled = keeps.first_settled;
  second_settled = keeps.second_settled;
  kept = λ slot is.
      let was : s.keep ≡ Some slot = sym keep ∙ is in
      subst (λ (n : ℕ). IsKeptInSlot plan after slot n (base new.reservoir).committed) (sym saved) (kept_still plan may after s.keep chunk slot s.saved (base s.reservoir).committed (base new.reservoir).committed was more stepped (runs.kept slot was));
  since = keeps.since;
}
  where
    keeps : HasKept then after cell named there new
    keeps = keeps_still now then may after cell named there s new (running_keeps plan now may Tells cell named there s runs) stays goes keep saved texts slots more

-- no event is open where no more were saved than are stored, and those are all
pub none_open : (r : Reservoir) (saved : ℕ) → saved ≤ (base r).committed → saved ≡ count_in r → opened r ≡ []
none_open r saved stored all = by (opened r) (omega (arith, stored, all))
  where
    by : (l : List Event) → length l ≡ 0 → l ≡ []
    by [] is = refl
    by (x ∷ l) is = absurd (omega (arith, is))
