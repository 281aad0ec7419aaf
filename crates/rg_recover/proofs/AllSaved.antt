-- What a commit and a save of all events leave of a session.
use Rattle.std.proofs.Common.{◌≡◌, ℕ, List, [], ◌++◌, Option, Some, sym, ◌∙◌, ap, subst}
use Rattle.std.proofs.lemmas.List.{append-nil}
use Rattle.rg_host.specs.Image.{Image}
use Rattle.rg_event.specs.declared.event.Event.{Event}
use Rattle.rg_config.specs.Plans.{Planned}
use Rattle.rg_state.specs.Changes.{Marks}
use Rattle.rg_state.specs.Rows.{Cells}
use Rattle.rg_reservoir.specs.Kept.{opened}
use Rattle.rg_open.specs.Stores.{store_of, HasSaved}
use Rattle.rg_recover.specs.Sessions.{Sitting, IsRunning, count_in, events_of, stored_of}
use Rattle.rg_recover.proofs.Sound.{long}
use Rattle.rg_task.specs.Stepping.{IsAllSaved}
use Rattle.rg_recover.specs.Living.{state_of}

-- with an empty chunk all events are stored
pub all_stored : {T : Type 0} (now : Option Image) (s : Sitting T) → opened s.reservoir ≡ [] → stored_of now s ≡ events_of now s
all_stored now s empty = sym (append-nil (stored_of now s)) ∙ ap (λ (l : List Event). stored_of now s ++ l) (sym empty)

pub all_saved : {T : Type 0} (plan : Planned) (now : Option Image) (may : Image → Type 0) (Tells : T → Type 0) (cell : T → Cells) (named there : T → Marks) (s : Sitting T)
    → IsRunning plan now may Tells cell named there s → (s.saved ≡ count_in s.reservoir) × (opened s.reservoir ≡ []) → (slot : ℕ) × (s.keep ≡ Some slot) → IsAllSaved (store_of plan) may (state_of now s)
all_saved plan now may Tells cell named there s running saved kept = record {
  all_stored = all_stored now s saved.1;
  slot = kept.0;
  kept = kept.1;
  has = λ v left. subst (λ (n : ℕ). HasSaved plan kept.0 n v) (saved.0 ∙ sym (long now s.reservoir)) ((running.kept kept.0 kept.1).has v left);
}
