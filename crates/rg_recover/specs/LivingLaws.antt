-- Laws of a session that runs.
use Rattle.std.specs.Prelude.{◌≡◌, ◌≤◌, ◌^◌, length, Option}
use Rattle.std.proofs.Common.{◌∙◌, sym, subst, arith}
use Rattle.rg_host.specs.Image.{Image}
use Rattle.rg_event.specs.Rising.{next_offset}
use Rattle.rg_config.specs.Plans.{Planned}
use Rattle.rg_state.specs.Changes.{Marks}
use Rattle.rg_state.specs.Rows.{Cells}
use Rattle.rg_reservoir.specs.GoingLaws.{all_long}
use Rattle.rg_reservoir.specs.Kept.{base, opened, next_of, all_events}
use Rattle.rg_open.specs.Blame.{IsPlaced}
use Rattle.rg_recover.specs.Sessions.{Sitting, IsRunning, events_of}
use Rattle.rg_recover.specs.Living.{SameLog}

-- the next offset and the number of events of a session that runs
pub running_next : {T : Type 0} (plan : Planned) (now : Option Image) (may : Image → Type 0) (Tells : T → Type 0) (cell : T → Cells) (named there : T → Marks) (s : Sitting T) → IsRunning plan now may Tells cell named there s → next_of s.reservoir ≡ next_offset (events_of now s)
running_next plan now may Tells cell named there s r =
    let log = r.ready.in_step.reservoir in
    subst (λ (o : Option Image). next_of s.reservoir ≡ next_offset (all_events o (base s.reservoir) (opened s.reservoir))) (sym log.sound.1) (log.sound.2.right log.going).next_is

pub running_few : {T : Type 0} (plan : Planned) (now : Option Image) (may : Image → Type 0) (Tells : T → Type 0) (cell : T → Cells) (named there : T → Marks) (s : Sitting T) → IsRunning plan now may Tells cell named there s → length (events_of now s) ≤ 2 ^ 40
running_few plan now may Tells cell named there s r =
    let log = r.ready.in_step.reservoir in
    omega (arith, all_long now (base s.reservoir) (opened s.reservoir), (log.sound.2.right log.going).few)

-- each edge of a session that runs stands at a spelled spot
pub running_placed : {T : Type 0} (plan : Planned) (now : Option Image) (may : Image → Type 0) (Tells : T → Type 0) (cell : T → Cells) (named there : T → Marks) (s : Sitting T) → IsRunning plan now may Tells cell named there s → IsPlaced plan now may s.reservoir s.engine
running_placed plan now may Tells cell named there s r = record { reservoir = r.ready.in_step.reservoir; spots = r.ready.in_step.stands.spots.spelled }

pub log-then : {T : Type 0} (p q r : Sitting T) → SameLog p q → SameLog q r → SameLog p r
log-then p q r first second = (second.0 ∙ first.0, second.1 ∙ first.1)
