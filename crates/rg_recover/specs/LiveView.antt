-- A session and its host as a task.
use Rattle.std.specs.Prelude.{◌<◌, ℕ, List, length, Option, refl}
use Rattle.rg_host.specs.Image.{Image}
use Rattle.rg_host.specs.Moments.{Moment}
use Rattle.rg_state.specs.Changes.{Marks}
use Rattle.rg_state.specs.Rows.{Cells}
use Rattle.rg_reservoir.specs.Kept.{opened, room_of}
use Rattle.rg_open.specs.Blame.{NodeRuns, IsPlaced}
use Rattle.rg_open.specs.Stores.{store_of}
use Rattle.rg_recover.specs.Sessions.{Sitting, IsRunning}
use Rattle.rg_task.specs.View.{View}
use Rattle.rg_recover.specs.Living.{state_of, IsIllegalIn, SameLog}
use Rattle.rg_recover.specs.Taking.{AsksIllegalChunk}
use Rattle.rg_recover.specs.LivingLaws.{running_next, running_few, running_placed, log-then}

-- How a contract sees what has a host and a session: by what it sees of these two. `names` says that the later one is of the same two.
abbrev pub live_view : {P H T : Type 0} (host : P → H) (session : P → Sitting T) (names : P → P → Type 0) → ((p : P) → names p p) → ((p q r : P) → names p q → names q r → names p r)
    → (now : H → Option Image) (may : H → Image → Type 0) (clock : H → ℕ) (since : H → ℕ → Moment → Type 0) (said : H → Option (List ℕ))
    → (T → Type 0) → (T → Cells) → (T → Marks) → (T → Marks) → View P
live_view host session names same join now may clock since said tells cell named there = record {
  store = store_of;
  now = λ p. now (host p);
  may = λ p. may (host p);
  clock = λ p. clock (host p);
  since = λ p. since (host p);
  said = λ p. said (host p);
  at = λ p. state_of (now (host p)) (session p);
  roomy = λ p. length (opened (session p).reservoir) < room_of (session p).reservoir;
  runs = λ plan p. IsRunning plan (now (host p)) (may (host p)) tells cell named there (session p);
  node = λ plan n p. NodeRuns plan n (now (host p)) (may (host p)) (tells (session p).engine.table) (cell (session p).engine.table) (session p).reservoir (session p).engine;
  placed = λ plan p. IsPlaced plan (now (host p)) (may (host p)) (session p).reservoir (session p).engine;
  illegal = λ place p. IsIllegalIn (now (host p)) (session p) place;
  asks_illegal = λ p. AsksIllegalChunk (now (host p)) (session p).reservoir (session p).engine.spots;
  goes = λ p q. names p q × SameLog (session p) (session q);
  whole = λ p. refl;
  next_is = λ plan p runs. running_next plan (now (host p)) (may (host p)) tells cell named there (session p) runs;
  few = λ plan p runs. running_few plan (now (host p)) (may (host p)) tells cell named there (session p) runs;
  runs_going = λ plan p runs. runs.going;
  run_placed = λ plan p runs. running_placed plan (now (host p)) (may (host p)) tells cell named there (session p) runs;
  goes_same = λ p. (same p, (refl, refl));
  goes_join = λ p q r first second. (join p q r first.0 second.0, log-then (session p) (session q) (session r) first.1 second.1);
}
