-- How a past over a disk goes on.
use Rattle.std.specs.Prelude.{◌≡◌, ℕ, List, ◌++◌, Option, Some}
use Rattle.std.specs.Borrow.{MutBor}
use Rattle.rg_host.specs.Image.{Image}
use Rattle.rg_host.specs.Moments.{Moment, LeavesAll}
use Rattle.rg_event.specs.declared.event.Event.{Event}
use Rattle.rg_reservoir.specs.Kept.{base, view_of, opened, room_of, cache_of, IsCached, IsSound}
use Rattle.rg_reservoir.specs.declared.reservoir.Reservoir.{Reservoir}

-- over the same reservoir and host: what was committed and the rooms stay, nothing is written or put, events are added at the end, what is in the cache stands in the log as before, and what was sound is sound
pub record Goes {H : Type 0} (now : H → Option Image) (may : H → Image → Type 0) (clock : H → ℕ) (since : H → ℕ → Moment → Type 0) (said : H → Option (List ℕ)) (out_faults : H → ℕ) (pr : MutBor Reservoir) (ph : MutBor H) (qr : MutBor Reservoir) (qh : MutBor H) : Type 0 where
  pub same_reservoir : qr.ghost_name ≡ pr.ghost_name
  pub same_host : qh.ghost_name ≡ ph.ghost_name
  pub cached : (v : Image) → now ph.now ≡ Some v → IsCached (view_of (base pr.now)) (v (base pr.now).file) (cache_of pr.now) → IsCached (view_of (base pr.now)) (v (base pr.now).file) (cache_of qr.now)
  pub base : base qr.now ≡ base pr.now
  pub room : room_of qr.now ≡ room_of pr.now
  pub cap : (cache_of qr.now).cap ≡ (cache_of pr.now).cap
  pub leaves : LeavesAll now may clock since said ph.now qh.now
  pub outs_stay : out_faults qh.now ≡ out_faults ph.now
  pub added : (events : List Event) × (opened qr.now ≡ opened pr.now ++ events)
  pub sound : IsSound (now ph.now) (may ph.now) pr.now → IsSound (now qh.now) (may qh.now) qr.now
