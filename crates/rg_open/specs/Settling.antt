-- What calls leave that neither write nor put, and when nothing is pending.
use Rattle.std.specs.Prelude.{◌≡◌, ℕ, List, Option}
use Rattle.std.specs.Option.{ForSome}
use Rattle.rg_host.specs.Image.{Image, NothingPending}
use Rattle.rg_host.specs.Moments.{Moment, Moments}

-- From old to new reads give the same and nothing was put; what a crash may leave, at each moment and then, it could leave at old.
pub record LeavesFewer {H : Type 0} (now : H → Option Image) (may : H → Image → Type 0) (clock : H → ℕ) (since : H → ℕ → Moment → Type 0) (said : H → Option (List ℕ)) (old new : H) : Type 0 where
  pub now_stays : now new ≡ now old
  pub fewer : (v : Image) → may new v → may old v
  pub said_stays : said new ≡ said old
  pub moments : Moments clock since old new (λ m. may old m.image × ForSome (said old) (λ s. m.said ≡ s))

-- nothing of the log, file 2, or of a slot is pending
pub record AreSettled (now : Option Image) (may : Image → Type 0) : Type 0 where
  pub log : NothingPending 2 now may
  pub first : NothingPending 0 now may
  pub second : NothingPending 1 now may
