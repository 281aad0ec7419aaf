-- What held at each moment of a call.
use Rattle.std.specs.Prelude.{◌≡◌, ◌⊎◌, ◌≤◌, ℕ, List, Option}
use Rattle.std.specs.Option.{ForSome}
use Rattle.rg_host.specs.Image.{Image, SameOutcomes}

-- One moment on the outside: an image that a crash might then have left, and all bytes put until then.
pub record Moment : Type 0 where
  pub image : Image
  pub said : List ℕ

-- Each moment from old to new has P; and the moments since an earlier one are those up to old and these.
pub record Moments {H : Type 0} (clock : H → ℕ) (since : H → ℕ → Moment → Type 0) (old new : H) (P : Moment → Type 0) : Type 0 where
  pub later : clock old ≤ clock new
  pub each : (m : Moment) → since new (clock old) m → P m
  pub nothing_else : (t : ℕ) (m : Moment) → t ≤ clock old → since new t m → since old t m ⊎ since new (clock old) m
  pub keeps : (t : ℕ) (m : Moment) → t ≤ clock old → since old t m → since new t m
  pub adds : (t : ℕ) (m : Moment) → t ≤ clock old → since new (clock old) m → since new t m

-- From old to new the files stay: reads give the same, a crash may leave the same, and at each moment it might have left what it could leave at old.
pub record LeavesFiles {H : Type 0} (now : H → Option Image) (may : H → Image → Type 0) (clock : H → ℕ) (since : H → ℕ → Moment → Type 0) (old new : H) : Type 0 where
  pub now_stays : now new ≡ now old
  pub may_stays : SameOutcomes (may old) (may new)
  pub moments : Moments clock since old new (λ m. may old m.image)

-- From old to new the files and the output stay, and so at each moment.
pub record LeavesAll {H : Type 0} (now : H → Option Image) (may : H → Image → Type 0) (clock : H → ℕ) (since : H → ℕ → Moment → Type 0) (said : H → Option (List ℕ)) (old new : H) : Type 0 where
  pub now_stays : now new ≡ now old
  pub may_stays : SameOutcomes (may old) (may new)
  pub said_stays : said new ≡ said old
  pub moments : Moments clock since old new (λ m. may old m.image × ForSome (said old) (λ s. m.said ≡ s))
