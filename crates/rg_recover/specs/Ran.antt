-- How a run over a store went.
use Rattle.std.specs.Prelude.{◌≡◌, ◌⊎◌, ℕ, List, [], Option, OnOk, IfErr, Result}
use Rattle.rg_host.specs.Image.{Image}
use Rattle.rg_host.specs.Moments.{Moment, Moments}
use Rattle.rg_config.specs.Plans.{Planned}
use Rattle.rg_run_spec.specs.Stores.{IsKeptInStore, StaysOnCourseSince}
use Rattle.rg_open.specs.Stores.{store_of}
use Rattle.rg_open.specs.Opening.{IsFromIn}
use Rattle.rg_run.specs.Begun.{Begun, course_for}
use Rattle.rg_run.specs.Turning.{HasStoppedIn}
use Rattle.rg_run.specs.UnderWay.{HasAnswered, HasFinishedIn}
use Rattle.rg_run.specs.declared.fault.RunFault.{RunFault}
use Rattle.rg_run.specs.declared.fault.RunFault.TheVariants.{Read, Limit, Write}

module _ {H : Type 0} (may : H → Image → Type 0) (said : H → Option (List ℕ)) where
  -- Nothing was put, and whatever image is left might have been left before, or is kept as by a run that has put nothing yet.
  pub record IsUnopened (plan : Planned) (b : Begun) (old new : H) : Type 0 where
    pub said_stays : said new ≡ said old
    pub left : (u : Image) → may new u → may old u ⊎ IsKeptInStore (store_of plan) (course_for plan b) [] u

  -- A run that ended with this fault: unless a put failed, whole lines were put and each image is kept, or the store was not opened.
  abbrev pub IsLeft : Planned → Begun → RunFault → H → H → Type 0
  IsLeft plan b fault old new = (fault ≡ Write) ⊎ (HasStoppedIn (store_of plan) (course_for plan b) (may new) (said new) ⊎ IsUnopened plan b old new)

module _ {H : Type 0} (may : H → Image → Type 0) (clock : H → ℕ) (since : H → ℕ → Moment → Type 0) (said : H → Option (List ℕ)) where
  -- How a run went that began so over an image v, and of whose input this is left: at each moment the image and what was put are on its course; at its
  -- end all was put; at any fault the store is left as it should be; and at a read that failed all whole lines were answered.
  pub record Ran {A : Type 0} (plan : Planned) (b : Begun) (v : Image) (left : Option (List ℕ)) (result : Result A RunFault) (old new : H) : Type 0 where
    pub is_from : IsFromIn plan v b.from ⊎ (said new ≡ said old)
    pub moments : Moments clock since old new (StaysOnCourseSince (store_of plan) (course_for plan b) (may old) [])
    pub finished : OnOk result (HasFinishedIn (store_of plan) (course_for plan b) (may new) (said new))
    pub stopped : IfErr result (λ fault. IsLeft may said plan b fault old new)
    pub answered : IfErr result (λ fault. (fault ≡ Read) ⊎ (fault ≡ Limit) → HasAnswered plan b left (said new) (fault ≡ Limit))
