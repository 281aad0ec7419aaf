-- What is told of lines that were put, of the next frame or of a whole log, and why they weren't all.
use Rattle.std.specs.Prelude.{◌≡◌, ◌⊎◌, ℕ, Bool, false, List, [], Option, Some, None, IsTrue, ⊤}
use Rattle.std.specs.Option.{ForSome}
use Rattle.rg_event.specs.declared.value.Value.{Value}
use Rattle.rg_host.specs.Image.{Image}
use Rattle.rg_host.specs.Lines.{ended}
use Rattle.rg_host.specs.Puts.{IsPrefix, StopsWith}
use Rattle.rg_frame.specs.Looks.{IsClosed}
use Rattle.rg_reservoir.specs.Walked.{place_of, IsNext, IsRefusedWalk}
use Rattle.rg_reservoir.specs.declared.walk.Stage.{Stage}
use Rattle.rg_reservoir.specs.declared.walk.Walk.{Walk}
use Rattle.rg_dump.specs.Behind.{behind_after}
use Rattle.rg_dump.specs.Dump.{stage_rows, damage_of}
use Rattle.rg_dump.specs.Surveyed.{HasPassed}
use Rattle.rg_dump.specs.declared.fault.DumpFault.{DumpFault}
use Rattle.rg_dump.specs.declared.fault.DumpFault.TheVariants.{Disk, Damaged, Write}

-- a prefix of these bytes was put, and where `cut` doesn't hold nothing was
pub record IsCutIn (bytes : List ℕ) (Put : List ℕ → Type 0) (cut : Type 0) : Type 0 where
  pub part : List ℕ
  pub prefix : IsPrefix part bytes
  pub puts : Put part
  pub none : (part ≡ []) ⊎ cut

-- the rows of a frame were put, behind whose values these come, and those are what comes behind the frames behind it
pub record HasPutStage (stage : Stage) (behind left : List Value) (Put : List ℕ → Type 0) : Type 0 where
  pub rows : Put (ended (stage_rows behind stage))
  pub left_is : left ≡ behind_after stage behind

-- a walk over the log of file 2 went from the one to the other
module _ (now : Option Image) (old new : Walk) (behind : List Value) (Put : List ℕ → Type 0) where
  -- the rows of the next frame were put, or there was none and nothing was
  pub record HasDumped (left : List Value) (more : Bool) : Type 0 where
    pub next : IsTrue more → (stage : Stage) × ForSome now (λ v. IsNext (v 2) old stage new) × HasPutStage stage behind left Put
    pub goes_on : IsTrue more → HasPassed old new
    pub last : more ≡ false → ForSome now (λ v. IsClosed (place_of old) (v 2)) × Put []

  -- a put failed, and a prefix of the frame's rows was put; or nothing was, and a damaged place is the next frame's
  pub record IsNotDumped (disk_rose out_rose : Type 0) (fault : DumpFault) : Type 0 where
    pub cut : fault ≡ Write → (stage : Stage) × ForSome now (λ v. IsNext (v 2) old stage new) × IsCutIn (ended (stage_rows behind stage)) Put ⊤
    pub quiet : (fault ≡ Write) ⊎ Put []
    pub damaged : (p : ℕ) → fault ≡ Damaged p → (p ≡ place_of old) × ForSome now (λ v. IsRefusedWalk (v 2) old)
    pub write : fault ≡ Write → out_rose
    pub disk : fault ≡ Disk → disk_rose

-- whole lines of a text were put, or, where a put failed, a prefix of it
abbrev pub HasStopped : List (List ℕ) → (List ℕ → Type 0) → Type 0 → Type 0
HasStopped text Put failed = (put : List ℕ) × Put put × (StopsWith text [] put ⊎ (failed × IsPrefix put (ended text)))

-- the lines that `text` says of the log of file 2
module _ (now : Option Image) (text : List ℕ → List (List ℕ)) (Put : List ℕ → Type 0) where
  -- all were put, and the log has no damaged place
  pub record HasAll : Type 0 where
    pub lines : ForSome now (λ v. Put (ended (text (v 2))))
    pub undamaged : ForSome now (λ v. damage_of (v 2) ≡ None)

  -- they weren't, or the log is damaged behind them
  pub record IsNotAll (disk_rose out_rose : Type 0) (fault : DumpFault) : Type 0 where
    pub stops : ForSome now (λ v. HasStopped (text (v 2)) Put (fault ≡ Write))
    pub damaged : (p : ℕ) → fault ≡ Damaged p → ForSome now (λ v. (damage_of (v 2) ≡ Some p) × Put (ended (text (v 2))))
    pub write : fault ≡ Write → out_rose
    pub disk : fault ≡ Disk → disk_rose
