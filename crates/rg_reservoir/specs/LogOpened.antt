-- What a log is opened as, what is written of it, and what stops that.
use Rattle.std.specs.Prelude.{◌≡◌, ◌⊎◌, ◌≤◌, ◌^◌, ℕ, true, false, List, [], Option, Result, IfOk, IfErr, IfSome, IfNone, OnOk, IsErrOf, Some}
use Rattle.std.specs.Option.{ForSome}
use Rattle.rg_host.specs.Image.{Image, Becomes, NothingPending}
use Rattle.rg_host.specs.Moments.{Moment, LeavesAll}
use Rattle.rg_frame.specs.Calls.{Writes}
use Rattle.rg_frame.specs.Frames.{IsLog}
use Rattle.rg_frame.specs.LogState.{LogState, ReachesEnd}
use Rattle.rg_event.specs.Shapes.{Shape}
use Rattle.rg_event.specs.declared.value.Value.{Value}
use Rattle.rg_growth.specs.Filling.{Given, IsFilled}
use Rattle.rg_log.specs.declared.entry.LogSoFar.{LogSoFar}
use Rattle.rg_reservoir.specs.Attached.{IsBadFrame, growth_payload, LogOpens, Opens, IsOpened, OpensView}
use Rattle.rg_reservoir.specs.GrownViews.{growing_at}
use Rattle.rg_reservoir.specs.HeadsRead.{IsReadLog}
use Rattle.rg_reservoir.specs.Views.{seen_from}
use Rattle.rg_reservoir.specs.declared.fault.ReservoirFault.{ReservoirFault}
use Rattle.rg_reservoir.specs.declared.fault.ReservoirFault.TheVariants as fault
use Rattle.rg_reservoir.specs.declared.first.Found.{Found}
use Rattle.rg_reservoir.specs.declared.first.Opened.{Opened}
use Rattle.rg_reservoir.specs.declared.first.ToWrite.{ToWrite}
use Rattle.rg_reservoir.specs.declared.heads.ReadLog.{ReadLog}

-- the growth to this schema that the log lacks whose frames say that and end at that place, and its payload
pub record IsToWrite (so_far : LogSoFar) (place : ℕ) (shape : Shape) (defaults : Given) (found : ToWrite) : Type 0 where
  pub from : Shape
  pub known : so_far.schema ≡ Some from
  pub values : List Value
  pub fills : IsFilled from shape defaults values
  pub payload_is : found.payload.items ≡ growth_payload shape values
  pub growing_is : found.growing ≡ growing_at place from found.payload.items values

-- the log of file 2 has no frame, and the writer stands at its start
pub record IsAtStart (now : Option Image) (log : LogState) : Type 0 where
  pub none : ForSome now (λ v. IsLog [] 0 (v 2))
  pub stands : (log.file ≡ 2) × (log.end ≡ 0) × (log.ready ≡ true) × (log.ended ≡ false)
  pub reaches : ReachesEnd log now

-- the log of file 2 was read to its end, and the writer stands there
pub record IsAtEnd (now : Option Image) (log : LogState) (read : ReadLog) : Type 0 where
  pub has_read : ForSome now (λ v. IsReadLog read log.end (v 2))
  pub few : read.so_far.summary.count ≤ 2 ^ 40
  pub stands : (log.file ≡ 2) × (log.ready ≡ true) × (log.ended ≡ false)
  pub reaches : ReachesEnd log now

-- the log of file 2 was read to its end, and its first frame or one growth was written where it had to be
pub record LogOpened {H : Type 0} (now : H → Option Image) (may : H → Image → Type 0) (shape : Shape) (defaults : Given) (result : Result Opened ReservoirFault) (host after : H) : Type 0 where
  pub opened : IfOk result (λ o. ForSome (now after) (λ w. IsOpened (seen_from shape o.growths) o.first o.log.end o.tally (w 2)))
  pub view : IfOk result (λ o. ForSome (now host) (λ v. OpensView shape defaults (seen_from shape o.growths) (v 2)))
  pub opens : IfOk result (λ o. Becomes (now host) (now after) (λ v w. Opens shape defaults o.first o.log.end (v 2) (w 2)))
  pub settled : OnOk result (NothingPending 2 (now host) (may host) → NothingPending 2 (now after) (may after))
  pub log : IfOk result (λ o. (o.log.file ≡ 2) × (o.log.ready ≡ true) × (o.log.ended ≡ false) × (o.tally.count ≤ 2 ^ 40))
  pub reaches : IfOk result (λ o. ReachesEnd o.log (now after))

-- the log of file 2 was read to its end, or it has no frame
pub record LogRead (shape : Shape) (now : Option Image) (result : Result (Option Opened) ReservoirFault) : Type 0 where
  pub opened : IfOk result (λ found. IfSome found (λ o. ForSome now (λ v. IsOpened (seen_from shape o.growths) o.first o.log.end o.tally (v 2))))
  pub none : IfOk result (λ found. IfNone found (ForSome now (λ v. IsLog [] 0 (v 2))))
  pub log : IfOk result (λ found. IfSome found (λ o. (o.log.file ≡ 2) × (o.log.ready ≡ true) × (o.log.ended ≡ false) × (o.tally.count ≤ 2 ^ 40)))

-- the log of file 2 was read to its end, where the schema that was found is in force, or it has no frame
pub record LogFound (now : Option Image) (result : Result (Option Found) ReservoirFault) : Type 0 where
  pub opened : IfOk result (λ r. IfSome r (λ found. ForSome now (λ v. IsOpened (seen_from found.schema found.opened.growths) found.opened.first found.opened.log.end found.opened.tally (v 2))))
  pub none : IfOk result (λ r. IfNone r (ForSome now (λ v. IsLog [] 0 (v 2))))
  pub log : IfOk result (λ r. IfSome r (λ found. (found.opened.log.file ≡ 2) × (found.opened.log.ready ≡ true) × (found.opened.log.ended ≡ false) × (found.opened.tally.count ≤ 2 ^ 40)))

-- why the log of file 2 wasn't taken: it differs so, a frame of it is bad, or a call on the file failed
pub record IsLogStop {R : Type 0} (Differs : List ℕ → Type 0) (now : Option Image) (rose : Type 0) (result : Result R ReservoirFault) : Type 0 where
  pub differs : IsErrOf result fault.SchemaDiffers → ForSome now (λ v. Differs (v 2))
  pub damaged : (p : ℕ) → IsErrOf result (fault.Damaged p) → ForSome now (λ v. IsBadFrame p (v 2))
  pub neither : (IsErrOf result fault.Full → ⊥) × (IsErrOf result fault.Ended → ⊥)
  pub disk : IsErrOf result fault.Disk → rose

-- nothing but the first frame of file 2 or one growth was written, nothing was put, and faults are counted; a refusal but for a fault of the disk has written nothing
pub record WritesOpening {H : Type 0} (now : H → Option Image) (may : H → Image → Type 0) (clock : H → ℕ) (since : H → ℕ → Moment → Type 0) (said : H → Option (List ℕ)) (disk_faults out_faults : H → ℕ) (shape : Shape) (defaults : Given) (result : Result Opened ReservoirFault) (host after : H) : Type 0 where
  pub writes : Writes now may clock since said 2 (LogOpens shape defaults) host after
  pub disk_faults_rise : disk_faults host ≤ disk_faults after
  pub out_faults_stay : out_faults after ≡ out_faults host
  pub untouched : IfErr result (λ e. (e ≡ fault.Disk) ⊎ LeavesAll now may clock since said host after)
