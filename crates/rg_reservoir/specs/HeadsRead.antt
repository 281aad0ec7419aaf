-- What reading the frames of a log finds, by heads and growths, and what stops it.
use Rattle.std.specs.Prelude.{◌≡◌, ◌⊎◌, ◌≤◌, ◌+◌, ◌^◌, ℕ, true, List, [], ◌∷◌, length, Option, Some, Result, IfOk, IfErr, IfSome, IfNone, OnOk, IsErrOf}
use Rattle.std.specs.Option.{ForSome}
use Rattle.rg_event.specs.Shapes.{Shape}
use Rattle.rg_host.specs.Image.{Image}
use Rattle.rg_frame.specs.Frames.{payload_at, Begins, IsLog, HasPayloads}
use Rattle.rg_frame.specs.LogState.{LogState, ReachesEnd}
use Rattle.rg_frame.specs.Looks.{IsTorn}
use Rattle.rg_log.specs.Entries.{unread, entry_of, entries_after}
use Rattle.rg_log.specs.declared.entry.Entry.{Entry}
use Rattle.rg_log.specs.declared.entry.LogSoFar.{LogSoFar}
use Rattle.rg_reservoir.specs.Heads.{EntryAt, IsBadFrame, Gathered, growths_in}
use Rattle.rg_reservoir.specs.Views.{passed}
use Rattle.rg_reservoir.specs.declared.fault.ReservoirFault.{ReservoirFault}
use Rattle.rg_reservoir.specs.declared.fault.ReservoirFault.TheVariants as fault
use Rattle.rg_reservoir.specs.declared.growing.Growing.{Growing}
use Rattle.rg_reservoir.specs.declared.heads.FoundEntry.{FoundEntry}
use Rattle.rg_reservoir.specs.declared.heads.ReadLog.{ReadLog}

-- The next frame was asked for, where that schema is in force, if one is. Where there is one, the log has come behind it; where there is none, the log is ready as it was.
pub record HasEntry (now then : Option Image) (schema : Option Shape) (result : Result (Option FoundEntry) ReservoirFault) (old new : LogState) : Type 0 where
  pub place : IfOk result (λ r. IfSome r (λ found. (found.place ≡ old.end) × (found.next ≡ new.end) × (old.end + 9 ≤ new.end)))
  pub some : IfOk result (λ r. IfSome r (λ found. ForSome now (λ v. (payloads : List (List ℕ)) → Begins payloads old.end (v old.file) → EntryAt (v old.file) payloads schema old.end new.end found.entry)))
  pub none : IfOk result (λ r. IfNone r ((new ≡ record old { ready = true }) × ForSome now (λ v. (payloads : List (List ℕ)) → Begins payloads old.end (v old.file) → IsLog payloads old.end (v old.file))))
  pub small : IfOk result (λ r. IfSome r (λ _. new.end ≤ 2 ^ 62))
  pub reaches : ReachesEnd old now → ReachesEnd new then
  pub same : (new.file ≡ old.file) × (new.ended ≡ old.ended)

-- why the next frame wasn't found: the open gate at the log's end has no whole frame behind it, a call on the file failed, or memory was wanted
pub record IsEntryStop (now : Option Image) (log : LogState) (rose : Type 0) (result : Result (Option FoundEntry) ReservoirFault) : Type 0 where
  pub damaged : (p : ℕ) → IsErrOf result (fault.Damaged p) → ForSome now (λ v. IsTorn p (v log.file))
  pub faults : IfErr result (λ e. (e ≡ fault.Disk) ⊎ (e ≡ fault.Damaged log.end) ⊎ (e ≡ fault.Memory))
  pub disk : IsErrOf result fault.Disk → rose

-- what a frame at a place is that is read whole, where that schema is in force, if one is; and why it wasn't read
pub record HasWhole (now : Option Image) (schema : Option Shape) (place file : ℕ) (rose : Type 0) (result : Result (Option Entry) ReservoirFault) : Type 0 where
  pub entry : IfOk result (λ entry. ForSome now (λ v. (payload : List ℕ) → payload_at place (v file) ≡ Some payload → entry ≡ entry_of schema payload))
  pub damaged : (p : ℕ) → IsErrOf result (fault.Damaged p) → ForSome now (λ v. IsTorn p (v file))
  pub faults : IfErr result (λ e. (e ≡ fault.Disk) ⊎ (e ≡ fault.Damaged place) ⊎ (e ≡ fault.Memory))
  pub disk : IsErrOf result fault.Disk → rose

-- the frames were read from the log's end on to their end; then those in front of it say that, and have these growths among them
pub record ReadsOn (now then : Option Image) (result : Result Unit ReservoirFault) (old new : LogState) (so_far : LogSoFar) (growths : List Growing) : Type 0 where
  pub read : OnOk result (ForSome now (λ v. (g : Gathered (v old.file) new.end so_far growths) × IsLog g.passed.payloads new.end (v old.file) × HasPayloads g.passed.payloads (v old.file)))
  pub few : OnOk result (so_far.summary.count ≤ 2 ^ 40)
  pub same : (new.file ≡ old.file) × (new.ended ≡ old.ended)
  pub ready : OnOk result (new.ready ≡ true)
  pub reaches : ReachesEnd old now → ReachesEnd new then

-- what the frames of a file say that were read to its end, and which growths are among them
pub record IsReadLog (read : ReadLog) (end : ℕ) (bytes : List ℕ) : Type 0 where
  pub start : List ℕ
  pub payloads : List (List ℕ)
  pub log : IsLog (start ∷ payloads) end bytes
  pub has : HasPayloads (start ∷ payloads) bytes
  pub say : entries_after unread (start ∷ payloads) ≡ Some read.so_far
  pub growths : read.growths ≡ growths_in (start ∷ payloads)
  pub first_is : read.first ≡ passed read.growths (9 + length start)

-- the log was read from its start to its end, or it has no frame
pub record HasRead (now then : Option Image) (result : Result (Option ReadLog) ReservoirFault) (old new : LogState) : Type 0 where
  pub read : IfOk result (λ r. IfSome r (λ read. ForSome now (λ v. IsReadLog read new.end (v old.file))))
  pub few : IfOk result (λ r. IfSome r (λ read. read.so_far.summary.count ≤ 2 ^ 40))
  pub none : IfOk result (λ r. IfNone r ((new ≡ record old { ready = true }) × ForSome now (λ v. IsLog [] 0 (v old.file))))
  pub same : (new.file ≡ old.file) × (new.ended ≡ old.ended)
  pub ready : OnOk result (new.ready ≡ true)
  pub reaches : ReachesEnd old now → ReachesEnd new then

-- why the log wasn't read: a frame isn't whole, isn't what its place asks for or may not follow those before it, a call on the file failed, or memory was wanted
pub record IsReadStop {R : Type 0} (now : Option Image) (file : ℕ) (rose : Type 0) (result : Result R ReservoirFault) : Type 0 where
  pub damaged : (p : ℕ) → IsErrOf result (fault.Damaged p) → ForSome now (λ v. IsBadFrame p (v file))
  pub faults : IfErr result (λ e. (e ≡ fault.Disk) ⊎ ((p : ℕ) × (e ≡ fault.Damaged p)) ⊎ (e ≡ fault.Memory))
  pub disk : IsErrOf result fault.Disk → rose
