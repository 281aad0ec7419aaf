-- A call of the program.
use Rattle.std.specs.Prelude.{◌≡◌, ◌⊎◌, ℕ, ◌<◌, ◌≤◌, nat_lt, nat_le, Bool, true, false, List, [], ◌∷◌, ◌++◌, length, codes, decimal, bytes_eq, string_bytes, String, Option, Some, None, IfSome, Result, ⊤, if◌then◌else◌}
use Rattle.std.specs.Prelude as r
use Rattle.std.specs.Option.{ForSome}
use Rattle.std.specs.declared.alloc.Global.{Global}
use Rattle.rg_host.specs.Image.{Image}
use Rattle.rg_config.specs.Plans.{Planned, Says}
use Rattle.rg_config.specs.declared.fault.ConfigFault.{ConfigFault}
use Rattle.rg_config.specs.declared.fault.ConfigFault.TheVariants as fault
use Rattle.rg_dump.specs.Dump.{dump_text, damage_of}
use Rattle.rg_dump.specs.declared.fault.DumpFault.{DumpFault}
use Rattle.rg_dump.specs.declared.fault.DumpFault.TheVariants as dump
use Rattle.rg_info.specs.Info.{IsInfo}
use Rattle.rg_info.specs.declared.fault.InfoFault.{InfoFault}
use Rattle.rg_info.specs.declared.fault.InfoFault.TheVariants as info
use Rattle.rg_bytes.specs.Numbers.{whole_of}
use Rattle.rg_run.specs.declared.fault.RunFault.{RunFault}
use Rattle.rg_run.specs.declared.fault.RunFault.TheVariants as run
use Rattle.rg_selftest.specs.Trials.{IsTrial, trial_lines}
use Rattle.rg_selftest.specs.declared.trials.Trial.{Trial as Counted}
use Rattle.rg_messages.specs.Statuses.{last_line}
use Rattle.rg_commands.specs.Plan.{IsPlan, IsRefusal}
use Rattle.rg_commands.specs.declared.command.Command.{Command}
use Rattle.rg_commands.specs.declared.command.Command.TheVariants.{Run, Replay, Verify, Check, Dump, Info, Trial}
use Rattle.rg_commands.specs.declared.ending.Ending.{Ending}
use Rattle.rg_messages.specs.declared.refusal.Refusal.{Refusal}
use Rattle.rg_commands.specs.declared.ending.Ending.TheVariants as ending
use Rattle.rg_explain.specs.Listing.{check_text}
use Rattle.rg_messages.specs.declared.status.Status.{Status}
use Rattle.rg_messages.specs.declared.status.Status.TheVariants.{Ok, Usage, Plan as BadPlan, Store, Read, Write, Disk, Limit, Memory, Gap}

-- A blank of that name, cut into so many parts, is this ledger's, and has some.
pub record IsBlankOf (name parts its_name its_parts : ℕ) : Type 0 where
  pub named : name ≡ its_name
  pub cut : parts ≡ its_parts
  pub whole : 0 < parts

-- the command, where the word names it
abbrev pub when : Bool → Command → Option Command
when true command = Some command
when false command = None

-- the command of two words that is named `dump` or `info`, if it is one of these
abbrev pub with_store : Bool → Bool → Option Command
with_store true info = Some Dump
with_store false info = when info Info

-- the same, where it may be named `check` too
abbrev pub with_file : Bool → Bool → Bool → Option Command
with_file true dump info = Some Check
with_file false dump info = with_store dump info

-- a run whose first line has that offset, which is at most 2^61
abbrev pub run_at : Option ℕ → Option Command
run_at (Some first) = if nat_le first 2305843009213693952 then Some (Run first) else None
run_at None = None

-- a trial on so many lines of a seed, where both are numbers and there are at most 200,000 lines
abbrev pub trial_at : Option ℕ → Option ℕ → Option Command
trial_at (Some lines) (Some seed) = if nat_le lines 200000 then Some (Trial lines seed) else None
trial_at lines seed = None

-- the same, where the word names a trial
abbrev pub when_trial : Bool → Option ℕ → Option ℕ → Option Command
when_trial true lines seed = trial_at lines seed
when_trial false lines seed = None

-- the same, where it may name a verify too
abbrev pub when_verify : Bool → Bool → Option ℕ → Option ℕ → Option Command
when_verify true trial lines seed = Some Verify
when_verify false trial lines seed = when_trial trial lines seed

-- the command of three words that is named `run`, `replay`, `verify` or `self`, if it is one of these
abbrev pub with_two : Bool → Bool → Bool → Bool → Option ℕ → Option ℕ → Option Command
with_two true replay verify trial lines seed = Some (Run 0)
with_two false true verify trial lines seed = Some (Replay 0)
with_two false false verify trial lines seed = when_verify verify trial lines seed

-- a replay from that offset on, which is at most 2^62
abbrev pub replay_at : Option ℕ → Option Command
replay_at (Some first) = if nat_le first 4611686018427387904 then Some (Replay first) else None
replay_at None = None

-- the same, where the word names a replay
abbrev pub when_replay : Bool → Option ℕ → Option Command
when_replay true first = replay_at first
when_replay false first = None

-- the command of four words that is named `run` or `replay`, if it is one of these
abbrev pub with_first : Bool → Bool → Option ℕ → Option Command
with_first true replay first = run_at first
with_first false replay first = when_replay replay first

-- what the words ask for: `check PLAN`, `dump STORE`, `info STORE`, `run PLAN STORE`, `run PLAN STORE FIRST`, `replay PLAN STORE`,
-- `replay PLAN STORE FIRST`, `verify PLAN STORE`, or `self N SEED`
abbrev pub command_of : List (String Global) → Option Command
command_of [] = None
command_of (command ∷ []) = None
command_of (command ∷ (file ∷ [])) = with_file (bytes_eq (string_bytes command) (codes "check")) (bytes_eq (string_bytes command) (codes "dump")) (bytes_eq (string_bytes command) (codes "info"))
command_of (command ∷ (second ∷ (third ∷ []))) = with_two (bytes_eq (string_bytes command) (codes "run")) (bytes_eq (string_bytes command) (codes "replay")) (bytes_eq (string_bytes command) (codes "verify")) (bytes_eq (string_bytes command) (codes "self")) (whole_of (string_bytes second)) (whole_of (string_bytes third))
command_of (command ∷ (plan ∷ (store ∷ (first ∷ [])))) = with_first (bytes_eq (string_bytes command) (codes "run")) (bytes_eq (string_bytes command) (codes "replay")) (whole_of (string_bytes first))
command_of (command ∷ (plan ∷ (store ∷ (first ∷ (more ∷ words))))) = None

-- The plan's bytes are no longer than they may be, and say a plan.
abbrev pub IsCarried : List ℕ → Result Planned ConfigFault → Type 0
IsCarried bytes (r.Ok plan) = length bytes ≤ 65536
IsCarried bytes (r.Err refusal) = ⊥

-- all lines that a check puts for what the plan's bytes say
abbrev pub plan_text : Result Planned ConfigFault → List (List ℕ)
plan_text (r.Ok plan) = check_text plan
plan_text (r.Err refusal) = []

-- Lines that are put once all was read stand before the last line of this status: at Ok, and where a put failed.
abbrev pub puts_lines : Status → Bool
puts_lines Ok = true
puts_lines Write = true
puts_lines other = false

-- the text is one of which P holds where lines are put, and else there is none
abbrev pub IsPutOf : Bool → (List (List ℕ) → Type 0) → List (List ℕ) → Type 0
IsPutOf true P text = P text
IsPutOf false P text = text ≡ []

-- the lines that `info` puts of the store of that image
abbrev pub IsInfoAt : Status → Image → List (List ℕ) → Type 0
IsInfoAt status image text = IsPutOf (puts_lines status) (λ lines. IsInfo image lines) text

-- the lines that a trial on so many lines of a seed puts: the four of its numbers
abbrev pub IsTrialAt : Status → ℕ → ℕ → List (List ℕ) → Type 0
IsTrialAt status lines seed text = IsPutOf (puts_lines status) (λ four. (counted : Counted) × IsTrial seed lines counted × (four ≡ trial_lines counted)) text

-- the status of what the plan's bytes say
abbrev pub status_by : Result Planned ConfigFault → Status
status_by (r.Err refusal) = BadPlan
status_by (r.Ok plan) = Ok

-- the same, where the plan may be too long
abbrev pub plan_status : List ℕ → Result Planned ConfigFault → Status
plan_status plan asks = if nat_lt 65536 (length plan) then Limit else status_by asks

-- the status of a command that puts what the store has, by the place where the log is damaged
abbrev pub store_status : Option ℕ → Status
store_status None = Ok
store_status (Some place) = Store

-- What the words ask for: whether it runs, replays, verifies, reads its plan and shows the store.
pub record Form : Type 1 where
  pub runs : Type 0
  pub replays : Type 0
  pub verifies : Type 0
  pub reads_plan : Type 0
  pub shows_store : Type 0

-- a form by its fields, in their order
abbrev pub form : Type 0 → Type 0 → Type 0 → Type 0 → Type 0 → Form
form runs replays verifies reads_plan shows_store = record {
  runs = runs;
  replays = replays;
  verifies = verifies;
  reads_plan = reads_plan;
  shows_store = shows_store;
}

-- what each command does, a row each: whether it runs, replays, verifies, reads its plan and shows the store
abbrev pub form_of : Option Command → Form
form_of (Some (Run first)) = form ⊤ ⊥ ⊥ ⊤ ⊥
form_of (Some (Replay first)) = form ⊥ ⊤ ⊥ ⊤ ⊥
form_of (Some Verify) = form ⊥ ⊥ ⊤ ⊤ ⊥
form_of (Some Check) = form ⊥ ⊥ ⊥ ⊤ ⊥
form_of (Some Dump) = form ⊥ ⊥ ⊥ ⊥ ⊤
form_of (Some Info) = form ⊥ ⊥ ⊥ ⊥ ⊤
form_of (Some (Trial lines seed)) = form ⊥ ⊥ ⊥ ⊥ ⊥
form_of None = form ⊥ ⊥ ⊥ ⊥ ⊥

-- the words name a run
abbrev pub IsRun : Option Command → Type 0
IsRun command = (form_of command).runs

-- the words name a replay
abbrev pub IsReplay : Option Command → Type 0
IsReplay command = (form_of command).replays

-- the words name a verify
abbrev pub IsVerify : Option Command → Type 0
IsVerify command = (form_of command).verifies

-- the words name a command that reads its plan
abbrev pub ReadsPlan : Option Command → Type 0
ReadsPlan command = (form_of command).reads_plan

-- the words name a command that puts what the store has, whatever the plan
abbrev pub ShowsStore : Option Command → Type 0
ShowsStore command = (form_of command).shows_store

-- the line that refuses a plan, with its LF
abbrev pub refusal_line : ConfigFault → List ℕ
refusal_line fault.Toml = codes "refused plan toml\n"
refusal_line fault.Stream = codes "refused plan stream\n"
refusal_line (fault.Defaults cause) = codes "refused plan stream\n"
refusal_line (fault.Settings cause) = codes "refused plan settings\n"
refusal_line (fault.Query number cause) = codes "refused plan query " ++ (decimal number ++ codes "\n")
refusal_line fault.Memory = []

-- the line that refuses a log that is damaged at that place, with its LF
abbrev pub damage_line : Option ℕ → List ℕ
damage_line (Some place) = codes "refused store damaged " ++ (decimal place ++ codes "\n")
damage_line None = []

-- the lines that refuse a store of another schema, and one whose node of that number has rows that don't stand for its events
abbrev pub schema_line : List ℕ
schema_line = codes "refused store schema\n"

abbrev pub state_line : ℕ → List ℕ
state_line node = codes "refused store state " ++ (decimal node ++ codes "\n")

-- the line that refuses an input whose first line has that offset, over a store with this next one
abbrev pub gap_line : ℕ → ℕ → List ℕ
gap_line first next = codes "refused gap " ++ (decimal first ++ (codes " " ++ (decimal next ++ codes "\n")))

abbrev pub refusal_of : Result Planned ConfigFault → List ℕ
refusal_of (r.Ok plan) = []
refusal_of (r.Err refusal) = refusal_line refusal

-- the last line that a status puts of a call whose plan's bytes say this, and which isn't carried out over a store
abbrev pub line_for : Result Planned ConfigFault → Status → List ℕ
line_for asks BadPlan = refusal_of asks
line_for asks other = last_line other

-- the last line that a status puts of a command that shows what the image has
abbrev pub store_line : Image → Status → List ℕ
store_line image Store = damage_line (damage_of (image 2))
store_line image other = last_line other

-- the status and the last line of a call that ends early
abbrev pub ending_status : Ending → Status
ending_status (ending.Refused line refusal) = BadPlan
ending_status (ending.Store line) = Store
ending_status (ending.Gap line) = Gap
ending_status (ending.Failed status) = status

abbrev pub ending_line : Ending → List ℕ
ending_line (ending.Refused line refusal) = line.items
ending_line (ending.Store line) = line.items
ending_line (ending.Gap line) = line.items
ending_line (ending.Failed status) = last_line status

abbrev pub ending_refusal : Ending → Option Refusal
ending_refusal (ending.Refused line refusal) = Some refusal
ending_refusal (ending.Store line) = None
ending_refusal (ending.Gap line) = None
ending_refusal (ending.Failed status) = None

-- the same of any call
abbrev pub status_after : {A : Type 0} → Result A Ending → Status
status_after (r.Ok done) = Ok
status_after (r.Err cause) = ending_status cause

abbrev pub line_after : {A : Type 0} → Result A Ending → List ℕ
line_after (r.Ok done) = []
line_after (r.Err cause) = ending_line cause

abbrev pub refusal_after : {A : Type 0} → Result A Ending → Option Refusal
refusal_after (r.Ok done) = None
refusal_after (r.Err cause) = ending_refusal cause

-- where the plan tells its bytes, this is told of them, a fault that refuses them, and the last line says so
abbrev pub TellsFault : Option (List ℕ) → List ℕ → Option Refusal → Type 0
TellsFault plan last told = IfSome plan (λ bytes. (refusal : Refusal) × (told ≡ Some refusal) × IsRefusal bytes refusal.fault × (last ≡ refusal_line refusal.fault))

-- the ending says the fault that refuses a plan, or that memory ran out
abbrev pub EndsBy : ConfigFault → Ending → Type 0
EndsBy cause (ending.Refused line refusal) = (line.items ≡ refusal_line cause) × (cause ≡ fault.Memory → ⊥) × (refusal.fault ≡ cause)
EndsBy cause (ending.Store line) = ⊥
EndsBy cause (ending.Gap line) = ⊥
EndsBy cause (ending.Failed status) = status ≡ Memory

-- it failed so, and has the line of that status
abbrev pub Fails : Status → Status → List ℕ → Type 0
Fails wanted status last = (status ≡ wanted) × (last ≡ last_line wanted)

-- it has that status and that last line, or memory ran out for the line
abbrev pub SaysLine : Status → List ℕ → Status → List ℕ → Type 0
SaysLine wanted line status last = ((status ≡ wanted) × (last ≡ line)) ⊎ Fails Memory status last

-- the status and the last line of a dump that ended at this fault
abbrev pub EndsDump : DumpFault → Status → List ℕ → Type 0
EndsDump dump.Disk status last = Fails Disk status last
EndsDump dump.Memory status last = Fails Memory status last
EndsDump dump.Write status last = Fails Write status last
EndsDump (dump.Damaged place) status last = SaysLine Store (damage_line (Some place)) status last

-- of an `info` that ended at this fault
abbrev pub EndsInfo : InfoFault → Status → List ℕ → Type 0
EndsInfo info.Disk status last = Fails Disk status last
EndsInfo info.Memory status last = Fails Memory status last
EndsInfo info.Write status last = Fails Write status last
EndsInfo (info.Damaged place) status last = SaysLine Store (damage_line (Some place)) status last

-- of a run that ended at this fault, where the first line of the input has that offset
abbrev pub EndsRun : ℕ → RunFault → Status → List ℕ → Type 0
EndsRun first run.Disk status last = Fails Disk status last
EndsRun first (run.Damaged place) status last = SaysLine Store (damage_line (Some place)) status last
EndsRun first run.SchemaDiffers status last = SaysLine Store schema_line status last
EndsRun first (run.BadState node) status last = SaysLine Store (state_line node) status last
EndsRun first (run.Gap next) status last = SaysLine Gap (gap_line first next) status last
EndsRun first run.Read status last = Fails Read status last
EndsRun first run.Limit status last = Fails Limit status last
EndsRun first run.Memory status last = Fails Memory status last
EndsRun first run.Write status last = Fails Write status last

-- where the plan tells its bytes, they say a plan
abbrev pub IsLegalPlan : Option (List ℕ) → Type 0
IsLegalPlan (Some bytes) = (plan : Planned) × IsPlan bytes plan
IsLegalPlan None = ⊤

-- the plan tells its bytes, and they are too long or say no plan
abbrev pub TellsNoPlan : Option (List ℕ) → Type 0
TellsNoPlan plan = (bytes : List ℕ) × (plan ≡ Some bytes) × ((asks : Planned) → IsPlan bytes asks → ⊥)

-- where the host tells its image, no frame of the log is damaged
abbrev pub IsUndamaged : Option Image → Type 0
IsUndamaged store = ForSome store (λ image. damage_of (image 2) ≡ None)

-- where the host tells its image, a frame of the log is damaged, and the last line says where the first one is
abbrev pub IsDamagedBy : Option Image → List ℕ → Type 0
IsDamagedBy store last = ForSome store (λ image. (place : ℕ) × (damage_of (image 2) ≡ Some place) × (last ≡ damage_line (Some place)))
