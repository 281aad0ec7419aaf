-- How a check, a dump, an `info` and a trial go and end.
use Rattle.std.proofs.Common.{◌≡◌, ◌⊎◌, inl, inr, ⊎_elim, ℕ, ◌≤◌, List, [], ◌++◌, Option, Some, None, Result, refl, ap, sym, ◌∙◌, subst}
use Rattle.std.specs.Prelude as r
use Rattle.std.specs.Prelude.{IfSome}
use Rattle.std.specs.Option.{ForSome}
use Rattle.rg_bytes.specs.Counts.{Rose}
use Rattle.rg_config.specs.Plans.{Planned, Says}
use Rattle.rg_config.specs.declared.fault.ConfigFault.{ConfigFault}
use Rattle.rg_host.specs.Image.{Image}
use Rattle.rg_host.specs.Lines.{ended}
use Rattle.rg_host.specs.Moments.{Moment}
use Rattle.rg_host.specs.Puts.{IsPrefix, Puts, StopsWith}
use Rattle.rg_host.specs.declared.host.Host.{Ghosts as HostMembers}
use Rattle.rg_host.proofs.Laws.{puts-then}
use Rattle.rg_dump.specs.Dump.{damage_of}
use Rattle.rg_dump.specs.declared.fault.DumpFault.{DumpFault}
use Rattle.rg_dump.specs.declared.fault.DumpFault.TheVariants as dump
use Rattle.rg_info.specs.Info.{IsInfo}
use Rattle.rg_info.specs.declared.fault.InfoFault.{InfoFault}
use Rattle.rg_info.specs.declared.fault.InfoFault.TheVariants as info
use Rattle.rg_explain.specs.Stops.{StopsAt}
use Rattle.rg_explain.proofs.Laws.{nothing_stops}
use Rattle.rg_messages.specs.Statuses.{last_line}
use Rattle.rg_messages.specs.declared.refusal.Refusal.{Refusal}
use Rattle.rg_messages.specs.declared.status.Status.{Status}
use Rattle.rg_messages.specs.declared.status.Status.TheVariants.{Ok, Usage, Plan as BadPlan, Store, Read, Write, Disk, Limit, Memory, Gap, Differs}
use Rattle.rg_commands.specs.declared.command.Command.{Command}
use Rattle.rg_commands.specs.declared.command.Command.TheVariants.{Check, Trial}
use Rattle.rg_commands.specs.Plan.{IsPlan}
use Rattle.rg_commands.specs.Call.{IsRun, ReadsPlan, ShowsStore as Shows, IsInfoAt, EndsDump, EndsInfo, IsUndamaged, damage_line, store_line, store_status, line_for, plan_text, plan_status, status_by}
use Rattle.rg_commands.specs.Causes.{cause, causes, EndsFor}
use Rattle.rg_commands.specs.Checks.{CheckEnds, ChecksPlan, CheckPromises}
use Rattle.rg_commands.specs.Dumps.{ShowEnds, ShowsStore}
use Rattle.rg_commands.specs.Outcome.{SourceOutcome, HostOutcome, host_outcome, not_given, outcome}
use Rattle.rg_commands.specs.SelfTests.{Tries, SelfPromises}
use Rattle.rg_commands.specs.Texts.{PutsUpTo, PutsByPlan, PutsLast, ShowsImage, IsOwnLine}
use Rattle.rg_commands.specs.Unread.{GoesBy}
use Rattle.rg_commands.proofs.Plans.{legal_of, asks_is, status_within}
use Rattle.rg_commands.proofs.Ends.{alone_by, put_rose, disk_rose, puts_text, whole}
use Rattle.rg_commands.proofs.Unread.{unread_puts, refuses_plan, ends_by}

-- A check and a trial: they end well, for want of memory, or where a put failed.

module _ (ok : Type 0) (h : HostOutcome) (last : List ℕ) where
  check_row : (P : Status → Type 0) → (ok → P Ok) → (last ≡ last_line Memory → P Memory) → (h.put_failed × (last ≡ last_line Write) → P Write) → (status : Status) → CheckEnds ok h last status → P status
  check_row P done memory write Ok row = done row
  check_row P done memory write Usage row = absurd row
  check_row P done memory write BadPlan row = absurd row
  check_row P done memory write Store row = absurd row
  check_row P done memory write Read row = absurd row
  check_row P done memory write Write row = write row
  check_row P done memory write Disk row = absurd row
  check_row P done memory write Limit row = absurd row
  check_row P done memory write Memory row = memory row
  check_row P done memory write Gap row = absurd row
  check_row P done memory write Differs row = absurd row

  check_failed : (status : Status) → CheckEnds ok h last status → status ≡ Write → h.put_failed
  check_failed status row is = (subst (CheckEnds ok h last) is row).0

-- the last line is the status's
check_line : (h : HostOutcome) (last : List ℕ) (status : Status) → CheckEnds (last ≡ []) h last status → last ≡ last_line status
check_line h last status row = check_row (last ≡ []) h last (λ s. last ≡ last_line s) (λ none. none) (λ m. m) (λ w. w.1) status row

module _ {H : Type 0} (g : HostMembers H) (only : (h : H) (m : Moment) → g.since h (g.clock h) m → g.may h m.image × ForSome (g.said h) (λ t. m.said ≡ t)) (sinks : (h : H) (t u : ℕ) (m : Moment) → t ≤ u → g.since h u m → g.since h t m) (old mid new : H)
    (plan : SourceOutcome) (last : List ℕ) (told : Option Refusal) (status : Status) (e : PutsLast g last mid new) (own : IsOwnLine status last) where
  abbrev Goes : Planned → Type 0
  Goes asks = ChecksPlan asks (host_outcome g old mid) status last

  abbrev By : Type 0
  By = GoesBy plan last told status (mid ≡ old) Goes

  check_cause : (asks : Planned) → IfSome plan.told (λ bytes. IsPlan bytes asks) → Goes asks → cause (causes (Some Check) (outcome plan not_given (host_outcome g old mid)) last told) status
  check_cause asks legal goes = check_row (last ≡ []) (host_outcome g old mid) last (λ s. cause (causes (Some Check) (outcome plan not_given (host_outcome g old mid)) last told) s)
      (λ none. ((λ reads. legal_of plan.told asks legal), (λ run. absurd run), (λ shows. absurd shows)))
      (λ m. tt)
      (λ w. ((λ reads. legal_of plan.told asks legal), w.0))
      status goes.why

  pub check_ends : By → EndsFor (Some Check) (outcome plan not_given (host_outcome g old mid)) status last told
  check_ends by = ends_by g only sinks old mid new plan last told status e own (Some Check) Goes tt by (λ asks legal goes. (check_cause asks legal goes, goes.files, goes.later))

  check_put : By → (bytes : List ℕ) (asks : Result Planned ConfigFault) → plan.told ≡ Some bytes → Says bytes asks → PutsByPlan (plan_text asks) bytes asks plan (host_outcome g old new) status
  check_put (inl u) bytes asks is says = unread_puts g only sinks old mid u.1 new plan last told status u.0 e own (plan_text asks) bytes asks is says
  check_put (inr by) bytes asks is says =
      let at = asks_is plan.told by.0 by.1 bytes asks is says in
      let goes = by.2 in
      record {
        put = puts_text g old mid new last e goes.later (plan_text asks) status own (check_failed (last ≡ []) (host_outcome g old mid) last status goes.why)
            (subst (λ v. PutsUpTo (plan_text v) (host_outcome g old mid) status) at.0 goes.put) (line_for asks status)
            (check_row (last ≡ []) (host_outcome g old mid) last (λ s. last ≡ line_for asks s) (λ none. none) (λ m. m) (λ w. w.1) status goes.why);
        completes = λ none. check_row (last ≡ []) (host_outcome g old mid) last (λ s. (s ≡ plan_status bytes asks) ⊎ (s ≡ Memory))
            (λ done. inl (sym (status_within bytes asks at.1 ∙ ap status_by (sym at.0))))
            (λ m. inr refl)
            (λ w. absurd (none (inr (put_rose g old mid new last e goes.later w.0))))
            status goes.why;
      }

  pub check_promises : By → CheckPromises plan (host_outcome g old new) status
  check_promises by = record { put = λ bytes asks is says. check_put by bytes asks is says }

-- A trial.
module _ {H : Type 0} (g : HostMembers H) (old mid new : H) (lines seed : ℕ) (last : List ℕ) (status : Status) (e : PutsLast g last mid new) (own : IsOwnLine status last) (t : Tries lines seed (host_outcome g old mid) status last) where
  pub self_ends : EndsFor (Some (Trial lines seed)) (outcome not_given not_given (host_outcome g old mid)) status last None
  self_ends = record {
    why = check_row (last ≡ []) (host_outcome g old mid) last (λ s. cause (causes (Some (Trial lines seed)) (outcome not_given not_given (host_outcome g old mid)) last None) s)
        (λ none. ((λ reads. absurd reads), (λ run. absurd run), (λ shows. absurd shows)))
        (λ m. tt)
        (λ w. ((λ reads. absurd reads), w.0))
        status t.why;
    alone = alone_by (Some (Trial lines seed)) not_given (host_outcome g old mid) status (λ unread. tt) t.files;
    later = t.later;
  }

  pub self_promises : SelfPromises lines seed (host_outcome g old new) status
  self_promises = record {
    text = t.text;
    is = t.is;
    put = puts_text g old mid new last e t.later t.text status own (check_failed (last ≡ []) (host_outcome g old mid) last status t.why) t.put (last_line status) (check_line (host_outcome g old mid) last status t.why);
    trial_only = check_row (last ≡ []) (host_outcome g old mid) last (λ s. (s ≡ Ok) ⊎ (s ≡ Memory) ⊎ (s ≡ Write)) (λ done. inl refl) (λ m. inr (inl refl)) (λ w. inr (inr refl)) status t.why;
    completes = λ none. check_row (last ≡ []) (host_outcome g old mid) last (λ s. (s ≡ Ok) ⊎ (s ≡ Memory)) (λ done. inl refl) (λ m. inr refl) (λ w. absurd (none (put_rose g old mid new last e t.later w.0))) status t.why;
  }

-- A dump and an `info`: the fault, and what was put.

pub dump_damaged : (cause : DumpFault) (status : Status) (last : List ℕ) → EndsDump cause status last → status ≡ Store → (place : ℕ) × (cause ≡ dump.Damaged place)
dump_damaged dump.Disk status last ends is = absurd (let e : Disk ≡ Store = sym ends.0 ∙ is in cc)
dump_damaged dump.Memory status last ends is = absurd (let e : Memory ≡ Store = sym ends.0 ∙ is in cc)
dump_damaged dump.Write status last ends is = absurd (let e : Write ≡ Store = sym ends.0 ∙ is in cc)
dump_damaged (dump.Damaged p) status last (inl says) is = (p, refl)
dump_damaged (dump.Damaged p) status last (inr fails) is = absurd (let e : Memory ≡ Store = sym fails.0 ∙ is in cc)

write_is : (cause : DumpFault) (status : Status) (last : List ℕ) → EndsDump cause status last → cause ≡ dump.Write → status ≡ Write
write_is cause status last ends is = let e : EndsDump dump.Write status last = subst (λ c. EndsDump c status last) is ends in e.0

pub dump_stops : (cause : DumpFault) (status : Status) (last : List ℕ) (text : List (List ℕ)) (put : List ℕ) → EndsDump cause status last → StopsWith text [] put ⊎ ((cause ≡ dump.Write) × IsPrefix put (ended text)) → StopsAt (status ≡ Write) text put
dump_stops cause status last text put ends (inl whole) = inl whole
dump_stops cause status last text put ends (inr cut) = inr (write_is cause status last ends cut.0, cut.1)

-- the causes of a fault; `ok` is what has to hold where the status were Ok
module _ (ok : Type 0) (h : HostOutcome) (last : List ℕ) (status : Status) where
  pub show_of : (fault : DumpFault) → EndsDump fault status last → ((place : ℕ) → fault ≡ dump.Damaged place → ForSome h.image (λ image. damage_of (image 2) ≡ Some place)) → (fault ≡ dump.Disk → h.disk_failed) → (fault ≡ dump.Write → h.put_failed) → ShowEnds ok h last status
  show_of dump.Disk ends damaged disk write = subst (ShowEnds ok h last) (sym ends.0) (disk refl, ends.1)
  show_of dump.Memory ends damaged disk write = subst (ShowEnds ok h last) (sym ends.0) ends.1
  show_of dump.Write ends damaged disk write = subst (ShowEnds ok h last) (sym ends.0) (write refl, ends.1)
  show_of (dump.Damaged p) (inl says) damaged disk write = subst (ShowEnds ok h last) (sym says.0) (λ image told. (p, damaged p refl image told, says.1))
  show_of (dump.Damaged p) (inr fails) damaged disk write = subst (ShowEnds ok h last) (sym fails.0) fails.1

-- An `info` ends at a fault as a dump does at the same one.

abbrev pub of_info : InfoFault → DumpFault
of_info info.Disk = dump.Disk
of_info (info.Damaged place) = dump.Damaged place
of_info info.Memory = dump.Memory
of_info info.Write = dump.Write

abbrev pub as_info : DumpFault → InfoFault
as_info dump.Disk = info.Disk
as_info (dump.Damaged place) = info.Damaged place
as_info dump.Memory = info.Memory
as_info dump.Write = info.Write

info_back : (cause : InfoFault) → as_info (of_info cause) ≡ cause
info_back info.Disk = refl
info_back (info.Damaged place) = refl
info_back info.Memory = refl
info_back info.Write = refl

pub info_is : (cause : InfoFault) (other : DumpFault) → of_info cause ≡ other → cause ≡ as_info other
info_is cause other is = sym (info_back cause) ∙ ap as_info is

pub info_ends : (cause : InfoFault) (status : Status) (last : List ℕ) → EndsInfo cause status last → EndsDump (of_info cause) status last
info_ends info.Disk status last ends = ends
info_ends (info.Damaged place) status last ends = ends
info_ends info.Memory status last ends = ends
info_ends info.Write status last ends = ends

-- what was put of the lines on a store
abbrev pub InfoStops : Status → Image → (List ℕ → Type 0) → Type 0
InfoStops status image Put = (text : List (List ℕ)) × IsInfoAt status image text × ((put : List ℕ) × Put put × StopsAt (status ≡ Write) text put)

-- nothing was put, and the status says so
no_lines : (status wanted : Status) (image : Image) (Put : List ℕ → Type 0) → status ≡ wanted → IsInfoAt wanted image [] → Put [] → InfoStops status image Put
no_lines status wanted image Put is none put = ([], subst (λ s. IsInfoAt s image []) (sym is) none, ([], put, nothing_stops (status ≡ Write) []))

-- what a failed put leaves
abbrev pub IsCutInfo : Image → (List ℕ → Type 0) → Type 0
IsCutInfo image Put = (lines : List (List ℕ)) × (put : List ℕ) × IsInfo image lines × IsPrefix put (ended lines) × Put put

pub info_stops : (cause : InfoFault) (status : Status) (last : List ℕ) (image : Image) (Put : List ℕ → Type 0) → EndsInfo cause status last → (cause ≡ info.Write → IsCutInfo image Put) → (cause ≡ info.Write) ⊎ Put [] → InfoStops status image Put
info_stops info.Write status last image Put ends cut none =
    let k = cut refl in
    (k.0, subst (λ s. IsInfoAt s image k.0) (sym ends.0) k.2, (k.1, k.4, inr (ends.0, k.3)))
info_stops info.Disk status last image Put ends cut (inl write) = absurd (let e : info.Disk ≡ info.Write = write in cc)
info_stops info.Disk status last image Put ends cut (inr none) = no_lines status Disk image Put ends.0 refl none
info_stops info.Memory status last image Put ends cut (inl write) = absurd (let e : info.Memory ≡ info.Write = write in cc)
info_stops info.Memory status last image Put ends cut (inr none) = no_lines status Memory image Put ends.0 refl none
info_stops (info.Damaged place) status last image Put ends cut (inl write) = absurd (let e : info.Damaged place ≡ info.Write = write in cc)
info_stops (info.Damaged place) status last image Put (inl says) cut (inr none) = no_lines status Store image Put says.0 refl none
info_stops (info.Damaged place) status last image Put (inr fails) cut (inr none) = no_lines status Memory image Put fails.0 refl none

-- What a row says.
module _ (h : HostOutcome) (last : List ℕ) where
  abbrev Done : Type 0
  Done = (last ≡ []) × IsUndamaged h.image

  show_row : (P : Status → Type 0) → (Done → P Ok) → (ShowEnds Done h last Store → P Store) → (h.disk_failed × (last ≡ last_line Disk) → P Disk) → (last ≡ last_line Memory → P Memory) → (h.put_failed × (last ≡ last_line Write) → P Write) →
      (status : Status) → ShowEnds Done h last status → P status
  show_row P done store disk memory write Ok row = done row
  show_row P done store disk memory write Usage row = absurd row
  show_row P done store disk memory write BadPlan row = absurd row
  show_row P done store disk memory write Store row = store row
  show_row P done store disk memory write Read row = absurd row
  show_row P done store disk memory write Write row = write row
  show_row P done store disk memory write Disk row = disk row
  show_row P done store disk memory write Limit row = absurd row
  show_row P done store disk memory write Memory row = memory row
  show_row P done store disk memory write Gap row = absurd row
  show_row P done store disk memory write Differs row = absurd row

-- With the last line.
module _ {H : Type 0} (g : HostMembers H) (old mid new : H) (Text : Image → List (List ℕ) → Type 0) (before : Image → List (List ℕ)) (last : List ℕ) (status : Status) (e : PutsLast g last mid new) (own : IsOwnLine status last) (s : ShowsStore Text before (host_outcome g old mid) status last) where
  pub show_ends : (command : Option Command) → Shows command → (ReadsPlan command → ⊥) → (IsRun command → ⊥) → EndsFor command (outcome not_given not_given (host_outcome g old mid)) status last None
  show_ends command shows no_plan no_run = record {
    why = show_row (host_outcome g old mid) last (λ k. cause (causes command (outcome not_given not_given (host_outcome g old mid)) last None) k)
        (λ done. ((λ reads. absurd (no_plan reads)), (λ run. absurd (no_run run)), (λ shown. done.1)))
        (λ damaged. inl (shows, damaged))
        (λ disk. (inl shows, disk.0))
        (λ m. tt)
        (λ w. ((λ reads. absurd (no_plan reads)), w.0))
        status s.why;
    alone = alone_by command not_given (host_outcome g old mid) status (λ unread. tt) s.files;
    later = s.later;
  }

  line_at : (image : Image) → g.now old ≡ Some image → last ≡ store_line image status
  line_at image told = show_row (host_outcome g old mid) last (λ k. last ≡ store_line image k) (λ done. done.0) (λ damaged. let at = damaged image told in at.2 ∙ ap damage_line (sym at.1)) (λ disk. disk.1) (λ m. m) (λ w. w.1) status s.why

  damaged_line : status ≡ Store → (image : Image) → g.now old ≡ Some image → last ≡ damage_line (damage_of (image 2))
  damaged_line is image told = line_at image told ∙ ap (store_line image) is

  pub show_promises : ShowsImage Text before (host_outcome g old new) status
  show_promises = record {
    put = λ image told.
        let t = s.put image told in
        (t.0, t.1, puts_text g old mid new last e s.later t.0 status own (λ write. (subst (ShowEnds (Done (host_outcome g old mid) last) (host_outcome g old mid) last) write s.why).0) t.2 (store_line image status) (line_at image told));
    rows_before_damage = λ store. ⊎_elim
        (λ all. inl (λ image told. puts-then g.said g.clock g.since old mid new (ended (before image)) (damage_line (damage_of (image 2))) (s.damaged store image told)
        (subst (λ v. Puts g.said g.clock g.since mid new v) (damaged_line store image told) all)))
        (λ rose. inr rose)
        (whole g old mid new last e s.later);
    completes = λ image told none. show_row (host_outcome g old mid) last (λ k. (k ≡ store_status (damage_of (image 2))) ⊎ (k ≡ Memory))
        (λ done. inl (sym (ap store_status (done.1 image told))))
        (λ damaged. inl (sym (ap store_status (damaged image told).1)))
        (λ disk. absurd (none (inr (disk_rose g old mid new last e s.later disk.0))))
        (λ m. inr refl)
        (λ w. absurd (none (inl (put_rose g old mid new last e s.later w.0))))
        status s.why;
  }
