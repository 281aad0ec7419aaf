-- How a call ends with its last line.
use Rattle.std.proofs.Common.{◌≡◌, ◌⊎◌, inl, inr, ⊎_elim, ℕ, ◌≤◌, ◌^◌, List, [], ◌∷◌, ◌++◌, length, Option, Some, None, Result, refl, ap, sym, ◌∙◌, subst, arith}
use Rattle.std.specs.Prelude as r
use Rattle.std.specs.Prelude.{OnOk, OnErr}
use Rattle.std.proofs.lemmas.List.{append-nil}
use Rattle.rg_bytes.specs.Counts.{Rose}
use Rattle.rg_host.specs.Lines.{ended}
use Rattle.rg_host.specs.Moments.{LeavesFiles}
use Rattle.rg_host.specs.Puts.{IsPrefix, IsPut, Puts, StopsWith}
use Rattle.rg_host.specs.declared.host.Host.{Ghosts as HostMembers}
use Rattle.rg_host.proofs.Laws.{puts-then, leaves_files-then}
use Rattle.rg_explain.specs.Stops.{StopsAt}
use Rattle.rg_messages.specs.Statuses.{last_line}
use Rattle.rg_messages.specs.declared.refusal.Refusal.{Refusal}
use Rattle.rg_messages.specs.declared.status.Status.{Status}
use Rattle.rg_messages.specs.declared.status.Status.TheVariants.{Ok, Usage, Plan as BadPlan, Store, Read, Write, Disk, Limit, Memory, Gap, Differs}
use Rattle.rg_commands.specs.declared.command.Command.{Command}
use Rattle.rg_commands.specs.declared.command.Command.TheVariants.{Run}
use Rattle.rg_commands.specs.declared.ending.Ending.{Ending}
use Rattle.rg_commands.specs.declared.ending.Ending.TheVariants as ends
use Rattle.rg_commands.specs.Call.{IsRun, IsReplay, IsVerify, ReadsPlan, ShowsStore, ending_status, ending_line, status_after, line_after}
use Rattle.rg_commands.specs.Causes.{RefusesStore, cause, causes, ReadCause, StoreCause, LimitCause, DiskCause, LeavesAlone, EndsFor, EveryCall}
use Rattle.rg_commands.specs.Outcome.{SourceOutcome, HostOutcome, host_outcome, not_given, outcome}
use Rattle.rg_commands.specs.Texts.{PutsUpTo, PutsText, PutsLine, PutsLast, EndsWith, IsOwnLine}

-- Counts that rose.

pub rose_first : (a b c : ℕ) → Rose a b → b ≤ c → Rose a c
rose_first a b c rose later = omega (arith, rose, later)

pub rose_last : (a b c : ℕ) → a ≤ b → Rose b c → Rose a c
rose_last a b c later rose = omega (arith, rose, later)

-- the words name a run
pub runs : (command : Option Command) (first : ℕ) → command ≡ Some (Run first) → IsRun command
runs command first is = subst (λ v. IsRun v) (sym is) tt

-- The last line of a status.

-- a call that refuses neither a plan nor a store nor an input has the last line of its status
own_line : (ending : Ending) → IsOwnLine (ending_status ending) (ending_line ending)
own_line (ends.Refused line refusal) = inl refl
own_line (ends.Store line) = inr (inl refl)
own_line (ends.Gap line) = inr (inr (inl refl))
own_line (ends.Failed status) = inr (inr (inr refl))

pub own_after : {A : Type 0} (done : Result A Ending) → IsOwnLine (status_after done) (line_after done)
own_after (r.Ok value) = inr (inr (inr refl))
own_after (r.Err ending) = own_line ending

-- so at a status that is known
pub own_at : (status known : Status) (last : List ℕ) → IsOwnLine status last → status ≡ known → (BadPlan ≡ known → ⊥) → (Store ≡ known → ⊥) → (Gap ≡ known → ⊥) → last ≡ last_line known
own_at status known last (inl e) is plan store gap = absurd (plan (sym e ∙ is))
own_at status known last (inr (inl e)) is plan store gap = absurd (store (sym e ∙ is))
own_at status known last (inr (inr (inl e))) is plan store gap = absurd (gap (sym e ∙ is))
own_at status known last (inr (inr (inr line))) is plan store gap = line ∙ ap last_line is

pub own_ok : (status : Status) (last : List ℕ) → IsOwnLine status last → status ≡ Ok → last ≡ []
own_ok status last own is = own_at status Ok last own is (λ e. absurd (cc e)) (λ e. absurd (cc e)) (λ e. absurd (cc e))

pub own_write : (status : Status) (last : List ℕ) → IsOwnLine status last → status ≡ Write → last ≡ []
own_write status last own is = own_at status Write last own is (λ e. absurd (cc e)) (λ e. absurd (cc e)) (λ e. absurd (cc e))

-- What was put of a text, and then of the last line.

stops-then : (text : List (List ℕ)) (put part : List ℕ) → StopsWith text [] put → StopsWith text part (put ++ part)
stops-then text put part stops = record {
  lines = stops.lines;
  more = stops.more;
  of_text = stops.of_text;
  is = ap (λ v. v ++ part) (stops.is ∙ append-nil (ended stops.lines));
}

front_of_nothing : (part : List ℕ) → IsPrefix part [] → part ≡ []
front_of_nothing [] front = refl
front_of_nothing (x ∷ part) front = absurd (cc front.1)

-- a prefix of the last line, which is empty where a put failed
put_then : (write : Type 0) (last : List ℕ) (text : List (List ℕ)) (put part : List ℕ) → (write → last ≡ []) → StopsAt write text put → IsPrefix part last → IsPut text last (put ++ part)
put_then write last text put part empty (inl whole) front = inr (part, front, stops-then text put part whole)
put_then write last text put part empty (inr cut) front =
    let none : part ≡ [] = front_of_nothing part (subst (λ v. IsPrefix part v) (empty cut.0) front) in
    inl (subst (λ v. IsPrefix v (ended text)) (sym (ap (λ v. put ++ v) none ∙ append-nil put)) cut.1)

-- the whole last line, unless a put failed
whole_then : (write : Type 0) (last : List ℕ) (text : List (List ℕ)) (put : List ℕ) → StopsAt write text put → StopsWith text last (put ++ last) ⊎ write
whole_then write last text put (inl whole) = inl (stops-then text put last whole)
whole_then write last text put (inr cut) = inr cut.0

-- all lines were put
pub all_put : (text : List (List ℕ)) → StopsWith text [] (ended text)
all_put text = record { lines = text; more = []; of_text = append-nil text; is = sym (append-nil (ended text)) }

pub up_to_all : (text : List (List ℕ)) (h : HostOutcome) (status : Status) → h.puts (ended text) → PutsUpTo text h status
up_to_all text h status puts = record { put = ended text; puts = puts; all = λ ok. refl; stops = inl (all_put text) }

-- of a weaker cause
pub stops_for : (write also : Type 0) → (write → also) → (text : List (List ℕ)) (put : List ℕ) → StopsAt write text put → StopsAt also text put
stops_for write also so text put (inl whole) = inl whole
stops_for write also so text put (inr cut) = inr (so cut.0, cut.1)

-- The last line was put behind what a call did up to it.
module _ {H : Type 0} (g : HostMembers H) (old mid new : H) (last : List ℕ) (e : PutsLast g last mid new) (later : g.out_faults old ≤ g.out_faults mid) where
  pub put_rose : Rose (g.out_faults old) (g.out_faults mid) → Rose (g.out_faults old) (g.out_faults new)
  put_rose rose = rose_first _ _ _ rose e.later

  last_rose : Rose (g.out_faults mid) (g.out_faults new) → Rose (g.out_faults old) (g.out_faults new)
  last_rose rose = rose_last _ _ _ later rose

  pub disk_rose : Rose (g.disk_faults old) (g.disk_faults mid) → Rose (g.disk_faults old) (g.disk_faults new)
  disk_rose rose = subst (λ n. Rose (g.disk_faults old) n) (sym e.disk) rose

  pub files_then : LeavesFiles g.now g.may g.clock g.since old mid → LeavesFiles g.now g.may g.clock g.since old new
  files_then files = leaves_files-then g.now g.may g.clock g.since old mid new files e.leaves

  -- it is whole, unless a put failed
  pub whole : Puts g.said g.clock g.since mid new last ⊎ Rose (g.out_faults old) (g.out_faults new)
  whole = ⊎_elim (λ is. inl (subst (λ v. Puts g.said g.clock g.since mid new v) is e.line.puts)) (λ rose. inr (last_rose rose)) e.line.whole

  pub put_last : EndsWith (g.said new) last ⊎ Rose (g.out_faults old) (g.out_faults new)
  put_last = ⊎_elim (λ all. inl (g.said mid, all.grows)) (λ rose. inr rose) whole

  -- nothing was put but the last line
  pub puts_line : Puts g.said g.clock g.since old mid [] → PutsLine last (host_outcome g old new)
  puts_line none = record {
    part = e.line.part;
    front = e.line.front;
    whole = ⊎_elim (λ is. inl is) (λ rose. inr (last_rose rose)) e.line.whole;
    puts = puts-then g.said g.clock g.since old mid new [] e.line.part none e.line.puts;
  }

  -- a text, and then the last line
  module _ (text : List (List ℕ)) (status : Status) (own : IsOwnLine status last) (failed : status ≡ Write → Rose (g.out_faults old) (g.out_faults mid)) (p : PutsUpTo text (host_outcome g old mid) status) where
    pub puts_all : status ≡ Ok → Puts g.said g.clock g.since old new (ended text)
    puts_all ok =
        let all = subst (λ v. Puts g.said g.clock g.since old mid v) (p.all ok) p.puts in
        subst (λ h. Puts g.said g.clock g.since old h (ended text)) (sym (e.silent (own_ok status last own ok))) all

    pub puts_text : (wanted : List ℕ) → last ≡ wanted → PutsText text wanted (host_outcome g old new) status
    puts_text wanted is = record {
      complete = puts_all;
      put = p.put ++ e.line.part;
      puts = puts-then g.said g.clock g.since old mid new p.put e.line.part p.puts e.line.puts;
      put_so_far = put_then (status ≡ Write) wanted text p.put e.line.part (λ write. sym is ∙ own_write status last own write) p.stops (subst (λ v. IsPrefix e.line.part v) is e.line.front);
      last_line_whole = ⊎_elim
          (λ part. ⊎_elim
          (λ all. inl (subst (λ v. StopsWith text wanted (p.put ++ v)) (sym (part ∙ is)) all))
          (λ write. inr (put_rose (failed write)))
          (whole_then (status ≡ Write) wanted text p.put p.stops))
          (λ rose. inr (last_rose rose))
          e.line.whole;
    }

  -- why it ended so, and what it left alone
  module _ (plan input : SourceOutcome) (command : Option Command) (told : Option Refusal) where
    store_then : StoreCause command (outcome plan input (host_outcome g old mid)) last → StoreCause command (outcome plan input (host_outcome g old new)) last
    store_then (inl shows) = inl shows
    store_then (inr (inl run)) = inr (inl (run.0, subst (λ v. RefusesStore plan.told (g.now old) v input.stays last) (sym e.leaves.now_stays) run.1))
    store_then (inr (inr more)) = inr (inr more)

    pub cause_then : (status : Status) → cause (causes command (outcome plan input (host_outcome g old mid)) last told) status → cause (causes command (outcome plan input (host_outcome g old new)) last told) status
    cause_then Ok c = c
    cause_then Usage c = c
    cause_then BadPlan c = c
    cause_then Store c = store_then c
    cause_then Read c = c
    cause_then Write c = (c.0, put_rose c.1)
    cause_then Disk c = (c.0, disk_rose c.1)
    cause_then Limit c = c
    cause_then Memory c = c
    cause_then Gap c = c
    cause_then Differs c = c

    pub every_then : (status : Status) → IsOwnLine status last → EndsFor command (outcome plan input (host_outcome g old mid)) status last told → EveryCall command (outcome plan input (host_outcome g old new)) status told
    every_then status own ends = record {
      ended = record { last = last; ends = put_last; line = own; why = cause_then status ends.why };
      alone = record {
        plan_unread = ends.alone.plan_unread;
        input_unread = ends.alone.input_unread;
        plan_first = ends.alone.plan_first;
        read_first = λ is. ⊎_elim (λ same. inl (same.0, files_then same.1)) (λ rose. inr rose) (ends.alone.read_first is);
        files_stay = λ why. files_then (ends.alone.files_stay why);
      };
    }

-- A command that reads no input, nor writes a file.
pub alone_by : (command : Option Command) (plan : SourceOutcome) (h : HostOutcome) (status : Status) → ((ReadsPlan command → ⊥) → plan.stays) → h.files_stay → LeavesAlone command (outcome plan not_given h) status
alone_by command plan h status unread files = record {
  plan_unread = unread;
  input_unread = λ no_run. tt;
  plan_first = λ why. tt;
  read_first = λ is. inl (tt, files);
  files_stay = λ why. files;
}

-- So it is, whatever the input is that it isn't given.
module _ (command : Option Command) (no_run : IsRun command → ⊥) (plan input : SourceOutcome) (h : HostOutcome) (last : List ℕ) (told : Option Refusal) where
  store_given : StoreCause command (outcome plan not_given h) last → StoreCause command (outcome plan input h) last
  store_given (inl shows) = inl shows
  store_given (inr (inl run)) = absurd (no_run run.0)
  store_given (inr (inr more)) = inr (inr more)

  read_given : ReadCause command (outcome plan not_given h) → ReadCause command (outcome plan input h)
  read_given (inl failed) = inl failed
  read_given (inr run) = absurd (no_run run.1)

  limit_given : LimitCause command (outcome plan not_given h) → LimitCause command (outcome plan input h)
  limit_given (inl long) = inl long
  limit_given (inr run) = absurd (no_run run.1)

  cause_given : (status : Status) → cause (causes command (outcome plan not_given h) last told) status → cause (causes command (outcome plan input h) last told) status
  cause_given Ok c = (c.0, (λ run. absurd (no_run run)), c.2)
  cause_given Usage c = c
  cause_given BadPlan c = c
  cause_given Store c = store_given c
  cause_given Read c = read_given c
  cause_given Write c = c
  cause_given Disk c = c
  cause_given Limit c = limit_given c
  cause_given Memory c = c
  cause_given Gap c = absurd (no_run (runs command c.0 c.1))
  cause_given Differs c = c

pub every_given : (command : Option Command) → (IsRun command → ⊥) → (plan input : SourceOutcome) (h : HostOutcome) (status : Status) (told : Option Refusal) → input.stays → EveryCall command (outcome plan not_given h) status told → EveryCall command (outcome plan input h) status told
every_given command no_run plan input h status told same every = record {
  ended = record { last = every.ended.last; ends = every.ended.ends; line = every.ended.line; why = cause_given command no_run plan input h every.ended.last told status every.ended.why };
  alone = record {
    plan_unread = every.alone.plan_unread;
    input_unread = λ no_run. same;
    plan_first = λ why. same;
    read_first = λ is. inl (same, every.alone.files_stay (inl no_run));
    files_stay = every.alone.files_stay;
  };
}

-- And whatever the plan is, where it reads none.
module _ (command : Option Command) (no_plan : ReadsPlan command → ⊥) (no_run : IsRun command → ⊥) (no_replay : IsReplay command → ⊥) (no_verify : IsVerify command → ⊥) (plan input : SourceOutcome) (h : HostOutcome) (last : List ℕ) where
  store_alone : StoreCause command (outcome not_given not_given h) last → StoreCause command (outcome plan input h) last
  store_alone (inl shows) = inl shows
  store_alone (inr (inl run)) = absurd (no_run run.0)
  store_alone (inr (inr (inl replay))) = absurd (no_replay replay.0)
  store_alone (inr (inr (inr verify))) = absurd (no_verify verify.0)

  disk_alone : DiskCause command (outcome not_given not_given h) → DiskCause command (outcome plan input h)
  disk_alone (inl shows, rose) = (inl shows, rose)
  disk_alone (inr (inl run), rose) = absurd (no_run run.0)
  disk_alone (inr (inr (inl replay)), rose) = absurd (no_replay replay.0)
  disk_alone (inr (inr (inr verify)), rose) = absurd (no_verify verify.0)

  cause_alone : (given told : Option Refusal) (status : Status) → cause (causes command (outcome not_given not_given h) last given) status → cause (causes command (outcome plan input h) last told) status
  cause_alone given told Ok c = ((λ reads. absurd (no_plan reads)), (λ run. absurd (no_run run)), c.2)
  cause_alone given told Usage c = c
  cause_alone given told BadPlan c = absurd (no_plan c.0)
  cause_alone given told Store c = store_alone c
  cause_alone given told Read c = absurd (⊎_elim (λ failed. failed) (λ run. no_run run.1) c)
  cause_alone given told Write c = ((λ reads. absurd (no_plan reads)), c.1)
  cause_alone given told Disk c = disk_alone c
  cause_alone given told Limit c = absurd (⊎_elim (λ long. no_plan long.0) (λ run. no_run run.1) c)
  cause_alone given told Memory c = c
  cause_alone given told Gap c = absurd (no_run (runs command c.0 c.1))
  cause_alone given told Differs c = absurd (no_verify c.0)

pub every_alone : (command : Option Command) → (ReadsPlan command → ⊥) → (IsRun command → ⊥) → (IsReplay command → ⊥) → (IsVerify command → ⊥) → (plan input : SourceOutcome) (h : HostOutcome) (status : Status) (given told : Option Refusal) →
    plan.stays → input.stays → EveryCall command (outcome not_given not_given h) status given → EveryCall command (outcome plan input h) status told
every_alone command no_plan no_run no_replay no_verify plan input h status given told same also every = record {
  ended = record { last = every.ended.last; ends = every.ended.ends; line = every.ended.line; why = cause_alone command no_plan no_run no_replay no_verify plan input h every.ended.last given told status every.ended.why };
  alone = record {
    plan_unread = λ unread. same;
    input_unread = λ unread. also;
    plan_first = λ why. also;
    read_first = λ is. inl (also, every.alone.files_stay (inl no_run));
    files_stay = λ why. every.alone.files_stay (inl no_run);
  };
}

pub no_bytes : (xs : List ℕ) → length xs ≡ 0 → xs ≡ []
no_bytes [] none = refl
no_bytes (x ∷ xs) none = absurd (omega (arith, none))

-- what a put of the last line leaves
pub line_put_by : {A E : Type 0} (h : HostOutcome) (last : List ℕ) (result : Result A E) → OnOk result (h.puts last) → ((part : List ℕ) × IsPrefix part last × h.puts part) → OnErr result h.put_failed → PutsLine last h
line_put_by h last (r.Ok value) all part failed = record { part = last; front = ([], append-nil last); whole = inl refl; puts = all }
line_put_by h last (r.Err error) all part failed = record { part = part.0; front = part.1; whole = inr failed; puts = part.2 }
