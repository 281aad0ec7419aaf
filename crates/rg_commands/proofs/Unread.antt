-- A plan that was not taken.
use Rattle.std.proofs.Common.{◌≡◌, ◌⊎◌, inl, inr, ⊎_elim, ℕ, ◌+◌, ◌≤◌, ◌<◌, List, [], length, Option, Some, None, Result, refl, ap, sym, ◌∙◌, subst, arith}
use Rattle.std.specs.Prelude as r
use Rattle.std.specs.Prelude.{IfSome}
use Rattle.std.specs.Option.{ForSome}
use Rattle.std.proofs.lemmas.List.{length-append}
use Rattle.rg_bytes.specs.Known.{after, before, IsAtEnd}
use Rattle.rg_config.specs.Plans.{Planned, Tells, Says}
use Rattle.rg_config.specs.declared.fault.ConfigFault.{ConfigFault}
use Rattle.rg_config.specs.declared.fault.ConfigFault.TheVariants as config
use Rattle.rg_host.specs.Moments.{Moment, LeavesFiles}
use Rattle.rg_host.specs.Puts.{Puts}
use Rattle.rg_host.specs.declared.host.Host.{Ghosts as HostMembers}
use Rattle.rg_host.proofs.Laws.{puts-nothing, leaves_files-none}
use Rattle.rg_explain.proofs.Laws.{nothing_whole}
use Rattle.rg_run.specs.Reading.{IsLonger}
use Rattle.rg_messages.specs.Statuses.{last_line}
use Rattle.rg_messages.specs.declared.refusal.Refusal.{Refusal}
use Rattle.rg_messages.specs.declared.status.Status.{Status}
use Rattle.rg_messages.specs.declared.status.Status.TheVariants.{Ok, Usage, Plan as BadPlan, Store, Read, Write, Disk, Limit, Memory, Gap, Differs}
use Rattle.rg_commands.specs.declared.command.Command.{Command}
use Rattle.rg_commands.specs.declared.ending.Ending.{Ending}
use Rattle.rg_commands.specs.declared.ending.Ending.TheVariants as ends
use Rattle.rg_commands.specs.Plan.{IsPlan, IsRefusal}
use Rattle.rg_commands.specs.Call.{ReadsPlan, IsCarried, TellsFault, EndsBy, line_for, plan_status, refusal_of, refusal_line, status_by, ending_status, ending_line, ending_refusal}
use Rattle.rg_commands.specs.Causes.{cause, causes, EndsFor, EveryCall}
use Rattle.rg_commands.specs.Outcome.{SourceOutcome, HostOutcome, host_outcome, not_given, outcome}
use Rattle.rg_commands.specs.Texts.{PutsUpTo, PutsByPlan, PutsLast, IsOwnLine, RefusesPlan}
use Rattle.rg_commands.specs.TurnedAway.{EndsFailed}
use Rattle.rg_commands.specs.Unread.{UnreadFor, GoesBy}
use Rattle.rg_commands.proofs.Inputs.{told_all}
use Rattle.rg_commands.proofs.Plans.{carried, told_refusal, not_refused, status_within, status_longer}
use Rattle.rg_commands.proofs.Ends.{alone_by, puts_text}

-- Why it was not.

-- all bytes were taken, and say no plan
pub unread_refused : (plan : SourceOutcome) (now : Option (List ℕ)) (bytes : List ℕ) → plan.told ≡ before bytes now → IsAtEnd now → length bytes ≤ 65536 → (cause : ConfigFault) (ending : Ending) → EndsBy cause ending → ((cause ≡ config.Memory → ⊥) → Says bytes (r.Err cause)) →
    UnreadFor plan (ending_line ending) (ending_refusal ending) (ending_status ending)
unread_refused plan now bytes took end within cause (ends.Refused line refusal) by says =
    let is : IsRefusal bytes cause = record { within = within; says = says by.1 } in
    told_all (λ b. (refused : Refusal) × (Some refusal ≡ Some refused) × IsRefusal b refused.fault × (line.items ≡ refusal_line refused.fault)) plan.told now bytes took end
    (refusal, refl, subst (λ f. IsRefusal bytes f) (sym by.2) is, by.0 ∙ ap refusal_line (sym by.2))
unread_refused plan now bytes took end within cause (ends.Store line) by says = absurd by
unread_refused plan now bytes took end within cause (ends.Gap line) by says = absurd by
unread_refused plan now bytes took end within cause (ends.Failed status) by says = subst (λ s. UnreadFor plan (last_line s) None s) (sym by) refl

-- more bytes were taken than a plan may have
pub long_taken : (plan now : Option (List ℕ)) (got : List ℕ) → plan ≡ before got now → length got ≡ 65536 + 1 → IsLonger 65536 plan
long_taken plan (Some rest) got took size = subst (λ v. IsLonger 65536 v) (sym took) (omega (arith, size, length-append got rest))
long_taken plan None got took size = subst (λ v. IsLonger 65536 v) (sym took) tt

-- what the bytes say
pub told_fault : (bytes : List ℕ) (cause : ConfigFault) → Tells bytes (r.Err cause) → (cause ≡ config.Memory → ⊥) → Says bytes (r.Err cause)
told_fault bytes config.Toml tells not = tells
told_fault bytes config.Stream tells not = tells
told_fault bytes (config.Defaults why) tells not = tells
told_fault bytes (config.Settings why) tells not = tells
told_fault bytes (config.Query number why) tells not = tells
told_fault bytes config.Memory tells not = absurd (not refl)

-- What follows for each status.
module _ (plan : SourceOutcome) (last : List ℕ) (told : Option Refusal) where
  by_row : (P : Status → Type 0) → (TellsFault plan.told last told → P BadPlan) → (plan.failed × (last ≡ last_line Read) → P Read) → (IsLonger 65536 plan.told × (last ≡ last_line Limit) → P Limit) → (last ≡ last_line Memory → P Memory) →
      (status : Status) → UnreadFor plan last told status → P status
  by_row P bad read limit memory Ok u = absurd u
  by_row P bad read limit memory Usage u = absurd u
  by_row P bad read limit memory BadPlan u = bad u
  by_row P bad read limit memory Store u = absurd u
  by_row P bad read limit memory Read u = read u
  by_row P bad read limit memory Write u = absurd u
  by_row P bad read limit memory Disk u = absurd u
  by_row P bad read limit memory Limit u = limit u
  by_row P bad read limit memory Memory u = memory u
  by_row P bad read limit memory Gap u = absurd u
  by_row P bad read limit memory Differs u = absurd u

  module _ (status : Status) (u : UnreadFor plan last told status) where
    -- so it is no other status
    pub never_unread : (other : Status) → status ≡ other → UnreadFor plan last told other
    never_unread other is = subst (λ s. UnreadFor plan last told s) is u

    pub unread_cause : (command : Option Command) (input : SourceOutcome) (h : HostOutcome) → ReadsPlan command → cause (causes command (outcome plan input h) last told) status
    unread_cause command input h reads = by_row (λ s. cause (causes command (outcome plan input h) last told) s) (λ bad. (reads, bad)) (λ read. inl read.0) (λ long. inl (reads, long.0)) (λ m. tt) status u

    module _ (bytes : List ℕ) (is : plan.told ≡ Some bytes) where
      too_long : IsLonger 65536 plan.told → 65536 < length bytes
      too_long long = subst (λ v. IsLonger 65536 v) is long

      -- where legal bytes are told, a read failed or memory ran out
      pub unread_fails : (asks : Planned) → IsPlan bytes asks → EndsFailed plan.failed status last
      unread_fails asks says = by_row (λ s. EndsFailed plan.failed s last)
          (λ bad. absurd (not_refused plan.told last told bytes asks is says bad))
          (λ read. inr (inr ((refl, read.1), read.0)))
          (λ long. absurd (let more = too_long long.0 in omega (arith, more, says.within)))
          (λ m. inl (refl, m))
          status u

      unread_line : (asks : Result Planned ConfigFault) → Says bytes asks → last ≡ line_for asks status
      unread_line asks says = by_row (λ s. last ≡ line_for asks s)
          (λ bad. let at = told_refusal plan.told last told bytes asks is says bad in at.2 ∙ ap refusal_of (sym at.1))
          (λ read. read.1)
          (λ long. long.1)
          (λ m. m)
          status u

      unread_status : (asks : Result Planned ConfigFault) → Says bytes asks → (plan.failed → ⊥) → (status ≡ plan_status bytes asks) ⊎ (status ≡ Memory)
      unread_status asks says none = by_row (λ s. (s ≡ plan_status bytes asks) ⊎ (s ≡ Memory))
          (λ bad. let at = told_refusal plan.told last told bytes asks is says bad in inl (sym (status_within bytes asks at.3 ∙ ap status_by at.1)))
          (λ read. absurd (none read.0))
          (λ long. inl (sym (status_longer bytes asks (too_long long.0))))
          (λ m. inr refl)
          status u

-- Nothing was done.
module _ {H : Type 0} (g : HostMembers H) (only : (h : H) (m : Moment) → g.since h (g.clock h) m → g.may h m.image × ForSome (g.said h) (λ t. m.said ≡ t)) (sinks : (h : H) (t u : ℕ) (m : Moment) → t ≤ u → g.since h u m → g.since h t m) (old : H) where
  pub nothing_put : Puts g.said g.clock g.since old old []
  nothing_put = puts-nothing g.said g.clock g.since old (λ t v m. sinks old t v m) (λ m. only old m)

  pub files_left : LeavesFiles g.now g.may g.clock g.since old old
  files_left = leaves_files-none g.now g.may g.clock g.since old (λ t v m. sinks old t v m) (λ m at. (only old m at).0)

  pub none_up_to : (text : List (List ℕ)) (status : Status) → (status ≡ Ok → ⊥) → PutsUpTo text (host_outcome g old old) status
  none_up_to text status not_ok = record { put = []; puts = nothing_put; all = λ ok. absurd (not_ok ok); stops = inl (nothing_whole text) }

  -- and so far up to a state that is the same
  module _ (mid : H) (same : mid ≡ old) where
    pub idle_put : Puts g.said g.clock g.since old mid []
    idle_put = subst (λ h. Puts g.said g.clock g.since old h []) (sym same) nothing_put

    pub idle_files : LeavesFiles g.now g.may g.clock g.since old mid
    idle_files = subst (λ h. LeavesFiles g.now g.may g.clock g.since old h) (sym same) files_left

    pub idle_later : g.out_faults old ≤ g.out_faults mid
    idle_later = subst (λ h. g.out_faults old ≤ g.out_faults h) (sym same) (omega arith)

    pub idle_up_to : (text : List (List ℕ)) (status : Status) → (status ≡ Ok → ⊥) → PutsUpTo text (host_outcome g old mid) status
    idle_up_to text status not_ok = subst (λ h. PutsUpTo text (host_outcome g old h) status) (sym same) (none_up_to text status not_ok)

    -- A plan that was not taken, with the last line.
    module _ (new : H) (plan : SourceOutcome) (last : List ℕ) (told : Option Refusal) (status : Status) (u : UnreadFor plan last told status) (e : PutsLast g last mid new) (own : IsOwnLine status last) where
      -- the text of a plan that isn't legal
      pub unread_puts : (text : List (List ℕ)) (bytes : List ℕ) (asks : Result Planned ConfigFault) → plan.told ≡ Some bytes → Says bytes asks → PutsByPlan text bytes asks plan (host_outcome g old new) status
      unread_puts text bytes asks is says = record {
        put = puts_text g old mid new last e idle_later text status own (λ write. absurd (never_unread plan last told status u Write write)) (idle_up_to text status (λ ok. never_unread plan last told status u Ok ok)) (line_for asks status)
            (unread_line plan last told status u bytes is asks says);
        completes = λ none. unread_status plan last told status u bytes is asks says (λ failed. none (inl failed));
      }

-- A plan that is refused, whatever the command.
module _ {H : Type 0} (g : HostMembers H) (only : (h : H) (m : Moment) → g.since h (g.clock h) m → g.may h m.image × ForSome (g.said h) (λ t. m.said ≡ t)) (sinks : (h : H) (t u : ℕ) (m : Moment) → t ≤ u → g.since h u m → g.since h t m) (old mid new : H)
    (plan : SourceOutcome) (last : List ℕ) (told : Option Refusal) (status : Status) (e : PutsLast g last mid new) (own : IsOwnLine status last) where
  pub refuses_plan : (Nothing : Type 0) (Goes : Planned → Type 0) → (Nothing → mid ≡ old) → GoesBy plan last told status Nothing Goes → RefusesPlan plan (host_outcome g old new) status
  refuses_plan Nothing Goes idle (inl u) bytes asks is says none = unread_puts g only sinks old mid (idle u.1) new plan last told status u.0 e own [] bytes asks is says
  refuses_plan Nothing Goes idle (inr by) bytes asks is says none = absurd (carried plan.told by.0 by.1 bytes asks is says none)

  -- why it ended up to its last line, of a command that reads no input and writes no file
  pub ends_by : (command : Option Command) (Goes : Planned → Type 0) → ReadsPlan command → GoesBy plan last told status (mid ≡ old) Goes →
      ((asks : Planned) → IfSome plan.told (λ bytes. IsPlan bytes asks) → Goes asks → cause (causes command (outcome plan not_given (host_outcome g old mid)) last told) status × LeavesFiles g.now g.may g.clock g.since old mid × (g.out_faults old ≤ g.out_faults mid)) →
      EndsFor command (outcome plan not_given (host_outcome g old mid)) status last told
  ends_by command Goes reads (inl u) so = record {
    why = unread_cause plan last told status u.0 command not_given (host_outcome g old mid) reads;
    alone = alone_by command plan (host_outcome g old mid) status (λ unread. absurd (unread reads)) (idle_files g only sinks old mid u.1);
    later = idle_later g only sinks old mid u.1;
  }
  ends_by command Goes reads (inr by) so =
      let at = so by.0 by.1 by.2 in
      record {
        why = at.0;
        alone = alone_by command plan (host_outcome g old mid) status (λ unread. absurd (unread reads)) at.1;
        later = at.2;
      }

-- Words that are no form of a command.
pub usage_every : {H : Type 0} (g : HostMembers H) (old new : H) → PutsLast g (last_line Usage) old new → (plan input : SourceOutcome) → plan.stays → input.stays → (told : Option Refusal) → EveryCall None (outcome plan input (host_outcome g old new)) Usage told
usage_every g old new e plan input same also told = record {
  ended = record { last = last_line Usage; ends = ⊎_elim (λ is. inl (g.said old, e.line.puts.grows ∙ ap (λ v. after (g.said old) v) is)) (λ rose. inr rose) e.line.whole; line = inr (inr (inr refl)); why = refl };
  alone = record {
    plan_unread = λ unread. same;
    input_unread = λ unread. also;
    plan_first = λ why. also;
    read_first = λ is. inl (also, e.leaves);
    files_stay = λ why. e.leaves;
  };
}
