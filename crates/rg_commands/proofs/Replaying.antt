-- How a replay goes and ends.
use Rattle.std.proofs.Common.{◌≡◌, ◌⊎◌, inl, inr, ⊎_elim, ℕ, ◌<◌, ◌≤◌, List, [], ◌++◌, length, Option, Some, Result, refl, ap, sym, ◌∙◌, subst, arith}
use Rattle.std.specs.Prelude as r
use Rattle.std.specs.Prelude.{IfSome, ⊤}
use Rattle.std.specs.Option.{ForSome}
use Rattle.rg_bytes.specs.Counts.{Rose}
use Rattle.rg_plan.specs.Plans.{Tasks, plan_for}
use Rattle.rg_engine.specs.Feeding.{Serves}
use Rattle.rg_config.specs.Plans.{Planned}
use Rattle.rg_host.specs.Image.{Image}
use Rattle.rg_host.specs.Lines.{ended}
use Rattle.rg_host.specs.Moments.{Moment}
use Rattle.rg_host.specs.Puts.{IsPrefix, Puts, StopsWith}
use Rattle.rg_host.specs.declared.host.Host.{Ghosts as HostMembers}
use Rattle.rg_explain.specs.Stops.{StopsAt}
use Rattle.rg_reservoir.specs.Attached.{IsOther, IsBadFrame, IsIllegalSince}
use Rattle.rg_task.specs.Terms.{terms_of}
use Rattle.rg_run.specs.Begun.{Begun, course_for, lines_in}
use Rattle.rg_replay.specs.Replay.{replay_text}
use Rattle.rg_replay.specs.Runs.{text_of_left}
use Rattle.rg_replay.proofs.Laws.{same_text_from}
use Rattle.rg_replay.specs.Playing.{IsReplayable, IsExpected, StopsIn}
use Rattle.rg_replay.specs.declared.fault.ReplayFault.{ReplayFault}
use Rattle.rg_replay.specs.declared.fault.ReplayFault.TheVariants as replay
use Rattle.rg_messages.specs.Statuses.{last_line}
use Rattle.rg_messages.specs.declared.refusal.Refusal.{Refusal}
use Rattle.rg_messages.specs.declared.status.Status.{Status}
use Rattle.rg_messages.specs.declared.status.Status.TheVariants.{Ok, Usage, Plan as BadPlan, Store, Read, Write, Disk, Limit, Memory, Gap, Differs}
use Rattle.rg_commands.specs.declared.command.Command.TheVariants.{Replay}
use Rattle.rg_commands.specs.Plan.{IsPlan}
use Rattle.rg_commands.specs.Call.{damage_line, schema_line, state_line}
use Rattle.rg_commands.specs.Causes.{cause, causes, EndsFor}
use Rattle.rg_commands.specs.Outcome.{SourceOutcome, HostOutcome, host_outcome, not_given, outcome}
use Rattle.rg_commands.specs.Replays.{IsReadyReplay, ToldReplay, text_of_replay, EndsReplay, IsUnreplayable, IsReplayLine, IsReplayRefusal, ReplayEnds, ReplaysStore, ReplaysWhole, RefusesReplay, PutsRefusal, ReplayPromises}
use Rattle.rg_commands.specs.Texts.{PutsUpTo, PutsText, PutsLast, EndsWith, IsOwnLine}
use Rattle.rg_commands.specs.TurnedAway.{EndsFailed}
use Rattle.rg_commands.specs.Unread.{UnreadFor, GoesBy}
use Rattle.rg_commands.proofs.Plans.{legal_of, bytes_ask}
use Rattle.rg_commands.proofs.Ends.{own_ok, put_last, put_rose, disk_rose, puts_line, puts_text, up_to_all}
use Rattle.rg_commands.proofs.Unread.{never_unread, unread_fails, idle_put, idle_later, idle_up_to, refuses_plan, ends_by}

-- The fault, and what it is told by.

-- it is one that a replay of a legal log may have
abbrev Expected : ReplayFault → Type 0
Expected replay.Disk = ⊤
Expected replay.Memory = ⊤
Expected replay.Write = ⊤
Expected other = ⊥

expected : (cause : ReplayFault) → IsExpected cause → Expected cause
expected cause (inl e) = subst Expected (sym e) tt
expected cause (inr (inl e)) = subst Expected (sym e) tt
expected cause (inr (inr e)) = subst Expected (sym e) tt

write_is : (cause : ReplayFault) (status : Status) (last : List ℕ) → EndsReplay cause status last → cause ≡ replay.Write → status ≡ Write
write_is cause status last ends is = let e : EndsReplay replay.Write status last = subst (λ c. EndsReplay c status last) is ends in e.0

-- a store that is ready for a replay is one that the plan's tasks are replayed over
pub replayable : (plan : Planned) (tasks : Tasks) (now : Option Image) (may : Image → Type 0) → tasks ≡ plan_for plan.queries → Serves plan.shape.fields (plan_for plan.queries) → (ready : IsReadyReplay plan now may) → IsReplayable plan.queries ready.events tasks plan.shape now may
replayable plan tasks now may made serve ready = record {
  image = ready.image;
  told = ready.told;
  settled = ready.settled;
  has = ready.has;
  made = made;
  serves = subst (Serves plan.shape.fields) (sym made) serve;
}

-- The causes of a fault; `ok` is what has to hold where the status were Ok.
module _ (plan : Planned) (h : HostOutcome) (last : List ℕ) (status : Status) where
  pub row_of : (ok : Type 0) (cause : ReplayFault) → EndsReplay cause status last → (IsReadyReplay plan h.image h.may → IsExpected cause) → (cause ≡ replay.SchemaDiffers → ForSome h.image (λ v. IsOther plan.shape (v 2))) →
      ((p : ℕ) → cause ≡ replay.Damaged p → ForSome h.image (λ v. IsBadFrame p (v 2)) ⊎ ForSome h.image (λ v. IsIllegalSince plan.shape (v 2) p (v 2))) →
      (cause ≡ replay.Disk → h.disk_failed) → (cause ≡ replay.Write → h.put_failed) → ReplayEnds ok plan h last status
  row_of ok replay.Disk ends legal differs damaged disk write = subst (ReplayEnds ok plan h last) (sym ends.0) (disk refl, ends.1)
  row_of ok (replay.Damaged p) (inl says) legal differs damaged disk write =
      subst (ReplayEnds ok plan h last) (sym says.0) (record { unready = λ ready. expected (replay.Damaged p) (legal ready); line = inr (inl (p, says.1, damaged p refl)) })
  row_of ok (replay.Damaged p) (inr fails) legal differs damaged disk write = subst (ReplayEnds ok plan h last) (sym fails.0) fails.1
  row_of ok replay.SchemaDiffers (inl says) legal differs damaged disk write =
      subst (ReplayEnds ok plan h last) (sym says.0) (record { unready = λ ready. expected replay.SchemaDiffers (legal ready); line = inl (says.1, differs refl) })
  row_of ok replay.SchemaDiffers (inr fails) legal differs damaged disk write = subst (ReplayEnds ok plan h last) (sym fails.0) fails.1
  row_of ok (replay.BadState n) (inl says) legal differs damaged disk write =
      subst (ReplayEnds ok plan h last) (sym says.0) (record { unready = λ ready. expected (replay.BadState n) (legal ready); line = inr (inr (n, says.1)) })
  row_of ok (replay.BadState n) (inr fails) legal differs damaged disk write = subst (ReplayEnds ok plan h last) (sym fails.0) fails.1
  row_of ok replay.Memory ends legal differs damaged disk write = subst (ReplayEnds ok plan h last) (sym ends.0) ends.1
  row_of ok replay.Write ends legal differs damaged disk write = subst (ReplayEnds ok plan h last) (sym ends.0) (write refl, ends.1)

-- What was put of its text, at a fault.
pub stopped : (text : List (List ℕ)) (h : HostOutcome) (cause : ReplayFault) (status : Status) (last : List ℕ) → EndsReplay cause status last → (status ≡ Ok → ⊥) → StopsIn text h.puts cause → PutsUpTo text h status
stopped text h cause status last ends not_ok stops = record {
  put = stops.0;
  puts = stops.1;
  all = λ ok. absurd (not_ok ok);
  stops = ⊎_elim (λ whole. inl whole) (λ cut. inr (write_is cause status last ends cut.0, cut.1)) stops.2;
}

-- What a row says where it is known which it is.
module _ (ok : Type 0) (plan : Planned) (h : HostOutcome) (last : List ℕ) (status : Status) (row : ReplayEnds ok plan h last status) where
  at_row : (known : Status) → status ≡ known → ReplayEnds ok plan h last known
  at_row known is = subst (ReplayEnds ok plan h last) is row

-- the causes of a replay by a legal plan
row_cause : (first : ℕ) (plan : SourceOutcome) (asks : Planned) → IfSome plan.told (λ bytes. IsPlan bytes asks) → (h : HostOutcome) (last : List ℕ) (told : Option Refusal) (status : Status) → ReplayEnds (last ≡ []) asks h last status →
    cause (causes (Some (Replay first)) (outcome plan not_given h) last told) status
row_cause first plan asks legal h last told Ok row = ((λ reads. legal_of plan.told asks legal), (λ run. absurd run), (λ shows. absurd shows))
row_cause first plan asks legal h last told Usage row = absurd row
row_cause first plan asks legal h last told BadPlan row = absurd row
row_cause first plan asks legal h last told Store row = inr (inr (inl (tt, record { asks = asks; legal = legal; refusal = row })))
row_cause first plan asks legal h last told Read row = absurd row
row_cause first plan asks legal h last told Write row = ((λ reads. legal_of plan.told asks legal), row.0)
row_cause first plan asks legal h last told Disk row = (inr (inr (inl (tt, legal_of plan.told asks legal))), row.0)
row_cause first plan asks legal h last told Limit row = absurd row
row_cause first plan asks legal h last told Memory row = tt
row_cause first plan asks legal h last told Gap row = absurd row
row_cause first plan asks legal h last told Differs row = absurd row

-- the last line, which says why the store is refused, or is the status's
row_line : (asks : Planned) (h : HostOutcome) (last : List ℕ) (status : Status) → ReplayEnds (last ≡ []) asks h last status → ((status ≡ Store) × IsReplayLine asks h.image last) ⊎ (last ≡ last_line status)
row_line asks h last Ok row = inr row
row_line asks h last Usage row = absurd row
row_line asks h last BadPlan row = absurd row
row_line asks h last Store row = inl (refl, row.line)
row_line asks h last Read row = absurd row
row_line asks h last Write row = inr row.1
row_line asks h last Disk row = inr row.1
row_line asks h last Limit row = absurd row
row_line asks h last Memory row = inr row
row_line asks h last Gap row = absurd row
row_line asks h last Differs row = absurd row

-- where no put and no call on a file failed
row_completes : (asks : Planned) (h : HostOutcome) (last : List ℕ) → (h.put_failed ⊎ h.disk_failed → ⊥) → (status : Status) → ReplayEnds (last ≡ []) asks h last status → (status ≡ Ok) ⊎ (status ≡ Memory) ⊎ (status ≡ Store)
row_completes asks h last none Ok row = inl refl
row_completes asks h last none Usage row = absurd row
row_completes asks h last none BadPlan row = absurd row
row_completes asks h last none Store row = inr (inr refl)
row_completes asks h last none Read row = absurd row
row_completes asks h last none Write row = absurd (none (inl row.0))
row_completes asks h last none Disk row = absurd (none (inr row.0))
row_completes asks h last none Limit row = absurd row
row_completes asks h last none Memory row = inr (inl refl)
row_completes asks h last none Gap row = absurd row
row_completes asks h last none Differs row = absurd row

-- a plan that was not taken: it ended for want of memory, or since a read failed
pub fails_line : (unread : Type 0) (status : Status) (last : List ℕ) → EndsFailed unread status last → (last ≡ last_line status) × (status ≡ Store → ⊥)
fails_line unread status last (inl m) = (m.1 ∙ ap last_line (sym m.0), (λ is. absurd (let e : Memory ≡ Store = sym m.0 ∙ is in cc)))
fails_line unread status last (inr (inl d)) = (d.1 ∙ ap last_line (sym d.0), (λ is. absurd (let e : Disk ≡ Store = sym d.0 ∙ is in cc)))
fails_line unread status last (inr (inr read)) = (read.0.1 ∙ ap last_line (sym read.0.0), (λ is. absurd (let e : Read ≡ Store = sym read.0.0 ∙ is in cc)))

-- With the last line.
module _ {H : Type 0} (g : HostMembers H) (only : (h : H) (m : Moment) → g.since h (g.clock h) m → g.may h m.image × ForSome (g.said h) (λ t. m.said ≡ t)) (sinks : (h : H) (t u : ℕ) (m : Moment) → t ≤ u → g.since h u m → g.since h t m) (old mid new : H)
    (first : ℕ) (plan : SourceOutcome) (last : List ℕ) (told : Option Refusal) (status : Status) (e : PutsLast g last mid new) (own : IsOwnLine status last) where
  abbrev Goes : Planned → Type 0
  Goes asks = ReplaysStore first asks (host_outcome g old mid) status last

  abbrev By : Type 0
  By = GoesBy plan last told status (mid ≡ old) Goes

  pub replay_ends : By → EndsFor (Some (Replay first)) (outcome plan not_given (host_outcome g old mid)) status last told
  replay_ends by = ends_by g only sinks old mid new plan last told status e own (Some (Replay first)) Goes tt by
      (λ asks legal goes. (row_cause first plan asks legal (host_outcome g old mid) last told status goes.why, goes.files, goes.later))

  whole_by : By → status ≡ Ok → ReplaysWhole plan.told (g.now old)
  whole_by (inl u) ok = absurd (never_unread plan last told status u.0 Ok ok)
  whole_by (inr by) ok = record { asks = by.0; legal = by.1; whole = by.2.whole ok }

  why_by : By → status ≡ Store → (l : List ℕ) × (EndsWith (g.said new) l ⊎ Rose (g.out_faults old) (g.out_faults new)) × RefusesReplay plan.told (g.now old) (g.may old) l
  why_by (inl u) store = absurd (never_unread plan last told status u.0 Store store)
  why_by (inr by) store = (
    last,
    put_last g old mid new last e by.2.later,
    record { asks = by.0; legal = by.1; refusal = at_row (last ≡ []) by.0 (host_outcome g old mid) last status by.2.why Store store },
  )

  -- over a store that is ready, by the plan that is told
  module _ (bytes : List ℕ) (asks : Planned) (is : plan.told ≡ Some bytes) (says : IsPlan bytes asks) where
    goes_at : (p : Planned) → IfSome plan.told (λ b. IsPlan b p) → Goes p → Goes asks
    goes_at p legal goes = subst Goes (bytes_ask plan.told p legal bytes asks is says) goes

    put_by : By → (ready : IsReadyReplay asks (g.now old) (g.may old)) → PutsText (replay_text asks.queries first ready.events) (last_line status) (host_outcome g old new) status
    put_by (inl u) ready = puts_text g old mid new last e (idle_later g only sinks old mid u.1) (replay_text asks.queries first ready.events) status own (λ write. absurd (never_unread plan last told status u.0 Write write))
        (idle_up_to g only sinks old mid u.1 (replay_text asks.queries first ready.events) status (λ ok. never_unread plan last told status u.0 Ok ok)) (last_line status) (fails_line plan.failed status last (unread_fails plan last told status u.0 bytes is asks says)).0
    put_by (inr by) ready =
        let goes = goes_at by.0 by.1 by.2 in
        let row = goes.why in
        puts_text g old mid new last e goes.later (replay_text asks.queries first ready.events) status own (λ write. (at_row (last ≡ []) asks (host_outcome g old mid) last status row Write write).0) (goes.put ready) (last_line status)
        (⊎_elim (λ store. absurd ((at_row (last ≡ []) asks (host_outcome g old mid) last status row Store store.0).unready ready)) (λ line. line) (row_line asks (host_outcome g old mid) last status row))

    never_by : By → IsReadyReplay asks (g.now old) (g.may old) → status ≡ Store → ⊥
    never_by (inl u) ready store = never_unread plan last told status u.0 Store store
    never_by (inr by) ready store = let goes = goes_at by.0 by.1 by.2 in (at_row (last ≡ []) asks (host_outcome g old mid) last status goes.why Store store).unready ready

    refused_by : By → (v : Image) → g.now old ≡ Some v → IsUnreplayable asks v → PutsRefusal asks (host_outcome g old new) status
    refused_by (inl u) v now unfit = record {
      not_ok = λ ok. never_unread plan last told status u.0 Ok ok;
      last = last;
      says = inr (fails_line plan.failed status last (unread_fails plan last told status u.0 bytes is asks says)).0;
      line = puts_line g old mid new last e (idle_later g only sinks old mid u.1) (idle_put g only sinks old mid u.1);
    }
    refused_by (inr by) v now unfit =
        let goes = goes_at by.0 by.1 by.2 in
        let none = goes.unfit v now unfit in
        record { not_ok = none.0; last = last; says = row_line asks (host_outcome g old mid) last status goes.why; line = puts_line g old mid new last e goes.later none.1 }

    completes_by : By → (plan.failed ⊎ Rose (g.out_faults old) (g.out_faults new) ⊎ Rose (g.disk_faults old) (g.disk_faults new) → ⊥) → (status ≡ Ok) ⊎ (status ≡ Memory) ⊎ (status ≡ Store)
    completes_by (inl u) none = ⊎_elim (λ m. inr (inl m.0)) (λ more. ⊎_elim (λ d. absurd (never_unread plan last told status u.0 Disk d.0)) (λ read. absurd (none (inl read.1))) more) (unread_fails plan last told status u.0 bytes is asks says)
    completes_by (inr by) none =
        let goes = goes_at by.0 by.1 by.2 in
        row_completes asks (host_outcome g old mid) last (λ rose. none (inr (⊎_elim (λ put. inl (put_rose g old mid new last e goes.later put)) (λ disk. inr (disk_rose g old mid new last e goes.later disk)) rose))) status goes.why

  pub replay_promises : By → ReplayPromises first plan (host_outcome g old new) status
  replay_promises by = record {
    replayed = λ ok told. (put_by told.plan_bytes told.asks told.plan_is told.says by told.ready).complete ok;
    same_as_run = λ ok told ran count left.
        subst (λ (text : List (List ℕ)). Puts g.said g.clock g.since old new (ended text)) (same_text_from first (terms_of told.asks) ran.held ran.first (lines_in ran) count told.ready.events left)
        ((put_by told.plan_bytes told.asks told.plan_is told.says by told.ready).complete ok);
    replay_put = λ told. put_by told.plan_bytes told.asks told.plan_is told.says by told.ready;
    replay_refused = λ bytes asks v is says now unfit. refused_by bytes asks is says by v now unfit;
    whole = whole_by by;
    refused_of = why_by by;
    replay_never = λ told store. never_by told.plan_bytes told.asks told.plan_is told.says by told.ready store;
    completes_replay = λ bytes asks is says none. completes_by bytes asks is says by none;
    refused_plan = refuses_plan g only sinks old mid new plan last told status e own (mid ≡ old) Goes (λ same. same) by;
  }
