-- How a verify goes and ends.
use Rattle.std.proofs.Common.{◌≡◌, ◌⊎◌, inl, inr, ⊎_elim, ℕ, ◌≤◌, true, false, List, [], Option, Some, None, refl, ap, sym, ◌∙◌, subst}
use Rattle.std.specs.Prelude.{IfSome, ⊤}
use Rattle.std.specs.Option.{ForSome}
use Rattle.rg_bytes.specs.Counts.{Rose}
use Rattle.rg_event.specs.declared.event.Event.{Event}
use Rattle.rg_plan.specs.Plans.{Tasks, plan_for}
use Rattle.rg_engine.specs.Feeding.{Serves}
use Rattle.rg_config.specs.Plans.{Planned, planned}
use Rattle.rg_config.specs.Read.{IsReadPlan}
use Rattle.rg_config.specs.declared.plan.Plan.{Plan}
use Rattle.rg_host.specs.Image.{Image}
use Rattle.rg_host.specs.Moments.{Moment}
use Rattle.rg_host.specs.Puts.{Puts}
use Rattle.rg_host.specs.declared.host.Host.{Ghosts as HostMembers}
use Rattle.rg_dump.specs.Dump.{damage_of}
use Rattle.rg_open.specs.Truth.{texts_of}
use Rattle.rg_open.specs.Unfit.{HasOtherSchema}
use Rattle.rg_verify.specs.Faults.{IsFromOutside}
use Rattle.rg_verify.specs.Fitting.{terms_of}
use Rattle.rg_verify.specs.Verify.{IsVerifiable, IsSaid, IsCut}
use Rattle.rg_verify.specs.declared.fault.VerifyFault.{VerifyFault}
use Rattle.rg_verify.specs.declared.fault.VerifyFault.TheVariants as verify
use Rattle.rg_messages.specs.Statuses.{last_line}
use Rattle.rg_messages.specs.declared.refusal.Refusal.{Refusal}
use Rattle.rg_messages.specs.declared.status.Status.{Status}
use Rattle.rg_messages.specs.declared.status.Status.TheVariants.{Ok, Usage, Plan as BadPlan, Store, Read, Write, Disk, Limit, Memory, Gap, Differs}
use Rattle.rg_commands.specs.declared.command.Command.TheVariants.{Verify}
use Rattle.rg_commands.specs.Plan.{IsPlan}
use Rattle.rg_commands.specs.Call.{damage_line, schema_line}
use Rattle.rg_commands.specs.Causes.{cause, causes, EndsFor}
use Rattle.rg_commands.specs.Outcome.{SourceOutcome, HostOutcome, host_outcome, not_given, outcome}
use Rattle.rg_commands.specs.Texts.{PutsLine, PutsLast, IsOwnLine}
use Rattle.rg_commands.specs.Unread.{UnreadFor, GoesBy}
use Rattle.rg_commands.specs.Verifies.{terms_for, IsReadyVerify, ToldVerify, EndsVerify, IsWhole, IsOfOther, IsVerifyLast, IsRefusedStore, SaysSlots, is_differs, VerifyEnds, VerifiesStore, VerifyPromises}
use Rattle.rg_commands.proofs.Plans.{legal_of, bytes_ask}
use Rattle.rg_commands.proofs.Ends.{put_rose, disk_rose, puts_line}
use Rattle.rg_commands.proofs.Unread.{never_unread, unread_fails, idle_put, idle_later, refuses_plan, ends_by}
use Rattle.rg_commands.proofs.Replaying.{fails_line}

-- The fault, and what it is told by.

-- it is one that a verify of a legal log may have
abbrev Outside : VerifyFault → Type 0
Outside verify.Disk = ⊤
Outside verify.Memory = ⊤
Outside verify.Write = ⊤
Outside other = ⊥

outside : (cause : VerifyFault) → IsFromOutside cause → Outside cause
outside cause (inl e) = subst Outside (sym e) tt
outside cause (inr (inl e)) = subst Outside (sym e) tt
outside cause (inr (inr e)) = subst Outside (sym e) tt

-- a store that is ready for a verify is one that the plan's terms are held against
verifiable : (plan : Planned) (now : Option Image) → Serves plan.shape.fields (plan_for plan.queries) → (ready : IsReadyVerify plan now) → IsVerifiable (terms_for plan) plan.defaults ready.image ready.events
verifiable plan now serves ready = record { has = ready.has; serves = serves }

-- a plan that was read has these terms
pub terms_same : (plan : Plan) → IsReadPlan plan → terms_of plan.queries plan.schema plan.task ≡ terms_for (planned plan)
terms_same plan is =
    ap (λ (queries : List (List ℕ)). terms_of queries plan.schema plan.task) is.printed ∙ ap (λ (tasks : Tasks). terms_of (texts_of plan.schema (planned plan).queries) plan.schema tasks) is.task

pub verifiable_as : (plan : Plan) (now : Option Image) → IsReadPlan plan → Serves plan.schema.fields (plan_for (planned plan).queries) → (ready : IsReadyVerify (planned plan) now) → IsVerifiable (terms_of plan.queries plan.schema plan.task) plan.defaults ready.image ready.events
verifiable_as plan now is serves ready = subst (λ t. IsVerifiable t plan.defaults ready.image ready.events) (sym (terms_same plan is)) (verifiable (planned plan) now serves ready)

-- The causes of a fault, and what was put.
module _ (plan : Planned) (h : HostOutcome) (last : List ℕ) (status : Status) where
  silent_at : (cause : VerifyFault) → (cause ≡ verify.Write → ⊥) → (cause ≡ verify.Write) ⊎ h.puts [] → h.puts []
  silent_at cause not (inl write) = absurd (not write)
  silent_at cause not (inr none) = none

  pub row_of : (cause : VerifyFault) → EndsVerify cause status last → (IsReadyVerify plan h.image → IsFromOutside cause) → (cause ≡ verify.SchemaDiffers → ForSome h.image (IsOfOther plan)) → ((p : ℕ) → cause ≡ verify.Damaged p → ForSome h.image (λ v. damage_of (v 2) ≡ Some p)) →
      (cause ≡ verify.Disk → h.disk_failed) → (cause ≡ verify.Write → h.put_failed) → (cause ≡ verify.Write) ⊎ h.puts [] → (cause ≡ verify.Write → (ready : IsReadyVerify plan h.image) → IsCut (terms_for plan) ready.image ready.events h.puts) → VerifyEnds plan h last status
  row_of verify.Disk ends legal differs damaged disk write silent cut = subst (VerifyEnds plan h last) (sym ends.0) (silent_at verify.Disk (λ e. absurd (cc e)) silent, disk refl, ends.1)
  row_of (verify.Damaged p) (inl says) legal differs damaged disk write silent cut =
      subst (VerifyEnds plan h last) (sym says.0) (silent_at (verify.Damaged p) (λ e. absurd (cc e)) silent, record { unready = λ ready. outside (verify.Damaged p) (legal ready); line = inr (p, says.1, damaged p refl) })
  row_of (verify.Damaged p) (inr fails) legal differs damaged disk write silent cut = subst (VerifyEnds plan h last) (sym fails.0) (silent_at (verify.Damaged p) (λ e. absurd (cc e)) silent, fails.1)
  row_of verify.SchemaDiffers (inl says) legal differs damaged disk write silent cut =
      subst (VerifyEnds plan h last) (sym says.0) (silent_at verify.SchemaDiffers (λ e. absurd (cc e)) silent, record { unready = λ ready. outside verify.SchemaDiffers (legal ready); line = inl (says.1, differs refl) })
  row_of verify.SchemaDiffers (inr fails) legal differs damaged disk write silent cut = subst (VerifyEnds plan h last) (sym fails.0) (silent_at verify.SchemaDiffers (λ e. absurd (cc e)) silent, fails.1)
  row_of verify.Memory ends legal differs damaged disk write silent cut = subst (VerifyEnds plan h last) (sym ends.0) (silent_at verify.Memory (λ e. absurd (cc e)) silent, ends.1)
  row_of verify.Write ends legal differs damaged disk write silent cut = subst (VerifyEnds plan h last) (sym ends.0) (cut refl, write refl, ends.1)

-- all lines were put: the log is none that is refused
pub fits : (plan : Planned) (now : Option Image) → ForSome now (λ v. damage_of (v 2) ≡ None) → ((v : Image) → now ≡ Some v → HasOtherSchema plan v → ⊥) → (v : Image) → now ≡ Some v → IsRefusedStore plan v → ⊥
fits plan now undamaged ours v told (inl other) = ours v told other
fits plan now undamaged ours v told (inr damaged) = let e : None ≡ Some damaged.0 = sym (undamaged v told) ∙ damaged.1 in absurd (cc)

-- the causes of a verify by a legal plan
row_cause : (plan : SourceOutcome) (asks : Planned) → IfSome plan.told (λ bytes. IsPlan bytes asks) → (h : HostOutcome) (last : List ℕ) (told : Option Refusal) (status : Status) → VerifyEnds asks h last status → cause (causes (Some Verify) (outcome plan not_given h) last told) status
row_cause plan asks legal h last told Ok row = ((λ reads. legal_of plan.told asks legal), (λ run. absurd run), (λ shows. absurd shows))
row_cause plan asks legal h last told Usage row = absurd row
row_cause plan asks legal h last told BadPlan row = absurd row
row_cause plan asks legal h last told Store row = inr (inr (inr (tt, record { asks = asks; legal = legal; refusal = row.1 })))
row_cause plan asks legal h last told Read row = absurd row
row_cause plan asks legal h last told Write row = ((λ reads. legal_of plan.told asks legal), row.1)
row_cause plan asks legal h last told Disk row = (inr (inr (inr (tt, legal_of plan.told asks legal))), row.1)
row_cause plan asks legal h last told Limit row = absurd row
row_cause plan asks legal h last told Memory row = tt
row_cause plan asks legal h last told Gap row = absurd row
row_cause plan asks legal h last told Differs row = (tt, legal_of plan.told asks legal)

-- nothing was put but where all lines were, or a put failed, and the last line says why the store is refused, or is the status's
row_silent : (asks : Planned) (h : HostOutcome) (last : List ℕ) (status : Status) → VerifyEnds asks h last status → (IsWhole status → ⊥) → (status ≡ Write → ⊥) → h.puts [] × IsVerifyLast asks h.image status last
row_silent asks h last Ok row whole write = absurd (whole (inl refl))
row_silent asks h last Usage row whole write = absurd row
row_silent asks h last BadPlan row whole write = absurd row
row_silent asks h last Store row whole write = (row.0, inl (refl, row.1.line))
row_silent asks h last Read row whole write = absurd row
row_silent asks h last Write row whole write = absurd (write refl)
row_silent asks h last Disk row whole write = (row.0, inr row.2)
row_silent asks h last Limit row whole write = absurd row
row_silent asks h last Memory row whole write = (row.0, inr row.1)
row_silent asks h last Gap row whole write = absurd row
row_silent asks h last Differs row whole write = absurd (whole (inr refl))

-- where no put and no call on a file failed
row_completes : (asks : Planned) (h : HostOutcome) (last : List ℕ) → (h.put_failed ⊎ h.disk_failed → ⊥) → (status : Status) → VerifyEnds asks h last status → IsWhole status ⊎ (status ≡ Memory) ⊎ (status ≡ Store)
row_completes asks h last none Ok row = inl (inl refl)
row_completes asks h last none Usage row = absurd row
row_completes asks h last none BadPlan row = absurd row
row_completes asks h last none Store row = inr (inr refl)
row_completes asks h last none Read row = absurd row
row_completes asks h last none Write row = absurd (none (inl row.1))
row_completes asks h last none Disk row = absurd (none (inr row.1))
row_completes asks h last none Limit row = absurd row
row_completes asks h last none Memory row = inr (inl refl)
row_completes asks h last none Gap row = absurd row
row_completes asks h last none Differs row = inl (inr refl)

-- all lines were put: at the two statuses
module _ (asks : Planned) (h : HostOutcome) (last : List ℕ) (status : Status) (row : VerifyEnds asks h last status) where
  at_row : (known : Status) → status ≡ known → VerifyEnds asks h last known
  at_row known is = subst (VerifyEnds asks h last) is row

  whole_line : IsWhole status → last ≡ []
  whole_line (inl is) = (at_row Ok is).0
  whole_line (inr is) = (at_row Differs is).0

  whole_said : IsWhole status → (ready : IsReadyVerify asks h.image) → SaysSlots ready h (is_differs status)
  whole_said (inl is) ready = subst (λ d. SaysSlots ready h d) (sym (ap is_differs is)) ((at_row Ok is).1 ready)
  whole_said (inr is) ready = subst (λ d. SaysSlots ready h d) (sym (ap is_differs is)) ((at_row Differs is).1 ready)

  whole_fit : IsWhole status → (v : Image) → h.image ≡ Some v → IsRefusedStore asks v → ⊥
  whole_fit (inl is) = (at_row Ok is).2
  whole_fit (inr is) = (at_row Differs is).2

-- With the last line.
module _ {H : Type 0} (g : HostMembers H) (only : (h : H) (m : Moment) → g.since h (g.clock h) m → g.may h m.image × ForSome (g.said h) (λ t. m.said ≡ t)) (sinks : (h : H) (t u : ℕ) (m : Moment) → t ≤ u → g.since h u m → g.since h t m) (old mid new : H)
    (plan : SourceOutcome) (last : List ℕ) (told : Option Refusal) (status : Status) (e : PutsLast g last mid new) (own : IsOwnLine status last) where
  abbrev Goes : Planned → Type 0
  Goes asks = VerifiesStore asks (host_outcome g old mid) status last

  abbrev By : Type 0
  By = GoesBy plan last told status (mid ≡ old) Goes

  pub verify_ends : By → EndsFor (Some Verify) (outcome plan not_given (host_outcome g old mid)) status last told
  verify_ends by = ends_by g only sinks old mid new plan last told status e own (Some Verify) Goes tt by
      (λ asks legal goes. (row_cause plan asks legal (host_outcome g old mid) last told status goes.ends, goes.files, goes.later))

  unread_whole : UnreadFor plan last told status → IsWhole status → ⊥
  unread_whole u (inl ok) = never_unread plan last told status u Ok ok
  unread_whole u (inr differs) = never_unread plan last told status u Differs differs

  -- by the plan that is told
  module _ (bytes : List ℕ) (asks : Planned) (is : plan.told ≡ Some bytes) (says : IsPlan bytes asks) where
    row_at : (p : Planned) → IfSome plan.told (λ b. IsPlan b p) → Goes p → VerifyEnds asks (host_outcome g old mid) last status
    row_at p legal goes = subst (λ q. VerifyEnds q (host_outcome g old mid) last status) (bytes_ask plan.told p legal bytes asks is says) goes.ends

    said_by : By → IsWhole status → (ready : IsReadyVerify asks (g.now old)) → SaysSlots ready (host_outcome g old new) (is_differs status)
    said_by (inl u) whole ready = absurd (unread_whole u.0 whole)
    said_by (inr by) whole ready =
        let row = row_at by.0 by.1 by.2 in
        subst (λ h. SaysSlots ready (host_outcome g old h) (is_differs status)) (sym (e.silent (whole_line asks (host_outcome g old mid) last status row whole))) (whole_said asks (host_outcome g old mid) last status row whole ready)

    cut_by : By → status ≡ Write → (ready : IsReadyVerify asks (g.now old)) → IsCut (terms_for asks) ready.image ready.events (Puts g.said g.clock g.since old new)
    cut_by (inl u) write ready = absurd (never_unread plan last told status u.0 Write write)
    cut_by (inr by) write ready =
        let row = at_row asks (host_outcome g old mid) last status (row_at by.0 by.1 by.2) Write write in
        subst (λ h. IsCut (terms_for asks) ready.image ready.events (Puts g.said g.clock g.since old h)) (sym (e.silent row.2)) (row.0 ready)

    silent_by : By → (IsWhole status → ⊥) → (status ≡ Write → ⊥) → (line : List ℕ) × IsVerifyLast asks (g.now old) status line × PutsLine line (host_outcome g old new)
    silent_by (inl u) whole write = (last, inr (fails_line plan.failed status last (unread_fails plan last told status u.0 bytes is asks says)).0, puts_line g old mid new last e (idle_later g only sinks old mid u.1) (idle_put g only sinks old mid u.1))
    silent_by (inr by) whole write =
        let none = row_silent asks (host_outcome g old mid) last status (row_at by.0 by.1 by.2) whole write in
        (last, none.1, puts_line g old mid new last e by.2.later none.0)

    fit_by : By → IsWhole status → (v : Image) → g.now old ≡ Some v → IsRefusedStore asks v → ⊥
    fit_by (inl u) whole v = absurd (unread_whole u.0 whole)
    fit_by (inr by) whole v = whole_fit asks (host_outcome g old mid) last status (row_at by.0 by.1 by.2) whole v

    never_by : By → IsReadyVerify asks (g.now old) → status ≡ Store → ⊥
    never_by (inl u) ready store = never_unread plan last told status u.0 Store store
    never_by (inr by) ready store = (at_row asks (host_outcome g old mid) last status (row_at by.0 by.1 by.2) Store store).1.unready ready

    completes_by : By → (plan.failed ⊎ Rose (g.out_faults old) (g.out_faults new) ⊎ Rose (g.disk_faults old) (g.disk_faults new) → ⊥) → IsWhole status ⊎ (status ≡ Memory) ⊎ (status ≡ Store)
    completes_by (inl u) none = ⊎_elim (λ m. inr (inl m.0)) (λ more. ⊎_elim (λ d. absurd (never_unread plan last told status u.0 Disk d.0)) (λ read. absurd (none (inl read.1))) more) (unread_fails plan last told status u.0 bytes is asks says)
    completes_by (inr by) none = row_completes asks (host_outcome g old mid) last (λ rose. none (inr (⊎_elim (λ put. inl (put_rose g old mid new last e by.2.later put)) (λ disk. inr (disk_rose g old mid new last e by.2.later disk)) rose))) status (row_at by.0 by.1 by.2)

  pub verify_promises : By → VerifyPromises plan (host_outcome g old new) status
  verify_promises by = record {
    verified = λ whole told. said_by told.plan_bytes told.asks told.plan_is told.says by whole told.ready;
    verify_cut = λ write told. cut_by told.plan_bytes told.asks told.plan_is told.says by write told.ready;
    verify_silent = λ bytes asks is says whole write. silent_by bytes asks is says by whole write;
    verify_fit = λ whole bytes asks v is says now. fit_by bytes asks is says by whole v now;
    verify_never = λ told store. never_by told.plan_bytes told.asks told.plan_is told.says by told.ready store;
    completes_verify = λ bytes asks is says none. completes_by bytes asks is says by none;
    refused_plan = refuses_plan g only sinks old mid new plan last told status e own (mid ≡ old) Goes (λ same. same) by;
  }
