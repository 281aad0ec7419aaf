-- All that a run promises.
use Rattle.std.proofs.Common.{◌≡◌, ◌⊎◌, inl, inr, ⊎_elim, ℕ, ◌<◌, ◌≤◌, ◌^◌, List, length, Option, Some, None, refl, sym, ◌∙◌, subst, arith}
use Rattle.std.specs.Option.{ForSome}
use Rattle.rg_bytes.specs.Counts.{Rose}
use Rattle.rg_bytes.specs.Known.{IsAtEnd}
use Rattle.rg_event.specs.declared.event.Event.{Event}
use Rattle.rg_event.specs.Rising.{next_offset}
use Rattle.rg_host.specs.Image.{Image}
use Rattle.rg_host.specs.Moments.{Moment}
use Rattle.rg_host.specs.declared.host.Host.{Ghosts as HostMembers}
use Rattle.rg_config.specs.Plans.{Planned}
use Rattle.rg_host.proofs.Laws.{moments-none, moments_then}
use Rattle.rg_run_spec.specs.Stores.{HasAtLeast}
use Rattle.rg_recover.specs.Answered.{HoldsLog}
use Rattle.rg_open.specs.Stores.{Has, store_of}
use Rattle.rg_open.specs.Unfit.{IsUnfit, IsLeftAlone}
use Rattle.rg_open.specs.Within.{IsWithinOpening}
use Rattle.rg_recover.proofs.Laws.{none_alone, none_within}
use Rattle.rg_run.specs.Reading.{IsLonger}
use Rattle.rg_messages.specs.declared.refusal.Refusal.{Refusal}
use Rattle.rg_messages.specs.declared.status.Status.{Status}
use Rattle.rg_messages.specs.declared.status.Status.TheVariants.{Ok, Usage, Plan as BadPlan, Store, Read, Write, Disk, Limit, Memory, Gap, Differs}
use Rattle.rg_commands.specs.declared.command.Command.TheVariants.{Run}
use Rattle.rg_commands.specs.Plan.{IsPlan}
use Rattle.rg_commands.specs.Causes.{cause, causes, LimitCause, EndsFor}
use Rattle.rg_commands.specs.Outcome.{SourceOutcome, host_outcome, Outcome, outcome}
use Rattle.rg_commands.specs.Runs.{ToldRun, ToldStore, told_store, begun_in, Went, IsIdle, RunsStore, RunsBy, KeepsLog, RunPromises}
use Rattle.rg_commands.specs.Texts.{PutsLast, IsOwnLine}
use Rattle.rg_commands.specs.TurnedAway.{EndsUnfit, EndsBehind}
use Rattle.rg_commands.proofs.Plans.{not_refused}
use Rattle.rg_commands.proofs.Ends.{cause_then}
use Rattle.rg_commands.proofs.Unread.{never_unread, unread_fails, refuses_plan}
use Rattle.rg_commands.proofs.Carrying.{went_unread, went_at, goes_at}
use Rattle.rg_commands.proofs.Telling.{runs_on}
use Rattle.rg_commands.proofs.TurnedAway.{failed_for, turned_away, lies_behind, unfit_status, behind_status}

-- Where no count rose, a run over a store that is ready ends well, for want of memory, or since it begins behind the store.
module _ (first : ℕ) (o : Outcome) (last : List ℕ) (told : Option Refusal) (t : ToldRun o) (within : length t.input_bytes ≤ 2 ^ 50) (none : o.plan.failed ⊎ o.input.failed ⊎ o.host.put_failed ⊎ o.host.disk_failed → ⊥) where
  too_long : LimitCause (Some (Run first)) o → ⊥
  too_long (inl long) = let more = subst (λ v. IsLonger 65536 v) t.plan_is long.1 in omega (arith, more, t.says.within)
  too_long (inr long) = let more = subst (λ v. IsLonger (2 ^ 50) v) t.input_is long.2 in omega (arith, more, within)

  ends_well : (status : Status) → (status ≡ Store → ⊥) → (status ≡ Gap → ⊥) → cause (causes (Some (Run first)) o last told) status → (status ≡ Ok) ⊎ (status ≡ Memory)
  ends_well Ok no_store no_gap c = inl refl
  ends_well Usage no_store no_gap c = absurd (let e : Some (Run first) ≡ None = c in cc)
  ends_well BadPlan no_store no_gap c = absurd (not_refused o.plan.told last told t.plan_bytes t.asks t.plan_is t.says c.1)
  ends_well Store no_store no_gap c = absurd (no_store refl)
  ends_well Read no_store no_gap c = absurd (⊎_elim (λ failed. none (inl failed)) (λ failed. none (inr (inl failed.2))) c)
  ends_well Write no_store no_gap c = absurd (none (inr (inr (inl c.1))))
  ends_well Disk no_store no_gap c = absurd (none (inr (inr (inr c.1))))
  ends_well Limit no_store no_gap c = absurd (too_long c)
  ends_well Memory no_store no_gap c = inr refl
  ends_well Gap no_store no_gap c = absurd (no_gap refl)
  ends_well Differs no_store no_gap c = absurd c.0

module _ {H : Type 0} (g : HostMembers H) (now_may : (h : H) (w : Image) → g.now h ≡ Some w → g.may h w) (only : (h : H) (m : Moment) → g.since h (g.clock h) m → g.may h m.image × ForSome (g.said h) (λ t. m.said ≡ t)) (sinks : (h : H) (t u : ℕ) (m : Moment) → t ≤ u → g.since h u m → g.since h t m)
    (old mid new : H) (first : ℕ) (plan input : SourceOutcome) (last : List ℕ) (told : Option Refusal) (status : Status) (e : PutsLast g last mid new) (own : IsOwnLine status last) where
  abbrev after : Outcome
  after = outcome plan input (host_outcome g old new)

  abbrev By : Type 0
  By = RunsBy g first plan input status last told old mid

  went_by : By → (t : ToldRun after) → (from : ℕ) × Went g t.asks (begun_in t from first) t.ready.openable.image input.left (input.stays × plan.failed) status last old mid
  went_by (inl u) t = (0, subst (λ h. Went g t.asks (begun_in t 0 first) t.ready.openable.image input.left (input.stays × plan.failed) status last old h) (sym u.1.host) (went_unread g only sinks old plan input last told status u.0 new u.1.input t 0 first))
  went_by (inr by) t = went_at g first plan input status last old mid new by.0 by.1 by.2 t

  behind_by : By → (t : ToldStore after) (keep : Option ℕ) → next_offset t.store.held < first →
      input.stays × IsWithinOpening g.may g.clock g.since g.said t.asks keep t.store.openable.image old mid × EndsBehind first (next_offset t.store.held) plan.failed status last
  behind_by (inl u) t keep late = (
    u.1.input,
    subst (λ h. IsWithinOpening g.may g.clock g.since g.said t.asks keep t.store.openable.image old h) (sym u.1.host) (none_within g.may g.clock g.since g.said only sinks t.asks keep t.store.openable.image old),
    inr (unread_fails plan last told status u.0 t.plan_bytes t.plan_is t.asks t.says),
  )
  behind_by (inr by) t keep late =
      let at = (goes_at g first plan input status last old mid new by.0 by.1 by.2 t.plan_bytes t.asks t.plan_is t.says).behind t.store keep late in
      (at.0, at.1, ⊎_elim (λ says. inl says) (λ failed. inr (failed_for plan.failed status last failed)) at.2)

  unfit_by : By → (bytes : List ℕ) (asks : Planned) (v : Image) → plan.told ≡ Some bytes → IsPlan bytes asks → g.now old ≡ Some v → IsUnfit asks v →
      input.stays × IsLeftAlone g.now g.may g.clock g.since g.said v old mid × EndsUnfit asks v plan.failed status last
  unfit_by (inl u) bytes asks v is says now unfit = (
    u.1.input,
    subst (λ h. IsLeftAlone g.now g.may g.clock g.since g.said v old h) (sym u.1.host) (none_alone g.now g.may g.clock g.since g.said now_may only sinks v old now),
    inr (unread_fails plan last told status u.0 bytes is asks says),
  )
  unfit_by (inr by) bytes asks v is says now unfit =
      let at = (goes_at g first plan input status last old mid new by.0 by.1 by.2 bytes asks is says).unfit v now unfit in
      (at.0, at.1, ⊎_elim (λ says. inl says) (λ failed. inr (failed_for plan.failed status last failed)) at.2)

  log_by : By → (bytes : List ℕ) (asks : Planned) (v : Image) (events : List Event) → plan.told ≡ Some bytes → IsPlan bytes asks → g.now old ≡ Some v → Has asks events v → HoldsLog g.may g.clock g.since asks events old mid
  log_by (inl u) bytes asks v events is says now has = subst (λ h. HoldsLog g.may g.clock g.since asks events old h) (sym u.1.host) (record {
    moments = moments-none g.clock g.since old (λ m. g.may old m.image ⊎ HasAtLeast (store_of asks) events m.image) (λ t v m. sinks old t v m) (λ m at. inl (only old m at).0);
    left = λ w left. inl left;
  })
  log_by (inr by) bytes asks v events is says now has = (goes_at g first plan input status last old mid new by.0 by.1 by.2 bytes asks is says).log v events now has

  log_kept : (asks : Planned) (events : List Event) → HoldsLog g.may g.clock g.since asks events old mid → KeepsLog asks events (host_outcome g old new)
  log_kept asks events log = record {
    moments = moments_then g.clock g.since old mid new _ _ (λ m. g.may old m.image ⊎ HasAtLeast (store_of asks) events m.image) log.moments e.leaves.moments (λ m h. h) (λ m h. log.left m.image h);
    left = λ u left. log.left u (e.leaves.may_stays.no_more u left);
  }

  end_by : By → status ≡ Ok → IsAtEnd input.left
  end_by (inl u) ok = absurd (never_unread plan last told status u.0 Ok ok)
  end_by (inr by) ok = by.2.at_end ok

  gap_by : By → status ≡ Ok → (bytes : List ℕ) (asks : Planned) (v : Image) (events : List Event) → plan.told ≡ Some bytes → IsPlan bytes asks → g.now old ≡ Some v → Has asks events v → first ≤ next_offset events
  gap_by (inl u) ok bytes asks v events is says now has = absurd (never_unread plan last told status u.0 Ok ok)
  gap_by (inr by) ok bytes asks v events is says now has = (goes_at g first plan input status last old mid new by.0 by.1 by.2 bytes asks is says).no_gap ok v events now has

  late_by : By → status ≡ Gap → (bytes : List ℕ) (asks : Planned) (v : Image) (events : List Event) → plan.told ≡ Some bytes → IsPlan bytes asks → g.now old ≡ Some v → Has asks events v → next_offset events < first
  late_by (inl u) gap bytes asks v events is says now has = absurd (never_unread plan last told status u.0 Gap gap)
  late_by (inr by) gap bytes asks v events is says now has = (goes_at g first plan input status last old mid new by.0 by.1 by.2 bytes asks is says).gap gap v events now has

  never_by : By → (t : ToldStore after) → status ≡ Store → ⊥
  never_by (inl u) t store = never_unread plan last told status u.0 Store store
  never_by (inr by) t store = (goes_at g first plan input status last old mid new by.0 by.1 by.2 t.plan_bytes t.asks t.plan_is t.says).never_damaged t.store.openable store

  module _ (ends : EndsFor (Some (Run first)) (outcome plan input (host_outcome g old mid)) status last told) where
    why : cause (causes (Some (Run first)) after last told) status
    why = cause_then g old mid new last e ends.later plan input (Some (Run first)) told status ends.why

    disk : status ≡ Disk → Rose (g.disk_faults old) (g.disk_faults new)
    disk is = (subst (λ s. cause (causes (Some (Run first)) after last told) s) is why).1

    put : status ≡ Write → Rose (g.out_faults old) (g.out_faults mid)
    put is = (subst (λ s. cause (causes (Some (Run first)) (outcome plan input (host_outcome g old mid)) last told) s) is ends.why).1

    pub run_promises : By → RunPromises first after status
    run_promises by = record {
      ran = λ t.
          let w = went_by by t in
          (w.0, last, runs_on g t.asks (begun_in t w.0 first) t.ready.openable.image input.left (input.stays × plan.failed) status last old mid new w.1 t.ready.told e ends.later t.ready.openable.truthful put);
      log_stays = λ bytes asks v events is says now has. log_kept asks events (log_by by bytes asks v events is says now has);
      input_read = λ ok. end_by by ok;
      no_gap = λ ok bytes asks v events is says now has. gap_by by ok bytes asks v events is says now has;
      gap_never = λ gap bytes asks v events is says now has. late_by by gap bytes asks v events is says now has;
      behind = λ t slot late. let at = behind_by by t (Some slot) late in (at.0, lies_behind g old mid new last e ends.later t.asks plan.failed status t.store first slot at.1 at.2);
      store_always = λ bytes asks v is says now unfit. let at = unfit_by by bytes asks v is says now unfit in (at.0, turned_away g old mid new last e ends.later asks plan.failed status v at.1 at.2);
      store_never = λ t store. never_by by t store;
      completes_run = λ t within begins none. ends_well first after last told t within none status (λ store. never_by by (told_store t) store) (λ gap. let late = late_by by gap t.plan_bytes t.asks t.ready.openable.image t.ready.held t.plan_is t.says t.ready.openable.told t.ready.has in omega (arith, late, begins)) why;
      completes_gap = λ t late none. behind_status first (next_offset t.store.held) plan.failed (Rose (g.disk_faults old) (g.disk_faults new)) status last (behind_by by t None late).2 disk none;
      completes_store = λ bytes asks v is says now unfit none. unfit_status asks v plan.failed (Rose (g.disk_faults old) (g.disk_faults new)) status last (unfit_by by bytes asks v is says now unfit).2 disk none;
      refused_plan = refuses_plan g only sinks old mid new plan last told status e own (IsIdle (mid ≡ old) input.stays) (λ asks. RunsStore g first asks input status last old mid) (λ idle. idle.host) by;
    }
