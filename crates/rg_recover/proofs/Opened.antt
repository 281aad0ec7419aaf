-- A whole run, from its opening and its lines.
use Rattle.std.proofs.Common.{◌≡◌, ◌⊎◌, inl, inr, ⊎_elim, ℕ, ◌<◌, ◌≤◌, List, [], Option, Some, None, Result, Err, refl, sym, ◌∙◌, subst, arith}
use Rattle.std.specs.Prelude.{IfErr, IsErrOf}
use Rattle.std.specs.Option.{ForSome}
use Rattle.rg_bytes.specs.Counts.{Rose}
use Rattle.rg_host.specs.Image.{Image}
use Rattle.rg_host.specs.Moments.{Moment}
use Rattle.rg_host.proofs.Laws.{moments_then}
use Rattle.rg_event.specs.Rising.{next_offset}
use Rattle.rg_event.specs.declared.event.Event.{Event}
use Rattle.rg_config.specs.Plans.{Planned}
use Rattle.rg_state.specs.Changes.{Marks}
use Rattle.rg_state.specs.Rows.{Cells}
use Rattle.rg_reservoir.specs.Attached.{IsIllegalOpened}
use Rattle.rg_reservoir.specs.Chain.{IsIllegalBy}
use Rattle.rg_reservoir.specs.Kept.{base, view_of}
use Rattle.rg_run_spec.specs.Stores.{HasAtLeast, StaysOnCourse, StaysOnCourseSince}
use Rattle.rg_open.specs.Blame.{IsPlaced}
use Rattle.rg_open.specs.Stores.{store_of}
use Rattle.rg_open.specs.Within.{IsWithinOpening}
use Rattle.rg_recover.specs.Sessions.{Sitting, events_of, stored_of}
use Rattle.rg_recover.specs.Answered.{StaysTrue, StaysHeld, Explains, CountsGrow}
use Rattle.rg_run.specs.Begun.{Begun, course_for}
use Rattle.rg_run.specs.Turning.{HasStoppedIn}
use Rattle.rg_recover.specs.LivingLaws.{running_placed}
use Rattle.rg_recover.specs.Ready.{IsReadyRun, IsReadyStore, begun_by}
use Rattle.rg_recover.specs.RunFaults.{IsGapOrFailed}
use Rattle.rg_recover.specs.Opened.{IsToBegin, IsOpened, IsTurnedAway, OpensOnly}
use Rattle.rg_recover.specs.Runs.{RunsReady, RefusesUnfit, HasCause, IsWholeRun}
use Rattle.rg_recover.specs.Ran.{IsUnopened, IsLeft, Ran}
use Rattle.rg_run.specs.declared.fault.RunFault.{RunFault}
use Rattle.rg_run.specs.declared.fault.RunFault.TheVariants.{Damaged, SchemaDiffers, BadState, Gap, Read, Limit, Write, Disk}
use Rattle.rg_recover.proofs.Beginning.{opening_moments, unopened, to_begin, numbers}
use Rattle.rg_recover.proofs.Nodes.{ready_node}
use Rattle.rg_recover.proofs.OpeningLog.{opening_log, opened_log}
use Rattle.rg_recover.proofs.Openings.{err_is, on_ok_by, if_err_by}

-- a store that is ready is opened but for a gap, a disk or memory
not_bad : (fault : RunFault) → IsGapOrFailed fault → (n : ℕ) → fault ≡ BadState n → ⊥
not_bad fault may n is = subst IsGapOrFailed is may

not_damaged : (fault : RunFault) → IsGapOrFailed fault → (p : ℕ) → fault ≡ Damaged p → ⊥
not_damaged fault may p is = subst IsGapOrFailed is may

not_differs : (fault : RunFault) → IsGapOrFailed fault → fault ≡ SchemaDiffers → ⊥
not_differs fault may is = subst IsGapOrFailed is may

module _ {H I : Type 0} (now : H → Option Image) (may : H → Image → Type 0) (clock : H → ℕ) (since : H → ℕ → Moment → Type 0) (said : H → Option (List ℕ)) (disk_faults out_faults : H → ℕ) (left : I → Option (List ℕ)) (faults : I → ℕ) (plan : Planned) (first : ℕ) (input : I) (old mid : H) (only : OpensOnly now may clock since said disk_faults out_faults plan old mid) where
  -- No store was opened.
  module _ {A : Type 0} (fault : RunFault) (away : IsTurnedAway now may clock since said disk_faults out_faults plan fault old mid) where
    away_ready : RunsReady now may clock since said left {A = A} plan first (Err fault) input input old mid
    away_ready = record {
      ran = λ ready all comes.
          let w = only.within ready.openable.image None ready.openable.told in (
            0,
            record {
              is_from = inr w.said_stays;
              moments = opening_moments now may clock since said plan old ready 0 first all None mid w;
              finished = tt;
              stopped = inr (inr (unopened now may clock since said plan old ready 0 first all None mid w));
              answered = λ which. absurd (⊎_elim away.others.0 away.others.1 which);
            },
          );
      behind = λ store keep behind. (refl, only.within store.openable.image keep store.openable.told, away.over_ready store.openable);
      never_bad = λ openable n is. not_bad fault (away.over_ready openable) n (err_is fault (BadState n) is);
      never_damaged = λ openable p is. not_damaged fault (away.over_ready openable) p (err_is fault (Damaged p) is);
      never_differs = λ openable is. not_differs fault (away.over_ready openable) (err_is fault SchemaDiffers is);
    }

    away_unfit : RefusesUnfit now may clock since said left {A = A} plan (Err fault) input input old mid
    away_unfit = record {
      unfit = λ v told unfit. let at = away.unfit v told unfit in (refl, at.0, at.1);
      exact = λ v told unfit. tt;
    }

    away_cause : HasCause now disk_faults out_faults left faults {A = A} plan first (Err fault) input input old mid
    away_cause = record {
      gap = λ n is. absurd (away.others.3 n (err_is fault (Gap n) is));
      gap_next = λ v events n told has is. absurd (away.others.3 n (err_is fault (Gap n) is));
      no_gap = λ v events told has. tt;
      differs = λ is. away.differs (err_is fault SchemaDiffers is);
      damaged = λ p is. away.damaged p (err_is fault (Damaged p) is);
      bad = λ v events n told has is. away.bad v events n told has (err_is fault (BadState n) is);
      undamaged = λ v events p told has is. away.undamaged v events p told has (err_is fault (Damaged p) is);
      at_end = tt;
      within = tt;
      read = λ is. absurd (away.others.0 (err_is fault Read is));
      limit = λ is. absurd (away.others.1 (err_is fault Limit is));
      write = λ is. absurd (away.others.2 (err_is fault Write is));
      disk = λ is. away.disk (err_is fault Disk is);
      store_first = λ is. refl;
      gap_first = λ n is. refl;
    }

    pub away_whole : IsWholeRun now may clock since said disk_faults out_faults left faults {A = A} plan first (Err fault) input input old mid
    away_whole = record {
      ready = away_ready;
      unfit = away_unfit;
      cause = away_cause;
      log = λ v events told has. opening_log may clock since said plan None v events old mid has (only.within v None told);
      counts = record { later = omega arith; disk_faults_grow = only.disk_faults_grow; out_faults_grow = omega (arith, only.out_faults_stay) };
    }

  -- The store was opened, and its lines were answered.
  module _ {A T : Type 0} (next count from offset : ℕ) (Tells : T → Type 0) (cell : T → Cells) (named there : T → Marks) (s : Sitting T) (opened : IsOpened now may plan next count from Tells cell named there s old mid) (at : offset ≡ first) (r : Result A RunFault) (input_then : I) (new : H)
      (why : Explains now may disk_faults out_faults left faults plan next offset (Tells s.engine.table) (cell s.engine.table) s r input input_then mid new)
      (held : (es : List Event) → IsPlaced plan (now mid) (may mid) s.reservoir s.engine → ((u : Image) → may mid u → HasAtLeast (store_of plan) es u) → StaysHeld may clock since plan es mid new) where
    left_by : (b : Begun) → IsUnopened may said plan b old mid → (f : RunFault) → (f ≡ Write) ⊎ (HasStoppedIn (store_of plan) (course_for plan b) (may new) (said new) ⊎ (new ≡ mid)) → IsLeft may said plan b f old new
    left_by b none f (inl write) = inl write
    left_by b none f (inr (inl stopped)) = inr (inl stopped)
    left_by b none f (inr (inr same)) = inr (inr (subst (λ (h : H). IsUnopened may said plan b old h) (sym same) none))

    behind_of : (store : IsReadyStore plan (now old) (may old)) (keep : Option ℕ) → next_offset store.held < first → (input_then ≡ input) × IsWithinOpening may clock since said plan keep store.openable.image old new × IfErr r IsGapOrFailed
    behind_of store keep behind =
        let next_is = (opened.events store.openable.image store.held store.openable.told store.has).2 in
        let at_gap = why.behind (omega (arith, behind, next_is, at)) in (
          at_gap.0,
          subst (λ (h : H). IsWithinOpening may clock since said plan keep store.openable.image old h) (sym at_gap.1) (only.within store.openable.image keep store.openable.told),
          if_err_by r (λ f. f ≡ Gap next) IsGapOrFailed (λ f is. subst IsGapOrFailed (sym is) tt) at_gap.2,
        )

    module _ (stays : (b : Begun) → IsToBegin plan b (left input) next count from offset (now mid) (may mid) (said mid) Tells cell named there s → StaysTrue may clock since said plan b (left input_then) r mid new) where
      module _ (ready : IsReadyRun plan (now old) (may old) (said old)) where
        events : (events_of (now mid) s ≡ ready.held) × (stored_of (now mid) s ≡ ready.held) × (next ≡ next_offset ready.held)
        events = opened.events ready.openable.image ready.held ready.openable.told ready.has

        within : IsWithinOpening may clock since said plan s.keep ready.openable.image old mid
        within = only.within ready.openable.image s.keep ready.openable.told

        module _ (all : List ℕ) (comes : left input ≡ Some all) where
          abbrev b : Begun
          b = begun_by ready from first all

          true_of : StaysTrue may clock since said plan b (left input_then) r mid new
          true_of =
              let runs = opened.running ready.openable in
              let ns = numbers plan (now mid) (may mid) Tells cell named there s runs ready.held events.0 next count opened.numbers.0 opened.numbers.1 in
              stays b (to_begin now may clock since said plan old ready from first all s.keep mid within (opened.stepped ready.openable.image s.keep ready.openable.told) Tells cell named there s refl runs events.0 events.1 (left input) next count offset comes ns.0 ns.1 at)

          ran : Ran may clock since said plan b ready.openable.image (left input_then) r old new
          ran = record {
            is_from = inl (opened.is_from ready.openable.image ready.openable.told ready.openable);
            moments = moments_then clock since old mid new (StaysOnCourseSince (store_of plan) (course_for plan b) (may old) []) (StaysOnCourse (store_of plan) (course_for plan b) []) (StaysOnCourseSince (store_of plan) (course_for plan b) (may old) [])
                (opening_moments now may clock since said plan old ready from first all s.keep mid within) true_of.moments (λ m h. h) (λ m h. inr h);
            finished = true_of.finished;
            stopped = if_err_by r (λ f. (f ≡ Write) ⊎ (HasStoppedIn (store_of plan) (course_for plan b) (may new) (said new) ⊎ (new ≡ mid))) (λ f. IsLeft may said plan b f old new)
                (left_by b (unopened now may clock since said plan old ready from first all s.keep mid within)) true_of.stopped;
            answered = true_of.answered;
          }

      answered_ready : RunsReady now may clock since said left plan first r input input_then old new
      answered_ready = record {
        ran = λ ready all comes. (from, ran ready all comes);
        behind = behind_of;
        never_bad = λ openable n is. why.bad n (ready_node plan (now mid) (may mid) (Tells s.engine.table) (cell s.engine.table) s.reservoir s.engine s.texts (opened.running openable).ready n) is;
        never_damaged = λ openable p is. why.undamaged p (running_placed plan (now mid) (may mid) Tells cell named there s (opened.running openable)) is;
        never_differs = λ openable is. why.differs is;
      }

    answered_unfit : RefusesUnfit now may clock since said left plan r input input_then old new
    answered_unfit = record {
      unfit = λ v told unfit. absurd (opened.fit v told unfit);
      exact = λ v told unfit. absurd (opened.fit v told unfit);
    }

    damaged_of : (p : ℕ) → IsErrOf r (Damaged p) → ForSome (now old) (λ u. ForSome (now new) (λ v. IsIllegalOpened plan.shape plan.defaults (u 2) p (v 2)))
    damaged_of p is = λ u was v told. (view_of (base s.reservoir), opened.view u was, subst (λ (f : ℕ). IsIllegalBy (view_of (base s.reservoir)) p (v f)) opened.log.1 (why.damaged p is v told))

    answered_cause : HasCause now disk_faults out_faults left faults plan first r input input_then old new
    answered_cause = record {
      gap = λ n is. let gap = why.gap n is in omega (arith, gap.0, gap.1, at);
      gap_next = λ v events n told has is. sym (why.gap n is).0 ∙ (opened.events v events told has).2;
      no_gap = λ v events told has. on_ok_by r (offset ≤ next) (first ≤ next_offset events) (λ ahead. omega (arith, ahead, at, (opened.events v events told has).2)) why.no_gap;
      differs = λ is. absurd (why.differs is);
      damaged = λ p is. inr (damaged_of p is);
      bad = λ v events n told has is. opened.node v events n told has (λ runs. why.bad n runs is);
      undamaged = λ v events p told has is. why.undamaged p (opened.placed v events told has) is;
      at_end = why.at_end;
      within = why.within;
      read = why.read;
      limit = why.limit;
      write = λ is. subst (λ (n : ℕ). Rose n (out_faults new)) only.out_faults_stay (why.write is);
      disk = λ is. let rose = why.disk is in omega (arith, rose, only.disk_faults_grow);
      store_first = λ is. absurd (why.differs is);
      gap_first = λ n is. (why.gap n is).2;
    }

    pub answered_whole : ((b : Begun) → IsToBegin plan b (left input) next count from offset (now mid) (may mid) (said mid) Tells cell named there s → StaysTrue may clock since said plan b (left input_then) r mid new) → CountsGrow disk_faults out_faults faults input input_then mid new
        → IsWholeRun now may clock since said disk_faults out_faults left faults plan first r input input_then old new
    answered_whole stays grow = record {
      ready = answered_ready stays;
      unfit = answered_unfit;
      cause = answered_cause;
      log = λ v events told has. opened_log may clock since said plan None v events old mid new has (only.within v None told) (opened.stepped v None told) (held events (opened.placed v events told has));
      counts = record { later = grow.later; disk_faults_grow = omega (arith, only.disk_faults_grow, grow.disk_faults_grow); out_faults_grow = omega (arith, only.out_faults_stay, grow.out_faults_grow) };
    }
