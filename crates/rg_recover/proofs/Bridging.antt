-- What a run over a task of a session and its host is to the host.
use Rattle.std.proofs.Common.{◌≡◌, ◌⊎◌, inl, inr, ⊎_elim, ℕ, ◌≤◌, List, [], Option, Result, ap, subst}
use Rattle.rg_bytes.specs.Counts.{Rose}
use Rattle.rg_host.specs.Image.{Image}
use Rattle.rg_host.specs.Moments.{Moment, Moments}
use Rattle.rg_event.specs.declared.event.Event.{Event}
use Rattle.rg_config.specs.Plans.{Planned}
use Rattle.rg_state.specs.Changes.{Marks}
use Rattle.rg_state.specs.Rows.{Cells}
use Rattle.rg_reservoir.specs.Chain.{IsIllegalBy}
use Rattle.rg_reservoir.specs.Kept.{base, view_of, next_of}
use Rattle.rg_reservoir.specs.Views.{View as LogView}
use Rattle.rg_run_spec.specs.Stores.{HasAtLeast, StaysOnCourse}
use Rattle.rg_open.specs.Stores.{store_of}
use Rattle.rg_recover.specs.Sessions.{Sitting}
use Rattle.rg_task.specs.View.{View}
use Rattle.rg_run.specs.Answered as run
use Rattle.rg_run.specs.Begun.{Begun, course_for}
use Rattle.rg_run.specs.Logs as logs
use Rattle.rg_run.specs.Turning.{HasStoppedIn}
use Rattle.rg_run.specs.declared.fault.RunFault.{RunFault}
use Rattle.rg_run.specs.declared.fault.RunFault.TheVariants.{Write}
use Rattle.rg_recover.specs.Answered.{StaysTrue, StaysHeld, Explains, CountsGrow}
use Rattle.rg_recover.specs.Living.{SameLog}
use Rattle.rg_recover.specs.LiveView.{live_view}
use Rattle.rg_recover.specs.Opened.{IsToBegin}
use Rattle.rg_recover.proofs.Openings.{if_err_by}

module _ {P H T : Type 0} (old new : P) (host : P → H) (session : P → Sitting T) (names : P → P → Type 0) (same : (p : P) → names p p) (join : (p q r : P) → names p q → names q r → names p r)
    (now : H → Option Image) (may : H → Image → Type 0) (clock : H → ℕ) (since : H → ℕ → Moment → Type 0) (said : H → Option (List ℕ))
    (tells : T → Type 0) (cell : T → Cells) (named there : T → Marks) where
  abbrev V : View P
  V = live_view host session names same join now may clock since said tells cell named there

  moments_of : (Q : Moment → Type 0) → Moments V.clock V.since old new Q → Moments clock since (host old) (host new) Q
  moments_of Q m = record { later = m.later; each = m.each; nothing_else = m.nothing_else; keeps = m.keeps; adds = m.adds }

  pub to_begin : (plan : Planned) (b : Begun) (left : Option (List ℕ)) (next count from offset : ℕ)
      → IsToBegin plan b left next count from offset (now (host old)) (may (host old)) (said (host old)) tells cell named there (session old) → run.IsToBegin V plan b left from offset old
  to_begin plan b left next count from offset s = record {
    at_rest = s.at_rest;
    told = s.told;
    comes = s.comes;
    first_is = s.offset_is;
    running = s.running;
    events = s.events;
    stored = s.stored;
    from_is = s.from_is;
  }

  pub true_of : {A : Type 0} (plan : Planned) (b : Begun) (left : Option (List ℕ)) (r : Result A RunFault) → run.StaysTrue V plan b left r old new → StaysTrue may clock since said plan b left r (host old) (host new)
  true_of plan b left r t = record {
    moments = moments_of (StaysOnCourse (store_of plan) (course_for plan b) []) t.moments;
    finished = t.finished;
    stopped = if_err_by r (λ f. (f ≡ Write) ⊎ (HasStoppedIn (store_of plan) (course_for plan b) (may (host new)) (said (host new)) ⊎ (new ≡ old))) (λ f. (f ≡ Write) ⊎ (HasStoppedIn (store_of plan) (course_for plan b) (may (host new)) (said (host new)) ⊎ (host new ≡ host old)))
        (λ f. ⊎_elim (λ write. inl write) (λ rest. inr (⊎_elim (λ stop. inl stop) (λ is. inr (ap host is)) rest))) t.stopped;
    answered = t.answered;
    never_bad = t.never_bad;
    never_damaged = t.never_damaged;
  }

  pub held_of : (plan : Planned) (held : List Event) → logs.StaysHeld V plan held old new → StaysHeld may clock since plan held (host old) (host new)
  held_of plan held s = record { moments = moments_of (λ m. HasAtLeast (store_of plan) held m.image) s.moments; left = s.left }

  -- a table without a disk adds no failed call
  module _ {I : Type 0} (all_faults : P → ℕ) (disk_faults out_faults : H → ℕ) (none : (p : P) → all_faults p ≡ disk_faults (host p)) (left : I → Option (List ℕ)) (faults : I → ℕ) where
    pub explained_of : {A : Type 0} (plan : Planned) (first : ℕ) (r : Result A RunFault) (input input_then : I) → SameLog (session old) (session new)
        → run.Explains V all_faults (λ p. out_faults (host p)) left faults plan first r input input_then old new
        → Explains now may disk_faults out_faults left faults plan (next_of (session old).reservoir) first (tells (session old).engine.table) (cell (session old).engine.table) (session old) r input input_then (host old) (host new)
    explained_of plan first r input input_then log e = record {
      behind = λ h. let b = e.behind h in (b.0, ap host b.1, b.2);
      gap = e.gap;
      no_gap = e.no_gap;
      differs = e.differs;
      bad = e.bad;
      undamaged = e.undamaged;
      damaged = λ p is v told.
          subst (λ (f : ℕ). IsIllegalBy (view_of (base (session old).reservoir)) p (v f)) log.1 (subst (λ (view : LogView). IsIllegalBy view p (v (base (session new).reservoir).file)) log.0 (e.damaged p is v told));
      at_end = e.at_end;
      within = e.within;
      read = e.read;
      limit = e.limit;
      write = e.write;
      disk = λ is. subst (λ (n : ℕ). Rose n (disk_faults (host new))) (none old) (subst (λ (n : ℕ). Rose (all_faults old) n) (none new) (e.disk is));
    }

    pub counts_of : (input input_then : I) → run.CountsGrow V all_faults (λ p. out_faults (host p)) faults input input_then old new → CountsGrow disk_faults out_faults faults input input_then (host old) (host new)
    counts_of input input_then g = record {
      later = g.later;
      disk_faults_grow = subst (λ (n : ℕ). n ≤ disk_faults (host new)) (none old) (subst (λ (n : ℕ). all_faults old ≤ n) (none new) g.disk_faults_grow);
      out_faults_grow = g.out_faults_grow;
    }
