-- A run over an opened store that ended before its first line.
use Rattle.std.proofs.Common.{◌≡◌, ◌⊎◌, inl, inr, ⊎_elim, ℕ, ◌<◌, ◌≤◌, ◌^◌, [], List, Option, Result, Ok, Err, refl, ap, sym, ◌∙◌, subst, arith}
use Rattle.std.specs.Prelude.{IfOk, OnOk}
use Rattle.rg_bytes.specs.Counts.{Rose}
use Rattle.rg_bytes.specs.Known.{IsAtEnd}
use Rattle.rg_host.specs.Moments.{Moments}
use Rattle.rg_host.specs.Reading.{Reading}
use Rattle.rg_host.proofs.Laws.{moments_then}
use Rattle.rg_config.specs.Plans.{Planned}
use Rattle.rg_run_spec.specs.Stores.{StaysOnCourse}
use Rattle.rg_run.specs.Answered.{StaysTrue, Explains}
use Rattle.rg_task.specs.View.{View}
use Rattle.rg_run.specs.Begun.{Begun, course_for}
use Rattle.rg_run.specs.Reading.{HasTaken, IsWithinLimit}
use Rattle.rg_run.specs.Turned.{GoesTrue, IsReadOut, StopsFor}
use Rattle.rg_run.specs.UnderWay.{HasFinished}
use Rattle.rg_run.specs.declared.fault.RunFault.{RunFault}
use Rattle.rg_run.specs.declared.fault.RunFault.TheVariants.{Disk, Damaged, SchemaDiffers, BadState, Gap, Read, Limit, Memory, Write}
use Rattle.rg_run.proofs.Causes.{err_is, gap_is, gap_others, ok_never, on_ok, put_others}
use Rattle.rg_run.proofs.Taking.{longer, within}

module _ {K : Type 0} (view : View K) (plan : Planned) (b : Begun) (left : Option (List ℕ)) (old new : K) (moments : Moments view.clock view.since old new (StaysOnCourse (view.store plan) (course_for plan b) [])) where
  -- a gap
  pub true_at_gap : {A : Type 0} (n : ℕ) → new ≡ old → StaysTrue view {A = A} plan b left (Err (Gap n)) old new
  true_at_gap n same = record {
    moments = moments;
    finished = tt;
    stopped = inr (inr same);
    answered = λ which. absurd (⊎_elim (gap_others n).2 (gap_others n).3 which);
    never_bad = λ k is. ((gap_others n).5 k).0 (err_is (Gap n) (BadState k) is);
    never_damaged = λ k is. ((gap_others n).5 k).1 (err_is (Gap n) (Damaged k) is);
  }

  -- a put that failed
  pub true_unput : {A : Type 0} (fault : RunFault) → (fault ≡ Write) ⊎ (fault ≡ Memory) → (fault ≡ Write) ⊎ (new ≡ old) → StaysTrue view {A = A} plan b left (Err fault) old new
  true_unput fault which stopped =
      let not = put_others fault which in
      record {
        moments = moments;
        finished = tt;
        stopped = ⊎_elim (λ write. inl write) (λ same. inr (inr same)) stopped;
        answered = λ is. absurd (⊎_elim not.2 not.3 is);
        never_bad = λ k is. (not.4 k).0 (err_is fault (BadState k) is);
        never_damaged = λ k is. (not.4 k).1 (err_is fault (Damaged k) is);
      }

  -- all lines were answered, and the end was put
  pub true_at_end : {A : Type 0} (value : A) → HasFinished view plan b new → StaysTrue view plan b left (Ok value) old new
  true_at_end value done = record {
    moments = moments;
    finished = done;
    stopped = tt;
    answered = tt;
    never_bad = λ n is. ok_never value (BadState n) is;
    never_damaged = λ p is. ok_never value (Damaged p) is;
  }

-- the last line that was taken was not answered
pub true_then : {K A B : Type 0} (view : View K) (plan : Planned) (b : Begun) (left : Option (List ℕ)) (old mid new : K) (fault : RunFault) (Done : B → Type 0) → Moments view.clock view.since old mid (StaysOnCourse (view.store plan) (course_for plan b) [])
    → GoesTrue view plan b left Done (Err fault) mid new → StaysTrue view {A = A} plan b left (Err fault) old new
true_then view plan b left old mid new fault Done first goes = record {
  moments = moments_then view.clock view.since old mid new (StaysOnCourse (view.store plan) (course_for plan b) []) (StaysOnCourse (view.store plan) (course_for plan b) []) (StaysOnCourse (view.store plan) (course_for plan b) []) first goes.moments (λ m h. h) (λ m h. h);
  finished = tt;
  stopped = ⊎_elim (λ write. inl write) (λ stopped. inr (inl stopped)) goes.stopped;
  answered = goes.answered;
  never_bad = λ n is. goes.never_bad n (ap (λ f. Err f) (err_is fault (BadState n) is));
  never_damaged = λ p is. goes.never_damaged p (ap (λ f. Err f) (err_is fault (Damaged p) is));
}

module _ {K I : Type 0} (view : View K) (disk_faults out_faults : K → ℕ) (left : I → Option (List ℕ)) (faults : I → ℕ) (plan : Planned) (first : ℕ) (input : I) (old : K) where
  pub gap_explained : {A : Type 0} (n : ℕ) → n ≡ (view.at old).next → n < first → Explains view disk_faults out_faults left faults {A = A} plan first (Err (Gap n)) input input old old
  gap_explained n is behind =
      let not = gap_others n in
      record {
        behind = λ h. (refl, refl, ap (λ (m : ℕ). Gap m) is);
        gap = λ k e. (sym is ∙ gap_is n k (err_is (Gap n) (Gap k) e), subst (λ (m : ℕ). m < first) is behind, refl);
        no_gap = tt;
        differs = λ e. not.1 (err_is (Gap n) SchemaDiffers e);
        bad = λ k runs e. (not.5 k).0 (err_is (Gap n) (BadState k) e);
        undamaged = λ k placed e. (not.5 k).1 (err_is (Gap n) (Damaged k) e);
        damaged = λ k e. absurd ((not.5 k).1 (err_is (Gap n) (Damaged k) e));
        at_end = tt;
        within = tt;
        read = λ e. absurd (not.2 (err_is (Gap n) Read e));
        limit = λ e. absurd (not.3 (err_is (Gap n) Limit e));
        write = λ e. absurd (not.4 (err_is (Gap n) Write e));
        disk = λ e. absurd (not.0 (err_is (Gap n) Disk e));
      }

  pub unput_explained : {A : Type 0} (fault : RunFault) (new : K) → first ≤ (view.at old).next → (fault ≡ Write) ⊎ (fault ≡ Memory) → (fault ≡ Write → Rose (out_faults old) (out_faults new)) → Explains view disk_faults out_faults left faults {A = A} plan first (Err fault) input input old new
  unput_explained fault new ahead which write =
      let not = put_others fault which in
      record {
        behind = λ h. absurd (omega (arith, h, ahead));
        gap = λ n is. absurd ((not.4 n).2 (err_is fault (Gap n) is));
        no_gap = tt;
        differs = λ is. not.1 (err_is fault SchemaDiffers is);
        bad = λ k runs is. (not.4 k).0 (err_is fault (BadState k) is);
        undamaged = λ k placed is. (not.4 k).1 (err_is fault (Damaged k) is);
        damaged = λ k is. absurd ((not.4 k).1 (err_is fault (Damaged k) is));
        at_end = tt;
        within = tt;
        read = λ is. absurd (not.2 (err_is fault Read is));
        limit = λ is. absurd (not.3 (err_is fault Limit is));
        write = λ is. write (err_is fault Write is);
        disk = λ is. absurd (not.0 (err_is fault Disk is));
      }

-- all of an input was read
read_all_by : {A : Type 0} (r : Result A RunFault) (start left : Option (List ℕ)) (reading : Reading) → HasTaken start left reading → IfOk r (λ _. IsReadOut reading) → OnOk r (IsAtEnd left) × OnOk r (IsWithinLimit (2 ^ 50) start)
read_all_by (Ok a) start left reading taken end = (taken.at_end end.ended, within start left reading (2 ^ 50) taken (taken.at_end end.ended) end.few)
read_all_by (Err f) start left reading taken end = (tt, tt)

-- lines of the input were answered, and why no more
pub lines_explained : {K I A : Type 0} (view : View K) (disk_faults out_faults : K → ℕ) (left : I → Option (List ℕ)) (faults : I → ℕ) (plan : Planned) (first : ℕ) (input input_then : I) (old new : K) (reading : Reading) (r : Result A RunFault) → first ≤ (view.at old).next → HasTaken (left input) (left input_then) reading → IfOk r (λ _. IsReadOut reading)
    → StopsFor view disk_faults out_faults faults plan reading.taken r input input_then old new → Explains view disk_faults out_faults left faults plan first r input input_then old new
lines_explained view disk_faults out_faults left faults plan first input input_then old new reading r ahead taken end why =
    let all = read_all_by r (left input) (left input_then) reading taken end in
    record {
      behind = λ h. absurd (omega (arith, h, ahead));
      gap = λ n is. absurd (why.gap n is);
      no_gap = on_ok r (first ≤ (view.at old).next) ahead;
      differs = why.differs;
      bad = why.bad;
      undamaged = why.undamaged;
      damaged = why.damaged;
      at_end = all.0;
      within = all.1;
      read = why.read;
      limit = λ is. longer (left input) (left input_then) reading (2 ^ 50) taken (why.limit is);
      write = why.write;
      disk = why.disk;
    }
