-- What a line that was answered leaves, and why one was not.
use Rattle.std.proofs.Common.{◌≡◌, ◌⊎◌, inl, inr, ℕ, ◌<◌, ◌^◌, true, false, Ok, Err, refl, sym, ◌∙◌, subst}
use Rattle.rg_bytes.specs.Counts.{Rose}
use Rattle.rg_config.specs.Plans.{Planned}
use Rattle.rg_host.specs.declared.lines.LineFault.{LineFault}
use Rattle.rg_host.specs.declared.lines.LineFault.TheVariants as reading
use Rattle.rg_task.specs.declared.fault.TaskFault.TheVariants as task
use Rattle.rg_run.specs.declared.fault.TurnFault.{TurnFault}
use Rattle.rg_run.specs.declared.fault.TurnFault.TheVariants as turn
use Rattle.rg_task.specs.View.{View}
use Rattle.rg_run.specs.Faults.{of_turn, of_input}
use Rattle.rg_run.specs.Turned.{MoreOr, StopsFor}
use Rattle.rg_run.specs.declared.fault.RunFault.{RunFault}
use Rattle.rg_run.specs.declared.fault.RunFault.TheVariants.{Disk, Damaged, SchemaDiffers, BadState, Gap, Read, Limit, Write}
use Rattle.rg_run.proofs.Causes.{err_is, ok_never, put_or_memory, turn_disk, turn_write, turn_damaged, turn_bad, turn_others}

pub more : {on over : Type 0} → on → MoreOr on over true
more on = record { on_is = λ is. on; over_is = λ is. absurd (let e : true ≡ false = is in cc) }

pub no_more : {on over : Type 0} → over → MoreOr on over false
no_more over = record { on_is = λ is. absurd (let e : false ≡ true = is in cc); over_is = λ is. over }

module _ {K I : Type 0} (view : View K) (disk_faults out_faults : K → ℕ) (faults : I → ℕ) (plan : Planned) (taken : ℕ) (input input_then : I) (old new : K) where
  pub why_none : {A : Type 0} (value : A) → StopsFor view disk_faults out_faults faults plan taken (Ok value) input input_then old new
  why_none value = record {
    bad = λ n runs is. ok_never value (BadState n) is;
    undamaged = λ p placed is. ok_never value (Damaged p) is;
    damaged = λ p is. absurd (ok_never value (Damaged p) is);
    read = λ is. absurd (ok_never value Read is);
    limit = λ is. absurd (ok_never value Limit is);
    write = λ is. absurd (ok_never value Write is);
    disk = λ is. absurd (ok_never value Disk is);
    differs = λ is. ok_never value SchemaDiffers is;
    gap = λ n is. ok_never value (Gap n) is;
  }

  pub why_turn : {A : Type 0} (fault : TurnFault) (ran : RunFault) → ran ≡ of_turn fault
      → ((n : ℕ) → view.node plan n old → fault ≡ turn.Task (task.BadState n) → ⊥)
      → ((p : ℕ) → view.placed plan old → fault ≡ turn.Task (task.Damaged p) → ⊥)
      → ((p : ℕ) → fault ≡ turn.Task (task.Damaged p) → view.illegal p new)
      → (fault ≡ turn.Write → Rose (out_faults old) (out_faults new)) → (fault ≡ turn.Task task.Disk → Rose (disk_faults old) (disk_faults new))
      → StopsFor view disk_faults out_faults faults {A = A} plan taken (Err ran) input input_then old new
  why_turn fault ran ran_is bad undamaged damaged write disk =
      let others = turn_others fault in
      record {
        bad = λ n runs is. bad n runs (turn_bad fault n (sym ran_is ∙ err_is ran (BadState n) is));
        undamaged = λ p placed is. undamaged p placed (turn_damaged fault p (sym ran_is ∙ err_is ran (Damaged p) is));
        damaged = λ p is. damaged p (turn_damaged fault p (sym ran_is ∙ err_is ran (Damaged p) is));
        read = λ is. absurd (others.0 (sym ran_is ∙ err_is ran Read is));
        limit = λ is. absurd (others.1 (sym ran_is ∙ err_is ran Limit is));
        write = λ is. write (turn_write fault (sym ran_is ∙ err_is ran Write is));
        disk = λ is. disk (turn_disk fault (sym ran_is ∙ err_is ran Disk is));
        differs = λ is. others.2 (sym ran_is ∙ err_is ran SchemaDiffers is);
        gap = λ n is. others.3 n (sym ran_is ∙ err_is ran (Gap n) is);
      }

  why_read : {A : Type 0} → Rose (faults input) (faults input_then) → StopsFor view disk_faults out_faults faults {A = A} plan taken (Err Read) input input_then old new
  why_read rose = record {
    bad = λ n runs is. let e : ◌≡◌ {A = RunFault} Read (BadState n) = err_is Read (BadState n) is in cc;
    undamaged = λ p placed is. let e : ◌≡◌ {A = RunFault} Read (Damaged p) = err_is Read (Damaged p) is in cc;
    damaged = λ p is. absurd (let e : ◌≡◌ {A = RunFault} Read (Damaged p) = err_is Read (Damaged p) is in cc);
    read = λ is. rose;
    limit = λ is. absurd (let e : ◌≡◌ {A = RunFault} Read Limit = err_is Read Limit is in cc);
    write = λ is. absurd (let e : ◌≡◌ {A = RunFault} Read Write = err_is Read Write is in cc);
    disk = λ is. absurd (let e : ◌≡◌ {A = RunFault} Read Disk = err_is Read Disk is in cc);
    differs = λ is. let e : ◌≡◌ {A = RunFault} Read SchemaDiffers = err_is Read SchemaDiffers is in cc;
    gap = λ n is. let e : ◌≡◌ {A = RunFault} Read (Gap n) = err_is Read (Gap n) is in cc;
  }

  why_limit : {A : Type 0} → 2 ^ 50 < taken → StopsFor view disk_faults out_faults faults {A = A} plan taken (Err Limit) input input_then old new
  why_limit past = record {
    bad = λ n runs is. let e : ◌≡◌ {A = RunFault} Limit (BadState n) = err_is Limit (BadState n) is in cc;
    undamaged = λ p placed is. let e : ◌≡◌ {A = RunFault} Limit (Damaged p) = err_is Limit (Damaged p) is in cc;
    damaged = λ p is. absurd (let e : ◌≡◌ {A = RunFault} Limit (Damaged p) = err_is Limit (Damaged p) is in cc);
    read = λ is. absurd (let e : ◌≡◌ {A = RunFault} Limit Read = err_is Limit Read is in cc);
    limit = λ is. past;
    write = λ is. absurd (let e : ◌≡◌ {A = RunFault} Limit Write = err_is Limit Write is in cc);
    disk = λ is. absurd (let e : ◌≡◌ {A = RunFault} Limit Disk = err_is Limit Disk is in cc);
    differs = λ is. let e : ◌≡◌ {A = RunFault} Limit SchemaDiffers = err_is Limit SchemaDiffers is in cc;
    gap = λ n is. let e : ◌≡◌ {A = RunFault} Limit (Gap n) = err_is Limit (Gap n) is in cc;
  }

  -- the input could not be read on
  why_input : {A : Type 0} (fault : LineFault) → (fault ≡ reading.Read → Rose (faults input) (faults input_then)) → (fault ≡ reading.Limit → 2 ^ 50 < taken) → StopsFor view disk_faults out_faults faults {A = A} plan taken (Err (of_input fault)) input input_then old new
  why_input reading.Read rose past = why_read (rose refl)
  why_input reading.Limit rose past = why_limit (past refl)

  -- a put failed
  pub why_write : {A : Type 0} (fault : RunFault) → fault ≡ Write → Rose (out_faults old) (out_faults new) → StopsFor view disk_faults out_faults faults {A = A} plan taken (Err fault) input input_then old new
  why_write fault is rose =
      let not = put_or_memory turn.Write (inl refl) in
      why_turn turn.Write fault is (λ n runs e. not.0 n e) (λ p placed e. not.1 p e) (λ p e. absurd (not.1 p e)) (λ e. rose) (λ e. absurd (not.2 e))

  -- what was gathered was put before that fault, or that put failed
  stopped_by : {A : Type 0} (fault result : RunFault) → StopsFor view disk_faults out_faults faults {A = A} plan taken (Err fault) input input_then old new → (result ≡ fault) ⊎ ((result ≡ Write) × Rose (out_faults old) (out_faults new)) → StopsFor view disk_faults out_faults faults {A = A} plan taken (Err result) input input_then old new
  stopped_by {A} fault result why (inl same) = subst (λ (f : RunFault). StopsFor view disk_faults out_faults faults {A = A} plan taken (Err f) input input_then old new) (sym same) why
  stopped_by fault result why (inr put) = why_write result put.0 put.1

  pub why_unread : {A : Type 0} (fault : LineFault) (ran result : RunFault) → ran ≡ of_input fault → (fault ≡ reading.Read → Rose (faults input) (faults input_then)) → (fault ≡ reading.Limit → 2 ^ 50 < taken)
      → (result ≡ ran) ⊎ ((result ≡ Write) × Rose (out_faults old) (out_faults new)) → StopsFor view disk_faults out_faults faults {A = A} plan taken (Err result) input input_then old new
  why_unread {A} fault ran result ran_is rose past which =
      stopped_by ran result (subst (λ (f : RunFault). StopsFor view disk_faults out_faults faults {A = A} plan taken (Err f) input input_then old new) (sym ran_is) (why_input fault rose past)) which
