-- A serve before its first request.
use Rattle.std.proofs.Common.{◌≡◌, inl, inr, true, false, ℕ, ◌<◌, ◌≤◌, ◌^◌, List, [], ◌∷◌, ◌++◌, length, Option, Some, None, Result, Ok, Err, refl, sym, ◌∙◌, ap, subst, arith, append-nil, length-append}
use Rattle.std.specs.Prelude.{OnOk, IfErr, IsErrOf}
use Rattle.rg_bytes.specs.Counts.{Rose}
use Rattle.rg_bytes.specs.Known.{IsAtEnd}
use Rattle.rg_event.specs.Rising.{next_offset}
use Rattle.rg_host.specs.Image.{Image}
use Rattle.rg_host.proofs.Laws.{leaves_all-none}
use Rattle.rg_config.specs.Plans.{Planned}
use Rattle.rg_pipe.specs.Sent.{Sent}
use Rattle.rg_pipe.specs.State.{PipeState}
use Rattle.rg_pipe.specs.Streams.{IsStream, given_all, fresh}
use Rattle.rg_pipe.specs.Handing.{Given}
use Rattle.rg_run_spec.proofs.Laws.{rest_kept}
use Rattle.rg_run.specs.Reading.{IsLonger, IsWithinLimit}
use Rattle.rg_run.specs.declared.fault.TurnFault.{TurnFault}
use Rattle.rg_run.specs.declared.fault.TurnFault.TheVariants as turn
use Rattle.rg_task.specs.View.{View, OnlyNow, Sinks}
use Rattle.rg_task.specs.declared.fault.TaskFault.TheVariants as task
use Rattle.rg_serve_spec.specs.Frames.{Reply, lines_in}
use Rattle.rg_run_spec.specs.Stores.{IsKeptInStore}
use Rattle.rg_serve_spec.specs.Errands.{Errand, replies_of, course_of}
use Rattle.rg_serve.specs.Serving.{IsAwaiting, IsHeld}
use Rattle.rg_serve.specs.Coming.{IsComing, IsFresh, IsTaken}
use Rattle.rg_serve.specs.UnderWay.{IsUnderWay}
use Rattle.rg_serve.specs.Calls.{Carries}
use Rattle.rg_serve.specs.Intaking.{Intaking}
use Rattle.rg_serve.specs.Served.{ComesOut, IsToServe, ServesTrue, Explains, Failed, Serves}
use Rattle.rg_serve.specs.declared.fault.ServeFault.{ServeFault}
use Rattle.rg_serve.specs.declared.fault.ServeFault.TheVariants.{Turn, Read, Limit, Frame}
use Rattle.rg_serve.proofs.Within.{quiet_moments}

-- an input of which nothing is taken
abbrev pub comes_fresh : (first : ℕ) (requests : List Sent) (rest bytes : List ℕ) (left : Option (List ℕ)) (next : ℕ) (p : PipeState) (held : List ℕ) → left ≡ Some bytes → IsStream requests rest bytes → next ≡ first → p ≡ fresh next → held ≡ [] → IsComing first requests rest left p held
comes_fresh first requests rest bytes left next p held comes stream same is none = record {
  done = [];
  ahead = requests;
  unread = bytes;
  comes = comes;
  whole = refl;
  stream = subst (λ (l : List ℕ). IsStream requests rest l) (sym (ap (λ (x : PipeState). x.pending ++ (held ++ bytes)) is ∙ ap (λ (l : List ℕ). l ++ bytes) none)) stream;
  place_is = ap (λ (x : PipeState). x.place) is;
  expected_is = ap (λ (x : PipeState). x.expected) is ∙ same;
}

pub taken_none : (left : Option (List ℕ)) (taken : ℕ) → taken ≡ 0 → IsTaken left left taken
taken_none (Some told) taken none = record { got = []; took = refl; count = none }
taken_none None taken none = record { got = []; took = refl; count = none }

pub longer : (start left : Option (List ℕ)) (taken n : ℕ) → IsTaken start left taken → n < taken → IsLonger n start
longer start (Some rest) taken n t more = subst (λ v. IsLonger n v) (sym t.took) (omega (arith, length-append t.got rest, t.count, more))
longer start None taken n t more = subst (λ v. IsLonger n v) (sym t.took) tt

pub within : (start left : Option (List ℕ)) (taken n : ℕ) → IsTaken start left taken → IsAtEnd left → taken ≤ n → IsWithinLimit n start
within start (Some rest) taken n t end most = subst (λ v. IsWithinLimit n v) (sym t.took) (omega (arith, length-append t.got rest, ap (λ (l : List ℕ). length l) end, t.count, most))
within start None taken n t end most = subst (λ v. IsWithinLimit n v) (sym t.took) tt

pub within_by : {A : Type 0} (result : Result A ServeFault) (start left : Option (List ℕ)) (taken : ℕ) → IsTaken start left taken → OnOk result (IsAtEnd left) → OnOk result (taken ≤ 2 ^ 50) → OnOk result (IsWithinLimit (2 ^ 50) start)
within_by (Ok done) start left taken t end most = within start left taken (2 ^ 50) t end most
within_by (Err fault) start left taken t end most = tt

module _ {K : Type 0} (view : View K) (plan : Planned) (e : Errand) (requests : List Sent) (rest : List ℕ) (left : Option (List ℕ)) (from : ℕ) (t : K) (s : IsToServe view plan e requests rest left from t) where
  -- the open line is gathered
  pub under_begins : (f : Intaking) (p : PipeState) (gathered : List ℕ) → IsFresh (view.at t).next f p → IsAwaiting view plan e e.given t gathered → IsUnderWay view plan e requests rest left p f.held t gathered
  under_begins f p gathered fr a =
      let next : (view.at t).next ≡ next_offset e.held = view.next_is plan t s.opens.running ∙ ap next_offset s.opens.events in
      let at : p.expected ≡ next_offset e.held = fr.expected (subst (λ (n : ℕ). n ≤ 2 ^ 62) (sym next) s.small) ∙ next in
      record {
        coming = comes_fresh (next_offset e.held) requests rest s.input left p.expected p f.held s.comes s.stream at fr.pipe fr.held;
        awaiting = subst (λ (l : List Given). IsAwaiting view plan e l t gathered) (s.asked.given_is ∙ ap (λ n. given_all n requests) (sym at)) a;
      }

  -- want of memory came before
  pub serves_none : {A : Type 0} (fault : TurnFault) → OnlyNow view → Sinks view → ServesTrue view {A = A} plan e requests rest left (Err (Turn fault)) t t
  serves_none fault only sinks =
      let o = s.opens in
      let told = o.told ∙ ap (λ (l : List ℕ). Some l) (sym (append-nil e.said)) in
      let held : IsHeld view plan e t [] = record {
        replies = [];
        first = [];
        rest = [];
        split = record { whole = refl; gathered_is = refl; of_replies = (replies_of e, refl); small = tt; lines = tt };
        told = told;
        kept = λ v may some begins. subst (λ l. IsKeptInStore (view.store plan) (course_of e) (lines_in l) v) (sym (no_more some begins.0 begins.1)) (rest_kept Image (view.store plan) (course_of e) [] (view.at t).stored (view.at t).keep (view.may t) v o.at_rest may);
        grown = o.at_rest.grown;
      } in
      record {
        moments = quiet_moments view plan e t t [] held (leaves_all-none view.now view.may view.clock view.since view.said t (sinks t) (only t));
        served = tt;
        ended = inr (record {
          replies = [];
          of_replies = (replies_of e, refl);
          told = told;
          kept = λ v may. rest_kept Image (view.store plan) (course_of e) [] (view.at t).stored (view.at t).keep (view.may t) v o.at_rest may;
          grown = o.at_rest.grown;
        });
      }
    where
      no_more : (a b : List Reply) → a ++ b ≡ [] → a ≡ []
      no_more [] b is = refl
      no_more (x ∷ a) b is = let no : ◌≡◌ {A = List Reply} (x ∷ (a ++ b)) [] = is in cc

-- an input of at most n bytes has no more
not_both : (left : Option (List ℕ)) (bytes : List ℕ) (n : ℕ) → left ≡ Some bytes → IsLonger n left → IsWithinLimit n left → ⊥
not_both (Some told) bytes n is more few = omega (arith, more, few)
not_both None bytes n is more few = absurd (cc)

module _ {K I : Type 0} (view : View K) (disk_faults out_faults : K → ℕ) (left : I → Option (List ℕ)) (faults : I → ℕ) where
  -- each refusal has its cause
  pub explained : {A : Type 0} (plan : Planned) (result : Result A ServeFault) (input input_then : I) (old new : K) → Carries view disk_faults out_faults Turn result old new → (view.at old).ended ≡ false
      → ((requests : List Sent) (rest bytes : List ℕ) → left input ≡ Some bytes → IsStream requests rest bytes → ComesOut requests rest result) → OnOk result (IsAtEnd (left input_then)) → OnOk result (IsWithinLimit (2 ^ 50) (left input))
      → (IsErrOf result Read → Rose (faults input) (faults input_then)) → (IsErrOf result Limit → IsLonger (2 ^ 50) (left input)) → Explains view disk_faults out_faults left faults plan result input input_then old new
  explained plan result input input_then old new c going frame at_end within read limit = record {
    frame = frame;
    at_end = at_end;
    within = within;
    read = read;
    limit = limit;
    write = c.write;
    disk = c.disk;
    ended = λ is. absurd (let both : true ≡ false = sym (c.ended is) ∙ going in cc);
    bad = λ n runs is. c.bad plan n runs is;
    undamaged = λ p placed is. c.undamaged plan p placed is;
    damaged = c.damaged;
  }

  -- where no call failed, all was answered, or memory ran out
  completed : {A : Type 0} (plan : Planned) (e : Errand) (requests : List Sent) (from : ℕ) (result : Result A ServeFault) (input input_then : I) (old new : K) → Explains view disk_faults out_faults left faults plan result input input_then old new
      → IsToServe view plan e requests [] (left input) from old → IsWithinLimit (2 ^ 50) (left input) → (Failed view disk_faults out_faults left faults input input_then old new → ⊥) → IfErr result (λ fault. fault ≡ Turn (turn.Task task.Memory))
  completed plan e requests from (Ok done) input input_then old new cause s few quiet = tt
  completed plan e requests from (Err Read) input input_then old new cause s few quiet = absurd (quiet (inl (cause.read refl)))
  completed plan e requests from (Err Limit) input input_then old new cause s few quiet = absurd (not_both (left input) s.input (2 ^ 50) s.comes (cause.limit refl) few)
  completed plan e requests from (Err (Frame place)) input input_then old new cause s few quiet = absurd ((cause.frame requests [] s.input s.comes s.stream).0 refl)
  completed plan e requests from (Err (Turn turn.Write)) input input_then old new cause s few quiet = absurd (quiet (inr (inr (cause.write refl))))
  completed plan e requests from (Err (Turn (turn.Task task.Disk))) input input_then old new cause s few quiet = absurd (quiet (inr (inl (cause.disk refl))))
  completed plan e requests from (Err (Turn (turn.Task task.Ended))) input input_then old new cause s few quiet = absurd (cause.ended refl)
  completed plan e requests from (Err (Turn (turn.Task task.Memory))) input input_then old new cause s few quiet = refl
  completed plan e requests from (Err (Turn (turn.Task (task.BadState n)))) input input_then old new cause s few quiet = absurd (cause.bad n (inl s.opens.running) refl)
  completed plan e requests from (Err (Turn (turn.Task (task.Damaged p)))) input input_then old new cause s few quiet = absurd (cause.undamaged p (view.run_placed plan old s.opens.running) refl)

  pub promised : {A : Type 0} (plan : Planned) (from : ℕ) (result : Result A ServeFault) (input input_then : I) (old new : K) → Carries view disk_faults out_faults Turn result old new → faults input ≤ faults input_then → Explains view disk_faults out_faults left faults plan result input input_then old new
      → ((e : Errand) (requests : List Sent) (rest : List ℕ) → IsToServe view plan e requests rest (left input) from old → ServesTrue view plan e requests rest (left input_then) result old new) → Serves view disk_faults out_faults left faults plan from result input input_then old new
  promised plan from result input input_then old new c later cause told = record {
    told = told;
    completes = λ e requests s few quiet. completed plan e requests from result input input_then old new cause s few quiet;
    cause = cause;
    log_stays = c.log plan;
    counts = record { goes = c.goes; later = later; disk_faults_grow = c.disk_faults_grow; out_faults_grow = c.out_faults_grow };
  }
