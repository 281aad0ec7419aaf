use Rattle.std.proofs.Common.{Err, ap, List, [], ℕ, inl, sym, subst}
use Rattle.rg_host.proofs.Laws.{moments_then}
use Rattle.rg_serve_spec.specs.Errands.{replies_of, StaysOnErrand}
use Rattle.rg_serve.specs.Serving.{IsHeld, IsWithin}
use Rattle.rg_serve.proofs.Ended.{replies, end_within, served}
use Rattle.rg_serve.proofs.Within.{held_within}
use Rattle.std.specs.Prelude.{⊤}
use Rattle.rg_serve.proofs.Carrying.{carries_then, carries_put, carries_failed, carries_memory, carries_stop}
use Rattle.rg_serve.proofs.ending.finish.Goals as goal

pub returns-in-Err-clause-finishes : goal.returns-in-Err-clause-finishes
returns-in-Err-clause-finishes g c plan =
    let old = c.args.task.now in
    let left = c.args.gathered.now.items in
    record {
      moments = λ e is a. c.settle.ensures.settles.moments plan e (replies g.K.Task.view plan e c.args.offset is old left a) a.within;
      served = λ e is a. tt;
      halted = λ e is a. c.in-Err.ensures.settles.halted plan e (replies g.K.Task.view plan e c.args.offset is old left a) a.within;
    }

pub returns-in-Err-tell_end-clause-finishes : goal.returns-in-Err-tell_end-clause-finishes
returns-in-Err-tell_end-clause-finishes g c plan =
    let old = c.args.task.now in
    let left = c.args.gathered.now.items in
    let mid = c.settle.new.task in
    record {
      moments = λ e is a.
          let rs = replies g.K.Task.view plan e c.args.offset is old left a in
          let w2 = c.in-Ok.ensures.settles.within plan e rs a.within in
          let P = StaysOnErrand (g.K.Task.view.store plan) e [] in
          let held = subst (λ (l : List ℕ). IsHeld g.K.Task.view plan e mid l) (sym c.in-Err-tell_end.ensures.gathers.none) (held_within g.K.Task.view plan e rs mid c.settle.new.gathered.items w2) in
          moments_then g.K.Task.view.clock g.K.Task.view.since old mid c.stop.new.task P P P (c.settle.ensures.settles.moments plan e rs a.within) (c.stop.ensures.stops.moments plan e held) (λ m p. p) (λ m p. p);
      served = λ e is a. tt;
      halted = λ e is a.
          let rs = replies g.K.Task.view plan e c.args.offset is old left a in
          let w2 = c.in-Ok.ensures.settles.within plan e rs a.within in
          c.stop.ensures.stops.halted plan e (subst (λ (l : List ℕ). IsHeld g.K.Task.view plan e mid l) (sym c.in-Err-tell_end.ensures.gathers.none) (held_within g.K.Task.view plan e rs mid c.settle.new.gathered.items w2));
    }

pub returns-in-Ok-flush-clause-finishes : goal.returns-in-Ok-flush-clause-finishes
returns-in-Ok-flush-clause-finishes g c plan =
    let old = c.args.task.now in
    let left = c.args.gathered.now.items in
    let mid = c.settle.new.task in
    record {
      moments = λ e is a.
          let rs = replies g.K.Task.view plan e c.args.offset is old left a in
          let w2 = c.in-Ok.ensures.settles.within plan e rs a.within in
          let P = StaysOnErrand (g.K.Task.view.store plan) e [] in
          let w3 = end_within g.K.Task.view plan e c.args.offset is old left a mid c.settle.new.gathered.items c.tell_end.new.gathered.items w2 (c.in-Ok.ensures.settles.events plan a.within.running) (c.in-Ok.ensures.settles.done plan a.within.running)
          c.tell_end.ensures.counted c.in-Ok-tell_end.ensures.gathers.all c.in-Ok-tell_end.ensures.gathers.small in
          moments_then g.K.Task.view.clock g.K.Task.view.since old mid c.flush.new.task P P P (c.settle.ensures.settles.moments plan e rs a.within) (c.flush.ensures.flushes.moments plan e (replies_of e) w3) (λ m p. p) (λ m p. p);
      served = λ e is a.
          let rs = replies g.K.Task.view plan e c.args.offset is old left a in
          let w2 = c.in-Ok.ensures.settles.within plan e rs a.within in
          let w3 = end_within g.K.Task.view plan e c.args.offset is old left a mid c.settle.new.gathered.items c.tell_end.new.gathered.items w2 (c.in-Ok.ensures.settles.events plan a.within.running) (c.in-Ok.ensures.settles.done plan a.within.running)
          c.tell_end.ensures.counted c.in-Ok-tell_end.ensures.gathers.all c.in-Ok-tell_end.ensures.gathers.small in
          let put = subst (λ (l : List ℕ). IsWithin g.K.Task.view plan e (replies_of e) c.flush.new.task l) c.flush.ensures.empty (c.in-Ok-flush.ensures.flushes.within plan e (replies_of e) w3) in
          served g.K.Task.view plan e c.args.offset is old left a mid c.settle.new.gathered.items c.tell_end.new.gathered.items w2 (c.in-Ok.ensures.settles.events plan a.within.running) (c.in-Ok.ensures.settles.done plan a.within.running)
          c.tell_end.ensures.counted c.in-Ok-tell_end.ensures.gathers.all c.in-Ok-tell_end.ensures.gathers.small c.flush.new.task c.flush.ensures.only.keeps c.flush.ensures.only.files put;
      halted = λ e is a. tt;
    }

pub returns-in-Err-flush-clause-finishes : goal.returns-in-Err-flush-clause-finishes
returns-in-Err-flush-clause-finishes g c plan =
    let old = c.args.task.now in
    let left = c.args.gathered.now.items in
    let mid = c.settle.new.task in
    record {
      moments = λ e is a.
          let rs = replies g.K.Task.view plan e c.args.offset is old left a in
          let w2 = c.in-Ok.ensures.settles.within plan e rs a.within in
          let P = StaysOnErrand (g.K.Task.view.store plan) e [] in
          let w3 = end_within g.K.Task.view plan e c.args.offset is old left a mid c.settle.new.gathered.items c.tell_end.new.gathered.items w2 (c.in-Ok.ensures.settles.events plan a.within.running) (c.in-Ok.ensures.settles.done plan a.within.running)
          c.tell_end.ensures.counted c.in-Ok-tell_end.ensures.gathers.all c.in-Ok-tell_end.ensures.gathers.small in
          moments_then g.K.Task.view.clock g.K.Task.view.since old mid c.flush.new.task P P P (c.settle.ensures.settles.moments plan e rs a.within) (c.flush.ensures.flushes.moments plan e (replies_of e) w3) (λ m p. p) (λ m p. p);
      served = λ e is a. tt;
      halted = λ e is a. inl c.in-Err-flush.ensures.faults;
    }

pub returns-in-Err-clause-carries : goal.returns-in-Err-clause-carries
returns-in-Err-clause-carries g c = c.in-Err.ensures.carries

pub returns-in-Err-tell_end-clause-carries : goal.returns-in-Err-tell_end-clause-carries
returns-in-Err-tell_end-clause-carries g c =
    carries_then g.K.Task.view g.K.Task.disk_faults g.K.Task.out_faults (λ f. f) (λ f. f) _ _ c.args.task.now c.settle.new.task c.stop.new.task c.in-Ok.ensures.carries
    (carries_stop g.K.Task.view g.K.Task.disk_faults g.K.Task.out_faults c.stop.result c.in-Err-tell_end.fault c.settle.new.task c.settle.new.task c.stop.new.task
    (carries_memory g.K.Task.view g.K.Task.disk_faults g.K.Task.out_faults {A = ⊤} c.in-Err-tell_end.fault c.in-Err-tell_end.ensures.gathers.fault g.met.K.Task.only_now g.met.K.Task.sinks c.settle.new.task) c.stop.ensures.only c.stop.ensures.which)

pub returns-in-Ok-flush-clause-carries : goal.returns-in-Ok-flush-clause-carries
returns-in-Ok-flush-clause-carries g c =
    carries_then g.K.Task.view g.K.Task.disk_faults g.K.Task.out_faults (λ f. f) (λ f. f) _ _ c.args.task.now c.settle.new.task c.flush.new.task c.in-Ok.ensures.carries (carries_put g.K.Task.view g.K.Task.disk_faults g.K.Task.out_faults c.settle.new.task c.flush.new.task c.flush.ensures.only (λ f. f) _)

pub returns-in-Err-flush-clause-carries : goal.returns-in-Err-flush-clause-carries
returns-in-Err-flush-clause-carries g c =
    carries_then g.K.Task.view g.K.Task.disk_faults g.K.Task.out_faults (λ f. f) (λ f. f) _ _ c.args.task.now c.settle.new.task c.flush.new.task c.in-Ok.ensures.carries
    (carries_failed g.K.Task.view g.K.Task.disk_faults g.K.Task.out_faults c.settle.new.task c.flush.new.task c.flush.ensures.only c.in-Err-flush.fault c.in-Err-flush.ensures.faults (c.in-Err-flush.ensures.write (ap (λ f. Err f) c.in-Err-flush.ensures.faults)))
