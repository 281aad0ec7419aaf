use Rattle.std.proofs.Common.{Err, List, [], ℕ, inl, sym, ap, subst, arith}
use Rattle.std.specs.Prelude.{⊤}
use Rattle.rg_serve.specs.Intaking.{Intaking}
use Rattle.rg_serve.specs.UnderWay.{IsUnderWay}
use Rattle.rg_task.specs.State.{State}
use Rattle.rg_serve.proofs.Coming.{reads_some, reads_none, reads_failed, reads_many, at_end_before, closed_comes, taken_more}
use Rattle.rg_serve.proofs.Going.{replies_done, under_flushed, under_read, goes_end, goes_then, stops_read, stops_limit}
use Rattle.rg_run.specs.declared.fault.TurnFault.{TurnFault}
use Rattle.rg_run.specs.declared.fault.TurnFault.TheVariants as turn
use Rattle.rg_serve.specs.declared.fault.ServeFault.TheVariants.{Turn, Read, Limit}
use Rattle.rg_serve.proofs.Carrying.{carries_then, carries_put, carries_failed, carries_turn, carries_unput, read_no, limit_no, short_over, carries_first}
use Rattle.rg_serve.proofs.reading.read_on.Goals as goal

pub returns-in-Err-clause-serves : goal.returns-in-Err-clause-serves
returns-in-Err-clause-serves g c plan e requests rest asked u = record {
  moments = c.flush.ensures.flushes.moments plan e (replies_done g.K.Task.view plan e u.awaiting.done) u.awaiting.within;
  outcome = inl c.in-Err.ensures.faults;
}

pub returns-in-Ok-true-clause-serves : goal.returns-in-Ok-true-clause-serves
returns-in-Ok-true-clause-serves g c plan e requests rest asked u =
    let left = g.I.Source.left c.args.input.now in
    let mid = c.flush.new.task in
    let takes = reads_some _ _ _ _ _ c.in-Ok-true.field-0-test c.in-Ok-true.ensures.reads in
    let put = under_flushed g.K.Task.view plan e requests rest left c.args.pipe.now [] c.args.task.now mid c.args.gathered.now.items c.flush.new.gathered.items u
    (c.in-Ok.ensures.flushes.within plan e (replies_done g.K.Task.view plan e u.awaiting.done) u.awaiting.within) c.flush.ensures.empty (ap (λ (x : State). x.events) c.flush.ensures.only.keeps.at_stays) in
    record {
      moments = c.flush.ensures.flushes.moments plan e (replies_done g.K.Task.view plan e u.awaiting.done) u.awaiting.within;
      outcome = subst (λ (l : List ℕ). IsUnderWay g.K.Task.view plan e requests rest (g.I.Source.left c.read.new.input) c.args.pipe.now c.read.new.self.held mid l) (sym c.flush.ensures.empty)
          (under_read g.K.Task.view plan e requests rest left c.args.pipe.now _ _ (g.I.Source.left c.read.new.input) mid [] put takes);
    }

pub returns-in-Ok-true-clause-taken : goal.returns-in-Ok-true-clause-taken
returns-in-Ok-true-clause-taken g c start t =
    let takes = reads_some _ _ _ _ _ c.in-Ok-true.field-0-test c.in-Ok-true.ensures.reads in
    taken_more start _ _ _ _ _ takes.took takes.count t

pub returns-in-Ok-false-clause-serves : goal.returns-in-Ok-false-clause-serves
returns-in-Ok-false-clause-serves g c plan e requests rest asked u =
    let left = g.I.Source.left c.args.input.now in
    let mid = c.flush.new.task in
    let none = reads_none _ _ _ _ _ c.in-Ok-false.field-0-test c.in-Ok-false.ensures.reads in
    let put = under_flushed g.K.Task.view plan e requests rest left c.args.pipe.now [] c.args.task.now mid c.args.gathered.now.items c.flush.new.gathered.items u
    (c.in-Ok.ensures.flushes.within plan e (replies_done g.K.Task.view plan e u.awaiting.done) u.awaiting.within) c.flush.ensures.empty (ap (λ (x : State). x.events) c.flush.ensures.only.keeps.at_stays) in
    goes_then g.K.Task.view plan e requests rest left c.args.pipe.now _ _ _ c.args.task.now mid c.close.new.task c.close.result (c.flush.ensures.flushes.moments plan e (replies_done g.K.Task.view plan e u.awaiting.done) u.awaiting.within)
    (goes_end g.K.Task.view plan e requests rest left c.args.pipe.now _ _ _ mid c.close.new.task c.close.result asked (at_end_before left _ none.2 none.1) c.requires.part put (c.close.ensures.closes plan) c.close.ensures.over c.close.ensures.never_read c.close.ensures.never_limit c.close.ensures.frame)

pub returns-in-Ok-false-clause-comes : goal.returns-in-Ok-false-clause-comes
returns-in-Ok-false-clause-comes g c first requests rest coming =
    let left = g.I.Source.left c.args.input.now in
    let none = reads_none _ _ _ _ _ c.in-Ok-false.field-0-test c.in-Ok-false.ensures.reads in
    closed_comes requests rest _ c.close.result c.close.ensures.over (c.close.ensures.comes first requests rest left coming (at_end_before left _ none.2 none.1))

pub returns-in-Ok-false-clause-taken : goal.returns-in-Ok-false-clause-taken
returns-in-Ok-false-clause-taken g c start t =
    let none = reads_none _ _ _ _ _ c.in-Ok-false.field-0-test c.in-Ok-false.ensures.reads in
    taken_more start _ _ _ _ [] none.2 (omega (arith, ap (λ (x : Intaking). x.taken) none.0)) t

pub returns-in-Err-Read-clause-serves : goal.returns-in-Err-Read-clause-serves
returns-in-Err-Read-clause-serves g c plan e requests rest asked u =
    let left = g.I.Source.left c.args.input.now in
    let mid = c.flush.new.task in
    let failed = reads_failed _ _ _ _ _ c.in-Err-Read.field-0-is c.in-Err-Read.ensures.reads in
    let put = under_flushed g.K.Task.view plan e requests rest left c.args.pipe.now [] c.args.task.now mid c.args.gathered.now.items c.flush.new.gathered.items u
    (c.in-Ok.ensures.flushes.within plan e (replies_done g.K.Task.view plan e u.awaiting.done) u.awaiting.within) c.flush.ensures.empty (ap (λ (x : State). x.events) c.flush.ensures.only.keeps.at_stays) in
    record {
      moments = c.flush.ensures.flushes.moments plan e (replies_done g.K.Task.view plan e u.awaiting.done) u.awaiting.within;
      outcome = stops_read g.K.Task.view plan e requests rest left c.args.pipe.now _ mid asked c.requires.part failed.1 put;
    }

pub returns-in-Err-Limit-clause-serves : goal.returns-in-Err-Limit-clause-serves
returns-in-Err-Limit-clause-serves g c plan e requests rest asked u =
    let left = g.I.Source.left c.args.input.now in
    let mid = c.flush.new.task in
    let drops = reads_many _ _ _ _ _ c.in-Err-Limit.field-0-is c.in-Err-Limit.ensures.reads in
    let put = under_flushed g.K.Task.view plan e requests rest left c.args.pipe.now [] c.args.task.now mid c.args.gathered.now.items c.flush.new.gathered.items u
    (c.in-Ok.ensures.flushes.within plan e (replies_done g.K.Task.view plan e u.awaiting.done) u.awaiting.within) c.flush.ensures.empty (ap (λ (x : State). x.events) c.flush.ensures.only.keeps.at_stays) in
    record {
      moments = c.flush.ensures.flushes.moments plan e (replies_done g.K.Task.view plan e u.awaiting.done) u.awaiting.within;
      outcome = stops_limit g.K.Task.view plan e requests rest left c.args.pipe.now _ _ _ mid asked c.requires.part drops put;
    }

pub returns-in-Err-Limit-clause-taken : goal.returns-in-Err-Limit-clause-taken
returns-in-Err-Limit-clause-taken g c start t =
    let drops = reads_many _ _ _ _ _ c.in-Err-Limit.field-0-is c.in-Err-Limit.ensures.reads in
    taken_more start _ _ _ _ _ drops.took drops.count t

pub returns-in-Err-clause-carries : goal.returns-in-Err-clause-carries
returns-in-Err-clause-carries g c =
    carries_turn g.K.Task.view g.K.Task.disk_faults g.K.Task.out_faults {A = ⊤} c.in-Err.fault c.args.task.now c.flush.new.task (carries_failed g.K.Task.view g.K.Task.disk_faults g.K.Task.out_faults c.args.task.now c.flush.new.task c.flush.ensures.only c.in-Err.fault c.in-Err.ensures.faults (c.in-Err.ensures.write (ap (λ (f : TurnFault). Err f) c.in-Err.ensures.faults)))

pub returns-in-Ok-true-clause-carries : goal.returns-in-Ok-true-clause-carries
returns-in-Ok-true-clause-carries g c = carries_put g.K.Task.view g.K.Task.disk_faults g.K.Task.out_faults c.args.task.now c.flush.new.task c.flush.ensures.only Turn _

pub returns-in-Ok-false-clause-carries : goal.returns-in-Ok-false-clause-carries
returns-in-Ok-false-clause-carries g c =
    carries_then g.K.Task.view g.K.Task.disk_faults g.K.Task.out_faults (λ f. f) Turn _ _ c.args.task.now c.flush.new.task c.close.new.task (carries_first g.K.Task.view g.K.Task.disk_faults g.K.Task.out_faults c.args.task.now c.flush.new.task c.flush.ensures.only) c.close.ensures.carries

pub returns-in-Err-Read-clause-carries : goal.returns-in-Err-Read-clause-carries
returns-in-Err-Read-clause-carries g c = carries_unput g.K.Task.view g.K.Task.disk_faults g.K.Task.out_faults c.args.task.now c.flush.new.task c.flush.ensures.only Turn Read (λ e is. read_no (turn.Task e) is) (λ is. absurd (read_no turn.Write is))

pub returns-in-Err-Limit-clause-carries : goal.returns-in-Err-Limit-clause-carries
returns-in-Err-Limit-clause-carries g c = carries_unput g.K.Task.view g.K.Task.disk_faults g.K.Task.out_faults c.args.task.now c.flush.new.task c.flush.ensures.only Turn Limit (λ e is. limit_no (turn.Task e) is) (λ is. absurd (limit_no turn.Write is))

pub returns-in-Ok-false-clause-short : goal.returns-in-Ok-false-clause-short
returns-in-Ok-false-clause-short g c = short_over c.close.result _ c.close.ensures.over
