use Rattle.std.proofs.Common.{◌^◌, [], Err, refl, arith}
use Rattle.std.specs.Prelude.{⊤}
use Rattle.rg_config.specs.Plans.{planned}
use Rattle.rg_serve.proofs.Beginning.{comes_fresh, taken_none, longer, within_by, under_begins, serves_none, explained, promised}
use Rattle.rg_serve.proofs.Carrying.{carries_memory, carries_turn, read_is, limit_is}
use Rattle.rg_serve.proofs.running.serve.Goals as goal

pub returns-in-Ok : goal.returns-in-Ok
returns-in-Ok g c =
    let plan = planned c.args.plan.now in
    let old = c.args.task.now in
    let a = c.answer_all.ensures in
    let fresh = c.in-Ok.ensures.fresh in
    let taken = a.taken _ (taken_none (g.I.Source.left c.args.input.now) _ fresh.taken) in
    record {
      promises = promised g.K.Task.view g.K.Task.disk_faults g.K.Task.out_faults g.I.Source.left g.I.Source.faults plan c.args.from c.answer_all.result c.args.input.now c.answer_all.new.input old c.answer_all.new.task a.carries a.reads.later
          (explained g.K.Task.view g.K.Task.disk_faults g.K.Task.out_faults g.I.Source.left g.I.Source.faults plan c.answer_all.result c.args.input.now c.answer_all.new.input old c.answer_all.new.task a.carries c.requires.going
          (λ requests rest bytes comes stream. a.comes _ requests rest (comes_fresh _ requests rest bytes _ _ _ _ comes stream refl fresh.pipe fresh.held))
          a.at_end (within_by c.answer_all.result _ _ _ taken a.at_end a.within) a.reads.read (λ is. longer _ _ _ (2 ^ 50) taken (a.reads.limit is)))
          (λ e requests rest s. a.serves e requests rest s.asked (under_begins g.K.Task.view plan e requests rest _ c.args.from old s _ _ _ fresh (c.in-Ok.ensures.awaits plan e s.opens)));
    }

pub returns-in-Err : goal.returns-in-Err
returns-in-Err g c =
    let plan = planned c.args.plan.now in
    let old = c.args.task.now in
    let input = c.args.input.now in
    let carries = carries_turn g.K.Task.view g.K.Task.disk_faults g.K.Task.out_faults {A = ⊤} {B = ⊤} c.in-Err.fault old old (carries_memory g.K.Task.view g.K.Task.disk_faults g.K.Task.out_faults c.in-Err.fault c.in-Err.ensures.fault g.met.K.Task.only_now g.met.K.Task.sinks old) in
    record {
      promises = promised g.K.Task.view g.K.Task.disk_faults g.K.Task.out_faults g.I.Source.left g.I.Source.faults plan c.args.from _ input input old old carries (omega arith)
          (explained g.K.Task.view g.K.Task.disk_faults g.K.Task.out_faults g.I.Source.left g.I.Source.faults plan _ input input old old carries c.requires.going (λ requests rest bytes comes stream. tt) tt tt (λ is. absurd (read_is {A = ⊤} c.in-Err.fault is)) (λ is. absurd (limit_is {A = ⊤} c.in-Err.fault is)))
          (λ e requests rest s. serves_none g.K.Task.view plan e requests rest _ c.args.from old s c.in-Err.fault g.met.K.Task.only_now g.met.K.Task.sinks);
    }
