use Rattle.rg_checkpoint.proofs.Rewriting.{rewritten_by, appended_turns, rewriting_emptied, rewriting_appended}
use Rattle.rg_checkpoint.proofs.slot.rewrite.Goals as goal

pub returns-in-Ok-append-clause-ok : goal.returns-in-Ok-append-clause-ok
returns-in-Ok-append-clause-ok g c =
    rewritten_by g.H.Host.now g.H.Host.may c.args.file c.args.payload.now c.new-log.result c.clear.new.self (record { log = c.append.new.self; sizes = c.of_base.result }) c.args.host.now c.clear.new.host c.append.new.host
    c.new-log.ensures.fresh c.in-Ok.ensures.ok c.in-Ok-append.ensures.ok c.of_base.ensures c.in-Ok.ensures.none c.in-Ok-append.ensures.appended c.in-Ok-append.ensures.pending c.append.ensures.reaches

pub returns-in-Ok-append-clause-any : goal.returns-in-Ok-append-clause-any
returns-in-Ok-append-clause-any g c =
    let leaves =
    appended_turns g.H.Host.now g.H.Host.may g.H.Host.clock g.H.Host.since g.H.Host.said c.args.file c.args.payload.now c.new-log.result c.clear.new.self c.args.host.now c.clear.new.host c.append.new.host c.new-log.ensures.fresh c.in-Ok.ensures.ok c.clear.ensures.leaves c.in-Ok.ensures.pending
    c.in-Ok.ensures.none c.append.ensures.leaves
    in
    rewriting_appended g.H.Host.now g.H.Host.may g.H.Host.clock g.H.Host.since g.H.Host.said g.H.Host.disk_faults g.H.Host.out_faults g.H.Host.reads c.args.file c.args.payload.now c.new-log.result c.clear.new.self c.args.host.now c.clear.new.host c.append.new.host c.new-log.ensures.fresh
    c.in-Ok.ensures.ok leaves c.clear.ensures.others c.append.ensures.others c.clear.ensures.disk_faults c.append.ensures.disk_faults c.clear.ensures.out_faults c.append.ensures.out_faults c.clear.ensures.reads c.append.ensures.reads

pub returns-in-Err-append-clause-any : goal.returns-in-Err-append-clause-any
returns-in-Err-append-clause-any g c =
    let leaves =
    appended_turns g.H.Host.now g.H.Host.may g.H.Host.clock g.H.Host.since g.H.Host.said c.args.file c.args.payload.now c.new-log.result c.clear.new.self c.args.host.now c.clear.new.host c.append.new.host c.new-log.ensures.fresh c.in-Ok.ensures.ok c.clear.ensures.leaves c.in-Ok.ensures.pending
    c.in-Ok.ensures.none c.append.ensures.leaves
    in
    rewriting_appended g.H.Host.now g.H.Host.may g.H.Host.clock g.H.Host.since g.H.Host.said g.H.Host.disk_faults g.H.Host.out_faults g.H.Host.reads c.args.file c.args.payload.now c.new-log.result c.clear.new.self c.args.host.now c.clear.new.host c.append.new.host c.new-log.ensures.fresh
    c.in-Ok.ensures.ok leaves c.clear.ensures.others c.append.ensures.others c.clear.ensures.disk_faults c.append.ensures.disk_faults c.clear.ensures.out_faults c.append.ensures.out_faults c.clear.ensures.reads c.append.ensures.reads

pub returns-in-Err-clause-any : goal.returns-in-Err-clause-any
returns-in-Err-clause-any g c =
    rewriting_emptied g.H.Host.now g.H.Host.may g.H.Host.clock g.H.Host.since g.H.Host.said g.H.Host.disk_faults g.H.Host.out_faults g.H.Host.reads c.args.file c.args.payload.now c.new-log.result c.args.host.now c.clear.new.host c.new-log.ensures.fresh c.clear.ensures.leaves c.clear.ensures.others
    c.clear.ensures.disk_faults c.clear.ensures.out_faults c.clear.ensures.reads
