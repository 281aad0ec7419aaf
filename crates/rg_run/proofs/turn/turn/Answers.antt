use Rattle.std.proofs.Common.{◌≡◌, ◌==◌, ◌∷◌, Some, None, sym, ◌∙◌, ap, Err, true, false, arith}
use Rattle.std.specs.List.{list_any}
use Rattle.rg_config.specs.Plans.{planned}
use Rattle.rg_host.specs.declared.lines.LineFault.TheVariants as reading
use Rattle.rg_task.specs.Terms.{terms_of}
use Rattle.rg_task.specs.declared.fault.TaskFault.TheVariants as task
use Rattle.rg_run.specs.Begun.{course_for}
use Rattle.rg_run.specs.UnderWay.{Answers}
use Rattle.rg_run.specs.declared.fault.TurnFault.TheVariants as turn
use Rattle.rg_run.proofs.Called.{told_never}
use Rattle.rg_run.proofs.Causes.{never_by, bad_by, undamaged_by, damaged_by}
use Rattle.rg_run.proofs.Handled.{Handles, refused_handles, line_takes, line_cause, end_takes, end_cause}
use Rattle.rg_run.proofs.Taking.{text_taken, long_taken, end_taken, none_taken, taken_on, read_out, past_limit}
use Rattle.rg_run.proofs.Texts.{text_no_lf, no_lf_cleaned, as_header, as_row, as_control}
use Rattle.rg_run.proofs.Turned.{why_unread}
use Rattle.rg_run.proofs.Turns.{line_goes, end_awaits, end_goes, unread}
use Rattle.rg_run.proofs.Logged.{files_held}
use Rattle.rg_run.proofs.turn.turn.Goals as goal

pub answer-requires-clause-one_line : goal.answer-requires-clause-one_line
answer-requires-clause-one_line g c = ap (λ l. list_any (λ byte. byte == 10) l) c.clean-line.ensures ∙ no_lf_cleaned c.args.turning.now.offset c.in-Ok-Text.text.now (text_no_lf _ _ _ _ _ _ _ c.next.follows.holds-at-none c.in-Ok-Text.is c.in-Ok-Text.field-0-is)

pub returns-then-is_header-clause-goes : goal.returns-then-is_header-clause-goes
returns-then-is_header-clause-goes g c = λ b way.
    let plan = planned c.args.plan.now in
    let reads = as_header (terms_of plan).basis c.args.turning.now.offset (Some c.in-Ok-Text.text.now) (sym c.is_header.ensures ∙ c.if-is_header.true) in
    let answers : Answers g.K.Task.view plan (Some c.in-Ok-Text.text.now) c.args.turning.now.offset c.refuse.new.self.offset c.args.turning.now.gathered.items c.refuse.new.self.gathered.items c.args.task.now c.refuse.new.task c.refuse.result = record {
      moments = λ course items a. c.refuse.ensures.moments plan course ((Some c.in-Ok-Text.text.now)) items a reads;
      awaits = λ course items a. c.refuse.ensures.awaits plan course ((Some c.in-Ok-Text.text.now)) items a reads;
      events = λ course items a. c.refuse.ensures.events plan course ((Some c.in-Ok-Text.text.now)) items a reads;
      stopped = λ course items a. c.refuse.ensures.stopped plan course ((Some c.in-Ok-Text.text.now)) items a reads;
      never_damaged = λ course items a. undamaged_by c.refuse.result c.refuse.ensures.faults;
      never_bad = λ course items a. never_by c.refuse.result c.refuse.ensures.faults;
    } in
    line_goes g.K.Task.view plan b _ _ _ _ _ way _ _ _ (text_taken _ _ _ _ _ c.next.follows.holds-at-none _ _ c.in-Ok-Text.is c.in-Ok-Text.field-0-is) c.refuse.result _ _ _ answers c.refuse.ensures.offset c.turned.result c.turned.ensures

pub returns-then-is_header-clause-takes : goal.returns-then-is_header-clause-takes
returns-then-is_header-clause-takes g c = line_takes g.K.Task.view g.K.Task.disk_faults g.K.Task.out_faults g.I.Source.left g.I.Source.faults (planned c.args.plan.now) _ _ _ _ _ _ _ _ c.refuse.result (refused_handles g.K.Task.view g.K.Task.disk_faults g.K.Task.out_faults (planned c.args.plan.now) _ _ c.refuse.result _ _ c.refuse.ensures.keeps c.requires.ready.going c.refuse.ensures.offset c.refuse.ensures.faults c.refuse.ensures.write c.refuse.ensures.disk_faults c.refuse.ensures.out_faults) _ (text_taken _ _ _ _ _ c.next.follows.holds-at-none _ _ c.in-Ok-Text.is c.in-Ok-Text.field-0-is) c.requires.ready.counted (λ start t. taken_on _ _ _ _ _ _ c.next.follows.holds-at-none t) c.next.ensures.later c.turned.result c.turned.ensures

pub returns-then-is_header-clause-cause : goal.returns-then-is_header-clause-cause
returns-then-is_header-clause-cause g c = line_cause g.K.Task.view g.K.Task.disk_faults g.K.Task.out_faults g.I.Source.faults (planned c.args.plan.now) _ _ _ _ _ _ _ c.refuse.result (refused_handles g.K.Task.view g.K.Task.disk_faults g.K.Task.out_faults (planned c.args.plan.now) _ _ c.refuse.result _ _ c.refuse.ensures.keeps c.requires.ready.going c.refuse.ensures.offset c.refuse.ensures.faults c.refuse.ensures.write c.refuse.ensures.disk_faults c.refuse.ensures.out_faults) c.turned.result c.turned.ensures

pub turned-requires : goal.turned-requires
turned-requires g c = record { ended = λ is. told_never c.refuse.result c.refuse.ensures.faults (turn.Task task.Ended) (λ e. cc) (λ e. cc) is }

pub returns-in-Some-clause-goes : goal.returns-in-Some-clause-goes
returns-in-Some-clause-goes g c = λ b way.
    let plan = planned c.args.plan.now in
    let text = c.in-Ok-Text.text.now in
    let reads = as_control (terms_of plan).basis c.args.turning.now.offset text c.clean-line.result.now (sym c.is_header.ensures ∙ c.if-is_header.false) c.clean-line.ensures c.in-Some.control (sym c.in-Some.is ∙ c.control_in.ensures) in
    let answers : Answers g.K.Task.view plan (Some text) c.args.turning.now.offset c.obey.new.self.offset c.args.turning.now.gathered.items c.obey.new.self.gathered.items c.args.task.now c.obey.new.task c.obey.result = record {
      moments = λ course items a. c.obey.ensures.moments plan course (Some text) items a reads;
      awaits = λ course items a. c.obey.ensures.awaits plan course (Some text) items a reads;
      events = λ course items a. c.obey.ensures.events plan course (Some text) items a reads;
      stopped = λ course items a. c.obey.ensures.stopped plan course (Some text) items a reads;
      never_damaged = λ course items a. damaged_by c.obey.result (λ p is. c.obey.ensures.never_damaged plan course (Some text ∷ items) p a is);
      never_bad = λ course items a. bad_by c.obey.result (λ n is. c.obey.ensures.never_bad n is);
    } in
    line_goes g.K.Task.view plan b _ _ _ _ _ way _ _ _ (text_taken _ _ _ _ _ c.next.follows.holds-at-none _ _ c.in-Ok-Text.is c.in-Ok-Text.field-0-is) c.obey.result _ _ _ answers c.obey.ensures.offset c.turned-in-Some.result c.turned-in-Some.ensures

pub returns-in-Some-clause-takes : goal.returns-in-Some-clause-takes
returns-in-Some-clause-takes g c =
    let h : Handles g.K.Task.view g.K.Task.disk_faults g.K.Task.out_faults (planned c.args.plan.now) c.args.turning.now.offset c.obey.new.self.offset c.obey.result c.args.task.now c.obey.new.task = record {
      node = λ n runs. c.obey.ensures.node (planned c.args.plan.now) n runs;
      placed = λ placed. c.obey.ensures.placed (planned c.args.plan.now) placed;
      going = c.obey.ensures.goes c.requires.ready.going;
      offset_is = c.obey.ensures.offset;
      bad = λ n runs is. c.obey.ensures.never_bad n is;
      undamaged = λ p placed is. c.obey.ensures.undamaged (planned c.args.plan.now) p placed is;
      damaged = c.obey.ensures.damaged;
      write = c.obey.ensures.write;
      disk = c.obey.ensures.disk;
      goes = c.obey.ensures.log;
      disk_faults_grow = c.obey.ensures.disk_faults;
      out_faults_grow = c.obey.ensures.out_faults;
    } in
    line_takes g.K.Task.view g.K.Task.disk_faults g.K.Task.out_faults g.I.Source.left g.I.Source.faults (planned c.args.plan.now) _ _ _ _ _ _ _ _ c.obey.result h _ (text_taken _ _ _ _ _ c.next.follows.holds-at-none _ _ c.in-Ok-Text.is c.in-Ok-Text.field-0-is) c.requires.ready.counted (λ start t. taken_on _ _ _ _ _ _ c.next.follows.holds-at-none t) c.next.ensures.later c.turned-in-Some.result c.turned-in-Some.ensures

pub returns-in-Some-clause-cause : goal.returns-in-Some-clause-cause
returns-in-Some-clause-cause g c =
    let h : Handles g.K.Task.view g.K.Task.disk_faults g.K.Task.out_faults (planned c.args.plan.now) c.args.turning.now.offset c.obey.new.self.offset c.obey.result c.args.task.now c.obey.new.task = record {
      node = λ n runs. c.obey.ensures.node (planned c.args.plan.now) n runs;
      placed = λ placed. c.obey.ensures.placed (planned c.args.plan.now) placed;
      going = c.obey.ensures.goes c.requires.ready.going;
      offset_is = c.obey.ensures.offset;
      bad = λ n runs is. c.obey.ensures.never_bad n is;
      undamaged = λ p placed is. c.obey.ensures.undamaged (planned c.args.plan.now) p placed is;
      damaged = c.obey.ensures.damaged;
      write = c.obey.ensures.write;
      disk = c.obey.ensures.disk;
      goes = c.obey.ensures.log;
      disk_faults_grow = c.obey.ensures.disk_faults;
      out_faults_grow = c.obey.ensures.out_faults;
    } in
    line_cause g.K.Task.view g.K.Task.disk_faults g.K.Task.out_faults g.I.Source.faults (planned c.args.plan.now) _ _ _ _ _ _ _ c.obey.result h c.turned-in-Some.result c.turned-in-Some.ensures

pub turned-requires-in-Some : goal.turned-requires-in-Some
turned-requires-in-Some g c = record { ended = λ is. absurd (let ended : (g.K.Task.view.at c.args.task.now).ended ≡ true = c.obey.ensures.ended is in let going : (g.K.Task.view.at c.args.task.now).ended ≡ false = c.requires.ready.going in cc) }

pub returns-in-None-clause-goes : goal.returns-in-None-clause-goes
returns-in-None-clause-goes g c = λ b way.
    let plan = planned c.args.plan.now in
    let text = c.in-Ok-Text.text.now in
    let reads = as_row (terms_of plan).basis c.args.turning.now.offset text c.clean-line.result.now (sym c.is_header.ensures ∙ c.if-is_header.false) c.clean-line.ensures (sym c.in-None.is ∙ c.control_in.ensures) in
    let answers : Answers g.K.Task.view plan (Some text) c.args.turning.now.offset c.answer.new.self.offset c.args.turning.now.gathered.items c.answer.new.self.gathered.items c.args.task.now c.answer.new.task c.answer.result = record {
      moments = λ course items a. c.answer.ensures.moments course (Some text) items a reads;
      awaits = λ course items a. c.answer.ensures.awaits course (Some text) items a reads;
      events = λ course items a. c.answer.ensures.events course (Some text) items a reads;
      stopped = λ course items a. c.answer.ensures.stopped course (Some text) items a reads;
      never_damaged = λ course items a. damaged_by c.answer.result (λ p is. c.answer.ensures.never_damaged course (Some text ∷ items) p a is);
      never_bad = λ course items a. bad_by c.answer.result (λ n is. c.answer.ensures.never_bad course (Some text ∷ items) n a is);
    } in
    line_goes g.K.Task.view plan b _ _ _ _ _ way _ _ _ (text_taken _ _ _ _ _ c.next.follows.holds-at-none _ _ c.in-Ok-Text.is c.in-Ok-Text.field-0-is) c.answer.result _ _ _ answers c.answer.ensures.offset c.turned-in-None.result c.turned-in-None.ensures

pub returns-in-None-clause-takes : goal.returns-in-None-clause-takes
returns-in-None-clause-takes g c =
    let h : Handles g.K.Task.view g.K.Task.disk_faults g.K.Task.out_faults (planned c.args.plan.now) c.args.turning.now.offset c.answer.new.self.offset c.answer.result c.args.task.now c.answer.new.task = record {
      node = λ n runs. c.answer.ensures.node n runs;
      placed = λ placed. c.answer.ensures.placed placed;
      going = c.answer.ensures.goes c.requires.ready.going;
      offset_is = c.answer.ensures.offset;
      bad = λ n runs is. c.answer.ensures.never_bad_node n runs is;
      undamaged = λ p placed is. c.answer.ensures.undamaged p placed is;
      damaged = c.answer.ensures.damaged;
      write = c.answer.ensures.write;
      disk = c.answer.ensures.disk;
      goes = c.answer.ensures.log;
      disk_faults_grow = c.answer.ensures.disk_faults;
      out_faults_grow = c.answer.ensures.out_faults;
    } in
    line_takes g.K.Task.view g.K.Task.disk_faults g.K.Task.out_faults g.I.Source.left g.I.Source.faults (planned c.args.plan.now) _ _ _ _ _ _ _ _ c.answer.result h _ (text_taken _ _ _ _ _ c.next.follows.holds-at-none _ _ c.in-Ok-Text.is c.in-Ok-Text.field-0-is) c.requires.ready.counted (λ start t. taken_on _ _ _ _ _ _ c.next.follows.holds-at-none t) c.next.ensures.later c.turned-in-None.result c.turned-in-None.ensures

pub returns-in-None-clause-cause : goal.returns-in-None-clause-cause
returns-in-None-clause-cause g c =
    let h : Handles g.K.Task.view g.K.Task.disk_faults g.K.Task.out_faults (planned c.args.plan.now) c.args.turning.now.offset c.answer.new.self.offset c.answer.result c.args.task.now c.answer.new.task = record {
      node = λ n runs. c.answer.ensures.node n runs;
      placed = λ placed. c.answer.ensures.placed placed;
      going = c.answer.ensures.goes c.requires.ready.going;
      offset_is = c.answer.ensures.offset;
      bad = λ n runs is. c.answer.ensures.never_bad_node n runs is;
      undamaged = λ p placed is. c.answer.ensures.undamaged p placed is;
      damaged = c.answer.ensures.damaged;
      write = c.answer.ensures.write;
      disk = c.answer.ensures.disk;
      goes = c.answer.ensures.log;
      disk_faults_grow = c.answer.ensures.disk_faults;
      out_faults_grow = c.answer.ensures.out_faults;
    } in
    line_cause g.K.Task.view g.K.Task.disk_faults g.K.Task.out_faults g.I.Source.faults (planned c.args.plan.now) _ _ _ _ _ _ _ c.answer.result h c.turned-in-None.result c.turned-in-None.ensures

pub turned-requires-in-None : goal.turned-requires-in-None
turned-requires-in-None g c = record { ended = λ is. absurd (let ended : (g.K.Task.view.at c.args.task.now).ended ≡ true = c.answer.ensures.ended is in let going : (g.K.Task.view.at c.args.task.now).ended ≡ false = c.requires.ready.going in cc) }

pub returns-in-Ok-Long-clause-goes : goal.returns-in-Ok-Long-clause-goes
returns-in-Ok-Long-clause-goes g c = λ b way.
    let plan = planned c.args.plan.now in
    let answers : Answers g.K.Task.view plan None c.args.turning.now.offset c.refuse-refused.new.self.offset c.args.turning.now.gathered.items c.refuse-refused.new.self.gathered.items c.args.task.now c.refuse-refused.new.task c.refuse-refused.result = record {
      moments = λ course items a. c.refuse-refused.ensures.moments plan course None items a c.reply_to_long-reply.ensures;
      awaits = λ course items a. c.refuse-refused.ensures.awaits plan course None items a c.reply_to_long-reply.ensures;
      events = λ course items a. c.refuse-refused.ensures.events plan course None items a c.reply_to_long-reply.ensures;
      stopped = λ course items a. c.refuse-refused.ensures.stopped plan course None items a c.reply_to_long-reply.ensures;
      never_damaged = λ course items a. undamaged_by c.refuse-refused.result c.refuse-refused.ensures.faults;
      never_bad = λ course items a. never_by c.refuse-refused.result c.refuse-refused.ensures.faults;
    } in
    line_goes g.K.Task.view plan b _ _ _ _ _ way _ _ _ (long_taken _ _ _ _ _ c.next.follows.holds-at-none _ c.in-Ok-Long.is c.in-Ok-Long.field-0-is) c.refuse-refused.result _ _ _ answers c.refuse-refused.ensures.offset c.turned-in-Ok-Long.result c.turned-in-Ok-Long.ensures

pub returns-in-Ok-Long-clause-takes : goal.returns-in-Ok-Long-clause-takes
returns-in-Ok-Long-clause-takes g c = line_takes g.K.Task.view g.K.Task.disk_faults g.K.Task.out_faults g.I.Source.left g.I.Source.faults (planned c.args.plan.now) _ _ _ _ _ _ _ _ c.refuse-refused.result (refused_handles g.K.Task.view g.K.Task.disk_faults g.K.Task.out_faults (planned c.args.plan.now) _ _ c.refuse-refused.result _ _ c.refuse-refused.ensures.keeps c.requires.ready.going c.refuse-refused.ensures.offset c.refuse-refused.ensures.faults c.refuse-refused.ensures.write c.refuse-refused.ensures.disk_faults c.refuse-refused.ensures.out_faults) _ (long_taken _ _ _ _ _ c.next.follows.holds-at-none _ c.in-Ok-Long.is c.in-Ok-Long.field-0-is) c.requires.ready.counted (λ start t. taken_on _ _ _ _ _ _ c.next.follows.holds-at-none t) c.next.ensures.later c.turned-in-Ok-Long.result c.turned-in-Ok-Long.ensures

pub returns-in-Ok-Long-clause-cause : goal.returns-in-Ok-Long-clause-cause
returns-in-Ok-Long-clause-cause g c = line_cause g.K.Task.view g.K.Task.disk_faults g.K.Task.out_faults g.I.Source.faults (planned c.args.plan.now) _ _ _ _ _ _ _ c.refuse-refused.result (refused_handles g.K.Task.view g.K.Task.disk_faults g.K.Task.out_faults (planned c.args.plan.now) _ _ c.refuse-refused.result _ _ c.refuse-refused.ensures.keeps c.requires.ready.going c.refuse-refused.ensures.offset c.refuse-refused.ensures.faults c.refuse-refused.ensures.write c.refuse-refused.ensures.disk_faults c.refuse-refused.ensures.out_faults) c.turned-in-Ok-Long.result c.turned-in-Ok-Long.ensures

pub turned-requires-in-Ok-Long : goal.turned-requires-in-Ok-Long
turned-requires-in-Ok-Long g c = record { ended = λ is. told_never c.refuse-refused.result c.refuse-refused.ensures.faults (turn.Task task.Ended) (λ e. cc) (λ e. cc) is }

pub returns-in-Ok-End-clause-goes : goal.returns-in-Ok-End-clause-goes
returns-in-Ok-End-clause-goes g c = λ b way.
    let plan = planned c.args.plan.now in
    let course = course_for plan b in
    let a = end_awaits g.K.Task.view plan b _ _ _ _ _ way _ _ (end_taken _ _ _ _ _ c.next.follows.holds-at-none _ c.in-Ok-End.is c.in-Ok-End.field-0-is) in
    end_goes g.K.Task.view plan b _ c.args.task.now c.finish.new.task _ (c.finish.ensures.moments plan course a) c.finish.result (c.finish.ensures.done plan course a) (c.finish.ensures.stopped plan course a) c.finish.ensures.faults c.ended.result c.ended.ensures

pub returns-in-Ok-End-clause-takes : goal.returns-in-Ok-End-clause-takes
returns-in-Ok-End-clause-takes g c =
    end_takes g.K.Task.view g.K.Task.disk_faults g.K.Task.out_faults g.I.Source.left g.I.Source.faults _ _ _ _ _ _ _ c.finish.result
    (read_out _ _ _ _ (end_taken _ _ _ _ _ c.next.follows.holds-at-none _ c.in-Ok-End.is c.in-Ok-End.field-0-is))
    (λ start t. taken_on _ _ _ _ _ _ c.next.follows.holds-at-none t)
    (record { goes = c.finish.ensures.log; later = c.next.ensures.later; disk_faults_grow = c.finish.ensures.disk_faults; out_faults_grow = c.finish.ensures.out_faults })
    c.ended.result c.ended.ensures

pub returns-in-Ok-End-clause-cause : goal.returns-in-Ok-End-clause-cause
returns-in-Ok-End-clause-cause g c = end_cause g.K.Task.view g.K.Task.disk_faults g.K.Task.out_faults g.I.Source.faults (planned c.args.plan.now) _ _ _ _ _ c.finish.result c.finish.ensures.faults c.finish.ensures.write c.finish.ensures.disk c.ended.result c.ended.ensures

pub ended-requires : goal.ended-requires
ended-requires g c = record { ended = λ is. absurd (let ended : (g.K.Task.view.at c.args.task.now).ended ≡ true = c.finish.ensures.ended is in let going : (g.K.Task.view.at c.args.task.now).ended ≡ false = c.requires.ready.going in cc) }

pub returns-in-Err-clause-goes : goal.returns-in-Err-clause-goes
returns-in-Err-clause-goes g c =
    λ b way. unread g.K.Task.view g.K.Task.disk_faults g.K.Task.out_faults (planned c.args.plan.now) b _ _ _ _ _ _ _ c.stop_reading.ensures.puts way _ _ c.in-Err.fault (none_taken _ _ _ _ _ c.next.follows.holds-at-none c.in-Err.fault c.in-Err.is) _ c.input_fault.result c.stop_reading.result c.input_fault.ensures c.stop_reading.ensures.stops

pub returns-in-Err-clause-takes : goal.returns-in-Err-clause-takes
returns-in-Err-clause-takes g c =
    let puts = c.stop_reading.ensures.puts in
    record {
      done = tt;
      taken = λ start t. taken_on _ _ _ _ _ _ c.next.follows.holds-at-none t;
      counts = record { goes = puts.keeps.goes; later = c.next.ensures.later; disk_faults_grow = omega (arith, puts.disk_faults_stay); out_faults_grow = puts.out_faults_grow };
    }

pub returns-in-Err-clause-cause : goal.returns-in-Err-clause-cause
returns-in-Err-clause-cause g c =
    why_unread g.K.Task.view g.K.Task.disk_faults g.K.Task.out_faults g.I.Source.faults (planned c.args.plan.now) _ _ _ _ _ c.in-Err.fault c.input_fault.result c.stop_reading.result c.input_fault.ensures
    (λ is. c.next.ensures.cause (c.in-Err.is ∙ ap (λ v. Err v) is))
    (λ is. past_limit _ _ _ _ (none_taken _ _ _ _ _ c.next.follows.holds-at-none reading.Limit (c.in-Err.is ∙ ap (λ v. Err v) is)))
    c.stop_reading.ensures.stops.which

-- over a legal log

pub returns-then-is_header-clause-log_stays : goal.returns-then-is_header-clause-log_stays
returns-then-is_header-clause-log_stays g c = λ held placed holds. files_held g.K.Task.view (planned c.args.plan.now) held c.args.task.now c.refuse.new.task c.refuse.ensures.files holds

pub returns-in-Some-clause-log_stays : goal.returns-in-Some-clause-log_stays
returns-in-Some-clause-log_stays g c = c.obey.ensures.log_stays (planned c.args.plan.now)

pub returns-in-None-clause-log_stays : goal.returns-in-None-clause-log_stays
returns-in-None-clause-log_stays g c = c.answer.ensures.log_stays

pub returns-in-Ok-Long-clause-log_stays : goal.returns-in-Ok-Long-clause-log_stays
returns-in-Ok-Long-clause-log_stays g c = λ held placed holds. files_held g.K.Task.view (planned c.args.plan.now) held c.args.task.now c.refuse-refused.new.task c.refuse-refused.ensures.files holds

pub returns-in-Ok-End-clause-log_stays : goal.returns-in-Ok-End-clause-log_stays
returns-in-Ok-End-clause-log_stays g c = c.finish.ensures.log_stays (planned c.args.plan.now)

pub returns-in-Err-clause-log_stays : goal.returns-in-Err-clause-log_stays
returns-in-Err-clause-log_stays g c = λ held placed holds. files_held g.K.Task.view (planned c.args.plan.now) held c.args.task.now c.stop_reading.new.task c.stop_reading.ensures.puts.files holds
