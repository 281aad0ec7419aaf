use Rattle.std.proofs.Common.{Err, ℕ, List, [], ◌≤◌, inl, refl, sym, ◌∙◌, ap, subst, arith}
use Rattle.rg_host.proofs.Laws.{moments_then}
use Rattle.rg_config.specs.Plans.{planned}
use Rattle.rg_run_spec.specs.Stores.{StaysOnCourse}
use Rattle.rg_task.specs.State.{State}
use Rattle.rg_run.specs.Answered.{CountsGrow}
use Rattle.rg_run.specs.Begun.{course_for}
use Rattle.rg_run.specs.UnderWay.{IsUnderWay}
use Rattle.rg_run.proofs.Answered.{true_at_gap, true_unput, true_at_end, true_then, gap_explained, unput_explained, lines_explained}
use Rattle.rg_run.proofs.Beginning.{quiet, part_moments, first_way}
use Rattle.rg_run.proofs.Gathered.{counts_join, why_then}
use Rattle.rg_run.proofs.Taking.{taken_none}
use Rattle.rg_run.proofs.Turned.{why_none, why_write}
use Rattle.rg_run.proofs.Logged.{no_files, files_held, held_then}
use Rattle.rg_run.proofs.running.run.Goals as goal

pub returns-then-first-next-clause-begun : goal.returns-then-first-next-clause-begun
returns-then-first-next-clause-begun g c = λ b start.
    true_at_gap g.K.Task.view (planned c.args.plan.now) b _ c.args.task.now c.args.task.now (quiet g.K.Task.view g.met.K.Task.only_now g.met.K.Task.sinks (planned c.args.plan.now) b _ _ _ _ _ c.args.task.now start refl refl) c.next-next.result refl

pub returns-then-first-next-clause-cause : goal.returns-then-first-next-clause-cause
returns-then-first-next-clause-cause g c =
    gap_explained g.K.Task.view g.K.Task.disk_faults g.K.Task.out_faults g.I.Source.left g.I.Source.faults (planned c.args.plan.now) c.args.first c.args.input.now c.args.task.now c.next-next.result c.next-next.ensures c.if-first-next.true

pub returns-then-first-next-clause-goes : goal.returns-then-first-next-clause-goes
returns-then-first-next-clause-goes g c = g.K.Task.view.goes_same c.args.task.now

pub returns-then-first-next-clause-counts : goal.returns-then-first-next-clause-counts
returns-then-first-next-clause-counts g c = record { goes = g.K.Task.view.goes_same c.args.task.now; later = omega arith; disk_faults_grow = omega arith; out_faults_grow = omega arith }

pub returns-in-Err-clause-begun : goal.returns-in-Err-clause-begun
returns-in-Err-clause-begun g c = λ b start.
    let part = c.put_mark.ensures.puts.part in
    true_unput g.K.Task.view (planned c.args.plan.now) b _ c.args.task.now c.put_mark.new.task (part_moments g.K.Task.view (planned c.args.plan.now) b _ _ _ _ _ c.args.task.now start c.next-next.ensures c.count.ensures c.put_mark.new.task c.put_mark.ensures.puts.leaves c.put_mark.ensures.only.keeps part.0 part.1 part.2) c.in-Err.fault c.in-Err.ensures.faults c.in-Err.ensures.none

pub returns-in-Err-clause-cause : goal.returns-in-Err-clause-cause
returns-in-Err-clause-cause g c =
    let ahead : c.args.first ≤ (g.K.Task.view.at c.args.task.now).next = omega (arith, c.if-first-next.false, c.next-next.ensures) in
    unput_explained g.K.Task.view g.K.Task.disk_faults g.K.Task.out_faults g.I.Source.left g.I.Source.faults (planned c.args.plan.now) c.args.first c.args.input.now c.args.task.now c.in-Err.fault c.put_mark.new.task ahead c.in-Err.ensures.faults (λ is. c.in-Err.ensures.write (ap (λ f. Err f) is))

pub returns-in-Err-clause-goes : goal.returns-in-Err-clause-goes
returns-in-Err-clause-goes g c = c.put_mark.ensures.only.keeps.goes

pub returns-in-Err-clause-counts : goal.returns-in-Err-clause-counts
returns-in-Err-clause-counts g c = record { goes = c.put_mark.ensures.only.keeps.goes; later = omega arith; disk_faults_grow = omega (arith, c.put_mark.ensures.only.disk_faults_stay); out_faults_grow = c.put_mark.ensures.only.out_faults_grow }

pub lines-init : goal.lines-init
lines-init g c =
    let plan = planned c.args.plan.now in
    let left = g.I.Source.left c.args.input.now in
    let mid = c.put_mark.new.task in
    record {
      counted = omega (arith, c.new-turning.ensures.offset, c.requires.first);
      within = omega (arith, c.requires.fresh.spent);
      going = ap (λ (x : State). x.ended) c.put_mark.ensures.only.keeps.at_stays ∙ c.requires.going;
      way = λ b start.
          let way = first_way g.K.Task.view plan b left _ _ _ _ c.args.task.now start c.next-next.ensures c.count.ensures mid c.put_mark.ensures.puts.leaves c.put_mark.ensures.only.keeps c.in-Ok.ensures.puts.all c.args.lines.now c.requires.fresh in
          let at = subst (λ (l : List ℕ). IsUnderWay g.K.Task.view plan b left c.args.lines.now c.args.first mid l) (sym c.new-turning.ensures.gathered) way in
          subst (λ (n : ℕ). IsUnderWay g.K.Task.view plan b left c.args.lines.now n mid c.new-turning.result.gathered.items) (sym c.new-turning.ensures.offset) at;
      moments = λ b start.
          let part = c.put_mark.ensures.puts.part in
          part_moments g.K.Task.view plan b left _ _ _ _ c.args.task.now start c.next-next.ensures c.count.ensures mid c.put_mark.ensures.puts.leaves c.put_mark.ensures.only.keeps part.0 part.1 part.2;
      node = λ n runs. c.put_mark.ensures.only.keeps.node plan n runs;
      placed = λ placed. c.put_mark.ensures.only.keeps.placed plan placed;
      log = λ held placed holds. files_held g.K.Task.view plan held c.args.task.now mid c.put_mark.ensures.only.files holds;
      taken = taken_none left c.args.lines.now c.requires.fresh.taken c.requires.fresh.still_open;
      counts = record { goes = c.put_mark.ensures.only.keeps.goes; later = omega arith; disk_faults_grow = omega (arith, c.put_mark.ensures.only.disk_faults_stay); out_faults_grow = c.put_mark.ensures.only.out_faults_grow };
    }

pub turn-requires-clause-ready : goal.turn-requires-clause-ready
turn-requires-clause-ready g c = record {
  counted = omega (arith, c.lines.invariant.counted, c.put_ahead.ensures.puts.offset_stays);
  within = c.lines.invariant.within;
  ahead = c.in-Ok-put_ahead.ensures.goes.ahead;
  going = ap (λ (x : State). x.ended) c.put_ahead.ensures.puts.keeps.at_stays ∙ c.lines.invariant.going;
}

pub lines-preserved : goal.lines-preserved
lines-preserved g c =
    let plan = planned c.args.plan.now in
    let old = c.args.task.now in
    let put = c.put_ahead.new.task in
    let new = c.turn.new.task in
    let puts = c.put_ahead.ensures.puts in
    let before : CountsGrow g.K.Task.view g.K.Task.disk_faults g.K.Task.out_faults g.I.Source.faults c.args.input.now c.lines.input old put = counts_join g.K.Task.view g.K.Task.disk_faults g.K.Task.out_faults g.I.Source.faults c.args.input.now c.lines.input c.lines.input old c.lines.task put c.lines.invariant.counts
    (record { goes = puts.keeps.goes; later = omega arith; disk_faults_grow = omega (arith, puts.disk_faults_stay); out_faults_grow = puts.out_faults_grow }) in
    let on = c.in-Ok-true.ensures.takes.done.on_is c.in-Ok-true.field-0-test in
    record {
      counted = on.counted;
      within = on.within.1;
      going = on.going;
      way = λ b start. (c.in-Ok-true.ensures.goes b (c.in-Ok-put_ahead.ensures.goes.under_way plan b _ _ (c.lines.invariant.way b start))).done.on_is c.in-Ok-true.field-0-test;
      moments = λ b start. moments_then g.K.Task.view.clock g.K.Task.view.since old put new (StaysOnCourse (g.K.Task.view.store plan) (course_for plan b) []) (StaysOnCourse (g.K.Task.view.store plan) (course_for plan b) []) (StaysOnCourse (g.K.Task.view.store plan) (course_for plan b) []) (moments_then g.K.Task.view.clock g.K.Task.view.since old c.lines.task put (StaysOnCourse (g.K.Task.view.store plan) (course_for plan b) []) (StaysOnCourse (g.K.Task.view.store plan) (course_for plan b) []) (StaysOnCourse (g.K.Task.view.store plan) (course_for plan b) []) (c.lines.invariant.moments b start) (puts.moments plan b _ _ (c.lines.invariant.way b start)) (λ m h. h) (λ m h. h)) (c.turn.ensures.goes b (c.in-Ok-put_ahead.ensures.goes.under_way plan b _ _ (c.lines.invariant.way b start))).moments (λ m h. h) (λ m h. h);
      node = λ n runs. on.node n (puts.keeps.node plan n (c.lines.invariant.node n runs));
      placed = λ placed. on.placed (puts.keeps.placed plan (c.lines.invariant.placed placed));
      log = λ held placed holds. held_then g.K.Task.view plan held old put new (held_then g.K.Task.view plan held old c.lines.task put (c.lines.invariant.log held placed holds) (files_held g.K.Task.view plan held c.lines.task put puts.files))
          (c.turn.ensures.log_stays held (puts.keeps.placed plan (c.lines.invariant.placed placed)));
      taken = c.turn.ensures.takes.taken _ c.lines.invariant.taken;
      counts = counts_join g.K.Task.view g.K.Task.disk_faults g.K.Task.out_faults g.I.Source.faults c.args.input.now c.lines.input c.turn.new.input old put new before c.turn.ensures.takes.counts;
    }

pub lines-smaller : goal.lines-smaller
lines-smaller g c =
    let on = c.in-Ok-true.ensures.takes.done.on_is c.in-Ok-true.field-0-test in
    omega (arith, on.within.0, on.within.1)

pub returns-in-Err-put_ahead-clause-begun : goal.returns-in-Err-put_ahead-clause-begun
returns-in-Err-put_ahead-clause-begun g c = λ b start.
    let plan = planned c.args.plan.now in
    let old = c.args.task.now in
    let put = c.put_ahead.new.task in
    let puts = c.put_ahead.ensures.puts in
    let write = c.in-Err-put_ahead.ensures.goes.faults in
    true_unput g.K.Task.view plan b _ old put (moments_then g.K.Task.view.clock g.K.Task.view.since old c.lines.task put (StaysOnCourse (g.K.Task.view.store plan) (course_for plan b) []) (StaysOnCourse (g.K.Task.view.store plan) (course_for plan b) []) (StaysOnCourse (g.K.Task.view.store plan) (course_for plan b) []) (c.lines.invariant.moments b start) (puts.moments plan b _ _ (c.lines.invariant.way b start)) (λ m h. h) (λ m h. h)) c.in-Err-put_ahead.fault (inl write) (inl write)

pub returns-in-Err-put_ahead-clause-cause : goal.returns-in-Err-put_ahead-clause-cause
returns-in-Err-put_ahead-clause-cause g c =
    let plan = planned c.args.plan.now in
    let old = c.args.task.now in
    let put = c.put_ahead.new.task in
    let puts = c.put_ahead.ensures.puts in
    let before : CountsGrow g.K.Task.view g.K.Task.disk_faults g.K.Task.out_faults g.I.Source.faults c.args.input.now c.lines.input old put = counts_join g.K.Task.view g.K.Task.disk_faults g.K.Task.out_faults g.I.Source.faults c.args.input.now c.lines.input c.lines.input old c.lines.task put c.lines.invariant.counts
    (record { goes = puts.keeps.goes; later = omega arith; disk_faults_grow = omega (arith, puts.disk_faults_stay); out_faults_grow = puts.out_faults_grow }) in
    let write = c.in-Err-put_ahead.ensures.goes.faults in
    let rose = c.in-Err-put_ahead.ensures.goes.write (ap (λ f. Err f) write) in
    let ahead : c.args.first ≤ (g.K.Task.view.at c.args.task.now).next = omega (arith, c.if-first-next.false, c.next-next.ensures) in
    lines_explained g.K.Task.view g.K.Task.disk_faults g.K.Task.out_faults g.I.Source.left g.I.Source.faults plan c.args.first c.args.input.now c.lines.input old put c.lines.lines _ ahead c.lines.invariant.taken tt
    (why_write g.K.Task.view g.K.Task.disk_faults g.K.Task.out_faults g.I.Source.faults plan _ _ _ _ _ c.in-Err-put_ahead.fault write (omega (arith, rose, c.lines.invariant.counts.out_faults_grow)))

pub returns-in-Err-put_ahead-clause-counts : goal.returns-in-Err-put_ahead-clause-counts
returns-in-Err-put_ahead-clause-counts g c =
    let plan = planned c.args.plan.now in
    let old = c.args.task.now in
    let put = c.put_ahead.new.task in
    let puts = c.put_ahead.ensures.puts in
    let before : CountsGrow g.K.Task.view g.K.Task.disk_faults g.K.Task.out_faults g.I.Source.faults c.args.input.now c.lines.input old put = counts_join g.K.Task.view g.K.Task.disk_faults g.K.Task.out_faults g.I.Source.faults c.args.input.now c.lines.input c.lines.input old c.lines.task put c.lines.invariant.counts
    (record { goes = puts.keeps.goes; later = omega arith; disk_faults_grow = omega (arith, puts.disk_faults_stay); out_faults_grow = puts.out_faults_grow }) in
    before

pub returns-in-Err-put_ahead-clause-goes : goal.returns-in-Err-put_ahead-clause-goes
returns-in-Err-put_ahead-clause-goes g c = g.K.Task.view.goes_join c.args.task.now c.lines.task c.put_ahead.new.task c.lines.invariant.counts.goes c.put_ahead.ensures.puts.keeps.goes

pub returns-in-Ok-false-clause-begun : goal.returns-in-Ok-false-clause-begun
returns-in-Ok-false-clause-begun g c = λ b start.
    let plan = planned c.args.plan.now in
    let old = c.args.task.now in
    let put = c.put_ahead.new.task in
    let new = c.turn.new.task in
    let puts = c.put_ahead.ensures.puts in
    true_at_end g.K.Task.view plan b _ old new (moments_then g.K.Task.view.clock g.K.Task.view.since old put new (StaysOnCourse (g.K.Task.view.store plan) (course_for plan b) []) (StaysOnCourse (g.K.Task.view.store plan) (course_for plan b) []) (StaysOnCourse (g.K.Task.view.store plan) (course_for plan b) []) (moments_then g.K.Task.view.clock g.K.Task.view.since old c.lines.task put (StaysOnCourse (g.K.Task.view.store plan) (course_for plan b) []) (StaysOnCourse (g.K.Task.view.store plan) (course_for plan b) []) (StaysOnCourse (g.K.Task.view.store plan) (course_for plan b) []) (c.lines.invariant.moments b start) (puts.moments plan b _ _ (c.lines.invariant.way b start)) (λ m h. h) (λ m h. h)) (c.turn.ensures.goes b (c.in-Ok-put_ahead.ensures.goes.under_way plan b _ _ (c.lines.invariant.way b start))).moments (λ m h. h) (λ m h. h)) _ ((c.in-Ok-false.ensures.goes b (c.in-Ok-put_ahead.ensures.goes.under_way plan b _ _ (c.lines.invariant.way b start))).done.over_is c.in-Ok-false.field-0-test)

pub returns-in-Ok-false-clause-cause : goal.returns-in-Ok-false-clause-cause
returns-in-Ok-false-clause-cause g c =
    let plan = planned c.args.plan.now in
    let old = c.args.task.now in
    let put = c.put_ahead.new.task in
    let new = c.turn.new.task in
    let puts = c.put_ahead.ensures.puts in
    let before : CountsGrow g.K.Task.view g.K.Task.disk_faults g.K.Task.out_faults g.I.Source.faults c.args.input.now c.lines.input old put = counts_join g.K.Task.view g.K.Task.disk_faults g.K.Task.out_faults g.I.Source.faults c.args.input.now c.lines.input c.lines.input old c.lines.task put c.lines.invariant.counts
    (record { goes = puts.keeps.goes; later = omega arith; disk_faults_grow = omega (arith, puts.disk_faults_stay); out_faults_grow = puts.out_faults_grow }) in
    let ahead : c.args.first ≤ (g.K.Task.view.at c.args.task.now).next = omega (arith, c.if-first-next.false, c.next-next.ensures) in
    lines_explained g.K.Task.view g.K.Task.disk_faults g.K.Task.out_faults g.I.Source.left g.I.Source.faults plan c.args.first c.args.input.now c.turn.new.input old new c.turn.new.lines _ ahead (c.turn.ensures.takes.taken _ c.lines.invariant.taken) (c.in-Ok-false.ensures.takes.done.over_is c.in-Ok-false.field-0-test) (why_none g.K.Task.view g.K.Task.disk_faults g.K.Task.out_faults g.I.Source.faults plan _ _ _ _ _ _)

pub returns-in-Ok-false-clause-counts : goal.returns-in-Ok-false-clause-counts
returns-in-Ok-false-clause-counts g c =
    let plan = planned c.args.plan.now in
    let old = c.args.task.now in
    let put = c.put_ahead.new.task in
    let new = c.turn.new.task in
    let puts = c.put_ahead.ensures.puts in
    let before : CountsGrow g.K.Task.view g.K.Task.disk_faults g.K.Task.out_faults g.I.Source.faults c.args.input.now c.lines.input old put = counts_join g.K.Task.view g.K.Task.disk_faults g.K.Task.out_faults g.I.Source.faults c.args.input.now c.lines.input c.lines.input old c.lines.task put c.lines.invariant.counts
    (record { goes = puts.keeps.goes; later = omega arith; disk_faults_grow = omega (arith, puts.disk_faults_stay); out_faults_grow = puts.out_faults_grow }) in
    counts_join g.K.Task.view g.K.Task.disk_faults g.K.Task.out_faults g.I.Source.faults c.args.input.now c.lines.input c.turn.new.input old put new before c.turn.ensures.takes.counts

pub returns-in-Ok-false-clause-goes : goal.returns-in-Ok-false-clause-goes
returns-in-Ok-false-clause-goes g c = g.K.Task.view.goes_join c.args.task.now c.put_ahead.new.task c.turn.new.task (g.K.Task.view.goes_join c.args.task.now c.lines.task c.put_ahead.new.task c.lines.invariant.counts.goes c.put_ahead.ensures.puts.keeps.goes) c.turn.ensures.takes.counts.goes

pub returns-in-Err-turn-clause-begun : goal.returns-in-Err-turn-clause-begun
returns-in-Err-turn-clause-begun g c = λ b start.
    let plan = planned c.args.plan.now in
    let old = c.args.task.now in
    let put = c.put_ahead.new.task in
    let new = c.turn.new.task in
    let puts = c.put_ahead.ensures.puts in
    true_then g.K.Task.view plan b _ old put new c.in-Err-turn.fault _ (moments_then g.K.Task.view.clock g.K.Task.view.since old c.lines.task put (StaysOnCourse (g.K.Task.view.store plan) (course_for plan b) []) (StaysOnCourse (g.K.Task.view.store plan) (course_for plan b) []) (StaysOnCourse (g.K.Task.view.store plan) (course_for plan b) []) (c.lines.invariant.moments b start) (puts.moments plan b _ _ (c.lines.invariant.way b start)) (λ m h. h) (λ m h. h)) (c.in-Err-turn.ensures.goes b (c.in-Ok-put_ahead.ensures.goes.under_way plan b _ _ (c.lines.invariant.way b start)))

pub returns-in-Err-turn-clause-cause : goal.returns-in-Err-turn-clause-cause
returns-in-Err-turn-clause-cause g c =
    let plan = planned c.args.plan.now in
    let old = c.args.task.now in
    let put = c.put_ahead.new.task in
    let new = c.turn.new.task in
    let puts = c.put_ahead.ensures.puts in
    let before : CountsGrow g.K.Task.view g.K.Task.disk_faults g.K.Task.out_faults g.I.Source.faults c.args.input.now c.lines.input old put = counts_join g.K.Task.view g.K.Task.disk_faults g.K.Task.out_faults g.I.Source.faults c.args.input.now c.lines.input c.lines.input old c.lines.task put c.lines.invariant.counts
    (record { goes = puts.keeps.goes; later = omega arith; disk_faults_grow = omega (arith, puts.disk_faults_stay); out_faults_grow = puts.out_faults_grow }) in
    let ahead : c.args.first ≤ (g.K.Task.view.at c.args.task.now).next = omega (arith, c.if-first-next.false, c.next-next.ensures) in
    lines_explained g.K.Task.view g.K.Task.disk_faults g.K.Task.out_faults g.I.Source.left g.I.Source.faults plan c.args.first c.args.input.now c.turn.new.input old new c.turn.new.lines _ ahead (c.turn.ensures.takes.taken _ c.lines.invariant.taken) tt (why_then g.K.Task.view g.K.Task.disk_faults g.K.Task.out_faults g.I.Source.faults c.args.input.now c.lines.input c.turn.new.input old put new plan _ c.in-Err-turn.fault (λ n runs. puts.keeps.node plan n (c.lines.invariant.node n runs)) (λ placed. puts.keeps.placed plan (c.lines.invariant.placed placed)) before c.in-Err-turn.ensures.cause)

pub returns-in-Err-turn-clause-counts : goal.returns-in-Err-turn-clause-counts
returns-in-Err-turn-clause-counts g c =
    let plan = planned c.args.plan.now in
    let old = c.args.task.now in
    let put = c.put_ahead.new.task in
    let new = c.turn.new.task in
    let puts = c.put_ahead.ensures.puts in
    let before : CountsGrow g.K.Task.view g.K.Task.disk_faults g.K.Task.out_faults g.I.Source.faults c.args.input.now c.lines.input old put = counts_join g.K.Task.view g.K.Task.disk_faults g.K.Task.out_faults g.I.Source.faults c.args.input.now c.lines.input c.lines.input old c.lines.task put c.lines.invariant.counts
    (record { goes = puts.keeps.goes; later = omega arith; disk_faults_grow = omega (arith, puts.disk_faults_stay); out_faults_grow = puts.out_faults_grow }) in
    counts_join g.K.Task.view g.K.Task.disk_faults g.K.Task.out_faults g.I.Source.faults c.args.input.now c.lines.input c.turn.new.input old put new before c.turn.ensures.takes.counts

pub returns-in-Err-turn-clause-goes : goal.returns-in-Err-turn-clause-goes
returns-in-Err-turn-clause-goes g c = g.K.Task.view.goes_join c.args.task.now c.put_ahead.new.task c.turn.new.task (g.K.Task.view.goes_join c.args.task.now c.lines.task c.put_ahead.new.task c.lines.invariant.counts.goes c.put_ahead.ensures.puts.keeps.goes) c.turn.ensures.takes.counts.goes

-- over a legal log

pub returns-then-first-next-clause-log_stays : goal.returns-then-first-next-clause-log_stays
returns-then-first-next-clause-log_stays g c = λ held placed holds. files_held g.K.Task.view (planned c.args.plan.now) held c.args.task.now c.args.task.now (no_files g.K.Task.view g.met.K.Task.only_now g.met.K.Task.sinks c.args.task.now) holds

pub returns-in-Err-clause-log_stays : goal.returns-in-Err-clause-log_stays
returns-in-Err-clause-log_stays g c = λ held placed holds. files_held g.K.Task.view (planned c.args.plan.now) held c.args.task.now c.put_mark.new.task c.put_mark.ensures.only.files holds

pub returns-in-Err-put_ahead-clause-log_stays : goal.returns-in-Err-put_ahead-clause-log_stays
returns-in-Err-put_ahead-clause-log_stays g c = λ held placed holds. held_then g.K.Task.view (planned c.args.plan.now) held c.args.task.now c.lines.task c.put_ahead.new.task (c.lines.invariant.log held placed holds) (files_held g.K.Task.view (planned c.args.plan.now) held c.lines.task c.put_ahead.new.task c.put_ahead.ensures.puts.files)

pub returns-in-Ok-false-clause-log_stays : goal.returns-in-Ok-false-clause-log_stays
returns-in-Ok-false-clause-log_stays g c = λ held placed holds.
    held_then g.K.Task.view (planned c.args.plan.now) held c.args.task.now c.put_ahead.new.task c.turn.new.task
    (held_then g.K.Task.view (planned c.args.plan.now) held c.args.task.now c.lines.task c.put_ahead.new.task (c.lines.invariant.log held placed holds) (files_held g.K.Task.view (planned c.args.plan.now) held c.lines.task c.put_ahead.new.task c.put_ahead.ensures.puts.files))
    (c.turn.ensures.log_stays held (c.put_ahead.ensures.puts.keeps.placed (planned c.args.plan.now) (c.lines.invariant.placed placed)))

pub returns-in-Err-turn-clause-log_stays : goal.returns-in-Err-turn-clause-log_stays
returns-in-Err-turn-clause-log_stays g c = λ held placed holds.
    held_then g.K.Task.view (planned c.args.plan.now) held c.args.task.now c.put_ahead.new.task c.turn.new.task
    (held_then g.K.Task.view (planned c.args.plan.now) held c.args.task.now c.lines.task c.put_ahead.new.task (c.lines.invariant.log held placed holds) (files_held g.K.Task.view (planned c.args.plan.now) held c.lines.task c.put_ahead.new.task c.put_ahead.ensures.puts.files))
    (c.turn.ensures.log_stays held (c.put_ahead.ensures.puts.keeps.placed (planned c.args.plan.now) (c.lines.invariant.placed placed)))
