use Rattle.std.proofs.Common.{ℕ, List, Some, ◌<◌, ◌^◌, ⊎_elim, refl, ap, arith}
use Rattle.rg_event.specs.Rising.{next_offset}
use Rattle.rg_recover.specs.Ready.{begun_by}
use Rattle.rg_commands.specs.Runs.{told_store}
use Rattle.rg_restarts.proofs.Stops.{told_by, ends_well, never_rises, never_longer}
use Rattle.rg_restarts.proofs.twice.run_bytes.Goals as goal

pub returns-clause-runs : goal.returns-clause-runs
returns-clause-runs g c = λ run asks says. record {
  has_run = λ ready.
      let w = c.railgun.ensures.every_moment 0 run (told_by _ c.args.plan.now c.args.input.now (ap (λ (bytes : List ℕ). Some bytes) c.new-plan_source.ensures) (ap (λ (bytes : List ℕ). Some bytes) c.new-input_source.ensures) asks says ready) in
      record {
        from = w.0;
        last = w.1;
        last_is = w.2;
        moments = w.4;
        complete = λ ok u left. (c.railgun.ensures.complete_run ok 0 run (told_by _ c.args.plan.now c.args.input.now (ap (λ (bytes : List ℕ). Some bytes) c.new-plan_source.ensures) (ap (λ (bytes : List ℕ). Some bytes) c.new-input_source.ensures) asks says ready)).1.has u left;
        resumes = λ ok on_course. c.railgun.ensures.resumes ok 0 run (told_by _ c.args.plan.now c.args.input.now (ap (λ (bytes : List ℕ). Some bytes) c.new-plan_source.ensures) (ap (λ (bytes : List ℕ). Some bytes) c.new-input_source.ensures) asks says ready) refl on_course;
      };
}

pub returns-clause-ends : goal.returns-clause-ends
returns-clause-ends g c = λ run asks says ready within.
    let w = c.railgun.ensures.every_moment 0 run (told_by _ c.args.plan.now c.args.input.now (ap (λ (bytes : List ℕ). Some bytes) c.new-plan_source.ensures) (ap (λ (bytes : List ℕ). Some bytes) c.new-input_source.ensures) asks says ready) in
    ends_well (begun_by ready w.0 0 c.args.input.now) c.railgun.result w.1 _ _ w.2
    (λ is. (c.railgun.ensures.run 0 run).store_never (told_store (told_by _ c.args.plan.now c.args.input.now (ap (λ (bytes : List ℕ). Some bytes) c.new-plan_source.ensures) (ap (λ (bytes : List ℕ). Some bytes) c.new-input_source.ensures) asks says ready)) is)
    (λ is. ⊎_elim (λ rose. never_rises rose) (λ more. never_rises more.2) (c.railgun.ensures.read_only is))
    (λ is. ⊎_elim
    (λ long. never_longer 65536 c.new-plan_source.result c.args.plan.now c.new-plan_source.ensures says.within long.1)
    (λ long. never_longer (2 ^ 50) c.new-input_source.result c.args.input.now c.new-input_source.ensures within long.2)
    (c.railgun.ensures.limit_only is))
    (λ is. let behind : next_offset ready.held < 0 = (c.railgun.ensures.run 0 run).gap_never is c.args.plan.now asks ready.openable.image ready.held (ap (λ (bytes : List ℕ). Some bytes) c.new-plan_source.ensures) says ready.openable.told ready.has in omega (arith, behind))
    (λ is. (c.railgun.ensures.write_only is).1)
    (λ is. (c.railgun.ensures.disk_only is).1)
