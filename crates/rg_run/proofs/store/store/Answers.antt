use Rattle.std.proofs.Common.{◌≡◌, List, [], ℕ, Err, inl, inr, sym, ◌∙◌, subst, ap, arith}
use Rattle.rg_host.proofs.Laws.{moments_then}
use Rattle.rg_task.specs.State.{State}
use Rattle.rg_run_spec.specs.Stores.{StaysOnCourse}
use Rattle.rg_run.specs.Turning.{IsMidTurn}
use Rattle.rg_run.specs.declared.due.Due.{Due}
use Rattle.rg_run.specs.declared.due.Due.TheVariants.{Commit, Nothing}
use Rattle.rg_run.proofs.Called.{cause_none, cause_unput, cause_task, sustains_unput}
use Rattle.rg_run.proofs.Gathering.{mid_held, mid_put, held_moments}
use Rattle.rg_run.proofs.Logged.{files_held, log_held, held_then}
use Rattle.rg_run.proofs.Stepping.{due_steps, due_stored, has_stopped}
use Rattle.rg_run.proofs.store.store.Goals as goal

due_not : ◌≡◌ {A = Due} Commit Nothing → ⊥
due_not is = cc

pub returns-in-Err-clause-settles : goal.returns-in-Err-clause-settles
returns-in-Err-clause-settles g c =
    let h = c.args.task.now in
    let put = c.put_gathered.new.task in
    record {
      moments = λ plan course offset item items start m. held_moments g.K.Task.view plan course h put c.args.gathered.now.items (mid_held g.K.Task.view plan course offset h c.args.gathered.now.items item items start m) c.put_gathered.ensures.puts.leaves c.put_gathered.ensures.puts.part;
      stopped = λ plan course offset item items start m. inl c.in-Err.ensures.faults;
      mid_turn = λ plan course offset item items start m. tt;
      done = λ plan runs. tt;
      idle = λ is. absurd (due_not is);
    }

pub returns-in-Err-clause-sustains : goal.returns-in-Err-clause-sustains
returns-in-Err-clause-sustains g c = sustains_unput g.K.Task.view g.K.Task.disk_faults g.K.Task.out_faults c.in-Err.fault c.args.task.now c.put_gathered.new.task c.put_gathered.ensures.only

pub returns-in-Err-clause-cause : goal.returns-in-Err-clause-cause
returns-in-Err-clause-cause g c = cause_unput g.K.Task.view g.K.Task.disk_faults g.K.Task.out_faults c.in-Err.fault c.args.task.now c.put_gathered.new.task c.in-Err.ensures.faults (c.in-Err.ensures.write (ap (λ f. Err f) c.in-Err.ensures.faults))

pub returns-in-Ok-commit-clause-settles : goal.returns-in-Ok-commit-clause-settles
returns-in-Ok-commit-clause-settles g c =
    let h = c.args.task.now in
    let put = c.put_gathered.new.task in
    let last = c.commit.new.self in
    record {
      moments = λ plan course offset item items start m.
          let m2 = mid_put g.K.Task.view plan course offset h put c.args.gathered.now.items c.put_gathered.ensures.puts.leaves c.put_gathered.ensures.only.keeps c.in-Ok.ensures.puts.all item items start m in
          let P = StaysOnCourse (g.K.Task.view.store plan) course [] in
          moments_then g.K.Task.view.clock g.K.Task.view.since h put last P P P
          (held_moments g.K.Task.view plan course h put c.args.gathered.now.items (mid_held g.K.Task.view plan course offset h c.args.gathered.now.items item items start m) c.put_gathered.ensures.puts.leaves c.put_gathered.ensures.puts.part)
          (due_steps g.K.Task.view plan course offset item items start put last m2 (c.commit.ensures.within_step plan (g.K.Task.view.at put).keep m2.running)).moments (λ w p. p) (λ w p. p);
      stopped = λ plan course offset item items start m. tt;
      mid_turn = λ plan course offset item items start m.
          let m2 = mid_put g.K.Task.view plan course offset h put c.args.gathered.now.items c.put_gathered.ensures.puts.leaves c.put_gathered.ensures.only.keeps c.in-Ok.ensures.puts.all item items start m in
          subst (λ (l : List ℕ). IsMidTurn g.K.Task.view plan course offset item items start last l) (sym c.put_gathered.ensures.empty)
          (due_stored g.K.Task.view plan course offset item items start put last m2 (c.in-Ok-commit.ensures.running plan m2.running) c.commit.ensures.said c.commit.ensures.keep (c.in-Ok-commit.ensures.stored plan (g.K.Task.view.at put).keep m2.running) (c.in-Ok-commit.ensures.events plan m2.running));
      done = λ plan runs. c.in-Ok-commit.ensures.all;
      idle = λ is. absurd (due_not is);
    }

pub returns-in-Ok-commit-clause-sustains : goal.returns-in-Ok-commit-clause-sustains
returns-in-Ok-commit-clause-sustains g c = record {
  node = λ plan n runs. c.in-Ok-commit.ensures.node plan n (c.put_gathered.ensures.only.keeps.node plan n runs);
  placed = λ plan placed. c.in-Ok-commit.ensures.placed plan (c.put_gathered.ensures.only.keeps.placed plan placed);
  going = λ going. c.in-Ok-commit.ensures.going;
  goes = g.K.Task.view.goes_join c.args.task.now c.put_gathered.new.task c.commit.new.self c.put_gathered.ensures.only.keeps.goes c.commit.ensures.goes;
  log = λ plan held placed holds. held_then g.K.Task.view plan held c.args.task.now c.put_gathered.new.task c.commit.new.self
      (files_held g.K.Task.view plan held c.args.task.now c.put_gathered.new.task c.put_gathered.ensures.only.files holds)
      (log_held g.K.Task.view plan held (g.K.Task.view.at c.put_gathered.new.task).chunk c.put_gathered.new.task c.commit.new.self (c.commit.ensures.log_stays plan (c.put_gathered.ensures.only.keeps.placed plan placed)));
  disk_faults_grow = omega (arith, c.put_gathered.ensures.only.disk_faults_stay, c.commit.ensures.disk_faults);
  out_faults_grow = omega (arith, c.put_gathered.ensures.only.out_faults_grow, c.commit.ensures.out_faults);
}

pub returns-in-Ok-commit-clause-cause : goal.returns-in-Ok-commit-clause-cause
returns-in-Ok-commit-clause-cause g c = cause_none g.K.Task.view g.K.Task.disk_faults g.K.Task.out_faults _ c.args.task.now c.commit.new.self

pub returns-in-Err-commit-clause-settles : goal.returns-in-Err-commit-clause-settles
returns-in-Err-commit-clause-settles g c =
    let h = c.args.task.now in
    let put = c.put_gathered.new.task in
    let last = c.commit.new.self in
    record {
      moments = λ plan course offset item items start m.
          let m2 = mid_put g.K.Task.view plan course offset h put c.args.gathered.now.items c.put_gathered.ensures.puts.leaves c.put_gathered.ensures.only.keeps c.in-Ok.ensures.puts.all item items start m in
          let P = StaysOnCourse (g.K.Task.view.store plan) course [] in
          moments_then g.K.Task.view.clock g.K.Task.view.since h put last P P P
          (held_moments g.K.Task.view plan course h put c.args.gathered.now.items (mid_held g.K.Task.view plan course offset h c.args.gathered.now.items item items start m) c.put_gathered.ensures.puts.leaves c.put_gathered.ensures.puts.part)
          (due_steps g.K.Task.view plan course offset item items start put last m2 (c.commit.ensures.within_step plan (g.K.Task.view.at put).keep m2.running)).moments (λ w p. p) (λ w p. p);
      stopped = λ plan course offset item items start m.
          let m2 = mid_put g.K.Task.view plan course offset h put c.args.gathered.now.items c.put_gathered.ensures.puts.leaves c.put_gathered.ensures.only.keeps c.in-Ok.ensures.puts.all item items start m in
          inr (has_stopped g.K.Task.view plan course put last m2.put (c.commit.ensures.said ∙ m2.told) (due_steps g.K.Task.view plan course offset item items start put last m2 (c.commit.ensures.within_step plan (g.K.Task.view.at put).keep m2.running)));
      mid_turn = λ plan course offset item items start m. tt;
      done = λ plan runs. tt;
      idle = λ is. absurd (due_not is);
    }

pub returns-in-Err-commit-clause-sustains : goal.returns-in-Err-commit-clause-sustains
returns-in-Err-commit-clause-sustains g c = record {
  node = λ plan n runs. tt;
  placed = λ plan placed. tt;
  going = λ going. tt;
  goes = g.K.Task.view.goes_join c.args.task.now c.put_gathered.new.task c.commit.new.self c.put_gathered.ensures.only.keeps.goes c.commit.ensures.goes;
  log = λ plan held placed holds. held_then g.K.Task.view plan held c.args.task.now c.put_gathered.new.task c.commit.new.self
      (files_held g.K.Task.view plan held c.args.task.now c.put_gathered.new.task c.put_gathered.ensures.only.files holds)
      (log_held g.K.Task.view plan held (g.K.Task.view.at c.put_gathered.new.task).chunk c.put_gathered.new.task c.commit.new.self (c.commit.ensures.log_stays plan (c.put_gathered.ensures.only.keeps.placed plan placed)));
  disk_faults_grow = omega (arith, c.put_gathered.ensures.only.disk_faults_stay, c.commit.ensures.disk_faults);
  out_faults_grow = omega (arith, c.put_gathered.ensures.only.out_faults_grow, c.commit.ensures.out_faults);
}

pub returns-in-Err-commit-clause-cause : goal.returns-in-Err-commit-clause-cause
returns-in-Err-commit-clause-cause g c =
    let only = c.put_gathered.ensures.only in
    cause_task g.K.Task.view g.K.Task.disk_faults g.K.Task.out_faults c.in-Err-commit.fault c.args.task.now c.commit.new.self
    (λ is. let rose = c.commit.ensures.disk (c.in-Err-commit.is ∙ ap (λ v. Err v) is) in omega (arith, rose, only.disk_faults_stay))
    (λ is. ap (λ (x : State). x.ended) (sym only.keeps.at_stays) ∙ c.commit.ensures.ended (c.in-Err-commit.is ∙ ap (λ v. Err v) is))
