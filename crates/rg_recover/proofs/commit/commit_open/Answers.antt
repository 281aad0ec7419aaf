use Rattle.std.proofs.Common.{◌≡◌, ◌≤◌, ◌∙◌, ℕ, Option, None, Err, inr, refl, ap, arith, length}
use Rattle.rg_host.specs.Image.{Image}
use Rattle.rg_config.specs.Plans.{Planned}
use Rattle.rg_frame.specs.Steps.{From}
use Rattle.rg_bytes.specs.Counts.{Rose}
use Rattle.rg_cache.specs.Cache.{Cache}
use Rattle.rg_reservoir.specs.declared.kept.Kept.{Kept}
use Rattle.rg_reservoir.specs.Kept.{base, opened, all_events, Adds}
use Rattle.rg_reservoir.specs.Views.{View}
use Rattle.rg_run_spec.specs.Steps.{IsStepped}
use Rattle.rg_open.specs.Opened.{IsOpenedFor}
use Rattle.rg_open.specs.Stores.{store_of}
use Rattle.rg_recover.proofs.Causes.{storing_cause, same_at_fault, never_stored}
use Rattle.rg_recover.proofs.Ready.{opened_still, stepped_in_step}
use Rattle.rg_recover.proofs.Sound.{all_stored, log_settled}
use Rattle.rg_recover.proofs.Sparing.{spared_beside}
use Rattle.rg_recover.proofs.Stays.{below_log, slots_of_log}
use Rattle.rg_recover.proofs.Within.{writes_within}
use Rattle.rg_recover.proofs.commit.commit_open.Goals as goal

pub returns-in-Ok-clause-stores : goal.returns-in-Ok-clause-stores
returns-in-Ok-clause-stores g c =
    let h = c.args.host.now in
    let then = c.commit.new.host in
    let r = c.args.reservoir.now in
    let s = c.commit.new.self in
    let few : length (opened r) ≤ 4096 = omega (arith, c.requires.can.fits, c.requires.can.few) in
    let stepped : (plan : Planned) (keep : Option ℕ) → IsOpenedFor plan (g.H.Host.now h) (g.H.Host.may h) r → (u : Image) → g.H.Host.may then u → IsStepped (store_of plan) keep (opened r) (g.H.Host.may h) u = λ plan keep log u left.
    c.law_steps.ensures.committed h then plan keep r (base s).end log few c.in-Ok.ensures.grown
    (c.in-Ok.ensures.pending (log_settled (g.H.Host.now h) (g.H.Host.may h) r log.sound log.going 2 log.file)) (λ w one. c.commit.ensures.leaves.left w one) u left in
    record {
      within = λ plan keep log.
          writes_within g.H.Host.now g.H.Host.may g.H.Host.clock g.H.Host.since g.H.Host.said (store_of plan) keep (opened r) 2 (From (base r).end (Adds (base r).shape.fields (opened r))) h then c.commit.ensures.leaves
          (λ u left. c.law_steps.ensures.commits h plan keep r u log few left);
      spared = λ slot below. spared_beside g.H.Host.now g.H.Host.may g.H.Host.clock g.H.Host.since g.H.Host.said 2 slot (From (base r).end (Adds (base r).shape.fields (opened r))) h then (below_log slot below) c.commit.ensures.leaves;
      done = record {
        going = c.in-Ok.ensures.going.1;
        step = λ plan keep log. record { more = opened r; whole = inr refl; grown = all_stored (g.H.Host.now then) (base s) (all_events (g.H.Host.now h) (base r) (opened r)) (opened s) c.in-Ok.ensures.empty.0 (c.in-Ok.ensures.list log.sound); left = stepped plan keep log };
        log = λ plan log. record { sound = c.in-Ok.ensures.sound log.sound; going = c.in-Ok.ensures.going.1; file = c.commit.ensures.stays.1 ∙ log.file; shape = ap (λ (view : View). view.shape) c.commit.ensures.stays.0 ∙ log.shape };
        in_step = λ plan cells spots texts is.
            stepped_in_step plan (g.H.Host.now h) (g.H.Host.now then) (g.H.Host.may h) (g.H.Host.may then) r s cells spots texts is None (opened r)
            (opened_still plan (g.H.Host.now h) (g.H.Host.now then) (g.H.Host.may h) (g.H.Host.may then) r s cells spots texts is (c.in-Ok.ensures.sound is.reservoir.sound) c.in-Ok.ensures.going.1 c.commit.ensures.stays.1 (ap (λ (view : View). view.shape) c.commit.ensures.stays.0))
            (c.in-Ok.ensures.list is.reservoir.sound) (λ spot. c.in-Ok.ensures.spelled is.reservoir.sound spot) (stepped plan None is.reservoir);
        slots = slots_of_log (g.H.Host.now h) (g.H.Host.now then) (g.H.Host.may h) (g.H.Host.may then) _ c.in-Ok.ensures.grown (λ u left. (c.commit.ensures.leaves.left u left).0);
        spelled = λ sound spot. c.in-Ok.ensures.spelled sound spot;
        events = λ sound. c.in-Ok.ensures.list sound;
      };
    }

pub returns-in-Err-clause-stores : goal.returns-in-Err-clause-stores
returns-in-Err-clause-stores g c =
    let h = c.args.host.now in
    let r = c.args.reservoir.now in
    let few : length (opened r) ≤ 4096 = omega (arith, c.requires.can.fits, c.requires.can.few) in
    record {
      within = λ plan keep log.
          writes_within g.H.Host.now g.H.Host.may g.H.Host.clock g.H.Host.since g.H.Host.said (store_of plan) keep (opened r) 2 (From (base r).end (Adds (base r).shape.fields (opened r))) h c.commit.new.host c.commit.ensures.leaves
          (λ u left. c.law_steps.ensures.commits h plan keep r u log few left);
      spared = λ slot below. spared_beside g.H.Host.now g.H.Host.may g.H.Host.clock g.H.Host.since g.H.Host.said 2 slot (From (base r).end (Adds (base r).shape.fields (opened r))) h c.commit.new.host (below_log slot below) c.commit.ensures.leaves;
      done = tt;
    }

pub returns-in-Ok-clause-keeps : goal.returns-in-Ok-clause-keeps
returns-in-Ok-clause-keeps g c =
    let none = ap length c.in-Ok.ensures.empty.0 in
    record {
      log = record {
        view = c.commit.ensures.stays.0;
        file = c.commit.ensures.stays.1;
        limit = c.commit.ensures.stays.3;
        room = c.commit.ensures.stays.4;
        cap = ap (λ (cache : Cache Kept). cache.cap) c.commit.ensures.kept.0;
        more = omega (arith, c.in-Ok.ensures.empty.1);
        said_stays = c.commit.ensures.leaves.said_stays;
        disk_faults_grow = c.commit.ensures.disk_faults;
        out_faults_stay = c.commit.ensures.out_faults;
      };
      count = omega (arith, c.in-Ok.ensures.empty.1, none);
      fewer = omega (arith, none);
      next = c.commit.ensures.kept.2;
      last = c.commit.ensures.kept.3;
      reaches = c.commit.ensures.reaches;
    }

pub returns-in-Err-clause-keeps : goal.returns-in-Err-clause-keeps
returns-in-Err-clause-keeps g c =
    let same = same_at_fault c.args.reservoir.now c.commit.new.self c.in-Err.fault c.in-Err.ensures.faults (λ is. let at = c.in-Err.ensures.disk (ap (λ v. Err v) is) in (at.1, at.2))
    (λ is. (c.in-Err.ensures.memory (ap (λ v. Err v) is)).0) (λ is. (c.in-Err.ensures.untouched (ap (λ v. Err v) is)).0) in
    let long = ap length same.0 in
    record {
      log = record {
        view = c.commit.ensures.stays.0;
        file = c.commit.ensures.stays.1;
        limit = c.commit.ensures.stays.3;
        room = c.commit.ensures.stays.4;
        cap = ap (λ (cache : Cache Kept). cache.cap) c.commit.ensures.kept.0;
        more = omega (arith, same.1);
        said_stays = c.commit.ensures.leaves.said_stays;
        disk_faults_grow = c.commit.ensures.disk_faults;
        out_faults_stay = c.commit.ensures.out_faults;
      };
      count = omega (arith, same.1, long);
      fewer = omega (arith, long);
      next = c.commit.ensures.kept.2;
      last = c.commit.ensures.kept.3;
      reaches = c.commit.ensures.reaches;
    }

pub reservoir_fault-requires : goal.reservoir_fault-requires
reservoir_fault-requires g c =
    let not = never_stored c.in-Err.fault c.in-Err.ensures.faults in
    record {
      differs = not.0;
      full = not.1;
      ended = λ is. let ended = c.in-Err.ensures.ended.0 (ap (λ v. Err v) is) in let going = c.requires.can.going in absurd cc;
    }

pub returns-in-Err-clause-cause : goal.returns-in-Err-clause-cause
returns-in-Err-clause-cause g c =
    let h = c.args.host.now in
    let then = c.commit.new.host in
    rw c.reservoir_fault.ensures (storing_cause (Rose (g.H.Host.disk_faults h) (g.H.Host.disk_faults then)) ((c.commit.new.self ≡ c.args.reservoir.now) × (then ≡ h)) c.in-Err.fault c.in-Err.ensures.faults
    (λ is. (c.in-Err.ensures.disk (ap (λ v. Err v) is)).3) (λ is. c.in-Err.ensures.memory (ap (λ v. Err v) is))
    (λ is. let ended = c.in-Err.ensures.ended.0 (ap (λ v. Err v) is) in let going = c.requires.can.going in absurd cc))
