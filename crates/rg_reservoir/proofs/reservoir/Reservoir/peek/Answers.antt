use Rattle.std.proofs.Common.{◌∙◌, refl, ap, arith, length}
use Rattle.rg_reservoir.specs.declared.fault.ReservoirFault.TheVariants.{Disk, Damaged, Ended}
use Rattle.rg_reservoir.specs.GoingLaws.{spells_here}
use Rattle.rg_reservoir.specs.Kept.{Base, base}
use Rattle.rg_reservoir.proofs.Peeking.{later_rests, seen_stays, err_moves, ok_not_err, some_map}
use Rattle.rg_reservoir.proofs.reservoir.Reservoir.peek.Goals as goal

pub at-requires-clause-number : goal.at-requires-clause-number
at-requires-clause-number g c = omega (arith, c.requires, c.seek.ensures.sought.number, ap (λ (b : Base). b.committed) c.seek.ensures.only.stays.base, ap length c.seek.ensures.only.stays.opened)

pub returns-in-Err : goal.returns-in-Err
returns-in-Err g c = (
  (refl, λ _. tt, record { stays = c.seek.ensures.only.stays; cached = c.seek.ensures.only.cached; inside = c.seek.ensures.only.inside; touched = c.seek.ensures.loads.touched; loaded = λ answered. absurd answered.2 }),
  record {
    after = tt;
    number = c.seek.ensures.sought.number;
    event = λ _ _. tt;
    later = λ _ _. tt;
    spelled = λ sound spells. spells_here (g.H.Host.now c.args.host.now) (base c.args.self.now) c.args.self.now.open.events c.seek.new.spot (c.seek.ensures.sought.spelled sound spells.there);
    within = tt;
    ended = (λ e. c.in-Err.ensures.stops.ended.0 (err_moves c.in-Err.fault Ended e), λ e. err_moves c.in-Err.fault Ended (c.in-Err.ensures.stops.ended.1 e));
    damaged = λ p e. c.in-Err.ensures.stops.damaged p (err_moves c.in-Err.fault (Damaged p) e);
    never_damaged = λ p sound spells e. c.in-Err.ensures.stops.never_damaged p sound spells.there (err_moves c.in-Err.fault (Damaged p) e);
    legal = λ _ _ _ _. tt;
    disk = λ e. c.in-Err.ensures.stops.disk (err_moves c.in-Err.fault Disk e);
    faults = c.in-Err.ensures.stops.faults;
    untouched = λ going far. let k = c.in-Err.ensures.held.untouched going far in absurd k.0;
    hit = λ going near held stays. let k = c.in-Err.ensures.held.hit going near held stays in absurd k.0;
    hit_next = λ next going near held turns holds. let k = c.in-Err.ensures.held.hit_next next going near held turns holds in absurd k.0;
    leaves = c.seek.ensures.only.leaves;
    disk_faults = c.seek.ensures.only.disk_faults_rise;
    out_faults = c.seek.ensures.only.out_faults_stay;
  },
)

pub returns : goal.returns
returns g c = (
  (refl, λ _. tt, record { stays = c.seek.ensures.only.stays; cached = c.seek.ensures.only.cached; inside = c.seek.ensures.only.inside; touched = c.seek.ensures.loads.touched; loaded = λ answered. c.in-Ok.ensures.loads.loaded answered.0 answered.1.there }),
  record {
    after = tt;
    number = c.seek.ensures.sought.number;
    event = λ sound spells. c.at.ensures.event ∙ seen_stays c.args.self.now c.seek.new.self c.seek.new.spot c.seek.ensures.only.stays ∙ (c.in-Ok.ensures.sought.finds sound spells.there).shows;
    later = λ sound spells. later_rests (g.H.Host.now c.args.host.now) (g.H.Host.may c.args.host.now) c.args.self.now c.seek.new.spot (λ e. ok_not_err tt Ended (c.in-Ok.ensures.stops.ended.1 e)) sound (c.in-Ok.ensures.sought.finds sound spells.there).later;
    spelled = λ sound spells. spells_here (g.H.Host.now c.args.host.now) (base c.args.self.now) c.args.self.now.open.events c.seek.new.spot (c.seek.ensures.sought.spelled sound spells.there);
    within = some_map c.at.result _ _ (λ x w. (omega (arith, w.0, ap (λ (b : Base). b.committed) c.seek.ensures.only.stays.base, ap length c.seek.ensures.only.stays.opened), w.1)) c.at.ensures.within;
    ended = (λ e. absurd (ok_not_err c.at.result Ended e), λ e. absurd (ok_not_err tt Ended (c.in-Ok.ensures.stops.ended.1 e)));
    damaged = λ p e. absurd (ok_not_err c.at.result (Damaged p) e);
    never_damaged = λ p sound spells e. ok_not_err c.at.result (Damaged p) e;
    legal = c.in-Ok.ensures.sought.legal;
    disk = λ e. absurd (ok_not_err c.at.result Disk e);
    faults = tt;
    untouched = λ going far. (tt, (c.seek.ensures.held.untouched going far).2);
    hit = λ going near held stays. (tt, (c.seek.ensures.held.hit going near held stays).2);
    hit_next = λ next going near held turns holds. (tt, (c.seek.ensures.held.hit_next next going near held turns holds).2);
    leaves = c.seek.ensures.only.leaves;
    disk_faults = c.seek.ensures.only.disk_faults_rise;
    out_faults = c.seek.ensures.only.out_faults_stay;
  },
)
