use Rattle.std.proofs.Common.{◌∙◌, refl, arith, length, ap, sym, subst, Err}
use Rattle.rg_past.specs.declared.past.PastFault.TheVariants as past
use Rattle.rg_reservoir.specs.Kept.{Base, base, IsSound, Spells, SpellsLater}
use Rattle.rg_reservoir.specs.GoingLaws.{all_long, spells_here}
use Rattle.rg_reservoir.proofs.Peeking.{goes_seek, events_stay, spells_stay, later_rests, later_stays, illegal_stays, seen_stays, err_is, ok_not_err, some_map}
use Rattle.rg_past.specs.declared.past.PastFault.{PastFault}
use Rattle.rg_reservoir.specs.declared.fault.ReservoirFault.{ReservoirFault}
use Rattle.rg_reservoir.specs.declared.fault.ReservoirFault.TheVariants.{Ended}
use Rattle.rg_reservoir.specs.Faults.{to_past}
use Rattle.rg_host.specs.Image.{Image}
use Rattle.rg_reservoir.specs.Reached.{IsWhole}
use Rattle.rg_reservoir.proofs.Reaching.{at_event, whole_seen, if_none, if_some}
use Rattle.rg_reservoir.proofs.Seeking.{one_image}
use Rattle.rg_reservoir.proofs.Causes.{past_disk, past_damaged, past_ended, past_full, look_fault}
use Rattle.rg_reservoir.proofs.stored.StoredPast.peek.Goals as goal

pub seek-requires : goal.seek-requires
seek-requires g c = omega (arith, c.requires, all_long (g.H.Host.now c.args.self.now.host.now) (base c.args.self.now.reservoir.now) c.args.self.now.reservoir.now.open.events)

pub at-requires-clause-number : goal.at-requires-clause-number
at-requires-clause-number g c = omega (arith, c.requires, c.seek.ensures.sought.number, all_long (g.H.Host.now c.args.self.now.host.now) (base c.args.self.now.reservoir.now) c.args.self.now.reservoir.now.open.events, ap (λ (b : Base). b.committed) c.seek.ensures.only.stays.base, ap length c.seek.ensures.only.stays.opened)

pub past_fault-requires : goal.past_fault-requires
past_fault-requires g c = (look_fault c.in-Err.fault c.in-Err.ensures.stops.faults).0

pub returns-in-Err : goal.returns-in-Err
returns-in-Err g c =
    let stays = c.seek.ensures.only.stays in
    let spelled : IsSound (g.H.Host.now c.args.self.now.host.now) (g.H.Host.may c.args.self.now.host.now) c.args.self.now.reservoir.now → Spells (g.H.Host.now c.args.self.now.host.now) (base c.args.self.now.reservoir.now) c.args.self.now.reservoir.now.open.events c.args.spot.now
    → Spells (g.H.Host.now c.args.self.now.host.now) (base c.args.self.now.reservoir.now) c.args.self.now.reservoir.now.open.events c.seek.new.spot =
    λ sound spells. spells_here (g.H.Host.now c.args.self.now.host.now) (base c.args.self.now.reservoir.now) c.args.self.now.reservoir.now.open.events c.seek.new.spot (c.seek.ensures.sought.spelled sound spells.there) in
    let same = c.seek.ensures.only.leaves.now_stays in
    let goes = goes_seek g.H.Host.now g.H.Host.may g.H.Host.clock g.H.Host.since g.H.Host.said g.H.Host.out_faults c.args.self.now.reservoir c.args.self.now.host (record { ref_ptr = c.args.self.now.reservoir.ref_ptr; ghost_name = c.args.self.now.reservoir.ghost_name; now = c.seek.new.self }) (record { ref_ptr = c.args.self.now.host.ref_ptr; ghost_name = c.args.self.now.host.ghost_name; now = c.seek.new.host }) refl refl stays c.seek.ensures.only.leaves c.seek.ensures.only.out_faults_stay c.seek.ensures.only.cached c.seek.ensures.only.inside in (
      (
        refl,
        λ _. tt,
        (
          events_stay (g.H.Host.now c.args.self.now.host.now) (g.H.Host.now c.seek.new.host) c.args.self.now.reservoir.now c.seek.new.self same stays,
          goes,
          (λ e. sym (ap (λ (b : Base). b.ended) stays.base) ∙ e, λ e. ap (λ (b : Base). b.ended) stays.base ∙ e),
          goes.sound,
          λ room. omega (arith, room, ap length stays.opened, stays.room),
          c.seek.ensures.only.disk_faults_rise,
          λ e. c.in-Err.ensures.stops.disk (ap (λ (f : ReservoirFault). Err f) (past_disk c.in-Err.fault c.past_fault.result c.past_fault.ensures (err_is c.past_fault.result past.Disk e))),
          λ p e. illegal_stays (g.H.Host.now c.args.self.now.host.now) (g.H.Host.now c.seek.new.host) c.args.self.now.reservoir.now c.seek.new.self p same stays (c.in-Err.ensures.stops.damaged p (ap (λ (f : ReservoirFault). Err f) (past_damaged c.in-Err.fault c.past_fault.result p c.past_fault.ensures (look_fault c.in-Err.fault c.in-Err.ensures.stops.faults).0 (err_is c.past_fault.result (past.Damaged p) e)))),
          λ sound spells. (spells_stay (g.H.Host.now c.args.self.now.host.now) (g.H.Host.now c.seek.new.host) c.args.self.now.reservoir.now c.seek.new.self c.seek.new.spot same stays (spelled sound spells), tt),
          record { stays = stays; cached = c.seek.ensures.only.cached; inside = c.seek.ensures.only.inside; touched = c.seek.ensures.loads.touched; loaded = λ answered. absurd answered.2 },
          record {
            untouched = λ going far. let k = c.in-Err.ensures.held.untouched going far in absurd k.0;
            hit = λ going near held stands. let k = c.in-Err.ensures.held.hit going near held stands in absurd k.0;
            hit_next = λ next going near held turns holds. let k = c.in-Err.ensures.held.hit_next next going near held turns holds in absurd k.0;
          },
        ),
      ),
      record {
        after = tt;
        number = c.seek.ensures.sought.number;
        within = tt;
        event = λ _ _. tt;
        ended = (
          λ e. c.in-Err.ensures.stops.ended.0 (ap (λ (f : ReservoirFault). Err f) (past_ended c.in-Err.fault c.past_fault.result c.past_fault.ensures (err_is c.past_fault.result past.Ended e))),
          λ e. ap (λ (f : PastFault). Err f) (c.past_fault.ensures ∙ ap to_past (err_is c.in-Err.fault Ended (c.in-Err.ensures.stops.ended.1 e))),
        );
        never_damaged = λ p sound spells e. c.in-Err.ensures.stops.never_damaged p sound spells.there (ap (λ (f : ReservoirFault). Err f) (past_damaged c.in-Err.fault c.past_fault.result p c.past_fault.ensures (look_fault c.in-Err.fault c.in-Err.ensures.stops.faults).0 (err_is c.past_fault.result (past.Damaged p) e)));
        legal = λ _. tt;
        reached = λ _. tt;
        whole = λ _. tt;
        no_full = λ e. (look_fault c.in-Err.fault c.in-Err.ensures.stops.faults).1 (past_full c.in-Err.fault c.past_fault.result c.past_fault.ensures (err_is c.past_fault.result past.Full e));
      },
    )

pub returns : goal.returns
returns g c =
    let stays = c.seek.ensures.only.stays in
    let spelled : IsSound (g.H.Host.now c.args.self.now.host.now) (g.H.Host.may c.args.self.now.host.now) c.args.self.now.reservoir.now → Spells (g.H.Host.now c.args.self.now.host.now) (base c.args.self.now.reservoir.now) c.args.self.now.reservoir.now.open.events c.args.spot.now
    → Spells (g.H.Host.now c.args.self.now.host.now) (base c.args.self.now.reservoir.now) c.args.self.now.reservoir.now.open.events c.seek.new.spot =
    λ sound spells. spells_here (g.H.Host.now c.args.self.now.host.now) (base c.args.self.now.reservoir.now) c.args.self.now.reservoir.now.open.events c.seek.new.spot (c.seek.ensures.sought.spelled sound spells.there) in
    let later : IsSound (g.H.Host.now c.args.self.now.host.now) (g.H.Host.may c.args.self.now.host.now) c.args.self.now.reservoir.now → Spells (g.H.Host.now c.args.self.now.host.now) (base c.args.self.now.reservoir.now) c.args.self.now.reservoir.now.open.events c.args.spot.now
    → SpellsLater (g.H.Host.now c.args.self.now.host.now) (base c.args.self.now.reservoir.now) c.args.self.now.reservoir.now.open.events c.seek.new.spot =
    λ sound spells. later_rests (g.H.Host.now c.args.self.now.host.now) (g.H.Host.may c.args.self.now.host.now) c.args.self.now.reservoir.now c.seek.new.spot (λ e. ok_not_err tt Ended (c.in-Ok.ensures.stops.ended.1 e)) sound (c.in-Ok.ensures.sought.finds sound spells.there).later in
    let same = c.seek.ensures.only.leaves.now_stays in
    let goes = goes_seek g.H.Host.now g.H.Host.may g.H.Host.clock g.H.Host.since g.H.Host.said g.H.Host.out_faults c.args.self.now.reservoir c.args.self.now.host (record { ref_ptr = c.args.self.now.reservoir.ref_ptr; ghost_name = c.args.self.now.reservoir.ghost_name; now = c.seek.new.self }) (record { ref_ptr = c.args.self.now.host.ref_ptr; ghost_name = c.args.self.now.host.ghost_name; now = c.seek.new.host }) refl refl stays c.seek.ensures.only.leaves c.seek.ensures.only.out_faults_stay c.seek.ensures.only.cached c.seek.ensures.only.inside in (
      (
        refl,
        λ _. tt,
        (
          events_stay (g.H.Host.now c.args.self.now.host.now) (g.H.Host.now c.seek.new.host) c.args.self.now.reservoir.now c.seek.new.self same stays,
          goes,
          (λ e. sym (ap (λ (b : Base). b.ended) stays.base) ∙ e, λ e. ap (λ (b : Base). b.ended) stays.base ∙ e),
          goes.sound,
          λ room. omega (arith, room, ap length stays.opened, stays.room),
          c.seek.ensures.only.disk_faults_rise,
          λ e. absurd (ok_not_err c.at.result past.Disk e),
          λ p e. absurd (ok_not_err c.at.result (past.Damaged p) e),
          λ sound spells. (spells_stay (g.H.Host.now c.args.self.now.host.now) (g.H.Host.now c.seek.new.host) c.args.self.now.reservoir.now c.seek.new.self c.seek.new.spot same stays (spelled sound spells), later_stays (g.H.Host.now c.args.self.now.host.now) (g.H.Host.now c.seek.new.host) c.args.self.now.reservoir.now c.seek.new.self c.seek.new.spot same stays (later sound spells)),
          record { stays = stays; cached = c.seek.ensures.only.cached; inside = c.seek.ensures.only.inside; touched = c.seek.ensures.loads.touched; loaded = λ answered. c.in-Ok.ensures.loads.loaded answered.0 answered.1.there },
          record {
            untouched = λ going far. let k = c.seek.ensures.held.untouched going far in (tt, k.1, k.2);
            hit = λ going near held stands. (tt, (c.seek.ensures.held.hit going near held stands).1, (c.seek.ensures.held.hit going near held stands).2);
            hit_next = λ next going near held turns holds. let k = c.seek.ensures.held.hit_next next going near held turns holds in (tt, k.1, k.2);
          },
        ),
      ),
      record {
        after = tt;
        number = c.seek.ensures.sought.number;
        within = some_map c.at.result _ _ (λ x w. (omega (arith, w.0, all_long (g.H.Host.now c.args.self.now.host.now) (base c.args.self.now.reservoir.now) c.args.self.now.reservoir.now.open.events, ap (λ (b : Base). b.committed) stays.base, ap length stays.opened), w.1)) c.at.ensures.within;
        event = λ sound spells. c.at.ensures.event ∙ seen_stays c.args.self.now.reservoir.now c.seek.new.self c.seek.new.spot stays ∙ (c.in-Ok.ensures.sought.finds sound spells.there).shows;
        ended = (λ e. absurd (ok_not_err c.at.result past.Ended e), λ e. absurd (ok_not_err tt Ended (c.in-Ok.ensures.stops.ended.1 e)));
        never_damaged = λ p sound spells e. ok_not_err c.at.result (past.Damaged p) e;
        no_full = λ e. ok_not_err c.at.result past.Full e;
        legal = λ asks. asks.illegal (c.in-Ok.ensures.sought.legal asks.image asks.told asks.cached asks.near);
        reached = λ r. if_some c.at.result _ (record { image = r.image; told = r.told; cached = r.cached; apart = r.apart; so_far = at_event (base c.args.self.now.reservoir.now) _ _ c.seek.new.spot (c.in-Ok.ensures.sought.reached r.image r.told r.cached r.so_far) });
        whole = λ r. if_none c.at.result _ (λ none v told.
            let self = c.args.self.now.reservoir.now in
            let b = base self in
            let seen_none = sym (c.at.ensures.event ∙ seen_stays self c.seek.new.self c.seek.new.spot stays) ∙ none in
            let found = whole_seen b (r.image b.file) self.open.events c.seek.new.self.cache c.seek.new.spot (c.seek.ensures.only.cached r.image r.told r.cached) seen_none (c.in-Ok.ensures.sought.reached r.image r.told r.cached r.so_far) in
            subst (λ (u : Image). IsWhole b (u b.file)) (one_image (g.H.Host.now c.args.self.now.host.now) r.image v r.told told) found);
      },
    )
