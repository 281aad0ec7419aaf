use Rattle.std.proofs.Common.{◌≡◌, ◌<◌, ◌∙◌, ⊎_elim, inr, refl, Ok, Err, ℕ, [], List, ◌∷◌, ◌++◌, length, ap, sym, subst, arith, rules}
use Rattle.std.proofs.lemmas.List.{append-nil}
use Rattle.rg_event.specs.Codec.{IsEventOf}
use Rattle.rg_event.specs.declared.event.Event.{Event}
use Rattle.rg_metric.specs.Replies.{answers_to}
use Rattle.rg_past.specs.declared.past.PastFault.TheVariants as past
use Rattle.rg_plan.specs.Plans.{Tasks}
use Rattle.rg_config.specs.Plans.{Planned}
use Rattle.rg_reservoir.specs.Kept.{Base, base, opened, room_of, stored, all_events}
use Rattle.rg_reservoir.specs.Views.{View}
use Rattle.rg_reservoir.specs.declared.reservoir.Reservoir.{Reservoir}
use Rattle.rg_window.specs.Placed.{AreWithin}
use Rattle.rg_open.specs.Stores.{store_of}
use Rattle.rg_metric.specs.declared.answer.Answers.{Answers}
use Rattle.rg_recover.specs.Sessions.{IsReady}
use Rattle.rg_recover.specs.Storing.{StoresChunk, HasStored, KeepsEvents, MakesRoom}
use Rattle.rg_recover.specs.Taking.{AnswersReady, CarriesNodes, TakesEvent}
use Rattle.rg_recover.specs.declared.fault.TaskFault.TheVariants.{Disk, Damaged, BadState, Ended, Table}
use Rattle.rg_recover.proofs.Causes.{same_fault, bad_by, damaged_by, disk_by, ended_by, table_by, cause_at}
use Rattle.rg_recover.proofs.Nodes.{node_carries, node_again, node_stored}
use Rattle.rg_recover.proofs.Placed.{placed_again, placed_stored}
use Rattle.rg_recover.proofs.Ready.{carries_on, ready_again, ready_stepped}
use Rattle.rg_recover.proofs.Sound.{long, moved, within_events, within_count, may_follow, reaches_still}
use Rattle.rg_recover.proofs.Stays.{slots_quiet, slots_then}
use Rattle.rg_recover.proofs.Storing.{leaves_same, within_left, stored_left, asks_still, roomy_then, same_stored, log_then, fits_after}
use Rattle.rg_recover.proofs.taking.take_in.Goals as goal

pub make_room-requires : goal.make_room-requires
make_room-requires g c = record { can = c.requires.can.log }

pub take-requires-clause-room : goal.take-requires-clause-room
take-requires-clause-room g c =
    let h = c.args.host.now in
    let r = c.args.reservoir.now in
    let k = c.new-past.result.host.now in
    let m = c.new-past.result.reservoir.now in
    let has_room = subst (λ (y : Reservoir). length (opened y) < room_of y) (sym c.new-past.ensures.reservoir) c.in-Ok.ensures.room.room in
    has_room

pub take-requires-clause-fits : goal.take-requires-clause-fits
take-requires-clause-fits g c =
    let h = c.args.host.now in
    let r = c.args.reservoir.now in
    let k = c.new-past.result.host.now in
    let m = c.new-past.result.reservoir.now in
    let keeps = moved (λ (x : g.row.H.Denot) (y : Reservoir). KeepsEvents g.H.Host.now g.H.Host.said g.H.Host.disk_faults g.H.Host.out_faults r y h x) c.make_room.new.host k c.make_room.new.reservoir m c.new-past.ensures.host c.new-past.ensures.reservoir c.make_room.ensures.keeps in
    subst (λ (view : View). IsEventOf view.shape.fields c.args.event) (sym keeps.log.view) c.requires.can.fits

pub take-requires-clause-follows : goal.take-requires-clause-follows
take-requires-clause-follows g c =
    let h = c.args.host.now in
    let r = c.args.reservoir.now in
    let k = c.new-past.result.host.now in
    let m = c.new-past.result.reservoir.now in
    let keeps = moved (λ (x : g.row.H.Denot) (y : Reservoir). KeepsEvents g.H.Host.now g.H.Host.said g.H.Host.disk_faults g.H.Host.out_faults r y h x) c.make_room.new.host k c.make_room.new.reservoir m c.new-past.ensures.host c.new-past.ensures.reservoir c.make_room.ensures.keeps in
    let done = moved (λ (x : g.row.H.Denot) (y : Reservoir). HasStored g.H.Host.now g.H.Host.may r y h x) c.make_room.new.host k c.make_room.new.reservoir m c.new-past.ensures.host c.new-past.ensures.reservoir c.in-Ok.ensures.stores.done in
    λ sound not_ended.
    let can = c.requires.can in
    may_follow (g.H.Host.now k) (g.H.Host.may k) m sound done.going c.args.event (omega (arith, keeps.next, can.next))
    (λ some. let first = can.in_time (omega (arith, some, keeps.count)) in omega (arith, first, keeps.last))

pub take-requires-clause-within : goal.take-requires-clause-within
take-requires-clause-within g c =
    let h = c.args.host.now in
    let r = c.args.reservoir.now in
    let k = c.new-past.result.host.now in
    let m = c.new-past.result.reservoir.now in
    let keeps = moved (λ (x : g.row.H.Denot) (y : Reservoir). KeepsEvents g.H.Host.now g.H.Host.said g.H.Host.disk_faults g.H.Host.out_faults r y h x) c.make_room.new.host k c.make_room.new.reservoir m c.new-past.ensures.host c.new-past.ensures.reservoir c.make_room.ensures.keeps in
    within_events (g.H.Host.now k) m c.args.engine.now.spots (subst (λ (n : ℕ). AreWithin c.args.engine.now.spots n) (sym keeps.count) c.requires.can.within)

-- where the chunk couldn't be stored
pub returns-in-Err-clause-ready : goal.returns-in-Err-clause-ready
returns-in-Err-clause-ready g c = λ plan texts ready.
    let cause = c.in-Err.ensures.room.cause in
    record {
      answers = tt;
      ready = tt;
      events = tt;
      never_bad = λ n is. cause_at _ _ c.in-Err.fault (BadState n) (same_fault _ _ is) cause;
      never_damaged = λ p is. cause_at _ _ c.in-Err.fault (Damaged p) (same_fault _ _ is) cause;
      within_step = λ keep. c.make_room.ensures.stores.within plan keep ready.in_step.reservoir;
      step = λ keep. tt;
    }

pub returns-in-Err-clause-nodes : goal.returns-in-Err-clause-nodes
returns-in-Err-clause-nodes g c =
    let cause = c.in-Err.ensures.room.cause in
    record {
      node = λ plan n runs. tt;
      never_bad = λ plan n runs is. cause_at _ _ c.in-Err.fault (BadState n) (same_fault _ _ is) cause;
      placed = λ plan placed. tt;
      undamaged = λ plan p placed is. cause_at _ _ c.in-Err.fault (Damaged p) (same_fault _ _ is) cause;
    }

pub returns-in-Err-clause-takes : goal.returns-in-Err-clause-takes
returns-in-Err-clause-takes g c =
    let h = c.args.host.now in
    let k = c.make_room.new.host in
    let keeps = c.make_room.ensures.keeps in
    let cause = c.in-Err.ensures.room.cause in
    let can = c.requires.can in
    let e = c.args.engine.now in
    record {
      log = keeps.log;
      within_step = c.make_room.ensures.stores.within;
      roomy = λ room.
          let same = c.make_room.ensures.room.untouched room in
          (leaves_same g.H.Host.now g.H.Host.may g.H.Host.clock g.H.Host.since g.H.Host.said g.met.H.Host.only_now g.met.H.Host.sinks h k same.1, ap (λ (x : Reservoir). base x) same.0);
      legal = λ room asks. tt;
      fits = omega (arith, keeps.fewer, keeps.log.room, can.log.fits);
      within = subst (λ (n : ℕ). AreWithin e.spots n) (sym keeps.count) can.within;
      plan_stays = refl;
      rows = record { tells = (λ t. t, λ t. t); later = omega arith };
      changed = record { tells = (λ t. t, λ t. t); since = λ tells base is. is };
      going = tt;
      reaches = tt;
      slots = tt;
      damaged = λ p is. absurd (cause_at _ _ c.in-Err.fault (Damaged p) (same_fault _ _ is) cause);
      disk = λ is. cause_at _ _ c.in-Err.fault Disk (same_fault _ _ is) cause;
      table = λ is. absurd (cause_at _ _ c.in-Err.fault Table (same_fault _ _ is) cause);
      not_ended = λ is. cause_at _ _ c.in-Err.fault Ended (same_fault _ _ is) cause;
    }

-- where the engine took the event
pub returns-in-Ok-take-clause-ready : goal.returns-in-Ok-take-clause-ready
returns-in-Ok-take-clause-ready g c =
    let h = c.args.host.now in
    let r = c.args.reservoir.now in
    let k = c.new-past.result.host.now in
    let m = c.new-past.result.reservoir.now in
    let keeps = moved (λ (x : g.row.H.Denot) (y : Reservoir). KeepsEvents g.H.Host.now g.H.Host.said g.H.Host.disk_faults g.H.Host.out_faults r y h x) c.make_room.new.host k c.make_room.new.reservoir m c.new-past.ensures.host c.new-past.ensures.reservoir c.make_room.ensures.keeps in
    let done = moved (λ (x : g.row.H.Denot) (y : Reservoir). HasStored g.H.Host.now g.H.Host.may r y h x) c.make_room.new.host k c.make_room.new.reservoir m c.new-past.ensures.host c.new-past.ensures.reservoir c.in-Ok.ensures.stores.done in
    let stores = moved (λ (x : g.row.H.Denot) (y : Reservoir). StoresChunk g.H.Host.now g.H.Host.may g.H.Host.clock g.H.Host.since g.H.Host.said c.make_room.result r y h x) c.make_room.new.host k c.make_room.new.reservoir m c.new-past.ensures.host c.new-past.ensures.reservoir c.make_room.ensures.stores in
    moved (λ (x : g.row.H.Denot) (y : Reservoir). (plan : Planned) (texts : List (List ℕ)) → IsReady plan (g.H.Host.now h) (g.H.Host.may h) (g.T.Table.tells c.args.engine.now.table) (g.T.Table.cell c.args.engine.now.table) r c.args.engine.now texts
    → AnswersReady g.H.Host.now g.H.Host.may g.H.Host.clock g.H.Host.since g.H.Host.said g.T.Table.tells g.T.Table.cell plan texts c.args.event (Ok c.in-Ok-take.answers) r y c.args.engine.now c.take.new.self h x)
    c.take.new.past.host.now _ c.take.new.past.reservoir.now _ (search rules) (search rules)
    (λ plan texts ready.
    let e = c.args.engine.now in
    let n = c.take.new.past.host.now in
    let s = c.take.new.past.reservoir.now in
    let f = c.take.new.self in
    let event = c.args.event in
    let goes = c.take.ensures.past.goes in
    let log = ready.in_step.reservoir in
    let again = ready_stepped plan (g.H.Host.now h) (g.H.Host.now k) (g.H.Host.may h) (g.H.Host.may k) (g.T.Table.tells e.table) (g.T.Table.cell e.table) r m e texts ready (done.in_step plan (g.T.Table.cell e.table) e.spots texts ready.in_step) in
    let sound = again.in_step.reservoir.sound in
    let events = all_events (g.H.Host.now k) (base m) (opened m) in
    let fits = subst (λ (view : View). IsEventOf view.shape.fields event) (sym keeps.log.view) c.requires.can.fits in
    let told = same_stored (g.H.Host.now k) (g.H.Host.now n) m s goes.leaves.now_stays goes.base in
    record {
      answers = subst (λ (l : List Event). c.in-Ok-take.answers ≡ answers_to plan.queries (l ++ event ∷ []) event) (done.events log.sound)
          (c.in-Ok-take.ensures.answers plan.queries events again.plan_is (carries_on plan (g.H.Host.now k) (g.H.Host.may k) (g.T.Table.tells e.table) (g.T.Table.cell e.table) m e texts event again fits));
      ready = ready_again plan (g.H.Host.now k) (g.H.Host.may k) (g.T.Table.tells e.table) (g.T.Table.cell e.table) m e texts event again fits
          (g.H.Host.now n) (g.H.Host.may n) (g.T.Table.tells f.table) (g.T.Table.cell f.table) s f
          (c.take.ensures.rows.tells.1 ready.tells) goes.base (goes.sound sound) goes.leaves.may_stays.no_more c.take.ensures.plan c.spots-spots.ensures.same
          (λ x. c.in-Ok-take.ensures.stands x events (carries_on plan (g.H.Host.now k) (g.H.Host.may k) (g.T.Table.tells e.table) (g.T.Table.cell e.table) m e texts event again fits x))
          (λ edge offset at there was. c.in-Ok-take.ensures.places edge offset events [] sound at (sym (append-nil events)) there was)
          (c.take.ensures.edges.spells sound);
      events = c.in-Ok-take.ensures.appends ∙ ap (λ (l : List Event). l ++ event ∷ []) (done.events log.sound);
      never_bad = λ x is. absurd cc;
      never_damaged = λ p is. absurd cc;
      within_step = λ keep.
          within_left g.H.Host.now g.H.Host.may g.H.Host.clock g.H.Host.since g.H.Host.said (store_of plan) keep (opened r) (stored (g.H.Host.now h) (base r)) (stored (g.H.Host.now k) (base m)) h k n (done.step plan keep log) goes.leaves
          (stores.within plan keep log);
      step = λ keep.
          stored_left g.H.Host.now g.H.Host.may g.H.Host.clock g.H.Host.since g.H.Host.said (store_of plan) keep (opened r) (stored (g.H.Host.now h) (base r)) (stored (g.H.Host.now k) (base m)) h k n (done.step plan keep log) goes.leaves
          (stored (g.H.Host.now n) (base s)) told;
    })

pub returns-in-Ok-take-clause-nodes : goal.returns-in-Ok-take-clause-nodes
returns-in-Ok-take-clause-nodes g c =
    let h = c.args.host.now in
    let r = c.args.reservoir.now in
    let k = c.new-past.result.host.now in
    let m = c.new-past.result.reservoir.now in
    let keeps = moved (λ (x : g.row.H.Denot) (y : Reservoir). KeepsEvents g.H.Host.now g.H.Host.said g.H.Host.disk_faults g.H.Host.out_faults r y h x) c.make_room.new.host k c.make_room.new.reservoir m c.new-past.ensures.host c.new-past.ensures.reservoir c.make_room.ensures.keeps in
    let done = moved (λ (x : g.row.H.Denot) (y : Reservoir). HasStored g.H.Host.now g.H.Host.may r y h x) c.make_room.new.host k c.make_room.new.reservoir m c.new-past.ensures.host c.new-past.ensures.reservoir c.in-Ok.ensures.stores.done in
    let e = c.args.engine.now in
    let n = c.take.new.past.host.now in
    let s = c.take.new.past.reservoir.now in
    let f = c.take.new.self in
    let goes = c.take.ensures.past.goes in
    let fits = subst (λ (view : View). IsEventOf view.shape.fields c.args.event) (sym keeps.log.view) c.requires.can.fits in
    moved (λ (x : g.row.H.Denot) (y : Reservoir). CarriesNodes g.H.Host.now g.H.Host.may g.T.Table.tells g.T.Table.cell {A = Answers} (Ok c.in-Ok-take.answers) r y c.args.engine.now c.take.new.self h x)
    c.take.new.past.host.now _ c.take.new.past.reservoir.now _ (search rules) (search rules)
    (record {
      node = λ plan x runs.
          let again = node_stored plan x (g.H.Host.now h) (g.H.Host.may h) (g.T.Table.tells e.table) (g.T.Table.cell e.table) r e runs (g.H.Host.now k) (g.H.Host.may k) m (done.log plan runs.reservoir) (done.events runs.reservoir.sound) (done.spelled runs.reservoir.sound) in
          node_again plan x (g.H.Host.now k) (g.H.Host.may k) (g.T.Table.tells e.table) (g.T.Table.cell e.table) m e again
          (g.H.Host.now n) (g.H.Host.may n) (g.T.Table.tells f.table) (g.T.Table.cell f.table) s f
          (c.take.ensures.rows.tells.1 runs.tells) goes.base (goes.sound again.reservoir.sound) c.take.ensures.plan
          (c.in-Ok-take.ensures.stands x (all_events (g.H.Host.now k) (base m) (opened m)) (node_carries plan x (g.H.Host.now k) (g.H.Host.may k) (g.T.Table.tells e.table) (g.T.Table.cell e.table) m e again c.args.event fits))
          (c.take.ensures.edges.spells again.reservoir.sound);
      never_bad = λ plan x runs is. absurd cc;
      placed = λ plan placed.
          let again = placed_stored plan (g.H.Host.now h) (g.H.Host.may h) r e placed (g.H.Host.now k) (g.H.Host.may k) m (done.log plan placed.reservoir) (done.spelled placed.reservoir.sound) in
          placed_again plan (g.H.Host.now k) (g.H.Host.may k) m e again (g.H.Host.now n) (g.H.Host.may n) s f goes.base (goes.sound again.reservoir.sound)
          (c.spots-spots.ensures.same ∙ ap (λ (p : Tasks). length p.offsets) c.take.ensures.plan ∙ sym c.spots-before.ensures.same) (c.take.ensures.edges.spells again.reservoir.sound);
      undamaged = λ plan p placed is. absurd cc;
    })

pub returns-in-Ok-take-clause-takes : goal.returns-in-Ok-take-clause-takes
returns-in-Ok-take-clause-takes g c =
    let h = c.args.host.now in
    let r = c.args.reservoir.now in
    let k = c.new-past.result.host.now in
    let m = c.new-past.result.reservoir.now in
    let keeps = moved (λ (x : g.row.H.Denot) (y : Reservoir). KeepsEvents g.H.Host.now g.H.Host.said g.H.Host.disk_faults g.H.Host.out_faults r y h x) c.make_room.new.host k c.make_room.new.reservoir m c.new-past.ensures.host c.new-past.ensures.reservoir c.make_room.ensures.keeps in
    let done = moved (λ (x : g.row.H.Denot) (y : Reservoir). HasStored g.H.Host.now g.H.Host.may r y h x) c.make_room.new.host k c.make_room.new.reservoir m c.new-past.ensures.host c.new-past.ensures.reservoir c.in-Ok.ensures.stores.done in
    let stores = moved (λ (x : g.row.H.Denot) (y : Reservoir). StoresChunk g.H.Host.now g.H.Host.may g.H.Host.clock g.H.Host.since g.H.Host.said c.make_room.result r y h x) c.make_room.new.host k c.make_room.new.reservoir m c.new-past.ensures.host c.new-past.ensures.reservoir c.make_room.ensures.stores in
    let room_made = moved (λ (x : g.row.H.Denot) (y : Reservoir). MakesRoom g.H.Host.disk_faults c.make_room.result r y h x) c.make_room.new.host k c.make_room.new.reservoir m c.new-past.ensures.host c.new-past.ensures.reservoir c.make_room.ensures.room in
    let has_room = subst (λ (y : Reservoir). length (opened y) < room_of y) (sym c.new-past.ensures.reservoir) c.in-Ok.ensures.room.room in
    let n = c.take.new.past.host.now in
    let s = c.take.new.past.reservoir.now in
    let goes = c.take.ensures.past.goes in
    moved (λ (x : g.row.H.Denot) (y : Reservoir). TakesEvent g.H.Host.now g.H.Host.may g.H.Host.clock g.H.Host.since g.H.Host.said g.H.Host.disk_faults g.H.Host.out_faults g.T.Table.tells g.T.Table.named g.T.Table.there g.T.Table.cell g.T.Table.faults {A = Answers} (Ok c.in-Ok-take.answers) r y c.args.engine.now c.take.new.self h x)
    c.take.new.past.host.now _ c.take.new.past.reservoir.now _ (search rules) (search rules)
    (record {
      log = log_then g.H.Host.said g.H.Host.disk_faults g.H.Host.out_faults r m s h k n keeps.log goes.base goes.room goes.cap goes.leaves.said_stays c.take.ensures.past.later goes.outs_stay;
      within_step = λ plan keep log.
          within_left g.H.Host.now g.H.Host.may g.H.Host.clock g.H.Host.since g.H.Host.said (store_of plan) keep (opened r) (stored (g.H.Host.now h) (base r)) (stored (g.H.Host.now k) (base m)) h k n (done.step plan keep log) goes.leaves
          (stores.within plan keep log);
      roomy = λ room. roomy_then g.H.Host.now g.H.Host.may g.H.Host.clock g.H.Host.since g.H.Host.said r m s h k n (room_made.untouched room) goes.leaves goes.base;
      legal = λ room asks. c.in-Ok-take.ensures.legal asks.edge asks.spot asks.stands (asks_still g.H.Host.now h k r m asks.spot (room_made.untouched room) asks.asks);
      fits = fits_after (g.H.Host.now k) (g.H.Host.now n) m s c.args.event goes.base goes.room has_room (inr c.in-Ok-take.ensures.appends);
      within = within_count (g.H.Host.now n) s c.take.new.self.spots c.take.ensures.edges.within;
      plan_stays = c.take.ensures.plan;
      rows = c.take.ensures.rows;
      changed = c.take.ensures.since;
      going = (c.in-Ok-take.ensures.ends, ap (λ (b : Base). b.ended) goes.base ∙ done.going);
      reaches = reaches_still (g.H.Host.now k) (g.H.Host.now n) m s goes.leaves.now_stays goes.base keeps.reaches;
      slots = slots_then (g.H.Host.now h) (g.H.Host.now k) (g.H.Host.now n) (g.H.Host.may h) (g.H.Host.may k) (g.H.Host.may n) done.slots (slots_quiet (g.H.Host.now k) (g.H.Host.now n) (g.H.Host.may k) (g.H.Host.may n) goes.leaves.now_stays goes.leaves.may_stays.no_more);
      damaged = λ p is. absurd cc;
      disk = λ is. absurd cc;
      table = λ is. absurd cc;
      not_ended = λ is. absurd cc;
    })

-- where the engine refused it
pub engine_fault-requires : goal.engine_fault-requires
engine_fault-requires g c =
    let h = c.args.host.now in
    let r = c.args.reservoir.now in
    let k = c.new-past.result.host.now in
    let m = c.new-past.result.reservoir.now in
    let keeps = moved (λ (x : g.row.H.Denot) (y : Reservoir). KeepsEvents g.H.Host.now g.H.Host.said g.H.Host.disk_faults g.H.Host.out_faults r y h x) c.make_room.new.host k c.make_room.new.reservoir m c.new-past.ensures.host c.new-past.ensures.reservoir c.make_room.ensures.keeps in
    let done = moved (λ (x : g.row.H.Denot) (y : Reservoir). HasStored g.H.Host.now g.H.Host.may r y h x) c.make_room.new.host k c.make_room.new.reservoir m c.new-past.ensures.host c.new-past.ensures.reservoir c.in-Ok.ensures.stores.done in
    record {
      full = λ is. let cause = c.take.ensures.cause past.Full (c.in-Err-take.is ∙ ap (λ v. Err v) is) in omega (arith, cause, c.requires.can.below, keeps.count, keeps.log.limit, long (g.H.Host.now k) m);
      over = λ is. let cause = c.take.ensures.cause past.Ended (c.in-Err-take.is ∙ ap (λ v. Err v) is) in let e = sym cause ∙ done.going in cc;
      ended = λ is. let ended = c.take.ensures.ended.0 (c.in-Err-take.is ∙ ap (λ v. Err v) is) in let e = sym ended ∙ c.requires.can.going in cc;
    }

pub returns-in-Err-take-clause-ready : goal.returns-in-Err-take-clause-ready
returns-in-Err-take-clause-ready g c =
    let h = c.args.host.now in
    let r = c.args.reservoir.now in
    let k = c.new-past.result.host.now in
    let m = c.new-past.result.reservoir.now in
    let keeps = moved (λ (x : g.row.H.Denot) (y : Reservoir). KeepsEvents g.H.Host.now g.H.Host.said g.H.Host.disk_faults g.H.Host.out_faults r y h x) c.make_room.new.host k c.make_room.new.reservoir m c.new-past.ensures.host c.new-past.ensures.reservoir c.make_room.ensures.keeps in
    let done = moved (λ (x : g.row.H.Denot) (y : Reservoir). HasStored g.H.Host.now g.H.Host.may r y h x) c.make_room.new.host k c.make_room.new.reservoir m c.new-past.ensures.host c.new-past.ensures.reservoir c.in-Ok.ensures.stores.done in
    let stores = moved (λ (x : g.row.H.Denot) (y : Reservoir). StoresChunk g.H.Host.now g.H.Host.may g.H.Host.clock g.H.Host.since g.H.Host.said c.make_room.result r y h x) c.make_room.new.host k c.make_room.new.reservoir m c.new-past.ensures.host c.new-past.ensures.reservoir c.make_room.ensures.stores in
    moved (λ (x : g.row.H.Denot) (y : Reservoir). (plan : Planned) (texts : List (List ℕ)) → IsReady plan (g.H.Host.now h) (g.H.Host.may h) (g.T.Table.tells c.args.engine.now.table) (g.T.Table.cell c.args.engine.now.table) r c.args.engine.now texts
    → AnswersReady g.H.Host.now g.H.Host.may g.H.Host.clock g.H.Host.since g.H.Host.said g.T.Table.tells g.T.Table.cell plan texts c.args.event (Err c.engine_fault.result) r y c.args.engine.now c.take.new.self h x)
    c.take.new.past.host.now _ c.take.new.past.reservoir.now _ (search rules) (search rules)
    (λ plan texts ready.
    let e = c.args.engine.now in
    let n = c.take.new.past.host.now in
    let event = c.args.event in
    let goes = c.take.ensures.past.goes in
    let log = ready.in_step.reservoir in
    let again = ready_stepped plan (g.H.Host.now h) (g.H.Host.now k) (g.H.Host.may h) (g.H.Host.may k) (g.T.Table.tells e.table) (g.T.Table.cell e.table) r m e texts ready (done.in_step plan (g.T.Table.cell e.table) e.spots texts ready.in_step) in
    let events = all_events (g.H.Host.now k) (base m) (opened m) in
    let fits = subst (λ (view : View). IsEventOf view.shape.fields event) (sym keeps.log.view) c.requires.can.fits in
    record {
      answers = tt;
      ready = tt;
      events = tt;
      never_bad = λ x is.
          c.take.ensures.bad x events (c.in-Err-take.is ∙ ap (λ v. Err v) (bad_by c.in-Err-take.fault x (sym c.engine_fault.ensures ∙ same_fault _ _ is)))
          (carries_on plan (g.H.Host.now k) (g.H.Host.may k) (g.T.Table.tells e.table) (g.T.Table.cell e.table) m e texts event again fits x);
      never_damaged = λ p is.
          c.take.ensures.never_damaged p again.in_step.reservoir.sound again.in_step.stands.spots.spelled (c.in-Err-take.is ∙ ap (λ v. Err v) (damaged_by c.in-Err-take.fault p (sym c.engine_fault.ensures ∙ same_fault _ _ is)));
      within_step = λ keep.
          within_left g.H.Host.now g.H.Host.may g.H.Host.clock g.H.Host.since g.H.Host.said (store_of plan) keep (opened r) (stored (g.H.Host.now h) (base r)) (stored (g.H.Host.now k) (base m)) h k n (done.step plan keep log) goes.leaves
          (stores.within plan keep log);
      step = λ keep. tt;
    })

pub returns-in-Err-take-clause-nodes : goal.returns-in-Err-take-clause-nodes
returns-in-Err-take-clause-nodes g c =
    let h = c.args.host.now in
    let r = c.args.reservoir.now in
    let k = c.new-past.result.host.now in
    let m = c.new-past.result.reservoir.now in
    let keeps = moved (λ (x : g.row.H.Denot) (y : Reservoir). KeepsEvents g.H.Host.now g.H.Host.said g.H.Host.disk_faults g.H.Host.out_faults r y h x) c.make_room.new.host k c.make_room.new.reservoir m c.new-past.ensures.host c.new-past.ensures.reservoir c.make_room.ensures.keeps in
    let done = moved (λ (x : g.row.H.Denot) (y : Reservoir). HasStored g.H.Host.now g.H.Host.may r y h x) c.make_room.new.host k c.make_room.new.reservoir m c.new-past.ensures.host c.new-past.ensures.reservoir c.in-Ok.ensures.stores.done in
    let e = c.args.engine.now in
    let fits = subst (λ (view : View). IsEventOf view.shape.fields c.args.event) (sym keeps.log.view) c.requires.can.fits in
    moved (λ (x : g.row.H.Denot) (y : Reservoir). CarriesNodes g.H.Host.now g.H.Host.may g.T.Table.tells g.T.Table.cell {A = Answers} (Err c.engine_fault.result) r y c.args.engine.now c.take.new.self h x)
    c.take.new.past.host.now _ c.take.new.past.reservoir.now _ (search rules) (search rules)
    (record {
      node = λ plan x runs. tt;
      never_bad = λ plan x runs is.
          let again = node_stored plan x (g.H.Host.now h) (g.H.Host.may h) (g.T.Table.tells e.table) (g.T.Table.cell e.table) r e runs (g.H.Host.now k) (g.H.Host.may k) m (done.log plan runs.reservoir) (done.events runs.reservoir.sound) (done.spelled runs.reservoir.sound) in
          c.take.ensures.bad x (all_events (g.H.Host.now k) (base m) (opened m)) (c.in-Err-take.is ∙ ap (λ v. Err v) (bad_by c.in-Err-take.fault x (sym c.engine_fault.ensures ∙ same_fault _ _ is)))
          (node_carries plan x (g.H.Host.now k) (g.H.Host.may k) (g.T.Table.tells e.table) (g.T.Table.cell e.table) m e again c.args.event fits);
      placed = λ plan placed. tt;
      undamaged = λ plan p placed is.
          let again = placed_stored plan (g.H.Host.now h) (g.H.Host.may h) r e placed (g.H.Host.now k) (g.H.Host.may k) m (done.log plan placed.reservoir) (done.spelled placed.reservoir.sound) in
          c.take.ensures.never_damaged p again.reservoir.sound again.spots (c.in-Err-take.is ∙ ap (λ v. Err v) (damaged_by c.in-Err-take.fault p (sym c.engine_fault.ensures ∙ same_fault _ _ is)));
    })

pub returns-in-Err-take-clause-takes : goal.returns-in-Err-take-clause-takes
returns-in-Err-take-clause-takes g c =
    let h = c.args.host.now in
    let r = c.args.reservoir.now in
    let k = c.new-past.result.host.now in
    let m = c.new-past.result.reservoir.now in
    let keeps = moved (λ (x : g.row.H.Denot) (y : Reservoir). KeepsEvents g.H.Host.now g.H.Host.said g.H.Host.disk_faults g.H.Host.out_faults r y h x) c.make_room.new.host k c.make_room.new.reservoir m c.new-past.ensures.host c.new-past.ensures.reservoir c.make_room.ensures.keeps in
    let done = moved (λ (x : g.row.H.Denot) (y : Reservoir). HasStored g.H.Host.now g.H.Host.may r y h x) c.make_room.new.host k c.make_room.new.reservoir m c.new-past.ensures.host c.new-past.ensures.reservoir c.in-Ok.ensures.stores.done in
    let stores = moved (λ (x : g.row.H.Denot) (y : Reservoir). StoresChunk g.H.Host.now g.H.Host.may g.H.Host.clock g.H.Host.since g.H.Host.said c.make_room.result r y h x) c.make_room.new.host k c.make_room.new.reservoir m c.new-past.ensures.host c.new-past.ensures.reservoir c.make_room.ensures.stores in
    let room_made = moved (λ (x : g.row.H.Denot) (y : Reservoir). MakesRoom g.H.Host.disk_faults c.make_room.result r y h x) c.make_room.new.host k c.make_room.new.reservoir m c.new-past.ensures.host c.new-past.ensures.reservoir c.make_room.ensures.room in
    let has_room = subst (λ (y : Reservoir). length (opened y) < room_of y) (sym c.new-past.ensures.reservoir) c.in-Ok.ensures.room.room in
    let n = c.take.new.past.host.now in
    let s = c.take.new.past.reservoir.now in
    let goes = c.take.ensures.past.goes in
    let fault = c.in-Err-take.fault in
    moved (λ (x : g.row.H.Denot) (y : Reservoir). TakesEvent g.H.Host.now g.H.Host.may g.H.Host.clock g.H.Host.since g.H.Host.said g.H.Host.disk_faults g.H.Host.out_faults g.T.Table.tells g.T.Table.named g.T.Table.there g.T.Table.cell g.T.Table.faults {A = Answers} (Err c.engine_fault.result) r y c.args.engine.now c.take.new.self h x)
    c.take.new.past.host.now _ c.take.new.past.reservoir.now _ (search rules) (search rules)
    (record {
      log = log_then g.H.Host.said g.H.Host.disk_faults g.H.Host.out_faults r m s h k n keeps.log goes.base goes.room goes.cap goes.leaves.said_stays c.take.ensures.past.later goes.outs_stay;
      within_step = λ plan keep log.
          within_left g.H.Host.now g.H.Host.may g.H.Host.clock g.H.Host.since g.H.Host.said (store_of plan) keep (opened r) (stored (g.H.Host.now h) (base r)) (stored (g.H.Host.now k) (base m)) h k n (done.step plan keep log) goes.leaves
          (stores.within plan keep log);
      roomy = λ room. roomy_then g.H.Host.now g.H.Host.may g.H.Host.clock g.H.Host.since g.H.Host.said r m s h k n (room_made.untouched room) goes.leaves goes.base;
      legal = λ room asks. tt;
      fits = fits_after (g.H.Host.now k) (g.H.Host.now n) m s c.args.event goes.base goes.room has_room c.in-Err-take.ensures.appends;
      within = within_count (g.H.Host.now n) s c.take.new.self.spots c.take.ensures.edges.within;
      plan_stays = c.take.ensures.plan;
      rows = c.take.ensures.rows;
      changed = c.take.ensures.since;
      going = tt;
      reaches = tt;
      slots = tt;
      damaged = λ p is. c.take.ensures.cause (past.Damaged p) (c.in-Err-take.is ∙ ap (λ v. Err v) (damaged_by fault p (sym c.engine_fault.ensures ∙ same_fault _ _ is)));
      disk = λ is. let cause = c.take.ensures.cause past.Disk (c.in-Err-take.is ∙ ap (λ v. Err v) (disk_by fault (sym c.engine_fault.ensures ∙ same_fault _ _ is))) in omega (arith, cause, keeps.log.disk_faults_grow);
      table = λ is. c.take.ensures.table (c.in-Err-take.is ∙ ap (λ v. Err v) (table_by fault (sym c.engine_fault.ensures ∙ same_fault _ _ is)));
      not_ended = λ is.
          ⊎_elim
          (λ full. let cause = c.take.ensures.cause past.Full (c.in-Err-take.is ∙ ap (λ v. Err v) full) in omega (arith, cause, c.requires.can.below, keeps.count, keeps.log.limit, long (g.H.Host.now k) m))
          (⊎_elim
          (λ over. let cause = c.take.ensures.cause past.Ended (c.in-Err-take.is ∙ ap (λ v. Err v) over) in let e = sym cause ∙ done.going in cc)
          (λ over. let ended = c.take.ensures.ended.0 (c.in-Err-take.is ∙ ap (λ v. Err v) over) in let e = sym ended ∙ c.requires.can.going in cc))
          (ended_by fault (sym c.engine_fault.ensures ∙ same_fault _ _ is));
    })
