use Rattle.std.proofs.Common.{◌≡◌, ◌≤◌, ◌∙◌, ◌+◌, ℕ, List, take, refl, sym, subst}
use Rattle.std.specs.Option.{ForSome}
use Rattle.rg_host.specs.Image.{Image}
use Rattle.rg_event.specs.Rising.{next_offset}
use Rattle.rg_event.specs.declared.event.Event.{Event}
use Rattle.rg_config.specs.Plans.{planned}
use Rattle.rg_engine.specs.Passed.{passed_count}
use Rattle.rg_checkpoint.specs.Slots.{ReachesSlots, sizes_in}
use Rattle.rg_reservoir.specs.Attached.{OpensView}
use Rattle.rg_reservoir.specs.Kept.{base, view_of, room_of}
use Rattle.rg_open.specs.Blame.{IsBlamed, NodeRuns, IsPlaced}
use Rattle.rg_open.specs.Opened.{IsKeptSince}
use Rattle.rg_open.specs.Opening.{IsResumed}
use Rattle.rg_recover.specs.Sessions.{Sitting, HasKept, IsRunning, events_of, stored_of}
use Rattle.rg_recover.proofs.Resuming.{started_running, all_of_none, stored_of_none, within_count, fits_none}
use Rattle.rg_recover.proofs.session.Session.resume.Goals as goal

pub new-requires : goal.new-requires
new-requires g c =
    let o = c.in-Ok.opened in
    let are = c.in-Ok.ensures in
    let chunk = c.requires.read.ranges.chunk in
    record {
      whole = record {
        shape_is = are.copies.0 ∙ sym are.reservoir.2;
        most_is = sym are.reservoir.3;
        within = within_count o.reservoir o.engine.spots are.none.0 are.engine.within;
        some_room = subst (λ (n : ℕ). 1 ≤ n) (sym are.none.1) chunk.0;
        few = subst (λ (n : ℕ). n ≤ 4096) (sym are.none.1) chunk.1;
        fits = fits_none o.reservoir (room_of o.reservoir) are.none.0;
        engine_goes = λ _. are.engine.going;
        reservoir_goes = λ _. are.reservoir.0;
        slots_go = λ _. are.slots;
        keep = are.keep;
      };
    }

pub returns-in-Ok-clause-running : goal.returns-in-Ok-clause-running
returns-in-Ok-clause-running g c = λ openable tells.
    let h = c.open_store.new.host in
    let o = c.in-Ok.opened in
    let e = o.engine.table in
    subst (λ (s : Sitting g.row.T.Denot). IsRunning (planned c.args.plan.now) (g.H.Host.now h) (g.H.Host.may h) g.T.Table.tells g.T.Table.cell g.T.Table.named g.T.Table.there s) (sym c.new.ensures)
    (started_running (planned c.args.plan.now) (g.H.Host.now h) (g.H.Host.may h) g.T.Table.tells g.T.Table.cell g.T.Table.named g.T.Table.there o.reservoir o.engine o.texts c.args.plan.now.grace o.slots o.keep o.saved
    (c.in-Ok.ensures.started openable tells) (c.in-Ok.ensures.settled openable.image openable.told) c.in-Ok.ensures.reservoir.3 refl
    (λ slot is. subst (λ (l : List (List ℕ)). IsKeptSince (g.H.Host.may h) slot o.saved l (sizes_in o.slots slot) (g.T.Table.named e) (g.T.Table.there e) (g.T.Table.cell e)) (sym c.in-Ok.ensures.copies.1)
    (c.in-Ok.ensures.since openable.image openable.told tells slot is)))

pub returns-in-Ok-clause-passed : goal.returns-in-Ok-clause-passed
returns-in-Ok-clause-passed g c = λ openable.
    let h = g.H.Host.now c.open_store.new.host in
    let r = c.in-Ok.opened.reservoir in
    let task = c.args.plan.now.task in
    let from = c.in-Ok.resumed.from in
    subst (λ (s : Sitting g.row.T.Denot). c.open_store.new.steps ≡ c.args.steps.now + passed_count task (take from (events_of h s)) (events_of h s)) (sym c.new.ensures)
    (subst (λ (l : List Event). c.open_store.new.steps ≡ c.args.steps.now + passed_count task (take from l) l) (sym (all_of_none h r c.in-Ok.ensures.none.0)) (c.in-Ok.ensures.passed openable))

pub returns-in-Ok-clause-events : goal.returns-in-Ok-clause-events
returns-in-Ok-clause-events g c = λ v events told has.
    let h = g.H.Host.now c.open_store.new.host in
    let r = c.in-Ok.opened.reservoir in
    let are = c.in-Ok.ensures.events v events told has in
    subst (λ (s : Sitting g.row.T.Denot). (events_of h s ≡ events) × (stored_of h s ≡ events) × (c.in-Ok.resumed.next ≡ next_offset events)) (sym c.new.ensures)
    (all_of_none h r c.in-Ok.ensures.none.0 ∙ are.0, stored_of_none h r ∙ are.0, are.1)

pub returns-in-Ok-clause-resumed : goal.returns-in-Ok-clause-resumed
returns-in-Ok-clause-resumed g c = λ v told.
    let plan = c.args.plan.now in
    subst (λ (s : Sitting g.row.T.Denot). IsResumed v (g.H.Host.now c.open_store.new.host) plan.queries plan.schema.fields plan.task s.reservoir s.engine s.keep c.in-Ok.resumed.from c.args.steps.now c.open_store.new.steps) (sym c.new.ensures)
    (c.in-Ok.ensures.resumed v told)

pub returns-in-Ok-clause-node : goal.returns-in-Ok-clause-node
returns-in-Ok-clause-node g c = λ v events n told has tells.
    let h = c.open_store.new.host in
    subst (λ (s : Sitting g.row.T.Denot). (NodeRuns (planned c.args.plan.now) n (g.H.Host.now h) (g.H.Host.may h) (g.T.Table.tells s.engine.table) (g.T.Table.cell s.engine.table) s.reservoir s.engine → ⊥) → IsBlamed (planned c.args.plan.now) v events n) (sym c.new.ensures)
    (c.in-Ok.ensures.node v events n told has tells)

pub returns-in-Ok-clause-placed : goal.returns-in-Ok-clause-placed
returns-in-Ok-clause-placed g c = λ v events told has.
    let h = c.open_store.new.host in
    subst (λ (s : Sitting g.row.T.Denot). IsPlaced (planned c.args.plan.now) (g.H.Host.now h) (g.H.Host.may h) s.reservoir s.engine) (sym c.new.ensures) (c.in-Ok.ensures.placed v events told has)

pub returns-in-Ok-clause-view : goal.returns-in-Ok-clause-view
returns-in-Ok-clause-view g c =
    subst (λ (s : Sitting g.row.T.Denot). ForSome (g.H.Host.now c.args.host.now) (λ (v : Image). OpensView c.args.plan.now.schema c.args.plan.now.defaults (view_of (base s.reservoir)) (v 2))) (sym c.new.ensures) c.in-Ok.ensures.view

pub returns-in-Ok-clause-slots_reach : goal.returns-in-Ok-clause-slots_reach
returns-in-Ok-clause-slots_reach g c = subst (λ (s : Sitting g.row.T.Denot). ReachesSlots s.slots (g.H.Host.now c.open_store.new.host)) (sym c.new.ensures) c.in-Ok.ensures.slots_reach

pub returns-in-Ok-clause-keeps : goal.returns-in-Ok-clause-keeps
returns-in-Ok-clause-keeps g c = λ v told tells.
    let h = c.open_store.new.host in
    let o = c.in-Ok.opened in
    let e = o.engine.table in
    let after = c.in-Ok.ensures.told v told in
    let settled = c.in-Ok.ensures.settled v told in
    subst (λ (s : Sitting g.row.T.Denot). HasKept (g.H.Host.now h) (g.H.Host.may h) g.T.Table.cell g.T.Table.named g.T.Table.there s) (sym c.new.ensures) (record {
      image = after.0;
      told = after.1;
      first_settled = settled.first;
      second_settled = settled.second;
      stored = λ slot is. c.in-Ok.ensures.stored v told;
      since = λ slot is.
          subst (λ (l : List (List ℕ)). IsKeptSince (g.H.Host.may h) slot o.saved l (sizes_in o.slots slot) (g.T.Table.named e) (g.T.Table.there e) (g.T.Table.cell e)) (sym c.in-Ok.ensures.copies.1) (c.in-Ok.ensures.since v told tells slot is);
    })
