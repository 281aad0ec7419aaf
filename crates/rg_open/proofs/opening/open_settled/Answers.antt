use Rattle.std.proofs.Common.{◌≡◌, ◌≤◌, ◌∙◌, ◌+◌, inl, inr, ⊎_elim, [], ℕ, List, Option, take, ap, sym, subst, arith}
use Rattle.std.specs.Option.{ForSome}
use Rattle.rg_host.specs.Image.{Image}
use Rattle.rg_event.specs.declared.event.Event.{Event}
use Rattle.rg_config.specs.Plans.{planned}
use Rattle.rg_plan.specs.Plans.{Tasks}
use Rattle.rg_checkpoint.specs.Slots.{ReachesSlots}
use Rattle.rg_engine.specs.Passed.{passed_count}
use Rattle.rg_engine.specs.Standing.{come}
use Rattle.rg_window.specs.Placed.{numbers_of}
use Rattle.rg_reservoir.specs.Attached.{LogOpens, OpensView}
use Rattle.rg_reservoir.specs.Chain.{IsIllegalBy}
use Rattle.rg_reservoir.specs.Kept.{Base, base, view_of, all_events}
use Rattle.rg_restore.specs.Naming.{HeadsName}
use Rattle.rg_restore.specs.Opening.{IsGoing}
use Rattle.rg_restore.specs.Slots.{slot_in, HaveBegun}
use Rattle.rg_open.specs.Blame.{opened_list}
use Rattle.rg_open.proofs.Blame.{amiss_in, list_for}
use Rattle.rg_open.proofs.Causes.{rose_last}
use Rattle.rg_open.proofs.Found.{begun_keep, from_later, from_texts, next_is, reaches_still}
use Rattle.rg_open.proofs.Known.{from_stored, kept_since}
use Rattle.rg_open.proofs.Settles.{all-fewer, fewer-all_settled, writes-before}
use Rattle.rg_open.proofs.Unfit.{why}
use Rattle.rg_open.proofs.opening.open_settled.Goals as goal

pub start-requires : goal.start-requires
start-requires g c = record { start = record { read = c.requires.ready.read; task = c.requires.ready.task; going = c.in-Ok.ensures.found.going.0; none = c.in-Ok.ensures.found.empty.0; empty = c.requires.ready.empty } }

pub returns-in-Err-clause-refused : goal.returns-in-Err-clause-refused
returns-in-Err-clause-refused g c =
    let f = c.in-Err.ensures.refused in
    record {
      disk = f.disk;
      differs = f.differs;
      never_differs = f.never_differs;
      damaged = λ p is. inl (f.damaged p is);
      never_damaged = f.never_damaged;
      undamaged = f.undamaged;
      bad = λ v events n told has tells is. absurd (f.no_state n is);
      never_bad = λ n openable tells is. f.no_state n is;
      why = λ v told unfit. why (planned c.args.plan.now) v c.in-Err.fault (λ is. f.differs is v told) (λ p is. f.damaged p is v told) f.no_table f.no_state;
      table_disk = λ is. absurd (f.no_table is);
      table_kept = record { tells = (λ told. told, λ told. told); later = omega arith };
    }

pub returns-in-Ok-start-clause-opened : goal.returns-in-Ok-start-clause-opened
returns-in-Ok-start-clause-opened g c =
    let given = c.args.plan.now in
    let plan = planned given in
    let m = c.find.new.host in
    let n = c.start.new.host in
    let found = c.in-Ok.found in
    let finds = c.in-Ok.ensures.found in
    let starts = c.in-Ok-start.ensures.started in
    let left = c.start.ensures.leaves in
    let origin = c.in-Ok-start.origin in
    let engine = c.in-Ok-start.engine in
    let r = c.start.new.reservoir in
    let saved = found.saved in
    let task = c.args.copies.task in
    let tasks_are = c.requires.ready.task in
    let before = c.args.steps.now in
    let after = c.start.new.steps in
    let reads = g.met.H.Host.now_may m in
    let fewer = all-fewer g.H.Host.now g.H.Host.may g.H.Host.clock g.H.Host.since g.H.Host.said m n left.leaves in
    let same : all_events (g.H.Host.now n) (base r) [] ≡ all_events (g.H.Host.now m) (base found.reservoir) [] =
    ap (λ (o : Option Image). all_events o (base r) []) left.leaves.now_stays ∙ ap (λ (b : Base). all_events (g.H.Host.now m) b []) left.based in
    let ticked = subst (λ (k : Tasks). (numbers : List ℕ) × HaveBegun k.offsets (slot_in saved) origin.slot numbers × (after + come k numbers ≡ before + come k (numbers_of engine.spots))) tasks_are starts.ticks in
    record {
      started = λ openable tells. starts.started (finds.found openable) tells;
      told = λ v told. let list = finds.listed v told in (list.0, left.leaves.now_stays ∙ list.2);
      since = λ v told tells.
          kept_since (g.H.Host.may m) (g.H.Host.may n) left.leaves.may_stays.no_more saved found.slots (finds.slots_left v told) (finds.sizes v told) (finds.listed v told).0 (reads (finds.listed v told).0 (finds.listed v told).2) (HeadsName (g.H.Host.now m) (base found.reservoir))
          given.queries given.schema.fields task (base found.reservoir).committed origin.slot origin.from (starts.is_from (finds.listed v told))
          (g.T.Table.named engine.table) (g.T.Table.there engine.table) (g.T.Table.cell engine.table) (starts.since tells);
      stored = λ v told. subst (λ (b : Base). origin.from ≤ b.committed) (sym left.based)
          (from_stored (HeadsName (g.H.Host.now m) (base found.reservoir)) given.queries given.schema.fields task (base found.reservoir).committed (slot_in saved) origin.slot origin.from (starts.is_from (finds.listed v told)));
      passed = λ openable.
          subst (λ (k : Tasks). after ≡ before + passed_count k (take origin.from (all_events (g.H.Host.now n) (base r) [])) (all_events (g.H.Host.now n) (base r) [])) tasks_are
          (subst (λ (l : List Event). after ≡ before + passed_count task (take origin.from l) l) (sym same) (starts.passed (finds.found openable)));
      is_from = λ v told openable. record {
        saved = saved;
        slots = finds.slots_are v told;
        keep = origin.slot;
        is = from_texts plan (g.H.Host.now m) (g.H.Host.may m) found.reservoir saved (finds.found openable) task (tasks_are ∙ c.requires.ready.read.task) given.queries c.requires.ready.read.printed reads c.requires.ready.read.said c.requires.ready.read.legal
            origin.slot origin.from (starts.is_from (finds.listed v told));
      };
      events = λ v events told has. same ∙ finds.events v events told has;
      next = λ v events told has.
          next_is (g.H.Host.now n) (g.H.Host.may n) r events (left.sound (finds.log v events told has).sound) (ap (λ (b : Base). b.ended) left.based ∙ finds.going.0) left.empty (same ∙ finds.events v events told has);
      node = λ v events k told has tells not.
          let log = finds.log v events told has in
          let list = list_for plan events v has in
          record {
            saved = saved;
            slots = finds.slots_are v told;
            payloads = list.0;
            has = list.1;
            amiss = amiss_in plan (g.H.Host.now m) (g.H.Host.may m) found.reservoir log finds.empty.0 (opened_list plan list.0) (finds.list v list.0 told list.1) events saved k
                (ap (λ (l : List Event). all_events (g.H.Host.now m) (base found.reservoir) l) finds.empty.0 ∙ finds.events v events told has) (starts.node k log tells not);
          };
      placed = λ v events told has. starts.placed (finds.log v events told has);
      settled = λ v told. fewer-all_settled g.H.Host.now g.H.Host.may g.H.Host.clock g.H.Host.since g.H.Host.said m n fewer (finds.settled v told);
      resumed = λ v told. record {
        saved = saved;
        slots = finds.slots_are v told;
        is_from = from_later (g.H.Host.now m) (g.H.Host.now n) (base found.reservoir) (base r) given.queries given.schema.fields task given.task (slot_in saved) origin.slot origin.from left.leaves.now_stays left.based tasks_are
            (starts.is_from (finds.listed v told));
        before = ticked.0;
        begun = ticked.1;
        ticks = ticked.2;
      };
      fit = finds.fit;
      view = subst (λ (b : Base). ForSome (g.H.Host.now c.args.host.now) (λ v. OpensView given.schema given.defaults (view_of b) (v 2))) (sym left.based) finds.view;
      going = (
        ap (λ (b : Base). b.ended) left.based ∙ finds.going.0,
        ap (λ (b : Base). b.file) left.based ∙ finds.going.1,
        ap (λ (b : Base). b.shape) left.based ∙ finds.going.2,
        ap (λ (b : Base). b.limit) left.based ∙ finds.going.3,
      );
      empty = (left.empty, left.room ∙ finds.empty.1, left.cap ∙ finds.empty.2);
      reaches = reaches_still (g.H.Host.now m) (g.H.Host.now n) found.reservoir r left.leaves.now_stays left.based finds.reaches;
      slots_go = finds.slots_go;
      slots_reach = subst (ReachesSlots found.slots) (sym left.leaves.now_stays) finds.slots_reach;
      keep_is = begun_keep task.offsets saved origin.slot starts.ticks.0 starts.ticks.1;
      engine_goes = subst (λ (k : Tasks). IsGoing k (base r).committed engine) tasks_are starts.engine_goes;
      table_kept = starts.table_kept;
    }

pub returns-in-Ok-start-clause-writes : goal.returns-in-Ok-start-clause-writes
returns-in-Ok-start-clause-writes g c =
    let wrote = c.find.ensures.writes in
    let left = c.start.ensures.leaves in
    let fewer = all-fewer g.H.Host.now g.H.Host.may g.H.Host.clock g.H.Host.since g.H.Host.said c.find.new.host c.start.new.host left.leaves in
    record {
      writes = writes-before g.H.Host.now g.H.Host.may g.H.Host.clock g.H.Host.since g.H.Host.said 2 (LogOpens c.args.plan.now.schema c.args.plan.now.defaults) c.args.host.now c.find.new.host c.start.new.host wrote.writes fewer;
      disk_faults = omega (arith, wrote.disk_faults, left.disk_faults);
      out_faults = left.out_faults ∙ wrote.out_faults;
    }

pub returns-in-Err-start-clause-refused : goal.returns-in-Err-start-clause-refused
returns-in-Err-start-clause-refused g c =
    let given = c.args.plan.now in
    let plan = planned given in
    let m = c.find.new.host in
    let n = c.start.new.host in
    let found = c.in-Ok.found in
    let finds = c.in-Ok.ensures.found in
    let f = c.in-Err-start.ensures.refused in
    let based = c.start.ensures.leaves.based in
    record {
      disk = λ is. rose_last (g.H.Host.disk_faults c.args.host.now) (g.H.Host.disk_faults m) (g.H.Host.disk_faults n) c.find.ensures.writes.disk_faults (f.disk is);
      differs = λ is. absurd (f.same_schema is);
      never_differs = λ openable is. f.same_schema is;
      damaged = λ p is. ⊎_elim
          (λ illegal. inr (λ u told w also. (
            view_of (base found.reservoir),
            finds.view u told,
            subst (λ (i : ℕ). IsIllegalBy (view_of (base found.reservoir)) p (w i)) finds.going.1 (subst (λ (a : Base). IsIllegalBy (view_of a) p (w a.file)) based (illegal w also)),
          )))
          (λ bad. inl (λ v told. let list = finds.listed v told in absurd (finds.whole list.0 list.2 p (bad list.0 (c.start.ensures.leaves.leaves.now_stays ∙ list.2)))))
          (f.damaged p is);
      never_damaged = λ p openable is. f.undamaged p (finds.found openable).reservoir.sound is;
      undamaged = λ v events p told has is. f.undamaged p (finds.log v events told has).sound is;
      bad = λ v events k told has tells is.
          let log = finds.log v events told has in
          let list = list_for plan events v has in
          record {
            saved = found.saved;
            slots = finds.slots_are v told;
            payloads = list.0;
            has = list.1;
            amiss = amiss_in plan (g.H.Host.now m) (g.H.Host.may m) found.reservoir log finds.empty.0 (opened_list plan list.0) (finds.list v list.0 told list.1) events found.saved k
                (ap (λ (l : List Event). all_events (g.H.Host.now m) (base found.reservoir) l) finds.empty.0 ∙ finds.events v events told has) (f.bad k log tells is);
          };
      never_bad = λ k openable tells is. f.never_bad k (finds.found openable) tells is;
      why = λ v told unfit. absurd (finds.fit v told unfit);
      table_disk = f.table_disk;
      table_kept = f.table_kept;
    }

pub returns-in-Err-start-clause-writes : goal.returns-in-Err-start-clause-writes
returns-in-Err-start-clause-writes g c =
    let wrote = c.find.ensures.writes in
    let left = c.start.ensures.leaves in
    let fewer = all-fewer g.H.Host.now g.H.Host.may g.H.Host.clock g.H.Host.since g.H.Host.said c.find.new.host c.start.new.host left.leaves in
    record {
      writes = writes-before g.H.Host.now g.H.Host.may g.H.Host.clock g.H.Host.since g.H.Host.said 2 (LogOpens c.args.plan.now.schema c.args.plan.now.defaults) c.args.host.now c.find.new.host c.start.new.host wrote.writes fewer;
      disk_faults = omega (arith, wrote.disk_faults, left.disk_faults);
      out_faults = left.out_faults ∙ wrote.out_faults;
    }
