use Rattle.std.proofs.Common.{◌∙◌, ◌≤◌, inl, inr, ⊎_elim, ℕ, List, sym, subst, arith}
use Rattle.rg_config.specs.Plans.{planned}
use Rattle.rg_checkpoint.specs.Slots.{sizes_in}
use Rattle.rg_reservoir.specs.Kept.{base}
use Rattle.rg_open.specs.Opened.{IsKeptSince}
use Rattle.rg_open.specs.Opening.{IsStarted}
use Rattle.rg_open.proofs.Attached.{openable_still}
use Rattle.rg_open.proofs.Causes.{rose_last}
use Rattle.rg_open.proofs.Unfit.{quiet_alone, opened_alone}
use Rattle.rg_open.proofs.Within.{opened_within, opened_stepped}
use Rattle.rg_open.proofs.opening.open_store.Goals as goal

pub returns-in-Ok-open_settled-clause-started : goal.returns-in-Ok-open_settled-clause-started
returns-in-Ok-open_settled-clause-started g c = λ openable tells.
    let h = c.args.host.now in
    let m = c.settle.new.host in
    let leaves = c.settle.ensures.leaves in
    let opened = c.in-Ok-open_settled.opened.0 in
    let resumed = c.in-Ok-open_settled.opened.1 in
    let n = c.open_settled.new.host in
    let table = opened.engine.table in
    subst (λ (from : ℕ). IsStarted {T = g.row.T.Denot} (planned c.args.plan.now) (g.H.Host.now n) (g.H.Host.may n) (g.T.Table.tells table) (g.T.Table.cell table) opened.reservoir opened.engine opened.texts opened.keep from) c.in-Ok-open_settled.ensures.come.from_is
    (subst (λ (texts : List (List ℕ)). IsStarted {T = g.row.T.Denot} (planned c.args.plan.now) (g.H.Host.now n) (g.H.Host.may n) (g.T.Table.tells table) (g.T.Table.cell table) opened.reservoir opened.engine texts opened.keep resumed.from) (sym c.in-Ok-open_settled.ensures.come.texts_are)
    (c.in-Ok-open_settled.ensures.opened.started (openable_still (planned c.args.plan.now) (g.H.Host.now h) (g.H.Host.now m) (g.H.Host.may h) (g.H.Host.may m) leaves.now_stays leaves.fewer openable) tells))

pub returns-in-Ok-open_settled-clause-since : goal.returns-in-Ok-open_settled-clause-since
returns-in-Ok-open_settled-clause-since g c = λ v told tells slot is.
    let opened = c.in-Ok-open_settled.opened.0 in
    let table = opened.engine.table in
    subst (λ (from : ℕ). IsKeptSince (g.H.Host.may c.open_settled.new.host) slot from c.args.plan.now.queries (sizes_in opened.slots slot) (g.T.Table.named table) (g.T.Table.there table) (g.T.Table.cell table)) c.in-Ok-open_settled.ensures.come.from_is
    (c.in-Ok-open_settled.ensures.opened.since v (c.settle.ensures.leaves.now_stays ∙ told) tells slot is)

pub returns-in-Ok-open_settled-clause-stored : goal.returns-in-Ok-open_settled-clause-stored
returns-in-Ok-open_settled-clause-stored g c = λ v told.
    let opened = c.in-Ok-open_settled.opened.0 in
    subst (λ (from : ℕ). from ≤ (base opened.reservoir).committed) c.in-Ok-open_settled.ensures.come.from_is
    (c.in-Ok-open_settled.ensures.opened.stored v (c.settle.ensures.leaves.now_stays ∙ told))

pub returns-in-Ok-open_settled-clause-passed : goal.returns-in-Ok-open_settled-clause-passed
returns-in-Ok-open_settled-clause-passed g c = λ openable.
    let h = c.args.host.now in
    let m = c.settle.new.host in
    let leaves = c.settle.ensures.leaves in
    c.in-Ok-open_settled.ensures.opened.passed (openable_still (planned c.args.plan.now) (g.H.Host.now h) (g.H.Host.now m) (g.H.Host.may h) (g.H.Host.may m) leaves.now_stays leaves.fewer openable)

pub returns-in-Ok-open_settled-clause-is_from : goal.returns-in-Ok-open_settled-clause-is_from
returns-in-Ok-open_settled-clause-is_from g c = λ v told openable.
    let h = c.args.host.now in
    let m = c.settle.new.host in
    let leaves = c.settle.ensures.leaves in
    c.in-Ok-open_settled.ensures.opened.is_from v (leaves.now_stays ∙ told) (openable_still (planned c.args.plan.now) (g.H.Host.now h) (g.H.Host.now m) (g.H.Host.may h) (g.H.Host.may m) leaves.now_stays leaves.fewer openable)

pub returns-in-Ok-open_settled-clause-events : goal.returns-in-Ok-open_settled-clause-events
returns-in-Ok-open_settled-clause-events g c = λ v events told has. (
  c.in-Ok-open_settled.ensures.opened.events v events (c.settle.ensures.leaves.now_stays ∙ told) has,
  c.in-Ok-open_settled.ensures.come.next_is ∙ c.in-Ok-open_settled.ensures.opened.next v events (c.settle.ensures.leaves.now_stays ∙ told) has,
)

pub returns-in-Ok-open_settled-clause-told : goal.returns-in-Ok-open_settled-clause-told
returns-in-Ok-open_settled-clause-told g c = λ v told. c.in-Ok-open_settled.ensures.opened.told v (c.settle.ensures.leaves.now_stays ∙ told)

pub returns-in-Ok-open_settled-clause-settled : goal.returns-in-Ok-open_settled-clause-settled
returns-in-Ok-open_settled-clause-settled g c = λ v told. c.in-Ok-open_settled.ensures.opened.settled v (c.settle.ensures.leaves.now_stays ∙ told)

pub returns-in-Ok-open_settled-clause-view : goal.returns-in-Ok-open_settled-clause-view
returns-in-Ok-open_settled-clause-view g c = λ v told. c.in-Ok-open_settled.ensures.opened.view v (c.settle.ensures.leaves.now_stays ∙ told)

pub returns-in-Ok-open_settled-clause-resumed : goal.returns-in-Ok-open_settled-clause-resumed
returns-in-Ok-open_settled-clause-resumed g c = λ v told. c.in-Ok-open_settled.ensures.opened.resumed v (c.settle.ensures.leaves.now_stays ∙ told)

pub returns-in-Ok-open_settled-clause-node : goal.returns-in-Ok-open_settled-clause-node
returns-in-Ok-open_settled-clause-node g c = λ v events n told has tells not. c.in-Ok-open_settled.ensures.opened.node v events n (c.settle.ensures.leaves.now_stays ∙ told) has tells not

pub returns-in-Ok-open_settled-clause-placed : goal.returns-in-Ok-open_settled-clause-placed
returns-in-Ok-open_settled-clause-placed g c = λ v events told has. c.in-Ok-open_settled.ensures.opened.placed v events (c.settle.ensures.leaves.now_stays ∙ told) has

pub returns-in-Ok-open_settled-clause-within : goal.returns-in-Ok-open_settled-clause-within
returns-in-Ok-open_settled-clause-within g c = λ v keep told.
    opened_within g.H.Host.now g.H.Host.may g.H.Host.clock g.H.Host.since g.H.Host.said (planned c.args.plan.now) c.fields-columns.ensures.legal keep c.args.host.now c.settle.new.host c.open_settled.new.host v told c.settle.ensures.leaves c.in-Ok.ensures.settled c.open_settled.ensures.writes.writes

pub returns-in-Ok-open_settled-clause-stepped : goal.returns-in-Ok-open_settled-clause-stepped
returns-in-Ok-open_settled-clause-stepped g c = λ v keep told.
    opened_stepped g.H.Host.now g.H.Host.may g.H.Host.clock g.H.Host.since g.H.Host.said (planned c.args.plan.now) c.fields-columns.ensures.legal keep c.args.host.now c.settle.new.host c.open_settled.new.host v told c.settle.ensures.leaves c.in-Ok.ensures.settled c.open_settled.ensures.writes.writes

pub returns-in-Ok-open_settled-clause-said : goal.returns-in-Ok-open_settled-clause-said
returns-in-Ok-open_settled-clause-said g c = c.open_settled.ensures.writes.writes.said_stays ∙ c.settle.ensures.leaves.said_stays

pub returns-in-Ok-open_settled-clause-unfit : goal.returns-in-Ok-open_settled-clause-unfit
returns-in-Ok-open_settled-clause-unfit g c = λ v told unfit.
    (opened_alone g.H.Host.now g.H.Host.may g.H.Host.clock g.H.Host.since g.H.Host.said (λ h w is. g.met.H.Host.now_may h w is) v c.args.host.now c.settle.new.host told c.settle.ensures.leaves (planned c.args.plan.now) unfit c.open_settled.new.host c.in-Ok.ensures.settled c.open_settled.ensures.writes.writes, tt)

pub returns-in-Ok-open_settled-clause-exact : goal.returns-in-Ok-open_settled-clause-exact
returns-in-Ok-open_settled-clause-exact g c = λ v told why. c.in-Ok-open_settled.ensures.opened.fit v (c.settle.ensures.leaves.now_stays ∙ told) why

pub returns-in-Ok-open_settled-clause-reservoir : goal.returns-in-Ok-open_settled-clause-reservoir
returns-in-Ok-open_settled-clause-reservoir g c = c.in-Ok-open_settled.ensures.opened.going

pub returns-in-Ok-open_settled-clause-none : goal.returns-in-Ok-open_settled-clause-none
returns-in-Ok-open_settled-clause-none g c = c.in-Ok-open_settled.ensures.opened.empty

pub returns-in-Ok-open_settled-clause-slots : goal.returns-in-Ok-open_settled-clause-slots
returns-in-Ok-open_settled-clause-slots g c = c.in-Ok-open_settled.ensures.opened.slots_go

pub returns-in-Ok-open_settled-clause-keep : goal.returns-in-Ok-open_settled-clause-keep
returns-in-Ok-open_settled-clause-keep g c = c.in-Ok-open_settled.ensures.opened.keep_is

pub returns-in-Ok-open_settled-clause-reaches : goal.returns-in-Ok-open_settled-clause-reaches
returns-in-Ok-open_settled-clause-reaches g c = c.in-Ok-open_settled.ensures.opened.reaches

pub returns-in-Ok-open_settled-clause-slots_reach : goal.returns-in-Ok-open_settled-clause-slots_reach
returns-in-Ok-open_settled-clause-slots_reach g c = c.in-Ok-open_settled.ensures.opened.slots_reach

pub returns-in-Ok-open_settled-clause-engine : goal.returns-in-Ok-open_settled-clause-engine
returns-in-Ok-open_settled-clause-engine g c = c.in-Ok-open_settled.ensures.opened.engine_goes

pub returns-in-Ok-open_settled-clause-table : goal.returns-in-Ok-open_settled-clause-table
returns-in-Ok-open_settled-clause-table g c = c.in-Ok-open_settled.ensures.opened.table_kept

pub returns-in-Ok-open_settled-clause-disk_faults : goal.returns-in-Ok-open_settled-clause-disk_faults
returns-in-Ok-open_settled-clause-disk_faults g c =
    omega (arith, c.settle.ensures.disk_faults, c.open_settled.ensures.writes.disk_faults)

pub returns-in-Ok-open_settled-clause-out_faults : goal.returns-in-Ok-open_settled-clause-out_faults
returns-in-Ok-open_settled-clause-out_faults g c = c.open_settled.ensures.writes.out_faults ∙ c.settle.ensures.out_faults

pub returns-in-Err-open_settled-clause-never_differs : goal.returns-in-Err-open_settled-clause-never_differs
returns-in-Err-open_settled-clause-never_differs g c = λ openable.
    let h = c.args.host.now in
    let m = c.settle.new.host in
    let leaves = c.settle.ensures.leaves in
    c.in-Err-open_settled.ensures.refused.never_differs (openable_still (planned c.args.plan.now) (g.H.Host.now h) (g.H.Host.now m) (g.H.Host.may h) (g.H.Host.may m) leaves.now_stays leaves.fewer openable)

pub returns-in-Err-open_settled-clause-never_bad : goal.returns-in-Err-open_settled-clause-never_bad
returns-in-Err-open_settled-clause-never_bad g c = λ n openable tells.
    let h = c.args.host.now in
    let m = c.settle.new.host in
    let leaves = c.settle.ensures.leaves in
    c.in-Err-open_settled.ensures.refused.never_bad n (openable_still (planned c.args.plan.now) (g.H.Host.now h) (g.H.Host.now m) (g.H.Host.may h) (g.H.Host.may m) leaves.now_stays leaves.fewer openable) tells

pub returns-in-Err-open_settled-clause-never_damaged : goal.returns-in-Err-open_settled-clause-never_damaged
returns-in-Err-open_settled-clause-never_damaged g c = λ p openable tells.
    let h = c.args.host.now in
    let m = c.settle.new.host in
    let leaves = c.settle.ensures.leaves in
    c.in-Err-open_settled.ensures.refused.never_damaged p (openable_still (planned c.args.plan.now) (g.H.Host.now h) (g.H.Host.now m) (g.H.Host.may h) (g.H.Host.may m) leaves.now_stays leaves.fewer openable)

pub returns-in-Err-open_settled-clause-bad : goal.returns-in-Err-open_settled-clause-bad
returns-in-Err-open_settled-clause-bad g c = λ v events n told has tells. c.in-Err-open_settled.ensures.refused.bad v events n (c.settle.ensures.leaves.now_stays ∙ told) has tells

pub returns-in-Err-open_settled-clause-undamaged : goal.returns-in-Err-open_settled-clause-undamaged
returns-in-Err-open_settled-clause-undamaged g c = λ v events p told has is. c.in-Err-open_settled.ensures.refused.undamaged v events p (c.settle.ensures.leaves.now_stays ∙ told) has is

pub returns-in-Err-open_settled-clause-within : goal.returns-in-Err-open_settled-clause-within
returns-in-Err-open_settled-clause-within g c = λ v keep told.
    opened_within g.H.Host.now g.H.Host.may g.H.Host.clock g.H.Host.since g.H.Host.said (planned c.args.plan.now) c.fields-columns.ensures.legal keep c.args.host.now c.settle.new.host c.open_settled.new.host v told c.settle.ensures.leaves c.in-Ok.ensures.settled c.open_settled.ensures.writes.writes

pub returns-in-Err-open_settled-clause-said : goal.returns-in-Err-open_settled-clause-said
returns-in-Err-open_settled-clause-said g c = c.open_settled.ensures.writes.writes.said_stays ∙ c.settle.ensures.leaves.said_stays

pub returns-in-Err-open_settled-clause-unfit : goal.returns-in-Err-open_settled-clause-unfit
returns-in-Err-open_settled-clause-unfit g c = λ v told unfit. (
  opened_alone g.H.Host.now g.H.Host.may g.H.Host.clock g.H.Host.since g.H.Host.said (λ h w is. g.met.H.Host.now_may h w is) v c.args.host.now c.settle.new.host told c.settle.ensures.leaves (planned c.args.plan.now) unfit c.open_settled.new.host c.in-Ok.ensures.settled c.open_settled.ensures.writes.writes,
  c.in-Err-open_settled.ensures.refused.why v (c.settle.ensures.leaves.now_stays ∙ told) unfit,
)

pub returns-in-Err-open_settled-clause-disk : goal.returns-in-Err-open_settled-clause-disk
returns-in-Err-open_settled-clause-disk g c = λ is.
    rose_last (g.H.Host.disk_faults c.args.host.now) (g.H.Host.disk_faults c.settle.new.host) (g.H.Host.disk_faults c.open_settled.new.host) c.settle.ensures.disk_faults (c.in-Err-open_settled.ensures.refused.disk is)

pub returns-in-Err-open_settled-clause-differs : goal.returns-in-Err-open_settled-clause-differs
returns-in-Err-open_settled-clause-differs g c = λ is v told. c.in-Err-open_settled.ensures.refused.differs is v (c.settle.ensures.leaves.now_stays ∙ told)

pub returns-in-Err-open_settled-clause-damaged : goal.returns-in-Err-open_settled-clause-damaged
returns-in-Err-open_settled-clause-damaged g c = λ p is.
    ⊎_elim (λ bad. inl (λ v told. bad v (c.settle.ensures.leaves.now_stays ∙ told))) (λ illegal. inr (λ v told. illegal v (c.settle.ensures.leaves.now_stays ∙ told))) (c.in-Err-open_settled.ensures.refused.damaged p is)

pub returns-in-Err-open_settled-clause-table_disk : goal.returns-in-Err-open_settled-clause-table_disk
returns-in-Err-open_settled-clause-table_disk g c = c.in-Err-open_settled.ensures.refused.table_disk

pub returns-in-Err-open_settled-clause-back : goal.returns-in-Err-open_settled-clause-back
returns-in-Err-open_settled-clause-back g c = c.in-Err-open_settled.ensures.refused.table_kept

pub returns-in-Err-open_settled-clause-disk_faults : goal.returns-in-Err-open_settled-clause-disk_faults
returns-in-Err-open_settled-clause-disk_faults g c =
    omega (arith, c.settle.ensures.disk_faults, c.open_settled.ensures.writes.disk_faults)

pub returns-in-Err-open_settled-clause-out_faults : goal.returns-in-Err-open_settled-clause-out_faults
returns-in-Err-open_settled-clause-out_faults g c = c.open_settled.ensures.writes.out_faults ∙ c.settle.ensures.out_faults

pub returns-in-Err-clause-unfit : goal.returns-in-Err-clause-unfit
returns-in-Err-clause-unfit g c = λ v told unfit.
    (quiet_alone g.H.Host.now g.H.Host.may g.H.Host.clock g.H.Host.since g.H.Host.said (λ h w is. g.met.H.Host.now_may h w is) v c.args.host.now c.settle.new.host told c.settle.ensures.leaves, tt)

pub returns-in-Err-copy_plan-clause-unfit : goal.returns-in-Err-copy_plan-clause-unfit
returns-in-Err-copy_plan-clause-unfit g c = λ v told unfit.
    (quiet_alone g.H.Host.now g.H.Host.may g.H.Host.clock g.H.Host.since g.H.Host.said (λ h w is. g.met.H.Host.now_may h w is) v c.args.host.now c.settle.new.host told c.settle.ensures.leaves, tt)
