use Rattle.std.proofs.Common.{◌⊎◌, inl, inr, ◌∙◌, ap, subst, sym, [], List, ℕ, Option}
use Rattle.std.proofs.lemmas.List.{append-nil}
use Rattle.std.proofs.lemmas.Result.{on_ok_weaker, IfErr-weaker}
use Rattle.rg_event.specs.declared.event.Event.{Event}
use Rattle.rg_reservoir.specs.Kept.{base, opened, stored}
use Rattle.rg_reservoir.specs.declared.reservoir.Reservoir.{Reservoir}
use Rattle.rg_run_spec.specs.Steps.{IsStepped}
use Rattle.rg_run_spec.proofs.Laws.{stepped_then}
use Rattle.rg_engine.specs.Seen.{Seen}
use Rattle.rg_state.specs.Changes.{SameMarks}
use Rattle.rg_host.specs.Image.{Image}
use Rattle.rg_host.proofs.Laws.{becomes-same, becomes-weaker}
use Rattle.rg_open.specs.Blame.{NodeRuns, IsPlaced}
use Rattle.rg_open.specs.Stores.{store_of}
use Rattle.rg_recover.specs.Saving.{IsSaved, SavesByRule}
use Rattle.rg_recover.specs.Sessions.{Sitting, count_in, stored_of}
use Rattle.rg_recover.specs.Sparing.{IsSpared}
use Rattle.rg_task.specs.Stepping.{IsWithinStep}
use Rattle.rg_recover.proofs.Beside.{stored_beside}
use Rattle.rg_recover.proofs.Choosing.{at_ok, exact_of, on_err_of, on_ok_of, rule_from, rule_of}
use Rattle.rg_recover.proofs.Nodes.{node_beside}
use Rattle.rg_recover.proofs.Placed.{placed_beside}
use Rattle.rg_recover.proofs.Saved.{mid_is_stepped}
use Rattle.rg_recover.proofs.Sparing.{spared_still, spared_then, spares_both, spares_then}
use Rattle.rg_recover.proofs.Within.{still_within, still_stored, within_more}
use Rattle.rg_recover.proofs.LogHeld.{still_log, log_then}
use Rattle.rg_recover.proofs.session.Session.save.Goals as goal

pub returns-in-Err-clause-within_step : goal.returns-in-Err-clause-within_step
returns-in-Err-clause-within_step g c = λ plan runs. c.commit.ensures.within_step plan c.args.self.now.keep runs

pub returns-then-is_saved-clause-within_step : goal.returns-then-is_saved-clause-within_step
returns-then-is_saved-clause-within_step g c = λ plan runs.
    still_within g.H.Host.now g.H.Host.may g.H.Host.clock g.H.Host.since g.H.Host.said g.met.H.Host.only_now g.met.H.Host.sinks (store_of plan) c.args.self.now.keep (opened c.args.self.now.reservoir) c.args.host.now

pub returns-then-is_saved-clause-stored : goal.returns-then-is_saved-clause-stored
returns-then-is_saved-clause-stored g c = λ plan runs.
    still_stored g.H.Host.now g.H.Host.may g.H.Host.clock g.H.Host.since g.H.Host.said (store_of plan) c.args.self.now.keep (opened c.args.self.now.reservoir) (stored_of (g.H.Host.now c.args.host.now) c.args.self.now) c.args.host.now

pub returns-in-Ok-clause-within_step : goal.returns-in-Ok-clause-within_step
returns-in-Ok-clause-within_step g c = λ plan runs.
    let keep = c.args.self.now.keep in
    let mid = c.commit.new.host in
    let new = c.write_checkpoint.new.host in
    let done = c.in-Ok.ensures.stored plan keep runs in
    let more = subst (λ (k : Option ℕ). IsWithinStep g.H.Host.may g.H.Host.clock g.H.Host.since g.H.Host.said (store_of plan) k [] mid new) c.commit.ensures.stays.2 (c.write_checkpoint.ensures.runs plan (c.in-Ok.ensures.running plan runs)).within_step in
    within_more g.H.Host.now g.H.Host.may g.H.Host.clock g.H.Host.since g.H.Host.said (store_of plan) keep (opened c.args.self.now.reservoir) done.more c.args.host.now mid new done.whole
    (c.commit.ensures.within_step plan keep runs) done.left more

pub returns-in-Ok-clause-stored : goal.returns-in-Ok-clause-stored
returns-in-Ok-clause-stored g c = λ plan runs.
    let keep = c.args.self.now.keep in
    let mid = c.commit.new.host in
    let new = c.write_checkpoint.new.host in
    let r = c.commit.new.self.reservoir in
    let at = c.in-Ok.ensures.running plan runs in
    let log = at.ready.in_step.reservoir in
    let done = c.in-Ok.ensures.stored plan keep runs in
    let more = subst (λ (k : Option ℕ). IsWithinStep g.H.Host.may g.H.Host.clock g.H.Host.since g.H.Host.said (store_of plan) k [] mid new) c.commit.ensures.stays.2 (c.write_checkpoint.ensures.runs plan at).within_step in
    on_ok_weaker c.write_checkpoint.result (λ _. record {
      more = done.more;
      whole = done.whole;
      grown = ap (λ (x : Reservoir). stored (g.H.Host.now new) (base x)) c.write_checkpoint.ensures.beside.reservoir
          ∙ stored_beside (g.H.Host.now mid) (g.H.Host.now new) (g.H.Host.may mid) (g.H.Host.may new) r log.file c.write_checkpoint.ensures.beside.log log.sound ∙ done.grown;
      left = λ u one. subst (λ (l : List Event). IsStepped (store_of plan) keep l (g.H.Host.may c.args.host.now) u) (append-nil done.more)
          (stepped_then Image (store_of plan) keep done.more [] (g.H.Host.may c.args.host.now) (g.H.Host.may mid) u done.left (mid_is_stepped (store_of plan) keep (g.H.Host.may mid) u (more.left u one)));
    }) (c.write_checkpoint.ensures.runs plan at).running

pub returns-in-Ok-clause-node : goal.returns-in-Ok-clause-node
returns-in-Ok-clause-node g c = λ plan n runs.
    let mid = c.commit.new.host in
    let new = c.write_checkpoint.new.host in
    let m = c.commit.new.self in
    let t = c.write_checkpoint.new.self in
    let beside = c.write_checkpoint.ensures.beside in
    let went = c.in-Ok.ensures.node plan n runs in
    at_ok c.write_checkpoint.result _ (subst (λ (r : Reservoir). NodeRuns plan n (g.H.Host.now new) (g.H.Host.may new) (g.T.Table.tells t.engine.table) (g.T.Table.cell t.engine.table) r t.engine) (sym beside.reservoir)
    (node_beside plan n (g.H.Host.now mid) (g.H.Host.may mid) (g.T.Table.tells m.engine.table) (g.T.Table.cell m.engine.table) m.reservoir m.engine went (g.H.Host.now new) (g.H.Host.may new) (g.T.Table.tells t.engine.table) (g.T.Table.cell t.engine.table) t.engine
    beside.log (beside.engine.rows.tells.1 went.tells) (beside.engine.same went.tells) (ap (λ (e : Seen g.row.T.Denot). e.plan) beside.engine.engine) (ap (λ (e : Seen g.row.T.Denot). e.spots) beside.engine.engine)))

pub returns-in-Ok-clause-placed : goal.returns-in-Ok-clause-placed
returns-in-Ok-clause-placed g c = λ plan placed.
    let mid = c.commit.new.host in
    let new = c.write_checkpoint.new.host in
    let m = c.commit.new.self in
    let t = c.write_checkpoint.new.self in
    let beside = c.write_checkpoint.ensures.beside in
    at_ok c.write_checkpoint.result _ (subst (λ (r : Reservoir). IsPlaced plan (g.H.Host.now new) (g.H.Host.may new) r t.engine) (sym beside.reservoir)
    (placed_beside plan (g.H.Host.now mid) (g.H.Host.may mid) m.reservoir m.engine (c.in-Ok.ensures.placed plan placed) (g.H.Host.now new) (g.H.Host.may new) t.engine
    beside.log (ap (λ (e : Seen g.row.T.Denot). e.spots) beside.engine.engine)))

pub returns-in-Ok-clause-rule : goal.returns-in-Ok-clause-rule
returns-in-Ok-clause-rule g c = λ told.
    let h = c.args.host.now in
    let mid = c.commit.new.host in
    let new = c.write_checkpoint.new.host in
    let s = c.args.self.now in
    let m = c.commit.new.self in
    let t = c.write_checkpoint.new.self in
    let stays = c.commit.ensures.stays in
    let e = m.engine.table in
    let tells = subst (λ (x : Seen g.row.T.Denot). g.T.Table.tells x.table) (sym stays.0) told in
    on_ok_weaker c.write_checkpoint.result (λ saved. becomes-weaker (g.H.Host.now h) (g.H.Host.now new) (SavesByRule g.T.Table.named g.T.Table.there g.T.Table.cell m t) (λ v w. IsSaved s ⊎ SavesByRule g.T.Table.named g.T.Table.there g.T.Table.cell s t v w)
    (rule_from (g.T.Table.named e) (g.T.Table.there e) (g.T.Table.cell e) m.texts (count_in t.reservoir) m.engine.spots m.slots t.slots m.keep t.keep (g.H.Host.now h) (g.H.Host.now mid) (g.H.Host.now new) (g.H.Host.may h) (g.H.Host.may mid) c.in-Ok.ensures.slots_stay saved.rule)
    (λ v w by. inr (rule_of g.T.Table.named g.T.Table.there g.T.Table.cell s m t v w stays.0 stays.1 c.commit.ensures.slots stays.2 by)))
    (c.write_checkpoint.ensures.told tells)

pub returns-in-Ok-clause-running : goal.returns-in-Ok-clause-running
returns-in-Ok-clause-running g c = λ plan runs. (c.write_checkpoint.ensures.runs plan (c.in-Ok.ensures.running plan runs)).running

pub returns-in-Ok-clause-keeps : goal.returns-in-Ok-clause-keeps
returns-in-Ok-clause-keeps g c = λ told keeps.
    let tells = subst (λ (x : Seen g.row.T.Denot). g.T.Table.tells x.table) (sym c.commit.ensures.stays.0) told in
    on_ok_weaker c.write_checkpoint.result (λ saved. saved.keeps (c.in-Ok.ensures.keeps keeps)) (c.write_checkpoint.ensures.told tells)

pub returns-in-Ok-clause-marked : goal.returns-in-Ok-clause-marked
returns-in-Ok-clause-marked g c = λ told.
    let tells = subst (λ (x : Seen g.row.T.Denot). g.T.Table.tells x.table) (sym c.commit.ensures.stays.0) told in
    on_ok_weaker c.write_checkpoint.result (λ saved. inr (saved.none_named, saved.none_there)) (c.write_checkpoint.ensures.told tells)

pub returns-in-Ok-clause-exact : goal.returns-in-Ok-clause-exact
returns-in-Ok-clause-exact g c = λ told keeps.
    on_ok_weaker c.write_checkpoint.result (λ rule. exact_of g.T.Table.named g.T.Table.there g.T.Table.cell (g.H.Host.now c.args.host.now) (g.H.Host.now c.write_checkpoint.new.host) (g.H.Host.may c.args.host.now) c.args.self.now c.write_checkpoint.new.self
    (g.met.H.Host.now_may c.args.host.now) keeps rule) (returns-in-Ok-clause-rule g c told)

pub returns-then-is_saved-clause-exact : goal.returns-then-is_saved-clause-exact
returns-then-is_saved-clause-exact g c = λ told keeps.
    let yes = c.if-is_saved.true in
    let kept = c.is_saved.ensures.kept yes in
    becomes-same (g.H.Host.now c.args.host.now) _ (λ v. inl (kept.0, kept.1, c.is_saved.ensures.count yes, c.is_saved.ensures.empty yes))

pub returns-in-Ok-clause-unmarked : goal.returns-in-Ok-clause-unmarked
returns-in-Ok-clause-unmarked g c = λ told.
    let e = c.commit.ensures.stays.0 in
    let t = c.write_checkpoint.new.self in
    let tells = subst (λ (x : Seen g.row.T.Denot). g.T.Table.tells x.table) (sym e) told in
    on_err_of c.write_checkpoint.result _ _ (λ fault left. subst (λ (x : Seen g.row.T.Denot). SameMarks (g.T.Table.named x.table) (g.T.Table.named t.engine.table) × SameMarks (g.T.Table.there x.table) (g.T.Table.there t.engine.table)) e (left.same_named tells, left.same_there tells))
    c.write_checkpoint.ensures.fault

pub returns-in-Err-clause-unmarked : goal.returns-in-Err-clause-unmarked
returns-in-Err-clause-unmarked g c = λ told.
    let e = ap (λ (x : Sitting g.row.T.Denot). x.engine) c.self-in-Err.view_is ∙ c.commit.ensures.stays.0 in
    (λ n key. ap (λ (x : Seen g.row.T.Denot). g.T.Table.named x.table n key) e, λ n key. ap (λ (x : Seen g.row.T.Denot). g.T.Table.there x.table n key) e)

pub returns-then-is_saved-clause-spared : goal.returns-then-is_saved-clause-spared
returns-then-is_saved-clause-spared g c = λ slot below apart. spared_still g.H.Host.now g.H.Host.may g.H.Host.clock g.H.Host.since g.H.Host.said g.met.H.Host.only_now g.met.H.Host.sinks slot c.args.host.now

pub returns-in-Ok-clause-spared : goal.returns-in-Ok-clause-spared
returns-in-Ok-clause-spared g c =
    on_ok_of c.write_checkpoint.result _ _ (λ count saved slot below apart. spared_then g.H.Host.now g.H.Host.may g.H.Host.clock g.H.Host.since slot c.args.host.now c.commit.new.host c.write_checkpoint.new.host below c.in-Ok.ensures.slots_stay
    (c.commit.ensures.spared slot below) (saved.spared slot below apart)) c.write_checkpoint.ensures.done

pub returns-then-self-clause-refused : goal.returns-then-self-clause-refused
returns-then-self-clause-refused g c =
    spares_both _ c.args.self.now.keep _ (λ slot below. spared_still g.H.Host.now g.H.Host.may g.H.Host.clock g.H.Host.since g.H.Host.said g.met.H.Host.only_now g.met.H.Host.sinks slot c.args.host.now)

pub returns-in-Err-clause-refused : goal.returns-in-Err-clause-refused
returns-in-Err-clause-refused g c = spares_both _ c.args.self.now.keep c.in-Err.fault c.commit.ensures.spared

pub returns-in-Ok-clause-refused : goal.returns-in-Ok-clause-refused
returns-in-Ok-clause-refused g c =
    let h = c.args.host.now in
    let mid = c.commit.new.host in
    let new = c.write_checkpoint.new.host in
    IfErr-weaker c.write_checkpoint.result _ _ (λ fault left.
    spares_then (λ slot. IsSpared g.H.Host.now g.H.Host.may g.H.Host.clock g.H.Host.since slot mid new) (λ slot. IsSpared g.H.Host.now g.H.Host.may g.H.Host.clock g.H.Host.since slot h new) c.commit.new.self.keep c.args.self.now.keep fault c.commit.ensures.stays.2
    (λ slot below second. spared_then g.H.Host.now g.H.Host.may g.H.Host.clock g.H.Host.since slot h mid new below c.in-Ok.ensures.slots_stay (c.commit.ensures.spared slot below) second) left.spares) c.write_checkpoint.ensures.fault

-- over a legal log

pub returns-then-self-clause-log_stays : goal.returns-then-self-clause-log_stays
returns-then-self-clause-log_stays g c = λ plan log. still_log g.H.Host.now g.H.Host.may g.H.Host.clock g.H.Host.since g.H.Host.said g.met.H.Host.only_now g.met.H.Host.sinks (store_of plan) (opened c.args.self.now.reservoir) c.args.host.now

pub returns-then-is_saved-clause-log_stays : goal.returns-then-is_saved-clause-log_stays
returns-then-is_saved-clause-log_stays g c = λ plan log. still_log g.H.Host.now g.H.Host.may g.H.Host.clock g.H.Host.since g.H.Host.said g.met.H.Host.only_now g.met.H.Host.sinks (store_of plan) (opened c.args.self.now.reservoir) c.args.host.now

pub returns-in-Err-clause-log_stays : goal.returns-in-Err-clause-log_stays
returns-in-Err-clause-log_stays g c = c.commit.ensures.log_stays

pub returns-in-Ok-clause-log_stays : goal.returns-in-Ok-clause-log_stays
returns-in-Ok-clause-log_stays g c = λ plan log. log_then g.H.Host.now g.H.Host.may g.H.Host.clock g.H.Host.since g.H.Host.said (store_of plan) (opened c.args.self.now.reservoir) c.args.host.now c.commit.new.host c.write_checkpoint.new.host (c.commit.ensures.log_stays plan log) (c.write_checkpoint.ensures.log_stays plan)
