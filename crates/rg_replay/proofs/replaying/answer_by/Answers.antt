use Rattle.std.proofs.Common.{inl, inr, refl, subst}
use Rattle.rg_host.proofs.Laws.{puts-nothing}
use Rattle.rg_past.specs.declared.past.Spot.{Spot}
use Rattle.rg_reservoir.specs.Kept.{base, opened, next_of, time_of, cache_of, Spells}
use Rattle.rg_reservoir.proofs.Laws.{started}
use Rattle.rg_state.specs.contracts.mem_table.MemTableTable.TheImpl.{ghosts as rows}
use Rattle.rg_replay.specs.Playing.{HasBegun, start_of}
use Rattle.rg_replay.proofs.Progress.{none_put}
use Rattle.rg_replay.proofs.Quiet.{leaves_store-none, caused_put}
use Rattle.rg_replay.proofs.Starting.{placed_at_start, playing_at_start}
use Rattle.rg_replay.proofs.replaying.answer_by.Goals as goal

pub answer_all-answered-requires : goal.answer_all-answered-requires
answer_all-answered-requires g c =
    let r = c.args.reservoir.now in
    let e = c.in-Ok.engine in
    record { none = c.requires.none; placed = placed_at_start r c.args.plan (rows.tells e.table) (rows.cell e.table) e c.requires.runs (subst (λ (s : Spot). HasBegun c.args.plan s (rows.tells e.table) (rows.cell e.table) e) c.start.ensures c.in-Ok.ensures.begun) }

pub returns-clause-answered : goal.returns-clause-answered
returns-clause-answered g c = λ queries events for.
    let r = c.args.reservoir.now in
    let e = c.in-Ok.engine in
    let h = c.args.host.now in
    let sound = for.read.sound in
    let begun = subst (λ (s : Spot). HasBegun c.args.plan s (rows.tells e.table) (rows.cell e.table) e) c.start.ensures c.in-Ok.ensures.begun in
    let spelled : Spells (g.H.Host.now h) (base r) (opened r) (start_of (base r)) = started (g.H.Host.now h) sound.0 (g.H.Host.may h) (base r) (opened r) (next_of r) (time_of r) (cache_of r) (start_of (base r)) sound.1 (sound.2.right c.requires.runs) refl refl refl in
    c.answer_all-answered.ensures.answered queries events (playing_at_start queries events c.args.plan (g.H.Host.now h) (g.H.Host.may h) r (rows.tells e.table) (rows.cell e.table) e for spelled begun)

pub returns-in-Err-clause-answered : goal.returns-in-Err-clause-answered
returns-in-Err-clause-answered g c = λ queries events for.
    (inr (inl c.in-Err.ensures.memory), none_put _ _ c.in-Err.fault (puts-nothing g.H.Host.said g.H.Host.clock g.H.Host.since _ (λ t u m. g.met.H.Host.sinks _ t u m) (λ m. g.met.H.Host.only_now _ m)))

pub returns-in-Err-clause-cause : goal.returns-in-Err-clause-cause
returns-in-Err-clause-cause g c = caused_put g.H.Host.now g.H.Host.may g.H.Host.clock g.H.Host.since g.H.Host.disk_faults g.H.Host.out_faults _ c.in-Err.fault _ _ (inl c.in-Err.ensures.memory)

pub returns-in-Err-clause-leaves : goal.returns-in-Err-clause-leaves
returns-in-Err-clause-leaves g c = leaves_store-none g.H.Host.now g.H.Host.may g.H.Host.clock g.H.Host.since g.H.Host.disk_faults g.H.Host.out_faults _ (λ t u m. g.met.H.Host.sinks _ t u m) (λ m now. (g.met.H.Host.only_now _ m now).0)
