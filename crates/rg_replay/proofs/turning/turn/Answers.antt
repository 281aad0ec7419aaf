use Rattle.std.proofs.Common.{⊎_elim, inl, inr, ℕ, List, [], ◌++◌, MatchOption, ap, sym, subst}
use Rattle.rg_host.specs.Lines.{ended}
use Rattle.rg_host.specs.Puts.{IsPrefix, Puts}
use Rattle.rg_host.proofs.Laws.{puts-then}
use Rattle.rg_reservoir.specs.Kept.{base}
use Rattle.rg_state.specs.contracts.mem_table.MemTableTable.TheImpl.{ghosts as rows}
use Rattle.rg_replay.specs.Going.{Came}
use Rattle.rg_replay.specs.Playing.{IsPlaying, IsReachedAt, IsWholeIn, AreAdded}
use Rattle.rg_replay.specs.Replay.{line_at}
use Rattle.rg_replay.proofs.Quiet.{puts_nothing, leaves_of, leaves_store-then, caused_later, caused_put}
use Rattle.rg_replay.proofs.Reading.{reached_still}
use Rattle.rg_replay.proofs.Starting.{playing_still}
use Rattle.rg_replay.proofs.Played.{line_told, small_count, below_count}
use Rattle.rg_replay.proofs.Progress.{added_behind}
use Rattle.rg_replay.proofs.turning.turn.Goals as goal

pub returns-clause-turned : goal.returns-clause-turned
returns-clause-turned g c = λ queries events held gathered is.
    let step = c.in-Ok-Some.ensures in
    let told = c.in-Ok-Some.told in
    let came = subst (λ found. Came queries events c.args.spot.now.number found (IsPlaying queries events (g.H.Host.now c.step_stored.new.host) (g.H.Host.may c.step_stored.new.host) (rows.tells c.step_stored.new.engine.table) (rows.cell c.step_stored.new.engine.table) c.step_stored.new.reservoir c.step_stored.new.engine c.step_stored.new.spot)) c.in-Ok-Some.field-0-is (step.came queries events is) in
    let quiet = puts_nothing g.H.Host.now g.H.Host.may g.H.Host.clock g.H.Host.since g.H.Host.said _ _ c.step_stored.ensures.quiet.leaves in
    let line = line_told queries c.args.first events c.args.spot.now.number told came.0 in
    let added = subst (λ (l : List (List ℕ)). AreAdded (held ++ l) (Puts g.H.Host.said g.H.Host.clock g.H.Host.since c.step_stored.new.host c.put_reply.new.host) c.put_reply.new.text.items) line (c.in-Ok.ensures.puts held gathered) in
    let leaves = c.put_reply.ensures.leaves.leaves in
    record {
      more = λ yes. (
        added_behind (held ++ line_at queries c.args.first events c.args.spot.now.number) (Puts g.H.Host.said g.H.Host.clock g.H.Host.since c.step_stored.new.host c.put_reply.new.host) (Puts g.H.Host.said g.H.Host.clock g.H.Host.since c.args.host.now c.put_reply.new.host) c.put_reply.new.text.items
            (λ x put. puts-then g.H.Host.said g.H.Host.clock g.H.Host.since _ _ _ [] x quiet put) added,
        subst (λ e. IsPlaying queries events (g.H.Host.now c.put_reply.new.host) (g.H.Host.may c.put_reply.new.host) (rows.tells e.table) (rows.cell e.table) c.step_stored.new.reservoir e c.step_stored.new.spot) (sym c.give_back.ensures)
            (playing_still queries events _ _ _ _ _ _ c.step_stored.new.reservoir c.step_stored.new.engine c.step_stored.new.spot leaves.now_stays leaves.may_stays came.1),
      );
      last = λ no. absurd cc;
      stopped = tt;
    }

pub returns-in-Ok-None-clause-turned : goal.returns-in-Ok-None-clause-turned
returns-in-Ok-None-clause-turned g c = λ queries events held gathered is.
    let came = subst (λ found. Came queries events c.args.spot.now.number found (IsPlaying queries events (g.H.Host.now c.step_stored.new.host) (g.H.Host.may c.step_stored.new.host) (rows.tells c.step_stored.new.engine.table) (rows.cell c.step_stored.new.engine.table) c.step_stored.new.reservoir c.step_stored.new.engine c.step_stored.new.spot)) c.in-Ok-None.field-0-is (c.in-Ok-None.ensures.came queries events is) in
    record {
      more = λ yes. absurd cc;
      last = λ no. (came.0, puts_nothing g.H.Host.now g.H.Host.may g.H.Host.clock g.H.Host.since g.H.Host.said _ _ c.step_stored.ensures.quiet.leaves, gathered, came.1);
      stopped = tt;
    }

pub returns-in-Err-clause-turned : goal.returns-in-Err-clause-turned
returns-in-Err-clause-turned g c = λ queries events held gathered is. record {
  more = tt;
  last = tt;
  stopped = inl (c.in-Err.ensures.came queries events is, puts_nothing g.H.Host.now g.H.Host.may g.H.Host.clock g.H.Host.since g.H.Host.said _ _ c.step_stored.ensures.quiet.leaves);
}

pub returns-in-Err-put_reply-clause-turned : goal.returns-in-Err-put_reply-clause-turned
returns-in-Err-put_reply-clause-turned g c = λ queries events held gathered is.
    let step = c.in-Ok-Some.ensures in
    let told = c.in-Ok-Some.told in
    let came = subst (λ found. Came queries events c.args.spot.now.number found (IsPlaying queries events (g.H.Host.now c.step_stored.new.host) (g.H.Host.may c.step_stored.new.host) (rows.tells c.step_stored.new.engine.table) (rows.cell c.step_stored.new.engine.table) c.step_stored.new.reservoir c.step_stored.new.engine c.step_stored.new.spot)) c.in-Ok-Some.field-0-is (step.came queries events is) in
    let quiet = puts_nothing g.H.Host.now g.H.Host.may g.H.Host.clock g.H.Host.since g.H.Host.said _ _ c.step_stored.ensures.quiet.leaves in
    let line = ap (λ (l : List (List ℕ)). ended (held ++ l)) (line_told queries c.args.first events c.args.spot.now.number told came.0) in
    record {
      more = tt;
      last = tt;
      stopped = ⊎_elim
          (λ memory. inl (inr memory.0, puts-then g.H.Host.said g.H.Host.clock g.H.Host.since _ _ _ [] [] quiet memory.1))
          (λ write. inr (write.0, below_count queries events c.args.spot.now.number told came.0, (write.1.0, subst (λ (l : List ℕ). IsPrefix write.1.0 l) line write.1.1, puts-then g.H.Host.said g.H.Host.clock g.H.Host.since _ _ _ [] write.1.0 quiet write.1.2)))
          (c.in-Err-put_reply.ensures.puts held gathered);
    }

pub returns-clause-one : goal.returns-clause-one
returns-clause-one g c = λ yes.
    let one = rw c.in-Ok-Some.field-0-is at c.in-Ok-Some.ensures.one in
    (one, small_count c.step_stored.new.reservoir c.step_stored.new.engine c.step_stored.new.spot c.in-Ok-Some.ensures.placed)

pub returns-in-Err-put_reply-clause-cause : goal.returns-in-Err-put_reply-clause-cause
returns-in-Err-put_reply-clause-cause g c =
    let quiet = c.step_stored.ensures.quiet in
    caused_later g.H.Host.now g.H.Host.may g.H.Host.clock g.H.Host.since g.H.Host.disk_faults g.H.Host.out_faults _ (base c.step_stored.new.reservoir) c.in-Err-put_reply.fault _ _ _ quiet.base
    (leaves_of g.H.Host.now g.H.Host.may g.H.Host.clock g.H.Host.since g.H.Host.said g.H.Host.disk_faults g.H.Host.out_faults _ _ _ _ quiet)
    (caused_put g.H.Host.now g.H.Host.may g.H.Host.clock g.H.Host.since g.H.Host.disk_faults g.H.Host.out_faults _ c.in-Err-put_reply.fault _ _ c.in-Err-put_reply.ensures.write)

pub returns-clause-log : goal.returns-clause-log
returns-clause-log g c = record {
  base = c.step_stored.ensures.quiet.base;
  store = leaves_store-then g.H.Host.now g.H.Host.may g.H.Host.clock g.H.Host.since g.H.Host.disk_faults g.H.Host.out_faults _ _ _
      (leaves_of g.H.Host.now g.H.Host.may g.H.Host.clock g.H.Host.since g.H.Host.said g.H.Host.disk_faults g.H.Host.out_faults _ _ _ _ c.step_stored.ensures.quiet) c.put_reply.ensures.leaves;
}

pub returns-in-Err-put_reply-clause-log : goal.returns-in-Err-put_reply-clause-log
returns-in-Err-put_reply-clause-log g c = record {
  base = c.step_stored.ensures.quiet.base;
  store = leaves_store-then g.H.Host.now g.H.Host.may g.H.Host.clock g.H.Host.since g.H.Host.disk_faults g.H.Host.out_faults _ _ _
      (leaves_of g.H.Host.now g.H.Host.may g.H.Host.clock g.H.Host.since g.H.Host.said g.H.Host.disk_faults g.H.Host.out_faults _ _ _ _ c.step_stored.ensures.quiet) c.put_reply.ensures.leaves;
}

pub returns-in-Ok-None-clause-log : goal.returns-in-Ok-None-clause-log
returns-in-Ok-None-clause-log g c = record {
  base = c.step_stored.ensures.quiet.base;
  store = leaves_of g.H.Host.now g.H.Host.may g.H.Host.clock g.H.Host.since g.H.Host.said g.H.Host.disk_faults g.H.Host.out_faults _ _ _ _ c.step_stored.ensures.quiet;
}

pub returns-in-Err-clause-log : goal.returns-in-Err-clause-log
returns-in-Err-clause-log g c = record {
  base = c.step_stored.ensures.quiet.base;
  store = leaves_of g.H.Host.now g.H.Host.may g.H.Host.clock g.H.Host.since g.H.Host.said g.H.Host.disk_faults g.H.Host.out_faults _ _ _ _ c.step_stored.ensures.quiet;
}

pub returns-clause-reads : goal.returns-clause-reads
returns-clause-reads g c = λ at. (
  λ no. absurd cc,
  λ yes.
      let read = subst (λ found. MatchOption found (IsWholeIn g.H.Host.now (base c.args.reservoir.now) c.args.host.now) (λ _. IsReachedAt g.H.Host.now c.step_stored.new.reservoir c.step_stored.new.host c.step_stored.new.spot)) c.in-Ok-Some.field-0-is (c.in-Ok-Some.ensures.reads at) in
      record { is = reached_still (g.H.Host.now c.step_stored.new.host) (g.H.Host.now c.put_reply.new.host) c.step_stored.new.reservoir c.step_stored.new.spot c.put_reply.ensures.leaves.leaves.now_stays read.is },
)

pub returns-in-Ok-None-clause-reads : goal.returns-in-Ok-None-clause-reads
returns-in-Ok-None-clause-reads g c = λ at. (
  λ no. subst (λ found. MatchOption found (IsWholeIn g.H.Host.now (base c.args.reservoir.now) c.args.host.now) (λ _. IsReachedAt g.H.Host.now c.step_stored.new.reservoir c.step_stored.new.host c.step_stored.new.spot)) c.in-Ok-None.field-0-is (c.in-Ok-None.ensures.reads at),
  λ yes. absurd cc,
)
