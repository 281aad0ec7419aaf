use Rattle.std.proofs.Common.{◌≡◌, ◌-◌, ◌+◌, ◌^◌, List}
use Rattle.rg_event.specs.declared.event.Event.{Event}
use Rattle.rg_host.specs.Puts.{Puts}
use Rattle.rg_metric.specs.Queries.{Asked}
use Rattle.rg_reservoir.specs.Kept.{base}
use Rattle.rg_state.specs.contracts.mem_table.MemTableTable.TheImpl.{ghosts as rows}
use Rattle.rg_replay.specs.Playing.{IsPlaced, IsPlaying, IsReachedAt, LeavesStore, start_of}
use Rattle.rg_replay.proofs.Progress.{Progress}
use Rattle.rg_replay.proofs.replaying.answer_all.Given as goal

abbrev pub invariant-payments : goal.invariant-payments
invariant-payments g l = record {
  placed : IsPlaced l.reservoir l.engine l.spot;
  same : base l.reservoir ≡ base l.fn.reservoir;
  store : LeavesStore g.H.Host.now g.H.Host.may g.H.Host.clock g.H.Host.since g.H.Host.disk_faults g.H.Host.out_faults l.fn.host l.host;
  reached : IsReachedAt g.H.Host.now l.fn.reservoir l.fn.host (start_of (base l.fn.reservoir)) → IsReachedAt g.H.Host.now l.reservoir l.host l.spot;
  goes : (queries : List Asked) (events : List Event) → IsPlaying queries events (g.H.Host.now l.fn.host) (g.H.Host.may l.fn.host) (rows.tells l.fn.engine.table) (rows.cell l.fn.engine.table) l.fn.reservoir l.fn.engine (start_of (base l.fn.reservoir))
      → Progress queries l.fn.first events l.spot.number (Puts g.H.Host.said g.H.Host.clock g.H.Host.since l.fn.host l.host) l.text.items (IsPlaying queries events (g.H.Host.now l.host) (g.H.Host.may l.host) (rows.tells l.engine.table) (rows.cell l.engine.table) l.reservoir l.engine l.spot);
}

abbrev pub decreases-payments : goal.decreases-payments
decreases-payments g l = 2 ^ 40 + 1 - l.spot.number
