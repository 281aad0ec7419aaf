use Rattle.rg_agg.specs.declared.fault.StateFault.TheVariants.{Memory}
use Rattle.rg_bytes.proofs.Laws.{returns_it}
use Rattle.rg_state.proofs.ReadBack.{state_read_back}
use Rattle.rg_state.specs.States.{held_of, state_at}
use Rattle.rg_state.proofs.state.AggState.decode.Goals as goal

pub returns-clause-reads_back : goal.returns-clause-reads_back
returns-clause-reads_back c state rest some stood =
    returns_it Memory held_of (state_at c.args.from.now) c.read_state.result c.read_state.new.from (held_of state) rest c.read_state.ensures.agrees (rw stood (state_read_back state rest some))
