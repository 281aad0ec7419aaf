-- Written states are read back.
use Rattle.std.proofs.Common.{ap, ◌≡◌, ◌<◌, List, ℕ, ◌++◌, Ok, refl, arith}
use Rattle.std.proofs.lemmas.List.{length-map}
use Rattle.rg_agg.specs.Held.{held_bytes}
use Rattle.rg_agg.specs.Numbers.{value_of}
use Rattle.rg_agg.specs.Standing.{size_in}
use Rattle.rg_agg.proofs.Laws.{counted_reads_back, summed_reads_back, averaged_reads_back, squared_reads_back, end_reads_back, number_value_reads_back, queued_reads_back}
use Rattle.rg_agg.specs.Held.{number_value_at, ranked, varied}
use Rattle.rg_agg.specs.Stands.{IsNumber}
use Rattle.rg_agg.specs.Unbeaten.{is_less}
use Rattle.rg_bytes.specs.Reading.{and_then}
use Rattle.rg_event.specs.Tagged.{IsLegal}
use Rattle.rg_multiset.specs.Reading.{any_value_at, is_before}
use Rattle.rg_multiset.specs.ValueLaws.{value_reads_back}
use Rattle.rg_multiset.proofs.Laws.{tally_back}
use Rattle.rg_extreme.specs.States.{pairs_in}
use Rattle.rg_rank.specs.Shapes.{listed}
use Rattle.rg_extreme.proofs.Laws.{highest_back, lowest_back}
use Rattle.rg_state.specs.States.{held_of, state_at}
use Rattle.rg_state.specs.declared.state.AggState.{AggState}
use Rattle.rg_state.specs.declared.state.AggState.TheVariants.{Count, Sum, Avg, SumSq, Min, Max, Distinct, Rank, First, Last}

pub state_read_back : (state : AggState) (rest : List ℕ) → 0 < size_in (held_of state) → state_at (held_bytes (held_of state) ++ rest) ≡ Ok (held_of state, rest)
state_read_back (Count state) rest some = counted_reads_back state.count rest some state.few
state_read_back (Sum state) rest some = summed_reads_back state.total.count state.total.sum rest some state.total.few state.total.bound
state_read_back (Avg state) rest some = averaged_reads_back state.total.count state.total.sum rest some state.total.few state.total.bound
state_read_back (SumSq state) rest some = squared_reads_back state.count state.sum rest some state.few state.bound
state_read_back (Min state) rest some = lowest_back state.value.deque.size state.value.deque.kept (pairs_in state.value.deque) rest state.value.sound some
state_read_back (Max state) rest some = highest_back state.value.deque.size state.value.deque.kept (pairs_in state.value.deque) rest state.value.sound some
state_read_back (Distinct state) rest some = ap (λ read. and_then read (λ pairs left. Ok (varied pairs, left))) (tally_back IsLegal any_value_at is_before value_reads_back 7 state.value.tally rest state.value.sound some)
state_read_back (Rank state) rest some = ap (λ read. and_then read (λ pairs left. Ok (ranked pairs, left))) (tally_back IsNumber number_value_at is_less number_value_reads_back 23 (listed state.value.tree) rest state.value.sound some)
state_read_back (First state) rest some = queued_reads_back state.value.numbers.items rest (omega (arith, some, length-map state.value.numbers.items value_of)) state.value.few state.value.alike
state_read_back (Last state) rest some = end_reads_back state.value.count state.value.last _ rest some state.value.few state.value.kept refl
