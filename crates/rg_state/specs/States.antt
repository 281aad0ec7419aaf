-- What a state of one of the aggregators keeps, and the bytes of one.
use Rattle.std.specs.Prelude.{◌≡◌, ℕ, ◌<◌, ◌==◌, List, [], ◌∷◌, ◌++◌, Option, Some, None, Result, Err, IfOk, OnErr, ⊤, if◌then◌else◌}
use Rattle.std.specs.List.{All}
use Rattle.rg_event.specs.Tagged.{value_kind}
use Rattle.rg_event.specs.declared.value.Kind.{Kind}
use Rattle.rg_event.specs.declared.value.Kind.TheVariants.{Int}
use Rattle.rg_event.specs.declared.value.Value.{Value}
use Rattle.rg_keywords.specs.declared.func.Func.{Func}
use Rattle.rg_agg.specs.declared.fault.StateFault.{StateFault}
use Rattle.rg_agg.specs.declared.fault.StateFault.TheVariants.{Short, Unfit}
use Rattle.rg_agg.specs.Held.{Held, counted, summed, averaged, squared, queued, ended, lowest, highest, varied, ranked, Begins, Agrees, held_bytes, counted_at, summed_at, averaged_at, squared_at, queued_at, ended_at}
use Rattle.rg_extreme.specs.Extremes.{lowest_at, highest_at}
use Rattle.rg_distinct.specs.Varied.{varied_at}
use Rattle.rg_rank.specs.Ranks.{ranked_at}
use Rattle.rg_agg.specs.Sharing.{kept_as}
use Rattle.rg_agg.specs.Standing.{func_of, size_in}
use Rattle.rg_agg.specs.contracts.count.CountAggregate.TheImpl.{ghosts as count_ghosts}
use Rattle.rg_agg.specs.contracts.sum.SumAggregate.TheImpl.{ghosts as sum_ghosts}
use Rattle.rg_agg.specs.contracts.avg.AvgAggregate.TheImpl.{ghosts as avg_ghosts}
use Rattle.rg_agg.specs.contracts.sum_sq.SumSqAggregate.TheImpl.{ghosts as sum_sq_ghosts}
use Rattle.rg_extreme.specs.contracts.min.MinAggregate.TheImpl.{ghosts as min_ghosts}
use Rattle.rg_extreme.specs.contracts.max.MaxAggregate.TheImpl.{ghosts as max_ghosts}
use Rattle.rg_distinct.specs.contracts.distinct.DistinctAggregate.TheImpl.{ghosts as distinct_ghosts}
use Rattle.rg_rank.specs.contracts.rank.RankAggregate.TheImpl.{ghosts as rank_ghosts}
use Rattle.rg_agg.specs.contracts.first.FirstAggregate.TheImpl.{ghosts as first_ghosts}
use Rattle.rg_agg.specs.contracts.last.LastAggregate.TheImpl.{ghosts as last_ghosts}
use Rattle.rg_state.specs.declared.state.AggState.{AggState}
use Rattle.rg_state.specs.declared.state.AggState.TheVariants.{Count, Sum, Avg, SumSq, Min, Max, Distinct, Rank, First, Last}

-- what its aggregator says that it keeps
abbrev pub held_of : AggState → Held
held_of (Count state) = count_ghosts.held state
held_of (Sum state) = sum_ghosts.held state
held_of (Avg state) = avg_ghosts.held state
held_of (SumSq state) = sum_sq_ghosts.held state
held_of (Min state) = min_ghosts.held state.value
held_of (Max state) = max_ghosts.held state.value
held_of (Distinct state) = distinct_ghosts.held state.value
held_of (Rank state) = rank_ghosts.held state.value
held_of (First state) = first_ghosts.held state.value
held_of (Last state) = last_ghosts.held state.value

-- a state of one of the aggregators keeps this
abbrev pub IsHeld : Held → Type 0
IsHeld held = (state : AggState) × (held_of state ≡ held)

-- the state of the aggregator that has this tag, of those that keep values
abbrev pub values_tagged_at : ℕ → List ℕ → Begins Held
values_tagged_at tag bytes =
    if tag == 7 then varied_at bytes
    else if tag == 8 then queued_at bytes
    else if tag == 9 then ended_at bytes
    else if tag == 21 then lowest_at bytes
    else if tag == 22 then highest_at bytes
    else if tag == 23 then ranked_at bytes
    else Err Unfit

-- the state that stands behind a tag, of all aggregators: those not named above keep a number of values, and a sum
abbrev pub state_tagged_at : ℕ → List ℕ → Begins Held
state_tagged_at tag bytes =
    if tag == 1 then counted_at bytes
    else if tag == 2 then summed_at bytes
    else if tag == 3 then averaged_at bytes
    else if tag == 4 then squared_at bytes
    else values_tagged_at tag bytes

-- the state that some bytes begin with: the first of them is its aggregator's tag
abbrev pub state_at : List ℕ → Begins Held
state_at [] = Err Short
state_at (tag ∷ bytes) = state_tagged_at tag (tag ∷ bytes)

-- A state was read by this reading: it stands for some values and is written so, and a refusal leaves the bytes as they were.
pub record IsRead (reading : Begins Held) (old : List ℕ) (result : Result AggState StateFault) (new : List ℕ) : Type 0 where
  pub agrees : Agrees held_of reading result new
  pub ok : IfOk result (λ state. old ≡ held_bytes (held_of state) ++ new)
  pub some : IfOk result (λ state. 0 < size_in (held_of state))
  pub err : OnErr result (new ≡ old)

-- the value is of this kind
abbrev pub HasKind : Option Kind → Value → Type 0
HasKind kind value = Some (value_kind value) ≡ kind

-- each value that a state holds is of this kind: a count holds none, and a sum is of ints
abbrev pub IsOfKind : Option Kind → Held → Type 0
IsOfKind kind (counted n) = ⊤
IsOfKind kind (summed n sum) = kind ≡ Some Int
IsOfKind kind (averaged n sum) = kind ≡ Some Int
IsOfKind kind (squared n sum) = kind ≡ Some Int
IsOfKind kind (queued values) = All (HasKind kind) values
IsOfKind kind (ended n None) = ⊤
IsOfKind kind (ended n (Some value)) = HasKind kind value
IsOfKind kind (lowest n pairs) = All (λ pair. HasKind kind pair.0) pairs
IsOfKind kind (highest n pairs) = All (λ pair. HasKind kind pair.0) pairs
IsOfKind kind (varied pairs) = All (λ pair. HasKind kind pair.0) pairs
IsOfKind kind (ranked pairs) = All (λ pair. HasKind kind pair.0) pairs

-- a state that serves the function, of values of this kind
abbrev pub IsFor : Func → Option Kind → Held → Type 0
IsFor func kind held = (func_of held ≡ kept_as func) × IsOfKind kind held
