-- What is read of the state of an extreme.
use Rattle.std.proofs.Common.{◌≡◌, ℕ, ◌+◌, ◌<◌, ◌≤◌, ◌^◌, Bool, true, List, [], ◌∷◌, ◌++◌, length, Ok, Err, ◌⊎◌, inl, inr, refl, ap, sym, ◌∙◌, arith, append_assoc}
use Rattle.std.specs.Prelude.{Result, IfOk, OnErr, OnOk}
use Rattle.std.proofs.lemmas.Bool.{and_from, le-leb}
use Rattle.std.specs.Int.{w64, to_be_bytes}
use Rattle.rg_agg.specs.Held.{Agrees, extreme_bytes, held_bytes, highest, lowest, is_like, number_value_at, pairs_bytes, size_behind_at}
use Rattle.rg_bytes.specs.Reading.{and_then}
use Rattle.rg_agg.specs.Numbers.{value_of}
use Rattle.rg_agg.specs.Standing.{counts_sum}
use Rattle.rg_agg.specs.Stands.{IsNumber}
use Rattle.rg_agg.specs.declared.fault.StateFault.{StateFault}
use Rattle.rg_agg.specs.declared.fault.StateFault.TheVariants.{Memory}
use Rattle.rg_agg.specs.declared.number.Number.{Number}
use Rattle.rg_agg.specs.declared.number.Number.TheVariants.{Int, Id}
use Rattle.rg_agg.proofs.Laws.{number_value_reads_back, size_behind_read}
use Rattle.rg_bytes.specs.declared.memory.Memory.{Memory as OutOfMemory}
use Rattle.rg_event.specs.Tagged.{value_kind}
use Rattle.rg_event.specs.declared.value.Value.{Value}
use Rattle.rg_multiset.specs.Pairs.{IsTally}
use Rattle.rg_multiset.specs.Reading.{comes_behind, is_count, last_kept, length_at, more_pairs_at, same_kind}
use Rattle.rg_multiset.proofs.Laws.{alike_pushed, sum_append, length_most, length_read, more_back}
use Rattle.rg_extreme.specs.Deques.{IsDeque}
use Rattle.rg_extreme.specs.Extremes.{extreme_at, highest_at, lowest_at}
use Rattle.rg_extreme.specs.Sides.{beats}
use Rattle.rg_extreme.specs.States.{kept_by, pairs_in}
use Rattle.rg_extreme.specs.declared.deque.Deque.{Deque}
use Rattle.rg_extreme.specs.declared.side.Side.{Side}
use Rattle.rg_extreme.specs.declared.side.Side.TheVariants.{Least, Greatest}
use Rattle.rg_agg.specs.Unbeaten.{is_less, is_greater}
use Rattle.rg_extreme.proofs.Rows.{pushed_rising}

pub like_tags : (a b : Number) → is_like (value_of a) (value_of b) ≡ same_kind (value_of a) (value_of b)
like_tags (Int a) (Int b) = refl
like_tags (Int a) (Id b) = refl
like_tags (Id a) (Int b) = refl
like_tags (Id a) (Id b) = refl

pub size_stops : (beats : Value → Value → Bool) (tag : ℕ) (old : List ℕ) (fault : StateFault) → (size_behind_at tag old ≡ Err fault) ⊎ (fault ≡ Memory) → (extreme_at beats tag old ≡ Err fault) ⊎ (fault ≡ Memory)
unfolding extreme_at
size_stops beats tag old fault (inl is) = inl (rw is refl)
size_stops beats tag old fault (inr memory) = inr memory

pub length_stops : (beats : Value → Value → Bool) (tag : ℕ) (old : List ℕ) (n : ℕ) (behind : List ℕ) (fault : StateFault) → size_behind_at tag old ≡ Ok (n, behind) → (length_at behind ≡ Err fault) ⊎ (fault ≡ Memory) → (extreme_at beats tag old ≡ Err fault) ⊎ (fault ≡ Memory)
unfolding extreme_at
length_stops beats tag old n behind fault first (inl is) = inl (rw (first, is) refl)
length_stops beats tag old n behind fault first (inr memory) = inr memory

pairs_read : (beats : Value → Value → Bool) (tag : ℕ) (old : List ℕ) (n : ℕ) (behind : List ℕ) (count : ℕ) (left : List ℕ) (pairs : List (Value × ℕ)) (rest : List ℕ) → size_behind_at tag old ≡ Ok (n, behind) → length_at behind ≡ Ok (count, left) → more_pairs_at number_value_at beats n [] count left ≡ Ok (pairs, rest) → extreme_at beats tag old ≡ Ok ((n, pairs), rest)
unfolding extreme_at
pairs_read beats tag old n behind count left pairs rest first second third = rw (first, second, third) refl

pairs_stop : (beats : Value → Value → Bool) (tag : ℕ) (old : List ℕ) (n : ℕ) (behind : List ℕ) (count : ℕ) (left : List ℕ) (fault : StateFault) → size_behind_at tag old ≡ Ok (n, behind) → length_at behind ≡ Ok (count, left) → more_pairs_at number_value_at beats n [] count left ≡ Err fault → extreme_at beats tag old ≡ Err fault
unfolding extreme_at
pairs_stop beats tag old n behind count left fault first second third = rw (first, second, third) refl

pub pairs_agree : (beats : Value → Value → Bool) (tag : ℕ) (old : List ℕ) (n : ℕ) (behind : List ℕ) (count : ℕ) (left rest : List ℕ) (result : Result Deque StateFault) → size_behind_at tag old ≡ Ok (n, behind) → length_at behind ≡ Ok (count, left) → IfOk result (λ deque. deque.size ≡ n) → Agrees pairs_in (more_pairs_at number_value_at beats n [] count left) result rest
    → Agrees kept_by (extreme_at beats tag old) result rest
pairs_agree beats tag old n behind count left rest (Ok deque) first second size third =
    pairs_read beats tag old n behind count left (pairs_in deque) rest first second third ∙ ap (λ (m : ℕ). Ok ((m, pairs_in deque), rest)) (sym size)
pairs_agree beats tag old n behind count left rest (Err fault) first second size (inl third) = inl (pairs_stop beats tag old n behind count left fault first second third)
pairs_agree beats tag old n behind count left rest (Err fault) first second size (inr memory) = inr memory

-- what is written is read back
pub extreme_back : (side : Side) (tag n kept : ℕ) (pairs : List (Value × ℕ)) (rest : List ℕ) → IsDeque (beats side) n kept pairs → 0 < n → extreme_at (beats side) tag (extreme_bytes tag n pairs ++ rest) ≡ Ok ((n, pairs), rest)
extreme_back side tag n kept [] rest sound some = absurd (omega (arith, sound.some some))
extreme_back side tag n kept (pair ∷ pairs) rest sound some =
    let all = pair ∷ pairs in
    let left : List ℕ = pairs_bytes all ++ rest in
    let behind : List ℕ = to_be_bytes w64 (length all) ++ left in
    let stood : extreme_bytes tag n all ++ rest ≡ tag ∷ (to_be_bytes w64 n ++ behind) =
    ap (λ (bytes : List ℕ). tag ∷ bytes) (append_assoc (to_be_bytes w64 n) (to_be_bytes w64 (length all) ++ pairs_bytes all) rest ∙ ap (λ bytes. to_be_bytes w64 n ++ bytes) (append_assoc (to_be_bytes w64 (length all)) (pairs_bytes all) rest)) in
    let few = length_most IsNumber all sound.tally.alike in
    pairs_read (beats side) tag _ n behind (length all) left all rest
    (size_behind_read tag _ n behind stood some sound.few)
    (length_read behind (length all) left refl (omega (arith, few, sound.tally.few)) (omega arith))
    (more_back n (omega (arith, sound.few)) IsNumber number_value_at (beats side) (value_kind pair.0) number_value_reads_back [] all rest (sound.tally.alike (value_kind pair.0) refl) sound.tally.rising refl (omega (arith, sound.most, sound.sum)))

pub lowest_back : (n kept : ℕ) (pairs : List (Value × ℕ)) (rest : List ℕ) → IsDeque is_less n kept pairs → 0 < n → lowest_at (held_bytes (lowest n pairs) ++ rest) ≡ Ok (lowest n pairs, rest)
lowest_back n kept pairs rest sound some = ap (λ read. and_then read (λ found left. Ok (lowest found.0 found.1, left))) (extreme_back Least 21 n kept pairs rest sound some)

pub highest_back : (n kept : ℕ) (pairs : List (Value × ℕ)) (rest : List ℕ) → IsDeque is_greater n kept pairs → 0 < n → highest_at (held_bytes (highest n pairs) ++ rest) ≡ Ok (highest n pairs, rest)
highest_back n kept pairs rest sound some = ap (λ read. and_then read (λ found left. Ok (highest found.0 found.1, left))) (extreme_back Greatest 22 n kept pairs rest sound some)

-- of a value that was read more is known
pub if_ok_then : {A E : Type 0} {P Q : A → Type 0} (result : Result A E) → ((x : A) → P x → Q x) → IfOk result P → IfOk result Q
if_ok_then (Ok x) then is = then x is
if_ok_then (Err e) then is = tt

-- what is kept stays within the number of values
pub kept_within : (old new most most' n : ℕ) (result : Result (Unit {0}) OutOfMemory) → old ≤ most → old + n ≤ most → most' ≡ most → OnOk result (new ≡ old + n) → OnErr result (new ≡ old) → new ≤ most'
kept_within old new most most' n (Ok x) before after same ok err = omega (arith, after, same, ok)
kept_within old new most most' n (Err e) before after same ok err = omega (arith, before, same, err)
