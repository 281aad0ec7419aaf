-- Values in a row, with one more at the back, and as they are read.
use Rattle.std.proofs.Common.{◌≡◌, ℕ, suc, ◌+◌, ◌-◌, ◌<◌, ◌≤◌, ◌^◌, ◌&&◌, true, false, Bool, if◌then◌else◌, map, List, [], ◌∷◌, ◌++◌, length, Ok, Err, inl, inr, ◌⊎◌, refl, ap, sym, ◌∙◌, arith, length-append, append_assoc, append-nil}
use Rattle.std.proofs.lemmas.Bool.{and_parts, and_from}
use Rattle.std.proofs.lemmas.List.{length-map}
use Rattle.std.specs.Int.{w64, to_be_bytes}
use Rattle.rg_agg.specs.Held.{queued, held_bytes, tagged_list, is_like, is_like_first, number_value_at, next_at, queued_at, size_behind_at}
use Rattle.rg_agg.specs.Numbers.{value_of}
use Rattle.rg_agg.specs.Stands.{IsNumber, is_int_or_id, all_like, are_alike}
use Rattle.rg_agg.specs.Standing.{IsLike, first_kind}
use Rattle.rg_agg.specs.declared.fault.StateFault.{StateFault}
use Rattle.rg_agg.specs.declared.fault.StateFault.TheVariants.{Unfit, Memory}
use Rattle.rg_agg.specs.declared.number.Number.{Number}
use Rattle.rg_event.specs.Tagged.{tagged_bytes, value_kind}
use Rattle.rg_event.specs.declared.value.Value.{Value}
use Rattle.rg_event.specs.declared.value.Value.TheVariants.{Int as IntValue, Id as IdValue}
use Rattle.rg_bytes.specs.Reading.{more_at}
use Rattle.rg_bytes.proofs.Laws.{StepsBack, more_back}
use Rattle.rg_agg.proofs.Fields.{number_value_reads_back, size_behind_read}

pub values_more : (numbers : List Number) (number : Number) → map value_of (numbers ++ number ∷ []) ≡ map value_of numbers ++ value_of number ∷ []
values_more [] number = refl
values_more (n ∷ ns) number = ap (λ values. value_of n ∷ values) (values_more ns number)

all_like_more : (first : Value) (values : List Value) (v : Value) → all_like first values ≡ true → is_int_or_id v ≡ true → is_like first v ≡ true → all_like first (values ++ v ∷ []) ≡ true
all_like_more first [] v are is like = and_from (is_int_or_id v) (is_like first v && true) is (and_from (is_like first v) true like refl)
all_like_more first (w ∷ ws) v are is like =
    let head = and_parts (is_int_or_id w) (is_like first w && all_like first ws) are in
    let rest = and_parts (is_like first w) (all_like first ws) head.1 in
    and_from (is_int_or_id w) (is_like first w && all_like first (ws ++ v ∷ [])) head.0 (and_from (is_like first w) (all_like first (ws ++ v ∷ [])) rest.0 (all_like_more first ws v rest.1 is like))

pub alike_more : (values : List Value) (v : Value) → are_alike values ≡ true → is_int_or_id v ≡ true → is_like_first v values ≡ true → are_alike (values ++ v ∷ []) ≡ true
alike_more [] v are is like = and_from (is_int_or_id v) true is refl
alike_more (w ∷ ws) v are is like =
    let head = and_parts (is_int_or_id w) (all_like w ws) are in
    and_from (is_int_or_id w) (all_like w (ws ++ v ∷ [])) head.0 (all_like_more w ws v head.1 is like)

-- with one number more at the back
pub alike_pushed : (numbers new : List Number) (number : Number) → new ≡ numbers ++ number ∷ [] → are_alike (map value_of numbers) ≡ true → IsNumber (value_of number) → is_like_first (value_of number) (map value_of numbers) ≡ true → are_alike (map value_of new) ≡ true
alike_pushed numbers new number pushed are is like = rw (pushed, values_more numbers number) (alike_more (map value_of numbers) (value_of number) are is like)

pub kinds_like : (v w : Value) → IsNumber v → value_kind v ≡ value_kind w → is_like w v ≡ true
kinds_like (IntValue v) (IntValue w) is same = refl
kinds_like (IdValue v) (IdValue w) is same = refl
kinds_like v w is same = cc

-- a value of their kind
pub like_first : (v : Value) (values : List Value) → IsNumber v → IsLike (first_kind values) v → is_like_first v values ≡ true
like_first v [] is like = refl
like_first v (w ∷ ws) is like = kinds_like v w is like

pub pushed_keeps : (pushed : Bool) (old new : List Number) (number : Number) (v : Value) → new ≡ (if pushed then old ++ number ∷ [] else old) → length old < 2 ^ 40 → are_alike (map value_of old) ≡ true → value_of number ≡ v → IsNumber v → is_like_first v (map value_of old) ≡ true → (length new ≤ 2 ^ 40) × (are_alike (map value_of new) ≡ true)
pushed_keeps true old new number v is room are same legal like = (
  omega (arith, room, ap length is, length-append old (number ∷ [])),
  alike_pushed old new number is are (rw same legal) (rw same like),
)
pushed_keeps false old new number v is room are same legal like = (omega (arith, room, ap length is), rw is are)

-- reading

pub next_read : (so_far : List Value) (old : List ℕ) (value : Value) (left : List ℕ) → number_value_at old ≡ Ok (value, left) → is_like_first value so_far ≡ true → next_at so_far old ≡ Ok (value, left)
unfolding next_at
next_read so_far old value left is like = rw (is, like) refl

pub next_bad : (so_far : List Value) (old : List ℕ) (value : Value) (left : List ℕ) → number_value_at old ≡ Ok (value, left) → is_like_first value so_far ≡ false → next_at so_far old ≡ Err Unfit
unfolding next_at
next_bad so_far old value left is other = rw (is, other) refl

pub next_stops : (so_far : List Value) (old : List ℕ) (fault : StateFault) → (number_value_at old ≡ Err fault) ⊎ (fault ≡ Memory) → (next_at so_far old ≡ Err fault) ⊎ (fault ≡ Memory)
unfolding next_at
next_stops so_far old fault (inl is) = inl (rw is refl)
next_stops so_far old fault (inr memory) = inr memory

pub queued_read : (old : List ℕ) (n : ℕ) (behind : List ℕ) (values : List Value) (left : List ℕ) → size_behind_at 8 old ≡ Ok (n, behind) → more_at next_at [] n behind ≡ Ok (values, left) → queued_at old ≡ Ok (queued values, left)
queued_read old n behind values left first second = rw (first, second) refl

-- what is written is read back

all_back : (first : Value) (so_far values : List Value) → all_like first values ≡ true → StepsBack next_at tagged_bytes (first ∷ so_far) values
all_back first so_far [] are = tt
all_back first so_far (v ∷ vs) are =
    let head = and_parts (is_int_or_id v) (is_like first v && all_like first vs) are in
    let likes = and_parts (is_like first v) (all_like first vs) head.1 in
    (λ rest. next_read (first ∷ so_far) _ v rest (number_value_reads_back v rest head.0) likes.0, all_back first (so_far ++ v ∷ []) vs likes.1)

steps_back : (values : List Value) → are_alike values ≡ true → StepsBack next_at tagged_bytes [] values
steps_back [] are = tt
steps_back (v ∷ vs) are =
    let head = and_parts (is_int_or_id v) (all_like v vs) are in
    (λ rest. next_read [] _ v rest (number_value_reads_back v rest head.0) refl, all_back v [] vs head.1)

pub values_read_back : (values : List Value) (rest : List ℕ) → are_alike values ≡ true → more_at next_at [] (length values) (tagged_list values ++ rest) ≡ Ok (values, rest)
values_read_back values rest are = more_back next_at tagged_bytes [] values rest (steps_back values are)

pub queued_reads_back : (numbers : List Number) (rest : List ℕ) → 0 < length numbers → length numbers ≤ 2 ^ 40 → are_alike (map value_of numbers) ≡ true → queued_at (held_bytes (queued (map value_of numbers)) ++ rest) ≡ Ok (queued (map value_of numbers), rest)
queued_reads_back numbers rest some few are =
    let values = map value_of numbers in
    let counted : length values ≡ length numbers = length-map numbers value_of in
    let stood : held_bytes (queued values) ++ rest ≡ 8 ∷ (to_be_bytes w64 (length values) ++ (tagged_list values ++ rest)) = ap (λ (bytes : List ℕ). 8 ∷ bytes) (append_assoc (to_be_bytes w64 (length values)) (tagged_list values) rest) in
    queued_read _ (length values) (tagged_list values ++ rest) values rest (size_behind_read 8 _ (length values) (tagged_list values ++ rest) stood (omega (arith, counted)) (omega (arith, counted))) (values_read_back values rest are)
