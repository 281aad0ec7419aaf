-- What is read of values with their counts.
use Rattle.std.proofs.Common.{◌≡◌, ℕ, suc, ◌+◌, ◌-◌, ◌<◌, ◌≤◌, ◌^◌, Bool, true, false, nat_le, List, [], ◌∷◌, ◌++◌, length, Some, Ok, Err, ◌⊎◌, inl, inr, refl, ap, sym, ◌∙◌, subst, arith, append_assoc, append-nil}
use Rattle.std.proofs.lemmas.Bool.{and_from, and_parts, eq-eqb, le-leb, leb-true}
use Rattle.std.proofs.lemmas.Grind.{common_steps}
use Rattle.std.specs.Prelude.{Result, IfOk, OnOk, OnErr}
use Rattle.std.specs.Int.{w64, to_be_bytes}
use Rattle.rg_agg.specs.Held.{Begins, counts_bytes, pairs_bytes}
use Rattle.rg_agg.proofs.Laws.{behind_short, behind_other, behind_read as tag_behind_read}
use Rattle.rg_bytes.specs.Reading.{tested}
use Rattle.rg_bytes.proofs.Laws.{u64_read, u64_short, step_to_come as one_to_come}
use Rattle.rg_agg.specs.Standing.{counts_sum}
use Rattle.rg_agg.specs.declared.fault.StateFault.{StateFault}
use Rattle.rg_agg.specs.declared.fault.StateFault.TheVariants.{Short, Unfit, Memory}
use Rattle.rg_event.specs.Tagged.{tagged_bytes, tag_of, value_kind}
use Rattle.rg_event.specs.declared.value.Kind.{Kind}
use Rattle.rg_event.specs.declared.value.Value.{Value}
use Rattle.rg_multiset.proofs.Kept.{alike_pushed, sum_append}
use Rattle.rg_multiset.specs.Pairs.{pairs_by, AreOf, AreAlike, AreRising, IsSized, IsTally}
use Rattle.rg_multiset.specs.Reading.{behind_at, comes_behind, count_at, is_count, last_kept, length_at, length_behind_at, more_pairs_at, pair_at, pairs_at, same_kind}

-- one value

pub behind_stops : (value_at : List ℕ → Begins Value) (below : Value → Value → Bool) (so_far : List (Value × ℕ)) (old : List ℕ) (fault : StateFault) → (value_at old ≡ Err fault) ⊎ (fault ≡ Memory) → (behind_at value_at below so_far old ≡ Err fault) ⊎ (fault ≡ Memory)
unfolding behind_at
behind_stops value_at below so_far old fault (inl is) = inl (rw is refl)
behind_stops value_at below so_far old fault (inr memory) = inr memory

pub behind_read : (value_at : List ℕ → Begins Value) (below : Value → Value → Bool) (so_far : List (Value × ℕ)) (old : List ℕ) (value : Value) (left : List ℕ) → value_at old ≡ Ok (value, left) → comes_behind below (last_kept so_far) value ≡ true → behind_at value_at below so_far old ≡ Ok (value, left)
unfolding behind_at
behind_read value_at below so_far old value left is behind = rw (is, behind) refl

pub behind_bad : (value_at : List ℕ → Begins Value) (below : Value → Value → Bool) (so_far : List (Value × ℕ)) (old : List ℕ) (value : Value) (left : List ℕ) → value_at old ≡ Ok (value, left) → comes_behind below (last_kept so_far) value ≡ false → behind_at value_at below so_far old ≡ Err Unfit
unfolding behind_at
behind_bad value_at below so_far old value left is behind = rw (is, behind) refl

-- one count

pub count_short : (most : ℕ) (so_far : List (Value × ℕ)) (old : List ℕ) → length old < 8 → count_at most so_far old ≡ Err Short
unfolding count_at
count_short most so_far old few = rw (u64_short Short old few) refl

count_tested : (most : ℕ) (so_far : List (Value × ℕ)) (old : List ℕ) (n : ℕ) (rest : List ℕ) → old ≡ to_be_bytes w64 n ++ rest → n < 2 ^ 64 → count_at most so_far old ≡ tested Unfit (is_count most so_far n) n rest
unfolding count_at
count_tested most so_far old n rest stood fits = rw (u64_read Short old n rest stood fits) refl

pub count_read : (most : ℕ) (so_far : List (Value × ℕ)) (old : List ℕ) (n : ℕ) (rest : List ℕ) → old ≡ to_be_bytes w64 n ++ rest → n < 2 ^ 64 → is_count most so_far n ≡ true → count_at most so_far old ≡ Ok (n, rest)
count_read most so_far old n rest stood fits is = count_tested most so_far old n rest stood fits ∙ ap (λ test. tested Unfit test n rest) is

pub count_bad : (most : ℕ) (so_far : List (Value × ℕ)) (old : List ℕ) (n : ℕ) (rest : List ℕ) → old ≡ to_be_bytes w64 n ++ rest → n < 2 ^ 64 → is_count most so_far n ≡ false → count_at most so_far old ≡ Err Unfit
count_bad most so_far old n rest stood fits is = count_tested most so_far old n rest stood fits ∙ ap (λ test. tested Unfit test n rest) is

-- one pair

pub pair_value_stops : (most : ℕ) (value_at : List ℕ → Begins Value) (below : Value → Value → Bool) (so_far : List (Value × ℕ)) (old : List ℕ) (fault : StateFault) → (behind_at value_at below so_far old ≡ Err fault) ⊎ (fault ≡ Memory) → (pair_at value_at below most so_far old ≡ Err fault) ⊎ (fault ≡ Memory)
unfolding pair_at
pair_value_stops most value_at below so_far old fault (inl is) = inl (rw is refl)
pair_value_stops most value_at below so_far old fault (inr memory) = inr memory

pub pair_count_stops : (most : ℕ) (value_at : List ℕ → Begins Value) (below : Value → Value → Bool) (so_far : List (Value × ℕ)) (old : List ℕ) (value : Value) (behind : List ℕ) (fault : StateFault) → behind_at value_at below so_far old ≡ Ok (value, behind) → (count_at most so_far behind ≡ Err fault) ⊎ (fault ≡ Memory) → (pair_at value_at below most so_far old ≡ Err fault) ⊎ (fault ≡ Memory)
unfolding pair_at
pair_count_stops most value_at below so_far old value behind fault first (inl is) = inl (rw (first, is) refl)
pair_count_stops most value_at below so_far old value behind fault first (inr memory) = inr memory

pub pair_read : (most : ℕ) (value_at : List ℕ → Begins Value) (below : Value → Value → Bool) (so_far : List (Value × ℕ)) (old : List ℕ) (value : Value) (behind : List ℕ) (n : ℕ) (left : List ℕ) → behind_at value_at below so_far old ≡ Ok (value, behind) → count_at most so_far behind ≡ Ok (n, left) → pair_at value_at below most so_far old ≡ Ok ((value, n), left)
unfolding pair_at
pair_read most value_at below so_far old value behind n left first second = rw (first, second) refl

-- pairs in a row

more_step : (most : ℕ) (value_at : List ℕ → Begins Value) (below : Value → Value → Bool) (so_far : List (Value × ℕ)) (n m : ℕ) (old : List ℕ) (pair : Value × ℕ) (left : List ℕ) → n ≡ suc m → pair_at value_at below most so_far old ≡ Ok (pair, left) → more_pairs_at value_at below most so_far n old ≡ more_pairs_at value_at below most (so_far ++ pair ∷ []) m left
more_step most value_at below so_far n m old pair left count is = rw (count, is) refl

pub pairs_bytes_more : (pairs : List (Value × ℕ)) (pair : Value × ℕ) → pairs_bytes (pairs ++ pair ∷ []) ≡ pairs_bytes pairs ++ (tagged_bytes pair.0 ++ to_be_bytes w64 pair.1)
pairs_bytes_more [] pair = ap (λ bytes. tagged_bytes pair.0 ++ bytes) (append-nil (to_be_bytes w64 pair.1))
pairs_bytes_more (first ∷ pairs) pair =
    ap (λ bytes. tagged_bytes first.0 ++ (to_be_bytes w64 first.1 ++ bytes)) (pairs_bytes_more pairs pair)
    ∙ (ap (λ bytes. tagged_bytes first.0 ++ bytes) (sym (append_assoc (to_be_bytes w64 first.1) (pairs_bytes pairs) (tagged_bytes pair.0 ++ to_be_bytes w64 pair.1)))
    ∙ sym (append_assoc (tagged_bytes first.0) (to_be_bytes w64 first.1 ++ pairs_bytes pairs) (tagged_bytes pair.0 ++ to_be_bytes w64 pair.1)))

-- one turn of the reading
pub step_to_come : (most : ℕ) (value_at : List ℕ → Begins Value) (below : Value → Value → Bool) (old new : List (Value × ℕ)) (pair : Value × ℕ) (count done : ℕ) (start from left : List ℕ) → new ≡ old ++ pair ∷ [] → done < count → more_pairs_at value_at below most [] count start ≡ more_pairs_at value_at below most old (count - done) from → pair_at value_at below most old from ≡ Ok (pair, left)
    → more_pairs_at value_at below most [] count start ≡ more_pairs_at value_at below most new (count - (done + 1)) left
step_to_come most value_at below old new pair count done start from left pushed below_count so_far next =
    one_to_come (pair_at value_at below most) old new pair count done start from left pushed below_count so_far next

pub step_taken : (old new : List (Value × ℕ)) (pair : Value × ℕ) (start from left : List ℕ) → new ≡ old ++ pair ∷ [] → start ≡ pairs_bytes old ++ from → from ≡ tagged_bytes pair.0 ++ (to_be_bytes w64 pair.1 ++ left) → start ≡ pairs_bytes new ++ left
step_taken old new pair start from left pushed so_far stood =
    so_far
    ∙ (ap (λ bytes. pairs_bytes old ++ bytes) (stood ∙ sym (append_assoc (tagged_bytes pair.0) (to_be_bytes w64 pair.1) left))
    ∙ (sym (append_assoc (pairs_bytes old) (tagged_bytes pair.0 ++ to_be_bytes w64 pair.1) left)
    ∙ ap (λ bytes. bytes ++ left) (sym (ap pairs_bytes pushed ∙ pairs_bytes_more old pair))))

-- whole tallies

pub length_short : (bytes : List ℕ) → length bytes < 8 → length_at bytes ≡ Err Short
unfolding length_at
length_short bytes few = rw (u64_short Short bytes few) refl

pub length_read : (bytes : List ℕ) (n : ℕ) (rest : List ℕ) → bytes ≡ to_be_bytes w64 n ++ rest → n < 2 ^ 64 → 0 < n → length_at bytes ≡ Ok (n, rest)
unfolding length_at
length_read bytes n rest stood fits some = rw (u64_read Short bytes n rest stood fits) (grind (arith, common_steps))

pub length_bad : (bytes : List ℕ) (n : ℕ) (rest : List ℕ) → bytes ≡ to_be_bytes w64 n ++ rest → n < 2 ^ 64 → n ≡ 0 → length_at bytes ≡ Err Unfit
unfolding length_at
length_bad bytes n rest stood fits none = rw (u64_read Short bytes n rest stood fits) (grind (arith, common_steps))

pub tag_short : (tag : ℕ) (old : List ℕ) → length old < 1 → length_behind_at tag old ≡ Err Short
unfolding length_behind_at
tag_short tag old few = behind_short tag length_at old few

pub tag_other : (tag : ℕ) (old : List ℕ) (byte : ℕ) (bytes : List ℕ) → old ≡ byte ∷ bytes → ¬ (byte ≡ tag) → length_behind_at tag old ≡ Err Unfit
unfolding length_behind_at
tag_other tag old byte bytes stood other = behind_other tag length_at old byte bytes stood other

pub tag_read : (tag : ℕ) (old : List ℕ) (byte : ℕ) (bytes : List ℕ) → old ≡ byte ∷ bytes → byte ≡ tag → length_behind_at tag old ≡ length_at bytes
unfolding length_behind_at
tag_read tag old byte bytes stood same = tag_behind_read tag length_at old byte bytes stood same

length_behind_read : (tag : ℕ) (old : List ℕ) (n : ℕ) (rest : List ℕ) → old ≡ tag ∷ (to_be_bytes w64 n ++ rest) → n < 2 ^ 64 → 0 < n → length_behind_at tag old ≡ Ok (n, rest)
length_behind_read tag old n rest stood fits some = tag_read tag old tag (to_be_bytes w64 n ++ rest) stood refl ∙ length_read _ n rest refl fits some

pub pairs_length_stops : (value_at : List ℕ → Begins Value) (below : Value → Value → Bool) (tag : ℕ) (old : List ℕ) (fault : StateFault) → (length_behind_at tag old ≡ Err fault) ⊎ (fault ≡ Memory) → (pairs_at value_at below tag old ≡ Err fault) ⊎ (fault ≡ Memory)
unfolding pairs_at
pairs_length_stops value_at below tag old fault (inl is) = inl (rw is refl)
pairs_length_stops value_at below tag old fault (inr memory) = inr memory

-- behind the number of pairs they are what the reading of so many is
pub pairs_behind : (value_at : List ℕ → Begins Value) (below : Value → Value → Bool) (tag : ℕ) (old : List ℕ) (n : ℕ) (behind : List ℕ) → length_behind_at tag old ≡ Ok (n, behind) → pairs_at value_at below tag old ≡ more_pairs_at value_at below 1099511627776 [] n behind
unfolding pairs_at
pairs_behind value_at below tag old n behind is = rw is refl

lengths : (legal : Value → Type 0) (kind : Kind) (pairs : List (Value × ℕ)) → AreOf legal kind pairs → length pairs ≤ counts_sum pairs
lengths legal kind [] are = omega arith
lengths legal kind (pair ∷ pairs) are = omega (arith, are.2, lengths legal kind pairs are.3)

-- there are no more pairs than values
pub length_most : (legal : Value → Type 0) (pairs : List (Value × ℕ)) → AreAlike legal pairs → length pairs ≤ counts_sum pairs
length_most legal [] alike = omega arith
length_most legal (pair ∷ pairs) alike = lengths legal (value_kind pair.0) (pair ∷ pairs) (alike (value_kind pair.0) refl)

pub some_pairs : (pairs : List (Value × ℕ)) → 0 < counts_sum pairs → 0 < length pairs
some_pairs [] some = absurd (omega (arith, some))
some_pairs (pair ∷ pairs) some = omega arith

pub last_append : (pairs : List (Value × ℕ)) (pair : Value × ℕ) → last_kept (pairs ++ pair ∷ []) ≡ Some pair.0
last_append [] pair = refl
last_append (first ∷ []) pair = refl
last_append (first ∷ (next ∷ pairs)) pair = last_append (next ∷ pairs) pair

sum_more : (pairs : List (Value × ℕ)) (pair : Value × ℕ) → counts_sum (pairs ++ pair ∷ []) ≡ counts_sum pairs + pair.1
sum_more [] pair = omega arith
sum_more (first ∷ pairs) pair = let rest : counts_sum (pairs ++ pair ∷ []) ≡ counts_sum pairs + pair.1 = sum_more pairs pair in omega arith

-- the first one of these may stand behind those so far
abbrev pub Starts : (Value → Value → Bool) → List (Value × ℕ) → List (Value × ℕ) → Type 0
Starts below so_far [] = Unit {0}
Starts below so_far (pair ∷ pairs) = comes_behind below (last_kept so_far) pair.0 ≡ true

starts_next : (legal : Value → Type 0) (below : Value → Value → Bool) (kind : Kind) (so_far : List (Value × ℕ)) (pair : Value × ℕ) (pairs : List (Value × ℕ)) → AreOf legal kind (pair ∷ pairs) → AreRising below (pair ∷ pairs) → Starts below (so_far ++ pair ∷ []) pairs
starts_next legal below kind so_far pair [] are rise = tt
starts_next legal below kind so_far pair (next ∷ pairs) are rise =
    let same : same_kind pair.0 next.0 ≡ true = eq-eqb _ _ (ap tag_of (are.1 ∙ sym are.3.1)) in
    rw (last_append so_far pair) (and_from (same_kind pair.0 next.0) (below pair.0 next.0) same rise.0)

rising_rest : (below : Value → Value → Bool) (pair : Value × ℕ) (pairs : List (Value × ℕ)) → AreRising below (pair ∷ pairs) → AreRising below pairs
rising_rest below pair [] rise = tt
rising_rest below pair (next ∷ pairs) rise = rise.1

-- values that may be kept are read back
abbrev pub ReadsBack : (Value → Type 0) → (List ℕ → Begins Value) → Type 0
ReadsBack legal value_at = (value : Value) (rest : List ℕ) → legal value → value_at (tagged_bytes value ++ rest) ≡ Ok (value, rest)

pub more_back : (most : ℕ) → most < 2 ^ 64 → (legal : Value → Type 0) (value_at : List ℕ → Begins Value) (below : Value → Value → Bool) (kind : Kind) → ReadsBack legal value_at → (so_far pairs : List (Value × ℕ)) (rest : List ℕ) → AreOf legal kind pairs → AreRising below pairs → Starts below so_far pairs → counts_sum so_far + counts_sum pairs ≤ most
    → more_pairs_at value_at below most so_far (length pairs) (pairs_bytes pairs ++ rest) ≡ Ok (so_far ++ pairs, rest)
more_back most fits legal value_at below kind reads so_far [] rest are rise starts few = ap (λ (pairs : List (Value × ℕ)). Ok (pairs, rest)) (sym (append-nil so_far))
more_back most fits legal value_at below kind reads so_far (pair ∷ pairs) rest are rise starts few =
    let left : List ℕ = pairs_bytes pairs ++ rest in
    let behind : List ℕ = to_be_bytes w64 pair.1 ++ left in
    let stood : pairs_bytes (pair ∷ pairs) ++ rest ≡ tagged_bytes pair.0 ++ behind = append_assoc (tagged_bytes pair.0) (to_be_bytes w64 pair.1 ++ pairs_bytes pairs) rest ∙ ap (λ bytes. tagged_bytes pair.0 ++ bytes) (append_assoc (to_be_bytes w64 pair.1) (pairs_bytes pairs) rest) in
    let is : is_count most so_far pair.1 ≡ true = and_from _ _ (le-leb 1 pair.1 are.2) (le-leb (counts_sum so_far + pair.1) most (omega (arith, few))) in
    let first : behind_at value_at below so_far (tagged_bytes pair.0 ++ behind) ≡ Ok (pair.0, behind) = behind_read value_at below so_far _ pair.0 behind (reads pair.0 behind are.0) starts in
    let one : pair_at value_at below most so_far (tagged_bytes pair.0 ++ behind) ≡ Ok (pair, left) = pair_read most value_at below so_far _ pair.0 behind pair.1 left first (count_read most so_far behind pair.1 left refl (omega (arith, few, fits)) is) in
    ap (more_pairs_at value_at below most so_far (suc (length pairs))) stood
    ∙ (more_step most value_at below so_far (suc (length pairs)) (length pairs) _ pair left refl one
    ∙ (more_back most fits legal value_at below kind reads (so_far ++ pair ∷ []) pairs rest are.3 (rising_rest below pair pairs rise) (starts_next legal below kind so_far pair pairs are rise) (omega (arith, few, sum_more so_far pair))
    ∙ ap (λ (all : List (Value × ℕ)). Ok (all, rest)) (append_assoc so_far (pair ∷ []) pairs)))

pub tally_back : (legal : Value → Type 0) (value_at : List ℕ → Begins Value) (below : Value → Value → Bool) → ReadsBack legal value_at → (tag : ℕ) (pairs : List (Value × ℕ)) (rest : List ℕ) → IsTally legal below pairs → 0 < counts_sum pairs → pairs_at value_at below tag (counts_bytes tag pairs ++ rest) ≡ Ok (pairs, rest)
tally_back legal value_at below reads tag [] rest sound some = absurd (omega (arith, some))
tally_back legal value_at below reads tag (pair ∷ pairs) rest sound some =
    let all = pair ∷ pairs in
    let behind : List ℕ = pairs_bytes all ++ rest in
    let stood : counts_bytes tag all ++ rest ≡ tag ∷ (to_be_bytes w64 (length all) ++ behind) = ap (λ (bytes : List ℕ). tag ∷ bytes) (append_assoc (to_be_bytes w64 (length all)) (pairs_bytes all) rest) in
    let few = length_most legal all sound.alike in
    pairs_behind value_at below tag _ (length all) behind (length_behind_read tag _ (length all) behind stood (omega (arith, few, sound.few)) (some_pairs all some))
    ∙ more_back 1099511627776 (omega arith) legal value_at below (value_kind pair.0) reads [] all rest (sound.alike (value_kind pair.0) refl) sound.rising refl (omega (arith, sound.few))

-- what is behind a tally's first field

pub some_sum : {A : Type 0} (legal : Value → Type 0) (below : Value → Value → Bool) (pairs : A → List (Value × ℕ)) (n : ℕ) (result : Result A StateFault) → 0 < n → IfOk result (λ made. length (pairs made) ≡ n) → IfOk result (λ made. IsTally legal below (pairs made)) → IfOk result (λ made. 0 < counts_sum (pairs made))
some_sum legal below pairs n (Ok made) some count sound = omega (arith, some, count, length_most legal (pairs made) sound.alike)
some_sum legal below pairs n (Err fault) some count sound = tt

pub all_ok : {A E : Type 0} {P Q : Type 0} (result : Result A E) → OnOk result P → (P → Q) → OnOk result Q
all_ok (Ok value) is then = then is
all_ok (Err fault) is then = tt

pub all_err : {A E : Type 0} {P Q : Type 0} (result : Result A E) → OnErr result P → (P → Q) → OnErr result Q
all_err (Ok value) is then = tt
all_err (Err fault) is then = then is

pub pairs_length : {K : Type 0} (f : K → Value) (es : List (K × ℕ)) → length (pairs_by f es) ≡ length es
pairs_length f [] = refl
pairs_length f (e ∷ es) = ap (λ n. suc n) (pairs_length f es)

-- a tag and a number, and then the pairs
pub parts_put : (tag n : ℕ) (old middle new : List ℕ) (pairs : List (Value × ℕ)) → n ≡ length pairs → middle ≡ old ++ (tag ∷ to_be_bytes w64 n) → new ≡ middle ++ pairs_bytes pairs → new ≡ old ++ counts_bytes tag pairs
parts_put tag n old middle new pairs count first second =
    second
    ∙ (ap (λ bytes. bytes ++ pairs_bytes pairs) (first ∙ ap (λ k. old ++ (tag ∷ to_be_bytes w64 k)) count)
    ∙ append_assoc old (tag ∷ to_be_bytes w64 (length pairs)) (pairs_bytes pairs))

pub count_facts : (most : ℕ) (so_far : List (Value × ℕ)) (n : ℕ) → is_count most so_far n ≡ true → (0 < n) × (counts_sum so_far + n ≤ most)
count_facts most so_far n is =
    let parts = and_parts (nat_le 1 n) (nat_le (counts_sum so_far + n) most) is in
    let one : 1 ≤ n = leb-true 1 n parts.0 in
    (omega arith, leb-true (counts_sum so_far + n) most parts.1)

pub pushed_sized : (legal : Value → Type 0) (below : Value → Value → Bool) (now old new : List (Value × ℕ)) (value : Value) (n size : ℕ) → old ≡ now → IsSized legal size old → legal value → comes_behind below (last_kept now) value ≡ true → is_count 1099511627776 now n ≡ true → new ≡ old ++ (value, n) ∷ [] → IsSized legal (size + n) new
pushed_sized legal below now old new value n size seen sized is behind count pushed =
    let facts = count_facts 1099511627776 now n count in
    let goes : comes_behind below (last_kept old) value ≡ true = ap (λ pairs. comes_behind below (last_kept pairs) value) seen ∙ behind in
    let sum : counts_sum new ≡ counts_sum old + n = ap counts_sum pushed ∙ sum_append old value n in
    record {
      size = omega (arith, sum, sized.size);
      few = omega (arith, facts.1, sized.size, ap counts_sum seen);
      alike = alike_pushed legal below old new value n sized.alike is goes facts.0 pushed;
    }

pub pushed_rising : (below : Value → Value → Bool) (pairs : List (Value × ℕ)) (v : Value) (n : ℕ) → AreRising below pairs → comes_behind below (last_kept pairs) v ≡ true → AreRising below (pairs ++ (v, n) ∷ [])
pushed_rising below [] v n rise behind = tt
pushed_rising below (p ∷ []) v n rise behind = ((and_parts (same_kind p.0 v) (below p.0 v) behind).1, tt)
pushed_rising below (p ∷ (q ∷ qs)) v n rise behind = (rise.0, pushed_rising below (q ∷ qs) v n rise.1 behind)

-- a tally with one pair more at the back
pub tally_pushed : (legal : Value → Type 0) (below : Value → Value → Bool) (most : ℕ) (old new : List (Value × ℕ)) (pair : Value × ℕ) → most ≤ 2 ^ 40 → IsTally legal below old → legal pair.0 → comes_behind below (last_kept old) pair.0 ≡ true → is_count most old pair.1 ≡ true → new ≡ old ++ pair ∷ [] → IsTally legal below new
tally_pushed legal below most old new pair few tally is behind count put =
    let facts = count_facts most old pair.1 count in
    record {
      few = omega (arith, few, facts.1, ap counts_sum put, sum_append old pair.0 pair.1);
      alike = alike_pushed legal below old new pair.0 pair.1 tally.alike is behind facts.0 put;
      rising = rw put (pushed_rising below old pair.0 pair.1 tally.rising behind);
    }

-- the same of a list whose order and room are those at first
pub pushed_tally : {A : Type 0} (legal : Value → Type 0) (below : Value → Value → Bool) (order : A → Value → Value → Bool) (most : A → ℕ) (first made : A) (old new : List (Value × ℕ)) (pair : Value × ℕ) → order made ≡ below → most made ≡ most first → most first ≤ 2 ^ 40 → IsTally legal below old → legal pair.0
    → comes_behind (order made) (last_kept old) pair.0 ≡ true → is_count (most made) old pair.1 ≡ true → new ≡ old ++ pair ∷ [] → IsTally legal below new
pushed_tally legal below order most first made old new pair same room few tally is behind count put =
    tally_pushed legal below (most made) old new pair (omega (arith, room, few)) tally is (subst (λ (b : Value → Value → Bool). comes_behind b (last_kept old) pair.0 ≡ true) same behind) count put
