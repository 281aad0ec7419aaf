-- The last value, with one more at the back and one fewer at the front.
use Rattle.std.proofs.Common.{◌≡◌, ℕ, ◌+◌, ◌<◌, true, ◌&&◌, List, [], ◌∷◌, ◌++◌, Option, Some, None, refl, ap, sym, ◌∙◌, subst, arith, length-append}
use Rattle.std.proofs.lemmas.Bool.{and_parts, and_from}
use Rattle.std.proofs.lemmas.List.Elements.{All-head, All-tail}
use Rattle.std.specs.List.{All}
use Rattle.rg_event.specs.Tagged.{value_kind}
use Rattle.rg_event.specs.declared.value.Value.{Value}
use Rattle.rg_event.specs.declared.value.Value.TheVariants.{Int, Id}
use Rattle.rg_metric.specs.Answers.{number_of, numbers, last_of, answer_of}
use Rattle.rg_metric.specs.declared.answer.Answer.TheVariants.{Number}
use Rattle.rg_keywords.specs.declared.func.Func.TheVariants.{Last}
use Rattle.rg_agg.specs.Held.{is_like, is_like_first}
use Rattle.rg_agg.specs.Standing.{IsLike, seen_kind}
use Rattle.rg_agg.specs.Stands.{IsNumber, is_int_or_id, all_like, are_alike, last_behind, last_value, IsEnd}
use Rattle.rg_agg.proofs.Queues.{alike_more, kinds_like}

last_behind_more : (first : Value) (values : List Value) (v : Value) → last_behind first (values ++ v ∷ []) ≡ v
last_behind_more first [] v = refl
last_behind_more first (w ∷ ws) v = last_behind_more w ws v

last_more : (values : List Value) (v : Value) → last_value (values ++ v ∷ []) ≡ Some v
last_more [] v = refl
last_more (w ∷ ws) v = ap (λ last. Some last) (last_behind_more w ws v)

-- kinds of numbers

like_through : (a b c : Value) → is_like a b ≡ true → is_like b c ≡ true → is_like a c ≡ true
like_through (Int a) (Int b) (Int c) one two = refl
like_through (Id a) (Id b) (Id c) one two = refl
like_through a b c one two = cc

pub number_like : (v : Value) → IsNumber v → is_like v v ≡ true
number_like (Int v) is = refl
number_like (Id v) is = refl
number_like v is = cc

pub like_turned : (a b : Value) → is_like a b ≡ true → is_like b a ≡ true
like_turned (Int a) (Int b) is = refl
like_turned (Id a) (Id b) is = refl
like_turned a b is = cc

-- values that are of the kind of a first one are of the kind of the last one
pub likes_last : (first w : Value) (values : List Value) → is_like first w ≡ true → all_like first values ≡ true → is_like first (last_behind w values) ≡ true
likes_last first w [] like are = like
likes_last first w (x ∷ xs) like are =
    let parts = and_parts (is_like first x) (all_like first xs) (and_parts (is_int_or_id x) (is_like first x && all_like first xs) are).1 in
    likes_last first x xs parts.0 parts.1

-- and of the kind of each other one of it
pub likes_of : (v w : Value) (values : List Value) → is_like v w ≡ true → all_like v values ≡ true → all_like w values ≡ true
likes_of v w [] like are = refl
likes_of v w (x ∷ xs) like are =
    let head = and_parts (is_int_or_id x) (is_like v x && all_like v xs) are in
    let rest = and_parts (is_like v x) (all_like v xs) head.1 in
    and_from (is_int_or_id x) (is_like w x && all_like w xs) head.0 (and_from (is_like w x) (all_like w xs) (like_through w v x (like_turned v w like) rest.0) (likes_of v w xs like rest.1))

some_same : {v w : Value} → Some v ≡ Some w → v ≡ w
some_same e = cc

-- a value of the last one's kind
like_all : (last : Option Value) (values : List Value) (v : Value) → IsNumber v → last ≡ last_value values → are_alike values ≡ true → IsLike (seen_kind last) v → is_like_first v values ≡ true
like_all last [] v is ends are like = refl
like_all last (w ∷ ws) v is ends are like =
    let parts = and_parts (is_int_or_id w) (all_like w ws) are in
    let kind : IsLike (seen_kind (Some (last_behind w ws))) v = subst (λ (l : Option Value). IsLike (seen_kind l) v) ends like in
    like_through w (last_behind w ws) v (likes_last w w ws (number_like w parts.0) parts.1) (kinds_like v (last_behind w ws) is kind)

pub is_end_more : (n : ℕ) (last : Option Value) (values : List Value) (v : Value) → IsNumber v → IsLike (seen_kind last) v → IsEnd n last values → IsEnd (n + 1) (Some v) (values ++ v ∷ [])
is_end_more n last values v is like stands = record {
  count = omega (arith, stands.count, length-append values (v ∷ []));
  ends = sym (last_more values v);
  alike = alike_more values v stands.alike is (like_all last values v is stands.ends stands.alike like);
}

pub is_end_less : (n m : ℕ) (last new : Option Value) (v : Value) (values : List Value) → n ≡ m + 1 → (n ≡ 1 → new ≡ None) → (1 < n → new ≡ last) → IsEnd n last (v ∷ values) → IsEnd m new values
is_end_less n m last new v [] one none same stands = record {
  count = omega (arith, one, stands.count);
  ends = none stands.count;
  alike = refl;
}
is_end_less n m last new v (w ∷ ws) one none same stands =
    let head = and_parts (is_int_or_id v) (all_like v (w ∷ ws)) stands.alike in
    let next = and_parts (is_int_or_id w) (is_like v w && all_like v ws) head.1 in
    let likes = and_parts (is_like v w) (all_like v ws) next.1 in
    record {
      count = omega (arith, one, stands.count);
      ends = same (omega (arith, stands.count)) ∙ stands.ends;
      alike = and_from (is_int_or_id w) (all_like w ws) next.0 (likes_of v w ws likes.0 likes.1);
    }

pub some_value : {v : Value} → Some v ≡ None → ⊥
some_value e = cc

abbrev or_first : Value → Option Value → Value
or_first v (Some last) = last
or_first v None = v

last_number : (first : Value) (values : List Value) → last_of (number_of first) (numbers values) ≡ number_of (last_behind first values)
last_number first [] = refl
last_number first (w ∷ ws) = last_number w ws

pub answers_last : (n : ℕ) (last : Value) (values : List Value) → IsEnd n (Some last) values → Number (number_of last) ≡ answer_of Last values
answers_last n last [] stands = absurd (some_value stands.ends)
answers_last n last (v ∷ vs) stands = ap (λ number. Number number) (ap (λ o. number_of (or_first v o)) stands.ends ∙ sym (last_number v vs))

-- the last one is of the kind that all are of
last_like : (first : Value) (values : List Value) (v : Value) → All (λ w. value_kind w ≡ value_kind v) (first ∷ values) → value_kind (last_behind first values) ≡ value_kind v
last_like first [] v all = All-head (λ w. value_kind w ≡ value_kind v) first [] all
last_like first (w ∷ ws) v all = last_like w ws v (All-tail (λ w. value_kind w ≡ value_kind v) first (w ∷ ws) all)

pub end_like : (n : ℕ) (last : Value) (values : List Value) (v : Value) → IsEnd n (Some last) values → All (λ w. value_kind w ≡ value_kind v) values → value_kind v ≡ value_kind last
end_like n last [] v stands all = absurd (some_value stands.ends)
end_like n last (w ∷ ws) v stands all = sym (ap (λ o. value_kind (or_first w o)) stands.ends ∙ last_like w ws v all)
