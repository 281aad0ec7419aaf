-- What a look at the first bytes of a request finds.
use Rattle.std.proofs.Common.{◌≡◌, ◌≢◌, ◌⊎◌, inl, inr, ℕ, zero, suc, ◌+◌, ◌-◌, ◌*◌, ◌/◌, ◌%◌, ◌^◌, ◌<◌, ◌≤◌, ◌==◌, ◌||◌, Bool, true, false, None, List, [], ◌∷◌, ◌++◌, length, get_or, take, drop, nat_le, ◌&&◌, refl, ap, sym, subst, ◌∙◌, arith, append_assoc, append-nil, length-append, lit<, lit≤}
use Rattle.std.proofs.lemmas.Bool.{cases_lt, eqb-true, eqb-false, leb-true, leb-false, and_parts, and_cases, or_cases, or_parts}
use Rattle.std.proofs.Math.ListN.{drop_of_length-le}
use Rattle.std.proofs.lemmas.List.{drop-append-le, drop-take, length-take, take-append-drop, get_or_append_left, get_or-append_right}
use Rattle.std.proofs.lemmas.List.Folds.{list_any-append}
use Rattle.std.proofs.lemmas.Nat.{be_bytes_4, be_bytes_8}
use Rattle.std.specs.Int.{w64, from_be_bytes}
use Rattle.rg_pipe.specs.Sent.{Sent, body_of, bytes_of, has_lf, IsLegal}
use Rattle.rg_pipe.specs.Sent.Sent.{line, commit, save}
use Rattle.rg_pipe.specs.Hand.{IsRequest, IsPart, BeginsNone, size_of}
use Rattle.rg_pipe.specs.Judging.{Judges, IsFirst, sent_of, begins_length}
use Rattle.rg_pipe.specs.declared.judge.Kind.{Kind}
use Rattle.rg_pipe.specs.declared.judge.Judged.{Judged}
use Rattle.rg_pipe.specs.declared.judge.Judged.TheVariants.{Part, Whole, Never}
use Rattle.rg_pipe.proofs.Requests.{be32, be64, same_offset, IsLength, length_of, never_of, part_of, zeros, length-zeros, no_lf-zeros, zeros_small, zeros_first, not_both, front_request, request_within}

abbrev pub AreBytes : List ℕ → Type 0
AreBytes bytes = (i : ℕ) → get_or bytes i 0 < 256

-- a length alone
pub alone_word : IsPart (be32 1)
alone_word = part_of 1 [] commit (2 ∷ []) tt refl refl (lit< tt)

pub alone_line : (n : ℕ) → 9 ≤ n → n ≤ 65544 → IsPart (be32 n)
alone_line n shortest longest =
    let text = zeros (n - 9) in
    part_of n [] (line 0 text) (1 ∷ (be64 0 ++ text)) (lit< tt, omega (arith, length-zeros (n - 9)), no_lf-zeros (n - 9)) (omega (arith, length-zeros (n - 9))) refl (omega arith)

pub alone_never : (n : ℕ) → n < 2 ^ 32 → n ≢ 1 → (n < 9) ⊎ (65544 < n) → BeginsNone (be32 n)
alone_never n fits other outside = never_of n [] fits (omega arith) (λ sent rest legal count is.
    let l = length_of sent legal in
    elim outside [
      | inl short ↦ absurd (omega (arith, l.some, cases l n count short other))
      | inr long ↦ absurd (omega (arith, l.most, count, long))
    ])
  where
    cases : {m : ℕ} → IsLength m → (n : ℕ) → m ≡ n → n < 9 → n ≢ 1 → n < 1
    cases l n count short other = elim (cases_lt 1 n) [
      | inl more ↦ let l_shortest = l.shortest (omega (arith, more, count)) in absurd (omega (arith, l_shortest, count, short))
      | inr few ↦ elim (cases_lt n 1) [ inl none ↦ none | inr some ↦ absurd (other (omega (arith, few, some))) ]
    ]

-- a body of one byte
pub word_commit : (kind : ℕ) → kind ≡ 2 → IsRequest commit (be32 1 ++ kind ∷ [])
word_commit kind is = record { legal = tt; is = ap (λ k. be32 1 ++ k ∷ []) is }

pub word_save : (kind : ℕ) → kind ≡ 3 → IsRequest save (be32 1 ++ kind ∷ [])
word_save kind is = record { legal = tt; is = ap (λ k. be32 1 ++ k ∷ []) is }

head_is : (a b : ℕ) (x y : List ℕ) → a ∷ x ≡ b ∷ y → a ≡ b
head_is a b x y same = ap (λ l. get_or l 0 0) same

tail_is : (a b : ℕ) (x y : List ℕ) → a ∷ x ≡ b ∷ y → x ≡ y
tail_is a b x y same = ap (λ l. drop 1 l) same

no_word : (kind : ℕ) → kind ≢ 2 → kind ≢ 3 → (sent : Sent) (rest : List ℕ) → length (body_of sent) ≡ 1 → body_of sent ≡ (kind ∷ []) ++ rest → ⊥
no_word kind not_2 not_3 (line offset text) rest count is = omega (arith, count)
no_word kind not_2 not_3 commit rest count is = not_2 (sym (head_is 2 kind [] rest is))
no_word kind not_2 not_3 save rest count is = not_3 (sym (head_is 3 kind [] rest is))

pub word_never : (kind : ℕ) → kind ≢ 2 → kind ≢ 3 → BeginsNone (be32 1 ++ kind ∷ [])
word_never kind not_2 not_3 = never_of 1 (kind ∷ []) (lit< tt) (lit≤ tt) (λ sent rest legal count is. no_word kind not_2 not_3 sent rest count is)

-- a longer body
no_kind : (kind : ℕ) (tail : List ℕ) (n : ℕ) → n ≢ 1 → (kind ≢ 1) ⊎ ((n < 9) ⊎ (65544 < n)) → (sent : Sent) (rest : List ℕ) → IsLegal sent → length (body_of sent) ≡ n → body_of sent ≡ (kind ∷ tail) ++ rest → ⊥
no_kind kind tail n longer (inl other) (line offset text) rest legal count is = other (sym (head_is 1 kind _ _ is))
no_kind kind tail n longer (inr (inl short)) (line offset text) rest legal count is = omega (arith, count, short)
no_kind kind tail n longer (inr (inr long)) (line offset text) rest legal count is = omega (arith, count, long, legal.1)
no_kind kind tail n longer why commit rest legal count is = longer (sym count)
no_kind kind tail n longer why save rest legal count is = longer (sym count)

pub kind_never : (n kind : ℕ) (tail : List ℕ) → n < 2 ^ 32 → length tail + 1 ≤ n → n ≢ 1 → (kind ≢ 1) ⊎ ((n < 9) ⊎ (65544 < n)) → BeginsNone (be32 n ++ kind ∷ tail)
kind_never n kind tail fits short longer why = never_of n (kind ∷ tail) fits (omega (arith, short)) (λ sent rest legal count is. no_kind kind tail n longer why sent rest legal count is)

-- A line of that length has these bytes behind its first one.
pub record IsLineOf (n : ℕ) (bytes : List ℕ) : Type 0 where
  pub offset : ℕ
  pub text : List ℕ
  pub small : offset < 2 ^ 62
  pub count : length text + 9 ≡ n
  pub no_lf : has_lf text ≡ false
  pub is : be64 offset ++ text ≡ bytes

line_parts : (n : ℕ) (bytes : List ℕ) → 9 ≤ n → (sent : Sent) → IsLegal sent → length (body_of sent) ≡ n → body_of sent ≡ 1 ∷ bytes → IsLineOf n bytes
line_parts n bytes shortest (line offset text) legal count is = record { offset = offset; text = text; small = legal.0; count = omega (arith, count); no_lf = legal.2; is = tail_is 1 1 _ _ is }
line_parts n bytes shortest commit legal count is = absurd (omega (arith, count, shortest))
line_parts n bytes shortest save legal count is = absurd (omega (arith, count, shortest))

line_never : (n : ℕ) (tail : List ℕ) → 9 ≤ n → n ≤ 65544 → length tail + 1 ≤ n → ((rest : List ℕ) → IsLineOf n (tail ++ rest) → ⊥) → BeginsNone (be32 n ++ 1 ∷ tail)
line_never n tail shortest longest short none =
    never_of n (1 ∷ tail) (omega (arith, longest)) (omega (arith, short)) (λ sent rest legal count is. none rest (line_parts n (tail ++ rest) shortest sent legal count is))

-- the first byte of an offset that is too great
pub offset_never : (n first : ℕ) (tail : List ℕ) → 9 ≤ n → n ≤ 65544 → length (first ∷ tail) < 8 → 64 ≤ first → BeginsNone (be32 n ++ 1 ∷ (first ∷ tail))
offset_never n first tail shortest longest few great =
    line_never n (first ∷ tail) shortest longest (omega (arith, few, shortest)) (λ rest line.
    let head : line.offset / 72057594037927936 % 256 ≡ first = head_is _ first _ (tail ++ rest) line.is in
    let small = line.small in
    omega (arith, head, small, great))

-- bytes of an offset that may be small enough
small_first : (bytes : List ℕ) → AreBytes bytes → get_or bytes 0 0 < 64 → from_be_bytes w64 bytes < 2 ^ 62
small_first bytes are first = omega (arith, first, are 1, are 2, are 3, are 4, are 5, are 6, are 7)

bytes_padded : (x : List ℕ) (n : ℕ) → AreBytes x → AreBytes (x ++ zeros n)
bytes_padded x n are i = elim (cases_lt i (length x)) [
  | inl below ↦ rw (get_or_append_left x (zeros n) 0 i below) (are i)
  | inr past ↦ rw (get_or-append_right x (zeros n) (length x) i 0 refl past) (zeros_small n (i - length x))
]

first_padded : (x : List ℕ) (n : ℕ) → get_or x 0 0 < 64 → get_or (x ++ zeros n) 0 0 < 64
first_padded [] n first = zeros_first n
first_padded (a ∷ x) n first = first

pub offset_part : (n : ℕ) (bytes : List ℕ) → 9 ≤ n → n ≤ 65544 → length bytes < 8 → AreBytes bytes → get_or bytes 0 0 < 64 → IsPart (be32 n ++ 1 ∷ bytes)
offset_part n bytes shortest longest few are first =
    let pad = zeros (8 - length bytes) in
    let offset = from_be_bytes w64 (bytes ++ pad) in
    let text = zeros (n - 9) in
    let count : length (bytes ++ pad) ≡ 8 = omega (arith, length-append bytes pad, length-zeros (8 - length bytes), few) in
    let same : be64 offset ≡ bytes ++ pad = be_bytes_8 (bytes ++ pad) offset count (bytes_padded bytes (8 - length bytes) are) refl in
    part_of n (1 ∷ bytes) (line offset text) (pad ++ text)
    (small_first (bytes ++ pad) (bytes_padded bytes (8 - length bytes) are) (first_padded bytes (8 - length bytes) first), omega (arith, length-zeros (n - 9)), no_lf-zeros (n - 9))
    (omega (arith, length-zeros (n - 9), shortest))
    (ap (λ (b : List ℕ). 1 ∷ (b ++ text)) same ∙ ap (λ (b : List ℕ). 1 ∷ b) (append_assoc bytes pad text))
    (omega (arith, length-append pad text, length-zeros (8 - length bytes), few))

-- what stands behind an offset
pub text_never_great : (n offset : ℕ) (text : List ℕ) → 9 ≤ n → n ≤ 65544 → length text + 9 ≤ n → offset < 2 ^ 64 → 2 ^ 62 ≤ offset → BeginsNone (be32 n ++ 1 ∷ (be64 offset ++ text))
text_never_great n offset text shortest longest short fits great =
    line_never n (be64 offset ++ text) shortest longest (omega (arith, short)) (λ rest line.
    let small = line.small in
    let same = same_offset line.offset offset line.text (text ++ rest) (omega (arith, small)) fits (line.is ∙ append_assoc (be64 offset) text rest) in
    omega (arith, same.0, small, great))

or_none : (a b : Bool) → a ≡ false → b ≡ false → (a || b) ≡ false
or_none a b not_a not_b = rw (not_a, not_b) refl

pub text_part : (n offset : ℕ) (text : List ℕ) → 9 ≤ n → n ≤ 65544 → length text + 9 < n → offset < 2 ^ 62 → has_lf text ≡ false → IsPart (be32 n ++ 1 ∷ (be64 offset ++ text))
text_part n offset text shortest longest short small no_lf =
    let pad = zeros (n - 9 - length text) in
    let count : length (text ++ pad) ≡ n - 9 = omega (arith, length-append text pad, length-zeros (n - 9 - length text), short) in
    part_of n (1 ∷ (be64 offset ++ text)) (line offset (text ++ pad)) pad
    (small, omega (arith, count, longest), list_any-append (λ byte. byte == 10) text pad ∙ or_none _ _ no_lf (no_lf-zeros (n - 9 - length text)))
    (omega (arith, count, shortest))
    (ap (λ (b : List ℕ). 1 ∷ b) (sym (append_assoc (be64 offset) text pad)))
    (omega (arith, length-zeros (n - 9 - length text), short))

pub text_whole : (n offset : ℕ) (text : List ℕ) → 9 ≤ n → n ≤ 65544 → length text + 9 ≡ n → offset < 2 ^ 62 → has_lf text ≡ false
    → IsRequest (line offset text) (be32 n ++ 1 ∷ (be64 offset ++ text))
text_whole n offset text shortest longest whole small no_lf =
    let count : length (body_of (line offset text)) ≡ n = omega (arith, whole) in
    record { legal = (small, omega (arith, whole, longest), no_lf); is = ap (λ m. be32 m ++ body_of (line offset text)) (sym count) }

-- fewer bytes than a length has
shorter : (x y : List ℕ) → IsPart (x ++ y) → IsPart x
shorter x y part = record {
  sent = part.sent;
  rest = y ++ part.rest;
  legal = part.legal;
  some = let some = part.some in omega (arith, some, length-append y part.rest);
  is = part.is ∙ append_assoc x y part.rest;
}

middle : ℕ → List ℕ
middle c = 0 ∷ (0 ∷ (c ∷ (0 ∷ [])))

middle_small : (c : ℕ) → c < 256 → AreBytes (middle c)
unfolding middle
middle_small c fits zero = lit< tt
middle_small c fits (suc zero) = lit< tt
middle_small c fits (suc (suc zero)) = fits
middle_small c fits (suc (suc (suc zero))) = lit< tt
middle_small c fits (suc (suc (suc (suc i)))) = lit< tt

middle_is : (c : ℕ) → c < 256 → be32 (c * 256) ≡ 0 ∷ (0 ∷ (c ∷ (0 ∷ [])))
unfolding middle
middle_is c fits = be_bytes_4 (middle c) (c * 256) refl (middle_small c fits) (omega arith)

-- two bytes of a length, of which the first is 0
part_two : (b : ℕ) → b ≤ 1 → IsPart (0 ∷ (b ∷ []))
part_two zero few = shorter (0 ∷ (0 ∷ [])) (0 ∷ (1 ∷ [])) alone_word
part_two (suc zero) few = shorter (0 ∷ (1 ∷ [])) (0 ∷ (0 ∷ [])) (alone_line 65536 (lit≤ tt) (lit≤ tt))
part_two (suc (suc b)) few = absurd (omega (arith, few))

part_three : (c : ℕ) → c < 256 → IsPart (0 ∷ (0 ∷ (c ∷ [])))
part_three zero fits = shorter (0 ∷ (0 ∷ (0 ∷ []))) (1 ∷ []) alone_word
part_three (suc c) fits =
    shorter (0 ∷ (0 ∷ (suc c ∷ []))) (0 ∷ []) (let P : List ℕ → Type 0 = λ l. IsPart l in subst P (middle_is (suc c) fits) (alone_line (suc c * 256) (omega arith) (omega (arith, fits))))

part_last : IsPart (0 ∷ (1 ∷ (0 ∷ [])))
part_last = shorter (0 ∷ (1 ∷ (0 ∷ []))) (0 ∷ []) (alone_line 65536 (lit≤ tt) (lit≤ tt))

pub few_part : (bytes : List ℕ) → length bytes < 4 → AreBytes bytes → begins_length bytes ≡ true → IsPart bytes
few_part [] few are begins = shorter [] (be32 1) alone_word
few_part (a ∷ []) few are begins = rw (eqb-true a 0 begins) (shorter (0 ∷ []) (0 ∷ (0 ∷ (1 ∷ []))) alone_word)
few_part (a ∷ (b ∷ [])) few are begins = let both = and_parts (a == 0) (nat_le b 1) begins in rw (eqb-true a 0 both.0) (part_two b (leb-true b 1 both.1))
few_part (a ∷ (b ∷ (c ∷ []))) few are begins =
    let both = and_parts (a == 0) ((b == 0) || ((b == 1) && (c == 0))) begins in
    elim (or_cases (b == 0) ((b == 1) && (c == 0)) both.1) [
      | inl none ↦ rw (eqb-true a 0 both.0, eqb-true b 0 none) (part_three c (are 2))
      | inr one ↦ let last = and_parts (b == 1) (c == 0) one in rw (eqb-true a 0 both.0, eqb-true b 1 last.0, eqb-true c 0 last.1) part_last
    ]
few_part (a ∷ (b ∷ (c ∷ (d ∷ bytes)))) few are begins = absurd (omega (arith, few))

-- what the length of a request begins with
front_is : (n : ℕ) (body x rest : List ℕ) (k : ℕ) → be32 n ++ body ≡ x ++ rest → get_or (be32 n ++ body) k 0 ≡ get_or (x ++ rest) k 0
front_is n body x rest k same = ap (λ l. get_or l k 0) same

never_few : (bytes : List ℕ) → length bytes < 4 → ((n : ℕ) (body rest : List ℕ) → n ≤ 65544 → be32 n ++ body ≡ bytes ++ rest → ⊥) → BeginsNone bytes
never_few bytes few none = record {
  no_part = λ sent rest legal is. none (length (body_of sent)) (body_of sent) rest (length_of sent legal).most is;
  no_whole = λ sent rest legal is. let count = ap (λ (b : List ℕ). length b) is in omega (arith, count, length-append (bytes_of sent) rest, length-append (be32 (length (body_of sent))) (body_of sent), few);
}

pub few_never : (bytes : List ℕ) → length bytes < 4 → begins_length bytes ≡ false → BeginsNone bytes
few_never [] few begins = absurd cc
few_never (a ∷ []) few begins = never_few (a ∷ []) few (λ n body rest most is.
    eqb-false a 0 begins (omega (arith, most, front_is n body (a ∷ []) rest 0 is)))
few_never (a ∷ (b ∷ [])) few begins = never_few (a ∷ (b ∷ [])) few (λ n body rest most is.
    let first = front_is n body (a ∷ (b ∷ [])) rest 0 is in
    let second = front_is n body (a ∷ (b ∷ [])) rest 1 is in
    elim (and_cases (a == 0) (nat_le b 1) begins) [
      | inl not_a ↦ eqb-false a 0 not_a (omega (arith, most, first))
      | inr not_b ↦ let more = leb-false b 1 not_b in omega (arith, most, second, more)
    ])
few_never (a ∷ (b ∷ (c ∷ []))) few begins = never_few (a ∷ (b ∷ (c ∷ []))) few (λ n body rest most is.
    let first = front_is n body (a ∷ (b ∷ (c ∷ []))) rest 0 is in
    let second = front_is n body (a ∷ (b ∷ (c ∷ []))) rest 1 is in
    let third = front_is n body (a ∷ (b ∷ (c ∷ []))) rest 2 is in
    elim (and_cases (a == 0) ((b == 0) || ((b == 1) && (c == 0))) begins) [
      | inl not_a ↦ eqb-false a 0 not_a (omega (arith, most, first))
      | inr not_b ↦
          let parts = or_parts (b == 0) ((b == 1) && (c == 0)) not_b in
          let some = eqb-false b 0 parts.0 in
          elim (and_cases (b == 1) (c == 0) parts.1) [
            | inl not_one ↦ let other = eqb-false b 1 not_one in elim (cases_lt b 2) [ inl below ↦ elim (cases_lt b 1) [ inl none ↦ some (omega (arith, none)) | inr one ↦ other (omega (arith, below, one)) ] | inr above ↦ omega (arith, most, second, above) ]
            | inr not_c ↦ eqb-false c 0 not_c (elim (cases_lt b 1) [ inl none ↦ absurd (some (omega (arith, none))) | inr one ↦ omega (arith, most, second, third, one) ])
          ]
    ])
few_never (a ∷ (b ∷ (c ∷ (d ∷ bytes)))) few begins = absurd (omega (arith, few))

-- what isn't judged to be a part isn't one
pub not_part : (judged : Judged) (bytes : List ℕ) → Judges judged bytes → (judged ≡ Part → ⊥) → IsPart bytes → ⊥
not_part Part bytes judges other part = other refl
not_part (Whole kind) bytes judges other part = not_both (sent_of kind (drop 13 bytes)) bytes judges part
not_part Never bytes judges other part = judges.no_part part.sent part.rest part.legal part.is

-- nothing is a part of any request
pub part_none : IsPart []
part_none = shorter [] (be32 1) alone_word

pub first_none : (bytes : List ℕ) → length bytes < 1 → get_or bytes 0 0 < 64
first_none [] none = lit< tt
first_none (a ∷ bytes) none = absurd (omega (arith, none))

or_true : (a b : Bool) → a ≡ true → (a || b) ≡ true
or_true true b is = refl
or_true false b is = cc

-- no body of a request has an LF behind its offset
lf_body : (sent : Sent) (body rest : List ℕ) → IsLegal sent → length body ≤ length (body_of sent) → has_lf (drop 9 body) ≡ true → body_of sent ≡ body ++ rest → ⊥
lf_body (line offset text) body rest legal short lf is = elim (cases_lt (length body) 9) [
  | inl few ↦ let none : has_lf (drop 9 body) ≡ false = ap has_lf (drop_of_length-le body {i = 9} (omega (arith, few))) in let never : true ≡ false = sym lf ∙ none in cc
  | inr long ↦
      let text_is : text ≡ drop 9 body ++ rest = ap (drop 9) is ∙ drop-append-le 9 body rest long in
      let has : has_lf text ≡ true = ap has_lf text_is ∙ list_any-append (λ byte. byte == 10) (drop 9 body) rest ∙ or_true _ _ lf in
      let none = legal.2 in
      let never : true ≡ false = sym has ∙ none in
      cc
]
lf_body commit body rest legal short lf is = let none : has_lf (drop 9 body) ≡ false = ap has_lf (drop_of_length-le body {i = 9} (omega (arith, short))) in let never : true ≡ false = sym lf ∙ none in absurd cc
lf_body save body rest legal short lf is = let none : has_lf (drop 9 body) ≡ false = ap has_lf (drop_of_length-le body {i = 9} (omega (arith, short))) in let never : true ≡ false = sym lf ∙ none in absurd cc

-- a body with an LF behind its offset is that of no request
pub lf_never : (n : ℕ) (body : List ℕ) → n < 2 ^ 32 → length body ≤ n → has_lf (drop 9 body) ≡ true → BeginsNone (be32 n ++ body)
lf_never n body fits short lf = never_of n body fits short (λ sent rest legal count is. lf_body sent body rest legal (omega (arith, count, short)) lf is)

-- an LF of a text is among its first bytes or behind them
lf_front : (bytes : List ℕ) (before : ℕ) → drop 13 (take before bytes) ≡ take (before - 13) (drop 13 bytes)
lf_front bytes before = elim (cases_lt before 13) [
  | inl few ↦ drop_of_length-le (take before bytes) {i = 13} (omega (arith, length-take before bytes, few)) ∙ ap (λ n. take n (drop 13 bytes)) (none before few)
  | inr more ↦ ap (λ n. drop 13 (take n bytes)) (split before more) ∙ drop-take 13 (before - 13) bytes
]
  where
    none : (n : ℕ) → n < 13 → 0 ≡ n - 13
    none n few = omega (arith, few)

    split : (n : ℕ) → 13 ≤ n → n ≡ 13 + (n - 13)
    split n more = omega (arith, more)

lf_split : (bytes : List ℕ) (before : ℕ) → has_lf (drop 13 bytes) ≡ (has_lf (drop 13 (take before bytes)) || has_lf (drop (before - 13) (drop 13 bytes)))
lf_split bytes before =
    let text = drop 13 bytes in
    ap has_lf (sym (take-append-drop (before - 13) text)) ∙ list_any-append (λ byte. byte == 10) (take (before - 13) text) (drop (before - 13) text)
    ∙ ap (λ b. b || has_lf (drop (before - 13) text)) (ap has_lf (sym (lf_front bytes before)))

pub lf_found : (bytes : List ℕ) (before : ℕ) (lf : Bool) → lf ≡ has_lf (drop 13 (take before bytes)) → lf ≡ true → lf ≡ has_lf (drop 13 bytes)
lf_found bytes before lf known is = is ∙ sym (or_true _ _ (sym known ∙ is)) ∙ sym (lf_split bytes before)

pub lf_sought : (bytes : List ℕ) (before : ℕ) (lf found : Bool) → lf ≡ has_lf (drop 13 (take before bytes)) → lf ≡ false → found ≡ has_lf (drop (before - 13) (drop 13 bytes)) → found ≡ has_lf (drop 13 bytes)
lf_sought bytes before lf found known none is = is ∙ ap (λ b. b || has_lf (drop (before - 13) (drop 13 bytes))) (sym none ∙ known) ∙ sym (lf_split bytes before)

-- A piece begins with no whole request where it has fewer bytes, or its front is judged to be none.
pub none_short : (piece : List ℕ) → length piece < size_of piece → IsFirst piece None
none_short piece short sent rest legal is = omega (arith, request_within piece sent rest legal is, short)

pub none_judged : (judged : Judged) (piece : List ℕ) (size : ℕ) → Judges judged (take size piece) → ((kind : Kind) → judged ≡ Whole kind → ⊥) → size ≡ size_of piece → IsFirst piece None
none_judged Part piece size part other size_is sent rest legal is =
    not_both sent (take size piece) (record { legal = legal; is = ap (λ n. take n piece) size_is ∙ front_request piece sent rest legal is }) part
none_judged (Whole kind) piece size judges other size_is sent rest legal is = other kind refl
none_judged Never piece size none other size_is sent rest legal is =
    none.no_whole sent [] legal (ap (λ n. take n piece) size_is ∙ front_request piece sent rest legal is ∙ sym (append-nil (bytes_of sent)))
