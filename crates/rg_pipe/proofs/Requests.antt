-- The bytes of legal requests.
use Rattle.std.proofs.Common.{◌≡◌, inl, inr, ℕ, zero, suc, ◌+◌, ◌-◌, ◌^◌, ◌<◌, ◌≤◌, false, List, [], ◌∷◌, ◌++◌, length, get_or, take, drop, replicate, refl, ap, sym, subst, ◌∙◌, arith, append_assoc, append-nil, length-append, lit<, lit≤}
use Rattle.std.proofs.lemmas.Bool.{cases_lt}
use Rattle.std.proofs.lemmas.Grind.{common_steps}
use Rattle.std.proofs.lemmas.List.{take_at, drop_at, length-replicate, length-take, take-append-drop, nil_from_length, get_or-replicate, get_or_past, take_rest}
use Rattle.std.proofs.lemmas.Nat.{from_be_bytes-to_be_bytes_4, from_be_bytes-to_be_bytes_8}
use Rattle.std.specs.Int.{w32, w64, from_be_bytes, to_be_bytes}
use Rattle.rg_pipe.specs.Sent.{Sent, body_of, bytes_of, has_lf, IsLegal}
use Rattle.rg_pipe.specs.Sent.Sent.{line, commit, save}
use Rattle.rg_pipe.specs.Hand.{IsRequest, IsPart, BeginsNone, IsShort, size_from, size_of}

abbrev pub be32 : ℕ → List ℕ
be32 n = to_be_bytes w32 n

abbrev pub be64 : ℕ → List ℕ
be64 n = to_be_bytes w64 n

-- no bytes begin with two lengths
pub same_length : (m n : ℕ) (x y : List ℕ) → m < 2 ^ 32 → n < 2 ^ 32 → be32 m ++ x ≡ be32 n ++ y → (m ≡ n) × (x ≡ y)
same_length m n x y m_fits n_fits same =
    let front : be32 m ≡ be32 n = sym (take_at (be32 m) x 4 refl) ∙ ap (take 4) same ∙ take_at (be32 n) y 4 refl in (
      sym (from_be_bytes-to_be_bytes_4 m m_fits) ∙ ap (from_be_bytes w32) front ∙ from_be_bytes-to_be_bytes_4 n n_fits,
      sym (drop_at (be32 m) x 4 refl) ∙ ap (drop 4) same ∙ drop_at (be32 n) y 4 refl,
    )

-- nor with two offsets
pub same_offset : (m n : ℕ) (x y : List ℕ) → m < 2 ^ 64 → n < 2 ^ 64 → be64 m ++ x ≡ be64 n ++ y → (m ≡ n) × (x ≡ y)
same_offset m n x y m_fits n_fits same =
    let front : be64 m ≡ be64 n = sym (take_at (be64 m) x 8 refl) ∙ ap (take 8) same ∙ take_at (be64 n) y 8 refl in (
      sym (from_be_bytes-to_be_bytes_8 m m_fits) ∙ ap (from_be_bytes w64) front ∙ from_be_bytes-to_be_bytes_8 n n_fits,
      sym (drop_at (be64 m) x 8 refl) ∙ ap (drop 8) same ∙ drop_at (be64 n) y 8 refl,
    )

-- which lengths requests have
pub record IsLength (n : ℕ) : Type 0 where
  pub some : 1 ≤ n
  pub shortest : 1 < n → 9 ≤ n
  pub most : n ≤ 65544

pub length_of : (sent : Sent) → IsLegal sent → IsLength (length (body_of sent))
length_of (line offset text) legal = record { some = omega arith; shortest = λ more. omega arith; most = omega (arith, legal.1) }
length_of commit legal = record { some = lit≤ tt; shortest = λ more. absurd (omega (arith, more)); most = lit≤ tt }
length_of save legal = record { some = lit≤ tt; shortest = λ more. absurd (omega (arith, more)); most = lit≤ tt }

pub length_fits : (sent : Sent) → IsLegal sent → length (body_of sent) < 2 ^ 32
length_fits sent legal = let most = (length_of sent legal).most in omega (arith, most)

-- no request begins with this length and these bytes where none of this length has such a body
pub never_of : (n : ℕ) (body : List ℕ) → n < 2 ^ 32 → length body ≤ n
    → ((sent : Sent) (rest : List ℕ) → IsLegal sent → length (body_of sent) ≡ n → body_of sent ≡ body ++ rest → ⊥)
    → BeginsNone (be32 n ++ body)
never_of n body fits short none = record {
  no_part = λ sent rest legal is.
      let both = same_length (length (body_of sent)) n (body_of sent) (body ++ rest) (length_fits sent legal) fits (is ∙ append_assoc (be32 n) body rest) in
      none sent rest legal both.0 both.1;
  no_whole = λ sent rest legal is.
      let both = same_length n (length (body_of sent)) body (body_of sent ++ rest) fits (length_fits sent legal) (is ∙ append_assoc (be32 (length (body_of sent))) (body_of sent) rest) in
      let count = ap (λ (b : List ℕ). length b) both.1 in
      let nothing : rest ≡ [] = nil_from_length rest (omega (arith, count, length-append (body_of sent) rest, both.0, short)) in
      none sent [] legal (sym both.0) (sym (both.1 ∙ ap (λ r. body_of sent ++ r) nothing ∙ append-nil (body_of sent)) ∙ sym (append-nil body));
}

-- they are a part of a request that has such a body and more
pub part_of : (n : ℕ) (body : List ℕ) (sent : Sent) (rest : List ℕ) → IsLegal sent → length (body_of sent) ≡ n → body_of sent ≡ body ++ rest → 0 < length rest
    → IsPart (be32 n ++ body)
part_of n body sent rest legal count is some = record {
  sent = sent;
  rest = rest;
  legal = legal;
  some = some;
  is = ap (λ m. be32 m ++ body_of sent) count ∙ ap (λ b. be32 n ++ b) is ∙ sym (append_assoc (be32 n) body rest);
}

pub zeros : ℕ → List ℕ
zeros n = replicate n 0

pub length-zeros : (n : ℕ) → length (zeros n) ≡ n
unfolding zeros
length-zeros n = length-replicate n 0

no_lf_replicate : (n : ℕ) → has_lf (replicate n 0) ≡ false
no_lf_replicate zero = refl
no_lf_replicate (suc n) = no_lf_replicate n

pub no_lf-zeros : (n : ℕ) → has_lf (zeros n) ≡ false
unfolding zeros
no_lf-zeros n = no_lf_replicate n

pub zeros_small : (n i : ℕ) → get_or (zeros n) i 0 < 256
unfolding zeros
zeros_small n i = elim (cases_lt i n) [
  | inl below ↦ rw (get_or-replicate {A = ℕ} n i 0 0 below) (lit< tt)
  | inr past ↦ rw (get_or_past {X = ℕ} (replicate n 0) i 0 (omega (arith, length-replicate {A = ℕ} n 0))) (lit< tt)
]

pub zeros_first : (n : ℕ) → get_or (zeros n) 0 0 < 64
unfolding zeros
zeros_first zero = lit< tt
zeros_first (suc n) = lit< tt

-- how many bytes a request has is said by its first four
pub size_of-few : (bytes : List ℕ) → length bytes < 4 → size_of bytes ≡ 4
unfolding size_of
size_of-few bytes few = grind (arith, common_steps)

size_of-four : (a b c d : ℕ) (x : List ℕ) → size_of (a ∷ (b ∷ (c ∷ (d ∷ x)))) ≡ size_from (from_be_bytes w32 (a ∷ (b ∷ (c ∷ (d ∷ [])))))
unfolding size_of
size_of-four a b c d x = grind (arith, common_steps)

pub size_of-number : (n : ℕ) (x : List ℕ) → n < 2 ^ 32 → size_of (be32 n ++ x) ≡ size_from n
size_of-number n x fits = size_of-four _ _ _ _ x ∙ ap size_from (from_be_bytes-to_be_bytes_4 n fits)

pub size_of-append : (h x : List ℕ) → 4 ≤ length h → size_of (h ++ x) ≡ size_of h
size_of-append [] x long = absurd (omega arith)
size_of-append (a ∷ []) x long = absurd (omega arith)
size_of-append (a ∷ (b ∷ [])) x long = absurd (omega arith)
size_of-append (a ∷ (b ∷ (c ∷ []))) x long = absurd (omega arith)
size_of-append (a ∷ (b ∷ (c ∷ (d ∷ h)))) x long = size_of-four a b c d (h ++ x) ∙ sym (size_of-four a b c d h)

pub size_from_most : (n : ℕ) → size_from n ≤ 65548
size_from_most n = grind (arith, common_steps)

pub size_from_least : (n : ℕ) → 4 ≤ size_from n
size_from_least n = grind (arith, common_steps)

-- a body of that length fits
pub body_fits : (n : ℕ) (body : List ℕ) → n < 2 ^ 32 → length (be32 n ++ body) ≤ size_of (be32 n ++ body) → length body ≤ n
body_fits n body fits sized = within n body (rw (size_of-number n body fits) at sized)
  where
    within : (n : ℕ) (body : List ℕ) → suc (suc (suc (suc (length body)))) ≤ size_from n → length body ≤ n
    within n body sized = grind (arith, common_steps)

-- what is a request is no part of one
pub not_both : (sent : Sent) (bytes : List ℕ) → IsRequest sent bytes → IsPart bytes → ⊥
not_both sent bytes whole part =
    let legal = part.legal in
    let both = same_length (length (body_of part.sent)) (length (body_of sent)) (body_of part.sent) (body_of sent ++ part.rest) (length_fits part.sent legal) (length_fits sent whole.legal)
    (part.is ∙ ap (λ (b : List ℕ). b ++ part.rest) whole.is ∙ append_assoc (be32 (length (body_of sent))) (body_of sent) part.rest) in
    let count = ap (λ (b : List ℕ). length b) both.1 in
    let some = part.some in
    omega (arith, both.0, count, length-append (body_of sent) part.rest, some)

-- behind its first bytes stands the rest
pub rest_of : (bytes front new : List ℕ) (k : ℕ) → length front ≡ k → bytes ≡ front ++ new → front ++ take (length bytes - k) (drop k bytes) ≡ bytes
rest_of bytes front new k count is =
    ap (λ l. front ++ l) (take_rest {X = ℕ} bytes k ∙ ap (drop k) is ∙ drop_at front new k count) ∙ sym is

-- the body that is read behind a length fits
pub body_within : (bytes new : List ℕ) (n : ℕ) → bytes ≡ be32 n ++ new → n < 2 ^ 32 → length bytes ≤ size_of bytes → length (take (length bytes - 4) (drop 4 bytes)) ≤ n
body_within bytes new n is fits sized =
    let rest : take (length bytes - 4) (drop 4 bytes) ≡ new = take_rest {X = ℕ} bytes 4 ∙ ap (drop 4) is ∙ drop_at (be32 n) new 4 refl in
    let P : List ℕ → Type 0 = λ l. length l ≤ size_of l in
    rw rest (body_fits n new fits (subst P is sized))

-- fewer bytes than a length has lack some
pub few_short : (bytes : List ℕ) → length bytes < 4 → IsShort bytes
few_short bytes few = omega (arith, few, size_of-few bytes few)

size_from_small : (n : ℕ) → n ≤ 65544 → size_from n ≡ 4 + n
size_from_small n most = grind (arith, common_steps)

-- the bytes of a request say how many they are
pub size_of-request : (sent : Sent) (rest : List ℕ) → IsLegal sent → size_of (bytes_of sent ++ rest) ≡ length (bytes_of sent)
size_of-request sent rest legal =
    let n = length (body_of sent) in
    let most = (length_of sent legal).most in
    ap size_of (append_assoc (be32 n) (body_of sent) rest) ∙ size_of-number n (body_of sent ++ rest) (length_fits sent legal) ∙ size_from_small n most ∙ sym (length-append (be32 n) (body_of sent))

-- a part of a request lacks some
pub part_short : (bytes : List ℕ) → IsPart bytes → IsShort bytes
part_short bytes part = elim (cases_lt (length bytes) 4) [
  | inl few ↦ few_short bytes few
  | inr long ↦
      let some = part.some in
      let size : size_of bytes ≡ length (bytes_of part.sent) =
      sym (size_of-append bytes part.rest long) ∙ ap size_of (sym part.is) ∙ ap size_of (sym (append-nil (bytes_of part.sent))) ∙ size_of-request part.sent [] part.legal in
      omega (arith, size, ap (λ (b : List ℕ). length b) part.is, length-append bytes part.rest, some)
]

-- the front of a piece that has so many bytes as its first request
pub front_sized : (piece : List ℕ) (size : ℕ) → size ≡ size_of piece → size ≤ length piece → (4 ≤ size) → size_of (take size piece) ≡ size
front_sized piece size is within least =
    let long : 4 ≤ length (take size piece) = omega (arith, length-take size piece, within, least) in
    sym (size_of-append (take size piece) (drop size piece) long) ∙ ap size_of (take-append-drop size piece) ∙ sym is

pub size_of_least : (piece : List ℕ) → 4 ≤ size_of piece
unfolding size_of
size_of_least piece = grind (arith, common_steps, size_from_least)

-- where a piece begins with a request, its front is that request
pub front_request : (piece : List ℕ) (sent : Sent) (rest : List ℕ) → IsLegal sent → piece ≡ bytes_of sent ++ rest → take (size_of piece) piece ≡ bytes_of sent
front_request piece sent rest legal is =
    let size : length (bytes_of sent) ≡ size_of piece = sym (ap size_of is ∙ size_of-request sent rest legal) in
    ap (take (size_of piece)) is ∙ take_at (bytes_of sent) rest (size_of piece) size

pub request_within : (piece : List ℕ) (sent : Sent) (rest : List ℕ) → IsLegal sent → piece ≡ bytes_of sent ++ rest → size_of piece ≤ length piece
request_within piece sent rest legal is =
    omega (arith, ap size_of is ∙ size_of-request sent rest legal, ap (λ (b : List ℕ). length b) is, length-append (bytes_of sent) rest)

-- how many bytes a request has that begins with this length
pub read_size : (bytes left : List ℕ) (said : ℕ) → bytes ≡ be32 said ++ left → said < 2 ^ 32 → size_of bytes ≡ size_from said
read_size bytes left said is fits = ap size_of is ∙ size_of-number said left fits
