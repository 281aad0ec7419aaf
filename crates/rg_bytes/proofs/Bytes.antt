-- Big-endian numbers: bytes to a number and back, at each width.
use Rattle.std.proofs.Common.{◌≡◌, ℕ, ◌+◌, ◌*◌, ◌^◌, ◌<◌, ◌/◌, ◌%◌, List, [], ◌∷◌, ◌++◌, length, get_or, take, drop, refl, ap, sym, ◌∙◌, inl, inr, lit<, arith}
use Rattle.std.specs.Int.{Width, w64, w128, byte_len, from_be_bytes, to_be_bytes}
use Rattle.std.proofs.lemmas.List.{take_at, drop_at, take-append-drop, length-take, length-take-le, length-drop, get_or-take, get_or-drop, get_or_past}
use Rattle.std.proofs.lemmas.Bool.{cases_lt}
use Rattle.std.proofs.lemmas.Nat.{be_bytes_8, from_be_bytes-to_be_bytes_8}

abbrev pub AreBytes : List ℕ → Type 0
AreBytes bytes = (i : ℕ) → get_or bytes i 0 < 256

AreBytes-take : (n : ℕ) (bytes : List ℕ) → AreBytes bytes → AreBytes (take n bytes)
AreBytes-take n bytes small i = elim (cases_lt i n) [
  | inl below ↦ rw (get_or-take n bytes i 0 below) (small i)
  | inr past ↦ rw (get_or_past (take n bytes) i 0 (omega (arith, length-take n bytes))) (lit< tt)
]

AreBytes-drop : (n : ℕ) (bytes : List ℕ) → AreBytes bytes → AreBytes (drop n bytes)
AreBytes-drop n bytes small i = rw get_or-drop (small (n + i))

-- numbers of this width, below this limit, and their bytes say the same
pub record IsWide (w : Width) (limit : ℕ) : Type 0 where
  pub count : (n : ℕ) → length (to_be_bytes w n) ≡ byte_len w
  pub there : (bytes : List ℕ) → length bytes ≡ byte_len w → AreBytes bytes → to_be_bytes w (from_be_bytes w bytes) ≡ bytes
  pub back : (n : ℕ) → n < limit → from_be_bytes w (to_be_bytes w n) ≡ n

pub wide_64 : IsWide w64 (2 ^ 64)
wide_64 = record {
  count = λ n. refl;
  there = λ bytes count small. be_bytes_8 bytes _ count small refl;
  back = λ n below. from_be_bytes-to_be_bytes_8 n below;
}

-- a number is read where its bytes stood
pub taken : (w : Width) (limit : ℕ) → IsWide w limit → (old bytes new : List ℕ) (n : ℕ) → old ≡ bytes ++ new → length bytes ≡ byte_len w → AreBytes bytes → n ≡ from_be_bytes w bytes → old ≡ to_be_bytes w n ++ new
taken w limit wide old bytes new n parts count small is = rw (is, wide.there bytes count small) parts

-- no bytes begin with two numbers
pub read_back : (w : Width) (limit : ℕ) → IsWide w limit → (old new rest : List ℕ) (m n : ℕ) → m < limit → n < limit → old ≡ to_be_bytes w m ++ new → old ≡ to_be_bytes w n ++ rest → (m ≡ n) × (new ≡ rest)
read_back w limit wide old new rest m n m-fits n-fits as_m as_n =
    let same : to_be_bytes w m ++ new ≡ to_be_bytes w n ++ rest = sym as_m ∙ as_n in
    let front : to_be_bytes w m ≡ to_be_bytes w n = sym (take_at (to_be_bytes w m) new (byte_len w) (wide.count m)) ∙ ap (take (byte_len w)) same ∙ take_at (to_be_bytes w n) rest (byte_len w) (wide.count n) in (
      sym (wide.back m m-fits) ∙ ap (from_be_bytes w) front ∙ wide.back n n-fits,
      sym (drop_at (to_be_bytes w m) new (byte_len w) (wide.count m)) ∙ ap (drop (byte_len w)) same ∙ drop_at (to_be_bytes w n) rest (byte_len w) (wide.count n),
    )

-- the upper eight bytes are those of the upper half, and the lower eight those of the lower half
to_be_bytes_halves : (n high low : ℕ) → low < 2 ^ 64 → n ≡ high * 18446744073709551616 + low → to_be_bytes w128 n ≡ to_be_bytes w64 high ++ to_be_bytes w64 low
to_be_bytes_halves n high low below is =
    let at_15 : n / 1329227995784915872903807060280344576 % 256 ≡ high / 72057594037927936 % 256 = omega arith in
    let at_14 : n / 5192296858534827628530496329220096 % 256 ≡ high / 281474976710656 % 256 = omega arith in
    let at_13 : n / 20282409603651670423947251286016 % 256 ≡ high / 1099511627776 % 256 = omega arith in
    let at_12 : n / 79228162514264337593543950336 % 256 ≡ high / 4294967296 % 256 = omega arith in
    let at_11 : n / 309485009821345068724781056 % 256 ≡ high / 16777216 % 256 = omega arith in
    let at_10 : n / 1208925819614629174706176 % 256 ≡ high / 65536 % 256 = omega arith in
    let at_9 : n / 4722366482869645213696 % 256 ≡ high / 256 % 256 = omega arith in
    let at_8 : n / 18446744073709551616 % 256 ≡ high % 256 = omega arith in
    let at_7 : n / 72057594037927936 % 256 ≡ low / 72057594037927936 % 256 = omega arith in
    let at_6 : n / 281474976710656 % 256 ≡ low / 281474976710656 % 256 = omega arith in
    let at_5 : n / 1099511627776 % 256 ≡ low / 1099511627776 % 256 = omega arith in
    let at_4 : n / 4294967296 % 256 ≡ low / 4294967296 % 256 = omega arith in
    let at_3 : n / 16777216 % 256 ≡ low / 16777216 % 256 = omega arith in
    let at_2 : n / 65536 % 256 ≡ low / 65536 % 256 = omega arith in
    let at_1 : n / 256 % 256 ≡ low / 256 % 256 = omega arith in
    let at_0 : n % 256 ≡ low % 256 = omega arith in
    λ i. at_15 i ∷ at_14 i ∷ at_13 i ∷ at_12 i ∷ at_11 i ∷ at_10 i ∷ at_9 i ∷ at_8 i ∷ at_7 i ∷ at_6 i ∷ at_5 i ∷ at_4 i ∷ at_3 i ∷ at_2 i ∷ at_1 i ∷ at_0 i ∷ []

from_be_bytes_halves : (bytes : List ℕ) → from_be_bytes w128 bytes ≡ from_be_bytes w64 (take 8 bytes) * 18446744073709551616 + from_be_bytes w64 (drop 8 bytes)
from_be_bytes_halves bytes = omega (arith, get_or-take {A = ℕ}, get_or-drop {A = ℕ})

pub wide_128 : IsWide w128 (2 ^ 128)
wide_128 = record {
  count = λ n. refl;
  there = λ bytes count small.
      let front : AreBytes (take 8 bytes) = AreBytes-take 8 bytes small in
      let back : AreBytes (drop 8 bytes) = AreBytes-drop 8 bytes small in
      to_be_bytes_halves (from_be_bytes w128 bytes) (from_be_bytes w64 (take 8 bytes)) (from_be_bytes w64 (drop 8 bytes))
      (omega (arith, back 0, back 1, back 2, back 3, back 4, back 5, back 6, back 7)) (from_be_bytes_halves bytes)
      ∙ ap (λ (upper : List ℕ). upper ++ to_be_bytes w64 (from_be_bytes w64 (drop 8 bytes))) (be_bytes_8 (take 8 bytes) _ (length-take-le 8 bytes (omega arith)) front refl)
      ∙ ap (λ (lower : List ℕ). take 8 bytes ++ lower) (be_bytes_8 (drop 8 bytes) _ (omega (arith, length-drop 8 bytes)) back refl)
      ∙ take-append-drop 8 bytes;
  back = λ n below.
      let high = n / 18446744073709551616 in
      let low = n % 18446744073709551616 in
      let high-fits : high < 2 ^ 64 = omega arith in
      let low-fits : low < 2 ^ 64 = omega arith in
      ap (from_be_bytes w128) (to_be_bytes_halves n high low low-fits (omega arith))
      ∙ from_be_bytes_halves (to_be_bytes w64 high ++ to_be_bytes w64 low)
      ∙ ap (λ (m : ℕ). m * 18446744073709551616 + from_be_bytes w64 (to_be_bytes w64 low)) (from_be_bytes-to_be_bytes_8 high high-fits)
      ∙ ap (λ (m : ℕ). high * 18446744073709551616 + m) (from_be_bytes-to_be_bytes_8 low low-fits)
      ∙ omega arith;
}
