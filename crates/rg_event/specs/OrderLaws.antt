-- The order of values is one, ties those alone that are equal, and is that of their tagged bytes.
use Rattle.std.specs.Prelude.{◌≡◌, ℕ, ◌+◌, ◌-◌, ◌*◌, ◌%◌, ◌^◌, ◌<◌, ◌==◌, zero, suc, ℤ, pos, negsuc, Bool, true, false, List, bytes_eq, unsigned_abs, int_lt, ◌≤◌, refl}
use Rattle.std.proofs.Common.{ap, sym, ◌∙◌, subst, arith, pow-suc, mul_comm, mul-le-mul_right}
use Rattle.std.proofs.Math.Arith.{mod-mul}
use Rattle.std.proofs.Math.Nat.{pow-le-pow_right}
use Rattle.std.proofs.lemmas.Bool.Decides.{nat_tests}
use Rattle.std.proofs.lemmas.Cmp.{nat_cmp_total, int_cmp_total, on_total, then_total, ranked}
use Rattle.std.specs.Cmp.{IsTotalOrder, bool_cmp_total, unsigned_ties, nat_cmp_is}
use Rattle.std.specs.Cmp.Lexicographic.{slice_cmp}
use Rattle.std.specs.Int.{w64, byte_at, bytes_high_first, to_be_bytes, cast_unsigned}
use Rattle.std.specs.Ordering.{nat_cmp, int_eq, ordering_then, is_eq, eq_by_cmp}
use Rattle.std.specs.declared.cmp.Ordering.{Ordering}
use Rattle.std.specs.declared.cmp.Ordering.TheVariants.{Less, Equal, Greater}
use mathlib.Core.Bool.{beq}
use Rattle.rg_event.specs.Order.{is_below_zero, complement_cmp, number_in, text_in, value_cmp}
use Rattle.rg_event.specs.Tagged.{tag_of, value_kind, tagged_bytes, IsLegal}
use Rattle.rg_event.specs.WordLaws.{word_total, word_ties}
use Rattle.rg_event.specs.declared.value.Value.{Value}
use Rattle.rg_event.specs.declared.value.Value.TheVariants.{Int, Id, Text, Flag}

pub value_total : IsTotalOrder value_cmp
value_total =
    then_total (on_total (λ value. tag_of (value_kind value)) nat_cmp_total)
    (then_total (on_total number_in (then_total (on_total is_below_zero bool_cmp_total) int_cmp_total)) (on_total text_in word_total))

-- the ties

-- what is behind a tie decides, and behind nothing else there is one
then_equal : (order : Ordering) → ordering_then order Equal ≡ order
then_equal Less = refl
then_equal Equal = refl
then_equal Greater = refl

sign_ties : (m n : ℤ) → int_eq m n ≡ is_eq (complement_cmp m n)
sign_ties (pos m) (pos n) = refl
sign_ties (pos m) (negsuc n) = refl
sign_ties (negsuc m) (pos n) = refl
sign_ties (negsuc m) (negsuc n) = refl

-- ids in the place of ints go as numbers
id_order : (m n : ℕ) → complement_cmp (pos m) (pos n) ≡ nat_cmp m n
id_order m n = grind (arith, nat_tests)

-- a test of equality that is so in each case holds of what the order ties, and of nothing else
pub ties_of : (E : Value → Value → Bool)
    → ((m n : ℤ) → E (Int m) (Int n) ≡ int_eq m n) → ((m n : ℕ) → E (Id m) (Id n) ≡ (m == n))
    → ((s t : List ℕ) → E (Text s) (Text t) ≡ bytes_eq s t) → ((f g : Bool) → E (Flag f) (Flag g) ≡ beq f g)
    → ((m : ℤ) (n : ℕ) → E (Int m) (Id n) ≡ false) → ((m : ℤ) (t : List ℕ) → E (Int m) (Text t) ≡ false) → ((m : ℤ) (g : Bool) → E (Int m) (Flag g) ≡ false)
    → ((m : ℕ) (n : ℤ) → E (Id m) (Int n) ≡ false) → ((m : ℕ) (t : List ℕ) → E (Id m) (Text t) ≡ false) → ((m : ℕ) (g : Bool) → E (Id m) (Flag g) ≡ false)
    → ((s : List ℕ) (n : ℤ) → E (Text s) (Int n) ≡ false) → ((s : List ℕ) (n : ℕ) → E (Text s) (Id n) ≡ false) → ((s : List ℕ) (g : Bool) → E (Text s) (Flag g) ≡ false)
    → ((f : Bool) (n : ℤ) → E (Flag f) (Int n) ≡ false) → ((f : Bool) (n : ℕ) → E (Flag f) (Id n) ≡ false) → ((f : Bool) (t : List ℕ) → E (Flag f) (Text t) ≡ false)
    → (first second : Value) → E first second ≡ eq_by_cmp value_cmp first second
ties_of E ints ids texts flags a b c d e f g h i j k l (Int m) (Int n) = ints m n ∙ (sign_ties m n ∙ ap is_eq (sym (then_equal (complement_cmp m n))))
ties_of E ints ids texts flags a b c d e f g h i j k l (Id m) (Id n) = ids m n ∙ (unsigned_ties m n ∙ ap is_eq (sym (id_order m n) ∙ sym (then_equal (complement_cmp (pos m) (pos n)))))
ties_of E ints ids texts flags a b c d e f g h i j k l (Text s) (Text t) = texts s t ∙ word_ties s t
ties_of E ints ids texts flags a b c d e f g h i j k l (Flag true) (Flag true) = flags true true
ties_of E ints ids texts flags a b c d e f g h i j k l (Flag true) (Flag false) = flags true false
ties_of E ints ids texts flags a b c d e f g h i j k l (Flag false) (Flag true) = flags false true
ties_of E ints ids texts flags a b c d e f g h i j k l (Flag false) (Flag false) = flags false false
ties_of E ints ids texts flags a b c d e f g h i j k l (Int m) (Id n) = a m n
ties_of E ints ids texts flags a b c d e f g h i j k l (Int m) (Text t) = b m t
ties_of E ints ids texts flags a b c d e f g h i j k l (Int m) (Flag y) = c m y
ties_of E ints ids texts flags a b c d e f g h i j k l (Id m) (Int n) = d m n
ties_of E ints ids texts flags a b c d e f g h i j k l (Id m) (Text t) = e m t
ties_of E ints ids texts flags a b c d e f g h i j k l (Id m) (Flag y) = f m y
ties_of E ints ids texts flags a b c d e f g h i j k l (Text s) (Int n) = g s n
ties_of E ints ids texts flags a b c d e f g h i j k l (Text s) (Id n) = h s n
ties_of E ints ids texts flags a b c d e f g h i j k l (Text s) (Flag y) = i s y
ties_of E ints ids texts flags a b c d e f g h i j k l (Flag x) (Int n) = j x n
ties_of E ints ids texts flags a b c d e f g h i j k l (Flag x) (Id n) = k x n
ties_of E ints ids texts flags a b c d e f g h i j k l (Flag x) (Text t) = l x t

pub below_zero : (number : ℤ) → is_below_zero number ≡ int_lt number (pos 0)
below_zero (pos n) = grind (arith, nat_tests)
below_zero (negsuc n) = refl

-- the bytes

add-one_mul : (y unit : ℕ) → (y + 1) * unit ≡ y * unit + unit
add-one_mul y unit = omega arith

-- the highest byte, and then those below it, go as the number
high_byte : (x y a b m n unit : ℕ) → a ≡ x * unit + m → b ≡ y * unit + n → m < unit → n < unit → ordering_then (nat_cmp x y) (nat_cmp m n) ≡ nat_cmp a b
high_byte x y a b m n unit first second one two = by (nat_cmp x y) refl
  where
    by : (order : Ordering) → order ≡ nat_cmp x y → ordering_then order (nat_cmp m n) ≡ nat_cmp a b
    by Less is =
        let less : x < y = ranked x y Less is in
        let wide : x * unit + unit ≤ y * unit = subst (λ k. k ≤ y * unit) (add-one_mul x unit) (mul-le-mul_right {m = x + 1} {n = y} unit (omega arith)) in
        nat_cmp_is a b Less (omega arith)
    by Equal is =
        let same : x ≡ y = ranked x y Equal is in
        let first_same : a ≡ y * unit + m = rw (← same) first in
        grind (arith, nat_tests)
    by Greater is =
        let more : y < x = ranked x y Greater is in
        let wide : y * unit + unit ≤ x * unit = subst (λ k. k ≤ x * unit) (add-one_mul y unit) (mul-le-mul_right {m = y + 1} {n = x} unit (omega arith)) in
        nat_cmp_is a b Greater (omega arith)

-- one more byte in front of the low k bytes
byte_on : (k n : ℕ) → n % 256 ^ suc k ≡ byte_at k n * 256 ^ k + n % 256 ^ k
byte_on zero n = omega arith
byte_on (suc k) n =
    let unit = 256 ^ suc k in
    let wider : 256 ^ suc (suc k) ≡ 256 * unit = pow-suc 256 (suc k) ∙ mul_comm unit 256 in
    let some : 0 < unit = pow-le-pow_right {n = 256} (omega arith) {i = 0} {j = suc k} (omega arith) in
    rw (wider, mod-mul n {m = 256} {c = unit} (omega arith) some) (omega arith)

below_unit : (k n : ℕ) → n % 256 ^ k < 256 ^ k
below_unit k n =
    let some : 0 < 256 ^ k = pow-le-pow_right {n = 256} (omega arith) {i = 0} {j = k} (omega arith) in
    omega arith

bytes_order : (k m n : ℕ) → slice_cmp nat_cmp (bytes_high_first k m) (bytes_high_first k n) ≡ nat_cmp (m % 256 ^ k) (n % 256 ^ k)
bytes_order zero m n = grind (arith, nat_tests)
bytes_order (suc k) m n =
    ap (ordering_then (nat_cmp (byte_at k m) (byte_at k n))) (bytes_order k m n)
    ∙ high_byte (byte_at k m) (byte_at k n) (m % 256 ^ suc k) (n % 256 ^ suc k) (m % 256 ^ k) (n % 256 ^ k) (256 ^ k) (byte_on k m) (byte_on k n) (below_unit k m) (below_unit k n)

number_order : (m n : ℕ) → m < 2 ^ 64 → n < 2 ^ 64 → slice_cmp nat_cmp (to_be_bytes w64 m) (to_be_bytes w64 n) ≡ nat_cmp m n
number_order m n first second =
    let one : m % 256 ^ 8 ≡ m = omega arith in
    let two : n % 256 ^ 8 ≡ n = omega arith in
    bytes_order 8 m n ∙ (ap (λ k. nat_cmp k (n % 256 ^ 8)) one ∙ ap (nat_cmp m) two)

complement_order : (m n : ℤ) → unsigned_abs m ≤ 1000000000000 → unsigned_abs n ≤ 1000000000000 → nat_cmp (cast_unsigned w64 m) (cast_unsigned w64 n) ≡ complement_cmp m n
complement_order (pos m) (pos n) first second = sym (id_order m n)
complement_order (pos m) (negsuc n) first second = sym (nat_cmp_is m (2 ^ 64 - suc n) Less (omega arith))
complement_order (negsuc m) (pos n) first second = sym (nat_cmp_is (2 ^ 64 - suc m) n Greater (omega arith))
complement_order (negsuc m) (negsuc n) first second = grind (arith, nat_tests)

fits : (n : ℤ) → unsigned_abs n ≤ 1000000000000 → cast_unsigned w64 n < 2 ^ 64
fits (pos n) few = omega arith
fits (negsuc n) few = omega arith

-- legal values of one kind go by their tagged bytes
pub by_bytes : (first second : Value) → IsLegal first → IsLegal second → value_kind first ≡ value_kind second → slice_cmp nat_cmp (tagged_bytes first) (tagged_bytes second) ≡ value_cmp first second
by_bytes (Int m) (Int n) one two kind = number_order _ _ (fits m one) (fits n two) ∙ (complement_order m n one two ∙ sym (then_equal (complement_cmp m n)))
by_bytes (Id m) (Id n) one two kind = number_order m n one two ∙ (sym (id_order m n) ∙ sym (then_equal (complement_cmp (pos m) (pos n))))
by_bytes (Text s) (Text t) one two kind = refl
by_bytes (Flag true) (Flag true) one two kind = refl
by_bytes (Flag true) (Flag false) one two kind = refl
by_bytes (Flag false) (Flag true) one two kind = refl
by_bytes (Flag false) (Flag false) one two kind = refl
by_bytes first second one two kind = cc
