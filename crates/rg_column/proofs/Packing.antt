-- Columns of numbers: what is written is read back, and what is read was written so.
use Rattle.std.proofs.Common.{◌≡◌, ◌⊎◌, inl, inr, ℕ, zero, suc, ◌+◌, ◌-◌, ◌<◌, ◌≤◌, ◌^◌, ◌==◌, nat_le, ◌&&◌, Bool, true, false, List, [], ◌∷◌, ◌++◌, map, length, get_or, min, max, Some, None, Ok, Err, refl, ap, sym, ◌∙◌, arith, append_assoc, append-nil, add-one, drop, take, drop-cons, set, length-append}
use Rattle.std.proofs.lemmas.Bool.Decides.{nat_tests}
use Rattle.std.proofs.lemmas.List.{drop_all, take-append-drop}
use Rattle.std.proofs.lemmas.List.Elements.{All-append, All-cons, All-nil, All-head, All-tail}
use Rattle.std.specs.Int.{w64, to_be_bytes}
use Rattle.std.specs.List.{All}
use Rattle.rg_bytes.specs.Reading.{tested, more_at, list_bytes}
use Rattle.rg_bytes.proofs.Laws.{StepsBack, more_back, u8_read, u8_short, u64_read, u64_short}
use Rattle.rg_event.specs.declared.event.Event.{Event}
use Rattle.rg_column.specs.Widths.{Reading, limit, least_width, width_byte, width_said, difference_bytes, difference_at}
use Rattle.rg_column.specs.Numbers.{turned, base_bits, lowest, highest, field_of, least, greatest, width_of, differences_bytes, numbers_bytes, raised, is_packed, differences_at, packed_at, numbers_at, AreOf}
use Rattle.rg_column.specs.declared.fault.ColumnFault.{ColumnFault}
use Rattle.rg_column.specs.declared.fault.ColumnFault.TheVariants.{Short, BadColumn, Memory}
use Rattle.rg_column.specs.declared.series.Series.{Series}
use Rattle.rg_column.specs.declared.series.Series.TheVariants.{Offset, Time, Int, Id}
use Rattle.rg_column.specs.declared.width.Width.{Width}
use Rattle.rg_column.proofs.Widths.{difference_read, least_width_holds, said_back, said_is, one_width}

-- bits of a base

pub turned_back : (number : ℕ) → number < 2 ^ 64 → turned (turned number) ≡ number
turned_back number fits = grind (arith, nat_tests)

pub turned_fits : (number : ℕ) → number < 2 ^ 64 → turned number < 2 ^ 64
turned_fits number fits = grind (arith, nat_tests)

pub bits_back : (series : Series) (base : ℕ) → base < 2 ^ 64 → base_bits series (base_bits series base) ≡ base
bits_back Offset base fits = refl
bits_back Time base fits = refl
bits_back (Int index) base fits = turned_back base fits
bits_back (Id index) base fits = refl

pub bits_fit : (series : Series) (base : ℕ) → base < 2 ^ 64 → base_bits series base < 2 ^ 64
bits_fit Offset base fits = fits
bits_fit Time base fits = fits
bits_fit (Int index) base fits = turned_fits base fits
bits_fit (Id index) base fits = fits

pub highest_fits : (series : Series) → highest series < 2 ^ 64
highest_fits Offset = omega arith
highest_fits Time = omega arith
highest_fits (Int index) = omega arith
highest_fits (Id index) = omega arith

-- the least and the greatest

pub least_below : (numbers : List ℕ) (i d : ℕ) → i < length numbers → least numbers ≤ get_or numbers i d
least_below [] i d within = absurd (omega arith)
least_below (number ∷ numbers) zero d within = omega arith
least_below (number ∷ numbers) (suc i) d within = let rest : least numbers ≤ get_or numbers i d = least_below numbers i d (omega arith) in omega (arith, rest)

pub greatest_above : (numbers : List ℕ) (i d : ℕ) → i < length numbers → get_or numbers i d ≤ greatest numbers
greatest_above [] i d within = absurd (omega arith)
greatest_above (number ∷ numbers) zero d within = omega arith
greatest_above (number ∷ numbers) (suc i) d within = let rest : get_or numbers i d ≤ greatest numbers = greatest_above numbers i d (omega arith) in omega (arith, rest)

pub least_fits : (numbers : List ℕ) → least numbers ≤ 18446744073709551615
least_fits [] = omega arith
least_fits (number ∷ numbers) = let rest : least numbers ≤ 18446744073709551615 = least_fits numbers in omega (arith, rest)

pub greatest_within : (most : ℕ) (numbers : List ℕ) → All (λ number. number ≤ most) numbers → greatest numbers ≤ most
greatest_within most [] all = omega arith
greatest_within most (number ∷ numbers) all =
    let here : number ≤ most = All-head (λ number. number ≤ most) number numbers all in
    let rest : greatest numbers ≤ most = greatest_within most numbers (All-tail (λ number. number ≤ most) number numbers all) in
    omega (arith, here, rest)

-- differences above a base, and the numbers less a base

abbrev pub lowered : ℕ → List ℕ → List ℕ
lowered base numbers = map (λ number. number - base) numbers

pub least_raised : (base : ℕ) (differences : List ℕ) → least (raised base differences) ≡ min 18446744073709551615 (base + least differences)
least_raised base [] = omega arith
least_raised base (difference ∷ differences) =
    let rest : least (raised base differences) ≡ min 18446744073709551615 (base + least differences) = least_raised base differences in
    omega (arith, rest)

pub greatest_raised : (base difference : ℕ) (differences : List ℕ) → greatest (raised base (difference ∷ differences)) ≡ base + greatest (difference ∷ differences)
greatest_raised base difference [] = omega arith
greatest_raised base difference (other ∷ differences) =
    let rest : greatest (raised base (other ∷ differences)) ≡ base + greatest (other ∷ differences) = greatest_raised base other differences in
    omega (arith, rest)

pub lowered_raised : (base : ℕ) (differences : List ℕ) → lowered base (raised base differences) ≡ differences
lowered_raised base [] = refl
lowered_raised base (difference ∷ differences) =
    let here : (difference + base) - base ≡ difference = omega arith in
    λ i. here i ∷ lowered_raised base differences i

pub raised_lowered : (base : ℕ) (numbers : List ℕ) → base ≤ least numbers → raised base (lowered base numbers) ≡ numbers
raised_lowered base [] below = refl
raised_lowered base (number ∷ numbers) below =
    let here : (number - base) + base ≡ number = omega (arith, below) in
    let rest : raised base (lowered base numbers) ≡ numbers = raised_lowered base numbers (omega (arith, below)) in
    λ i. here i ∷ rest i

pub least_lowered : (base number : ℕ) (numbers : List ℕ) → All (λ number. number ≤ 18446744073709551615) (number ∷ numbers) → least (lowered base (number ∷ numbers)) ≡ least (number ∷ numbers) - base
least_lowered base number [] all =
    let here : number ≤ 18446744073709551615 = All-head (λ number. number ≤ 18446744073709551615) number [] all in
    omega (arith, here)
least_lowered base number (other ∷ numbers) all =
    let rest : least (lowered base (other ∷ numbers)) ≡ least (other ∷ numbers) - base = least_lowered base other numbers (All-tail (λ number. number ≤ 18446744073709551615) number (other ∷ numbers) all) in
    omega (arith, rest)

pub greatest_lowered : (base : ℕ) (numbers : List ℕ) → greatest (lowered base numbers) ≡ greatest numbers - base
greatest_lowered base [] = omega arith
greatest_lowered base (number ∷ numbers) =
    let rest : greatest (lowered base numbers) ≡ greatest numbers - base = greatest_lowered base numbers in
    omega (arith, rest)

pub differences_lowered : (width : Width) (base : ℕ) (numbers : List ℕ) → differences_bytes width base numbers ≡ list_bytes (difference_bytes width) (lowered base numbers)
differences_lowered width base [] = refl
differences_lowered width base (number ∷ numbers) = ap (λ bytes. difference_bytes width (number - base) ++ bytes) (differences_lowered width base numbers)

pub length_map : {A B : Type 0} (f : A → B) (items : List A) → length (map f items) ≡ length items
length_map f [] = refl
length_map f (item ∷ items) = ap (λ n. suc n) (length_map f items)

-- where a reading of numbers stops

pub numbers_no_base : (series : Series) (count : ℕ) (old : List ℕ) → length old < 8 → numbers_at series count old ≡ Err Short
unfolding numbers_at
numbers_no_base series count old few = rw (u64_short Short old few) refl

pub numbers_no_width : (series : Series) (count : ℕ) (old : List ℕ) (base : ℕ) (one : List ℕ) → old ≡ to_be_bytes w64 base ++ one → base < 2 ^ 64 → length one < 1 → numbers_at series count old ≡ Err Short
unfolding numbers_at
numbers_no_width series count old base one stood fits few = rw (u64_read Short old base one stood fits, u8_short Short one few) refl

numbers_packed :
    (series : Series) (count : ℕ) (old : List ℕ) (base : ℕ) (one : List ℕ) (byte : ℕ) (two : List ℕ) → old ≡ to_be_bytes w64 base ++ one → base < 2 ^ 64 → one ≡ byte ∷ two
    → numbers_at series count old ≡ packed_at series (base_bits series base) (width_said byte) count two
unfolding numbers_at
numbers_packed series count old base one byte two stood fits behind = rw (u64_read Short old base one stood fits, u8_read Short one byte two behind) refl

pub numbers_bad_width :
    (series : Series) (count : ℕ) (old : List ℕ) (base : ℕ) (one : List ℕ) (byte : ℕ) (two : List ℕ) → old ≡ to_be_bytes w64 base ++ one → base < 2 ^ 64 → one ≡ byte ∷ two → width_said byte ≡ None
    → numbers_at series count old ≡ Err (BadColumn (field_of series))
unfolding packed_at
numbers_bad_width series count old base one byte two stood fits behind none = numbers_packed series count old base one byte two stood fits behind ∙ rw none refl

pub numbers_stop :
    (series : Series) (count : ℕ) (old : List ℕ) (base : ℕ) (one : List ℕ) (byte : ℕ) (two : List ℕ) (width : Width) (fault : ColumnFault) → old ≡ to_be_bytes w64 base ++ one → base < 2 ^ 64 → one ≡ byte ∷ two → width_said byte ≡ Some width
    → (differences_at width count two ≡ Err fault) ⊎ (fault ≡ Memory) → (numbers_at series count old ≡ Err fault) ⊎ (fault ≡ Memory)
unfolding packed_at
numbers_stop series count old base one byte two width fault stood fits behind said (inl stops) = inl (numbers_packed series count old base one byte two stood fits behind ∙ rw (said, stops) refl)
numbers_stop series count old base one byte two width fault stood fits behind said (inr memory) = inr memory

pub numbers_tested :
    (series : Series) (count : ℕ) (old : List ℕ) (base : ℕ) (one : List ℕ) (byte : ℕ) (two : List ℕ) (width : Width) (differences rest : List ℕ) (packed : Bool) → old ≡ to_be_bytes w64 base ++ one → base < 2 ^ 64 → one ≡ byte ∷ two
    → width_said byte ≡ Some width → differences_at width count two ≡ Ok (differences, rest) → is_packed series (base_bits series base) width differences ≡ packed
    → numbers_at series count old ≡ tested (BadColumn (field_of series)) packed (raised (base_bits series base) differences) rest
unfolding packed_at
numbers_tested series count old base one byte two width differences rest packed stood fits behind said read is =
    numbers_packed series count old base one byte two stood fits behind ∙ rw (said, read, is) refl

pub numbers_refused :
    (series : Series) (count : ℕ) (old : List ℕ) (said base : ℕ) (one : List ℕ) (byte : ℕ) (two : List ℕ) (width : Width) (differences rest : List ℕ) → said < 2 ^ 64 → base ≡ base_bits series said → old ≡ to_be_bytes w64 said ++ one
    → one ≡ byte ∷ two → width_said byte ≡ Some width → differences_at width count two ≡ Ok (differences, rest) → is_packed series base width differences ≡ false → numbers_at series count old ≡ Err (BadColumn (field_of series))
numbers_refused series count old said base one byte two width differences rest fits base-is stood behind wide read is =
    numbers_tested series count old said one byte two width differences rest false stood fits behind wide read (ap (λ (b : ℕ). is_packed series b width differences) (sym base-is) ∙ is)

pub numbers_read :
    (series : Series) (count : ℕ) (old : List ℕ) (said base : ℕ) (one : List ℕ) (byte : ℕ) (two : List ℕ) (width : Width) (differences rest numbers : List ℕ) → said < 2 ^ 64 → base ≡ base_bits series said → old ≡ to_be_bytes w64 said ++ one
    → one ≡ byte ∷ two → width_said byte ≡ Some width → differences_at width count two ≡ Ok (differences, rest) → is_packed series base width differences ≡ true → numbers ≡ raised base differences → numbers_at series count old ≡ Ok (numbers, rest)
numbers_read series count old said base one byte two width differences rest numbers fits base-is stood behind wide read packed is =
    numbers_tested series count old said one byte two width differences rest true stood fits behind wide read (ap (λ (b : ℕ). is_packed series b width differences) (sym base-is) ∙ packed)
    ∙ ap (λ (ns : List ℕ). Ok (ns, rest)) (ap (λ (b : ℕ). raised b differences) (sym base-is) ∙ sym is)

-- what a test of differences says

pub record Packed (series : Series) (base : ℕ) (width : Width) (differences : List ℕ) : Type 0 where
  pub from_zero : least differences ≡ 0
  pub as_narrow : width ≡ least_width (greatest differences)
  pub not_below : lowest series ≤ base
  pub not_above : base + greatest differences ≤ highest series

pub packed_parts : (series : Series) (base : ℕ) (width : Width) (differences : List ℕ) → is_packed series base width differences ≡ true → Packed series base width differences
packed_parts series base width differences is =
    let same : width_byte width ≡ width_byte (least_width (greatest differences)) = grind (arith, nat_tests) in
    record {
      from_zero = grind (arith, nat_tests);
      as_narrow = one_width width (least_width (greatest differences)) same;
      not_below = grind (arith, nat_tests);
      not_above = grind (arith, nat_tests);
    }

pub packed_is : (series : Series) (base : ℕ) (width : Width) (differences : List ℕ) → Packed series base width differences → is_packed series base width differences ≡ true
packed_is series base width differences packed =
    let a : least differences ≡ 0 = packed.from_zero in
    let b : width_byte width ≡ width_byte (least_width (greatest differences)) = ap width_byte packed.as_narrow in
    let c : lowest series ≤ base = packed.not_below in
    let d : base + greatest differences ≤ highest series = packed.not_above in
    grind (arith, nat_tests)

-- what was read was written so

some_differences : (base : ℕ) (differences : List ℕ) → least differences ≡ 0 → greatest (raised base differences) ≡ base + greatest differences
some_differences base [] none = absurd (omega arith)
some_differences base (difference ∷ differences) from_zero = greatest_raised base difference differences

pub written_so :
    (series : Series) (base : ℕ) (width : Width) (differences : List ℕ) → base < 2 ^ 64 → Packed series base width differences
    → numbers_bytes series (raised base differences) ≡ to_be_bytes w64 (base_bits series base) ++ width_byte width ∷ list_bytes (difference_bytes width) differences
written_so series base width differences fits packed =
    let from_zero : least differences ≡ 0 = packed.from_zero in
    let first : least (raised base differences) ≡ base = omega (arith, least_raised base differences, from_zero) in
    let last : greatest (raised base differences) ≡ base + greatest differences = some_differences base differences from_zero in
    let span : greatest (raised base differences) - least (raised base differences) ≡ greatest differences = omega (arith, first, last) in
    let wide : width_of (raised base differences) ≡ width = ap least_width span ∙ sym packed.as_narrow in
    rw (wide, first)
    (ap (λ bytes. to_be_bytes w64 (base_bits series base) ++ width_byte width ∷ bytes)
    (differences_lowered width base (raised base differences) ∙ ap (list_bytes (difference_bytes width)) (lowered_raised base differences)))

pub numbers_taken :
    (series : Series) (old : List ℕ) (said base : ℕ) (one : List ℕ) (byte : ℕ) (two : List ℕ) (width : Width) (differences left numbers : List ℕ) → said < 2 ^ 64 → base ≡ base_bits series said → old ≡ to_be_bytes w64 said ++ one
    → one ≡ byte ∷ two → width_said byte ≡ Some width → two ≡ list_bytes (difference_bytes width) differences ++ left → is_packed series base width differences ≡ true → numbers ≡ raised base differences
    → old ≡ numbers_bytes series numbers ++ left
numbers_taken series old said base one byte two width differences left numbers fits base-is stood behind wide rest packed is =
    let base_fits : base < 2 ^ 64 = rw base-is (bits_fit series said fits) in
    let again : base_bits series base ≡ said = ap (base_bits series) base-is ∙ bits_back series said fits in
    let written : numbers_bytes series numbers ≡ to_be_bytes w64 (base_bits series base) ++ width_byte width ∷ list_bytes (difference_bytes width) differences =
    ap (numbers_bytes series) is ∙ written_so series base width differences base_fits (packed_parts series base width differences packed) in
    let byte-is : byte ≡ width_byte width = said_is byte width wide in
    let bytes : List ℕ = list_bytes (difference_bytes width) differences in
    stood ∙ ap (λ (l : List ℕ). to_be_bytes w64 said ++ l) (behind ∙ (λ i. byte-is i ∷ rest i)) ∙ sym (append_assoc (to_be_bytes w64 said) (width_byte width ∷ bytes) left)
    ∙ ap (λ (l : List ℕ). l ++ left) (sym (written ∙ ap (λ (b : ℕ). to_be_bytes w64 b ++ (width_byte width ∷ bytes)) again))

pub are_of : (series : Series) (base : ℕ) (differences : List ℕ) → lowest series ≤ base → base + greatest differences ≤ highest series → AreOf series (raised base differences)
are_of series base [] low high = All-nil (λ number. (lowest series ≤ number) × (number ≤ highest series))
are_of series base (difference ∷ differences) low high =
    All-cons (λ number. (lowest series ≤ number) × (number ≤ highest series)) (difference + base) (raised base differences) (omega (arith, low), omega (arith, high)) (are_of series base differences low (omega (arith, high)))

-- what is written is read back

below_limit : (width : Width) (differences : List ℕ) (so_far : List ℕ) → All (λ difference. difference < limit width) differences → StepsBack (λ _. difference_at width) (difference_bytes width) so_far differences
below_limit width [] so_far all = tt
below_limit width (difference ∷ differences) so_far all = (
  λ rest. difference_read width (difference_bytes width difference ++ rest) difference rest refl (All-head (λ difference. difference < limit width) difference differences all),
  below_limit width differences (so_far ++ difference ∷ []) (All-tail (λ difference. difference < limit width) difference differences all),
)

all_below : (most : ℕ) (width : Width) (differences : List ℕ) → most < 2 ^ 64 → width ≡ least_width most → greatest differences ≤ most → All (λ difference. difference < limit width) differences
all_below most width [] fits is within = All-nil (λ difference. difference < limit width)
all_below most width (difference ∷ differences) fits is within =
    All-cons (λ difference. difference < limit width) difference differences (rw is (least_width_holds difference most (omega (arith, within)) (omega (arith, within, fits)))) (all_below most width differences fits is (omega (arith, within)))

at_most : (series : Series) (numbers : List ℕ) → AreOf series numbers → All (λ number. number ≤ highest series) numbers
at_most series [] all = All-nil (λ number. number ≤ highest series)
at_most series (number ∷ numbers) all =
    All-cons (λ number. number ≤ highest series) number numbers (All-head (λ number. (lowest series ≤ number) × (number ≤ highest series)) number numbers all).1
    (at_most series numbers (All-tail (λ number. (lowest series ≤ number) × (number ≤ highest series)) number numbers all))

fit_all : (series : Series) (numbers : List ℕ) → AreOf series numbers → All (λ number. number ≤ 18446744073709551615) numbers
fit_all series [] all = All-nil (λ number. number ≤ 18446744073709551615)
fit_all series (number ∷ numbers) all =
    let here : number ≤ highest series = (All-head (λ number. (lowest series ≤ number) × (number ≤ highest series)) number numbers all).1 in
    let fits : highest series < 2 ^ 64 = highest_fits series in
    All-cons (λ number. number ≤ 18446744073709551615) number numbers (omega (arith, here, fits))
    (fit_all series numbers (All-tail (λ number. (lowest series ≤ number) × (number ≤ highest series)) number numbers all))

low_enough : (series : Series) (number : ℕ) (numbers : List ℕ) → AreOf series (number ∷ numbers) → lowest series ≤ least (number ∷ numbers)
low_enough series number [] all =
    let here : lowest series ≤ number = (All-head (λ number. (lowest series ≤ number) × (number ≤ highest series)) number [] all).0 in
    let high : number ≤ highest series = (All-head (λ number. (lowest series ≤ number) × (number ≤ highest series)) number [] all).1 in
    let fits : highest series < 2 ^ 64 = highest_fits series in
    omega (arith, here, high, fits)
low_enough series number (other ∷ numbers) all =
    let here : lowest series ≤ number = (All-head (λ number. (lowest series ≤ number) × (number ≤ highest series)) number (other ∷ numbers) all).0 in
    let rest : lowest series ≤ least (other ∷ numbers) = low_enough series other numbers (All-tail (λ number. (lowest series ≤ number) × (number ≤ highest series)) number (other ∷ numbers) all) in
    omega (arith, here, rest)

least_first : (number : ℕ) (numbers : List ℕ) → least (number ∷ numbers) ≤ greatest (number ∷ numbers)
least_first number numbers = omega arith

numbers_packed_so : (series : Series) (number : ℕ) (numbers : List ℕ) → AreOf series (number ∷ numbers) → Packed series (least (number ∷ numbers)) (width_of (number ∷ numbers)) (lowered (least (number ∷ numbers)) (number ∷ numbers))
numbers_packed_so series number numbers all =
    let base : ℕ = least (number ∷ numbers) in
    let most : greatest (number ∷ numbers) ≤ highest series = greatest_within (highest series) (number ∷ numbers) (at_most series (number ∷ numbers) all) in
    let last : greatest (lowered base (number ∷ numbers)) ≡ greatest (number ∷ numbers) - base = greatest_lowered base (number ∷ numbers) in
    let first : least (lowered base (number ∷ numbers)) ≡ least (number ∷ numbers) - base = least_lowered base number numbers (fit_all series (number ∷ numbers) all) in
    let below : base ≤ greatest (number ∷ numbers) = least_first number numbers in
    record {
      from_zero = omega (arith, first);
      as_narrow = ap least_width (sym last);
      not_below = low_enough series number numbers all;
      not_above = omega (arith, last, most, below);
    }

pub numbers_back : (series : Series) (numbers rest : List ℕ) → AreOf series numbers → 0 < length numbers → numbers_at series (length numbers) (numbers_bytes series numbers ++ rest) ≡ Ok (numbers, rest)
numbers_back series [] rest all some = absurd (omega arith)
numbers_back series (number ∷ numbers) rest all some =
    let all_numbers : List ℕ = number ∷ numbers in
    let base : ℕ = least all_numbers in
    let width : Width = width_of all_numbers in
    let differences : List ℕ = lowered base all_numbers in
    let packed : Packed series base width differences = numbers_packed_so series number numbers all in
    let base_fits : base < 2 ^ 64 = omega (arith, least_fits all_numbers) in
    let high : base + greatest differences ≤ highest series = packed.not_above in
    let most_fits : greatest differences < 2 ^ 64 = omega (arith, high, highest_fits series) in
    let counted : length differences ≡ length all_numbers = length_map (λ number. number - base) all_numbers in
    let bytes : List ℕ = list_bytes (difference_bytes width) differences ++ rest in
    let stood : numbers_bytes series all_numbers ++ rest ≡ to_be_bytes w64 (base_bits series base) ++ (width_byte width ∷ bytes) =
    append_assoc (to_be_bytes w64 (base_bits series base)) (width_byte width ∷ differences_bytes width base all_numbers) rest
    ∙ ap (λ (l : List ℕ). to_be_bytes w64 (base_bits series base) ++ (width_byte width ∷ (l ++ rest))) (differences_lowered width base all_numbers) in
    let read : differences_at width (length all_numbers) bytes ≡ Ok (differences, rest) =
    ap (λ (count : ℕ). differences_at width count bytes) (sym counted)
    ∙ more_back (λ _. difference_at width) (difference_bytes width) [] differences rest (below_limit width differences [] (all_below (greatest differences) width differences most_fits packed.as_narrow (omega arith))) in
    let again : base_bits series (base_bits series base) ≡ base = bits_back series base base_fits in
    numbers_tested series (length all_numbers) (numbers_bytes series all_numbers ++ rest) (base_bits series base) (width_byte width ∷ bytes) (width_byte width) bytes width differences rest true stood
    (bits_fit series base base_fits) refl (said_back width) read (ap (λ (b : ℕ). is_packed series b width differences) again ∙ packed_is series base width differences packed)
    ∙ ap (λ (ns : List ℕ). Ok (ns, rest)) (ap (λ (b : ℕ). raised b differences) again ∙ raised_lowered base all_numbers (omega arith))

-- the numbers of events, one at a time

pub greatest_step : (numbers : List ℕ) (i : ℕ) → i < length numbers → greatest (drop i numbers) ≡ max (get_or numbers i 0) (greatest (drop (i + 1) numbers))
greatest_step numbers i within = rw add-one (ap greatest (drop-cons numbers i 0 within))

-- one number more is written
pub put_more :
    (width : Width) (base : ℕ) (number_of : Event → ℕ) (events : List Event) (i : ℕ) (event : Event) (number : ℕ) (all out new : List ℕ) → i < length events → event ≡ get_or events i event → number ≡ number_of event
    → new ≡ out ++ difference_bytes width (number - base) → out ++ differences_bytes width base (map number_of (drop i events)) ≡ all → new ++ differences_bytes width base (map number_of (drop (i + 1) events)) ≡ all
put_more width base number_of events i event number all out new within is said put so_far =
    let parted : drop i events ≡ event ∷ drop (i + 1) events = rw add-one (drop-cons events i event within ∙ ap (λ e. e ∷ drop (suc i) events) (sym is)) in
    let bytes : differences_bytes width base (map number_of (drop i events)) ≡ difference_bytes width (number - base) ++ differences_bytes width base (map number_of (drop (i + 1) events)) =
    rw said (ap (λ (es : List Event). differences_bytes width base (map number_of es)) parted) in
    rw put (append_assoc out (difference_bytes width (number - base)) (differences_bytes width base (map number_of (drop (i + 1) events))) ∙ ap (λ (l : List ℕ). out ++ l) (sym bytes) ∙ so_far)

get_or_map : (f : Event → ℕ) (events : List Event) (i d : ℕ) (event : Event) → i < length events → event ≡ get_or events i event → get_or (map f events) i d ≡ f event
get_or_map f [] i d event within is = absurd (omega arith)
get_or_map f (first ∷ events) zero d event within is = ap f (sym is)
get_or_map f (first ∷ events) (suc i) d event within is = get_or_map f events i d event (omega arith) is

-- the number of one of some events, beside their least and their width
pub number_within :
    (number_of : Event → ℕ) (events : List Event) (i : ℕ) (event : Event) (number base : ℕ) (width : Width) → i < length events → event ≡ get_or events i event → number ≡ number_of event → base ≡ least (map number_of events)
    → width ≡ width_of (map number_of events) → number < 2 ^ 64 → (base ≤ number) × (number - base < limit width)
number_within number_of events i event number base width within is said least-is width-is fits =
    let numbers : List ℕ = map number_of events in
    let counted : length numbers ≡ length events = length_map number_of events in
    let here : get_or numbers i 0 ≡ number = get_or_map number_of events i 0 event within is ∙ sym said in
    let low : least numbers ≤ get_or numbers i 0 = least_below numbers i 0 (omega (arith, counted, within)) in
    let high : get_or numbers i 0 ≤ greatest numbers = greatest_above numbers i 0 (omega (arith, counted, within)) in (
      omega (arith, low, here, least-is),
      rw width-is (least_width_holds (number - base) (greatest numbers - least numbers) (omega (arith, low, high, here, least-is)) (omega (arith, fits))),
    )

pub least_end : (number_of : Event → ℕ) (events : List Event) (i so_far : ℕ) → length events ≤ i → so_far ≤ 18446744073709551615 → min so_far (least (map number_of (drop i events))) ≡ least (map number_of events) → so_far ≡ least (map number_of events)
least_end number_of events i so_far past fits whole =
    let none : least (map number_of (drop i events)) ≡ 18446744073709551615 = ap (λ (es : List Event). least (map number_of es)) (drop_all i events past) in
    omega (arith, none, whole, fits)

-- numbers that are raised one at a time

abbrev pub raised_so_far : ℕ → ℕ → List ℕ → List ℕ
raised_so_far base i differences = raised base (take i differences) ++ drop i differences

raised_at : (base i : ℕ) (differences : List ℕ) → i < length differences → get_or (raised_so_far base i differences) i 0 ≡ get_or differences i 0
raised_at base i [] within = absurd (omega arith)
raised_at base zero (difference ∷ differences) within = refl
raised_at base (suc i) (difference ∷ differences) within = raised_at base i differences (omega arith)

raised_set : (base i : ℕ) (differences : List ℕ) → i < length differences → set (raised_so_far base i differences) i (get_or differences i 0 + base) ≡ raised_so_far base (suc i) differences
raised_set base i [] within = absurd (omega arith)
raised_set base zero (difference ∷ differences) within = refl
raised_set base (suc i) (difference ∷ differences) within = ap (λ l. (difference + base) ∷ l) (raised_set base i differences (omega arith))

pub raise_here : (base : ℕ) (differences items : List ℕ) (i : ℕ) → i < length items → items ≡ raised_so_far base i differences → (i < length differences) × (get_or items i 0 ≡ get_or differences i 0)
raise_here base differences items i within is =
    let counted : length items ≡ length differences = ap (λ (l : List ℕ). length l) is ∙ length-append (raised base (take i differences)) (drop i differences) ∙ ap (λ (n : ℕ). n + length (drop i differences)) (length_map (λ difference. difference + base) (take i differences)) ∙ sym (length-append (take i differences) (drop i differences)) ∙ ap (λ (l : List ℕ). length l) (take-append-drop i differences) in
    let inside : i < length differences = omega (arith, counted, within) in
    (inside, ap (λ (l : List ℕ). get_or l i 0) is ∙ raised_at base i differences inside)

pub raise_more : (base : ℕ) (differences items : List ℕ) (i : ℕ) → i < length items → items ≡ raised_so_far base i differences → set items i (get_or items i 0 + base) ≡ raised_so_far base (i + 1) differences
raise_more base differences items i within is =
    let here = raise_here base differences items i within is in
    rw add-one (ap (λ (n : ℕ). set items i (n + base)) here.1 ∙ ap (λ (l : List ℕ). set l i (get_or differences i 0 + base)) is ∙ raised_set base i differences here.0)

pub raised_are : (series : Series) (base : ℕ) (width : Width) (differences numbers : List ℕ) → is_packed series base width differences ≡ true → numbers ≡ raised base differences → AreOf series numbers
raised_are series base width differences numbers packed is =
    let parts = packed_parts series base width differences packed in
    rw is (are_of series base differences parts.not_below parts.not_above)

pub packed_fits : (series : Series) (base : ℕ) (width : Width) (differences : List ℕ) → is_packed series base width differences ≡ true → base + greatest differences < 2 ^ 64
packed_fits series base width differences packed =
    let parts = packed_parts series base width differences packed in
    omega (arith, parts.not_above, highest_fits series)
