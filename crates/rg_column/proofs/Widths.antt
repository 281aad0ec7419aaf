-- Numbers of each width, as they are written and read.
use Rattle.std.proofs.Common.{◌≡◌, ℕ, ◌<◌, ◌≤◌, ◌^◌, ◌%◌, List, [], ◌∷◌, ◌++◌, length, Some, Ok, Err, refl, ap, ◌∙◌, arith, length-append}
use Rattle.std.proofs.lemmas.Grind.{common_steps}
use Rattle.std.proofs.lemmas.Bool.Decides.{nat_tests}
use Rattle.std.proofs.lemmas.Nat.{from_be_bytes-to_be_bytes_2, from_be_bytes-to_be_bytes_4, from_be_bytes-to_be_bytes_8}
use Rattle.std.specs.Int.{byte_len, to_be_bytes, from_be_bytes}
use Rattle.rg_bytes.proofs.Laws.{bytes_read, bytes_short, both_answers}
use Rattle.rg_column.specs.Widths.{bits, limit, least_width, width_byte, width_said, difference_bytes, difference_at}
use Rattle.rg_column.specs.declared.fault.ColumnFault.TheVariants.{Short}
use Rattle.rg_column.specs.declared.width.Width.{Width}
use Rattle.rg_column.specs.declared.width.Width.TheVariants.{One, Two, Four, Eight}

pub one_byte : (number : ℕ) → number < 256 → difference_bytes One number ≡ number ∷ []
one_byte number fits = let same : number % 256 ≡ number = omega arith in ap (λ byte. byte ∷ []) same

counted : (width : Width) (number : ℕ) → length (difference_bytes width number) ≡ byte_len (bits width)
counted One number = refl
counted Two number = refl
counted Four number = refl
counted Eight number = refl

back : (width : Width) (number : ℕ) → number < limit width → from_be_bytes (bits width) (difference_bytes width number) ≡ number
back One number fits = omega arith
back Two number fits = from_be_bytes-to_be_bytes_2 number fits
back Four number fits = from_be_bytes-to_be_bytes_4 number fits
back Eight number fits = from_be_bytes-to_be_bytes_8 number fits

-- one law for every width
pub difference_read : (width : Width) (old : List ℕ) (number : ℕ) (rest : List ℕ) → old ≡ difference_bytes width number ++ rest → number < limit width → difference_at width old ≡ Ok (number, rest)
unfolding difference_at
difference_read width old number rest stood fits =
    rw (bytes_read Short (byte_len (bits width)) old (difference_bytes width number) rest stood (counted width number), back width number fits) refl

pub difference_short : (width : Width) (old : List ℕ) → length old < byte_len (bits width) → difference_at width old ≡ Err Short
unfolding difference_at
difference_short width old few = rw (bytes_short Short (byte_len (bits width)) old few) refl

-- the least width of a number holds each number that isn't above it
pub least_width_holds : (number most : ℕ) → number ≤ most → number < 2 ^ 64 → number < limit (least_width most)
least_width_holds number most below fits = grind (arith, nat_tests)

-- a width is what its byte says
pub said_back : (width : Width) → width_said (width_byte width) ≡ Some width
said_back One = refl
said_back Two = refl
said_back Four = refl
said_back Eight = refl

pub said_is : (byte : ℕ) (width : Width) → width_said byte ≡ Some width → byte ≡ width_byte width
said_is byte One said = grind (arith, nat_tests, common_steps)
said_is byte Two said = grind (arith, nat_tests, common_steps)
said_is byte Four said = grind (arith, nat_tests, common_steps)
said_is byte Eight said = grind (arith, nat_tests, common_steps)

pub one_width : (a b : Width) → width_byte a ≡ width_byte b → a ≡ b
one_width One One same = refl
one_width Two Two same = refl
one_width Four Four same = refl
one_width Eight Eight same = refl
one_width a b same = absurd (omega arith)

-- no bytes begin with two numbers
pub one_number :
    (width : Width) (old new rest : List ℕ) (m n : ℕ) → m < limit width → n < limit width → old ≡ difference_bytes width m ++ new → old ≡ difference_bytes width n ++ rest → (m ≡ n) × (new ≡ rest)
one_number width old new rest m n m-fits n-fits as_m as_n =
    both_answers (difference_at width old) m n new rest (difference_read width old m new as_m m-fits) (difference_read width old n rest as_n n-fits)

pub long_enough : (width : Width) (old : List ℕ) (number : ℕ) (rest : List ℕ) → old ≡ difference_bytes width number ++ rest → byte_len (bits width) ≤ length old
long_enough width old number rest stood = rw stood (omega (arith, length-append (difference_bytes width number) rest, counted width number))
