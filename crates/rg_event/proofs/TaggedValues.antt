-- Values that say their kind, as they are read and written.
use Rattle.std.proofs.Common.{◌≡◌, ◌<◌, ◌^◌, ◌++◌, ℕ, ℤ, true, false, List, [], ◌∷◌, length, get_or, take, drop, Some, None, Result, Ok, Err, refl, sym, ap, ◌∙◌, arith}
use Rattle.std.proofs.lemmas.Int.{to_z-of_z}
use Rattle.std.proofs.lemmas.List.{take_at, drop_at}
use Rattle.std.specs.Int.{w64, to_be_bytes, cast_signed, cast_unsigned}
use Rattle.std.specs.Int.RustNames.{FitsSigned}
use Rattle.rg_bytes.proofs.Laws.{both_answers}
use Rattle.rg_event.specs.Codec.{Agrees, value_bytes, number_at, value_at}
use Rattle.rg_event.specs.Tagged.{value_kind, IsLegal, IsStorable, tag_of, kind_of, tagged_bytes, tagged_at}
use Rattle.rg_event.specs.declared.codec.EventFault.{EventFault}
use Rattle.rg_event.specs.declared.codec.EventFault.TheVariants.{Short, BadValue}
use Rattle.rg_event.specs.declared.value.Kind.{Kind}
use Rattle.rg_event.specs.declared.value.Kind.TheVariants.{Int, Id, Text, Flag}
use Rattle.rg_event.specs.declared.value.Value.{Value}
use Rattle.rg_event.specs.declared.value.Value.TheVariants.{Int as IntValue, Id as IdValue, Text as TextValue, Flag as FlagValue}
use Rattle.rg_event.proofs.Decoding.{number_read, unsigned_fits}
use Rattle.rg_event.proofs.RoundTrip.{value_reads_back}

-- tags and kinds

said : (kind : Kind) → kind_of (tag_of kind) ≡ Some kind
said Int = refl
said Id = refl
said Text = refl
said Flag = refl

-- reading

pub tagged_short : (old : List ℕ) → length old < 1 → tagged_at old ≡ Err Short
unfolding tagged_at
tagged_short [] few = refl
tagged_short (byte ∷ old) few = absurd (omega arith)

tagged_value : (old : List ℕ) (tag : ℕ) (bytes : List ℕ) (kind : Kind) → old ≡ tag ∷ bytes → kind_of tag ≡ Some kind → tagged_at old ≡ value_at kind 0 bytes
unfolding tagged_at
tagged_value old tag bytes kind stood is = rw (stood, is) refl

pub tagged_unknown : (old : List ℕ) (tag : ℕ) (bytes : List ℕ) → old ≡ tag ∷ bytes → kind_of tag ≡ None → tagged_at old ≡ Err (BadValue 0)
unfolding tagged_at
tagged_unknown old tag bytes stood none = rw (stood, none) refl

-- what a value's reader answers is what the tagged one does
pub agrees_tagged : (old : List ℕ) (tag : ℕ) (bytes : List ℕ) (kind : Kind) (result : Result Value EventFault) (left : List ℕ) → old ≡ tag ∷ bytes → kind_of tag ≡ Some kind
    → Agrees (value_at kind 0 bytes) result left → Agrees (tagged_at old) result left
agrees_tagged old tag bytes kind result left stood is agrees = rw (tagged_value old tag bytes kind stood is) agrees

pub tagged_reads_back : (value : Value) (rest : List ℕ) → IsLegal value → tagged_at (tagged_bytes value ++ rest) ≡ Ok (value, rest)
tagged_reads_back value rest is =
    tagged_value _ (tag_of (value_kind value)) (value_bytes value ++ rest) (value_kind value) refl (said (value_kind value)) ∙ value_reads_back (value_kind value) 0 value rest is

pub read_back : (value : Value) (old rest : List ℕ) → IsLegal value → old ≡ tagged_bytes value ++ rest → tagged_at old ≡ Ok (value, rest)
read_back value old rest is stood = ap tagged_at stood ∙ tagged_reads_back value rest is

-- no tagged value begins another

same_number : (m n : ℕ) (behind rest : List ℕ) → m < 2 ^ 64 → n < 2 ^ 64 → to_be_bytes w64 m ++ behind ≡ to_be_bytes w64 n ++ rest → (m ≡ n) × (behind ≡ rest)
same_number m n behind rest first second same =
    let one : number_at (to_be_bytes w64 n ++ rest) ≡ Ok (m, behind) = ap number_at (sym same) ∙ number_read m behind first in
    both_answers (number_at (to_be_bytes w64 n ++ rest)) m n behind rest one (number_read n rest second)

same_int : (first second : ℤ) → FitsSigned w64 first → FitsSigned w64 second → cast_unsigned w64 first ≡ cast_unsigned w64 second → first ≡ second
same_int first second one two same = sym (to_z-of_z w64 first one) ∙ (ap (cast_signed w64) same ∙ to_z-of_z w64 second two)

same_text : (first second behind rest : List ℕ) → length first ≡ length second → first ++ behind ≡ second ++ rest → (first ≡ second) × (behind ≡ rest)
same_text first second behind rest counted same = (
  sym (take_at first behind (length first) refl) ∙ (ap (take (length first)) same ∙ take_at second rest (length first) (sym counted)),
  sym (drop_at first behind (length first) refl) ∙ (ap (drop (length first)) same ∙ drop_at second rest (length first) (sym counted)),
)

-- the byte at this place
abbrev byte_at : ℕ → List ℕ → ℕ
byte_at place bytes = get_or bytes place 0

pub prefix_free : (first second : Value) (behind rest : List ℕ) → IsStorable first → IsStorable second → tagged_bytes first ++ behind ≡ tagged_bytes second ++ rest → (first ≡ second) × (behind ≡ rest)
prefix_free (IntValue m) (IntValue n) behind rest one two same =
    let parts = same_number (cast_unsigned w64 m) (cast_unsigned w64 n) behind rest (unsigned_fits m one) (unsigned_fits n two) (ap (drop 1) same) in
    (ap (λ (number : ℤ). IntValue number) (same_int m n one two parts.0), parts.1)
prefix_free (IdValue m) (IdValue n) behind rest one two same =
    let parts = same_number m n behind rest one two (ap (drop 1) same) in
    (ap (λ (number : ℕ). IdValue number) parts.0, parts.1)
prefix_free (TextValue first) (TextValue second) behind rest one two same =
    let parts = same_text first second behind rest (ap (byte_at 1) same) (ap (drop 2) same) in
    (ap (λ (text : List ℕ). TextValue text) parts.0, parts.1)
prefix_free (FlagValue true) (FlagValue true) behind rest one two same = (refl, ap (drop 2) same)
prefix_free (FlagValue false) (FlagValue false) behind rest one two same = (refl, ap (drop 2) same)
prefix_free (FlagValue true) (FlagValue false) behind rest one two same = absurd (omega (arith, ap (byte_at 1) same))
prefix_free (FlagValue false) (FlagValue true) behind rest one two same = absurd (omega (arith, ap (byte_at 1) same))
prefix_free first second behind rest one two same =
    let tag : tag_of (value_kind first) ≡ tag_of (value_kind second) = ap (byte_at 0) same in
    absurd (omega (arith, tag))
