-- What is read as an event in bytes is an event of the columns.
use Rattle.std.proofs.Common.{◌≡◌, ◌∙◌, ℕ, ◌+◌, ◌^◌, ◌≤◌, ◌<◌, nat_le, Bool, true, false, List, [], ◌∷◌, length, take, drop, Ok, Err, refl, sym, ap, subst, arith}
use Rattle.std.proofs.lemmas.Bool.{leb-true, le-leb}
use Rattle.std.proofs.lemmas.List.{length-take-le}
use Rattle.std.proofs.lemmas.List.Elements.{All-head, All-tail, All-take, All-drop}
use Rattle.std.specs.Prelude.{All, unsigned_abs, ◌==◌}
use Rattle.std.specs.Int.{Width, w32, w64, byte_len, from_be_bytes, cast_signed}
use Rattle.std.specs.Str.{is_utf8}
use Rattle.rg_bytes.specs.Reading.{Reading, and_then, tested, bytes_at, number_at, u8_at, u32_at, u64_at}
use Rattle.rg_event.specs.Codec.{IsValueOf, AreValuesOf, IsEventOf, number_up_to_at, int_at, id_at, text_at, flag_at, value_at, values_at, event_at}
use Rattle.rg_event.specs.Words.{is_word}
use Rattle.rg_event.specs.declared.codec.EventFault.TheVariants.{Short, BadValue}
use Rattle.rg_event.specs.declared.event.Event.{Event}
use Rattle.rg_event.specs.declared.schema.Field.{Field}
use Rattle.rg_event.specs.declared.value.Kind.{Kind}
use Rattle.rg_event.specs.declared.value.Kind.TheVariants.{Int, Id, Text, Flag}
use Rattle.rg_event.specs.declared.value.Value.{Value}
use Rattle.rg_event.specs.declared.value.Value.TheVariants.{Int as IntValue, Id as IdValue, Text as TextValue, Flag as FlagValue}
use Rattle.rg_frame.specs.Bytes.{IsByte}
use Rattle.rg_frame.proofs.Laws.{eight_small}
use Rattle.rg_chunk.specs.Heads.{stamp_at}

-- two readings, one behind the other
pub record Both {F A B : Type 0} (first : Reading F A) (next : A → List ℕ → Reading F B) (out : B) (rest : List ℕ) : Type 0 where
  pub value : A
  pub left : List ℕ
  pub is : first ≡ Ok (value, left)
  pub more : next value left ≡ Ok (out, rest)

pub both_read : {F A B : Type 0} (first : Reading F A) (next : A → List ℕ → Reading F B) (out : B) (rest : List ℕ) → and_then first next ≡ Ok (out, rest) → Both first next out rest
both_read (Ok (value, left)) next out rest e = record { value = value; left = left; is = refl; more = e }
both_read (Err fault) next out rest e = absurd cc

abbrev value_in : {F A : Type 0} → A → Reading F A → A
value_in other (Ok read) = read.0
value_in other (Err fault) = other

abbrev left_in : {F A : Type 0} → Reading F A → List ℕ
left_in (Ok read) = read.1
left_in (Err fault) = []

pub same_pair : {F A : Type 0} (r : Reading F A) (a b : A) (x y : List ℕ) → r ≡ Ok (a, x) → r ≡ Ok (b, y) → (a ≡ b) × (x ≡ y)
same_pair r a b x y one other = (ap (value_in a) (sym one ∙ other), ap left_in (sym one ∙ other))

pub passed : {F A : Type 0} (fault : F) (test : Bool) (value out : A) (left rest : List ℕ) → tested fault test value left ≡ Ok (out, rest) → (test ≡ true) × (value ≡ out) × (left ≡ rest)
passed fault true value out left rest e = let f = same_pair (tested fault true value left) value out left rest refl e in (refl, f.0, f.1)
passed fault false value out left rest e = absurd cc

pub taken : {F : Type 0} (short : F) (count : ℕ) (bytes front left : List ℕ) → bytes_at short count bytes ≡ Ok (front, left) → (take count bytes ≡ front) × (drop count bytes ≡ left) × (count ≤ length bytes)
unfolding bytes_at
taken short count bytes front left e = by (nat_le count (length bytes)) refl
  where
    by : (b : Bool) → nat_le count (length bytes) ≡ b → (take count bytes ≡ front) × (drop count bytes ≡ left) × (count ≤ length bytes)
    by true t = let f = same_pair (bytes_at short count bytes) (take count bytes) front (drop count bytes) left (rw t refl) e in (f.0, f.1, leb-true count (length bytes) t)
    by false f = absurd (let g : Err short ≡ Ok (front, left) = sym (rw f refl) ∙ e in cc)

pub number_small : {F : Type 0} (short : F) (bytes : List ℕ) (n : ℕ) (left : List ℕ) → All IsByte bytes → u64_at short bytes ≡ Ok (n, left) → (n < 2 ^ 64) × All IsByte left
unfolding u64_at
number_small short bytes n left small e =
    let b = both_read (bytes_at short 8 bytes) (λ front left. Ok (from_be_bytes w64 front, left)) n left e in
    let t = taken short 8 bytes b.value b.left b.is in
    let f = same_pair (Ok (from_be_bytes w64 b.value, b.left)) (from_be_bytes w64 b.value) n b.left left refl b.more in (
      subst (λ (m : ℕ). m < 2 ^ 64) f.0 (eight_small b.value (subst (λ (l : List ℕ). All IsByte l) t.0 (All-take IsByte 8 bytes small))),
      subst (λ (l : List ℕ). All IsByte l) (t.1 ∙ f.1) (All-drop IsByte 8 bytes small),
    )

number_within : (most : ℕ) (bytes : List ℕ) (n : ℕ) (left : List ℕ) → All IsByte bytes → number_up_to_at most bytes ≡ Ok (n, left) → (n ≤ most) × All IsByte left
unfolding number_up_to_at
number_within most bytes n left small e =
    let b = both_read (u64_at Short bytes) (λ number left. tested (BadValue 0) (nat_le number most) number left) n left e in
    let p = passed (BadValue 0) (nat_le b.value most) b.value n b.left left b.more in
    let s = number_small Short bytes b.value b.left small b.is in
    (subst (λ (m : ℕ). m ≤ most) p.1 (leb-true b.value most p.0), subst (λ (l : List ℕ). All IsByte l) p.2 s.1)

int_within : (column : ℕ) (bytes : List ℕ) (value : Value) (left : List ℕ) → All IsByte bytes → int_at column bytes ≡ Ok (value, left) → IsValueOf Int value × All IsByte left
unfolding int_at
int_within column bytes value left small e =
    let b = both_read (u64_at Short bytes) (λ number left. tested (BadValue column) (nat_le (unsigned_abs (cast_signed w64 number)) 1000000000000) (IntValue (cast_signed w64 number)) left) value left e in
    let p = passed (BadValue column) (nat_le (unsigned_abs (cast_signed w64 b.value)) 1000000000000) (IntValue (cast_signed w64 b.value)) value b.left left b.more in
    let s = number_small Short bytes b.value b.left small b.is in
    (subst (λ (v : Value). IsValueOf Int v) p.1 (leb-true (unsigned_abs (cast_signed w64 b.value)) 1000000000000 p.0), subst (λ (l : List ℕ). All IsByte l) p.2 s.1)

id_within : (bytes : List ℕ) (value : Value) (left : List ℕ) → All IsByte bytes → id_at bytes ≡ Ok (value, left) → IsValueOf Id value × All IsByte left
unfolding id_at
id_within bytes value left small e =
    let b = both_read (u64_at Short bytes) (λ number left. Ok (IdValue number, left)) value left e in
    let f = same_pair (Ok (IdValue b.value, b.left)) (IdValue b.value) value b.left left refl b.more in
    let s = number_small Short bytes b.value b.left small b.is in
    (subst (λ (v : Value). IsValueOf Id v) f.0 s.0, subst (λ (l : List ℕ). All IsByte l) f.1 s.1)

text_within : (column : ℕ) (bytes : List ℕ) (value : Value) (left : List ℕ) → All IsByte bytes → text_at column bytes ≡ Ok (value, left) → IsValueOf Text value × All IsByte left
unfolding text_at
text_within column [] value left small e = absurd cc
text_within column (count ∷ bytes) value left small e =
    let b = both_read (bytes_at Short count bytes) (λ text left. tested (BadValue column) (is_utf8 text) (TextValue text) left) value left e in
    let t = taken Short count bytes b.value b.left b.is in
    let p = passed (BadValue column) (is_utf8 b.value) (TextValue b.value) value b.left left b.more in
    let few : count < 256 = All-head IsByte count bytes small in
    let size : length b.value ≡ count = sym (ap (λ (l : List ℕ). length l) t.0) ∙ length-take-le count bytes t.2 in
    let word : is_word b.value ≡ true = rw (p.0, le-leb (length b.value) 255 (omega (arith, size, few))) refl in (
      subst (λ (v : Value). IsValueOf Text v) p.1 word,
      subst (λ (l : List ℕ). All IsByte l) (t.1 ∙ p.2) (All-drop IsByte count bytes (All-tail IsByte count bytes small)),
    )

flag_within : (column : ℕ) (bytes : List ℕ) (value : Value) (left : List ℕ) → All IsByte bytes → flag_at column bytes ≡ Ok (value, left) → IsValueOf Flag value × All IsByte left
unfolding flag_at
flag_within column [] value left small e = absurd cc
flag_within column (byte ∷ bytes) value left small e =
    let p = passed (BadValue column) (nat_le byte 1) (FlagValue (byte == 1)) value bytes left e in
    (subst (λ (v : Value). IsValueOf Flag v) p.1 tt, subst (λ (l : List ℕ). All IsByte l) p.2 (All-tail IsByte byte bytes small))

pub value_within : (kind : Kind) (column : ℕ) (bytes : List ℕ) (value : Value) (left : List ℕ) → All IsByte bytes → value_at kind column bytes ≡ Ok (value, left) → IsValueOf kind value × All IsByte left
value_within Int column bytes value left small e = int_within column bytes value left small e
value_within Id column bytes value left small e = id_within bytes value left small e
value_within Text column bytes value left small e = text_within column bytes value left small e
value_within Flag column bytes value left small e = flag_within column bytes value left small e

values_within : (fields : List Field) (column : ℕ) (bytes : List ℕ) (values : List Value) (left : List ℕ) → All IsByte bytes → values_at fields column bytes ≡ Ok (values, left) → AreValuesOf fields values × All IsByte left
values_within [] column bytes values left small e =
    let f = same_pair (values_at [] column bytes) [] values bytes left refl e in
    (subst (λ (vs : List Value). AreValuesOf [] vs) f.0 tt, subst (λ (l : List ℕ). All IsByte l) f.1 small)
values_within (field ∷ fields) column bytes values left small e =
    let b = both_read (value_at field.kind column bytes) (λ value left. and_then (values_at fields (column + 1) left) (λ values rest. Ok (value ∷ values, rest))) values left e in
    let c = both_read (values_at fields (column + 1) b.left) (λ values rest. Ok (b.value ∷ values, rest)) values left b.more in
    let f = same_pair (Ok (b.value ∷ c.value, c.left)) (b.value ∷ c.value) values c.left left refl c.more in
    let one = value_within field.kind column bytes b.value b.left small b.is in
    let rest = values_within fields (column + 1) b.left c.value c.left one.1 c.is in
    (subst (λ (vs : List Value). AreValuesOf (field ∷ fields) vs) f.0 (one.0, rest.0), subst (λ (l : List ℕ). All IsByte l) f.1 rest.1)

pub event_within : (fields : List Field) (bytes : List ℕ) (event : Event) (left : List ℕ) → All IsByte bytes → event_at fields bytes ≡ Ok (event, left) → IsEventOf fields event × All IsByte left
unfolding event_at
event_within fields bytes event left small e =
    let a =
    both_read (number_up_to_at 4611686018427387903 bytes) (λ offset behind. and_then (number_up_to_at 1000000000000000 behind) (λ time left. and_then (values_at fields 1 left) (λ values rest. Ok (record { offset = offset; time = time; values = values }, rest)))) event left e in
    let b = both_read (number_up_to_at 1000000000000000 a.left) (λ time left. and_then (values_at fields 1 left) (λ values rest. Ok (record { offset = a.value; time = time; values = values }, rest))) event left a.more in
    let c = both_read (values_at fields 1 b.left) (λ values rest. Ok (record { offset = a.value; time = b.value; values = values }, rest)) event left b.more in
    let f = same_pair (Ok (record { offset = a.value; time = b.value; values = c.value }, c.left)) (record { offset = a.value; time = b.value; values = c.value }) event c.left left refl c.more in
    let offset = number_within 4611686018427387903 bytes a.value a.left small a.is in
    let time = number_within 1000000000000000 a.left b.value b.left offset.1 b.is in
    let values = values_within fields 1 b.left c.value c.left time.1 c.is in (
      subst (λ (x : Event). IsEventOf fields x) f.0 (record { offset = omega (arith, offset.0); time = time.0; values = values.0 }),
      subst (λ (l : List ℕ). All IsByte l) f.1 values.1,
    )

-- a number's bytes are taken off
pub number_left : {F : Type 0} (w : Width) (short : F) (bytes : List ℕ) (n : ℕ) (left : List ℕ) → All IsByte bytes → number_at w short bytes ≡ Ok (n, left) → All IsByte left
number_left w short bytes n left small e =
    let b = both_read (bytes_at short (byte_len w) bytes) (λ front left. Ok (from_be_bytes w front, left)) n left e in
    let t = taken short (byte_len w) bytes b.value b.left b.is in
    let f = same_pair (Ok (from_be_bytes w b.value, b.left)) (from_be_bytes w b.value) n b.left left refl b.more in
    subst (λ (l : List ℕ). All IsByte l) (t.1 ∙ f.1) (All-drop IsByte (byte_len w) bytes small)

pub byte_left : {F : Type 0} (short : F) (bytes : List ℕ) (n : ℕ) (left : List ℕ) → All IsByte bytes → u8_at short bytes ≡ Ok (n, left) → All IsByte left
unfolding u8_at
byte_left short [] n left small e = absurd cc
byte_left short (byte ∷ bytes) n left small e = subst (λ (l : List ℕ). All IsByte l) (same_pair (u8_at short (byte ∷ bytes)) byte n bytes left refl e).1 (All-tail IsByte byte bytes small)

pub count_left : (bytes : List ℕ) (n : ℕ) (left : List ℕ) → All IsByte bytes → u32_at Short bytes ≡ Ok (n, left) → All IsByte left
unfolding u32_at
count_left bytes n left small e = number_left w32 Short bytes n left small e

pub stamp_left : (bytes : List ℕ) (stamp : ℕ × ℕ) (left : List ℕ) → All IsByte bytes → stamp_at bytes ≡ Ok (stamp, left) → All IsByte left
unfolding stamp_at
stamp_left bytes stamp left small e =
    let a = both_read (u64_at Short bytes) (λ offset left. and_then (u64_at Short left) (λ time rest. Ok ((offset, time), rest))) stamp left e in
    let b = both_read (u64_at Short a.left) (λ time rest. Ok ((a.value, time), rest)) stamp left a.more in
    let f = same_pair (Ok ((a.value, b.value), b.left)) (a.value, b.value) stamp b.left left refl b.more in
    subst (λ (l : List ℕ). All IsByte l) f.1 (number_small Short a.left b.value b.left (number_small Short bytes a.value a.left small a.is).1 b.is).1
