-- What is read as a growth in bytes is written so.
use Rattle.std.proofs.Common.{◌≡◌, ◌∙◌, inl, inr, ℕ, zero, suc, ◌<◌, ◌==◌, nat_le, Bool, true, false, List, [], ◌∷◌, ◌++◌, length, get_or, take, Option, Some, None, option_and_then, Ok, Err, if◌then◌else◌, refl, sym, ap, subst, arith, lit<, append_assoc}
use Rattle.std.proofs.lemmas.Bool.{cases_lt, eqb-true, leb-true}
use Rattle.std.proofs.lemmas.Int.{of_z-to_z}
use Rattle.std.proofs.lemmas.List.{append-nil, get_or_past, length-take-le, take-append-drop}
use Rattle.std.proofs.lemmas.List.Elements.{All-get_or, All-take, All-drop, All-tail}
use Rattle.std.proofs.lemmas.Nat.{be_bytes_4, be_bytes_8}
use Rattle.std.specs.Prelude.{All, unsigned_abs}
use Rattle.std.specs.Int.{w32, w64, to_be_bytes, from_be_bytes, cast_signed}
use Rattle.std.specs.Str.{is_utf8}
use Rattle.rg_bytes.specs.Reading.{and_then, tested, bytes_at, u8_at, u32_at, u64_at, list_bytes}
use Rattle.rg_event.specs.Codec.{Reading as EventReading, IsValueOf, AreValuesOf, value_bytes, int_at, id_at, text_at, flag_at, value_at}
use Rattle.rg_event.specs.Reading.{shape_of}
use Rattle.rg_event.specs.Shapes.{Shape, IsSchema, schema_text}
use Rattle.rg_event.specs.Tagged.{value_kind, IsLegal, tag_of, kind_of, tagged_bytes, value_said_at, tagged_at}
use Rattle.rg_event.specs.declared.codec.EventFault.TheVariants.{Short, BadValue}
use Rattle.rg_event.specs.declared.schema.Field.{Field}
use Rattle.rg_event.specs.declared.value.Kind.{Kind}
use Rattle.rg_event.specs.declared.value.Kind.TheVariants.{Int, Id, Text, Flag}
use Rattle.rg_event.specs.declared.value.Value.{Value}
use Rattle.rg_event.specs.declared.value.Value.TheVariants.{Int as IntValue, Id as IdValue, Text as TextValue, Flag as FlagValue}
use Rattle.rg_event.proofs.Laws.{joined_of, legal_of}
use Rattle.rg_growth.specs.Growing.{grows, further, is_kind, GrowsBy}
use Rattle.rg_growth.specs.Payloads.{IsGrowth, in_growth, text_bytes, growth_at, growth_of, growth_to_at, grown_to, if_grows, values_at, text_at as tagged_text_at, value_at as kept_value_at}
use Rattle.rg_growth.specs.declared.fault.GrowthFault.TheVariants.{BadGrowth}
use Rattle.rg_growth.specs.declared.growth.Growth.{Growth}
use Rattle.rg_growth.proofs.Laws.{grows_by, legal_value, value_of_kind, text_taken}
use Rattle.rg_frame.specs.Bytes.{IsByte}
use Rattle.rg_chunk.proofs.Laws.{whole_is}
use Rattle.rg_log.proofs.Decoded.{both_read, same_pair, passed, taken, number_small, byte_left, value_within}
use Rattle.rg_log.proofs.Shapes.{same_some}

-- each of them, and 0 behind them
small_at : (bytes : List ℕ) → All IsByte bytes → (i : ℕ) → get_or bytes i 0 < 256
small_at bytes small i = elim (cases_lt i (length bytes)) [
  | inl below ↦ All-get_or IsByte bytes i 0 below small
  | inr past ↦ rw (get_or_past bytes i 0 past) (lit< tt)
]

-- the bytes are these ones and what is left, and what is left are bytes
record Wrote (bytes front left : List ℕ) : Type 0 where
  pub is : bytes ≡ front ++ left
  pub small : All IsByte left

-- numbers

byte_back : {F : Type 0} (short : F) (bytes : List ℕ) (n : ℕ) (left : List ℕ) → u8_at short bytes ≡ Ok (n, left) → bytes ≡ n ∷ left
unfolding u8_at
byte_back short [] n left e = absurd cc
byte_back short (byte ∷ bytes) n left e = let f = same_pair (u8_at short (byte ∷ bytes)) byte n bytes left refl e in ap (λ (l : List ℕ). byte ∷ l) f.1 ∙ ap (λ (b : ℕ). b ∷ left) f.0

four_back : {F : Type 0} (short : F) (bytes : List ℕ) (n : ℕ) (left : List ℕ) → All IsByte bytes → u32_at short bytes ≡ Ok (n, left) → Wrote bytes (to_be_bytes w32 n) left
unfolding u32_at
four_back short bytes n left small e =
    let b = both_read (bytes_at short 4 bytes) (λ front left. Ok (from_be_bytes w32 front, left)) n left e in
    let t = taken short 4 bytes b.value b.left b.is in
    let f = same_pair (Ok (from_be_bytes w32 b.value, b.left)) (from_be_bytes w32 b.value) n b.left left refl b.more in
    let long : length b.value ≡ 4 = sym (ap (λ (l : List ℕ). length l) t.0) ∙ length-take-le 4 bytes t.2 in
    let front : All IsByte b.value = subst (λ (l : List ℕ). All IsByte l) t.0 (All-take IsByte 4 bytes small) in
    record {
      is = sym (take-append-drop 4 bytes) ∙ ap (λ (l : List ℕ). take 4 bytes ++ l) (t.1 ∙ f.1) ∙ ap (λ (l : List ℕ). l ++ left) (t.0 ∙ sym (be_bytes_4 b.value n long (small_at b.value front) (sym f.0)));
      small = subst (λ (l : List ℕ). All IsByte l) (t.1 ∙ f.1) (All-drop IsByte 4 bytes small);
    }

eight_back : {F : Type 0} (short : F) (bytes : List ℕ) (n : ℕ) (left : List ℕ) → All IsByte bytes → u64_at short bytes ≡ Ok (n, left) → bytes ≡ to_be_bytes w64 n ++ left
unfolding u64_at
eight_back short bytes n left small e =
    let b = both_read (bytes_at short 8 bytes) (λ front left. Ok (from_be_bytes w64 front, left)) n left e in
    let t = taken short 8 bytes b.value b.left b.is in
    let f = same_pair (Ok (from_be_bytes w64 b.value, b.left)) (from_be_bytes w64 b.value) n b.left left refl b.more in
    let long : length b.value ≡ 8 = sym (ap (λ (l : List ℕ). length l) t.0) ∙ length-take-le 8 bytes t.2 in
    let front : All IsByte b.value = subst (λ (l : List ℕ). All IsByte l) t.0 (All-take IsByte 8 bytes small) in
    sym (take-append-drop 8 bytes) ∙ ap (λ (l : List ℕ). take 8 bytes ++ l) (t.1 ∙ f.1) ∙ ap (λ (l : List ℕ). l ++ left) (t.0 ∙ sym (be_bytes_8 b.value n long (small_at b.value front) (sym f.0)))

-- values

int_back : (column : ℕ) (bytes : List ℕ) (value : Value) (left : List ℕ) → All IsByte bytes → int_at column bytes ≡ Ok (value, left) → bytes ≡ value_bytes value ++ left
unfolding int_at
int_back column bytes value left small e =
    let b = both_read (u64_at Short bytes) (λ number left. tested (BadValue column) (nat_le (unsigned_abs (cast_signed w64 number)) 1000000000000) (IntValue (cast_signed w64 number)) left) value left e in
    let p = passed (BadValue column) (nat_le (unsigned_abs (cast_signed w64 b.value)) 1000000000000) (IntValue (cast_signed w64 b.value)) value b.left left b.more in
    let fits = number_small Short bytes b.value b.left small b.is in
    eight_back Short bytes b.value b.left small b.is ∙ ap (λ (l : List ℕ). to_be_bytes w64 b.value ++ l) p.2 ∙ ap (λ (n : ℕ). to_be_bytes w64 n ++ left) (sym (of_z-to_z w64 b.value fits.0)) ∙ ap (λ (v : Value). value_bytes v ++ left) p.1

id_back : (bytes : List ℕ) (value : Value) (left : List ℕ) → All IsByte bytes → id_at bytes ≡ Ok (value, left) → bytes ≡ value_bytes value ++ left
unfolding id_at
id_back bytes value left small e =
    let b = both_read (u64_at Short bytes) (λ number left. Ok (IdValue number, left)) value left e in
    let f = same_pair (Ok (IdValue b.value, b.left)) (IdValue b.value) value b.left left refl b.more in
    eight_back Short bytes b.value b.left small b.is ∙ ap (λ (l : List ℕ). to_be_bytes w64 b.value ++ l) f.1 ∙ ap (λ (v : Value). value_bytes v ++ left) f.0

text_back : (column : ℕ) (bytes : List ℕ) (value : Value) (left : List ℕ) → text_at column bytes ≡ Ok (value, left) → bytes ≡ value_bytes value ++ left
unfolding text_at
text_back column [] value left e = absurd cc
text_back column (count ∷ bytes) value left e =
    let b = both_read (bytes_at Short count bytes) (λ text left. tested (BadValue column) (is_utf8 text) (TextValue text) left) value left e in
    let t = taken Short count bytes b.value b.left b.is in
    let p = passed (BadValue column) (is_utf8 b.value) (TextValue b.value) value b.left left b.more in
    let size : length b.value ≡ count = sym (ap (λ (l : List ℕ). length l) t.0) ∙ length-take-le count bytes t.2 in
    ap (λ (l : List ℕ). count ∷ l) (sym (take-append-drop count bytes) ∙ ap (λ (l : List ℕ). take count bytes ++ l) (t.1 ∙ p.2) ∙ ap (λ (l : List ℕ). l ++ left) t.0)
    ∙ ap (λ (n : ℕ). n ∷ (b.value ++ left)) (sym size) ∙ ap (λ (v : Value). value_bytes v ++ left) p.1

flag_byte : (byte : ℕ) → nat_le byte 1 ≡ true → byte ≡ (if byte == 1 then 1 else 0)
flag_byte zero few = refl
flag_byte (suc zero) few = refl
flag_byte (suc (suc n)) few = absurd (omega (arith, leb-true (suc (suc n)) 1 few))

flag_back : (column : ℕ) (bytes : List ℕ) (value : Value) (left : List ℕ) → flag_at column bytes ≡ Ok (value, left) → bytes ≡ value_bytes value ++ left
unfolding flag_at
flag_back column [] value left e = absurd cc
flag_back column (byte ∷ bytes) value left e =
    let p = passed (BadValue column) (nat_le byte 1) (FlagValue (byte == 1)) value bytes left e in
    ap (λ (l : List ℕ). byte ∷ l) p.2 ∙ ap (λ (n : ℕ). n ∷ left) (flag_byte byte p.0) ∙ ap (λ (v : Value). value_bytes v ++ left) p.1

value_back : (kind : Kind) (column : ℕ) (bytes : List ℕ) (value : Value) (left : List ℕ) → All IsByte bytes → value_at kind column bytes ≡ Ok (value, left) → bytes ≡ value_bytes value ++ left
value_back Int column bytes value left small e = int_back column bytes value left small e
value_back Id column bytes value left small e = id_back bytes value left small e
value_back Text column bytes value left small e = text_back column bytes value left e
value_back Flag column bytes value left small e = flag_back column bytes value left e

-- the byte that says a kind is its tag
tag_by : (tag : ℕ) (kind : Kind) (a b c d : Bool) → (tag == 1) ≡ a → (tag == 2) ≡ b → (tag == 3) ≡ c → (tag == 4) ≡ d → (if a then Some Int else if b then Some Id else if c then Some Text else if d then Some Flag else None) ≡ Some kind → tag ≡ tag_of kind
tag_by tag kind true b c d one two three four e = eqb-true tag 1 one ∙ ap tag_of (same_some (Some Int) Int kind refl e)
tag_by tag kind false true c d one two three four e = eqb-true tag 2 two ∙ ap tag_of (same_some (Some Id) Id kind refl e)
tag_by tag kind false false true d one two three four e = eqb-true tag 3 three ∙ ap tag_of (same_some (Some Text) Text kind refl e)
tag_by tag kind false false false true one two three four e = eqb-true tag 4 four ∙ ap tag_of (same_some (Some Flag) Flag kind refl e)
tag_by tag kind false false false false one two three four e = absurd cc

tag_back : (tag : ℕ) (kind : Kind) → kind_of tag ≡ Some kind → tag ≡ tag_of kind
tag_back tag kind e = tag_by tag kind (tag == 1) (tag == 2) (tag == 3) (tag == 4) refl refl refl refl e

of_kind : (kind : Kind) (value : Value) → IsValueOf kind value → value_kind value ≡ kind
of_kind Int (IntValue number) is = refl
of_kind Id (IdValue number) is = refl
of_kind Text (TextValue text) is = refl
of_kind Flag (FlagValue flag) is = refl
of_kind kind value is = absurd is

-- a value stands in these bytes with its tag
record Tagged (bytes : List ℕ) (value : Value) (left : List ℕ) : Type 0 where
  pub is : bytes ≡ tagged_bytes value ++ left
  pub legal : IsLegal value
  pub small : All IsByte left

tagged_back : (bytes : List ℕ) (value : Value) (left : List ℕ) → All IsByte bytes → tagged_at bytes ≡ Ok (value, left) → Tagged bytes value left
unfolding tagged_at
tagged_back [] value left small e = absurd cc
tagged_back (tag ∷ bytes) value left small e = by (kind_of tag) refl e
  where
    by : (o : Option Kind) → kind_of tag ≡ o → value_said_at o bytes ≡ Ok (value, left) → Tagged (tag ∷ bytes) value left
    by None is read = absurd cc
    by (Some kind) is read =
        let behind : All IsByte bytes = All-tail IsByte tag bytes small in
        let w = value_within kind 0 bytes value left behind read in
        record {
          is = ap (λ (n : ℕ). n ∷ bytes) (tag_back tag kind is ∙ ap tag_of (sym (of_kind kind value w.0))) ∙ ap (λ (l : List ℕ). tag_of (value_kind value) ∷ l) (value_back kind 0 bytes value left behind read);
          legal = legal_value kind value w.0;
          small = w.1;
        }

-- the values of a growth

read_in : (reading : EventReading Value) (value : Value) (left : List ℕ) → in_growth reading ≡ Ok (value, left) → reading ≡ Ok (value, left)
read_in (Ok read) value left e = let f = same_pair (in_growth (Ok read)) read.0 value read.1 left refl e in λ i. Ok (f.0 i, f.1 i)
read_in (Err fault) value left e = absurd cc

record OneOf (kind : Kind) (bytes : List ℕ) (value : Value) (left : List ℕ) : Type 0 where
  pub is : bytes ≡ tagged_bytes value ++ left
  pub of : IsValueOf kind value
  pub small : All IsByte left

one_back : (kind : Kind) (bytes : List ℕ) (value : Value) (left : List ℕ) → All IsByte bytes → kept_value_at kind bytes ≡ Ok (value, left) → OneOf kind bytes value left
unfolding kept_value_at
one_back kind bytes value left small e =
    let b = both_read (in_growth (tagged_at bytes)) (λ value left. tested BadGrowth (is_kind (value_kind value) kind) value left) value left e in
    let p = passed BadGrowth (is_kind (value_kind b.value) kind) b.value value b.left left b.more in
    let t = tagged_back bytes b.value b.left small (read_in (tagged_at bytes) b.value b.left b.is) in
    record {
      is = t.is ∙ ap (λ (l : List ℕ). tagged_bytes b.value ++ l) p.2 ∙ ap (λ (v : Value). tagged_bytes v ++ left) p.1;
      of = subst (λ (v : Value). IsValueOf kind v) p.1 (value_of_kind kind b.value t.legal p.0);
      small = subst (λ (l : List ℕ). All IsByte l) p.2 t.small;
    }

record OneEach (fields : List Field) (bytes : List ℕ) (values : List Value) (left : List ℕ) : Type 0 where
  pub is : bytes ≡ list_bytes tagged_bytes values ++ left
  pub of : AreValuesOf fields values

values_back : (fields : List Field) (bytes : List ℕ) (values : List Value) (left : List ℕ) → All IsByte bytes → values_at fields bytes ≡ Ok (values, left) → OneEach fields bytes values left
values_back [] bytes values left small e =
    let f = same_pair (values_at [] bytes) [] values bytes left refl e in
    subst (λ (vs : List Value). OneEach [] bytes vs left) f.0 (record { is = f.1; of = tt })
values_back (field ∷ fields) bytes values left small e =
    let b = both_read (kept_value_at field.kind bytes) (λ value left. and_then (values_at fields left) (λ values rest. Ok (value ∷ values, rest))) values left e in
    let c = both_read (values_at fields b.left) (λ values rest. Ok (b.value ∷ values, rest)) values left b.more in
    let f = same_pair (Ok (b.value ∷ c.value, c.left)) (b.value ∷ c.value) values c.left left refl c.more in
    let one = one_back field.kind bytes b.value b.left small b.is in
    let rest = values_back fields b.left c.value c.left one.small c.is in
    subst (λ (vs : List Value). OneEach (field ∷ fields) bytes vs left) f.0 (record {
      is = one.is ∙ ap (λ (l : List ℕ). tagged_bytes b.value ++ l) (rest.is ∙ ap (λ (l : List ℕ). list_bytes tagged_bytes c.value ++ l) f.1)
          ∙ sym (append_assoc (tagged_bytes b.value) (list_bytes tagged_bytes c.value) left);
      of = (one.of, rest.of);
    })

-- the text of the new schema

text_said : (bytes text left : List ℕ) → All IsByte bytes → tagged_text_at bytes ≡ Ok (text, left) → Wrote bytes (text_bytes text) left
unfolding tagged_text_at
text_said bytes text left small e =
    let a = both_read (u8_at BadGrowth bytes) _ text left e in
    let b = both_read (tested BadGrowth (a.value == 71) a.value a.left) _ text left a.more in
    let c = both_read (u32_at BadGrowth b.left) _ text left b.more in
    let p = passed BadGrowth (a.value == 71) a.value b.value a.left b.left b.is in
    let t = taken BadGrowth c.value c.left text left c.more in
    let behind : All IsByte b.left = subst (λ (l : List ℕ). All IsByte l) p.2 (byte_left BadGrowth bytes a.value a.left small a.is) in
    let four = four_back BadGrowth b.left c.value c.left behind c.is in
    let two : c.left ≡ text ++ left = sym (take-append-drop c.value c.left) ∙ ap (λ (l : List ℕ). take c.value c.left ++ l) t.1 ∙ ap (λ (l : List ℕ). l ++ left) t.0 in
    let size : length text ≡ c.value = sym (ap (λ (l : List ℕ). length l) t.0) ∙ length-take-le c.value c.left t.2 in
    record {
      is = text_taken bytes a.value a.left c.value c.left text left (byte_back BadGrowth bytes a.value a.left a.is) (eqb-true a.value 71 p.0) (p.2 ∙ four.is) two size;
      small = subst (λ (l : List ℕ). All IsByte l) t.1 (All-drop IsByte c.value c.left four.small);
    }

record GrownTo (from : Shape) (text : List ℕ) (to : Shape) : Type 0 where
  pub is : text ≡ schema_text to
  pub grows : GrowsBy from to (further from to)

grown_by : (from : Shape) (text : List ℕ) (to : Shape) → grown_to from text ≡ Some to → GrownTo from text to
grown_by from text to e = by (shape_of text) refl e
  where
    tried : (shape : Shape) (test : Bool) → shape_of text ≡ Some shape → grows from shape ≡ test → (if test then Some shape else None) ≡ Some to → GrownTo from text to
    tried shape true said t f = subst (λ (s : Shape). GrownTo from text s) (same_some (Some shape) shape to refl f) (record { is = joined_of text shape said; grows = grows_by from shape (legal_of text shape said) t })
    tried shape false said t f = absurd cc

    by : (o : Option Shape) → shape_of text ≡ o → option_and_then (if_grows from) o ≡ Some to → GrownTo from text to
    by None said f = absurd cc
    by (Some shape) said f = tried shape (grows from shape) said refl f

-- a payload that says a growth is written so
pub growth_is : (from : Shape) (payload : List ℕ) (growth : Growth) → All IsByte payload → growth_of from payload ≡ Some growth → IsGrowth from payload growth
unfolding growth_at
growth_is from payload growth small e =
    let a = both_read (tagged_text_at payload) (λ text left. growth_to_at from (grown_to from text) left) growth [] (whole_is (growth_at from payload) growth e) in
    by a.value a.left (text_said payload a.value a.left small a.is) (grown_to from a.value) refl a.more
  where
    by : (text left : List ℕ) → Wrote payload (text_bytes text) left → (o : Option Shape) → grown_to from text ≡ o → growth_to_at from o left ≡ Ok (growth, []) → IsGrowth from payload growth
    by text left wrote None to_is f = absurd cc
    by text left wrote (Some to) to_is f =
        let b = both_read (values_at (further from to) left) (λ values rest. Ok (record { to = to; values = values }, rest)) growth [] f in
        let s = same_pair (Ok (record { to = to; values = b.value }, b.left)) (record { to = to; values = b.value }) growth b.left [] refl b.more in
        let vs = values_back (further from to) left b.value b.left wrote.small b.is in
        let g = grown_by from text to to_is in
        subst (λ (x : Growth). IsGrowth from payload x) s.0 (record {
          is = wrote.is ∙ ap (λ (l : List ℕ). text_bytes l ++ left) g.is
              ∙ ap (λ (l : List ℕ). text_bytes (schema_text to) ++ l) (vs.is ∙ ap (λ (l : List ℕ). list_bytes tagged_bytes b.value ++ l) s.1 ∙ append-nil (list_bytes tagged_bytes b.value));
          of = record { added = further from to; grows = g.grows; of = vs.of };
        })

-- which schema it grows to
pub growth_legal : (from : Shape) (payload : List ℕ) (growth : Growth) → growth_of from payload ≡ Some growth → IsSchema growth.to
unfolding growth_at
growth_legal from payload growth e =
    let a = both_read (tagged_text_at payload) (λ text left. growth_to_at from (grown_to from text) left) growth [] (whole_is (growth_at from payload) growth e) in
    by a.value a.left (grown_to from a.value) refl a.more
  where
    by : (text left : List ℕ) (o : Option Shape) → grown_to from text ≡ o → growth_to_at from o left ≡ Ok (growth, []) → IsSchema growth.to
    by text left None to_is f = absurd cc
    by text left (Some to) to_is f =
        let b = both_read (values_at (further from to) left) (λ values rest. Ok (record { to = to; values = values }, rest)) growth [] f in
        let s = same_pair (Ok (record { to = to; values = b.value }, b.left)) (record { to = to; values = b.value }) growth b.left [] refl b.more in
        subst (λ (x : Growth). IsSchema x.to) s.0 (grown_by from text to to_is).grows.legal
