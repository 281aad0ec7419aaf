-- The tokens are what is read byte by byte.
use Rattle.std.proofs.Common.{◌≡◌, ℕ, ◌+◌, ◌≤◌, ◌<◌, nat_eq, nat_lt, ◌&&◌, List, [], ◌∷◌, ◌++◌, length, Option, Some, None, Bool, true, false, refl, ap, sym, ◌∙◌, subst, arith, inl, inr, ◌⊎◌}
use Rattle.std.specs.Prelude.{if◌then◌else◌}
use Rattle.std.specs.List.{list_all}
use Rattle.std.proofs.lemmas.Bool.{lt-ltb, ltb-true, eqb-true}
use Rattle.std.proofs.lemmas.Bool.Decides.{nat_tests}
use Rattle.std.specs.Cmp.Derive.{both_true}
use Rattle.rg_keywords.specs.Words.{symbol_text}
use Rattle.rg_keywords.specs.declared.op.Symbol.{Symbol}
use Rattle.rg_keywords.specs.declared.op.Symbol.TheVariants.{Open, Close, Comma, Star, Compare}
use Rattle.rg_keywords.specs.declared.op.Op.TheVariants.{Eq, Ne, Lt, Le, Gt, Ge}
use Rattle.rg_token.specs.declared.piece.Shape.{Shape}
use Rattle.rg_token.specs.declared.piece.Shape.TheVariants.{Word, Number, Text, Sign}
use Rattle.rg_token.specs.declared.automaton.Mode.{Mode}
use Rattle.rg_token.specs.declared.automaton.Mode.TheVariants.{Start, InWord, Minus, Digits, InText, Quote, Bang, Less, Greater, Done}
use Rattle.rg_token.specs.Token.{is_letter, is_digit, is_word_byte, signed, IsNumber, doubled, IsQuoted, Spelled}
use Rattle.rg_token.specs.Automaton.{mode_if, first, next, shape_at, if_some, leads, Reads}

pub both : (a b : Bool) → (a && b) ≡ true → (a ≡ true) × (b ≡ true)
both true b e = (refl, e)
both false b e = absurd (cc)

-- what is spelled is read

word_leads : (bytes : List ℕ) → list_all is_word_byte bytes ≡ true → leads InWord bytes ≡ Some InWord
unfolding next
word_leads [] h = refl
word_leads (byte ∷ bytes) h =
    let k : (is_word_byte byte ≡ true) × (list_all is_word_byte bytes ≡ true) = both (is_word_byte byte) (list_all is_word_byte bytes) h in
    rw (k.0) (word_leads bytes k.1)

digits_lead : (digits : List ℕ) (n : ℕ) → list_all is_digit digits ≡ true → n + length digits ≤ 20 → leads (Digits n) digits ≡ Some (Digits (n + length digits))
unfolding next
digits_lead [] n h l = ap (λ k. Some (Digits k)) (omega arith)
digits_lead (digit ∷ digits) n h l =
    let k : (is_digit digit ≡ true) × (list_all is_digit digits ≡ true) = both (is_digit digit) (list_all is_digit digits) h in
    let below : n < 20 = omega arith in
    let e : n + 1 + length digits ≡ n + length (digit ∷ digits) = omega arith in
    rw (lt-ltb n 20 below, k.0) (digits_lead digits (n + 1) k.1 (omega arith) ∙ ap (λ k. Some (Digits k)) e)

text_leads : (inner : List ℕ) → leads InText (doubled inner ++ 39 ∷ []) ≡ Some Quote
unfolding next
text_leads [] = refl
text_leads (byte ∷ inner) = by_test (nat_eq byte 39) refl (text_leads inner)
  where
    by_test :
        (is : Bool) → nat_eq byte 39 ≡ is → leads InText (doubled inner ++ 39 ∷ []) ≡ Some Quote
        → leads InText ((if is then 39 ∷ 39 ∷ doubled inner else byte ∷ doubled inner) ++ 39 ∷ []) ≡ Some Quote
    by_test true e ih = ih
    by_test false e ih = rw e ih

digit_no_letter : (digit : ℕ) → is_digit digit ≡ true → is_letter digit ≡ false
digit_no_letter digit e = grind (arith, nat_tests)

first_letter : (byte : ℕ) → is_letter byte ≡ true → first byte ≡ Some InWord
unfolding first
first_letter byte e = rw e refl

first_digit : (digit : ℕ) → is_digit digit ≡ true → first digit ≡ Some (Digits 1)
unfolding first
first_digit digit e = rw (digit_no_letter digit e, e) refl

first_quote : first 39 ≡ Some InText
unfolding first
first_quote = refl

after_first : (byte : ℕ) (bytes : List ℕ) (mode : Mode) → first byte ≡ Some mode → leads Start (byte ∷ bytes) ≡ leads mode bytes
unfolding next
after_first byte bytes mode e = ap (λ later. if_some later None (λ (m : Mode). leads m bytes)) e

-- the mode behind a sign
sign_mode : Symbol → Mode
sign_mode (Compare Lt) = Less
sign_mode (Compare Gt) = Greater
sign_mode symbol = Done symbol

sign_leads : (symbol : Symbol) → leads Start (symbol_text symbol) ≡ Some (sign_mode symbol)
unfolding next first sign_mode
sign_leads Open = refl
sign_leads Close = refl
sign_leads Comma = refl
sign_leads Star = refl
sign_leads (Compare Eq) = refl
sign_leads (Compare Ne) = refl
sign_leads (Compare Lt) = refl
sign_leads (Compare Le) = refl
sign_leads (Compare Gt) = refl
sign_leads (Compare Ge) = refl

sign_ends : (symbol : Symbol) → shape_at (sign_mode symbol) ≡ Some (Sign symbol)
unfolding sign_mode
sign_ends (Compare Lt) = refl
sign_ends (Compare Gt) = refl
sign_ends _ = refl

minus_leads : (digit : ℕ) (digits : List ℕ) → is_digit digit ≡ true → leads Start (45 ∷ digit ∷ digits) ≡ leads (Digits 1) digits
unfolding next first
minus_leads digit digits e = rw e refl

number_read : (negative : Bool) (digits : List ℕ) → 1 ≤ length digits → length digits ≤ 20 → list_all is_digit digits ≡ true → Reads (signed negative digits) Number
number_read negative [] l few h = absurd (omega (arith, l))
number_read true (digit ∷ digits) l few h =
    let k : (is_digit digit ≡ true) × (list_all is_digit digits ≡ true) = both (is_digit digit) (list_all is_digit digits) h in
    record { mode = Digits (1 + length digits); leads_to = minus_leads digit digits k.0 ∙ digits_lead digits 1 k.1 (omega (arith, few)); ends = refl }
number_read false (digit ∷ digits) l few h =
    let k : (is_digit digit ≡ true) × (list_all is_digit digits ≡ true) = both (is_digit digit) (list_all is_digit digits) h in
    record { mode = Digits (1 + length digits); leads_to = after_first digit digits (Digits 1) (first_digit digit k.0) ∙ digits_lead digits 1 k.1 (omega (arith, few)); ends = refl }

quoted_read : (inner : List ℕ) → Reads (39 ∷ (doubled inner ++ 39 ∷ [])) Text
quoted_read inner = record { mode = Quote; leads_to = behind_quote (doubled inner ++ 39 ∷ []) ∙ text_leads inner; ends = refl }
  where
    behind_quote : (bytes : List ℕ) → leads Start (39 ∷ bytes) ≡ leads InText bytes
    behind_quote bytes = after_first 39 bytes InText first_quote

pub spelled_read : (bytes : List ℕ) (shape : Shape) → Spelled bytes shape → Reads bytes shape
spelled_read [] Word h = absurd (cc)
spelled_read (byte ∷ bytes) Word h =
    let k : (is_letter byte ≡ true) × (list_all is_word_byte bytes ≡ true) = both (is_letter byte) (list_all is_word_byte bytes) h in
    record { mode = InWord; leads_to = after_first byte bytes InWord (first_letter byte k.0) ∙ word_leads bytes k.1; ends = refl }
spelled_read bytes Number h = subst (λ (bs : List ℕ). Reads bs Number) (sym h.spells) (number_read h.negative h.digits h.some h.few h.all)
spelled_read bytes Text h = subst (λ (bs : List ℕ). Reads bs Text) (sym h.spells) (quoted_read h.inner)
spelled_read bytes (Sign symbol) h =
    subst (λ (bs : List ℕ). Reads bs (Sign symbol)) (sym h) (record { mode = sign_mode symbol; leads_to = sign_leads symbol; ends = sign_ends symbol })

-- what is read is spelled

if_holds : (holds : Bool) (mode mode' : Mode) → mode_if holds mode ≡ Some mode' → (holds ≡ true) × (mode ≡ mode')
if_holds true mode mode' e = (refl, cc)
if_holds false mode mode' e = absurd (cc)

pub there_is : {X Y : Type 0} (x : Option X) (go : X → Option Y) (y : Y) → if_some x None go ≡ Some y → (x' : X) × (x ≡ Some x') × (go x' ≡ Some y)
there_is None go y e = absurd (cc)
there_is (Some x) go y e = (x, refl, e)

word_only : (bytes : List ℕ) (mode : Mode) → leads InWord bytes ≡ Some mode → (list_all is_word_byte bytes ≡ true) × (mode ≡ InWord)
unfolding next
word_only [] mode e = (refl, cc)
word_only (byte ∷ bytes) mode e =
    let a : (m : Mode) × (mode_if (is_word_byte byte) InWord ≡ Some m) × (leads m bytes ≡ Some mode) = there_is (mode_if (is_word_byte byte) InWord) (λ m. leads m bytes) mode e in
    let w : (is_word_byte byte ≡ true) × (InWord ≡ a.0) = if_holds (is_word_byte byte) InWord a.0 a.1 in
    let r : (list_all is_word_byte bytes ≡ true) × (mode ≡ InWord) = word_only bytes mode (ap (λ m. leads m bytes) w.1 ∙ a.2) in
    (both_true w.0 r.0, r.1)

below_only : (holds : Bool) (x : Option Mode) (mode : Mode) → (if holds then x else None) ≡ Some mode → (holds ≡ true) × (x ≡ Some mode)
below_only true x mode e = (refl, e)
below_only false x mode e = absurd (cc)

digits_only :
    (digits : List ℕ) (n : ℕ) (mode : Mode) → n ≤ 20 → leads (Digits n) digits ≡ Some mode
    → (list_all is_digit digits ≡ true) × (n + length digits ≤ 20) × (mode ≡ Digits (n + length digits))
unfolding next
digits_only [] n mode l e = (refl, omega arith, (let k : mode ≡ Digits n = cc in k) ∙ ap Digits (omega arith))
digits_only (digit ∷ digits) n mode l e =
    let step : Option Mode = if nat_lt n 20 then mode_if (is_digit digit) (Digits (n + 1)) else None in
    let a : (m : Mode) × (step ≡ Some m) × (leads m digits ≡ Some mode) = there_is step (λ m. leads m digits) mode e in
    let t : (nat_lt n 20 ≡ true) × (mode_if (is_digit digit) (Digits (n + 1)) ≡ Some a.0) = below_only (nat_lt n 20) (mode_if (is_digit digit) (Digits (n + 1))) a.0 a.1 in
    let below : n < 20 = ltb-true n 20 t.0 in
    let w : (is_digit digit ≡ true) × (Digits (n + 1) ≡ a.0) = if_holds (is_digit digit) (Digits (n + 1)) a.0 t.1 in
    let r : (list_all is_digit digits ≡ true) × (n + 1 + length digits ≤ 20) × (mode ≡ Digits (n + 1 + length digits)) = digits_only digits (n + 1) mode (omega arith) (ap (λ m. leads m digits) w.1 ∙ a.2) in
    (both_true w.0 r.0, omega (arith, r.1), r.2 ∙ ap Digits (omega arith))

-- the rest of a text, behind its first quote
record InQuotes (bytes : List ℕ) (mode : Mode) : Type 0 where
  inner : List ℕ
  spells : doubled inner ++ 39 ∷ [] ≡ bytes
  mode_is : mode ≡ Quote

abbrev AfterQuote : List ℕ → Mode → Type 0
AfterQuote bytes mode = ((bytes ≡ []) × (mode ≡ Quote)) ⊎ ((more : List ℕ) × (bytes ≡ 39 ∷ more) × InQuotes more mode)

text_step :
    (byte : ℕ) (bytes : List ℕ) (mode : Mode) (is : Bool) → nat_eq byte 39 ≡ is
    → if_some (if is then Some Quote else Some InText) None (λ m. leads m bytes) ≡ Some mode
    → (leads InText bytes ≡ Some mode → InQuotes bytes mode) → (leads Quote bytes ≡ Some mode → AfterQuote bytes mode)
    → InQuotes (byte ∷ bytes) mode
text_step byte bytes mode true q e inside quoted =
    let k : byte ≡ 39 = eqb-true byte 39 q in
    elim (quoted e) [
      | inl h ↦ record { inner = []; spells = cc (h.0); mode_is = h.1 }
      | inr h ↦ record { inner = 39 ∷ h.2.inner; spells = (let j : 39 ∷ (39 ∷ (doubled h.2.inner ++ 39 ∷ [])) ≡ byte ∷ bytes = cc (h.1, h.2.spells) in j); mode_is = h.2.mode_is }
    ]
text_step byte bytes mode false q e inside quoted =
    let r : InQuotes bytes mode = inside e in
    record { inner = byte ∷ r.inner; spells = rw q (ap (λ bs. byte ∷ bs) r.spells); mode_is = r.mode_is }

quote_step :
    (byte : ℕ) (bytes : List ℕ) (mode : Mode) → if_some (mode_if (nat_eq byte 39) InText) None (λ m. leads m bytes) ≡ Some mode
    → (leads InText bytes ≡ Some mode → InQuotes bytes mode) → AfterQuote (byte ∷ bytes) mode
quote_step byte bytes mode e inside =
    let a : (m : Mode) × (mode_if (nat_eq byte 39) InText ≡ Some m) × (leads m bytes ≡ Some mode) = there_is (mode_if (nat_eq byte 39) InText) (λ m. leads m bytes) mode e in
    let w : (nat_eq byte 39 ≡ true) × (InText ≡ a.0) = if_holds (nat_eq byte 39) InText a.0 a.1 in
    inr (bytes, ap (λ x. x ∷ bytes) (eqb-true byte 39 w.0), inside (ap (λ m. leads m bytes) w.1 ∙ a.2))

-- a token doesn't end in this mode
pub no_end : (mode mode' : Mode) (shape : Shape) → Some mode ≡ Some mode' → shape_at mode ≡ None → shape_at mode' ≡ Some shape → ⊥
no_end mode mode' shape e none some =
    let k : mode ≡ mode' = cc in
    let j : None ≡ Some shape = sym none ∙ ap shape_at k ∙ some in
    cc

mutual
  unfolding next

  text_only : (bytes : List ℕ) (mode : Mode) (shape : Shape) → shape_at mode ≡ Some shape → leads InText bytes ≡ Some mode → InQuotes bytes mode
  text_only [] mode shape s e = absurd (no_end InText mode shape e refl s)
  text_only (byte ∷ bytes) mode shape s e = text_step byte bytes mode (nat_eq byte 39) refl e (λ e'. text_only bytes mode shape s e') (λ e'. quote_only bytes mode shape s e')

  quote_only : (bytes : List ℕ) (mode : Mode) (shape : Shape) → shape_at mode ≡ Some shape → leads Quote bytes ≡ Some mode → AfterQuote bytes mode
  quote_only [] mode shape s e = inl (refl, cc)
  quote_only (byte ∷ bytes) mode shape s e = quote_step byte bytes mode e (λ e'. text_only bytes mode shape s e')

done_only : (symbol : Symbol) (bytes : List ℕ) (mode : Mode) → leads (Done symbol) bytes ≡ Some mode → (bytes ≡ []) × (mode ≡ Done symbol)
unfolding next
done_only symbol [] mode e = (refl, cc)
done_only symbol (byte ∷ bytes) mode e = absurd (cc)

-- a sign that goes on with `=`
equals_only :
    (byte : ℕ) (bytes : List ℕ) (symbol : Symbol) (mode : Mode) → if_some (mode_if (nat_eq byte 61) (Done symbol)) None (λ m. leads m bytes) ≡ Some mode
    → (byte ∷ bytes ≡ 61 ∷ []) × (mode ≡ Done symbol)
equals_only byte bytes symbol mode e =
    let a : (m : Mode) × (mode_if (nat_eq byte 61) (Done symbol) ≡ Some m) × (leads m bytes ≡ Some mode) = there_is (mode_if (nat_eq byte 61) (Done symbol)) (λ m. leads m bytes) mode e in
    let w : (nat_eq byte 61 ≡ true) × (Done symbol ≡ a.0) = if_holds (nat_eq byte 61) (Done symbol) a.0 a.1 in
    let r : (bytes ≡ []) × (mode ≡ Done symbol) = done_only symbol bytes mode (ap (λ m. leads m bytes) w.1 ∙ a.2) in
    let k : byte ≡ 61 = eqb-true byte 61 w.0 in
    (cc (r.0), r.1)

-- what the mode at the end says of the shape
shape_is : (mode mode' : Mode) (shape shape' : Shape) → mode ≡ mode' → shape_at mode ≡ Some shape → shape_at mode' ≡ Some shape' → shape' ≡ shape
shape_is mode mode' shape shape' e s s' =
    let k : Some shape' ≡ Some shape = sym s' ∙ ap shape_at (sym e) ∙ s in
    cc

sign_of : (symbol : Symbol) (bytes : List ℕ) (mode : Mode) (shape : Shape) → symbol_text symbol ≡ bytes → mode ≡ sign_mode symbol → shape_at mode ≡ Some shape → Spelled bytes shape
sign_of symbol bytes mode shape e k s = subst (λ (s : Shape). Spelled bytes s) (shape_is mode (sign_mode symbol) shape (Sign symbol) k s (sign_ends symbol)) (sym e)

one_byte :
    (symbol : Symbol) (byte c : ℕ) (bytes : List ℕ) (mode : Mode) (shape : Shape) → symbol_text symbol ≡ c ∷ [] → sign_mode symbol ≡ Done symbol
    → shape_at mode ≡ Some shape → nat_eq byte c ≡ true → leads (Done symbol) bytes ≡ Some mode → Spelled (byte ∷ bytes) shape
one_byte symbol byte c bytes mode shape t f s q e =
    let r : (bytes ≡ []) × (mode ≡ Done symbol) = done_only symbol bytes mode e in
    let k : byte ≡ c = eqb-true byte c q in
    sign_of symbol (byte ∷ bytes) mode shape (t ∙ cc (r.0)) (r.1 ∙ sym f) s

bang_only : (byte : ℕ) (bytes : List ℕ) (mode : Mode) (shape : Shape) → shape_at mode ≡ Some shape → nat_eq byte 33 ≡ true → leads Bang bytes ≡ Some mode → Spelled (byte ∷ bytes) shape
unfolding next sign_mode
bang_only byte [] mode shape s q e = absurd (no_end Bang mode shape e refl s)
bang_only byte (c ∷ bytes) mode shape s q e =
    let r : (c ∷ bytes ≡ 61 ∷ []) × (mode ≡ Done (Compare Ne)) = equals_only c bytes (Compare Ne) mode e in
    let k : byte ≡ 33 = eqb-true byte 33 q in
    sign_of (Compare Ne) (byte ∷ c ∷ bytes) mode shape (let j : 33 ∷ (61 ∷ []) ≡ byte ∷ (c ∷ bytes) = cc (r.0) in j) r.1 s

less_only : (byte : ℕ) (bytes : List ℕ) (mode : Mode) (shape : Shape) → shape_at mode ≡ Some shape → nat_eq byte 60 ≡ true → leads Less bytes ≡ Some mode → Spelled (byte ∷ bytes) shape
unfolding next sign_mode
less_only byte [] mode shape s q e =
    let k : byte ≡ 60 = eqb-true byte 60 q in
    sign_of (Compare Lt) (byte ∷ []) mode shape (let j : 60 ∷ [] ≡ byte ∷ [] = cc in j) (let j : mode ≡ Less = cc in j) s
less_only byte (c ∷ bytes) mode shape s q e =
    let r : (c ∷ bytes ≡ 61 ∷ []) × (mode ≡ Done (Compare Le)) = equals_only c bytes (Compare Le) mode e in
    let k : byte ≡ 60 = eqb-true byte 60 q in
    sign_of (Compare Le) (byte ∷ c ∷ bytes) mode shape (let j : 60 ∷ (61 ∷ []) ≡ byte ∷ (c ∷ bytes) = cc (r.0) in j) r.1 s

greater_only : (byte : ℕ) (bytes : List ℕ) (mode : Mode) (shape : Shape) → shape_at mode ≡ Some shape → nat_eq byte 62 ≡ true → leads Greater bytes ≡ Some mode → Spelled (byte ∷ bytes) shape
unfolding next sign_mode
greater_only byte [] mode shape s q e =
    let k : byte ≡ 62 = eqb-true byte 62 q in
    sign_of (Compare Gt) (byte ∷ []) mode shape (let j : 62 ∷ [] ≡ byte ∷ [] = cc in j) (let j : mode ≡ Greater = cc in j) s
greater_only byte (c ∷ bytes) mode shape s q e =
    let r : (c ∷ bytes ≡ 61 ∷ []) × (mode ≡ Done (Compare Ge)) = equals_only c bytes (Compare Ge) mode e in
    let k : byte ≡ 62 = eqb-true byte 62 q in
    sign_of (Compare Ge) (byte ∷ c ∷ bytes) mode shape (let j : 62 ∷ (61 ∷ []) ≡ byte ∷ (c ∷ bytes) = cc (r.0) in j) r.1 s

number_of :
    (negative : Bool) (digit : ℕ) (digits bytes : List ℕ) (mode : Mode) (shape : Shape) → shape_at mode ≡ Some shape
    → bytes ≡ signed negative (digit ∷ digits) → is_digit digit ≡ true → leads (Digits 1) digits ≡ Some mode → Spelled bytes shape
number_of negative digit digits bytes mode shape s t q e =
    let r : (list_all is_digit digits ≡ true) × (1 + length digits ≤ 20) × (mode ≡ Digits (1 + length digits)) = digits_only digits 1 mode (omega arith) e in
    let number : IsNumber bytes = record { negative = negative; digits = digit ∷ digits; spells = t; some = omega arith; few = omega (arith, r.1); all = both_true q r.0 } in
    subst (λ (s : Shape). Spelled bytes s) (shape_is mode (Digits (1 + length digits)) shape Number r.2 s refl) number

minus_only : (byte : ℕ) (bytes : List ℕ) (mode : Mode) (shape : Shape) → shape_at mode ≡ Some shape → nat_eq byte 45 ≡ true → leads Minus bytes ≡ Some mode → Spelled (byte ∷ bytes) shape
unfolding next
minus_only byte [] mode shape s q e = absurd (no_end Minus mode shape e refl s)
minus_only byte (digit ∷ digits) mode shape s q e =
    let a : (m : Mode) × (mode_if (is_digit digit) (Digits 1) ≡ Some m) × (leads m digits ≡ Some mode) = there_is (mode_if (is_digit digit) (Digits 1)) (λ m. leads m digits) mode e in
    let w : (is_digit digit ≡ true) × (Digits 1 ≡ a.0) = if_holds (is_digit digit) (Digits 1) a.0 a.1 in
    let k : byte ≡ 45 = eqb-true byte 45 q in
    number_of true digit digits (byte ∷ digit ∷ digits) mode shape s (ap (λ y. y ∷ digit ∷ digits) k) w.0 (ap (λ m. leads m digits) w.1 ∙ a.2)

text_of : (byte : ℕ) (bytes : List ℕ) (mode : Mode) (shape : Shape) → shape_at mode ≡ Some shape → nat_eq byte 39 ≡ true → leads InText bytes ≡ Some mode → Spelled (byte ∷ bytes) shape
text_of byte bytes mode shape s q e =
    let r : InQuotes bytes mode = text_only bytes mode shape s e in
    let k : byte ≡ 39 = eqb-true byte 39 q in
    let quoted : IsQuoted (byte ∷ bytes) = record { inner = r.inner; spells = (let j : byte ∷ bytes ≡ 39 ∷ (doubled r.inner ++ 39 ∷ []) = cc (r.spells) in j) } in
    subst (λ (s : Shape). Spelled (byte ∷ bytes) s) (shape_is mode Quote shape Text r.mode_is s refl) quoted

word_of : (byte : ℕ) (bytes : List ℕ) (mode : Mode) (shape : Shape) → shape_at mode ≡ Some shape → is_letter byte ≡ true → leads InWord bytes ≡ Some mode → Spelled (byte ∷ bytes) shape
word_of byte bytes mode shape s q e =
    let r : (list_all is_word_byte bytes ≡ true) × (mode ≡ InWord) = word_only bytes mode e in
    subst (λ (s : Shape). Spelled (byte ∷ bytes) s) (shape_is mode InWord shape Word r.1 s refl) (both_true q r.0)

abbrev Goal : ℕ → List ℕ → Mode → Shape → Option Mode → Type 0
Goal byte bytes mode shape later = if_some later None (λ m. leads m bytes) ≡ Some mode → Spelled (byte ∷ bytes) shape

pick : (byte : ℕ) (bytes : List ℕ) (mode : Mode) (shape : Shape) (is : Bool) (x y : Option Mode) → (is ≡ true → Goal byte bytes mode shape x) → Goal byte bytes mode shape y → Goal byte bytes mode shape (if is then x else y)
pick byte bytes mode shape true x y p q = p refl
pick byte bytes mode shape false x y p q = q

first_only : (byte : ℕ) (bytes : List ℕ) (mode : Mode) (shape : Shape) → shape_at mode ≡ Some shape → Goal byte bytes mode shape (first byte)
unfolding first sign_mode
first_only byte bytes mode shape s =
    pick byte bytes mode shape (is_letter byte) _ _ (word_of byte bytes mode shape s)
    (pick byte bytes mode shape (is_digit byte) _ _ (λ q e. number_of false byte bytes (byte ∷ bytes) mode shape s refl q e)
    (pick byte bytes mode shape (nat_eq byte 45) _ _ (minus_only byte bytes mode shape s)
    (pick byte bytes mode shape (nat_eq byte 39) _ _ (text_of byte bytes mode shape s)
    (pick byte bytes mode shape (nat_eq byte 40) _ _ (one_byte Open byte 40 bytes mode shape refl refl s)
    (pick byte bytes mode shape (nat_eq byte 41) _ _ (one_byte Close byte 41 bytes mode shape refl refl s)
    (pick byte bytes mode shape (nat_eq byte 44) _ _ (one_byte Comma byte 44 bytes mode shape refl refl s)
    (pick byte bytes mode shape (nat_eq byte 42) _ _ (one_byte Star byte 42 bytes mode shape refl refl s)
    (pick byte bytes mode shape (nat_eq byte 61) _ _ (one_byte (Compare Eq) byte 61 bytes mode shape refl refl s)
    (pick byte bytes mode shape (nat_eq byte 33) _ _ (bang_only byte bytes mode shape s)
    (pick byte bytes mode shape (nat_eq byte 60) _ _ (less_only byte bytes mode shape s)
    (pick byte bytes mode shape (nat_eq byte 62) _ _ (greater_only byte bytes mode shape s) (λ e. absurd (cc)))))))))))))

pub read_spelled : (bytes : List ℕ) (shape : Shape) → Reads bytes shape → Spelled bytes shape
unfolding next
read_spelled [] shape h = absurd (no_end Start h.mode shape h.leads_to refl h.ends)
read_spelled (byte ∷ bytes) shape h = first_only byte bytes h.mode shape h.ends h.leads_to
