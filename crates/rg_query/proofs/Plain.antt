-- The tokens of a query that is written are read as themselves.
use Rattle.std.proofs.Common.{◌≡◌, ℕ, suc, ◌<◌, ◌^◌, ◌&&◌, ◌||◌, not, List, [], ◌∷◌, ◌++◌, None, Bool, true, false, ℤ, pos, negsuc, refl, ap, ◌∙◌, arith, codes, decimal}
use Rattle.std.proofs.lemmas.Fmt.{decimal_nonempty, length-decimal-le, digits_decimal}
use Rattle.std.specs.Fmt.{signed_decimal}
use Rattle.std.specs.List.{list_all, list_any}
use Rattle.std.specs.Prelude.{IsTrue, unsigned_abs}
use Rattle.std.specs.Char.{is_ascii_digit}
use Rattle.std.specs.Str.{all_ascii_digits, str_eq_ignore_ascii_case}
use Rattle.rg_bytes.proofs.Laws.{decimal_digits}
use Rattle.rg_event.specs.Codec.{IsValueOf}
use Rattle.rg_event.specs.Names.{is_name, is_word, is_reserved, is_letter, is_word_byte}
use Rattle.rg_event.specs.declared.value.Kind.{Kind}
use Rattle.rg_event.specs.declared.value.Kind.TheVariants as kind
use Rattle.rg_event.specs.declared.value.Value.{Value}
use Rattle.rg_event.specs.declared.value.Value.TheVariants.{Int, Id, Text, Flag}
use Rattle.rg_keywords.specs.Words.{meaning_in, keyword_of, truth_of, func_name}
use Rattle.rg_keywords.specs.declared.func.Func.{Func}
use Rattle.rg_keywords.specs.declared.func.Func.TheVariants.{Count, Sum, Avg, SumSq, Min, Max, CountDistinct, First, Last, Median, Pct}
use Rattle.rg_keywords.specs.declared.keyword.Keyword.{Keyword}
use Rattle.rg_keywords.specs.declared.keyword.Keyword.TheVariants.{Select, From, Where, Group, By, Over, Sliding, Infinite, Delayed, And, Or, Not}
use Rattle.rg_keywords.specs.declared.op.Symbol.{Symbol}
use Rattle.rg_grammar.specs.Grammar.{named, digits, truth, reserved, symbol, word, literal}
use Rattle.rg_token.specs.Token.{IsNumber, is_digit}
use Rattle.rg_token.specs.Token as token
use Rattle.rg_query.specs.Spacing.{IsPlain}
use Rattle.rg_query.specs.Written.{literal_of}

-- words

not_in : {A : Type 0} (table : List (List ℕ × A)) (text : List ℕ) → list_any (λ (entry : List ℕ × A). str_eq_ignore_ascii_case text entry.0) table ≡ false → meaning_in table text ≡ None
not_in {A = A} [] text h = refl
not_in {A = A} ((name, meaning) ∷ table) text h = by_test (str_eq_ignore_ascii_case text name) refl h (λ g. not_in table text g)
  where
    by_test : (here : Bool) → str_eq_ignore_ascii_case text name ≡ here → (here || list_any (λ (entry : List ℕ × A). str_eq_ignore_ascii_case text entry.0) table) ≡ false
        → (list_any (λ (entry : List ℕ × A). str_eq_ignore_ascii_case text entry.0) table ≡ false → meaning_in table text ≡ None) → meaning_in ((name, meaning) ∷ table) text ≡ None
    by_test true e g next = absurd (cc)
    by_test false e g next = rw e (next g)

or_parts : (a b : Bool) → (a || b) ≡ false → (a ≡ false) × (b ≡ false)
or_parts true b h = absurd (cc)
or_parts false b h = (refl, h)

any_parts : {A : Type 0} (test : A → Bool) (xs ys : List A) → list_any test (xs ++ ys) ≡ false → (list_any test xs ≡ false) × (list_any test ys ≡ false)
any_parts test [] ys h = (refl, h)
any_parts test (x ∷ xs) ys h =
    let p : (test x ≡ false) × (list_any test (xs ++ ys) ≡ false) = or_parts (test x) (list_any test (xs ++ ys)) h in
    let r : (list_any test xs ≡ false) × (list_any test ys ≡ false) = any_parts test xs ys p.1 in
    (ap (λ b. b || list_any test xs) p.0 ∙ r.0, r.1)

keywords : List (List ℕ)
keywords = codes "SELECT" ∷ codes "FROM" ∷ codes "WHERE" ∷ codes "GROUP" ∷ codes "BY" ∷ codes "OVER" ∷ codes "SLIDING" ∷ codes "INFINITE" ∷ codes "DELAYED" ∷ codes "AND" ∷ codes "OR" ∷ codes "NOT" ∷ []

truths : List (List ℕ)
truths = codes "TRUE" ∷ codes "FALSE" ∷ []

record IsFree (text : List ℕ) : Type 0 where
  keyword : keyword_of text ≡ None
  truth : truth_of text ≡ None

is_free : (text : List ℕ) → is_reserved text ≡ false → IsFree text
unfolding keyword_of truth_of keywords truths
is_free text h =
    let p : (list_any (λ word. str_eq_ignore_ascii_case text word) keywords ≡ false) × (list_any (λ word. str_eq_ignore_ascii_case text word) truths ≡ false) =
    any_parts (λ word. str_eq_ignore_ascii_case text word) keywords truths h in
    record {
      keyword = not_in ((codes "select", Select) ∷ (codes "from", From) ∷ (codes "where", Where) ∷ (codes "group", Group) ∷ (codes "by", By) ∷ (codes "over", Over) ∷ (codes "sliding", Sliding) ∷ (codes "infinite", Infinite) ∷ (codes "delayed", Delayed) ∷ (codes "and", And) ∷ (codes "or", Or) ∷ (codes "not", Not) ∷ []) text p.0;
      truth = not_in ((codes "true", true) ∷ (codes "false", false) ∷ []) text p.1;
    }

and_parts : (a b : Bool) → (a && b) ≡ true → (a ≡ true) × (b ≡ true)
and_parts true b h = (refl, h)
and_parts false b h = absurd (cc)

not_true : (b : Bool) → not b ≡ true → b ≡ false
not_true true h = absurd (cc)
not_true false h = refl

without_length : (a b c : Bool) → (a && b && c) ≡ true → (a && b) ≡ true
without_length true true c h = refl
without_length true false c h = absurd (cc)
without_length false b c h = absurd (cc)

word_of : (w : List ℕ) → is_word w ≡ true → token.is_word w ≡ true
word_of [] h = absurd (cc)
word_of (byte ∷ bytes) h = without_length (is_letter byte) (list_all is_word_byte bytes) _ h

pub plain_name : (w : List ℕ) → IsTrue (is_name w) → IsPlain (word (named 0 w))
plain_name w h =
    let p : (is_word w ≡ true) × (not (is_reserved w) ≡ true) = and_parts (is_word w) (not (is_reserved w)) h in
    let free : IsFree w = is_free w (not_true (is_reserved w) p.1) in
    record {
      spelled = word_of w p.0;
      read = rw (free.keyword, free.truth) refl;
    }

pub plain_keyword : (k : Keyword) → IsPlain (reserved k)
unfolding keyword_of truth_of
plain_keyword Select = record { spelled = refl; read = refl }
plain_keyword From = record { spelled = refl; read = refl }
plain_keyword Where = record { spelled = refl; read = refl }
plain_keyword Group = record { spelled = refl; read = refl }
plain_keyword By = record { spelled = refl; read = refl }
plain_keyword Over = record { spelled = refl; read = refl }
plain_keyword Sliding = record { spelled = refl; read = refl }
plain_keyword Infinite = record { spelled = refl; read = refl }
plain_keyword Delayed = record { spelled = refl; read = refl }
plain_keyword And = record { spelled = refl; read = refl }
plain_keyword Or = record { spelled = refl; read = refl }
plain_keyword Not = record { spelled = refl; read = refl }

pub plain_symbol : (s : Symbol) → IsPlain (symbol s)
plain_symbol s = record { spelled = refl; read = refl }

pub plain_func : (f : Func) → IsPlain (word (named 0 (func_name f)))
unfolding keyword_of truth_of
plain_func Count = record { spelled = refl; read = refl }
plain_func Sum = record { spelled = refl; read = refl }
plain_func Avg = record { spelled = refl; read = refl }
plain_func SumSq = record { spelled = refl; read = refl }
plain_func Min = record { spelled = refl; read = refl }
plain_func Max = record { spelled = refl; read = refl }
plain_func CountDistinct = record { spelled = refl; read = refl }
plain_func First = record { spelled = refl; read = refl }
plain_func Last = record { spelled = refl; read = refl }
plain_func Median = record { spelled = refl; read = refl }
plain_func (Pct percent) = record { spelled = refl; read = refl }

pub plain_ms : IsPlain (word (named 0 (codes "ms")))
unfolding keyword_of truth_of
plain_ms = record { spelled = refl; read = refl }

-- literals

all_digits : (ds : List ℕ) → all_ascii_digits ds ≡ true → list_all is_digit ds ≡ true
all_digits [] h = refl
all_digits (d ∷ ds) h =
    let p : (is_ascii_digit d ≡ true) × (all_ascii_digits ds ≡ true) = and_parts (is_ascii_digit d) (all_ascii_digits ds) h in
    rw (p.0) (all_digits ds p.1)

legal_digits : (negative : Bool) (n : ℕ) → n < 2 ^ 64 → IsNumber (token.signed negative (decimal n))
legal_digits negative n below = record {
  negative = negative;
  digits = decimal n;
  spells = refl;
  some = omega (arith, decimal_nonempty n below);
  few = length-decimal-le 20 n (omega arith) (omega arith) below;
  all = all_digits (decimal n) (digits_decimal decimal_digits n below);
}

pub plain_whole : (n : ℕ) → n < 2 ^ 64 → IsPlain (literal (digits 0 (decimal n)))
plain_whole n below = record { spelled = legal_digits false n below; read = refl }

plain_signed : (z : ℤ) → unsigned_abs z < 2 ^ 64 → IsPlain (literal (digits 0 (signed_decimal z)))
plain_signed (pos n) below = plain_whole n below
plain_signed (negsuc n) below = record { spelled = legal_digits true (suc n) below; read = refl }

plain_text : (text : List ℕ) → IsPlain (literal (literal_of (Text text)))
plain_text text = record { spelled = record { inner = text; spells = refl }; read = refl }

plain_flag : (flag : Bool) → IsPlain (literal (truth 0 flag))
unfolding keyword_of truth_of
plain_flag true = record { spelled = refl; read = refl }
plain_flag false = record { spelled = refl; read = refl }

pub plain_literal : (k : Kind) (v : Value) → IsValueOf k v → IsPlain (literal (literal_of v))
plain_literal kind.Int (Int n) h = plain_signed n (omega arith)
plain_literal kind.Id (Id n) h = plain_whole n h
plain_literal kind.Text (Text text) h = plain_text text
plain_literal kind.Flag (Flag flag) h = plain_flag flag
plain_literal k v h = absurd h
