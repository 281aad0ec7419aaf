-- The syntax that is written for a legal query asks that query.
use Rattle.std.proofs.Common.{◌≡◌, ℕ, zero, suc, ◌*◌, ◌≤◌, ◌<◌, ◌^◌, List, [], ◌∷◌, ◌++◌, map, length, Option, Some, None, Bool, true, false, ℤ, refl, ap, sym, ◌∙◌, arith, option_map, nat_le, ◌&&◌, ◌==◌, decimal}
use Rattle.std.proofs.lemmas.Bool.{and_from, eqb-true, le-leb}
use Rattle.std.proofs.lemmas.Fmt.{digits_decimal}
use Rattle.std.proofs.lemmas.Grind.{common_steps}
use Rattle.std.proofs.lemmas.List.Elements.{All-head, All-tail, All-cons, All-nil}
use Rattle.std.proofs.lemmas.Slice.Eq.{bytes_eq-Decides}
use Rattle.std.specs.Fmt.{signed_decimal}
use Rattle.std.specs.List.{All}
use Rattle.std.specs.Prelude.{bytes_eq, if◌then◌else◌, unsigned_abs}
use Rattle.std.specs.Str.{all_ascii_digits}
use Rattle.rg_bytes.proofs.Laws.{whole_of-decimal, signed_of-signed_decimal, decimal_digits}
use Rattle.rg_bytes.specs.Numbers.{whole_of, signed_of}
use Rattle.rg_event.specs.Codec.{IsValueOf}
use Rattle.rg_event.specs.Parsing.{in_range}
use Rattle.rg_event.specs.Words.{is_word}
use Rattle.rg_event.specs.Shapes.{Shape}
use Rattle.rg_event.specs.declared.value.Kind.{Kind}
use Rattle.rg_event.specs.declared.value.Kind.TheVariants as kind
use Rattle.rg_event.specs.declared.value.Value.{Value}
use Rattle.rg_event.specs.declared.value.Value.TheVariants.{Int as IntValue, Id as IdValue, Text as TextValue, Flag as FlagValue}
use Rattle.rg_keywords.specs.declared.func.Func.{Func}
use Rattle.rg_keywords.specs.declared.func.Func.TheVariants.{Count, Pct}
use Rattle.rg_keywords.specs.declared.time_unit.TimeUnit.TheVariants.{Millisecond}
use Rattle.rg_grammar.specs.Grammar.{span, maybe_span, is_signed, IsMaybeSpan}
use Rattle.rg_grammar.specs.Printed.{is_plain, IsWritable, AreWritable, CanWrite}
use Rattle.rg_grammar.proofs.Laws.{span_is}
use Rattle.rg_metric.specs.Conditions.{Test, compared, not_of, and_of, or_of}
use Rattle.rg_metric.specs.Queries.{Asked}
use Rattle.rg_metric.specs.declared.query.Agg.{Agg}
use Rattle.rg_query.specs.Legal.{IsColumn, IsOperand, IsLegalAgg, AreLegalAggs, IsLegalTest, IsLegalFilter, IsLegalLength, IsLegalQuery}
use Rattle.rg_query.specs.Printing.{doubled}
use Rattle.rg_metric.specs.Admitted.{takes}
use Rattle.rg_query.specs.Resolving.{in_hundred, or_no_percent, percent_of, pct_asked, or_else, first_in, unless_known, unknown_column, unknown_in_agg, unknown_in_tree, in_filter, id_of, inside, literal_value, literal_place, wrong_comparison, wrong_in_tree, wrong_field, wrong_agg, between, millis_of, bad_span, or_zero, column_of, agg_asked, or_false, value_asked, test_asked, or_no_time, length_asked, delay_asked}
use Rattle.rg_query.specs.Written.{column_name, literal_of, tree_of, call_of, call_of_agg, length_of, delay_of, syntax_of}
use Rattle.rg_query.proofs.Asking.{IsAsked}

-- literals

id_of_digits : (text : List ℕ) → all_ascii_digits text ≡ true → id_of text ≡ whole_of text
id_of_digits [] h = refl
id_of_digits (byte ∷ text) h = grind (arith, common_steps)

decimals : (n : ℕ) → n < 2 ^ 64 → all_ascii_digits (decimal n) ≡ true
decimals n below = digits_decimal decimal_digits n below

inside_doubled : (text : List ℕ) → inside (doubled text ++ 39 ∷ []) ≡ text
inside_doubled [] = refl
inside_doubled (byte ∷ text) = by_test (byte == 39) refl (inside_doubled text)
  where
    by_test : (b : Bool) → (byte == 39) ≡ b → inside (doubled text ++ 39 ∷ []) ≡ text → inside ((if b then 39 ∷ 39 ∷ doubled text else byte ∷ doubled text) ++ 39 ∷ []) ≡ byte ∷ text
    by_test true e h = ap (λ xs. 39 ∷ xs) h ∙ ap (λ x. x ∷ text) (sym (eqb-true byte 39 e))
    by_test false e h = rw e (ap (λ xs. byte ∷ xs) h)

int_again : (z : ℤ) → unsigned_abs z ≤ 1000000000000 → option_map IntValue (in_range (signed_of (signed_decimal z))) ≡ Some (IntValue z)
int_again z h =
    let test : nat_le (unsigned_abs z) 1000000000000 ≡ true = grind arith in
    ap (λ o. option_map IntValue (in_range o)) (signed_of-signed_decimal z (omega arith)) ∙ ap (λ (b : Bool). option_map IntValue (if b then Some z else None)) test

literal_again : (k : Kind) (v : Value) → IsValueOf k v → literal_value k (literal_of v) ≡ Some v
literal_again kind.Int (IntValue z) h = int_again z h
literal_again kind.Id (IdValue n) h = ap (option_map IdValue) (id_of_digits (decimal n) (decimals n h) ∙ whole_of-decimal n h)
literal_again kind.Text (TextValue text) h = ap (λ xs. if is_word xs then Some (TextValue xs) else None) (inside_doubled text) ∙ ap (λ (b : Bool). if b then Some (TextValue text) else None) h
literal_again kind.Flag (FlagValue flag) h = refl
literal_again k v h = absurd h

-- conditions

record TestAgain (shape : Shape) (t : Test) : Type 0 where
  known : unknown_in_tree shape (tree_of shape t) ≡ None
  right : wrong_in_tree shape (tree_of shape t) ≡ None
  asks : test_asked shape (tree_of shape t) ≡ t

both_none : (a b : Option ℕ) → a ≡ None → b ≡ None → or_else a b ≡ None
both_none a b h k = ap (λ x. or_else x b) h ∙ k

test_again : (shape : Shape) (t : Test) → IsLegalTest shape t → TestAgain shape t
test_again shape (compared column op value) h = record {
  known = ap (unless_known 0) h.found;
  right = ap (wrong_comparison 0 op (literal_of value)) h.found
      ∙ ap (λ (b : Bool). if b then unless_known (literal_place (literal_of value)) (literal_value h.kind (literal_of value)) else Some 0) h.ordered
      ∙ ap (unless_known (literal_place (literal_of value))) (literal_again h.kind value h.fits);
  asks = ap (λ o. compared (or_zero o) op (value_asked o (literal_of value))) h.found ∙ ap (λ o. compared column op (or_false o)) (literal_again h.kind value h.fits);
}
test_again shape (not_of t) h = let r : TestAgain shape t = test_again shape t h in record { known = r.known; right = r.right; asks = ap not_of r.asks }
test_again shape (and_of s t) h =
    let p : TestAgain shape s = test_again shape s h.0 in
    let q : TestAgain shape t = test_again shape t h.1 in
    record {
      known = both_none _ _ p.known q.known;
      right = both_none _ _ p.right q.right;
      asks = ap (λ x. and_of x (test_asked shape (tree_of shape t))) p.asks ∙ ap (and_of s) q.asks;
    }
test_again shape (or_of s t) h =
    let p : TestAgain shape s = test_again shape s h.0 in
    let q : TestAgain shape t = test_again shape t h.1 in
    record {
      known = both_none _ _ p.known q.known;
      right = both_none _ _ p.right q.right;
      asks = ap (λ x. or_of x (test_asked shape (tree_of shape t))) p.asks ∙ ap (or_of s) q.asks;
    }

record FilterAgain (shape : Shape) (filter : Option Test) : Type 0 where
  known : in_filter (unknown_in_tree shape) (option_map (tree_of shape) filter) ≡ None
  right : in_filter (wrong_in_tree shape) (option_map (tree_of shape) filter) ≡ None
  asks : option_map (test_asked shape) (option_map (tree_of shape) filter) ≡ filter

filter_again : (shape : Shape) (filter : Option Test) → IsLegalFilter shape filter → FilterAgain shape filter
filter_again shape None h = record { known = refl; right = refl; asks = refl }
filter_again shape (Some t) h = let r : TestAgain shape t = test_again shape t h in record { known = r.known; right = r.right; asks = ap (λ x. Some x) r.asks }

unsigned : (text : List ℕ) → all_ascii_digits text ≡ true → is_signed text ≡ false
unsigned [] h = refl
unsigned (byte ∷ text) h = grind (arith, common_steps)

-- aggregators

record CallAgain (shape : Shape) (func : Func) (column : ℕ) : Type 0 where
  known : unknown_in_agg shape (call_of shape func column) ≡ None
  right : wrong_agg shape (call_of shape func column) ≡ None
  asks : agg_asked shape (call_of shape func column) ≡ record { func = func; field = column }
  writable : IsWritable (call_of shape func column)

abbrev is_percentile : Func → Bool
is_percentile (Pct percent) = true
is_percentile _ = false

plain_taken : (func : Func) (k : Kind) → takes func k ≡ true → is_percentile func ≡ false → is_plain func ≡ true
plain_taken Count k h p = absurd (cc)
plain_taken (Pct percent) k h p = absurd (cc)
plain_taken _ k h p = refl

percent_again : (n : ℕ) → 1 ≤ n → n ≤ 100 → percent_of (decimal n) ≡ Some n
percent_again n low high =
    let test : (nat_le 1 n && nat_le n 100) ≡ true = and_from _ _ (le-leb 1 n low) (le-leb n 100 high) in
    ap in_hundred (whole_of-decimal n (omega (arith, high))) ∙ ap (λ (b : Bool). if b then Some n else None) test

abbrev agg_made : Func → ℕ → Agg
agg_made func column = record { func = func; field = column }

call_again : (shape : Shape) (func : Func) (column : ℕ) → IsOperand shape func column → CallAgain shape func column
call_again shape func zero h = record { known = refl; right = refl; asks = ap (λ f. agg_made f 0) (sym h); writable = tt }
call_again shape (Pct percent) (suc n) h =
    let e : percent_of (decimal percent) ≡ Some percent = percent_again percent h.percent.0 h.percent.1 in
    let few : percent < 2 ^ 64 = omega (arith, h.percent.1) in
    record {
      known = ap (unless_known 0) h.found;
      right = both_none _ _ (ap (unless_known 0) e) (ap (wrong_field (pct_asked (decimal percent)) 0) h.found ∙ ap (λ (b : Bool). if b then None else Some 0) h.taken);
      asks = ap (λ o. agg_made (Pct (or_no_percent o)) (column_of shape (column_name shape (suc n)))) e ∙ ap (λ o. agg_made (Pct percent) (or_zero o)) h.found;
      writable = unsigned (decimal percent) (decimals percent few);
    }
call_again shape func (suc n) h = record {
  known = ap (unless_known 0) h.found;
  right = ap (wrong_field func 0) h.found ∙ ap (λ (b : Bool). if b then None else Some 0) h.taken;
  asks = ap (λ o. agg_made func (or_zero o)) h.found;
  writable = plain_taken func h.kind h.taken refl;
}

record CallsAgain (shape : Shape) (aggs : List Agg) : Type 0 where
  known : first_in (unknown_in_agg shape) (map (call_of_agg shape) aggs) ≡ None
  right : first_in (wrong_agg shape) (map (call_of_agg shape) aggs) ≡ None
  asks : map (agg_asked shape) (map (call_of_agg shape) aggs) ≡ aggs
  writable : All IsWritable (map (call_of_agg shape) aggs)

calls_again : (shape : Shape) (aggs : List Agg) → All (IsLegalAgg shape) aggs → CallsAgain shape aggs
calls_again shape [] h = record { known = refl; right = refl; asks = refl; writable = All-nil IsWritable }
calls_again shape (agg ∷ aggs) h =
    let p : CallAgain shape agg.func agg.field = call_again shape agg.func agg.field (All-head (IsLegalAgg shape) agg aggs h) in
    let q : CallsAgain shape aggs = calls_again shape aggs (All-tail (IsLegalAgg shape) agg aggs h) in
    record {
      known = both_none _ _ p.known q.known;
      right = both_none _ _ p.right q.right;
      asks = ap (λ x. x ∷ map (agg_asked shape) (map (call_of_agg shape) aggs)) p.asks ∙ ap (λ xs. agg ∷ xs) q.asks;
      writable = All-cons IsWritable (call_of_agg shape agg) (map (call_of_agg shape) aggs) p.writable q.writable;
    }

all_legal : (shape : Shape) (aggs : List Agg) → AreLegalAggs shape aggs → All (IsLegalAgg shape) aggs
all_legal shape [] h = absurd h
all_legal shape (agg ∷ aggs) h = h

some_writable : (shape : Shape) (aggs : List Agg) → AreLegalAggs shape aggs → AreWritable (map (call_of_agg shape) aggs)
some_writable shape [] h = absurd h
some_writable shape (agg ∷ aggs) h = (calls_again shape (agg ∷ aggs) h).writable

pub can_write : (shape : Shape) (q : Asked) → IsLegalQuery shape q → CanWrite (syntax_of shape q)
can_write shape q h = some_writable shape q.aggs h.aggs

-- the key

record KeyAgain (shape : Shape) (columns : List ℕ) : Type 0 where
  known : first_in (unknown_column shape) (map (column_name shape) columns) ≡ None
  asks : map (column_of shape) (map (column_name shape) columns) ≡ columns

key_again : (shape : Shape) (columns : List ℕ) → All (IsColumn shape) columns → KeyAgain shape columns
key_again shape [] h = record { known = refl; asks = refl }
key_again shape (n ∷ columns) h =
    let here : IsColumn shape n = All-head (IsColumn shape) n columns h in
    let r : KeyAgain shape columns = key_again shape columns (All-tail (IsColumn shape) n columns h) in
    record {
      known = both_none _ _ (ap (unless_known 0) here.found) r.known;
      asks = ap (λ o. or_zero o ∷ map (column_of shape) (map (column_name shape) columns)) here.found ∙ ap (λ ns. n ∷ ns) r.asks;
    }

-- spans

in_between : (low n : ℕ) → low ≤ n → n ≤ 1000000000000000 → between low (Some n) ≡ Some n
in_between low n h k =
    let a : nat_le low n ≡ true = grind arith in
    let b : nat_le n 1000000000000000 ≡ true = grind arith in
    rw (a, b) refl

millis_again : (low n : ℕ) → low ≤ n → n ≤ 1000000000000000 → millis_of low (span 0 (decimal n) Millisecond) ≡ Some n
millis_again low n h k =
    ap (λ o. between low (option_map (λ m. m * 1) o)) (whole_of-decimal n (omega arith))
    ∙ ap (λ m. between low (Some m)) (let e : n * 1 ≡ n = omega arith in e)
    ∙ in_between low n h k

pub record LengthAgain (length : Option ℕ) : Type 0 where
  pub right : bad_span 1 (maybe_span (length_of length)) ≡ None
  pub asks : length_asked (maybe_span (length_of length)) ≡ length
  pub writable : IsMaybeSpan (length_of length)

pub length_again : (length : Option ℕ) → IsLegalLength length → LengthAgain length
length_again None h = record { right = refl; asks = refl; writable = tt }
length_again (Some n) h =
    let e : millis_of 1 (span 0 (decimal n) Millisecond) ≡ Some n = millis_again 1 n h.0 h.1 in
    record { right = ap (unless_known 0) e; asks = ap (λ o. Some (or_no_time o)) e; writable = span_is (decimal n) (unsigned (decimal n) (decimals n (omega (arith, h.1)))) }

pub record DelayAgain (delay : ℕ) : Type 0 where
  pub right : bad_span 0 (maybe_span (delay_of delay)) ≡ None
  pub asks : delay_asked (maybe_span (delay_of delay)) ≡ delay
  pub writable : IsMaybeSpan (delay_of delay)

pub delay_again : (delay : ℕ) → delay ≤ 1000000000000000 → DelayAgain delay
delay_again zero h = record { right = refl; asks = refl; writable = tt }
delay_again (suc n) h =
    let e : millis_of 0 (span 0 (decimal (suc n)) Millisecond) ≡ Some (suc n) = millis_again 0 (suc n) (omega arith) h in
    record { right = ap (unless_known 0) e; asks = ap or_no_time e; writable = span_is (decimal (suc n)) (unsigned (decimal (suc n)) (decimals (suc n) (omega arith))) }

-- a whole query

same_stream : (stream : List ℕ) → bytes_eq stream stream ≡ true
same_stream stream = grind (arith, bytes_eq-Decides stream stream)

abbrev made : List Agg → Option Test → List ℕ → ℕ → Option ℕ → Asked
made aggs filter group delay length = record { aggs = aggs; filter = filter; group = group; window = record { delay = delay; length = length } }

pub asked_again : (shape : Shape) (q : Asked) → IsLegalQuery shape q → IsAsked shape (syntax_of shape q) q
asked_again shape q h =
    let a : CallsAgain shape q.aggs = calls_again shape q.aggs (all_legal shape q.aggs h.aggs) in
    let f : FilterAgain shape q.filter = filter_again shape q.filter h.filter in
    let k : KeyAgain shape q.group = key_again shape q.group h.group in
    let l : LengthAgain q.window.length = length_again q.window.length h.length in
    let d : DelayAgain q.window.delay = delay_again q.window.delay h.delay in
    let x = option_map (test_asked shape) (option_map (tree_of shape) q.filter) in
    let y = map (column_of shape) (map (column_name shape) q.group) in
    let z = delay_asked (maybe_span (delay_of q.window.delay)) in
    let w = length_asked (maybe_span (length_of q.window.length)) in
    record {
      known = both_none _ _ a.known (both_none _ _ (ap (λ (b : Bool). if b then None else Some 0) (same_stream shape.stream)) (both_none _ _ f.known k.known));
      right = both_none _ _ a.right f.right;
      bounded = both_none _ _ l.right d.right;
      asks = ap (λ xs. made xs x y z w) a.asks
          ∙ ap (λ t. made q.aggs t y z w) f.asks
          ∙ ap (λ g. made q.aggs q.filter g z w) k.asks
          ∙ ap (λ n. made q.aggs q.filter q.group n w) d.asks
          ∙ ap (λ n. made q.aggs q.filter q.group q.window.delay n) l.asks;
    }
