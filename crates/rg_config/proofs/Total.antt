-- All bytes say something.
use Rattle.std.proofs.Common.{◌≡◌, ◌⊎◌, ◌∙◌, sym, refl, ap, subst, ℕ, suc, ◌+◌, List, [], ◌∷◌, ◌++◌, length, nat_lt, Bool, true, false, Option, Some, None, Result, Ok, Err, inl, inr, arith}
use Rattle.std.proofs.lemmas.Bool.{ltb-true, ltb-false}
use Rattle.toml.specs.Data.{Members}
use Rattle.rg_event.specs.Shapes.{Shape}
use Rattle.rg_event.specs.declared.value.Value.{Value}
use Rattle.rg_event.specs.Reading.{shape_of}
use Rattle.rg_event.proofs.Laws.{joined_of, legal_of, read_back}
use Rattle.rg_metric.specs.Queries.{Asked}
use Rattle.rg_query.proofs.Laws.{says_something as query_says}
use Rattle.rg_config.specs.Documents.{document, stream_of, stream_defaults, rest_of, Settings}
use Rattle.rg_config.specs.Plans.{Planned, HasStream, NoStream, IsJudged, IsTaken, IsRefusedQuery, AllTaken, FirstRefused, Says, judged}
use Rattle.rg_config.specs.declared.fault.ConfigFault.{ConfigFault}
use Rattle.rg_config.specs.declared.fault.ConfigFault.TheVariants.{Toml, Stream, Defaults as BadDefaults, Settings as BadSettings, Query}
use Rattle.rg_config.specs.declared.fault.DefaultsFault.{DefaultsFault}
use Rattle.rg_config.specs.declared.fault.SettingsFault.{SettingsFault}
use Rattle.rg_config.specs.declared.fault.QueryRefusal.{QueryRefusal}
use Rattle.rg_config.specs.declared.fault.QueryRefusal.TheVariants.{TooMany}

-- A text with a number is taken or refused

by_judgement :
    (number : ℕ) (shape : Shape) (text : List ℕ) (said : Result Asked QueryRefusal) → IsJudged number shape text said
    → ((q : Asked) × IsTaken number shape text q) ⊎ ((refusal : QueryRefusal) × IsRefusedQuery number shape text refusal)
by_judgement number shape text (Ok q) is = inl (q, is)
by_judgement number shape text (Err refusal) is = inr (refusal, inr is)

by_number :
    (number : ℕ) (shape : Shape) (text : List ℕ) (few : Bool) → nat_lt number 64 ≡ few
    → ((q : Asked) × IsTaken number shape text q) ⊎ ((refusal : QueryRefusal) × IsRefusedQuery number shape text refusal)
by_number number shape text true few =
    let reading = query_says shape text in
    by_judgement number shape text (judged reading.0) (record { few = ltb-true _ _ few; read = reading.0; says = reading.1; is = refl })
by_number number shape text false many = inr (TooMany, inl (ltb-false _ _ many, refl))

-- Texts are all taken, or one is the first that isn't

-- that one, where the first text has this number
record FirstFrom (number : ℕ) (shape : Shape) (texts : List (List ℕ)) : Type 0 where
  front : List (List ℕ)
  text : List ℕ
  rest : List (List ℕ)
  split : texts ≡ front ++ text ∷ rest
  queries : List Asked
  taken : AllTaken number shape front queries
  refusal : QueryRefusal
  refused : IsRefusedQuery (number + length front) shape text refusal

refused_now : (number : ℕ) (shape : Shape) (text : List ℕ) (texts : List (List ℕ)) (refusal : QueryRefusal) → IsRefusedQuery number shape text refusal → FirstFrom number shape (text ∷ texts)
refused_now number shape text texts refusal refused =
    let place : number ≡ number + 0 = omega arith in
    record {
      front = [];
      text = text;
      rest = texts;
      split = refl;
      queries = [];
      taken = tt;
      refusal = refusal;
      refused = subst (λ n. IsRefusedQuery n shape text refusal) place refused;
    }

refused_later : (number : ℕ) (shape : Shape) (text : List ℕ) (texts : List (List ℕ)) (q : Asked) → IsTaken number shape text q → FirstFrom (suc number) shape texts → FirstFrom number shape (text ∷ texts)
refused_later number shape text texts q is first =
    let place : suc number + length first.front ≡ number + suc (length first.front) = omega arith in
    record {
      front = text ∷ first.front;
      text = first.text;
      rest = first.rest;
      split = ap (λ more. text ∷ more) first.split;
      queries = q ∷ first.queries;
      taken = (is, first.taken);
      refusal = first.refusal;
      refused = subst (λ n. IsRefusedQuery n shape first.text first.refusal) place first.refused;
    }

abbrev TakenOrFirst : ℕ → Shape → List (List ℕ) → Type 0
TakenOrFirst number shape texts = ((qs : List Asked) × AllTaken number shape texts qs) ⊎ FirstFrom number shape texts

with_next : (number : ℕ) (shape : Shape) (text : List ℕ) (texts : List (List ℕ)) (q : Asked) → IsTaken number shape text q → TakenOrFirst (suc number) shape texts → TakenOrFirst number shape (text ∷ texts)
with_next number shape text texts q is (inl all) = inl (q ∷ all.0, (is, all.1))
with_next number shape text texts q is (inr first) = inr (refused_later number shape text texts q is first)

by_first :
    (number : ℕ) (shape : Shape) (text : List ℕ) (texts : List (List ℕ)) → ((q : Asked) × IsTaken number shape text q) ⊎ ((refusal : QueryRefusal) × IsRefusedQuery number shape text refusal)
    → TakenOrFirst (suc number) shape texts → TakenOrFirst number shape (text ∷ texts)
by_first number shape text texts (inl taken) more = with_next number shape text texts taken.0 taken.1 more
by_first number shape text texts (inr refused) more = inr (refused_now number shape text texts refused.0 refused.1)

taken_or_first : (number : ℕ) (shape : Shape) (texts : List (List ℕ)) → TakenOrFirst number shape texts
taken_or_first number shape [] = inl ([], tt)
taken_or_first number shape (text ∷ texts) = by_first number shape text texts (by_number number shape text (nat_lt number 64) refl) (taken_or_first (suc number) shape texts)

first_refused : (shape : Shape) (texts : List (List ℕ)) (first : FirstFrom 0 shape texts) → FirstRefused shape texts (length first.front) first.refusal
first_refused shape texts first =
    let place : 0 + length first.front ≡ length first.front = omega arith in
    record {
      front = first.front;
      text = first.text;
      rest = first.rest;
      split = first.split;
      queries = first.queries;
      taken = first.taken;
      place = refl;
      refused = subst (λ n. IsRefusedQuery n shape first.text first.refusal) place first.refused;
    }

-- The bytes, stage by stage

abbrev SaySomething : List ℕ → Type 0
SaySomething bytes = (said : Result Planned ConfigFault) × Says bytes said

module _ (bytes : List ℕ) (top : Members) (is : document bytes ≡ Some top) where
  module _ (shape : Shape) (stream : HasStream top shape) where
    by_queries :
        (defaults : List (Option Value)) → stream_defaults shape.fields top ≡ Ok defaults → (texts : List (List ℕ)) (settings : Settings)
        → rest_of top ≡ Ok (texts, settings) → TakenOrFirst 0 shape texts → SaySomething bytes
    by_queries defaults declared texts settings rest (inl all) = (
      Ok (record { shape = shape; defaults = defaults; queries = all.0; settings = settings }),
      record { top = top; texts = texts; document = is; stream = stream; defaults = declared; rest = rest; queries = all.1 },
    )
    by_queries defaults declared texts settings rest (inr first) = (
      Err (Query (length first.front) first.refusal),
      record { top = top; shape = shape; defaults = defaults; texts = texts; settings = settings; document = is; stream = stream; declared = declared; rest = rest; first = first_refused shape texts first },
    )

    by_rest : (defaults : List (Option Value)) → stream_defaults shape.fields top ≡ Ok defaults → (rest : Result (List (List ℕ) × Settings) SettingsFault) → rest_of top ≡ rest → SaySomething bytes
    by_rest defaults declared (Ok (texts, settings)) rest = by_queries defaults declared texts settings rest (taken_or_first 0 shape texts)
    by_rest defaults declared (Err cause) none = (Err (BadSettings cause), record { top = top; shape = shape; defaults = defaults; document = is; stream = stream; declared = declared; none = none })

    by_defaults : (defaults : Result (List (Option Value)) DefaultsFault) → stream_defaults shape.fields top ≡ defaults → SaySomething bytes
    by_defaults (Ok defaults) declared = by_rest defaults declared (rest_of top) refl
    by_defaults (Err cause) none = (Err (BadDefaults cause), record { top = top; shape = shape; document = is; stream = stream; none = none })

  no_stream : NoStream top → SaySomething bytes
  no_stream none = (Err Stream, record { top = top; document = is; none = none })

  by_shape : (text : List ℕ) → stream_of top ≡ Some text → (shape : Option Shape) → shape_of text ≡ shape → SaySomething bytes
  by_shape text described (Some shape) read =
      by_defaults shape (record { text = text; described = described; is = joined_of text shape read; legal = legal_of text shape read }) (stream_defaults shape.fields top) refl
  by_shape text described None none = no_stream (λ shape stream.
      let same : stream.text ≡ text = cc (described, stream.described) in
      let read : shape_of text ≡ Some shape = read_back text shape stream.legal (sym same ∙ stream.is) in
      cc (read, none))

  by_stream : (text : Option (List ℕ)) → stream_of top ≡ text → SaySomething bytes
  by_stream (Some text) described = by_shape text described (shape_of text) refl
  by_stream None none = no_stream (λ shape stream. cc (none, stream.described))

by_document : (bytes : List ℕ) (top : Option Members) → document bytes ≡ top → SaySomething bytes
by_document bytes (Some top) is = by_stream bytes top is (stream_of top) refl
by_document bytes None none = (Err Toml, none)

pub says_something : (bytes : List ℕ) → (said : Result Planned ConfigFault) × Says bytes said
says_something bytes = by_document bytes (document bytes) refl
