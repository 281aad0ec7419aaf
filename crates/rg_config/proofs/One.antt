-- The bytes of a plan file say one thing.
use Rattle.std.proofs.Common.{◌≡◌, ◌∙◌, ◌⊎◌, refl, sym, ap, subst, ℕ, suc, ◌+◌, ◌++◌, List, [], ◌∷◌, length, Option, Some, None, Result, Ok, Err, inl, inr, arith}
use Rattle.toml.specs.Data.{Members}
use Rattle.rg_event.specs.Shapes.{Shape, IsSchema, schema_text}
use Rattle.rg_event.specs.Reading.{shape_of}
use Rattle.rg_event.proofs.Laws.{read_back}
use Rattle.rg_event.specs.declared.value.Value.{Value}
use Rattle.rg_metric.specs.Queries.{Asked}
use Rattle.rg_query.proofs.Laws.{one_query}
use Rattle.rg_config.specs.Documents.{document, stream_of, stream_defaults, rest_of, Settings}
use Rattle.rg_config.specs.Plans.{Planned, HasStream, NoStream, IsJudged, IsTaken, IsRefusedQuery, AllTaken, FirstRefused, Says, Tells, Agrees, planned, judged}
use Rattle.rg_config.specs.declared.plan.Plan.{Plan}
use Rattle.rg_config.specs.declared.fault.ConfigFault.{ConfigFault}
use Rattle.rg_config.specs.declared.fault.ConfigFault.TheVariants.{Toml, Stream, Defaults as BadDefaults, Settings as BadSettings, Query, Memory}
use Rattle.rg_config.specs.declared.fault.DefaultsFault.{DefaultsFault}
use Rattle.rg_config.specs.declared.fault.SettingsFault.{SettingsFault}
use Rattle.rg_config.specs.declared.fault.QueryRefusal.{QueryRefusal}

same_some : {A : Type 0} → (o : Option A) (a b : A) → o ≡ Some a → o ≡ Some b → a ≡ b
same_some o a b is also = cc

not_both : {A : Type 0} → (o : Option A) (a : A) → o ≡ Some a → o ≡ None → ⊥
not_both o a is none = absurd cc

same_shape : (text : List ℕ) (s t : Shape) → IsSchema s → IsSchema t → text ≡ schema_text s → text ≡ schema_text t → s ≡ t
same_shape text s t is also spells writes =
    same_some (shape_of text) s t (read_back text s is spells) (read_back text t also writes)

-- a table describes one stream
one_stream : (top : Members) (s t : Shape) → HasStream top s → HasStream top t → s ≡ t
one_stream top s t has also =
    let text : has.text ≡ also.text = same_some (stream_of top) has.text also.text has.described also.described in
    same_shape has.text s t has.legal also.legal has.is (text ∙ also.is)

-- a text is judged in one way
one_judgement : (number : ℕ) (shape : Shape) (text : List ℕ) (said other : Result Asked QueryRefusal) → IsJudged number shape text said → IsJudged number shape text other → said ≡ other
one_judgement number shape text said other is also =
    sym is.is ∙ (ap judged (one_query shape text is.read also.read is.says also.says) ∙ also.is)

one_taken : (number : ℕ) (shape : Shape) (text : List ℕ) (q r : Asked) → IsTaken number shape text q → IsTaken number shape text r → q ≡ r
one_taken number shape text q r is also = let same = one_judgement number shape text (Ok q) (Ok r) is also in cc

-- one that is taken isn't refused
not_refused : (number : ℕ) (shape : Shape) (text : List ℕ) (q : Asked) (refusal : QueryRefusal) → IsTaken number shape text q → IsRefusedQuery number shape text refusal → ⊥
not_refused number shape text q refusal is (inl many) = absurd (omega (arith, is.few, many.0))
not_refused number shape text q refusal is (inr judged) = let same = one_judgement number shape text (Ok q) (Err refusal) is judged in absurd cc

-- and one that is refused is so for one cause
one_refusal : (number : ℕ) (shape : Shape) (text : List ℕ) (refusal other : QueryRefusal) → IsRefusedQuery number shape text refusal → IsRefusedQuery number shape text other → refusal ≡ other
one_refusal number shape text refusal other (inl many) (inl also) = many.1 ∙ sym also.1
one_refusal number shape text refusal other (inl many) (inr judged) = absurd (omega (arith, many.0, judged.few))
one_refusal number shape text refusal other (inr judged) (inl many) = absurd (omega (arith, many.0, judged.few))
one_refusal number shape text refusal other (inr judged) (inr also) = let same = one_judgement number shape text (Err refusal) (Err other) judged also in cc

-- texts ask one list of queries
one_list : (number : ℕ) (shape : Shape) (texts : List (List ℕ)) (qs rs : List Asked) → AllTaken number shape texts qs → AllTaken number shape texts rs → qs ≡ rs
one_list number shape [] [] [] all also = refl
one_list number shape [] (q ∷ qs) rs all also = absurd all
one_list number shape [] [] (r ∷ rs) all also = absurd also
one_list number shape (text ∷ texts) [] rs all also = absurd all
one_list number shape (text ∷ texts) (q ∷ qs) [] all also = absurd also
one_list number shape (text ∷ texts) (q ∷ qs) (r ∷ rs) all also =
    let first : q ≡ r = one_taken number shape text q r all.0 also.0 in
    let others : qs ≡ rs = one_list (suc number) shape texts qs rs all.1 also.1 in
    rw (first, others) refl

-- where all are taken none is refused
none_refused :
    (number : ℕ) (shape : Shape) (front rest : List (List ℕ)) (text : List ℕ) (refusal : QueryRefusal) (qs : List Asked)
    → AllTaken number shape (front ++ text ∷ rest) qs → IsRefusedQuery (number + length front) shape text refusal → ⊥
none_refused number shape [] rest text refusal [] all refused = absurd all
none_refused number shape [] rest text refusal (q ∷ qs) all refused =
    let place : number + 0 ≡ number = omega arith in
    not_refused number shape text q refusal all.0 (subst (λ n. IsRefusedQuery n shape text refusal) place refused)
none_refused number shape (first ∷ front) rest text refusal [] all refused = absurd all
none_refused number shape (first ∷ front) rest text refusal (q ∷ qs) all refused =
    let place : number + suc (length front) ≡ suc number + length front = omega arith in
    none_refused (suc number) shape front rest text refusal qs all.1 (subst (λ n. IsRefusedQuery n shape text refusal) place refused)

-- the text that is refused first stands at one place
one_place :
    (number : ℕ) (shape : Shape) (front rest also_front also_rest : List (List ℕ)) (text also_text : List ℕ) (refusal other : QueryRefusal) (qs rs : List Asked)
    → front ++ text ∷ rest ≡ also_front ++ also_text ∷ also_rest
    → AllTaken number shape front qs → IsRefusedQuery (number + length front) shape text refusal
    → AllTaken number shape also_front rs → IsRefusedQuery (number + length also_front) shape also_text other
    → (length front ≡ length also_front) × (text ≡ also_text)
one_place number shape [] rest [] also_rest text also_text refusal other qs rs same all refused also differs = (refl, cc)
one_place number shape [] rest (first ∷ also_front) also_rest text also_text refusal other qs [] same all refused also differs = absurd also
one_place number shape [] rest (first ∷ also_front) also_rest text also_text refusal other qs (r ∷ rs) same all refused also differs =
    let place : number + 0 ≡ number = omega arith in
    let here : text ≡ first = cc in
    absurd (not_refused number shape first r refusal also.0 (subst (λ t. IsRefusedQuery number shape t refusal) here (subst (λ n. IsRefusedQuery n shape text refusal) place refused)))
one_place number shape (first ∷ front) rest [] also_rest text also_text refusal other [] rs same all refused also differs = absurd all
one_place number shape (first ∷ front) rest [] also_rest text also_text refusal other (q ∷ qs) rs same all refused also differs =
    let place : number + 0 ≡ number = omega arith in
    let here : also_text ≡ first = cc in
    absurd (not_refused number shape first q other all.0 (subst (λ t. IsRefusedQuery number shape t other) here (subst (λ n. IsRefusedQuery n shape also_text other) place differs)))
one_place number shape (first ∷ front) rest (second ∷ also_front) also_rest text also_text refusal other [] rs same all refused also differs = absurd all
one_place number shape (first ∷ front) rest (second ∷ also_front) also_rest text also_text refusal other (q ∷ qs) [] same all refused also differs = absurd also
one_place number shape (first ∷ front) rest (second ∷ also_front) also_rest text also_text refusal other (q ∷ qs) (r ∷ rs) same all refused also differs =
    let tails : front ++ text ∷ rest ≡ also_front ++ also_text ∷ also_rest = cc in
    let place : number + suc (length front) ≡ suc number + length front = omega arith in
    let also_place : number + suc (length also_front) ≡ suc number + length also_front = omega arith in
    let here = one_place (suc number) shape front rest also_front also_rest text also_text refusal other qs rs tails
    all.1 (subst (λ n. IsRefusedQuery n shape text refusal) place refused)
    also.1 (subst (λ n. IsRefusedQuery n shape also_text other) also_place differs) in
    (ap suc here.0, here.1)

-- What is said, stage by stage: the queries of a schema, what stands beside the stream, the defaults, the table, the bytes

abbrev QueriesSay : Shape → List (Option Value) → List (List ℕ) → Settings → Result Planned ConfigFault → Type 0
QueriesSay shape defaults texts settings said =
    ((queries : List Asked) × ((said ≡ Ok (record { shape = shape; defaults = defaults; queries = queries; settings = settings })) × AllTaken 0 shape texts queries))
    ⊎ ((number : ℕ) × (refusal : QueryRefusal) × (said ≡ Err (Query number refusal)) × FirstRefused shape texts number refusal)

abbrev RestSays : Members → Shape → List (Option Value) → Result Planned ConfigFault → Type 0
RestSays top shape defaults said =
    ((fault : SettingsFault) × (said ≡ Err (BadSettings fault)) × (rest_of top ≡ Err fault))
    ⊎ ((rest : List (List ℕ) × Settings) × ((rest_of top ≡ Ok rest) × QueriesSay shape defaults rest.0 rest.1 said))

abbrev DefaultsSay : Members → Shape → Result Planned ConfigFault → Type 0
DefaultsSay top shape said =
    ((fault : DefaultsFault) × (said ≡ Err (BadDefaults fault)) × (stream_defaults shape.fields top ≡ Err fault))
    ⊎ ((defaults : List (Option Value)) × ((stream_defaults shape.fields top ≡ Ok defaults) × RestSays top shape defaults said))

abbrev TopSays : Members → Result Planned ConfigFault → Type 0
TopSays top said = ((said ≡ Err Stream) × NoStream top) ⊎ ((shape : Shape) × (HasStream top shape × DefaultsSay top shape said))

abbrev BytesSay : List ℕ → Result Planned ConfigFault → Type 0
BytesSay bytes said = ((said ≡ Err Toml) × (document bytes ≡ None)) ⊎ ((top : Members) × ((document bytes ≡ Some top) × TopSays top said))

staged : (bytes : List ℕ) (said : Result Planned ConfigFault) → Says bytes said → BytesSay bytes said
staged bytes (Ok plan) says =
    inr (says.top, (says.document, inr (plan.shape, (says.stream, inr (plan.defaults, (says.defaults, inr ((says.texts, plan.settings), (says.rest, inl (plan.queries, (refl, says.queries))))))))))
staged bytes (Err Toml) says = inl (refl, says)
staged bytes (Err Stream) says = inr (says.top, (says.document, inl (refl, says.none)))
staged bytes (Err (BadDefaults fault)) says = inr (says.top, (says.document, inr (says.shape, (says.stream, inl (fault, refl, says.none)))))
staged bytes (Err (BadSettings fault)) says = inr (says.top, (says.document, inr (says.shape, (says.stream, inr (says.defaults, (says.declared, inl (fault, refl, says.none)))))))
staged bytes (Err (Query number refusal)) says =
    inr (says.top, (says.document, inr (says.shape, (says.stream, inr (says.defaults, (says.declared, inr ((says.texts, says.settings), (says.rest, inr (number, refusal, refl, says.first)))))))))
staged bytes (Err Memory) says = absurd says

refused_there :
    (shape : Shape) (texts : List (List ℕ)) (n : ℕ) (refusal : QueryRefusal) (first : FirstRefused shape texts n refusal)
    → IsRefusedQuery (0 + length first.front) shape first.text refusal
refused_there shape texts n refusal first =
    let place : length first.front ≡ 0 + length first.front = omega arith in
    subst (λ i. IsRefusedQuery i shape first.text refusal) (first.place ∙ place) first.refused

-- the first text that is refused, and its cause, are one
one_first :
    (shape : Shape) (texts : List (List ℕ)) (n m : ℕ) (refusal other : QueryRefusal)
    → FirstRefused shape texts n refusal → FirstRefused shape texts m other → (n ≡ m) × (refusal ≡ other)
one_first shape texts n m refusal other first next =
    let same = one_place 0 shape first.front first.rest next.front next.rest first.text next.text refusal other first.queries next.queries
    (sym first.split ∙ next.split)
    first.taken (refused_there shape texts n refusal first)
    next.taken (refused_there shape texts m other next) in
    let number : n ≡ m = first.place ∙ (same.0 ∙ sym next.place) in
    (number, one_refusal m shape next.text refusal other (subst (λ t. IsRefusedQuery m shape t refusal) same.1 (subst (λ i. IsRefusedQuery i shape first.text refusal) number first.refused)) next.refused)

module _ (shape : Shape) (defaults : List (Option Value)) where
  one_of_queries :
      (texts : List (List ℕ)) (settings : Settings) (said other : Result Planned ConfigFault)
      → QueriesSay shape defaults texts settings said → QueriesSay shape defaults texts settings other → said ≡ other
  one_of_queries texts settings said other (inl (qs, (is, all))) (inl (rs, (also, taken))) =
      is ∙ (ap (λ queries. Ok (record { shape = shape; defaults = defaults; queries = queries; settings = settings })) (one_list 0 shape texts qs rs all taken) ∙ sym also)
  one_of_queries texts settings said other (inl (qs, (is, all))) (inr (n, refusal, also, first)) =
      absurd (none_refused 0 shape first.front first.rest first.text refusal qs
      (subst (λ ts. AllTaken 0 shape ts qs) first.split all)
      (refused_there shape texts n refusal first))
  one_of_queries texts settings said other (inr (n, refusal, is, first)) (inl (rs, (also, taken))) =
      absurd (none_refused 0 shape first.front first.rest first.text refusal rs
      (subst (λ ts. AllTaken 0 shape ts rs) first.split taken)
      (refused_there shape texts n refusal first))
  one_of_queries texts settings said other (inr (n, refusal, is, first)) (inr (m, also_refusal, also, next)) =
      let same = one_first shape texts n m refusal also_refusal first next in
      is ∙ (ap (λ i. Err (Query i refusal)) same.0 ∙ (ap (λ r. Err (Query m r)) same.1 ∙ sym also))

  one_of_rest : (top : Members) (said other : Result Planned ConfigFault) → RestSays top shape defaults said → RestSays top shape defaults other → said ≡ other
  one_of_rest top said other (inl (fault, is, none)) (inl (cause, also, missing)) =
      let same : fault ≡ cause = cc in
      is ∙ (ap (λ f. Err (BadSettings f)) same ∙ sym also)
  one_of_rest top said other (inl (fault, is, none)) (inr (rest, (some, says))) = absurd cc
  one_of_rest top said other (inr (rest, (some, says))) (inl (fault, also, missing)) = absurd cc
  one_of_rest top said other (inr (rest, (some, says))) (inr (more, (also, tells))) =
      let same : more ≡ rest = cc in
      one_of_queries rest.0 rest.1 said other says (subst (λ r. QueriesSay shape defaults r.0 r.1 other) same tells)

one_of_defaults : (top : Members) (shape : Shape) (said other : Result Planned ConfigFault) → DefaultsSay top shape said → DefaultsSay top shape other → said ≡ other
one_of_defaults top shape said other (inl (fault, is, none)) (inl (cause, also, missing)) =
    let same : fault ≡ cause = cc in
    is ∙ (ap (λ f. Err (BadDefaults f)) same ∙ sym also)
one_of_defaults top shape said other (inl (fault, is, none)) (inr (defaults, (some, says))) = absurd cc
one_of_defaults top shape said other (inr (defaults, (some, says))) (inl (fault, also, missing)) = absurd cc
one_of_defaults top shape said other (inr (defaults, (some, says))) (inr (more, (also, tells))) =
    let same : more ≡ defaults = cc in
    one_of_rest shape defaults top said other says (subst (λ ds. RestSays top shape ds other) same tells)

one_of_top : (top : Members) (said other : Result Planned ConfigFault) → TopSays top said → TopSays top other → said ≡ other
one_of_top top said other (inl (is, none)) (inl (also, missing)) = is ∙ sym also
one_of_top top said other (inl (is, none)) (inr (shape, (has, says))) = absurd (none shape has)
one_of_top top said other (inr (shape, (has, says))) (inl (also, missing)) = absurd (missing shape has)
one_of_top top said other (inr (shape, (has, says))) (inr (form, (holds, tells))) =
    let same : form ≡ shape = one_stream top form shape holds has in
    one_of_defaults top shape said other says (subst (λ s. DefaultsSay top s other) same tells)

one_of_bytes : (bytes : List ℕ) (said other : Result Planned ConfigFault) → BytesSay bytes said → BytesSay bytes other → said ≡ other
one_of_bytes bytes said other (inl (is, none)) (inl (also, missing)) = is ∙ sym also
one_of_bytes bytes said other (inl (is, none)) (inr (top, (some, says))) = absurd (not_both (document bytes) top some none)
one_of_bytes bytes said other (inr (top, (some, says))) (inl (also, missing)) = absurd (not_both (document bytes) top some missing)
one_of_bytes bytes said other (inr (top, (some, says))) (inr (table, (also, tells))) =
    let same : table ≡ top = same_some (document bytes) table top also some in
    one_of_top top said other says (subst (λ t. TopSays t other) same tells)

pub one_plan : (bytes : List ℕ) (said other : Result Planned ConfigFault) → Says bytes said → Says bytes other → said ≡ other
one_plan bytes said other says tells = one_of_bytes bytes said other (staged bytes said says) (staged bytes other tells)

-- so what is told is what the bytes say, unless memory ran out
pub agrees : (bytes : List ℕ) (result : Result Plan ConfigFault) → Tells bytes result → (said : Result Planned ConfigFault) → Says bytes said → Agrees said result
agrees bytes (Ok plan) tells said says = one_plan bytes said (Ok (planned plan)) says tells
agrees bytes (Err Memory) tells said says = inr refl
agrees bytes (Err Toml) tells said says = inl (one_plan bytes said (Err Toml) says tells)
agrees bytes (Err Stream) tells said says = inl (one_plan bytes said (Err Stream) says tells)
agrees bytes (Err (BadDefaults fault)) tells said says = inl (one_plan bytes said (Err (BadDefaults fault)) says tells)
agrees bytes (Err (BadSettings fault)) tells said says = inl (one_plan bytes said (Err (BadSettings fault)) says tells)
agrees bytes (Err (Query number refusal)) tells said says = inl (one_plan bytes said (Err (Query number refusal)) says tells)
