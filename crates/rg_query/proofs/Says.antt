-- A text says one thing.
use Rattle.std.proofs.Common.{◌≡◌, ◌⊎◌, ◌<◌, ◌≤◌, ℕ, List, length, Option, Some, None, Result, Ok, Err, refl, sym, ap, ◌∙◌, inl, inr, arith}
use Rattle.rg_event.specs.Shapes.{Shape}
use Rattle.rg_metric.specs.Queries.{Asked, asked}
use Rattle.rg_metric.specs.declared.query.Query.{Query}
use Rattle.rg_parse.specs.Texts.{IsQueryText, Syntax, parsed, stops_at, too_deep, Reads}
use Rattle.rg_grammar.specs.Grammar as syntax
use Rattle.rg_query.specs.Building.{Gives}
use Rattle.rg_query.specs.Resolving.{resolved, refused_at, first_unknown, first_wrong, first_bad, query_asked}
use Rattle.rg_query.specs.Saying.{Means, Says, Tells, Agrees}
use Rattle.rg_query.specs.declared.fault.QueryFault.{QueryFault}
use Rattle.rg_query.specs.declared.fault.QueryFault.TheVariants.{Syntax as SyntaxFault, UnknownName, WrongKind, BadSpan, TooLarge, Memory}

-- a text is one syntax
abbrev pub IsOne : List ℕ → Type 0
IsOne text = (syntax other : Syntax) → Reads text syntax → Reads text other → syntax ≡ other

-- what a syntax says
abbrev pub saying : Shape → Syntax → Result Asked QueryFault
saying shape (parsed query) = resolved shape query
saying shape (stops_at place) = Err (SyntaxFault place)
saying shape too_deep = Err TooLarge

-- a short text says what its syntax says
pub record Short (shape : Shape) (text : List ℕ) (said : Result Asked QueryFault) : Type 0 where
  pub syntax : Syntax
  pub reads : Reads text syntax
  pub says : saying shape syntax ≡ said

short_means : {shape : Shape} {text : List ℕ} {said : Result Asked QueryFault} → Means shape text said → Short shape text said
short_means m = record { syntax = parsed m.syntax; reads = m.derives; says = m.means }

pub short : (shape : Shape) (text : List ℕ) (said : Result Asked QueryFault) → length text ≤ 4096 → Says shape text said → Short shape text said
short shape text (Ok query) few said = short_means said.1
short shape text (Err (SyntaxFault place)) few said = record { syntax = stops_at place; reads = said.1; says = refl }
short shape text (Err (UnknownName place)) few said = short_means said.1
short shape text (Err (WrongKind place)) few said = short_means said.1
short shape text (Err (BadSpan place)) few said = short_means said.1
short shape text (Err TooLarge) few (inl long) = absurd (omega arith)
short shape text (Err TooLarge) few (inr deep) = record { syntax = too_deep; reads = deep; says = refl }
short shape text (Err Memory) few said = absurd said

-- a long one says that it is too large
pub long : (shape : Shape) (text : List ℕ) (said : Result Asked QueryFault) → 4096 < length text → Says shape text said → said ≡ Err TooLarge
long shape text (Ok query) many said = absurd (omega (arith, said.0))
long shape text (Err (SyntaxFault place)) many said = absurd (omega (arith, said.0))
long shape text (Err (UnknownName place)) many said = absurd (omega (arith, said.0))
long shape text (Err (WrongKind place)) many said = absurd (omega (arith, said.0))
long shape text (Err (BadSpan place)) many said = absurd (omega (arith, said.0))
long shape text (Err TooLarge) many said = refl
long shape text (Err Memory) many said = absurd said

pub one_long : (shape : Shape) (text : List ℕ) (said other : Result Asked QueryFault) → 4096 < length text → Says shape text said → Says shape text other → said ≡ other
one_long shape text said other many says also = long shape text said many says ∙ sym (long shape text other many also)

pub one_short : (shape : Shape) (text : List ℕ) (said other : Result Asked QueryFault) → length text ≤ 4096 → IsOne text → Says shape text said → Says shape text other → said ≡ other
one_short shape text said other few one says also =
    let s = short shape text said few says in
    let o = short shape text other few also in
    sym s.says ∙ (ap (λ syntax. saying shape syntax) (one s.syntax o.syntax s.reads o.reads) ∙ o.says)

-- what is told is what the text says, so it agrees with all that the text says
pub told : (shape : Shape) (text : List ℕ) (said : Result Asked QueryFault) (r : Result Query QueryFault) → ((other : Result Asked QueryFault) → Says shape text said → Says shape text other → said ≡ other) → Tells shape text r → Says shape text said → Agrees said r
told shape text said (Ok query) one tells says = one (Ok (asked query)) says tells
told shape text said (Err (SyntaxFault place)) one tells says = inl (one (Err (SyntaxFault place)) says tells)
told shape text said (Err (UnknownName place)) one tells says = inl (one (Err (UnknownName place)) says tells)
told shape text said (Err (WrongKind place)) one tells says = inl (one (Err (WrongKind place)) says tells)
told shape text said (Err (BadSpan place)) one tells says = inl (one (Err (BadSpan place)) says tells)
told shape text said (Err TooLarge) one tells says = inl (one (Err TooLarge) says tells)
told shape text said (Err Memory) one tells says = inr refl

-- what is resolved is no fault of the syntax
no_syntax : (n w b : Option ℕ) (q : Asked) (place : ℕ) → refused_at UnknownName n (refused_at WrongKind w (refused_at BadSpan b (Ok q))) ≡ Err (SyntaxFault place) → ⊥
no_syntax (Some n) w b q place e = grind arith
no_syntax None (Some w) b q place e = grind arith
no_syntax None None (Some b) q place e = grind arith
no_syntax None None None q place e = grind arith

no_size : (n w b : Option ℕ) (q : Asked) → refused_at UnknownName n (refused_at WrongKind w (refused_at BadSpan b (Ok q))) ≡ Err TooLarge → ⊥
no_size (Some n) w b q e = grind arith
no_size None (Some w) b q e = grind arith
no_size None None (Some b) q e = grind arith
no_size None None None q e = grind arith

either_err : {why : QueryFault} {said : Result Asked QueryFault} → (why ≡ Memory → ⊥) → (said ≡ Err why) ⊎ (why ≡ Memory) → said ≡ Err why
either_err other (inl e) = e
either_err other (inr e) = absurd (other e)

-- a query that was resolved tells what its text says
pub resolved_tells : (shape : Shape) (text : List ℕ) (query : syntax.Query) (r : Result Query QueryFault) → length text ≤ 4096 → IsQueryText text query → Gives asked (resolved shape query) r → Tells shape text r
resolved_tells shape text query (Ok q) few derives gives = (few, record { syntax = query; derives = derives; means = gives })
resolved_tells shape text query (Err (SyntaxFault place)) few derives gives =
    absurd (no_syntax (first_unknown shape query) (first_wrong shape query) (first_bad query) (query_asked shape query) place (either_err (λ e. grind arith) gives))
resolved_tells shape text query (Err (UnknownName place)) few derives gives = (few, record { syntax = query; derives = derives; means = either_err (λ e. grind arith) gives })
resolved_tells shape text query (Err (WrongKind place)) few derives gives = (few, record { syntax = query; derives = derives; means = either_err (λ e. grind arith) gives })
resolved_tells shape text query (Err (BadSpan place)) few derives gives = (few, record { syntax = query; derives = derives; means = either_err (λ e. grind arith) gives })
resolved_tells shape text query (Err TooLarge) few derives gives =
    absurd (no_size (first_unknown shape query) (first_wrong shape query) (first_bad query) (query_asked shape query) (either_err (λ e. grind arith) gives))
resolved_tells shape text query (Err Memory) few derives gives = tt
