-- Every text says something.
use Rattle.std.proofs.Common.{◌≡◌, refl, ℕ, ◌≤◌, List, length, nat_lt, Bool, true, false, Option, Some, None, Result, Ok, Err, inl, inr}
use Rattle.std.proofs.lemmas.Bool.{ltb-true, ltb-false}
use Rattle.rg_event.specs.Shapes.{Shape}
use Rattle.rg_grammar.specs.Grammar as syntax
use Rattle.rg_metric.specs.Queries.{Asked}
use Rattle.rg_parse.specs.Texts.{IsQueryText, Syntax, parsed, stops_at, too_deep, Reads}
use Rattle.rg_parse.proofs.Laws.{some_syntax}
use Rattle.rg_query.specs.Resolving.{resolved, refused_at, first_unknown, first_wrong, first_bad, query_asked}
use Rattle.rg_query.specs.Saying.{Says}
use Rattle.rg_query.specs.declared.fault.QueryFault.{QueryFault}
use Rattle.rg_query.specs.declared.fault.QueryFault.TheVariants as fault

module _ (shape : Shape) (text : List ℕ) (query : syntax.Query) (short : length text ≤ 4096) (derives : IsQueryText text query) where
  resolved_says :
      (unknown wrong bad : Option ℕ)
      → resolved shape query ≡ refused_at fault.UnknownName unknown (refused_at fault.WrongKind wrong (refused_at fault.BadSpan bad (Ok (query_asked shape query))))
      → (said : Result Asked QueryFault) × Says shape text said
  resolved_says (Some place) wrong bad is = (Err (fault.UnknownName place), (short, record { syntax = query; derives = derives; means = is }))
  resolved_says None (Some place) bad is = (Err (fault.WrongKind place), (short, record { syntax = query; derives = derives; means = is }))
  resolved_says None None (Some place) is = (Err (fault.BadSpan place), (short, record { syntax = query; derives = derives; means = is }))
  resolved_says None None None is = (Ok (query_asked shape query), (short, record { syntax = query; derives = derives; means = is }))

by_syntax : (shape : Shape) (text : List ℕ) → length text ≤ 4096 → (syntax : Syntax) → Reads text syntax → (said : Result Asked QueryFault) × Says shape text said
by_syntax shape text short (parsed query) reads = resolved_says shape text query short reads (first_unknown shape query) (first_wrong shape query) (first_bad query) refl
by_syntax shape text short (stops_at place) reads = (Err (fault.Syntax place), (short, reads))
by_syntax shape text short too_deep reads = (Err fault.TooLarge, inr reads)

by_length : (shape : Shape) (text : List ℕ) (long : Bool) → nat_lt 4096 (length text) ≡ long → (said : Result Asked QueryFault) × Says shape text said
by_length shape text true long = (Err fault.TooLarge, inl (ltb-true _ _ long))
by_length shape text false short = let reading = some_syntax text in by_syntax shape text (ltb-false _ _ short) reading.0 reading.1

pub says_something : (shape : Shape) (text : List ℕ) → (said : Result Asked QueryFault) × Says shape text said
says_something shape text = by_length shape text (nat_lt 4096 (length text)) refl
