-- What a text says as a query over a schema: a query, or the fault that it is refused by.
use Rattle.std.specs.Prelude.{◌≡◌, ◌⊎◌, ◌<◌, ◌≤◌, ℕ, List, length, Result, Ok, Err, ⊤}
use Rattle.rg_event.specs.Shapes.{Shape}
use Rattle.rg_metric.specs.Queries.{Asked, asked}
use Rattle.rg_metric.specs.declared.query.Query.{Query}
use Rattle.rg_grammar.specs.Grammar as syntax
use Rattle.rg_parse.specs.Texts.{IsQueryText, IsSyntaxAt, IsTooDeep}
use Rattle.rg_query.specs.Resolving.{resolved}
use Rattle.rg_query.specs.declared.fault.QueryFault.{QueryFault}
use Rattle.rg_query.specs.declared.fault.QueryFault.TheVariants.{Syntax, UnknownName, WrongKind, BadSpan, TooLarge, Memory}

-- the text derives from the grammar, and this is what its names, kinds and spans make of it
pub record Means (shape : Shape) (text : List ℕ) (said : Result Asked QueryFault) : Type 0 where
  pub syntax : syntax.Query
  pub derives : IsQueryText text syntax
  pub means : resolved shape syntax ≡ said

-- a text within the limit
abbrev pub IsShort : List ℕ → Type 0
IsShort text = length text ≤ 4096

abbrev pub Says : Shape → List ℕ → Result Asked QueryFault → Type 0
Says shape text (Ok query) = IsShort text × Means shape text (Ok query)
Says shape text (Err (Syntax place)) = IsShort text × IsSyntaxAt text place
Says shape text (Err (UnknownName place)) = IsShort text × Means shape text (Err (UnknownName place))
Says shape text (Err (WrongKind place)) = IsShort text × Means shape text (Err (WrongKind place))
Says shape text (Err (BadSpan place)) = IsShort text × Means shape text (Err (BadSpan place))
Says shape text (Err TooLarge) = (4096 < length text) ⊎ IsTooDeep text
Says shape text (Err Memory) = ⊥

-- an answer as plain data
abbrev pub shown : Result Query QueryFault → Result Asked QueryFault
shown (Ok query) = Ok (asked query)
shown (Err fault) = Err fault

-- what is answered is what the text says, unless memory ran out
abbrev pub Tells : Shape → List ℕ → Result Query QueryFault → Type 0
Tells shape text (Ok query) = Says shape text (Ok (asked query))
Tells shape text (Err Memory) = ⊤
Tells shape text (Err fault) = Says shape text (Err fault)

-- what a text says is what is answered, unless memory ran out
abbrev pub Agrees : Result Asked QueryFault → Result Query QueryFault → Type 0
Agrees said (Ok query) = said ≡ Ok (asked query)
Agrees said (Err fault) = (said ≡ Err fault) ⊎ (fault ≡ Memory)
