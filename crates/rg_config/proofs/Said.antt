-- Queries that are taken are each said by a text.
use Rattle.std.proofs.Common.{◌≡◌, subst, ℕ, suc, List, [], ◌∷◌, Option, Some, None, Result, Ok, Err, All}
use Rattle.std.proofs.lemmas.List.Elements.{All-nil, All-cons, All-head, All-tail}
use Rattle.rg_event.specs.Shapes.{Shape}
use Rattle.rg_metric.specs.Queries.{Asked}
use Rattle.rg_query.specs.Legal.{IsLegalQuery}
use Rattle.rg_query.specs.Saying.{Means, Says}
use Rattle.rg_query.specs.declared.fault.QueryFault.{QueryFault}
use Rattle.rg_config.specs.Plans.{AllTaken, judged, unless, excess_in}
use Rattle.rg_config.specs.Read.{IsSaid}
use Rattle.rg_config.specs.declared.fault.QueryRefusal.{QueryRefusal}

taken_as : (q r : Asked) (excess : Option QueryRefusal) → unless q excess ≡ Ok r → q ≡ r
taken_as q r None is = cc is
taken_as q r (Some refusal) is = absurd (cc is)

meant : (shape : Shape) (text : List ℕ) (query : Asked) (read : Result Asked QueryFault) → Says shape text read → judged read ≡ Ok query → Means shape text (Ok query)
meant shape text query (Ok asked) says is = subst (λ q. Means shape text (Ok q)) (taken_as asked query (excess_in asked) is) says.1
meant shape text query (Err fault) says is = absurd (cc is)

pub all_said_from : (number : ℕ) (shape : Shape) (texts : List (List ℕ)) (queries : List Asked) → AllTaken number shape texts queries → All (IsLegalQuery shape) queries → All (IsSaid shape) queries
all_said_from number shape [] [] taken legal = All-nil (IsSaid shape)
all_said_from number shape [] (query ∷ queries) taken legal = absurd taken
all_said_from number shape (text ∷ texts) [] taken legal = All-nil (IsSaid shape)
all_said_from number shape (text ∷ texts) (query ∷ queries) taken legal =
    All-cons (IsSaid shape) query queries
    (record { legal = All-head (IsLegalQuery shape) query queries legal; text = text; means = meant shape text query taken.0.read taken.0.says taken.0.is })
    (all_said_from (suc number) shape texts queries taken.1 (All-tail (IsLegalQuery shape) query queries legal))

pub all_said : (shape : Shape) (texts : List (List ℕ)) (queries : List Asked) → AllTaken 0 shape texts queries → All (IsLegalQuery shape) queries → All (IsSaid shape) queries
all_said shape texts queries taken legal = all_said_from 0 shape texts queries taken legal
