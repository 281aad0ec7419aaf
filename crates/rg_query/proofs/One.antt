-- Every text says one thing.
use Rattle.std.proofs.Common.{◌≡◌, ℕ, nat_lt, Bool, true, false, List, length, Result, refl}
use Rattle.std.proofs.lemmas.Bool.{ltb-true, ltb-false}
use Rattle.rg_event.specs.Shapes.{Shape}
use Rattle.rg_metric.specs.Queries.{Asked}
use Rattle.rg_token.proofs.Laws.{one_lexing}
use Rattle.rg_parse.proofs.Laws.{one_syntax}
use Rattle.rg_query.specs.Saying.{Says}
use Rattle.rg_query.specs.declared.fault.QueryFault.{QueryFault}
use Rattle.rg_query.proofs.Says.{IsOne, one_long, one_short}

pub one_reading : (text : List ℕ) → IsOne text
one_reading text = one_syntax text (λ pieces more end also. one_lexing text 0 pieces more end also)

one_by : (shape : Shape) (text : List ℕ) (said other : Result Asked QueryFault) (long : Bool) → nat_lt 4096 (length text) ≡ long → Says shape text said → Says shape text other → said ≡ other
one_by shape text said other true long says also = one_long shape text said other (ltb-true _ _ long) says also
one_by shape text said other false short says also = one_short shape text said other (ltb-false _ _ short) (one_reading text) says also

pub one_query : (shape : Shape) (text : List ℕ) (said other : Result Asked QueryFault) → Says shape text said → Says shape text other → said ≡ other
one_query shape text said other says also = one_by shape text said other (nat_lt 4096 (length text)) refl says also
