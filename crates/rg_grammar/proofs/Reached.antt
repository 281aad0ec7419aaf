-- Where tokens lead, and what begins a query.
use Rattle.std.proofs.Common.{◌≡◌, ℕ, ◌≤◌, List, [], ◌∷◌, ◌++◌, refl, ap, sym, ◌∙◌, arith}
use Rattle.rg_grammar.specs.Grammar.{CanBegin, Found, Token, Query}
use Rattle.rg_grammar.specs.Machine.{State, at_start, Step, goes, no_query, too_deep, step, read, after_step, run}
use Rattle.rg_grammar.proofs.Complete.{found_reads}
use Rattle.rg_grammar.proofs.Sound.{sound}
use Rattle.rg_grammar.proofs.Finishes.{Finishes, finishes}
use Rattle.rg_grammar.proofs.Deeper.{more_step}

-- from state s the tokens front lead to the state
pub record Reached (deep : ℕ) (s : State) (ts rest : List Token) : Type 0 where
  pub front : List Token
  pub state : State
  pub split : ts ≡ front ++ rest
  pub goes_on : (more : ℕ) (r : List Token) → deep ≤ more → run more s (front ++ r) ≡ run more state r

-- no token has come
abbrev pub here : (deep : ℕ) (s : State) (ts rest : List Token) → rest ≡ ts → Reached deep s ts rest
here deep s ts rest k = record { front = []; state = s; split = sym k; goes_on = λ more r d. refl }

abbrev pub onward : (deep : ℕ) (s s' : State) (t : Token) (ts rest : List Token) → step deep s t ≡ goes s' → (r : Reached deep s' ts rest) → Reached deep s (t ∷ ts) rest
onward deep s s' t ts rest e r = record {
  front = t ∷ r.front;
  state = r.state;
  split = ap (λ us. t ∷ us) r.split;
  goes_on = λ more us d. ap (λ x. after_step x (t ∷ r.front ++ us) (λ s''. run more s'' (r.front ++ us))) (more_step deep more s t s' d e) ∙ r.goes_on more us d;
}

-- what leads to a state begins a query
pub reached_begins : (deep : ℕ) (ts rest : List Token) (r : Reached deep at_start ts rest) → CanBegin deep r.front
reached_begins deep ts rest r =
    let f : Finishes deep r.state = finishes deep r.state in
    record { rest = f.more; query = f.query; found = sound deep (r.front ++ f.more) f.query (r.goes_on deep f.more (omega arith) ∙ f.reads) }

-- a query with that front is read from the state on
pub reached_reads : (deep more : ℕ) (ts rest : List Token) (r : Reached deep at_start ts rest) (us : List Token) (q : Query) → deep ≤ more → Found more (r.front ++ us) q → run more r.state us ≡ read q
reached_reads deep more ts rest r us q d f = sym (r.goes_on more us d) ∙ found_reads more (r.front ++ us) q f

-- what begins a query is passed
pub record Passed (deep : ℕ) (s : State) (front : List Token) : Type 0 where
  pub state : State
  pub goes_on : (more : ℕ) (u : List Token) → deep ≤ more → run more s (front ++ u) ≡ run more state u

passed_step : (deep : ℕ) (s : State) (t : Token) (front r : List Token) (q : Query) (x : Step) → step deep s t ≡ x →
    ((s' : State) → run deep s' (front ++ r) ≡ read q → Passed deep s' front) →
    after_step x (t ∷ front ++ r) (λ s'. run deep s' (front ++ r)) ≡ read q → Passed deep s (t ∷ front)
passed_step deep s t front r q (goes s') e ih k =
    let p : Passed deep s' front = ih s' k in
    record { state = p.state; goes_on = λ more u d. ap (λ x. after_step x (t ∷ front ++ u) (λ s''. run more s'' (front ++ u))) (more_step deep more s t s' d e) ∙ p.goes_on more u d }
passed_step deep s t front r q no_query e ih k = absurd (cc)
passed_step deep s t front r q too_deep e ih k = absurd (cc)

passed : (deep : ℕ) (front : List Token) (s : State) (r : List Token) (q : Query) → run deep s (front ++ r) ≡ read q → Passed deep s front
passed deep [] s r q k = record { state = s; goes_on = λ more u d. refl }
passed deep (t ∷ front) s r q k = passed_step deep s t front r q (step deep s t) refl (λ s' k'. passed deep front s' r q k') k

pub can_pass : (deep : ℕ) (front : List Token) → CanBegin deep front → Passed deep at_start front
can_pass deep front b = passed deep front at_start b.rest b.query (found_reads deep (front ++ b.rest) b.query b.found)

abbrev pub begun : (deep : ℕ) (ts front rest : List Token) → ts ≡ front ++ rest → CanBegin deep front → Reached deep at_start ts rest
begun deep ts front rest e b = record { front = front; state = (can_pass deep front b).state; split = e; goes_on = (can_pass deep front b).goes_on }
