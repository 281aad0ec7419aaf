-- Where a reading stops, and only there, no query goes on; where it nests too deep, and only there, none goes on so shallow.
use Rattle.std.proofs.Common.{◌≡◌, ℕ, ◌≤◌, max, List, [], ◌∷◌, ◌++◌, None, refl, ap, sym, ◌∙◌, subst, arith, append_assoc, inl, inr, ◌⊎◌}
use Rattle.std.proofs.lemmas.List.{append-nil}
use Rattle.rg_grammar.specs.Grammar.{NestsIn, NestsAt, CanBegin, StopsAt, Found, Token, Query, Begins, NoMore}
use Rattle.rg_grammar.specs.Machine.{State, at_start, after_window, at_end, Step, goes, no_query, too_deep, step, with_window, read, stops, nests, finish, after_step, run}
use Rattle.rg_grammar.proofs.Complete.{found_deeper}
use Rattle.rg_grammar.proofs.Sound.{sound}
use Rattle.rg_grammar.proofs.Finishes.{Finishes, finishes}
use Rattle.rg_grammar.proofs.Deeper.{Deeper, more_step, no_step, deeper_step}
use Rattle.rg_grammar.proofs.Reached.{Reached, here, onward, reached_begins, reached_reads, begun}

-- no token of the rest can be taken
abbrev Stuck : ℕ → State → List Token → Type 0
Stuck deep s rest = ((rest ≡ []) × (finish s ≡ stops [])) ⊎ ((t : Token) × (more : List Token) × (rest ≡ t ∷ more) × (step deep s t ≡ no_query))

abbrev Stopped : ℕ → State → List Token → List Token → Type 0
Stopped deep s ts rest = (r : Reached deep s ts rest) × Stuck deep r.state rest

ended : (deep : ℕ) (s : State) (rest : List Token) → finish s ≡ stops [] → stops [] ≡ stops rest → Stopped deep s [] rest
ended deep s rest e f = let k : rest ≡ [] = cc in (here deep s [] rest k, inl (k, e))

stopped_end : (deep : ℕ) (s : State) (rest : List Token) → finish s ≡ stops rest → Stopped deep s [] rest
stopped_end deep (after_window g length) rest e = absurd (cc)
stopped_end deep (at_end q) rest e = absurd (cc)
stopped_end deep s rest e = ended deep s rest refl e

stopped_step : (deep : ℕ) (s : State) (t : Token) (ts rest : List Token) (x : Step) → step deep s t ≡ x →
    ((s' : State) → run deep s' ts ≡ stops rest → Stopped deep s' ts rest) →
    after_step x (t ∷ ts) (λ s'. run deep s' ts) ≡ stops rest → Stopped deep s (t ∷ ts) rest
stopped_step deep s t ts rest (goes s') q ih e =
    let r : Stopped deep s' ts rest = ih s' e in
    (onward deep s s' t ts rest q r.0, r.1)
stopped_step deep s t ts rest no_query q ih e = let k : rest ≡ t ∷ ts = cc in (here deep s (t ∷ ts) rest k, inr (t, ts, k, q))
stopped_step deep s t ts rest too_deep q ih e = absurd (cc)

stopped : (deep : ℕ) (ts : List Token) (s : State) (rest : List Token) → run deep s ts ≡ stops rest → Stopped deep s ts rest
stopped deep [] s rest e = stopped_end deep s rest e
stopped deep (t ∷ ts) s rest e = stopped_step deep s t ts rest (step deep s t) refl (λ s' e'. stopped deep ts s' rest e') e

no_end : (deep : ℕ) (ts rest : List Token) (r : Reached deep at_start ts rest) → finish r.state ≡ stops [] → NoMore r.front []
no_end deep ts rest r e = λ (d : ℕ) (q : Query) (f : Found d r.front q).
    let k : run (max deep d) r.state [] ≡ read q = reached_reads deep (max deep d) ts rest r [] q (omega arith) (subst (λ (us : List Token). Found (max deep d) us q) (sym (append-nil r.front)) (found_deeper d (max deep d) r.front q (omega arith) f)) in
    cc

not_read : (deep : ℕ) (t : Token) (us : List Token) (q : Query) (x : Step) → x ≡ no_query → after_step x (t ∷ us) (λ s'. run deep s' us) ≡ read q → ⊥
not_read deep t us q (goes s') n e = cc
not_read deep t us q no_query n e = cc
not_read deep t us q too_deep n e = cc

no_token : (deep : ℕ) (ts rest : List Token) (r : Reached deep at_start ts rest) (t : Token) (more : List Token) → step deep r.state t ≡ no_query → NoMore r.front (t ∷ more)
no_token deep ts rest r t more e = λ (b : Begins (r.front ++ t ∷ [])).
    let high : ℕ = max deep b.0 in
    let f : Found high (r.front ++ (t ∷ b.1.rest)) b.1.query = subst (λ (us : List Token). Found high us b.1.query) (append_assoc r.front (t ∷ []) b.1.rest) (found_deeper b.0 high _ b.1.query (omega arith) b.1.found) in
    let k : run high r.state (t ∷ b.1.rest) ≡ read b.1.query = reached_reads deep high ts rest r (t ∷ b.1.rest) b.1.query (omega arith) f in
    not_read high t b.1.rest b.1.query (step high r.state t) (no_step deep high r.state t e) k

none_more : (deep : ℕ) (ts rest : List Token) (r : Reached deep at_start ts rest) → Stuck deep r.state rest → NoMore r.front rest
none_more deep ts rest r (inl k) = subst (λ (us : List Token). NoMore r.front us) (sym k.0) (no_end deep ts rest r k.1)
none_more deep ts rest r (inr k) = subst (λ (us : List Token). NoMore r.front us) (sym k.2) (no_token deep ts rest r k.0 k.1 k.3)

pub exact : (deep : ℕ) (ts rest : List Token) → run deep at_start ts ≡ stops rest → StopsAt deep ts rest
exact deep ts rest e =
    let r : Stopped deep at_start ts rest = stopped deep ts at_start rest e in
    record { front = r.0.front; split = r.0.split; begins = reached_begins deep ts rest r.0; no_more = none_more deep ts rest r.0 r.1 }

-- where it nests too deep
record Sunk (deep : ℕ) (s : State) (ts rest : List Token) : Type 0 where
  reached : Reached deep s ts rest
  token : Token
  more : List Token
  is : rest ≡ token ∷ more
  sinks : step deep reached.state token ≡ too_deep

sunk_end : (deep : ℕ) (s : State) (rest : List Token) → finish s ≡ nests rest → Sunk deep s [] rest
sunk_end deep (after_window g length) rest e = absurd (cc)
sunk_end deep (at_end q) rest e = absurd (cc)
sunk_end deep s rest e = absurd (cc)

sunk_step : (deep : ℕ) (s : State) (t : Token) (ts rest : List Token) (x : Step) → step deep s t ≡ x →
    ((s' : State) → run deep s' ts ≡ nests rest → Sunk deep s' ts rest) →
    after_step x (t ∷ ts) (λ s'. run deep s' ts) ≡ nests rest → Sunk deep s (t ∷ ts) rest
sunk_step deep s t ts rest (goes s') q ih e =
    let r : Sunk deep s' ts rest = ih s' e in
    record { reached = onward deep s s' t ts rest q r.reached; token = r.token; more = r.more; is = r.is; sinks = r.sinks }
sunk_step deep s t ts rest no_query q ih e = absurd (cc)
sunk_step deep s t ts rest too_deep q ih e = let k : rest ≡ t ∷ ts = cc in record { reached = here deep s (t ∷ ts) rest k; token = t; more = ts; is = k; sinks = q }

sunk : (deep : ℕ) (ts : List Token) (s : State) (rest : List Token) → run deep s ts ≡ nests rest → Sunk deep s ts rest
sunk deep [] s rest e = sunk_end deep s rest e
sunk deep (t ∷ ts) s rest e = sunk_step deep s t ts rest (step deep s t) refl (λ s' e'. sunk deep ts s' rest e') e

sinks_no_read : (deep : ℕ) (t : Token) (us : List Token) (q : Query) (x : Step) → x ≡ too_deep → after_step x (t ∷ us) (λ s'. run deep s' us) ≡ read q → ⊥
sinks_no_read deep t us q (goes s') n e = cc
sinks_no_read deep t us q no_query n e = cc
sinks_no_read deep t us q too_deep n e = cc

none_so_shallow : (deep : ℕ) (ts rest : List Token) (r : Reached deep at_start ts rest) (t : Token) → step deep r.state t ≡ too_deep → CanBegin deep (r.front ++ t ∷ []) → ⊥
none_so_shallow deep ts rest r t e b =
    let f : Found deep (r.front ++ (t ∷ b.rest)) b.query = subst (λ (us : List Token). Found deep us b.query) (append_assoc r.front (t ∷ []) b.rest) b.found in
    sinks_no_read deep t b.rest b.query (step deep r.state t) e (reached_reads deep deep ts rest r (t ∷ b.rest) b.query (omega arith) f)

-- a token that is taken goes on to a query
begins_next : (deep more : ℕ) (ts rest : List Token) (r : Reached deep at_start ts rest) (t : Token) (s : State) → deep ≤ more → step more r.state t ≡ goes s → CanBegin more (r.front ++ t ∷ [])
begins_next deep more ts rest r t s d e =
    let f : Finishes more s = finishes more s in
    let k : run more at_start (r.front ++ t ∷ f.more) ≡ read f.query = r.goes_on more (t ∷ f.more) d ∙ ap (λ x. after_step x (t ∷ f.more) (λ s'. run more s' f.more)) e ∙ f.reads in
    record { rest = f.more; query = f.query; found = subst (λ (us : List Token). Found more us f.query) (sym (append_assoc r.front (t ∷ []) f.more)) (sound more (r.front ++ t ∷ f.more) f.query k) }

-- with the token that nests too deep the tokens so far begin a query of a greater depth
deeper_begins : (deep : ℕ) (ts rest : List Token) (r : Reached deep at_start ts rest) (t : Token) → step deep r.state t ≡ too_deep → Begins (r.front ++ t ∷ [])
deeper_begins deep ts rest r t e =
    let w : Deeper deep r.state t = deeper_step deep r.state t e in
    let high : ℕ = max deep w.more in
    (high, begins_next deep high ts rest r t w.state (omega arith) (more_step w.more high r.state t w.state (omega arith) w.is))

pub exact_depth : (deep : ℕ) (ts : List Token) (t : Token) (more : List Token) → run deep at_start ts ≡ nests (t ∷ more) → NestsAt deep ts t more
exact_depth deep ts t more e =
    let r : Sunk deep at_start ts (t ∷ more) = sunk deep ts at_start (t ∷ more) e in
    let k : r.token ≡ t = cc (r.is) in
    let s : step deep r.reached.state t ≡ too_deep = subst (λ (u : Token). step deep r.reached.state u ≡ too_deep) k r.sinks in
    record { front = r.reached.front; split = r.reached.split; begins = reached_begins deep ts (t ∷ more) r.reached; begins_deeper = deeper_begins deep ts (t ∷ more) r.reached t s; none = none_so_shallow deep ts (t ∷ more) r.reached t s }

pub exact_depth_in : (deep : ℕ) (ts rest : List Token) → run deep at_start ts ≡ nests rest → NestsIn deep ts rest
exact_depth_in deep ts rest e =
    let r : Sunk deep at_start ts rest = sunk deep ts at_start rest e in
    record { token = r.token; more = r.more; is = r.is; nests = exact_depth deep ts r.token r.more (e ∙ ap nests r.is) }

stops_finish : (deep : ℕ) (front : List Token) (s : State) → run deep at_start (front ++ []) ≡ finish s → NoMore front [] → finish s ≡ stops []
stops_finish deep front (after_window g length) k none = absurd (none deep (with_window g length None) (subst (λ (us : List Token). Found deep us (with_window g length None)) (append-nil front) (sound deep (front ++ []) (with_window g length None) k)))
stops_finish deep front (at_end q) k none = absurd (none deep q (subst (λ (us : List Token). Found deep us q) (append-nil front) (sound deep (front ++ []) q k)))
stops_finish deep front _ k none = refl

stops_next : (deep : ℕ) (ts rest : List Token) (r : Reached deep at_start ts rest) (t : Token) (more : List Token) (x : Step) → step deep r.state t ≡ x → NoMore r.front (t ∷ more) → after_step x (t ∷ more) (λ s'. run deep s' more) ≡ stops (t ∷ more)
stops_next deep ts rest r t more (goes s) e none = absurd (none (deep, begins_next deep deep ts rest r t s (omega arith) e))
stops_next deep ts rest r t more no_query e none = refl
stops_next deep ts rest r t more too_deep e none = absurd (none (deeper_begins deep ts rest r t e))

stops_here : (deep : ℕ) (ts rest : List Token) (r : Reached deep at_start ts rest) → NoMore r.front rest → run deep r.state rest ≡ stops rest
stops_here deep ts [] r none = stops_finish deep r.front r.state (r.goes_on deep [] (omega arith)) none
stops_here deep ts (t ∷ more) r none = stops_next deep ts (t ∷ more) r t more (step deep r.state t) refl none

goes_there : (deep : ℕ) (ts rest : List Token) (r : Reached deep at_start ts rest) → run deep at_start ts ≡ run deep r.state rest
goes_there deep ts rest r = ap (run deep at_start) r.split ∙ r.goes_on deep rest (omega arith)

-- only there does a reading stop
pub exact_only : (deep : ℕ) (ts rest : List Token) → StopsAt deep ts rest → run deep at_start ts ≡ stops rest
exact_only deep ts rest h =
    goes_there deep ts rest (begun deep ts h.front rest h.split h.begins)
    ∙ stops_here deep ts rest (begun deep ts h.front rest h.split h.begins) h.no_more

nests_next : (deep : ℕ) (ts rest : List Token) (r : Reached deep at_start ts rest) (t : Token) (more : List Token) (x : Step) → step deep r.state t ≡ x → Begins (r.front ++ t ∷ []) → (CanBegin deep (r.front ++ t ∷ []) → ⊥) → after_step x (t ∷ more) (λ s'. run deep s' more) ≡ nests (t ∷ more)
nests_next deep ts rest r t more (goes s) e b none = absurd (none (begins_next deep deep ts rest r t s (omega arith) e))
nests_next deep ts rest r t more no_query e b none = absurd (no_token deep ts rest r t more e b)
nests_next deep ts rest r t more too_deep e b none = refl

-- only there does it nest too deep
pub exact_depth_only : (deep : ℕ) (ts : List Token) (t : Token) (more : List Token) → NestsAt deep ts t more → run deep at_start ts ≡ nests (t ∷ more)
exact_depth_only deep ts t more h =
    let r : Reached deep at_start ts (t ∷ more) = begun deep ts h.front (t ∷ more) h.split h.begins in
    goes_there deep ts (t ∷ more) r ∙ nests_next deep ts (t ∷ more) r t more (step deep r.state t) refl h.begins_deeper h.none
