-- Parts that are built one by one.
use Rattle.std.proofs.Common.{◌≡◌, ℕ, List, [], ◌∷◌, ◌++◌, map, Option, Some, None, Result, Ok, Err, refl, sym, ap, ◌∙◌, append_assoc, arith, ◌+◌, ◌<◌, ◌⊎◌, inl, inr, drop, get_or, length}
use Rattle.std.proofs.lemmas.List.{at_drop_more, append-nil}
use Rattle.std.proofs.lemmas.Bool.{false≢true}
use Rattle.std.specs.Result.{IsErr, IsErrAnd}
use Rattle.rg_query.specs.Resolving.{first_in, refused_at, or_else}
use Rattle.rg_query.specs.declared.fault.QueryFault.{QueryFault}
use Rattle.rg_query.specs.declared.fault.QueryFault.TheVariants.{Memory}

-- those built so far, and those left
pub record SoFar {X Y : Type 0} (unknown wrong : X → Option ℕ) (asked : X → Y) (all rest : List X) (done : List Y) : Type 0 where
  pub known : first_in unknown rest ≡ None
  pub right : first_in wrong all ≡ first_in wrong rest
  pub built : done ++ map asked rest ≡ map asked all

pub begins : {X Y : Type 0} (unknown wrong : X → Option ℕ) (asked : X → Y) (all : List X) → first_in unknown all ≡ None → SoFar unknown wrong asked all all []
begins unknown wrong asked all known = record { known = known; right = refl; built = refl }

first_known : (o p : Option ℕ) → or_else o p ≡ None → o ≡ None
first_known None p h = refl
first_known (Some n) p h = h

pub others_known : (o p : Option ℕ) → or_else o p ≡ None → p ≡ None
others_known None p h = h
others_known (Some n) p h = grind arith

pub next_known : {X Y : Type 0} {unknown wrong : X → Option ℕ} {asked : X → Y} {all rest : List X} {x : X} {done : List Y} → SoFar unknown wrong asked all (x ∷ rest) done → unknown x ≡ None
next_known {unknown = unknown} {rest = rest} {x = x} s = first_known (unknown x) (first_in unknown rest) s.known

pub next : {X Y : Type 0} {unknown wrong : X → Option ℕ} {asked : X → Y} {all rest : List X} {x : X} {done : List Y} → SoFar unknown wrong asked all (x ∷ rest) done → wrong x ≡ None → SoFar unknown wrong asked all rest (done ++ asked x ∷ [])
next {unknown = unknown} {wrong = wrong} {asked = asked} {rest = rest} {x = x} {done = done} s right = record {
  known = others_known (unknown x) (first_in unknown rest) s.known;
  right = s.right ∙ ap (λ o. or_else o (first_in wrong rest)) right;
  built = append_assoc done (asked x ∷ []) (map asked rest) ∙ s.built;
}

-- all are built
pub ends : {X Y : Type 0} {unknown wrong : X → Option ℕ} {asked : X → Y} {all : List X} {done : List Y} (refusal : ℕ → QueryFault) → SoFar unknown wrong asked all [] done → refused_at refusal (first_in wrong all) (Ok (map asked all)) ≡ Ok done
ends {wrong = wrong} {asked = asked} {all = all} {done = done} refusal s =
    rw s.right (ap (λ l. Ok l) (sym s.built ∙ append-nil done))

-- one is refused
pub refused : {X Y B : Type 0} {unknown wrong : X → Option ℕ} {asked : X → Y} {all rest : List X} {x : X} {done : List Y} (refusal : ℕ → QueryFault) (place : ℕ) (meant : Result B QueryFault) → SoFar unknown wrong asked all (x ∷ rest) done → wrong x ≡ Some place → refused_at refusal (first_in wrong all) meant ≡ Err (refusal place)
refused {wrong = wrong} {rest = rest} refusal place meant s wrong_here =
    rw s.right (ap (λ o. refused_at refusal (or_else o (first_in wrong rest)) meant) wrong_here)

-- what an answer of one part says of the part
pub ok_right : {Y : Type 0} (refusal : ℕ → QueryFault) (o : Option ℕ) (a y : Y) → refused_at refusal o (Ok a) ≡ Ok y → o ≡ None
ok_right refusal None a y h = refl
ok_right refusal (Some n) a y h = grind arith

pub ok_asked : {Y : Type 0} (refusal : ℕ → QueryFault) (o : Option ℕ) (a y : Y) → refused_at refusal o (Ok a) ≡ Ok y → a ≡ y
ok_asked refusal None a y h = grind arith
ok_asked refusal (Some n) a y h = grind arith

-- where an answer of one part is a fault, it is that of any list in which the part is the first wrong one
pub err_of : {Y Z : Type 0} (refusal : ℕ → QueryFault) (o more : Option ℕ) (a : Y) (b : Result Z QueryFault) (why : QueryFault) → refused_at refusal o (Ok a) ≡ Err why → refused_at refusal (or_else o more) b ≡ Err why
err_of refusal None more a b why h = grind arith
err_of refusal (Some n) more a b why h =
    let e : refusal n ≡ why = grind arith in
    ap (λ f. Err f) e

-- the part at an index has been built
pub next_at : {C X Y : Type 0} {unknown wrong : X → Option ℕ} {asked : X → Y} {all : List X} {done : List Y} (refusal : ℕ → QueryFault) (view : C → X) (list : List C) (i : ℕ) (c : C) (y : Y) →
    i < length list → SoFar unknown wrong asked all (map view (drop i list)) done → (unknown (view (get_or list i c)) ≡ None → refused_at refusal (wrong (view (get_or list i c))) (Ok (asked (view (get_or list i c)))) ≡ Ok y) →
    SoFar unknown wrong asked all (map view (drop (i + 1) list)) (done ++ y ∷ [])
next_at {unknown = unknown} {wrong = wrong} {asked = asked} {all = all} {done = done} refusal view list i c y lt s answer =
    let x = view (get_or list i c) in
    let here : SoFar unknown wrong asked all (x ∷ map view (drop (i + 1) list)) done = rw (at_drop_more (map view) list i c lt) at s in
    let said = answer (next_known here) in
    let after : SoFar unknown wrong asked all (map view (drop (i + 1) list)) (done ++ asked x ∷ []) = next here (ok_right refusal (wrong x) (asked x) y said) in
    rw (ok_asked refusal (wrong x) (asked x) y said) at after

-- the part at an index is refused, or memory ran out
pub fault_at : {C X Y Z : Type 0} {unknown wrong : X → Option ℕ} {asked : X → Y} {all : List X} {done : List Y} (refusal : ℕ → QueryFault) (view : C → X) (list : List C) (i : ℕ) (c : C) (meant : Result Z QueryFault) (why : QueryFault) →
    i < length list → SoFar unknown wrong asked all (map view (drop i list)) done → (unknown (view (get_or list i c)) ≡ None → (refused_at refusal (wrong (view (get_or list i c))) (Ok (asked (view (get_or list i c)))) ≡ Err why) ⊎ (why ≡ Memory)) →
    (refused_at refusal (first_in wrong all) meant ≡ Err why) ⊎ (why ≡ Memory)
fault_at {unknown = unknown} {wrong = wrong} {asked = asked} {all = all} {done = done} refusal view list i c meant why lt s answer =
    let x = view (get_or list i c) in
    let rest = map view (drop (i + 1) list) in
    let here : SoFar unknown wrong asked all (x ∷ rest) done = rw (at_drop_more (map view) list i c lt) at s in
    elim (answer (next_known here)) [
      | inl said ↦ inl (rw here.right (err_of refusal (wrong x) (first_in wrong rest) (asked x) meant why said))
      | inr memory ↦ inr memory
    ]

-- an error that `?` hands on
pub handed_on : {A : Type 0} (r : Result A QueryFault) (why : QueryFault) → IsErr r × IsErrAnd r (λ e. e ≡ why) → r ≡ Err why
handed_on (Ok a) why h = absurd (false≢true h.0)
handed_on (Err e) why h = ap (λ f. Err f) h.1
