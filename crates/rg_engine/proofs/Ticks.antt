-- How many steps edges take as they move.
use Rattle.std.proofs.Common.{◌≡◌, ℕ, suc, ◌+◌, ◌<◌, Bool, true, false, cond, List, [], ◌∷◌, ◌++◌, length, get_or, map, sum_by, Some, refl, ap, sym, ◌∙◌, arith}
use Rattle.std.specs.Prelude.{slice_get, if◌then◌else◌}
use Rattle.std.proofs.lemmas.List.Sums.{sum_by-append, sum_by-cons}
use Rattle.rg_event.specs.declared.event.Event.{Event}
use Rattle.rg_metric.specs.declared.query.Window.{Window}
use Rattle.rg_plan.specs.Nodes.{Filtered}
use Rattle.rg_plan.specs.Plans.{Tasks}
use Rattle.rg_window.specs.Passing.{at_edge, edge_by_edge}
use Rattle.rg_engine.specs.declared.part.FilterPart.{FilterPart}
use Rattle.rg_engine.specs.Standing.{has_edge, edges_come, window_come, come}
use Rattle.rg_engine.specs.Parts.{windows_seen, ticks_at}

abbrev ticks_of : (ℕ → Bool) → List (ℕ × Event) → ℕ
ticks_of sees visits = sum_by (λ (visit : ℕ × Event). cond (sees visit.0) 1 0) visits

ticks_more : (sees : ℕ → Bool) (edge : ℕ) (x : Event) (xs : List Event) → ticks_of sees (at_edge edge (x ∷ xs)) ≡ cond (sees edge) 1 0 + ticks_of sees (at_edge edge xs)
ticks_more sees edge x xs = sum_by-cons (λ (visit : ℕ × Event). cond (sees visit.0) 1 0) (edge, x) (at_edge edge xs)

one_suc : (n : ℕ) → 1 + n ≡ suc n
one_suc n = omega arith

zero_plus : (n : ℕ) → 0 + n ≡ n
zero_plus n = omega arith

ticks_edge : (sees : ℕ → Bool) (edge : ℕ) (xs : List Event) (b : Bool) → sees edge ≡ b → ticks_of sees (at_edge edge xs) ≡ (if b then length xs else 0)
ticks_edge sees edge [] true e = refl
ticks_edge sees edge [] false e = refl
ticks_edge sees edge (x ∷ xs) true e =
    ticks_more sees edge x xs ∙ ap (λ c. cond c 1 0 + ticks_of sees (at_edge edge xs)) e ∙ ap (λ n. 1 + n) (ticks_edge sees edge xs true e) ∙ one_suc (length xs)
ticks_edge sees edge (x ∷ xs) false e =
    ticks_more sees edge x xs ∙ ap (λ c. cond c 1 0 + ticks_of sees (at_edge edge xs)) e ∙ ap (λ n. 0 + n) (ticks_edge sees edge xs false e) ∙ zero_plus 0

one_come : (b c : Bool) (old new visits rest_old rest_new rest : ℕ) → b ≡ c → new ≡ old + visits → rest_new ≡ rest_old + rest → (if b then new else 0) + rest_new ≡ ((if b then old else 0) + rest_old) + ((if c then visits else 0) + rest)
one_come true true old new visits rest_old rest_new rest e h k = omega arith
one_come false false old new visits rest_old rest_new rest e h k = omega arith
one_come true false old new visits rest_old rest_new rest e h k = absurd (let f : true ≡ false = e in cc)
one_come false true old new visits rest_old rest_new rest e h k = absurd (let f : false ≡ true = e in cc)

-- of one window, from an edge on
window_ticks : (window : Window) (sees : ℕ → Bool) (offsets old new : List ℕ) (passes : List (List Event)) (edge : ℕ) →
    length old ≡ length offsets → length new ≡ length offsets → length passes ≡ length offsets →
    ((i : ℕ) → i < length offsets → sees (edge + i) ≡ has_edge window (get_or offsets i 0)) →
    ((i : ℕ) → get_or new i 0 ≡ get_or old i 0 + length (get_or passes i [])) →
    edges_come window offsets new ≡ edges_come window offsets old + ticks_of sees (edge_by_edge edge passes)
window_ticks window sees [] old new [] edge a b c see counts = refl
window_ticks window sees [] old new (xs ∷ passes) edge a b c see counts = absurd (omega arith)
window_ticks window sees (offset ∷ offsets) [] new passes edge a b c see counts = absurd (omega arith)
window_ticks window sees (offset ∷ offsets) (p ∷ old) [] passes edge a b c see counts = absurd (omega arith)
window_ticks window sees (offset ∷ offsets) (p ∷ old) (q ∷ new) [] edge a b c see counts = absurd (omega arith)
window_ticks window sees (offset ∷ offsets) (p ∷ old) (q ∷ new) (xs ∷ passes) edge a b c see counts =
    let rest = window_ticks window sees offsets old new passes (edge + 1) (omega arith) (omega arith) (omega arith)
    (λ i l. ap sees (let n : (edge + 1) + i ≡ edge + suc i = omega arith in n) ∙ see (suc i) (omega arith)) (λ i. counts (suc i)) in
    let first : sees edge ≡ has_edge window offset = ap sees (let n : edge ≡ edge + 0 = omega arith in n) ∙ see 0 (omega arith) in
    let here = ticks_edge sees edge xs (sees edge) refl in
    let s : ticks_of sees (at_edge edge xs ++ edge_by_edge (edge + 1) passes) ≡ ticks_of sees (at_edge edge xs) + ticks_of sees (edge_by_edge (edge + 1) passes) = sum_by-append (λ (visit : ℕ × Event). cond (sees visit.0) 1 0) (at_edge edge xs) (edge_by_edge (edge + 1) passes) in
    one_come (has_edge window offset) (sees edge) p q (length xs) (edges_come window offsets old) (edges_come window offsets new) (ticks_of sees (edge_by_edge (edge + 1) passes)) (sym first) (counts 0) rest
    ∙ ap (λ n. ((if has_edge window offset then p else 0) + edges_come window offsets old) + n) (ap (λ n. n + ticks_of sees (edge_by_edge (edge + 1) passes)) (sym here) ∙ sym s)

abbrev parts_come : List ℕ → List ℕ → List FilterPart → ℕ
parts_come offsets numbers parts = sum_by (λ (part : FilterPart). edges_come part.window offsets numbers) parts

abbrev sums : List ℕ → List FilterPart → List (ℕ × Event) → ℕ
sums offsets parts visits = sum_by (λ (visit : ℕ × Event). ticks_at (get_or offsets visit.0 0) parts) visits

no_ticks : (offsets : List ℕ) (visits : List (ℕ × Event)) → sums offsets [] visits ≡ 0
no_ticks offsets [] = refl
no_ticks offsets (visit ∷ visits) = let k = no_ticks offsets visits in let s = sum_by-cons (λ (visit : ℕ × Event). ticks_at (get_or offsets visit.0 0) []) visit visits in omega arith

more_ticks : (offsets : List ℕ) (part : FilterPart) (parts : List FilterPart) (visits : List (ℕ × Event)) →
    sums offsets (part ∷ parts) visits ≡ ticks_of (λ edge. has_edge part.window (get_or offsets edge 0)) visits + sums offsets parts visits
more_ticks offsets part parts [] = refl
more_ticks offsets part parts (visit ∷ visits) =
    let k = more_ticks offsets part parts visits in
    let a : sums offsets (part ∷ parts) (visit ∷ visits) ≡ ticks_at (get_or offsets visit.0 0) (part ∷ parts) + sums offsets (part ∷ parts) visits = sum_by-cons (λ (visit : ℕ × Event). ticks_at (get_or offsets visit.0 0) (part ∷ parts)) visit visits in
    let b : sums offsets parts (visit ∷ visits) ≡ ticks_at (get_or offsets visit.0 0) parts + sums offsets parts visits = sum_by-cons (λ (visit : ℕ × Event). ticks_at (get_or offsets visit.0 0) parts) visit visits in
    let c : ticks_of (λ edge. has_edge part.window (get_or offsets edge 0)) (visit ∷ visits) ≡ cond (has_edge part.window (get_or offsets visit.0 0)) 1 0 + ticks_of (λ edge. has_edge part.window (get_or offsets edge 0)) visits =
    sum_by-cons (λ (visit : ℕ × Event). cond (has_edge part.window (get_or offsets visit.0 0)) 1 0) visit visits in
    let d : ticks_at (get_or offsets visit.0 0) (part ∷ parts) ≡ cond (has_edge part.window (get_or offsets visit.0 0)) 1 0 + ticks_at (get_or offsets visit.0 0) parts =
    sum_by-cons (λ (part : FilterPart). cond (has_edge part.window (get_or offsets visit.0 0)) 1 0) part parts in
    omega arith

parts_ticks : (offsets old new : List ℕ) (passes : List (List Event)) (parts : List FilterPart) →
    length old ≡ length offsets → length new ≡ length offsets → length passes ≡ length offsets →
    ((i : ℕ) → get_or new i 0 ≡ get_or old i 0 + length (get_or passes i [])) →
    parts_come offsets new parts ≡ parts_come offsets old parts + sums offsets parts (edge_by_edge 0 passes)
parts_ticks offsets old new passes [] a b c counts = let k = no_ticks offsets (edge_by_edge 0 passes) in omega arith
parts_ticks offsets old new passes (part ∷ parts) a b c counts =
    let rest = parts_ticks offsets old new passes parts a b c counts in
    let sees : ℕ → Bool = λ edge. has_edge part.window (get_or offsets edge 0) in
    let here : edges_come part.window offsets new ≡ edges_come part.window offsets old + ticks_of (λ edge. has_edge part.window (get_or offsets edge 0)) (edge_by_edge 0 passes) = window_ticks part.window sees offsets old new passes 0 a b c (λ i l. ap sees (let n : 0 + i ≡ i = omega arith in n)) counts in
    let m = more_ticks offsets part parts (edge_by_edge 0 passes) in
    let p : parts_come offsets new (part ∷ parts) ≡ edges_come part.window offsets new + parts_come offsets new parts = sum_by-cons (λ (part : FilterPart). edges_come part.window offsets new) part parts in
    let q : parts_come offsets old (part ∷ parts) ≡ edges_come part.window offsets old + parts_come offsets old parts = sum_by-cons (λ (part : FilterPart). edges_come part.window offsets old) part parts in
    omega arith

sum_by-map : {A B : Type 0} (f : B → ℕ) (g : A → B) (xs : List A) → sum_by f (map g xs) ≡ sum_by (λ x. f (g x)) xs
sum_by-map f g [] = refl
sum_by-map f g (x ∷ xs) = let k = sum_by-map f g xs in let a = sum_by-cons f (g x) (map g xs) in let b = sum_by-cons (λ x. f (g x)) x xs in omega arith

-- the edges of all filter nodes' windows, by the tree
come_parts : (plan : Tasks) (numbers : List ℕ) (parts : List FilterPart) → map (λ (part : FilterPart). Some part.window) parts ≡ windows_seen plan → come plan numbers ≡ parts_come plan.offsets numbers parts
come_parts plan numbers parts windows =
    sym (sum_by-map (λ window. window_come window plan.offsets numbers) (λ (filter : Filtered). slice_get plan.windows filter.window) plan.filters)
    ∙ ap (λ seen. sum_by (λ window. window_come window plan.offsets numbers) seen) (sym windows)
    ∙ sum_by-map (λ window. window_come window plan.offsets numbers) (λ (part : FilterPart). Some part.window) parts

-- as many steps as the edges went on
pub all_ticks : (plan : Tasks) (parts : List FilterPart) (old new : List ℕ) (passes : List (List Event)) (before after : ℕ) →
    map (λ (part : FilterPart). Some part.window) parts ≡ windows_seen plan → length old ≡ length plan.offsets → length new ≡ length plan.offsets → length passes ≡ length plan.offsets →
    ((i : ℕ) → get_or new i 0 ≡ get_or old i 0 + length (get_or passes i [])) → after ≡ before + sum_by (λ (visit : ℕ × Event). ticks_at (get_or plan.offsets visit.0 0) parts) (edge_by_edge 0 passes) →
    after + come plan old ≡ before + come plan new
all_ticks plan parts old new passes before after windows a b c counts h =
    let k = parts_ticks plan.offsets old new passes parts a b c counts in
    let m = come_parts plan old parts windows in
    let n = come_parts plan new parts windows in
    omega arith
