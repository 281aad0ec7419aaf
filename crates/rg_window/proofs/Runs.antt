-- Edges one after the other.
use Rattle.std.proofs.Common.{◌≡◌, ℕ, zero, suc, ◌≤◌, ◌<◌, ◌+◌, List, [], ◌∷◌, ◌++◌, length, get_or, set, Result, refl, inl, inr, ap, sym, subst, ◌∙◌, arith, length-append}
use Rattle.std.proofs.lemmas.List.{append-nil, get_or-map, get_or-set_other}
use Rattle.rg_event.specs.declared.event.Event.{Event}
use Rattle.rg_past.specs.declared.past.Spot.{Spot}
use Rattle.rg_window.specs.Passing.{passed, at_edge, edge_by_edge, Reaches}
use Rattle.rg_window.specs.Chain.{Went, Refused, Moved, Halfway, Halted, visited_at, passed_at}
use Rattle.rg_window.specs.Halting.{StopsAt, HaltsAt}
use Rattle.rg_window.specs.Placed.{numbers_of}
use Rattle.rg_window.specs.declared.edges.MoveFault.{MoveFault}
use Rattle.rg_window.specs.declared.edges.MoveFault.TheVariants.{Past, Visit}
use Rattle.rg_window.proofs.Chains.{Visited-append}
use Rattle.rg_window.proofs.Passes.{edge_by_edge-append, visited_at-before, visited_at-last, counts-set, which}

pub numbers_of-set : (spots : List Spot) (edge : ℕ) (spot : Spot) → numbers_of (set spots edge spot) ≡ set (numbers_of spots) edge spot.number
numbers_of-set [] edge spot = refl
numbers_of-set (x ∷ spots) zero spot = refl
numbers_of-set (x ∷ spots) (suc edge) spot = ap (λ numbers. x.number ∷ numbers) (numbers_of-set spots edge spot)

pub length-numbers_of : (spots : List Spot) → length (numbers_of spots) ≡ length spots
length-numbers_of [] = refl
length-numbers_of (x ∷ spots) = ap suc (length-numbers_of spots)

pub number_at : (spots : List Spot) (edge : ℕ) (d : Spot) → edge < length spots → get_or (numbers_of spots) edge 0 ≡ (get_or spots edge d).number
number_at spots edge d within = get_or-map (λ (spot : Spot). spot.number) spots edge d 0 within

-- how an edge went that is the next one
pub record Next (os : List ℕ) (t : ℕ) (ps qs rs : List ℕ) (events : List Event) (edge p q : ℕ) (all : List Event) : Type 0 where
  pub whole : all ≡ passed_at events t os ps edge
  pub place : p ≡ get_or qs edge 0
  pub below : edge < length qs
  pub set : rs ≡ set qs edge q

-- what edges visited, up to one more of them
known-more : (events : List Event) (t : ℕ) (os ps : List ℕ) (told : ℕ → Type 0) (passes : List (List Event)) (edge : ℕ) (all visited : List Event) (told' : Type 0) → length passes ≡ edge →
    ((i : ℕ) → i < edge → told i → visited_at passes i ≡ passed_at events t os ps i) → (told' → all ≡ visited ++ []) → (told edge → told') → all ≡ passed_at events t os ps edge →
    (i : ℕ) → i < edge + 1 → told i → visited_at (passes ++ visited ∷ []) i ≡ passed_at events t os ps i
known-more events t os ps told passes edge all visited told' same h k f e i l s = elim (which i edge) [
  | inl before ↦ visited_at-before passes visited i (omega arith) ∙ h i before s
  | inr (inl here) ↦
      visited_at-last passes visited i (omega arith) ∙ sym (append-nil visited) ∙ sym (k (f (subst told here s))) ∙ e ∙ ap (λ j. passed_at events t os ps j) (sym here)
  | inr (inr after) ↦ absurd (omega arith)
]

chain-more : (passes : List (List Event)) (edge : ℕ) (visited : List Event) → length passes ≡ edge → edge_by_edge 0 (passes ++ visited ∷ []) ≡ edge_by_edge 0 passes ++ at_edge edge visited
chain-more passes edge visited same = edge_by_edge-append 0 passes visited ∙ ap (λ i. edge_by_edge 0 passes ++ at_edge i visited) (omega arith)

-- by one edge that went all its way
pub Moved-more : {V F : Type 0} (step : V → ℕ → Event → Result Unit F → V → Type 0) (v u w : V) (os : List ℕ) (t : ℕ) (ps qs rs : List ℕ) (told : ℕ → Type 0) (told' : Type 0) (events : List Event) (edge p q : ℕ) (all : List Event) →
    Moved step v u os t ps qs told events edge → Went step edge u w p q told' all [] → (told edge → told') → Next os t ps qs rs events edge p q all →
    Moved step v w os t ps rs told events (edge + 1)
Moved-more step v u w os t ps qs rs told told' events edge p q all m h f n = record {
  passes = m.passes ++ h.events ∷ [];
  same = length-append m.passes (h.events ∷ []) ∙ ap (λ k. k + 1) m.same;
  chain = rw (chain-more m.passes edge h.events m.same) (Visited-append step (edge_by_edge 0 m.passes) (at_edge edge h.events) v u w m.chain h.chain);
  counts = λ i. rw n.set (counts-set ps qs m.passes edge i q h.events m.same n.below m.counts (h.number ∙ ap (λ k. k + length h.events) n.place));
  known = known-more events t os ps told m.passes edge all h.events told' m.same m.known h.known f n.whole;
}

-- by one edge that went a part of its way
pub Halfway-next : {V F : Type 0} (step : V → ℕ → Event → Result Unit F → V → Type 0) (v u w : V) (os : List ℕ) (t : ℕ) (ps qs rs : List ℕ) (told : ℕ → Type 0) (told' : Type 0) (events : List Event) (edge p q : ℕ) (all rest : List Event) →
    Moved step v u os t ps qs told events edge → Went step edge u w p q told' all rest → (told edge → told') → Next os t ps qs rs events edge p q all →
    Halfway step v w os t ps rs told events edge
Halfway-next step v u w os t ps qs rs told told' events edge p q all rest m h f n = record {
  passes = m.passes;
  same = m.same;
  some = h.events;
  chain = Visited-append step (edge_by_edge 0 m.passes) (at_edge edge h.events) v u w m.chain h.chain;
  counts = λ i. rw n.set (counts-set ps qs m.passes edge i q h.events m.same n.below m.counts (h.number ∙ ap (λ k. k + length h.events) n.place));
  known = m.known;
  front = λ s. (rest, sym n.whole ∙ h.known (f s));
}

-- by one edge whose visit was refused
pub Halted-next : {V F : Type 0} (step : V → ℕ → Event → Result Unit F → V → Type 0) (v u w : V) (os : List ℕ) (t : ℕ) (ps qs rs : List ℕ) (told : ℕ → Type 0) (told' : Type 0) (events : List Event) (edge p q : ℕ) (all : List Event) (fault : F) →
    Moved step v u os t ps qs told events edge → Refused step edge u w p q told' all fault → (told edge → told') → Next os t ps qs rs events edge p q all →
    Halted step v w os t ps rs told events edge fault
Halted-next step v u w os t ps qs rs told told' events edge p q all fault m h f n = record {
  passes = m.passes;
  same = m.same;
  some = h.events;
  last = h.last;
  between = h.between;
  chain = Visited-append step (edge_by_edge 0 m.passes) (at_edge edge h.events) v u h.between m.chain h.chain;
  refused = h.refused;
  counts = λ i. rw n.set (counts-set ps qs m.passes edge i q h.events m.same n.below m.counts (h.number ∙ ap (λ k. k + length h.events) n.place));
  known = m.known;
  front = λ s. let k = h.known (f s) in (k.0, sym n.whole ∙ k.1);
}

pub HaltsAt-next : {V F : Type 0} (step : V → ℕ → Event → Result Unit F → V → Type 0) (v u w : V) (os : List ℕ) (t : ℕ) (ps qs rs : List ℕ) (told : ℕ → Type 0) (told' : Type 0) (events : List Event) (edge p q : ℕ) (all : List Event) (fault : MoveFault F) →
    Moved step v u os t ps qs told events edge → StopsAt step edge u w p q told' all fault → (told edge → told') → Next os t ps qs rs events edge p q all → edge < length os →
    HaltsAt step v w os t ps rs told events fault
HaltsAt-next step v u w os t ps qs rs told told' events edge p q all (Past fault) m h f n l = (edge, l, Halfway-next step v u w os t ps qs rs told told' events edge p q all h.0 m h.1 f n)
HaltsAt-next step v u w os t ps qs rs told told' events edge p q all (Visit fault) m h f n l = (edge, l, Halted-next step v u w os t ps qs rs told told' events edge p q all fault m h f n)

pub still-more : (ps : List ℕ) (spots : List Spot) (edge i : ℕ) (spot : Spot) → ((k : ℕ) → edge ≤ k → get_or (numbers_of spots) k 0 ≡ get_or ps k 0) → edge + 1 ≤ i → get_or (numbers_of (set spots edge spot)) i 0 ≡ get_or ps i 0
still-more ps spots edge i spot h l = rw (numbers_of-set spots edge spot) (get_or-set_other (numbers_of spots) edge i spot.number 0 (λ e. absurd (omega arith)) ∙ h i (omega arith))

-- what stands for a spot that is none
abbrev pub no_spot : Spot
no_spot = record { place = 0; index = 0; number = 0 }

-- what a list holds at one of its places, whatever stands for an element that is none
get_or_any : {A : Type 0} (xs : List A) (i : ℕ) (d e : A) → i < length xs → get_or xs i d ≡ get_or xs i e
get_or_any [] i d e within = absurd (omega arith)
get_or_any (x ∷ xs) zero d e within = refl
get_or_any (x ∷ xs) (suc i) d e within = get_or_any xs i d e (omega arith)

pub Next-edge : (events known : List Event) (os : List ℕ) (old spots : List Spot) (t edge offset : ℕ) (spot new : Spot) → known ≡ events → length spots ≡ length old → edge < length spots → edge < length os →
    spot ≡ get_or spots edge spot → offset ≡ get_or os edge offset → ((k : ℕ) → edge ≤ k → get_or (numbers_of spots) k 0 ≡ get_or (numbers_of old) k 0) →
    Next os t (numbers_of old) (numbers_of spots) (numbers_of (set spots edge new)) events edge spot.number new.number (passed known t offset spot.number)
Next-edge events known os old spots t edge offset spot new e n l m here there h =
    let b : get_or (numbers_of spots) edge 0 ≡ spot.number = number_at spots edge spot l ∙ ap (λ (s : Spot). s.number) (sym here) in
    let o : get_or os edge 0 ≡ offset = get_or_any os edge 0 offset m ∙ sym there in
    record {
      whole = ap (λ v. passed v t offset spot.number) e ∙ ap (λ v. passed events t v spot.number) (sym o) ∙ ap (λ v. passed events t (get_or os edge 0) v) (sym b ∙ h edge (omega arith));
      place = sym b;
      below = omega (arith, length-numbers_of spots);
      set = numbers_of-set spots edge new;
    }

-- edges that have gone all their way stand where the definition says
pub Reaches-from_Moved : {V F : Type 0} (step : V → ℕ → Event → Result Unit F → V → Type 0) (before after : V) (os : List ℕ) (t : ℕ) (old new : List ℕ) (told : ℕ → Type 0) (events : List Event) (end edge : ℕ) →
    Moved step before after os t old new told events end → edge < end → told edge → Reaches events t os old new edge
Reaches-from_Moved step before after os t old new told events end edge moved within known =
    moved.counts edge ∙ ap (λ visited. get_or old edge 0 + length visited) (moved.known edge within known)

-- no edge goes back
pub rises_moved : {V F : Type 0} (step : V → ℕ → Event → Result Unit F → V → Type 0) (before after : V) (os : List ℕ) (t : ℕ) (old new : List ℕ) (told : ℕ → Type 0) (events : List Event) (end edge : ℕ) →
    Moved step before after os t old new told events end → get_or old edge 0 ≤ get_or new edge 0
rises_moved step before after os t old new told events end edge moved = omega (arith, moved.counts edge)

-- nor where a move was refused
pub rises_halted : {V F : Type 0} (step : V → ℕ → Event → Result Unit F → V → Type 0) (before after : V) (os : List ℕ) (t : ℕ) (old new : List ℕ) (told : ℕ → Type 0) (events : List Event) (edge : ℕ) (fault : MoveFault F) →
    HaltsAt step before after os t old new told events fault → get_or old edge 0 ≤ get_or new edge 0
rises_halted step before after os t old new told events edge (Past fault) halted = omega (arith, halted.2.counts edge)
rises_halted step before after os t old new told events edge (Visit fault) halted = omega (arith, halted.2.counts edge)
