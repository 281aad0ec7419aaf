-- What edges visited, edge by edge.
use Rattle.std.proofs.Common.{◌≡◌, ℕ, suc, ◌≤◌, ◌<◌, ◌+◌, List, [], ◌∷◌, ◌++◌, length, get_or, set, inl, inr, ap, sym, ◌∙◌, arith, append_assoc, length-append}
use Rattle.std.specs.Prelude.{◌⊎◌}
use Rattle.std.proofs.lemmas.List.{append-nil, get_or_append_left, get_or-append-add, get_or_past, get_or-set_same, get_or-set_other}
use Rattle.rg_event.specs.declared.event.Event.{Event}
use Rattle.rg_window.specs.Passing.{at_edge, edge_by_edge}
use Rattle.rg_window.specs.Chain.{visited_at}

-- some edges, and then others
pub edge_by_edge-join : (edge : ℕ) (first second : List (List Event)) → edge_by_edge edge (first ++ second) ≡ edge_by_edge edge first ++ edge_by_edge (edge + length first) second
edge_by_edge-join edge [] second = ap (λ i. edge_by_edge i second) (omega arith)
edge_by_edge-join edge (xs ∷ first) second =
    ap (λ v. at_edge edge xs ++ v) (edge_by_edge-join (edge + 1) first second)
    ∙ ap (λ i. at_edge edge xs ++ (edge_by_edge (edge + 1) first ++ edge_by_edge i second)) (omega arith)
    ∙ sym (append_assoc (at_edge edge xs) (edge_by_edge (edge + 1) first) (edge_by_edge (edge + suc (length first)) second))

-- one edge more comes last
pub edge_by_edge-append : (edge : ℕ) (passes : List (List Event)) (events : List Event) → edge_by_edge edge (passes ++ events ∷ []) ≡ edge_by_edge edge passes ++ at_edge (edge + length passes) events
edge_by_edge-append edge passes events = edge_by_edge-join edge passes (events ∷ []) ∙ ap (λ v. edge_by_edge edge passes ++ v) (append-nil (at_edge (edge + length passes) events))

pub visited_at-before : (passes : List (List Event)) (events : List Event) (i : ℕ) → i < length passes → visited_at (passes ++ events ∷ []) i ≡ visited_at passes i
visited_at-before passes events i l = get_or_append_left passes (events ∷ []) [] i l

pub visited_at-last : (passes : List (List Event)) (events : List Event) (i : ℕ) → i ≡ length passes → visited_at (passes ++ events ∷ []) i ≡ events
visited_at-last passes events i e = ap (λ k. visited_at (passes ++ events ∷ []) k) (e ∙ omega arith) ∙ get_or-append-add passes (events ∷ []) 0 []

pub visited_at-past : (passes : List (List Event)) (i : ℕ) → length passes ≤ i → visited_at passes i ≡ []
visited_at-past passes i l = get_or_past passes i [] l

pub which : (i edge : ℕ) → (i < edge) ⊎ (i ≡ edge) ⊎ (edge < i)
which i edge = grind arith

-- one edge's number rises by its visits, and the others' stay
pub counts-set : (old now : List ℕ) (passes : List (List Event)) (edge i q : ℕ) (events : List Event) → length passes ≡ edge → edge < length now → ((k : ℕ) → get_or now k 0 ≡ get_or old k 0 + length (visited_at passes k)) → q ≡ get_or now edge 0 + length events →
    get_or (set now edge q) i 0 ≡ get_or old i 0 + length (visited_at (passes ++ events ∷ []) i)
counts-set old now passes edge i q events e l h n = elim (which i edge) [
  | inl before ↦ get_or-set_other now edge i q 0 (λ s. absurd (omega arith)) ∙ h i ∙ ap (λ v. get_or old i 0 + length v) (sym (visited_at-before passes events i (omega arith)))
  | inr (inl same) ↦
      let a : get_or (set now edge q) i 0 ≡ q = ap (λ k. get_or (set now edge q) k 0) same ∙ get_or-set_same now edge q 0 l in
      let b : get_or now edge 0 ≡ get_or old i 0 + 0 = h edge ∙ ap (λ k. get_or old k 0 + length (visited_at passes edge)) (sym same) ∙ ap (λ v. get_or old i 0 + length v) (visited_at-past passes edge (omega arith)) in
      omega (arith, a, b, n, ap length (visited_at-last passes events i (omega arith)))
  | inr (inr after) ↦ get_or-set_other now edge i q 0 (λ s. absurd (omega arith)) ∙ h i ∙ ap (λ v. get_or old i 0 + length v) (visited_at-past passes i (omega arith) ∙ sym (visited_at-past (passes ++ events ∷ []) i (omega (arith, length-append passes (events ∷ [])))))
]
