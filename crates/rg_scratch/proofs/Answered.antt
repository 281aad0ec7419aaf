-- The nodes of a plan answer what its queries do.
use Rattle.std.proofs.Common.{◌≡◌, ℕ, zero, suc, ◌+◌, List, [], ◌∷◌, ◌++◌, map, take, drop, get_or, unwrap_or, slice_get, Some, None, refl, ap, sym, ◌∙◌, arith, append-nil, append_assoc}
use Rattle.std.specs.Prelude.{flat_map}
use Rattle.std.specs.List.{filter}
use Rattle.std.proofs.lemmas.Option.{unwrap_or-slice_get}
use Rattle.rg_event.specs.Shapes.{Shape}
use Rattle.rg_event.specs.declared.event.Event.{Event}
use Rattle.rg_metric.specs.declared.answer.Answer.{Answer}
use Rattle.rg_metric.specs.declared.query.Agg.{Agg}
use Rattle.rg_metric.specs.Queries.{Asked}
use Rattle.rg_metric.specs.Replies.{agg_answer, counts_for, answers_to}
use Rattle.rg_plan.specs.Named.{node_at, node_of as asked_node, nodes_of}
use Rattle.rg_plan.specs.Plans.{Tasks, plan_for}
use Rattle.rg_plan.proofs.Laws.{is_named}
use Rattle.rg_scratch.specs.Nodes.{node_answer, answers_of}

module _ (events : List Event) (e : Event) where
  aggs_answer : (q : Asked) (aggs : List Agg) → map (node_answer events e) (map (λ agg. Some (asked_node q agg)) aggs) ≡ map (λ agg. agg_answer agg (filter (counts_for q e) events)) aggs
  aggs_answer q [] = refl
  aggs_answer q (agg ∷ aggs) = ap (λ rest. agg_answer agg (filter (counts_for q e) events) ∷ rest) (aggs_answer q aggs)

  queries_answer : (qs : List Asked) → flat_map (map (node_answer events e)) (map nodes_of qs) ≡ answers_to qs events e
  queries_answer [] = refl
  queries_answer (q ∷ qs) = rw (aggs_answer q q.aggs, queries_answer qs) refl

  twice : (plan : Tasks) (ns : List ℕ) → map (λ n. node_answer events e (node_at plan n)) ns ≡ map (node_answer events e) (map (node_at plan) ns)
  twice plan [] = refl
  twice plan (n ∷ ns) = ap (λ rest. node_answer events e (node_at plan n) ∷ rest) (twice plan ns)

  paths_answer : (plan : Tasks) (paths : List (List ℕ)) → flat_map (map (λ n. node_answer events e (node_at plan n))) paths ≡ flat_map (map (node_answer events e)) (map (λ path. map (node_at plan) path) paths)
  paths_answer plan [] = refl
  paths_answer plan (path ∷ paths) = rw (twice plan path, paths_answer plan paths) refl

pub plan_answers : (events : List Event) (e : Event) (plan : Tasks) (qs : List Asked) → plan ≡ plan_for qs → flat_map (map (λ n. node_answer events e (node_at plan n))) plan.paths ≡ answers_to qs events e
plan_answers events e plan qs is =
    paths_answer events e plan plan.paths ∙ ap (flat_map (map (node_answer events e))) (is_named plan qs is) ∙ queries_answer events e qs

-- what is left of some paths
drop_some : (paths : List (List ℕ)) (i : ℕ) (path : List ℕ) → slice_get paths i ≡ Some path → drop i paths ≡ path ∷ drop (i + 1) paths
drop_some paths i path e = let next : suc i ≡ i + 1 = omega arith in seam paths i path e ∙ ap (λ n. path ∷ drop n paths) next
  where
    seam : (ps : List (List ℕ)) (n : ℕ) (p : List ℕ) → slice_get ps n ≡ Some p → drop n ps ≡ p ∷ drop (suc n) ps
    seam [] n p f = absurd cc
    seam (q ∷ ps) zero p f = let same : q ≡ p = cc in ap (λ r. r ∷ ps) same
    seam (q ∷ ps) (suc n) p f = seam ps n p f

drop_none : (paths : List (List ℕ)) (i : ℕ) → slice_get paths i ≡ None → drop i paths ≡ []
drop_none [] zero e = refl
drop_none [] (suc i) e = refl
drop_none (q ∷ ps) zero e = absurd cc
drop_none (q ∷ ps) (suc i) e = drop_none ps i e

module _ (plan : Tasks) (events : List Event) (e : Event) (answers : List Answer) (i : ℕ)
    (come : answers ++ flat_map (answers_of plan events e) (drop i plan.paths) ≡ flat_map (answers_of plan events e) plan.paths) where
  pub with_path : (path : List ℕ) (more : List Answer) → slice_get plan.paths i ≡ Some path → more ≡ answers ++ answers_of plan events e path
      → more ++ flat_map (answers_of plan events e) (drop (i + 1) plan.paths) ≡ flat_map (answers_of plan events e) plan.paths
  with_path path more there is =
      ap (λ all. all ++ flat_map (answers_of plan events e) (drop (i + 1) plan.paths)) is
      ∙ append_assoc answers (answers_of plan events e path) (flat_map (answers_of plan events e) (drop (i + 1) plan.paths))
      ∙ ap (λ left. answers ++ flat_map (answers_of plan events e) left) (sym (drop_some plan.paths i path there))
      ∙ come

  pub no_path : slice_get plan.paths i ≡ None → answers ≡ flat_map (answers_of plan events e) plan.paths
  no_path none = sym (append-nil answers) ∙ ap (λ left. answers ++ flat_map (answers_of plan events e) left) (sym (drop_none plan.paths i none)) ∙ come

pub found_is : (xs : List Event) (k : ℕ) (x e : Event) → x ≡ get_or xs k x → slice_get xs k ≡ Some e → x ≡ e
found_is xs k x e is there = is ∙ sym (unwrap_or-slice_get xs k x) ∙ ap (λ found. unwrap_or found x) there

pub all_answers : (shape : Shape) (qs : List Asked) (plan : Tasks) (events : List Event) (k : ℕ) (x e : Event) → plan ≡ plan_for qs → x ≡ get_or events k x → slice_get events k ≡ Some e
    → flat_map (answers_of plan (take (k + 1) events) x) plan.paths ≡ answers_to qs (take (k + 1) events) e
all_answers shape qs plan events k x e is at there =
    plan_answers (take (k + 1) events) x plan qs is ∙ ap (answers_to qs (take (k + 1) events)) (found_is events k x e at there)
