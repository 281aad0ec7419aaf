-- The lines of a plan alone, one by one.
use Rattle.std.proofs.Common.{◌≡◌, ℕ, zero, suc, ◌<◌, ◌≤◌, ◌+◌, List, [], ◌∷◌, ◌++◌, length, map, drop, get_or, All, refl, ap, sym, ◌∙◌, subst, arith, append_assoc}
use Rattle.std.proofs.lemmas.List.{append-nil, drop_all}
use Rattle.rg_event.specs.Shapes.{Shape}
use Rattle.rg_host.specs.Lines.{ended}
use Rattle.rg_plan.specs.Offsets.{IsMeasured}
use Rattle.rg_plan.specs.Plans.{Tasks as TaskPlanned}
use Rattle.rg_plan.proofs.Laws.{windows_measured}
use Rattle.rg_query.specs.Printing.{query_text}
use Rattle.rg_config.specs.Plans.{planned}
use Rattle.rg_config.specs.declared.plan.Plan.{Plan}
use Rattle.rg_config.proofs.Laws.{measured}
use Rattle.rg_explain.specs.Listing.{numbered, query_line, offset_line, window_line, filter_line, group_line, agg_line, task_text, check_text}
use Rattle.rg_config.specs.Read.{IsReadPlan}
use Rattle.rg_host.proofs.Laws.{ended-append}

-- the line of one member, and those of the others
next_line : {A : Type 0} (line : ℕ → A → List ℕ) (n i : ℕ) (xs : List A) (x : A) → i < length xs → get_or xs i x ≡ x → ended (numbered line n (drop i xs)) ≡ (line n x ++ 10 ∷ []) ++ ended (numbered line (suc n) (drop (suc i) xs))
next_line line n i [] x h is = absurd (omega arith)
next_line line n zero (y ∷ xs) x h is =
    ap (λ v. line n v ++ 10 ∷ ended (numbered line (suc n) xs)) is ∙ sym (append_assoc (line n x) (10 ∷ []) (ended (numbered line (suc n) xs)))
next_line line n (suc i) (y ∷ xs) x h is = next_line line n i xs x (omega arith) is

-- one line more is written
pub line_more :
    {A : Type 0} (line : ℕ → A → List ℕ) (xs : List A) (i : ℕ) (x : A) (old new whole : List ℕ)
    → i < length xs → get_or xs i x ≡ x → new ≡ old ++ (line i x ++ 10 ∷ []) → old ++ ended (numbered line i (drop i xs)) ≡ whole
    → new ++ ended (numbered line (i + 1) (drop (i + 1) xs)) ≡ whole
line_more line xs i x old new whole h is more so_far =
    let next : i + 1 ≡ suc i = omega arith in
    ap (λ n. new ++ ended (numbered line n (drop n xs))) next
    ∙ ap (λ v. v ++ ended (numbered line (suc i) (drop (suc i) xs))) more
    ∙ append_assoc old (line i x ++ 10 ∷ []) (ended (numbered line (suc i) (drop (suc i) xs)))
    ∙ ap (λ v. old ++ v) (sym (next_line line i i xs x h is))
    ∙ so_far

-- none is left
pub line_last : {A : Type 0} (line : ℕ → A → List ℕ) (xs : List A) (i : ℕ) (text whole : List ℕ) → length xs ≤ i → text ++ ended (numbered line i (drop i xs)) ≡ whole → text ≡ whole
line_last line xs i text whole h so_far =
    sym (append-nil text) ∙ ap (λ v. text ++ ended (numbered line i v)) (sym (drop_all i xs h)) ∙ so_far

-- the lines of a task plan, level by level
pub task_listed :
    (shape : Shape) (task : TaskPlanned) (old offsets windows filters groups new : List ℕ)
    → offsets ≡ old ++ ended (map offset_line task.offsets)
    → windows ≡ offsets ++ ended (numbered window_line 0 task.windows)
    → filters ≡ windows ++ ended (numbered (filter_line shape) 0 task.filters)
    → groups ≡ filters ++ ended (numbered (group_line shape) 0 task.groups)
    → new ≡ groups ++ ended (numbered (agg_line shape) 0 task.aggs)
    → new ≡ old ++ ended (task_text shape task)
task_listed shape task old offsets windows filters groups new a b c d e =
    behind old offsets new _ _ a (behind offsets windows new _ _ b (behind windows filters new _ _ c (behind filters groups new _ _ d e)))
  where
    behind : (first mid last : List ℕ) (lines more : List (List ℕ)) → mid ≡ first ++ ended lines → last ≡ mid ++ ended more → last ≡ first ++ ended (lines ++ more)
    behind first mid last lines more x y =
        y ∙ (ap (λ v. v ++ ended more) x ∙ (append_assoc first (ended lines) (ended more) ∙ ap (λ v. first ++ v) (sym (ended-append lines more))))

-- the plan's windows are at most 10^15 milliseconds
pub windows_are : (plan : Plan) → IsReadPlan plan → All IsMeasured plan.task.windows
windows_are plan read =
    subst (λ (task : TaskPlanned). All IsMeasured task.windows) (sym read.task) (windows_measured (planned plan).queries (measured plan.schema (planned plan).queries read.legal))

-- all lines, those of the queries and then those of the task plan
pub listed : (plan : Plan) (old mid new : List ℕ) → IsReadPlan plan → mid ≡ old ++ ended (numbered query_line 0 plan.queries) → new ≡ mid ++ ended (task_text plan.schema plan.task) → new ≡ old ++ ended (check_text (planned plan))
listed plan old mid new read first second =
    second
    ∙ ap (λ v. v ++ ended (task_text plan.schema plan.task)) first
    ∙ append_assoc old (ended (numbered query_line 0 plan.queries)) (ended (task_text plan.schema plan.task))
    ∙ ap (λ v. old ++ v) (sym (ended-append (numbered query_line 0 plan.queries) (task_text plan.schema plan.task)))
    ∙ ap (λ v. old ++ ended (numbered query_line 0 v ++ task_text plan.schema plan.task)) read.printed
    ∙ ap (λ (v : TaskPlanned). old ++ ended (numbered query_line 0 (map (query_text plan.schema) (planned plan).queries) ++ task_text plan.schema v)) read.task
