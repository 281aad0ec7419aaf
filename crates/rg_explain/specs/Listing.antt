-- What is put out for a plan alone: its queries as they are printed, and the plan of how they are answered.
use Rattle.std.specs.Prelude.{ℕ, suc, ◌+◌, List, [], ◌∷◌, ◌++◌, map, codes, decimal, Option, Some, None}
use Rattle.rg_event.specs.Shapes.{Shape}
use Rattle.rg_event.specs.declared.schema.Field.{Field}
use Rattle.rg_metric.specs.Conditions.{Test}
use Rattle.rg_metric.specs.declared.query.Window.{Window}
use Rattle.rg_plan.specs.declared.node.GroupNode.{GroupNode}
use Rattle.rg_plan.specs.declared.node.AggNode.{AggNode}
use Rattle.rg_plan.specs.Nodes.{Filtered}
use Rattle.rg_plan.specs.Plans.{Tasks as TaskPlanned, plan_for}
use Rattle.rg_query.specs.Printing.{name_at, condition_text, agg_text, query_text}
use Rattle.rg_config.specs.Plans.{Planned}

-- the lines of list members, the first of which has this number
abbrev pub numbered : {A : Type 0} → (ℕ → A → List ℕ) → ℕ → List A → List (List ℕ)
numbered line number [] = []
numbered line number (x ∷ xs) = line number x ∷ numbered line (suc number) xs

abbrev pub query_line : ℕ → List ℕ → List ℕ
query_line number text = codes "query " ++ (decimal number ++ (codes " " ++ text))

-- an offset in milliseconds
abbrev pub offset_line : ℕ → List ℕ
offset_line offset = codes "offset " ++ decimal offset

-- how old an event is when it leaves a window with this delay and length
abbrev pub end_text : ℕ → Option ℕ → List ℕ
end_text delay None = codes "-"
end_text delay (Some length) = decimal (delay + length)

-- how old an event is when it enters a window, and when it leaves
abbrev pub window_line : ℕ → Window → List ℕ
window_line number window = codes "window " ++ (decimal number ++ (codes " " ++ (decimal window.delay ++ (codes " " ++ end_text window.delay window.length))))

-- a node: its level, its number, the number of the node above it, and what it adds to that
abbrev pub node_line : List ℕ → ℕ → ℕ → List ℕ → List ℕ
node_line level number above text = level ++ (codes " " ++ (decimal number ++ (codes " " ++ (decimal above ++ (codes " " ++ text)))))

abbrev pub filter_text : Shape → Option Test → List ℕ
filter_text shape None = codes "all"
filter_text shape (Some t) = condition_text shape t

abbrev pub filter_line : Shape → ℕ → Filtered → List ℕ
filter_line shape number filter = node_line (codes "filter") number filter.window (filter_text shape filter.condition)

-- the names of more columns
abbrev pub more_columns : List Field → List ℕ → List ℕ
more_columns fields [] = []
more_columns fields (column ∷ columns) = codes "," ++ (name_at column fields ++ more_columns fields columns)

-- the names of columns, parted by commas
abbrev pub columns_text : List Field → List ℕ → List ℕ
columns_text fields [] = codes "-"
columns_text fields (column ∷ columns) = name_at column fields ++ more_columns fields columns

abbrev pub group_line : Shape → ℕ → GroupNode → List ℕ
group_line shape number group = node_line (codes "group") number group.filter (columns_text shape.fields group.columns)

abbrev pub agg_line : Shape → ℕ → AggNode → List ℕ
agg_line shape number node = node_line (codes "agg") number node.group (agg_text shape node.agg)

-- the lines of a task plan: its offsets, and then its nodes, level by level
abbrev pub task_text : Shape → TaskPlanned → List (List ℕ)
task_text shape task =
    map offset_line task.offsets
    ++ (numbered window_line 0 task.windows
    ++ (numbered (filter_line shape) 0 task.filters
    ++ (numbered (group_line shape) 0 task.groups
    ++ numbered (agg_line shape) 0 task.aggs)))

-- all lines that are put out for a plan alone
abbrev pub check_text : Planned → List (List ℕ)
check_text plan = numbered query_line 0 (map (query_text plan.shape) plan.queries) ++ task_text plan.shape (plan_for plan.queries)
