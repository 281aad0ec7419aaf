-- What nodes feed a hasher.
use Rattle.std.specs.Prelude.{ℕ, List, ◌++◌, Option, Some, None}
use Rattle.std.specs.Hash as fed
use Rattle.rg_event.specs.declared.value.Value.{Value}
use Rattle.rg_event.specs.declared.value.Value.TheVariants.{Int, Id, Text, Flag}
use Rattle.rg_metric.specs.Conditions.{Test, compared, not_of, and_of, or_of}
use Rattle.rg_plan.specs.declared.node.GroupNode.{GroupNode}
use Rattle.rg_plan.specs.Nodes.{Filtered}

abbrev pub value_fed : Value → List (List ℕ)
value_fed (Int n) = fed.i64 n
value_fed (Id n) = fed.u64 n
value_fed (Text bytes) = fed.slice fed.u8 bytes
value_fed (Flag b) = fed.bool b

-- each node of the tree, as a number for its kind and then its parts, left to right; a comparison feeds its column and its value
abbrev pub test_fed : Test → List (List ℕ)
test_fed (compared column op value) = fed.u8 1 ++ (fed.u32 column ++ value_fed value)
test_fed (not_of t) = fed.u8 2 ++ test_fed t
test_fed (and_of s t) = fed.u8 3 ++ (test_fed s ++ test_fed t)
test_fed (or_of s t) = fed.u8 4 ++ (test_fed s ++ test_fed t)

abbrev pub condition_fed : Option Test → List (List ℕ)
condition_fed None = fed.u8 0
condition_fed (Some t) = test_fed t

abbrev pub filter_fed : Filtered → List (List ℕ)
filter_fed node = fed.u32 node.window ++ condition_fed node.condition

abbrev pub group_fed : GroupNode → List (List ℕ)
group_fed node = fed.u32 node.filter ++ fed.slice fed.u32 node.columns
