-- What is made once for the plan of an engine.
use Rattle.std.specs.Prelude.{◌≡◌, ℕ, List, length}
use Rattle.rg_plan.specs.Plans.{Tasks}
use Rattle.rg_plan.specs.Whole.{IsWhole}
use Rattle.rg_window.specs.Placed.{Placed}
use Rattle.rg_engine.specs.declared.part.FilterPart.{FilterPart}
use Rattle.rg_engine.specs.Answering.{nodes_asked}
use Rattle.rg_engine.specs.Parts.{ArePartsOf}

-- the edges are those of the plan's offsets, the tree has its nodes, the numbers are those of its queries' nodes, and there is a key for each group node
pub record IsBuilt (plan : Tasks) (edges : Placed) (parts : List FilterPart) (nodes : List ℕ) (keys : List (List ℕ)) : Type 0 where
  pub whole : IsWhole plan
  pub offsets : edges.offsets ≡ plan.offsets
  pub same : length edges.spots ≡ length edges.offsets
  pub tree : ArePartsOf plan parts
  pub asked : nodes ≡ nodes_asked plan
  pub each : length keys ≡ length plan.groups
