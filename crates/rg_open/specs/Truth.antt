-- When an image is truthful: its log is legal, and its checkpoints are true of the log.
use Rattle.std.specs.Prelude.{◌≡◌, ◌≤◌, ◌^◌, ◌++◌, ℕ, List, length, map, All}
use Rattle.rg_host.specs.Image.{Image}
use Rattle.rg_event.specs.Rising.{IsRising}
use Rattle.rg_event.specs.Shapes.{Shape}
use Rattle.rg_event.specs.declared.event.Event.{Event}
use Rattle.rg_metric.specs.Queries.{Asked}
use Rattle.rg_query.specs.Printing.{query_text}
use Rattle.rg_config.specs.Read.{IsSaid}
use Rattle.rg_plan.specs.Plans.{plan_for}
use Rattle.rg_log.specs.Log.{HasEvents, HasLegalLog, IsInForce}
use Rattle.rg_log.specs.Spots.{SpotIn}
use Rattle.rg_checkpoint.specs.declared.base.Checkpoint.{Checkpoint}
use Rattle.rg_checkpoint.specs.Truth.{AreTruthful}
use Rattle.rg_restore.specs.Truthful.{IsTruthful}

-- the printed texts of these queries over a schema
abbrev pub texts_of : Shape → List Asked → List (List ℕ)
texts_of shape queries = map (query_text shape) queries

-- The checkpoint is true of a log at whose end that schema is in force: the texts are those of queries that can be asked over it, and of
-- the first `count` events the spots are where the queries' edges are, each spelled in the log, and the rows stand for those events.
pub record IsTrueFor (shape : Shape) (bytes : List ℕ) (checkpoint : Checkpoint) : Type 0 where
  pub framed : IsInForce shape bytes
  pub events : List Event
  pub has : HasEvents shape events bytes
  pub queries : List Asked
  pub said : All (IsSaid shape) queries
  pub texts : checkpoint.queries ≡ texts_of shape queries
  pub truthful : IsTruthful (SpotIn bytes) (plan_for queries) events checkpoint

-- and such a schema is in force there
abbrev pub IsTrueOf : List ℕ → Checkpoint → Type 0
IsTrueOf bytes checkpoint = (shape : Shape) × IsTrueFor shape bytes checkpoint

-- An image is truthful: file 2 is a legal log, and each complete slot is true of it.
pub record IsTruthfulImage (v : Image) : Type 0 where
  pub log : HasLegalLog (v 2)
  pub slots : AreTruthful IsTrueOf v

-- a chunk of these events may come behind a log at whose end that schema is in force: its events rise then, and there are at most 2^40 of them
pub record MayGrow (shape : Shape) (chunk : List Event) (bytes : List ℕ) : Type 0 where
  pub framed : IsInForce shape bytes
  pub rises : (events : List Event) → HasEvents shape events bytes → IsRising (events ++ chunk)
  pub fits : (events : List Event) → HasEvents shape events bytes → length (events ++ chunk) ≤ 2 ^ 40
