-- What the bytes of a plan file say: a plan, or the fault that they are refused by.
use Rattle.std.specs.Prelude.{◌≡◌, ◌⊎◌, ◌<◌, ◌≤◌, ℕ, suc, nat_lt, List, [], ◌∷◌, ◌++◌, length, Option, Some, None, Result, Ok, Err, ⊤, if◌then◌else◌}
use Rattle.toml.specs.Data.{Members}
use Rattle.rg_event.specs.Shapes.{Shape, IsSchema, schema_text}
use Rattle.rg_event.specs.declared.value.Value.{Value}
use Rattle.rg_metric.specs.Queries.{Asked}
use Rattle.rg_plan.specs.Named.{asked_by}
use Rattle.rg_query.specs.Saying as saying
use Rattle.rg_query.specs.declared.fault.QueryFault.{QueryFault}
use Rattle.rg_config.specs.Documents.{document, stream_of, stream_defaults, rest_of, Settings}
use Rattle.rg_config.specs.declared.fault.ConfigFault.{ConfigFault}
use Rattle.rg_config.specs.declared.fault.ConfigFault.TheVariants.{Toml, Stream, Defaults as BadDefaults, Settings as BadSettings, Query, Memory}
use Rattle.rg_config.specs.declared.fault.DefaultsFault.{DefaultsFault}
use Rattle.rg_config.specs.declared.fault.SettingsFault.{SettingsFault}
use Rattle.rg_config.specs.declared.fault.QueryRefusal.{QueryRefusal}
use Rattle.rg_config.specs.declared.fault.QueryRefusal.TheVariants.{TooMany, Text, TooManyAggs, TooManyColumns}
use Rattle.rg_config.specs.declared.plan.Plan.{Plan}

-- a plan as plain data
pub record Planned : Type 0 where
  pub shape : Shape
  -- for each column past the time, what stands for its value in the events that came before the column
  pub defaults : List (Option Value)
  pub queries : List Asked
  pub settings : Settings

abbrev pub planned : Plan → Planned
planned plan = record {
  shape = plan.schema;
  defaults = plan.defaults;
  queries = asked_by plan.task;
  settings = record { cache = plan.room.cache; chunk = plan.room.chunk; commit = plan.commit; save = plan.save; events = plan.room.limit; header = plan.header; grace = plan.grace };
}

-- the table describes the stream of a schema
pub record HasStream (top : Members) (shape : Shape) : Type 0 where
  pub text : List ℕ
  pub described : stream_of top ≡ Some text
  pub is : text ≡ schema_text shape
  pub legal : IsSchema shape

abbrev pub NoStream : Members → Type 0
NoStream top = (shape : Shape) → HasStream top shape → ⊥

-- a query has at most 16 aggregators, and its key at most 8 columns
abbrev pub excess_in : Asked → Option QueryRefusal
excess_in query =
    if nat_lt 16 (length query.aggs) then Some TooManyAggs
    else if nat_lt 8 (length query.group) then Some TooManyColumns
    else None

abbrev pub unless : Asked → Option QueryRefusal → Result Asked QueryRefusal
unless query None = Ok query
unless query (Some refusal) = Err refusal

-- what is said of a text that says this as a query
abbrev pub judged : Result Asked QueryFault → Result Asked QueryRefusal
judged (Ok query) = unless query (excess_in query)
judged (Err fault) = Err (Text fault)

-- the text with this number, counted from 0, asks a query within its bounds, or is refused by its own fault: at most 64 are looked at
pub record IsJudged (number : ℕ) (shape : Shape) (text : List ℕ) (said : Result Asked QueryRefusal) : Type 0 where
  pub few : number < 64
  pub read : Result Asked QueryFault
  pub says : saying.Says shape text read
  pub is : judged read ≡ said

abbrev pub IsTaken : ℕ → Shape → List ℕ → Asked → Type 0
IsTaken number shape text query = IsJudged number shape text (Ok query)

-- the text with this number isn't taken, for this cause
abbrev pub IsRefusedQuery : ℕ → Shape → List ℕ → QueryRefusal → Type 0
IsRefusedQuery number shape text refusal = ((64 ≤ number) × (refusal ≡ TooMany)) ⊎ IsJudged number shape text (Err refusal)

-- each text, from this number on, asks the query beside it
abbrev pub AllTaken : ℕ → Shape → List (List ℕ) → List Asked → Type 0
AllTaken number shape [] [] = ⊤
AllTaken number shape [] (query ∷ queries) = ⊥
AllTaken number shape (text ∷ texts) [] = ⊥
AllTaken number shape (text ∷ texts) (query ∷ queries) = IsTaken number shape text query × AllTaken (suc number) shape texts queries

-- the text with this number is the first that isn't taken, for this cause
pub record FirstRefused (shape : Shape) (texts : List (List ℕ)) (number : ℕ) (refusal : QueryRefusal) : Type 0 where
  pub front : List (List ℕ)
  pub text : List ℕ
  pub rest : List (List ℕ)
  pub split : texts ≡ front ++ text ∷ rest
  pub queries : List Asked
  pub taken : AllTaken 0 shape front queries
  pub place : number ≡ length front
  pub refused : IsRefusedQuery number shape text refusal

pub record HasPlan (bytes : List ℕ) (plan : Planned) : Type 0 where
  pub top : Members
  pub texts : List (List ℕ)
  pub document : document bytes ≡ Some top
  pub stream : HasStream top plan.shape
  pub defaults : stream_defaults plan.shape.fields top ≡ Ok plan.defaults
  pub rest : rest_of top ≡ Ok (texts, plan.settings)
  pub queries : AllTaken 0 plan.shape texts plan.queries

pub record HasNoStream (bytes : List ℕ) : Type 0 where
  pub top : Members
  pub document : document bytes ≡ Some top
  pub none : NoStream top

pub record HasNoDefaults (bytes : List ℕ) (fault : DefaultsFault) : Type 0 where
  pub top : Members
  pub shape : Shape
  pub document : document bytes ≡ Some top
  pub stream : HasStream top shape
  pub none : stream_defaults shape.fields top ≡ Err fault

pub record HasNoSettings (bytes : List ℕ) (fault : SettingsFault) : Type 0 where
  pub top : Members
  pub shape : Shape
  pub defaults : List (Option Value)
  pub document : document bytes ≡ Some top
  pub stream : HasStream top shape
  pub declared : stream_defaults shape.fields top ≡ Ok defaults
  pub none : rest_of top ≡ Err fault

pub record HasNoQuery (bytes : List ℕ) (number : ℕ) (refusal : QueryRefusal) : Type 0 where
  pub top : Members
  pub shape : Shape
  pub defaults : List (Option Value)
  pub texts : List (List ℕ)
  pub settings : Settings
  pub document : document bytes ≡ Some top
  pub stream : HasStream top shape
  pub declared : stream_defaults shape.fields top ≡ Ok defaults
  pub rest : rest_of top ≡ Ok (texts, settings)
  pub first : FirstRefused shape texts number refusal

-- the bytes say a plan, or: they are no document; no stream; no defaults of its columns; no settings, or no queries; or a query that isn't taken
abbrev pub Says : List ℕ → Result Planned ConfigFault → Type 0
Says bytes (Ok plan) = HasPlan bytes plan
Says bytes (Err Toml) = document bytes ≡ None
Says bytes (Err Stream) = HasNoStream bytes
Says bytes (Err (BadDefaults fault)) = HasNoDefaults bytes fault
Says bytes (Err (BadSettings fault)) = HasNoSettings bytes fault
Says bytes (Err (Query number refusal)) = HasNoQuery bytes number refusal
Says bytes (Err Memory) = ⊥

-- what is answered is what the bytes say, unless memory ran out
abbrev pub Tells : List ℕ → Result Plan ConfigFault → Type 0
Tells bytes (Ok plan) = Says bytes (Ok (planned plan))
Tells bytes (Err Memory) = ⊤
Tells bytes (Err fault) = Says bytes (Err fault)

-- what the bytes say is what is answered, unless memory ran out
abbrev pub Agrees : Result Planned ConfigFault → Result Plan ConfigFault → Type 0
Agrees said (Ok plan) = said ≡ Ok (planned plan)
Agrees said (Err fault) = (said ≡ Err fault) ⊎ (fault ≡ Memory)
