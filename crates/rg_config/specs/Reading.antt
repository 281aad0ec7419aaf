-- What the readers of the parts of a plan file answer.
use Rattle.std.specs.Prelude.{◌≡◌, ◌⊎◌, ℕ, List, map, Option, Some, None, Result, Ok, Err}
use Rattle.toml.specs.Data.{Members}
use Rattle.rg_event.specs.Shapes.{Shape}
use Rattle.rg_event.specs.declared.value.Value.{Value}
use Rattle.rg_metric.specs.Queries.{asked}
use Rattle.rg_metric.specs.declared.query.Query.{Query}
use Rattle.rg_config.specs.Documents.{Settings, stream_defaults}
use Rattle.rg_config.specs.Plans.{planned, HasStream, NoStream, IsTaken, IsRefusedQuery, AllTaken, FirstRefused}
use Rattle.rg_config.specs.declared.fault.ConfigFault.{ConfigFault}
use Rattle.rg_config.specs.declared.fault.ConfigFault.TheVariants.{Stream, Defaults as BadDefaults, Settings as BadSettings, Query as BadQuery, Memory}
use Rattle.rg_config.specs.declared.fault.DefaultsFault.{DefaultsFault}
use Rattle.rg_config.specs.declared.fault.SettingsFault.{SettingsFault}
use Rattle.rg_config.specs.declared.fault.QueryRefusal.{QueryRefusal}
use Rattle.rg_config.specs.declared.fault.QueryRefusal.TheVariants.{Text}
use Rattle.rg_query.specs.declared.fault.QueryFault.{QueryFault}
use Rattle.rg_query.specs.declared.fault.QueryFault.TheVariants as query
use Rattle.rg_config.specs.declared.plan.Plan.{Plan}
use Rattle.rg_config.specs.declared.plan.Rest.{Rest}
use Rattle.rg_config.specs.declared.queries.Queries.{Queries}
use Rattle.rg_config.specs.declared.settings.Settings.{Settings as SettingsRead}
use Rattle.rg_config.specs.declared.stream.Stream.{Stream as StreamRead}

-- what is found is answered, or this refusal where nothing is, or memory ran out
abbrev pub Reads : {A B : Type 0} → (A → B) → ConfigFault → Option B → Result A ConfigFault → Type 0
Reads view refusal found (Ok value) = found ≡ Some (view value)
Reads view refusal found (Err fault) = ((fault ≡ refusal) × (found ≡ None)) ⊎ (fault ≡ Memory)

abbrev pub settings_view : SettingsRead → Settings
settings_view settings = record {
  cache = settings.room.cache;
  chunk = settings.room.chunk;
  commit = settings.commit;
  save = settings.save;
  events = settings.room.limit;
  header = settings.header;
  grace = settings.grace;
}

-- the schema whose text a table describes, or that there is none
abbrev pub ReadsSchema : Members → Result Shape ConfigFault → Type 0
ReadsSchema top (Ok shape) = HasStream top shape
ReadsSchema top (Err fault) = ((fault ≡ Stream) × NoStream top) ⊎ (fault ≡ Memory)

-- the defaults that are found, or the fault by which none are
abbrev pub ReadsDefaults : Result (List (Option Value)) DefaultsFault → Result (List (Option Value)) ConfigFault → Type 0
ReadsDefaults found (Ok defaults) = found ≡ Ok defaults
ReadsDefaults found (Err fault) = ((cause : DefaultsFault) × (fault ≡ BadDefaults cause) × (found ≡ Err cause)) ⊎ (fault ≡ Memory)

-- the schema that a table describes and the defaults of its columns; or that there is none; or the fault by which none are found
abbrev pub ReadsStream : Members → Result StreamRead ConfigFault → Type 0
ReadsStream top (Ok stream) = HasStream top stream.schema × (stream_defaults stream.schema.fields top ≡ Ok stream.defaults)
ReadsStream top (Err fault) =
    ((fault ≡ Stream) × NoStream top)
    ⊎ (((cause : DefaultsFault) × (fault ≡ BadDefaults cause) × ((shape : Shape) × HasStream top shape × (stream_defaults shape.fields top ≡ Err cause)))
    ⊎ (fault ≡ Memory))

-- the settings that are found, or the fault by which none are
abbrev pub ReadsSettings : Result Settings SettingsFault → Result SettingsRead SettingsFault → Type 0
ReadsSettings found (Ok settings) = found ≡ Ok (settings_view settings)
ReadsSettings found (Err fault) = found ≡ Err fault

-- what stands beside the stream, or the fault by which nothing is found
abbrev pub ReadsRest : Result (List (List ℕ) × Settings) SettingsFault → Result Rest ConfigFault → Type 0
ReadsRest found (Ok rest) = found ≡ Ok (map (λ text. text.now) rest.texts.items, settings_view rest.settings)
ReadsRest found (Err fault) = ((cause : SettingsFault) × (fault ≡ BadSettings cause) × (found ≡ Err cause)) ⊎ (fault ≡ Memory)

-- the query that a text asks, or why it isn't taken
abbrev pub ReadsQuery : ℕ → Shape → List ℕ → Result Query ConfigFault → Type 0
ReadsQuery number shape text (Ok query) = IsTaken number shape text (asked query)
ReadsQuery number shape text (Err fault) = ((refusal : QueryRefusal) × (fault ≡ BadQuery number refusal) × IsRefusedQuery number shape text refusal) ⊎ (fault ≡ Memory)

-- a fault of a query's text refuses the query, and want of memory the plan
abbrev pub RefusesText : ℕ → QueryFault → ConfigFault → Type 0
RefusesText number fault refusal = ((refusal ≡ BadQuery number (Text fault)) × (fault ≡ query.Memory → ⊥)) ⊎ (refusal ≡ Memory)

-- the first text that isn't taken is refused by its number and its cause
pub record IsFirst (shape : Shape) (texts : List (List ℕ)) (fault : ConfigFault) : Type 0 where
  pub number : ℕ
  pub refusal : QueryRefusal
  pub is : fault ≡ BadQuery number refusal
  pub first : FirstRefused shape texts number refusal

-- the queries that the texts ask, or the first text that isn't taken
abbrev pub ReadsQueries : Shape → List (List ℕ) → Result Queries ConfigFault → Type 0
ReadsQueries shape texts (Ok queries) = AllTaken 0 shape texts (map asked queries.parsed.items)
ReadsQueries shape texts (Err fault) = IsFirst shape texts fault ⊎ (fault ≡ Memory)

-- the plan with that schema and those defaults, whose texts ask its queries, and with those settings; or the first text that isn't taken
abbrev pub ReadsPlan : Shape → List (Option Value) → List (List ℕ) → Settings → Result Plan ConfigFault → Type 0
ReadsPlan shape defaults texts settings (Ok plan) =
    AllTaken 0 shape texts (planned plan).queries × (planned plan ≡ record { shape = shape; defaults = defaults; queries = (planned plan).queries; settings = settings })
ReadsPlan shape defaults texts settings (Err fault) = IsFirst shape texts fault ⊎ (fault ≡ Memory)
