-- What stands in the table of a plan file.
use Rattle.std.specs.Prelude.{ℕ, suc, ℤ, pos, negsuc, ◌*◌, ◌≤◌, ◌^◌, nat_le, ◌&&◌, ◌||◌, Bool, true, false, codes, List, [], ◌∷◌, ◌++◌, map, Option, None, Some, option_map, option_and_then, Result, Ok, Err, bytes_eq, if◌then◌else◌}
use Rattle.std.specs.Option.{ok_or}
use Rattle.std.specs.Str.{is_utf8}
use Rattle.toml.specs.Data.{Data, Items, Members, no_items, item, no_members, member, get_member, as_str, as_array, as_integer, as_bool, as_table}
use Rattle.toml.specs.Parse.{parse_document}
use Rattle.rg_event.specs.Parsing.{value_of}
use Rattle.rg_event.specs.declared.schema.Field.{Field}
use Rattle.rg_event.specs.declared.value.Kind.{Kind}
use Rattle.rg_event.specs.declared.value.Value.{Value}
use Rattle.rg_growth.specs.Growing.{no_defaults}
use Rattle.rg_config.specs.declared.fault.DefaultsFault.{DefaultsFault}
use Rattle.rg_config.specs.declared.fault.DefaultsFault.TheVariants.{Table as NoTable, Key as NoColumn, Column}
use Rattle.rg_config.specs.declared.fault.SettingsFault.{SettingsFault}
use Rattle.rg_config.specs.declared.fault.SettingsFault.TheVariants.{TopKey, Queries, Table, Key, Cache, Chunk, Commit, Save, Events, Header, Grace, CachedEvents}

-- the table that the bytes stand for: they are text, and the text is a document
abbrev pub document : List ℕ → Option Members
document bytes = if is_utf8 bytes then parse_document bytes else None

-- each key of a table is one of these
abbrev pub is_one_of : List (List ℕ) → List ℕ → Bool
is_one_of [] key = false
is_one_of (k ∷ keys) key = bytes_eq key k || is_one_of keys key

abbrev pub all_keys : List (List ℕ) → Members → Bool
all_keys keys no_members = true
all_keys keys (member key found members) = is_one_of keys key && all_keys keys members

-- the strings of an array of strings
abbrev pub texts : Items → Option (List (List ℕ))
texts no_items = Some []
texts (item found items) = option_and_then (λ text. option_map (λ more. text ∷ more) (texts items)) (as_str found)

-- the array of strings, and the string, at a key
abbrev pub texts_at : List ℕ → Members → Option (List (List ℕ))
texts_at key table = option_and_then texts (option_and_then as_array (get_member key table))

abbrev pub text_at : List ℕ → Members → Option (List ℕ)
text_at key table = option_and_then as_str (get_member key table)

-- The stream

-- the columns, parted by commas
abbrev pub more_columns : List (List ℕ) → List ℕ
more_columns [] = []
more_columns (column ∷ columns) = codes "," ++ (column ++ more_columns columns)

abbrev pub joined : List (List ℕ) → List ℕ
joined [] = []
joined (column ∷ columns) = column ++ more_columns columns

-- `NAME(COLUMN,COLUMN,..)`
abbrev pub stream_text : List ℕ → List (List ℕ) → List ℕ
stream_text name columns = name ++ (codes "(" ++ (joined columns ++ codes ")"))

-- the text of the stream that a table describes: its keys are `name`, a string, `columns`, an array of strings, and, where it is there, `defaults`
abbrev pub described : Members → Option (List ℕ)
described table =
    if all_keys (codes "name" ∷ codes "columns" ∷ codes "defaults" ∷ []) table then
    option_and_then (λ name. option_map (stream_text name) (texts_at (codes "columns") table)) (text_at (codes "name") table)
    else None

-- the table of the stream
abbrev pub stream_table : Members → Option Members
stream_table top = option_and_then as_table (get_member (codes "stream") top)

abbrev pub stream_of : Members → Option (List ℕ)
stream_of top = option_and_then described (stream_table top)

-- a reading of what another one found, or that one's fault
abbrev pub and_then : {A B E : Type 0} → (A → Result B E) → Result A E → Result B E
and_then f (Ok found) = f found
and_then f (Err fault) = Err fault

-- The defaults of its columns

-- the names of the columns
abbrev pub names : List Field → List (List ℕ)
names fields = map (λ (field : Field). field.name) fields

-- the default of a column of this kind: none where nothing is said, or the value that a string says
abbrev pub default_of : Kind → Option Data → Option (Option Value)
default_of kind None = Some None
default_of kind (Some found) = option_map Some (option_and_then (value_of kind) (as_str found))

-- that of each column, of which the first has this number; or the number of the first that has a bad one
abbrev pub defaults_from : ℕ → List Field → Members → Result (List (Option Value)) DefaultsFault
defaults_from number [] table = Ok []
defaults_from number (field ∷ fields) table =
    and_then (λ default. and_then (λ more. Ok (default ∷ more)) (defaults_from (suc number) fields table))
    (ok_or (default_of field.kind (get_member field.name table)) (Column number))

-- those that a table says, whose keys are names of the columns: the time has number 0
abbrev pub defaults_in : List Field → Members → Result (List (Option Value)) DefaultsFault
defaults_in fields table = if all_keys (names fields) table then defaults_from 1 fields table else Err NoColumn

-- none where nothing is said
abbrev pub defaults_or : List Field → Option Data → Result (List (Option Value)) DefaultsFault
defaults_or fields None = Ok (no_defaults fields)
defaults_or fields (Some found) = and_then (defaults_in fields) (ok_or (as_table found) NoTable)

-- those that the table of the stream says
abbrev pub stream_defaults : List Field → Members → Result (List (Option Value)) DefaultsFault
stream_defaults fields top = defaults_or fields (option_and_then (get_member (codes "defaults")) (stream_table top))

-- The settings

pub record Settings : Type 0 where
  -- chunks in the cache, and events in a chunk
  pub cache : ℕ
  pub chunk : ℕ
  -- events between two commits, and between two checkpoints
  pub commit : ℕ
  pub save : ℕ
  -- how many events are accepted
  pub events : ℕ
  -- the first line is a header
  pub header : Bool
  -- by how much an event may be earlier than the last one before it
  pub grace : ℕ

-- n is from low to high
abbrev pub IsFromTo : ℕ → ℕ → ℕ → Type 0
IsFromTo low high n = (low ≤ n) × (n ≤ high)

-- each setting lies in its range
pub record AreInRange (settings : Settings) : Type 0 where
  pub cache : IsFromTo 1 1024 settings.cache
  pub chunk : IsFromTo 1 4096 settings.chunk
  -- the cache holds at most 65,536 events
  pub cached : settings.cache * settings.chunk ≤ 65536
  pub commit : IsFromTo 1 1000000 settings.commit
  pub save : IsFromTo 1 1000000 settings.save
  pub events : IsFromTo 1 (2 ^ 40) settings.events
  pub grace : IsFromTo 0 (10 ^ 15) settings.grace

-- an integer within bounds
abbrev pub within : ℕ → ℕ → ℤ → Option ℕ
within low high (pos n) = if nat_le low n && nat_le n high then Some n else None
within low high (negsuc n) = None

-- a number, which stands in its range, or a default where the key is missing
abbrev pub number_or : ℕ → ℕ → ℕ → Option Data → Option ℕ
number_or low high default None = Some default
number_or low high default (Some found) = option_and_then (within low high) (as_integer found)

-- the number at a key, or its fault
abbrev pub number_at : List ℕ → SettingsFault → ℕ → ℕ → ℕ → Members → Result ℕ SettingsFault
number_at key fault low high default table = ok_or (number_or low high default (get_member key table)) fault

-- a flag, false where the key is missing
abbrev pub flag_or : Option Data → Option Bool
flag_or None = Some false
flag_or (Some found) = as_bool found

abbrev pub flag_at : List ℕ → SettingsFault → Members → Result Bool SettingsFault
flag_at key fault table = ok_or (flag_or (get_member key table)) fault

abbrev pub setting_keys : List (List ℕ)
setting_keys = codes "cache" ∷ codes "chunk" ∷ codes "commit" ∷ codes "save" ∷ codes "events" ∷ codes "header" ∷ codes "grace" ∷ []

-- the cache holds at most 65,536 events
abbrev pub fits : Settings → Result Settings SettingsFault
fits settings = if nat_le (settings.cache * settings.chunk) 65536 then Ok settings else Err CachedEvents

abbrev pub settings_in : Members → Result Settings SettingsFault
settings_in table =
    if all_keys setting_keys table then
    and_then (λ cache. and_then (λ chunk. and_then (λ commit. and_then (λ save. and_then (λ events. and_then (λ header. and_then (λ grace.
    fits (record { cache = cache; chunk = chunk; commit = commit; save = save; events = events; header = header; grace = grace }))
    (number_at (codes "grace") Grace 0 1000000000000000 0 table))
    (flag_at (codes "header") Header table))
    (number_at (codes "events") Events 1 1099511627776 1099511627776 table))
    (number_at (codes "save") Save 1 1000000 65536 table))
    (number_at (codes "commit") Commit 1 1000000 1024 table))
    (number_at (codes "chunk") Chunk 1 4096 1024 table))
    (number_at (codes "cache") Cache 1 1024 64 table)
    else Err Key

-- the settings of a plan: those of a table without keys where there is none
abbrev pub settings_or : Option Data → Result Settings SettingsFault
settings_or None = settings_in no_members
settings_or (Some found) = and_then settings_in (ok_or (as_table found) Table)

-- The queries

-- at least one text
abbrev pub some_texts : List (List ℕ) → Option (List (List ℕ))
some_texts [] = None
some_texts (text ∷ texts) = Some (text ∷ texts)

abbrev pub queries_of : Members → Result (List (List ℕ)) SettingsFault
queries_of top = ok_or (option_and_then some_texts (texts_at (codes "queries") top)) Queries

-- the texts of the queries and the settings, where the top table has no other key than these and the stream
abbrev pub rest_of : Members → Result (List (List ℕ) × Settings) SettingsFault
rest_of top =
    if all_keys (codes "queries" ∷ codes "stream" ∷ codes "settings" ∷ []) top then
    and_then (λ queries. and_then (λ settings. Ok (queries, settings)) (settings_or (get_member (codes "settings") top))) (queries_of top)
    else Err TopKey
