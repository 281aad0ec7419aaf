-- What a reservoir finds of a log, and what it writes.
use Rattle.std.specs.Prelude.{◌≡◌, ◌≢◌, ◌⊎◌, ◌+◌, ℕ, List, [], ◌∷◌, ◌++◌, length, Some, None}
use Rattle.rg_event.specs.Shapes.{Shape, IsSchema}
use Rattle.rg_event.specs.declared.value.Value.{Value}
use Rattle.rg_growth.specs.Filling.{Given, IsFilled, filled, growth_to}
use Rattle.rg_growth.specs.Payloads.{growth_bytes}
use Rattle.rg_frame.specs.Frames.{frames, IsLog, HasPayloads}
use Rattle.rg_frame.specs.Steps.{Grows, Grown}
use Rattle.rg_log.specs.Entries.{unread, behind, entries_after}
use Rattle.rg_log.specs.Log.{schema_payload}
use Rattle.rg_log.specs.declared.summary.LogSummary.{LogSummary}
pub use Rattle.rg_reservoir.specs.Heads.{IsBadFrame}
use Rattle.rg_reservoir.specs.Chain.{IsIllegalBy}
use Rattle.rg_reservoir.specs.GrownViews.{growing_at}
use Rattle.rg_reservoir.specs.Heads.{growths_in}
use Rattle.rg_reservoir.specs.Views.{View, seen_from, plain, passed}

-- the log is whole by heads and growths, and another schema than that one is in force at its end
pub record IsOther (shape : Shape) (bytes : List ℕ) : Type 0 where
  pub other : Shape
  pub legal : IsSchema other
  pub payloads : List (List ℕ)
  pub has : HasPayloads payloads bytes
  pub summary : LogSummary
  pub say : entries_after unread payloads ≡ Some (behind other summary)
  pub differs : other ≢ shape

-- the file as it was, or where it had no frame, none or the schema's alone
abbrev pub SchemaAdded : List ℕ → List ℕ → List ℕ → Type 0
SchemaAdded ours old new = (new ≡ old) ⊎ (HasPayloads [] old × Grows ours old new)

-- the log is of another schema, which doesn't grow to this one by these defaults
pub record IsForeign (shape : Shape) (defaults : Given) (bytes : List ℕ) : Type 0 where
  pub is : IsOther shape bytes
  pub cannot : filled is.other shape defaults ≡ None

-- the log is whole by heads and growths, and the schema in force at its end grows to this one by these defaults
pub record IsToGrow (shape : Shape) (defaults : Given) (bytes : List ℕ) : Type 0 where
  pub from : Shape
  pub values : List Value
  pub fills : IsFilled from shape defaults values
  pub payloads : List (List ℕ)
  pub has : HasPayloads payloads bytes
  pub summary : LogSummary
  pub say : entries_after unread payloads ≡ Some (behind from summary)

-- the payload of the growth to that schema by these values
abbrev pub growth_payload : Shape → List Value → List ℕ
growth_payload shape values = growth_bytes (growth_to shape values)

-- the file as it was; or where it had no frame, none or the schema's alone; or where the schema in force grows to that one, with the frames that it had, or these and that growth
abbrev pub LogOpens : Shape → Given → List ℕ → List ℕ → Type 0
LogOpens shape defaults old new = SchemaAdded (schema_payload shape) old new ⊎ ((g : IsToGrow shape defaults old) × Grows (growth_payload shape g.values) old new)

-- the log as it was found, or with its first frame, or with one growth
abbrev pub Opens : Shape → Given → ℕ → ℕ → List ℕ → List ℕ → Type 0
Opens shape defaults first end old new =
    (new ≡ old) ⊎ ((IsLog [] 0 old × (end ≡ first) × Grown (schema_payload shape) old new) ⊎ ((g : IsToGrow shape defaults old) × Grown (growth_payload shape g.values) old new))

-- the log is read to its end: its frames give this view and come to that, and its first chunk would stand at that place
pub record IsOpened (view : View) (first end : ℕ) (summary : LogSummary) (bytes : List ℕ) : Type 0 where
  pub start : List ℕ
  pub payloads : List (List ℕ)
  pub log : IsLog (start ∷ payloads) end bytes
  pub has : HasPayloads (start ∷ payloads) bytes
  pub say : entries_after unread (start ∷ payloads) ≡ Some (behind view.shape summary)
  pub growths : view.growths ≡ growths_in (start ∷ payloads)
  pub first_is : first ≡ passed view.growths (9 + length start)

-- the view that the frames of a file give by heads and growths, where that schema is in force at their end; a file without a frame gives one without a growth
abbrev pub HasView : Shape → View → List ℕ → Type 0
HasView shape view bytes =
    (HasPayloads [] bytes × (view ≡ plain shape))
    ⊎ ((payloads : List (List ℕ)) × (summary : LogSummary) × HasPayloads payloads bytes × (entries_after unread payloads ≡ Some (behind shape summary)) × (view ≡ seen_from shape (growths_in payloads)))

-- an open gate stands at that place of the later file, and behind it no legal chunk of the schema that was in force there in the earlier file, at whose end that one was
abbrev pub IsIllegalSince : Shape → List ℕ → ℕ → List ℕ → Type 0
IsIllegalSince shape old place new = (view : View) × HasView shape view old × IsIllegalBy view place new

-- the view that an opening has: that of the file's frames, or that with the growth behind them that it writes
abbrev pub OpensView : Shape → Given → View → List ℕ → Type 0
OpensView shape defaults view bytes =
    HasView shape view bytes
    ⊎ ((g : IsToGrow shape defaults bytes) × (view ≡ seen_from shape (growths_in g.payloads ++ growing_at (length (frames g.payloads)) g.from (growth_payload shape g.values) g.values ∷ [])))

-- the place is illegal by the view that an opening had of the earlier file
abbrev pub IsIllegalOpened : Shape → Given → List ℕ → ℕ → List ℕ → Type 0
IsIllegalOpened shape defaults old place new = (view : View) × OpensView shape defaults view old × IsIllegalBy view place new
