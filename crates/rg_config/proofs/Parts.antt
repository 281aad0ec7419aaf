-- What is told of the bytes of a plan file, part by part.
use Rattle.std.proofs.Common.{◌≡◌, ◌⊎◌, inl, inr, sym, subst, ℕ, List, Option, Some, None, Result, Ok, Err}
use Rattle.std.specs.Prelude.{codes, option_and_then}
use Rattle.toml.specs.Data.{Data, Members, get_member}
use Rattle.rg_event.specs.Shapes.{Shape}
use Rattle.rg_event.specs.declared.schema.Field.{Field}
use Rattle.rg_event.specs.declared.value.Value.{Value}
use Rattle.rg_config.specs.Documents.{document, stream_table, stream_defaults, defaults_or, rest_of, Settings}
use Rattle.rg_config.specs.Plans.{planned, HasStream, HasPlan, Tells}
use Rattle.rg_config.specs.Reading.{ReadsDefaults, ReadsPlan, ReadsSchema, ReadsStream}
use Rattle.rg_config.specs.declared.fault.ConfigFault.{ConfigFault}
use Rattle.rg_config.specs.declared.fault.ConfigFault.TheVariants.{Toml, Settings as BadSettings, Memory}
use Rattle.rg_config.specs.declared.fault.SettingsFault.{SettingsFault}
use Rattle.rg_config.specs.declared.plan.Plan.{Plan}

-- The stream and the defaults of its columns

pub schema_refused : (top : Members) (fault : ConfigFault) → ReadsSchema top (Err fault) → ReadsStream top (Err fault)
schema_refused top fault (inl none) = inl none
schema_refused top fault (inr memory) = inr (inr memory)

module _ (top : Members) (shape : Shape) (fields : List Field) (said : Option Data) (same : fields ≡ shape.fields) (is : said ≡ option_and_then (get_member (codes "defaults")) (stream_table top)) where
  pub defaults_read : (defaults : List (Option Value)) → defaults_or fields said ≡ Ok defaults → stream_defaults shape.fields top ≡ Ok defaults
  defaults_read defaults read = rw (← same, ← is) read

  pub defaults_refused : (fault : ConfigFault) → HasStream top shape → ReadsDefaults (defaults_or fields said) (Err fault) → ReadsStream top (Err fault)
  defaults_refused fault has (inl (cause, refused, none)) = inr (inl (cause, refused, (shape, has, rw (← same, ← is) none)))
  defaults_refused fault has (inr memory) = inr (inr memory)

-- The bytes

pub table_tells : (bytes : List ℕ) (fault : ConfigFault) → ((fault ≡ Toml) × (document bytes ≡ None)) ⊎ (fault ≡ Memory) → Tells bytes (Err fault)
table_tells bytes fault (inl (is, none)) = subst (λ (f : ConfigFault). Tells bytes (Err f)) (sym is) none
table_tells bytes fault (inr memory) = subst (λ (f : ConfigFault). Tells bytes (Err f)) (sym memory) tt

module _ (bytes : List ℕ) (top : Members) (is : document bytes ≡ Some top) where
  pub stream_tells : (fault : ConfigFault) → ReadsStream top (Err fault) → Tells bytes (Err fault)
  stream_tells fault (inl (refused, none)) = subst (λ (f : ConfigFault). Tells bytes (Err f)) (sym refused) (record { top = top; document = is; none = none })
  stream_tells fault (inr (inl (cause, refused, (shape, has, none)))) =
      subst (λ (f : ConfigFault). Tells bytes (Err f)) (sym refused) (record { top = top; shape = shape; document = is; stream = has; none = none })
  stream_tells fault (inr (inr memory)) = subst (λ (f : ConfigFault). Tells bytes (Err f)) (sym memory) tt

  module _ (shape : Shape) (defaults : List (Option Value)) (has : HasStream top shape) (declared : stream_defaults shape.fields top ≡ Ok defaults) where
    pub rest_tells : (fault : ConfigFault) → ((cause : SettingsFault) × (fault ≡ BadSettings cause) × (rest_of top ≡ Err cause)) ⊎ (fault ≡ Memory) → Tells bytes (Err fault)
    rest_tells fault (inl (cause, refused, none)) =
        subst (λ (f : ConfigFault). Tells bytes (Err f)) (sym refused) (record { top = top; shape = shape; defaults = defaults; document = is; stream = has; declared = declared; none = none })
    rest_tells fault (inr memory) = subst (λ (f : ConfigFault). Tells bytes (Err f)) (sym memory) tt

    pub plan_tells : (texts : List (List ℕ)) (settings : Settings) (result : Result Plan ConfigFault) → rest_of top ≡ Ok (texts, settings) → ReadsPlan shape defaults texts settings result → Tells bytes result
    plan_tells texts settings (Ok plan) rest (all, same) =
        let made : HasPlan bytes (record { shape = shape; defaults = defaults; queries = (planned plan).queries; settings = settings }) =
        record { top = top; texts = texts; document = is; stream = has; defaults = declared; rest = rest; queries = all } in
        subst (HasPlan bytes) (sym same) made
    plan_tells texts settings (Err fault) rest (inl first) =
        subst (λ (f : ConfigFault). Tells bytes (Err f)) (sym first.is)
        (record { top = top; shape = shape; defaults = defaults; texts = texts; settings = settings; document = is; stream = has; declared = declared; rest = rest; first = first.first })
    plan_tells texts settings (Err fault) rest (inr memory) = subst (λ (f : ConfigFault). Tells bytes (Err f)) (sym memory) tt
