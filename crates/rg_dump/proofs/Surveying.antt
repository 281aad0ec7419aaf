-- How far a survey of a log has come.
use Rattle.std.proofs.Common.{◌≡◌, ◌∙◌, inl, inr, ℕ, List, [], ◌∷◌, ◌++◌, Option, Some, None, refl, sym, ap}
use Rattle.std.proofs.lemmas.List.{append-nil}
use Rattle.rg_event.specs.Shapes.{Shape}
use Rattle.rg_event.specs.declared.value.Value.{Value}
use Rattle.rg_log.specs.Entries.{nothing}
use Rattle.rg_reservoir.specs.Walked.{place_of, schema_of as known_of, tally_of, IsNext}
use Rattle.rg_reservoir.specs.declared.walk.Stage.{Stage}
use Rattle.rg_reservoir.specs.declared.walk.Stage.TheVariants as stage
use Rattle.rg_reservoir.specs.declared.walk.Walk.{Walk}
use Rattle.rg_dump.specs.Behind.{known_after, known_behind, stage_values, values_of}
use Rattle.rg_dump.specs.Surveyed.{survey_of, survey_in, with_stage, IsLast}
use Rattle.rg_dump.specs.declared.survey.Survey.{Survey}
use Rattle.rg_dump.proofs.Behind.{known_push, values_push}
use Rattle.rg_dump.proofs.Walking.{IsAt, at_start, at_next, at_end, at_damage}

abbrev said : Option Shape → List Value → Survey
said schema values = record { schema = schema; values = values }

stage_said : (survey : Survey) (s : Stage) → with_stage survey s ≡ said (known_after survey.schema s) (survey.values ++ stage_values s)
stage_said survey (stage.Schema shape) = ap (said (Some shape)) (sym (append-nil survey.values))
stage_said survey (stage.Chunk events) = ap (said survey.schema) (sym (append-nil survey.values))
stage_said survey (stage.Growth shape values) = refl

survey_push : (stages : List Stage) (s : Stage) → with_stage (survey_of stages) s ≡ survey_of (stages ++ s ∷ [])
survey_push stages s =
    stage_said (survey_of stages) s ∙ ap (λ (o : Option Shape). said o (values_of stages ++ stage_values s)) (sym (known_push None stages s))
    ∙ ap (said (known_behind None (stages ++ s ∷ []))) (sym (values_push stages s))

-- the walk has passed these frames, and this is their survey
pub record IsSurveyed (bytes : List ℕ) (walk : Walk) (survey : Survey) : Type 0 where
  pub stages : List Stage
  pub at : IsAt bytes walk stages
  pub is : survey ≡ survey_of stages

pub survey_start : (bytes : List ℕ) (walk : Walk) (survey : Survey) → place_of walk ≡ 0 → known_of walk ≡ None → tally_of walk ≡ nothing → survey ≡ survey_of [] → IsSurveyed bytes walk survey
survey_start bytes walk survey place schema tally is = record { stages = []; at = at_start bytes walk place schema tally; is = is }

pub survey_next : (bytes : List ℕ) (old new : Walk) (survey : Survey) (s : Stage) → IsSurveyed bytes old survey → IsNext bytes old s new → IsSurveyed bytes new (with_stage survey s)
survey_next bytes old new survey s so_far next = record {
  stages = so_far.stages ++ s ∷ [];
  at = at_next bytes s old new so_far.stages so_far.at next;
  is = ap (λ (a : Survey). with_stage a s) so_far.is ∙ survey_push so_far.stages s;
}

-- where the log ends or is damaged it is that of the file
pub survey_end : (bytes : List ℕ) (walk : Walk) (survey : Survey) → IsSurveyed bytes walk survey → IsLast bytes walk → survey ≡ survey_in bytes
survey_end bytes walk survey so_far (inl closed) = so_far.is ∙ ap survey_of (sym (at_end bytes walk so_far.stages so_far.at closed).0)
survey_end bytes walk survey so_far (inr refused) = so_far.is ∙ ap survey_of (sym (at_damage bytes walk so_far.stages so_far.at refused).0)
