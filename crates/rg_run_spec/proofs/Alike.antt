-- What is accepted is not changed by what is asked.
use Rattle.std.proofs.Common.{◌≡◌, ℕ, zero, suc, ◌+◌, Bool, List, length, get_or, Option, None, refl, ap, sym, ◌∙◌}
use Rattle.rg_event.specs.declared.event.Event.{Event}
use Rattle.rg_event.specs.declared.schema.Field.{Field}
use Rattle.rg_event.specs.Rising.{next_offset}
use Rattle.rg_metric.specs.Queries.{Asked}
use Rattle.rg_run_spec.specs.Verdicts.{Basis}
use Rattle.rg_run_spec.specs.Accepted.{verdict_from, after_turn, events_before, events_after}
use Rattle.rg_run_spec.specs.Laws.{AcceptAlike}

abbrev made : List Field → List Asked → ℕ → Bool → ℕ → Basis
made fields queries most header grace = record { fields = fields; queries = queries; most = most; header = header; grace = grace }

module _ (queries : List Asked) (basis : Basis) (held : List Event) (first : ℕ) (lines : List (Option (List ℕ))) where
  else_before : (i : ℕ) → events_before (made basis.fields queries basis.most basis.header basis.grace) held first lines i ≡ events_before basis held first lines i
  else_before zero = refl
  else_before (suc i) = ap (λ es. after_turn es (verdict_from basis (next_offset held) es (first + i) (get_or lines i None))) (else_before i)

alike : (one two : Basis) → AcceptAlike one two → made one.fields two.queries one.most one.header one.grace ≡ two
alike one two same =
    ap (λ x. made x two.queries one.most one.header one.grace) same.fields
    ∙ ap (λ x. made two.fields two.queries x one.header one.grace) same.most
    ∙ ap (λ x. made two.fields two.queries two.most x one.grace) same.header
    ∙ ap (λ x. made two.fields two.queries two.most two.header x) same.grace

pub accepted_alike : (one two : Basis) (held : List Event) (first : ℕ) (lines : List (Option (List ℕ))) → AcceptAlike one two → events_after two held first lines ≡ events_after one held first lines
accepted_alike one two held first lines same =
    ap (λ (v : Basis). events_after v held first lines) (sym (alike one two same)) ∙ else_before two.queries one held first lines (length lines)
