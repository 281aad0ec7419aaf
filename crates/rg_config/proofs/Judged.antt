-- How a text is judged that was read.
use Rattle.std.proofs.Common.{◌≡◌, ◌⊎◌, inl, inr, ℕ, ◌<◌, List, Some, None, Ok, Err, refl, ap}
use Rattle.rg_event.specs.Shapes.{Shape}
use Rattle.rg_metric.specs.Queries.{Asked}
use Rattle.rg_query.specs.Saying as saying
use Rattle.rg_query.specs.declared.fault.QueryFault.{QueryFault}
use Rattle.rg_query.specs.declared.fault.QueryFault.TheVariants as query
use Rattle.rg_config.specs.Plans.{IsTaken, IsRefusedQuery, excess_in, unless}
use Rattle.rg_config.specs.Reading.{RefusesText}
use Rattle.rg_config.specs.declared.fault.ConfigFault.{ConfigFault}
use Rattle.rg_config.specs.declared.fault.ConfigFault.TheVariants.{Query, Memory}
use Rattle.rg_config.specs.declared.fault.QueryRefusal.{QueryRefusal}
use Rattle.rg_config.specs.declared.fault.QueryRefusal.TheVariants.{Text}

module _ (number : ℕ) (shape : Shape) (text : List ℕ) (few : number < 64) where
  pub taken : (q : Asked) → saying.Says shape text (Ok q) → excess_in q ≡ None → IsTaken number shape text q
  taken q says none = record { few = few; read = Ok q; says = says; is = ap (unless q) none }

  pub too_large : (q : Asked) (refusal : QueryRefusal) → saying.Says shape text (Ok q) → excess_in q ≡ Some refusal → IsRefusedQuery number shape text refusal
  too_large q refusal says some = inr (record { few = few; read = Ok q; says = says; is = ap (unless q) some })

  said : (fault : QueryFault) → (fault ≡ query.Memory → ⊥) → saying.Tells shape text (Err fault) → saying.Says shape text (Err fault)
  said (query.Syntax place) other tells = tells
  said (query.UnknownName place) other tells = tells
  said (query.WrongKind place) other tells = tells
  said (query.BadSpan place) other tells = tells
  said query.TooLarge other tells = tells
  said query.Memory other tells = absurd (other refl)

  pub unread : (fault : QueryFault) (refusal : ConfigFault) → saying.Tells shape text (Err fault) → RefusesText number fault refusal → ((cause : QueryRefusal) × (refusal ≡ Query number cause) × IsRefusedQuery number shape text cause) ⊎ (refusal ≡ Memory)
  unread fault refusal tells (inl refused) = inl (Text fault, refused.0, inr (record { few = few; read = Err fault; says = said fault refused.1 tells; is = refl }))
  unread fault refusal tells (inr memory) = inr memory
