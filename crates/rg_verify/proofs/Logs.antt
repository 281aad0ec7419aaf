-- A legal log: its events, and that they serve a plan.
use Rattle.std.proofs.Common.{◌≡◌, inl, inr, ℕ, zero, suc, ◌≤◌, List, [], ◌∷◌, length, take, None, arith}
use Rattle.std.specs.Prelude.{All}
use Rattle.std.proofs.lemmas.List.Elements.{All-nil, All-cons, All-head, All-tail}
use Rattle.rg_event.specs.Codec.{IsEventOf}
use Rattle.rg_event.specs.Shapes.{Shape}
use Rattle.rg_event.specs.declared.event.Event.{Event}
use Rattle.rg_frame.specs.Frames.{HasPayloads}
use Rattle.rg_growth.specs.Filling.{Given}
use Rattle.rg_host.specs.Image.{Image}
use Rattle.rg_log.specs.Filled.{HasEventsFor}
use Rattle.rg_log.specs.Log.{HasEvents}
use Rattle.rg_log.proofs.Laws.{of_for, few_for}
use Rattle.rg_plan.specs.Plans.{Tasks}
use Rattle.rg_dump.specs.Dump.{damage_of}
use Rattle.rg_dump.proofs.Laws.{legal_read}
use Rattle.rg_row_audit.specs.Rows.{AreServed}
use Rattle.rg_verify.specs.Payments.{payments_in}
use Rattle.rg_verify.specs.Verdicts.{Terms}
use Rattle.rg_verify.specs.Verify.{IsVerifiable}

-- its events are those that are read
pub payments_are : (shape : Shape) (events : List Event) (bytes : List ℕ) → HasEvents shape events bytes → payments_in bytes ≡ events
payments_are shape events bytes has = (legal_read shape bytes events has).0

-- for a schema and its defaults: nothing of it is damaged, and it has a frame list
module _ (shape : Shape) (defaults : Given) (events : List Event) (bytes : List ℕ) where
  pub undamaged : HasEventsFor shape defaults events bytes → damage_of bytes ≡ None
  undamaged (inl own) = (legal_read shape bytes events own).1
  undamaged (inr filled) = (legal_read filled.from bytes filled.own filled.has).1

  pub frames_of : HasEventsFor shape defaults events bytes → (payloads : List (List ℕ)) × HasPayloads payloads bytes
  frames_of (inl own) = (own.1.payloads, own.1.has)
  frames_of (inr filled) = (filled.has.1.payloads, filled.has.1.has)

-- its events are of these columns, and few
pub served : (terms : Terms) (defaults : Given) (v : Image) (events : List Event) → IsVerifiable terms defaults v events → AreServed terms.tasks events
served terms defaults v events is = record {
  fed = record {
    fields = terms.shape.fields;
    serves = is.serves;
    are = of_for terms.shape defaults events (v 2) is.has;
  };
  few = few_for terms.shape defaults events (v 2) is.has;
}

All-take : (P : Event → Type 0) (n : ℕ) (events : List Event) → All P events → All P (take n events)
All-take P zero events all = All-nil P
All-take P (suc n) [] all = All-nil P
All-take P (suc n) (x ∷ events) all = All-cons P x (take n events) (All-head P x events all) (All-take P n events (All-tail P x events all))

take_few : (n : ℕ) (events : List Event) → length (take n events) ≤ length events
take_few zero events = omega arith
take_few (suc n) [] = omega arith
take_few (suc n) (x ∷ events) = let h = take_few n events in omega (arith, h)

-- and so are the first of them
pub served_first : (tasks : Tasks) (n : ℕ) (events : List Event) → AreServed tasks events → AreServed tasks (take n events)
served_first tasks n events all = record {
  fed = record { fields = all.fed.fields; serves = all.fed.serves; are = All-take (IsEventOf all.fed.fields) n events all.fed.are };
  few = omega (arith, take_few n events, all.few);
}
