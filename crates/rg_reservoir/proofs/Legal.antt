-- What a log that is whole by heads and growths isn't, and so what a legal one isn't.
use Rattle.std.proofs.Common.{◌≡◌, ◌∙◌, ◌⊎◌, inl, inr, ℕ, List, [], ◌∷◌, ◌++◌, length, Some, None, option_and_then, refl, sym, ap, subst, arith}
use Rattle.std.proofs.lemmas.List.{append-nil}
use Rattle.std.specs.Prelude.{slice_index}
use Rattle.rg_event.specs.Shapes.{Shape}
use Rattle.rg_event.specs.declared.event.Event.{Event}
use Rattle.rg_event.specs.declared.value.Value.{Value}
use Rattle.rg_growth.specs.Filling.{Given, filled}
use Rattle.rg_frame.specs.Frames.{frames, HasPayloads, payload_at}
use Rattle.rg_frame.specs.Looks.{IsClosed}
use Rattle.rg_frame.proofs.Laws.{payloads_one, payload_between}
use Rattle.rg_log.specs.declared.entry.LogSoFar.{LogSoFar}
use Rattle.rg_log.specs.declared.summary.LogSummary.{LogSummary}
use Rattle.rg_log.specs.Entries.{unread, behind, summary_of, entries_after}
use Rattle.rg_log.specs.Filled.{HasEventsFor}
use Rattle.rg_log.specs.Log.{HasEvents, HasFrame, IsInForce}
use Rattle.rg_log.specs.Stages.{logged, HasStages}
use Rattle.rg_log.proofs.Laws.{entries_append, says as all_say, legal as legal_says, says_in_force, in_force_of}
use Rattle.rg_reservoir.specs.Attached.{IsOther, IsForeign, IsToGrow}
use Rattle.rg_reservoir.specs.Heads.{IsOpenGate, IsBadFrame}
use Rattle.rg_reservoir.proofs.Chains.{some_none}
use Rattle.rg_reservoir.proofs.Committing.{log_at}
use Rattle.rg_reservoir.proofs.Listing.{list_goes_on}

open_closed : (place : ℕ) (bytes : List ℕ) → IsOpenGate place bytes → IsClosed place bytes → ⊥
open_closed place bytes gate (inl short) = omega (arith, gate.longer, short)
open_closed place bytes gate (inr other) = other (ap (λ (l : List ℕ). slice_index l 0) gate.is)

-- a log of which each frame may follow those before it has no bad frame
pub not_bad : (payloads : List (List ℕ)) (so_far : LogSoFar) (p : ℕ) (bytes : List ℕ) → HasPayloads payloads bytes → entries_after unread payloads ≡ Some so_far → IsBadFrame p bytes → ⊥
not_bad payloads so_far p bytes has say bad = by at.0 at.1
  where
    front : List (List ℕ)
    front = bad.passed.payloads

    at : (more : List (List ℕ)) × (payloads ≡ front ++ more)
    at = list_goes_on payloads front p bytes bad.passed.begins bad.passed.fit has

    by : (more : List (List ℕ)) → payloads ≡ front ++ more → ⊥
    by [] is =
        let all : payloads ≡ front = is ∙ append-nil front in
        let ends : has.frames.0 ≡ p = sym has.frames.1.ends ∙ ap (λ (l : List (List ℕ)). length (frames l)) all ∙ bad.passed.begins.ends in
        open_closed p bytes bad.gate (subst (λ (n : ℕ). IsClosed n bytes) ends (log_at payloads has.frames.0 bytes has.frames.1).closed)
    by (q ∷ more) is =
        let here = subst (λ (n : ℕ). payload_at n bytes ≡ Some q) bad.passed.begins.ends (payload_between front more q bytes (subst (λ (l : List (List ℕ)). HasPayloads l bytes) is has)) in
        let none : entries_after bad.so_far (q ∷ more) ≡ None = ap (option_and_then (λ (next : LogSoFar). entries_after next more)) (bad.bad q here) in
        some_none _ _ say (ap (entries_after unread) is ∙ entries_append unread front (q ∷ more) ∙ ap (option_and_then (λ (next : LogSoFar). entries_after next (q ∷ more))) bad.passed.say ∙ none)

-- nor is another schema in force at its end than the one that its frames say
pub not_other : (shape : Shape) (payloads : List (List ℕ)) (so_far : LogSoFar) (bytes : List ℕ) → HasPayloads payloads bytes → entries_after unread payloads ≡ Some so_far → (so_far.schema ≡ None) ⊎ (so_far.schema ≡ Some shape) → IsOther shape bytes → ⊥
not_other shape payloads so_far bytes has say known other = by known
  where
    said : Some other.other ≡ so_far.schema
    said =
        let e : Some (behind other.other other.summary) ≡ Some so_far = sym other.say ∙ ap (entries_after unread) (payloads_one other.payloads payloads bytes other.has has) ∙ say in
        let same : behind other.other other.summary ≡ so_far = cc in
        ap (λ (s : LogSoFar). s.schema) same

    by : (so_far.schema ≡ None) ⊎ (so_far.schema ≡ Some shape) → ⊥
    by (inl none) = some_none _ _ (sym said) none
    by (inr some) = other.differs (let e : Some other.other ≡ Some shape = said ∙ some in cc)

-- a log without a frame is whole
pub unframed : (shape : Shape) (bytes : List ℕ) → HasPayloads [] bytes → IsOther shape bytes ⊎ ((p : ℕ) × IsBadFrame p bytes) → ⊥
unframed shape bytes none (inl other) = not_other shape [] unread bytes none refl (inl refl) other
unframed shape bytes none (inr (p, bad)) = not_bad [] unread p bytes none refl bad

-- what the frames of a legal log say
pub record Says (shape : Shape) (events : List Event) (bytes : List ℕ) : Type 0 where
  pub payloads : List (List ℕ)
  pub has : HasPayloads payloads bytes
  pub so_far : LogSoFar
  pub say : entries_after unread payloads ≡ Some so_far
  pub schema : (so_far.schema ≡ None) ⊎ (so_far.schema ≡ Some shape)

pub says : (shape : Shape) (events : List Event) (bytes : List ℕ) → HasEvents shape events bytes → Says shape events bytes
says shape events bytes x = by x.1.payloads x.1.has x.1.log
  where
    by : (payloads : List (List ℕ)) → HasPayloads payloads bytes → HasStages shape payloads x.0 → Says shape events bytes
    by [] has log = record { payloads = []; has = has; so_far = unread; say = refl; schema = inl refl }
    by (p ∷ payloads) has log = record { payloads = p ∷ payloads; has = has; so_far = behind shape (summary_of (logged x.0)); say = legal_says shape (p ∷ payloads) x.0 log (omega arith) x.1.rising x.1.few; schema = inr refl }

-- a legal log has no bad frame
pub legal_not_bad : (shape : Shape) (events : List Event) (p : ℕ) (bytes : List ℕ) → HasEvents shape events bytes → IsBadFrame p bytes → ⊥
legal_not_bad shape events p bytes x bad = let s = says shape events bytes x in not_bad s.payloads s.so_far p bytes s.has s.say bad

-- and no other schema is in force at its end
pub legal_not_other : (shape : Shape) (events : List Event) (bytes : List ℕ) → HasEvents shape events bytes → IsOther shape bytes → ⊥
legal_not_other shape events bytes x other = let s = says shape events bytes x in not_other shape s.payloads s.so_far bytes s.has s.say s.schema other

-- a log with another schema in force at its end has no bad frame
pub other_not_bad : (shape : Shape) (p : ℕ) (bytes : List ℕ) → IsOther shape bytes → IsBadFrame p bytes → ⊥
other_not_bad shape p bytes other bad = not_bad other.payloads (behind other.other other.summary) p bytes other.has other.say bad

-- where another schema is in force behind all frames, the log is another's
pub is_other : (shape : Shape) (start : List ℕ) (payloads : List (List ℕ)) (last : LogSoFar) (bytes : List ℕ) → HasPayloads (start ∷ payloads) bytes → entries_after unread (start ∷ payloads) ≡ Some last → (last.schema ≡ Some shape → ⊥) → IsOther shape bytes
is_other shape start payloads last bytes has say differs =
    let l = all_say start payloads last say in
    record {
      other = l.shape;
      legal = l.legal;
      payloads = start ∷ payloads;
      has = has;
      summary = last.summary;
      say = say ∙ ap (λ (s : LogSoFar). Some s) l.is;
      differs = λ same. differs (ap (λ (s : LogSoFar). s.schema) l.is ∙ ap (λ (s : Shape). Some s) same);
    }

-- Logs whose schema may grow to that one by its defaults.

-- the schema in force at the end of a file is the one that its frames say
pub said_in_force : (from other : Shape) (payloads : List (List ℕ)) (summary : LogSummary) (bytes : List ℕ) → HasPayloads payloads bytes → entries_after unread payloads ≡ Some (behind from summary) → IsInForce other bytes → other ≡ from
said_in_force from other payloads summary bytes has say framed =
    let same : payloads ≡ framed.0 ∷ framed.1 = payloads_one payloads (framed.0 ∷ framed.1) bytes has framed.3 in
    let e : Some from ≡ Some other = says_in_force other (framed.0 ∷ framed.1) framed.2 (behind from summary) framed.4 (omega arith) (ap (entries_after unread) (sym same) ∙ say) in
    cc

-- and they say one
one_said : (shape other : Shape) (payloads others : List (List ℕ)) (summary last : LogSummary) (bytes : List ℕ) → HasPayloads payloads bytes → HasPayloads others bytes → entries_after unread payloads ≡ Some (behind shape summary) → entries_after unread others ≡ Some (behind other last) → shape ≡ other
one_said shape other payloads others summary last bytes has also say said =
    let e : Some (behind shape summary) ≡ Some (behind other last) = sym say ∙ ap (entries_after unread) (payloads_one payloads others bytes has also) ∙ said in
    let same : behind shape summary ≡ behind other last = cc in
    let f : Some shape ≡ Some other = ap (λ (s : LogSoFar). s.schema) same in
    cc

-- a schema that grows to that one by these defaults isn't one that doesn't
pub grows_not : (from other shape : Shape) (defaults : Given) (values : List Value) → from ≡ other → filled from shape defaults ≡ Some values → filled other shape defaults ≡ None → ⊥
grows_not from other shape defaults values same is none = some_none _ _ (ap (λ (s : Shape). filled s shape defaults) (sym same) ∙ is) none

-- a foreign log is another's
pub other_for : (shape : Shape) (defaults : Given) (bytes : List ℕ) → IsForeign shape defaults bytes ⊎ ((p : ℕ) × IsBadFrame p bytes) → IsOther shape bytes ⊎ ((p : ℕ) × IsBadFrame p bytes)
other_for shape defaults bytes (inl foreign) = inl foreign.is
other_for shape defaults bytes (inr bad) = inr bad

pub unframed_for : (shape : Shape) (defaults : Given) (bytes : List ℕ) → HasPayloads [] bytes → IsForeign shape defaults bytes ⊎ ((p : ℕ) × IsBadFrame p bytes) → ⊥
unframed_for shape defaults bytes none why = unframed shape bytes none (other_for shape defaults bytes why)

-- where another schema is in force behind all frames, which doesn't grow to that one, the log is foreign
pub is_foreign : (shape : Shape) (defaults : Given) (start : List ℕ) (payloads : List (List ℕ)) (last : LogSoFar) (bytes : List ℕ) → HasPayloads (start ∷ payloads) bytes → entries_after unread (start ∷ payloads) ≡ Some last → (last.schema ≡ Some shape → ⊥)
    → ((from : Shape) → last.schema ≡ Some from → filled from shape defaults ≡ None) → IsForeign shape defaults bytes
is_foreign shape defaults start payloads last bytes has say differs none =
    let other = is_other shape start payloads last bytes has say differs in
    let e : Some last ≡ Some (behind other.other other.summary) = sym say ∙ ap (entries_after unread) (payloads_one (start ∷ payloads) other.payloads bytes has other.has) ∙ other.say in
    let same : last ≡ behind other.other other.summary = cc in
    record { is = other; cannot = none other.other (ap (λ (s : LogSoFar). s.schema) same) }

-- a log that grows to a schema has a frame
framed_by : (from : Shape) (payloads : List (List ℕ)) (summary : LogSummary) (bytes : List ℕ) → HasPayloads payloads bytes → entries_after unread payloads ≡ Some (behind from summary) → HasFrame bytes
framed_by from [] summary bytes has say =
    let e : Some unread ≡ Some (behind from summary) = say in
    let same : unread ≡ behind from summary = cc in
    absurd (let f : None ≡ Some from = ap (λ (s : LogSoFar). s.schema) same in cc)
framed_by from (p ∷ payloads) summary bytes has say = (p, payloads, has)

pub to_grow_framed : (shape : Shape) (defaults : Given) (bytes : List ℕ) → IsToGrow shape defaults bytes → HasFrame bytes
to_grow_framed shape defaults bytes g = framed_by g.from g.payloads g.summary bytes g.has g.say

-- and the schema that grows is the one in force at its end
pub in_force_by : (shape : Shape) (defaults : Given) (other : Shape) (bytes : List ℕ) (g : IsToGrow shape defaults bytes) → IsInForce other bytes → other ≡ g.from
in_force_by shape defaults other bytes g framed = said_in_force g.from other g.payloads g.summary bytes g.has g.say framed

pub to_grow_in_force : (shape : Shape) (defaults : Given) (events : List Event) (bytes : List ℕ) (g : IsToGrow shape defaults bytes) → HasEventsFor shape defaults events bytes → IsInForce g.from bytes
to_grow_in_force shape defaults events bytes g (inl has) =
    let framed : IsInForce shape bytes = in_force_of payloads_one shape events bytes (to_grow_framed shape defaults bytes g) has in
    subst (λ (s : Shape). IsInForce s bytes) (in_force_by shape defaults shape bytes g framed) framed
to_grow_in_force shape defaults events bytes g (inr has) = subst (λ (s : Shape). IsInForce s bytes) (in_force_by shape defaults has.from bytes g has.framed) has.framed

-- it is neither foreign nor bad
pub not_to_grow : (shape : Shape) (defaults : Given) (bytes : List ℕ) → IsToGrow shape defaults bytes → IsForeign shape defaults bytes ⊎ ((p : ℕ) × IsBadFrame p bytes) → ⊥
not_to_grow shape defaults bytes g (inl foreign) =
    let other = foreign.is in
    grows_not g.from other.other shape defaults g.values (one_said g.from other.other g.payloads other.payloads g.summary other.summary bytes g.has other.has g.say other.say) g.fills.filled_is foreign.cannot
not_to_grow shape defaults bytes g (inr (p, bad)) = not_bad g.payloads (behind g.from g.summary) p bytes g.has g.say bad

-- nor is a log that has events for the schema
pub foreign_not_for : (shape : Shape) (defaults : Given) (events : List Event) (bytes : List ℕ) → HasEventsFor shape defaults events bytes → IsForeign shape defaults bytes → ⊥
foreign_not_for shape defaults events bytes (inl has) foreign = legal_not_other shape events bytes has foreign.is
foreign_not_for shape defaults events bytes (inr has) foreign =
    let other = foreign.is in
    grows_not has.from other.other shape defaults has.values (said_in_force other.other has.from other.payloads other.summary bytes other.has other.say has.framed) has.fills.filled_is foreign.cannot

pub for_not_bad : (shape : Shape) (defaults : Given) (events : List Event) (p : ℕ) (bytes : List ℕ) → HasEventsFor shape defaults events bytes → IsBadFrame p bytes → ⊥
for_not_bad shape defaults events p bytes (inl has) bad = legal_not_bad shape events p bytes has bad
for_not_bad shape defaults events p bytes (inr has) bad = legal_not_bad has.from has.own p bytes has.has bad
