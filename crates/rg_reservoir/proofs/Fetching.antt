-- What stands at a place, by what was read there.
use Rattle.std.proofs.Common.{◌≡◌, ◌∙◌, ℕ, ◌+◌, ◌^◌, ◌<◌, List, ◌++◌, length, Option, Some, None, option_map, option_and_then, refl, sym, ap, subst, inl, inr, slice_index, arith, length-append, length-drop}
use Rattle.rg_event.specs.declared.event.Event.{Event}
use Rattle.rg_event.specs.declared.schema.Field.{Field}
use Rattle.rg_frame.specs.Frames.{body, payload_at}
use Rattle.rg_frame.specs.Looks.{IsTorn, IsClosed, HoldsFrame}
use Rattle.rg_frame.proofs.Laws.{holds_payload, torn_payload, closed_payload}
use Rattle.rg_chunk.specs.Chunks.{chunk_of}
use Rattle.rg_reservoir.specs.Chain.{chunk_in, chunk_at, IsIllegal, IsIllegalBy}
use Rattle.rg_reservoir.specs.Views.{View, shape_at, grown_at, passed}
use Rattle.rg_reservoir.proofs.Chains.{some_none}
use Rattle.rg_reservoir.proofs.Viewing.{parts}

abbrev with_next : ℕ → Option (List Event) → Option (List Event × ℕ)
with_next next said = option_map (λ (events : List Event). (events, next)) said

-- what is read of a payload, with the place behind it
by_next : (view : View) (place next : ℕ) (said : Option (List Event)) → option_map (λ (events : List Event). (grown_at view.growths place events, next)) said ≡ with_next next (option_map (grown_at view.growths place) said)
by_next view place next None = refl
by_next view place next (Some events) = refl

pub fetch_some :
    (view : View) (place next : ℕ) (payload bytes : List ℕ) (chunk : List Event) → HoldsFrame place payload bytes → next < 2 ^ 62 → next ≡ place + 9 + length payload → option_map (grown_at view.growths place) (chunk_of (shape_at view place).fields payload) ≡ Some chunk
    → chunk_at view place bytes ≡ Some (chunk, passed view.growths next)
fetch_some view place next payload bytes chunk holds small is said =
    ap (chunk_in view place) (holds_payload place payload bytes holds (omega (arith, small, is))) ∙ by_next view place (passed view.growths (place + 9 + length payload)) (chunk_of (shape_at view place).fields payload)
    ∙ ap (with_next (passed view.growths (place + 9 + length payload))) said ∙ ap (λ (n : ℕ). Some (chunk, passed view.growths n)) (sym is)

pub fetch_none : (view : View) (place : ℕ) (bytes : List ℕ) → IsClosed place bytes → chunk_at view place bytes ≡ None
fetch_none view place bytes closed = ap (chunk_in view place) (closed_payload place bytes closed)

pub fetch_torn : (fields : List Field) (place : ℕ) (bytes : List ℕ) → IsTorn place bytes → IsIllegal fields place bytes
fetch_torn fields place bytes torn = record { rest = torn.rest; is = torn.is; longer = torn.longer; none = ap (option_and_then (chunk_of fields)) (torn_payload place bytes torn) }

not_grown : (view : View) (place : ℕ) (said : Option (List Event)) → option_map (grown_at view.growths place) said ≡ None → said ≡ None
not_grown view place None none = refl
not_grown view place (Some events) none = absurd cc

pub fetch_bad :
    (view : View) (place next : ℕ) (payload bytes : List ℕ) → HoldsFrame place payload bytes → next < 2 ^ 62 → next ≡ place + 9 + length payload → option_map (grown_at view.growths place) (chunk_of (shape_at view place).fields payload) ≡ None
    → IsIllegalBy view place bytes
fetch_bad view place next payload bytes holds small is said = record {
  rest = body payload ++ holds.rest;
  is = holds.is;
  longer = omega (arith, ap length holds.is, length-drop place bytes, length-append (body payload) holds.rest, holds.more);
  none = ap (option_and_then (chunk_of (shape_at view place).fields)) (holds_payload place payload bytes holds (omega (arith, small, is))) ∙ not_grown view place (chunk_of (shape_at view place).fields payload) said;
}

-- at a place where a chunk stands, and at one without an open gate, nothing is illegal

pub chunk_legal : (view : View) (place next : ℕ) (chunk : List Event) (bytes : List ℕ) → chunk_at view place bytes ≡ Some (chunk, next) → IsIllegalBy view place bytes → ⊥
chunk_legal view place next chunk bytes here bad =
    let k = parts view place (payload_at place bytes) chunk next here in
    some_none (option_and_then (chunk_of (shape_at view place).fields) (payload_at place bytes)) k.events (ap (option_and_then (chunk_of (shape_at view place).fields)) k.here ∙ k.says) bad.none

pub closed_legal : (fields : List Field) (place : ℕ) (bytes : List ℕ) → IsClosed place bytes → IsIllegal fields place bytes → ⊥
closed_legal fields place bytes (inl short) bad = omega (arith, short, bad.longer)
closed_legal fields place bytes (inr other) bad = other (ap (λ (l : List ℕ). slice_index l 0) bad.is)

-- a place where a chunk stands isn't damaged
pub never_illegal : (view : View) (place next p : ℕ) (chunk : List Event) (bytes : List ℕ) → chunk_at view place bytes ≡ Some (chunk, next) → p ≡ place → IsIllegalBy view p bytes → ⊥
never_illegal view place next p chunk bytes here at bad = chunk_legal view place next chunk bytes here (subst (λ (q : ℕ). IsIllegalBy view q bytes) at bad)
