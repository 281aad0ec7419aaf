-- How a log is read, frame by frame.
use Rattle.std.proofs.Common.{◌≡◌, ◌∙◌, inl, inr, ℕ, zero, suc, ◌+◌, ◌≤◌, ◌<◌, ◌==◌, ◌&&◌, nat_le, nat_lt, Bool, true, false, List, [], ◌∷◌, length, take, drop, Option, Some, None, refl, sym, ap, arith, length-drop, if◌then◌else◌}
use Rattle.std.proofs.lemmas.Bool.{and_parts, eqb-true, leb-true, ltb-true, lt-ltb}
use Rattle.std.specs.Prelude.{slice_index}
use Rattle.rg_frame.specs.FrameList.{is_open}
use Rattle.rg_frame.specs.Frames.{size_in, payload_in, payload_at}
use Rattle.rg_frame.specs.Looks.{IsClosed}
use Rattle.rg_reservoir.specs.Heads.{IsOpenGate}
use Rattle.rg_log.specs.declared.entry.LogSoFar.{LogSoFar}
use Rattle.rg_reservoir.specs.Walked.{place_of, so_far_of, IsNext, IsRefusedWalk}
use Rattle.rg_reservoir.specs.declared.walk.Stage.{Stage}
use Rattle.rg_reservoir.specs.declared.walk.Walk.{Walk}
use Rattle.rg_dump.specs.Stages.{Stages, is_open_at, before, with_frame, with_payload, stages_from}

pub some_none : {A : Type 0} (o : Option A) (x : A) → o ≡ Some x → o ≡ None → ⊥
some_none o x is none = absurd (let e : Some x ≡ None = sym is ∙ none in cc)

-- a gate that is open

open_in : (rest : List ℕ) (p : List ℕ) → payload_in rest ≡ Some p → (is_open rest ≡ true) × (10 ≤ length rest)
open_in [] p is = absurd cc
open_in (gate ∷ rest) p is = by (gate == 1 && nat_le (9 + size_in rest) (length rest)) refl
  where
    by : (b : Bool) → (gate == 1 && nat_le (9 + size_in rest) (length rest)) ≡ b → ((gate == 1) ≡ true) × (10 ≤ length (gate ∷ rest))
    by true t = let f = and_parts (gate == 1) (nat_le (9 + size_in rest) (length rest)) t in (f.0, omega (arith, leb-true (9 + size_in rest) (length rest) f.1))
    by false f = absurd (let e : None ≡ Some p = sym (ap (λ (b : Bool). if b then Some (take (size_in rest) (drop 8 rest)) else None) f) ∙ is in cc)

pub payload_open : (place : ℕ) (bytes p : List ℕ) → payload_at place bytes ≡ Some p → (is_open_at place bytes ≡ true) × (place < length bytes)
payload_open place bytes p is =
    let o = open_in (drop place bytes) p is in
    let more : 1 < length bytes = omega (arith, o.1, length-drop place bytes) in
    (rw (lt-ltb 1 (length bytes) more, o.0) refl, omega (arith, o.1, length-drop place bytes))

gate_in : (rest : List ℕ) (p : List ℕ) → payload_in rest ≡ Some p → (behind : List ℕ) × (rest ≡ 1 ∷ behind)
gate_in [] p is = absurd cc
gate_in (gate ∷ rest) p is = (rest, ap (λ (n : ℕ). n ∷ rest) (eqb-true gate 1 (open_in (gate ∷ rest) p is).0))

pub payload_gate : (place : ℕ) (bytes p : List ℕ) → payload_at place bytes ≡ Some p → IsOpenGate place bytes
payload_gate place bytes p is =
    let g = gate_in (drop place bytes) p is in
    record { rest = g.0; is = g.1; longer = omega (arith, (open_in (drop place bytes) p is).1, length-drop place bytes) }

pub gate_open : (place : ℕ) (bytes : List ℕ) → IsOpenGate place bytes → (is_open_at place bytes ≡ true) × (place < length bytes)
gate_open place bytes gate = (rw (lt-ltb 1 (length bytes) gate.longer, gate.is) refl, omega (arith, ap length gate.is, length-drop place bytes))

not_open : (rest : List ℕ) → (slice_index rest 0 ≡ 1 → ⊥) → is_open rest ≡ false
not_open [] closed = refl
not_open (gate ∷ rest) closed = by (gate == 1) refl
  where
    by : (b : Bool) → (gate == 1) ≡ b → (gate == 1) ≡ false
    by true t = absurd (closed (eqb-true gate 1 t))
    by false f = f

and_false : (b : Bool) → (b && false) ≡ false
and_false true = refl
and_false false = refl

pub gate_closed : (place : ℕ) (bytes : List ℕ) → IsClosed place bytes → is_open_at place bytes ≡ false
gate_closed place bytes (inl small) = by (nat_lt 1 (length bytes)) refl
  where
    by : (b : Bool) → nat_lt 1 (length bytes) ≡ b → (nat_lt 1 (length bytes) && is_open (drop place bytes)) ≡ false
    by true t = absurd (omega (arith, small, ltb-true 1 (length bytes) t))
    by false f = rw f refl
gate_closed place bytes (inr closed) = rw (not_open (drop place bytes) closed) (and_false (nat_lt 1 (length bytes)))

-- what is read of a log

abbrev pub nothing_more : Option ℕ → Stages
nothing_more damage = record { stages = []; damage = damage }

-- at a closed gate
pub reads_end : (most place : ℕ) (so_far : LogSoFar) (bytes : List ℕ) → IsClosed place bytes → stages_from most place so_far bytes ≡ nothing_more None
unfolding stages_from
reads_end zero place so_far bytes closed = refl
reads_end (suc most) place so_far bytes closed = rw (gate_closed place bytes closed) refl

-- at a frame that the walk refuses
pub reads_damage : (most : ℕ) (walk : Walk) (bytes : List ℕ) → length bytes ≤ place_of walk + most → IsRefusedWalk bytes walk → stages_from most (place_of walk) (so_far_of walk) bytes ≡ nothing_more (Some (place_of walk))
unfolding stages_from
reads_damage zero walk bytes enough refused = absurd (omega (arith, enough, (gate_open (place_of walk) bytes refused.gate).1))
reads_damage (suc most) walk bytes enough refused = rw (gate_open (place_of walk) bytes refused.gate).0 (by (payload_at (place_of walk) bytes) refl)
  where
    behind : ℕ → LogSoFar → Stages
    behind next said = stages_from most next said bytes

    by : (o : Option (List ℕ)) → payload_at (place_of walk) bytes ≡ o → with_payload (place_of walk) (so_far_of walk) o behind ≡ nothing_more (Some (place_of walk))
    by None here = refl
    by (Some payload) here = ap (λ (o : Option (Stage × LogSoFar)). with_frame (place_of walk) o (behind (place_of walk + 9 + length payload))) (refused.untaken payload here)

-- a frame that the walk took, and then what is read behind it
pub record Behind (most : ℕ) (s : Stage) (old new : Walk) (bytes : List ℕ) : Type 0 where
  pub fewer : ℕ
  pub enough : length bytes ≤ place_of new + fewer
  pub is : stages_from most (place_of old) (so_far_of old) bytes ≡ before s (stages_from fewer (place_of new) (so_far_of new) bytes)

pub reads_frame : (most : ℕ) (s : Stage) (old new : Walk) (bytes : List ℕ) → length bytes ≤ place_of old + most → IsNext bytes old s new → Behind most s old new bytes
unfolding stages_from
reads_frame zero s old new bytes enough next = absurd (omega (arith, enough, (payload_open (place_of old) bytes next.0 next.1).1))
reads_frame (suc most) s old new bytes enough next =
    record {
      fewer = most;
      enough = omega (arith, enough, next.2.1);
      is = rw ((payload_open (place_of old) bytes next.0 next.1).0, next.1)
          (ap (λ (o : Option (Stage × LogSoFar)). with_frame (place_of old) o (λ (said : LogSoFar). stages_from most (place_of old + 9 + length next.0) said bytes)) next.2.0
          ∙ ap (λ (n : ℕ). before s (stages_from most n (so_far_of new) bytes)) (sym next.2.1));
    }
