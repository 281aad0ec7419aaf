-- A log that is read whole without damage has no frame that heads and growths alone show to be bad.
use Rattle.std.proofs.Common.{◌≡◌, ◌∙◌, ℕ, ◌+◌, ◌<◌, List, [], ◌∷◌, ◌++◌, length, drop, All, Option, Some, None, refl, sym, ap, subst, arith, append_assoc, length-append, length-drop}
use Rattle.std.specs.Prelude.{option_and_then}
use Rattle.std.proofs.lemmas.List.{drop_at}
use Rattle.std.proofs.lemmas.List.Elements.{All-head, All-tail}
use Rattle.rg_frame.specs.Frames.{body, frames, FitsFrame, payload_in, payload_at}
use Rattle.rg_frame.proofs.Laws.{length-body, payload_in-frame}
use Rattle.rg_log.specs.Entries.{unread, entry_after, entries_after, with_entry, entry_of}
use Rattle.rg_log.specs.declared.entry.Entry.{Entry}
use Rattle.rg_log.specs.declared.entry.LogSoFar.{LogSoFar}
use Rattle.rg_reservoir.specs.Heads.{IsOpenGate, IsBadFrame}
use Rattle.rg_reservoir.specs.Walked.{stage_by, with_both, stage_after, IsNext, IsRefusedWalk}
use Rattle.rg_reservoir.specs.declared.walk.Stage.{Stage}
use Rattle.rg_reservoir.specs.declared.walk.Walk.{Walk}
use Rattle.rg_dump.specs.Dump.{damage_of}
use Rattle.rg_dump.proofs.Laws.{IsAt, at_damage, at_next, at_start}

-- a step that is read whole is one by heads, and where there is none by heads there is none

both_next : (a : Option Stage) (b : Option LogSoFar) (s : Stage) (new : LogSoFar) → with_both a b ≡ Some (s, new) → b ≡ Some new
both_next None b s new is = absurd cc
both_next (Some a) None s new is = absurd cc
both_next (Some a) (Some b) s new is = let e : (a, b) ≡ (s, new) = cc in ap (λ (pair : Stage × LogSoFar). Some pair.1) e

both_none : (a : Option Stage) (b : Option LogSoFar) → b ≡ None → with_both a b ≡ None
both_none None b none = refl
both_none (Some a) None none = refl
both_none (Some a) (Some b) none = absurd cc

module _ (so_far : LogSoFar) (payload : List ℕ) where
  abbrev whole_by : Option Entry → Option (Stage × LogSoFar)
  whole_by found = option_and_then (λ (e : Entry). with_both (stage_by so_far.schema payload e) (with_entry so_far e)) found

  step_next : (s : Stage) (new : LogSoFar) → stage_after so_far payload ≡ Some (s, new) → entry_after so_far payload ≡ Some new
  step_next s new is = by (entry_of so_far.schema payload) is
    where
      by : (found : Option Entry) → whole_by found ≡ Some (s, new) → option_and_then (with_entry so_far) found ≡ Some new
      by None took = absurd cc
      by (Some e) took = both_next (stage_by so_far.schema payload e) (with_entry so_far e) s new took

  step_none : entry_after so_far payload ≡ None → stage_after so_far payload ≡ None
  step_none none = by (entry_of so_far.schema payload) none
    where
      by : (found : Option Entry) → option_and_then (with_entry so_far) found ≡ None → whole_by found ≡ None
      by None left = refl
      by (Some e) left = both_none (stage_by so_far.schema payload e) (with_entry so_far e) left

module _ (bytes : List ℕ) (any : Walk) (whole : damage_of bytes ≡ None) where
  abbrev walk_at : ℕ → LogSoFar → Walk
  walk_at place so_far = record any { place = place; so_far = so_far }

  -- a walk over it is never refused
  never_refused : (place : ℕ) (so_far : LogSoFar) (stages : List Stage) → IsAt bytes (walk_at place so_far) stages → IsRefusedWalk bytes (walk_at place so_far) → ⊥
  never_refused place so_far stages here refused = let e : None ≡ Some place = sym whole ∙ (at_damage bytes (walk_at place so_far) stages here refused).1 in absurd cc

  -- behind these bytes, where the walk has come to, these frames stand in front of a bad one
  behind : (front : List ℕ) (payloads : List (List ℕ)) (rest : List ℕ) (place end : ℕ) (so_far last : LogSoFar) (stages : List Stage) → IsAt bytes (walk_at place so_far) stages → bytes ≡ front ++ (frames payloads ++ rest) → place ≡ length front
      → end ≡ place + length (frames payloads) → All FitsFrame payloads → 0 < length rest → entries_after so_far payloads ≡ Some last → IsOpenGate end bytes → ((payload : List ℕ) → payload_at end bytes ≡ Some payload → entry_after last payload ≡ None) → ⊥
  behind front [] rest place end so_far last stages here is placed ends fit more say gate bad =
      let at : end ≡ place = omega (arith, ends) in
      let same : last ≡ so_far = cc in
      never_refused place so_far stages here (record {
        gate = subst (λ (n : ℕ). IsOpenGate n bytes) at gate;
        untaken = λ payload found. step_none so_far payload (subst (λ (l : LogSoFar). entry_after l payload ≡ None) same (bad payload (subst (λ (n : ℕ). payload_at n bytes ≡ Some payload) (sym at) found)));
      })
  behind front (p ∷ payloads) rest place end so_far last stages here is placed ends fit more say gate bad =
      by (stage_after so_far p) refl (λ s next took.
      behind (front ++ 1 ∷ body p) payloads rest (place + 9 + length p) end next last (stages ++ s ∷ [])
      (at_next bytes s (walk_at place so_far) (walk_at (place + 9 + length p) next) stages here (p, found, (took, refl)))
      joined (omega (arith, placed, long, length-append front (1 ∷ body p)))
      (omega (arith, ends, long, length-append (1 ∷ body p) (frames payloads))) (All-tail FitsFrame p payloads fit) more
      (sym (ap (option_and_then (λ (l : LogSoFar). entries_after l payloads)) (step_next so_far p s next took)) ∙ say) gate bad)
    where
      long : 9 + length p ≡ length (1 ∷ body p)
      long = omega (arith, length-body p)

      rest_is : drop place bytes ≡ 1 ∷ (body p ++ (frames payloads ++ rest))
      rest_is = ap (drop place) is ∙ drop_at front (frames (p ∷ payloads) ++ rest) place (sym placed) ∙ append_assoc (1 ∷ body p) (frames payloads) rest

      found : payload_at place bytes ≡ Some p
      found = ap payload_in rest_is ∙ payload_in-frame p (frames payloads ++ rest) (All-head FitsFrame p payloads fit) (omega (arith, more, length-append (frames payloads) rest))

      open_here : IsOpenGate place bytes
      open_here = record { rest = body p ++ (frames payloads ++ rest); is = rest_is; longer = omega (arith, ap length rest_is, length-drop place bytes, length-append (body p) (frames payloads ++ rest), length-body p) }

      joined : bytes ≡ (front ++ 1 ∷ body p) ++ (frames payloads ++ rest)
      joined = is ∙ ap (λ (l : List ℕ). front ++ l) (append_assoc (1 ∷ body p) (frames payloads) rest) ∙ sym (append_assoc front (1 ∷ body p) (frames payloads ++ rest))

      by : (o : Option (Stage × LogSoFar)) → stage_after so_far p ≡ o → ((s : Stage) (next : LogSoFar) → stage_after so_far p ≡ Some (s, next) → ⊥) → ⊥
      by None none go = never_refused place so_far stages here (record {
        gate = open_here;
        untaken = λ payload there. let e : Some p ≡ Some payload = sym found ∙ there in let same : p ≡ payload = cc in subst (λ (l : List ℕ). stage_after so_far l ≡ None) same none;
      })
      by (Some (s, next)) took go = go s next took

  pub no_bad : (p : ℕ) → IsBadFrame p bytes → ⊥
  no_bad p bad =
      let b = bad.passed.begins in
      let rest_is : drop p bytes ≡ b.rest = ap (drop p) b.is ∙ drop_at (frames bad.passed.payloads) b.rest p b.ends in
      let more : 0 < length b.rest = omega (arith, ap length (sym rest_is ∙ bad.gate.is)) in
      behind [] bad.passed.payloads b.rest 0 p unread bad.so_far [] (at_start bytes (walk_at 0 unread) refl refl refl) b.is refl (omega (arith, b.ends)) bad.passed.fit more bad.passed.say bad.gate bad.bad
