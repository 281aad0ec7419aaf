-- The frames of a file that end at a place, and the frame list.
use Rattle.std.proofs.Common.{◌≡◌, ◌∙◌, ◌⊎◌, inl, inr, ℕ, ◌+◌, ◌^◌, ◌≤◌, ◌<◌, List, [], ◌∷◌, ◌++◌, length, drop, Some, None, All, refl, sym, ap, subst, arith, append_assoc, length-append}
use Rattle.std.proofs.lemmas.List.{append-nil, drop_at}
use Rattle.std.proofs.lemmas.List.Elements.{All-head, All-tail}
use Rattle.rg_frame.specs.Frames.{frames, body, Begins, IsLog, FitsFrame, HasPayloads, payload_at}
use Rattle.rg_frame.specs.Steps.{Grown}
use Rattle.rg_frame.proofs.Laws.{length-frames-push, frames-between, has_payloads, holds_payload, payload_between, payload_none}
use Rattle.rg_reservoir.specs.Naming.{Reached}
use Rattle.rg_reservoir.proofs.Chains.{some_none}

-- the frames up to a place that a log can come to are the frame list
pub listed : (payloads : List (List ℕ)) (end : ℕ) (bytes : List ℕ) → IsLog payloads end bytes → end ≤ 2 ^ 62 → HasPayloads payloads bytes
listed payloads end bytes log most = has_payloads payloads end bytes (omega (arith, most)) log

-- and the list ends where its frames do
pub log_of : (payloads : List (List ℕ)) (end : ℕ) (bytes : List ℕ) → HasPayloads payloads bytes → end ≡ length (frames payloads) → IsLog payloads end bytes
log_of payloads end bytes has is = subst (λ (e : ℕ). IsLog payloads e bytes) (sym has.frames.1.ends ∙ sym is) has.frames.1

fit_last : (payloads : List (List ℕ)) (p : List ℕ) → All FitsFrame (payloads ++ p ∷ []) → FitsFrame p
fit_last [] p fit = All-head FitsFrame p [] fit
fit_last (q ∷ payloads) p fit = fit_last payloads p (All-tail FitsFrame q (payloads ++ p ∷ []) fit)

-- so does the last payload of a frame list
pub last_small : (payloads : List (List ℕ)) (p bytes : List ℕ) → HasPayloads (payloads ++ p ∷ []) bytes → length p < 2 ^ 64
last_small payloads p bytes has = fit_last payloads p has.fit

-- a frame list with one payload more ends behind it
pub grown_log : (payloads : List (List ℕ)) (p : List ℕ) (end next : ℕ) (old new : List ℕ) → Grown p old new → HasPayloads payloads old → end ≡ length (frames payloads) → next ≡ end + 9 + length p → IsLog (payloads ++ p ∷ []) next new
grown_log payloads p end next old new step has ends is = log_of (payloads ++ p ∷ []) next new (step payloads has) (omega (arith, is, ends, length-frames-push payloads p))

-- the payload at the place that was reached is the next one of the frame list
pub next_is : (payloads : List (List ℕ)) (place : ℕ) (bytes p : List ℕ) (at : Reached payloads place) → HasPayloads payloads bytes → payload_at place bytes ≡ Some p → (more : List (List ℕ)) × (at.rest ≡ p ∷ more)
next_is payloads place bytes p at has here = by at.rest refl
  where
    there : payload_at (length (frames at.done)) bytes ≡ Some p
    there = subst (λ (n : ℕ). payload_at n bytes ≡ Some p) at.place_is here

    by : (rest : List (List ℕ)) → at.rest ≡ rest → (more : List (List ℕ)) × (rest ≡ p ∷ more)
    by [] is =
        let all : payloads ≡ at.done = at.is ∙ ap (λ (l : List (List ℕ)). at.done ++ l) is ∙ append-nil at.done in
        absurd (some_none _ _ there (payload_none at.done bytes (subst (λ (l : List (List ℕ)). HasPayloads l bytes) all has)))
    by (q ∷ more) is =
        let all : payloads ≡ at.done ++ q ∷ more = at.is ∙ ap (λ (l : List (List ℕ)). at.done ++ l) is in
        let g : Some q ≡ Some p = sym (payload_between at.done more q bytes (subst (λ (l : List (List ℕ)). HasPayloads l bytes) all has)) ∙ there in
        let same : q ≡ p = cc in
        (more, ap (λ (x : List ℕ). x ∷ more) same)

-- where no frame stands the list has ended
pub none_is : (payloads : List (List ℕ)) (place : ℕ) (bytes : List ℕ) (at : Reached payloads place) → HasPayloads payloads bytes → payload_at place bytes ≡ None → at.rest ≡ []
none_is payloads place bytes at has none = by at.rest refl
  where
    by : (rest : List (List ℕ)) → at.rest ≡ rest → rest ≡ []
    by [] is = refl
    by (q ∷ more) is =
        let all : payloads ≡ at.done ++ q ∷ more = at.is ∙ ap (λ (l : List (List ℕ)). at.done ++ l) is in
        absurd (some_none _ _ (payload_between at.done more q bytes (subst (λ (l : List (List ℕ)). HasPayloads l bytes) all has)) (subst (λ (n : ℕ). payload_at n bytes ≡ None) at.place_is none))

-- the payload at the place of a frame that a file begins with
begins_at : (done back : List (List ℕ)) (p : List ℕ) (place : ℕ) (bytes : List ℕ) → Begins (done ++ p ∷ back) place bytes → FitsFrame p → payload_at (length (frames done)) bytes ≡ Some p
begins_at done back p place bytes b fits =
    holds_payload (length (frames done)) p bytes (record {
      rest = frames back ++ b.rest;
      is = ap (λ (l : List ℕ). drop (length (frames done)) l) (b.is ∙ frames-between done p back b.rest) ∙ drop_at (frames done) (1 ∷ (body p ++ (frames back ++ b.rest))) (length (frames done)) refl;
      more = some b.goes;
    }) fits
  where
    some : (done ++ p ∷ back ≡ []) ⊎ (0 < length b.rest) → 0 < length (frames back ++ b.rest)
    some (inl none) = absurd (omega (arith, ap length none, length-append done (p ∷ back)))
    some (inr more) = omega (arith, more, length-append (frames back) b.rest)

goes_on : (payloads done back rest : List (List ℕ)) (place : ℕ) (bytes : List ℕ) → Begins (done ++ back) place bytes → All FitsFrame back → HasPayloads payloads bytes → payloads ≡ done ++ rest → (more : List (List ℕ)) × (payloads ≡ (done ++ back) ++ more)
goes_on payloads done [] rest place bytes b fit has is = (rest, is ∙ ap (λ (l : List (List ℕ)). l ++ rest) (sym (append-nil done)))
goes_on payloads done (p ∷ back) rest place bytes b fit has is =
    let here = begins_at done back p place bytes b (All-head FitsFrame p back fit) in
    let n = next_is payloads (length (frames done)) bytes p (record { done = done; rest = rest; is = is; place_is = refl }) has here in
    let assoc : (done ++ p ∷ []) ++ back ≡ done ++ p ∷ back = append_assoc done (p ∷ []) back in
    let m = goes_on payloads (done ++ p ∷ []) back n.0 place bytes (subst (λ (l : List (List ℕ)). Begins l place bytes) (sym assoc) b) (All-tail FitsFrame p back fit) has
    (is ∙ ap (λ (l : List (List ℕ)). done ++ l) n.1 ∙ sym (append_assoc done (p ∷ []) n.0)) in
    (m.0, m.1 ∙ ap (λ (l : List (List ℕ)). l ++ m.0) assoc)

-- frames that a file begins with, and that fit, are the first ones of its frame list
pub list_goes_on : (payloads front : List (List ℕ)) (place : ℕ) (bytes : List ℕ) → Begins front place bytes → All FitsFrame front → HasPayloads payloads bytes → (more : List (List ℕ)) × (payloads ≡ front ++ more)
list_goes_on payloads front place bytes b fit has = goes_on payloads [] front payloads place bytes b fit has refl
