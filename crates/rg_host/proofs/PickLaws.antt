-- The image that is picked is one that a crash might leave.
use Rattle.std.proofs.Common.{◌≡◌, inl, inr, ℕ, ◌-◌, ◌≤◌, Bool, true, false, ◌&&◌, IsTrue, List, [], ◌∷◌, ◌++◌, length, replicate, map, reverse, take, drop, refl, sym, ◌∙◌, ap, subst, arith, take-append-drop, length-drop}
use Rattle.std.proofs.lemmas.List.{length-replicate, length-reverse, length-map, reverse-append, map-append, drop_at}
use Rattle.std.proofs.lemmas.Bool.{cases_eq}
use Rattle.std.specs.List.{list_all}
use Rattle.std.proofs.lemmas.List.Folds.{list_all-append}
use Rattle.rg_host.specs.Image.{Image, InFile}
use Rattle.rg_host.specs.Image as image
use Rattle.rg_host.specs.Moments.{Moment}
use Rattle.rg_host.specs.Effects.{Effect, nothing, wrote, failed_write, synced, put, with_file, written, now_after, may_after, said_after, IsSince}
use Rattle.rg_host.specs.EffectLaws.{with_file-there, with_file-elsewhere, torn-same, torn-written, torn_in-with, may_after-now, now_counts}
use Rattle.rg_host.specs.Picks.{left_of_write, left_of_failed, left_after, first_effects}
use Rattle.rg_host.specs.CallTrace.{effect_of, effects_of}
use Rattle.rg_host.specs.declared.call.Call.{Call}
use Rattle.rg_host.specs.declared.pick.Pick.{Pick}
use Rattle.rg_host.specs.declared.pick.Pick.TheVariants.{Old, New, Torn}

mixed_here : (file other : ℕ) (u w : Image) → other ≡ file → with_file file (w file) u other ≡ w other
mixed_here file other u w here = ap (λ (f : ℕ). with_file file (w file) u f) here ∙ with_file-there file (w file) u ∙ ap w (sym here)

mixed_at : (P : List ℕ → List ℕ → Type 0) (file other : ℕ) (u w was_u was_w : Image) → P (was_u other) (u other) → P (was_w other) (w other) → P (with_file file (was_w file) was_u other) (with_file file (w file) u other)
mixed_at P file other u w was_u was_w pu pw = elim (cases_eq other file) [
  | inl here ↦ subst (λ (a : List ℕ). P a (with_file file (w file) u other)) (sym (mixed_here file other was_u was_w here)) (subst (λ (b : List ℕ). P (was_w other) b) (sym (mixed_here file other u w here)) pw)
  | inr differs ↦ subst (λ (a : List ℕ). P a (with_file file (w file) u other)) (sym (with_file-elsewhere file (was_w file) was_u other differs)) (subst (λ (b : List ℕ). P (was_u other) b) (sym (with_file-elsewhere file (w file) u other differs)) pu)
]

mixed_in : (P : List ℕ → List ℕ → Type 0) (file changed : ℕ) (u w was_u was_w : Image) → InFile changed P was_u u → InFile changed P was_w w → InFile changed P (with_file file (was_w file) was_u) (with_file file (w file) u)
mixed_in P file changed u w was_u was_w pu pw = record {
  there = mixed_at P file changed u w was_u was_w pu.there pw.there;
  elsewhere = λ other differs. mixed_at (λ a b. b ≡ a) file other u w was_u was_w (pu.elsewhere other differs) (pw.elsewhere other differs);
}

-- each file is torn by itself
mixed : (file : ℕ) (first : Image) (effects : List Effect) (u w : Image) → may_after first effects u → may_after first effects w → may_after first effects (with_file file (w file) u)
mixed file first [] u w may_u may_w = λ i other. mixed_at (λ a b. b ≡ first other) file other u w u w (λ j. may_u j other) (λ j. may_w j other) i
mixed file first (nothing ∷ past) u w may_u may_w = mixed file first past u w may_u may_w
mixed file first (wrote changed at bytes ∷ past) u w may_u may_w = (with_file file (may_w.0 file) may_u.0, mixed file first past may_u.0 may_w.0 may_u.1 may_w.1, mixed_in (image.Torn at (length bytes)) file changed u w may_u.0 may_w.0 may_u.2 may_w.2)
mixed file first (failed_write changed at n ∷ past) u w may_u may_w = (with_file file (may_w.0 file) may_u.0, mixed file first past may_u.0 may_w.0 may_u.1 may_w.1, mixed_in (image.Torn at n) file changed u w may_u.0 may_w.0 may_u.2 may_w.2)
mixed file first (synced settled ∷ past) u w may_u may_w = (mixed file first past u w may_u.0 may_w.0, mixed_at (λ a b. b ≡ now_after first past settled) file settled u w u w may_u.1 may_w.1)
mixed file first (put bytes ∷ past) u w may_u may_w = mixed file first past u w may_u may_w

torn-filled : (fill at n : ℕ) (old : List ℕ) → image.Torn at n old (written at (replicate n fill) old)
torn-filled fill at n old = subst (λ (k : ℕ). image.Torn at k old (written at (replicate n fill) old)) (length-replicate n fill) (torn-written at (replicate n fill) old)

torn-left : (pick : Pick) (at : ℕ) (bytes old : List ℕ) → image.Torn at (length bytes) old (left_of_write pick at bytes old)
torn-left Old at bytes old = torn-same at (length bytes) old
torn-left New at bytes old = torn-written at bytes old
torn-left (Torn fill) at bytes old = torn-filled fill at (length bytes) old

torn-failed : (pick : Pick) (at n : ℕ) (old : List ℕ) → image.Torn at n old (left_of_failed pick at n old)
torn-failed Old at n old = torn-same at n old
torn-failed New at n old = torn-same at n old
torn-failed (Torn fill) at n old = torn-filled fill at n old

-- a crash after these calls may leave what is picked
pub may_after-left : (pick : Pick) (first : Image) (effects : List Effect) → may_after first effects (left_after pick first effects)
may_after-left pick first [] = refl
may_after-left pick first (nothing ∷ past) = may_after-left pick first past
may_after-left pick first (wrote file at bytes ∷ past) = (left_after pick first past, may_after-left pick first past, torn_in-with file at (length bytes) _ (left_after pick first past) (torn-left pick at bytes (left_after pick first past file)))
may_after-left pick first (failed_write file at n ∷ past) = (left_after pick first past, may_after-left pick first past, torn_in-with file at n _ (left_after pick first past) (torn-failed pick at n (left_after pick first past file)))
may_after-left pick first (synced file ∷ past) = (mixed file first past (left_after pick first past) (now_after first past) (may_after-left pick first past) (may_after-now first past), with_file-there file (now_after first past file) (left_after pick first past))
may_after-left pick first (put bytes ∷ past) = may_after-left pick first past

-- a moment stays one after later calls
since-later : (first : Image) (later past : List Effect) (t : ℕ) (m : Moment) → IsSince first past t m → IsSince first (later ++ past) t m
since-later first [] past t m since = since
since-later first (effect ∷ later) past t m since = inr (inr (since-later first later past t m since))

-- what is picked after so many calls might have been left at that moment
pub since-left : (pick : Pick) (first : Image) (effects : List Effect) (count : ℕ) → count ≤ length effects
    → IsSince first effects count (record { image = left_after pick first (first_effects count effects); said = said_after (first_effects count effects) })
since-left pick first effects count within =
    let past = first_effects count effects in
    let m : Moment = record { image = left_after pick first past; said = said_after past } in
    let here : IsSince first past count m = now_counts first past count m (omega (arith, within, length-drop (length effects - count) effects)) (may_after-left pick first past) refl in
    subst (λ (l : List Effect). IsSince first l count m) (take-append-drop (length effects - count) effects) (since-later first (take (length effects - count) effects) past count m here)

pub length-effects_of : (calls : List Call) → length (effects_of calls) ≡ length calls
length-effects_of calls = length-map (reverse calls) effect_of ∙ length-reverse calls

-- what the first so many calls did
pub effects_of-first : (calls : List Call) (count : ℕ) → count ≤ length calls → effects_of (take count calls) ≡ first_effects count (effects_of calls)
effects_of-first calls count within =
    let early = effects_of (take count calls) in
    let late = effects_of (drop count calls) in
    let all : effects_of calls ≡ late ++ early = ap effects_of (sym (take-append-drop count calls)) ∙ ap (map effect_of) (reverse-append (take count calls) (drop count calls)) ∙ map-append effect_of (reverse (drop count calls)) (reverse (take count calls)) in
    let rest : length late ≡ length calls - count = length-effects_of (drop count calls) ∙ length-drop count calls in
    sym (ap (λ (l : List Effect). drop (length (effects_of calls) - count) l) all ∙ drop_at late early (length (effects_of calls) - count) (omega (arith, length-effects_of calls, rest)))

true-first : (a b : Bool) → IsTrue (a && b) → IsTrue a
true-first true b both = refl
true-first false b both = absurd (cc both)

-- what each call has, the first so many of them have
pub list_all-first : (p : Call → Bool) (calls : List Call) (count : ℕ) → IsTrue (list_all p calls) → IsTrue (list_all p (take count calls))
list_all-first p calls count all = true-first (list_all p (take count calls)) (list_all p (drop count calls)) (sym (list_all-append p (take count calls) (drop count calls)) ∙ ap (list_all p) (take-append-drop count calls) ∙ all)
