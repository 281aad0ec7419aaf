-- The laws of the moments of a list of effects.
use Rattle.std.proofs.Common.{◌≡◌, ◌≢◌, inl, inr, ℕ, ◌+◌, ◌<◌, ◌≤◌, List, [], ◌∷◌, ◌++◌, length, take, drop, Option, Some, refl, sym, ◌∙◌, ap, subst, arith, append_assoc, length-append, length-take, length-drop}
use Rattle.std.proofs.lemmas.List.{take_at, drop_at}
use Rattle.std.proofs.lemmas.Bool.{cases_lt}
use Rattle.std.proofs.lemmas.Bool.Decides.{nat_tests}
use Rattle.std.specs.Option.{ForSome}
use Rattle.rg_host.specs.Image.{Image, InFile, Torn}
use Rattle.rg_host.specs.Moments.{Moment}
use Rattle.rg_host.specs.Effects.{Effect, nothing, wrote, failed_write, synced, put, with_file, written, now_after, may_after, said_after, IsSince}

some-same : {A : Type 0} (x y : A) → ◌≡◌ {A = Option A} (Some x) (Some y) → x ≡ y
some-same x y is = cc

-- a write may leave all as it was
pub torn-same : (at n : ℕ) (old : List ℕ) → Torn at n old old
torn-same at n old = record { before = refl; after = refl; no_shorter = omega arith; no_longer = omega arith }

pub torn_in-same : (file at n : ℕ) (v : Image) → InFile file (Torn at n) v v
torn_in-same file at n v = record { there = torn-same at n (v file); elsewhere = λ other differs. refl }

pub with_file-there : (file : ℕ) (bytes : List ℕ) (v : Image) → with_file file bytes v file ≡ bytes
with_file-there file bytes v = grind (arith, nat_tests)

pub with_file-elsewhere : (file : ℕ) (bytes : List ℕ) (v : Image) (other : ℕ) → other ≢ file → with_file file bytes v other ≡ v other
with_file-elsewhere file bytes v other differs = grind (arith, nat_tests)

pub written-within : (at : ℕ) (bytes old : List ℕ) → at ≤ length old → written at bytes old ≡ take at old ++ bytes ++ drop (at + length bytes) old
written-within at bytes old within = grind (arith, nat_tests)

pub written-beyond : (at : ℕ) (bytes old : List ℕ) → length old < at → written at bytes old ≡ old
written-beyond at bytes old beyond = grind (arith, nat_tests)

torn-whole : (at : ℕ) (bytes old : List ℕ) → at ≤ length old → Torn at (length bytes) old (take at old ++ bytes ++ drop (at + length bytes) old)
torn-whole at bytes old within =
    let prefix : length (take at old) ≡ at = omega (arith, length-take at old) in
    let both : length (take at old ++ bytes) ≡ at + length bytes = omega (arith, prefix, length-append (take at old) bytes) in
    let all = length-append (take at old ++ bytes) (drop (at + length bytes) old) in
    record {
      before = ap (λ (l : List ℕ). take at l) (append_assoc (take at old) bytes (drop (at + length bytes) old)) ∙ take_at (take at old) (bytes ++ drop (at + length bytes) old) at prefix;
      after = drop_at (take at old ++ bytes) (drop (at + length bytes) old) (at + length bytes) both;
      no_shorter = omega (arith, all, both, length-drop (at + length bytes) old);
      no_longer = omega (arith, all, both, length-drop (at + length bytes) old);
    }

-- a write may leave all of its bytes
pub torn-written : (at : ℕ) (bytes old : List ℕ) → Torn at (length bytes) old (written at bytes old)
torn-written at bytes old = elim (cases_lt (length old) at) [
  | inl beyond ↦ subst (λ (l : List ℕ). Torn at (length bytes) old l) (sym (written-beyond at bytes old beyond)) (torn-same at (length bytes) old)
  | inr within ↦ subst (λ (l : List ℕ). Torn at (length bytes) old l) (sym (written-within at bytes old within)) (torn-whole at bytes old within)
]

pub torn_in-with : (file at n : ℕ) (bytes : List ℕ) (v : Image) → Torn at n (v file) bytes → InFile file (Torn at n) v (with_file file bytes v)
torn_in-with file at n bytes v torn = record {
  there = subst (λ (l : List ℕ). Torn at n (v file) l) (sym (with_file-there file bytes v)) torn;
  elsewhere = with_file-elsewhere file bytes v;
}

-- what reads give is an image that a crash may leave
pub may_after-now : (first : Image) (effects : List Effect) → may_after first effects (now_after first effects)
may_after-now first [] = refl
may_after-now first (nothing ∷ past) = may_after-now first past
may_after-now first (wrote file at bytes ∷ past) = (now_after first past, may_after-now first past, torn_in-with file at (length bytes) _ (now_after first past) (torn-written at bytes (now_after first past file)))
may_after-now first (failed_write file at n ∷ past) = (now_after first past, may_after-now first past, torn_in-same file at n (now_after first past))
may_after-now first (synced file ∷ past) = (may_after-now first past, refl)
may_after-now first (put bytes ∷ past) = may_after-now first past

pub now_may_leave : (first : Image) (effects : List Effect) (v : Image) → ◌≡◌ {A = Option Image} (Some (now_after first effects)) (Some v) → may_after first effects v
now_may_leave first effects v is = subst (may_after first effects) (some-same _ _ is) (may_after-now first effects)

-- the present moment is one of those since an earlier one
pub now_counts : (first : Image) (effects : List Effect) (t : ℕ) (m : Moment) → t ≤ length effects → may_after first effects m.image → ◌≡◌ {A = Option (List ℕ)} (Some (said_after effects)) (Some m.said) → IsSince first effects t m
now_counts first [] t m le may is = (le, may, sym (some-same _ _ is))
now_counts first (effect ∷ past) t m le may is = inl (le, may, sym (some-same _ _ is))

-- there are no moments since one that is still to come
since_past : (first : Image) (effects : List Effect) (t : ℕ) (m : Moment) → IsSince first effects t m → t ≤ length effects
since_past first [] t m (le, image, said) = le
since_past first (effect ∷ past) t m (inl (le, may, said)) = le
since_past first (effect ∷ past) t m (inr (inl (le, within))) = omega (arith, le)
since_past first (effect ∷ past) t m (inr (inr earlier)) = omega (arith, since_past first past t m earlier)

-- since the present moment there is no other
pub only_now : (first : Image) (effects : List Effect) (m : Moment) → IsSince first effects (length effects) m → may_after first effects m.image × (m.said ≡ said_after effects)
only_now first [] m (le, image, said) = (image, said)
only_now first (effect ∷ past) m (inl (le, may, said)) = (may, said)
only_now first (effect ∷ past) m (inr (inl (le, within))) = absurd (omega (arith, le))
only_now first (effect ∷ past) m (inr (inr earlier)) = absurd (omega (arith, since_past first past (length (effect ∷ past)) m earlier))

-- at the present moment what is told is what was put
pub only_told : (first : Image) (effects : List Effect) (m : Moment) → IsSince first effects (length effects) m → may_after first effects m.image × ForSome (Some (said_after effects)) (λ said. m.said ≡ said)
only_told first effects m now = let only = only_now first effects m now in (only.0, λ told is. only.1 ∙ some-same _ _ is)

-- the moments since a later one are among those since an earlier one
pub since_sinks : (first : Image) (effects : List Effect) (t u : ℕ) (m : Moment) → t ≤ u → IsSince first effects u m → IsSince first effects t m
since_sinks first [] t u m le (early, image, said) = (omega (arith, le, early), image, said)
since_sinks first (effect ∷ past) t u m le (inl (early, may, said)) = inl (omega (arith, le, early), may, said)
since_sinks first (effect ∷ past) t u m le (inr (inl (early, within))) = inr (inl (omega (arith, le, early), within))
since_sinks first (effect ∷ past) t u m le (inr (inr earlier)) = inr (inr (since_sinks first past t u m le earlier))
