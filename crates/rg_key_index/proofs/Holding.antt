-- What is held: a change of the buckets or the overflow, and a look-up.
use Rattle.std.proofs.Common.{◌≡◌, ◌∙◌, ℕ, ◌<◌, Bool, true, false, List, length, get_or, Option, Some, refl, sym, ap}
use Rattle.std.specs.Prelude.{bytes_eq}
use Rattle.std.specs.BTreeMap.{BTreeMap, get, Updates}
use Rattle.std.specs.Cmp.Lexicographic.{slice_cmp, bytes_decides}
use Rattle.std.specs.Ordering.{nat_cmp, is_eq}
use Rattle.std.proofs.lemmas.List.{get_or_default}
use Rattle.std.proofs.lemmas.Map.Text.{is_eq-slice_cmp}
use Rattle.rg_key_index.specs.Index.{bucket_in, slot_in_guess, guess_of, IsGuessed, Holds}
use Rattle.rg_key_index.proofs.Buckets.{slot_told}

abbrev pub Map : Type 0
Map = BTreeMap (List ℕ) ℕ

-- the overflow after a change at one key

is_false : (b : Bool) → (b ≡ true → ⊥) → b ≡ false
is_false true not = absurd (not refl)
is_false false not = refl

apart_false : (key other : List ℕ) → (other ≡ key → ⊥) → is_eq (slice_cmp nat_cmp key other) ≡ false
apart_false key other apart = is_eq-slice_cmp key other ∙ is_false (bytes_eq key other) (λ e. apart (sym ((bytes_decides key other).0 e)))

pub others_stay : (old new : Map) (key : List ℕ) (slot : Option ℕ) → Updates (slice_cmp nat_cmp) old new key slot → (k : List ℕ) → (k ≡ key → ⊥) → get (slice_cmp nat_cmp) new k ≡ get (slice_cmp nat_cmp) old k
others_stay old new key slot updates k apart = updates.2 k (apart_false key k apart)

-- a slot stays held where its guess stays and its key's overflow stays
pub stays_held : (old new : List ℕ) (before after : Map) (mix : ℕ) (key : List ℕ) (slot : ℕ) → (IsGuessed old mix slot → IsGuessed new mix slot) → get (slice_cmp nat_cmp) after key ≡ get (slice_cmp nat_cmp) before key →
    Holds old before mix key slot → Holds new after mix key slot
stays_held old new before after mix key slot guessed same held not = same ∙ held (λ was. not (guessed was))

-- a slot that is held, and that no guess of the bucket has, is the one that overflowed
pub overflowed_where_not_guessed : (buckets : List ℕ) (overflow : Map) (mix : ℕ) (key : List ℕ) (slot : ℕ) → Holds buckets overflow mix key slot →
    ((i : ℕ) → i < length (bucket_in buckets mix) → slot_in_guess (get_or (bucket_in buckets mix) i 0) mix ≡ Some slot → ⊥) → get (slice_cmp nat_cmp) overflow key ≡ Some slot
overflowed_where_not_guessed buckets overflow mix key slot held none = held not_guessed
  where
    not_guessed : IsGuessed buckets mix slot → ⊥
    not_guessed (small, (i, within, is)) =
        none i within (ap (λ guess. slot_in_guess guess mix) (get_or_default (bucket_in buckets mix) i 0 (guess_of mix slot) within ∙ is) ∙ slot_told mix slot small)
