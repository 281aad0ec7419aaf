-- Ranges of bytes, and the first LF in them.
use Rattle.std.proofs.Common.{◌≡◌, ℕ, zero, suc, ◌+◌, ◌-◌, ◌<◌, ◌≤◌, ◌==◌, true, false, List, [], ◌∷◌, ◌++◌, length, take, drop, Some, None, refl, ap, sym, ◌∙◌, ⊎_elim, arith, slice_index, slice_range, length-drop}
use Rattle.std.proofs.Math.Seq.{take-add}
use Rattle.std.proofs.lemmas.Bool.{cases_Bool, eqb-true}
use Rattle.std.proofs.lemmas.List.{drop-drop, drop-take, length-take-le, take-take}
use Rattle.memchr.specs.Find.{IsFirstByte, is_byte}
use Rattle.rg_host.specs.Buffered.{IsSearched}
use Rattle.rg_host.specs.Lines.{HasNoLf}

pub no_lf-append : (x y : List ℕ) → HasNoLf x → HasNoLf y → HasNoLf (x ++ y)
no_lf-append [] y in_x in_y = in_y
no_lf-append (byte ∷ x) y in_x in_y = (in_x.0, no_lf-append x y in_x.1 in_y)

-- a range in two parts
pub slice_range-split : (bytes : List ℕ) (start mid end : ℕ) → start ≤ mid → mid ≤ end →
    slice_range bytes start end ≡ slice_range bytes start mid ++ slice_range bytes mid end
slice_range-split bytes start mid end first second =
    let whole : end - start ≡ (mid - start) + (end - mid) = omega arith in
    let place : start + (mid - start) ≡ mid = omega arith in
    rw (whole, take-add (mid - start) (end - mid) (drop start bytes), drop-drop (mid - start) start bytes, place) refl

pub length-slice_range : (bytes : List ℕ) (start end : ℕ) → end ≤ length bytes → length (slice_range bytes start end) ≡ end - start
length-slice_range bytes start end within = length-take-le (end - start) (drop start bytes) (omega (arith, length-drop start bytes))

not_lf : (byte : ℕ) → ((byte == 10) ≡ true → ⊥) → (byte == 10) ≡ false
not_lf byte differs = ⊎_elim (λ is. absurd (differs is)) (λ isnt. isnt) (cases_Bool (byte == 10))

-- where the search found nothing, no byte is LF
pub no_lf-unfound : (bytes : List ℕ) → IsFirstByte (is_byte 10) bytes None → HasNoLf bytes
no_lf-unfound [] none = tt
no_lf-unfound (byte ∷ bytes) none =
    (not_lf byte (none 0 (omega arith) (omega arith)), no_lf-unfound bytes (λ k low high. none (suc k) (omega arith) (omega arith)))

-- a range of a range
pub range_range : (bytes : List ℕ) (from to low high : ℕ) → low ≤ high → from + high ≤ to → slice_range (slice_range bytes from to) low high ≡ slice_range bytes (from + low) (from + high)
range_range bytes from to low high ordered within =
    let sum : to - from ≡ low + (to - from - low) = omega arith in
    let size : high - low ≡ (from + high) - (from + low) = omega arith in
    ap (λ n. take (high - low) (drop low (take n (drop from bytes)))) sum
    ∙ ap (take (high - low)) (drop-take low (to - from - low) (drop from bytes))
    ∙ take-take (high - low) (to - from - low) (drop low (drop from bytes)) (omega arith)
    ∙ ap (take (high - low)) (drop-drop low from bytes)
    ∙ ap (λ n. take n (drop (from + low) bytes)) size

-- LF stands at that place, and not before it.
pub record FirstAt (bytes : List ℕ) (place : ℕ) : Type 0 where
  pub within : place < length bytes
  pub no_lf : HasNoLf (take place bytes)
  pub lf : take 1 (drop place bytes) ≡ 10 ∷ []

first_at : (bytes : List ℕ) (place : ℕ) → place < length bytes → is_byte 10 (slice_index bytes place) ≡ true →
    ((k : ℕ) → k < place → is_byte 10 (slice_index bytes k) ≡ true → ⊥) → FirstAt bytes place
first_at [] place within is before = absurd (omega arith)
first_at (byte ∷ bytes) zero within is before = record {
  within = within;
  no_lf = tt;
  lf = ap (λ v. v ∷ []) (eqb-true byte 10 is);
}
first_at (byte ∷ bytes) (suc place) within is before =
    let later : FirstAt bytes place = first_at bytes place (omega arith) is (λ k below. before (suc k) (omega arith)) in
    record {
      within = within;
      no_lf = (not_lf byte (before 0 (omega arith)), later.no_lf);
      lf = later.lf;
    }

-- what a search of a range says that found an LF
pub range_found : (bytes : List ℕ) (from to place : ℕ) → from ≤ to → to ≤ length bytes → IsFirstByte (is_byte 10) (slice_range bytes from to) (Some place) → IsSearched bytes from (from + place) to true
range_found bytes from to place ordered within first =
    let at : FirstAt (slice_range bytes from to) place = first_at _ place first.0.high first.1 (λ k below. first.0.before k (omega arith) below) in
    let below : from + place < to = omega (arith, at.within, length-slice_range bytes from to within) in
    let up_to : slice_range bytes from (from + place) ≡ take place (slice_range bytes from to) =
    ap (λ n. take n (drop from bytes)) (omega arith) ∙ sym (take-take place (to - from) (drop from bytes) (omega arith)) in
    let one : 1 ≡ (place + 1) - place = omega arith in
    let lf : slice_range (slice_range bytes from to) place (place + 1) ≡ 10 ∷ [] = ap (λ n. take n (drop place (slice_range bytes from to))) (sym one) ∙ at.lf in
    let there : slice_range bytes (from + place) (from + (place + 1)) ≡ 10 ∷ [] = sym (range_range bytes from to place (place + 1) (omega arith) (omega (arith, below))) ∙ lf in
    let next : from + (place + 1) ≡ from + place + 1 = omega arith in
    record {
      begun = omega arith;
      within = omega (arith, below);
      no_lf = rw up_to at.no_lf;
      found = λ is. record {
        below = below;
        lf = ap (slice_range bytes (from + place)) (sym next) ∙ there;
      };
      unfound = λ is. cc;
    }

-- what a search of a range says that found none
pub range_unfound : (bytes : List ℕ) (from to : ℕ) → from ≤ to → IsFirstByte (is_byte 10) (slice_range bytes from to) None → IsSearched bytes from to to false
range_unfound bytes from to ordered none = record {
  begun = ordered;
  within = omega arith;
  no_lf = no_lf-unfound _ none;
  found = λ is. cc;
  unfound = λ is. refl;
}

-- the bytes of a range in which LF was found
pub range_parts : (bytes : List ℕ) (from searched to : ℕ) → IsSearched bytes from searched to true → slice_range bytes from to ≡ slice_range bytes from searched ++ 10 ∷ slice_range bytes (searched + 1) to
range_parts bytes from searched to search =
    let lf = search.found refl in
    let behind : slice_range bytes searched to ≡ slice_range bytes searched (searched + 1) ++ slice_range bytes (searched + 1) to =
    slice_range-split bytes searched (searched + 1) to (omega arith) (omega (arith, lf.below)) in
    slice_range-split bytes from searched to search.begun search.within ∙ ap (λ v. slice_range bytes from searched ++ v) (behind ∙ ap (λ v. v ++ slice_range bytes (searched + 1) to) lf.lf)
