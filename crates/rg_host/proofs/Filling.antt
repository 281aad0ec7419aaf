-- A buffer after a read behind what is pending.
use Rattle.std.proofs.Common.{◌≡◌, ℕ, ◌+◌, ◌-◌, ◌≤◌, Bool, true, false, refl, List, ◌++◌, length, take, drop, Option, ap, sym, subst, ◌∙◌, arith, slice_range}
use Rattle.std.proofs.lemmas.List.{take-take, drop-take}
use Rattle.rg_bytes.specs.Known.{before}
use Rattle.rg_host.specs.Buffered.{IsSearched, Fills}
use Rattle.rg_host.proofs.Ranges.{slice_range-split, length-slice_range, no_lf-append, range_range}
use Rattle.rg_host.specs.Lines.{HasNoLf}

-- a range depends only on the bytes up to its end
pub kept_after : (old new : List ℕ) (start end : ℕ) → start ≤ end → take end new ≡ take end old → slice_range new start end ≡ slice_range old start end
kept_after old new start end ordered same =
    let whole : start + (end - start) ≡ end = omega arith in
    let of : (bytes : List ℕ) → drop start (take end bytes) ≡ slice_range bytes start end =
    λ bytes. ap (λ n. drop start (take n bytes)) (sym whole) ∙ drop-take start (end - start) bytes in
    sym (of new) ∙ ap (drop start) same ∙ of old

-- what stood before the place where the read began has stayed
prefix_of : (old new : List ℕ) (n end : ℕ) → n ≤ end → take end new ≡ take end old → take n new ≡ take n old
prefix_of old new n end below same = sym (take-take n end new below) ∙ ap (take n) same ∙ take-take n end old below

-- a search says the same of bytes that are the same up to its end
pub searched_kept : (old new : List ℕ) (from searched to : ℕ) (has_lf : Bool) → take to new ≡ take to old → IsSearched old from searched to has_lf → IsSearched new from searched to has_lf
searched_kept old new from searched to has_lf same was = record {
  begun = was.begun;
  within = was.within;
  no_lf = rw (kept_after old new from searched was.begun (prefix_of old new searched to was.within same)) was.no_lf;
  found = λ is.
      let lf = was.found is in
      let place : take (searched + 1) new ≡ take (searched + 1) old = prefix_of old new (searched + 1) to (omega (arith, lf.below)) same in
      record {
        below = lf.below;
        lf = kept_after old new searched (searched + 1) (omega arith) place ∙ lf.lf;
      };
  unfound = was.unfound;
}

-- an LF that was found is the first one in a longer range too
pub searched_longer : (bytes : List ℕ) (from searched to after : ℕ) (has_lf : Bool) → has_lf ≡ true → to ≤ after → IsSearched bytes from searched to has_lf → IsSearched bytes from searched after has_lf
searched_longer bytes from searched to after has_lf has more was = record {
  begun = was.begun;
  within = omega (arith, was.within, more);
  no_lf = was.no_lf;
  found = λ is. record {
    below = omega (arith, (was.found is).below, more);
    lf = (was.found is).lf;
  };
  unfound = λ isnt. cc;
}

-- two searches, the second one behind the first, which found nothing
pub searched_on : (bytes : List ℕ) (from before mid searched to : ℕ) (has_lf : Bool) → IsSearched bytes from before mid false → IsSearched bytes mid searched to has_lf → IsSearched bytes from searched to has_lf
searched_on bytes from before mid searched to has_lf first next =
    let ordered : from ≤ mid = omega (arith, first.begun, first.within) in
    let no_lf : HasNoLf (slice_range bytes from mid) = subst (λ n. HasNoLf (slice_range bytes from n)) (first.unfound refl) first.no_lf in
    record {
      begun = omega (arith, ordered, next.begun);
      within = next.within;
      no_lf = rw (slice_range-split bytes from mid searched ordered next.begun) (no_lf-append _ _ no_lf next.no_lf);
      found = next.found;
      unfound = next.unfound;
    }

-- the same search, where the range alone was moved to the beginning of other bytes
pub searched_moved : (old new : List ℕ) (from searched to : ℕ) (has_lf : Bool) → slice_range new 0 (to - from) ≡ slice_range old from to →
    IsSearched old from searched to has_lf → IsSearched new 0 (searched - from) (to - from) has_lf
searched_moved old new from searched to has_lf moved was =
    let size : to - from ≡ to - from - 0 = omega arith in
    let same : take (to - from) new ≡ take (to - from) (slice_range old from to) =
    ap (λ n. take n new) size ∙ moved ∙ sym (take-take (to - from) (to - from) (drop from old) (omega arith)) in
    let back : from + (searched - from) ≡ searched = omega (arith, was.begun) in
    let start : from + 0 ≡ from = omega arith in
    let text : slice_range (slice_range old from to) 0 (searched - from) ≡ slice_range old from searched =
    range_range old from to 0 (searched - from) (omega arith) (omega (arith, was.begun, was.within))
    ∙ ap (λ n. slice_range old n (from + (searched - from))) start ∙ ap (slice_range old from) back in
    searched_kept (slice_range old from to) new 0 (searched - from) (to - from) has_lf same record {
      begun = omega arith;
      within = omega (arith, was.begun, was.within);
      no_lf = rw text was.no_lf;
      found = λ is.
          let lf = was.found is in
          let next : from + (searched - from + 1) ≡ searched + 1 = omega (arith, was.begun) in
          record {
            below = omega (arith, was.begun, lf.below);
            lf = range_range old from to (searched - from) (searched - from + 1) (omega arith) (omega (arith, was.begun, lf.below))
                ∙ ap (λ n. slice_range old n (from + (searched - from + 1))) back ∙ ap (slice_range old searched) next ∙ lf.lf;
          };
      unfound = λ is. ap (λ n. n - from) (was.unfound is);
    }

pub fills_after : (old new : List ℕ) (start end count : ℕ) (left now : Option (List ℕ)) → start ≤ end → end + count ≤ length new → take end new ≡ take end old →
    left ≡ before (slice_range new end (end + count)) now → Fills (slice_range old start end) (slice_range new start (end + count)) left now count
fills_after old new start end count left now ordered fits same took = record {
  got = slice_range new end (end + count);
  added = slice_range-split new start end (end + count) ordered (omega arith) ∙ ap (λ v. v ++ slice_range new end (end + count)) (kept_after old new start end ordered same);
  count = length-slice_range new end (end + count) fits ∙ omega arith;
  took = took;
}
