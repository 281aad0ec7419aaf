-- What a scan finds in the bytes that it holds.
use Rattle.std.proofs.Common.{◌≡◌, ℕ, zero, suc, ◌+◌, ◌≤◌, ◌<◌, nat_lt, Bool, true, false, List, [], ◌∷◌, ◌++◌, length, replicate, Some, None, refl, ap, sym, ◌∙◌, subst, arith, append_assoc, length-append}
use Rattle.std.specs.Option.{MatchOption}
use Rattle.std.specs.Prelude.{if◌then◌else◌}
use Rattle.std.proofs.lemmas.List.{length-replicate}
use Rattle.rg_host.specs.Lines.{line_of, lines_of, HasNoLf}
use Rattle.rg_host.specs.Scan.{skipped, prefix, owed, reading_at, IsCounted, kind_of, handed_by, Cuts, CutsLast}
use Rattle.rg_host.specs.declared.scanner.Found.TheVariants.{Text, Long}
use Rattle.rg_host.proofs.Ranges.{no_lf-append}
use Rattle.rg_host.proofs.LineLaws.{lines_of-line, lines_of-last, line_of-long}

zeros : (n : ℕ) → HasNoLf (replicate n 0)
zeros zero = tt
zeros (suc n) = (refl, zeros n)

pub no_lf-skipped : HasNoLf skipped
unfolding skipped
no_lf-skipped = zeros 65536

pub length-skipped : length skipped ≡ 65536
unfolding skipped
length-skipped = length-replicate {A = ℕ} 65536 0

pub no_lf-prefix : (skipping : Bool) → HasNoLf (prefix skipping)
no_lf-prefix true = no_lf-skipped
no_lf-prefix false = tt

pub no_lf-behind : (x y : List ℕ) → HasNoLf (x ++ y) → HasNoLf y
no_lf-behind [] y no_lf = no_lf
no_lf-behind (byte ∷ x) y no_lf = no_lf-behind x y no_lf.1

choice : (short : Bool) (text : List ℕ) → handed_by (if short then Text else Long) text ≡ Some (if short then Some text else None)
choice true text = refl
choice false text = refl

-- the kind of line that was found says which line it is
kind_of-line : (skipping : Bool) (n : ℕ) (text : List ℕ) → length text ≡ n → handed_by (kind_of skipping n) text ≡ Some (line_of (prefix skipping ++ text))
kind_of-line true n text is = ap (λ v. Some v) (sym (line_of-long (skipped ++ text) (omega (arith, length-append skipped text, length-skipped))))
kind_of-line false n text is = rw (← is) (choice (nat_lt (length text) 65536) text)

-- the text that LF ends is the first line, whatever comes behind
pub find_cuts : (skipping : Bool) (n : ℕ) (text held later : List ℕ) (taken : ℕ) (ended : Bool) →
    held ≡ text ++ 10 ∷ later → length text ≡ n → HasNoLf text → length held + owed skipping ≤ taken →
    MatchOption (handed_by (kind_of skipping n) text) ⊥ (λ item. Cuts (reading_at skipping held taken ended) (reading_at false later taken ended) item)
find_cuts skipping n text held later taken ended parts count no_lf counted =
    let fewer : length later + 1 ≤ length held = rw parts (omega (arith, length-append text (10 ∷ later))) in
    let cuts : Cuts (reading_at skipping held taken ended) (reading_at false later taken ended) (line_of (prefix skipping ++ text)) = record {
      line = λ rest.
          let split : (prefix skipping ++ held) ++ rest ≡ (prefix skipping ++ text) ++ 10 ∷ (later ++ rest) = ap (λ v. (prefix skipping ++ v) ++ rest) parts ∙ simp append_assoc in
          ap lines_of split ∙ lines_of-line (prefix skipping ++ text) (later ++ rest) (no_lf-append (prefix skipping) text (no_lf-prefix skipping) no_lf);
      taken = refl;
      spent = omega (arith, fewer, counted);
      within = omega arith;
      ended = refl;
    } in
    subst (λ found. MatchOption found ⊥ (λ item. Cuts (reading_at skipping held taken ended) (reading_at false later taken ended) item)) (sym (kind_of-line skipping n text count)) cuts

-- what holds of the counts stays, where a line was cut off
pub counted_after : (skipping : Bool) (text held later : List ℕ) (taken : ℕ) (ended : Bool) → held ≡ text ++ 10 ∷ later → IsCounted held skipping taken ended → IsCounted later false taken ended
counted_after skipping text held later taken ended parts was =
    let fewer : length later + 1 ≤ length held = rw parts (omega (arith, length-append text (10 ∷ later))) in
    record {
      counted = omega (arith, fewer, was.counted);
      within = was.within;
      past_limit = λ past. (no_lf-behind text (10 ∷ later) (subst HasNoLf parts (was.past_limit past))).1;
      at_end = λ is. let none : length held ≡ 0 = ap length (was.at_end is).0 in absurd (omega (arith, fewer, none));
    }

prefix_some : (skipping : Bool) (held : List ℕ) → 0 < length held + owed skipping → 0 < length (prefix skipping ++ held)
prefix_some true held some = omega (arith, length-append skipped held, length-skipped)
prefix_some false held some = omega (arith, some)

-- at the end of the source what is held is the last line
pub finish_cuts : (skipping : Bool) (n : ℕ) (held : List ℕ) (taken : ℕ) (ended : Bool) →
    length held ≡ n → HasNoLf (prefix skipping ++ held) → length held + owed skipping ≤ taken → 0 < length held + owed skipping →
    MatchOption (handed_by (kind_of skipping n) held) ((prefix skipping ++ held) ≡ []) (λ item. CutsLast (reading_at skipping held taken ended) (reading_at false [] taken true) item)
finish_cuts skipping n held taken ended count no_lf counted some =
    let cuts : CutsLast (reading_at skipping held taken ended) (reading_at false [] taken true) (line_of (prefix skipping ++ held)) = record {
      line = lines_of-last (prefix skipping ++ held) no_lf (prefix_some skipping held some);
      nothing_left = refl;
      taken = refl;
      spent = omega (arith, some, counted);
      within = omega arith;
      ended = refl;
    } in
    subst (λ found. MatchOption found ((prefix skipping ++ held) ≡ []) (λ item. CutsLast (reading_at skipping held taken ended) (reading_at false [] taken true) item)) (sym (kind_of-line skipping n held count)) cuts

-- where nothing is pending, all that was taken was handed out
pub all_spent : (skipping : Bool) (held : List ℕ) (taken : ℕ) (ended : Bool) → (reading_at skipping held taken ended).pending ≡ [] → (reading_at skipping held taken ended).spent ≡ taken
all_spent true held taken ended none = absurd (omega (arith, ap (λ (v : List ℕ). length v) none, length-append skipped held, length-skipped))
all_spent false held taken ended none = omega (arith, ap (λ (v : List ℕ). length v) none)

-- no byte is LF, where none of those that are held is
pub no_lf-pending : (skipping : Bool) (held : List ℕ) (taken : ℕ) (ended : Bool) → HasNoLf held → HasNoLf (reading_at skipping held taken ended).pending
no_lf-pending skipping held taken ended no_lf = no_lf-append (prefix skipping) held (no_lf-prefix skipping) no_lf

-- bytes with an LF
no_lf_not : (x y : List ℕ) → HasNoLf (x ++ 10 ∷ y) → ⊥
no_lf_not [] y no_lf = cc
no_lf_not (byte ∷ x) y no_lf = no_lf_not x y no_lf.1

pub lf_found : (bytes x y : List ℕ) → bytes ≡ x ++ 10 ∷ y → HasNoLf bytes → ⊥
lf_found bytes x y is no_lf = no_lf_not x y (subst HasNoLf is no_lf)
