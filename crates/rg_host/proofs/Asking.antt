-- What a scan asks of its source.
use Rattle.std.proofs.Common.{◌≡◌, ℕ, ◌+◌, ◌≤◌, ◌<◌, ◌^◌, Bool, true, false, List, [], ◌++◌, length, Option, Ok, refl, ap, sym, ◌∙◌, arith, append_assoc, length-append}
use Rattle.std.proofs.lemmas.List.{append-nil}
use Rattle.rg_host.specs.Buffered.{Fills}
use Rattle.rg_host.specs.Lines.{lines_of, HasNoLf}
use Rattle.rg_host.specs.Scan.{skipped, prefix, owed, reading_at, IsCounted, Drops, Takes, Asks}
use Rattle.rg_host.proofs.LineLaws.{lines_of-long}
use Rattle.rg_host.proofs.Finds.{no_lf-skipped, length-skipped, no_lf-behind}

-- what is held of a long line can be dropped
pub drops_long : (skipping : Bool) (held : List ℕ) → 65536 ≤ length (prefix skipping ++ held) → owed true ≤ length held + owed skipping → Drops skipping held true []
drops_long skipping held long some = record {
  short = omega arith;
  same = λ no_lf rest. rw (append-nil skipped) (lines_of-long skipped (prefix skipping ++ held) rest no_lf-skipped no_lf (omega (arith, length-skipped)) long);
  no_lf = λ no_lf. rw (append-nil skipped) no_lf-skipped;
  fewer = some;
}

pub long_skipped : (held : List ℕ) → 65536 ≤ length (skipped ++ held)
long_skipped held = omega (arith, length-append skipped held, length-skipped)

-- a byte past the limit changes only the count
pub counted_past : (held : List ℕ) (skipping : Bool) (taken : ℕ) (ended : Bool) → IsCounted held skipping taken ended → HasNoLf (prefix skipping ++ held) → taken ≡ 2 ^ 50 → ended ≡ false → IsCounted held skipping (taken + 1) ended
counted_past held skipping taken ended was no_lf at_limit going = record {
  counted = omega (arith, was.counted);
  within = omega (arith, at_limit);
  past_limit = λ past. no_lf-behind (prefix skipping) held no_lf;
  at_end = λ is. absurd (cc);
}

-- bytes behind those that are held
pub takes_filled : (skipping still : Bool) (held still_held now_held : List ℕ) (taken count : ℕ) (ended : Bool) (left now : Option (List ℕ)) →
    Drops skipping held still still_held → Fills still_held now_held left now count → HasNoLf (prefix skipping ++ held) → length held + owed skipping ≤ taken →
    Takes (reading_at skipping held taken ended) (reading_at still now_held (taken + count) ended) left now
takes_filled skipping still held still_held now_held taken count ended left now drops fills no_lf counted =
    let grown : prefix still ++ now_held ≡ (prefix still ++ still_held) ++ fills.got = ap (λ v. prefix still ++ v) fills.added ∙ sym (append_assoc (prefix still) still_held fills.got) in
    let longer : length now_held ≡ length still_held + count = ap length fills.added ∙ length-append still_held fills.got ∙ ap (λ n. length still_held + n) fills.count in
    record {
      got = fills.got;
      took = fills.took;
      count = ap (λ n. taken + n) (sym fills.count);
      same = λ rest. ap (λ v. lines_of (v ++ rest)) grown ∙ ap lines_of (append_assoc (prefix still ++ still_held) fills.got rest)
          ∙ drops.same no_lf (fills.got ++ rest) ∙ ap lines_of (sym (append_assoc (prefix skipping ++ held) fills.got rest));
      spent = omega (arith, longer, drops.fewer, counted);
      ended = refl;
    }

pub asks_more : (skipping still : Bool) (held still_held now_held : List ℕ) (taken count : ℕ) (ended : Bool) (left now : Option (List ℕ)) →
    Drops skipping held still still_held → Fills still_held now_held left now count → HasNoLf (prefix skipping ++ held) → length held + owed skipping ≤ taken →
    0 < count → taken + count ≤ 2 ^ 50 → Asks (reading_at skipping held taken ended) (reading_at still now_held (taken + count) ended) left now (Ok true)
asks_more skipping still held still_held now_held taken count ended left now drops fills no_lf counted some within =
    (takes_filled skipping still held still_held now_held taken count ended left now drops fills no_lf counted, omega (arith, some), within)
