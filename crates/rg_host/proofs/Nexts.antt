-- What a call of `next` does, from what its steps did.
use Rattle.std.proofs.Common.{◌≡◌, ℕ, ◌+◌, ◌≤◌, ◌<◌, ◌^◌, Bool, true, false, List, [], ◌∷◌, ◌++◌, length, Option, Some, None, Result, Ok, Err, inl, inr, refl, add-zero, ap, sym, ◌∙◌, subst, arith, append_assoc, length-append}
use Rattle.std.specs.Option.{MatchOption}
use Rattle.std.proofs.lemmas.List.{append-nil}
use Rattle.rg_bytes.specs.Known.{before, IsAtEnd}
use Rattle.rg_host.specs.Lines.{lines_of, HasNoLf}
use Rattle.rg_host.specs.Reading.{Reading, HandsOut, Next, handed}
use Rattle.rg_host.specs.Scan.{Scan, Takes, Asks, Cuts, CutsLast, Oversteps, handed_by, Loads}
use Rattle.rg_host.specs.declared.scanner.Found.{Found}
use Rattle.rg_host.specs.declared.scanner.Found.TheVariants as found
use Rattle.rg_host.specs.declared.lines.Line.{Line}
use Rattle.rg_host.specs.declared.lines.Line.TheVariants.{Text, Long, End}
use Rattle.rg_host.specs.declared.lines.LineFault.{LineFault}
use Rattle.rg_host.specs.declared.lines.LineFault.TheVariants.{Read, Limit}
use Rattle.rg_host.proofs.LineLaws.{lines_of-nil, lines_of-none}

before-nil : (left : Option (List ℕ)) → before [] left ≡ left
before-nil (Some told) = refl
before-nil None = refl

before-before : (x y : List ℕ) (left : Option (List ℕ)) → before x (before y left) ≡ before (x ++ y) left
before-before x y (Some told) = ap (λ v. Some v) (sym (append_assoc x y told))
before-before x y None = refl

empty-before : (x y : List ℕ) → x ++ y ≡ [] → x ≡ []
empty-before [] y none = refl
empty-before (byte ∷ x) y none = absurd (cc)

empty-behind : (x y : List ℕ) → x ++ y ≡ [] → y ≡ []
empty-behind [] y none = none
empty-behind (byte ∷ x) y none = absurd (cc)

pub takes_nothing : (now : Reading) (left : Option (List ℕ)) → Takes now now left left
takes_nothing now left = record {
  got = [];
  took = sym (before-nil left);
  count = omega arith;
  same = λ rest. ap (λ v. lines_of (v ++ rest)) (sym (append-nil now.pending));
  spent = omega arith;
  ended = refl;
}

pub takes_then : (old mid new : Reading) (left mid_left now : Option (List ℕ)) → Takes old mid left mid_left → Takes mid new mid_left now → Takes old new left now
takes_then old mid new left mid_left now first second =
    let joined : (old.pending ++ first.got) ++ second.got ≡ old.pending ++ (first.got ++ second.got) = append_assoc old.pending first.got second.got in
    record {
      got = first.got ++ second.got;
      took = first.took ∙ ap (before first.got) second.took ∙ before-before first.got second.got now;
      count = omega (arith, first.count, second.count, length-append first.got second.got);
      same = λ rest. second.same rest ∙ ap lines_of (append_assoc mid.pending second.got rest) ∙ first.same (second.got ++ rest)
          ∙ ap lines_of (sym (append_assoc (old.pending ++ first.got) second.got rest) ∙ ap (λ v. v ++ rest) joined);
      spent = omega (arith, first.spent, second.spent);
      ended = second.ended ∙ first.ended;
    }

abbrev found_end : Found
found_end = found.End

-- where nothing comes behind them, what was taken has the lines that it had
lines_taken : (old mid : Reading) (left now : Option (List ℕ)) (takes : Takes old mid left now) → lines_of (old.pending ++ takes.got) ≡ lines_of mid.pending
lines_taken old mid left now takes =
    ap lines_of (sym (append-nil (old.pending ++ takes.got))) ∙ sym (takes.same []) ∙ ap lines_of (append-nil mid.pending)

-- a line was found, and this answer hands it out
next_item : (old mid new : Reading) (left now : Option (List ℕ)) (line : Line) (item : Option (List ℕ)) → handed line ≡ Some item →
    (takes : Takes old mid left now) → mid.taken ≤ 2 ^ 50 → old.ended ≡ false → new.taken ≡ mid.taken → mid.spent < new.spent → new.spent ≤ new.taken →
    HandsOut (old.pending ++ takes.got) item new now → Next old new left now (Ok line)
next_item old mid new left now line item is takes within going taken spent spent_within hands_out = record {
  got = takes.got;
  past = [];
  took = rw (append-nil takes.got) takes.took;
  count = rw (append-nil takes.got) (taken ∙ takes.count);
  none_past = inl refl;
  one_past = omega arith;
  most = omega (arith, taken, within);
  line = subst (λ found. MatchOption found ((old.pending ++ takes.got ≡ []) × (old.ended ≡ false → IsAtEnd now))
      (λ item. HandsOut (old.pending ++ takes.got) item new now)) (sym is) hands_out;
  nothing_lost = λ refused. absurd (cc);
  no_line_held = λ refused. absurd (cc);
  limit = (λ refused. absurd (cc), λ over. absurd (omega (arith, taken, within)));
  spent = subst (λ found. MatchOption found (new.spent ≡ old.spent) (λ _. old.spent < new.spent)) (sym is) (omega (arith, takes.spent, spent));
  within = omega (arith, spent_within, taken, within);
  ended = subst (λ found. MatchOption found (new.ended ≡ true) (λ _. old.ended ≡ false)) (sym is) going;
  end_stays = λ at_end. absurd (cc);
  limit_stays = λ over. absurd (omega (arith, takes.count, within));
}

next_cut : (old mid new : Reading) (left now : Option (List ℕ)) (line : Line) (item : Option (List ℕ)) → handed line ≡ Some item →
    Takes old mid left now → mid.taken ≤ 2 ^ 50 → old.ended ≡ false → Cuts mid new item → Next old new left now (Ok line)
next_cut old mid new left now line item is takes within going cuts =
    let still : new.ended ≡ false = cuts.ended ∙ takes.ended ∙ going in
    next_item old mid new left now line item is takes within going cuts.taken cuts.spent cuts.within (record {
      first = λ _ rest. sym (takes.same rest) ∙ cuts.line rest;
      last = λ ended. absurd (cc);
    })

next_cut_last : (old mid new : Reading) (left now : Option (List ℕ)) (line : Line) (item : Option (List ℕ)) → handed line ≡ Some item →
    Takes old mid left now → mid.taken ≤ 2 ^ 50 → old.ended ≡ false → IsAtEnd now → CutsLast mid new item → Next old new left now (Ok line)
next_cut_last old mid new left now line item is takes within going at_end cuts =
    next_item old mid new left now line item is takes within going cuts.taken cuts.spent cuts.within (record {
      first = λ still. absurd (cc cuts.ended);
      last = λ ended. (lines_taken old mid left now takes ∙ cuts.line, cuts.nothing_left, at_end);
    })

-- a line that has come whole was found
pub loads_found : (old mid new : Reading) (line : List ℕ) (left now : Option (List ℕ)) (found : Found) → Takes old mid left now → mid.taken ≤ 2 ^ 50 → old.ended ≡ false →
    MatchOption (handed_by found line) ⊥ (λ item. Cuts mid new item) → Loads old new line left now (Ok found)
loads_found old mid new line left now found.Text takes within going cuts = λ text is. next_cut old mid new left now (Text text) (Some line) (ap (λ v. Some (Some v)) is) takes within going cuts
loads_found old mid new line left now found.Long takes within going cuts = next_cut old mid new left now Long None refl takes within going cuts
loads_found old mid new line left now found.End takes within going cuts = absurd cuts

-- the end was reached, and nothing is left
next_end : (old mid new : Reading) (left now : Option (List ℕ)) → Takes old mid left now → mid.taken ≤ 2 ^ 50 → (old.pending ≡ [] → old.spent ≡ old.taken) → old.ended ≡ false → IsAtEnd now →
    mid.pending ≡ [] → new.spent ≡ new.taken → new ≡ record mid { ended = true } → Next old new left now (Ok End)
next_end old mid new left now takes within all_spent going at_end empty spent is =
    let nothing : old.pending ++ takes.got ≡ [] = lines_of-none (old.pending ++ takes.got) (lines_taken old mid left now takes ∙ ap lines_of empty ∙ lines_of-nil) in
    let no_got : takes.got ≡ [] = empty-behind old.pending takes.got nothing in
    let taken : new.taken ≡ old.taken = ap (λ (r : Reading). r.taken) is ∙ takes.count ∙ ap (λ (got : List ℕ). old.taken + length got) no_got ∙ add-zero old.taken in
    record {
      got = takes.got;
      past = [];
      took = rw (append-nil takes.got) takes.took;
      count = rw (append-nil takes.got) (ap (λ (r : Reading). r.taken) is ∙ takes.count);
      none_past = inl refl;
      one_past = omega arith;
      most = omega (arith, ap (λ (r : Reading). r.taken) is, within);
      line = (nothing, λ _. at_end);
      nothing_lost = λ refused. absurd (cc);
      no_line_held = λ refused. absurd (cc);
      limit = (λ refused. absurd (cc), λ over. absurd (omega (arith, ap (λ (r : Reading). r.taken) is, within)));
      spent = omega (arith, spent, taken, all_spent (empty-before old.pending takes.got nothing));
      within = omega (arith, ap (λ (r : Reading). r.taken) is, within, spent);
      ended = ap (λ (r : Reading). r.ended) is;
      end_stays = λ ended. absurd (cc);
      limit_stays = λ over. absurd (omega (arith, takes.count, within));
    }

-- the end was reached, and what is left is the last line
pub loads_finished : (old mid new : Reading) (line : List ℕ) (left now : Option (List ℕ)) (found : Found) → Takes old mid left now → mid.taken ≤ 2 ^ 50 → (old.pending ≡ [] → old.spent ≡ old.taken) → old.ended ≡ false →
    IsAtEnd now → MatchOption (handed_by found line) (mid.pending ≡ []) (λ item. CutsLast mid new item) → (found ≡ found_end → new.spent ≡ new.taken) → (found ≡ found_end → new ≡ record mid { ended = true }) →
    Loads old new line left now (Ok found)
loads_finished old mid new line left now found.Text takes within all_spent going at_end cuts spent end = λ text is. next_cut_last old mid new left now (Text text) (Some line) (ap (λ v. Some (Some v)) is) takes within going at_end cuts
loads_finished old mid new line left now found.Long takes within all_spent going at_end cuts spent end = next_cut_last old mid new left now Long None refl takes within going at_end cuts
loads_finished old mid new line left now found.End takes within all_spent going at_end cuts spent end = next_end old mid new left now takes within all_spent going at_end cuts (spent refl) (end refl)

-- a read failed
next_read : (old new : Reading) (left now : Option (List ℕ)) → Takes old new left now → new.taken ≤ 2 ^ 50 → old.ended ≡ false → HasNoLf new.pending → Next old new left now (Err Read)
next_read old new left now takes within going no_lf = record {
  got = takes.got;
  past = [];
  took = rw (append-nil takes.got) takes.took;
  count = rw (append-nil takes.got) takes.count;
  none_past = inl refl;
  one_past = omega arith;
  most = omega (arith, within);
  line = tt;
  nothing_lost = λ refused rest. takes.same rest;
  no_line_held = λ refused. no_lf;
  limit = (λ refused. absurd (cc), λ over. absurd (omega (arith, within)));
  spent = tt;
  within = tt;
  ended = takes.ended;
  end_stays = λ ended. absurd (cc);
  limit_stays = λ over. absurd (omega (arith, takes.count, within));
}

-- a byte past the limit came
next_limit : (old mid new : Reading) (left mid_left now : Option (List ℕ)) → Takes old mid left mid_left → mid.taken ≤ 2 ^ 50 → old.ended ≡ false → HasNoLf mid.pending →
    Oversteps mid new mid_left now → Next old new left now (Err Limit)
next_limit old mid new left mid_left now takes within going no_lf over = record {
  got = takes.got;
  past = over.past;
  took = takes.took ∙ ap (before takes.got) over.took ∙ before-before takes.got over.past now;
  count = omega (arith, takes.count, over.count, length-append takes.got over.past);
  none_past = inr refl;
  one_past = over.one;
  most = omega (arith, over.count, over.one, within);
  line = tt;
  nothing_lost = λ refused rest. ap (λ v. lines_of (v ++ rest)) over.pending ∙ takes.same rest;
  no_line_held = λ refused. rw over.pending no_lf;
  limit = (λ refused. over.over, λ past. refl);
  spent = tt;
  within = tt;
  ended = over.ended ∙ takes.ended;
  end_stays = λ ended. absurd (cc);
  limit_stays = λ past. absurd (omega (arith, takes.count, within));
}

-- no more bytes came, and the call that asked for them says why
pub next_refused : (old mid new : Reading) (left mid_left now : Option (List ℕ)) (fault : LineFault) → Takes old mid left mid_left → mid.taken ≤ 2 ^ 50 → old.ended ≡ false → HasNoLf mid.pending →
    Asks mid new mid_left now (Err fault) → Next old new left now (Err fault)
next_refused old mid new left mid_left now Read takes within going no_lf asks =
    next_read old new left now (takes_then old mid new left mid_left now takes asks.0) asks.1 going asks.2
next_refused old mid new left mid_left now Limit takes within going no_lf asks = next_limit old mid new left mid_left now takes within going no_lf asks

-- a look that found nothing has changed nothing
pub asks_from : (looked mid : Scan) (new : Reading) (left now : Option (List ℕ)) (result asked : Result Bool LineFault) → looked ≡ mid → asked ≡ result →
    Asks looked.reading new left now asked → Asks mid.reading new left now result
asks_from looked mid new left now result asked same is asks =
    subst (λ r. Asks mid.reading new left now r) is (subst (λ (s : Scan). Asks s.reading new left now asked) same asks)

-- nothing is done after the end
pub next_ended : (now : Reading) (left : Option (List ℕ)) → now.ended ≡ true → now.pending ≡ [] → now.taken ≤ 2 ^ 50 → now.spent ≤ now.taken → Next now now left left (Ok End)
next_ended now left ended empty within spent = record {
  got = [];
  past = [];
  took = sym (before-nil left);
  count = sym (add-zero now.taken);
  none_past = inl refl;
  one_past = omega arith;
  most = omega (arith, within);
  line = (rw (append-nil now.pending) empty, λ going. absurd (cc));
  nothing_lost = λ refused. absurd (cc);
  no_line_held = λ refused. absurd (cc);
  limit = (λ refused. absurd (cc), λ over. absurd (omega (arith, within)));
  spent = refl;
  within = omega (arith, spent, within);
  ended = ended;
  end_stays = λ at_end. (refl, refl, refl);
  limit_stays = λ over. absurd (omega (arith, within));
}

-- nothing is done after the limit
pub next_stopped : (now : Reading) (left : Option (List ℕ)) → 2 ^ 50 < now.taken → now.taken ≤ 2 ^ 50 + 1 → now.ended ≡ false → HasNoLf now.pending → Next now now left left (Err Limit)
next_stopped now left over within going no_lf = record {
  got = [];
  past = [];
  took = sym (before-nil left);
  count = sym (add-zero now.taken);
  none_past = inl refl;
  one_past = omega arith;
  most = within;
  line = tt;
  nothing_lost = λ refused rest. ap (λ v. lines_of (v ++ rest)) (sym (append-nil now.pending));
  no_line_held = λ refused. no_lf;
  limit = (λ refused. over, λ past. refl);
  spent = tt;
  within = tt;
  ended = refl;
  end_stays = λ ended. absurd (cc);
  limit_stays = λ past. (refl, refl, refl);
}
