-- What a change of one state does to its row, and to what is remembered of it.
use Rattle.std.proofs.Common.{◌≡◌, inl, inr, ℕ, zero, suc, ◌+◌, ◌<◌, ◌==◌, ◌&&◌, ◌||◌, not, cond, Bool, true, false, Option, Some, None, refl, ap, sym, ◌∙◌, subst, arith}
use Rattle.std.proofs.Common.{List, ◌∷◌, [], ◌++◌, length-append}
use Rattle.std.specs.Prelude.{is_some, IfErr, Result, Ok, Err}
use Rattle.std.proofs.lemmas.Result.{on_ok_weaker}
use Rattle.std.specs.Cmp.{first_so, second_so}
use Rattle.std.proofs.lemmas.Bool.Decides.{Decides-eqb}
use Rattle.rg_agg.specs.Held.{Held}
use Rattle.rg_agg.specs.Sharing.{kept_as}
use Rattle.rg_agg.specs.Standing.{size_in, func_of, Stands}
use Rattle.rg_event.specs.declared.value.Value.{Value}
use Rattle.rg_keywords.specs.declared.func.Func.{Func}
use Rattle.rg_state.specs.Kepts.{Seen, unseen, fresh, seen, shown, is_fair, is_idle, is_marked, IsMarked, Stepped}
use Rattle.rg_state.specs.Rows.{Changed, Suits, Counts, Unfit}
use Rattle.rg_state.specs.States.{held_of}
use Rattle.rg_state.specs.Stepping.{Comes, Drops, LacksRoom, Refuses, KeptStep}
use Rattle.rg_state.specs.declared.key_rows.Kept.{Kept}
use Rattle.rg_state.specs.declared.one.Refusal.{Refusal}
use Rattle.rg_state.specs.declared.one.Refusal.TheVariants as refusal
use Rattle.rg_state.specs.declared.state.AggState.{AggState}
use Rattle.rg_state.specs.declared.table.Change.{Change}
use Rattle.rg_state.specs.declared.table.Change.TheVariants.{Add, Remove}
use Rattle.rg_state.proofs.Sizes.{size_is, none_left}

is_false : (b : Bool) → (b ≡ true → ⊥) → b ≡ false
is_false true never = absurd (never refl)
is_false false never = refl

equal : (n : ℕ) → (n == 0) ≡ true → n ≡ 0
equal n is = (Decides-eqb n 0).0 is

unequal : (n : ℕ) → 0 < n → (n == 0) ≡ false
unequal n some = is_false (n == 0) (λ is. (let none : n ≡ 0 = equal n is in omega (arith, some, none)))

pub some_of : (n : ℕ) → (n == 0) ≡ false → 0 < n
some_of zero is = cc
some_of (suc n) is = omega arith

pub shown_some : (held : Held) → 0 < size_in held → shown held ≡ Some held
shown_some held some = ap (λ b. cond b None (Some held)) (unequal (size_in held) some)

pub shown_none : (held : Held) → (size_in held == 0) ≡ true → shown held ≡ None
shown_none held none = ap (λ b. cond b None (Some held)) none

pub shown_full : (held : Held) → (size_in held == 0) ≡ false → shown held ≡ Some held
shown_full held some = ap (λ b. cond b None (Some held)) some

pub none_shown : (held : Held) → shown held ≡ None → (size_in held == 0) ≡ true
none_shown held is = by (size_in held == 0) is
  where
    by : (b : Bool) → cond b None (Some held) ≡ None → b ≡ true
    by true is = refl
    by false is = cc

-- what is worth keeping

both_so : (a b : Bool) → a ≡ true → b ≡ true → (a && b) ≡ true
both_so true b one two = two
both_so false b one two = one

or_true : (a : Bool) → (a || true) ≡ true
or_true true = refl
or_true false = refl

not_of : (b : Bool) → b ≡ false → not b ≡ true
not_of b is = ap not is

pub false_of : (b : Bool) → not b ≡ true → b ≡ false
false_of true is = cc
false_of false is = refl

pub true_of : (b : Bool) → not b ≡ false → b ≡ true
true_of true is = refl
true_of false is = cc

pub marked_named : (kept : Kept) → kept.named ≡ true → is_marked kept ≡ true
marked_named kept is = ap (λ b. not kept.there || b) is ∙ or_true (not kept.there)

pub fair_by : (kept : Kept) → is_idle kept ≡ false → is_marked kept ≡ true → is_fair kept ≡ true
fair_by kept busy marked = both_so _ _ (not_of (is_idle kept) busy) marked

pub fair_some : (kept : Kept) → 0 < size_in (held_of kept.state) → is_marked kept ≡ true → is_fair kept ≡ true
fair_some kept some marked = fair_by kept (ap (λ b. b && not kept.there) (unequal (size_in (held_of kept.state)) some)) marked

pub fair_marked : (kept : Kept) → is_fair kept ≡ true → is_marked kept ≡ true
fair_marked kept fair = second_so (not (is_idle kept)) _ fair

there_by : (none there : Bool) → (none && not there) ≡ false → none ≡ true → there ≡ true
there_by true true idle is = refl
there_by true false idle is = cc
there_by false there idle is = cc

-- a row that is gone was there
pub there_gone : (kept : Kept) → is_fair kept ≡ true → (size_in (held_of kept.state) == 0) ≡ true → kept.there ≡ true
there_gone kept fair none = there_by (size_in (held_of kept.state) == 0) kept.there (false_of (is_idle kept) (first_so _ _ fair)) none

named_by : (there named : Bool) → (not there || named) ≡ true → there ≡ true → named ≡ true
named_by true named marked is = marked
named_by false named marked is = cc

-- and was named
pub named_gone : (kept : Kept) → is_fair kept ≡ true → (size_in (held_of kept.state) == 0) ≡ true → kept.named ≡ true
named_gone kept fair none = named_by kept.there kept.named (fair_marked kept fair) (there_gone kept fair none)

-- steps

module _ (func : Func) (value : Value) (old new : Seen) where
  pub stepped_begun : (held : Held) → old.held ≡ None → old.named ≡ true → new.held ≡ Some held → new.named ≡ old.named → new.there ≡ old.there → Changed func Add value None (Some held) → func_of held ≡ kept_as func → size_in held ≡ 1 → Stepped func Add value old new
  stepped_begun held none named is same_named same_there changed own size = record {
    changed = rw (none, is) changed;
    suits = rw none tt;
    own = rw is own;
    size = rw (none, is) (omega (arith, size));
    marks = record { named = inl (same_named ∙ named); there = same_there ∙ sym (ap (λ b. cond b old.there (is_some old.held)) named) };
  }

  there_is : (held : Held) → old.held ≡ Some held → new.there ≡ cond old.named old.there true → new.there ≡ cond old.named old.there (is_some old.held)
  there_is held was is = is ∙ ap (λ (o : Option Held). cond old.named old.there (is_some o)) (sym was)

  pub stepped_added : (a b : Held) → old.held ≡ Some a → new.held ≡ Some b → new.named ≡ true → new.there ≡ cond old.named old.there true → Changed func Add value (Some a) (Some b) → Suits func Add value (Some a) → func_of b ≡ kept_as func → size_in b ≡ size_in a + 1 → Stepped func Add value old new
  stepped_added a b was is named there changed suits own size = record {
    changed = rw (was, is) changed;
    suits = rw was suits;
    own = rw is own;
    size = rw (was, is) size;
    marks = record { named = inl named; there = there_is a was there };
  }

  taken_by : (a b : Held) (none : Bool) → (size_in b == 0) ≡ none → old.held ≡ Some a → new.held ≡ cond none None (Some b) → new.named ≡ true → new.there ≡ cond old.named old.there true → Suits func Remove value (Some a)
      → (0 < size_in b → Changed func Remove value (Some a) (Some b)) → (size_in b ≡ 0 → Changed func Remove value (Some a) None) → func_of b ≡ kept_as func → size_in a ≡ size_in b + 1 → Stepped func Remove value old new
  taken_by a b true empty was is named there suits changed emptied own size = record {
    changed = rw (was, is) (emptied (equal (size_in b) empty));
    suits = rw was suits;
    own = rw is tt;
    size = rw (was, is) (omega (arith, size, equal (size_in b) empty));
    marks = record { named = inl named; there = there_is a was there };
  }
  taken_by a b false full was is named there suits changed emptied own size = record {
    changed = rw (was, is) (changed (some_of (size_in b) full));
    suits = rw was suits;
    own = rw is own;
    size = rw (was, is) size;
    marks = record { named = inl named; there = there_is a was there };
  }

  pub stepped_taken : (a b : Held) → old.held ≡ Some a → new.held ≡ shown b → new.named ≡ true → new.there ≡ cond old.named old.there true → Suits func Remove value (Some a)
      → (0 < size_in b → Changed func Remove value (Some a) (Some b)) → (size_in b ≡ 0 → Changed func Remove value (Some a) None) → func_of b ≡ kept_as func → size_in a ≡ size_in b + 1 → Stepped func Remove value old new
  stepped_taken a b was is named there suits changed emptied own size = taken_by a b (size_in b == 0) refl was is named there suits changed emptied own size

-- a row that is gone, and wasn't there, needn't be remembered
pub stepped_forgotten : (func : Func) (change : Change) (value : Value) (old new : Seen) → new.held ≡ None → new.there ≡ false → Stepped func change value old new → Stepped func change value old unseen
stepped_forgotten func change value old new none not_there is = record {
  changed = subst (λ (o : Option Held). Changed func change value old.held o) none is.changed;
  suits = is.suits;
  own = tt;
  size = subst (λ (o : Option Held). Counts change old.held o) none is.size;
  marks = record { named = inr (refl, refl); there = sym not_there ∙ is.marks.there };
}

-- a row where there was none
pub stepped_fresh : (func : Func) (value : Value) (held : Held) → Changed func Add value None (Some held) → func_of held ≡ kept_as func → size_in held ≡ 1 → Stepped func Add value unseen (fresh held)
stepped_fresh func value held changed own size = record { changed = changed; suits = tt; own = own; size = omega (arith, size); marks = record { named = inl refl; there = refl } }

pub marked_fresh : (held : Held) → IsMarked unseen (fresh held)
marked_fresh held = record { named = inl refl; there = refl }

-- a row that is put where one was gone
pub marked_put : (old new : Seen) → old.named ≡ true → new.named ≡ old.named → new.there ≡ old.there → IsMarked old new
marked_put old new named same_named same_there = record { named = inl (same_named ∙ named); there = same_there ∙ sym (ap (λ b. cond b old.there (is_some old.held)) named) }

and_first : (a b : Bool) → (a && b) ≡ true → a ≡ true
and_first true b is = refl
and_first false b is = is

and_second : (a b : Bool) → (a && b) ≡ true → b ≡ true
and_second true b is = is
and_second false b is = cc

-- a row that isn't worth keeping is gone, and wasn't there
pub idle_gone : (kept : Kept) → is_idle kept ≡ true → (seen kept).held ≡ None
idle_gone kept idle = shown_none (held_of kept.state) (and_first _ _ idle)

pub idle_new : (kept : Kept) → is_idle kept ≡ true → (seen kept).there ≡ false
idle_new kept idle = false_of kept.there (and_second (size_in (held_of kept.state) == 0) _ idle)

-- nothing can be taken from no row
pub unfit_none : (func : Func) (value : Value) → Unfit func Remove value None
unfit_none func value = λ values is. cc

-- nor from an empty state
unfit_shown : (func : Func) (value : Value) (held : Held) → Unfit func Remove value (Some held) → Unfit func Remove value (shown held)
unfit_shown func value held is = by (size_in held == 0)
  where
    by : (b : Bool) → Unfit func Remove value (cond b None (Some held))
    by true = unfit_none func value
    by false = is

-- a state that keeps the same
pub fair_same : (a b : Kept) → held_of b.state ≡ held_of a.state → b.named ≡ a.named → b.there ≡ a.there → is_fair a ≡ true → is_fair b ≡ true
fair_same a b held named there fair = fair_by b (idle_same ∙ false_of (is_idle a) (first_so _ _ fair)) (marked_same ∙ fair_marked a fair)
  where
    idle_same : is_idle b ≡ is_idle a
    idle_same = ap (λ (h : Held). (size_in h == 0) && not b.there) held ∙ ap (λ (t : Bool). (size_in (held_of a.state) == 0) && not t) there

    marked_same : is_marked b ≡ is_marked a
    marked_same = ap (λ (t : Bool). not t || b.named) there ∙ ap (λ (n : Bool). not a.there || n) named

pub marked_same : (a b : Kept) → b.named ≡ a.named → b.there ≡ a.there → is_marked a ≡ true → is_marked b ≡ true
marked_same a b named there is = ap (λ (t : Bool). not t || b.named) there ∙ ap (λ (n : Bool). not a.there || n) named ∙ is

pub marked_clear : (kept : Kept) → kept.there ≡ false → is_marked kept ≡ true
marked_clear kept is = ap (λ (t : Bool). not t || kept.named) is

-- a state of the function's own, and what becomes of its row

added_row : (func : Func) (value : Value) (a b : Held) → func_of b ≡ kept_as func → ((values : List Value) → Stands a values → Stands b (values ++ value ∷ [])) → Changed func Add value (Some a) (Some b)
added_row func value a b own ok = λ values is. (own, ok values is.1, omega (arith, length-append values (value ∷ [])))

module _ (func : Func) (value : Value) (a b : Held) (own : func_of a ≡ kept_as func) where
  taken_row : func_of b ≡ func_of a → ((values : List Value) → Stands a (value ∷ values) → Stands b values) → 0 < size_in b → Changed func Remove value (Some a) (Some b)
  taken_row same ok some = λ values is. (same ∙ own, ok values is.1, subst (λ n. 0 < n) (size_is b values (ok values is.1)) some)

  emptied_row : ((values : List Value) → Stands a (value ∷ values) → Stands b values) → size_in b ≡ 0 → Changed func Remove value (Some a) None
  emptied_row ok none = λ values is. none_left b values (ok values is.1) (sym none)

-- why one value fewer is refused
drop_refused : (func : Func) (value : Value) (a b : Held) (cause : Refusal) → Drops value a b (Err cause) → Refuses func Remove value (Some a) cause
drop_refused func value a b cause is = λ values stands. is.unfit values stands.1

-- no value comes to a state of another function
pub other_refused : (func : Func) (value : Value) (a : Held) → (func_of a ≡ kept_as func → ⊥) → Comes func value a a (Err refusal.Unfit)
other_refused func value a other = record {
  suits = tt;
  own = tt;
  ok = tt;
  size = tt;
  refuses = (λ values stands few like. other stands.0, λ suits. other suits.0);
  room = λ own. absurd (other own);
  err = refl;
}

-- what comes to a state comes to it by each function that it serves
pub comes_as : (f g : Func) (value : Value) (old new : Held) (result : Result Unit Refusal) → kept_as f ≡ kept_as g → Comes f value old new result → Comes g value old new result
comes_as f g value old new result same is = record {
  suits = on_ok_weaker result (λ suits. (suits.0 ∙ same, suits.1, suits.2)) is.suits;
  own = on_ok_weaker result (λ own. own ∙ same) is.own;
  ok = is.ok;
  size = is.size;
  refuses = refused_as result is.refuses;
  room = room_as result is.room;
  err = is.err;
}
  where
    room_as : (result : Result Unit Refusal) → IfErr result (LacksRoom f value old) → IfErr result (LacksRoom g value old)
    room_as (Ok done) room = tt
    room_as (Err refusal.Memory) room = tt
    room_as (Err refusal.Unfit) room = λ own. room (own ∙ sym same)

    refused_as : (result : Result Unit Refusal) → IfErr result (Refuses f Add value (Some old)) → IfErr result (Refuses g Add value (Some old))
    refused_as (Ok done) refuses = tt
    refused_as (Err refusal.Memory) refuses = tt
    refused_as (Err refusal.Unfit) refuses =
        (λ values stands few like. refuses.0 values (stands.0 ∙ sym same, stands.1, stands.2) few like, λ suits. refuses.1 (suits.0 ∙ sym same, suits.1, suits.2))

-- a row that stays
abbrev pub with_state : Kept → AggState → Kept
with_state old st = record { node = old.node; named = old.named; there = old.there; state = st }

stays : (old : Kept) (st : AggState) → held_of st ≡ held_of old.state → seen (with_state old st) ≡ seen old
stays old st same = ap (λ held. record { held = shown held; named = old.named; there = old.there }) same

-- a row to which no value came
pub add_stays : (func : Func) (value : Value) (old : Kept) (st : AggState) (cause : Refusal) → (size_in (held_of old.state) == 0) ≡ false → Comes func value (held_of old.state) (held_of st) (Err cause) → KeptStep func Add value old (with_state old st) (Err cause)
add_stays func value old st cause full is = record { node = refl; stepped = tt; err = stays old st is.err; refuses = rw (shown_full (held_of old.state) full) is.refuses }

-- a row that is gone begins anew
pub kept_begun : (func : Func) (value : Value) (old : Kept) (st : AggState) → is_fair old ≡ true → (size_in (held_of old.state) == 0) ≡ true → Changed func Add value None (Some (held_of st)) → func_of (held_of st) ≡ kept_as func → size_in (held_of st) ≡ 1
    → KeptStep func Add value old (with_state old st) (Ok tt)
kept_begun func value old st fair none changed own size =
    let some : 0 < size_in (held_of st) = omega (arith, size) in
    record {
      node = refl;
      stepped = stepped_begun func value (seen old) _ (held_of st) (shown_none (held_of old.state) none) (named_gone old fair none) (shown_some (held_of st) some) refl refl changed own size;
      err = tt;
      refuses = tt;
    }

-- nothing is taken from a row of another function
pub take_refused : (func : Func) (value : Value) (old : Kept) → (func_of (held_of old.state) ≡ kept_as func → ⊥) → KeptStep func Remove value old old (Err refusal.Unfit)
take_refused func value old other = record { node = refl; stepped = tt; err = refl; refuses = unfit_shown func value (held_of old.state) (λ values stands. other stands.0) }

-- what a call on a row's own state does to the row, which is named then
module _ (func : Func) (value : Value) (old : Kept) where
  module _ (st : AggState) (new : Kept) (same : new.state ≡ st) (node : new.node ≡ old.node) (named : new.named ≡ true) (there : new.there ≡ cond old.named old.there true) where
    pub kept_added : (size_in (held_of old.state) == 0) ≡ false → Comes func value (held_of old.state) (held_of st) (Ok tt) → KeptStep func Add value old new (Ok tt)
    kept_added full is =
        let some : 0 < size_in (held_of st) = omega (arith, is.size) in
        record {
          node = node;
          stepped = stepped_added func value (seen old) (seen new) (held_of old.state) (held_of st) (shown_full (held_of old.state) full) (ap (λ s. shown (held_of s)) same ∙ shown_some (held_of st) some) named there
              (added_row func value (held_of old.state) (held_of st) is.own is.ok) is.suits is.own is.size;
          err = tt;
          refuses = tt;
        }

    pub kept_taken : func_of (held_of old.state) ≡ kept_as func → func_of (held_of st) ≡ func_of (held_of old.state) → Drops value (held_of old.state) (held_of st) (Ok tt) → KeptStep func Remove value old new (Ok tt)
    kept_taken own keeps is = record {
      node = node;
      stepped = stepped_taken func value (seen old) (seen new) (held_of old.state) (held_of st) (shown_some (held_of old.state) (omega (arith, is.size))) (ap (λ s. shown (held_of s)) same) named there
          (own, is.begins) (taken_row func value (held_of old.state) (held_of st) own keeps is.ok) (emptied_row func value (held_of old.state) (held_of st) own is.ok) (keeps ∙ own) is.size;
      err = tt;
      refuses = tt;
    }

  pub take_stays : (st : AggState) (cause : Refusal) → Drops value (held_of old.state) (held_of st) (Err cause) → KeptStep func Remove value old (with_state old st) (Err cause)
  take_stays st cause is = record { node = refl; stepped = tt; err = stays old st is.err; refuses = unfit_shown func value (held_of old.state) (drop_refused func value (held_of old.state) (held_of st) cause is) }
