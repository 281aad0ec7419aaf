use Rattle.std.proofs.Common.{◌≡◌, ℕ, Bool, List, Some, ◌∙◌, ap, sym, arith}
use Rattle.std.specs.Map.{lookup, set_value, remove_entry}
use Rattle.rg_event.specs.declared.value.Kind.TheVariants.{Int}
use Rattle.rg_multiset.specs.Pairs.{pairs_by}
use Rattle.rg_multiset.proofs.Counting.{none_there, some_above, set_same, lowered, removed}
use Rattle.rg_multiset.proofs.Kept.{set_are, remove_are, some_kind}
use Rattle.rg_multiset.proofs.map.remove_in.Goals as goal

pub lower-is_last-requires : goal.lower-is_last-requires
lower-is_last-requires g c =
    let f = g.K.Ranked.value_of in
    let entries = c.args.map.now.entries in
    let kind = some_kind g.K.Ranked.legal (pairs_by f entries) Int c.requires in
    some_above f g.K.Ranked.legal kind.0 _ c.in-Some.count.now entries kind.1 (sym c.in-Some.ensures.value)

pub returns-in-None-clause-none : goal.returns-in-None-clause-none
returns-in-None-clause-none g c = λ _. none_there g.K.Ord.cmp g.K.Ranked.value_of g.met.K.Ranked.tells c.args.key.now c.args.map.now.entries (sym c.in-None.ensures.value)

-- what is lent holds the count that it held
same_entries : {K : Type 0} (test : K → Bool) (n m : ℕ) (es lent new : List (K × ℕ)) → lookup test es ≡ Some n → m ≡ n → lent ≡ set_value test es m → new ≡ remove_entry test lent → new ≡ remove_entry test es
same_entries test n m es lent new some same is gone = gone ∙ ap (remove_entry test) (is ∙ ap (set_value test es) same ∙ set_same test n es some)

pub returns-then-is_last-clause-there : goal.returns-then-is_last-clause-there
returns-then-is_last-clause-there g c = λ _.
    let n = c.in-Some.count.now in
    let entries = c.args.map.now.entries in
    let last = c.lower-is_last.ensures.last c.if-is_last.true in
    let some = sym c.in-Some.ensures.value in
    removed g.K.Ord.cmp g.K.Ranked.value_of g.met.K.Ranked.tells c.args.key.now entries c.remove.new.self.entries (some ∙ ap (λ k. Some k) last.0)
    (same_entries _ n c.lower-is_last.new.count entries _ _ some last.1 (c.get_mut.follows.holds c.lower-is_last.new.count).0 c.remove.ensures.entries) c.remove.ensures.updates.1

pub returns-then-is_last-clause-kept : goal.returns-then-is_last-clause-kept
returns-then-is_last-clause-kept g c = λ kind are.
    let f = g.K.Ranked.value_of in
    let n = c.in-Some.count.now in
    let entries = c.args.map.now.entries in
    let last = c.lower-is_last.ensures.last c.if-is_last.true in
    rw (same_entries _ n c.lower-is_last.new.count entries _ _ (sym c.in-Some.ensures.value) last.1 (c.get_mut.follows.holds c.lower-is_last.new.count).0 c.remove.ensures.entries) (remove_are f g.K.Ranked.legal kind _ entries are)

pub returns-else-is_last-clause-there : goal.returns-else-is_last-clause-there
returns-else-is_last-clause-there g c = λ _.
    let more = c.lower-is_last.ensures.more c.if-is_last.false in
    lowered g.K.Ord.cmp g.K.Ranked.value_of g.met.K.Ranked.tells c.args.key.now c.in-Some.count.now c.lower-is_last.new.count c.args.map.now.entries _ (sym c.in-Some.ensures.value) (omega (arith, more.0, more.1)) (c.get_mut.follows.holds c.lower-is_last.new.count).0

pub returns-else-is_last-clause-kept : goal.returns-else-is_last-clause-kept
returns-else-is_last-clause-kept g c = λ kind are.
    let more = c.lower-is_last.ensures.more c.if-is_last.false in
    rw ((c.get_mut.follows.holds c.lower-is_last.new.count).0) (set_are g.K.Ranked.value_of g.K.Ranked.legal kind _ c.lower-is_last.new.count c.args.map.now.entries (omega (arith, more.0, more.1)) are)
