use Rattle.std.proofs.Common.{◌+◌, sym, arith, rules}
use Rattle.rg_multiset.proofs.Counting.{none_there, some_most, raised}
use Rattle.rg_multiset.proofs.Kept.{set_are}
use Rattle.rg_multiset.proofs.map.raise.Goals as goal

pub overflow_add-count : goal.overflow_add-count
overflow_add-count g c = omega (arith, some_most g.K.Ranked.value_of _ c.in-Some.count.now c.args.map.now.entries (sym c.in-Some.ensures.value), c.requires)

pub returns-in-Some : goal.returns-in-Some
returns-in-Some g c =
    let is = (c.get_mut.follows.holds (c.in-Some.count.now + 1)).0 in
    record {
      there = λ _. raised g.K.Ord.cmp g.K.Ranked.value_of g.met.K.Ranked.tells c.args.key.now c.in-Some.count.now c.args.map.now.entries _ (sym c.in-Some.ensures.value) is;
      kept = λ kind are. rw is (set_are g.K.Ranked.value_of g.K.Ranked.legal kind _ (c.in-Some.count.now + 1) c.args.map.now.entries (omega arith) are);
      none = λ is. cc;
      absent = λ is. cc;
      same = λ is. cc;
      ordered = search rules;
    }

pub returns-in-None : goal.returns-in-None
returns-in-None g c = record {
  there = λ is. cc;
  kept = search rules;
  none = λ _. none_there g.K.Ord.cmp g.K.Ranked.value_of g.met.K.Ranked.tells c.args.key.now c.args.map.now.entries (sym c.in-None.ensures.value);
  absent = search rules;
  same = search rules;
  ordered = search rules;
}
