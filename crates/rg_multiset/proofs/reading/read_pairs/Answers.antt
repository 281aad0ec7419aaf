use Rattle.std.proofs.Common.{◌≡◌, ◌∙◌, ◌++◌, ◌∷◌, [], ℕ, Bool, List, Ok, ap, subst, length, length-append, arith, rules}
use Rattle.rg_event.specs.declared.value.Value.{Value}
use Rattle.rg_multiset.specs.Reading.{pair_at}
use Rattle.rg_multiset.proofs.ReadPairs.{pushed_tally, step_to_come, step_taken}
use Rattle.rg_multiset.proofs.reading.read_pairs.Goals as goal

pub loop-done-preserved : goal.loop-done-preserved
loop-done-preserved g c =
    let v = c.loop-done.invariant in
    let below = g.P.PairList.below c.args.list in
    let most = g.P.PairList.most c.args.list in
    let old = g.P.PairList.pairs c.loop-done.made in
    let new = g.P.PairList.pairs c.push.new.self in
    let pair : Value × ℕ = (g.P.PairList.value_of c.in_ok-pair.pair.0, c.in_ok-pair.pair.1) in
    let pushed : new ≡ old ++ pair ∷ [] = c.in-Ok.ensures.ok in
    let read : pair_at g.P.PairList.value_at below most old c.loop-done.from ≡ Ok (pair, c.read_pair.new.from) =
    subst (λ n. pair_at g.P.PairList.value_at below n old c.loop-done.from ≡ Ok (pair, c.read_pair.new.from)) v.most
    (subst (λ (order : Value → Value → Bool). pair_at g.P.PairList.value_at order (g.P.PairList.most c.loop-done.made) old c.loop-done.from ≡ Ok (pair, c.read_pair.new.from)) v.order c.in_ok-pair.ensures.agrees) in
    record {
      order = c.in-Ok.ensures.order ∙ v.order;
      most = c.in-Ok.ensures.most ∙ v.most;
      counted = omega (arith, ap length pushed, length-append old (pair ∷ []), v.counted);
      to_come = step_to_come most g.P.PairList.value_at below old new pair c.args.count c.loop-done.done c.args.from.now c.loop-done.from c.read_pair.new.from pushed (search rules) v.to_come read;
      taken = step_taken old new pair c.args.from.now c.loop-done.from c.read_pair.new.from pushed v.taken c.in_ok-pair.ensures.ok;
      sound = pushed_tally g.P.PairList.legal below g.P.PairList.below g.P.PairList.most c.args.list c.loop-done.made old new pair v.order v.most c.requires.few v.sound c.in_ok-pair.ensures.legal c.in_ok-pair.ensures.behind c.in_ok-pair.ensures.counted pushed;
    }
