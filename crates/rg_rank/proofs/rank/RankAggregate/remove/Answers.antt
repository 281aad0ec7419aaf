use Rattle.std.proofs.Common.{◌≡◌, ◌∷◌, refl, ap, sym, subst}
use Rattle.rg_agg.specs.Numbers.{value_of}
use Rattle.rg_agg.specs.Standing.{AreCounts}
use Rattle.rg_agg.specs.Stands.{IsNumber}
use Rattle.rg_agg.specs.Unbeaten.{is_less}
use Rattle.rg_multiset.specs.Pairs.{IsTally}
use Rattle.rg_multiset.proofs.Laws.{counts_less, legal_first}
use Rattle.rg_rank.specs.Ranks.{IsTally-numbers}
use Rattle.rg_rank.specs.Shapes.{Shape, listed}
use Rattle.rg_rank.specs.declared.rank.Rank.{Rank}
use Rattle.rg_rank.proofs.States.{IsRemoved, not_there, removed}
use Rattle.rg_rank.proofs.Tallies.{counts_first, tally_less}
use Rattle.rg_rank.proofs.rank.RankAggregate.remove.Goals as goal

pub returns-in_default-clause-unfit : goal.returns-in_default-clause-unfit
returns-in_default-clause-unfit c = λ values counts. c.in_default.ensures.none refl (legal_first IsNumber (listed c.args.self.now.tree) c.args.value.now values c.args.self.now.sound.alike counts)

pub invariant_of-self : goal.invariant_of-self
invariant_of-self c = record { sound = subst (IsTally IsNumber is_less) (sym c.remove.ensures.pairs) (tally_less (value_of c.in-Some.number) (listed c.args.self.now.tree) c.args.self.now.sound) }

pub returns-then-not-remove-clause-unfit : goal.returns-then-not-remove-clause-unfit
returns-then-not-remove-clause-unfit c = λ values counts.
    let tree = listed c.args.self.now.tree in
    not_there (value_of c.in-Some.number) tree c.remove.result values c.args.self.now.sound c.remove.ensures.was_there c.if-not-remove.true (subst (λ v. AreCounts tree (v ∷ values)) (sym c.in-Some.ensures.same) counts)

-- a state that keeps the same is the same
same_rank : (old : Rank) (tree : Shape) (sound : IsTally IsNumber is_less (listed tree)) → tree ≡ old.tree → record { tree = tree; alloc = old.alloc; sound = sound } ≡ old
same_rank old tree sound same =
    let make : (t : Shape) → IsTally IsNumber is_less (listed t) → Rank = λ t s. record { tree = t; alloc = old.alloc; sound = s } in
    let P : Shape → Type 0 = λ t. (s : IsTally IsNumber is_less (listed t)) → make t s ≡ old in
    subst P (sym same) (λ s. ap (λ q. make old.tree q) (IsTally-numbers (listed old.tree) s old.sound)) sound

pub returns-then-not-remove-clause-err : goal.returns-then-not-remove-clause-err
returns-then-not-remove-clause-err c = same_rank c.args.self.now c.remove.new.self _ (c.remove.ensures.same c.if-not-remove.true)

-- what the removal did
gone : (c : goal.Else-not-remove) → IsRemoved c.args.value.now (listed c.args.self.now.tree) (listed c.remove.new.self)
gone c =
    let tree = listed c.args.self.now.tree in
    subst (λ v. IsRemoved v tree (listed c.remove.new.self)) c.in-Some.ensures.same (removed (value_of c.in-Some.number) tree (listed c.remove.new.self) c.remove.result c.in-Some.ensures.legal (c.if-not-is_of_kind.ensures.like refl) c.args.self.now.sound c.remove.ensures.was_there c.remove.ensures.pairs c.if-not-remove.false)

pub returns-clause-ok : goal.returns-clause-ok
returns-clause-ok c = λ values counts. counts_less IsNumber is_less c.args.value.now (listed c.remove.new.self) (listed c.args.self.now.tree) values (gone c).one (gone c).sound counts

pub returns-clause-size : goal.returns-clause-size
returns-clause-size c = (gone c).one.size

pub returns-clause-begins : goal.returns-clause-begins
returns-clause-begins c = counts_first c.args.value.now (listed c.remove.new.self) (listed c.args.self.now.tree) (gone c).one (gone c).sound c.args.self.now.sound
