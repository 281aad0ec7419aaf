use Rattle.std.proofs.Common.{◌≡◌, ◌∷◌, true, nat_le, List, Some, sym, subst, arith}
use Rattle.std.proofs.lemmas.Bool.{and_parts, leb-true}
use Rattle.rg_agg.specs.Numbers.{value_of, is_kept}
use Rattle.rg_agg.specs.Stands.{IsEnd, is_int_or_id}
use Rattle.rg_event.specs.declared.value.Value.{Value}
use Rattle.rg_agg.proofs.Firsts.{end_first, end_other}
use Rattle.rg_agg.proofs.last.LastAggregate.remove.Goals as goal

pub returns-then-not-may_begin-clause-unfit : goal.returns-then-not-may_begin-clause-unfit
returns-then-not-may_begin-clause-unfit c = λ values stands.
    let n = c.args.self.now.count in
    let last = value_of c.in-Some-last.last in
    let kept : IsEnd n (Some last) (c.args.value.now ∷ values) = rw c.in-Some-last.is at stands in
    let P : Value → Type 0 = λ v. IsEnd n (Some last) (v ∷ values) in
    end_other n last (value_of c.in-Some.number) values c.may_begin.result c.may_begin.ensures c.if-not-may_begin.true (subst P (sym c.in-Some.ensures.same) kept)

pub returns-clause-begins : goal.returns-clause-begins
returns-clause-begins c =
    let n = c.args.self.now.count in
    let last = value_of c.in-Some-last.last in
    let kept : is_kept n (Some c.in-Some-last.last) ≡ true = rw c.in-Some-last.is at c.args.self.now.kept in
    let parts = and_parts (nat_le 1 n) (is_int_or_id last) kept in
    let P : Value → Type 0 = λ v. (values : List Value) × IsEnd n (Some last) (v ∷ values) in
    let found = end_first n last (value_of c.in-Some.number) c.may_begin.result (omega (arith, leb-true 1 n parts.0)) parts.1 c.in-Some.ensures.legal c.may_begin.ensures c.if-not-may_begin.false in
    rw c.in-Some-last.is (subst P c.in-Some.ensures.same found)
