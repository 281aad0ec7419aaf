use Rattle.std.proofs.Common.{◌∙◌, ap, refl, sym, arith}
use Rattle.std.proofs.lemmas.Result.{on_err_weaker, on_ok_weaker}
use Rattle.rg_agg.specs.Numbers.{value_of}
use Rattle.rg_extreme.specs.States.{pairs_in}
use Rattle.rg_extreme.proofs.Firsts.{beaten_first, kept_first}
use Rattle.rg_extreme.proofs.Removals.{less_beaten, less_first, no_beaten, no_first, unlike, err_both, ok_both, no_more, as_many}
use Rattle.rg_extreme.proofs.deque.Deque.remove.Goals as goal

pub returns-then-not-is_like : goal.returns-then-not-is_like
returns-then-not-is_like c = record {
  sound = c.requires;
  ok = tt;
  size = tt;
  begins = tt;
  pairs = omega arith;
  unfit = λ values stands.
      unlike c.args.side c.args.self.now.size (pairs_in c.args.self.now) (value_of c.in-Some-first_of.first) c.args.value.now (value_of c.in-Some.number) values c.in-Some-first_of.ensures (sym c.is_like.ensures ∙ c.if-not-is_like.true) c.in-Some.ensures.same stands;
  err = refl;
}

pub returns-then-is_same : goal.returns-then-is_same
returns-then-is_same c =
    let self = c.args.self.now in
    let new = c.remove_first.new.self in
    let first = value_of c.in-Some-first_of.first in
    let is_first = c.in-Some-first_of.ensures in
    let number = value_of c.in-Some.number in
    let is = sym c.is_same.ensures ∙ c.if-is_same.true in
    let same = c.in-Some.ensures.same in
    let taken = c.remove_first.ensures in
    record {
      sound = taken.sound;
      ok = ok_both c.remove_first.result taken.pairs taken.size (λ less one values stands. less_first c.args.side self.size new.size (pairs_in self) _ first c.args.value.now number values is_first is same one less stands);
      size = taken.size;
      begins = on_ok_weaker c.remove_first.result (λ may. kept_first c.args.side self.size self.kept (pairs_in self) first c.args.value.now number is_first is same c.requires may) taken.may;
      pairs = no_more c.remove_first.result (pairs_in self) (pairs_in new) taken.pairs (on_err_weaker c.remove_first.result (ap pairs_in) taken.err);
      unfit = err_both c.remove_first.result taken.more taken.none (λ more none values stands. no_first c.args.side self.size self.kept (pairs_in self) first c.args.value.now number values is_first is same c.requires more none stands);
      err = taken.err;
    }

pub returns-else-is_same : goal.returns-else-is_same
returns-else-is_same c =
    let self = c.args.self.now in
    let new = c.remove_beaten.new.self in
    let first = value_of c.in-Some-first_of.first in
    let is_first = c.in-Some-first_of.ensures in
    let number = value_of c.in-Some.number in
    let is = sym c.is_same.ensures ∙ c.if-is_same.false in
    let same = c.in-Some.ensures.same in
    let like = sym c.is_like.ensures ∙ c.if-not-is_like.false in
    let taken = c.remove_beaten.ensures in
    record {
      sound = taken.sound;
      ok = ok_both c.remove_beaten.result taken.pairs taken.size (λ stay one values stands. less_beaten c.args.side self.size new.size (pairs_in self) _ first c.args.value.now number values is_first is same one stay stands);
      size = taken.size;
      begins = ok_both c.remove_beaten.result taken.more taken.beaten (λ more over. beaten_first c.args.side self.size self.kept (pairs_in self) first c.args.value.now number is_first same like c.in-Some.ensures.legal c.requires more over);
      pairs = as_many c.remove_beaten.result (pairs_in self) (pairs_in new) taken.pairs (on_err_weaker c.remove_beaten.result (ap pairs_in) taken.err);
      unfit = on_err_weaker c.remove_beaten.result (λ why values stands. no_beaten c.args.side self.size self.kept (pairs_in self) first c.args.value.now number values is_first is same c.requires why stands) taken.unfit;
      err = taken.err;
    }
