use Rattle.std.proofs.Common.{◌∙◌, ℕ, refl, sym, subst, arith}
use Rattle.std.specs.List.{Contains}
use Rattle.rg_key_index.specs.Index.{bucket_in}
use Rattle.rg_key_index.proofs.Buckets.{stays_guessed, stands_among, comes, same_slot}
use Rattle.rg_key_index.proofs.index.SlotIndex.remove_guess.Goals as goal

pub returns-clause-was : goal.returns-clause-was
returns-clause-was c = (
  λ _.
      let buckets = c.args.self.now.buckets.items in
      (omega arith, subst (λ (guess : ℕ). Contains (bucket_in buckets c.args.mix) guess) c.guess_of.ensures (stands_among buckets c.args.mix c.guess_of.result c.in-Some.place c.in-Some.ensures.found)),
  λ _. refl,
)

pub returns-clause-emptied : goal.returns-clause-emptied
returns-clause-emptied c = λ _. (omega arith, comes c.args.self.now.buckets.items c.args.mix c.guess_of.result c.in-Some.place 4294967295 c.in-Some.ensures.found)

pub returns-clause-others : goal.returns-clause-others
returns-clause-others c = λ m s apart.
    stays_guessed c.args.self.now.buckets.items c.in-Some.place 4294967295 m s
    (λ small same. apart (sym (same_slot c.args.mix m c.args.slot s (omega arith) small (sym c.guess_of.ensures ∙ sym c.in-Some.ensures.found.is ∙ same))))
