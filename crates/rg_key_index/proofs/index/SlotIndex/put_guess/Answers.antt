use Rattle.std.proofs.Common.{◌∙◌, ℕ, set, sym, subst, arith}
use Rattle.rg_key_index.specs.Index.{IsGuessed}
use Rattle.rg_key_index.proofs.Buckets.{stays_guessed, comes, never_empty}
use Rattle.rg_key_index.proofs.index.SlotIndex.put_guess.Goals as goal

pub returns-clause-held : goal.returns-clause-held
returns-clause-held c = λ _.
    let buckets = c.args.self.now.buckets.items in
    subst (λ (guess : ℕ). IsGuessed (set buckets c.in-Some.place guess) c.args.mix c.args.slot) (sym c.guess_of.ensures) (omega arith, comes buckets c.args.mix 4294967295 c.in-Some.place _ c.in-Some.ensures.found)

pub returns-clause-others : goal.returns-clause-others
returns-clause-others c = λ m s.
    stays_guessed c.args.self.now.buckets.items c.in-Some.place c.guess_of.result m s (λ small same. never_empty m s small (sym c.in-Some.ensures.found.is ∙ same))
