-- What other crates may cite of the lemmas of this one.
pub use Rattle.rg_plan.proofs.Compiled.{is_named}
pub use Rattle.rg_plan.proofs.Members.{All-distinct}
pub use Rattle.rg_plan.proofs.Naming.{all_named, asked_back}
pub use Rattle.rg_plan.proofs.Sizes.{windows_measured}
