-- What other crates may cite of the lemmas of this one.
pub use Rattle.rg_recover.proofs.NewStore.{bare, bare_has, bare_truthful, new_host, no_payload}
pub use Rattle.rg_recover.proofs.TurnedAway.{none_alone, none_within}
