-- What other crates may cite of the lemmas of this one.
pub use Rattle.rg_state.proofs.Listed.{at_lists, is_place, joined, lists_at, lists_one, not_same, passed_over, place_is, rises_above, stands_first, tail_rising}
pub use Rattle.rg_state.proofs.ReadBack.{state_read_back}
pub use Rattle.rg_state.proofs.Settled.{keep_same}
pub use Rattle.rg_state.proofs.Since.{applied_since, gone_since, since_named, since_same}
