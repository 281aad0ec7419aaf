-- What other crates may cite of the lemmas of this one.
pub use Rattle.rg_multiset.proofs.Kept.{alike_of, alike_pushed, alike_with, pairs_append, sum_append}
pub use Rattle.rg_multiset.proofs.Listed.{counts_first, listed, listed_length}
pub use Rattle.rg_multiset.proofs.Places.{all_there, counts_less, counts_more, first_place, legal_first, none_first, other_way, places_first}
pub use Rattle.rg_multiset.proofs.ReadPairs.{all_err, all_ok, behind_bad, behind_read, behind_stops, count_bad, count_facts, count_read, count_short, last_append, length_bad, length_most, length_read, length_short, more_back, pair_count_stops, pair_read, pair_value_stops, pairs_behind, pairs_length, pairs_length_stops, some_sum, step_taken, step_to_come, tag_other, tag_read, tag_short, tally_back, tally_pushed}
