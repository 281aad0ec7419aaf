use Rattle.rg_grammar.proofs.Erase.{read_again, stops_again, nests_again, found_again}
use Rattle.rg_grammar.proofs.law_places.Goals as goal

pub returns : goal.returns
returns c = record { reads = read_again; stops_too = stops_again; nests_too = nests_again; found = found_again }
