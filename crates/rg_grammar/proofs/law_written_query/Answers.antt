use Rattle.rg_grammar.proofs.PrintedQuery.{query_is, query_again, query_shallow, found_writable, written_found, span_is}
use Rattle.rg_grammar.proofs.law_written_query.Goals as goal

pub returns : goal.returns
returns c = record { legal = query_is; means = query_again; shallow = query_shallow; can_write = found_writable; found = written_found; span = span_is }
