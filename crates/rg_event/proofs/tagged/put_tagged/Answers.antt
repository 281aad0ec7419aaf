use Rattle.rg_event.proofs.TaggedValues.{tagged_reads_back, prefix_free}
use Rattle.rg_event.proofs.tagged.put_tagged.Goals as goal

pub returns-in-Ok-clause-reads_back : goal.returns-in-Ok-clause-reads_back
returns-in-Ok-clause-reads_back c = tagged_reads_back

pub returns-in-Ok-clause-prefix_free : goal.returns-in-Ok-clause-prefix_free
returns-in-Ok-clause-prefix_free c = prefix_free

pub returns-in-Err-clause-reads_back : goal.returns-in-Err-clause-reads_back
returns-in-Err-clause-reads_back c = tagged_reads_back

pub returns-in-Err-clause-prefix_free : goal.returns-in-Err-clause-prefix_free
returns-in-Err-clause-prefix_free c = prefix_free
