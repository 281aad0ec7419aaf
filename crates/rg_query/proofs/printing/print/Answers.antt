use Rattle.rg_query.proofs.Again.{again, differ}
use Rattle.rg_query.proofs.printing.print.Goals as goal

pub returns-in-Ok-clause-reads_back : goal.returns-in-Ok-clause-reads_back
returns-in-Ok-clause-reads_back c text said short = (short, again c.args.schema.now _ text c.fields.ensures.legal said.1)

pub returns-in-Err-clause-reads_back : goal.returns-in-Err-clause-reads_back
returns-in-Err-clause-reads_back c text said short = (short, again c.args.schema.now _ text c.fields.ensures.legal said.1)

pub returns-in-Ok-clause-differs : goal.returns-in-Ok-clause-differs
returns-in-Ok-clause-differs c other text more said also same = differ c.args.schema.now _ other text more c.fields.ensures.legal said.1 also.1 same

pub returns-in-Err-clause-differs : goal.returns-in-Err-clause-differs
returns-in-Err-clause-differs c other text more said also same = differ c.args.schema.now _ other text more c.fields.ensures.legal said.1 also.1 same
