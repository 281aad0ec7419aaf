use Rattle.std.proofs.Common.{Err, inl, inr}
use Rattle.rg_parse.specs.Views.{raw}
use Rattle.rg_query.specs.declared.fault.QueryFault.TheVariants.{Syntax, TooLarge}
use Rattle.rg_query.proofs.Again.{told_legal}
use Rattle.rg_query.proofs.Says.{one_short, told, resolved_tells}
use Rattle.rg_query.proofs.Total.{says_something}
use Rattle.rg_query.proofs.parsing.parse.Goals as goal

pub returns-in-Ok-clause-sound : goal.returns-in-Ok-clause-sound
returns-in-Ok-clause-sound c =
    resolved_tells c.args.schema.now c.args.text.now (raw c.args.text.now c.in-Ok.query) c.resolve.result c.if-text-gt-MAX_QUERY_BYTES.false c.in-Ok.ensures.sound c.resolve.ensures

pub returns-in-Ok-clause-legal : goal.returns-in-Ok-clause-legal
returns-in-Ok-clause-legal c = told_legal c.args.schema.now c.args.text.now c.resolve.result (returns-in-Ok-clause-sound c)

pub returns-in-Ok-clause-unambiguous : goal.returns-in-Ok-clause-unambiguous
returns-in-Ok-clause-unambiguous c said other = one_short c.args.schema.now c.args.text.now said other c.if-text-gt-MAX_QUERY_BYTES.false c.read_syntax.ensures.unambiguous

pub returns-in-Ok-clause-complete : goal.returns-in-Ok-clause-complete
returns-in-Ok-clause-complete c said =
    told c.args.schema.now c.args.text.now said c.resolve.result (λ other. returns-in-Ok-clause-unambiguous c said other) (returns-in-Ok-clause-sound c)

pub returns-in-Err-At-clause-unambiguous : goal.returns-in-Err-At-clause-unambiguous
returns-in-Err-At-clause-unambiguous c said other = one_short c.args.schema.now c.args.text.now said other c.if-text-gt-MAX_QUERY_BYTES.false c.read_syntax.ensures.unambiguous

pub returns-in-Err-At-clause-complete : goal.returns-in-Err-At-clause-complete
returns-in-Err-At-clause-complete c said says =
    rw c.in-Err-At.field-0-is
    (inl (returns-in-Err-At-clause-unambiguous c said (Err (Syntax c.in-Err-At.place)) says (c.if-text-gt-MAX_QUERY_BYTES.false, rw c.in-Err-At.field-0-is at c.in-Err-At.ensures.sound)))

pub returns-in-Err-TooDeep-clause-unambiguous : goal.returns-in-Err-TooDeep-clause-unambiguous
returns-in-Err-TooDeep-clause-unambiguous c said other = one_short c.args.schema.now c.args.text.now said other c.if-text-gt-MAX_QUERY_BYTES.false c.read_syntax.ensures.unambiguous

pub returns-in-Err-TooDeep-clause-complete : goal.returns-in-Err-TooDeep-clause-complete
returns-in-Err-TooDeep-clause-complete c said says = inl (returns-in-Err-TooDeep-clause-unambiguous c said (Err TooLarge) says (inr (rw c.in-Err-TooDeep.field-0-is at c.in-Err-TooDeep.ensures.sound)))

pub returns-in-Err-Memory-clause-unambiguous : goal.returns-in-Err-Memory-clause-unambiguous
returns-in-Err-Memory-clause-unambiguous c said other = one_short c.args.schema.now c.args.text.now said other c.if-text-gt-MAX_QUERY_BYTES.false c.read_syntax.ensures.unambiguous

pub returns-then-text-gt-MAX_QUERY_BYTES-clause-says : goal.returns-then-text-gt-MAX_QUERY_BYTES-clause-says
returns-then-text-gt-MAX_QUERY_BYTES-clause-says c = says_something c.args.schema.now

pub returns-in-Ok-clause-says : goal.returns-in-Ok-clause-says
returns-in-Ok-clause-says c = says_something c.args.schema.now

pub returns-in-Err-At-clause-says : goal.returns-in-Err-At-clause-says
returns-in-Err-At-clause-says c = says_something c.args.schema.now

pub returns-in-Err-TooDeep-clause-says : goal.returns-in-Err-TooDeep-clause-says
returns-in-Err-TooDeep-clause-says c = says_something c.args.schema.now

pub returns-in-Err-Memory-clause-says : goal.returns-in-Err-Memory-clause-says
returns-in-Err-Memory-clause-says c = says_something c.args.schema.now
