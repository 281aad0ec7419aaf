use Rattle.std.proofs.Common.{◌∙◌, ap}
use Rattle.rg_row.proofs.Records.{field_first, no_field}
use Rattle.rg_row.specs.Texts.{left}
use Rattle.rg_row.proofs.texts.Texts.split_first.Goals as goal

pub returns-in-Some : goal.returns-in-Some
returns-in-Some c = ap left c.in-Read.is ∙ field_first _ c.in-Read.from _ c.in-Some.ensures.value

pub returns-in-None : goal.returns-in-None
returns-in-None c = ap left c.in-Read.is ∙ no_field _ c.in-Read.from c.in-None.ensures.value
