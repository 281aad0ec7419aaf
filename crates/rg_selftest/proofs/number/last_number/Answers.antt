use Rattle.std.proofs.Common.{rules, ◌≡◌, ◌∙◌, ◌++◌, ◌∷◌, [], sym, ap, append_assoc}
use Rattle.std.specs.Prelude.{decimal}
use Rattle.rg_bytes.specs.Numbers.{whole_of}
use Rattle.rg_selftest.proofs.Words.{number_is, snoc_front}
use Rattle.rg_selftest.proofs.number.last_number.Goals as goal

pub returns : goal.returns
returns c front number below is =
    c.read_whole.ensures ∙ ap whole_of c.word_at_end.ensures
    ∙ number_is front c.in_ok-line.line.now number below (snoc_front c.in_ok-line.line.now (front ++ 32 ∷ decimal number) c.in_ok-line.field-0-0.now 10 (search (rules, c.in_ok-line.ensures) ∙ is ∙ sym (append_assoc front (32 ∷ decimal number) (10 ∷ []))))
