use Rattle.std.proofs.Common.{◌≡◌, ◌<◌, length, get_or, refl, ap, Ok, arith, rules}
use Rattle.rg_column.specs.Widths.{difference_bytes}
use Rattle.rg_column.specs.declared.width.Width.TheVariants.{Two}
use Rattle.rg_column.proofs.Widths.{long_enough}
use Rattle.rg_column.proofs.width.take_two.Goals as goal

pub returns-in_err-bytes-clause-reads_back : goal.returns-in_err-bytes-clause-reads_back
returns-in_err-bytes-clause-reads_back c number rest fits stood =
    let few : length c.args.from.now < 2 = search rules in
    absurd (omega (arith, long_enough Two c.args.from.now number rest stood, few))

pub returns-clause-reads_back : goal.returns-clause-reads_back
returns-clause-reads_back c number rest fits stood =
    let same = c.in_ok-bytes.ensures.reads_back (difference_bytes Two number) rest refl stood in
    let is : c.from.result ≡ number = omega (arith, ap (λ l. get_or l 0 0) same.0, ap (λ l. get_or l 1 0) same.0, c.from.ensures, c.from_be_bytes.ensures, fits) in
    (ap (λ m. Ok m) is, same.1)
