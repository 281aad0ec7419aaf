use Rattle.std.proofs.Common.{◌%◌, ◌^◌, ap, ◌∙◌, map, arith}
use Rattle.std.proofs.lemmas.List.{length-map}
use Rattle.std.proofs.lemmas.Simd.{zip2_of_maps, zip2_splat, mask_l-mod}
use lib.Bits.{bit_or}
use lib.Lanes.{mask_l, top}
use Rattle.rg_row.specs.Plain.{is_end}
use Rattle.rg_row.proofs.Together.{hit, tops}
use Rattle.rg_row.proofs.ends.ends_of.Goals as goal

pub returns : goal.returns
returns c =
    let v = c.args.bytes in
    let long = c.fits-bytes.0 in
    let lanes = zip2_of_maps bit_or _ _ v (zip2_of_maps bit_or _ _ v (zip2_splat hit v 16 44 long) (zip2_splat hit v 16 34 long)) (zip2_splat hit v 16 13 long) in
    ap (λ bits. mask_l bits % 2 ^ 64) (ap (map (top 7)) lanes ∙ tops v) ∙ mask_l-mod (map is_end v) 64 (omega (arith, length-map v is_end))
