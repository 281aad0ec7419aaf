-- What a text begins with.
use Rattle.std.proofs.Common.{◌≡◌, ◌∙◌, ℕ, ◌≤◌, ◌++◌, List, length, take, drop, ap, sym, arith}
use Rattle.std.proofs.lemmas.List.{take-append-drop, take-append-le, length-take}

-- what begins with a text that begins with `old` begins with `old`
pub front_of_more :
    (old mid new : List ℕ) → take (length old) mid ≡ old → take (length mid) new ≡ mid → take (length old) new ≡ old
front_of_more old mid new first second =
    let short : length old ≤ length mid = omega (arith, ap length first, length-take (length old) mid) in
    let whole : mid ++ drop (length mid) new ≡ new =
    ap (λ t. t ++ drop (length mid) new) (sym second) ∙ take-append-drop (length mid) new in
    ap (take (length old)) (sym whole) ∙ (take-append-le (length old) mid (drop (length mid) new) short ∙ first)
