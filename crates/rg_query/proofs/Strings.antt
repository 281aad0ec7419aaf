-- The bytes of a string, read front to back.
use Rattle.std.proofs.Common.{◌≡◌, ◌≢◌, ℕ, ◌+◌, ◌<◌, List, [], ◌∷◌, ◌++◌, Bool, true, false, length, get_or, drop, sym, ap, ◌∙◌, append_assoc, arith}
use Rattle.std.proofs.lemmas.List.{at_drop_more}
use Rattle.rg_query.specs.Resolving.{inside, behind_quote}

-- what is still to be read, behind the first of two quotes or not
abbrev pub to_come : Bool → List ℕ → List ℕ
to_come false text = inside text
to_come true text = behind_quote text

pub second : (whole done new text : List ℕ) (i : ℕ) → i < length text → done ++ to_come true (drop i text) ≡ whole → new ≡ done ++ 39 ∷ [] → new ++ to_come false (drop (i + 1) text) ≡ whole
second whole done new text i lt so_far is =
    let e : to_come true (drop i text) ≡ 39 ∷ to_come false (drop (i + 1) text) = at_drop_more (to_come true) text i 0 lt in
    rw is (append_assoc done (39 ∷ []) (to_come false (drop (i + 1) text)) ∙ (ap (λ t. done ++ t) (sym e) ∙ so_far))

pub first : (whole done text : List ℕ) (i : ℕ) → i < length text → done ++ to_come false (drop i text) ≡ whole → get_or text i 0 ≡ 39 → done ++ to_come true (drop (i + 1) text) ≡ whole
first whole done text i lt so_far is =
    let e : to_come false (drop i text) ≡ to_come true (drop (i + 1) text) = at_drop_more (to_come false) text i 0 lt ∙ grind arith in
    ap (λ t. done ++ t) (sym e) ∙ so_far

pub other : (whole done new text : List ℕ) (i : ℕ) → i < length text → done ++ to_come false (drop i text) ≡ whole → get_or text i 0 ≢ 39 → new ≡ done ++ get_or text i 0 ∷ [] → new ++ to_come false (drop (i + 1) text) ≡ whole
other whole done new text i lt so_far not_quote is =
    let e : to_come false (drop i text) ≡ get_or text i 0 ∷ to_come false (drop (i + 1) text) = at_drop_more (to_come false) text i 0 lt ∙ grind arith in
    rw is (append_assoc done (get_or text i 0 ∷ []) (to_come false (drop (i + 1) text)) ∙ (ap (λ t. done ++ t) (sym e) ∙ so_far))
