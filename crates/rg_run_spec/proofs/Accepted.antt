-- What was accepted among the first lines is told from them alone.
use Rattle.std.proofs.Common.{◌≡◌, ℕ, zero, suc, ◌≤◌, ◌<◌, List, [], ◌∷◌, ◌++◌, length, get_or, Option, None, refl, arith, length-append}
use Rattle.rg_run_spec.specs.Verdicts.{Basis, accepted_after, line_verdict, accepted_before, reply_to}

abbrev Item : Type 0
Item = Option (List ℕ)

pub get_or-first : (lines more : List Item) (i : ℕ) → i < length lines → get_or (lines ++ more) i None ≡ get_or lines i None
get_or-first [] more i h = absurd (omega arith)
get_or-first (line ∷ lines) more zero h = refl
get_or-first (line ∷ lines) more (suc i) h = get_or-first lines more i (omega arith)

pub get_or-next : (lines : List Item) (item : Item) (more : List Item) → get_or (lines ++ item ∷ more) (length lines) None ≡ item
get_or-next [] item more = refl
get_or-next (line ∷ lines) item more = get_or-next lines item more

pub accepted-first : (basis : Basis) (lines more : List Item) (i : ℕ) → i ≤ length lines → accepted_before basis (lines ++ more) i ≡ accepted_before basis lines i
accepted-first basis lines more zero h = refl
accepted-first basis lines more (suc i) h = rw (accepted-first basis lines more i (omega arith), get_or-first lines more i (omega arith)) refl

pub reply-first : (basis : Basis) (lines more : List Item) (i : ℕ) → i < length lines → reply_to basis (lines ++ more) i ≡ reply_to basis lines i
reply-first basis lines more i h = rw (accepted-first basis lines more i (omega (arith, h)), get_or-first lines more i h) refl

-- one line more
pub length-push : (lines : List Item) (item : Item) → length (lines ++ item ∷ []) ≡ suc (length lines)
length-push lines item = omega (arith, length-append lines (item ∷ []))

pub accepted-push : (basis : Basis) (lines : List Item) (item : Item) →
    accepted_before basis (lines ++ item ∷ []) (length (lines ++ item ∷ [])) ≡ accepted_after (accepted_before basis lines (length lines)) (line_verdict basis (accepted_before basis lines (length lines)) (length lines) item)
accepted-push basis lines item =
    rw (length-push lines item, accepted-first basis lines (item ∷ []) (length lines) (omega arith), get_or-next lines item []) refl
