-- What payloads say, one behind another.
use Rattle.std.proofs.Common.{◌≡◌, ℕ, List, [], ◌∷◌, ◌++◌, refl, sym, ◌∙◌, subst}
use Rattle.rg_checkpoint.specs.declared.base.Checkpoint.{Checkpoint}
use Rattle.rg_checkpoint.specs.Updates.{Applies}
use Rattle.rg_checkpoint.specs.Slots.{Extends, Says}
use Rattle.rg_checkpoint.proofs.Back.{base_is_one}
use Rattle.rg_checkpoint.proofs.Updated.{applies_one}

-- change payloads make one checkpoint of another
extends_one : (payloads : List (List ℕ)) (from a b : Checkpoint) → Extends from payloads a → Extends from payloads b → a ≡ b
extends_one [] from a b one two = one ∙ sym two
extends_one (payload ∷ payloads) from a b one two =
    let same : two.0 ≡ one.0 = applies_one payload from two.0 one.0 two.1 one.1 in
    extends_one payloads one.0 a b one.2 (subst (λ (c : Checkpoint). Extends c payloads b) same two.2)

-- so payloads say one
pub says_one : (payloads : List (List ℕ)) (a b : Checkpoint) → Says payloads a → Says payloads b → a ≡ b
says_one [] a b one two = absurd one
says_one (payload ∷ payloads) a b one two =
    let same : two.0 ≡ one.0 = base_is_one payload two.0 one.0 two.1 one.1 in
    extends_one payloads one.0 a b one.2 (subst (λ (c : Checkpoint). Extends c payloads b) same two.2)

-- with one more behind them
extends_push : (payloads : List (List ℕ)) (payload : List ℕ) (from before after : Checkpoint) → Extends from payloads before → Applies payload before after → Extends from (payloads ++ payload ∷ []) after
extends_push [] payload from before after said applies = (after, subst (λ (c : Checkpoint). Applies payload c after) said applies, refl)
extends_push (first ∷ payloads) payload from before after said applies = (said.0, said.1, extends_push payloads payload said.0 before after said.2 applies)

pub says_push : (payloads : List (List ℕ)) (payload : List ℕ) (before after : Checkpoint) → Says payloads before → Applies payload before after → Says (payloads ++ payload ∷ []) after
says_push [] payload before after said applies = absurd said
says_push (base ∷ payloads) payload before after said applies = (said.0, said.1, extends_push payloads payload said.0 before after said.2 applies)

-- what those in front make of it
extends_split : (front back : List (List ℕ)) (from after : Checkpoint) → Extends from (front ++ back) after → (mid : Checkpoint) × Extends from front mid × Extends mid back after
extends_split [] back from after said = (from, refl, said)
extends_split (payload ∷ front) back from after said = let rest = extends_split front back said.0 after said.2 in (rest.0, (said.0, said.1, rest.1), rest.2)

-- where some say a checkpoint, the one behind them applies to it in each list that says any
pub applies_behind : (front back : List (List ℕ)) (payload : List ℕ) (before after : Checkpoint) → Says front before → Says (front ++ payload ∷ back) after → (next : Checkpoint) × Applies payload before next
applies_behind [] back payload before after one all = absurd one
applies_behind (base ∷ front) back payload before after one all =
    let same : all.0 ≡ one.0 = base_is_one base all.0 one.0 all.1 one.1 in
    let parts = extends_split front (payload ∷ back) one.0 after (subst (λ (c : Checkpoint). Extends c (front ++ payload ∷ back) after) same all.2) in
    let mid : parts.0 ≡ before = extends_one front one.0 parts.0 before parts.1 one.2 in
    (parts.2.0, subst (λ (c : Checkpoint). Applies payload c parts.2.0) mid parts.2.1)
