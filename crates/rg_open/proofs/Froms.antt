-- From how many events an opening goes on is told by the image.
use Rattle.std.proofs.Common.{◌≡◌, inl, inr, ◌∙◌, ℕ, List, zero, suc, Option, Some, None, refl, sym, arith}
use Rattle.rg_host.specs.Image.{Image}
use Rattle.rg_config.specs.Plans.{Planned}
use Rattle.rg_checkpoint.specs.Slots.{IsSlot}
use Rattle.rg_checkpoint.specs.declared.base.Checkpoint.{Checkpoint}
use Rattle.rg_checkpoint.proofs.Laws.{slot_told}
use Rattle.rg_restore.specs.Slots.{slot_in, IsBehind, IsFrom}
use Rattle.rg_restore.specs.declared.choosing.Saved.{Saved}
use Rattle.rg_open.specs.Truth.{texts_of}
use Rattle.rg_open.specs.Opening.{AreSlots, IsFromIn}

-- what a slot holds is told by its bytes
slot_one : (bytes : List ℕ) (a b : Option Checkpoint) → IsSlot bytes a → IsSlot bytes b → a ≡ b
slot_one bytes None None x y = refl
slot_one bytes None (Some b) x y = absurd (x b y)
slot_one bytes (Some a) b x y = sym (slot_told bytes b a y x)

slots_one : (v : Image) (a b : Saved) → AreSlots v a → AreSlots v b → (i : ℕ) → slot_in a i ≡ slot_in b i
slots_one v a b x y zero = slot_one (v 0) a.first b.first x.first y.first
slots_one v a b x y (suc zero) = slot_one (v 1) a.second b.second x.second y.second
slots_one v a b x y (suc (suc n)) = refl

-- two that are behind each other are of one count
count_one : (p q : Checkpoint) (i j : ℕ) → IsBehind i p j q → IsBehind j q i p → p.count ≡ q.count
count_one p q i j (inl less) (inl more) = absurd (omega (arith, less, more))
count_one p q i j (inl less) (inr same) = same.0
count_one p q i j (inr same) behind = sym same.0

from_one : (Fit : Checkpoint → Type 0) (slots others : ℕ → Option Checkpoint) → ((i : ℕ) → slots i ≡ others i) → (k l : Option ℕ) (m n : ℕ) → IsFrom Fit slots k m → IsFrom Fit others l n → m ≡ n
from_one Fit slots others same None None m n x y = x.1 ∙ sym y.1
from_one Fit slots others same None (Some j) m n x y = absurd (x.0 j y.0 (same j ∙ y.1.there) y.1.fit)
from_one Fit slots others same (Some i) None m n x y = absurd (y.0 i x.0 (sym (same i) ∙ x.1.there) x.1.fit)
from_one Fit slots others same (Some i) (Some j) m n x y =
    x.2 ∙ count_one x.0 y.0 i j (x.1.others j y.0 (same j ∙ y.1.there) y.1.fit) (y.1.others i x.0 (sym (same i) ∙ x.1.there) x.1.fit) ∙ sym y.2

pub from_is_one : (plan : Planned) (v : Image) (m n : ℕ) → IsFromIn plan v m → IsFromIn plan v n → m ≡ n
from_is_one plan v m n x y =
    from_one (λ (c : Checkpoint). c.queries ≡ texts_of plan.shape plan.queries) (slot_in x.saved) (slot_in y.saved) (slots_one v x.saved y.saved x.slots y.slots) x.keep y.keep m n x.is y.is
