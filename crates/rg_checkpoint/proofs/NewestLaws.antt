-- The newest of two slots.
use Rattle.std.proofs.Common.{◌≡◌, ℕ, zero, suc, ◌<◌, ◌≤◌, nat_lt, Bool, true, false, List, Option, Some, None, refl, ◌∙◌, ap, arith}
use Rattle.std.proofs.lemmas.Bool.{ltb-true}
use Rattle.std.proofs.lemmas.Grind.{common_steps}
use Rattle.rg_checkpoint.specs.declared.base.Checkpoint.{Checkpoint}
use Rattle.rg_checkpoint.specs.Slots.{Attached, slot_in}
use Rattle.rg_checkpoint.specs.Newest.{Suits, IsNewest, IsNewestOf, CountsAs, picked}

same_some : {A : Type 0} (x y : A) (o : Option A) → o ≡ Some x → o ≡ Some y → x ≡ y
same_some x y o a b = cc

not_less : (a b : ℕ) → nat_lt a b ≡ false → b ≤ a
not_less a b is = grind (arith, common_steps)

module _ (slots : Attached) (q : List (List ℕ)) (most : ℕ) where
  in_both : (P : ℕ → Checkpoint → Type 0) → ((other : Checkpoint) → slots.first ≡ Some other → Suits q most other → P 0 other) → ((other : Checkpoint) → slots.second ≡ Some other → Suits q most other → P 1 other)
      → (j : ℕ) (other : Checkpoint) → slot_in slots j ≡ Some other → Suits q most other → P j other
  in_both P f g zero other is suits = f other is suits
  in_both P f g (suc zero) other is suits = g other is suits
  in_both P f g (suc (suc j)) other is suits = cc

  count_is : (slot : Option Checkpoint) (n : ℕ) → CountsAs q most slot (Some n) → (other : Checkpoint) → slot ≡ Some other → other.count ≡ n
  count_is slot n counts other is = ap (λ (c : Checkpoint). c.count) (same_some other counts.0 slot is counts.1) ∙ counts.3

  only_first : (a : ℕ) → CountsAs q most slots.first (Some a) → CountsAs q most slots.second None → IsNewest q most (slot_in slots) 0
  only_first a x none = record {
    checkpoint = x.0;
    there = x.1;
    suits = x.2;
    greatest = in_both (λ j other. other.count ≤ x.0.count) (λ other is suits. omega (arith, count_is slots.first a x other is, x.3)) (λ other is suits. absurd (none other is suits));
    first = in_both (λ j other. other.count ≡ x.0.count → 0 ≤ j) (λ other is suits same. omega arith) (λ other is suits same. omega arith);
  }

  only_second : (b : ℕ) → CountsAs q most slots.first None → CountsAs q most slots.second (Some b) → IsNewest q most (slot_in slots) 1
  only_second b none y = record {
    checkpoint = y.0;
    there = y.1;
    suits = y.2;
    greatest = in_both (λ j other. other.count ≤ y.0.count) (λ other is suits. absurd (none other is suits)) (λ other is suits. omega (arith, count_is slots.second b y other is, y.3));
    first = in_both (λ j other. other.count ≡ y.0.count → 1 ≤ j) (λ other is suits same. absurd (none other is suits)) (λ other is suits same. omega arith);
  }

  second_greater : (a b : ℕ) → a < b → CountsAs q most slots.first (Some a) → CountsAs q most slots.second (Some b) → IsNewest q most (slot_in slots) 1
  second_greater a b less x y = record {
    checkpoint = y.0;
    there = y.1;
    suits = y.2;
    greatest = in_both (λ j other. other.count ≤ y.0.count) (λ other is suits. omega (arith, less, count_is slots.first a x other is, y.3)) (λ other is suits. omega (arith, count_is slots.second b y other is, y.3));
    first = in_both (λ j other. other.count ≡ y.0.count → 1 ≤ j) (λ other is suits same. absurd (omega (arith, less, same, count_is slots.first a x other is, y.3))) (λ other is suits same. omega arith);
  }

  first_greatest : (a b : ℕ) → b ≤ a → CountsAs q most slots.first (Some a) → CountsAs q most slots.second (Some b) → IsNewest q most (slot_in slots) 0
  first_greatest a b le x y = record {
    checkpoint = x.0;
    there = x.1;
    suits = x.2;
    greatest = in_both (λ j other. other.count ≤ x.0.count) (λ other is suits. omega (arith, count_is slots.first a x other is, x.3)) (λ other is suits. omega (arith, le, count_is slots.second b y other is, x.3));
    first = in_both (λ j other. other.count ≡ x.0.count → 0 ≤ j) (λ other is suits same. omega arith) (λ other is suits same. omega arith);
  }

  greater : (a b : ℕ) (less : Bool) → nat_lt a b ≡ less → CountsAs q most slots.first (Some a) → CountsAs q most slots.second (Some b) → IsNewestOf q most (slot_in slots) (picked (Some a) (Some b))
  greater a b true less x y = rw less (second_greater a b (ltb-true a b less) x y)
  greater a b false less x y = rw less (first_greatest a b (not_less a b less) x y)

  pub newest_by : (a b : Option ℕ) → CountsAs q most slots.first a → CountsAs q most slots.second b → IsNewestOf q most (slot_in slots) (picked a b)
  newest_by None None x y = in_both (λ j other. ⊥) (λ other is suits. x other is suits) (λ other is suits. y other is suits)
  newest_by (Some a) None x y = only_first a x y
  newest_by None (Some b) x y = only_second b x y
  newest_by (Some a) (Some b) x y = greater a b (nat_lt a b) refl x y
