-- A change payload says one checkpoint of another.
use Rattle.std.proofs.Common.{◌≡◌, ℕ, ◌≤◌, true, false, List, ap, sym, ◌∙◌, subst}
use Rattle.rg_past.specs.declared.past.Spot.{Spot}
use Rattle.rg_state.specs.Rows.{Entry, AreRising}
use Rattle.rg_checkpoint.specs.declared.base.Checkpoint.{Checkpoint}
use Rattle.rg_checkpoint.specs.Merging.{merged, all_found}
use Rattle.rg_checkpoint.specs.Updates.{Update, AreApplied, IsUpdate, IsUpdated, Applies}
use Rattle.rg_checkpoint.proofs.Merging.{merged_applied, not_applied, applied_one}
use Rattle.rg_checkpoint.proofs.UpdatesBack.{update_is_one}

abbrev made : List (List ℕ) → ℕ → List Spot → List Entry → Checkpoint
made queries count spots rows = record { queries = queries; count = count; spots = spots; rows = rows }

same_checkpoint : (old a b : Checkpoint) (update : Update) → IsUpdated old update a → IsUpdated old update b → a ≡ b
same_checkpoint old a b update one two =
    ap (λ (q : List (List ℕ)). made q a.count a.spots a.rows) (one.queries ∙ sym two.queries) ∙ ap (λ (n : ℕ). made b.queries n a.spots a.rows) (one.count ∙ sym two.count)
    ∙ ap (λ (s : List Spot). made b.queries b.count s a.rows) (one.spots ∙ sym two.spots) ∙ ap (λ (r : List Entry). made b.queries b.count b.spots r) (applied_one old.rows update.rows a.rows b.rows one.rows two.rows)

pub applies_one : (payload : List ℕ) (old a b : Checkpoint) → Applies payload old a → Applies payload old b → a ≡ b
applies_one payload old a b one two =
    let same : one.update ≡ two.update = update_is_one payload one.update two.update one.is two.is in
    same_checkpoint old a b two.update (subst (λ (u : Update). IsUpdated old u a) same one.updated) two.updated

pub applies_now : (payload : List ℕ) (old new : Checkpoint) (update : Update) → IsUpdate payload update → old.count ≤ update.count → AreRising old.rows → all_found old.rows update.rows ≡ true
    → new.queries ≡ old.queries → new.count ≡ update.count → new.spots ≡ update.spots → new.rows ≡ merged old.rows update.rows → Applies payload old new
applies_now payload old new update is grows rising found queries count spots rows = record {
  update = update;
  is = is;
  updated = record {
    grows = grows;
    queries = queries;
    count = count;
    spots = spots;
    rows = subst (λ (r : List Entry). AreApplied old.rows update.rows r) (sym rows) (merged_applied old.rows update.rows rising is.legal.rows.rising found);
  };
}

pub no_applies : (payload : List ℕ) (old new : Checkpoint) (update : Update) → IsUpdate payload update → AreRising old.rows → all_found old.rows update.rows ≡ false → Applies payload old new → ⊥
no_applies payload old new update is rising off applies =
    let same : applies.update ≡ update = update_is_one payload applies.update update applies.is is in
    not_applied old.rows update.rows new.rows rising is.legal.rows.rising off (subst (λ (u : Update). AreApplied old.rows u.rows new.rows) same applies.updated.rows)
