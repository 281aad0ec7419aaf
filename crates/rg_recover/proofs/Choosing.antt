-- What a save writes, as it was chosen and after it was written.
use Rattle.std.proofs.Common.{◌≡◌, ◌⊎◌, inl, inr, ◌+◌, ◌-◌, ◌<◌, ◌≤◌, ◌&&◌, nat_le, nat_lt, ℕ, zero, suc, Bool, true, false, List, [], length, Option, Some, None, Ok, Err, refl, sym, ◌∙◌, ap, subst, arith}
use Rattle.std.specs.Prelude.{◌==◌, if◌then◌else◌, IfErr, IfOk, OnErr, OnOk, Result, is_some}
use Rattle.std.proofs.lemmas.Bool.{ltb-true, ltb-false, leb-true, leb-false, le-leb, lt-leb}
use Rattle.rg_host.specs.Image.{Image, Becomes, InFile}
use Rattle.rg_host.proofs.Laws.{becomes-weaker}
use Rattle.rg_past.specs.declared.past.Spot.{Spot}
use Rattle.rg_state.specs.Changes.{Marks}
use Rattle.rg_state.specs.Rows.{Cells, Same}
use Rattle.rg_engine.specs.Seen.{Seen}
use Rattle.rg_checkpoint.specs.Sizes.{HasSizes, OfSizes, longer, more_sizes, sizes_of}
use Rattle.rg_frame.specs.Steps.{Grown}
use Rattle.rg_checkpoint.specs.Slots.{AreSizes, Attached, IsKeep, IsOnly, other_of, sizes_in, with_sizes}
use Rattle.rg_checkpoint.specs.Writing.{Encodes, EncodesChanges}
use Rattle.rg_checkpoint.specs.declared.sizes.SlotSizes.{SlotSizes}
use Rattle.rg_checkpoint.proofs.Laws.{below_two}
use Rattle.rg_open.proofs.Laws.{other_below}
use Rattle.rg_recover.specs.Saving.{may_extend, InSlot, IsByRule, IsChosen, IsChosenOver, IsExtended, IsOfKept, IsOfSlot, IsWant, KeepsMarks, KeepsRows, Framed, IsSaved, SavesByRule, SavesExactly, sizes_then, slot_for}
use Rattle.rg_recover.specs.Sessions.{Sitting, HasKept, count_in}
use Rattle.rg_recover.specs.Stepping.{SlotsStay}
use Rattle.rg_recover.specs.declared.fault.TaskFault.{TaskFault}
use Rattle.rg_recover.specs.declared.payload.Payload.{Payload}
use Rattle.rg_recover.specs.declared.payload.Payload.TheVariants.{Base, Changes}

-- a table with the same rows, written whole
pub encodes_same : (cells rows : Cells) (texts : List (List ℕ)) (count : ℕ) (spots : List Spot) (old new : List ℕ) → Same cells rows → Encodes rows texts count spots old new → Encodes cells texts count spots old new
encodes_same cells rows texts count spots old new same enc = record {
  payload = enc.payload;
  rows = enc.rows;
  lists = record {
    rising = enc.lists.rising;
    rows = λ n key held. (λ is. (enc.lists.rows n key held).0 (same n key ∙ is), λ among. sym (same n key) ∙ (enc.lists.rows n key held).1 among);
  };
  base = enc.base;
  added = enc.added;
}

-- two calls, one after the other, that keep an engine's rows
module _ {T : Type 0} (Tells : T → Type 0) (faults : T → ℕ) (cell : T → Cells) (old mid new : Seen T) where
  pub keeps_then : KeepsRows Tells faults cell old mid → KeepsRows Tells faults cell mid new → KeepsRows Tells faults cell old new
  keeps_then first second = record {
    engine = second.engine ∙ ap (λ (e : Seen T). record e { table = new.table }) first.engine;
    rows = record {
      tells = (λ t. first.rows.tells.0 (second.rows.tells.0 t), λ t. second.rows.tells.1 (first.rows.tells.1 t));
      later = omega (arith, first.rows.later, second.rows.later);
    };
    same = λ t n key. second.same (first.rows.tells.1 t) n key ∙ first.same t n key;
  }

-- an engine whose marks stay too keeps its rows
module _ {T : Type 0} (Tells : T → Type 0) (faults : T → ℕ) (cell : T → Cells) (named there : T → Marks) where
  pub marks_rows : (old new : Seen T) → KeepsMarks Tells faults cell named there old new → KeepsRows Tells faults cell old new
  marks_rows old new keeps = record { engine = keeps.engine; rows = keeps.rows; same = keeps.same }

  pub marks_then : (old mid new : Seen T) → KeepsMarks Tells faults cell named there old mid → KeepsMarks Tells faults cell named there mid new → KeepsMarks Tells faults cell named there old new
  marks_then old mid new first second = record {
    engine = second.engine ∙ ap (λ (e : Seen T). record e { table = new.table }) first.engine;
    rows = record {
      tells = (λ t. first.rows.tells.0 (second.rows.tells.0 t), λ t. second.rows.tells.1 (first.rows.tells.1 t));
      later = omega (arith, first.rows.later, second.rows.later);
    };
    same = λ t n key. second.same (first.rows.tells.1 t) n key ∙ first.same t n key;
    same_named = λ t n key. second.same_named (first.rows.tells.1 t) n key ∙ first.same_named t n key;
    same_there = λ t n key. second.same_there (first.rows.tells.1 t) n key ∙ first.same_there t n key;
  }

-- a fault that a later call has was counted since the first one
pub want_before : {T : Type 0} (faults : T → ℕ) (old mid new : T) (fault : TaskFault) → faults old ≤ faults mid → IsWant faults mid new fault → IsWant faults old new fault
want_before faults old mid new fault later (inl memory) = inl memory
want_before faults old mid new fault later (inr table) = inr (table.0, omega (arith, later, table.1))

-- the rule, test by test
pub too_many : (sizes : SlotSizes) (change : ℕ) → 64 ≤ sizes.frames → may_extend sizes change ≡ false
too_many sizes change many = by (nat_le (sizes.changes + change) sizes.base) (nat_lt sizes.frames 64) refl
  where
    by : (a b : Bool) → nat_lt sizes.frames 64 ≡ b → (a && b) ≡ false
    by a true is = absurd (omega (arith, ltb-true sizes.frames 64 is, many))
    by true false is = refl
    by false false is = refl

pub too_long : (sizes : SlotSizes) (change : ℕ) → sizes.base < sizes.changes → may_extend sizes change ≡ false
too_long sizes change long = by (nat_le (sizes.changes + change) sizes.base) refl
  where
    by : (a : Bool) → nat_le (sizes.changes + change) sizes.base ≡ a → (a && nat_lt sizes.frames 64) ≡ false
    by true is = absurd (omega (arith, leb-true (sizes.changes + change) sizes.base is, long))
    by false is = refl

pub just_long : (sizes : SlotSizes) (change : ℕ) → sizes.frames < 64 → sizes.changes ≤ sizes.base → nat_le change (sizes.base - sizes.changes) ≡ may_extend sizes change
just_long sizes change few fits = by (nat_le (sizes.changes + change) sizes.base) (nat_lt sizes.frames 64) refl refl
  where
    by : (a b : Bool) → nat_le (sizes.changes + change) sizes.base ≡ a → nat_lt sizes.frames 64 ≡ b → nat_le change (sizes.base - sizes.changes) ≡ (a && b)
    by a false is many = absurd (omega (arith, ltb-false sizes.frames 64 many, few))
    by true true is many = le-leb change (sizes.base - sizes.changes) (omega (arith, leb-true (sizes.changes + change) sizes.base is, fits))
    by false true is many = lt-leb change (sizes.base - sizes.changes) (omega (arith, leb-false (sizes.changes + change) sizes.base is, fits))

some_number : (a b : ℕ) → ◌≡◌ {A = Option ℕ} (Some a) (Some b) → a ≡ b
some_number a b is = cc

some_sizes : (a b : SlotSizes) → ◌≡◌ {A = Option SlotSizes} (Some a) (Some b) → a ≡ b
some_sizes a b is = cc

-- what was chosen where a slot is kept, and where none is known
module _ (named there : Marks) (cells : Cells) (texts : List (List ℕ)) (count : ℕ) (spots : List Spot) (slots : Attached) (keep : Option ℕ) where
  pub chosen_over : (slot : ℕ) (sizes : SlotSizes) (payload : Payload) → keep ≡ Some slot → sizes_in slots slot ≡ Some sizes → IsOfSlot slot sizes payload → IsChosenOver named there cells texts count spots sizes payload
      → IsChosen named there cells texts count spots slots keep payload
  chosen_over slot sizes (Base bytes) kept known tt chosen = (chosen.0, λ s z same is. one s z same is)
    where
      one : (s : ℕ) (z : SlotSizes) → keep ≡ Some s → sizes_in slots s ≡ Some z → (change : List ℕ) × EncodesChanges named there cells count spots [] change × (may_extend z (length change) ≡ false)
      one s z same is =
          let at : slot ≡ s = some_number slot s (sym kept ∙ same) in
          let of : sizes ≡ z = some_sizes sizes z (sym known ∙ ap (sizes_in slots) at ∙ is) in
          (chosen.1.0, chosen.1.1, subst (λ (x : SlotSizes). may_extend x (length chosen.1.0) ≡ false) of chosen.1.2)
  chosen_over slot sizes (Changes number bytes) kept known at chosen =
      (chosen.0, kept ∙ ap (λ (n : ℕ). Some n) (sym at.0), (sizes, ap (sizes_in slots) at.0 ∙ known, chosen.1))

  pub of_kept : (slot : ℕ) (sizes : SlotSizes) (payload : Payload) → keep ≡ Some slot → sizes_in slots slot ≡ Some sizes → IsOfSlot slot sizes payload → IsOfKept keep slots payload
  of_kept slot sizes (Base bytes) kept known at = tt
  of_kept slot sizes (Changes number bytes) kept known at = (kept ∙ ap (λ (n : ℕ). Some n) (sym at.0), (sizes, ap (sizes_in slots) at.0 ∙ known, at.1))

-- the sizes that are known of the slot that was written
pub sizes_with : (slots : Attached) (slot : ℕ) (sizes : Option SlotSizes) → slot < 2 → sizes_in (with_sizes slot sizes slots) slot ≡ sizes
sizes_with slots zero sizes below = refl
sizes_with slots (suc zero) sizes below = refl
sizes_with slots (suc (suc n)) sizes below = absurd (omega (arith, below))

pub sizes_put : (slots put : Attached) (slot : ℕ) (sizes : Option SlotSizes) → slot < 2 → put ≡ with_sizes slot sizes (record slots { fresh = false }) → sizes_in put slot ≡ sizes
sizes_put slots put slot sizes below is = ap (λ (p : Attached). sizes_in p slot) is ∙ sizes_with (record slots { fresh = false }) slot sizes below

-- a base is written into one of the two slots, whatever is kept
two_by : (first : Bool) → (if first then 1 else 0) < 2
two_by true = omega arith
two_by false = omega arith

pub other_two : (keep : Option ℕ) → other_of keep < 2
other_two None = omega arith
other_two (Some i) = two_by (i == 0)

-- what was written is by the rule
module _ (named there : Marks) (cells : Cells) (texts : List (List ℕ)) (count : ℕ) (spots : List Spot) (slots put : Attached) (keep : Option ℕ) (slot : ℕ) where
  framed_rule : (payload : Payload) → slot ≡ slot_for keep payload → put ≡ with_sizes slot (sizes_then slots payload) (record slots { fresh = false }) → IsChosen named there cells texts count spots slots keep payload
      → (v w : Image) → InFile (slot_for keep payload) (Framed slots payload) v w → IsByRule named there cells texts count spots slots put keep (Some slot) v w
  framed_rule (Base bytes) at is chosen v w framed = inr (record {
    other = ap (λ (n : ℕ). Some n) at;
    why = chosen.1;
    base = bytes.items;
    encodes = chosen.0;
    sizes = subst (λ (n : ℕ). sizes_in put n ≡ Some (sizes_of (length bytes.items))) at (sizes_put slots put slot (Some (sizes_of (length bytes.items))) (subst (λ (n : ℕ). n < 2) (sym at) (other_two keep)) is);
    frames = record { there = framed.there; beside = λ other below apart. framed.elsewhere other apart };
  })
  framed_rule (Changes number bytes) at is chosen v w framed = inl (record {
    slot = number;
    kept = chosen.1;
    same = ap (λ (n : ℕ). Some n) at;
    sizes = chosen.2.0;
    known = chosen.2.1;
    change = bytes.items;
    encodes = chosen.0;
    allowed = chosen.2.2;
    more = subst (λ (n : ℕ). sizes_in put n ≡ Some (more_sizes chosen.2.0 (length bytes.items))) at
        (sizes_put slots put slot (longer (sizes_in slots number) (length bytes.items)) (subst (λ (n : ℕ). n < 2) (sym at) (below_two slots number chosen.2.0 chosen.2.1)) is
        ∙ ap (λ (o : Option SlotSizes). longer o (length bytes.items)) chosen.2.1);
    frames = record {
      there = subst (λ (known : Option SlotSizes). OfSizes known (Grown bytes.items) (v number) (w number)) chosen.2.1 framed.there;
      beside = λ other below apart. framed.elsewhere other apart;
    };
  })

  pub written_rule : (payload : Payload) (now next : Option Image) → slot ≡ slot_for keep payload → put ≡ with_sizes slot (sizes_then slots payload) (record slots { fresh = false }) → IsChosen named there cells texts count spots slots keep payload
      → Becomes now next (InFile (slot_for keep payload) (Framed slots payload)) → Becomes now next (IsByRule named there cells texts count spots slots put keep (Some slot))
  written_rule payload now next at is chosen framed =
      becomes-weaker now next (InFile (slot_for keep payload) (Framed slots payload)) (IsByRule named there cells texts count spots slots put keep (Some slot)) framed (framed_rule payload at is chosen)

-- and so it is from where the slots' files were the same
module _ (named there : Marks) (cells : Cells) (texts : List (List ℕ)) (count : ℕ) (spots : List Spot) (slots put : Attached) (keep then_keep : Option ℕ) where
  in_slot_before : (slot : ℕ) (Step : List ℕ → List ℕ → Type 0) (u v w : Image) → slot < 2 → ((i : ℕ) → i < 2 → v i ≡ u i) → InSlot slot Step v w → InSlot slot Step u w
  in_slot_before slot Step u v w below same is = record {
    there = subst (λ (bytes : List ℕ). Step bytes (w slot)) (same slot below) is.there;
    beside = λ other less apart. is.beside other less apart ∙ same other less;
  }

  rule_before : (u v w : Image) → ((i : ℕ) → i < 2 → v i ≡ u i) → IsByRule named there cells texts count spots slots put keep then_keep v w → IsByRule named there cells texts count spots slots put keep then_keep u w
  rule_before u v w same (inl added) = inl (record {
    slot = added.slot;
    kept = added.kept;
    same = added.same;
    sizes = added.sizes;
    known = added.known;
    change = added.change;
    encodes = added.encodes;
    allowed = added.allowed;
    more = added.more;
    frames = in_slot_before added.slot (OfSizes (Some added.sizes) (Grown added.change)) u v w (below_two slots added.slot added.sizes added.known) same added.frames;
  })
  rule_before u v w same (inr based) = inr (record {
    other = based.other;
    why = based.why;
    base = based.base;
    encodes = based.encodes;
    sizes = based.sizes;
    frames = in_slot_before (other_of keep) (λ _ bytes. IsOnly based.base bytes) u v w (other_two keep) same based.frames;
  })

  pub rule_from : (now mid next : Option Image) (may between : Image → Type 0) → SlotsStay now mid may between → Becomes mid next (IsByRule named there cells texts count spots slots put keep then_keep) → Becomes now next (IsByRule named there cells texts count spots slots put keep then_keep)
  rule_from now mid next may between stays rule = record {
    told = λ u told.
        let a = stays.told u told in
        let b = rule.told a.0 a.1 in
        (b.0, b.1, rule_before u a.0 b.0 a.2 b.2);
    untold = λ none. rule.untold (stays.untold none);
  }

-- the slot that is written is one of the two
pub slot_below : (slots : Attached) (keep : Option ℕ) (payload : Payload) → IsKeep keep → IsOfKept keep slots payload → slot_for keep payload < 2
slot_below slots keep (Base bytes) legal kept = other_below keep legal
slot_below slots keep (Changes slot bytes) legal kept = kept_below keep slot legal kept.0
  where
    kept_below : (k : Option ℕ) (i : ℕ) → IsKeep k → k ≡ Some i → i < 2
    kept_below None i legal is = cc
    kept_below (Some j) i legal is = subst (λ (n : ℕ). n < 2) (some_number j i is) legal

-- by the rule of a session is by that of another one with the same engine, texts and slots
pub rule_of : {T : Type 0} (named there : T → Marks) (cell : T → Cells) (s m t : Sitting T) (v w : Image) → m.engine ≡ s.engine → m.texts ≡ s.texts → m.slots ≡ s.slots → m.keep ≡ s.keep → SavesByRule named there cell m t v w → SavesByRule named there cell s t v w
rule_of {T} named there cell s m t v w engine texts slots keep rule =
    subst (λ (e : Seen T). IsByRule (named e.table) (there e.table) (cell e.table) s.texts (count_in t.reservoir) e.spots s.slots t.slots s.keep t.keep v w) engine
    (subst (λ (l : List (List ℕ)). IsByRule (named m.engine.table) (there m.engine.table) (cell m.engine.table) l (count_in t.reservoir) m.engine.spots s.slots t.slots s.keep t.keep v w) texts
    (subst (λ (p : Attached). IsByRule (named m.engine.table) (there m.engine.table) (cell m.engine.table) m.texts (count_in t.reservoir) m.engine.spots p t.slots s.keep t.keep v w) slots
    (subst (λ (k : Option ℕ). IsByRule (named m.engine.table) (there m.engine.table) (cell m.engine.table) m.texts (count_in t.reservoir) m.engine.spots m.slots t.slots k t.keep v w) keep rule)))

-- the slot that was written: the other one, or the kept one with one payload more
pub written_as : {T : Type 0} (s t : Sitting T) (payload : Payload) (slot : ℕ) → IsOfKept s.keep s.slots payload → slot ≡ slot_for s.keep payload → t.keep ≡ Some slot → t.slots ≡ with_sizes slot (sizes_then s.slots payload) (record s.slots { fresh = false })
    → (t.keep ≡ Some (other_of s.keep)) ⊎ IsExtended s t
written_as s t (Base bytes) slot of_kept at keep put = inl (keep ∙ ap (λ (n : ℕ). Some n) at)
written_as s t (Changes number bytes) slot of_kept at keep put = inr (record {
  slot = number;
  kept = of_kept.0;
  same = keep ∙ ap (λ (n : ℕ). Some n) at;
  sizes = of_kept.1.0;
  change = length bytes.items;
  known = of_kept.1.1;
  allowed = of_kept.1.2;
  more = subst (λ (n : ℕ). sizes_in t.slots n ≡ Some (more_sizes of_kept.1.0 (length bytes.items))) at
      (sizes_put s.slots t.slots slot (longer (sizes_in s.slots number) (length bytes.items)) (subst (λ (n : ℕ). n < 2) (sym at) (below_two s.slots number of_kept.1.0 of_kept.1.1)) put
      ∙ ap (λ (o : Option SlotSizes). longer o (length bytes.items)) of_kept.1.1);
})

-- where what is kept of a slot is kept, the rule is exact
sizes_of_known : (bytes : List ℕ) (known : Option SlotSizes) → is_some known ≡ true → AreSizes bytes known → (sizes : SlotSizes) × (known ≡ Some sizes) × HasSizes bytes sizes
sizes_of_known bytes None is are = absurd cc
sizes_of_known bytes (Some sizes) is are = (sizes, refl, are.0)

pub exact_of : {T : Type 0} (named there : T → Marks) (cell : T → Cells) (now next : Option Image) (may : Image → Type 0) (s t : Sitting T) → ((v : Image) → now ≡ Some v → may v) → HasKept now may cell named there s → Becomes now next (λ v w. IsSaved s ⊎ SavesByRule named there cell s t v w)
    → Becomes now next (λ v w. IsSaved s ⊎ SavesExactly named there cell s t v w)
exact_of {T} named there cell now next may s t reads keeps rule = record {
  told = λ v told. let w = rule.told v told in (w.0, w.1, by v w.0 told w.2);
  untold = rule.untold;
}
  where
    by : (v w : Image) → now ≡ Some v → IsSaved s ⊎ SavesByRule named there cell s t v w → IsSaved s ⊎ SavesExactly named there cell s t v w
    by v w told (inl saved) = inl saved
    by v w told (inr is) = inr (record {
      by_rule = is;
      sized = λ slot kept. let since = keeps.since slot kept in sizes_of_known (v slot) (sizes_in s.slots slot) since.known (since.sizes_are v (reads v told));
    })

-- what holds anyway
pub at_ok : {A E : Type 0} (r : Result A E) (P : Type 0) → P → OnOk r P
at_ok (Ok x) P here = here
at_ok (Err e) P here = tt

-- what follows from what holds of the value, or of the fault
pub on_ok_of : {A E : Type 0} (r : Result A E) (P : A → Type 0) (Q : Type 0) → ((x : A) → P x → Q) → IfOk r P → OnOk r Q
on_ok_of (Ok x) P Q more is = more x is
on_ok_of (Err e) P Q more is = tt

pub on_err_of : {A E : Type 0} (r : Result A E) (P : E → Type 0) (Q : Type 0) → ((e : E) → P e → Q) → IfErr r P → OnErr r Q
on_err_of (Ok x) P Q more is = tt
on_err_of (Err e) P Q more is = more e is
