-- What a step of one row does to the rows of its key.
use Rattle.std.proofs.Common.{◌≡◌, ℕ, true, false, refl, List, length, get_or, set, ◌+◌, ◌≤◌, arith}
use Rattle.std.specs.Prelude.{Result, Ok, Err, OnOk, OnErr}
use Rattle.std.specs.List.{swap_remove}
use Rattle.std.proofs.lemmas.Result.{on_err_weaker}
use Rattle.rg_agg.specs.Held.{Held}
use Rattle.rg_event.specs.declared.value.Value.{Value}
use Rattle.rg_keywords.specs.declared.func.Func.{Func}
use Rattle.rg_state.specs.Kepts.{Seen, unseen, fresh, IsMarked, seen, stands_in, is_idle, are_sound, IsKeptSame}
use Rattle.rg_state.specs.Stepping.{KeptStep, RowsStep}
use Rattle.rg_state.specs.declared.key_rows.Kept.{Kept}
use Rattle.rg_state.specs.declared.one.Refusal.{Refusal}
use Rattle.rg_state.specs.declared.one.Refusal.TheVariants.{Unfit}
use Rattle.rg_state.specs.declared.table.Change.{Change}
use Rattle.rg_state.specs.declared.table.Change.TheVariants.{Remove}
use Rattle.rg_state.proofs.Placed.{IsPlaced, read_at, written_at, others_at, kept_set, kept_itself, none_seen, gone_at, others_gone}
use Rattle.rg_state.proofs.Stepping.{stepped_forgotten, idle_gone, idle_new, unfit_none, marked_fresh}

module _ (func : Func) (change : Change) (value : Value) (ks : List Kept) (p node : ℕ) (old new : Kept) (sound : are_sound ks ≡ true) (placed : IsPlaced ks p node) (is : old ≡ get_or ks p old) where
  pub rows_stepped : (result : Result Unit Refusal) → KeptStep func change value old new result → RowsStep func change value node ks (set ks p new) result
  rows_stepped result step = record {
    stepped = rw (read_at ks p node old sound placed is, written_at ks p node old new sound placed is step.node) step.stepped;
    others = others_at ks p node old new placed is step.node;
    err = on_err_weaker result (λ same. kept_set ks p old new sound placed.0 is step.node same) step.err;
    refuses = rw (read_at ks p node old sound placed is) step.refuses;
  }

  -- a row that isn't worth keeping is dropped
  pub rows_gone : (gone : List Kept) (d : Kept) → gone ≡ swap_remove ks p d → is_idle new ≡ true → KeptStep func change value old new (Ok tt) → RowsStep func change value node ks gone (Ok tt)
  rows_gone gone d dropped idle step = record {
    stepped = rw (read_at ks p node old sound placed is, gone_at ks gone p node d old sound placed is dropped) (stepped_forgotten func change value (seen old) (seen new) (idle_gone new idle) (idle_new new idle) step.stepped);
    others = others_gone ks gone p node d old sound placed is dropped;
    err = tt;
    refuses = tt;
  }

-- nothing can be taken where there is no row
pub none_taken : (func : Func) (value : Value) (ks : List Kept) (node : ℕ) → stands_in ks node ≡ false → RowsStep func Remove value node ks ks (Err Unfit)
none_taken func value ks node none = record {
  stepped = tt;
  others = λ n apart. refl;
  err = kept_itself ks;
  refuses = rw (none_seen ks node none) (unfit_none func value);
}

-- a call that puts a row more, or leaves all as they are, leaves no fewer
pub grown : {A E : Type 0} (result : Result A E) (old new : List Kept) → OnOk result (length new ≡ length old + 1) → OnErr result (IsKeptSame old new) → length old ≤ length new
grown (Ok done) old new more same = omega (arith, more)
grown (Err refused) old new more same = omega (arith, same.count)

-- and where there was none, the row is new
pub put_marks : {A E : Type 0} (result : Result A E) (old new : Seen) (held : Held) → old ≡ unseen → OnOk result (new ≡ fresh held) → OnOk result (IsMarked old new)
put_marks (Ok done) old new held none is = rw (none, is) (marked_fresh held)
put_marks (Err refused) old new held none is = tt
