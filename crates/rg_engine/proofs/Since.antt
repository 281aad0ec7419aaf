-- What is known of a table since its mark, over one call and over two.
use Rattle.std.proofs.Common.{◌≡◌, ◌↔◌, ℕ, List}
use Rattle.std.specs.Prelude.{Result, Ok, Err, OnOk, OnErr}
use Rattle.rg_state.specs.Changes.{Marks, SameMarks, OtherMarks, IsNamed, was_there, IsSince}
use Rattle.rg_state.specs.Rows.{Cells, Same, Others}
use Rattle.rg_state.proofs.Laws.{since_named, since_same}
use Rattle.rg_engine.specs.Since.{KeepsSince}

pub keeps_same : {T : Type 0} (Tells : T → Type 0) (named there : T → Marks) (cells : T → Cells) (table : T) → KeepsSince Tells named there cells table table
keeps_same Tells named there cells table = record { tells = (λ told. told, λ told. told); since = λ told base is. is }

pub keeps_then : {T : Type 0} (Tells : T → Type 0) (named there : T → Marks) (cells : T → Cells) (old middle new : T) → KeepsSince Tells named there cells old middle → KeepsSince Tells named there cells middle new → KeepsSince Tells named there cells old new
keeps_then Tells named there cells old middle new first second = record {
  tells = (λ told. first.tells.0 (second.tells.0 told), λ told. second.tells.1 (first.tells.1 told));
  since = λ told base is. second.since (first.tells.1 told) base (first.since told base is);
}

-- where no row and no mark changed
pub keeps_looked : {T : Type 0} (Tells : T → Type 0) (named there : T → Marks) (cells : T → Cells) (old new : T) → (Tells new ↔ Tells old) → (Tells old → Same (cells old) (cells new)) → (Tells old → SameMarks (named old) (named new)) → (Tells old → SameMarks (there old) (there new)) → KeepsSince Tells named there cells old new
keeps_looked Tells named there cells old new tells same same_named same_there = record {
  tells = tells;
  since = λ told base is. since_same base (named old) (there old) (cells old) (named new) (there new) (cells new) (same told) (same_named told) (same_there told) is;
}

-- where one row was named, or the call was refused
pub since_changed : {A E : Type 0} (result : Result A E) (base : Cells) (named there : Marks) (cells : Cells) (named' there' : Marks) (cells' : Cells) (node : ℕ) (key : List ℕ) →
    OnOk result (IsNamed (named' node key) (there' node key) (cells' node key)) → OnOk result (there' node key ≡ was_there (named node key) (there node key) (cells node key)) →
    Others node key cells cells' → OtherMarks node key named named' → OtherMarks node key there there' →
    OnErr result (Same cells cells') → OnErr result (SameMarks named named') → OnErr result (SameMarks there there') → IsSince base named there cells → IsSince base named' there' cells'
since_changed (Ok _) base named there cells named' there' cells' node key is was others other_named other_there same same_named same_there since =
    since_named base named there cells named' there' cells' node key since is was others other_named other_there
since_changed (Err _) base named there cells named' there' cells' node key is was others other_named other_there same same_named same_there since =
    since_same base named there cells named' there' cells' same same_named same_there since

-- the same, of a table
pub keeps_changed : {T A E : Type 0} (Tells : T → Type 0) (named there : T → Marks) (cells : T → Cells) (old new : T) (result : Result A E) (node : ℕ) (key : List ℕ) → (Tells new ↔ Tells old) →
    (Tells old → OnOk result (IsNamed (named new node key) (there new node key) (cells new node key))) → (Tells old → OnOk result (there new node key ≡ was_there (named old node key) (there old node key) (cells old node key))) →
    (Tells old → Others node key (cells old) (cells new)) → (Tells old → OtherMarks node key (named old) (named new)) → (Tells old → OtherMarks node key (there old) (there new)) →
    (Tells old → OnErr result (Same (cells old) (cells new))) → (Tells old → OnErr result (SameMarks (named old) (named new))) → (Tells old → OnErr result (SameMarks (there old) (there new))) →
    KeepsSince Tells named there cells old new
keeps_changed Tells named there cells old new result node key tells is was others other_named other_there same same_named same_there = record {
  tells = tells;
  since = λ told base since.
      since_changed result base (named old) (there old) (cells old) (named new) (there new) (cells new) node key
      (is told) (was told) (others told) (other_named told) (other_there told) (same told) (same_named told) (same_there told) since;
}
