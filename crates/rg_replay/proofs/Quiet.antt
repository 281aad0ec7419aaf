-- What calls that write no file leave, one after another.
use Rattle.std.proofs.Common.{◌≡◌, ◌∙◌, ◌≤◌, inl, inr, ℕ, List, [], Option, Some, None, refl, sym, ap, subst, arith}
use Rattle.std.specs.Option.{ForSome}
use Rattle.std.proofs.lemmas.List.{append-nil}
use Rattle.rg_bytes.specs.Known.{after}
use Rattle.rg_host.specs.Image.{Image}
use Rattle.rg_host.specs.Moments.{Moment, LeavesFiles, LeavesAll}
use Rattle.rg_host.specs.Puts.{Puts}
use Rattle.rg_host.proofs.Laws.{moments-weaker, leaves_files-none, leaves_files-then}
use Rattle.rg_event.specs.Shapes.{Shape}
use Rattle.rg_reservoir.specs.Attached.{HasView}
use Rattle.rg_reservoir.specs.Chain.{IsIllegalBy}
use Rattle.rg_reservoir.specs.Kept.{Base, view_of}
use Rattle.rg_reservoir.specs.declared.reservoir.Reservoir.{Reservoir}
use Rattle.rg_replay.specs.declared.fault.ReplayFault.{ReplayFault}
use Rattle.rg_replay.specs.declared.fault.ReplayFault.TheVariants.{Disk, Damaged, SchemaDiffers, Memory, Write}
use Rattle.rg_replay.specs.Playing.{IsCaused, IsCausedOver, IsPutFault, LeavesStore, StaysQuiet}

nothing_after : (said : Option (List ℕ)) → said ≡ after said []
nothing_after (Some told) = ap (λ v. Some v) (sym (append-nil told))
nothing_after None = refl

module _ {H : Type 0} (now : H → Option Image) (may : H → Image → Type 0) (clock : H → ℕ) (since : H → ℕ → Moment → Type 0) (said : H → Option (List ℕ)) (old new : H) (leaves : LeavesAll now may clock since said old new) where
  pub leaves_files : LeavesFiles now may clock since old new
  leaves_files = record { now_stays = leaves.now_stays; may_stays = leaves.may_stays; moments = moments-weaker clock since old new _ _ leaves.moments (λ m has. has.0) }

  pub puts_nothing : Puts said clock since old new []
  puts_nothing = record {
    grows = leaves.said_stays ∙ nothing_after (said old);
    moments = moments-weaker clock since old new _ _ leaves.moments (λ m has s is. ([], ([], refl), has.1 s is ∙ sym (append-nil s)));
  }

module _ {H : Type 0} (now : H → Option Image) (may : H → Image → Type 0) (clock : H → ℕ) (since : H → ℕ → Moment → Type 0) (disk_faults out_faults : H → ℕ) where
  pub leaves_store-none : (host : H) → ((t u : ℕ) (m : Moment) → t ≤ u → since host u m → since host t m) → ((m : Moment) → since host (clock host) m → may host m.image) → LeavesStore now may clock since disk_faults out_faults host host
  leaves_store-none host sinks only = record { leaves = leaves_files-none now may clock since host sinks only; disk = omega arith; out = omega arith }

  pub leaves_store-then : (old mid new : H) → LeavesStore now may clock since disk_faults out_faults old mid → LeavesStore now may clock since disk_faults out_faults mid new → LeavesStore now may clock since disk_faults out_faults old new
  leaves_store-then old mid new first second = record {
    leaves = leaves_files-then now may clock since old mid new first.leaves second.leaves;
    disk = omega (arith, first.disk, second.disk);
    out = omega (arith, first.out, second.out);
  }

  -- a cause that came about behind such calls
  pub caused_later : (b c : Base) (fault : ReplayFault) (old mid new : H) → c ≡ b → LeavesStore now may clock since disk_faults out_faults old mid → IsCaused now disk_faults out_faults c fault mid new → IsCaused now disk_faults out_faults b fault old new
  caused_later b c fault old mid new same first cause = record {
    disk = λ is. let rose = cause.disk is in omega (arith, first.disk, rose);
    damaged = λ p is v told. subst (λ (x : Base). IsIllegalBy (view_of x) p (v x.file)) same (cause.damaged p is v (first.leaves.now_stays ∙ told));
    write = λ is. let rose = cause.write is in omega (arith, first.out, rose);
    same_schema = cause.same_schema;
  }

  -- a put that failed, or want of memory
  pub caused_put : (b : Base) (fault : ReplayFault) (old new : H) → IsPutFault out_faults fault old new → IsCaused now disk_faults out_faults b fault old new
  caused_put b fault old new (inl memory) = record {
    disk = λ is. let e : Memory ≡ Disk = sym memory ∙ is in absurd cc;
    damaged = λ p is. let e : Memory ≡ Damaged p = sym memory ∙ is in absurd cc;
    write = λ is. let e : Memory ≡ Write = sym memory ∙ is in absurd cc;
    same_schema = λ is. let e : Memory ≡ SchemaDiffers = sym memory ∙ is in absurd cc;
  }
  caused_put b fault old new (inr write) = record {
    disk = λ is. let e : Write ≡ Disk = sym write.0 ∙ is in absurd cc;
    damaged = λ p is. let e : Write ≡ Damaged p = sym write.0 ∙ is in absurd cc;
    write = λ is. write.1;
    same_schema = λ is. let e : Write ≡ SchemaDiffers = sym write.0 ∙ is in absurd cc;
  }

-- what a step over a reservoir leaves
pub leaves_of : {H : Type 0} (now : H → Option Image) (may : H → Image → Type 0) (clock : H → ℕ) (since : H → ℕ → Moment → Type 0) (said : H → Option (List ℕ)) (disk_faults out_faults : H → ℕ) (r then : Reservoir) (old new : H) → StaysQuiet now may clock since said disk_faults out_faults r then old new → LeavesStore now may clock since disk_faults out_faults old new
leaves_of now may clock since said disk_faults out_faults r then old new quiet = record { leaves = leaves_files now may clock since said old new quiet.leaves; disk = quiet.disk; out = omega (arith, quiet.out) }

pub leaves_all : {H : Type 0} (now : H → Option Image) (may : H → Image → Type 0) (clock : H → ℕ) (since : H → ℕ → Moment → Type 0) (said : H → Option (List ℕ)) (disk_faults out_faults : H → ℕ) (old new : H) → LeavesAll now may clock since said old new → disk_faults old ≤ disk_faults new → out_faults new ≡ out_faults old → LeavesStore now may clock since disk_faults out_faults old new
leaves_all now may clock since said disk_faults out_faults old new leaves disk out = record { leaves = leaves_files now may clock since said old new leaves; disk = disk; out = omega (arith, out) }

module _ {H : Type 0} (now : H → Option Image) (may : H → Image → Type 0) (clock : H → ℕ) (since : H → ℕ → Moment → Type 0) (disk_faults out_faults : H → ℕ) where
  -- a cause within the log that was opened
  pub caused_opened : (b : Base) (shape : Shape) (fault : ReplayFault) (old mid new : H) → b.file ≡ 2 → ForSome (now old) (λ v. HasView shape (view_of b) (v 2)) → LeavesStore now may clock since disk_faults out_faults old mid → IsCaused now disk_faults out_faults b fault mid new → IsCausedOver now disk_faults out_faults shape fault old new
  caused_opened b shape fault old mid new file seen first cause = record {
    disk = λ is. let rose = cause.disk is in omega (arith, first.disk, rose);
    damaged = λ p is. inr (λ v told. (view_of b, seen v told, subst (λ (f : ℕ). IsIllegalBy (view_of b) p (v f)) file (cause.damaged p is v (first.leaves.now_stays ∙ told))));
    write = λ is. let rose = cause.write is in omega (arith, first.out, rose);
    differs = λ is. absurd (cause.same_schema is);
  }

  -- a put of the last line that failed, or want of memory for it
  pub caused_end : (shape : Shape) (fault : ReplayFault) (old mid new : H) → LeavesStore now may clock since disk_faults out_faults old mid → IsPutFault out_faults fault mid new → IsCausedOver now disk_faults out_faults shape fault old new
  caused_end shape fault old mid new first (inl memory) = record {
    disk = λ is. let e : Memory ≡ Disk = sym memory ∙ is in absurd cc;
    damaged = λ p is. let e : Memory ≡ Damaged p = sym memory ∙ is in absurd cc;
    write = λ is. let e : Memory ≡ Write = sym memory ∙ is in absurd cc;
    differs = λ is. let e : Memory ≡ SchemaDiffers = sym memory ∙ is in absurd cc;
  }
  caused_end shape fault old mid new first (inr write) = record {
    disk = λ is. let e : Write ≡ Disk = sym write.0 ∙ is in absurd cc;
    damaged = λ p is. let e : Write ≡ Damaged p = sym write.0 ∙ is in absurd cc;
    write = λ is. let rose = write.1 in omega (arith, first.out, rose);
    differs = λ is. let e : Write ≡ SchemaDiffers = sym write.0 ∙ is in absurd cc;
  }
