-- The last lines of a run are lines, and say nothing of the store.
use Rattle.std.specs.List.{list_all}
use Rattle.std.proofs.Common.{◌≡◌, ℕ, ◌==◌, not, Bool, true, false, List, [], ◌∷◌, ◌++◌, get_or, Some, refl, sym, ◌∙◌, ap, subst, arith, append_assoc}
use Rattle.std.specs.Prelude.{codes, decimal}
use Rattle.rg_event.specs.Rising.{next_offset}
use Rattle.rg_host.specs.Lines.{HasNoLf, ended}
use Rattle.rg_reply.specs.Texts.{mark_line}
use Rattle.rg_reply.specs.declared.mark.Mark.TheVariants.{Stored, Saved}
use Rattle.rg_run_spec.specs.Acknowledged.{SayNothing}
use Rattle.rg_run_spec.specs.Pieces.{AreLines}
use Rattle.rg_run_spec.proofs.Laws.{contains_none, no_mark, mark_no_lf}
use Rattle.rg_run.specs.Begun.{Begun}
use Rattle.rg_messages.specs.Statuses.{last_line}
use Rattle.rg_commands.specs.Call.{damage_line, gap_line}
use Rattle.rg_commands.specs.Runs.{IsLastOf}
use Rattle.rg_messages.specs.declared.status.Status.{Status}
use Rattle.rg_messages.specs.declared.status.Status.TheVariants.{Ok, Usage, Plan as BadPlan, Store, Read, Write, Disk, Limit, Memory, Gap, Differs}

-- the bytes are lines, at most one, that say nothing of the store
pub record IsLine (last : List ℕ) : Type 0 where
  pub ends : List (List ℕ)
  pub is : ended ends ≡ last
  pub are : AreLines ends
  pub nothing : SayNothing ends

no_line : IsLine []
no_line = record {
  ends = [];
  is = refl;
  are = tt;
  nothing = record {
    not_stored = λ n small says. contains_none (mark_line (Stored n)) says;
    not_saved = λ n small says. contains_none (mark_line (Saved n)) says;
  };
}

one_line : (line last : List ℕ) → line ++ 10 ∷ [] ≡ last → HasNoLf line → (get_or line 0 0 ≡ 115 → ⊥) → IsLine last
one_line line last is none other = record { ends = line ∷ []; is = is; are = (none, tt); nothing = no_mark line other }

no_lf_more : (a b : List ℕ) → HasNoLf a → HasNoLf b → HasNoLf (a ++ b)
no_lf_more [] b p q = q
no_lf_more (x ∷ a) b p q = (p.0, no_lf_more a b p.1 q)

-- by a test
test_back : (byte : ℕ) (bytes : List ℕ) (b c : Bool) → (byte == 10) ≡ b → list_all (λ x. not (x == 10)) bytes ≡ c → list_all (λ x. not (x == 10)) (byte ∷ bytes) ≡ true → (b ≡ false) × (c ≡ true)
test_back byte bytes true c t u all = absurd (let h : false ≡ true = sym (rw t refl) ∙ all in cc)
test_back byte bytes false c t u all = (refl, sym u ∙ sym (rw t refl) ∙ all)

no_lf : (bytes : List ℕ) → list_all (λ x. not (x == 10)) bytes ≡ true → HasNoLf bytes
no_lf [] all = tt
no_lf (byte ∷ bytes) all =
    let h = test_back byte bytes (byte == 10) (list_all (λ x. not (x == 10)) bytes) refl refl all in
    (h.0, no_lf bytes h.1)

decimal_no_lf : (n : ℕ) → HasNoLf (decimal n)
decimal_no_lf n = (mark_no_lf (Stored n)).1.1.1.1.1.1.1

-- each last line

read_is : IsLine (last_line Read)
read_is = one_line (codes "failed read") (last_line Read) refl (no_lf (codes "failed read") refl) (λ e. omega (arith, e))

disk_is : IsLine (last_line Disk)
disk_is = one_line (codes "failed disk") (last_line Disk) refl (no_lf (codes "failed disk") refl) (λ e. omega (arith, e))

limit_is : IsLine (last_line Limit)
limit_is = one_line (codes "failed limit") (last_line Limit) refl (no_lf (codes "failed limit") refl) (λ e. omega (arith, e))

memory_is : IsLine (last_line Memory)
memory_is = one_line (codes "failed memory") (last_line Memory) refl (no_lf (codes "failed memory") refl) (λ e. omega (arith, e))

damage_is : (place : ℕ) → IsLine (damage_line (Some place))
damage_is place = one_line (codes "refused store damaged " ++ decimal place) (damage_line (Some place)) (append_assoc (codes "refused store damaged ") (decimal place) (10 ∷ []))
    (no_lf_more (codes "refused store damaged ") (decimal place) (no_lf (codes "refused store damaged ") refl) (decimal_no_lf place)) (λ e. omega (arith, e))

gap_is : (first next : ℕ) → IsLine (gap_line first next)
gap_is first next =
    let back = codes " " ++ decimal next in
    one_line (codes "refused gap " ++ (decimal first ++ back)) (gap_line first next)
    (append_assoc (codes "refused gap ") (decimal first ++ back) (10 ∷ [])
    ∙ ap (λ (l : List ℕ). codes "refused gap " ++ l) (append_assoc (decimal first) back (10 ∷ []) ∙ ap (λ (l : List ℕ). decimal first ++ l) (append_assoc (codes " ") (decimal next) (10 ∷ []))))
    (no_lf_more (codes "refused gap ") (decimal first ++ back) (no_lf (codes "refused gap ") refl) (no_lf_more (decimal first) back (decimal_no_lf first) (refl, decimal_no_lf next))) (λ e. omega (arith, e))

line_at : (known last : List ℕ) → last ≡ known → IsLine known → IsLine last
line_at known last is line = subst (λ (l : List ℕ). IsLine l) (sym is) line

pub line_of_status : (b : Begun) (status : Status) (last : List ℕ) → IsLastOf status b last → IsLine last
line_of_status b Ok last is = line_at [] last is no_line
line_of_status b Usage last is = absurd is
line_of_status b BadPlan last is = absurd is
line_of_status b Store last is = line_at (damage_line (Some is.0)) last is.1 (damage_is is.0)
line_of_status b Read last is = line_at (last_line Read) last is read_is
line_of_status b Write last is = line_at [] last is no_line
line_of_status b Disk last is = line_at (last_line Disk) last is disk_is
line_of_status b Limit last is = line_at (last_line Limit) last is limit_is
line_of_status b Memory last is = line_at (last_line Memory) last is memory_is
line_of_status b Gap last is = line_at (gap_line b.first (next_offset b.held)) last is (gap_is b.first (next_offset b.held))
line_of_status b Differs last is = absurd is
