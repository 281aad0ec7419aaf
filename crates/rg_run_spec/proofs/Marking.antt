-- The marks that are put hold, where what is due was done before.
use Rattle.std.proofs.Common.{◌≡◌, inl, inr, ℕ, ◌^◌, ◌<◌, true, List, [], ◌∷◌, length, Option, Some, None, refl, sym, ap, subst, arith}
use Rattle.rg_event.specs.declared.event.Event.{Event}
use Rattle.rg_event.specs.Rising.{next_offset}
use Rattle.rg_reply.specs.Texts.{mark_line}
use Rattle.rg_reply.specs.declared.mark.Mark.TheVariants.{Stored, Saved}
use Rattle.rg_run_spec.specs.Verdicts.{Verdict, accepted_after}
use Rattle.rg_run_spec.specs.Accepted.{after_turn}
use Rattle.rg_run_spec.specs.Output.{stores, saves, turn_lines, end_lines, open_line, Terms}
use Rattle.rg_run_spec.specs.Stores.{Store}
use Rattle.rg_run_spec.specs.Steps.{HasInKept, MarksHold}
use Rattle.rg_run_spec.proofs.Marks.{contains_one, contains_none, open_not_stored, open_not_saved, line_stored, line_saved, end_stored, end_saved}

module _ (Image : Type 0) (store : Store Image) where
  pub turn_marks : (terms : Terms) (events : List Event) (offset : ℕ) (v : Option Verdict) (stored : List Event) (keep : Option ℕ) (may : Image → Type 0) → offset < 2 ^ 64 → next_offset (after_turn events v) < 2 ^ 64 → length (after_turn events v) < 2 ^ 64 →
      ((w : Verdict) → v ≡ Some w → stores terms events w ≡ true → stored ≡ accepted_after events w) →
      ((w : Verdict) → v ≡ Some w → saves terms events w ≡ true → HasInKept store stored keep may (length (accepted_after events w))) → MarksHold store stored keep may (turn_lines terms events offset v)
  turn_marks terms events offset None stored keep may low small few due_stored due_saved = record {
    stored_by = λ n k says. absurd (contains_none (mark_line (Stored n)) says);
    saved_by = λ count k says. absurd (contains_none (mark_line (Saved count)) says);
  }
  turn_marks terms events offset (Some w) stored keep may low small few due_stored due_saved = record {
    stored_by = λ n k says. let m = line_stored terms events offset w n low small k says in omega (arith, m.is, ap next_offset (due_stored w refl m.due));
    saved_by = λ count k says. let m = line_saved terms events offset w count low few k says in subst (λ (c : ℕ). HasInKept store stored keep may c) (sym m.is) (due_saved w refl m.due);
  }

  pub end_marks : (offset : ℕ) (events : List Event) (keep : Option ℕ) (may : Image → Type 0) → next_offset events < 2 ^ 64 → length events < 2 ^ 64 → HasInKept store events keep may (length events) → MarksHold store events keep may (end_lines offset events)
  end_marks offset events keep may small few kept = record {
    stored_by = λ n k says. omega (arith, end_stored offset events n small k says);
    saved_by = λ count k says. subst (λ (c : ℕ). HasInKept store events keep may c) (sym (end_saved offset events count few k says)) kept;
  }

  pub no_marks : (stored : List Event) (keep : Option ℕ) (may : Image → Type 0) → MarksHold store stored keep may []
  no_marks stored keep may = record {
    stored_by = λ n k says. absurd (contains_none (mark_line (Stored n)) says);
    saved_by = λ n k says. absurd (contains_none (mark_line (Saved n)) says);
  }

  pub open_marks : (held : List Event) (from : ℕ) (stored : List Event) (keep : Option ℕ) (may : Image → Type 0) → MarksHold store stored keep may (open_line held from ∷ [])
  open_marks held from stored keep may = record {
    stored_by = λ n k says. elim (contains_one (open_line held from) (mark_line (Stored n)) [] says) [
      | inl e ↦ absurd (open_not_stored (next_offset held) (length held) from n e)
      | inr none ↦ absurd (contains_none (mark_line (Stored n)) none)
    ];
    saved_by = λ n k says. elim (contains_one (open_line held from) (mark_line (Saved n)) [] says) [
      | inl e ↦ absurd (open_not_saved (next_offset held) (length held) from n e)
      | inr none ↦ absurd (contains_none (mark_line (Saved n)) none)
    ];
  }
