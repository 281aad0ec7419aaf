-- The text of a run ends with the number of its events.
use Rattle.std.proofs.Common.{◌≡◌, ℕ, ◌+◌, List, [], ◌∷◌, ◌++◌, length, refl, ap, sym, ◌∙◌, append_assoc}
use Rattle.std.specs.Prelude.{decimal, codes}
use Rattle.rg_event.specs.declared.event.Event.{Event}
use Rattle.rg_reply.specs.Texts.{mark_line}
use Rattle.rg_reply.specs.declared.mark.Mark.TheVariants.{Finished}
use Rattle.rg_host.specs.Lines.{ended, lines_of}
use Rattle.rg_config.specs.Plans.{Planned}
use Rattle.rg_run_spec.specs.Accepted.{events_after}
use Rattle.rg_run_spec.specs.Output.{open_line, put_before, stored_line, saved_line}
use Rattle.rg_host.proofs.Laws.{ended-append}
use Rattle.rg_task.specs.Terms.{terms_of}
use Rattle.rg_selftest.specs.Trials.{text_for, count_for}
use Rattle.rg_selftest.proofs.Words.{snoc_front}

-- all that stands before the number
abbrev pub front_of : Planned → List ℕ → List ℕ
front_of plan input =
    ended (open_line [] 0 ∷ (put_before (terms_of plan) [] 0 (lines_of input) (length (lines_of input))
    ++ (stored_line (events_after (terms_of plan).basis [] 0 (lines_of input)) ∷ (saved_line (events_after (terms_of plan).basis [] 0 (lines_of input)) ∷ []))))
    ++ (codes "done " ++ decimal (0 + length (lines_of input)))

shifted : (first a l k t : List ℕ) → first ++ ((a ++ (l ++ (32 ∷ k))) ++ t) ≡ (first ++ (a ++ l)) ++ 32 ∷ (k ++ t)
shifted first a l k t = rw (append_assoc first (a ++ l) (32 ∷ (k ++ t)), append_assoc a l (32 ∷ (k ++ t)), append_assoc a (l ++ (32 ∷ k)) t, append_assoc l (32 ∷ k) t) refl

pub ends_with_count : (plan : Planned) (input : List ℕ) → text_for plan input ≡ front_of plan input ++ (32 ∷ (decimal (count_for plan input) ++ 10 ∷ []))
ends_with_count plan input =
    let events : List Event = events_after (terms_of plan).basis [] 0 (lines_of input) in
    let put : List (List ℕ) = put_before (terms_of plan) [] 0 (lines_of input) (length (lines_of input)) in
    let marks : List (List ℕ) = stored_line events ∷ (saved_line events ∷ []) in
    let done : List ℕ = mark_line (Finished (0 + length (lines_of input)) (length events)) in
    ap (λ lines. ended (open_line [] 0 ∷ lines)) (sym (append_assoc put marks (done ∷ [])))
    ∙ ended-append (open_line [] 0 ∷ (put ++ marks)) (done ∷ [])
    ∙ shifted (ended (open_line [] 0 ∷ (put ++ marks))) (codes "done ") (decimal (0 + length (lines_of input))) (decimal (length events)) (10 ∷ [])

-- so a line of the text without its LF ends with it
pub without_lf : (plan : Planned) (input text line : List ℕ) (last : ℕ) → text ≡ text_for plan input → text ≡ line ++ last ∷ [] → line ≡ front_of plan input ++ 32 ∷ decimal (count_for plan input)
without_lf plan input text line last is split = snoc_front line (front_of plan input ++ 32 ∷ decimal (count_for plan input)) last 10
    (sym split ∙ is ∙ ends_with_count plan input ∙ sym (append_assoc (front_of plan input) (32 ∷ decimal (count_for plan input)) (10 ∷ [])))
