-- Which lines say what is stored, and what they say.
use Rattle.std.proofs.Common.{◌≡◌, ◌≢◌, ◌⊎◌, inl, inr, ℕ, zero, suc, ◌+◌, ◌^◌, ◌<◌, ◌≤◌, max, Bool, true, false, List, [], ◌∷◌, ◌++◌, length, get_or, take, drop, Option, Some, None, refl, sym, ap, arith}
use Rattle.std.proofs.lemmas.Fmt.{decimal_is_IsNumeral, decimal_injective, decimal_nonempty}
use Rattle.std.proofs.lemmas.Str.Parse.{digit_at}
use Rattle.std.proofs.lemmas.List.{length-take-le}
use Rattle.std.proofs.lemmas.List.Elements.{Contains-append_cases}
use Rattle.std.specs.List.{Contains}
use Rattle.std.specs.Prelude.{codes, decimal}
use Rattle.std.proofs.Math.ListN.{get_or-append}
use Rattle.rg_event.specs.declared.event.Event.{Event}
use Rattle.rg_event.specs.Rising.{next_offset}
use Rattle.rg_reply.specs.declared.reply.Reply.{Reply}
use Rattle.rg_reply.specs.Texts.{reply_text, reply_line, mark_line}
use Rattle.rg_reply.specs.declared.mark.Mark.TheVariants.{Opened, Stored, Saved, Finished}
use Rattle.rg_run_spec.specs.Verdicts.{Verdict, accepted_after, reply_of}
use Rattle.rg_run_spec.specs.Accepted.{verdict_from, after_turn, events_before, events_after}
use Rattle.rg_run_spec.specs.Output.{stored_line, saved_line, stores, saves, line_where, marks_of, verdict_lines, turn_lines, put_at, put_before, end_lines, out, Terms}
use Rattle.rg_run_spec.specs.Acknowledged.{SaysStored, SaysSaved, SayNothing}
use Rattle.rg_run_spec.proofs.Steps.{Item}
use Rattle.rg_run_spec.proofs.Folds.{next_within, accepted-goes}
use Rattle.rg_run_spec.proofs.Orders.{count-goes}

pub contains_one : {X : Type 0} (x y : X) (xs : List X) → Contains (x ∷ xs) y → (x ≡ y) ⊎ Contains xs y
contains_one x y xs (zero, lt, is) = inl is
contains_one x y xs (suc k, lt, is) = inr (k, omega arith, is)

pub contains_none : {X : Type 0} (y : X) → Contains [] y → ⊥
contains_none y h = omega (arith, h.1)

-- a line that begins with a digit is no mark
digit_first : (offset : ℕ) (text line : List ℕ) → offset < 2 ^ 64 → 57 < get_or line 0 0 → decimal offset ++ text ≢ line
digit_first offset text line small letter e =
    let first : get_or (decimal offset ++ text) 0 0 ≡ get_or (decimal offset) 0 0 = get_or-append (decimal offset) text 0 0 (decimal_nonempty offset small) in
    let range = digit_at (decimal offset) 0 (decimal_is_IsNumeral offset small).0.1 (decimal_nonempty offset small) in
    let same : get_or (decimal offset ++ text) 0 0 ≡ get_or line 0 0 = ap (λ (l : List ℕ). get_or l 0 0) e in
    omega (arith, first, range, same, letter)

reply_not_stored : (offset n : ℕ) (reply : Reply) → offset < 2 ^ 64 → reply_line offset reply ≢ mark_line (Stored n)
reply_not_stored offset n reply small e = digit_first offset (codes " " ++ reply_text reply) (mark_line (Stored n)) small (omega arith) e

reply_not_saved : (offset n : ℕ) (reply : Reply) → offset < 2 ^ 64 → reply_line offset reply ≢ mark_line (Saved n)
reply_not_saved offset n reply small e = digit_first offset (codes " " ++ reply_text reply) (mark_line (Saved n)) small (omega arith) e

saved_not_stored : (k n : ℕ) → mark_line (Saved k) ≢ mark_line (Stored n)
saved_not_stored k n e = let second : 97 ≡ 116 = ap (λ (l : List ℕ). get_or l 1 0) e in omega (arith, second)

done_not_stored : (a b n : ℕ) → mark_line (Finished a b) ≢ mark_line (Stored n)
done_not_stored a b n e = let first : 100 ≡ 115 = ap (λ (l : List ℕ). get_or l 0 0) e in omega (arith, first)

pub open_not_stored : (a b c n : ℕ) → mark_line (Opened a b c) ≢ mark_line (Stored n)
open_not_stored a b c n e = let first : 111 ≡ 115 = ap (λ (l : List ℕ). get_or l 0 0) e in omega (arith, first)

pub stored_injective : (m n : ℕ) → m < 2 ^ 64 → n < 2 ^ 64 → mark_line (Stored m) ≡ mark_line (Stored n) → m ≡ n
stored_injective m n h k e = decimal_injective m n h k (ap (λ (l : List ℕ). drop 7 l) e)

saved_injective : (m n : ℕ) → m < 2 ^ 64 → n < 2 ^ 64 → mark_line (Saved m) ≡ mark_line (Saved n) → m ≡ n
saved_injective m n h k e = decimal_injective m n h k (ap (λ (l : List ℕ). drop 6 l) e)

-- a line that doesn't begin with the letter of those marks says nothing of the store
pub no_mark : (line : List ℕ) → get_or line 0 0 ≢ 115 → SayNothing (line ∷ [])
no_mark line other = record {
  not_stored = λ n small says. elim (contains_one line (mark_line (Stored n)) [] says) [
    | inl e ↦ absurd (other (ap (λ (l : List ℕ). get_or l 0 0) e))
    | inr none ↦ absurd (contains_none (mark_line (Stored n)) none)
  ];
  not_saved = λ count small says. elim (contains_one line (mark_line (Saved count)) [] says) [
    | inl e ↦ absurd (other (ap (λ (l : List ℕ). get_or l 0 0) e))
    | inr none ↦ absurd (contains_none (mark_line (Saved count)) none)
  ];
}

-- a mark of one kind is the only one of that kind
one_mark : (b : Bool) (line mark : List ℕ) → Contains (line_where b line) mark → (b ≡ true) × (line ≡ mark)
one_mark true line mark has = elim (contains_one line mark [] has) [
  | inl e ↦ (refl, e)
  | inr none ↦ absurd (contains_none mark none)
]
one_mark false line mark has = absurd (contains_none mark has)

pub record IsStoredMark (terms : Terms) (events : List Event) (v : Verdict) (n : ℕ) : Type 0 where
  pub due : stores terms events v ≡ true
  pub is : n ≡ next_offset (accepted_after events v)

pub record IsSavedMark (terms : Terms) (events : List Event) (v : Verdict) (count : ℕ) : Type 0 where
  pub due : saves terms events v ≡ true
  pub is : count ≡ length (accepted_after events v)

verdict_stored : (terms : Terms) (events : List Event) (v : Verdict) (n : ℕ) → next_offset (accepted_after events v) < 2 ^ 64 → n < 2 ^ 64 → SaysStored (marks_of terms events v) n → IsStoredMark terms events v n
verdict_stored terms events v n h k has =
    elim (Contains-append_cases (line_where (stores terms events v) (stored_line (accepted_after events v))) (line_where (saves terms events v) (saved_line (accepted_after events v))) (mark_line (Stored n)) has) [
      | inl one ↦ let m = one_mark (stores terms events v) (stored_line (accepted_after events v)) (mark_line (Stored n)) one in
          record { due = m.0; is = sym (stored_injective (next_offset (accepted_after events v)) n h k m.1) }
      | inr one ↦ absurd (saved_not_stored (length (accepted_after events v)) n (one_mark (saves terms events v) (saved_line (accepted_after events v)) (mark_line (Stored n)) one).1)
    ]

verdict_saved : (terms : Terms) (events : List Event) (v : Verdict) (count : ℕ) → length (accepted_after events v) < 2 ^ 64 → count < 2 ^ 64 → SaysSaved (marks_of terms events v) count → IsSavedMark terms events v count
verdict_saved terms events v count h k has =
    elim (Contains-append_cases (line_where (stores terms events v) (stored_line (accepted_after events v))) (line_where (saves terms events v) (saved_line (accepted_after events v))) (mark_line (Saved count)) has) [
      | inl one ↦ absurd (saved_not_stored count (next_offset (accepted_after events v)) (sym (one_mark (stores terms events v) (stored_line (accepted_after events v)) (mark_line (Saved count)) one).1))
      | inr one ↦ let m = one_mark (saves terms events v) (saved_line (accepted_after events v)) (mark_line (Saved count)) one in
          record { due = m.0; is = sym (saved_injective (length (accepted_after events v)) count h k m.1) }
    ]

-- the lines of a turn that say what is stored or saved are its marks
pub line_stored : (terms : Terms) (events : List Event) (offset : ℕ) (v : Verdict) (n : ℕ) → offset < 2 ^ 64 → next_offset (accepted_after events v) < 2 ^ 64 → n < 2 ^ 64 → SaysStored (verdict_lines terms events offset v) n → IsStoredMark terms events v n
line_stored terms events offset v n small h k has = elim (contains_one (reply_line offset (reply_of terms.basis.queries events v)) (mark_line (Stored n)) (marks_of terms events v) has) [
  | inl same ↦ absurd (reply_not_stored offset n (reply_of terms.basis.queries events v) small same)
  | inr marks ↦ verdict_stored terms events v n h k marks
]

pub line_saved : (terms : Terms) (events : List Event) (offset : ℕ) (v : Verdict) (count : ℕ) → offset < 2 ^ 64 → length (accepted_after events v) < 2 ^ 64 → count < 2 ^ 64 → SaysSaved (verdict_lines terms events offset v) count → IsSavedMark terms events v count
line_saved terms events offset v count small h k has = elim (contains_one (reply_line offset (reply_of terms.basis.queries events v)) (mark_line (Saved count)) (marks_of terms events v) has) [
  | inl same ↦ absurd (reply_not_saved offset count (reply_of terms.basis.queries events v) small same)
  | inr marks ↦ verdict_saved terms events v count h k marks
]

-- a line of a turn that says what is stored says it of the events up to it
pub turn_stored : (terms : Terms) (events : List Event) (offset : ℕ) (v : Option Verdict) (n : ℕ) → offset < 2 ^ 64 → next_offset (after_turn events v) < 2 ^ 64 → n < 2 ^ 64 → SaysStored (turn_lines terms events offset v) n → n ≡ next_offset (after_turn events v)
turn_stored terms events offset None n small h k has = absurd (contains_none (mark_line (Stored n)) has)
turn_stored terms events offset (Some v) n small h k has = (line_stored terms events offset v n small h k has).is

pub turn_saved : (terms : Terms) (events : List Event) (offset : ℕ) (v : Option Verdict) (count : ℕ) → offset < 2 ^ 64 → length (after_turn events v) < 2 ^ 64 → count < 2 ^ 64 → SaysSaved (turn_lines terms events offset v) count → count ≡ length (after_turn events v)
turn_saved terms events offset None count small h k has = absurd (contains_none (mark_line (Saved count)) has)
turn_saved terms events offset (Some v) count small h k has = (line_saved terms events offset v count small h k has).is

pub end_stored : (offset : ℕ) (events : List Event) (n : ℕ) → next_offset events < 2 ^ 64 → n < 2 ^ 64 → SaysStored (end_lines offset events) n → n ≡ next_offset events
end_stored offset events n h k has = elim (contains_one (stored_line events) (mark_line (Stored n)) (saved_line events ∷ (mark_line (Finished offset (length events)) ∷ [])) has) [
  | inl e ↦ sym (stored_injective (next_offset events) n h k e)
  | inr more ↦ elim (contains_one (saved_line events) (mark_line (Stored n)) (mark_line (Finished offset (length events)) ∷ []) more) [
    | inl e ↦ absurd (saved_not_stored (length events) n e)
    | inr last ↦ elim (contains_one (mark_line (Finished offset (length events))) (mark_line (Stored n)) [] last) [
      | inl e ↦ absurd (done_not_stored offset (length events) n e)
      | inr none ↦ absurd (contains_none (mark_line (Stored n)) none)
    ]
  ]
]

done_not_saved : (a b n : ℕ) → mark_line (Finished a b) ≢ mark_line (Saved n)
done_not_saved a b n e = let first : 100 ≡ 115 = ap (λ (l : List ℕ). get_or l 0 0) e in omega (arith, first)

pub open_not_saved : (a b c n : ℕ) → mark_line (Opened a b c) ≢ mark_line (Saved n)
open_not_saved a b c n e = let first : 111 ≡ 115 = ap (λ (l : List ℕ). get_or l 0 0) e in omega (arith, first)

pub end_saved : (offset : ℕ) (events : List Event) (n : ℕ) → length events < 2 ^ 64 → n < 2 ^ 64 → SaysSaved (end_lines offset events) n → n ≡ length events
end_saved offset events n h k has = elim (contains_one (stored_line events) (mark_line (Saved n)) (saved_line events ∷ (mark_line (Finished offset (length events)) ∷ [])) has) [
  | inl e ↦ absurd (saved_not_stored n (next_offset events) (sym e))
  | inr more ↦ elim (contains_one (saved_line events) (mark_line (Saved n)) (mark_line (Finished offset (length events)) ∷ []) more) [
    | inl e ↦ sym (saved_injective (length events) n h k e)
    | inr last ↦ elim (contains_one (mark_line (Finished offset (length events))) (mark_line (Saved n)) [] last) [
      | inl e ↦ absurd (done_not_saved offset (length events) n e)
      | inr none ↦ absurd (contains_none (mark_line (Saved n)) none)
    ]
  ]
]

module _ (terms : Terms) (held : List Event) (first : ℕ) (lines : List Item) (small : first + length lines < 2 ^ 63) (low : next_offset held < 2 ^ 63) where
  -- the number is the next offset after some of the first i lines
  abbrev IsNextOf : ℕ → ℕ → Type 0
  IsNextOf i n = (j : ℕ) × (j ≤ i) × (n ≡ next_offset (events_before terms.basis held first lines j))

  pub next_small : (i : ℕ) → i ≤ length lines → next_offset (events_before terms.basis held first lines i) < 2 ^ 64
  next_small i within = omega (arith, ap next_offset (accepted-goes terms held first lines i within), (next_within terms held first (take i lines)).1, length-take-le i lines within, small, low)

  pub stored_means : (i n : ℕ) → i ≤ length lines → n < 2 ^ 64 → SaysStored (put_before terms held first lines i) n → IsNextOf i n
  stored_means zero n within k has = absurd (contains_none (mark_line (Stored n)) has)
  stored_means (suc i) n within k has = elim (Contains-append_cases (put_before terms held first lines i) (put_at terms held first lines i) (mark_line (Stored n)) has) [
    | inl old ↦ let m = stored_means i n (omega arith) k old in (m.0, omega (arith, m.1), m.2)
    | inr new ↦
        let events = events_before terms.basis held first lines i in
        (suc i, omega arith, turn_stored terms events (first + i) (verdict_from terms.basis (next_offset held) events (first + i) (get_or lines i None)) n (omega (arith, small, within)) (next_small (suc i) within) k new)
  ]

  pub out_stored_means : (n : ℕ) → n < 2 ^ 64 → SaysStored (out terms held first lines) n → IsNextOf (length lines) n
  out_stored_means n k has = elim (Contains-append_cases (put_before terms held first lines (length lines)) (end_lines (first + length lines) (events_after terms.basis held first lines)) (mark_line (Stored n)) has) [
    | inl old ↦ stored_means (length lines) n (omega arith) k old
    | inr new ↦ (length lines, omega arith, end_stored (first + length lines) (events_after terms.basis held first lines) n (next_small (length lines) (omega arith)) k new)
  ]

  -- the count is the number of events after some of the first i lines
  abbrev IsCountOf : ℕ → ℕ → Type 0
  IsCountOf i count = (j : ℕ) × (j ≤ i) × (count ≡ length (events_before terms.basis held first lines j))

  module _ (few : max (length held) terms.basis.most < 2 ^ 64) where
    count_small : (i : ℕ) → i ≤ length lines → length (events_before terms.basis held first lines i) < 2 ^ 64
    count_small i within = omega (arith, ap length (accepted-goes terms held first lines i within), count-goes terms held first (take i lines), few)

    pub saved_means : (i n : ℕ) → i ≤ length lines → n < 2 ^ 64 → SaysSaved (put_before terms held first lines i) n → IsCountOf i n
    saved_means zero n within k has = absurd (contains_none (mark_line (Saved n)) has)
    saved_means (suc i) n within k has = elim (Contains-append_cases (put_before terms held first lines i) (put_at terms held first lines i) (mark_line (Saved n)) has) [
      | inl old ↦ let m = saved_means i n (omega arith) k old in (m.0, omega (arith, m.1), m.2)
      | inr new ↦
          let events = events_before terms.basis held first lines i in
          (suc i, omega arith, turn_saved terms events (first + i) (verdict_from terms.basis (next_offset held) events (first + i) (get_or lines i None)) n (omega (arith, small, within)) (count_small (suc i) within) k new)
    ]

    pub out_saved_means : (n : ℕ) → n < 2 ^ 64 → SaysSaved (out terms held first lines) n → IsCountOf (length lines) n
    out_saved_means n k has = elim (Contains-append_cases (put_before terms held first lines (length lines)) (end_lines (first + length lines) (events_after terms.basis held first lines)) (mark_line (Saved n)) has) [
      | inl old ↦ saved_means (length lines) n (omega arith) k old
      | inr new ↦ (length lines, omega arith, end_saved (first + length lines) (events_after terms.basis held first lines) n (count_small (length lines) (omega arith)) k new)
    ]
