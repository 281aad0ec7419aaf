-- The lines of a replay over events, and over these and one more.
use Rattle.std.proofs.Common.{◌≡◌, ◌∙◌, ◌≤◌, ◌<◌, ◌+◌, ℕ, zero, suc, nat_le, Bool, true, false, List, [], ◌∷◌, ◌++◌, length, slice_get, Option, Some, None, refl, ap, sym, arith, length-append, append_assoc, ◌-◌}
use Rattle.std.specs.Prelude.{if◌then◌else◌}
use Rattle.std.proofs.lemmas.Bool.Decides.{nat_tests}
use Rattle.std.proofs.lemmas.List.{take-append-le, append-nil, take_all}
use Rattle.rg_event.specs.declared.event.Event.{Event}
use Rattle.rg_event.specs.Rising.{next_offset, IsRising}
use Rattle.rg_metric.specs.Queries.{Asked}
use Rattle.rg_metric.specs.Replies.{answers_to}
use Rattle.rg_reply.specs.declared.reply.Reply.{Reply}
use Rattle.rg_reply.specs.declared.reply.Reply.TheVariants.{Answered}
use Rattle.rg_reply.specs.Texts.{reply_line}
use Rattle.rg_replay.specs.Replay.{replayed, line_from, line_of, line_at, lines_before, replay_lines, end_line, replay_text}

get_front : {A : Type 0} (xs ys : List A) (i : ℕ) → i < length xs → slice_get (xs ++ ys) i ≡ slice_get xs i
get_front [] ys i below = absurd (omega (arith, below))
get_front (x ∷ xs) ys zero below = refl
get_front (x ∷ xs) ys (suc i) below = get_front xs ys i (omega (arith, below))

get_seam : {A : Type 0} (xs : List A) (y : A) (ys : List A) → slice_get (xs ++ y ∷ ys) (length xs) ≡ Some y
get_seam [] y ys = refl
get_seam (x ∷ xs) y ys = get_seam xs y ys

-- an event at `first` or behind it has a line, and one before it has none
pub line_kept : (first offset : ℕ) (reply : Reply) → first ≤ offset → line_from first offset reply ≡ reply_line offset reply ∷ []
line_kept first offset reply from = let yes : nat_le first offset ≡ true = grind (arith, nat_tests) in ap (λ (b : Bool). if b then reply_line offset reply ∷ [] else []) yes

pub line_left : (first offset : ℕ) (reply : Reply) → offset < first → line_from first offset reply ≡ []
line_left first offset reply below = let no : nat_le first offset ≡ false = grind (arith, nat_tests) in ap (λ (b : Bool). if b then reply_line offset reply ∷ [] else []) no

module _ (queries : List Asked) (first : ℕ) where
  -- the line of an event doesn't depend on what comes behind it
  line_front : (xs ys : List Event) (i : ℕ) → i < length xs → line_at queries first (xs ++ ys) i ≡ line_at queries first xs i
  line_front xs ys i below =
      ap (λ o. line_of queries first (xs ++ ys) i o) (get_front xs ys i below) ∙ by (slice_get xs i)
    where
      by : (o : Option Event) → line_of queries first (xs ++ ys) i o ≡ line_of queries first xs i o
      by None = refl
      by (Some e) = ap (λ l. line_from first e.offset (Answered (answers_to queries l e))) (take-append-le (suc i) xs ys (omega (arith, below)))

  pub lines_front : (xs ys : List Event) (n : ℕ) → n ≤ length xs → lines_before queries first (xs ++ ys) n ≡ lines_before queries first xs n
  lines_front xs ys zero within = refl
  lines_front xs ys (suc n) within =
      ap (λ l. l ++ line_at queries first (xs ++ ys) n) (lines_front xs ys n (omega (arith, within)))
      ∙ ap (λ l. lines_before queries first xs n ++ l) (line_front xs ys n (omega (arith, within)))

  -- one event more has one line more
  line_last : (xs : List Event) (e : Event) → line_at queries first (xs ++ e ∷ []) (length xs) ≡ line_from first e.offset (Answered (answers_to queries (xs ++ e ∷ []) e))
  line_last xs e =
      ap (λ o. line_of queries first (xs ++ e ∷ []) (length xs) o) (get_seam xs e [])
      ∙ ap (λ l. line_from first e.offset (Answered (answers_to queries l e))) (take_all (suc (length xs)) (xs ++ e ∷ []) (omega (arith, length-append xs (e ∷ []))))

  pub lines_push : (xs : List Event) (e : Event) → replay_lines queries first (xs ++ e ∷ []) ≡ replay_lines queries first xs ++ line_from first e.offset (Answered (answers_to queries (xs ++ e ∷ []) e))
  lines_push xs e =
      ap (λ n. lines_before queries first (xs ++ e ∷ []) n) count
      ∙ ap (λ l. l ++ line_at queries first (xs ++ e ∷ []) (length xs)) (lines_front xs (e ∷ []) (length xs) (omega arith))
      ∙ ap (λ l. replay_lines queries first xs ++ l) (line_last xs e)
    where
      count : length (xs ++ e ∷ []) ≡ suc (length xs)
      count = omega (arith, length-append xs (e ∷ []))

  -- events before `first` have no line
  pub none_before : (events : List Event) (n : ℕ) → ((i : ℕ) (e : Event) → slice_get events i ≡ Some e → e.offset < first) → lines_before queries first events n ≡ []
  none_before events zero before = refl
  none_before events (suc n) before =
      ap (λ l. l ++ line_at queries first events n) (none_before events n before) ∙ by (slice_get events n) refl
    where
      by : (o : Option Event) → slice_get events n ≡ o → line_of queries first events n o ≡ []
      by None is = refl
      by (Some e) is = line_left first e.offset (Answered (replayed queries events n e)) (before n e is)

-- the offsets of events that rise are below the next one
pub below_next : (events : List Event) → IsRising events → (i : ℕ) (e : Event) → slice_get events i ≡ Some e → e.offset < next_offset events
below_next [] rising i e is = absurd (cc)
below_next (x ∷ []) rising zero e is = let same : x ≡ e = cc in omega (arith, ap (λ (y : Event). y.offset) same)
below_next (x ∷ []) rising (suc i) e is = absurd (cc)
below_next (x ∷ (y ∷ events)) rising zero e is =
    let same : x ≡ e = cc in
    omega (arith, ap (λ (z : Event). z.offset) same, rising.0, below_next (y ∷ events) rising.2 0 y refl)
below_next (x ∷ (y ∷ events)) rising (suc i) e is = below_next (y ∷ events) rising.2 i e is

-- the lines of more events begin with those of fewer
pub lines_split : (queries : List Asked) (first : ℕ) (events : List Event) (n more m : ℕ) → m ≡ more + n → (rest : List (List ℕ)) × (lines_before queries first events m ≡ lines_before queries first events n ++ rest)
lines_split queries first events n zero m is =
    let same : m ≡ n = omega (arith, is) in
    ([], ap (λ k. lines_before queries first events k) same ∙ sym (append-nil (lines_before queries first events n)))
lines_split queries first events n (suc more) m is =
    let one : m ≡ suc (more + n) = omega (arith, is) in
    let before = lines_split queries first events n more (more + n) refl in (
      before.0 ++ line_at queries first events (more + n),
      ap (λ k. lines_before queries first events k) one ∙ ap (λ l. l ++ line_at queries first events (more + n)) before.1 ∙ append_assoc (lines_before queries first events n) before.0 (line_at queries first events (more + n)),
    )

-- the whole text begins with them
pub text_split : (queries : List Asked) (first : ℕ) (events : List Event) (n : ℕ) → n ≤ length events → (rest : List (List ℕ)) × (replay_text queries first events ≡ lines_before queries first events n ++ rest)
text_split queries first events n within =
    let count : length events ≡ (length events - n) + n = omega (arith, within) in
    let split = lines_split queries first events n (length events - n) (length events) count in
    (split.0 ++ end_line events ∷ [], ap (λ l. l ++ end_line events ∷ []) split.1 ∙ append_assoc (lines_before queries first events n) split.0 (end_line events ∷ []))
