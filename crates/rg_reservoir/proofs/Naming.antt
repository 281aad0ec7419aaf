-- Which spots the heads and growths of a log name, counted frame by frame.
use Rattle.std.proofs.Common.{◌≡◌, ◌∙◌, inl, inr, ℕ, ◌+◌, ◌-◌, ◌^◌, ◌≤◌, ◌<◌, ◌||◌, ◌==◌, Bool, IsTrue, true, false, List, [], ◌∷◌, ◌++◌, length, Option, Some, None, All, refl, sym, ap, subst, arith, append_assoc}
use Rattle.std.proofs.lemmas.Bool.{or_cases, eqb-true, eq-eqb}
use Rattle.std.specs.Prelude.{count_by, slice_index_or, ◌↔◌}
use Rattle.std.proofs.lemmas.List.Sums.{count_by-le-length}
use Rattle.rg_past.specs.declared.past.Spot.{Spot}
use Rattle.rg_event.specs.declared.event.Event.{Event}
use Rattle.rg_event.specs.Shapes.{Shape}
use Rattle.rg_host.specs.Image.{Image}
use Rattle.rg_frame.specs.Frames.{payload_at, HasPayloads, Begins, IsLog}
use Rattle.rg_frame.proofs.Laws.{length-frames, length-frames-push, payloads_one, payload_between, payload_none}
use Rattle.rg_log.specs.Entries.{nothing, unread, behind, count_of, shape_behind, further_entry, entry_of, entry_after}
use Rattle.rg_log.specs.Log.{joined}
use Rattle.rg_log.specs.Payloads.{schema_of}
use Rattle.rg_log.specs.Spots.{is_in_chunk, is_at_end, named_at, named_from, named_behind, named_by_heads, NamedByHeads}
use Rattle.rg_log.specs.declared.entry.Entry.{Entry}
use Rattle.rg_log.specs.declared.entry.LogSoFar.{LogSoFar}
use Rattle.rg_log.proofs.Laws.{only_first, behind_is, counted, in_chunk_is, at_end_is, named_in, schema_said}
use Rattle.rg_reservoir.specs.Heads.{EntryAt, IsPassed, IsBadFrame}
use Rattle.rg_reservoir.specs.Kept.{base, opened, next_of, time_of, cache_of, IsRight, IsSound, Spells}
use Rattle.rg_reservoir.specs.Naming.{Reached, LeftOf, Left, IsNamed, count_found}
use Rattle.rg_reservoir.specs.declared.reservoir.Reservoir.{Reservoir}
use Rattle.rg_reservoir.proofs.Chains.{some_none}
use Rattle.rg_reservoir.proofs.Committing.{log_at}
use Rattle.rg_reservoir.proofs.Counting.{count_either, count_none, counted_all, all_counted}
use Rattle.rg_reservoir.proofs.Firsts.{one_payload}
use Rattle.rg_reservoir.proofs.Heading.{begins_none, passed_start, step_passed, passed_more, entry_on, ends_on}
use Rattle.rg_reservoir.proofs.Legal.{legal_not_bad}
use Rattle.rg_reservoir.proofs.Listing.{listed, next_is, none_is}
use Rattle.rg_reservoir.proofs.Spelled.{spelled_there, spelled_here}

behind_frame : (place before next : ℕ) (spot : Spot) (o : Option Entry) (further : Entry → Bool) → place < next → ((entry : Entry) → further entry ≡ true → next ≤ spot.place) → named_at place before spot o further ≡ true → place ≤ spot.place
behind_frame place before next spot None further less all e = absurd cc
behind_frame place before next spot (Some entry) further less all e = elim (or_cases (is_in_chunk place before (count_of entry) spot) (further entry) e) [
  | inl here ↦ let i = in_chunk_is place before (count_of entry) spot here in omega (arith, i.0)
  | inr there ↦ omega (arith, less, all entry there)
]

-- what is named from a place on stands there or behind it
behind_place : (shape : Shape) (place before : ℕ) (payloads : List (List ℕ)) (spot : Spot) → named_from shape place before payloads spot ≡ true → place ≤ spot.place
behind_place shape place before [] spot is = let e = at_end_is place before spot is in omega (arith, e.0)
behind_place shape place before (p ∷ payloads) spot is =
    behind_frame place before (place + 9 + length p) spot (further_entry shape p) (λ entry. named_from (shape_behind shape entry) (place + 9 + length p) (before + count_of entry) payloads spot) (omega arith)
    (λ entry. behind_place (shape_behind shape entry) (place + 9 + length p) (before + count_of entry) payloads spot) is

-- so no spot of a frame is named further on too
apart : (shape : Shape) (place before count next : ℕ) (payloads : List (List ℕ)) (spot : Spot) → place < next → is_in_chunk place before count spot ≡ true → named_from shape next (before + count) payloads spot ≡ false
apart shape place before count next payloads spot less here = by (named_from shape next (before + count) payloads spot) refl
  where
    by : (b : Bool) → named_from shape next (before + count) payloads spot ≡ b → b ≡ false
    by false is = refl
    by true is = absurd (omega (arith, less, (in_chunk_is place before count spot here).0, behind_place shape next (before + count) payloads spot is))

-- one frame more
abbrev reached_more : (payloads : List (List ℕ)) (place next : ℕ) (p : List ℕ) (at : Reached payloads place) (more : List (List ℕ)) → at.rest ≡ p ∷ more → next ≡ place + 9 + length p → Reached payloads next
reached_more payloads place next p at more is size = record {
  done = at.done ++ p ∷ [];
  rest = more;
  is = at.is ∙ ap (λ (l : List (List ℕ)). at.done ++ l) is ∙ sym (append_assoc at.done (p ∷ []) more);
  place_is = omega (arith, size, at.place_is, length-frames-push at.done p);
}

left_more : (spots : List Spot) (shape : Shape) (place before left next less : ℕ) (entry : Entry) (payloads : List (List ℕ)) (bytes p : List ℕ) → LeftOf spots shape place before left payloads → HasPayloads payloads bytes → payload_at place bytes ≡ Some p → further_entry shape p ≡ Some entry
    → next ≡ place + 9 + length p → less ≡ left - count_by (is_in_chunk place before (count_of entry)) spots → LeftOf spots (shape_behind shape entry) next (before + count_of entry) less payloads
left_more spots shape place before left next less entry payloads bytes p l has here says size is =
    let n = next_is payloads place bytes p l.at has here in
    let other = shape_behind shape entry in
    let count = count_of entry in
    let whole : count_by (named_from shape place before l.at.rest) spots ≡ count_by (named_from shape place before (p ∷ n.0)) spots = ap (λ (r : List (List ℕ)). count_by (named_from shape place before r) spots) n.1 in
    let parts : count_by (named_from shape place before (p ∷ n.0)) spots ≡ count_by (is_in_chunk place before count) spots + count_by (named_from other next (before + count) n.0) spots =
    count_either (named_from shape place before (p ∷ n.0)) (is_in_chunk place before count) (named_from other next (before + count) n.0)
    (λ spot. ap (λ (o : Option Entry). named_at place before spot o (λ e. named_from (shape_behind shape e) (place + 9 + length p) (before + count_of e) n.0 spot)) says
    ∙ ap (λ (k : ℕ). is_in_chunk place before count spot || named_from other k (before + count) n.0 spot) (sym size))
    (λ spot here. apart other place before count next n.0 spot (omega (arith, size)) here)
    spots in
    let sum : less + count_by (named_by_heads payloads) spots ≡ length spots + count_by (named_from other next (before + count) n.0) spots = omega (arith, is, whole, parts, l.count, count_by-le-length (named_by_heads payloads) spots) in
    record { at = reached_more payloads place next p l.at n.0 n.1 size; count = sum }

-- the look at one frame more, by what was found of it
pub left_on : (spots : List Spot) (place left next less : ℕ) (old new : LogSoFar) (bytes same : List ℕ) (found : Option Entry) → bytes ≡ same → Left spots place left old same → next ≤ 2 ^ 62 → ((payloads : List (List ℕ)) → Begins payloads place bytes → EntryAt bytes payloads old.schema place next found)
    → IsPassed found old new → less ≡ left - count_found spots place old.summary.count found → Left spots next less new same
left_on spots place left next less old new bytes same found is l small there passed fewer =
    let h = entry_on bytes same place next old found is l.passed there in
    let step : entry_after (behind l.shape l.summary) h.payload ≡ Some new = ap (λ (s : LogSoFar). entry_after s h.payload) (sym l.so_far_is) ∙ step_passed h.payload old new found h.says passed in
    let k = counted l.shape l.summary h.payload new step in
    let entry : found ≡ Some k.0 = h.says ∙ ap (λ (s : LogSoFar). entry_of s.schema h.payload) l.so_far_is ∙ k.1 in
    let before : old.summary.count ≡ l.summary.count = ap (λ (s : LogSoFar). s.summary.count) l.so_far_is in
    let less_is : less ≡ left - count_by (is_in_chunk place l.summary.count (count_of k.0)) spots = fewer ∙ ap (λ (o : Option Entry). left - count_found spots place old.summary.count o) entry ∙ ap (λ (n : ℕ). left - count_by (is_in_chunk place n (count_of k.0)) spots) before in
    record {
      shape = shape_behind l.shape k.0;
      summary = new.summary;
      so_far_is = behind_is new (shape_behind l.shape k.0) k.3;
      passed = passed_more same place next old new found l.passed small h passed;
      each = λ payloads has. subst (λ (n : ℕ). LeftOf spots (shape_behind l.shape k.0) next n less payloads) (sym k.2)
          (left_more spots l.shape place l.summary.count left next less k.0 payloads same h.payload (l.each payloads has) has h.here k.1 h.next_is less_is);
    }

-- behind the first frame, which names none
pub left_start : (spots : List Spot) (place next : ℕ) (old new : LogSoFar) (bytes : List ℕ) (found : Option Entry) → place ≡ 0 → old ≡ unread → next ≤ 2 ^ 62 → ((payloads : List (List ℕ)) → Begins payloads place bytes → EntryAt bytes payloads old.schema place next found) → IsPassed found old new
    → Left spots next (length spots) new bytes
left_start spots place next old new bytes found start none small there passed =
    let h : EntryAt bytes [] unread.schema 0 next found = subst (λ (n : ℕ). EntryAt bytes [] unread.schema n next found) start
    (subst (λ (s : LogSoFar). EntryAt bytes [] s.schema place next found) none (there [] (subst (λ (n : ℕ). Begins [] n bytes) (sym start) (begins_none bytes)))) in
    let on : IsPassed found unread new = subst (λ (s : LogSoFar). IsPassed found s new) none passed in
    let f = only_first h.payload new (step_passed h.payload unread new found h.says on) in
    record {
      shape = f.0;
      summary = nothing;
      so_far_is = f.3;
      passed = passed_more bytes 0 next unread new found (passed_start bytes) small h on;
      each = λ payloads has. by f.0 h.payload payloads has h.here h.next_is (ap schema_of f.2 ∙ schema_said f.0 f.1);
    }
  where
    by : (shape : Shape) (p : List ℕ) (payloads : List (List ℕ)) → HasPayloads payloads bytes → payload_at 0 bytes ≡ Some p → next ≡ 0 + 9 + length p → schema_of p ≡ Some shape → LeftOf spots shape next 0 (length spots) payloads
    by shape p [] has here size said = absurd (some_none _ _ here (payload_none [] bytes has))
    by shape p (first ∷ payloads) has here size said =
        let same : first ≡ p = one_payload 0 first p bytes (payload_between [] payloads first bytes has) here in
        let long : length first ≡ length p = ap (λ (l : List ℕ). length l) same in
        let place_is : 9 + length first ≡ next = omega (arith, size, long) in
        record {
          at = record { done = first ∷ []; rest = payloads; is = refl; place_is = omega (arith, size, long, length-frames first []) };
          count =
              ap (λ (o : Option Shape). length spots + count_by (λ (spot : Spot). named_behind o (9 + length first) payloads spot) spots) (ap schema_of same ∙ said)
              ∙ ap (λ (n : ℕ). length spots + count_by (named_from shape n 0 payloads) spots) place_is;
        }

-- without a frame nothing is named
pub left_all : (spots : List Spot) (place : ℕ) (bytes : List ℕ) → place ≡ 0 → ((payloads : List (List ℕ)) → Begins payloads place bytes → IsLog payloads place bytes) → (payloads : List (List ℕ)) → HasPayloads payloads bytes → length spots + count_by (named_by_heads payloads) spots ≡ length spots
left_all spots place bytes start log [] has = omega (arith, count_none (named_by_heads []) (λ spot. refl) spots)
left_all spots place bytes start log (first ∷ payloads) has =
    let none : payload_at place bytes ≡ None = (log_at [] place bytes (log [] (record { rest = bytes; ends = sym start; is = refl; goes = inl refl }))).none in
    absurd (some_none _ _ (payload_between [] payloads first bytes has) (subst (λ (n : ℕ). payload_at n bytes ≡ None) start none))

-- where the frames end, the end is what is left to be named
pub left_end : (spots : List Spot) (place left less : ℕ) (so_far : LogSoFar) (bytes same : List ℕ) → bytes ≡ same → Left spots place left so_far same → ((payloads : List (List ℕ)) → Begins payloads place bytes → IsLog payloads place bytes)
    → less ≡ left - count_by (is_at_end place so_far.summary.count) spots → (payloads : List (List ℕ)) → HasPayloads payloads same → less + count_by (named_by_heads payloads) spots ≡ length spots
left_end spots place left less so_far bytes same is l log count payloads has =
    let one = l.each payloads has in
    let before : so_far.summary.count ≡ l.summary.count = ap (λ (s : LogSoFar). s.summary.count) l.so_far_is in
    let none : payload_at place same ≡ None = (log_at l.passed.payloads place same (ends_on bytes same place so_far is l.passed log)).none in
    let ends : count_by (named_from l.shape place l.summary.count one.at.rest) spots ≡ count_by (is_at_end place l.summary.count) spots = ap (λ (r : List (List ℕ)). count_by (named_from l.shape place l.summary.count r) spots) (none_is payloads place same one.at has none) in
    let last : less ≡ left - count_by (is_at_end place l.summary.count) spots = count ∙ ap (λ (n : ℕ). left - count_by (is_at_end place n) spots) before in
    omega (arith, last, ends, one.count, count_by-le-length (named_by_heads payloads) spots)

-- and the frames are the frame list
pub left_listed : (spots : List Spot) (place left : ℕ) (so_far : LogSoFar) (bytes same : List ℕ) → bytes ≡ same → Left spots place left so_far same → ((payloads : List (List ℕ)) → Begins payloads place bytes → IsLog payloads place bytes) → place ≤ 2 ^ 62 → (payloads : List (List ℕ)) × HasPayloads payloads same
left_listed spots place left so_far bytes same is l log small = (l.passed.payloads, listed l.passed.payloads place same (ends_on bytes same place so_far is l.passed log) small)

pub none_listed : (place : ℕ) (bytes : List ℕ) → place ≡ 0 → ((payloads : List (List ℕ)) → Begins payloads place bytes → IsLog payloads place bytes) → (payloads : List (List ℕ)) × HasPayloads payloads bytes
none_listed place bytes start log = ([], listed [] place bytes (log [] (record { rest = bytes; ends = sym start; is = refl; goes = inl refl })) (omega (arith, start)))

-- what is left of the spots tells whether each of them is named
pub none_left : (payloads : List (List ℕ)) (committed left : ℕ) (spots : List Spot) → left + count_by (named_by_heads payloads) spots ≡ length spots → All (λ (s : Spot). s.number ≤ committed) spots → IsTrue (left == 0) ↔ All (IsNamed payloads committed) spots
none_left payloads committed left spots sum within = (
  λ none k d lt. (counted_all (named_by_heads payloads) spots (omega (arith, sum, eqb-true left 0 none)) k d lt, within k d lt),
  λ all. eq-eqb left 0 (omega (arith, sum, all_counted (named_by_heads payloads) spots (λ k d lt. (all k d lt).0))),
)

module _ (now : Option Image) (may : Image → Type 0) (r : Reservoir) (sound : IsSound now may r) (going : (base r).ended ≡ false) (none : opened r ≡ []) where
  right : IsRight sound.0 may (base r) [] (next_of r) (time_of r) (cache_of r)
  right = subst (λ (l : List Event). IsRight sound.0 may (base r) l (next_of r) (time_of r) (cache_of r)) none (sound.2.right going)

  -- over a sound reservoir the heads name the spelled spots
  heads_spell : (spot : Spot) → NamedByHeads right.payloads spot ↔ Spells now (base r) (opened r) spot
  heads_spell spot =
      let both = named_in payloads_one (base r).shape (joined right.chunks) right.payloads (sound.0 (base r).file) spot right.legal right.has in (
        λ named. subst (λ (l : List Event). Spells now (base r) l spot) (sym none) (spelled_here sound.0 may (base r) (next_of r) (time_of r) (cache_of r) right now spot sound.1 (both.0 named)),
        λ spells. both.1 (spelled_there sound.0 may (base r) (next_of r) (time_of r) (cache_of r) right now spot sound.1 (subst (λ (l : List Event). Spells now (base r) l spot) none spells)),
      )

  pub none_unspelled : (left : ℕ) (spots : List Spot) → ((payloads : List (List ℕ)) → HasPayloads payloads (sound.0 (base r).file) → left + count_by (named_by_heads payloads) spots ≡ length spots) → IsTrue (left == 0) ↔ All (Spells now (base r) (opened r)) spots
  none_unspelled left spots counted =
      let sum = counted right.payloads right.has in (
        λ zero k d lt. (heads_spell (slice_index_or spots k d)).0 (counted_all (named_by_heads right.payloads) spots (omega (arith, sum, eqb-true left 0 zero)) k d lt),
        λ all. eq-eqb left 0 (omega (arith, sum, all_counted (named_by_heads right.payloads) spots (λ k d lt. (heads_spell (slice_index_or spots k d)).1 (all k d lt)))),
      )

  pub no_bad : (place : ℕ) → IsBadFrame place (sound.0 (base r).file) → ⊥
  no_bad place bad = legal_not_bad (base r).shape (joined right.chunks) place (sound.0 (base r).file) right.legal bad
