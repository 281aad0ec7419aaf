-- A whole request is handed out as the expected offset says.
use Rattle.std.proofs.Common.{◌≡◌, ℕ, ◌+◌, ◌<◌, ◌≤◌, ◌==◌, nat_lt, Bool, true, false, List, [], ◌++◌, length, take, drop, refl, ap, sym, subst, ◌∙◌, arith, append-nil, if◌then◌else◌}
use Rattle.std.proofs.lemmas.List.{length-drop, take-append-drop, take-take}
use Rattle.std.proofs.lemmas.Bool.{eqb-true}
use Rattle.rg_pipe.specs.Sent.{Sent, bytes_of, IsLegal}
use Rattle.rg_pipe.specs.Sent.Sent.{line, commit, save}
use Rattle.rg_pipe.specs.Hand.{IsRequest, IsShort, size_of}
use Rattle.rg_pipe.specs.State.{PipeState}
use Rattle.rg_pipe.specs.Streams.{IsNextLine}
use Rattle.rg_pipe.specs.Judging.{sent_of}
use Rattle.rg_pipe.specs.Assembling.{found_for}
use Rattle.rg_pipe.specs.Handing.Given.{row, again, gap, commits, saves}
use Rattle.rg_pipe.specs.Handing.{given_for, given_by, expected_after, FeedsAndHands, Hands}
use Rattle.rg_pipe.specs.declared.judge.Kind.{Kind}
use Rattle.rg_pipe.specs.declared.judge.Kind.TheVariants as kind
use Rattle.rg_pipe.specs.declared.progress.Found.{Found}
use Rattle.rg_pipe.specs.declared.progress.Found.TheVariants as found
use Rattle.rg_pipe.proofs.Requests.{part_short, size_of-request}

-- what the code finds is what is handed out
pub found_is : (expected : ℕ) (what : Kind) (text : List ℕ) → given_by text (found_for expected what) ≡ given_for expected (sent_of what text)
found_is expected (kind.Line offset) text = choice (offset == expected) (nat_lt offset expected)
  where
    choice : (same below : Bool) → given_by text (if same then found.Line offset else if below then found.Again offset else found.Gap offset expected) ≡ (if same then row offset text else if below then again offset else gap offset expected)
    choice true below = refl
    choice false true = refl
    choice false false = refl
found_is expected kind.Commit text = refl
found_is expected kind.Save text = refl

pub after_is : (expected : ℕ) (what : Kind) (text : List ℕ) → expected_after expected (sent_of what []) ≡ expected_after expected (sent_of what text)
after_is expected (kind.Line offset) text = refl
after_is expected kind.Commit text = refl
after_is expected kind.Save text = refl

-- A whole request of this kind in hand is handed out.
pub hands : (bytes : List ℕ) (place expected : ℕ) (refused : Bool) (what : Kind) → IsRequest (sent_of what (drop 13 bytes)) bytes
    → Hands (record { pending = bytes; place = place; expected = expected; refused = refused })
    (record { pending = []; place = place + length bytes; expected = expected_after expected (sent_of what []); refused = refused }) (given_by (drop 13 bytes) (found_for expected what))
hands bytes place expected refused what whole = record {
  sent = sent_of what (drop 13 bytes);
  request = whole;
  given_is = found_is expected what (drop 13 bytes);
  passed = ap (λ e. record { pending = []; place = place + length bytes; expected = e; refused = refused }) (after_is expected what (drop 13 bytes));
}

-- A request at the front of a piece is handed out as if it had been fed.
module _ (old : PipeState) (piece bytes : List ℕ) (what : Kind) (idle : old.pending ≡ []) (not_refused : old.refused ≡ false) (front : bytes ≡ take (length bytes) piece) (within : length bytes ≤ length piece)
    (whole : IsRequest (sent_of what (drop 13 bytes)) bytes) where
  fed : PipeState
  fed = record { pending = bytes; place = old.place; expected = old.expected; refused = old.refused }

  front_at : (k : ℕ) → k < length bytes → old.pending ++ take k piece ≡ take k bytes
  front_at k below = ap (λ p. p ++ take k piece) idle ∙ sym (take-take k (length bytes) piece (omega (arith, below))) ∙ ap (take k) (sym front)

  lacked_at : (k : ℕ) → k < length bytes → IsShort (take k bytes)
  lacked_at k below = part_short (take k bytes) (record {
    sent = sent_of what (drop 13 bytes);
    rest = drop k bytes;
    legal = whole.legal;
    some = omega (arith, length-drop k bytes, below);
    is = sym whole.is ∙ sym (take-append-drop k bytes);
  })

  full : size_of bytes ≡ length bytes
  full =
      let sent = sent_of what (drop 13 bytes) in
      let count : length (bytes_of sent) ≡ length bytes = ap (λ (b : List ℕ). length b) (sym whole.is) in
      ap size_of (whole.is ∙ sym (append-nil (bytes_of sent))) ∙ size_of-request sent [] whole.legal ∙ count

  pub loads : (new : PipeState) (found : Found) → new ≡ record { pending = []; place = old.place + length bytes; expected = expected_after old.expected (sent_of what []); refused = old.refused }
      → found ≡ found_for old.expected what → FeedsAndHands old new piece (length bytes) (given_by (drop 13 bytes) found)
  unfolding fed
  loads new found new_is found_is = record {
    fed = fed;
    feeds = record {
      within = within;
      taken = ap (λ p. record { pending = p; place = old.place; expected = old.expected; refused = old.refused }) (front ∙ ap (λ p. p ++ take (length bytes) piece) (sym idle));
      lacked = λ k below. subst IsShort (sym (front_at k below)) (lacked_at k below);
      none_refused = λ refused. let never : true ≡ false = sym refused ∙ not_refused in absurd cc;
      no_more = λ _ _ short. omega (arith, short, full);
    };
    hands = rw (new_is, found_is) (hands bytes old.place old.expected old.refused what whole);
  }

-- a row is handed out for a line of the expected offset
row_choice : (offset o expected : ℕ) (text t : List ℕ) (same below : Bool) → (o == expected) ≡ same → row offset text ≡ (if same then row o t else if below then again o else gap o expected) → (line o t ≡ line offset text) × (offset ≡ expected)
row_choice offset o expected text t true below is given =
    let offsets : offset ≡ o = cc in
    let texts : text ≡ t = cc in
    (ap (λ n. line n t) (sym offsets) ∙ ap (line offset) (sym texts), offsets ∙ eqb-true o expected is)
row_choice offset o expected text t false true is given = absurd (let e : row offset text ≡ again o = given in cc)
row_choice offset o expected text t false false is given = absurd (let e : row offset text ≡ gap o expected = given in cc)

row_sent : (offset expected : ℕ) (text : List ℕ) (sent : Sent) → row offset text ≡ given_for expected sent → (sent ≡ line offset text) × (offset ≡ expected)
row_sent offset expected text (line o t) given = row_choice offset o expected text t (o == expected) (nat_lt o expected) refl given
row_sent offset expected text commit given = absurd (let e : row offset text ≡ commits = given in cc)
row_sent offset expected text save given = absurd (let e : row offset text ≡ saves = given in cc)

pub next_line : (old new : PipeState) (offset : ℕ) (text : List ℕ) → Hands old new (row offset text) → IsNextLine old.expected offset text
next_line old new offset text hands =
    let is = row_sent offset old.expected text hands.sent hands.given_is in
    let legal : IsLegal (line offset text) = subst IsLegal is.0 hands.request.legal in
    record { offset_is = is.1; small = legal.0; short = legal.1; no_lf = legal.2 }
