-- The replies to the lines of a stream are what a run puts for these lines.
use Rattle.std.proofs.Common.{◌≡◌, ℕ, ◌+◌, ◌≤◌, ◌==◌, nat_lt, Bool, true, false, List, [], ◌∷◌, ◌++◌, length, Some, refl, ap, sym, ◌∙◌, arith, if◌then◌else◌}
use Rattle.std.proofs.lemmas.Bool.{eqb-true}
use Rattle.rg_event.specs.declared.event.Event.{Event}
use Rattle.rg_event.specs.Rising.{next_offset}
use Rattle.rg_pipe.specs.Sent.{Sent}
use Rattle.rg_pipe.specs.Sent.Sent.{line, commit, save}
use Rattle.rg_pipe.specs.Handing.{Given}
use Rattle.rg_pipe.specs.Handing.Given.{row, again, gap}
use Rattle.rg_pipe.specs.Streams.{given_all, expected_all}
use Rattle.rg_run_spec.specs.Verdicts.{accepted_after, line_verdict}
use Rattle.rg_run_spec.specs.Accepted.{after_turn, verdict_from, events_after}
use Rattle.rg_run_spec.specs.Ahead.{events_from, put_from}
use Rattle.rg_run_spec.specs.Output.{Terms, turn_lines, end_lines, out}
use Rattle.rg_run_spec.proofs.Laws.{next_after, accepted-all, out-is, looked_at}
use Rattle.rg_serve_spec.specs.Frames.{lines_in}
use Rattle.rg_serve_spec.specs.Replies.{events_all, replies_to, row_replies, texts_of}

-- how many lines have the expected offset
offset_choice : (o expected : ℕ) (t : List ℕ) (requests : List Sent) (same below : Bool) → ((e : ℕ) → expected_all e requests ≡ e + length (texts_of (given_all e requests)))
    → expected_all (if same then expected + 1 else expected) requests
    ≡ expected + length (texts_of ((if same then row o t else if below then again o else gap o expected) ∷ given_all (if same then expected + 1 else expected) requests))
offset_choice o expected t requests true below ih = omega (arith, ih (expected + 1))
offset_choice o expected t requests false true ih = ih expected
offset_choice o expected t requests false false ih = ih expected

pub offset_is : (requests : List Sent) (expected : ℕ) → expected_all expected requests ≡ expected + length (texts_of (given_all expected requests))
offset_is [] expected = omega arith
offset_is (line o t ∷ requests) expected = offset_choice o expected t requests (o == expected) (nat_lt o expected) (offset_is requests)
offset_is (commit ∷ requests) expected = offset_is requests expected
offset_is (save ∷ requests) expected = offset_is requests expected

module _ (terms : Terms) where
  -- From these events on, where the next line is to have this offset, the requests bring the events of a run of their lines, and its lines.
  pub record IsAsRun (events : List Event) (expected : ℕ) (given : List Given) : Type 0 where
    pub events_are : events_all terms.basis events given ≡ events_from terms.basis events expected (texts_of given)
    pub lines_are : lines_in (row_replies given (replies_to terms events given)) ≡ put_from terms events expected (texts_of given)

  one_row : (o expected : ℕ) (t : List ℕ) (events : List Event) (given : List Given) → o ≡ expected → next_offset events ≤ expected
      → IsAsRun (accepted_after events (line_verdict terms.basis events o (Some t))) (expected + 1) given → IsAsRun events expected (row o t ∷ given)
  one_row o expected t events given same low more =
      let verdict = line_verdict terms.basis events expected (Some t) in
      let seen : verdict_from terms.basis (next_offset events) events expected (Some t) ≡ Some verdict = looked_at terms.basis (next_offset events) events expected (Some t) low in
      let after_is : accepted_after events (line_verdict terms.basis events o (Some t)) ≡ after_turn events (verdict_from terms.basis (next_offset events) events expected (Some t)) =
      ap (λ n. accepted_after events (line_verdict terms.basis events n (Some t))) same ∙ ap (after_turn events) (sym seen) in
      let reply_is : turn_lines terms events o (Some (line_verdict terms.basis events o (Some t))) ≡ turn_lines terms events expected (verdict_from terms.basis (next_offset events) events expected (Some t)) =
      ap (λ n. turn_lines terms events n (Some (line_verdict terms.basis events n (Some t)))) same ∙ ap (turn_lines terms events expected) (sym seen) in
      record {
        events_are = more.events_are ∙ ap (λ (l : List Event). events_from terms.basis l (expected + 1) (texts_of given)) after_is;
        lines_are =
            ap (λ (l : List (List ℕ)). turn_lines terms events o (Some (line_verdict terms.basis events o (Some t))) ++ l) (more.lines_are ∙ ap (λ (l : List Event). put_from terms l (expected + 1) (texts_of given)) after_is)
            ∙ ap (λ (l : List (List ℕ)). l ++ put_from terms (after_turn events (verdict_from terms.basis (next_offset events) events expected (Some t))) (expected + 1) (texts_of given)) reply_is;
      }

  -- a request that is answered, and changes nothing
  one_other : (events : List Event) (expected : ℕ) (given : List Given) → IsAsRun events expected given → IsAsRun events expected given
  one_other events expected given more = more

  run_choice : (o expected : ℕ) (t : List ℕ) (requests : List Sent) (events : List Event) (same below : Bool) → (o == expected) ≡ same → next_offset events ≤ expected
      → ((es : List Event) (e : ℕ) → next_offset es ≤ e → IsAsRun es e (given_all e requests))
      → IsAsRun events expected ((if same then row o t else if below then again o else gap o expected) ∷ given_all (if same then expected + 1 else expected) requests)
  run_choice o expected t requests events true below is low ih =
      let same = eqb-true o expected is in
      let after = accepted_after events (line_verdict terms.basis events o (Some t)) in
      let grows : next_offset after ≤ o + 1 = next_after events terms.basis o (Some t) (omega (arith, low, same)) in
      one_row o expected t events (given_all (expected + 1) requests) same low (ih after (expected + 1) (omega (arith, grows, same)))
  run_choice o expected t requests events false true is low ih = let more = ih events expected low in record { events_are = more.events_are; lines_are = more.lines_are }
  run_choice o expected t requests events false false is low ih = let more = ih events expected low in record { events_are = more.events_are; lines_are = more.lines_are }

  pub as_run : (requests : List Sent) (events : List Event) (expected : ℕ) → next_offset events ≤ expected → IsAsRun events expected (given_all expected requests)
  as_run [] events expected low = record { events_are = refl; lines_are = refl }
  as_run (line o t ∷ requests) events expected low = run_choice o expected t requests events (o == expected) (nat_lt o expected) refl low (as_run requests)
  as_run (commit ∷ requests) events expected low = let more = as_run requests events expected low in record { events_are = more.events_are; lines_are = more.lines_are }
  as_run (save ∷ requests) events expected low = let more = as_run requests events expected low in record { events_are = more.events_are; lines_are = more.lines_are }

pub run_events : (terms : Terms) (held : List Event) (requests : List Sent) →
    events_all terms.basis held (given_all (next_offset held) requests) ≡ events_after terms.basis held (next_offset held) (texts_of (given_all (next_offset held) requests))
run_events terms held requests =
    let first = next_offset held in
    (as_run terms requests held first (omega arith)).events_are ∙ sym (accepted-all terms held first (texts_of (given_all first requests)))

pub run_text : (terms : Terms) (held : List Event) (requests : List Sent) →
    lines_in (row_replies (given_all (next_offset held) requests) (replies_to terms held (given_all (next_offset held) requests)))
    ++ end_lines (expected_all (next_offset held) requests) (events_all terms.basis held (given_all (next_offset held) requests))
    ≡ out terms held (next_offset held) (texts_of (given_all (next_offset held) requests))
run_text terms held requests =
    let first = next_offset held in
    let given = given_all first requests in
    let lines = texts_of given in
    let same = as_run terms requests held first (omega arith) in
    ap (λ (l : List (List ℕ)). l ++ end_lines (expected_all first requests) (events_all terms.basis held given)) same.lines_are
    ∙ ap (λ n. put_from terms held first lines ++ end_lines n (events_all terms.basis held given)) (offset_is requests first)
    ∙ ap (λ (l : List Event). put_from terms held first lines ++ end_lines (first + length lines) l) same.events_are
    ∙ sym (out-is terms held first lines)

-- The next line is expected at the next offset of the events, or behind it.
next_choice : (terms : Terms) (o expected : ℕ) (t : List ℕ) (requests : List Sent) (events : List Event) (same below : Bool) → (o == expected) ≡ same → next_offset events ≤ expected
    → ((es : List Event) (e : ℕ) → next_offset es ≤ e → next_offset (events_all terms.basis es (given_all e requests)) ≤ expected_all e requests)
    → next_offset (events_all terms.basis events ((if same then row o t else if below then again o else gap o expected) ∷ given_all (if same then expected + 1 else expected) requests)) ≤ expected_all (if same then expected + 1 else expected) requests
next_choice terms o expected t requests events true below is low ih =
    let same = eqb-true o expected is in
    let after = accepted_after events (line_verdict terms.basis events o (Some t)) in
    let grows : next_offset after ≤ o + 1 = next_after events terms.basis o (Some t) (omega (arith, low, same)) in
    ih after (expected + 1) (omega (arith, grows, same))
next_choice terms o expected t requests events false true is low ih = ih events expected low
next_choice terms o expected t requests events false false is low ih = ih events expected low

next_by : (terms : Terms) (requests : List Sent) (events : List Event) (expected : ℕ) → next_offset events ≤ expected → next_offset (events_all terms.basis events (given_all expected requests)) ≤ expected_all expected requests
next_by terms [] events expected low = low
next_by terms (line o t ∷ requests) events expected low = next_choice terms o expected t requests events (o == expected) (nat_lt o expected) refl low (next_by terms requests)
next_by terms (commit ∷ requests) events expected low = next_by terms requests events expected low
next_by terms (save ∷ requests) events expected low = next_by terms requests events expected low

pub next_within : (terms : Terms) (held : List Event) (expected : ℕ) (requests : List Sent) → next_offset held ≤ expected → next_offset (events_all terms.basis held (given_all expected requests)) ≤ expected_all expected requests
next_within terms held expected requests low = next_by terms requests held expected low
