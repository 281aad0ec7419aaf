-- What any calls on a pipe hand out of a stream.
use Rattle.std.proofs.Common.{◌≡◌, ◌⊎◌, inl, inr, ℕ, ◌+◌, ◌-◌, ◌<◌, List, [], ◌∷◌, ◌++◌, length, take, drop, Some, None, Ok, Err, refl, ap, sym, subst, ◌∙◌, arith, append_assoc, append-nil, length-append}
use Rattle.std.proofs.Math.Seq.{take-append-add}
use Rattle.std.proofs.lemmas.Bool.{cases_lt}
use Rattle.std.proofs.lemmas.List.{take_at, drop_at, take-append-le, take-append-drop}
use Rattle.rg_bytes.specs.Reading.{list_bytes}
use Rattle.rg_pipe.specs.Sent.{Sent, body_of, bytes_of, IsLegal}
use Rattle.rg_pipe.specs.Sent.Sent.{line, commit, save}
use Rattle.rg_pipe.specs.Hand.{IsPart, BeginsNone}
use Rattle.rg_pipe.specs.State.{PipeState}
use Rattle.rg_pipe.specs.Handing.{Given, given_for, given_of, expected_after, Feeds, Hands}
use Rattle.rg_pipe.specs.Streams.{AreLegal, IsStream, given_all, expected_all, Call, Runs, bytes_in, given_in, fresh, HandsOut, HandsAll, HandsNext}
use Rattle.rg_pipe.specs.Streams.Call.{fed, asked, passed}
use Rattle.rg_pipe.specs.declared.request.Request.{Request}
use Rattle.rg_pipe.specs.declared.fault.PipeFault.TheVariants.{Frame}
use Rattle.rg_pipe.proofs.Requests.{be32, same_length, same_offset, length_fits}

head_of : List ℕ → ℕ
head_of [] = 0
head_of (a ∷ x) = a

-- one body is that of one request
same_body : (a b : Sent) → IsLegal a → IsLegal b → body_of a ≡ body_of b → a ≡ b
unfolding head_of
same_body (line o t) (line p u) legal other same =
    let both = same_offset o p t u (omega (arith, legal.0)) (omega (arith, other.0)) (ap (drop 1) same) in ap (λ n. line n t) both.0 ∙ ap (line p) both.1
same_body (line o t) commit legal other same = let n : ◌≡◌ {A = ℕ} 1 2 = ap head_of same in absurd cc
same_body (line o t) save legal other same = let n : ◌≡◌ {A = ℕ} 1 3 = ap head_of same in absurd cc
same_body commit (line p u) legal other same = let n : ◌≡◌ {A = ℕ} 2 1 = ap head_of same in absurd cc
same_body commit commit legal other same = refl
same_body commit save legal other same = let n : ◌≡◌ {A = ℕ} 2 3 = ap head_of same in absurd cc
same_body save (line p u) legal other same = let n : ◌≡◌ {A = ℕ} 3 1 = ap head_of same in absurd cc
same_body save commit legal other same = let n : ◌≡◌ {A = ℕ} 3 2 = ap head_of same in absurd cc
same_body save save legal other same = refl

-- no bytes begin with two requests
pub same_request : (a b : Sent) (x y : List ℕ) → IsLegal a → IsLegal b → bytes_of a ++ x ≡ bytes_of b ++ y → (a ≡ b) × (x ≡ y)
same_request a b x y legal other same =
    let sizes = same_length (length (body_of a)) (length (body_of b)) (body_of a ++ x) (body_of b ++ y) (length_fits a legal) (length_fits b other)
    (sym (append_assoc (be32 (length (body_of a))) (body_of a) x) ∙ same ∙ append_assoc (be32 (length (body_of b))) (body_of b) y) in
    let n = length (body_of b) in
    let bodies : body_of a ≡ body_of b = sym (take_at (body_of a) x n sizes.0) ∙ ap (take n) sizes.1 ∙ take_at (body_of b) y n refl in
    (same_body a b legal other bodies, sym (drop_at (body_of a) x n sizes.0) ∙ ap (drop n) sizes.1 ∙ drop_at (body_of b) y n refl)

-- Requests at the front of a stream are the first of it.
pub record IsFront (done requests : List Sent) (tail rest : List ℕ) : Type 0 where
  pub ahead : List Sent
  pub all : requests ≡ done ++ ahead
  pub to_come : tail ≡ list_bytes bytes_of ahead ++ rest

abbrev pub NoMore : List ℕ → Type 0
NoMore rest = (request : Sent) (more : List ℕ) → IsLegal request → rest ≡ bytes_of request ++ more → ⊥

pub front_of : (done requests : List Sent) (tail rest : List ℕ) → AreLegal done → AreLegal requests → NoMore rest → list_bytes bytes_of done ++ tail ≡ list_bytes bytes_of requests ++ rest → IsFront done requests tail rest
front_of [] requests tail rest legal others none same = record { ahead = requests; all = refl; to_come = same }
front_of (a ∷ done) [] tail rest legal others none same = absurd (none a (list_bytes bytes_of done ++ tail) legal.0 (sym same ∙ append_assoc (bytes_of a) (list_bytes bytes_of done) tail))
front_of (a ∷ done) (b ∷ requests) tail rest legal others none same =
    let both = same_request a b (list_bytes bytes_of done ++ tail) (list_bytes bytes_of requests ++ rest) legal.0 others.0
    (sym (append_assoc (bytes_of a) (list_bytes bytes_of done) tail) ∙ same ∙ append_assoc (bytes_of b) (list_bytes bytes_of requests) rest) in
    let on = front_of done requests tail rest legal.1 others.1 none both.1 in
    record { ahead = on.ahead; all = ap (λ r. b ∷ r) on.all ∙ ap (λ r. r ∷ (done ++ on.ahead)) (sym both.0); to_come = on.to_come }

-- From one pipe to another these requests were handed out.
pub record Passes (old : PipeState) (calls : List Call) (new : PipeState) : Type 0 where
  pub done : List Sent
  pub legal : AreLegal done
  pub bytes : old.pending ++ bytes_in calls ≡ list_bytes bytes_of done ++ new.pending
  pub given : given_in calls ≡ given_all old.expected done
  pub place : new.place ≡ old.place + length (list_bytes bytes_of done)
  pub expected : new.expected ≡ expected_all old.expected done

passes_none : (old new : PipeState) → new ≡ old → Passes old [] new
passes_none old new same = record {
  done = [];
  legal = tt;
  bytes = append-nil old.pending ∙ ap (λ (p : PipeState). p.pending) (sym same);
  given = refl;
  place = ap (λ (p : PipeState). p.place) same ∙ omega arith;
  expected = ap (λ (p : PipeState). p.expected) same;
}

-- a call that hands out nothing, and leaves place and offset
passes_on : (old middle new : PipeState) (more : List ℕ) (call : Call) (calls : List Call) → middle.pending ≡ old.pending ++ more → middle.place ≡ old.place → middle.expected ≡ old.expected
    → bytes_in (call ∷ calls) ≡ more ++ bytes_in calls → given_in (call ∷ calls) ≡ given_in calls → Passes middle calls new → Passes old (call ∷ calls) new
passes_on old middle new more call calls pending place expected bytes given on = record {
  done = on.done;
  legal = on.legal;
  bytes = ap (λ b. old.pending ++ b) bytes ∙ sym (append_assoc old.pending more (bytes_in calls)) ∙ ap (λ b. b ++ bytes_in calls) (sym pending) ∙ on.bytes;
  given = given ∙ on.given ∙ ap (λ e. given_all e on.done) expected;
  place = on.place ∙ ap (λ n. n + length (list_bytes bytes_of on.done)) place;
  expected = on.expected ∙ ap (λ e. expected_all e on.done) expected;
}

passes_request : (old middle new : PipeState) (request : Request) (calls : List Call) → Hands old middle (given_of request) → Passes middle calls new → Passes old (asked (Ok (Some request)) ∷ calls) new
passes_request old middle new request calls hands on =
    let sent = hands.sent in
    let whole = hands.request in
    let pending : middle.pending ≡ [] = ap (λ (p : PipeState). p.pending) hands.passed in
    let expected : middle.expected ≡ expected_after old.expected sent = ap (λ (p : PipeState). p.expected) hands.passed in
    let place : middle.place ≡ old.place + length old.pending = ap (λ (p : PipeState). p.place) hands.passed in
    record {
      done = sent ∷ on.done;
      legal = (whole.legal, on.legal);
      bytes = ap (λ b. b ++ bytes_in calls) whole.is ∙ ap (λ b. bytes_of sent ++ b) (ap (λ b. b ++ bytes_in calls) (sym pending) ∙ on.bytes) ∙ sym (append_assoc (bytes_of sent) (list_bytes bytes_of on.done) new.pending);
      given = ap (λ g. g ∷ given_in calls) hands.given_is ∙ ap (λ l. given_for old.expected sent ∷ l) (on.given ∙ ap (λ e. given_all e on.done) expected);
      place = omega (arith, on.place, place, ap (λ (b : List ℕ). length b) whole.is, length-append (bytes_of sent) (list_bytes bytes_of on.done));
      expected = on.expected ∙ ap (λ e. expected_all e on.done) expected;
    }

pub passes : (old : PipeState) (calls : List Call) (new : PipeState) → Runs old calls new → Passes old calls new
passes old [] new runs = passes_none old new runs
passes old (fed piece n ∷ calls) new runs =
    let middle = runs.0 in
    let feeds = runs.1 in
    passes_on old middle new (take n piece) (fed piece n) calls (ap (λ (p : PipeState). p.pending) feeds.taken) (ap (λ (p : PipeState). p.place) feeds.taken) (ap (λ (p : PipeState). p.expected) feeds.taken) refl refl (passes middle calls new runs.2)
passes old (asked (Ok None) ∷ calls) new runs =
    let middle = runs.0 in
    let stays = runs.1.1 in
    passes_on old middle new [] (asked (Ok None)) calls (ap (λ (p : PipeState). p.pending) stays ∙ sym (append-nil old.pending)) (ap (λ (p : PipeState). p.place) stays) (ap (λ (p : PipeState). p.expected) stays) refl refl (passes middle calls new runs.2)
passes old (asked (Ok (Some request)) ∷ calls) new runs = passes_request old runs.0 new request calls runs.1 (passes runs.0 calls new runs.2)
passes old (passed piece n request ∷ calls) new runs =
    let first = runs.1 in
    let on = passes_on old first.fed new (take n piece) (fed piece n) (asked (Ok (Some request)) ∷ calls) (ap (λ (p : PipeState). p.pending) first.feeds.taken) (ap (λ (p : PipeState). p.place) first.feeds.taken)
    (ap (λ (p : PipeState). p.expected) first.feeds.taken) refl refl (passes_request first.fed runs.0 new request calls first.hands (passes runs.0 calls new runs.2)) in
    record { done = on.done; legal = on.legal; bytes = on.bytes; given = on.given; place = on.place; expected = on.expected }
passes old (asked (Err (Frame place)) ∷ calls) new runs =
    let middle = runs.0 in
    let refuses = runs.1 in
    passes_on old middle new [] (asked (Err (Frame place))) calls (ap (λ (p : PipeState). p.pending) refuses.stays ∙ sym (append-nil old.pending)) (ap (λ (p : PipeState). p.place) refuses.stays) (ap (λ (p : PipeState). p.expected) refuses.stays) refl refl (passes middle calls new runs.2)

pub hands_front : (expected : ℕ) (calls : List Call) (now : PipeState) (requests : List Sent) (rest more bytes : List ℕ) → Runs (fresh expected) calls now → IsStream requests rest bytes → bytes_in calls ++ more ≡ bytes
    → HandsOut expected requests rest more calls now
hands_front expected calls now requests rest more bytes runs stream fed_all =
    let on = passes (fresh expected) calls now runs in
    let front = front_of on.done requests (now.pending ++ more) rest on.legal stream.legal stream.no_more
    (sym (append_assoc (list_bytes bytes_of on.done) now.pending more) ∙ ap (λ b. b ++ more) (sym on.bytes) ∙ fed_all ∙ stream.parts) in
    record { done = on.done; ahead = front.ahead; all = front.all; given = on.given; to_come = front.to_come; place = on.place ∙ omega arith; expected_is = on.expected }

-- what is in hand begins no further request
pub part_no_more : (bytes : List ℕ) → IsPart bytes → NoMore bytes
part_no_more bytes part request more legal is =
    let both = same_request part.sent request [] (more ++ part.rest) part.legal legal
    (append-nil (bytes_of part.sent) ∙ part.is ∙ ap (λ b. b ++ part.rest) is ∙ append_assoc (bytes_of request) more part.rest) in
    let some = part.some in
    omega (arith, some, ap (λ (b : List ℕ). length b) both.1, length-append more part.rest)

no_more : (bytes : List ℕ) → IsPart bytes ⊎ BeginsNone bytes → NoMore bytes
no_more bytes (inl part) = part_no_more bytes part
no_more bytes (inr none) = none.no_whole

pub none_ahead : (ahead : List Sent) (pending rest : List ℕ) → AreLegal ahead → NoMore pending → pending ≡ list_bytes bytes_of ahead ++ rest → ahead ≡ []
none_ahead [] pending rest legal none is = refl
none_ahead (a ∷ ahead) pending rest legal none is = absurd (none a (list_bytes bytes_of ahead ++ rest) legal.0 (is ∙ append_assoc (bytes_of a) (list_bytes bytes_of ahead) rest))

legal_back : (done ahead : List Sent) → AreLegal (done ++ ahead) → AreLegal ahead
legal_back [] ahead legal = legal
legal_back (a ∷ done) ahead legal = legal_back done ahead legal.1

pub hands_all : (expected : ℕ) (calls : List Call) (now : PipeState) (requests : List Sent) (rest bytes : List ℕ) → Runs (fresh expected) calls now → IsStream requests rest bytes → bytes_in calls ≡ bytes
    → IsPart now.pending ⊎ BeginsNone now.pending → HandsAll expected requests rest calls now
hands_all expected calls now requests rest bytes runs stream fed_all kind =
    let out = hands_front expected calls now requests rest [] bytes runs stream (append-nil (bytes_in calls) ∙ fed_all) in
    let is : now.pending ≡ list_bytes bytes_of out.ahead ++ rest = sym (append-nil now.pending) ∙ out.to_come in
    let legal : AreLegal out.ahead = legal_back out.done out.ahead (subst AreLegal out.all stream.legal) in
    let nothing = none_ahead out.ahead now.pending rest legal (no_more now.pending kind) is in
    let all : out.done ≡ requests = sym (out.all ∙ ap (λ a. out.done ++ a) nothing ∙ append-nil out.done) in
    record {
      given = out.given ∙ ap (given_all expected) all;
      left = is ∙ ap (λ a. list_bytes bytes_of a ++ rest) nothing;
      place = out.place ∙ ap (λ d. length (list_bytes bytes_of d)) all;
      expected_is = out.expected_is ∙ ap (expected_all expected) all;
    }

pub one_stream : (requests others : List Sent) (rest other bytes : List ℕ) → IsStream requests rest bytes → IsStream others other bytes → (requests ≡ others) × (rest ≡ other)
one_stream requests others rest other bytes stream again =
    let front = front_of requests others rest other stream.legal again.legal again.no_more (sym stream.parts ∙ again.parts) in
    let legal : AreLegal front.ahead = legal_back requests front.ahead (subst AreLegal front.all again.legal) in
    let nothing = none_ahead front.ahead rest other legal stream.no_more front.to_come in
    (sym (front.all ∙ ap (λ a. requests ++ a) nothing ∙ append-nil requests), front.to_come ∙ ap (λ a. list_bytes bytes_of a ++ other) nothing)

-- what is in hand begins no request, nor does it with more behind it
none_more : (pending more : List ℕ) → BeginsNone pending → NoMore (pending ++ more)
none_more pending more none request behind legal is =
    let n = length pending in
    let m = length (bytes_of request) in
    elim (cases_lt n m) [
      | inl less ↦
          let front : bytes_of request ≡ pending ++ take (m - n) more =
          sym (take_at (bytes_of request) behind m refl) ∙ ap (take m) (sym is) ∙ ap (λ k. take k (pending ++ more)) (split_at n m less) ∙ take-append-add pending more (m - n) in
          none.no_part request (take (m - n) more) legal front
      | inr whole ↦
          let front : pending ≡ bytes_of request ++ drop m pending =
          sym (take-append-drop m pending) ∙ ap (λ l. l ++ drop m pending) (sym (take-append-le m pending more whole) ∙ ap (take m) is ∙ take_at (bytes_of request) behind m refl) in
          none.no_whole request (drop m pending) legal front
    ]
  where
    split_at : (n m : ℕ) → n < m → m ≡ n + (m - n)
    split_at n m less = omega (arith, less)

pub stream_refused : (requests : List Sent) (rest pending more : List ℕ) → BeginsNone pending → IsStream requests rest (pending ++ more) → (requests ≡ []) × (rest ≡ pending ++ more)
stream_refused requests rest pending more none stream =
    let nothing = none_ahead requests (pending ++ more) rest stream.legal (none_more pending more none) stream.parts in
    (nothing, sym (stream.parts ∙ ap (λ a. list_bytes bytes_of a ++ rest) nothing))

pub stream_ended : (requests : List Sent) (rest pending : List ℕ) → IsPart pending → IsStream requests rest pending → (requests ≡ []) × (rest ≡ pending)
stream_ended requests rest pending part stream =
    let nothing = none_ahead requests pending rest stream.legal (part_no_more pending part) stream.parts in
    (nothing, sym (stream.parts ∙ ap (λ a. list_bytes bytes_of a ++ rest) nothing))

pub stream_fed : (old new : PipeState) (piece more : List ℕ) (n : ℕ) → Feeds old new piece n → new.pending ++ (drop n piece ++ more) ≡ old.pending ++ (piece ++ more)
stream_fed old new piece more n feeds =
    ap (λ (p : PipeState). p.pending ++ (drop n piece ++ more)) feeds.taken ∙ append_assoc old.pending (take n piece) (drop n piece ++ more)
    ∙ ap (λ l. old.pending ++ l) (sym (append_assoc (take n piece) (drop n piece) more) ∙ ap (λ l. l ++ more) (take-append-drop n piece))

pub stream_handed : (old new : PipeState) (given : Given) (requests : List Sent) (rest more : List ℕ) → Hands old new given → IsStream requests rest (old.pending ++ more) → HandsNext requests rest more old new given
stream_handed old new given [] rest more hands stream =
    absurd (stream.no_more hands.sent more hands.request.legal (sym stream.parts ∙ ap (λ l. l ++ more) hands.request.is))
stream_handed old new given (a ∷ ahead) rest more hands stream =
    let whole = hands.request in
    let both = same_request hands.sent a more (list_bytes bytes_of ahead ++ rest) whole.legal stream.legal.0
    (ap (λ l. l ++ more) (sym whole.is) ∙ stream.parts ∙ append_assoc (bytes_of a) (list_bytes bytes_of ahead) rest) in
    record {
      sent = hands.sent;
      ahead = ahead;
      all = ap (λ r. r ∷ ahead) (sym both.0);
      given_is = hands.given_is;
      expected_is = ap (λ (p : PipeState). p.expected) hands.passed;
      place_is = ap (λ (p : PipeState). p.place) hands.passed ∙ ap (λ (b : List ℕ). old.place + length b) whole.is;
      to_come = record {
        legal = stream.legal.1;
        parts = ap (λ (p : PipeState). p.pending ++ more) hands.passed ∙ both.1;
        no_more = stream.no_more;
      };
    }
