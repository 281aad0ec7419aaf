-- The requests of an input, from step to step.
use Rattle.std.proofs.Common.{◌≡◌, ◌≢◌, ⊎_elim, ℕ, ◌+◌, ◌<◌, ◌≤◌, true, false, List, [], ◌∷◌, ◌++◌, length, take, drop, zero, suc, rules, Option, Some, None, Ok, Err, refl, sym, ◌∙◌, ap, subst, arith, append_assoc, append-nil, length-append}
use Rattle.std.proofs.lemmas.List.{take-append-drop}
use Rattle.rg_bytes.specs.Known.{before, IsAtEnd}
use Rattle.rg_bytes.specs.Reading.{list_bytes}
use Rattle.rg_bytes.proofs.Laws.{list_bytes-more}
use Rattle.rg_pipe.specs.Sent.{Sent, body_of, bytes_of}
use Rattle.std.specs.Int.{w32, to_be_bytes}
use Rattle.rg_pipe.specs.Sent.Sent.{commit}
use Rattle.rg_pipe.specs.Hand.{IsPart, BeginsNone}
use Rattle.rg_pipe.specs.State.{PipeState}
use Rattle.rg_pipe.specs.Streams.{IsStream, given_all, expected_all, HandsNext}
use Rattle.rg_pipe.specs.Handing.{Given, Hands, Ends, expected_after, given_for}
use Rattle.rg_pipe.specs.declared.fault.PipeFault.{PipeFault}
use Rattle.rg_pipe.specs.declared.fault.PipeFault.TheVariants.{Frame}
use Rattle.rg_pipe.proofs.Laws.{stream_fed, stream_handed, stream_ended, stream_refused, part_short, length_of}
use Rattle.rg_serve.specs.Coming.{IsComing, CanGoOn, FeedsHeld, IsTaken}
use Rattle.std.specs.Prelude.{Bool, Result, IfOk}
use Rattle.rg_host.specs.declared.lines.LineFault.{LineFault}
use Rattle.rg_host.specs.declared.lines.LineFault.TheVariants as reading
use Rattle.rg_serve.specs.Coming.{ComesTo, of_pipe}
use Rattle.rg_serve.specs.declared.fault.ServeFault.{ServeFault}
use Rattle.rg_serve.specs.declared.fault.ServeFault.TheVariants as serve
use Rattle.rg_serve.specs.Intaking.{Intaking, Takes, Drops, Reads}

pub bytes-append : (a b : List Sent) → list_bytes bytes_of (a ++ b) ≡ list_bytes bytes_of a ++ list_bytes bytes_of b
bytes-append [] b = refl
bytes-append (x ∷ a) b = ap (λ l. bytes_of x ++ l) (bytes-append a b) ∙ sym (append_assoc (bytes_of x) (list_bytes bytes_of a) (list_bytes bytes_of b))

pub expected-append : (first : ℕ) (a b : List Sent) → expected_all first (a ++ b) ≡ expected_all (expected_all first a) b
expected-append first [] b = refl
expected-append first (x ∷ a) b = expected-append (expected_after first x) a b

pub given-append : (first : ℕ) (a b : List Sent) → given_all first (a ++ b) ≡ given_all first a ++ given_all (expected_all first a) b
given-append first [] b = refl
given-append first (x ∷ a) b = ap (λ l. given_for first x ∷ l) (given-append (expected_after first x) a b)

-- what is left behind the taken bytes of a told input
pub told_rest : (left now : Option (List ℕ)) (got bytes : List ℕ) → left ≡ before got now → left ≡ Some bytes → (rest : List ℕ) × (now ≡ Some rest) × (got ++ rest ≡ bytes)
told_rest left (Some rest) got bytes took is = (rest, refl, let same : Some (got ++ rest) ≡ Some bytes = sym took ∙ is in cc)
told_rest left None got bytes took is = absurd (let none : None ≡ Some bytes = sym took ∙ is in cc)

pub at_end_rest : (now : Option (List ℕ)) (rest : List ℕ) → now ≡ Some rest → IsAtEnd now → rest ≡ []
at_end_rest (Some told) rest is h = let same : told ≡ rest = cc in sym same ∙ h
at_end_rest None rest is h = absurd (cc)

pub before-before : (left mid now : Option (List ℕ)) (x y : List ℕ) → left ≡ before x mid → mid ≡ before y now → left ≡ before (x ++ y) now
before-before left mid (Some told) x y e d = e ∙ ap (before x) d ∙ ap (λ v. Some v) (sym (append_assoc x y told))
before-before left mid None x y e d = e ∙ ap (before x) d

pub taken_more : (start left now : Option (List ℕ)) (taken taken_then : ℕ) (got : List ℕ) → left ≡ before got now → taken_then ≡ taken + length got → IsTaken start left taken → IsTaken start now taken_then
taken_more start left now taken taken_then got took count t = record {
  got = t.got ++ got;
  took = before-before start left now t.got got t.took took;
  count = omega (arith, count, t.count, length-append t.got got);
}

module _ (first : ℕ) (requests : List Sent) (rest : List ℕ) (left : Option (List ℕ)) where
  -- the pipe was fed
  abbrev pub coming_fed : (p fed : PipeState) (f f_then : Intaking) → IsComing first requests rest left p f.held → FeedsHeld p fed f f_then → IsComing first requests rest left fed f_then.held
  coming_fed p fed f f_then c h = record {
    done = c.done;
    ahead = c.ahead;
    unread = c.unread;
    comes = c.comes;
    whole = c.whole;
    stream = subst (λ (l : List ℕ). IsStream c.ahead rest (fed.pending ++ (l ++ c.unread))) (sym (ap (λ (x : Intaking). x.held) h.passed))
        (subst (λ (l : List ℕ). IsStream c.ahead rest l) (sym (stream_fed p fed f.held c.unread h.count h.feeds)) c.stream);
    place_is = ap (λ (x : PipeState). x.place) h.feeds.taken ∙ c.place_is;
    expected_is = ap (λ (x : PipeState). x.expected) h.feeds.taken ∙ c.expected_is;
  }

  abbrev pub next_of : (p new : PipeState) (held : List ℕ) (given : Given) (c : IsComing first requests rest left p held) → Hands p new given → HandsNext c.ahead rest (held ++ c.unread) p new given
  next_of p new held given c hands = stream_handed p new given c.ahead rest (held ++ c.unread) hands c.stream

  -- a request was handed out
  abbrev pub coming_handed : (p new : PipeState) (held : List ℕ) (given : Given) → IsComing first requests rest left p held → Hands p new given → IsComing first requests rest left new held
  coming_handed p new held given c hands =
      let n = next_of p new held given c hands in
      record {
        done = c.done ++ n.sent ∷ [];
        ahead = n.ahead;
        unread = c.unread;
        comes = c.comes;
        whole = c.whole ∙ ap (λ (l : List Sent). c.done ++ l) n.all ∙ sym (append_assoc c.done (n.sent ∷ []) n.ahead);
        stream = n.to_come;
        place_is = omega (arith, n.place_is, c.place_is, ap (λ (b : List ℕ). length b) (list_bytes-more bytes_of c.done n.sent), length-append (list_bytes bytes_of c.done) (bytes_of n.sent));
        expected_is = n.expected_is ∙ ap (λ x. expected_after x n.sent) c.expected_is ∙ sym (expected-append first c.done (n.sent ∷ []));
      }

  -- where no byte is to come and the pipe lacks some of its request, all requests were handed out
  pub coming_ended : (p : PipeState) (c : IsComing first requests rest left p []) → IsAtEnd left → IsPart p.pending → (c.ahead ≡ []) × (rest ≡ p.pending)
  coming_ended p c end part =
      stream_ended c.ahead rest p.pending part
      (subst (λ (l : List ℕ). IsStream c.ahead rest l) (ap (λ (l : List ℕ). p.pending ++ l) (at_end_rest left c.unread c.comes end) ∙ append-nil p.pending) c.stream)

  -- where what is in hand begins no request, all were handed out, and there is a rest
  pub coming_refused : (p : PipeState) (held : List ℕ) (c : IsComing first requests rest left p held) → BeginsNone p.pending → (c.ahead ≡ []) × (rest ≢ [])
  coming_refused p held c none =
      let r = stream_refused c.ahead rest p.pending (held ++ c.unread) none c.stream in
      (r.0, λ is. no_bytes p.pending (held ++ c.unread) none (sym r.1 ∙ is))
    where
      no_bytes : (pending more : List ℕ) → BeginsNone pending → pending ++ more ≡ [] → ⊥
      no_bytes [] more none is = none.no_part commit (bytes_of commit) tt refl
      no_bytes (a ∷ pending) more none is = let e : ◌≡◌ {A = List ℕ} (a ∷ (pending ++ more)) [] = is in cc

  pub all_done : (p : PipeState) (held : List ℕ) (c : IsComing first requests rest left p held) → c.ahead ≡ [] → requests ≡ c.done
  all_done p held c none = c.whole ∙ ap (λ (l : List Sent). c.done ++ l) none ∙ append-nil c.done

  -- the input ended within a request
  pub frame_comes : (p : PipeState) (fault : PipeFault) (result : ServeFault) (c : IsComing first requests rest left p []) → IsAtEnd left → IsPart p.pending → p.refused ≡ false → Ends p (Err fault) → result ≡ of_pipe fault → ComesTo requests rest ⊥ (Err result)
  frame_comes p (Frame place) result c end part open_still ends is =
      let r = coming_ended p c end part in
      let all = all_done p [] c r.0 in
      subst (λ (f : ServeFault). ComesTo requests rest ⊥ (Err f)) (sym is) (
        λ none. ⊎_elim (λ refused. let no : true ≡ false = sym refused ∙ open_still in cc) (λ some. let more = some.1 in omega (arith, more, ap (λ (l : List ℕ). length l) (sym r.1 ∙ none))) ends.1,
        ends.0 ∙ c.place_is ∙ ap (λ (l : List Sent). length (list_bytes bytes_of l)) (sym all),
      )

  -- bytes were read
  abbrev pub coming_read : (p : PipeState) (f f_then : Intaking) (now : Option (List ℕ)) → IsComing first requests rest left p [] → Takes f f_then left now → IsComing first requests rest now p f_then.held
  coming_read p f f_then now c t =
      let r = told_rest left now f_then.held c.unread t.took c.comes in
      record {
        done = c.done;
        ahead = c.ahead;
        unread = r.0;
        comes = r.1;
        whole = c.whole;
        stream = subst (λ (l : List ℕ). IsStream c.ahead rest (p.pending ++ l)) (sym r.2) c.stream;
        place_is = c.place_is;
        expected_is = c.expected_is;
      }

-- a pipe that was fed holds no byte that its request lacks
pub all_fed : (p fed : PipeState) (f f_then : Intaking) → CanGoOn f p → FeedsHeld p fed f f_then → IsPart fed.pending → f_then.held ≡ []
all_fed p fed f f_then can h part = ap (λ (x : Intaking). x.held) h.passed ∙ none_left h.count f.held h.feeds.within (λ less. h.feeds.no_more can.still_open less (part_short fed.pending part))
  where
    none_left : (n : ℕ) (l : List ℕ) → n ≤ length l → (n < length l → ⊥) → drop n l ≡ []
    none_left n [] low more = search rules
    none_left zero (a ∷ l) low more = absurd (more (omega arith))
    none_left (suc n) (a ∷ l) low more = none_left n l (omega (arith, low)) (λ less. more (omega (arith, less)))

pub can_fed : (p fed : PipeState) (f f_then : Intaking) → CanGoOn f p → FeedsHeld p fed f f_then → CanGoOn f_then fed
can_fed p fed f f_then can h = record {
  still_open = ap (λ (x : PipeState). x.refused) h.feeds.taken ∙ can.still_open;
  within = omega (arith, can.within, ap (λ (x : Intaking). x.taken) h.passed);
  counted =
      let pending = ap (λ (x : PipeState). length x.pending) h.feeds.taken in
      let place = ap (λ (x : PipeState). x.place) h.feeds.taken in
      let held = ap (λ (x : Intaking). length x.held) h.passed in
      let parts = ap (λ (l : List ℕ). length l) (take-append-drop h.count f.held) in
      omega (arith, can.counted, pending, place, held, parts, length-append p.pending (take h.count f.held), length-append (take h.count f.held) (drop h.count f.held), ap (λ (x : Intaking). x.taken) h.passed);
}

pub can_handed : (fed p : PipeState) (f : Intaking) (given : Given) → CanGoOn f fed → Hands fed p given → CanGoOn f p
can_handed fed p f given can hands = record {
  still_open = ap (λ (x : PipeState). x.refused) hands.passed ∙ can.still_open;
  within = can.within;
  counted =
      let pending = ap (λ (x : PipeState). length x.pending) hands.passed in
      let place = ap (λ (x : PipeState). x.place) hands.passed in
      omega (arith, can.counted, pending, place);
}

-- a request that was handed out has bytes
pub further : (fed p : PipeState) (given : Given) → Hands fed p given → fed.place < p.place
further fed p given hands =
    let place = ap (λ (x : PipeState). x.place) hands.passed in
    let size = ap (λ (b : List ℕ). length b) hands.request.is in
    let some = (length_of hands.sent hands.request.legal).some in
    omega (arith, place, size, some, length-append (to_be_bytes w32 (length (body_of hands.sent))) (body_of hands.sent))

-- what a read did
module _ (old new : Intaking) (left now : Option (List ℕ)) where
  pub reads_some : (b : Bool) → b ≡ true → Reads old new left now (Ok b) → Takes old new left now
  reads_some b is reads = subst (λ (x : Bool). Reads old new left now (Ok x)) is reads

  pub reads_none : (b : Bool) → b ≡ false → Reads old new left now (Ok b) → (new ≡ old) × IsAtEnd now × (left ≡ before [] now)
  reads_none b is reads = subst (λ (x : Bool). Reads old new left now (Ok x)) is reads

  pub reads_failed : (f : LineFault) → f ≡ reading.Read → Reads old new left now (Err f) → (new ≡ old) × (now ≡ left)
  reads_failed f is reads = subst (λ (x : LineFault). Reads old new left now (Err x)) is reads

  pub reads_many : (f : LineFault) → f ≡ reading.Limit → Reads old new left now (Err f) → Drops old new left now
  reads_many f is reads = subst (λ (x : LineFault). Reads old new left now (Err x)) is reads

pub at_end_before : (left now : Option (List ℕ)) → left ≡ before [] now → IsAtEnd now → IsAtEnd left
at_end_before left (Some told) is end = subst IsAtEnd (sym is) end
at_end_before left None is end = subst IsAtEnd (sym is) tt

-- the input was closed
pub closed_comes : (requests : List Sent) (rest : List ℕ) (on : Type 0) (result : Result Bool ServeFault) → IfOk result (λ more. more ≡ false) → ComesTo requests rest ⊥ result → ComesTo requests rest on result
closed_comes requests rest on (Ok true) over comes = absurd comes
closed_comes requests rest on (Ok false) over comes = comes
closed_comes requests rest on (Err (serve.Turn fault)) over comes = tt
closed_comes requests rest on (Err serve.Read) over comes = tt
closed_comes requests rest on (Err serve.Limit) over comes = tt
closed_comes requests rest on (Err (serve.Frame place)) over comes = comes
