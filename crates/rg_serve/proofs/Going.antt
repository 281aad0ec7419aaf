-- A serve whose input is under way, from step to step.
use Rattle.std.proofs.Common.{◌≡◌, ◌⊎◌, inl, inr, ⊎_elim, ℕ, ◌≤◌, true, false, List, [], ◌∷◌, ◌++◌, length, Option, Some, Result, Ok, Err, refl, sym, ◌∙◌, ap, subst, arith, append-nil}
use Rattle.std.specs.Prelude.{⊤, Bool, IfOk, OnOk, IfErr, IsErrOf}
use Rattle.std.proofs.lemmas.List.{append_cancel_right}
use Rattle.rg_bytes.specs.Known.{IsAtEnd}
use Rattle.rg_bytes.specs.Reading.{list_bytes}
use Rattle.rg_event.specs.Rising.{next_offset}
use Rattle.rg_host.specs.Moments.{Moments}
use Rattle.rg_host.proofs.Laws.{moments_then}
use Rattle.rg_config.specs.Plans.{Planned}
use Rattle.rg_pipe.specs.Sent.{Sent, bytes_of}
use Rattle.rg_pipe.specs.Hand.{IsPart}
use Rattle.rg_pipe.specs.State.{PipeState}
use Rattle.rg_pipe.specs.Streams.{given_all, expected_all}
use Rattle.rg_pipe.specs.Handing.{Given, Hands, expected_after}
use Rattle.rg_run_spec.specs.Output.{open_line}
use Rattle.rg_run_spec.specs.Stores.{IsKeptInStore}
use Rattle.rg_task.specs.View.{View}
use Rattle.rg_run.specs.declared.fault.TurnFault.{TurnFault}
use Rattle.rg_run.specs.declared.fault.TurnFault.TheVariants as turn
use Rattle.rg_serve_spec.specs.Frames.{Reply, frames_of, lines_in}
use Rattle.rg_serve_spec.specs.Replies.{events_all, replies_to}
use Rattle.rg_serve_spec.specs.Errands.{Errand, StaysOnErrand, course_of}
use Rattle.rg_serve_spec.proofs.Laws.{next_within}
use Rattle.rg_serve.specs.Serving.{IsWithin, IsAwaiting, HasHalted, HasServed}
use Rattle.rg_serve.specs.Intaking.{Intaking, Takes, Drops}
use Rattle.rg_serve.specs.Coming.{IsComing, CanGoOn, FeedsHeld, ComesTo}
use Rattle.rg_serve.specs.UnderWay.{IsAskedFor, Steps, IsUnderWay, HasReplied, StopsAtRead, HasEnded, GoesTo, GoesOn, Closes}
use Rattle.rg_serve.specs.Served.{ServesTrue}
use Rattle.rg_serve.specs.declared.step.Step.{Step}
use Rattle.rg_serve.specs.declared.step.Step.TheVariants.{Answered, Lacks, Refused}
use Rattle.rg_serve.specs.declared.fault.ServeFault.{ServeFault}
use Rattle.rg_serve.specs.declared.fault.ServeFault.TheVariants.{Turn, Read, Limit, Frame}
use Rattle.rg_serve.proofs.Coming.{given-append, coming_fed, coming_handed, coming_read, coming_ended, coming_refused, all_done, next_of, all_fed, told_rest}
use Rattle.rg_serve.proofs.Within.{held_within, told_whole}

-- A serve is still under way, and at each moment until then it was on its errand.
pub record StaysUnderWay {K : Type 0} (view : View K) (plan : Planned) (e : Errand) (requests : List Sent) (rest : List ℕ) (left : Option (List ℕ)) (p : PipeState) (held gathered : List ℕ) (old new : K) : Type 0 where
  pub moments : Moments view.clock view.since old new (StaysOnErrand (view.store plan) e [])
  pub under : IsUnderWay view plan e requests rest left p held new gathered

module _ {K : Type 0} (view : View K) (plan : Planned) (e : Errand) where
  abbrev pub replies_done : List Given → List Reply
  replies_done done = (open_line e.held e.from ∷ []) ∷ replies_to e.terms e.held done

  pub within_halted : (replies : List Reply) (t : K) → IsWithin view plan e replies t [] → HasHalted view plan e t
  within_halted replies t w =
      let h = held_within view plan e replies t [] w in
      record {
        replies = replies;
        of_replies = w.split.of_replies;
        told = told_whole view plan e replies t w;
        kept = λ v left. subst (λ (l : List Reply). IsKeptInStore (view.store plan) (course_of e) (lines_in l) v) w.split.whole (h.kept v left w.rest ([], append-nil w.rest));
        grown = h.grown;
      }

  -- what was gathered is put
  abbrev pub flushed : (ahead : List Given) (old new : K) (gathered : List ℕ) (a : IsAwaiting view plan e ahead old gathered) → IsWithin view plan e (replies_done a.done) new [] → (view.at new).events ≡ (view.at old).events → IsAwaiting view plan e ahead new []
  flushed ahead old new gathered a w same = record { terms = a.terms; done = a.done; given = a.given; events = same ∙ a.events; within = w }

  module _ (requests : List Sent) (rest : List ℕ) (left : Option (List ℕ)) where
    -- the replies to the requests that were handed out are those that are awaited no more
    done_is : (p : PipeState) (held : List ℕ) (t : K) (gathered : List ℕ) → IsAskedFor e requests → (u : IsUnderWay view plan e requests rest left p held t gathered) → u.awaiting.done ≡ given_all (next_offset e.held) u.coming.done
    done_is p held t gathered asked u =
        let c = u.coming in
        let first = next_offset e.held in
        let whole : e.given ≡ given_all first c.done ++ given_all p.expected c.ahead =
        asked.given_is ∙ ap (given_all first) c.whole ∙ given-append first c.done c.ahead ∙ ap (λ m. given_all first c.done ++ given_all m c.ahead) (sym c.expected_is) in
        append_cancel_right u.awaiting.done (given_all first c.done) (given_all p.expected c.ahead) (sym u.awaiting.given ∙ whole)

    -- the task's next offset is at most the one that the pipe expects
    due : (p : PipeState) (held : List ℕ) (t : K) (gathered : List ℕ) → IsAskedFor e requests → (u : IsUnderWay view plan e requests rest left p held t gathered) → (view.at t).next ≤ p.expected
    due p held t gathered asked u =
        let first = next_offset e.held in
        let next = view.next_is plan t u.awaiting.within.running in
        let events = u.awaiting.events ∙ ap (events_all e.terms.basis e.held) (done_is p held t gathered asked u) in
        let same = ap next_offset events in
        let low = next_within e.terms e.held first u.coming.done (omega arith) in
        omega (arith, next, same, low, u.coming.expected_is)

    pub replied : (p : PipeState) (held : List ℕ) (t : K) → IsAskedFor e requests → (u : IsUnderWay view plan e requests rest left p held t []) → HasReplied view plan e u.coming.done t
    replied p held t asked u =
        let a = u.awaiting in
        record {
          told = told_whole view plan e (replies_done a.done) t a.within ∙ ap (λ (l : List Given). Some (e.said ++ frames_of (replies_done l))) (done_is p held t [] asked u);
          halted = within_halted (replies_done a.done) t a.within;
        }

    abbrev pub under_fed : (p fed : PipeState) (f f_then : Intaking) (t : K) (gathered : List ℕ) → IsUnderWay view plan e requests rest left p f.held t gathered → FeedsHeld p fed f f_then → IsUnderWay view plan e requests rest left fed f_then.held t gathered
    under_fed p fed f f_then t gathered u h = record {
      coming = coming_fed (next_offset e.held) requests rest left p fed f f_then u.coming h;
      awaiting = subst (λ (n : ℕ). IsAwaiting view plan e (given_all n u.coming.ahead) t gathered) (sym (ap (λ (x : PipeState). x.expected) h.feeds.taken)) u.awaiting;
    }

    module _ (fed p : PipeState) (held : List ℕ) (given : Given) (old new : K) (gathered gathered_then : List ℕ) (u : IsUnderWay view plan e requests rest left fed held old gathered) (hands : Hands fed p given) where
      abbrev then_coming : IsComing (next_offset e.held) requests rest left p held
      then_coming = coming_handed (next_offset e.held) requests rest left fed p held given u.coming hands

      awaits_next : IsAwaiting view plan e (given ∷ given_all p.expected then_coming.ahead) old gathered
      awaits_next =
          let n = next_of (next_offset e.held) requests rest left fed p held given u.coming hands in
          subst (λ (l : List Given). IsAwaiting view plan e l old gathered)
          (ap (given_all fed.expected) n.all ∙ ap (λ g. g ∷ given_all (expected_after fed.expected n.sent) n.ahead) (sym n.given_is) ∙ ap (λ m. given ∷ given_all m n.ahead) (sym n.expected_is)) u.awaiting

    -- a request was answered
    pub goes_answered : (p p_then : PipeState) (f f_then : Intaking) (old new : K) (gathered gathered_then : List ℕ) → IsAskedFor e requests → IsUnderWay view plan e requests rest left p f.held old gathered
        → Steps view plan p p_then f f_then gathered gathered_then (Ok Answered) old new → GoesOn view plan e requests rest left p_then f_then.held gathered_then (Ok true) old new
    goes_answered p p_then f f_then old new gathered gathered_then asked u s =
        let uf = under_fed p s.fed f f_then old gathered u s.feeds in
        let h = s.step in
        let answers = h.answers (due s.fed f_then.held old gathered asked uf) in
        let coming = then_coming s.fed p_then f_then.held h.given old new gathered gathered_then uf h.hands in
        let a = awaits_next s.fed p_then f_then.held h.given old new gathered gathered_then uf h.hands in
        record {
          moments = answers.moments e (given_all p_then.expected coming.ahead) a;
          outcome = record { coming = coming; awaiting = answers.awaits e (given_all p_then.expected coming.ahead) a };
        }

    -- one was not
    pub goes_fault : (p p_then : PipeState) (f f_then : Intaking) (old new : K) (gathered gathered_then : List ℕ) (fault : TurnFault) → IsAskedFor e requests → IsUnderWay view plan e requests rest left p f.held old gathered
        → Steps view plan p p_then f f_then gathered gathered_then (Err fault) old new → GoesOn view plan e requests rest left p_then f_then.held gathered_then (Err (Turn fault)) old new
    goes_fault p p_then f f_then old new gathered gathered_then fault asked u s =
        let uf = under_fed p s.fed f f_then old gathered u s.feeds in
        let h = s.step in
        let answers = h.answers (due s.fed f_then.held old gathered asked uf) in
        let coming = then_coming s.fed p_then f_then.held h.given old new gathered gathered_then uf h.hands in
        let a = awaits_next s.fed p_then f_then.held h.given old new gathered gathered_then uf h.hands in
        record {
          moments = answers.moments e (given_all p_then.expected coming.ahead) a;
          outcome = answers.halted e (given_all p_then.expected coming.ahead) a;
        }

    -- the pipe lacks some of its request
    pub under_lacks : (p p_then : PipeState) (f f_then : Intaking) (old new : K) (gathered gathered_then : List ℕ) → CanGoOn f p → IsUnderWay view plan e requests rest left p f.held old gathered
        → Steps view plan p p_then f f_then gathered gathered_then (Ok Lacks) old new → IsUnderWay view plan e requests rest left p_then [] new gathered_then
    under_lacks p p_then f f_then old new gathered gathered_then can u s =
        let uf = under_fed p s.fed f f_then old gathered u s.feeds in
        subst (λ (t : K). IsUnderWay view plan e requests rest left p_then [] t gathered_then) (sym s.step.3)
        (subst (λ (l : List ℕ). IsUnderWay view plan e requests rest left p_then [] old l) (sym s.step.2)
        (subst (λ (x : PipeState). IsUnderWay view plan e requests rest left x [] old gathered) (sym s.step.1)
        (subst (λ (l : List ℕ). IsUnderWay view plan e requests rest left s.fed l old gathered) (all_fed p s.fed f f_then can s.feeds s.step.0) uf)))

    -- no request begins with what is in hand
    pub goes_refused : (p p_then : PipeState) (f f_then : Intaking) (old mid new : K) (gathered gathered_then last : List ℕ) (place : ℕ) (result : ServeFault) → IsAskedFor e requests → IsUnderWay view plan e requests rest left p f.held old gathered
        → Steps view plan p p_then f f_then gathered gathered_then (Ok (Refused place)) old mid
        → ((ahead : List Given) → IsAwaiting view plan e ahead mid gathered_then → Moments view.clock view.since mid new (StaysOnErrand (view.store plan) e []) × ((result ≡ Turn turn.Write) ⊎ ((result ≡ Frame place) × IsAwaiting view plan e ahead new [])))
        → GoesOn view plan e requests rest left p_then f_then.held last (Err result) old new
    goes_refused p p_then f f_then old mid new gathered gathered_then last place result asked u s then =
        let uf = under_fed p s.fed f f_then old gathered u s.feeds in
        let first = next_offset e.held in
        let none = coming_refused first requests rest left s.fed f_then.held uf.coming s.step.0.none in
        let a = subst (λ (t : K). IsAwaiting view plan e (given_all s.fed.expected uf.coming.ahead) t gathered_then) (sym s.step.2)
        (subst (λ (l : List ℕ). IsAwaiting view plan e (given_all s.fed.expected uf.coming.ahead) old l) (sym s.step.1) uf.awaiting) in
        let puts = then (given_all s.fed.expected uf.coming.ahead) a in
        record {
          moments = subst (λ (t : K). Moments view.clock view.since t new (StaysOnErrand (view.store plan) e [])) s.step.2 puts.0;
          outcome = ⊎_elim (λ write. subst (HasEnded view plan e requests rest left new) (sym write) (inl refl))
              (λ put. subst (HasEnded view plan e requests rest left new) (sym put.0)
              (subst (λ (l : List Sent). HasReplied view plan e l new) (sym (all_done first requests rest left s.fed f_then.held uf.coming none.0)) (replied s.fed f_then.held new asked (record { coming = uf.coming; awaiting = put.1 }))))
              puts.1;
        }

    -- bytes were read
    pub under_read : (p : PipeState) (f f_then : Intaking) (now : Option (List ℕ)) (t : K) (gathered : List ℕ) → IsUnderWay view plan e requests rest left p [] t gathered → Takes f f_then left now → IsUnderWay view plan e requests rest now p f_then.held t gathered
    under_read p f f_then now t gathered u takes = record { coming = coming_read (next_offset e.held) requests rest left p f f_then now u.coming takes; awaiting = u.awaiting }

    to_come : (p : PipeState) (c : IsComing (next_offset e.held) requests rest left p []) → list_bytes bytes_of c.ahead ++ rest ≡ p.pending ++ c.unread
    to_come p c = sym c.stream.parts

    -- a read failed
    pub stops_read : (p : PipeState) (now : Option (List ℕ)) (t : K) → IsAskedFor e requests → IsPart p.pending → now ≡ left → IsUnderWay view plan e requests rest left p [] t [] → StopsAtRead view plan e requests rest now t ⊥
    stops_read p now t asked part same u =
        let c = u.coming in
        record {
          done = c.done;
          ahead = c.ahead;
          whole = c.whole;
          part = p.pending;
          past = [];
          unread = c.unread;
          comes = same ∙ c.comes;
          to_come = to_come p c;
          within = part;
          one = omega arith;
          none_past = inl refl;
          replied = replied p [] t asked u;
        }

    -- the input is too long
    pub stops_limit : (p : PipeState) (f f_then : Intaking) (now : Option (List ℕ)) (t : K) → IsAskedFor e requests → IsPart p.pending → Drops f f_then left now → IsUnderWay view plan e requests rest left p [] t [] → StopsAtRead view plan e requests rest now t ⊤
    stops_limit p f f_then now t asked part drops u =
        let c = u.coming in
        let r = told_rest left now drops.past c.unread drops.took c.comes in
        record {
          done = c.done;
          ahead = c.ahead;
          whole = c.whole;
          part = p.pending;
          past = drops.past;
          unread = r.0;
          comes = r.1;
          to_come = to_come p c ∙ ap (λ (l : List ℕ). p.pending ++ l) (sym r.2);
          within = part;
          one = omega (arith, drops.one);
          none_past = inr tt;
          replied = replied p [] t asked u;
        }

    -- the end was put, or the input ended within a request
    goes_closed : (p : PipeState) (held gathered : List ℕ) (now : Option (List ℕ)) (mid new : K) (result : Result Bool ServeFault) → IfOk result (λ more. more ≡ false) → (IsErrOf result Read → ⊥) → (IsErrOf result Limit → ⊥)
        → OnOk result (HasServed view plan e new) → IfErr result (λ fault. (fault ≡ Turn turn.Write) ⊎ HasHalted view plan e new) → ((place : ℕ) → IsErrOf result (Frame place) → new ≡ mid) → HasReplied view plan e requests mid
        → GoesTo view plan e requests rest now p held gathered result new
    goes_closed p held gathered now mid new (Ok true) over read limit served halted frame replied = absurd (cc)
    goes_closed p held gathered now mid new (Ok false) over read limit served halted frame replied = served
    goes_closed p held gathered now mid new (Err (Turn fault)) over read limit served halted frame replied = ⊎_elim (λ write. inl (let same : ◌≡◌ {A = ServeFault} (Turn fault) (Turn turn.Write) = write in cc)) (λ h. inr h) halted
    goes_closed p held gathered now mid new (Err Read) over read limit served halted frame replied = absurd (read refl)
    goes_closed p held gathered now mid new (Err Limit) over read limit served halted frame replied = absurd (limit refl)
    goes_closed p held gathered now mid new (Err (Frame place)) over read limit served halted frame replied = subst (HasReplied view plan e requests) (sym (frame place refl)) replied

    pub goes_end : (p : PipeState) (held last : List ℕ) (now : Option (List ℕ)) (mid new : K) (result : Result Bool ServeFault) → IsAskedFor e requests → IsAtEnd left → IsPart p.pending → IsUnderWay view plan e requests rest left p [] mid []
        → Closes view plan p result mid new → IfOk result (λ more. more ≡ false) → (IsErrOf result Read → ⊥) → (IsErrOf result Limit → ⊥) → ((place : ℕ) → IsErrOf result (Frame place) → new ≡ mid)
        → GoesOn view plan e requests rest now p held last result mid new
    goes_end p held last now mid new result asked end part u closes over read limit frame =
        let first = next_offset e.held in
        let none = coming_ended first requests rest left p u.coming end part in
        let all = all_done first requests rest left p [] u.coming none.0 in
        let a = subst (λ (l : List Sent). IsAwaiting view plan e (given_all p.expected l) mid []) none.0 u.awaiting in
        let at : e.offset ≡ p.expected = asked.offset_is ∙ ap (expected_all first) all ∙ sym u.coming.expected_is in
        record {
          moments = closes.moments e at a;
          outcome = goes_closed p held last now mid new result over read limit (closes.served e at a) (closes.halted e at a) frame (subst (λ (l : List Sent). HasReplied view plan e l mid) (sym all) (replied p [] mid asked u));
        }

    -- after what was gathered was put
    pub goes_then : (p : PipeState) (held last : List ℕ) (now : Option (List ℕ)) (old mid new : K) (result : Result Bool ServeFault) → Moments view.clock view.since old mid (StaysOnErrand (view.store plan) e []) → GoesOn view plan e requests rest now p held last result mid new
        → GoesOn view plan e requests rest now p held last result old new
    goes_then p held last now old mid new result first then =
        let P = StaysOnErrand (view.store plan) e [] in
        record { moments = moments_then view.clock view.since old mid new P P P first then.moments (λ m x. x) (λ m x. x); outcome = then.outcome }

    abbrev pub under_flushed : (p : PipeState) (held : List ℕ) (old new : K) (gathered gathered_then : List ℕ) (u : IsUnderWay view plan e requests rest left p held old gathered) → IsWithin view plan e (replies_done u.awaiting.done) new gathered_then → gathered_then ≡ [] → (view.at new).events ≡ (view.at old).events
        → IsUnderWay view plan e requests rest left p held new []
    under_flushed p held old new gathered gathered_then u w none same = record {
      coming = u.coming;
      awaiting = flushed (given_all p.expected u.coming.ahead) old new gathered u.awaiting (subst (λ (l : List ℕ). IsWithin view plan e (replies_done u.awaiting.done) new l) none w) same;
    }

    -- what was gathered may be put
    pub under_eased : (p : PipeState) (held : List ℕ) (old new : K) (gathered gathered_then : List ℕ) (u : IsUnderWay view plan e requests rest left p held old gathered) → IsWithin view plan e (replies_done u.awaiting.done) new gathered_then → (view.at new).events ≡ (view.at old).events
        → IsUnderWay view plan e requests rest left p held new gathered_then
    under_eased p held old new gathered gathered_then u w same =
        let a = u.awaiting in
        record { coming = u.coming; awaiting = record { terms = a.terms; done = a.done; given = a.given; events = same ∙ a.events; within = w } }

module _ {K : Type 0} (view : View K) (plan : Planned) (p p_then : PipeState) (f f_then : Intaking) (old new : K) (gathered gathered_then : List ℕ) where
  pub at_step : (x step : Step) → x ≡ step → Steps view plan p p_then f f_then gathered gathered_then (Ok x) old new → Steps view plan p p_then f f_then gathered gathered_then (Ok step) old new
  at_step x step is s = subst (λ (y : Step). Steps view plan p p_then f f_then gathered gathered_then (Ok y) old new) is s

  module _ (first : ℕ) (requests : List Sent) (rest : List ℕ) (left : Option (List ℕ)) (c : IsComing first requests rest left p f.held) where
    pub comes_answered : Steps view plan p p_then f f_then gathered gathered_then (Ok Answered) old new → IsComing first requests rest left p_then f_then.held
    comes_answered s = coming_handed first requests rest left s.fed p_then f_then.held s.step.given (coming_fed first requests rest left p s.fed f f_then c s.feeds) s.step.hands

    pub comes_lacks : CanGoOn f p → Steps view plan p p_then f f_then gathered gathered_then (Ok Lacks) old new → IsComing first requests rest left p_then []
    comes_lacks can s =
        subst (λ (x : PipeState). IsComing first requests rest left x []) (sym s.step.1)
        (subst (λ (l : List ℕ). IsComing first requests rest left s.fed l) (all_fed p s.fed f f_then can s.feeds s.step.0) (coming_fed first requests rest left p s.fed f f_then c s.feeds))

    pub comes_refused : (place : ℕ) (result : ServeFault) (on : Type 0) → Steps view plan p p_then f f_then gathered gathered_then (Ok (Refused place)) old new → (result ≡ Frame place) ⊎ (result ≡ Turn turn.Write) → ComesTo requests rest on (Err result)
    comes_refused place result on s which =
        let coming = coming_fed first requests rest left p s.fed f f_then c s.feeds in
        let none = coming_refused first requests rest left s.fed f_then.held coming s.step.0.none in
        ⊎_elim (λ is. subst (λ (r : ServeFault). ComesTo requests rest on (Err r)) (sym is)
        (none.1, s.step.0.at ∙ coming.place_is ∙ ap (λ (l : List Sent). length (list_bytes bytes_of l)) (sym (all_done first requests rest left s.fed f_then.held coming none.0))))
        (λ write. subst (λ (r : ServeFault). ComesTo requests rest on (Err r)) (sym write) tt) which

-- a turn that answers that there is more, or that there is not
module _ {K : Type 0} (view : View K) (plan : Planned) (e : Errand) (requests : List Sent) (rest : List ℕ) (now : Option (List ℕ)) (p : PipeState) (held gathered : List ℕ) (old mid new : K) (first : Moments view.clock view.since old mid (StaysOnErrand (view.store plan) e [])) where
  joined : (result : Result Bool ServeFault) → GoesOn view plan e requests rest now p held gathered result mid new → Moments view.clock view.since old new (StaysOnErrand (view.store plan) e [])
  joined result go = let P = StaysOnErrand (view.store plan) e [] in moments_then view.clock view.since old mid new P P P first go.moments (λ m x. x) (λ m x. x)

  pub stays_under : (b : Bool) → b ≡ true → GoesOn view plan e requests rest now p held gathered (Ok b) mid new → StaysUnderWay view plan e requests rest now p held gathered old new
  stays_under b is go = record {
    moments = joined (Ok b) go;
    under = (subst (λ (x : Bool). GoesOn view plan e requests rest now p held gathered (Ok x) mid new) is go).outcome;
  }

  pub serves_end : {A : Type 0} (value : A) (b : Bool) → b ≡ false → GoesOn view plan e requests rest now p held gathered (Ok b) mid new → ServesTrue view plan e requests rest now (Ok value) old new
  serves_end value b is go = record {
    moments = joined (Ok b) go;
    served = (subst (λ (x : Bool). GoesOn view plan e requests rest now p held gathered (Ok x) mid new) is go).outcome;
    ended = tt;
  }

  pub serves_fault : {A : Type 0} (fault : ServeFault) → GoesOn view plan e requests rest now p held gathered (Err fault) mid new → ServesTrue view {A = A} plan e requests rest now (Err fault) old new
  serves_fault fault go = record { moments = joined (Err fault) go; served = tt; ended = go.outcome }

module _ (requests : List Sent) (rest : List ℕ) (on : Type 0) where
  pub comes_on : (b : Bool) → b ≡ true → ComesTo requests rest on (Ok b) → on
  comes_on b is comes = subst (λ (x : Bool). ComesTo requests rest on (Ok x)) is comes

  pub comes_over : (b : Bool) → b ≡ false → ComesTo requests rest on (Ok b) → rest ≡ []
  comes_over b is comes = subst (λ (x : Bool). ComesTo requests rest on (Ok x)) is comes

  pub comes_fault : (fault : ServeFault) → ComesTo requests rest on (Err fault) → ComesTo requests rest ⊤ (Err fault)
  comes_fault (Turn fault) comes = tt
  comes_fault Read comes = tt
  comes_fault Limit comes = tt
  comes_fault (Frame place) comes = comes
