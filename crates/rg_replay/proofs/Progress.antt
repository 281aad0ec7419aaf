-- How far a replay has come.
use Rattle.std.proofs.Common.{◌≡◌, ◌∙◌, ◌+◌, ◌≤◌, ◌<◌, inl, inr, ℕ, suc, List, [], ◌∷◌, ◌++◌, length, Result, Ok, Err, refl, sym, ap, subst, arith, append_assoc}
use Rattle.std.specs.Prelude.{⊤, OnOk, IfErr}
use Rattle.std.proofs.lemmas.List.{append-nil}
use Rattle.rg_event.specs.declared.event.Event.{Event}
use Rattle.rg_event.specs.Rising.{next_offset}
use Rattle.rg_metric.specs.Queries.{Asked}
use Rattle.rg_reply.specs.Texts.{mark_line}
use Rattle.rg_reply.specs.declared.mark.Mark.TheVariants.{Finished}
use Rattle.rg_host.specs.Lines.{ended}
use Rattle.rg_host.specs.Puts.{IsPrefix}
use Rattle.rg_host.proofs.Laws.{ended-append}
use Rattle.rg_replay.specs.declared.fault.ReplayFault.{ReplayFault}
use Rattle.rg_replay.specs.declared.fault.ReplayFault.TheVariants.{Write}
use Rattle.rg_replay.specs.Playing.{StopsIn, IsExpected, PutsLines, AreAdded, Gathered, Answered}
use Rattle.rg_replay.specs.Replay.{line_at, lines_before, replay_lines, end_line, replay_text}
use Rattle.rg_replay.proofs.Lines.{text_split}

-- the lines of the first so many events were put or are gathered, and this holds
pub record Progress (queries : List Asked) (first : ℕ) (events : List Event) (number : ℕ) (Put : List ℕ → Type 0) (gathered : List ℕ) (Then : Type 0) : Type 0 where
  pub within : number ≤ length events
  pub lines : Gathered (lines_before queries first events number) Put gathered
  pub goes : Then

-- a prefix of some lines' bytes behind others is one of both, and of more
prefix_behind : (before line rest : List (List ℕ)) (put : List ℕ) → IsPrefix put (ended line) → IsPrefix (ended before ++ put) (ended ((before ++ line) ++ rest))
prefix_behind before line rest put prefix = (
  prefix.0 ++ ended rest,
  append_assoc (ended before) put (prefix.0 ++ ended rest)
      ∙ ap (λ l. ended before ++ l) (sym (append_assoc put prefix.0 (ended rest)) ∙ ap (λ l. l ++ ended rest) prefix.1)
      ∙ sym (append_assoc (ended before) (ended line) (ended rest))
      ∙ ap (λ l. l ++ ended rest) (sym (ended-append before line))
      ∙ sym (ended-append (before ++ line) rest),
)

-- what was put and gathered of some lines, and then more
module _ (Old Step New : List ℕ → Type 0) (join : (x y : List ℕ) → Old x → Step y → New (x ++ y)) (lines : List (List ℕ)) (before : List ℕ) (at : Gathered lines Old before) where
  -- nothing was put since
  pub still : Step [] → New (ended at.out)
  still step = subst New (append-nil (ended at.out)) (join (ended at.out) [] at.puts step)

  -- those that were gathered stand with these behind the ones that were put
  all_with : (more : List (List ℕ)) → at.out ++ (at.held ++ more) ≡ lines ++ more
  all_with more = sym (append_assoc at.out at.held more) ∙ ap (λ l. l ++ more) at.both

  pub all_out : (more : List (List ℕ)) → Step (ended (at.held ++ more)) → New (ended (lines ++ more))
  all_out more step = subst New (sym (ended-append at.out (at.held ++ more)) ∙ ap ended (all_with more)) (join (ended at.out) (ended (at.held ++ more)) at.puts step)

  pub added : (more : List (List ℕ)) (gathered : List ℕ) → AreAdded (at.held ++ more) Step gathered → Gathered (lines ++ more) New gathered
  added more gathered (inl kept) = record { out = at.out; held = at.held ++ more; both = all_with more; puts = still kept.0; text_is = kept.1 }
  added more gathered (inr put) = record { out = lines ++ more; held = []; both = append-nil (lines ++ more); puts = all_out more put.0; text_is = put.1 }

  -- it stopped before more of a text came
  pub stopped_at : (text rest : List (List ℕ)) (fault : ReplayFault) → text ≡ lines ++ rest → Step [] → StopsIn text New fault
  stopped_at text rest fault split step = (ended at.out, still step, inl (record { lines = at.out; more = at.held ++ rest; of_text = all_with rest ∙ sym split; is = sym (append-nil (ended at.out)) }))

  -- or in a put of what was gathered and more
  pub cut_in : (text more rest : List (List ℕ)) (fault : ReplayFault) → text ≡ (lines ++ more) ++ rest → fault ≡ Write → (put : List ℕ) → IsPrefix put (ended (at.held ++ more)) → Step put → StopsIn text New fault
  cut_in text more rest fault split write put prefix step =
      (ended at.out ++ put, join (ended at.out) put at.puts step, inr (write, subst (λ l. IsPrefix (ended at.out ++ put) (ended l)) (ap (λ l. l ++ rest) (all_with more) ∙ sym split) (prefix_behind at.out (at.held ++ more) rest put prefix)))

module _ (queries : List Asked) (first : ℕ) (events : List Event) (number : ℕ) (Old Step New : List ℕ → Type 0) (join : (x y : List ℕ) → Old x → Step y → New (x ++ y)) (before : List ℕ) (Then : Type 0) (at : Progress queries first events number Old before Then) where
  abbrev front : List (List ℕ)
  front = lines_before queries first events number

  -- the line of the next event was put or gathered
  pub next : (then : ℕ) (After : Type 0) (gathered : List ℕ) → then ≡ number + 1 → then ≤ length events → AreAdded (at.lines.held ++ line_at queries first events number) Step gathered → After → Progress queries first events then New gathered After
  next then After gathered is within step after =
      let one : then ≡ suc number = omega (arith, is) in
      record {
        within = within;
        lines = subst (λ m. Gathered (lines_before queries first events m) New gathered) (sym one) (added Old Step New join front before at.lines (line_at queries first events number) gathered step);
        goes = after;
      }

  -- all were put or are gathered
  pub finish : (gathered : List ℕ) → number ≡ length events → Step [] → gathered ≡ ended at.lines.held → Gathered (replay_lines queries first events) New gathered
  finish gathered is step same = subst (λ m. Gathered (lines_before queries first events m) New gathered) is
      (record { out = at.lines.out; held = at.lines.held; both = at.lines.both; puts = still Old Step New join front before at.lines step; text_is = same })

  -- it stopped before the next line
  pub stop : (fault : ReplayFault) → Step [] → StopsIn (replay_text queries first events) New fault
  stop fault step =
      let split = text_split queries first events number at.within in
      stopped_at Old Step New join front before at.lines (replay_text queries first events) split.0 fault split.1 step

  -- or in a put of those up to it
  pub cut : (fault : ReplayFault) → fault ≡ Write → number < length events → (put : List ℕ) → IsPrefix put (ended (at.lines.held ++ line_at queries first events number)) → Step put → StopsIn (replay_text queries first events) New fault
  cut fault write below put prefix step =
      let split = text_split queries first events (suc number) (omega (arith, below)) in
      cut_in Old Step New join front before at.lines (replay_text queries first events) (line_at queries first events number) split.0 fault split.1 write put prefix step

-- behind all lines, what is gathered is put with the last line, or a prefix of both
module _ (queries : List Asked) (first : ℕ) (events : List Event) (Old Step New : List ℕ → Type 0) (join : (x y : List ℕ) → Old x → Step y → New (x ++ y)) (before : List ℕ) (at : Gathered (replay_lines queries first events) Old before) where
  abbrev all : List (List ℕ)
  all = replay_lines queries first events

  abbrev text : List (List ℕ)
  text = replay_text queries first events

  pub last_put : (result : Result Unit ReplayFault) → PutsLines (at.held ++ end_line events ∷ []) Step result → Answered (replay_text queries first events) (replay_text queries first events) New ⊤ result
  last_put (Ok x) step = (all_out Old Step New join all before at (end_line events ∷ []) step, tt)
  last_put (Err fault) (inl memory) = (inr (inl memory.0), stopped_at Old Step New join all before at text (end_line events ∷ []) fault refl memory.1)
  last_put (Err fault) (inr write) = (inr (inr write.0), cut_in Old Step New join all before at text (end_line events ∷ []) [] fault (sym (append-nil text)) write.0 write.1.0 write.1.1 write.1.2)

-- nothing was put of a text
pub none_put : (text : List (List ℕ)) (Put : List ℕ → Type 0) (fault : ReplayFault) → Put [] → StopsIn text Put fault
none_put text Put fault none = ([], none, inl (record { lines = []; more = text; of_text = refl; is = refl }))

-- the last line's numbers
pub end_is : (events : List Event) (n m : ℕ) → n ≡ next_offset events → m ≡ length events → mark_line (Finished n m) ≡ end_line events
end_is events n m next count = ap (λ k. mark_line (Finished k m)) next ∙ ap (λ k. mark_line (Finished (next_offset events) k)) count

-- lines that were added behind nothing
pub added_behind : (lines : List (List ℕ)) (Step New : List ℕ → Type 0) (gathered : List ℕ) → ((x : List ℕ) → Step x → New x) → AreAdded lines Step gathered → AreAdded lines New gathered
added_behind lines Step New gathered behind (inl kept) = inl (behind [] kept.0, kept.1)
added_behind lines Step New gathered behind (inr put) = inr (behind (ended lines) put.0, put.1)

-- what was put behind nothing
pub answered_behind : (lines text : List (List ℕ)) (Step New : List ℕ → Type 0) (Then : Type 0) → ((x : List ℕ) → Step x → New x) → (result : Result Unit ReplayFault) → Answered lines text Step Then result → Answered lines text New Then result
answered_behind lines text Step New Then behind (Ok x) went = (behind (ended lines) went.0, went.1)
answered_behind lines text Step New Then behind (Err fault) went = (went.0, (went.1.0, behind went.1.0 went.1.1, went.1.2))

-- what an answer comes to, at Ok and where it stopped
pub answered_ok : (lines text : List (List ℕ)) (Put : List ℕ → Type 0) (Then : Type 0) (result : Result Unit ReplayFault) → Answered lines text Put Then result → OnOk result (Put (ended lines))
answered_ok lines text Put Then (Ok x) went = went.0
answered_ok lines text Put Then (Err fault) went = tt

pub answered_stops : (lines text : List (List ℕ)) (Put : List ℕ → Type 0) (Then : Type 0) (result : Result Unit ReplayFault) → Answered lines text Put Then result → IfErr result (StopsIn text Put)
answered_stops lines text Put Then (Ok x) went = tt
answered_stops lines text Put Then (Err fault) went = went.1

pub answered_expected : (lines text : List (List ℕ)) (Put : List ℕ → Type 0) (Then : Type 0) (result : Result Unit ReplayFault) → Answered lines text Put Then result → IfErr result IsExpected
answered_expected lines text Put Then (Ok x) went = tt
answered_expected lines text Put Then (Err fault) went = went.0
