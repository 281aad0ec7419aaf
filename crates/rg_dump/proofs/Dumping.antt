-- How far a dump has come.
use Rattle.std.proofs.Common.{◌≡◌, ◌∙◌, ◌⊎◌, inl, inr, ℕ, List, [], ◌∷◌, ◌++◌, map, Option, Some, None, refl, sym, ap, subst, append_assoc}
use Rattle.std.proofs.lemmas.List.{append-nil}
use Rattle.std.specs.Option.{ForSome}
use Rattle.rg_event.specs.declared.value.Value.{Value}
use Rattle.rg_host.specs.Image.{Image}
use Rattle.rg_host.specs.Lines.{ended}
use Rattle.rg_host.specs.Puts.{IsPrefix, StopsWith}
use Rattle.rg_host.proofs.Laws.{ended-append}
use Rattle.rg_frame.specs.Looks.{IsClosed}
use Rattle.rg_log.specs.Entries.{nothing}
use Rattle.rg_reservoir.specs.Walked.{place_of, schema_of as known_of, tally_of, IsNext, IsRefusedWalk}
use Rattle.rg_reservoir.specs.declared.walk.Stage.{Stage}
use Rattle.rg_reservoir.specs.declared.walk.Walk.{Walk}
use Rattle.rg_reservoir.specs.declared.fault.ReservoirFault.{ReservoirFault}
use Rattle.rg_reservoir.specs.declared.fault.ReservoirFault.TheVariants as walk
use Rattle.rg_dump.specs.declared.fault.DumpFault.{DumpFault}
use Rattle.rg_dump.specs.declared.fault.DumpFault.TheVariants as dump
use Rattle.rg_dump.specs.Behind.{stage_values, values_of, behind_after, events_in}
use Rattle.rg_dump.specs.Dump.{stage_rows, rows_of, damage_of}
use Rattle.rg_dump.specs.Dumped.{IsCutIn, HasPutStage, HasStopped}
use Rattle.rg_dump.specs.Faults.{of_walk}
use Rattle.rg_dump.specs.Rows.{row_line}
use Rattle.rg_dump.specs.Stages.{stages_of}
use Rattle.rg_dump.specs.Surveyed.{IsUnsurveyed}
use Rattle.rg_dump.proofs.Behind.{behind_next, rows_behind, rows_push, rows_append}
use Rattle.rg_dump.proofs.Walking.{rest_at, IsAt, at_start, at_next, at_end, at_damage, rest_next, rest_end, rest_damage}

-- How far the rows of a file have come: those of the frames that the walk has passed were put, and these values are those of the
-- growths behind.
pub record Progress (bytes : List ℕ) (walk : Walk) (behind : List Value) (Put : List ℕ → Type 0) : Type 0 where
  pub stages : List Stage
  pub at : IsAt bytes walk stages
  pub ahead : behind ≡ values_of (rest_at bytes walk at.most)
  pub puts : Put (ended (rows_behind behind stages))

pub begin : (bytes : List ℕ) (walk : Walk) (behind : List Value) (Put : List ℕ → Type 0) → place_of walk ≡ 0 → known_of walk ≡ None → tally_of walk ≡ nothing → behind ≡ values_of (stages_of bytes).stages → Put [] → Progress bytes walk behind Put
begin bytes walk behind Put place schema tally all none =
    let at = at_start bytes walk place schema tally in
    record { stages = []; at = at; ahead = all ∙ ap values_of at.are; puts = none }

-- the text of the rows that were put, and of those behind them
text_is : (bytes : List ℕ) (walk : Walk) (behind : List Value) (Put : List ℕ → Type 0) (p : Progress bytes walk behind Put) → rows_of bytes ≡ rows_behind behind p.stages ++ map row_line (events_in (rest_at bytes walk p.at.most))
text_is bytes walk behind Put p =
    let rest = rest_at bytes walk p.at.most in
    ap (λ (l : List Stage). map row_line (events_in l)) p.at.are ∙ rows_append p.stages rest
    ∙ ap (λ (v : List Value). rows_behind v p.stages ++ map row_line (events_in rest)) (sym p.ahead)

text_ends : (bytes : List ℕ) (walk : Walk) (behind : List Value) (Put : List ℕ → Type 0) (p : Progress bytes walk behind Put) → rest_at bytes walk p.at.most ≡ [] → rows_of bytes ≡ rows_behind behind p.stages
text_ends bytes walk behind Put p none =
    text_is bytes walk behind Put p ∙ ap (λ (l : List Stage). rows_behind behind p.stages ++ map row_line (events_in l)) none ∙ append-nil (rows_behind behind p.stages)

module _ (bytes : List ℕ) (Old Step New : List ℕ → Type 0) (join : (x y : List ℕ) → Old x → Step y → New (x ++ y)) where
  pub step : (s : Stage) (old new : Walk) (behind left : List Value) → Progress bytes old behind Old → IsNext bytes old s new → HasPutStage s behind left Step → Progress bytes new left New
  step s old new behind left p next put = record { stages = p.stages ++ s ∷ []; at = at; ahead = left_are; puts = subst New (sym text) (join (ended (rows_behind behind p.stages)) (ended (stage_rows behind s)) p.puts put.rows) }
    where
      at : IsAt bytes new (p.stages ++ s ∷ [])
      at = at_next bytes s old new p.stages p.at next

      after : List Value
      after = values_of (rest_at bytes new at.most)

      were : behind ≡ stage_values s ++ after
      were = p.ahead ∙ ap values_of (rest_next bytes s old new p.stages p.at next)

      left_are : left ≡ after
      left_are = put.left_is ∙ ap (behind_after s) were ∙ behind_next s after

      text : ended (rows_behind left (p.stages ++ s ∷ [])) ≡ ended (rows_behind behind p.stages) ++ ended (stage_rows behind s)
      text =
          ap (λ (v : List Value). ended (rows_behind v (p.stages ++ s ∷ []))) left_are ∙ ap ended (rows_push after p.stages s)
          ∙ ap (λ (v : List Value). ended (rows_behind v p.stages ++ stage_rows v s)) (sym were) ∙ ended-append (rows_behind behind p.stages) (stage_rows behind s)

  same_put : (lines : List (List ℕ)) → Old (ended lines) → Step [] → New (ended lines)
  same_put lines put none = subst New (append-nil (ended lines)) (join (ended lines) [] put none)

  all_put : (walk : Walk) (behind : List Value) (p : Progress bytes walk behind Old) → rest_at bytes walk p.at.most ≡ [] → Step [] → New (ended (rows_of bytes))
  all_put walk behind p none put = subst (λ (l : List (List ℕ)). New (ended l)) (sym (text_ends bytes walk behind Old p none)) (same_put (rows_behind behind p.stages) p.puts put)

  pub finish : (walk : Walk) (behind : List Value) → Progress bytes walk behind Old → IsClosed (place_of walk) bytes → Step [] → New (ended (rows_of bytes)) × (damage_of bytes ≡ None)
  finish walk behind p closed put = (all_put walk behind p (rest_end bytes walk p.stages p.at closed) put, (at_end bytes walk p.stages p.at closed).1)

  pub spoil : (walk : Walk) (behind : List Value) (place : ℕ) → place ≡ place_of walk → Progress bytes walk behind Old → IsRefusedWalk bytes walk → Step [] → (damage_of bytes ≡ Some place) × New (ended (rows_of bytes))
  spoil walk behind place is p refused put =
      ((at_damage bytes walk p.stages p.at refused).1 ∙ ap (λ (n : ℕ). Some n) (sym is), all_put walk behind p (rest_damage bytes walk p.stages p.at refused) put)

  -- nothing more was put
  pub quiet : (W : Type 0) (walk : Walk) (behind : List Value) → Progress bytes walk behind Old → Step [] → HasStopped (rows_of bytes) New W
  quiet W walk behind p put =
      let lines = rows_behind behind p.stages in
      (ended lines, same_put lines p.puts put, inl (record { lines = lines; more = _; of_text = sym (text_is bytes walk behind Old p); is = sym (append-nil (ended lines)) }))

  -- a prefix of a frame's rows was put
  pub cut : (W : Type 0) (s : Stage) (old new : Walk) (behind : List Value) → W → Progress bytes old behind Old → IsNext bytes old s new → (part : List ℕ) → IsPrefix part (ended (stage_rows behind s)) → Step part → HasStopped (rows_of bytes) New W
  cut W s old new behind failed p next part prefix put = (ended lines ++ part, join (ended lines) part p.puts put, inr (failed, (prefix.0 ++ ended more, whole)))
    where
      lines : List (List ℕ)
      lines = rows_behind behind p.stages

      at : IsAt bytes new (p.stages ++ s ∷ [])
      at = at_next bytes s old new p.stages p.at next

      rest : List Stage
      rest = rest_at bytes new at.most

      more : List (List ℕ)
      more = map row_line (events_in rest)

      were : behind ≡ stage_values s ++ values_of rest
      were = p.ahead ∙ ap values_of (rest_next bytes s old new p.stages p.at next)

      text : rows_of bytes ≡ (lines ++ stage_rows behind s) ++ more
      text =
          ap (λ (l : List Stage). map row_line (events_in l)) at.are ∙ rows_append (p.stages ++ s ∷ []) rest ∙ ap (λ (l : List (List ℕ)). l ++ more) (rows_push (values_of rest) p.stages s)
          ∙ ap (λ (v : List Value). (rows_behind v p.stages ++ stage_rows v s) ++ more) (sym were)

      all : ended (rows_of bytes) ≡ ended lines ++ (ended (stage_rows behind s) ++ ended more)
      all =
          ap ended text ∙ ended-append (lines ++ stage_rows behind s) more ∙ ap (λ (l : List ℕ). l ++ ended more) (ended-append lines (stage_rows behind s))
          ∙ append_assoc (ended lines) (ended (stage_rows behind s)) (ended more)

      inside : part ++ (prefix.0 ++ ended more) ≡ ended (stage_rows behind s) ++ ended more
      inside = sym (append_assoc part prefix.0 (ended more)) ∙ ap (λ (l : List ℕ). l ++ ended more) prefix.1

      whole : (ended lines ++ part) ++ (prefix.0 ++ ended more) ≡ ended (rows_of bytes)
      whole = append_assoc (ended lines) part (prefix.0 ++ ended more) ∙ ap (λ (l : List ℕ). ended lines ++ l) inside ∙ sym all

-- lines behind others

behind_lines : (first : List (List ℕ)) (second put : List ℕ) → IsPrefix put second → IsPrefix (ended first ++ put) (ended first ++ second)
behind_lines first second put prefix = (prefix.0, append_assoc (ended first) put prefix.0 ∙ ap (λ (l : List ℕ). ended first ++ l) prefix.1)

module _ (first second : List (List ℕ)) (Old Step New : List ℕ → Type 0) (join : (x y : List ℕ) → Old x → Step y → New (x ++ y)) where
  pub both_put : Old (ended first) → Step (ended second) → New (ended (first ++ second))
  both_put put more = subst New (sym (ended-append first second)) (join (ended first) (ended second) put more)

  -- the first lines were put, and the others stopped
  pub stopped_behind : (W : Type 0) → Old (ended first) → HasStopped second Step W → HasStopped (first ++ second) New W
  stopped_behind W put stopped = (ended first ++ stopped.0, join (ended first) stopped.0 put stopped.1, by stopped.2)
    where
      by : StopsWith second [] stopped.0 ⊎ (W × IsPrefix stopped.0 (ended second)) → StopsWith (first ++ second) [] (ended first ++ stopped.0) ⊎ (W × IsPrefix (ended first ++ stopped.0) (ended (first ++ second)))
      by (inl stops) = inl (record {
        lines = first ++ stops.lines;
        more = stops.more;
        of_text = append_assoc first stops.lines stops.more ∙ ap (λ (l : List (List ℕ)). first ++ l) stops.of_text;
        is = ap (λ (l : List ℕ). ended first ++ l) stops.is ∙ sym (append_assoc (ended first) (ended stops.lines) []) ∙ ap (λ (l : List ℕ). l ++ []) (sym (ended-append first stops.lines));
      })
      by (inr cut) = inr (cut.0, subst (λ (l : List ℕ). IsPrefix (ended first ++ stopped.0) l) (sym (ended-append first second)) (behind_lines first (ended second) stopped.0 cut.1))

  -- the first lines stopped
  pub stopped_before : (W : Type 0) → Old [] → IsCutIn (ended first) Step W → HasStopped (first ++ second) New W
  stopped_before W none part = (part.part, join [] part.part none part.puts, by part.none)
    where
      by : (part.part ≡ []) ⊎ W → StopsWith (first ++ second) [] part.part ⊎ (W × IsPrefix part.part (ended (first ++ second)))
      by (inl empty) = inl (record { lines = []; more = first ++ second; of_text = refl; is = empty })
      by (inr failed) =
          let more = ended second in
          let whole : part.part ++ (part.prefix.0 ++ more) ≡ ended (first ++ second) = sym (append_assoc part.part part.prefix.0 more) ∙ ap (λ (l : List ℕ). l ++ more) part.prefix.1 ∙ sym (ended-append first second) in
          inr (failed, (part.prefix.0 ++ more, whole))

-- nothing was put
pub stopped_none : (text : List (List ℕ)) (Put : List ℕ → Type 0) (W : Type 0) → Put [] → HasStopped text Put W
stopped_none text Put W none = ([], none, inl (record { lines = []; more = text; of_text = refl; is = refl }))

-- a walk's damaged place
pub walk_damaged : (fault : ReservoirFault) (place : ℕ) → of_walk fault ≡ dump.Damaged place → fault ≡ walk.Damaged place
walk_damaged walk.Disk place is = absurd cc
walk_damaged (walk.Damaged p) place is = let same : p ≡ place = cc in ap (λ (n : ℕ). walk.Damaged n) same
walk_damaged walk.Memory place is = absurd cc
walk_damaged walk.SchemaDiffers place is = absurd cc
walk_damaged walk.Full place is = absurd cc
walk_damaged walk.Ended place is = absurd cc

-- and its other causes
pub walk_disk : (fault : ReservoirFault) → (fault ≡ walk.SchemaDiffers → ⊥) → (fault ≡ walk.Full → ⊥) → (fault ≡ walk.Ended → ⊥) → of_walk fault ≡ dump.Disk → fault ≡ walk.Disk
walk_disk walk.Disk differs full ended is = refl
walk_disk (walk.Damaged p) differs full ended is = absurd cc
walk_disk walk.Memory differs full ended is = absurd cc
walk_disk walk.SchemaDiffers differs full ended is = absurd (differs refl)
walk_disk walk.Full differs full ended is = absurd (full refl)
walk_disk walk.Ended differs full ended is = absurd (ended refl)

pub walk_write : (fault : ReservoirFault) → of_walk fault ≡ dump.Write → ⊥
walk_write walk.Disk is = cc
walk_write (walk.Damaged p) is = cc
walk_write walk.Memory is = cc
walk_write walk.SchemaDiffers is = cc
walk_write walk.Full is = cc
walk_write walk.Ended is = cc

-- what a put of lines was refused for is neither a damage nor a fault of a file
pub put_damaged : (fault : DumpFault) (place : ℕ) → (fault ≡ dump.Write) ⊎ (fault ≡ dump.Memory) → fault ≡ dump.Damaged place → ⊥
put_damaged fault place (inl write) is = let e : dump.Write ≡ dump.Damaged place = sym write ∙ is in cc
put_damaged fault place (inr memory) is = let e : dump.Memory ≡ dump.Damaged place = sym memory ∙ is in cc

pub put_disk : (fault : DumpFault) → (fault ≡ dump.Write) ⊎ (fault ≡ dump.Memory) → fault ≡ dump.Disk → ⊥
put_disk fault (inl write) is = let e : dump.Write ≡ dump.Disk = sym write ∙ is in cc
put_disk fault (inr memory) is = let e : dump.Memory ≡ dump.Disk = sym memory ∙ is in cc

damaged_not_written : (fault : DumpFault) (place : ℕ) → fault ≡ dump.Damaged place → fault ≡ dump.Write → ⊥
damaged_not_written fault place is write = absurd (let e : dump.Damaged place ≡ dump.Write = sym is ∙ write in cc)

-- at a damaged place nothing was put
pub quiet_damage : (fault : DumpFault) (place : ℕ) (A : Type 0) → fault ≡ dump.Damaged place → (fault ≡ dump.Write) ⊎ A → A
quiet_damage fault place A is (inl write) = absurd (damaged_not_written fault place is write)
quiet_damage fault place A is (inr none) = none

-- a survey that failed found no damage and put nothing
pub unsurveyed_damaged : (Rose : Type 0) (fault : DumpFault) (place : ℕ) → IsUnsurveyed Rose fault → fault ≡ dump.Damaged place → ⊥
unsurveyed_damaged Rose fault place (inl memory) is = let e : dump.Memory ≡ dump.Damaged place = sym memory ∙ is in cc
unsurveyed_damaged Rose fault place (inr disk) is = let e : dump.Disk ≡ dump.Damaged place = sym disk.0 ∙ is in cc

pub unsurveyed_write : (Rose : Type 0) (fault : DumpFault) → IsUnsurveyed Rose fault → fault ≡ dump.Write → ⊥
unsurveyed_write Rose fault (inl memory) is = let e : dump.Memory ≡ dump.Write = sym memory ∙ is in cc
unsurveyed_write Rose fault (inr disk) is = let e : dump.Disk ≡ dump.Write = sym disk.0 ∙ is in cc

pub unsurveyed_disk : (Rose : Type 0) (fault : DumpFault) → IsUnsurveyed Rose fault → fault ≡ dump.Disk → Rose
unsurveyed_disk Rose fault (inl memory) is = absurd (let e : dump.Memory ≡ dump.Disk = sym memory ∙ is in cc)
unsurveyed_disk Rose fault (inr disk) is = disk.1

-- and is one where it failed later
pub unsurveyed_later : (A B : Type 0) (fault : DumpFault) → (A → B) → IsUnsurveyed A fault → IsUnsurveyed B fault
unsurveyed_later A B fault more (inl memory) = inl memory
unsurveyed_later A B fault more (inr disk) = inr (disk.0, more disk.1)
