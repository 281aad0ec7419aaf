-- How the visits of the edges of a node's window lead its values on.
use Rattle.std.proofs.Common.{◌≡◌, ◌⊎◌, ℕ, zero, suc, ◌≤◌, ◌<◌, ◌+◌, ◌-◌, Bool, true, false, List, [], ◌∷◌, ◌++◌, length, get_or, take, drop, Option, Some, None, refl, inl, inr, ap, sym, subst, ◌∙◌, arith, append_assoc, length-append}
use Rattle.std.specs.Prelude.{slice_get, All}
use Rattle.std.proofs.lemmas.List.{take-append-le, get_or-drop, length-drop, length-take, get_or_append_left, get_or-append-add}
use Rattle.std.proofs.lemmas.List.Elements.{All-take, All-drop}
use Rattle.std.proofs.lemmas.Option.{slice_get_within, slice_get-get_or, get_or_from_slice_get}
use Rattle.rg_event.specs.declared.event.Event.{Event}
use Rattle.rg_event.specs.declared.value.Value.{Value}
use Rattle.rg_event.specs.Rising.{last_time}
use Rattle.rg_plan.specs.Named.{Node}
use Rattle.rg_window.specs.Passing.{passing, passed, at_edge, edge_by_edge}
use Rattle.rg_window.specs.Chain.{visited_at, passed_at}
use Rattle.rg_window.proofs.Laws.{at_edge-append, edge_by_edge-join}
use Rattle.rg_engine.specs.Windows.{passes_at, node_values}
use Rattle.rg_engine.specs.Standing.{has_edge}
use Rattle.rg_engine.specs.Deeds.{Deed, node_deed, edge_deed, Leads}
use Rattle.rg_engine.specs.Edges.{HandsOf, Starts, VisitsBefore, VisitsInto}
use Rattle.rg_engine.proofs.Slices.{TimesFrom, true_false, le_or, rising_times, times_front, passed_slice, slice_join, passing_later, passing_sooner, passing_within, position_passing, passed_before}
use Rattle.rg_engine.proofs.Values.{vals, vals-append, vals-few, vals-kind, leads_add, leads_remove}
use Rattle.rg_engine.proofs.Passes.{leads_quiet, leads_at}
use Rattle.rg_engine.proofs.Sides.{which, one_place, lower_place, has_in, has_out, has_not, deed_in, deed_out, deed_none, values_slice, values_front}
use Rattle.rg_engine.proofs.Plain.{none_some, same_some}

-- one edge of the node's window, from the last time to time t
record Passed (events : List Event) (front : List Event) (t offset place : ℕ) (offsets : List ℕ) (edge : ℕ) (visited : List Event) : Type 0 where
  pub is : get_or offsets edge 0 ≡ offset
  pub within : edge < length offsets
  pub old : place ≡ length (passing offset (last_time front) front)
  pub rises : place ≤ length (passing offset t events)
  pub low : place ≤ length front
  pub slice : visited ≡ drop place (take (length (passing offset t events)) events)

module _ (node : Node) (front more : List Event) (t : ℕ) (offsets numbers : List ℕ) (starts : Starts node front more offsets numbers) where
  times : TimesFrom 0 (front ++ more)
  times = rising_times (front ++ more) starts.ordered

  module _ (key : List ℕ) (passes : List (List Event)) (same : length passes ≡ length offsets) (known : VisitsBefore node (front ++ more) t offsets numbers passes (length offsets)) where
    passed_there : last_time front ≤ t → (edge offset : ℕ) → slice_get offsets edge ≡ Some offset → has_edge node.window offset ≡ true → Passed (front ++ more) front t offset (get_or numbers edge 0) offsets edge (visited_at passes edge)
    passed_there later edge offset there is =
        let o : get_or offsets edge 0 ≡ offset = get_or_from_slice_get offsets edge offset 0 there in
        let w : edge < length offsets = slice_get_within offsets edge offset there in
        let p : get_or numbers edge 0 ≡ length (passing offset (last_time front) front) = starts.places edge offset there is ∙ position_passing offset (last_time front) 0 front (times_front 0 front more times) in
        let l : get_or numbers edge 0 ≤ length (passing offset t (front ++ more)) = omega (arith, p, passing_later offset (last_time front) t front more later) in
        record {
          is = o;
          within = w;
          old = p;
          rises = l;
          low = omega (arith, p, passing_within offset (last_time front) front);
          slice = known edge offset w there is ∙ ap (λ v. passed (front ++ more) t v (get_or numbers edge 0)) o ∙ passed_slice offset t (front ++ more) (get_or numbers edge 0) l;
        }

    idle : (edge : ℕ) (x : Event) → has_edge node.window (get_or offsets edge 0) ≡ false → edge_deed node key offsets edge x ≡ None
    idle edge x h = deed_none node key x (get_or offsets edge 0) h

    -- a window that nothing leaves
    one_edge : last_time front ≤ t → node.window.length ≡ None → Leads (edge_deed node key offsets) (edge_by_edge 0 passes) (node_values node key t (front ++ more)) (node_values node key (last_time front) front)
    one_edge later none =
        let all = front ++ more in
        let field = node.agg.field in
        let p = passes_at node key in
        let deed : ℕ → Event → Option Deed = edge_deed node key offsets in
        let kind = starts.alike.0 in
        let i = starts.enters.0 in
        let oi = node.window.delay in
        let pi = get_or numbers i 0 in
        let qi = length (passing oi t all) in
        let visits = visited_at passes i in
        let mi = passed_there later i oi starts.enters.1 (has_in node.window) in
        let olds : node_values node key (last_time front) front ≡ vals field p (take pi all) =
        values_front node key (last_time front) front none (times_front 0 front more times)
        ∙ ap (λ v. vals field p (take v front)) (sym mi.old) ∙ ap (vals field p) (sym (take-append-le pi front more mi.low)) in
        let news : node_values node key t all ≡ vals field p (take qi all) = values_front node key t all none times in
        let join : vals field p (take pi all) ++ vals field p visits ≡ vals field p (take qi all) =
        sym (vals-append field p (take pi all) visits) ∙ ap (vals field p) (ap (λ v. take pi all ++ v) mi.slice ∙ slice_join all 0 pi qi (omega arith) mi.rises) in
        let others : (k : ℕ) → k < length offsets → (k ≡ i → ⊥) → (x : Event) → deed k x ≡ None = λ k l apart x. idle k x (has_not node.window (get_or offsets k 0)
        (λ e. apart (one_place offsets k i starts.rising l mi.within (sym e ∙ sym mi.is))) (λ lasts e. absurd (none_some (sym none ∙ e)))) in
        let here : Leads deed (at_edge i visits) (vals field p (take pi all) ++ vals field p visits) (vals field p (take pi all)) =
        leads_add deed i field p kind visits (vals field p (take pi all))
        (omega (arith, starts.few, ap length join, vals-few field p (take qi all), length-take qi all))
        (vals-kind kind field p (take pi all) (All-take (HandsOf kind field) pi all starts.alike.1))
        (subst (λ v. All (HandsOf kind field) v) (sym mi.slice) (All-drop (HandsOf kind field) pi (take qi all) (All-take (HandsOf kind field) qi all starts.alike.1)))
        (λ x. ap (λ o. node_deed node key o x) mi.is ∙ deed_in node key x) in
        let rest : Leads deed (edge_by_edge (i + 1) (drop (suc i) passes)) (vals field p (take qi all)) (vals field p (take pi all) ++ vals field p visits) =
        subst (λ v. Leads deed (edge_by_edge (i + 1) (drop (suc i) passes)) (vals field p (take qi all)) v) (sym join)
        (leads_quiet deed (i + 1) (drop (suc i) passes) (vals field p (take qi all)) (λ k l. inr (others (i + 1 + k) (omega (arith, l, same, length-drop (suc i) passes)) (λ e. absurd (omega arith))))) in
        subst (λ v. Leads deed (edge_by_edge 0 passes) v (node_values node key (last_time front) front)) (sym news)
        (subst (λ v. Leads deed (edge_by_edge 0 passes) (vals field p (take qi all)) v) (sym olds)
        (leads_at deed 0 passes i i (vals field p (take pi all)) (vals field p (take pi all) ++ vals field p visits) (vals field p (take qi all)) (omega arith) (omega (arith, mi.within, same))
        (λ k l b. others k (omega (arith, b, mi.within)) (λ e. absurd (omega arith))) here rest))

    -- a window with both edges
    both_edges : last_time front ≤ t → (lasts : ℕ) → node.window.length ≡ Some lasts → Leads (edge_deed node key offsets) (edge_by_edge 0 passes) (node_values node key t (front ++ more)) (node_values node key (last_time front) front)
    both_edges later lasts ends =
        let all = front ++ more in
        let field = node.agg.field in
        let p = passes_at node key in
        let deed : ℕ → Event → Option Deed = edge_deed node key offsets in
        let kind = starts.alike.0 in
        let longer : 0 < lasts = starts.lasting lasts ends in
        let i = starts.enters.0 in
        let j = (starts.leaves lasts ends).0 in
        let oi = node.window.delay in
        let oo = node.window.delay + lasts in
        let pi = get_or numbers i 0 in
        let po = get_or numbers j 0 in
        let qi = length (passing oi t all) in
        let qo = length (passing oo t all) in
        let in_visits = visited_at passes i in
        let out_visits = visited_at passes j in
        let mi = passed_there later i oi starts.enters.1 (has_in node.window) in
        let mo = passed_there later j oo (starts.leaves lasts ends).1 (has_out node.window lasts ends) in
        let below : i < j = lower_place offsets i j starts.rising mi.within (omega (arith, mi.is, mo.is, longer)) in
        let old_order : po ≤ pi = omega (arith, mi.old, mo.old, passing_sooner oi oo (last_time front) front (omega arith)) in
        let new_order : qo ≤ qi = passing_sooner oi oo t all (omega arith) in
        let before = vals field p (drop po (take pi all)) in
        let after = vals field p (drop qo (take qi all)) in
        let olds : node_values node key (last_time front) front ≡ before =
        values_slice node key (last_time front) lasts front ends (times_front 0 front more times)
        ∙ ap (λ v. vals field p (drop v (take (length (passing oi (last_time front) front)) front))) (sym mo.old) ∙ ap (λ v. vals field p (drop po (take v front))) (sym mi.old)
        ∙ ap (λ v. vals field p (drop po v)) (sym (take-append-le pi front more mi.low)) in
        let news : node_values node key t all ≡ after = values_slice node key t lasts all ends times in
        let joined : before ++ vals field p in_visits ≡ vals field p (drop po (take qi all)) =
        sym (vals-append field p (drop po (take pi all)) in_visits) ∙ ap (vals field p) (ap (λ v. drop po (take pi all) ++ v) mi.slice ∙ slice_join all po pi qi old_order mi.rises) in
        let parted : vals field p out_visits ++ after ≡ vals field p (drop po (take qi all)) =
        sym (vals-append field p out_visits (drop qo (take qi all))) ∙ ap (vals field p) (ap (λ v. v ++ drop qo (take qi all)) mo.slice ∙ slice_join all po qo qi mo.rises new_order) in
        let others : (k : ℕ) → k < length offsets → (k ≡ i → ⊥) → (k ≡ j → ⊥) → (x : Event) → deed k x ≡ None = λ k l apart away x. idle k x (has_not node.window (get_or offsets k 0)
        (λ e. apart (one_place offsets k i starts.rising l mi.within (sym e ∙ sym mi.is)))
        (λ n f e. away (one_place offsets k j starts.rising l mo.within (sym e ∙ ap (λ m. node.window.delay + m) (same_some (sym f ∙ ends)) ∙ sym mo.is)))) in
        let here : Leads deed (at_edge i in_visits) (before ++ vals field p in_visits) before =
        leads_add deed i field p kind in_visits before
        (omega (arith, starts.few, ap length joined, vals-few field p (drop po (take qi all)), length-drop po (take qi all), length-take qi all))
        (vals-kind kind field p (drop po (take pi all)) (All-drop (HandsOf kind field) po (take pi all) (All-take (HandsOf kind field) pi all starts.alike.1)))
        (subst (λ v. All (HandsOf kind field) v) (sym mi.slice) (All-drop (HandsOf kind field) pi (take qi all) (All-take (HandsOf kind field) qi all starts.alike.1)))
        (λ x. ap (λ o. node_deed node key o x) mi.is ∙ deed_in node key x) in
        let k = j - suc i in
        let tail = drop (suc i) passes in
        let there : visited_at tail k ≡ out_visits = get_or-drop (suc i) passes k [] ∙ ap (λ n. get_or passes n []) (omega arith) in
        let out : Leads deed (at_edge j (visited_at tail k)) after (vals field p out_visits ++ after) =
        subst (λ v. Leads deed (at_edge j v) after (vals field p out_visits ++ after)) (sym there)
        (leads_remove deed j field p kind out_visits after (λ x. ap (λ o. node_deed node key o x) mo.is ∙ deed_out node key x lasts ends longer)) in
        let last : Leads deed (edge_by_edge (j + 1) (drop (suc k) tail)) after after =
        leads_quiet deed (j + 1) (drop (suc k) tail) after (λ n l. inr (others (j + 1 + n) (omega (arith, l, same, length-drop (suc i) passes, length-drop (suc k) tail)) (λ e. absurd (omega arith)) (λ e. absurd (omega arith)))) in
        let rest : Leads deed (edge_by_edge (i + 1) tail) after (vals field p out_visits ++ after) =
        leads_at deed (i + 1) tail k j (vals field p out_visits ++ after) after after (omega arith) (omega (arith, mo.within, same, length-drop (suc i) passes))
        (λ n l b. others n (omega (arith, b, mo.within)) (λ e. absurd (omega arith)) (λ e. absurd (omega arith))) out last in
        subst (λ v. Leads deed (edge_by_edge 0 passes) v (node_values node key (last_time front) front)) (sym news)
        (subst (λ v. Leads deed (edge_by_edge 0 passes) after v) (sym olds)
        (leads_at deed 0 passes i i before (before ++ vals field p in_visits) after (omega arith) (omega (arith, mi.within, same))
        (λ n l b. others n (omega (arith, b, mi.within)) (λ e. absurd (omega arith)) (λ e. absurd (omega arith))) here
        (subst (λ v. Leads deed (edge_by_edge (i + 1) tail) after v) (parted ∙ sym joined) rest)))

    by_length : (o : Option ℕ) → node.window.length ≡ o → last_time front ≤ t → Leads (edge_deed node key offsets) (edge_by_edge 0 passes) (node_values node key t (front ++ more)) (node_values node key (last_time front) front)
    by_length None e later = one_edge later e
    by_length (Some lasts) e later = both_edges later lasts e

    still_by : (k : ℕ) → k < length offsets → t < last_time front → (b : Bool) → has_edge node.window (get_or offsets k 0) ≡ b → (visited_at passes k ≡ []) ⊎ ((x : Event) → edge_deed node key offsets (0 + k) x ≡ None)
    still_by k l sooner true e =
        let there : slice_get offsets k ≡ Some (get_or offsets k 0) = slice_get-get_or offsets k 0 l in
        inl (known k (get_or offsets k 0) l there e
        ∙ passed_before front more (get_or offsets k 0) t (get_or numbers k 0) times sooner
        (starts.places k (get_or offsets k 0) there e ∙ position_passing (get_or offsets k 0) (last_time front) 0 front (times_front 0 front more times)))
    still_by k l sooner false e = inr (λ x. ap (λ n. edge_deed node key offsets n x) (omega arith) ∙ idle k x e)

    -- before the last time the values stay
    still : t < last_time front → Leads (edge_deed node key offsets) (edge_by_edge 0 passes) (node_values node key (last_time front) front) (node_values node key (last_time front) front)
    still sooner = leads_quiet (edge_deed node key offsets) 0 passes (node_values node key (last_time front) front)
        (λ k l. still_by k (omega (arith, l, same)) sooner (has_edge node.window (get_or offsets k 0)) refl)

    -- visits of all the edges lead from the values at the last time to those at time t
    pub leads_later : last_time front ≤ t → Leads (edge_deed node key offsets) (edge_by_edge 0 passes) (node_values node key t (front ++ more)) (node_values node key (last_time front) front)
    leads_later later = by_length node.window.length refl later

    leads_on : (after : List Value) × Leads (edge_deed node key offsets) (edge_by_edge 0 passes) after (node_values node key (last_time front) front)
    leads_on = elim (le_or t (last_time front)) [
      | inl later ↦ (node_values node key t (front ++ more), leads_later later)
      | inr sooner ↦ (node_values node key (last_time front) front, still sooner)
    ]

  -- what these edges pass, from one on
  abbrev passes_from : ℕ → ℕ → List (List Event)
  passes_from edge zero = []
  passes_from edge (suc count) = passed_at (front ++ more) t offsets numbers edge ∷ passes_from (edge + 1) count

  length-passes_from : (edge count : ℕ) → length (passes_from edge count) ≡ count
  length-passes_from edge zero = refl
  length-passes_from edge (suc count) = ap suc (length-passes_from (edge + 1) count)

  visited_at-passes_from : (edge count k : ℕ) → k < count → visited_at (passes_from edge count) k ≡ passed_at (front ++ more) t offsets numbers (edge + k)
  visited_at-passes_from edge zero k l = absurd (omega arith)
  visited_at-passes_from edge (suc count) zero l = ap (λ n. passed_at (front ++ more) t offsets numbers n) (omega arith)
  visited_at-passes_from edge (suc count) (suc k) l = visited_at-passes_from (edge + 1) count k (omega arith) ∙ ap (λ n. passed_at (front ++ more) t offsets numbers n) (omega arith)

  module _ (key : List ℕ) (passes : List (List Event)) (end : ℕ) (some : List Event) (last : Event) (same : length passes ≡ end) (within : end < length offsets) where
    -- the visits of all the edges, those of `end` being some, the last one and these
    abbrev all_passes : List Event → List (List Event)
    all_passes rest = passes ++ (some ++ last ∷ rest) ∷ passes_from (end + 1) (length offsets - (end + 1))

    length-all_passes : (rest : List Event) → length (all_passes rest) ≡ length offsets
    length-all_passes rest =
        omega (arith, within, same, length-append passes ((some ++ last ∷ rest) ∷ passes_from (end + 1) (length offsets - (end + 1))), length-passes_from (end + 1) (length offsets - (end + 1)))

    visits_all : (rest : List Event) → VisitsBefore node (front ++ more) t offsets numbers passes end →
        ((offset : ℕ) → slice_get offsets end ≡ Some offset → has_edge node.window offset ≡ true → passed_at (front ++ more) t offsets numbers end ≡ some ++ last ∷ rest) →
        VisitsBefore node (front ++ more) t offsets numbers (all_passes rest) (length offsets)
    visits_all rest known into edge offset l there is = elim (which edge end) [
      | inl before ↦ get_or_append_left passes ((some ++ last ∷ rest) ∷ passes_from (end + 1) (length offsets - (end + 1))) [] edge (omega arith) ∙ known edge offset before there is
      | inr (inl here) ↦
          ap (λ n. visited_at (all_passes rest) n) (here ∙ sym same ∙ omega arith) ∙ get_or-append-add passes ((some ++ last ∷ rest) ∷ passes_from (end + 1) (length offsets - (end + 1))) 0 []
          ∙ sym (into offset (ap (λ n. slice_get offsets n) (sym here) ∙ there) is) ∙ ap (λ n. passed_at (front ++ more) t offsets numbers n) (sym here)
      | inr (inr after) ↦
          let k = edge - (end + 1) in
          ap (λ n. visited_at (all_passes rest) n) (omega (arith, after, same)) ∙ get_or-append-add passes ((some ++ last ∷ rest) ∷ passes_from (end + 1) (length offsets - (end + 1))) (suc k) []
          ∙ visited_at-passes_from (end + 1) (length offsets - (end + 1)) k (omega (arith, after, l)) ∙ ap (λ n. passed_at (front ++ more) t offsets numbers n) (omega (arith, after))
    ]

    abbrev more_visits : List Event → List (ℕ × Event)
    more_visits rest = at_edge end rest ++ edge_by_edge (end + 1) (passes_from (end + 1) (length offsets - (end + 1)))

    visits_split : (rest : List Event) → edge_by_edge 0 (all_passes rest) ≡ (edge_by_edge 0 passes ++ at_edge end some) ++ (end, last) ∷ more_visits rest
    visits_split rest =
        let tail = edge_by_edge (end + 1) (passes_from (end + 1) (length offsets - (end + 1))) in
        edge_by_edge-join 0 passes ((some ++ last ∷ rest) ∷ passes_from (end + 1) (length offsets - (end + 1)))
        ∙ ap (λ n. edge_by_edge 0 passes ++ edge_by_edge n ((some ++ last ∷ rest) ∷ passes_from (end + 1) (length offsets - (end + 1)))) (omega (arith, same))
        ∙ ap (λ v. edge_by_edge 0 passes ++ (v ++ tail)) (at_edge-append end some (last ∷ rest))
        ∙ ap (λ v. edge_by_edge 0 passes ++ v) (append_assoc (at_edge end some) (at_edge end (last ∷ rest)) tail)
        ∙ sym (append_assoc (edge_by_edge 0 passes) (at_edge end some) (at_edge end (last ∷ rest) ++ tail))

    halfway_by : (rest : List Event) → VisitsBefore node (front ++ more) t offsets numbers passes end →
        ((offset : ℕ) → slice_get offsets end ≡ Some offset → has_edge node.window offset ≡ true → passed_at (front ++ more) t offsets numbers end ≡ some ++ last ∷ rest) →
        (next : List (ℕ × Event)) × (after : List Value) × Leads (edge_deed node key offsets) ((edge_by_edge 0 passes ++ at_edge end some) ++ (end, last) ∷ next) after (node_values node key (last_time front) front)
    halfway_by rest known into =
        let k = leads_on key (all_passes rest) (length-all_passes rest) (visits_all rest known into) in
        (more_visits rest, k.0, subst (λ v. Leads (edge_deed node key offsets) v k.0 (node_values node key (last_time front) front)) (visits_split rest) k.1)

    halfway_if : (b : Bool) → has_edge node.window (get_or offsets end 0) ≡ b → VisitsBefore node (front ++ more) t offsets numbers passes end → VisitsInto node (front ++ more) t offsets numbers end some last →
        (next : List (ℕ × Event)) × (after : List Value) × Leads (edge_deed node key offsets) ((edge_by_edge 0 passes ++ at_edge end some) ++ (end, last) ∷ next) after (node_values node key (last_time front) front)
    halfway_if true e known into =
        let k = into (get_or offsets end 0) (slice_get-get_or offsets end 0 within) e in
        halfway_by k.0 known (λ offset there is. k.1)
    halfway_if false e known into =
        halfway_by [] known (λ offset there is. absurd (true_false (sym is ∙ ap (has_edge node.window) (sym (get_or_from_slice_get offsets end offset 0 there)) ∙ e)))

    -- visits of some of the edges are the beginning of visits that lead on
    pub leads_halfway : VisitsBefore node (front ++ more) t offsets numbers passes end → VisitsInto node (front ++ more) t offsets numbers end some last →
        (next : List (ℕ × Event)) × (after : List Value) × Leads (edge_deed node key offsets) ((edge_by_edge 0 passes ++ at_edge end some) ++ (end, last) ∷ next) after (node_values node key (last_time front) front)
    leads_halfway known into = halfway_if (has_edge node.window (get_or offsets end 0)) refl known into
