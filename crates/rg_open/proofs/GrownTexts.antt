-- What can be asked over a schema can be asked, in the same words, over one that it grows to.
use Rattle.std.proofs.Common.{◌≡◌, ◌∙◌, ℕ, zero, suc, ◌+◌, ◌<◌, ◌≤◌, Bool, true, false, List, [], ◌∷◌, ◌++◌, length, map, Option, Some, None, option_map, Result, Ok, All, refl, sym, ap, subst, bytes_eq, arith}
use Rattle.std.specs.Prelude.{codes, if◌then◌else◌}
use Rattle.std.proofs.lemmas.List.Elements.{All-head, All-tail, All-weaker}
use Rattle.rg_event.specs.Shapes.{Shape}
use Rattle.rg_event.specs.declared.schema.Field.{Field}
use Rattle.rg_event.specs.declared.value.Kind.{Kind}
use Rattle.rg_growth.specs.Growing.{GrowsBy}
use Rattle.rg_keywords.specs.Words.{func_name, op_text}
use Rattle.rg_keywords.specs.declared.func.Func.{Func}
use Rattle.rg_grammar.specs.Grammar as syntax
use Rattle.rg_grammar.specs.Grammar.{Name, named, Tree, compared, not_of, and_of, or_of, count_all, agg_of, pct_of, windowed}
use Rattle.rg_metric.specs.Conditions as test
use Rattle.rg_metric.specs.Conditions.{Test}
use Rattle.rg_metric.specs.Queries.{Asked}
use Rattle.rg_metric.specs.declared.query.Agg.{Agg}
use Rattle.rg_query.specs.Legal.{IsColumn, IsOperand, IsLegalAgg, AreLegalAggs, IsLegalTest, IsLegalFilter, IsLegalQuery}
use Rattle.rg_query.specs.Printing.{name_at, literal_text, and_is_enclosed, or_is_enclosed, opening, closing, test_text, operand_text, percent_text, agg_text, more_text, list_text, where_text, group_text, length_text, delay_text, query_text}
use Rattle.rg_query.specs.Resolving.{column_from, column_named, or_else, first_in, unless_known, unknown_column, unknown_stream, unknown_in_agg, unknown_in_tree, in_filter, first_unknown, wrong_comparison, wrong_in_tree, wrong_field, wrong_agg, percent_of, pct_asked, first_bad, or_zero, column_of, agg_asked, value_asked, test_asked, length_asked, delay_asked, refused_at, resolved}
use Rattle.rg_query.specs.declared.fault.QueryFault.{QueryFault}
use Rattle.rg_query.specs.declared.fault.QueryFault.TheVariants as fault
use Rattle.rg_query.proofs.Laws.{is_asked, no_place}
use Rattle.rg_config.specs.Read.{IsSaid}
use Rattle.rg_open.specs.Truth.{texts_of}

-- columns by name and by number

-- a column that a name finds is found by it where more columns come behind
column_stays : (k : ℕ) (fields more : List Field) (name : List ℕ) (found : ℕ × Kind) → column_from k fields name ≡ Some found → column_from k (fields ++ more) name ≡ Some found
column_stays k [] more name found is = absurd (cc)
column_stays k (field ∷ fields) more name found is = by (bytes_eq field.name name) is (column_stays (k + 1) fields more name found)
  where
    by : (same : Bool) → (if same then Some (k, field.kind) else column_from (k + 1) fields name) ≡ Some found → (column_from (k + 1) fields name ≡ Some found → column_from (k + 1) (fields ++ more) name ≡ Some found)
        → (if same then Some (k, field.kind) else column_from (k + 1) (fields ++ more) name) ≡ Some found
    by true e next = e
    by false e next = next e

-- it is one of those counted on from a number
record IsCounted (k count n : ℕ) : Type 0 where
  low : k ≤ n
  high : n < k + count

counted : (k : ℕ) (fields : List Field) (name : List ℕ) (n : ℕ) (kind : Kind) → column_from k fields name ≡ Some (n, kind) → IsCounted k (length fields) n
counted k [] name n kind e = absurd (cc)
counted k (field ∷ fields) name n kind e = by (bytes_eq field.name name) e (λ f. counted (k + 1) fields name n kind f)
  where
    by : (same : Bool) → (if same then Some (k, field.kind) else column_from (k + 1) fields name) ≡ Some (n, kind) → (column_from (k + 1) fields name ≡ Some (n, kind) → IsCounted (k + 1) (length fields) n) → IsCounted k (length (field ∷ fields)) n
    by true f next =
        let both : ◌≡◌ {A = ℕ × Kind} (k, field.kind) (n, kind) = cc in
        let here : k ≡ n = ap (λ (x : ℕ × Kind). x.0) both in
        record { low = omega (arith, here); high = omega (arith, here) }
    by false f next = let r : IsCounted (k + 1) (length fields) n = next f in record { low = omega (arith, r.low); high = omega (arith, r.high) }

-- a column whose name is found is one of the schema's
pub column_within : (shape : Shape) (name : List ℕ) (n : ℕ) (kind : Kind) → column_named shape name ≡ Some (n, kind) → n ≤ length shape.fields
column_within shape name n kind found = let r = counted 1 shape.fields name n kind found in omega (arith, r.high)

name_stays : (n : ℕ) (fields more : List Field) → 1 ≤ n → n ≤ length fields → name_at n (fields ++ more) ≡ name_at n fields
name_stays n [] more low high = absurd (omega (arith, low, high))
name_stays zero (field ∷ fields) more low high = refl
name_stays (suc zero) (field ∷ fields) more low high = refl
name_stays (suc (suc n)) (field ∷ fields) more low high = name_stays (suc n) fields more (omega arith) (omega (arith, high))

-- two texts in others
both_same : (before between behind : List ℕ) {a b c d : List ℕ} → a ≡ b → c ≡ d → before ++ (a ++ (between ++ (c ++ behind))) ≡ before ++ (b ++ (between ++ (d ++ behind)))
both_same before between behind p q = λ i. before ++ (p i ++ (between ++ (q i ++ behind)))

-- lists in print

more_same : {A : Type 0} (P : A → Type 0) (f g : A → List ℕ) → ((x : A) → P x → f x ≡ g x) → (xs : List A) → All P xs → more_text f xs ≡ more_text g xs
more_same P f g same [] all = refl
more_same P f g same (x ∷ xs) all =
    ap (λ (l : List ℕ). codes ", " ++ (l ++ more_text f xs)) (same x (All-head P x xs all)) ∙ ap (λ (l : List ℕ). codes ", " ++ (g x ++ l)) (more_same P f g same xs (All-tail P x xs all))

list_same : {A : Type 0} (P : A → Type 0) (f g : A → List ℕ) → ((x : A) → P x → f x ≡ g x) → (xs : List A) → All P xs → list_text f xs ≡ list_text g xs
list_same P f g same [] all = refl
list_same P f g same (x ∷ xs) all = ap (λ (l : List ℕ). l ++ more_text f xs) (same x (All-head P x xs all)) ∙ ap (λ (l : List ℕ). g x ++ l) (more_same P f g same xs (All-tail P x xs all))

-- a syntax's parts are refused alike, and ask the same

record AggIs (from wide : Shape) (a : syntax.Agg) : Type 0 where
  unknown : unknown_in_agg wide a ≡ unknown_in_agg from a
  wrong : wrong_agg wide a ≡ wrong_agg from a
  asks : agg_asked wide a ≡ agg_asked from a

record AggsAre (from wide : Shape) (aggs : List syntax.Agg) : Type 0 where
  unknown : first_in (unknown_in_agg wide) aggs ≡ first_in (unknown_in_agg from) aggs
  wrong : first_in (wrong_agg wide) aggs ≡ first_in (wrong_agg from) aggs
  asks : map (agg_asked wide) aggs ≡ map (agg_asked from) aggs

record TreeIs (from wide : Shape) (t : Tree) : Type 0 where
  unknown : unknown_in_tree wide t ≡ unknown_in_tree from t
  wrong : wrong_in_tree wide t ≡ wrong_in_tree from t
  asks : test_asked wide t ≡ test_asked from t

record FilterIs (from wide : Shape) (filter : Option Tree) : Type 0 where
  unknown : in_filter (unknown_in_tree wide) filter ≡ in_filter (unknown_in_tree from) filter
  wrong : in_filter (wrong_in_tree wide) filter ≡ in_filter (wrong_in_tree from) filter
  asks : option_map (test_asked wide) filter ≡ option_map (test_asked from) filter

record NamesAre (from wide : Shape) (names : List Name) : Type 0 where
  unknown : first_in (unknown_column wide) names ≡ first_in (unknown_column from) names
  asks : map (column_of wide) names ≡ map (column_of from) names

abbrev agg_made : Func → ℕ → Agg
agg_made func column = record { func = func; field = column }

abbrev asked_made : Option ℕ → ℕ → List Agg → Option Test → List ℕ → Asked
asked_made length delay aggs filter group = record { aggs = aggs; filter = filter; group = group; window = record { delay = delay; length = length } }

abbrev told : Option ℕ → Option ℕ → Option ℕ → Asked → Result Asked QueryFault
told bad unknown wrong q = refused_at fault.UnknownName unknown (refused_at fault.WrongKind wrong (refused_at fault.BadSpan bad (Ok q)))

abbrev shape_made : List ℕ → List ℕ → List Field → Shape
shape_made stream time fields = record { stream = stream; time = time; fields = fields }

-- the schema with more columns behind its own
abbrev wider : Shape → List Field → Shape
wider from added = shape_made from.stream from.time (from.fields ++ added)

wider_is : (from to : Shape) (added : List Field) → GrowsBy from to added → wider from added ≡ to
wider_is from to added grows =
    ap (λ (fields : List Field). shape_made from.stream from.time fields) (sym grows.fields)
    ∙ ap (λ (time : List ℕ). shape_made from.stream time to.fields) (sym grows.time)
    ∙ ap (λ (stream : List ℕ). shape_made stream to.time to.fields) (sym grows.stream)

module _ (from : Shape) (added : List Field) where
  abbrev wide : Shape
  wide = wider from added

  found_stays : (name : List ℕ) (found : ℕ × Kind) → column_named from name ≡ Some found → column_named wide name ≡ Some found
  found_stays name found is = column_stays 1 from.fields added name found is

  name_same : (n : ℕ) (kind : Kind) → column_named from (name_at n from.fields) ≡ Some (n, kind) → name_at n (from.fields ++ added) ≡ name_at n from.fields
  name_same n kind found = let r = counted 1 from.fields (name_at n from.fields) n kind found in name_stays n from.fields added r.low (omega (arith, r.high))

  own_name : (n : ℕ) (kind : Kind) → column_named from (name_at n from.fields) ≡ Some (n, kind) → column_named wide (name_at n (from.fields ++ added)) ≡ Some (n, kind)
  own_name n kind found = ap (λ (name : List ℕ). column_named wide name) (name_same n kind found) ∙ found_stays (name_at n from.fields) (n, kind) found

  -- a legal query is legal

  column_legal : (n : ℕ) → IsColumn from n → IsColumn wide n
  column_legal n is = record { kind = is.kind; found = own_name n is.kind is.found }

  operand_legal : (func : Func) (n : ℕ) → IsOperand from func n → IsOperand wide func n
  operand_legal func zero is = is
  operand_legal func (suc n) is = record { kind = is.kind; found = own_name (suc n) is.kind is.found; taken = is.taken; percent = is.percent }

  aggs_legal : (aggs : List Agg) → AreLegalAggs from aggs → AreLegalAggs wide aggs
  aggs_legal [] is = absurd is
  aggs_legal (agg ∷ aggs) is = All-weaker (IsLegalAgg from) (IsLegalAgg wide) (λ a legal. operand_legal a.func a.field legal) (agg ∷ aggs) is

  test_legal : (t : Test) → IsLegalTest from t → IsLegalTest wide t
  test_legal (test.compared column op value) is = record { kind = is.kind; found = own_name column is.kind is.found; ordered = is.ordered; fits = is.fits }
  test_legal (test.not_of t) is = test_legal t is
  test_legal (test.and_of s t) is = (test_legal s is.0, test_legal t is.1)
  test_legal (test.or_of s t) is = (test_legal s is.0, test_legal t is.1)

  filter_legal : (filter : Option Test) → IsLegalFilter from filter → IsLegalFilter wide filter
  filter_legal None is = tt
  filter_legal (Some t) is = test_legal t is

  query_legal : (q : Asked) → IsLegalQuery from q → IsLegalQuery wide q
  query_legal q is = record {
    aggs = aggs_legal q.aggs is.aggs;
    filter = filter_legal q.filter is.filter;
    group = All-weaker (IsColumn from) (IsColumn wide) column_legal q.group is.group;
    length = is.length;
    delay = is.delay;
  }

  -- and is printed alike

  test_same : (side : _) (t : Test) → IsLegalTest from t → test_text wide side t ≡ test_text from side t
  test_same side (test.compared column op value) is = ap (λ (l : List ℕ). l ++ (codes " " ++ (op_text op ++ (codes " " ++ literal_text value)))) (name_same column is.kind is.found)
  test_same side (test.not_of t) is = ap (λ (l : List ℕ). codes "NOT " ++ l) (test_same _ t is)
  test_same side (test.and_of s t) is = both_same (opening (and_is_enclosed side)) (codes " AND ") (closing (and_is_enclosed side)) (test_same _ s is.0) (test_same _ t is.1)
  test_same side (test.or_of s t) is = both_same (opening (or_is_enclosed side)) (codes " OR ") (closing (or_is_enclosed side)) (test_same _ s is.0) (test_same _ t is.1)

  where_same : (filter : Option Test) → IsLegalFilter from filter → where_text wide filter ≡ where_text from filter
  where_same None is = refl
  where_same (Some t) is = ap (λ (l : List ℕ). codes " WHERE " ++ l) (test_same _ t is)

  operand_same : (func : Func) (n : ℕ) → IsOperand from func n → operand_text wide n ≡ operand_text from n
  operand_same func zero is = refl
  operand_same func (suc n) is = name_same (suc n) is.kind is.found

  agg_same : (agg : Agg) → IsLegalAgg from agg → agg_text wide agg ≡ agg_text from agg
  agg_same agg is = ap (λ (l : List ℕ). func_name agg.func ++ (codes "(" ++ (percent_text agg.func ++ (l ++ codes ")")))) (operand_same agg.func agg.field is)

  aggs_same : (aggs : List Agg) → AreLegalAggs from aggs → list_text (agg_text wide) aggs ≡ list_text (agg_text from) aggs
  aggs_same [] is = absurd is
  aggs_same (agg ∷ aggs) is = list_same (IsLegalAgg from) (agg_text wide) (agg_text from) agg_same (agg ∷ aggs) is

  group_same : (columns : List ℕ) → All (IsColumn from) columns → group_text wide columns ≡ group_text from columns
  group_same [] is = refl
  group_same (column ∷ columns) is =
      ap (λ (l : List ℕ). codes " GROUP BY " ++ l) (list_same (IsColumn from) (λ n. name_at n (from.fields ++ added)) (λ n. name_at n from.fields) (λ n there. name_same n there.kind there.found) (column ∷ columns) is)

  text_same : (q : Asked) → IsLegalQuery from q → query_text wide q ≡ query_text from q
  text_same q is =
      let over : List ℕ = codes " OVER " ++ (length_text q.window.length ++ delay_text q.window.delay) in
      ap (λ (l : List ℕ). codes "SELECT " ++ (l ++ (codes " FROM " ++ (from.stream ++ (where_text wide q.filter ++ (group_text wide q.group ++ over)))))) (aggs_same q.aggs is.aggs)
      ∙ ap (λ (l : List ℕ). codes "SELECT " ++ (list_text (agg_text from) q.aggs ++ (codes " FROM " ++ (from.stream ++ (l ++ (group_text wide q.group ++ over)))))) (where_same q.filter is.filter)
      ∙ ap (λ (l : List ℕ). codes "SELECT " ++ (list_text (agg_text from) q.aggs ++ (codes " FROM " ++ (from.stream ++ (where_text from q.filter ++ (l ++ over)))))) (group_same q.group is.group)

  -- a syntax whose names are known asks the same

  named_same : (p : ℕ) (name : List ℕ) → unless_known p (column_named from name) ≡ None → column_named wide name ≡ column_named from name
  named_same p name is = by (column_named from name) refl is
    where
      by : (o : Option (ℕ × Kind)) → column_named from name ≡ o → unless_known p o ≡ None → column_named wide name ≡ column_named from name
      by None e k = absurd (cc)
      by (Some found) e k = found_stays name found e ∙ sym e

  agg_is : (a : syntax.Agg) → unknown_in_agg from a ≡ None → AggIs from wide a
  agg_is count_all is = record { unknown = refl; wrong = refl; asks = refl }
  agg_is (agg_of func (named p name)) is =
      let same = named_same p name is in
      record { unknown = ap (λ (o : Option (ℕ × Kind)). unless_known p o) same; wrong = ap (λ (o : Option (ℕ × Kind)). wrong_field func p o) same; asks = ap (λ (o : Option (ℕ × Kind)). agg_made func (or_zero o)) same }
  agg_is (pct_of place percent (named p name)) is =
      let same = named_same p name is in
      record {
        unknown = ap (λ (o : Option (ℕ × Kind)). unless_known p o) same;
        wrong = ap (λ (o : Option (ℕ × Kind)). or_else (unless_known place (percent_of percent)) (wrong_field (pct_asked percent) p o)) same;
        asks = ap (λ (o : Option (ℕ × Kind)). agg_made (pct_asked percent) (or_zero o)) same;
      }

  aggs_are : (aggs : List syntax.Agg) → first_in (unknown_in_agg from) aggs ≡ None → AggsAre from wide aggs
  aggs_are [] is = record { unknown = refl; wrong = refl; asks = refl }
  aggs_are (a ∷ aggs) is =
      let both = no_place (unknown_in_agg from a) (first_in (unknown_in_agg from) aggs) is in
      let here = agg_is a both.0 in
      let rest = aggs_are aggs both.1 in
      record {
        unknown = ap (λ (o : Option ℕ). or_else o (first_in (unknown_in_agg wide) aggs)) here.unknown ∙ ap (λ (o : Option ℕ). or_else (unknown_in_agg from a) o) rest.unknown;
        wrong = ap (λ (o : Option ℕ). or_else o (first_in (wrong_agg wide) aggs)) here.wrong ∙ ap (λ (o : Option ℕ). or_else (wrong_agg from a) o) rest.wrong;
        asks = ap (λ (b : Agg). b ∷ map (agg_asked wide) aggs) here.asks ∙ ap (λ (l : List Agg). agg_asked from a ∷ l) rest.asks;
      }

  tree_is : (t : Tree) → unknown_in_tree from t ≡ None → TreeIs from wide t
  tree_is (compared (named p name) op l) is =
      let same = named_same p name is in
      record { unknown = ap (λ (o : Option (ℕ × Kind)). unless_known p o) same; wrong = ap (λ (o : Option (ℕ × Kind)). wrong_comparison p op l o) same; asks = ap (λ (o : Option (ℕ × Kind)). test.compared (or_zero o) op (value_asked o l)) same }
  tree_is (not_of t) is = let r = tree_is t is in record { unknown = r.unknown; wrong = r.wrong; asks = ap (λ (u : Test). test.not_of u) r.asks }
  tree_is (and_of s t) is =
      let both = no_place (unknown_in_tree from s) (unknown_in_tree from t) is in
      let a = tree_is s both.0 in
      let b = tree_is t both.1 in
      record {
        unknown = ap (λ (o : Option ℕ). or_else o (unknown_in_tree wide t)) a.unknown ∙ ap (λ (o : Option ℕ). or_else (unknown_in_tree from s) o) b.unknown;
        wrong = ap (λ (o : Option ℕ). or_else o (wrong_in_tree wide t)) a.wrong ∙ ap (λ (o : Option ℕ). or_else (wrong_in_tree from s) o) b.wrong;
        asks = ap (λ (u : Test). test.and_of u (test_asked wide t)) a.asks ∙ ap (λ (u : Test). test.and_of (test_asked from s) u) b.asks;
      }
  tree_is (or_of s t) is =
      let both = no_place (unknown_in_tree from s) (unknown_in_tree from t) is in
      let a = tree_is s both.0 in
      let b = tree_is t both.1 in
      record {
        unknown = ap (λ (o : Option ℕ). or_else o (unknown_in_tree wide t)) a.unknown ∙ ap (λ (o : Option ℕ). or_else (unknown_in_tree from s) o) b.unknown;
        wrong = ap (λ (o : Option ℕ). or_else o (wrong_in_tree wide t)) a.wrong ∙ ap (λ (o : Option ℕ). or_else (wrong_in_tree from s) o) b.wrong;
        asks = ap (λ (u : Test). test.or_of u (test_asked wide t)) a.asks ∙ ap (λ (u : Test). test.or_of (test_asked from s) u) b.asks;
      }

  filter_is : (filter : Option Tree) → in_filter (unknown_in_tree from) filter ≡ None → FilterIs from wide filter
  filter_is None is = record { unknown = refl; wrong = refl; asks = refl }
  filter_is (Some t) is = let r = tree_is t is in record { unknown = r.unknown; wrong = r.wrong; asks = ap (λ (u : Test). Some u) r.asks }

  names_are : (names : List Name) → first_in (unknown_column from) names ≡ None → NamesAre from wide names
  names_are [] is = record { unknown = refl; asks = refl }
  names_are (named p name ∷ names) is =
      let both = no_place (unless_known p (column_named from name)) (first_in (unknown_column from) names) is in
      let same = named_same p name both.0 in
      let rest = names_are names both.1 in
      record {
        unknown = ap (λ (o : Option (ℕ × Kind)). or_else (unless_known p o) (first_in (unknown_column wide) names)) same ∙ ap (λ (o : Option ℕ). or_else (unless_known p (column_named from name)) o) rest.unknown;
        asks = ap (λ (o : Option (ℕ × Kind)). or_zero o ∷ map (column_of wide) names) same ∙ ap (λ (l : List ℕ). or_zero (column_named from name) ∷ l) rest.asks;
      }

  resolved_same : (query : syntax.Query) → first_unknown from query ≡ None → resolved wide query ≡ resolved from query
  resolved_same (syntax.asked aggs (named p stream) filter group (windowed length delay)) is =
      let name : Option ℕ = unknown_stream from (named p stream) in
      let all = no_place (first_in (unknown_in_agg from) aggs) (or_else name (or_else (in_filter (unknown_in_tree from) filter) (first_in (unknown_column from) group))) is in
      let behind = no_place name (or_else (in_filter (unknown_in_tree from) filter) (first_in (unknown_column from) group)) all.1 in
      let last = no_place (in_filter (unknown_in_tree from) filter) (first_in (unknown_column from) group) behind.1 in
      let a = aggs_are aggs all.0 in
      let f = filter_is filter last.0 in
      let g = names_are group last.1 in
      let bad : Option ℕ = first_bad (syntax.asked aggs (named p stream) filter group (windowed length delay)) in
      let unknown_wide : Option ℕ = first_unknown wide (syntax.asked aggs (named p stream) filter group (windowed length delay)) in
      let unknown_from : Option ℕ = first_unknown from (syntax.asked aggs (named p stream) filter group (windowed length delay)) in
      let unknown : unknown_wide ≡ unknown_from =
      ap (λ (o : Option ℕ). or_else o (or_else name (or_else (in_filter (unknown_in_tree wide) filter) (first_in (unknown_column wide) group)))) a.unknown
      ∙ ap (λ (o : Option ℕ). or_else (first_in (unknown_in_agg from) aggs) (or_else name (or_else o (first_in (unknown_column wide) group)))) f.unknown
      ∙ ap (λ (o : Option ℕ). or_else (first_in (unknown_in_agg from) aggs) (or_else name (or_else (in_filter (unknown_in_tree from) filter) o))) g.unknown in
      let wrong : or_else (first_in (wrong_agg wide) aggs) (in_filter (wrong_in_tree wide) filter) ≡ or_else (first_in (wrong_agg from) aggs) (in_filter (wrong_in_tree from) filter) =
      ap (λ (o : Option ℕ). or_else o (in_filter (wrong_in_tree wide) filter)) a.wrong ∙ ap (λ (o : Option ℕ). or_else (first_in (wrong_agg from) aggs) o) f.wrong in
      let to : List Agg → Option Test → List ℕ → Asked = asked_made (length_asked length) (delay_asked delay) in
      let asks : to (map (agg_asked wide) aggs) (option_map (test_asked wide) filter) (map (column_of wide) group) ≡ to (map (agg_asked from) aggs) (option_map (test_asked from) filter) (map (column_of from) group) =
      ap (λ (l : List Agg). to l (option_map (test_asked wide) filter) (map (column_of wide) group)) a.asks
      ∙ ap (λ (t : Option Test). to (map (agg_asked from) aggs) t (map (column_of wide) group)) f.asks
      ∙ ap (λ (l : List ℕ). to (map (agg_asked from) aggs) (option_map (test_asked from) filter) l) g.asks in
      let q_wide : Asked = to (map (agg_asked wide) aggs) (option_map (test_asked wide) filter) (map (column_of wide) group) in
      ap (λ (o : Option ℕ). told bad o (or_else (first_in (wrong_agg wide) aggs) (in_filter (wrong_in_tree wide) filter)) q_wide) unknown
      ∙ ap (λ (o : Option ℕ). told bad unknown_from o q_wide) wrong
      ∙ ap (λ (q : Asked). told bad unknown_from (or_else (first_in (wrong_agg from) aggs) (in_filter (wrong_in_tree from) filter)) q) asks

  said_wide : (q : Asked) → IsSaid from q → IsSaid wide q
  said_wide q is = record {
    legal = query_legal q is.legal;
    text = is.text;
    means = record { syntax = is.means.syntax; derives = is.means.derives; means = resolved_same is.means.syntax (is_asked from is.means.syntax q is.means.means).known ∙ is.means.means };
  }

-- of a schema that grows to another
module _ (from to : Shape) (added : List Field) (grows : GrowsBy from to added) where
  pub said_stays : (q : Asked) → IsSaid from q → IsSaid to q
  said_stays q is = subst (λ (s : Shape). IsSaid s q) (wider_is from to added grows) (said_wide from added q is)

  text_stays : (q : Asked) → IsSaid from q → query_text to q ≡ query_text from q
  text_stays q is = subst (λ (s : Shape). query_text s q ≡ query_text from q) (wider_is from to added grows) (text_same from added q is.legal)

  pub texts_stay : (queries : List Asked) → All (IsSaid from) queries → texts_of to queries ≡ texts_of from queries
  texts_stay [] said = refl
  texts_stay (q ∷ queries) said =
      ap (λ (l : List ℕ). l ∷ texts_of to queries) (text_stays q (All-head (IsSaid from) q queries said)) ∙ ap (λ (l : List (List ℕ)). query_text from q ∷ l) (texts_stay queries (All-tail (IsSaid from) q queries said))
