-- How a query is printed.
use Rattle.std.specs.Prelude.{ℕ, zero, suc, ◌==◌, Bool, true, false, List, [], ◌∷◌, ◌++◌, codes, decimal, Option, Some, None, if◌then◌else◌}
use Rattle.std.specs.Fmt.{signed_decimal}
use Rattle.rg_event.specs.Shapes.{Shape}
use Rattle.rg_event.specs.declared.schema.Field.{Field}
use Rattle.rg_event.specs.declared.value.Value.{Value}
use Rattle.rg_event.specs.declared.value.Value.TheVariants.{Int, Id, Text, Flag}
use Rattle.rg_keywords.specs.Words.{func_name, op_text}
use Rattle.rg_keywords.specs.declared.func.Func.{Func}
use Rattle.rg_keywords.specs.declared.func.Func.TheVariants.{Pct}
use Rattle.rg_metric.specs.Conditions.{Test, compared, not_of, and_of, or_of}
use Rattle.rg_metric.specs.Queries.{Asked}
use Rattle.rg_metric.specs.declared.query.Agg.{Agg}
use Rattle.rg_query.specs.declared.printing.Side.{Side}
use Rattle.rg_query.specs.declared.printing.Side.TheVariants.{BesideOr, BesideAnd, BehindNot}

-- a column's name, by its number, counted from 1
abbrev pub name_at : ℕ → List Field → List ℕ
name_at n [] = []
name_at zero (field ∷ fields) = []
name_at (suc zero) (field ∷ fields) = field.name
name_at (suc (suc n)) (field ∷ fields) = name_at (suc n) fields

-- each quote twice
abbrev pub doubled : List ℕ → List ℕ
doubled [] = []
doubled (byte ∷ text) = if byte == 39 then 39 ∷ 39 ∷ doubled text else byte ∷ doubled text

-- the shortest digits, a string in single quotes with those inside doubled, or TRUE and FALSE
abbrev pub literal_text : Value → List ℕ
literal_text (Int n) = signed_decimal n
literal_text (Id n) = decimal n
literal_text (Text text) = 39 ∷ (doubled text ++ 39 ∷ [])
literal_text (Flag true) = codes "TRUE"
literal_text (Flag false) = codes "FALSE"

-- a condition behind NOT, or on the right of an AND, stands in parentheses where it is an AND or an OR
abbrev pub and_is_enclosed : Side → Bool
and_is_enclosed BesideOr = false
and_is_enclosed BesideAnd = false
and_is_enclosed BehindNot = true

-- an OR stands so in every place but alone and on the left of an OR
abbrev pub or_is_enclosed : Side → Bool
or_is_enclosed BesideOr = false
or_is_enclosed BesideAnd = true
or_is_enclosed BehindNot = true

abbrev pub opening : Bool → List ℕ
opening true = codes "("
opening false = []

abbrev pub closing : Bool → List ℕ
closing true = codes ")"
closing false = []

abbrev pub test_text : Shape → Side → Test → List ℕ
test_text shape side (compared column op literal) = name_at column shape.fields ++ (codes " " ++ (op_text op ++ (codes " " ++ literal_text literal)))
test_text shape side (not_of t) = codes "NOT " ++ test_text shape BehindNot t
test_text shape side (and_of s t) = opening (and_is_enclosed side) ++ (test_text shape BesideAnd s ++ (codes " AND " ++ (test_text shape BehindNot t ++ closing (and_is_enclosed side))))
test_text shape side (or_of s t) = opening (or_is_enclosed side) ++ (test_text shape BesideOr s ++ (codes " OR " ++ (test_text shape BesideAnd t ++ closing (or_is_enclosed side))))

-- a condition by itself
abbrev pub condition_text : Shape → Test → List ℕ
condition_text shape t = test_text shape BesideOr t

-- `count(*)`, or a function of a column
abbrev pub operand_text : Shape → ℕ → List ℕ
operand_text shape zero = codes "*"
operand_text shape (suc n) = name_at (suc n) shape.fields

-- the percent in front of a column
abbrev pub percent_text : Func → List ℕ
percent_text (Pct percent) = decimal percent ++ codes ", "
percent_text func = []

abbrev pub agg_text : Shape → Agg → List ℕ
agg_text shape agg = func_name agg.func ++ (codes "(" ++ (percent_text agg.func ++ (operand_text shape agg.field ++ codes ")")))

-- list members, parted by a comma and a space
abbrev pub more_text : {A : Type 0} → (A → List ℕ) → List A → List ℕ
more_text text [] = []
more_text text (x ∷ xs) = codes ", " ++ (text x ++ more_text text xs)

abbrev pub list_text : {A : Type 0} → (A → List ℕ) → List A → List ℕ
list_text text [] = []
list_text text (x ∷ xs) = text x ++ more_text text xs

abbrev pub where_text : Shape → Option Test → List ℕ
where_text shape None = []
where_text shape (Some t) = codes " WHERE " ++ test_text shape BesideOr t

abbrev pub group_text : Shape → List ℕ → List ℕ
group_text shape [] = []
group_text shape (column ∷ columns) = codes " GROUP BY " ++ list_text (λ n. name_at n shape.fields) (column ∷ columns)

abbrev pub length_text : Option ℕ → List ℕ
length_text None = codes "INFINITE"
length_text (Some n) = codes "SLIDING " ++ (decimal n ++ codes " ms")

abbrev pub delay_text : ℕ → List ℕ
delay_text zero = []
delay_text (suc n) = codes " DELAYED BY " ++ (decimal (suc n) ++ codes " ms")

abbrev pub query_text : Shape → Asked → List ℕ
query_text shape q =
    codes "SELECT " ++ (list_text (agg_text shape) q.aggs ++ (codes " FROM " ++ (shape.stream ++ (where_text shape q.filter
    ++ (group_text shape q.group ++ (codes " OVER " ++ (length_text q.window.length ++ delay_text q.window.delay)))))))
