-- When the parts of queries are equal.
use Rattle.std.specs.Prelude.{◌&&◌, Bool, true, false, nat_eq, Option, Some, None}
use Rattle.rg_keywords.specs.declared.op.Op.{Op}
use Rattle.rg_keywords.specs.declared.op.Op.TheVariants.{Eq, Ne, Lt, Le, Gt, Ge}
use Rattle.rg_metric.specs.Conditions.{Test, compared, not_of, and_of, or_of}
use Rattle.rg_metric.specs.Same.{same_value}

abbrev pub same_op : Op → Op → Bool
same_op Eq Eq = true
same_op Ne Ne = true
same_op Lt Lt = true
same_op Le Le = true
same_op Gt Gt = true
same_op Ge Ge = true
same_op o p = false

-- two conditions are equal trees
abbrev pub same_test : Test → Test → Bool
same_test (compared c o v) (compared d p w) = nat_eq c d && (same_op o p && same_value v w)
same_test (not_of s) (not_of t) = same_test s t
same_test (and_of a b) (and_of c d) = same_test a c && same_test b d
same_test (or_of a b) (or_of c d) = same_test a c && same_test b d
same_test s t = false

-- both have no condition, or equal ones
abbrev pub same_condition : Option Test → Option Test → Bool
same_condition None None = true
same_condition (Some s) (Some t) = same_test s t
same_condition s t = false
