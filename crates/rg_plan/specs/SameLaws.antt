-- The tests of `Same` say exactly whether two parts are equal.
use Rattle.std.specs.Prelude.{◌≡◌, ℕ, true, Option, Some, None, refl, IsTrue}
use Rattle.std.proofs.Common.{ap, subst}
use Rattle.std.specs.Bool.{Decides}
use Rattle.std.proofs.lemmas.Bool.{and_parts, and_from}
use Rattle.std.proofs.lemmas.Bool.Decides.{Decides-eqb}
use Rattle.std.proofs.lemmas.Slice.Eq.{bytes_eq-Decides}
use Rattle.std.specs.Cmp.{IsEquivalence, decided, and_equiv, on_equiv, nat_eq_equiv}
use Rattle.std.specs.Cmp.Lexicographic.{nat_list_eq_equiv}
use Rattle.rg_keywords.specs.declared.op.Op.{Op}
use Rattle.rg_keywords.specs.declared.op.Op.TheVariants.{Eq, Ne, Lt, Le, Gt, Ge}
use Rattle.rg_event.specs.declared.value.Value.{Value}
use Rattle.rg_metric.specs.Conditions.{Test, compared, not_of, and_of, or_of}
use Rattle.rg_metric.proofs.Laws.{same_value-true, same_value-same}
use Rattle.rg_metric.specs.Queries.{filter_test}
use Rattle.rg_plan.specs.Same.{same_op, same_test, same_condition}
use Rattle.rg_plan.specs.declared.node.FilterNode.{FilterNode}
use Rattle.rg_plan.specs.declared.node.GroupNode.{GroupNode}
use Rattle.rg_plan.specs.Nodes.{Filtered, filtered, same_filter, same_group}
use Rattle.rg_plan.specs.Fed.{filter_fed, group_fed}

same_op-true : (o p : Op) → same_op o p ≡ true → o ≡ p
same_op-true Eq Eq e = refl
same_op-true Ne Ne e = refl
same_op-true Lt Lt e = refl
same_op-true Le Le e = refl
same_op-true Gt Gt e = refl
same_op-true Ge Ge e = refl
same_op-true o p e = cc

same_op-same : (o : Op) → same_op o o ≡ true
same_op-same Eq = refl
same_op-same Ne = refl
same_op-same Lt = refl
same_op-same Le = refl
same_op-same Gt = refl
same_op-same Ge = refl

comparison : ℕ → Op → Value → Test
comparison c o v = compared c o v

compared_at : (c d : ℕ) (o p : Op) (v w : Value) → c ≡ d → o ≡ p → v ≡ w → compared c o v ≡ compared d p w
compared_at c d o p v w e f g = λ i. compared (e i) (f i) (g i)

both_at : (f : Test → Test → Test) (a b c d : Test) → a ≡ c → b ≡ d → f a b ≡ f c d
both_at f a b c d e g = λ i. f (e i) (g i)

pub same_test-true : (s t : Test) → same_test s t ≡ true → s ≡ t
same_test-true (compared c o v) (compared d p w) e =
    let (column, rest) = and_parts _ _ e in
    let (op, value) = and_parts _ _ rest in
    compared_at c d o p v w ((Decides-eqb c d).0 column) (same_op-true o p op) (same_value-true v w value)
same_test-true (not_of s) (not_of t) e = ap not_of (same_test-true s t e)
same_test-true (and_of a b) (and_of c d) e =
    let (left, right) = and_parts _ _ e in both_at and_of a b c d (same_test-true a c left) (same_test-true b d right)
same_test-true (or_of a b) (or_of c d) e =
    let (left, right) = and_parts _ _ e in both_at or_of a b c d (same_test-true a c left) (same_test-true b d right)
same_test-true s t e = cc

pub same_test-same : (t : Test) → same_test t t ≡ true
same_test-same (compared c o v) = and_from _ _ ((Decides-eqb c c).1 refl) (and_from _ _ (same_op-same o) (same_value-same v))
same_test-same (not_of t) = same_test-same t
same_test-same (and_of a b) = and_from _ _ (same_test-same a) (same_test-same b)
same_test-same (or_of a b) = and_from _ _ (same_test-same a) (same_test-same b)

pub same_condition-true : (s t : Option Test) → same_condition s t ≡ true → s ≡ t
same_condition-true None None e = refl
same_condition-true (Some s) (Some t) e = ap Some (same_test-true s t e)
same_condition-true s t e = cc

pub same_condition-same : (t : Option Test) → same_condition t t ≡ true
same_condition-same None = refl
same_condition-same (Some t) = same_test-same t

pub same_condition_decides : (s t : Option Test) → Decides (same_condition s t) (s ≡ t)
same_condition_decides s t = (same_condition-true s t, λ e. subst (λ u. same_condition s u ≡ true) e (same_condition-same s))

pub same_condition_equiv : IsEquivalence same_condition
same_condition_equiv = decided same_condition same_condition_decides

-- the tests of nodes are equivalences
pub filter_equiv : IsEquivalence (λ (a b : FilterNode). same_filter (filtered a) (filtered b))
filter_equiv = and_equiv (on_equiv (λ (n : FilterNode). n.window) nat_eq_equiv) (on_equiv (λ (n : FilterNode). filter_test n.condition) same_condition_equiv)

pub group_equiv : IsEquivalence same_group
group_equiv = and_equiv (on_equiv (λ (n : GroupNode). n.filter) nat_eq_equiv) (on_equiv (λ (n : GroupNode). n.columns) nat_list_eq_equiv)

pub same_filter-true : (a b : Filtered) → same_filter a b ≡ true → a ≡ b
same_filter-true a b e =
    let (window, condition) = and_parts _ _ e in
    let w = (Decides-eqb a.window b.window).0 window in
    let c = same_condition-true a.condition b.condition condition in
    λ i. record { window = w i; condition = c i }

pub same_group-true : (a b : GroupNode) → same_group a b ≡ true → a ≡ b
same_group-true a b e =
    let (filter, columns) = and_parts _ _ e in
    let f = (Decides-eqb a.filter b.filter).0 filter in
    let c = (bytes_eq-Decides a.columns b.columns).0 columns in
    λ i. record { filter = f i; columns = c i }

-- equal nodes feed a hasher alike
pub filters_feed_alike : (a b : FilterNode) → IsTrue (same_filter (filtered a) (filtered b)) → filter_fed (filtered a) ≡ filter_fed (filtered b)
filters_feed_alike a b e = ap filter_fed (same_filter-true (filtered a) (filtered b) e)

pub groups_feed_alike : (a b : GroupNode) → IsTrue (same_group a b) → group_fed a ≡ group_fed b
groups_feed_alike a b e = ap group_fed (same_group-true a b e)
