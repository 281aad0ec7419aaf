use Rattle.std.proofs.Common.{◌≡◌, ◌&&◌, true, ap, sym, ◌∙◌, rules}
use Rattle.std.specs.Ordering.{is_lt}
use Rattle.rg_event.specs.declared.value.Kind.TheVariants.{Int}
use Rattle.rg_multiset.specs.Pairs.{pairs_by}
use Rattle.rg_multiset.specs.Reading.{same_kind}
use Rattle.rg_multiset.proofs.Kept.{some_kind, last_is, both_tests, first_test, kinds_same}
use Rattle.rg_multiset.proofs.map.is_behind.Goals as goal

pub returns-then-is_same : goal.returns-then-is_same
returns-then-is_same g c =
    let f = g.K.Ranked.value_of in
    let legal = g.K.Ranked.legal in
    let below = g.K.Ranked.below in
    let entries = c.args.map.now.entries in
    let last = c.in-Some.last.now in
    let key = c.args.key.now in
    let kind = some_kind legal (pairs_by f entries) Int c.requires.alike in
    let is = last_is f legal kind.0 entries last c.in-Some.field-0-1.now kind.1 c.in-Some.ensures.last in
    let like : c.is_same.result ≡ same_kind (f last) (f key) = search rules in
    let same : same_kind (f last) (f key) ≡ true = sym like ∙ c.if-is_same.true in
    let less : c.is_lt.result ≡ below (f last) (f key) = c.is_lt.ensures ∙ ap is_lt c.cmp.ensures ∙ sym (g.met.K.Ranked.orders last key is.1 c.requires.legal (kinds_same (f last) (f key) same)) in
    sym (both_tests below _ (f last) (f key) c.is_same.result c.is_lt.result is.0 like less ∙ ap (λ b. b && c.is_lt.result) c.if-is_same.true)

pub returns-else-is_same : goal.returns-else-is_same
returns-else-is_same g c =
    let f = g.K.Ranked.value_of in
    let legal = g.K.Ranked.legal in
    let entries = c.args.map.now.entries in
    let last = c.in-Some.last.now in
    let kind = some_kind legal (pairs_by f entries) Int c.requires.alike in
    let is = last_is f legal kind.0 entries last c.in-Some.field-0-1.now kind.1 c.in-Some.ensures.last in
    let like : c.is_same.result ≡ same_kind (f last) (f c.args.key.now) = search rules in
    c.if-is_same.false ∙ sym (first_test g.K.Ranked.below _ (f last) (f c.args.key.now) c.is_same.result is.0 like c.if-is_same.false)
