use Rattle.std.proofs.Common.{◌≡◌, ◌<◌, ◌++◌, ◌∷◌, [], length, sym, ◌∙◌, ap, append_assoc, arith, rules}
use Rattle.std.proofs.lemmas.List.{length_push}
use Rattle.rg_column.proofs.Transposed.{widened_none, widened_many, widened_more, more_values}
use Rattle.rg_column.proofs.rows.widen.Goals as goal

pub loop-value-init : goal.loop-value-init
loop-value-init c = record {
  can_next = tt;
  is_finite = tt;
  counted = search rules;
  all = search rules;
  here = sym (widened_none c.args.events.now.items);
}

pub index_mut-requires : goal.index_mut-requires
index_mut-requires c =
    let inv = c.loop-value.invariant in
    let all : c.args.values.items ≡ c.loop-value.yielded ++ c.in-Some.value ∷ c.next.new.self.rest.items = inv.all ∙ ap (λ xs. c.loop-value.yielded ++ xs) c.in-Some.ensures.steps.0 in
    let more : length c.loop-value.yielded < length c.args.values.items = more_values c.args.values.items c.loop-value.yielded c.next.new.self.rest.items c.in-Some.value all in
    let many : length c.loop-value.events.items ≡ length c.args.events.now.items = ap (λ events. length events) inv.here ∙ widened_many c.args.events.now.items c.loop-value.yielded in
    omega (arith, more, many, inv.counted, c.requires, c.loop-value.events.ok.0)

pub loop-value-preserved : goal.loop-value-preserved
loop-value-preserved c =
    let inv = c.loop-value.invariant in
    let value = c.in-Some.value in
    let all : c.args.values.items ≡ c.loop-value.yielded ++ value ∷ c.next.new.self.rest.items = inv.all ∙ ap (λ xs. c.loop-value.yielded ++ xs) c.in-Some.ensures.steps.0 in
    let more : length c.loop-value.yielded < length c.args.values.items = more_values c.args.values.items c.loop-value.yielded c.next.new.self.rest.items value all in
    let put : c.push.new.self ≡ c.index_mut.result.now.values ++ value ∷ [] = c.in_ok-push.ensures.ok in
    record {
      can_next = tt;
      is_finite = tt;
      counted = omega (arith, inv.counted, length_push c.loop-value.yielded value);
      all = all ∙ sym (append_assoc c.loop-value.yielded (value ∷ []) c.next.new.self.rest.items);
      here = widened_more c.args.events.now.items c.loop-value.events.items c.loop-value.yielded c.loop-value.index c.index_mut.result.now (record { offset = c.index_mut.result.now.offset; time = c.index_mut.result.now.time; values = c.push.new.self }) value
          inv.here inv.counted (omega (arith, more, inv.counted, c.requires)) (search rules) (λ j. record { offset = c.index_mut.result.now.offset; time = c.index_mut.result.now.time; values = put j });
    }
