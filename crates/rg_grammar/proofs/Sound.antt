-- What is read is in the grammar.
use Rattle.std.proofs.Common.{◌≡◌, ℕ, List, [], ◌∷◌, Option, Some, None, refl, ap, ◌∙◌, subst}
use Rattle.rg_grammar.specs.Grammar.{Found, Token, SpanTree, span_of, window, maybe_span, query, Query, IsSpan, IsMaybeSpan}
use Rattle.rg_grammar.specs.Machine.{at_start, Step, goes, no_query, too_deep, step, with_window, read, finish, after_step, run}
use Rattle.rg_grammar.proofs.Stages.{Grown, Keyed, keyed, Stage, s_start, s_after_window, s_end, grouped_of, state, so_far, Legal_keyed, Legal}
use Rattle.rg_grammar.proofs.Grows.{grow}

found_window : (deep : ℕ) (k : Keyed) (length : Option SpanTree) (q : Query) → Legal_keyed deep k → IsMaybeSpan length →
    read (with_window (grouped_of k) (maybe_span length) None) ≡ read q → Found deep (so_far (s_after_window k length) []) q
found_window deep (keyed xs n o ns) length q l h e = record { tree = query xs n o ns (window length None); legal = (l.0, (h, tt)); spelled = refl; means = cc; within = l.1 }

found_end : (deep : ℕ) (k : Keyed) (length : Option SpanTree) (delay : SpanTree) (q : Query) → Legal_keyed deep k → IsMaybeSpan length → IsSpan delay →
    read (with_window (grouped_of k) (maybe_span length) (Some (span_of delay))) ≡ read q → Found deep (so_far (s_end k length delay) []) q
found_end deep (keyed xs n o ns) length delay q l h g e = record { tree = query xs n o ns (window length (Some delay)); legal = (l.0, (h, g)); spelled = refl; means = cc; within = l.1 }

finished : (deep : ℕ) (c : Stage) (q : Query) → Legal deep c → finish (state c) ≡ read q → Found deep (so_far c []) q
finished deep (s_after_window k length) q l e = found_window deep k length q l.0 l.1 e
finished deep (s_end k length delay) q l e = found_end deep k length delay q l.0 l.1 l.2 e
finished deep _ q l e = absurd (cc)

found_step : (deep : ℕ) (c : Stage) (t : Token) (ts : List Token) (q : Query) (x : Step) → Legal deep c → step deep (state c) t ≡ x →
    ((c' : Stage) → Legal deep c' → run deep (state c') ts ≡ read q → Found deep (so_far c' ts) q) →
    after_step x (t ∷ ts) (λ s'. run deep s' ts) ≡ read q → Found deep (so_far c (t ∷ ts)) q
found_step deep c t ts q (goes s) l x ih e =
    let g : Grown deep c t s = grow deep c t s l x in
    subst (λ (us : List Token). Found deep us q) (g.then_rest ts) (ih g.stage g.legal (ap (λ s'. run deep s' ts) g.is ∙ e))
found_step deep c t ts q no_query l x ih e = absurd (cc)
found_step deep c t ts q too_deep l x ih e = absurd (cc)

sound_from : (deep : ℕ) (ts : List Token) (c : Stage) (q : Query) → Legal deep c → run deep (state c) ts ≡ read q → Found deep (so_far c ts) q
sound_from deep [] c q l e = finished deep c q l e
sound_from deep (t ∷ ts) c q l e = found_step deep c t ts q (step deep (state c) t) l refl (λ c' l' e'. sound_from deep ts c' q l' e') e

pub sound : (deep : ℕ) (ts : List Token) (q : Query) → run deep at_start ts ≡ read q → Found deep ts q
sound deep ts q e = sound_from deep ts s_start q tt e
