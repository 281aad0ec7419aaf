-- How puts join.
use Rattle.std.proofs.Common.{◌≡◌, ℕ, ◌≤◌, ◌-◌, List, [], ◌++◌, length, take, drop, Option, Some, None, Result, Ok, Err, refl, sym, ◌∙◌, ap, arith, append_assoc, take-append-drop, length-drop}
use Rattle.std.proofs.lemmas.List.{append-nil, take_all}
use Rattle.std.specs.Option.{ForSome}
use Rattle.rg_bytes.specs.Known.{after}
use Rattle.rg_host.specs.Moments.{Moment}
use Rattle.rg_host.specs.Puts.{IsPrefix, IsPartWay, Puts, put_of}
use Rattle.rg_host.proofs.Runs.{moments-none, moments_then}

after-nil : (a : Option (List ℕ)) → after a [] ≡ a
after-nil (Some told) = ap (λ v. Some v) (append-nil told)
after-nil None = refl

after-after : (a : Option (List ℕ)) (x y : List ℕ) → after (after a x) y ≡ after a (x ++ y)
after-after (Some told) x y = ap (λ v. Some v) (append_assoc told x y)
after-after None x y = refl

told_after : (a : Option (List ℕ)) (x s : List ℕ) → a ≡ Some s → after a x ≡ Some (s ++ x)
told_after a x s is = ap (λ v. after v x) is

prefix_of_first : (part x y : List ℕ) → IsPrefix part x → IsPrefix part (x ++ y)
prefix_of_first part x y prefix = (prefix.0 ++ y, sym (append_assoc part prefix.0 y) ∙ ap (λ v. v ++ y) prefix.1)

prefix_of_second : (part x y : List ℕ) → IsPrefix part y → IsPrefix (x ++ part) (x ++ y)
prefix_of_second part x y prefix = (prefix.0, append_assoc x part prefix.0 ∙ ap (λ v. x ++ v) prefix.1)

part_way_first : (s x y now : List ℕ) → IsPartWay s x now → IsPartWay s (x ++ y) now
part_way_first s x y now way = (way.0, prefix_of_first way.0 x y way.1, way.2)

part_way_second : (s x y now : List ℕ) → IsPartWay (s ++ x) y now → IsPartWay s (x ++ y) now
part_way_second s x y now way = (x ++ way.0, prefix_of_second way.0 x y way.1, way.2 ∙ append_assoc s x way.0)

module _ {H : Type 0} (said : H → Option (List ℕ)) (clock : H → ℕ) (since : H → ℕ → Moment → Type 0) where
  -- before anything is put
  pub puts-nothing : {May : Moment → Type 0} (host : H) → ((t u : ℕ) (m : Moment) → t ≤ u → since host u m → since host t m) → ((m : Moment) → since host (clock host) m → May m × ForSome (said host) (λ s. m.said ≡ s)) → Puts said clock since host host []
  puts-nothing host sinks only = record {
    grows = sym (after-nil (said host));
    moments = moments-none clock since host _ sinks (λ m now s is. ([], ([], refl), (only m now).1 s is ∙ sym (append-nil s)));
  }

  -- one put after another
  pub puts-then : (old mid new : H) (x y : List ℕ) → Puts said clock since old mid x → Puts said clock since mid new y → Puts said clock since old new (x ++ y)
  puts-then old mid new x y first second = record {
    grows = second.grows ∙ ap (λ v. after v y) first.grows ∙ after-after (said old) x y;
    moments = moments_then clock since old mid new _ _ _ first.moments second.moments
        (λ m has s is. part_way_first s x y m.said (has s is))
        (λ m has s is. part_way_second s x y m.said (has (s ++ x) (first.grows ∙ told_after (said old) x s is)));
  }

put_of-part : {E : Type 0} (result : Result ℕ E) (bytes : List ℕ) → IsPrefix (put_of result bytes) bytes
put_of-part (Ok n) bytes = (drop n bytes, take-append-drop n bytes)
put_of-part (Err e) bytes = (bytes, refl)

-- what a `put` of the rest appends goes on from a prefix
pub put_of-prefix : {E : Type 0} (result : Result ℕ E) (rest part bytes : List ℕ) → part ++ rest ≡ bytes → IsPrefix (part ++ put_of result rest) bytes
put_of-prefix result rest part bytes is =
    let prefix = prefix_of_second (put_of result rest) part rest (put_of-part result rest) in
    (prefix.0, prefix.1 ∙ is)

-- what is left after n bytes more
pub rest-more : (part rest bytes : List ℕ) (n : ℕ) → part ++ rest ≡ bytes → (part ++ take n rest) ++ take (length rest - n) (drop n rest) ≡ bytes
rest-more part rest bytes n is =
    append_assoc part (take n rest) (take (length rest - n) (drop n rest))
    ∙ ap (λ (l : List ℕ). part ++ (take n rest ++ l)) (take_all (length rest - n) (drop n rest) (omega (arith, length-drop n rest)))
    ∙ ap (λ (l : List ℕ). part ++ l) (take-append-drop n rest) ∙ is
