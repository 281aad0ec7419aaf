-- Texts that are taken one after another.
use Rattle.std.proofs.Common.{◌≡◌, ◌∙◌, sym, refl, ap, subst, ℕ, zero, suc, ◌+◌, ◌≤◌, ◌<◌, List, [], ◌∷◌, ◌++◌, length, take, drop, map, slice_index_or, Bor, arith, ◌⊎◌, inl, inr}
use Rattle.rg_event.specs.Shapes.{Shape}
use Rattle.rg_metric.specs.Queries.{Asked, asked}
use Rattle.rg_metric.specs.declared.query.Query.{Query as Read}
use Rattle.rg_query.specs.Printing.{query_text}
use Rattle.rg_config.specs.Reading.{IsFirst}
use Rattle.rg_config.specs.declared.fault.ConfigFault.{ConfigFault}
use Rattle.rg_config.specs.declared.fault.ConfigFault.TheVariants.{Query, Memory}
use Rattle.rg_config.specs.declared.fault.QueryRefusal.{QueryRefusal}
use Rattle.rg_config.specs.Plans.{IsTaken, IsRefusedQuery, AllTaken, FirstRefused}

abbrev strings : List (Bor (List ℕ)) → List (List ℕ)
strings texts = map (λ text. text.now) texts

grown :
    (from : ℕ) (shape : Shape) (texts : List (Bor (List ℕ))) (n : ℕ) (d : Bor (List ℕ)) (qs : List Asked) (q : Asked)
    → n < length texts → AllTaken from shape (take n (strings texts)) qs → IsTaken (from + n) shape (slice_index_or texts n d).now q
    → AllTaken from shape (take (suc n) (strings texts)) (qs ++ q ∷ [])
grown from shape [] n d qs q less all is = absurd (omega arith)
grown from shape (text ∷ texts) zero d [] q less all is =
    let place : from + 0 ≡ from = omega arith in
    (subst (λ i. IsTaken i shape text.now q) place is, tt)
grown from shape (text ∷ texts) zero d (r ∷ qs) q less all is = absurd all
grown from shape (text ∷ texts) (suc n) d [] q less all is = absurd all
grown from shape (text ∷ texts) (suc n) d (r ∷ qs) q less all is =
    let place : from + suc n ≡ suc from + n = omega arith in
    (all.0, grown (suc from) shape texts n d qs q (omega arith) all.1 (subst (λ i. IsTaken i shape (slice_index_or texts n d).now q) place is))

-- one more text is taken
one_more :
    (shape : Shape) (texts : List (Bor (List ℕ))) (n : ℕ) (d : Bor (List ℕ)) (qs : List Asked) (q : Asked)
    → n < length texts → AllTaken 0 shape (take n (strings texts)) qs → IsTaken n shape (slice_index_or texts n d).now q
    → AllTaken 0 shape (take (n + 1) (strings texts)) (qs ++ q ∷ [])
one_more shape texts n d qs q less all is =
    let place : n ≡ 0 + n = omega arith in
    let next : suc n ≡ n + 1 = omega arith in
    subst (λ i. AllTaken 0 shape (take i (strings texts)) (qs ++ q ∷ [])) next
    (grown 0 shape texts n d qs q less all (subst (λ i. IsTaken i shape (slice_index_or texts n d).now q) place is))

pub one_at_the_end : {A B : Type 0} → (f : A → B) (xs : List A) (x : A) → map f (xs ++ x ∷ []) ≡ map f xs ++ f x ∷ []
one_at_the_end f [] x = refl
one_at_the_end f (y ∷ xs) x = ap (λ more. f y ∷ more) (one_at_the_end f xs x)

-- a query is pushed
pub pushed :
    (shape : Shape) (texts : List (Bor (List ℕ))) (n : ℕ) (d : Bor (List ℕ)) (old new : List Read) (query : Read)
    → n < length texts → new ≡ old ++ query ∷ [] → AllTaken 0 shape (take n (strings texts)) (map asked old)
    → IsTaken n shape (slice_index_or texts n d).now (asked query) → AllTaken 0 shape (take (n + 1) (strings texts)) (map asked new)
pushed shape texts n d old new query less is all next =
    subst (λ qs. AllTaken 0 shape (take (n + 1) (strings texts)) qs) (sym (ap (map asked) is ∙ one_at_the_end asked old query))
    (one_more shape texts n d (map asked old) (asked query) less all next)

pub printed :
    (shape : Shape) (old new : List Read) (query : Read) (texts also : List (List ℕ))
    → new ≡ old ++ query ∷ [] → also ≡ texts ++ query_text shape (asked query) ∷ [] → texts ≡ map (query_text shape) (map asked old)
    → also ≡ map (query_text shape) (map asked new)
printed shape old new query texts also is more so_far =
    more ∙ (ap (λ ts. ts ++ query_text shape (asked query) ∷ []) so_far
    ∙ (sym (one_at_the_end (query_text shape) (map asked old) (asked query))
    ∙ ap (map (query_text shape)) (sym (ap (map asked) is ∙ one_at_the_end asked old query))))

few_from :
    (from : ℕ) (shape : Shape) (texts : List (Bor (List ℕ))) (n : ℕ) (qs : List Asked) → from ≤ 64 → n ≤ length texts
    → AllTaken from shape (take n (strings texts)) qs → from + n ≤ 64
few_from from shape texts zero qs most within all = omega arith
few_from from shape [] (suc n) qs most within all = absurd (omega arith)
few_from from shape (text ∷ texts) (suc n) [] most within all = absurd all
few_from from shape (text ∷ texts) (suc n) (q ∷ qs) most within all =
    let first : from < 64 = all.0.few in
    let more : suc from + n ≤ 64 = few_from (suc from) shape texts n qs (omega (arith, first)) (omega arith) all.1 in
    omega arith

-- at most 64 texts are taken
pub few :
    (shape : Shape) (texts : List (Bor (List ℕ))) (n : ℕ) (qs : List Asked) → n ≤ length texts
    → AllTaken 0 shape (take n (strings texts)) qs → n ≤ 64
few shape texts n qs within all =
    let most : 0 + n ≤ 64 = few_from 0 shape texts n qs (omega arith) within all in
    omega arith

split :
    (texts : List (Bor (List ℕ))) (n : ℕ) (d : Bor (List ℕ)) → n < length texts
    → strings texts ≡ take n (strings texts) ++ (slice_index_or texts n d).now ∷ drop (suc n) (strings texts)
split [] n d less = absurd (omega arith)
split (text ∷ texts) zero d less = refl
split (text ∷ texts) (suc n) d less = ap (λ more. text.now ∷ more) (split texts n d (omega arith))

place : (texts : List (Bor (List ℕ))) (n : ℕ) → n < length texts → n ≡ length (take n (strings texts))
place [] n less = absurd (omega arith)
place (text ∷ texts) zero less = refl
place (text ∷ texts) (suc n) less = ap suc (place texts n (omega arith))

-- the next text is the first that isn't taken
first :
    (shape : Shape) (texts : List (Bor (List ℕ))) (n : ℕ) (d : Bor (List ℕ)) (qs : List Asked) (refusal : QueryRefusal)
    → n < length texts → AllTaken 0 shape (take n (strings texts)) qs → IsRefusedQuery n shape (slice_index_or texts n d).now refusal
    → FirstRefused shape (strings texts) n refusal
first shape texts n d qs refusal less all refused = record {
  front = take n (strings texts);
  text = (slice_index_or texts n d).now;
  rest = drop (suc n) (strings texts);
  split = split texts n d less;
  queries = qs;
  taken = all;
  place = place texts n less;
  refused = refused;
}

-- its refusal is the answer
pub refusal :
    (shape : Shape) (texts : List (Bor (List ℕ))) (n : ℕ) (d : Bor (List ℕ)) (qs : List Asked) (fault : ConfigFault)
    → n < length texts → AllTaken 0 shape (take n (strings texts)) qs
    → ((cause : QueryRefusal) × (fault ≡ Query n cause) × IsRefusedQuery n shape (slice_index_or texts n d).now cause) ⊎ (fault ≡ Memory)
    → IsFirst shape (strings texts) fault ⊎ (fault ≡ Memory)
refusal shape texts n d qs fault less all (inl (cause, is, refused)) =
    inl (record { number = n; refusal = cause; is = is; first = first shape texts n d qs cause less all refused })
refusal shape texts n d qs fault less all (inr memory) = inr memory

all_there : (texts : List (Bor (List ℕ))) (n : ℕ) → length texts ≤ n → take n (strings texts) ≡ strings texts
all_there [] zero past = refl
all_there [] (suc n) past = refl
all_there (text ∷ texts) zero past = absurd (omega arith)
all_there (text ∷ texts) (suc n) past = ap (λ more. text.now ∷ more) (all_there texts n (omega arith))

-- no text is left
pub whole :
    (shape : Shape) (texts : List (Bor (List ℕ))) (n : ℕ) (qs : List Asked) → length texts ≤ n
    → AllTaken 0 shape (take n (strings texts)) qs → AllTaken 0 shape (strings texts) qs
whole shape texts n qs past all = subst (λ ts. AllTaken 0 shape ts qs) (all_there texts n past) all
