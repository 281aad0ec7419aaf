-- Lists of items, as they are read one at a time.
use Rattle.std.proofs.Common.{◌≡◌, ◌⊎◌, inl, inr, ℕ, suc, ◌+◌, ◌-◌, ◌<◌, List, [], ◌∷◌, ◌++◌, length, Ok, Err, refl, ap, sym, ◌∙◌, arith, append_assoc, append-nil, length-append}
use Rattle.std.specs.List.{All}
use Rattle.std.proofs.lemmas.List.Elements.{All-append, All-cons, All-nil}
use Rattle.rg_bytes.specs.Reading.{Reading, more_at, list_bytes}

more_step : {F A : Type 0} (item_at : List A → List ℕ → Reading F A) (so_far : List A) (n m : ℕ) (old : List ℕ) (item : A) (left : List ℕ) → n ≡ suc m → item_at so_far old ≡ Ok (item, left)
    → more_at item_at so_far n old ≡ more_at item_at (so_far ++ item ∷ []) m left
more_step item_at so_far n m old item left count is = rw (count, is) refl

-- one turn of reading
pub step_to_come : {F A : Type 0} (item_at : List A → List ℕ → Reading F A) (old new : List A) (item : A) (count done : ℕ) (start from left : List ℕ) → new ≡ old ++ item ∷ [] → done < count
    → more_at item_at [] count start ≡ more_at item_at old (count - done) from → item_at old from ≡ Ok (item, left) → more_at item_at [] count start ≡ more_at item_at new (count - (done + 1)) left
step_to_come item_at old new item count done start from left pushed below so_far next =
    so_far ∙ more_step item_at old (count - done) (count - (done + 1)) from item left (omega (arith, below)) next ∙ ap (λ items. more_at item_at items (count - (done + 1)) left) (sym pushed)

-- a reading that stops
pub step_stops : {F A : Type 0} (memory : F) (item_at : List A → List ℕ → Reading F A) (so_far : List A) (count done : ℕ) (start from : List ℕ) (fault : F) → done < count
    → more_at item_at [] count start ≡ more_at item_at so_far (count - done) from → (item_at so_far from ≡ Err fault) ⊎ (fault ≡ memory) → (more_at item_at [] count start ≡ Err fault) ⊎ (fault ≡ memory)
step_stops memory item_at so_far count done start from fault below to_come (inl is) =
    let count_is : count - done ≡ suc (count - (done + 1)) = omega (arith, below) in
    inl (to_come ∙ rw (count_is, is) refl)
step_stops memory item_at so_far count done start from fault below to_come (inr ran_out) = inr ran_out

pub list_bytes-more : {A : Type 0} (item_bytes : A → List ℕ) (items : List A) (item : A) → list_bytes item_bytes (items ++ item ∷ []) ≡ list_bytes item_bytes items ++ item_bytes item
list_bytes-more item_bytes [] item = append-nil (item_bytes item)
list_bytes-more item_bytes (first ∷ items) item = ap (λ bytes. item_bytes first ++ bytes) (list_bytes-more item_bytes items item) ∙ sym (append_assoc (item_bytes first) (list_bytes item_bytes items) (item_bytes item))

-- what has been taken is the bytes of the items
pub step_taken : {A : Type 0} (item_bytes : A → List ℕ) (old new : List A) (item : A) (start from left : List ℕ) → new ≡ old ++ item ∷ [] → start ≡ list_bytes item_bytes old ++ from → from ≡ item_bytes item ++ left
    → start ≡ list_bytes item_bytes new ++ left
step_taken item_bytes old new item start from left pushed so_far stood =
    rw (so_far, stood, pushed, list_bytes-more item_bytes old item, append_assoc (list_bytes item_bytes old) (item_bytes item) left) refl

pub step_legal : {A : Type 0} (P : A → Type 0) (old new : List A) (item : A) → new ≡ old ++ item ∷ [] → All P old → P item → All P new
step_legal P old new item pushed all legal = rw pushed (All-append P old (item ∷ []) all (All-cons P item [] legal (All-nil P)))

pub step_counted : {A : Type 0} (old new : List A) (item : A) (done : ℕ) → new ≡ old ++ item ∷ [] → length old ≡ done → length new ≡ done + 1
step_counted old new item done pushed counted = rw pushed (omega (arith, length-append old (item ∷ []), counted))

-- each of these is read back behind those before it
abbrev pub StepsBack : {F A : Type 0} → (List A → List ℕ → Reading F A) → (A → List ℕ) → List A → List A → Type 0
StepsBack item_at item_bytes so_far [] = Unit {0}
StepsBack item_at item_bytes so_far (item ∷ items) = ((rest : List ℕ) → item_at so_far (item_bytes item ++ rest) ≡ Ok (item, rest)) × StepsBack item_at item_bytes (so_far ++ item ∷ []) items

pub more_back : {F A : Type 0} (item_at : List A → List ℕ → Reading F A) (item_bytes : A → List ℕ) (so_far items : List A) (rest : List ℕ) → StepsBack item_at item_bytes so_far items
    → more_at item_at so_far (length items) (list_bytes item_bytes items ++ rest) ≡ Ok (so_far ++ items, rest)
more_back item_at item_bytes so_far [] rest steps = ap (λ items. Ok (items, rest)) (sym (append-nil so_far))
more_back item_at item_bytes so_far (item ∷ items) rest steps =
    let stood : list_bytes item_bytes (item ∷ items) ++ rest ≡ item_bytes item ++ (list_bytes item_bytes items ++ rest) = append_assoc (item_bytes item) (list_bytes item_bytes items) rest in
    rw (stood, steps.0 (list_bytes item_bytes items ++ rest)) (more_back item_at item_bytes (so_far ++ item ∷ []) items rest steps.1 ∙ ap (λ (all : _). Ok (all, rest)) (append_assoc so_far (item ∷ []) items))
