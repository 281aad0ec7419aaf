-- The growth that defaults make.
use Rattle.std.proofs.Common.{◌≡◌, ◌∙◌, ◌+◌, ◌<◌, ◌≤◌, ℕ, zero, suc, Bool, true, false, List, [], ◌∷◌, ◌++◌, length, get_or, drop, Option, Some, None, option_map, option_and_then, refl, sym, ap, subst, append_assoc, append-nil, arith, length-append}
use Rattle.std.specs.Prelude.{if◌then◌else◌}
use Rattle.std.proofs.lemmas.Bool.{and_left, and_right, le-ltb}
use Rattle.std.proofs.lemmas.List.{at_drop_more, at_drop_all}
use Rattle.rg_event.specs.Codec.{AreValuesOf, IsValueOf}
use Rattle.rg_event.specs.Shapes.{Shape, IsSchema}
use Rattle.rg_event.specs.declared.schema.Field.{Field}
use Rattle.rg_event.specs.declared.value.Value.{Value}
use Rattle.rg_growth.specs.Filling.{Given, IsFilled, all_given, filled, growth_to}
use Rattle.rg_growth.specs.Growing.{AreDefaultsOf, Grows, grows, further, no_defaults}
use Rattle.rg_growth.proofs.Grown.{grown, grows_by}

-- defaults of columns

none_of : (fields : List Field) → AreDefaultsOf fields (no_defaults fields)
none_of [] = tt
none_of (field ∷ fields) = (tt, none_of fields)

pub none_end : (fields : List Field) (i : ℕ) (defaults : Given) → length fields ≤ i → defaults ++ no_defaults (drop i fields) ≡ no_defaults fields → defaults ≡ no_defaults fields
none_end fields i defaults end so_far = sym (append-nil defaults) ∙ ap (λ (more : Given). defaults ++ more) (sym (at_drop_all no_defaults fields i end)) ∙ so_far

pub none_are : (fields : List Field) (defaults : Given) → defaults ≡ no_defaults fields → AreDefaultsOf fields defaults
none_are fields defaults is = subst (AreDefaultsOf fields) (sym is) (none_of fields)

defaults-length : (fields : List Field) (defaults : Given) → AreDefaultsOf fields defaults → length defaults ≡ length fields
defaults-length [] [] are = refl
defaults-length [] (default ∷ defaults) are = absurd are
defaults-length (field ∷ fields) [] are = absurd are
defaults-length (field ∷ fields) (default ∷ defaults) are = ap suc (defaults-length fields defaults are.1)

pub defaults-drop : (n : ℕ) (fields : List Field) (defaults : Given) → AreDefaultsOf fields defaults → AreDefaultsOf (drop n fields) (drop n defaults)
defaults-drop zero fields defaults are = are
defaults-drop (suc n) [] [] are = tt
defaults-drop (suc n) [] (default ∷ defaults) are = absurd are
defaults-drop (suc n) (field ∷ fields) [] are = absurd are
defaults-drop (suc n) (field ∷ fields) (default ∷ defaults) are = defaults-drop n fields defaults are.1

-- where all are there, they are values of the columns

first_given :
    (field : Field) (fields : List Field) (value : Value) (more : Option (List Value)) (values : List Value) → IsValueOf field.kind value → ((rest : List Value) → more ≡ Some rest → AreValuesOf fields rest)
    → option_map (λ (rest : List Value). value ∷ rest) more ≡ Some values → AreValuesOf (field ∷ fields) values
first_given field fields value None values of rest is = absurd cc
first_given field fields value (Some more) values of rest is = let same : value ∷ more ≡ values = cc in subst (AreValuesOf (field ∷ fields)) same (of, rest more refl)

pub given_of : (fields : List Field) (defaults : Given) (values : List Value) → AreDefaultsOf fields defaults → all_given defaults ≡ Some values → AreValuesOf fields values
given_of [] [] values are is = let none : [] ≡ values = cc in subst (AreValuesOf []) none tt
given_of [] (default ∷ defaults) values are is = absurd are
given_of (field ∷ fields) [] values are is = absurd are
given_of (field ∷ fields) (None ∷ defaults) values are is = absurd cc
given_of (field ∷ fields) (Some value ∷ defaults) values are is = first_given field fields value (all_given defaults) values are.0 (λ rest more. given_of fields defaults rest are.1 more) is

-- all of these, one after another

-- those that are given are put behind these values
abbrev pub behind : List Value → Option (List Value) → Option (List Value)
behind values more = option_map (λ (rest : List Value). values ++ rest) more

behind_first : (values : List Value) (value : Value) (more : Option (List Value)) → behind values (option_map (λ (rest : List Value). value ∷ rest) more) ≡ behind (values ++ value ∷ []) more
behind_first values value None = refl
behind_first values value (Some rest) = ap (λ (all : List Value). Some all) (sym (append_assoc values (value ∷ []) rest))

behind_none : (more : Option (List Value)) → more ≡ behind [] more
behind_none None = refl
behind_none (Some rest) = refl

pub given_start : (defaults : Given) (values : List Value) → values ≡ [] → all_given defaults ≡ behind values (all_given defaults)
given_start defaults values none = rw none (behind_none (all_given defaults))

module _ (defaults : Given) (i : ℕ) (default : Option Value) (within : i < length defaults) (here : default ≡ get_or defaults i default) where
  parted : (said : Option Value) → default ≡ said → all_given (drop i defaults) ≡ all_given (said ∷ drop (i + 1) defaults)
  parted said is = at_drop_more all_given defaults i default within ∙ ap (λ (d : Option Value). all_given (d ∷ drop (i + 1) defaults)) (sym here ∙ is)

  pub given_more : (old new : List Value) (value : Value) → default ≡ Some value → new ≡ old ++ value ∷ [] → all_given defaults ≡ behind old (all_given (drop i defaults)) → all_given defaults ≡ behind new (all_given (drop (i + 1) defaults))
  given_more old new value is pushed so_far =
      let rest = all_given (drop (i + 1) defaults) in
      so_far ∙ (ap (behind old) (parted (Some value) is) ∙ (behind_first old value rest ∙ ap (λ (all : List Value). behind all rest) (sym pushed)))

  pub given_stop : (values : List Value) → default ≡ None → all_given defaults ≡ behind values (all_given (drop i defaults)) → None ≡ all_given defaults
  given_stop values is so_far = sym (so_far ∙ ap (behind values) (parted None is))

pub given_end : (defaults : Given) (i : ℕ) (values : List Value) → length defaults ≤ i → all_given defaults ≡ behind values (all_given (drop i defaults)) → Some values ≡ all_given defaults
given_end defaults i values end so_far = sym (so_far ∙ (ap (behind values) (at_drop_all all_given defaults i end) ∙ ap (λ (all : List Value). Some all) (append-nil values)))

-- the growth, by whether there is one

-- the defaults of the columns that the first schema lacks, where this test of growing says so
abbrev where_grows : Bool → Shape → Shape → Given → Option (List Value)
where_grows test from to defaults = option_and_then (λ (shape : Shape). all_given (drop (length from.fields) defaults)) (if test then Some to else None)

not_grown : (from to : Shape) (defaults : Given) → grows from to ≡ false → None ≡ filled from to defaults
not_grown from to defaults not_so = sym (ap (λ (test : Bool). where_grows test from to defaults) not_so)

-- a schema doesn't grow to itself
pub not_itself : (shape : Shape) (defaults : Given) → filled shape shape defaults ≡ None
not_itself shape defaults = sym (not_grown shape shape defaults (and_right _ _ (and_right _ _ (and_left _ _ (le-ltb (length shape.fields) (length shape.fields) (omega arith))))))

pub filled_growth : (from to : Shape) (defaults : Given) (values : List Value) → IsSchema to → AreDefaultsOf to.fields defaults → filled from to defaults ≡ Some values → IsFilled from to defaults values
filled_growth from to defaults values legal are is = by (grows from to) refl is
  where
    by : (test : Bool) → grows from to ≡ test → where_grows test from to defaults ≡ Some values → IsFilled from to defaults values
    by false not_so said = absurd (let e : None ≡ Some values = said in cc)
    by true so said =
        let own = length from.fields in
        record {
          filled_is = is;
          of = record { added = further from to; grows = grows_by from to legal so; of = given_of (further from to) (drop own defaults) values (defaults-drop own to.fields defaults are) said };
        }

-- there are as many defaults as columns of the first schema, and more
pub own_fewer : (from to : Shape) (defaults : Given) → Grows from to → AreDefaultsOf to.fields defaults → length from.fields ≤ length defaults
own_fewer from to defaults grows are = omega (arith, defaults-length to.fields defaults are, ap length grows.1.fields, length-append from.fields grows.0)

-- the defaults behind those make the growth
pub filled_by : (from to : Shape) (defaults : Given) (values : List Value) → Grows from to → AreDefaultsOf to.fields defaults → Some values ≡ all_given (drop (length from.fields) defaults) → IsFilled from to defaults values
filled_by from to defaults values grows are is =
    filled_growth from to defaults values grows.1.legal are (ap (λ (test : Bool). where_grows test from to defaults) (grown from to grows.0 grows.1) ∙ sym is)

pub growth_is : (to copy : Shape) (values : List Value) → copy ≡ to → growth_to copy values ≡ growth_to to values
growth_is to copy values same = ap (λ (shape : Shape). growth_to shape values) same
