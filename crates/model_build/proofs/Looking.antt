-- What is found in a table's rows, and the values that places are given.
use Rattle.std.proofs.Common.{◌≡◌, ◌≢◌, Bool, true, false, List, [], ◌∷◌, map, All, refl, sym, ap, ◌∙◌, inl, inr, arith}
use Rattle.std.proofs.lemmas.Bool.{cond-false}
use Rattle.std.specs.Prelude.{◌&&◌, ◌||◌, ◌⊎◌, not, Contains, if◌then◌else◌}
use Rattle.std.proofs.lemmas.List.Elements.{All-head, All-tail}
use Rattle.smt_meaning.specs.declared.values.Value.{Value}
use Rattle.smt_meaning.specs.declared.values.Row.{Row}
use Rattle.smt_meaning.specs.Term.{same_value}
use Rattle.smt_meaning.specs.Interpretation.{same_values, look}
use Rattle.smt_laws.proofs.SameValue.{same_value-true, same_value-self}
use Rattle.model_build.specs.declared.given.Given.{Given}
use Rattle.model_build.specs.declared.given.Given.TheVariants.{Unmarked, InRange, PastRange}
use Rattle.model_build.specs.Given.{is_marked, is_past, has_past}
use Rattle.model_build.specs.Filling.{value_of, has_row}
use Rattle.model_build.proofs.Fills.{member_cases}

-- ---- equal values

pub left_true : (a b : Bool) → a && b ≡ true → a ≡ true
left_true true b h = refl
left_true false b h = cc

pub right_true : (a b : Bool) → a && b ≡ true → b ≡ true
right_true true b h = h
right_true false b h = cc

pub same_values-true : (vs ws : List Value) → same_values vs ws ≡ true → vs ≡ ws
same_values-true [] [] h = refl
same_values-true [] (w ∷ ws) h = cc
same_values-true (v ∷ vs) [] h = cc
same_values-true (v ∷ vs) (w ∷ ws) h =
    ap (λ x. x ∷ vs) (same_value-true v w (left_true (same_value v w) (same_values vs ws) h)) ∙ ap (λ xs. w ∷ xs) (same_values-true vs ws (right_true (same_value v w) (same_values vs ws) h))

pub same_values-self : (vs : List Value) → same_values vs vs ≡ true
same_values-self [] = refl
same_values-self (v ∷ vs) = rw (same_value-self v) (same_values-self vs)

false_by : (b : Bool) → (b ≡ true → ⊥) → b ≡ false
false_by true h = absurd (h refl)
false_by false h = refl

-- ---- rows

-- where each row with these arguments has this value, and one has these arguments
pub look_found : (rs : List Row) (default v : Value) (vs : List Value) (r : Row) → All (λ (x : Row). x.arguments ≡ vs → x.value ≡ v) rs → Contains rs r → r.arguments ≡ vs
    → look rs default vs ≡ v
look_found [] default v vs r all (k, h, e) there = absurd (omega arith)
look_found (x ∷ rs) default v vs r all m there =
    by (same_values vs x.arguments) refl (member_cases x r rs m) (λ rest. look_found rs default v vs r (All-tail (λ (y : Row). y.arguments ≡ vs → y.value ≡ v) x rs all) rest there)
  where
    by : (b : Bool) → same_values vs x.arguments ≡ b → (x ≡ r) ⊎ Contains rs r → (Contains rs r → look rs default vs ≡ v) → (if b then x.value else look rs default vs) ≡ v
    by true e c next = All-head (λ (y : Row). y.arguments ≡ vs → y.value ≡ v) x rs all (sym (same_values-true vs x.arguments e))
    by false e (inl first) next =
        let yes : same_values vs x.arguments ≡ true = ap (same_values vs) (ap (λ (y : Row). y.arguments) first ∙ there) ∙ same_values-self vs in
        cc
    by false e (inr rest) next = next rest

-- where no row has these arguments
pub look_none : (rs : List Row) (default : Value) (vs : List Value) → All (λ (x : Row). x.arguments ≢ vs) rs → look rs default vs ≡ default
look_none [] default vs all = refl
look_none (x ∷ rs) default vs all =
    cond-false (same_values vs x.arguments) x.value (look rs default vs)
    (false_by (same_values vs x.arguments) (λ e. All-head (λ (y : Row). y.arguments ≢ vs) x rs all (sym (same_values-true vs x.arguments e))))
    ∙ look_none rs default vs (All-tail (λ (y : Row). y.arguments ≢ vs) x rs all)

-- ---- values that are given

pub or_left : (a b : Bool) → (a || b) ≡ false → a ≡ false
or_left true b h = cc
or_left false b h = refl

pub or_right : (a b : Bool) → (a || b) ≡ false → b ≡ false
or_right true b h = cc
or_right false b h = h

pub in_range_is : (g : Given) → is_marked g ≡ true → is_past g ≡ false → g ≡ InRange (value_of g)
in_range_is Unmarked m p = cc
in_range_is (InRange v) m p = refl
in_range_is PastRange m p = cc

-- values within the range are all that is given
pub values_back : (gs : List Given) → All (λ g. is_marked g ≡ true) gs → has_past gs ≡ false → gs ≡ map InRange (map value_of gs)
values_back [] marked none = refl
values_back (g ∷ gs) marked none =
    ap (λ x. x ∷ gs) (in_range_is g (All-head (λ x. is_marked x ≡ true) g gs marked) (or_left (is_past g) (has_past gs) none))
    ∙ ap (λ xs. InRange (value_of g) ∷ xs) (values_back gs (All-tail (λ x. is_marked x ≡ true) g gs marked) (or_right (is_past g) (has_past gs) none))

pub same_from_values : (gs hs : List Given) → All (λ g. is_marked g ≡ true) gs → All (λ g. is_marked g ≡ true) hs → has_past gs ≡ false → has_past hs ≡ false
    → map value_of gs ≡ map value_of hs → gs ≡ hs
same_from_values gs hs mg mh pg ph e = values_back gs mg pg ∙ ap (map InRange) e ∙ sym (values_back hs mh ph)

-- what has a row is within the range, and isn't empty
pub row_in_range : (gs : List Given) → has_row gs ≡ true → has_past gs ≡ false
row_in_range [] h = refl
row_in_range (g ∷ gs) h = by (has_past (g ∷ gs)) h
  where
    by : (b : Bool) → not b ≡ true → b ≡ false
    by true h = cc
    by false h = refl

pub row_not_empty : (gs : List Given) → has_row gs ≡ true → gs ≢ []
row_not_empty [] h e = cc
row_not_empty (g ∷ gs) h e = cc

pub rowless : (gs : List Given) → has_row gs ≡ false → (gs ≡ []) ⊎ (has_past gs ≡ true)
rowless [] h = inl refl
rowless (g ∷ gs) h = inr (by (has_past (g ∷ gs)) h)
  where
    by : (b : Bool) → not b ≡ false → b ≡ true
    by true h = refl
    by false h = cc
