-- Steps of the loops over rows.
use Rattle.std.proofs.Common.{Result, Ok, Err, IfErr, IsErrAnd, Bool, true, false, ◌&&◌, Some, None, ap₂, negsuc, ◌≤◌, ◌-◌, ◌⊎◌, inl, inr, ◌≡◌, ℕ, suc, ◌+◌, ◌<◌, List, [], ◌∷◌, ◌++◌, length, get_or, take, drop, refl, sym, ap, ◌∙◌, append_assoc, add-one, arith, drop-cons}
use Rattle.std.proofs.lemmas.List.{append-nil, drop_all, take_all, length-drop}
use Rattle.fraction128.specs.declared.ratio.Ratio.{Ratio}
use Rattle.fraction128.specs.Listed.{product_of, product_steps}
use Rattle.fraction128.specs.declared.Entry.{Entry}
use Rattle.fraction128.specs.Number.{whole}
use Rattle.fraction128.specs.Whole.{first_outside}
use Rattle.fraction128.specs.declared.range.Range.{Range}
use Rattle.tableau.proofs.Absent.{fit_by_none, fit_false}
use Rattle.fraction128.specs.Grid.{fit}
use Rattle.tableau.specs.Fitting.{scaled_fits, multiplied_fits, merged_fits}
use Rattle.tableau.specs.Rows.{entry, zero_form, scaled, multiplied, merged}

drop_here : (es : List Entry) (i : ℕ) (x : Entry) → i < length es → x ≡ get_or es i x → drop i es ≡ x ∷ drop (i + 1) es
drop_here es i x lt is = rw add-one (drop-cons es i x lt ∙ ap (λ y. y ∷ drop (suc i) es) (sym is))

-- one more entry is scaled
pub scaled_more : (t : Ratio) (out new all : List Entry) (es : List Entry) (i : ℕ) (x : Entry) (y : Ratio) → i < length es → x ≡ get_or es i x
    → out ++ scaled t (drop i es) ≡ all → y ≡ product_of x.coefficient t → new ≡ out ++ entry x.variable y ∷ []
    → new ++ scaled t (drop (i + 1) es) ≡ all
scaled_more t out new all es i x y lt is before value step =
    ap (λ xs. xs ++ scaled t (drop (i + 1) es)) (step ∙ ap (λ z. out ++ entry x.variable z ∷ []) value)
    ∙ append_assoc out (entry x.variable (product_of x.coefficient t) ∷ []) (scaled t (drop (i + 1) es))
    ∙ ap (λ xs. out ++ scaled t xs) (sym (drop_here es i x lt is))
    ∙ before

pub multiplied_more : (t : Ratio) (out new all : List Entry) (es : List Entry) (i : ℕ) (x : Entry) (y : Ratio) → i < length es → x ≡ get_or es i x
    → out ++ multiplied t (drop i es) ≡ all → y ≡ product_of t x.coefficient → new ≡ out ++ entry x.variable y ∷ []
    → new ++ multiplied t (drop (i + 1) es) ≡ all
multiplied_more t out new all es i x y lt is before value step =
    ap (λ xs. xs ++ multiplied t (drop (i + 1) es)) (step ∙ ap (λ z. out ++ entry x.variable z ∷ []) value)
    ∙ append_assoc out (entry x.variable (product_of t x.coefficient) ∷ []) (multiplied t (drop (i + 1) es))
    ∙ ap (λ xs. out ++ multiplied t xs) (sym (drop_here es i x lt is))
    ∙ before

pub drop_end : (es : List Entry) (i : ℕ) → length es ≤ i → drop i es ≡ []
drop_end es i h = drop_all i es h

pub scaled_all : (t : Ratio) (out all es : List Entry) (i : ℕ) → length es ≤ i → out ++ scaled t (drop i es) ≡ all → out ≡ all
scaled_all t out all es i h e = sym (append-nil out) ∙ ap (λ xs. out ++ scaled t xs) (sym (drop_end es i h)) ∙ e

pub multiplied_all : (t : Ratio) (out all es : List Entry) (i : ℕ) → length es ≤ i → out ++ multiplied t (drop i es) ≡ all → out ≡ all
multiplied_all t out all es i h e = sym (append-nil out) ∙ ap (λ xs. out ++ multiplied t xs) (sym (drop_end es i h)) ∙ e

pub merged_nothing : (a : Ratio) (xs : List Entry) → merged a xs [] ≡ xs
merged_nothing a [] = refl
merged_nothing a (x ∷ xs) = ap (λ es. x ∷ es) (merged_nothing a xs)

-- where one of the lists ended, what is left is copied or multiplied
pub merged_ended : (a : Ratio) (xs zs : List Entry) → (xs ≡ []) ⊎ (zs ≡ []) → merged a xs zs ≡ xs ++ multiplied a zs
merged_ended a xs zs (inl e) = ap (λ es. merged a es zs) e ∙ sym (ap (λ es. es ++ multiplied a zs) e)
merged_ended a xs zs (inr e) = ap (λ es. merged a xs es) e ∙ merged_nothing a xs ∙ sym (append-nil xs) ∙ ap (λ es. xs ++ multiplied a es) (sym e)

pub drops_ended : (xs zs : List Entry) (i j : ℕ) → (i ≡ length xs) ⊎ (j ≡ length zs) → (drop i xs ≡ []) ⊎ (drop j zs ≡ [])
drops_ended xs zs i j (inl e) = inl (drop_end xs i (omega arith))
drops_ended xs zs i j (inr e) = inr (drop_end zs j (omega arith))

rest_is : (es : List Entry) (i : ℕ) → take (length es - i) (drop i es) ≡ drop i es
rest_is es i = take_all (length es - i) (drop i es) (omega (arith, length-drop {A = Entry}))

pub merged_parts : (a : Ratio) (out out' out'' base row form : List Entry) (i j : ℕ)
    → out ++ merged a (drop i row) (drop j form) ≡ base → (i ≡ length row) ⊎ (j ≡ length form)
    → out' ≡ out ++ take (length row - i) (drop i row) → out'' ≡ out' ++ multiplied a (take (length form - j) (drop j form)) → out'' ≡ base
merged_parts a out out' out'' base row form i j merges ends copied rest =
    rest ∙ ap (λ xs. out' ++ multiplied a xs) (rest_is form j)
    ∙ ap (λ xs. xs ++ multiplied a (drop j form)) (copied ∙ ap (λ xs. out ++ xs) (rest_is row i))
    ∙ append_assoc out (drop i row) (multiplied a (drop j form))
    ∙ ap (λ xs. out ++ xs) (sym (merged_ended a (drop i row) (drop j form) (drops_ended row form i j ends)))
    ∙ merges

pub scaled_append : (t : Ratio) (xs ys : List Entry) → scaled t (xs ++ ys) ≡ scaled t xs ++ scaled t ys
scaled_append t [] ys = refl
scaled_append t (x ∷ xs) ys = ap (λ es. entry x.variable (product_of x.coefficient t) ∷ es) (scaled_append t xs ys)

pub form_parts : (t : Ratio) (b p : ℕ) (es : List Entry) (o o1 o2 o3 : List Entry) (minus y : Ratio)
    → o ≡ [] → o1 ≡ o ++ scaled t (take p es) → minus ≡ whole (negsuc 0) → y ≡ product_of minus t → o2 ≡ o1 ++ entry b y ∷ []
    → o3 ≡ o2 ++ scaled t (take (length es - p) (drop p es)) → o3 ≡ scaled t (zero_form p b es)
form_parts t b p es o o1 o2 o3 minus y e e1 em ey e2 e3 =
    let front : o1 ≡ scaled t (take p es) = e1 ∙ ap (λ xs. xs ++ scaled t (take p es)) e in
    e3 ∙ ap (λ xs. o2 ++ scaled t xs) (rest_is es p)
    ∙ ap (λ xs. xs ++ scaled t (drop p es)) (e2 ∙ ap₂ (λ xs z. xs ++ entry b z ∷ []) front (ey ∙ ap (λ m. product_of m t) em))
    ∙ append_assoc (scaled t (take p es)) (entry b (product_of (whole (negsuc 0)) t) ∷ []) (scaled t (drop p es))
    ∙ sym (scaled_append t (take p es) (entry b (whole (negsuc 0)) ∷ drop p es))

-- ---- whether the numbers stay in the range

pub scaled_fits_more : (t : Ratio) (es : List Entry) (i : ℕ) (x : Entry) (v : Bool) → i < length es → x ≡ get_or es i x → first_outside (product_steps x.coefficient t) ≡ None
    → scaled_fits t (drop i es) ≡ v → scaled_fits t (drop (i + 1) es) ≡ v
scaled_fits_more t es i x v lt is f before =
    sym (ap (scaled_fits t) (drop_here es i x lt is) ∙ ap (λ z. z && scaled_fits t (drop (i + 1) es)) (fit_by_none (product_steps x.coefficient t) f)) ∙ before

pub scaled_fails : (t : Ratio) (es : List Entry) (i : ℕ) (x : Entry) (r : Range) (v : Bool) → i < length es → x ≡ get_or es i x → first_outside (product_steps x.coefficient t) ≡ Some r
    → scaled_fits t (drop i es) ≡ v → v ≡ false
scaled_fails t es i x r v lt is f before =
    sym before ∙ ap (scaled_fits t) (drop_here es i x lt is) ∙ ap (λ z. z && scaled_fits t (drop (i + 1) es)) (fit_false (product_steps x.coefficient t) r f)

pub scaled_fits_all : (t : Ratio) (es : List Entry) (i : ℕ) (v : Bool) → length es ≤ i → scaled_fits t (drop i es) ≡ v → v ≡ true
scaled_fits_all t es i v h e = sym e ∙ ap (scaled_fits t) (drop_end es i h)

pub multiplied_fits_more : (t : Ratio) (es : List Entry) (i : ℕ) (x : Entry) (v : Bool) → i < length es → x ≡ get_or es i x → first_outside (product_steps t x.coefficient) ≡ None
    → multiplied_fits t (drop i es) ≡ v → multiplied_fits t (drop (i + 1) es) ≡ v
multiplied_fits_more t es i x v lt is f before =
    sym (ap (multiplied_fits t) (drop_here es i x lt is) ∙ ap (λ z. z && multiplied_fits t (drop (i + 1) es)) (fit_by_none (product_steps t x.coefficient) f)) ∙ before

pub multiplied_fails : (t : Ratio) (es : List Entry) (i : ℕ) (x : Entry) (r : Range) (v : Bool) → i < length es → x ≡ get_or es i x → first_outside (product_steps t x.coefficient) ≡ Some r
    → multiplied_fits t (drop i es) ≡ v → v ≡ false
multiplied_fails t es i x r v lt is f before =
    sym before ∙ ap (multiplied_fits t) (drop_here es i x lt is) ∙ ap (λ z. z && multiplied_fits t (drop (i + 1) es)) (fit_false (product_steps t x.coefficient) r f)

pub multiplied_fits_all : (t : Ratio) (es : List Entry) (i : ℕ) (v : Bool) → length es ≤ i → multiplied_fits t (drop i es) ≡ v → v ≡ true
multiplied_fits_all t es i v h e = sym e ∙ ap (multiplied_fits t) (drop_end es i h)

pub merged_fits_nothing : (a : Ratio) (xs : List Entry) → merged_fits a xs [] ≡ true
merged_fits_nothing a [] = refl
merged_fits_nothing a (x ∷ xs) = merged_fits_nothing a xs

-- where one of the lists ended, only products are left
merged_fits_ended : (a : Ratio) (xs zs : List Entry) → (xs ≡ []) ⊎ (zs ≡ []) → merged_fits a xs zs ≡ multiplied_fits a zs
merged_fits_ended a xs zs (inl e) = ap (λ es. merged_fits a es zs) e
merged_fits_ended a xs zs (inr e) = ap (merged_fits a xs) e ∙ merged_fits_nothing a xs ∙ sym (ap (multiplied_fits a) e)

pub merged_fits_parts : (a : Ratio) (row form : List Entry) (i j : ℕ) (v w : Bool) → merged_fits a (drop i row) (drop j form) ≡ v → (i ≡ length row) ⊎ (j ≡ length form)
    → multiplied_fits a (take (length form - j) (drop j form)) ≡ w → v ≡ w
merged_fits_parts a row form i j v w is ends rest =
    sym is ∙ merged_fits_ended a (drop i row) (drop j form) (drops_ended row form i j ends) ∙ ap (multiplied_fits a) (sym (rest_is form j)) ∙ rest

scaled_fits_append : (t : Ratio) (xs ys : List Entry) → scaled_fits t (xs ++ ys) ≡ (scaled_fits t xs && scaled_fits t ys)
scaled_fits_append t [] ys = refl
scaled_fits_append t (x ∷ xs) ys = ap (λ z. fit (product_steps x.coefficient t) && z) (scaled_fits_append t xs ys) ∙ and_assoc (fit (product_steps x.coefficient t)) (scaled_fits t xs) (scaled_fits t ys)
  where
    and_assoc : (p q r : Bool) → (p && (q && r)) ≡ ((p && q) && r)
    and_assoc true q r = refl
    and_assoc false q r = refl

-- the three parts of a form
pub form_fits_parts : (t : Ratio) (b p : ℕ) (es : List Entry) (minus : Ratio) → minus ≡ whole (negsuc 0)
    → scaled_fits t (zero_form p b es) ≡ (scaled_fits t (take p es) && (fit (product_steps minus t) && scaled_fits t (take (length es - p) (drop p es))))
form_fits_parts t b p es minus em =
    scaled_fits_append t (take p es) (entry b (whole (negsuc 0)) ∷ drop p es)
    ∙ ap₂ (λ m xs. scaled_fits t (take p es) && (fit (product_steps m t) && scaled_fits t xs)) (sym em) (sym (rest_is es p))

pub three : (p q r v w : Bool) → v ≡ (p && (q && r)) → p ≡ true → q ≡ true → r ≡ w → v ≡ w
three p q r v w e ep eq er = e ∙ ap₂ (λ x y. x && (y && r)) ep eq ∙ er

pub first_fails : (p q v : Bool) → v ≡ (p && q) → p ≡ false → v ≡ false
first_fails p q v e ep = e ∙ ap (λ x. x && q) ep

pub second_fails : (p q r v : Bool) → v ≡ (p && (q && r)) → p ≡ true → q ≡ false → v ≡ false
second_fails p q r v e ep eq = e ∙ ap₂ (λ x y. x && (y && r)) ep eq

pub if_err_then : {T E : Type 0} {P Q : E → Type 0} (r : Result T E) → ((e : E) → P e → Q e) → IfErr r P → IfErr r Q
if_err_then (Ok x) f h = tt
if_err_then (Err e) f h = f e h

pub err_then : {T E : Type 0} {P Q : E → Type 0} (r : Result T E) → ((e : E) → P e → Q e) → IsErrAnd r P → IfErr r Q
err_then (Ok x) f h = absurd h
err_then (Err e) f h = f e h
