-- Lists of places, and lists of such lists.
use Rattle.std.proofs.Common.{◌≡◌, ◌≢◌, ℕ, zero, suc, ◌+◌, ◌<◌, ◌≤◌, ◌⊎◌, inl, inr, Bool, List, [], ◌∷◌, ◌++◌, pos, true, nat_eq, eqb-true, length, take, get_or, set, Contains, Vec, refl, sym, ap, ◌∙◌, subst, arith}
use Rattle.std.proofs.lemmas.Bool.{cases_eq, cases_lt}
use Rattle.std.proofs.lemmas.List.{take_more, take_all, get_or_default}
use Rattle.std.proofs.lemmas.List.Elements.{Contains-append_left, Contains-push, Contains-push_cases}
use Rattle.std.specs.List.Sorted.{IsPermutation}
use Rattle.std.specs.List.{swap_remove as holes}
use Rattle.std.proofs.lemmas.List.Sorted.{IsPermutation-swap_remove, Contains-permutation}
use Rattle.fraction128.specs.Number.{whole}
use Rattle.fraction128.specs.declared.Entry.{Entry}
use Rattle.tableau.specs.declared.holders.Change.{Change}
use Rattle.tableau.specs.Rows.{entry, variable_at}
use Rattle.tableau.specs.Staged.{HasVariable}
use Rattle.tableau.specs.declared.rows.Row.{Row}
use Rattle.tableau.specs.Holders.{items_at, IsNoted}

-- a list has a number, or it doesn't
pub in_list : (ks : List ℕ) (k : ℕ) → Contains ks k ⊎ (Contains ks k → ⊥)
in_list [] k = inr (λ h. let l = h.1 in absurd (omega (arith, l)))
in_list (x ∷ xs) k = by_case (cases_eq x k) (in_list xs k)
  where
    later : (x ≡ k → ⊥) → (Contains xs k → ⊥) → Contains (x ∷ xs) k → ⊥
    later ne none (zero, l, e) = ne e
    later ne none (suc n, l, e) = none (n, omega (arith, l), e)

    by_case : (x ≡ k) ⊎ (x ≡ k → ⊥) → Contains xs k ⊎ (Contains xs k → ⊥) → Contains (x ∷ xs) k ⊎ (Contains (x ∷ xs) k → ⊥)
    by_case (inl e) h = inl (zero, omega arith, e)
    by_case (inr ne) (inl h) = inl (suc h.0, let l = h.1 in omega (arith, l), h.2)
    by_case (inr ne) (inr none) = inr (later ne none)

-- one more is taken
pub taken : {X : Type 0} (xs : List X) (i : ℕ) (x k : X) → i < length xs → x ≡ get_or xs i x → Contains (take (i + 1) xs) k → Contains (take i xs) k ⊎ (x ≡ k)
taken xs i x k lt is h = Contains-push_cases (take i xs) x k (subst (λ ys. Contains ys k) (take_more xs i x lt ∙ ap (λ y. take i xs ++ y ∷ []) (sym is)) h)

pub taken_before : {X : Type 0} (xs : List X) (i : ℕ) (x k : X) → i < length xs → x ≡ get_or xs i x → Contains (take i xs) k → Contains (take (i + 1) xs) k
taken_before xs i x k lt is h = subst (λ ys. Contains ys k) (sym (take_more xs i x lt ∙ ap (λ y. take i xs ++ y ∷ []) (sym is))) (Contains-append_left (take i xs) (x ∷ []) k h)

pub taken_here : {X : Type 0} (xs : List X) (i : ℕ) (x : X) → i < length xs → x ≡ get_or xs i x → Contains (take (i + 1) xs) x
taken_here xs i x lt is = subst (λ ys. Contains ys x) (sym (take_more xs i x lt ∙ ap (λ y. take i xs ++ y ∷ []) (sym is))) (Contains-push (take i xs) x)

pub taken_all : {X : Type 0} (xs : List X) (i : ℕ) (k : X) → length xs ≤ i → Contains xs k → Contains (take i xs) k
taken_all xs i k le h = subst (λ ys. Contains ys k) (sym (take_all i xs le)) h

-- what holds of the numbers taken, as one more is taken
pub one_more : {D : Type 0} {P Q : ℕ → D → Type 0} (ks : List ℕ) (n len : ℕ) → n < length ks → ((k : ℕ) (d : D) → k ≢ get_or ks n 0 → P k d → Q k d) → (get_or ks n 0 < len → (d : D) → Q (get_or ks n 0) d)
    → ((k : ℕ) (d : D) → k < len → Contains (take n ks) k → P k d) → (k : ℕ) (d : D) → k < len → Contains (take (n + 1) ks) k → Q k d
one_more {Q = Q} ks n len lt kept new before k d lk h = by_same (cases_eq (get_or ks n 0) k)
  where
    by_case : (get_or ks n 0 ≡ k → ⊥) → Contains (take n ks) k ⊎ (get_or ks n 0 ≡ k) → Q k d
    by_case ne (inl c) = kept k d (λ e. ne (sym e)) (before k d lk c)
    by_case ne (inr e) = absurd (ne e)

    by_same : (get_or ks n 0 ≡ k) ⊎ (get_or ks n 0 ≡ k → ⊥) → Q k d
    by_same (inl e) = subst (λ m. Q m d) e (new (subst (λ m. m < len) (sym e) lk) d)
    by_same (inr ne) = by_case ne (taken ks n (get_or ks n 0) k lt (get_or_default ks n 0 (get_or ks n 0) lt) h)

-- another number stays where one is taken out
pub stays : (xs : List ℕ) (i x k : ℕ) → i < length xs → x ≡ get_or xs i x → k ≢ x → Contains xs k → (ys : List ℕ) → ys ≡ holes xs i x → Contains ys k
stays xs i x k lt is ne h ys e = rest (Contains-permutation xs (x ∷ ys) k (subst (λ zs. IsPermutation xs (x ∷ zs)) (sym e) (IsPermutation-swap_remove xs i x lt is)) h)
  where
    rest : Contains (x ∷ ys) k → Contains ys k
    rest (zero, l, w) = absurd (ne (sym w))
    rest (suc n, l, w) = (n, omega (arith, l), w)

-- ---- lists in a list

pub items_set : {Z : Type 0} (vs : List (Vec ℕ Z)) (i : ℕ) (v : Vec ℕ Z) → i < length vs → items_at (set vs i v) i ≡ v.items
items_set [] i v less = absurd (omega arith)
items_set (w ∷ ws) zero v less = refl
items_set (w ∷ ws) (suc i) v less = items_set ws i v (omega arith)

pub items_set_other : {Z : Type 0} (vs : List (Vec ℕ Z)) (i r : ℕ) (v : Vec ℕ Z) → r ≢ i → items_at (set vs i v) r ≡ items_at vs r
items_set_other [] i r v other = refl
items_set_other (w ∷ ws) zero zero v other = absurd (other refl)
items_set_other (w ∷ ws) zero (suc r) v other = refl
items_set_other (w ∷ ws) (suc i) zero v other = refl
items_set_other (w ∷ ws) (suc i) (suc r) v other = items_set_other ws i r v (λ e. other (ap suc e))

pub items_get : {Z : Type 0} (vs : List (Vec ℕ Z)) (i : ℕ) (d : Vec ℕ Z) → i < length vs → items_at vs i ≡ (get_or vs i d).items
items_get [] i d less = absurd (omega arith)
items_get (w ∷ ws) zero d less = refl
items_get (w ∷ ws) (suc i) d less = items_get ws i d (omega arith)

pub items_push : {Z : Type 0} (vs : List (Vec ℕ Z)) (v : Vec ℕ Z) (r : ℕ) → v.items ≡ [] → items_at (vs ++ v ∷ []) r ≡ items_at vs r
items_push [] v zero e = e
items_push [] v (suc r) e = refl
items_push (w ∷ ws) v zero e = refl
items_push (w ∷ ws) v (suc r) e = items_push ws v r e

pub items_past : {Z : Type 0} (vs : List (Vec ℕ Z)) (r k : ℕ) → length vs ≤ r → Contains (items_at vs r) k → ⊥
items_past [] r k le h = let l = h.1 in absurd (omega (arith, l))
items_past (w ∷ ws) zero k le h = absurd (omega arith)
items_past (w ∷ ws) (suc r) k le h = items_past ws r k (omega arith) h

-- the list of i as it was
pub set_same : {Z : Type 0} (vs : List (Vec ℕ Z)) (i : ℕ) (v : Vec ℕ Z) → i < length vs → v.items ≡ items_at vs i → (j : ℕ) → items_at (set vs i v) j ≡ items_at vs j
set_same vs i v lt is j = by_case (cases_eq j i)
  where
    by_case : (j ≡ i) ⊎ (j ≡ i → ⊥) → items_at (set vs i v) j ≡ items_at vs j
    by_case (inl e) = ap (items_at (set vs i v)) e ∙ items_set vs i v lt ∙ is ∙ ap (items_at vs) (sym e)
    by_case (inr ne) = items_set_other vs i j v ne

-- the list of i with more
pub set_keeps : {Z : Type 0} (vs : List (Vec ℕ Z)) (i : ℕ) (v : Vec ℕ Z) (x : ℕ) → i < length vs → v.items ≡ items_at vs i ++ x ∷ [] → (j k : ℕ) → Contains (items_at vs j) k → Contains (items_at (set vs i v) j) k
set_keeps vs i v x lt is j k h = by_case (cases_eq j i)
  where
    by_case : (j ≡ i) ⊎ (j ≡ i → ⊥) → Contains (items_at (set vs i v) j) k
    by_case (inl e) =
        subst (λ n. Contains (items_at (set vs i v) n) k) (sym e)
        (subst (λ ys. Contains ys k) (sym (items_set vs i v lt ∙ is)) (Contains-append_left (items_at vs i) (x ∷ []) k (subst (λ n. Contains (items_at vs n) k) e h)))
    by_case (inr ne) = subst (λ ys. Contains ys k) (sym (items_set_other vs i j v ne)) h

pub set_has : {Z : Type 0} (vs : List (Vec ℕ Z)) (i : ℕ) (v : Vec ℕ Z) (x : ℕ) → i < length vs → v.items ≡ items_at vs i ++ x ∷ [] → Contains (items_at (set vs i v) i) x
set_has vs i v x lt is = subst (λ ys. Contains ys x) (sym (items_set vs i v lt ∙ is)) (Contains-push (items_at vs i) x)

-- the list of a without p
pub removed : {Z : Type 0} (vs : List (Vec ℕ Z)) (a p n x : ℕ) (w v : Vec ℕ Z) → a < length vs → w.items ≡ items_at vs a → n < length w.items → x ≡ get_or w.items n x → x ≡ p → v.items ≡ holes w.items n x
    → (j k : ℕ) → (j ≢ a) ⊎ (k ≢ p) → Contains (items_at vs j) k → Contains (items_at (set vs a v) j) k
removed vs a p n x w v la here ln at is e j k apart h = by_case (cases_eq j a) apart
  where
    by_case : (j ≡ a) ⊎ (j ≡ a → ⊥) → (j ≢ a) ⊎ (k ≢ p) → Contains (items_at (set vs a v) j) k
    by_case (inr ne) q = subst (λ ys. Contains ys k) (sym (items_set_other vs a j v ne)) h
    by_case (inl s) (inl ne) = absurd (ne s)
    by_case (inl s) (inr ne) =
        subst (λ ys. Contains ys k) (sym (ap (items_at (set vs a v)) s ∙ items_set vs a v la))
        (stays w.items n x k ln at (λ y. ne (y ∙ is)) (subst (λ ys. Contains ys k) (ap (items_at vs) s ∙ sym here) h) v.items e)

-- ---- entries

pub item_variable : (es : List Entry) (n : ℕ) (x : Entry) → n < length es → x ≡ get_or es n x → x.variable ≡ variable_at es n
item_variable es n x lt is = ap (λ (e : Entry). e.variable) (is ∙ get_or_default es n x (entry 0 (whole (pos 0))) lt)

pub is_there : (es : List Entry) (here v : ℕ) (x : Entry) → here < length es → nat_eq (get_or es here x).variable v ≡ true → HasVariable v es
is_there es here v x lt e = (here, lt, ap (λ (y : Entry). y.variable) (get_or_default es here (entry 0 (whole (pos 0))) x lt) ∙ eqb-true (get_or es here x).variable v e)

-- one more entry is among the others, or noted
pub noted_more : (es others : List Entry) (n place : ℕ) (b : Bool) (before now : List Change) (x : Entry) → n < length es → x ≡ get_or es n x
    → ((y : Change) → Contains before y → Contains now y)
    → HasVariable x.variable others ⊎ Contains now (let y : Change = record { variable = x.variable; place = place; gained = b } in y)
    → ((i : ℕ) → i < n → HasVariable (variable_at es i) others ⊎ Contains before (let y : Change = record { variable = variable_at es i; place = place; gained = b } in y))
    → (i : ℕ) → i < n + 1 → HasVariable (variable_at es i) others ⊎ Contains now (let y : Change = record { variable = variable_at es i; place = place; gained = b } in y)
noted_more es others n place b before now x lt is kept new so_far i li = by_order (cases_lt i n)
  where
    later : (v : ℕ) → HasVariable v others ⊎ Contains before (let y : Change = record { variable = v; place = place; gained = b } in y)
        → HasVariable v others ⊎ Contains now (let y : Change = record { variable = v; place = place; gained = b } in y)
    later v (inl h) = inl h
    later v (inr h) = inr (kept (record { variable = v; place = place; gained = b }) h)

    by_order : (i < n) ⊎ (n ≤ i) → HasVariable (variable_at es i) others ⊎ Contains now (let y : Change = record { variable = variable_at es i; place = place; gained = b } in y)
    by_order (inl l) = later (variable_at es i) (so_far i l)
    by_order (inr ge) =
        let same : n ≡ i = omega (arith, li, ge) in
        subst (λ m. HasVariable (variable_at es m) others ⊎ Contains now (let y : Change = record { variable = variable_at es m; place = place; gained = b } in y)) same
        (subst (λ v. HasVariable v others ⊎ Contains now (let y : Change = record { variable = v; place = place; gained = b } in y)) (item_variable es n x lt is) new)

-- all entries are among the others, or noted
pub noted_all : (next entries xs ys : List Entry) (k : ℕ) (before now : List Change) → xs ≡ next → ys ≡ entries
    → ((i : ℕ) → i < length xs → HasVariable (variable_at xs i) ys ⊎ Contains before (let y : Change = record { variable = variable_at xs i; place = k; gained = true } in y))
    → ((y : Change) → Contains before y → Contains now y)
    → (i : ℕ) → i < length next → HasVariable (variable_at next i) entries ⊎ Contains now (let y : Change = record { variable = variable_at next i; place = k; gained = true } in y)
noted_all next entries xs ys k before now next_is entries_is noted kept i li =
    later (variable_at next i)
    (subst (λ es. HasVariable (variable_at next i) es ⊎ Contains before (let y : Change = record { variable = variable_at next i; place = k; gained = true } in y)) entries_is
    (subst (λ (zs : List Entry). (n : ℕ) → n < length zs → HasVariable (variable_at zs n) ys ⊎ Contains before (let y : Change = record { variable = variable_at zs n; place = k; gained = true } in y)) next_is noted i li))
  where
    later : (v : ℕ) → HasVariable v entries ⊎ Contains before (let y : Change = record { variable = v; place = k; gained = true } in y)
        → HasVariable v entries ⊎ Contains now (let y : Change = record { variable = v; place = k; gained = true } in y)
    later v (inl h) = inl h
    later v (inr h) = inr (kept (record { variable = v; place = k; gained = true }) h)

pub noted_later : (r : Row) (k : ℕ) (before now : List Change) → ((y : Change) → Contains before y → Contains now y) → IsNoted before k r → IsNoted now k r
noted_later r k before now kept noted changes = noted_all r.next.items r.entries.items r.next.items r.entries.items k before now refl refl (noted changes) kept

-- one more change is filed
pub filed_more : {Z : Type 0} (changes : List Change) (n : ℕ) (none : Change) (c size : ℕ) (now : List (Vec ℕ Z)) → n < length changes
    → ((get_or changes n none).gained ≡ true → (get_or changes n none).variable ≢ c → (get_or changes n none).variable < size → Contains (items_at now (get_or changes n none).variable) (get_or changes n none).place)
    → ((j k : ℕ) → Contains (take n changes) (let y : Change = record { variable = j; place = k; gained = true } in y) → j ≢ c → j < size → Contains (items_at now j) k)
    → (j k : ℕ) → Contains (take (n + 1) changes) (let y : Change = record { variable = j; place = k; gained = true } in y) → j ≢ c → j < size → Contains (items_at now j) k
filed_more changes n none c size now ln new so_far j k h ne lt =
    by_case (taken changes n (get_or changes n none) (record { variable = j; place = k; gained = true }) ln (get_or_default changes n none (get_or changes n none) ln) h)
  where
    by_case : Contains (take n changes) (let y : Change = record { variable = j; place = k; gained = true } in y) ⊎ (get_or changes n none ≡ (let y : Change = record { variable = j; place = k; gained = true } in y))
        → Contains (items_at now j) k
    by_case (inl g) = so_far j k g ne lt
    by_case (inr e) = subst (λ (x : Change). x.gained ≡ true → x.variable ≢ c → x.variable < size → Contains (items_at now x.variable) x.place) e new refl ne lt
