-- The variable of a term, where no sum has two.
use Rattle.std.proofs.Common.{◌≡◌, ℕ, ◌<◌, ◌⊎◌, inl, inr, Bool, true, false, ◌&&◌, eqb, eqb-true, eq-eqb, List, [], ◌∷◌, length, ℤ, pos, negsuc, ◌-ℤ◌, unsigned_abs, Option, Some, None, sym, ap, ap₂, ◌∙◌, refl, arith}
use Rattle.std.proofs.lemmas.Bool.{cases_order}
use Rattle.std.proofs.lemmas.Int.{ints}
use Rattle.fraction128.specs.declared.Summand.{Summand}
use Rattle.fraction128.specs.declared.Column.{Column}
use Rattle.fraction128.specs.Grid.{same_sum, only_if, column_of, variable_of, leaf}
use Rattle.simplex_steps.proofs.NextStep.{first_some, first_none}
use Rattle.simplex_steps.specs.State.{column_in, no_column}
use Rattle.simplex.specs.Sums.{HaveOwnSums}

-- ---- one sum

zero_is : (z : ℤ) → unsigned_abs z ≡ 0 → z ≡ pos 0
zero_is (pos n) e = ap pos e
zero_is (negsuc n) e = absurd (omega (arith, e))

no_difference : (a b : ℤ) → eqb (unsigned_abs (a -ℤ b)) 0 ≡ true → a ≡ b
no_difference a b e = let z = zero_is (a -ℤ b) (eqb-true (unsigned_abs (a -ℤ b)) 0 e) in omega (arith, ints, z)

itself : (a : ℤ) → eqb (unsigned_abs (a -ℤ a)) 0 ≡ true
itself a = let e : a -ℤ a ≡ pos 0 = omega (arith, ints) in ap (λ z. eqb (unsigned_abs z) 0) e

both : (p q r : Bool) → ((p && q) && r) ≡ true → (p ≡ true) × (q ≡ true) × (r ≡ true)
both true true true e = (refl, refl, refl)
both true true false e = absurd (let z : false ≡ true = e in cc)
both true false r e = absurd (let z : false ≡ true = e in cc)
both false q r e = absurd (let z : false ≡ true = e in cc)

summand_is : (p q : Summand) → p.coefficient ≡ q.coefficient → p.term ≡ q.term → p ≡ q
summand_is p q e f = ap₂ (λ (c : ℤ) (t : ℕ). let r : Summand = record { coefficient = c; term = t } in r) e f

pub same_sum-is : (ps qs : List Summand) → same_sum ps qs ≡ true → ps ≡ qs
same_sum-is [] [] e = refl
same_sum-is [] (q ∷ qs) e = absurd (let z : false ≡ true = e in cc)
same_sum-is (p ∷ ps) [] e = absurd (let z : false ≡ true = e in cc)
same_sum-is (p ∷ ps) (q ∷ qs) e =
    let r = both (eqb (unsigned_abs (p.coefficient -ℤ q.coefficient)) 0) (eqb p.term q.term) (same_sum ps qs) e in
    ap₂ (λ (x : Summand) (xs : List Summand). x ∷ xs) (summand_is p q (no_difference p.coefficient q.coefficient r.0) (eqb-true p.term q.term r.1)) (same_sum-is ps qs r.2)

pub same_sum-itself : (ps : List Summand) → same_sum ps ps ≡ true
same_sum-itself [] = refl
same_sum-itself (p ∷ ps) =
    ap₂ (λ (a b : Bool). (a && b) && same_sum ps ps) (itself p.coefficient) (eq-eqb p.term p.term refl) ∙ same_sum-itself ps

-- ---- the variable of a term

pub apart_at : (cs : List Column) (i j : ℕ) → HaveOwnSums cs → i < length cs → j < length cs → (column_in cs i).sum ≡ (column_in cs j).sum → i ≡ j
apart_at cs i j apart li lj e = by (cases_order i j)
  where
    by : (i ≡ j) ⊎ ((i < j) ⊎ (j < i)) → i ≡ j
    by (inl is) = is
    by (inr (inl lt)) = absurd (apart i j no_column lt lj e)
    by (inr (inr lt)) = absurd (apart j i no_column lt li (sym e))

pub only_some : (z : Bool) (n v : ℕ) → only_if z (Some n) ≡ Some v → (z ≡ true) × (n ≡ v)
only_some true n v e = (refl, cc)
only_some false n v e = absurd (cc)

pub only_none : (z : Bool) (n : ℕ) → only_if z (Some n) ≡ None → z ≡ true → ⊥
only_none true n e t = cc
only_none false n e t = let f : false ≡ true = t in cc

pub leaf_found : (cs : List Column) (term i : ℕ) → HaveOwnSums cs → i < length cs → (column_in cs i).sum ≡ leaf term → variable_of cs term ≡ i
leaf_found cs term i apart lt is = by (column_of cs (leaf term)) refl
  where
    by : (o : Option ℕ) → column_of cs (leaf term) ≡ o → variable_of cs term ≡ i
    by (Some v) e =
        let r = first_some (λ j c. only_if (same_sum c.sum (leaf term)) (Some j)) 0 cs v e in
        let j = r.0 in
        let at = r.2 in
        let known = r.3 in
        let both_ = only_some (same_sum (column_in cs j).sum (leaf term)) r.1 v r.4 in
        let n : r.1 ≡ v = both_.1 in
        let jv : j ≡ v = omega (arith, at, n) in
        let ji : j ≡ i = apart_at cs j i apart known lt (same_sum-is (column_in cs j).sum (leaf term) both_.0 ∙ sym is) in
        rw e (sym jv ∙ ji)
    by None e =
        let none = first_none (λ j c. only_if (same_sum c.sum (leaf term)) (Some j)) 0 cs e i i (omega arith) lt in
        absurd (only_none (same_sum (column_in cs i).sum (leaf term)) i none (ap (λ ps. same_sum ps (leaf term)) is ∙ same_sum-itself (leaf term)))
