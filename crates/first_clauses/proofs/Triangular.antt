-- The clauses of triangles follow.
use Rattle.std.proofs.Common.{◌≡◌, ℕ, zero, suc, ◌<◌, Bool, true, false, not, ◌&&◌, ◌||◌, List, [], ◌∷◌, length, All, Contains, slice_index_or, subst, sym, ap, ◌∙◌, arith, refl, eq-eqb}
use Rattle.std.specs.Prelude.{pos, negsuc, ℤ}
use Rattle.std.proofs.lemmas.Bool.{eqb-true}
use Rattle.std.proofs.lemmas.List.Elements.{All-nil, All-cons}
use Rattle.literals.specs.Signed.{Signed, opposite, some_true}
use Rattle.smt_meaning.specs.declared.values.Value.{Value}
use Rattle.smt_meaning.specs.declared.values.Value.TheVariants.{Truth as TruthValue, Whole, Element}
use Rattle.smt_meaning.specs.declared.clauses.Atom.{Atom}
use Rattle.smt_meaning.specs.declared.clauses.Atom.TheVariants.{Truth, Same}
use Rattle.smt_meaning.specs.declared.terms.Operator.{Operator}
use Rattle.smt_meaning.specs.declared.terms.Operator.TheVariants.{Equal, And, Or}
use Rattle.smt_meaning.specs.declared.terms.Head.TheVariants.{Theory}
use Rattle.smt_meaning.specs.Term.{Tree, Interpretation, tree_at, value, truth_of, same_value, int_eq, bool_eq}
use Rattle.smt_meaning.specs.Clause.{atom_true}
use Rattle.term_store.specs.Terms.{tree_with}
use Rattle.search_port.specs.State.{atom_at}
use Rattle.first_clauses.specs.Triangles.{IsEquality, Joins, IsOfTwo, MakesSame, NumberMakesSame}

-- ---- the equality of two terms as a term

two_of : (xs : List ℕ) → length xs ≡ 2 → xs ≡ slice_index_or xs 0 0 ∷ slice_index_or xs 1 0 ∷ []
two_of [] h = absurd (omega arith)
two_of (x ∷ []) h = absurd (omega arith)
two_of (x ∷ y ∷ []) h = refl
two_of (x ∷ y ∷ z ∷ xs) h = absurd (omega arith)

and_true : (b : Bool) → (b && true) ≡ b
and_true true = refl
and_true false = refl

pub truth_says : (trees : List Tree) (table : List Atom) (n p : ℕ) (is : List ℕ) → n < length table → atom_at table n ≡ Truth p → tree_at trees p ≡ tree_with trees (Theory Equal) is → length is ≡ 2
    → IsEquality trees table n (slice_index_or is 0 0) (slice_index_or is 1 0)
truth_says trees table n p is lt a t two = record {
  within = lt;
  says = λ I.
      ap (atom_true trees I) a
      ∙ (ap (λ (u : Tree). truth_of (value I u)) (t ∙ ap (tree_with trees (Theory Equal)) (two_of is two))
      ∙ and_true (same_value (value I (tree_at trees (slice_index_or is 0 0))) (value I (tree_at trees (slice_index_or is 1 0)))));
}

pub same_says : (trees : List Tree) (table : List Atom) (n i j : ℕ) → n < length table → atom_at table n ≡ Same i j → IsEquality trees table n i j
same_says trees table n i j lt a = record { within = lt; says = λ I. ap (atom_true trees I) a }

-- ---- values that are the same are equal

bools_same : (a b : Bool) → bool_eq a b ≡ true → a ≡ b
bools_same true b h = sym h
bools_same false true h = absurd cc
bools_same false false h = refl

ints_same : (m n : ℤ) → int_eq m n ≡ true → m ≡ n
ints_same (pos m) (pos n) h = ap pos (eqb-true m n h)
ints_same (pos m) (negsuc n) h = absurd cc
ints_same (negsuc m) (pos n) h = absurd cc
ints_same (negsuc m) (negsuc n) h = ap negsuc (eqb-true m n h)

one_value : (v w : Value) → same_value v w ≡ true → v ≡ w
one_value (TruthValue a) (TruthValue b) h = ap TruthValue (bools_same a b h)
one_value (TruthValue a) (Whole n) h = absurd cc
one_value (TruthValue a) (Element e) h = absurd cc
one_value (Whole m) (TruthValue b) h = absurd cc
one_value (Whole m) (Whole n) h = ap Whole (ints_same m n h)
one_value (Whole m) (Element e) h = absurd cc
one_value (Element m) (TruthValue b) h = absurd cc
one_value (Element m) (Whole n) h = absurd cc
one_value (Element m) (Element e) h = ap Element (eqb-true m e h)

same_as_itself : (v : Value) → same_value v v ≡ true
same_as_itself (TruthValue true) = refl
same_as_itself (TruthValue false) = refl
same_as_itself (Whole (pos n)) = eq-eqb n n refl
same_as_itself (Whole (negsuc n)) = eq-eqb n n refl
same_as_itself (Element n) = eq-eqb n n refl

same_where : (v w : Value) → v ≡ w → same_value v w ≡ true
same_where v w e = subst (λ x. same_value v x ≡ true) e (same_as_itself v)

-- ---- the clause

implied : (a b c : Bool) → (a ≡ true → b ≡ true → c ≡ true) → (not a || (not b || (c || false))) ≡ true
implied false b c h = refl
implied true false c h = refl
implied true true c h = rw (h refl refl) refl

not_true : (b : Bool) → b ≡ not b → ⊥
not_true true h = cc
not_true false h = cc

abbrev pub implies_clause : ℕ → ℕ → ℕ → List Signed
implies_clause a b c = record { atom = a; positive = false } ∷ record { atom = b; positive = false } ∷ record { atom = c; positive = true } ∷ []

pub no_pair_here : (a b c : ℕ) → (a ≡ c → ⊥) → (b ≡ c → ⊥) → (l : Signed) → Contains (implies_clause a b c) l → Contains (implies_clause a b c) (opposite l) → ⊥
no_pair_here a b c n m l x y = at x.0 y.0 x.1 y.1 x.2 y.2
  where
    signs : (p q : Signed) → p ≡ l → q ≡ opposite l → p.positive ≡ q.positive → ⊥
    signs p q e f g = not_true l.positive (sym (ap (λ (k : Signed). k.positive) e) ∙ (g ∙ ap (λ (k : Signed). k.positive) f))

    atoms : (p q : Signed) → p ≡ l → q ≡ opposite l → p.atom ≡ q.atom
    atoms p q e f = ap (λ (k : Signed). k.atom) e ∙ sym (ap (λ (k : Signed). k.atom) f)

    at : (i j : ℕ) → i < 3 → j < 3 → slice_index_or (implies_clause a b c) i l ≡ l → slice_index_or (implies_clause a b c) j (opposite l) ≡ opposite l → ⊥
    at zero zero h k e f = signs _ _ e f refl
    at zero (suc zero) h k e f = signs _ _ e f refl
    at zero (suc (suc zero)) h k e f = n (atoms _ _ e f)
    at zero (suc (suc (suc j))) h k e f = absurd (omega arith)
    at (suc zero) zero h k e f = signs _ _ e f refl
    at (suc zero) (suc zero) h k e f = signs _ _ e f refl
    at (suc zero) (suc (suc zero)) h k e f = m (atoms _ _ e f)
    at (suc zero) (suc (suc (suc j))) h k e f = absurd (omega arith)
    at (suc (suc zero)) zero h k e f = n (sym (atoms _ _ e f))
    at (suc (suc zero)) (suc zero) h k e f = m (sym (atoms _ _ e f))
    at (suc (suc zero)) (suc (suc zero)) h k e f = signs _ _ e f refl
    at (suc (suc zero)) (suc (suc (suc j))) h k e f = absurd (omega arith)
    at (suc (suc (suc i))) j h k e f = absurd (omega arith)

module _ (trees : List Tree) (table : List Atom) (a b c i j k l x y : ℕ) (p : IsEquality trees table a i j) (q : IsEquality trees table b k l) (r : IsEquality trees table c x y) where
  pub implies_within : All (λ (z : Signed). z.atom < length table) (implies_clause a b c)
  implies_within =
      All-cons (λ (z : Signed). z.atom < length table) (record { atom = a; positive = false }) (record { atom = b; positive = false } ∷ record { atom = c; positive = true } ∷ []) p.within
      (All-cons (λ (z : Signed). z.atom < length table) (record { atom = b; positive = false }) (record { atom = c; positive = true } ∷ []) q.within
      (All-cons (λ (z : Signed). z.atom < length table) (record { atom = c; positive = true }) [] r.within (All-nil (λ (z : Signed). z.atom < length table))))

  -- every interpretation makes it true
  pub implies_true : Joins i j k l x y → (I : Interpretation) → some_true (λ n. atom_true trees I (atom_at table n)) (implies_clause a b c) ≡ true
  implies_true joins I =
      implied (atom_true trees I (atom_at table a)) (atom_true trees I (atom_at table b)) (atom_true trees I (atom_at table c))
      (λ e f. r.says I ∙ same_where (value I (tree_at trees x)) (value I (tree_at trees y))
      (joins (λ w. value I (tree_at trees w)) (one_value (value I (tree_at trees i)) (value I (tree_at trees j)) (sym (p.says I) ∙ e))
      (one_value (value I (tree_at trees k)) (value I (tree_at trees l)) (sym (q.says I) ∙ f))))

-- ---- diamonds

pub is_of_two : (trees : List Tree) (o : Operator) (p : ℕ) (is : List ℕ) → tree_at trees p ≡ tree_with trees (Theory o) is → length is ≡ 2 → IsOfTwo trees o p (slice_index_or is 0 0) (slice_index_or is 1 0)
is_of_two trees o p is t two = t ∙ ap (tree_with trees (Theory o)) (two_of is two)

both_true : (a b : Bool) → (a && b) ≡ true → (a ≡ true) × (b ≡ true)
both_true true true h = (refl, refl)
both_true true false h = absurd cc
both_true false b h = absurd cc

one_true : {X : Type 0} (a b : Bool) → (a || b) ≡ true → (a ≡ true → X) → (b ≡ true → X) → X
one_true true b h f g = f refl
one_true false b h f g = g h

-- an equality says that its terms are the same
equality_makes : (trees : List Tree) (p i j : ℕ) → IsOfTwo trees Equal p i j → MakesSame trees p i j
equality_makes trees p i j t I h =
    one_value (value I (tree_at trees i)) (value I (tree_at trees j))
    (sym (ap (λ (u : Tree). truth_of (value I u)) t ∙ and_true (same_value (value I (tree_at trees i)) (value I (tree_at trees j)))) ∙ h)

pub conjunction_makes : (trees : List Tree) (p a b i j k l x y : ℕ) → IsOfTwo trees And p a b → IsOfTwo trees Equal a i j → IsOfTwo trees Equal b k l → Joins i j k l x y → MakesSame trees p x y
conjunction_makes trees p a b i j k l x y t one other joins I h =
    let both : (truth_of (value I (tree_at trees a)) ≡ true) × (truth_of (value I (tree_at trees b)) ≡ true) =
    both_true (truth_of (value I (tree_at trees a))) (truth_of (value I (tree_at trees b))) (sym (ap (λ (u : Tree). truth_of (value I u)) t) ∙ h) in
    joins (λ w. value I (tree_at trees w)) (equality_makes trees a i j one I both.0) (equality_makes trees b k l other I both.1)

pub disjunction_makes : (trees : List Tree) (p a b x y : ℕ) → IsOfTwo trees Or p a b → MakesSame trees a x y → MakesSame trees b x y → MakesSame trees p x y
disjunction_makes trees p a b x y t left right I h =
    one_true (truth_of (value I (tree_at trees a))) (truth_of (value I (tree_at trees b))) (sym (ap (λ (u : Tree). truth_of (value I u)) t) ∙ h) (left I) (right I)

pub number_makes : (trees : List Tree) (table : List Atom) (n p x y : ℕ) → n < length table → atom_at table n ≡ Truth p → MakesSame trees p x y → NumberMakesSame trees table n x y
number_makes trees table n p x y lt a makes = record {
  within = lt;
  makes = λ I h. makes I (sym (ap (atom_true trees I) a) ∙ h);
}

-- ---- its clause

gives : (a c : Bool) → (a ≡ true → c ≡ true) → (not a || (c || false)) ≡ true
gives false c h = refl
gives true c h = rw (h refl) refl

abbrev pub gives_clause : ℕ → ℕ → List Signed
gives_clause a c = record { atom = a; positive = false } ∷ record { atom = c; positive = true } ∷ []

pub none_twice_here : (a c : ℕ) → (a ≡ c → ⊥) → (l : Signed) → Contains (gives_clause a c) l → Contains (gives_clause a c) (opposite l) → ⊥
none_twice_here a c n l x y = at x.0 y.0 x.1 y.1 x.2 y.2
  where
    signs : (p q : Signed) → p ≡ l → q ≡ opposite l → p.positive ≡ q.positive → ⊥
    signs p q e f g = not_true l.positive (sym (ap (λ (k : Signed). k.positive) e) ∙ (g ∙ ap (λ (k : Signed). k.positive) f))

    atoms : (p q : Signed) → p ≡ l → q ≡ opposite l → p.atom ≡ q.atom
    atoms p q e f = ap (λ (k : Signed). k.atom) e ∙ sym (ap (λ (k : Signed). k.atom) f)

    at : (i j : ℕ) → i < 2 → j < 2 → slice_index_or (gives_clause a c) i l ≡ l → slice_index_or (gives_clause a c) j (opposite l) ≡ opposite l → ⊥
    at zero zero h k e f = signs _ _ e f refl
    at zero (suc zero) h k e f = n (atoms _ _ e f)
    at zero (suc (suc j)) h k e f = absurd (omega arith)
    at (suc zero) zero h k e f = n (sym (atoms _ _ e f))
    at (suc zero) (suc zero) h k e f = signs _ _ e f refl
    at (suc zero) (suc (suc j)) h k e f = absurd (omega arith)
    at (suc (suc i)) j h k e f = absurd (omega arith)

module _ (trees : List Tree) (table : List Atom) (a c x y : ℕ) (p : NumberMakesSame trees table a x y) (r : IsEquality trees table c x y) where
  pub gives_within : All (λ (z : Signed). z.atom < length table) (gives_clause a c)
  gives_within =
      All-cons (λ (z : Signed). z.atom < length table) (record { atom = a; positive = false }) (record { atom = c; positive = true } ∷ []) p.within
      (All-cons (λ (z : Signed). z.atom < length table) (record { atom = c; positive = true }) [] r.within (All-nil (λ (z : Signed). z.atom < length table)))

  -- every interpretation makes it true
  pub gives_true : (I : Interpretation) → some_true (λ n. atom_true trees I (atom_at table n)) (gives_clause a c) ≡ true
  gives_true I =
      gives (atom_true trees I (atom_at table a)) (atom_true trees I (atom_at table c))
      (λ e. r.says I ∙ same_where (value I (tree_at trees x)) (value I (tree_at trees y)) (p.makes I e))
