-- A clause against truths that a `xor` doesn't give.
use Rattle.std.proofs.Common.{◌≡◌, ℕ, Bool, true, false, not, List, [], ◌∷◌, map, All, Option, Some, None, subst, sym, ap, ◌∙◌, refl}
use Rattle.std.specs.List.{AllZip}
use Rattle.std.proofs.lemmas.List.Elements.{All-head, All-tail, All-contains}
use Rattle.literals.specs.Signed.{Signed, sign, literal_true, some_true}
use Rattle.smt_meaning.specs.declared.values.Sort.{Sort}
use Rattle.smt_meaning.specs.declared.values.Sort.TheVariants.{Bool as Truths, Int as Ints, Free}
use Rattle.smt_meaning.specs.declared.values.Value.{Value}
use Rattle.smt_meaning.specs.declared.values.Value.TheVariants.{Truth as TruthValue, Whole, Element}
use Rattle.smt_meaning.specs.declared.clauses.Atom.{Atom}
use Rattle.smt_meaning.specs.declared.clauses.Atom.TheVariants.{Truth}
use Rattle.smt_meaning.specs.declared.terms.Operator.TheVariants.{Xor}
use Rattle.smt_meaning.specs.Declaration.{Declaration}
use Rattle.smt_meaning.specs.Nodes.{pick}
use Rattle.smt_meaning.specs.Term.{Tree, tree_at, Interpretation, value, values, truth_of, operate, on_truths, xor, fold_left}
use Rattle.smt_meaning.specs.Clause.{atom_true}
use Rattle.smt_meaning.specs.Interpretation.{has_sort, Interprets}
use Rattle.smt_meaning.specs.Signature.{tree_sort, is_bool}
use Rattle.smt_laws.specs.TermLaws.{ValueHasItsSort}
use Rattle.check_atoms.specs.Atoms.{is_bool_at}
use Rattle.congruence.specs.Justified.{truth_by}
use Rattle.congruence.proofs.Reasoning.{each_false, true_unless}
use Rattle.closure_log.specs.Odd.{is_odd, IsXor, HasAgainst}
use Rattle.closure_log.specs.OddLaws.{OddClauseIsTrue}

-- ---- truths

pub xor_twice : (a b c : Bool) → xor (xor a b) c ≡ xor a (xor b c)
xor_twice true true true = refl
xor_twice true true false = refl
xor_twice true false true = refl
xor_twice true false false = refl
xor_twice false true true = refl
xor_twice false true false = refl
xor_twice false false true = refl
xor_twice false false false = refl

pub with_false : (a : Bool) → xor a false ≡ a
with_false true = refl
with_false false = refl

same_is_even : (a : Bool) → xor a a ≡ false
same_is_even true = refl
same_is_even false = refl

sign_false : (t b : Bool) → sign (not t) b ≡ false → b ≡ t
sign_false true true h = refl
sign_false true false h = absurd cc
sign_false false true h = absurd cc
sign_false false false h = refl

-- ---- values

picked_values : (I : Interpretation) (ts : List Tree) (is : List ℕ) → values I (pick ts is) ≡ map (λ i. value I (tree_at ts i)) is
picked_values I ts [] = refl
picked_values I ts (i ∷ is) = ap (λ vs. value I (tree_at ts i) ∷ vs) (picked_values I ts is)

the_sort : (s : Option Sort) → is_bool s ≡ true → s ≡ Some Truths
the_sort None h = absurd cc
the_sort (Some Truths) h = refl
the_sort (Some Ints) h = absurd cc
the_sort (Some (Free n)) h = absurd cc

its_truth : (v : Value) → has_sort v Truths ≡ true → v ≡ TruthValue (truth_of v)
its_truth (TruthValue b) h = refl
its_truth (Whole n) h = absurd cc
its_truth (Element e) h = absurd cc

bool_value : ValueHasItsSort → (ds : List Declaration) (I : Interpretation) (t : Tree) → Interprets ds I → is_bool (tree_sort ds t) ≡ true → value I t ≡ TruthValue (truth_of (value I t))
bool_value law ds I t i h = its_truth (value I t) (law ds I t Truths i (the_sort (tree_sort ds t) h))

abbrev HasTruth : (ℕ → Value) → ℕ → Bool → Type 0
HasTruth f q b = f q ≡ TruthValue b

-- the values of the arguments, folded
folds : (f : ℕ → Value) (a : Bool) (is : List ℕ) (bs : List Bool) → AllZip (HasTruth f) is bs → fold_left (on_truths xor) (TruthValue a) (map f is) ≡ TruthValue (xor a (is_odd bs))
folds f a [] [] h = ap TruthValue (sym (with_false a))
folds f a [] (b ∷ bs) h = absurd h
folds f a (i ∷ is) [] h = absurd h
folds f a (i ∷ is) (b ∷ bs) h =
    ap (λ v. fold_left (on_truths xor) (on_truths xor (TruthValue a) v) (map f is)) h.0
    ∙ (folds f (xor a b) is bs h.1 ∙ ap TruthValue (xor_twice a b (is_odd bs)))

truths_are : (a b : Bool) → TruthValue a ≡ TruthValue b → a ≡ b
truths_are a b e = cc

-- a term and the value that `xor` makes of others: an even count is true
even : (f : ℕ → Value) (p i : ℕ) (is : List ℕ) (bs : List Bool) → f p ≡ fold_left (on_truths xor) (f i) (map f is) → AllZip (HasTruth f) (p ∷ i ∷ is) bs → is_odd bs ≡ false
even f p i is [] made h = absurd h
even f p i is (a ∷ []) made h = absurd h.1
even f p i is (a ∷ b ∷ bs) made h =
    let those : f p ≡ TruthValue (xor b (is_odd bs)) = made ∙ (ap (λ v. fold_left (on_truths xor) v (map f is)) h.1.0 ∙ folds f b is bs h.1.1) in
    ap (λ c. xor a c) (sym (truths_are a (xor b (is_odd bs)) (sym h.0 ∙ those))) ∙ same_is_even a

-- ---- the clause

module _ (law : ValueHasItsSort) (ds : List Declaration) (ts : List Tree) (table : List Atom) (ls : List Signed) where
  -- the truth that a literal of a clause is against, where none of the clause is true
  told_truth : (I : Interpretation) (q : ℕ) (b : Bool) → Interprets ds I → some_true (truth_by ts table I) ls ≡ false → is_bool_at ds ts q ≡ true → HasAgainst table ls q b → value I (tree_at ts q) ≡ TruthValue b
  told_truth I q b interprets none bool has =
      let l : Signed = has.literal in
      let none_here : literal_true (truth_by ts table I) l ≡ false = All-contains (λ (m : Signed). literal_true (truth_by ts table I) m ≡ false) ls l (each_false (truth_by ts table I) ls none) has.among in
      let is_it : truth_by ts table I l.atom ≡ truth_of (value I (tree_at ts q)) = ap (atom_true ts I) (has.against.at.1 (Truth 0)) in
      let says : truth_by ts table I l.atom ≡ b = sign_false b (truth_by ts table I l.atom) (subst (λ v. sign v (truth_by ts table I l.atom) ≡ false) has.against.sign none_here) in
      bool_value law ds I (tree_at ts q) interprets bool ∙ ap TruthValue (sym is_it ∙ says)

  told_truths : (I : Interpretation) (qs : List ℕ) (bs : List Bool) → Interprets ds I → some_true (truth_by ts table I) ls ≡ false → All (λ q. is_bool_at ds ts q ≡ true) qs → AllZip (HasAgainst table ls) qs bs
      → AllZip (HasTruth (λ q. value I (tree_at ts q))) qs bs
  told_truths I [] [] interprets none bools h = tt
  told_truths I [] (b ∷ bs) interprets none bools h = absurd h
  told_truths I (q ∷ qs) [] interprets none bools h = absurd h
  told_truths I (q ∷ qs) (b ∷ bs) interprets none bools h = (
    told_truth I q b interprets none (All-head (λ r. is_bool_at ds ts r ≡ true) q qs bools) h.0,
    told_truths I qs bs interprets none (All-tail (λ r. is_bool_at ds ts r ≡ true) q qs bools) h.1,
  )

  clause_true : (p i : ℕ) (is : List ℕ) (bs : List Bool) → IsXor ds ts p (i ∷ is) → AllZip (HasAgainst table ls) (p ∷ i ∷ is) bs → is_odd bs ≡ true → (I : Interpretation) → Interprets ds I → some_true (truth_by ts table I) ls ≡ true
  clause_true p i is bs part against odd I interprets =
      true_unless (some_true (truth_by ts table I) ls) (λ none.
      let made : value I (tree_at ts p) ≡ fold_left (on_truths xor) (value I (tree_at ts i)) (map (λ q. value I (tree_at ts q)) is) =
      ap (value I) part.tree ∙ ap (operate Xor) (picked_values I ts (i ∷ is)) in
      let none_odd : is_odd bs ≡ false = even (λ q. value I (tree_at ts q)) p i is bs made (told_truths I (p ∷ i ∷ is) bs interprets none part.bools against) in
      cc)

pub odd_clause : ValueHasItsSort → OddClauseIsTrue
odd_clause law ds ts table p i is bs ls part against odd I interprets = clause_true law ds ts table ls p i is bs part against odd I interprets
