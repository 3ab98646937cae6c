-- Steps that a literal justifies.
use Rattle.std.proofs.Common.{◌≡◌, ℕ, Bool, true, false, not, nat_eq, List, [], ◌∷◌, All, refl, sym, ap, ◌∙◌, subst}
use Rattle.std.specs.Prelude.{◌&&◌, if◌then◌else◌, Option, Some, None}
use Rattle.std.proofs.lemmas.Bool.{eqb-true}
use Rattle.std.proofs.lemmas.List.Elements.{All-nil, All-cons}
use Rattle.literals.specs.Signed.{Signed, literal_true}
use Rattle.smt_meaning.specs.declared.clauses.Atom.{Atom}
use Rattle.smt_meaning.specs.declared.clauses.Atom.TheVariants.{Truth as TruthAtom, Same}
use Rattle.smt_meaning.specs.declared.values.Sort.{Sort}
use Rattle.smt_meaning.specs.declared.values.Sort.TheVariants.{Bool as Truths, Int as Ints, Free}
use Rattle.smt_meaning.specs.declared.values.Value.TheVariants.{Truth}
use Rattle.smt_meaning.specs.declared.terms.Operator.TheVariants.{Equal, Distinct, Ite}
use Rattle.smt_meaning.specs.declared.terms.Head.{Head}
use Rattle.smt_meaning.specs.declared.terms.Head.TheVariants.{Numeral, Theory, Symbol, Place}
use Rattle.smt_meaning.specs.Term.{Tree, tree_at, Interpretation, value, values, operate, truth_of, same_value, chain_from}
use Rattle.smt_meaning.specs.Nodes.{pick}
use Rattle.smt_meaning.specs.Signature.{tree_sort, is_bool}
use Rattle.smt_meaning.specs.Clause.{atom_true}
use Rattle.smt_laws.specs.TermLaws.{ValueHasItsSort}
use Rattle.term_store.specs.Terms.{tree_with}
use Rattle.search_port.specs.State.{atom_at}
use Rattle.point_closure.specs.Laws.{point_value}
use Rattle.congruence.specs.Reading.{truth_number}
use Rattle.congruence.specs.Steps.{equal_terms, pair_step, neighbours_equal, all_equal, pair_steps, equality_steps, node_steps, branch_step, choice_steps}
use Rattle.congruence.specs.Justified.{StepHolds, truth_by}
use Rattle.congruence.specs.Laws.{TruthIsJustified, SamenessIsJustified, NodeStepsAreJustified, ChoiceStepsAreJustified}
use Rattle.smt_laws.proofs.SameValue.{same_value-true}
use Rattle.congruence.proofs.Values.{same_value-false, sign-true, truth_value, point_of_term}

-- ---- a truth value

sort_is : (s : Option Sort) → is_bool s ≡ true → s ≡ Some Truths
sort_is (Some Truths) h = refl
sort_is (Some Ints) h = cc
sort_is (Some (Free k)) h = cc
sort_is None h = cc

of_truth : (ts : List Tree) (I : Interpretation) (v : Bool) → point_value ts I (truth_number v) ≡ Truth v
of_truth ts I true = refl
of_truth ts I false = refl

-- the atom's truth is the literal's sign
told : (ts : List Tree) (table : List Atom) (I : Interpretation) (l : Signed) (a : Atom) → atom_at table l.atom ≡ a → literal_true (truth_by ts table I) l ≡ true → atom_true ts I a ≡ l.positive
told ts table I l a e h = subst (λ b. atom_true ts I b ≡ l.positive) e (sign-true l.positive (atom_true ts I (atom_at table l.atom)) h)

pub truth_justified : ValueHasItsSort → TruthIsJustified
truth_justified law ds ts table l t atom bool I interprets h =
    point_of_term ts I t
    ∙ truth_value (value I (tree_at ts t)) (law ds I (tree_at ts t) Truths interprets (sort_is (tree_sort ds (tree_at ts t)) bool))
    ∙ ap Truth (told ts table I l (TruthAtom t) atom h)
    ∙ sym (of_truth ts I l.positive)

-- ---- two terms

equal_holds : (ts : List Tree) (I : Interpretation) (i j : ℕ) → value I (tree_at ts i) ≡ value I (tree_at ts j) → StepHolds ts I (equal_terms i j)
equal_holds ts I i j e = point_of_term ts I i ∙ e ∙ sym (point_of_term ts I j)

pair_holds : (ts : List Tree) (I : Interpretation) (i j : ℕ) (v : Bool) → same_value (value I (tree_at ts i)) (value I (tree_at ts j)) ≡ v → StepHolds ts I (pair_step i j v)
pair_holds ts I i j true h = equal_holds ts I i j (same_value-true (value I (tree_at ts i)) (value I (tree_at ts j)) h)
pair_holds ts I i j false h =
    λ e. same_value-false (value I (tree_at ts i)) (value I (tree_at ts j)) h (sym (point_of_term ts I i) ∙ e ∙ point_of_term ts I j)

pub sameness_justified : SamenessIsJustified
sameness_justified ds ts table l i j atom I interprets h = pair_holds ts I i j l.positive (told ts table I l (Same i j) atom h)

-- ---- arguments

and_left : (a b : Bool) → (a && b) ≡ true → a ≡ true
and_left true b h = refl
and_left false b h = cc

and_right : (a b : Bool) → (a && b) ≡ true → b ≡ true
and_right true b h = h
and_right false b h = cc

and_true : (a : Bool) → (a && true) ≡ a
and_true true = refl
and_true false = refl

not_not : (a : Bool) → not (not a) ≡ a
not_not true = refl
not_not false = refl

neighbours_hold : (ts : List Tree) (I : Interpretation) (i : ℕ) (js : List ℕ) → chain_from same_value (value I (tree_at ts i)) (values I (pick ts js)) ≡ true → All (StepHolds ts I) (neighbours_equal i js)
neighbours_hold ts I i [] h = All-nil (StepHolds ts I)
neighbours_hold ts I i (j ∷ js) h =
    All-cons (StepHolds ts I) (equal_terms i j) (neighbours_equal j js)
    (equal_holds ts I i j
    (same_value-true (value I (tree_at ts i)) (value I (tree_at ts j))
    (and_left (same_value (value I (tree_at ts i)) (value I (tree_at ts j))) (chain_from same_value (value I (tree_at ts j)) (values I (pick ts js))) h)))
    (neighbours_hold ts I j js (and_right (same_value (value I (tree_at ts i)) (value I (tree_at ts j))) (chain_from same_value (value I (tree_at ts j)) (values I (pick ts js))) h))

all_hold : (ts : List Tree) (I : Interpretation) (is : List ℕ) → truth_of (operate Equal (values I (pick ts is))) ≡ true → All (StepHolds ts I) (all_equal is)
all_hold ts I [] h = All-nil (StepHolds ts I)
all_hold ts I (i ∷ is) h = neighbours_hold ts I i is h

two_hold : (ts : List Tree) (I : Interpretation) (i j : ℕ) (v : Bool) → same_value (value I (tree_at ts i)) (value I (tree_at ts j)) ≡ v → All (StepHolds ts I) (pair_steps (i ∷ j ∷ []) v)
two_hold ts I i j v h = All-cons (StepHolds ts I) (pair_step i j v) [] (pair_holds ts I i j v h) (All-nil (StepHolds ts I))

equality_false : (ts : List Tree) (I : Interpretation) (is : List ℕ) → truth_of (operate Equal (values I (pick ts is))) ≡ false → All (StepHolds ts I) (pair_steps is false)
equality_false ts I [] h = All-nil (StepHolds ts I)
equality_false ts I (i ∷ []) h = All-nil (StepHolds ts I)
equality_false ts I (i ∷ j ∷ []) h = two_hold ts I i j false (sym (and_true (same_value (value I (tree_at ts i)) (value I (tree_at ts j)))) ∙ h)
equality_false ts I (i ∷ j ∷ k ∷ is) h = All-nil (StepHolds ts I)

equality_hold : (ts : List Tree) (I : Interpretation) (is : List ℕ) (v : Bool) → truth_of (operate Equal (values I (pick ts is))) ≡ v → All (StepHolds ts I) (equality_steps is v)
equality_hold ts I is true h = all_hold ts I is h
equality_hold ts I is false h = equality_false ts I is h

distinct_hold : (ts : List Tree) (I : Interpretation) (is : List ℕ) (v : Bool) → truth_of (operate Distinct (values I (pick ts is))) ≡ v → All (StepHolds ts I) (pair_steps is (not v))
distinct_hold ts I [] v h = All-nil (StepHolds ts I)
distinct_hold ts I (i ∷ []) v h = All-nil (StepHolds ts I)
distinct_hold ts I (i ∷ j ∷ []) v h =
    let same : Bool = same_value (value I (tree_at ts i)) (value I (tree_at ts j)) in
    let is_not : not (same_value (value I (tree_at ts i)) (value I (tree_at ts j))) ≡ v =
    sym (and_true (not (same_value (value I (tree_at ts i)) (value I (tree_at ts j))))) ∙ sym (and_true (not (same_value (value I (tree_at ts i)) (value I (tree_at ts j))) && true)) ∙ h in
    two_hold ts I i j (not v) (sym (not_not (same_value (value I (tree_at ts i)) (value I (tree_at ts j)))) ∙ ap not is_not)
distinct_hold ts I (i ∷ j ∷ k ∷ is) v h = All-nil (StepHolds ts I)

-- what the truth of a term says holds
node_hold : (ts : List Tree) (I : Interpretation) (h : Head) (is : List ℕ) (v : Bool) → truth_of (value I (tree_with ts h is)) ≡ v → All (StepHolds ts I) (node_steps h is v)
node_hold ts I (Theory Equal) is v e = equality_hold ts I is v e
node_hold ts I (Theory Distinct) is v e = distinct_hold ts I is v e
node_hold ts I (Theory _) is v e = All-nil (StepHolds ts I)
node_hold ts I (Numeral n) is v e = All-nil (StepHolds ts I)
node_hold ts I (Symbol f) is v e = All-nil (StepHolds ts I)
node_hold ts I (Place k) is v e = All-nil (StepHolds ts I)

pub node_justified : NodeStepsAreJustified
node_justified ds ts table l t h is atom tree = λ k d less. λ I interprets true'.
    node_hold ts I h is l.positive (ap (λ u. truth_of (value I u)) (sym tree) ∙ told ts table I l (TruthAtom t) atom true') k d less

-- ---- choices

branch_holds : (ts : List Tree) (I : Interpretation) (p i j : ℕ) (v b : Bool) → b ≡ v → value I (tree_at ts p) ≡ (if b then value I (tree_at ts i) else value I (tree_at ts j)) → StepHolds ts I (branch_step p i j v)
branch_holds ts I p i j true true e h = equal_holds ts I p i h
branch_holds ts I p i j false false e h = equal_holds ts I p j h
branch_holds ts I p i j true false e h = absurd cc
branch_holds ts I p i j false true e h = absurd cc

if_condition : (ts : List Tree) (I : Interpretation) (p c i j t : ℕ) (v b : Bool) → nat_eq c t ≡ b → truth_of (value I (tree_at ts t)) ≡ v
    → value I (tree_at ts p) ≡ (if truth_of (value I (tree_at ts c)) then value I (tree_at ts i) else value I (tree_at ts j))
    → All (StepHolds ts I) (if b then branch_step p i j v ∷ [] else [])
if_condition ts I p c i j t v false e told_true h = All-nil (StepHolds ts I)
if_condition ts I p c i j t v true e told_true h =
    All-cons (StepHolds ts I) (branch_step p i j v) []
    (branch_holds ts I p i j v (truth_of (value I (tree_at ts c))) (ap (λ n. truth_of (value I (tree_at ts n))) (eqb-true c t e) ∙ told_true) h) (All-nil (StepHolds ts I))

choice_hold : (ts : List Tree) (I : Interpretation) (p t : ℕ) (h : Head) (is : List ℕ) (v : Bool) → truth_of (value I (tree_at ts t)) ≡ v → value I (tree_at ts p) ≡ value I (tree_with ts h is)
    → All (StepHolds ts I) (choice_steps p h is t v)
choice_hold ts I p t (Theory Ite) (c ∷ i ∷ j ∷ []) v told_true e = if_condition ts I p c i j t v (nat_eq c t) refl told_true e
choice_hold ts I p t (Theory Ite) [] v told_true e = All-nil (StepHolds ts I)
choice_hold ts I p t (Theory Ite) (c ∷ []) v told_true e = All-nil (StepHolds ts I)
choice_hold ts I p t (Theory Ite) (c ∷ i ∷ []) v told_true e = All-nil (StepHolds ts I)
choice_hold ts I p t (Theory Ite) (c ∷ i ∷ j ∷ k ∷ is) v told_true e = All-nil (StepHolds ts I)
choice_hold ts I p t (Theory _) is v told_true e = All-nil (StepHolds ts I)
choice_hold ts I p t (Numeral n) is v told_true e = All-nil (StepHolds ts I)
choice_hold ts I p t (Symbol f) is v told_true e = All-nil (StepHolds ts I)
choice_hold ts I p t (Place k) is v told_true e = All-nil (StepHolds ts I)

pub choice_justified : ChoiceStepsAreJustified
choice_justified ds ts table l t p h is atom tree = λ k d less. λ I interprets true'.
    choice_hold ts I p t h is l.positive (told ts table I l (TruthAtom t) atom true') (ap (value I) tree) k d less
