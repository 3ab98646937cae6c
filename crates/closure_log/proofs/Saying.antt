-- Steps that the truth of a term stands for.
use Rattle.std.proofs.Common.{◌≡◌, ℕ, ◌+◌, ◌<◌, Bool, true, false, not, nat_eq, List, [], ◌∷◌, ◌++◌, length, All, subst, arith}
use Rattle.std.specs.Prelude.{if◌then◌else◌}
use Rattle.std.proofs.lemmas.List.Elements.{All-nil, All-cons, All-append, All-head, All-tail}
use Rattle.literals.specs.Signed.{Signed}
use Rattle.smt_meaning.specs.declared.clauses.Atom.{Atom}
use Rattle.smt_meaning.specs.declared.clauses.Atom.TheVariants.{Truth as TruthAtom, Same}
use Rattle.smt_meaning.specs.declared.terms.Operator.TheVariants.{Equal, Distinct, Ite}
use Rattle.smt_meaning.specs.declared.terms.Head.{Head}
use Rattle.smt_meaning.specs.declared.terms.Head.TheVariants.{Numeral, Theory, Symbol, Place}
use Rattle.smt_meaning.specs.Declaration.{Declaration}
use Rattle.smt_meaning.specs.Term.{Tree, tree_at}
use Rattle.term_store.specs.Terms.{tree_with}
use Rattle.search_port.specs.State.{atom_at}
use Rattle.point_closure.specs.declared.step.Step.{Step}
use Rattle.point_closure.specs.Whole.{IsWithin}
use Rattle.check_atoms.specs.Atoms.{is_bool_at}
use Rattle.congruence.specs.Steps.{equal_terms, truth_step, pair_step, neighbours_equal, all_equal, pair_steps, equality_steps, node_steps, branch_step, choice_steps}
use Rattle.congruence.specs.Justified.{IsJustified}
use Rattle.congruence.specs.Laws.{TruthIsJustified, SamenessIsJustified, NodeStepsAreJustified, ChoiceStepsAreJustified}
use Rattle.closure_log.specs.Said.{AreSaidBy, AreSaid}

-- ---- among the points

truth_within : (n t : ℕ) (v : Bool) → t < n → IsWithin (n + 2) (truth_step t v)
truth_within n t true less = (omega arith, omega arith)
truth_within n t false less = (omega arith, omega arith)

equal_within : (n i j : ℕ) → i < n → j < n → IsWithin (n + 2) (equal_terms i j)
equal_within n i j h k = (omega arith, omega arith)

pub pair_within : (n i j : ℕ) (v : Bool) → i < n → j < n → IsWithin (n + 2) (pair_step i j v)
pair_within n i j true h k = (omega arith, omega arith)
pair_within n i j false h k = (omega arith, omega arith)

neighbours_within : (n i : ℕ) (js : List ℕ) → i < n → All (λ j. j < n) js → All (IsWithin (n + 2)) (neighbours_equal i js)
neighbours_within n i [] h k = All-nil (IsWithin (n + 2))
neighbours_within n i (j ∷ js) h k =
    All-cons (IsWithin (n + 2)) (equal_terms i j) (neighbours_equal j js) (equal_within n i j h (All-head (λ m. m < n) j js k))
    (neighbours_within n j js (All-head (λ m. m < n) j js k) (All-tail (λ m. m < n) j js k))

all_within : (n : ℕ) (is : List ℕ) → All (λ i. i < n) is → All (IsWithin (n + 2)) (all_equal is)
all_within n [] h = All-nil (IsWithin (n + 2))
all_within n (i ∷ is) h = neighbours_within n i is (All-head (λ m. m < n) i is h) (All-tail (λ m. m < n) i is h)

two_within : (n : ℕ) (is : List ℕ) (v : Bool) → All (λ i. i < n) is → All (IsWithin (n + 2)) (pair_steps is v)
two_within n [] v h = All-nil (IsWithin (n + 2))
two_within n (i ∷ []) v h = All-nil (IsWithin (n + 2))
two_within n (i ∷ j ∷ []) v h =
    All-cons (IsWithin (n + 2)) (pair_step i j v) []
    (pair_within n i j v (All-head (λ m. m < n) i (j ∷ []) h) (All-head (λ m. m < n) j [] (All-tail (λ m. m < n) i (j ∷ []) h))) (All-nil (IsWithin (n + 2)))
two_within n (i ∷ j ∷ k ∷ is) v h = All-nil (IsWithin (n + 2))

equality_within : (n : ℕ) (is : List ℕ) (v : Bool) → All (λ i. i < n) is → All (IsWithin (n + 2)) (equality_steps is v)
equality_within n is true h = all_within n is h
equality_within n is false h = two_within n is false h

node_within : (n : ℕ) (h : Head) (is : List ℕ) (v : Bool) → All (λ i. i < n) is → All (IsWithin (n + 2)) (node_steps h is v)
node_within n (Theory Equal) is v k = equality_within n is v k
node_within n (Theory Distinct) is v k = two_within n is (not v) k
node_within n (Theory _) is v k = All-nil (IsWithin (n + 2))
node_within n (Numeral m) is v k = All-nil (IsWithin (n + 2))
node_within n (Symbol f) is v k = All-nil (IsWithin (n + 2))
node_within n (Place m) is v k = All-nil (IsWithin (n + 2))

branch_within : (n p i j : ℕ) (v b : Bool) → p < n → i < n → j < n → All (IsWithin (n + 2)) (if b then branch_step p i j v ∷ [] else [])
branch_within n p i j v false h k m = All-nil (IsWithin (n + 2))
branch_within n p i j true true h k m = All-cons (IsWithin (n + 2)) (branch_step p i j true) [] (equal_within n p i h k) (All-nil (IsWithin (n + 2)))
branch_within n p i j false true h k m = All-cons (IsWithin (n + 2)) (branch_step p i j false) [] (equal_within n p j h m) (All-nil (IsWithin (n + 2)))

choice_within : (n p t : ℕ) (h : Head) (is : List ℕ) (v : Bool) → p < n → All (λ i. i < n) is → All (IsWithin (n + 2)) (choice_steps p h is t v)
choice_within n p t (Theory Ite) (c ∷ i ∷ j ∷ []) v less k =
    let rest : All (λ m. m < n) (i ∷ j ∷ []) = All-tail (λ m. m < n) c (i ∷ j ∷ []) k in
    branch_within n p i j v (nat_eq c t) less (All-head (λ m. m < n) i (j ∷ []) rest) (All-head (λ m. m < n) j [] (All-tail (λ m. m < n) i (j ∷ []) rest))
choice_within n p t (Theory Ite) [] v less k = All-nil (IsWithin (n + 2))
choice_within n p t (Theory Ite) (c ∷ []) v less k = All-nil (IsWithin (n + 2))
choice_within n p t (Theory Ite) (c ∷ i ∷ []) v less k = All-nil (IsWithin (n + 2))
choice_within n p t (Theory Ite) (c ∷ i ∷ j ∷ m ∷ is) v less k = All-nil (IsWithin (n + 2))
choice_within n p t (Theory _) is v less k = All-nil (IsWithin (n + 2))
choice_within n p t (Numeral m) is v less k = All-nil (IsWithin (n + 2))
choice_within n p t (Symbol f) is v less k = All-nil (IsWithin (n + 2))
choice_within n p t (Place m) is v less k = All-nil (IsWithin (n + 2))

-- ---- said by the truth of a term

pub nothing_said : (ts : List Tree) (t : ℕ) (v : Bool) → AreSaidBy ts t v []
nothing_said ts t v = record { within = All-nil (IsWithin (length ts + 2)); justified = λ ds table l atom bool sign. All-nil (IsJustified ds ts table l) }

said_append : (ts : List Tree) (t : ℕ) (v : Bool) (old more : List Step) → AreSaidBy ts t v old → AreSaidBy ts t v more → AreSaidBy ts t v (old ++ more)
said_append ts t v old more h k = record {
  within = All-append (IsWithin (length ts + 2)) old more h.within k.within;
  justified = λ ds table l atom bool sign. All-append (IsJustified ds ts table l) old more (h.justified ds table l atom bool sign) (k.justified ds table l atom bool sign);
}

pub own_said : TruthIsJustified → (ts : List Tree) (t : ℕ) (v : Bool) (old : List Step) → t < length ts → AreSaidBy ts t v old → AreSaidBy ts t v (old ++ truth_step t v ∷ [])
own_said law ts t v old less h = said_append ts t v old (truth_step t v ∷ []) h (record {
  within = All-cons (IsWithin (length ts + 2)) (truth_step t v) [] (truth_within (length ts) t v less) (All-nil (IsWithin (length ts + 2)));
  justified = λ ds table l atom bool sign.
      All-cons (IsJustified ds ts table l) (truth_step t v) []
      (subst (λ b. IsJustified ds ts table l (truth_step t b)) sign (law ds ts table l t atom bool)) (All-nil (IsJustified ds ts table l));
})

pub arguments_said : NodeStepsAreJustified → (ts : List Tree) (t : ℕ) (v : Bool) (h : Head) (is : List ℕ) (old : List Step) → tree_at ts t ≡ tree_with ts h is → All (λ i. i < length ts) is
    → AreSaidBy ts t v old → AreSaidBy ts t v (old ++ node_steps h is v)
arguments_said law ts t v h is old tree within said = said_append ts t v old (node_steps h is v) said (record {
  within = node_within (length ts) h is v within;
  justified = λ ds table l atom bool sign. subst (λ b. All (IsJustified ds ts table l) (node_steps h is b)) sign (law ds ts table l t h is atom tree);
})

pub choice_said : ChoiceStepsAreJustified → (ts : List Tree) (t p : ℕ) (v : Bool) (h : Head) (is : List ℕ) (old : List Step) → p < length ts → tree_at ts p ≡ tree_with ts h is → All (λ i. i < length ts) is
    → AreSaidBy ts t v old → AreSaidBy ts t v (old ++ choice_steps p h is t v)
choice_said law ts t p v h is old less tree within said = said_append ts t v old (choice_steps p h is t v) said (record {
  within = choice_within (length ts) p t h is v less within;
  justified = λ ds table l atom bool sign. subst (λ b. All (IsJustified ds ts table l) (choice_steps p h is t b)) sign (law ds ts table l t p h is atom tree);
})

-- ---- said by a literal

pub truth_told : (ds : List Declaration) (ts : List Tree) (table : List Atom) (l : Signed) (t : ℕ) (v : Bool) (steps : List Step) → atom_at table l.atom ≡ TruthAtom t → is_bool_at ds ts t ≡ true → l.positive ≡ v
    → AreSaidBy ts t v steps → AreSaid ds ts table l steps
truth_told ds ts table l t v steps atom bool sign h = record { within = h.within; justified = h.justified ds table l atom bool sign }

pub same_told : SamenessIsJustified → (ds : List Declaration) (ts : List Tree) (table : List Atom) (l : Signed) (i j : ℕ) → atom_at table l.atom ≡ Same i j → i < length ts → j < length ts
    → AreSaid ds ts table l (pair_step i j l.positive ∷ [])
same_told law ds ts table l i j atom h k = record {
  within = All-cons (IsWithin (length ts + 2)) (pair_step i j l.positive) [] (pair_within (length ts) i j l.positive h k) (All-nil (IsWithin (length ts + 2)));
  justified = All-cons (IsJustified ds ts table l) (pair_step i j l.positive) [] (law ds ts table l i j atom) (All-nil (IsJustified ds ts table l));
}
