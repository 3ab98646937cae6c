-- Clauses against a `distinct` of which two arguments are equal.
use Rattle.std.proofs.Common.{◌≡◌, ℕ, zero, suc, ◌<◌, ◌+◌, ◌≤◌, Bool, true, false, not, List, [], ◌∷◌, ◌++◌, length, get_or, All, Contains, refl, sym, ap, ◌∙◌, subst, arith}
use Rattle.std.specs.Prelude.{◌&&◌, slice_index_or}
use Rattle.std.proofs.lemmas.List.Elements.{All-nil, All-cons, All-weaker, All-contains, Contains-push}
use Rattle.literals.specs.Signed.{Signed, opposite, literal_true, some_true}
use Rattle.smt_meaning.specs.declared.clauses.Atom.{Atom}
use Rattle.smt_meaning.specs.declared.clauses.Atom.TheVariants.{Truth as TruthAtom}
use Rattle.smt_meaning.specs.declared.values.Value.{Value}
use Rattle.smt_meaning.specs.Clause.{atom_true}
use Rattle.smt_meaning.specs.Nodes.{pick}
use Rattle.smt_meaning.specs.Stack.{signature_of}
use Rattle.smt_meaning.specs.StackCommand.{Stack}
use Rattle.smt_meaning.specs.Term.{Tree, tree_at, Interpretation, value, values, truth_of, same_value, differ, with_each, pairwise}
use Rattle.search_port.specs.State.{atom_at, IsFalseIn, AllFalseIn}
use Rattle.congruence.specs.declared.congruence.Congruence.{Congruence}
use Rattle.congruence.specs.Justified.{truth_by}
use Rattle.congruence.specs.Clauses.{IsFalseClause, AddsReasons}
use Rattle.congruence.proofs.Reasoning.{each_false, true_unless, true_where, twice}
use Rattle.congruence.proofs.Values.{same_value-false, sign-true}
use Rattle.closure_log.specs.Whole.{IsGrounded}
use Rattle.closure_log.proofs.Setting.{atom_is}
use Rattle.closure_log.specs.declared.distinct.EqualArguments.{EqualArguments}
use Rattle.closure_log.specs.Distinct.{IsDistinct, IsToldTrue, AreEqualAmong}

-- ---- values of which each two differ

left_of : (a b : Bool) → (a && b) ≡ true → a ≡ true
left_of true b h = refl
left_of false b h = cc

right_of : (a b : Bool) → (a && b) ≡ true → b ≡ true
right_of true b h = h
right_of false b h = cc

is_no : (a : Bool) → not a ≡ true → a ≡ false
is_no true h = cc
is_no false h = refl

one_differs : (v : Value) (vs : List Value) (k : ℕ) (d : Value) → with_each differ v vs ≡ true → k < length vs → same_value v (get_or vs k d) ≡ false
one_differs v [] k d h less = absurd (omega (arith, less))
one_differs v (w ∷ ws) zero d h less = is_no (same_value v w) (left_of (differ v w) (with_each differ v ws) h)
one_differs v (w ∷ ws) (suc k) d h less = one_differs v ws k d (right_of (differ v w) (with_each differ v ws) h) (omega (arith, less))

two_differ : (vs : List Value) (j k : ℕ) (d e : Value) → pairwise differ vs ≡ true → j < k → k < length vs → same_value (get_or vs j e) (get_or vs k d) ≡ false
two_differ [] j k d e h before less = absurd (omega (arith, less))
two_differ (v ∷ vs) j zero d e h before less = absurd (omega (arith, before))
two_differ (v ∷ vs) zero (suc k) d e h before less = one_differs v vs k d (left_of (with_each differ v vs) (pairwise differ vs) h) (omega (arith, less))
two_differ (v ∷ vs) (suc j) (suc k) d e h before less = two_differ vs j k d e (right_of (with_each differ v vs) (pairwise differ vs) h) (omega (arith, before)) (omega (arith, less))

-- ---- values of arguments

as_many : (ts : List Tree) (I : Interpretation) (is : List ℕ) → length (values I (pick ts is)) ≡ length is
as_many ts I [] = refl
as_many ts I (i ∷ is) = let rest = as_many ts I is in omega (arith, rest)

value_there : (ts : List Tree) (I : Interpretation) (is : List ℕ) (k : ℕ) (d : Value) → k < length is → get_or (values I (pick ts is)) k d ≡ value I (tree_at ts (get_or is k 0))
value_there ts I [] k d less = absurd (omega (arith, less))
value_there ts I (i ∷ is) zero d less = refl
value_there ts I (i ∷ is) (suc k) d less = value_there ts I is k d (omega (arith, less))

arguments_differ : (ts : List Tree) (I : Interpretation) (p : ℕ) (is : List ℕ) (j k : ℕ) → IsDistinct ts p is → truth_of (value I (tree_at ts p)) ≡ true → j < k → k < length is
    → value I (tree_at ts (get_or is j 0)) ≡ value I (tree_at ts (get_or is k 0)) → ⊥
arguments_differ ts I p is j k distinct own before less same =
    let vs = values I (pick ts is) in
    let d = value I (tree_at ts p) in
    let all : pairwise differ vs ≡ true = sym (ap (λ t. truth_of (value I t)) distinct.tree) ∙ own in
    let count : length vs ≡ length is = as_many ts I is in
    let apart : same_value (get_or vs j d) (get_or vs k d) ≡ false = two_differ vs j k d d all before (omega (arith, count, less)) in
    same_value-false (get_or vs j d) (get_or vs k d) apart (value_there ts I is j d (omega (arith, before, less)) ∙ same ∙ sym (value_there ts I is k d less))

-- ---- the clause

pub is_within : (n m : ℕ) (is : List ℕ) (k : ℕ) → All (λ i. i < n) is → n + 2 ≤ m → k < length is → get_or is k 0 + 2 < m
is_within n m is k h every less = let inside : get_or is k 0 < n = h k 0 less in omega (arith, inside, every)

pub all_within : (n m : ℕ) (is : List ℕ) → All (λ i. i < n) is → n + 2 ≤ m → All (λ i. i + 2 < m) is
all_within n m is h every = All-weaker (λ i. i < n) (λ i. i + 2 < m) (λ i l. omega (arith, l, every)) is h

pub false_clause : (s : Stack) (table : List Atom) (log : List Signed) (c : Congruence) (p : ℕ) (is : List ℕ) (l : Signed) (e : EqualArguments) (first ls : List Signed)
    → IsGrounded s table log c → IsDistinct s.trees p is → IsToldTrue table log p l → AreEqualAmong c is e → first ≡ [] ++ opposite l ∷ []
    → AddsReasons (signature_of s.frames) s.trees table c.reasons.items first ls (slice_index_or is e.earlier 0) (slice_index_or is e.later 0) → IsFalseClause (signature_of s.frames) s.trees table log ls
false_clause s table log c p is l e first ls told distinct true' equal begun adds = record {
  is_false = adds.is_false log told.reasoned.told
      (subst (AllFalseIn log) (sym begun) (All-cons (IsFalseIn log) (opposite l) [] (subst (Contains log) (sym (twice l)) true'.told.told) (All-nil (IsFalseIn log))));
  valid = λ I interprets. true_unless (some_true (truth_by s.trees table I) ls) (λ none. clash I (adds.equal I interprets none) none);
}
  where
    clash : (I : Interpretation) → value I (tree_at s.trees (get_or is e.earlier 0)) ≡ value I (tree_at s.trees (get_or is e.later 0)) → some_true (truth_by s.trees table I) ls ≡ false → ⊥
    clash I same none =
        let f = truth_by s.trees table I in
        let here : Contains ls (opposite l) = adds.stays (opposite l) (subst (λ xs. Contains xs (opposite l)) (sym begun) (Contains-push [] (opposite l))) in
        let is_so : literal_true f l ≡ true = true_where f l (All-contains (λ (m : Signed). literal_true f m ≡ false) ls (opposite l) (each_false f ls none) here) in
        let own : atom_true s.trees I (atom_at table l.atom) ≡ l.positive = sign-true l.positive (atom_true s.trees I (atom_at table l.atom)) is_so in
        let truth : truth_of (value I (tree_at s.trees p)) ≡ true =
        subst (λ a. atom_true s.trees I a ≡ true) (atom_is table l.atom (TruthAtom p) true'.told.at) (own ∙ true'.positive) in
        arguments_differ s.trees I p is e.earlier e.later distinct truth equal.earlier equal.later same
