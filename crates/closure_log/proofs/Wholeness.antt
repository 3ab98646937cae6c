-- What follows where all is recorded that a log says.
use Rattle.std.proofs.Common.{◌≡◌, ℕ, zero, suc, ◌+◌, ◌<◌, ◌≤◌, Bool, true, false, List, [], ◌∷◌, length, map, All, Contains, refl, sym, ap, ◌∙◌, subst, arith}
use Rattle.std.specs.Prelude.{slice_index, slice_index_or, if◌then◌else◌}
use Rattle.std.specs.List.{AllZip}
use Rattle.std.proofs.lemmas.List.{get_or_default}
use Rattle.std.proofs.lemmas.List.Elements.{All-head, All-tail, All-contains, Contains-append_left, Contains-append_right}
use Rattle.literals.specs.Signed.{Signed}
use Rattle.smt_meaning.specs.declared.clauses.Atom.{Atom}
use Rattle.smt_meaning.specs.declared.clauses.Atom.TheVariants.{Truth, Same}
use Rattle.smt_meaning.specs.declared.terms.Operator.TheVariants.{Equal as EqualTo, Distinct}
use Rattle.smt_meaning.specs.declared.terms.Head.{Head}
use Rattle.smt_meaning.specs.declared.terms.Head.TheVariants.{Theory, Symbol}
use Rattle.smt_meaning.specs.Term.{Tree}
use Rattle.smt_meaning.specs.Stack.{signature_of}
use Rattle.smt_meaning.specs.StackCommand.{Stack}
use Rattle.term_store.specs.Terms.{AreDifferent}
use Rattle.smt_laws.specs.Flat.{SaysTheSame, FlatSaysTheSame}
use Rattle.point_closure.specs.declared.step.Step.{Step}
use Rattle.point_closure.specs.declared.step.Step.TheVariants.{Merge, Differ}
use Rattle.point_closure.specs.Closure.{Point, Pair, Equal, AreAlike, point_at}
use Rattle.point_closure.specs.Explained.{merged, step_pairs}
use Rattle.point_closure.specs.Laws.{ClassesAreTheClosure}
use Rattle.point_closure.specs.Unions.{AreUnions}
use Rattle.point_closure.specs.Whole.{AreStepsApart}
use Rattle.point_closure.proofs.LawLemmas.{root_then_equal, equal_then_root}
use Rattle.congruence.specs.declared.congruence.Congruence.{Congruence}
use Rattle.congruence.specs.Clauses.{IsFalseClause, IsToldAtOneLevel}
use Rattle.congruence.specs.Laws.{ClashIsFalseClause}
use Rattle.congruence.specs.Reading.{point_number, point_for, IsSeen}
use Rattle.congruence.specs.Recorded.{AreEqualTerms, IsConsistent, IsConflict as IsClash}
use Rattle.congruence.specs.Steps.{equal_terms, different_terms, neighbours_equal, truth_step}
use Rattle.check_atoms.specs.OfStack.{IsNode}
use Rattle.closure_log.specs.Seen.{state_of, IsSetting}
use Rattle.closure_log.specs.Parts.{IsPlacedLog}
use Rattle.closure_log.specs.Whole.{Gives, HasTruth, AreNeighbours, GivesEqualities, KeepsApart, HasClasses, IsGrounded, SaysAtom, SaysLiteral, SaysAll}
use Rattle.closure_log.proofs.Setting.{atom_is}
use Rattle.closure_log.proofs.Wide.{one_place}
use Rattle.closure_log.proofs.WholeSteps.{same_node}

-- ---- steps

one_pair : (x y : ℕ) → Contains (step_pairs (Merge x y)) (record { left = x; right = y })
one_pair x y = (0, omega arith, refl)

merged_at : (ss : List Step) (s x y : ℕ) → s < length ss → slice_index_or ss s (Merge x y) ≡ Merge x y → Contains (merged ss) (record { left = x; right = y })
merged_at [] s x y less e = absurd (omega arith)
merged_at (t ∷ ts) zero x y less e =
    Contains-append_left (step_pairs t) (merged ts) (record { left = x; right = y }) (subst (λ (u : Step). Contains (step_pairs u) (record { left = x; right = y })) (sym e) (one_pair x y))
merged_at (t ∷ ts) (suc s) x y less e = Contains-append_right (step_pairs t) (merged ts) (record { left = x; right = y }) (merged_at ts s x y (omega arith) e)

merge_gives : (ps : List Point) (ss : List Step) (x y : ℕ) → Contains ss (Merge x y) → Equal ps (merged ss) x y
merge_gives ps ss x y c = Equal.given (merged_at ss c.0 x y c.1 c.2)

differ_forbids : (ps : List Point) (ss : List Step) (x y : ℕ) → AreStepsApart ps ss → Contains ss (Differ x y) → Equal ps (merged ss) x y → ⊥
differ_forbids ps ss x y apart c e = apart c.0 x y c.1 (get_or_default ss c.0 (Differ 0 0) (Differ x y) c.1 ∙ c.2) e

-- ---- equalities

module _ (ts : List Tree) (table : List Atom) (log : List Signed) (c : Congruence) (all : SaysAll ts table log c) where
  said : (a : Atom) (b : Bool) → Gives table log a b → SaysAtom ts c.closure.steps.items b a
  said a b g =
      subst (SaysAtom ts c.closure.steps.items b) (atom_is table g.number a g.at)
      (All-contains (SaysLiteral ts table c.closure.steps.items) log (record { atom = g.number; positive = b }) all.literals g.told)

  equal_by : (i j : ℕ) → Contains c.closure.steps.items (equal_terms i j) → AreEqualTerms c i j
  equal_by i j h = merge_gives c.closure.graph c.closure.steps.items (i + 2) (j + 2) h

  neighbours_by : (i : ℕ) (is : List ℕ) → All (Contains c.closure.steps.items) (neighbours_equal i is) → AreNeighbours c i is
  neighbours_by i [] h = tt
  neighbours_by i (j ∷ js) h = (
    equal_by i j (All-head (Contains c.closure.steps.items) (equal_terms i j) (neighbours_equal j js) h),
    neighbours_by j js (All-tail (Contains c.closure.steps.items) (equal_terms i j) (neighbours_equal j js) h),
  )

  truth_by : (t : ℕ) (b : Bool) → Contains c.closure.steps.items (truth_step t b) → HasTruth c t b
  truth_by t true h = merge_gives c.closure.graph c.closure.steps.items (t + 2) 0 h
  truth_by t false h = merge_gives c.closure.graph c.closure.steps.items (t + 2) 1 h

  pub gives_equalities : GivesEqualities ts table log c
  gives_equalities = record {
    truths = λ t b g. truth_by t b (said (Truth t) b g).0;
    same = λ i j g. equal_by i j (said (Same i j) true g);
    equal = λ p i is n g. neighbours_by i is ((said (Truth p) true g).1 (Theory EqualTo) (i ∷ is) n);
    distinct = λ p i j n g. equal_by i j (All-head (Contains c.closure.steps.items) (equal_terms i j) [] ((said (Truth p) false g).1 (Theory Distinct) (i ∷ j ∷ []) n));
    choices = λ p t i j b n g. equal_by p (if b then i else j) (all.choices p n.within t i j b n g);
  }

  module _ (consistent : IsConsistent c.closure.graph c.closure.steps.items) where
    different_by : (i j : ℕ) → Contains c.closure.steps.items (different_terms i j) → AreEqualTerms c i j → ⊥
    different_by i j h e = differ_forbids c.closure.graph c.closure.steps.items (i + 2) (j + 2) consistent.1 h e

    pub keeps_apart : KeepsApart ts table log c
    keeps_apart = record {
      truths = consistent.0;
      same = λ i j g e. different_by i j (said (Same i j) false g) e;
      equal = λ p i j n g e. different_by i j (All-head (Contains c.closure.steps.items) (different_terms i j) [] ((said (Truth p) false g).1 (Theory EqualTo) (i ∷ j ∷ []) n)) e;
      distinct = λ p i j n g e. different_by i j (All-head (Contains c.closure.steps.items) (different_terms i j) [] ((said (Truth p) true g).1 (Theory Distinct) (i ∷ j ∷ []) n)) e;
    }

-- ---- classes

applied_points : (ps : List Point) (pairs : List Pair) (x y : ℕ) (p q : Point) → point_at ps x ≡ p → point_at ps y ≡ q → AreAlike p q
    → ((k : ℕ) → k < length p.arguments → Equal ps pairs (slice_index p.arguments k) (slice_index q.arguments k)) → Equal ps pairs x y
applied_points ps pairs x y p q e f alike arguments =
    Equal.applied (subst (λ (r : Point). AreAlike r (point_at ps y)) (sym e) (subst (AreAlike p) (sym f) alike))
    (subst (λ (r : Point). (k : ℕ) → k < length r.arguments → Equal ps pairs (slice_index r.arguments k) (slice_index (point_at ps y).arguments k)) (sym e)
    (subst (λ (r : Point). (k : ℕ) → k < length p.arguments → Equal ps pairs (slice_index p.arguments k) (slice_index r.arguments k)) (sym f) arguments))

zip_length : (c : Congruence) (is js : List ℕ) → AllZip (AreEqualTerms c) is js → length (map point_number is) ≡ length (map point_number js)
zip_length c [] [] h = refl
zip_length c [] (j ∷ js) h = absurd h
zip_length c (i ∷ is) [] h = absurd h
zip_length c (i ∷ is) (j ∷ js) h = ap suc (zip_length c is js h.1)

zip_at : (c : Congruence) (is js : List ℕ) → AllZip (AreEqualTerms c) is js → (k : ℕ) → k < length (map point_number is)
    → Equal c.closure.graph (merged c.closure.steps.items) (slice_index (map point_number is) k) (slice_index (map point_number js) k)
zip_at c [] js h k less = absurd (omega arith)
zip_at c (i ∷ is) [] h k less = absurd h
zip_at c (i ∷ is) (j ∷ js) h zero less = h.0
zip_at c (i ∷ is) (j ∷ js) h (suc k) less = zip_at c is js h.1 k (omega arith)

module _ (s : Stack) (table : List Atom) (log : List Signed) (c : Congruence) (grounded : IsGrounded s table log c) (different : AreDifferent s.trees) where
  its_point : (p : ℕ) (h : Head) (is : List ℕ) → IsNode s.trees p h is → point_at c.closure.graph (p + 2) ≡ point_for h is
  its_point p h is n =
      let every : length s.trees + 2 ≤ length c.closure.graph = grounded.reasoned.every in
      let inside : p < length s.trees = n.within in
      let seen : IsSeen s.trees c.closure.graph p = grounded.seen p (omega arith) in
      let same : (seen.head ≡ h) × (seen.arguments ≡ is) = same_node s.trees p seen.head h seen.arguments is different seen.tree (below seen.arguments inside seen.earlier) n in
      seen.point ∙ ap (λ (k : Head). point_for k seen.arguments) same.0 ∙ ap (λ (js : List ℕ). point_for h js) same.1
    where
      below : (is : List ℕ) → p < length s.trees → All (λ i. i < p) is → All (λ i. i < length s.trees) is
      below is inside all k d less = let low : slice_index_or is k d < p = all k d less in omega arith

  applications : (p q f : ℕ) (is js : List ℕ) → IsNode s.trees p (Symbol f) is → IsNode s.trees q (Symbol f) js → AllZip (AreEqualTerms c) is js → AreEqualTerms c p q
  applications p q f [] [] n m h =
      let one : p ≡ q = one_place s.trees p q different n.within m.within (n.tree ∙ sym m.tree) in
      subst (AreEqualTerms c p) one Equal.same
  applications p q f [] (j ∷ js) n m h = absurd h
  applications p q f (i ∷ is) [] n m h = absurd h
  applications p q f (i ∷ is) (j ∷ js) n m h =
      applied_points c.closure.graph (merged c.closure.steps.items) (p + 2) (q + 2) (point_for (Symbol f) (i ∷ is)) (point_for (Symbol f) (j ∷ js)) (its_point p (Symbol f) (i ∷ is) n) (its_point q (Symbol f) (j ∷ js) m)
      (record { shape = refl; takes = refl; count = zip_length c (i ∷ is) (j ∷ js) h }) (zip_at c (i ∷ is) (j ∷ js) h)

  pub has_classes : ClassesAreTheClosure → AreUnions c.closure.classes.count c.closure.classes.unions → HasClasses s.trees c
  has_classes law are = record {
    classes = λ i j. (root_then_equal c.closure law grounded.reasoned.recorded.whole are (i + 2) (j + 2), equal_then_root c.closure law grounded.reasoned.recorded.whole are (i + 2) (j + 2));
    applied = applications;
  }

-- ---- a clause that is false

module _ (s : Stack) (table : List Atom) (log : List Signed) (places : List ℕ) (setting : IsSetting s table) (placed : IsPlacedLog table log places) where
  pub told_at_one_level : FlatSaysTheSame → IsToldAtOneLevel (signature_of s.frames) (state_of s table log)
  told_at_one_level flat_law =
      let same : SaysTheSame s.frames = flat_law s.frames in
      record {
        one_level = same.every_level;
        declares = same.signature;
        atoms = setting.declared;
        within = placed.numbered;
        consistent = placed.consistent;
      }

  pub clash_is_false : ClashIsFalseClause → (c : Congruence) (ls : List Signed) → IsGrounded s table log c → IsClash c ls → IsFalseClause (signature_of s.frames) s.trees table log ls
  clash_is_false law c ls h clash = law (signature_of s.frames) s.trees table c log ls h.reasoned.read h.reasoned.justified h.reasoned.told clash
