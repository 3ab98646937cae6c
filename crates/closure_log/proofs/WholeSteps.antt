-- Steps that say all that a literal does.
use Rattle.std.proofs.Common.{◌≡◌, ℕ, ◌+◌, ◌<◌, ◌≤◌, Bool, true, false, List, [], ◌∷◌, ◌++◌, length, take, nat_eq, All, Contains, refl, sym, ap, ◌∙◌, subst, inl, inr, arith}
use Rattle.std.specs.Prelude.{slice_index_or, if◌then◌else◌}
use Rattle.std.proofs.lemmas.Bool.{cases_lt, eq-eqb}
use Rattle.std.proofs.lemmas.List.Elements.{All-weaker, All-contains_itself, Contains-append_left, Contains-append_right, Contains-push}
use Rattle.literals.specs.Signed.{Signed}
use Rattle.smt_meaning.specs.declared.clauses.Atom.{Atom}
use Rattle.smt_meaning.specs.declared.clauses.Atom.TheVariants.{Truth, Same, AtMost}
use Rattle.smt_meaning.specs.declared.terms.Operator.TheVariants.{Ite}
use Rattle.smt_meaning.specs.declared.terms.Head.{Head}
use Rattle.smt_meaning.specs.declared.terms.Head.TheVariants.{Theory}
use Rattle.smt_meaning.specs.Term.{Tree, tree_at}
use Rattle.smt_meaning.specs.Nodes.{pick}
use Rattle.smt_meaning.specs.Stack.{signature_of}
use Rattle.smt_meaning.specs.StackCommand.{Stack}
use Rattle.term_store.specs.Terms.{tree_with, AreDifferent}
use Rattle.atom_form.specs.AtomTableNumbers.{AreApart}
use Rattle.search_port.specs.State.{IsConsistent}
use Rattle.point_closure.specs.declared.step.Step.{Step}
use Rattle.point_closure.specs.declared.step.Step.TheVariants.{Merge, Differ}
use Rattle.point_closure.specs.Whole.{IsWithin}
use Rattle.congruence.specs.declared.congruence.Congruence.{Congruence}
use Rattle.congruence.specs.Reading.{AreSeen}
use Rattle.congruence.specs.Reasoned.{IsReasoned, IsPartly}
use Rattle.congruence.specs.Steps.{truth_step, pair_step, node_steps, branch_step, choice_steps}
use Rattle.check_atoms.specs.OfStack.{IsNode}
use Rattle.closure_log.specs.Read.{IsOpenTruth, IsToldTruth}
use Rattle.closure_log.specs.Whole.{Gives, IsGrounded, SaysAtom, SaysLiteral, SaysChoice, KeepsSteps}
use Rattle.closure_log.proofs.Reading.{one_place}
use Rattle.closure_log.proofs.Wide.{one_list, head_of, arguments_of}

-- ---- the node of a term

-- where no tree stands twice, the node of a term is determined
pub same_node : (ts : List Tree) (p : ℕ) (h k : Head) (is js : List ℕ) → AreDifferent ts → tree_at ts p ≡ tree_with ts h is → All (λ i. i < length ts) is → IsNode ts p k js → (h ≡ k) × (is ≡ js)
same_node ts p h k is js different tree within n =
    let e : tree_with ts h is ≡ tree_with ts k js = sym tree ∙ n.tree in
    (head_of h k (pick ts is) (pick ts js) e, one_list ts different is js within n.arguments (arguments_of h k (pick ts is) (pick ts js) e))

-- ---- steps stay

pub atom_stays : (ts : List Tree) (old new : List Step) → ((s : Step) → Contains old s → Contains new s) → (b : Bool) (a : Atom) → SaysAtom ts old b a → SaysAtom ts new b a
atom_stays ts old new stays b (Truth t) h = (stays (truth_step t b) h.0, λ k is n. All-weaker (Contains old) (Contains new) stays (node_steps k is b) (h.1 k is n))
atom_stays ts old new stays b (Same i j) h = stays (pair_step i j b) h
atom_stays ts old new stays b (AtMost sum k) h = tt

pub literals_stay : (ts : List Tree) (table : List Atom) (old new : List Step) (log : List Signed) → ((s : Step) → Contains old s → Contains new s) → All (SaysLiteral ts table old) log → All (SaysLiteral ts table new) log
literals_stay ts table old new log stays all k d less = atom_stays ts old new stays (slice_index_or log k d).positive (slice_index_or table (slice_index_or log k d).atom (Truth 0)) (all k d less)

pub partly_keeps : (old new : Congruence) (more : List Step) (r : Signed) → IsPartly old new more r → KeepsSteps old new
partly_keeps old new more r h s c = subst (λ (ss : List Step). Contains ss s) (sym h.steps) (Contains-append_left old.closure.steps.items (take h.count more) s c)

pub more_within : (n m : ℕ) (ss : List Step) → n ≤ m → All (IsWithin n) ss → All (IsWithin m) ss
more_within n m ss le all = All-weaker (IsWithin n) (IsWithin m) (step_within n m le) ss all
  where
    step_within : (n m : ℕ) → n ≤ m → (s : Step) → IsWithin n s → IsWithin m s
    step_within n m le (Merge i j) h = (omega (arith, h.0), omega (arith, h.1))
    step_within n m le (Differ i j) h = (omega (arith, h.0), omega (arith, h.1))

pub still_grounded : (s : Stack) (table : List Atom) (log : List Signed) (old new : Congruence) → IsGrounded s table log old → IsReasoned (signature_of s.frames) s.trees table log new
    → new.closure.graph ≡ old.closure.graph → IsGrounded s table log new
still_grounded s table log old new h reasoned graph = record { reasoned = reasoned; seen = subst (AreSeen s.trees) (sym graph) h.seen }

-- ---- a literal

pub truth_says : (ts : List Tree) (t : ℕ) (v : Bool) (h : Head) (is : List ℕ) (old one new : List Step) → AreDifferent ts → tree_at ts t ≡ tree_with ts h is → All (λ i. i < length ts) is
    → one ≡ old ++ truth_step t v ∷ [] → new ≡ one ++ node_steps h is v → SaysAtom ts new v (Truth t)
truth_says ts t v h is old one new different tree within e f = (
  subst (λ (ss : List Step). Contains ss (truth_step t v)) (sym f)
      (Contains-append_left one (node_steps h is v) (truth_step t v) (subst (λ (ss : List Step). Contains ss (truth_step t v)) (sym e) (Contains-push old (truth_step t v)))),
  λ k js n.
      let same : (h ≡ k) × (is ≡ js) = same_node ts t h k is js different tree within n in
      let steps : node_steps h is v ≡ node_steps k js v = ap (λ (x : Head). node_steps x is v) same.0 ∙ ap (λ (xs : List ℕ). node_steps k xs v) same.1 in
      subst (λ (us : List Step). All (Contains new) us) steps all_there,
)
  where
    there : (s : Step) → Contains (node_steps h is v) s → Contains (one ++ node_steps h is v) s
    there s c = Contains-append_right one (node_steps h is v) s c

    all_there : All (Contains new) (node_steps h is v)
    all_there = subst (λ (ss : List Step). All (Contains ss) (node_steps h is v)) (sym f)
        (All-weaker (Contains (node_steps h is v)) (Contains (one ++ node_steps h is v)) there (node_steps h is v) (All-contains_itself (node_steps h is v)))

-- ---- the truth of a condition

signs_agree : (log : List Signed) (n : ℕ) (b d : Bool) → IsConsistent log → Contains log (record { atom = n; positive = b }) → Contains log (record { atom = n; positive = d }) → b ≡ d
signs_agree log n true true consistent h k = refl
signs_agree log n false false consistent h k = refl
signs_agree log n true false consistent h k = absurd (consistent (record { atom = n; positive = true }) h k)
signs_agree log n false true consistent h k = absurd (consistent (record { atom = n; positive = true }) k h)

module _ (table : List Atom) (log : List Signed) (apart : AreApart table) (p : ℕ) where
  pub told_one : (l : Signed) (b : Bool) → IsConsistent log → IsToldTruth table log p l → Gives table log (Truth p) b → b ≡ l.positive
  told_one l b consistent h g =
      let here : g.number ≡ l.atom = one_place table g.number l.atom (Truth p) apart g.at h.at in
      signs_agree log l.atom b l.positive consistent (subst (λ n. Contains log (record { atom = n; positive = b })) here g.told) h.told

  pub no_number_given : (b : Bool) → (Contains table (Truth p) → ⊥) → Gives table log (Truth p) b → ⊥
  no_number_given b none g = none (g.number, g.at.0, g.at.1 (Truth p))

  pub open_not_given : (l : Signed) (b : Bool) → IsOpenTruth table log p l → Gives table log (Truth p) b → ⊥
  open_not_given l b h g = (h.is_open (record { atom = g.number; positive = b }) (one_place table g.number l.atom (Truth p) apart g.at h.at)).0 g.told

-- ---- choices

branch_said : (p t i j : ℕ) (b : Bool) → Contains (choice_steps p (Theory Ite) (t ∷ i ∷ j ∷ []) t b) (branch_step p i j b)
branch_said p t i j b = taken (nat_eq t t) (eq-eqb t t refl)
  where
    taken : (r : Bool) → r ≡ true → Contains (if r then branch_step p i j b ∷ [] else []) (branch_step p i j b)
    taken true e = (0, omega arith, refl)
    taken false e = cc

module _ (ts : List Tree) (table : List Atom) (log : List Signed) (p : ℕ) (h : Head) (is : List ℕ) (different : AreDifferent ts) (tree : tree_at ts p ≡ tree_with ts h is) (within : All (λ i. i < length ts) is) where
  pub no_choice : (steps : List Step) → (h ≡ Theory Ite → (c i j : ℕ) → is ≡ c ∷ i ∷ j ∷ [] → ⊥) → SaysChoice ts table log steps p
  no_choice steps none t i j b n g =
      let same : (h ≡ Theory Ite) × (is ≡ t ∷ i ∷ j ∷ []) = same_node ts p h (Theory Ite) is (t ∷ i ∷ j ∷ []) different tree within n in
      absurd (none same.0 t i j same.1)

  module _ (condition : ℕ) (its : (c i j : ℕ) → is ≡ c ∷ i ∷ j ∷ [] → condition ≡ c) where
    pub open_choice : (steps : List Step) → ((b : Bool) → Gives table log (Truth condition) b → ⊥) → SaysChoice ts table log steps p
    open_choice steps none t i j b n g =
        let same : (h ≡ Theory Ite) × (is ≡ t ∷ i ∷ j ∷ []) = same_node ts p h (Theory Ite) is (t ∷ i ∷ j ∷ []) different tree within n in
        absurd (none b (subst (λ q. Gives table log (Truth q) b) (sym (its t i j same.1)) g))

    pub taken_choice : (v : Bool) (old more new : List Step) → ((b : Bool) → Gives table log (Truth condition) b → b ≡ v) → more ≡ choice_steps p h is condition v → new ≡ old ++ more → SaysChoice ts table log new p
    taken_choice v old more new one e f t i j b n g =
        let same : (h ≡ Theory Ite) × (is ≡ t ∷ i ∷ j ∷ []) = same_node ts p h (Theory Ite) is (t ∷ i ∷ j ∷ []) different tree within n in
        let here : condition ≡ t = its t i j same.1 in
        let truth : b ≡ v = one b (subst (λ q. Gives table log (Truth q) b) (sym here) g) in
        let steps : more ≡ choice_steps p (Theory Ite) (t ∷ i ∷ j ∷ []) t b =
        e ∙ ap (λ (x : Head). choice_steps p x is condition v) same.0 ∙ ap (λ (xs : List ℕ). choice_steps p (Theory Ite) xs condition v) same.1
        ∙ ap (λ (q : ℕ). choice_steps p (Theory Ite) (t ∷ i ∷ j ∷ []) q v) here ∙ ap (λ (d : Bool). choice_steps p (Theory Ite) (t ∷ i ∷ j ∷ []) t d) (sym truth) in
        subst (λ (ss : List Step). Contains ss (branch_step p i j b)) (sym f)
        (Contains-append_right old more (branch_step p i j b) (subst (λ (ss : List Step). Contains ss (branch_step p i j b)) (sym steps) (branch_said p t i j b)))

pub choice_stays : (ts : List Tree) (table : List Atom) (log : List Signed) (old new : List Step) (p : ℕ) → ((s : Step) → Contains old s → Contains new s) → SaysChoice ts table log old p → SaysChoice ts table log new p
choice_stays ts table log old new p stays h t i j b n g = stays (branch_step p i j b) (h t i j b n g)

-- what is said of the choices before a place, and of that at it, is said of those before the next
pub choices_more : (ts : List Tree) (table : List Atom) (log : List Signed) (old new : List Step) (k : ℕ) → ((s : Step) → Contains old s → Contains new s) → ((p : ℕ) → p < k → SaysChoice ts table log old p)
    → SaysChoice ts table log new k → (p : ℕ) → p < k + 1 → SaysChoice ts table log new p
choices_more ts table log old new k stays before here p less = elim (cases_lt p k) [
  | inl first ↦ choice_stays ts table log old new p stays (before p first)
  | inr last ↦ let e : k ≡ p = omega arith in subst (SaysChoice ts table log new) e here
]
