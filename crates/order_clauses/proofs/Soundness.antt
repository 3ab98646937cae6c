-- The clauses are sound.
use Rattle.std.proofs.Common.{◌≡◌, ◌≢◌, ℕ, zero, suc, ◌<◌, Bool, true, false, not, List, [], ◌∷◌, map, length, All, Contains, refl, sym, ap, ◌∙◌, arith}
use Rattle.std.specs.Prelude.{flat_map, slice_index_or, IsTrue, ℤ, pos, int_le, Some}
use Rattle.std.proofs.lemmas.List.Elements.{All-cons, All-nil, All-head, All-tail, All-append, All-map, All-weaker, All-contains}
use Rattle.literals.specs.Signed.{Signed, opposite}
use Rattle.smt_meaning.specs.declared.values.Value.{Value}
use Rattle.smt_meaning.specs.declared.values.Value.TheVariants.{Truth as TruthValue, Whole, Element}
use Rattle.smt_meaning.specs.declared.values.Sort.TheVariants.{Int as Ints}
use Rattle.smt_meaning.specs.declared.terms.Operator.{Operator}
use Rattle.smt_meaning.specs.declared.terms.Operator.TheVariants.{Ite}
use Rattle.smt_meaning.specs.declared.terms.Head.TheVariants.{Theory}
use Rattle.smt_meaning.specs.declared.clauses.Summand.{Summand}
use Rattle.smt_meaning.specs.declared.clauses.Atom.{Atom}
use Rattle.smt_meaning.specs.declared.clauses.Atom.TheVariants.{Truth, AtMost, Same}
use Rattle.smt_meaning.specs.Declaration.{Declaration}
use Rattle.smt_meaning.specs.Term.{Tree, node, tree_at, Interpretation, value, values, truth_of, operate}
use Rattle.smt_meaning.specs.Signature.{tree_sort}
use Rattle.smt_meaning.specs.Interpretation.{Interprets, has_sort}
use Rattle.smt_meaning.specs.Nodes.{pick}
use Rattle.smt_meaning.specs.Clause.{value_at, atom_true}
use Rattle.smt_meaning.specs.Atoms.{normal_bound}
use Rattle.smt_laws.specs.TermLaws.{ValueHasItsSort}
use Rattle.search_port.specs.State.{atom_at}
use Rattle.clause_form.specs.Node.{HasNoAtomTwice}
use Rattle.equality_clauses.specs.Ties.{comparison_clauses, choice_clauses}
use Rattle.equality_clauses.specs.Laws.{IsOver, AllTrue, compares, ComparisonIsTied, ComparisonIsOver, ChoiceIsTied, ChoiceIsOver, InterpretationAgrees}
use Rattle.bound_clauses.specs.declared.orders.Sense.{Sense}
use Rattle.bound_clauses.specs.declared.orders.Sense.TheVariants.{NotAbove, Below}
use Rattle.bound_clauses.specs.declared.orders.Order.{Order}
use Rattle.bound_clauses.specs.Orders.{order, order_atoms, bound_atom}
use Rattle.bound_clauses.specs.Ties.{order_clauses, equal_clauses, constant_clauses}
use Rattle.bound_clauses.specs.Laws.{orders, IsReadable, IsNumber, OrderIsOver, EqualityIsOver, ConstantIsOver, OrderClausesAreTrue, EqualityClausesAreTrue, ConstantHasValue}
pub use Rattle.smt_laws.proofs.FrontAndBack.{all_front as All-left, all_back as All-right}
use Rattle.order_clauses.specs.declared.pairs.Pair.{Pair}
use Rattle.order_clauses.specs.Pairs.{pair, pairs_of, same_atom, orders_of_pair}
use Rattle.order_clauses.specs.Numbers.{number_in}
use Rattle.order_clauses.specs.Clauses.{truth_number, same_number, bound_number, constant_of, of_bound, order_part, int_tie, tie, equality_part, choice_part}
use Rattle.order_clauses.specs.Needed.{atoms_of_order, atoms_of_pair, atoms_of_equality, atoms_of_choice}
use Rattle.order_clauses.specs.Sound.{IsSound, AreSound}
use Rattle.order_clauses.proofs.Numbering.{found}
use Rattle.order_clauses.proofs.Pairing.{pairs_atoms, pairs_both}

-- ---- lists

pub All-unmap : {A B : Type 0} (P : B → Type 0) (f : A → B) (xs : List A) → All P (map f xs) → All (λ x. P (f x)) xs
All-unmap P f [] h = All-nil (λ x. P (f x))
All-unmap P f (x ∷ xs) h = All-cons (λ y. P (f y)) x xs (All-head P (f x) (map f xs) h) (All-unmap P f xs (All-tail P (f x) (map f xs) h))

pub All-flat : {A B : Type 0} (P : A → Type 0) (Q : B → Type 0) (f : A → List B) → ((x : A) → P x → All Q (f x)) → (xs : List A) → All P xs → All Q (flat_map f xs)
All-flat P Q f h [] all = All-nil Q
All-flat P Q f h (x ∷ xs) all = All-append Q (f x) (flat_map f xs) (h x (All-head P x xs all)) (All-flat P Q f h xs (All-tail P x xs all))

pub All-unflat : {A B : Type 0} (Q : B → Type 0) (f : A → List B) (xs : List A) → All Q (flat_map f xs) → All (λ x. All Q (f x)) xs
All-unflat Q f [] h = All-nil (λ x. All Q (f x))
All-unflat Q f (x ∷ xs) h = All-cons (λ y. All Q (f y)) x xs (All-left Q (f x) (flat_map f xs) h) (All-unflat Q f xs (All-right Q (f x) (flat_map f xs) h))

pub All-both : {A : Type 0} (P Q : A → Type 0) (xs : List A) → All P xs → All Q xs → All (λ x. P x × Q x) xs
All-both P Q [] h k = All-nil (λ x. P x × Q x)
All-both P Q (x ∷ xs) h k = All-cons (λ y. P y × Q y) x xs (All-head P x xs h, All-head Q x xs k) (All-both P Q xs (All-tail P x xs h) (All-tail Q x xs k))

-- ---- no atom has both signs

not_opposite : (b : Bool) → b ≡ not b → ⊥
not_opposite true h = cc
not_opposite false h = cc

pub no_pair_at : (ls : List Signed) → HasNoAtomTwice ls → (l : Signed) (j k : ℕ) → j < length ls → k < length ls → slice_index_or ls j l ≡ l → slice_index_or ls k (opposite l) ≡ opposite l → ⊥
no_pair_at [] h l j k a b p q = absurd (omega arith)
no_pair_at (m ∷ ls) h l zero zero a b p q = not_opposite l.positive (ap (λ (x : Signed). x.positive) (sym p ∙ q))
no_pair_at (m ∷ ls) h l zero (suc k) a b p q = h.0 k (opposite l) (omega arith) (ap (λ (x : Signed). x.atom) p ∙ sym (ap (λ (x : Signed). x.atom) q))
no_pair_at (m ∷ ls) h l (suc j) zero a b p q = h.0 j l (omega arith) (ap (λ (x : Signed). x.atom) q ∙ sym (ap (λ (x : Signed). x.atom) p))
no_pair_at (m ∷ ls) h l (suc j) (suc k) a b p q = no_pair_at ls h.1 l j k (omega arith) (omega arith) p q

-- ---- kinds of atoms

abbrev pub kind : Atom → ℕ
kind (Truth p) = 0
kind (AtMost sum k) = 1
kind (Same i j) = 2

pub normal_kind : (ps : List Summand) (k : ℤ) → kind (normal_bound ps k) ≡ 1
normal_kind [] k = refl
normal_kind (p ∷ ps) k = refl

bound_kind : (ts : List Tree) (s : Sense) (i j : ℕ) → kind (bound_atom ts (order s i j)) ≡ 1
bound_kind ts NotAbove i j = normal_kind _ _
bound_kind ts Below i j = normal_kind _ _

no_truth : (m : ℕ) → m ≡ 1 → m ≡ 0 → ⊥
no_truth m h k = omega (arith, h, k)

no_same : (m : ℕ) → m ≡ 1 → 2 ≡ m → ⊥
no_same m h k = omega (arith, h, k)

-- ---- values

whole : (v : Value) → IsTrue (has_sort v Ints) → IsNumber v
whole (TruthValue b) h = absurd (let x : false ≡ true = h in cc)
whole (Whole n) h = refl
whole (Element e) h = absurd (let x : false ≡ true = h in cc)

values_picked : (ts : List Tree) (I : Interpretation) (is : List ℕ) → values I (pick ts is) ≡ map (value_at ts I) is
values_picked ts I [] = refl
values_picked ts I (i ∷ is) = ap (λ vs. value_at ts I i ∷ vs) (values_picked ts I is)

-- ---- numbers of atoms of a table

module _ (table : List Atom) where
  pub number_read : (a : Atom) → Contains table a → atom_at table (number_in table a) ≡ a
  number_read a c = (found table a c).1 (Truth 0)

  pub number_within : (a : Atom) → Contains table a → number_in table a < length table
  number_within a c = (found table a c).0

  pub number_apart : (a b : Atom) → Contains table a → Contains table b → (kind a ≡ kind b → ⊥) → number_in table a ≢ number_in table b
  number_apart a b ca cb h e = h (ap kind (sym (number_read a ca) ∙ ap (atom_at table) e ∙ number_read b cb))

  module _ {X : Type 0} (f : X → Atom) where
    numbers_read : (xs : List X) → All (λ x. Contains table (f x)) xs → map (atom_at table) (map (λ x. number_in table (f x)) xs) ≡ map f xs
    numbers_read [] h = refl
    numbers_read (x ∷ xs) h =
        ap (λ a. a ∷ map (atom_at table) (map (λ y. number_in table (f y)) xs)) (number_read (f x) (All-head (λ y. Contains table (f y)) x xs h))
        ∙ ap (λ bs. f x ∷ bs) (numbers_read xs (All-tail (λ y. Contains table (f y)) x xs h))

    pub numbers_within : (xs : List X) → All (λ x. Contains table (f x)) xs → All (λ n. n < length table) (map (λ x. number_in table (f x)) xs)
    numbers_within xs h =
        All-map (λ n. n < length table) (λ x. number_in table (f x)) xs (All-weaker (λ x. Contains table (f x)) (λ x. number_in table (f x) < length table) (λ x c. number_within (f x) c) xs h)

    numbers_apart : (a : Atom) → Contains table a → ((x : X) → kind (f x) ≡ kind a → ⊥) → (xs : List X) → All (λ x. Contains table (f x)) xs → Contains (map (λ x. number_in table (f x)) xs) (number_in table a) → ⊥
    numbers_apart a ca h xs all c =
        All-contains (λ n. n ≢ number_in table a) (map (λ x. number_in table (f x)) xs) (number_in table a)
        (All-map (λ n. n ≢ number_in table a) (λ x. number_in table (f x)) xs
        (All-weaker (λ x. Contains table (f x)) (λ x. number_in table (f x) ≢ number_in table a) (λ x cx. number_apart (f x) a cx ca (h x)) xs all)) c refl

pub sames_known : (ts : List Tree) (table : List Atom) (int : Bool) (qs : List Pair) → All (Contains table) (flat_map (atoms_of_pair ts int) qs) → All (λ q. Contains table (same_atom q)) qs
sames_known ts table int qs has =
    All-weaker (λ q. All (Contains table) (atoms_of_pair ts int q)) (λ q. Contains table (same_atom q)) (λ q h. first int q h) qs (All-unflat (Contains table) (atoms_of_pair ts int) qs has)
  where
    first : (b : Bool) (q : Pair) → All (Contains table) (atoms_of_pair ts b q) → Contains table (same_atom q)
    first true q h = All-head (Contains table) (same_atom q) (map (bound_atom ts) (orders_of_pair q)) h
    first false q h = All-head (Contains table) (same_atom q) [] h

-- ---- soundness

module _ (ds : List Declaration) (ts : List Tree) (table : List Atom) where
  sound_all : (ns : List ℕ) (cs : List (List Signed)) → All (IsOver ns) cs → All (λ n. n < length table) ns → ((I : Interpretation) → Interprets ds I → AllTrue (λ n. atom_true ts I (atom_at table n)) cs) → AreSound ds ts table cs
  sound_all ns cs is_over within valid = λ k d l.
      let ls : List Signed = slice_index_or cs k d in
      let o : IsOver ns ls = is_over k d l in
      let inside : All (λ (m : Signed). m.atom < length table) ls =
      All-weaker (λ (m : Signed). Contains ns m.atom) (λ (m : Signed). m.atom < length table) (λ m c. All-contains (λ j. j < length table) ns m.atom within c) ls o.over in
      record {
        over = record {
          within = λ m c. All-contains (λ (x : Signed). x.atom < length table) ls m inside c;
          no_pair = λ m a b. no_pair_at ls o.once m a.0 b.0 a.1 b.1 a.2 b.2;
        };
        once = o.once;
        valid = λ I i. valid I i k d l;
      }

  -- ---- bounds of the empty sum

  module _ (is_over : ConstantIsOver) (has_value : ConstantHasValue) where
    pub constant_sound : (a : Atom) (n : ℕ) → n < length table → atom_at table n ≡ a → AreSound ds ts table (constant_of n a)
    constant_sound (AtMost [] k) n l e =
        sound_all (n ∷ []) (constant_clauses n (int_le (pos 0) k)) (is_over n (int_le (pos 0) k)) (All-cons (λ m. m < length table) n [] l (All-nil (λ m. m < length table)))
        (λ I i. has_value ts I (atom_at table) n k e)
    constant_sound (AtMost (p ∷ ps) k) n l e = All-nil (IsSound ds ts table)
    constant_sound (Truth p) n l e = All-nil (IsSound ds ts table)
    constant_sound (Same i j) n l e = All-nil (IsSound ds ts table)

    bounds_sound : (os : List Order) → All (λ o. Contains table (bound_atom ts o)) os → AreSound ds ts table (flat_map (of_bound ts table) os)
    bounds_sound os h =
        All-flat (λ o. Contains table (bound_atom ts o)) (IsSound ds ts table) (of_bound ts table)
        (λ o c. constant_sound (bound_atom ts o) (bound_number ts table o) (number_within table (bound_atom ts o) c) (number_read table (bound_atom ts o) c)) os h

    -- ---- comparisons

    pub order_sound : OrderIsOver → OrderClausesAreTrue → (o : Operator) (p : ℕ) (is : List ℕ) → IsTrue (orders o) → All (IsReadable ts) is → tree_at ts p ≡ node (Theory o) (pick ts is)
        → All (Contains table) (atoms_of_order ts o p is) → AreSound ds ts table (order_part ts table o p is)
    order_sound order_over are_true o p is h readable e has =
        let os : List Order = order_atoms o is in
        let truth : Contains table (Truth p) = All-head (Contains table) (Truth p) (map (bound_atom ts) os) has in
        let bounds : All (λ q. Contains table (bound_atom ts q)) os = All-unmap (Contains table) (bound_atom ts) os (All-tail (Contains table) (Truth p) (map (bound_atom ts) os) has) in
        let t : ℕ = truth_number table p in
        let ns : List ℕ = map (bound_number ts table) os in
        All-append (IsSound ds ts table) (flat_map (of_bound ts table) os) (order_clauses t ns) (bounds_sound os bounds)
        (sound_all (t ∷ ns) (order_clauses t ns)
        (order_over t ns (numbers_apart table (bound_atom ts) (Truth p) truth (λ q k. no_truth (kind (bound_atom ts q)) (bound_kind ts q.sense q.lesser q.greater) k) os bounds))
        (All-cons (λ m. m < length table) t ns (number_within table (Truth p) truth) (numbers_within table (bound_atom ts) os bounds))
        (λ I i. are_true ts I (atom_at table) o t p ns is h readable (number_read table (Truth p) truth) e (numbers_read table (bound_atom ts) os bounds)))

    -- ---- equalities

    module _ (value_sort : ValueHasItsSort) (equality_over : EqualityIsOver) (equality_true : EqualityClausesAreTrue) where
      number_at : (I : Interpretation) (i : ℕ) → Interprets ds I → tree_sort ds (tree_at ts i) ≡ Some Ints → IsNumber (value_at ts I i)
      number_at I i is e = whole (value_at ts I i) (value_sort ds I (tree_at ts i) Ints is e)

      -- both terms of a pair are readable, and Ints where this is said
      abbrev pub IsReadablePair : Bool → Pair → Type 0
      IsReadablePair int q =
          (IsReadable ts q.left × IsReadable ts q.right) × (int ≡ true → (tree_sort ds (tree_at ts q.left) ≡ Some Ints) × (tree_sort ds (tree_at ts q.right) ≡ Some Ints))

      int_tie_sound : (q : Pair) → IsReadablePair true q → Contains table (same_atom q) → All (Contains table) (map (bound_atom ts) (orders_of_pair q)) → AreSound ds ts table (int_tie ts table q)
      int_tie_sound q h same has =
          let i : ℕ = q.left in
          let j : ℕ = q.right in
          let bounds : All (λ o. Contains table (bound_atom ts o)) (orders_of_pair q) = All-unmap (Contains table) (bound_atom ts) (orders_of_pair q) has in
          let below : Contains table (bound_atom ts (order NotAbove i j)) = All-head (λ o. Contains table (bound_atom ts o)) (order NotAbove i j) (order NotAbove j i ∷ []) bounds in
          let above : Contains table (bound_atom ts (order NotAbove j i)) =
          All-head (λ o. Contains table (bound_atom ts o)) (order NotAbove j i) [] (All-tail (λ o. Contains table (bound_atom ts o)) (order NotAbove i j) (order NotAbove j i ∷ []) bounds) in
          let s : ℕ = same_number table q in
          let b : ℕ = bound_number ts table (order NotAbove i j) in
          let a : ℕ = bound_number ts table (order NotAbove j i) in
          All-append (IsSound ds ts table) (flat_map (of_bound ts table) (orders_of_pair q)) (equal_clauses s b a) (bounds_sound (orders_of_pair q) bounds)
          (sound_all (s ∷ b ∷ a ∷ []) (equal_clauses s b a)
          (equality_over s b a
          (number_apart table (same_atom q) (bound_atom ts (order NotAbove i j)) same below (λ k. no_same (kind (bound_atom ts (order NotAbove i j))) (bound_kind ts NotAbove i j) k))
          (number_apart table (same_atom q) (bound_atom ts (order NotAbove j i)) same above (λ k. no_same (kind (bound_atom ts (order NotAbove j i))) (bound_kind ts NotAbove j i) k)))
          (All-cons (λ m. m < length table) s (b ∷ a ∷ []) (number_within table (same_atom q) same)
          (All-cons (λ m. m < length table) b (a ∷ []) (number_within table (bound_atom ts (order NotAbove i j)) below)
          (All-cons (λ m. m < length table) a [] (number_within table (bound_atom ts (order NotAbove j i)) above) (All-nil (λ m. m < length table)))))
          (λ I is. equality_true ts I (atom_at table) s b a i j h.0.0 h.0.1 (number_at I i is (h.1 refl).0) (number_at I j is (h.1 refl).1)
          (number_read table (same_atom q) same) (number_read table (bound_atom ts (order NotAbove i j)) below) (number_read table (bound_atom ts (order NotAbove j i)) above)))

      tie_sound : (int : Bool) (q : Pair) → IsReadablePair int q → All (Contains table) (atoms_of_pair ts int q) → AreSound ds ts table (tie ts table int q)
      tie_sound true q h has = int_tie_sound q h (All-head (Contains table) (same_atom q) (map (bound_atom ts) (orders_of_pair q)) has) (All-tail (Contains table) (same_atom q) (map (bound_atom ts) (orders_of_pair q)) has)
      tie_sound false q h has = All-nil (IsSound ds ts table)

      abbrev IsGood : Bool → Pair → Type 0
      IsGood int q = IsReadablePair int q × All (Contains table) (atoms_of_pair ts int q)

      ties_sound : (int : Bool) (qs : List Pair) → All (IsReadablePair int) qs → All (Contains table) (flat_map (atoms_of_pair ts int) qs) → AreSound ds ts table (flat_map (tie ts table int) qs)
      ties_sound int qs h has =
          All-flat (IsGood int) (IsSound ds ts table) (tie ts table int) (λ q g. tie_sound int q g.0 g.1) qs
          (All-both (IsReadablePair int) (λ q. All (Contains table) (atoms_of_pair ts int q)) qs h (All-unflat (Contains table) (atoms_of_pair ts int) qs has))

      readable_pairs : (int : Bool) (o : Operator) (is : List ℕ) → All (IsReadable ts) is → (int ≡ true → All (λ i. tree_sort ds (tree_at ts i) ≡ Some Ints) is) → All (IsReadablePair int) (pairs_of o is)
      readable_pairs true o is readable ints =
          All-weaker (λ (q : Pair). (IsReadable ts q.left × (tree_sort ds (tree_at ts q.left) ≡ Some Ints)) × (IsReadable ts q.right × (tree_sort ds (tree_at ts q.right) ≡ Some Ints))) (IsReadablePair true)
          (λ q h. ((h.0.0, h.1.0), λ _. (h.0.1, h.1.1))) (pairs_of o is)
          (pairs_both (λ i. IsReadable ts i × (tree_sort ds (tree_at ts i) ≡ Some Ints)) o is (All-both (IsReadable ts) (λ i. tree_sort ds (tree_at ts i) ≡ Some Ints) is readable (ints refl)))
      readable_pairs false o is readable ints =
          All-weaker (λ (q : Pair). IsReadable ts q.left × IsReadable ts q.right) (IsReadablePair false) (λ q h. (h, λ e. absurd (let x : false ≡ true = e in cc))) (pairs_of o is)
          (pairs_both (IsReadable ts) o is readable)

      pub equality_sound : ComparisonIsTied → ComparisonIsOver → InterpretationAgrees → (int : Bool) (o : Operator) (p : ℕ) (is : List ℕ) → IsTrue (compares o) → All (IsReadable ts) is
          → (int ≡ true → All (λ i. tree_sort ds (tree_at ts i) ≡ Some Ints) is) → tree_at ts p ≡ node (Theory o) (pick ts is)
          → All (Contains table) (atoms_of_equality ts int o p is) → AreSound ds ts table (equality_part ts table int o p is)
      equality_sound tied comparison_over agrees int o p is h readable ints e has =
          let qs : List Pair = pairs_of o is in
          let truth : Contains table (Truth p) = All-head (Contains table) (Truth p) (flat_map (atoms_of_pair ts int) qs) has in
          let rest : All (Contains table) (flat_map (atoms_of_pair ts int) qs) = All-tail (Contains table) (Truth p) (flat_map (atoms_of_pair ts int) qs) has in
          let sames : All (λ q. Contains table (same_atom q)) qs = sames_known ts table int qs rest in
          let t : ℕ = truth_number table p in
          let ns : List ℕ = map (same_number table) qs in
          All-append (IsSound ds ts table) (flat_map (tie ts table int) qs) (comparison_clauses o t ns) (ties_sound int qs (readable_pairs int o is readable ints) rest)
          (sound_all (t ∷ ns) (comparison_clauses o t ns)
          (comparison_over o t ns (numbers_apart table same_atom (Truth p) truth (λ q k. cc) qs sames))
          (All-cons (λ m. m < length table) t ns (number_within table (Truth p) truth) (numbers_within table same_atom qs sames))
          (λ I i. (tied o (value_at ts I) (λ n. atom_true ts I (atom_at table n)) t ns is h (agrees ts I (atom_at table) o ns is (numbers_read table same_atom qs sames ∙ pairs_atoms o is))).0
          (ap (atom_true ts I) (number_read table (Truth p) truth) ∙ ap (λ u. truth_of (value I u)) e ∙ ap (λ vs. truth_of (operate o vs)) (values_picked ts I is))))

      pub choice_sound : ChoiceIsTied → ChoiceIsOver → (p c i j : ℕ) → All (IsReadable ts) (p ∷ i ∷ j ∷ []) → All (λ k. tree_sort ds (tree_at ts k) ≡ Some Ints) (p ∷ i ∷ j ∷ [])
          → tree_at ts p ≡ node (Theory Ite) (pick ts (c ∷ i ∷ j ∷ [])) → All (Contains table) (atoms_of_choice ts p c i j) → AreSound ds ts table (choice_part ts table p c i j)
      choice_sound tied choice_over p c i j readable ints e has =
          let qs : List Pair = pair p i ∷ pair p j ∷ [] in
          let truth : Contains table (Truth c) = All-head (Contains table) (Truth c) (flat_map (atoms_of_pair ts true) qs) has in
          let rest : All (Contains table) (flat_map (atoms_of_pair ts true) qs) = All-tail (Contains table) (Truth c) (flat_map (atoms_of_pair ts true) qs) has in
          let sames : All (λ q. Contains table (same_atom q)) qs = sames_known ts table true qs rest in
          let first : Contains table (Same p i) = All-head (λ q. Contains table (same_atom q)) (pair p i) (pair p j ∷ []) sames in
          let second : Contains table (Same p j) = All-head (λ q. Contains table (same_atom q)) (pair p j) [] (All-tail (λ q. Contains table (same_atom q)) (pair p i) (pair p j ∷ []) sames) in
          let t : ℕ = truth_number table c in
          let f : ℕ = same_number table (pair p i) in
          let s : ℕ = same_number table (pair p j) in
          All-append (IsSound ds ts table) (flat_map (tie ts table true) qs) (choice_clauses t f s) (ties_sound true qs (choice_pairs p i j readable ints) rest)
          (sound_all (t ∷ f ∷ s ∷ []) (choice_clauses t f s)
          (choice_over t f s (number_apart table (Truth c) (Same p i) truth first (λ k. cc)) (number_apart table (Truth c) (Same p j) truth second (λ k. cc)))
          (All-cons (λ m. m < length table) t (f ∷ s ∷ []) (number_within table (Truth c) truth)
          (All-cons (λ m. m < length table) f (s ∷ []) (number_within table (Same p i) first)
          (All-cons (λ m. m < length table) s [] (number_within table (Same p j) second) (All-nil (λ m. m < length table)))))
          (λ I is. (tied (value_at ts I) (λ n. atom_true ts I (atom_at table n)) t f s p c i j
          (ap (atom_true ts I) (number_read table (Truth c) truth)) (ap (atom_true ts I) (number_read table (Same p i) first)) (ap (atom_true ts I) (number_read table (Same p j) second))).0
          (ap (value I) e)))
        where
          choice_pairs : (p i j : ℕ) → All (IsReadable ts) (p ∷ i ∷ j ∷ []) → All (λ k. tree_sort ds (tree_at ts k) ≡ Some Ints) (p ∷ i ∷ j ∷ []) → All (IsReadablePair true) (pair p i ∷ pair p j ∷ [])
          choice_pairs p i j r s =
              let at_p : IsReadable ts p = All-head (IsReadable ts) p (i ∷ j ∷ []) r in
              let at_i : IsReadable ts i = All-head (IsReadable ts) i (j ∷ []) (All-tail (IsReadable ts) p (i ∷ j ∷ []) r) in
              let at_j : IsReadable ts j = All-head (IsReadable ts) j [] (All-tail (IsReadable ts) i (j ∷ []) (All-tail (IsReadable ts) p (i ∷ j ∷ []) r)) in
              All-cons (IsReadablePair true) (pair p i) (pair p j ∷ [])
              ((at_p, at_i), λ e. (All-contains (λ k. tree_sort ds (tree_at ts k) ≡ Some Ints) (p ∷ i ∷ j ∷ []) p s (0, omega arith, refl), All-contains (λ k. tree_sort ds (tree_at ts k) ≡ Some Ints) (p ∷ i ∷ j ∷ []) i s (1, omega arith, refl)))
              (All-cons (IsReadablePair true) (pair p j) []
              ((at_p, at_j), λ e. (All-contains (λ k. tree_sort ds (tree_at ts k) ≡ Some Ints) (p ∷ i ∷ j ∷ []) p s (0, omega arith, refl), All-contains (λ k. tree_sort ds (tree_at ts k) ≡ Some Ints) (p ∷ i ∷ j ∷ []) j s (2, omega arith, refl)))
              (All-nil (IsReadablePair true)))
