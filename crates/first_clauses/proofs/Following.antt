-- The clauses of parts and of assertions follow.
use Rattle.std.proofs.Common.{◌≡◌, ℕ, zero, suc, ◌<◌, Bool, true, false, not, ◌||◌, List, [], ◌∷◌, ◌++◌, map, length, All, Contains, Some, slice_index_or, subst, sym, ap, ◌∙◌, arith, refl}
use Rattle.std.proofs.lemmas.List.Elements.{All-nil, All-cons, All-head, All-tail, All-weaker, All-contains, All-same}
use Rattle.literals.specs.Signed.{Signed, opposite}
use Rattle.smt_meaning.specs.declared.values.Value.{Value}
use Rattle.smt_meaning.specs.declared.values.Value.TheVariants.{Truth as TruthValue, Whole, Element}
use Rattle.smt_meaning.specs.declared.values.Sort.TheVariants.{Bool as Truths}
use Rattle.smt_meaning.specs.declared.clauses.Atom.{Atom}
use Rattle.smt_meaning.specs.declared.clauses.Atom.TheVariants.{Truth}
use Rattle.smt_meaning.specs.declared.terms.Operator.{Operator}
use Rattle.smt_meaning.specs.declared.terms.Head.TheVariants.{Theory}
use Rattle.smt_meaning.specs.Declaration.{Declaration}
use Rattle.smt_meaning.specs.Term.{Tree, tree_at, Interpretation, value, values, truth_of, operate}
use Rattle.smt_meaning.specs.Nodes.{pick}
use Rattle.smt_meaning.specs.Clause.{symbols_at, atom_places, atom_true}
use Rattle.smt_meaning.specs.Interpretation.{Interprets, has_sort}
use Rattle.smt_meaning.specs.Signature.{tree_sort}
use Rattle.smt_meaning.specs.Stack.{signature_of, assertions_of, up_to, Satisfies}
use Rattle.smt_meaning.specs.StackCommand.{Stack}
use Rattle.term_store.specs.Terms.{tree_with}
use Rattle.search_port.specs.State.{atom_at, truth, truth_atoms}
use Rattle.search_port.specs.Valid.{IsOver, IsOf, IsAtLevel}
use Rattle.clause_form.specs.Node.{IsOfNode, NodeClausesHold, literals_of_node}
use Rattle.smt_laws.specs.TermLaws.{ValueHasItsSort}
use Rattle.smt_laws.specs.Flat.{flat, FlatSaysTheSame}
use Rattle.atom_form.specs.AtomTableNumbers.{IsAt}
use Rattle.order_clauses.specs.Sound.{IsSound, AreSound}
use Rattle.first_clauses.specs.Numbers.{AreNumbers}
use Rattle.first_clauses.specs.PartClausesFirst.{unit, IsClause}
use Rattle.first_clauses.specs.Turned.{Negates, AreTurned}
use Rattle.first_clauses.proofs.Numbering.{numbers_within}
use Rattle.first_clauses.specs.Triangles.{IsEquality, Joins, NumberMakesSame}
use Rattle.first_clauses.proofs.Turning.{some_turned}
use Rattle.first_clauses.proofs.Triangular.{implies_clause, implies_within, implies_true, no_pair_here, gives_clause, gives_within, gives_true, none_twice_here}
use Rattle.first_clauses.specs.CheckClausesFirst.{reading_of}

module _ (same : FlatSaysTheSame) (s : Stack) (table : List Atom) (declared : All (IsOf s.trees s.frames) table) where
  signature_is : signature_of (up_to 0 (flat s.frames)) ≡ signature_of s.frames
  signature_is = ap signature_of ((same s.frames).every_level 0) ∙ (same s.frames).signature

  interprets : (I : Interpretation) → Interprets (signature_of (up_to 0 (flat s.frames))) I → Interprets (signature_of s.frames) I
  interprets I i = subst (λ (ds : List Declaration). Interprets ds I) signature_is i

  -- ---- at the one level

  atom_of : (n : ℕ) → n < length table → IsOf s.trees (up_to 0 (flat s.frames)) (atom_at table n)
  atom_of n h =
      let there : IsOf s.trees s.frames (atom_at table n) = declared n (Truth 0) h in
      record {
        declared = subst (λ (ds : List Declaration). All (Contains (map (λ (d : Declaration). d.id) ds)) (symbols_at s.trees (atom_places (atom_at table n)))) (sym signature_is) there.declared;
        within = there.within;
      }

  at_level : (ls : List Signed) → All (λ (l : Signed). l.atom < length table) ls → IsAtLevel (reading_of s table) 0 ls
  at_level ls h = λ k d l. atom_of (slice_index_or ls k d).atom (h k d l)

  over : (ls : List Signed) → All (λ (l : Signed). l.atom < length table) ls → ((l : Signed) → Contains ls l → Contains ls (opposite l) → ⊥) → IsOver (length table) ls
  over ls h p = record {
    within = λ l c. All-contains (λ (m : Signed). m.atom < length table) ls l h c;
    no_pair = p;
  }

  -- ---- clauses that are true everywhere

  inside : (ls : List Signed) → IsOver (length table) ls → All (λ (l : Signed). l.atom < length table) ls
  inside ls o = λ k d l. o.within (slice_index_or ls k d) (Contains-here ls k d l)
    where
      Contains-here : (ms : List Signed) (k : ℕ) (d : Signed) → k < length ms → Contains ms (slice_index_or ms k d)
      Contains-here ms k d l = (k, l, same_default ms k d l)
        where
          same_default : (ns : List Signed) (j : ℕ) (e : Signed) → j < length ns → slice_index_or ns j (slice_index_or ns j e) ≡ slice_index_or ns j e
          same_default [] j e h = absurd (omega arith)
          same_default (n ∷ ns) zero e h = refl
          same_default (n ∷ ns) (suc j) e h = same_default ns j e (omega arith)

  sound_clause : (ls : List Signed) → IsSound (signature_of s.frames) s.trees table ls → IsClause (reading_of s table) 0 ls
  sound_clause ls h = record {
    over = h.over;
    follows = record {
      true_wherever = λ I i holds. h.valid I (interprets I i);
      at_level = at_level ls (inside ls h.over);
    };
  }

  pub sound_clauses : (cs : List (List Signed)) → AreSound (signature_of s.frames) s.trees table cs → All (IsClause (reading_of s table) 0) cs
  sound_clauses cs h = All-weaker (IsSound (signature_of s.frames) s.trees table) (IsClause (reading_of s table) 0) sound_clause cs h

  pub put_clauses : (cleared put added : List (List Signed)) → cleared ≡ [] → put ≡ cleared ++ added → AreSound (signature_of s.frames) s.trees table added → All (IsClause (reading_of s table) 0) put
  put_clauses cleared put added empty e h =
      All-same (IsClause (reading_of s table) 0) put added (e ∙ ap (λ (cs : List (List Signed)). cs ++ added) empty) (sound_clauses added h)

  -- ---- nodes of Bools

  truth_is : (I : Interpretation) (n p : ℕ) → IsAt table n (Truth p) → truth (reading_of s table) I n ≡ truth_of (value I (tree_at s.trees p))
  truth_is I n p h = ap (atom_true s.trees I) (h.1 (Truth 0))

  -- ---- negations

  negation_is : (I : Interpretation) (n m : ℕ) → Negates s.trees table n m → truth (reading_of s table) I n ≡ not (truth (reading_of s table) I m)
  negation_is I n m h = truth_is I n h.place h.atom ∙ (ap (λ (u : Tree). truth_of (value I u)) h.node ∙ ap not (sym (truth_is I m h.argument h.negated)))

  -- a clause follows with what negations negate
  pub turned_is : (ls ms : List Signed) → IsClause (reading_of s table) 0 ls → AreTurned s.trees table ls ms → All (λ (l : Signed). l.atom < length table) ms
      → ((l : Signed) → Contains ms l → Contains ms (opposite l) → ⊥) → IsClause (reading_of s table) 0 ms
  turned_is ls ms c t within p = record {
    over = over ms within p;
    follows = record {
      true_wherever = λ I i holds. sym (some_turned s.trees table (truth (reading_of s table) I) (negation_is I) ls ms t) ∙ c.follows.true_wherever I i holds;
      at_level = at_level ms within;
    };
  }

  -- ---- triangles

  pub triangle_follows : (a b c i j k l x y : ℕ) → IsEquality s.trees table a i j → IsEquality s.trees table b k l → IsEquality s.trees table c x y → Joins i j k l x y → (a ≡ c → ⊥) → (b ≡ c → ⊥)
      → IsClause (reading_of s table) 0 (implies_clause a b c)
  triangle_follows a b c i j k l x y p q r joins n m =
      let within : All (λ (z : Signed). z.atom < length table) (implies_clause a b c) = implies_within s.trees table a b c i j k l x y p q r in
      record {
        over = over (implies_clause a b c) within (no_pair_here a b c n m);
        follows = record { true_wherever = λ I z holds. implies_true s.trees table a b c i j k l x y p q r joins I; at_level = at_level (implies_clause a b c) within };
      }

  pub diamond_follows : (a c x y : ℕ) → NumberMakesSame s.trees table a x y → IsEquality s.trees table c x y → (a ≡ c → ⊥) → IsClause (reading_of s table) 0 (gives_clause a c)
  diamond_follows a c x y p r n =
      let within : All (λ (z : Signed). z.atom < length table) (gives_clause a c) = gives_within s.trees table a c x y p r in
      record {
        over = over (gives_clause a c) within (none_twice_here a c n);
        follows = record { true_wherever = λ I z holds. gives_true s.trees table a c x y p r I; at_level = at_level (gives_clause a c) within };
      }

  module _ (sorted : ValueHasItsSort) where
    abbrev IsBool : ℕ → Type 0
    IsBool p = tree_sort (signature_of s.frames) (tree_at s.trees p) ≡ Some Truths

    its_truth : (v : Value) → has_sort v Truths ≡ true → v ≡ TruthValue (truth_of v)
    its_truth (TruthValue b) h = refl
    its_truth (Whole n) h = absurd cc
    its_truth (Element e) h = absurd cc

    value_is : (I : Interpretation) → Interprets (signature_of s.frames) I → (n p : ℕ) → IsBool p → IsAt table n (Truth p) → value I (tree_at s.trees p) ≡ TruthValue (truth (reading_of s table) I n)
    value_is I i n p b h = its_truth (value I (tree_at s.trees p)) (sorted (signature_of s.frames) I (tree_at s.trees p) Truths i b) ∙ ap TruthValue (sym (truth_is I n p h))

    values_are : (I : Interpretation) → Interprets (signature_of s.frames) I → (is xs : List ℕ) → All IsBool is → AreNumbers table (truth_atoms is) xs
        → values I (pick s.trees is) ≡ map (λ n. TruthValue (truth (reading_of s table) I n)) xs
    values_are I i [] [] b h = refl
    values_are I i [] (x ∷ xs) b h = absurd h
    values_are I i (p ∷ is) [] b h = absurd h
    values_are I i (p ∷ is) (x ∷ xs) b h =
        ap (λ v. v ∷ values I (pick s.trees is)) (value_is I i x p (All-head IsBool p is b) h.0)
        ∙ ap (λ vs. TruthValue (truth (reading_of s table) I x) ∷ vs) (values_are I i is xs (All-tail IsBool p is b) h.1)

    node_is : (I : Interpretation) → Interprets (signature_of s.frames) I → (t p : ℕ) (o : Operator) (is xs : List ℕ) → All IsBool is → IsAt table t (Truth p) → tree_at s.trees p ≡ tree_with s.trees (Theory o) is
        → AreNumbers table (truth_atoms is) xs → truth (reading_of s table) I t ≡ truth_of (operate o (map (λ n. TruthValue (truth (reading_of s table) I n)) xs))
    node_is I i t p o is xs b at e h =
        truth_is I t p at ∙ ap (λ (u : Tree). truth_of (value I u)) e ∙ ap (λ (vs : List Value). truth_of (operate o vs)) (values_are I i is xs b h)

    place_of_truth : (p q : ℕ) → Truth p ≡ Truth q → p ≡ q
    place_of_truth p q e = cc

    not_there : (t p : ℕ) (is xs : List ℕ) → IsAt table t (Truth p) → All (λ i. i < p) is → AreNumbers table (truth_atoms is) xs → (k : ℕ) → k < length xs → slice_index_or xs k t ≡ t → ⊥
    not_there t p [] [] at b h k l e = absurd (omega arith)
    not_there t p [] (x ∷ xs) at b h k l e = absurd h
    not_there t p (i ∷ is) [] at b h k l e = absurd h
    not_there t p (i ∷ is) (x ∷ xs) at b h zero l e =
        let same : i ≡ p = place_of_truth i p (sym (h.0.1 (Truth 0)) ∙ ap (atom_at table) e ∙ at.1 (Truth 0)) in
        let less : i < p = All-head (λ j. j < p) i is b in
        absurd (omega arith)
    not_there t p (i ∷ is) (x ∷ xs) at b h (suc k) l e = not_there t p is xs at (All-tail (λ j. j < p) i is b) h.1 k (omega arith) e

    all_within : (t : ℕ) (xs : List ℕ) → t < length table → All (λ n. n < length table) xs → (ls : List Signed) → All (λ (l : Signed). Contains (t ∷ xs) l.atom) ls
        → All (λ (l : Signed). l.atom < length table) ls
    all_within t xs h k ls o =
        All-weaker (λ (l : Signed). Contains (t ∷ xs) l.atom) (λ (l : Signed). l.atom < length table)
        (λ l c. All-contains (λ n. n < length table) (t ∷ xs) l.atom (All-cons (λ n. n < length table) t xs h k) c) ls o

    node_clause : (t p : ℕ) (o : Operator) (is xs : List ℕ) → All IsBool is → IsAt table t (Truth p) → tree_at s.trees p ≡ tree_with s.trees (Theory o) is → AreNumbers table (truth_atoms is) xs
        → (ls : List Signed) → IsOfNode o t xs ls → IsClause (reading_of s table) 0 ls
    node_clause t p o is xs b at e k ls c =
        let there : All (λ (l : Signed). l.atom < length table) ls = all_within t xs at.0 (numbers_within table (truth_atoms is) xs k) ls c.over in
        record {
          over = over ls there c.no_pair;
          follows = record {
            true_wherever = λ I i holds. c.true_of (truth (reading_of s table) I) (node_is I (interprets I i) t p o is xs b at e k);
            at_level = at_level ls there;
          };
        }

    pub clauses_are : NodeClausesHold → (t p : ℕ) (o : Operator) (is numbers xs : List ℕ) (cleared clauses : List (List Signed)) → All IsBool is → IsAt table t (Truth p)
        → tree_at s.trees p ≡ tree_with s.trees (Theory o) is → All (λ i. i < p) is → AreNumbers table (truth_atoms is) numbers → xs ≡ numbers → cleared ≡ []
        → clauses ≡ cleared ++ literals_of_node o t xs → All (IsClause (reading_of s table) 0) clauses
    clauses_are law t p o is numbers xs cleared clauses bools at e b k n empty put =
        let are : AreNumbers table (truth_atoms is) xs = subst (AreNumbers table (truth_atoms is)) (sym n) k in
        All-same (IsClause (reading_of s table) 0) clauses (literals_of_node o t xs) (put ∙ ap (λ (cs : List (List Signed)). cs ++ literals_of_node o t xs) empty)
        (All-weaker (IsOfNode o t xs) (IsClause (reading_of s table) 0) (node_clause t p o is xs bools at e are) (literals_of_node o t xs)
        (law o t xs (λ c. not_there t p is xs at b are c.0 c.1 c.2)))

  -- ---- assertions

  or_false : (b : Bool) → b ≡ true → (b || false) ≡ true
  or_false true h = refl
  or_false false h = h

  alone : (x y : Signed) (k : ℕ) → k < 1 → slice_index_or (x ∷ []) k y ≡ y → x ≡ y
  alone x y zero h e = e
  alone x y (suc k) h e = absurd (omega arith)

  both_signs : (b : Bool) → true ≡ b → true ≡ not b → ⊥
  both_signs true p q = cc
  both_signs false p q = cc

  one_sign : (n : ℕ) (l : Signed) → Contains (unit n) l → Contains (unit n) (opposite l) → ⊥
  one_sign n l c d =
      let first : record { atom = n; positive = true } ≡ l = alone _ l c.0 c.1 c.2 in
      let second : record { atom = n; positive = true } ≡ opposite l = alone _ (opposite l) d.0 d.1 d.2 in
      both_signs l.positive (ap (λ (m : Signed). m.positive) first) (ap (λ (m : Signed). m.positive) second)

  pub unit_is : (n p : ℕ) → IsAt table n (Truth p) → Contains (assertions_of s.frames) (tree_at s.trees p) → IsClause (reading_of s table) 0 (unit n)
  unit_is n p h c =
      let there : All (λ (l : Signed). l.atom < length table) (unit n) = All-cons (λ (l : Signed). l.atom < length table) _ [] h.0 (All-nil (λ (l : Signed). l.atom < length table)) in
      record {
        over = over (unit n) there (one_sign n);
        follows = record {
          true_wherever = λ I i holds.
              let all : All (Satisfies I) (assertions_of s.frames) =
              All-same (Satisfies I) (assertions_of s.frames) (assertions_of (up_to 0 (flat s.frames))) (sym (ap assertions_of ((same s.frames).every_level 0) ∙ (same s.frames).assertions)) holds in
              or_false (truth (reading_of s table) I n) (truth_is I n p h ∙ All-contains (Satisfies I) (assertions_of s.frames) (tree_at s.trees p) all c);
          at_level = at_level (unit n) there;
        };
      }
