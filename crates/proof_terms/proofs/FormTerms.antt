-- The sort of a proof's term, by those of its arguments.
use Rattle.std.proofs.Common.{◌≡◌, ◌≢◌, ℕ, ◌<◌, Bool, true, false, ◌&&◌, List, [], ◌∷◌, Option, Some, None, length, All, ap, sym, subst, ◌∙◌, refl, arith}
use Rattle.std.specs.Prelude.{if◌then◌else◌}
use Rattle.std.proofs.lemmas.List.Elements.{All-nil, All-cons, All-head, All-weaker}
use Rattle.std.proofs.lemmas.Bool.{eqb-true}
use Rattle.smt_meaning.specs.declared.values.Sort.{Sort}
use Rattle.smt_meaning.specs.declared.values.Sort.TheVariants.{Bool as Truths, Int as Ints, Free}
use Rattle.smt_meaning.specs.declared.nodes.Node.{Node}
use Rattle.smt_meaning.specs.declared.terms.Head.TheVariants.{Theory}
use Rattle.smt_meaning.specs.declared.terms.Operator.{Operator}
use Rattle.smt_meaning.specs.Declaration.{Declaration}
use Rattle.smt_meaning.specs.Term.{Tree, Trees, none, more, tree_at}
use Rattle.smt_meaning.specs.Nodes.{pick, tree_of}
use Rattle.smt_meaning.specs.Signature.{cons_sort, operator_sort, ite_sort, if_so, all_of, all_the_same, sort_eq}
use Rattle.smt_laws.proofs.Both.{and_left, and_right}
use Rattle.proof_meaning.specs.Proof.{AreTerms, is_written, term_sort, term_sorts, with_term_sorts, node_at, IsBoolAt, IsIntAt}
use Rattle.proof_meaning.specs.Rules.{IsOtherAt}
use Rattle.proof_meaning.proofs.Terms.{Stands, stands}

-- ---- the sorts of its arguments

pub record IsSorted (ds : List Declaration) (ts : List Tree) (o : Operator) (is : List ℕ) (s : Sort) : Type 0 where
  pub sorts : List Sort
  pub are : term_sorts ds (pick ts is) ≡ Some sorts
  pub written : is_written o (length sorts) ≡ true
  pub made : operator_sort o sorts ≡ Some s
  pub below : All (λ j. j < length ts) is

stands_so : (b : Bool) (x : Option Sort) (s : Sort) → (if b then x else None) ≡ Some s → (b ≡ true) × (x ≡ Some s)
stands_so true x s h = (refl, h)
stands_so false x s h = absurd cc

by_sorts : (ds : List Declaration) (ts : List Tree) (o : Operator) (is : List ℕ) (s : Sort) (r : Option (List Sort)) → term_sorts ds (pick ts is) ≡ r → with_term_sorts ds (Theory o) r ≡ Some s
    → All (λ j. j < length ts) is → IsSorted ds ts o is s
by_sorts ds ts o is s None e h below = absurd cc
by_sorts ds ts o is s (Some ss) e h below =
    let t : (is_written o (length ss) ≡ true) × (operator_sort o ss ≡ Some s) = stands_so (is_written o (length ss)) (operator_sort o ss) s h in
    record { sorts = ss; are = e; written = t.0; made = t.1; below = below }

pub sorted : (ds : List Declaration) (ns : List Node) (ts : List Tree) → AreTerms ds ns ts → (i : ℕ) (o : Operator) (is : List ℕ) (s : Sort) → i < length ns
    → node_at ns i ≡ record { head = Theory o; arguments = is } → term_sort ds (tree_at ts i) ≡ Some s → IsSorted ds ts o is s
sorted ds ns ts terms i o is s h e k =
    let t : Stands ts (node_at ns i) i = stands ds ns ts terms i h in
    by_sorts ds ts o is s (term_sorts ds (pick ts is)) refl
    (sym (ap (term_sort ds) (t.tree ∙ ap (λ (n : Node). tree_of ts n) e)) ∙ k)
    (subst (λ (n : Node). All (λ j. j < length ts) n.arguments) e t.below)

record HasFirst (ds : List Declaration) (u : Tree) (us : Trees) (ss : List Sort) : Type 0 where
  first : Sort
  rest : List Sort
  here : term_sort ds u ≡ Some first
  later : term_sorts ds us ≡ Some rest
  are : ss ≡ first ∷ rest

by_first : (ds : List Declaration) (u : Tree) (us : Trees) (ss : List Sort) (o : Option Sort) (r : Option (List Sort)) → term_sort ds u ≡ o → term_sorts ds us ≡ r → cons_sort o r ≡ Some ss
    → HasFirst ds u us ss
by_first ds u us ss None r e f p = absurd cc
by_first ds u us ss (Some s) None e f p = absurd cc
by_first ds u us ss (Some s) (Some rest) e f p = record { first = s; rest = rest; here = e; later = f; are = cc }

first_of : (ds : List Declaration) (u : Tree) (us : Trees) (ss : List Sort) → term_sorts ds (more u us) ≡ Some ss → HasFirst ds u us ss
first_of ds u us ss e = by_first ds u us ss (term_sort ds u) (term_sorts ds us) refl refl e

pub sort_is : (a b : Sort) → sort_eq a b ≡ true → a ≡ b
sort_is Truths Truths h = refl
sort_is Truths Ints h = absurd cc
sort_is Truths (Free b) h = absurd cc
sort_is Ints Truths h = absurd cc
sort_is Ints Ints h = refl
sort_is Ints (Free b) h = absurd cc
sort_is (Free a) Truths h = absurd cc
sort_is (Free a) Ints h = absurd cc
sort_is (Free a) (Free b) h = ap Free (eqb-true a b h)

pub if_so_true : (b : Bool) (r s : Sort) → if_so b r ≡ Some s → b ≡ true
if_so_true true r s h = refl
if_so_true false r s h = absurd cc

module _ (ds : List Declaration) (ts : List Tree) where
  all_of_one : (r : Sort) (is : List ℕ) (ss : List Sort) → term_sorts ds (pick ts is) ≡ Some ss → all_of r ss ≡ true → All (λ i. term_sort ds (tree_at ts i) ≡ Some r) is
  all_of_one r [] ss e a = All-nil (λ i. term_sort ds (tree_at ts i) ≡ Some r)
  all_of_one r (i ∷ is) ss e a =
      let f : HasFirst ds (tree_at ts i) (pick ts is) ss = first_of ds (tree_at ts i) (pick ts is) ss e in
      let b : all_of r (f.first ∷ f.rest) ≡ true = subst (λ xs. all_of r xs ≡ true) f.are a in
      All-cons (λ j. term_sort ds (tree_at ts j) ≡ Some r) i is (f.here ∙ ap Some (sym (sort_is r f.first (and_left (sort_eq r f.first) _ b))))
      (all_of_one r is f.rest f.later (and_right (sort_eq r f.first) _ b))

  pub count : (is : List ℕ) (ss : List Sort) → term_sorts ds (pick ts is) ≡ Some ss → length ss ≡ length is
  count [] ss e = let q : [] ≡ ss = cc in ap length (sym q)
  count (i ∷ is) ss e =
      let f : HasFirst ds (tree_at ts i) (pick ts is) ss = first_of ds (tree_at ts i) (pick ts is) ss e in
      omega (arith, ap length f.are, count is f.rest f.later)

  both : (r : Sort) (is : List ℕ) → All (λ j. j < length ts) is → All (λ i. term_sort ds (tree_at ts i) ≡ Some r) is → All (λ i. (i < length ts) × (term_sort ds (tree_at ts i) ≡ Some r)) is
  both r is below each k d h = (below k d h, each k d h)

  pub bools : (is : List ℕ) (ss : List Sort) → term_sorts ds (pick ts is) ≡ Some ss → All (λ j. j < length ts) is → all_of Truths ss ≡ true → All (IsBoolAt ds ts) is
  bools is ss e below a = both Truths is below (all_of_one Truths is ss e a)

  pub ints : (is : List ℕ) (ss : List Sort) → term_sorts ds (pick ts is) ≡ Some ss → All (λ j. j < length ts) is → all_of Ints ss ≡ true → All (IsIntAt ds ts) is
  ints is ss e below a = both Ints is below (all_of_one Ints is ss e a)

  -- arguments of one sort
  pub record HaveSort (is : List ℕ) : Type 0 where
    pub sort : Sort
    pub each : All (λ i. term_sort ds (tree_at ts i) ≡ Some sort) is

  pub one_sort : (is : List ℕ) (ss : List Sort) → term_sorts ds (pick ts is) ≡ Some ss → all_the_same ss ≡ true → HaveSort is
  one_sort [] ss e a = record { sort = Truths; each = All-nil (λ i. term_sort ds (tree_at ts i) ≡ Some Truths) }
  one_sort (i ∷ is) ss e a =
      let f : HasFirst ds (tree_at ts i) (pick ts is) ss = first_of ds (tree_at ts i) (pick ts is) ss e in
      let b : all_of f.first f.rest ≡ true = subst (λ xs. all_the_same xs ≡ true) f.are a in
      record { sort = f.first; each = All-cons (λ j. term_sort ds (tree_at ts j) ≡ Some f.first) i is f.here (all_of_one f.first is f.rest f.later b) }

  -- so all are of the first's sort
  pub same_as_first : (is : List ℕ) → HaveSort is → (i : ℕ) (js : List ℕ) (s : Sort) → is ≡ i ∷ js → term_sort ds (tree_at ts i) ≡ Some s → All (λ j. term_sort ds (tree_at ts j) ≡ Some s) is
  same_as_first is h i js s e k =
      let first : term_sort ds (tree_at ts i) ≡ Some h.sort = All-head (λ j. term_sort ds (tree_at ts j) ≡ Some h.sort) i js (subst (All (λ j. term_sort ds (tree_at ts j) ≡ Some h.sort)) e h.each) in
      All-weaker (λ j. term_sort ds (tree_at ts j) ≡ Some h.sort) (λ j. term_sort ds (tree_at ts j) ≡ Some s) (λ j q. q ∙ sym first ∙ k) is h.each

  pub all_bools : (is : List ℕ) → All (λ j. j < length ts) is → All (λ j. term_sort ds (tree_at ts j) ≡ Some Truths) is → All (IsBoolAt ds ts) is
  all_bools is below each = both Truths is below each

  pub all_others : (is : List ℕ) (s : Sort) → s ≢ Truths → All (λ j. term_sort ds (tree_at ts j) ≡ Some s) is → All (IsOtherAt ds ts) is
  all_others is s other each =
      All-weaker (λ j. term_sort ds (tree_at ts j) ≡ Some s) (IsOtherAt ds ts) (λ j q b. other (let e : Some s ≡ Some Truths = sym q ∙ b.1 in (let f : s ≡ Truths = cc in f))) is each

  -- ---- an `ite`

  pub record IsChoice (is : List ℕ) (s : Sort) : Type 0 where
    pub condition : ℕ
    pub first : ℕ
    pub second : ℕ
    pub are : is ≡ condition ∷ first ∷ second ∷ []
    pub condition_sort : term_sort ds (tree_at ts condition) ≡ Some Truths
    pub first_sort : term_sort ds (tree_at ts first) ≡ Some s
    pub second_sort : term_sort ds (tree_at ts second) ≡ Some s

  some_is : (r s : Sort) (b : Bool) → if_so b r ≡ Some s → r ≡ s
  some_is r s true h = cc
  some_is r s false h = absurd cc

  three_sorts : (is : List ℕ) (c r t s : Sort) → term_sorts ds (pick ts is) ≡ Some (c ∷ r ∷ t ∷ []) → if_so (sort_eq c Truths && sort_eq r t) r ≡ Some s → IsChoice is s
  three_sorts [] c r t s e h = absurd cc
  three_sorts (i ∷ []) c r t s e h =
      let f : HasFirst ds (tree_at ts i) none (c ∷ r ∷ t ∷ []) = first_of ds (tree_at ts i) none (c ∷ r ∷ t ∷ []) e in
      let a : Some [] ≡ Some f.rest = f.later in
      let b : c ∷ r ∷ t ∷ [] ≡ f.first ∷ f.rest = f.are in
      absurd cc
  three_sorts (i ∷ j ∷ []) c r t s e h =
      let f : HasFirst ds (tree_at ts i) (pick ts (j ∷ [])) (c ∷ r ∷ t ∷ []) = first_of ds (tree_at ts i) (pick ts (j ∷ [])) (c ∷ r ∷ t ∷ []) e in
      let g : HasFirst ds (tree_at ts j) none f.rest = first_of ds (tree_at ts j) none f.rest f.later in
      let a : Some [] ≡ Some g.rest = g.later in
      let b : c ∷ r ∷ t ∷ [] ≡ f.first ∷ f.rest = f.are in
      let q : f.rest ≡ g.first ∷ g.rest = g.are in
      absurd cc
  three_sorts (i ∷ j ∷ k ∷ is) c r t s e h =
      let f : HasFirst ds (tree_at ts i) (pick ts (j ∷ k ∷ is)) (c ∷ r ∷ t ∷ []) = first_of ds (tree_at ts i) (pick ts (j ∷ k ∷ is)) (c ∷ r ∷ t ∷ []) e in
      let g : HasFirst ds (tree_at ts j) (pick ts (k ∷ is)) f.rest = first_of ds (tree_at ts j) (pick ts (k ∷ is)) f.rest f.later in
      let m : HasFirst ds (tree_at ts k) (pick ts is) g.rest = first_of ds (tree_at ts k) (pick ts is) g.rest g.later in
      let a : c ∷ r ∷ t ∷ [] ≡ f.first ∷ f.rest = f.are in
      let b : f.rest ≡ g.first ∷ g.rest = g.are in
      let q : g.rest ≡ m.first ∷ m.rest = m.are in
      let c_is : f.first ≡ c = cc in
      let r_is : g.first ≡ r = cc in
      let t_is : m.first ≡ t = cc in
      let no_more : m.rest ≡ [] = cc in
      let good : (sort_eq c Truths && sort_eq r t) ≡ true = if_so_true (sort_eq c Truths && sort_eq r t) r s h in
      let is_truth : c ≡ Truths = sort_is c Truths (and_left (sort_eq c Truths) (sort_eq r t) good) in
      let alike : r ≡ t = sort_is r t (and_right (sort_eq c Truths) (sort_eq r t) good) in
      let same : r ≡ s = some_is r s (sort_eq c Truths && sort_eq r t) h in
      record {
        condition = i;
        first = j;
        second = k;
        are = ap (λ xs. i ∷ j ∷ k ∷ xs) (nothing_more is (m.later ∙ ap Some no_more));
        condition_sort = f.here ∙ ap Some (c_is ∙ is_truth);
        first_sort = g.here ∙ ap Some (r_is ∙ same);
        second_sort = m.here ∙ ap Some (t_is ∙ sym alike ∙ same);
      }
    where
      nothing_more : (js : List ℕ) → term_sorts ds (pick ts js) ≡ Some [] → js ≡ []
      nothing_more [] e = refl
      nothing_more (x ∷ js) e =
          let f : HasFirst ds (tree_at ts x) (pick ts js) [] = first_of ds (tree_at ts x) (pick ts js) [] e in
          let a : [] ≡ f.first ∷ f.rest = f.are in
          absurd cc

  by_count : (is : List ℕ) (ss : List Sort) (s : Sort) → term_sorts ds (pick ts is) ≡ Some ss → ite_sort ss ≡ Some s → IsChoice is s
  by_count is [] s e h = absurd cc
  by_count is (c ∷ []) s e h = absurd cc
  by_count is (c ∷ r ∷ []) s e h = absurd cc
  by_count is (c ∷ r ∷ t ∷ []) s e h = three_sorts is c r t s e h
  by_count is (c ∷ r ∷ t ∷ u ∷ ss) s e h = absurd cc

  pub choice : (is : List ℕ) (ss : List Sort) (s : Sort) → term_sorts ds (pick ts is) ≡ Some ss → ite_sort ss ≡ Some s → IsChoice is s
  choice is ss s e h = by_count is ss s e h
