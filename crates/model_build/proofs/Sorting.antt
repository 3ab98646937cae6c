-- What the places of a term and of its arguments are given, by their sorts.
use Rattle.std.proofs.Common.{◌≡◌, ◌≢◌, ℕ, suc, ◌<◌, ◌≤◌, Bool, true, false, List, [], ◌∷◌, length, map, All, refl, sym, ap, subst, ◌∙◌, inl, inr, arith}
use Rattle.std.specs.Prelude.{◌&&◌, ◌⊎◌, Option, Some, None, if◌then◌else◌}
use Rattle.std.proofs.lemmas.Bool.{eqb-true, cases_lt}
use Rattle.std.proofs.lemmas.List.{get_or_past}
use Rattle.std.proofs.lemmas.List.Elements.{All-head, All-tail}
use Rattle.smt_meaning.specs.declared.values.Sort.{Sort}
use Rattle.smt_meaning.specs.declared.values.Sort.TheVariants.{Bool as Truths, Int as Ints, Free}
use Rattle.smt_meaning.specs.declared.terms.Head.TheVariants.{Symbol}
use Rattle.smt_meaning.specs.Declaration.{Declaration}
use Rattle.smt_meaning.specs.Term.{Tree, Trees, node, none, more, tree_at, in_range, all_in_range}
use Rattle.smt_meaning.specs.TreeShape.{place_of}
use Rattle.smt_meaning.specs.Signature.{tree_sort, tree_sorts, function_with_id, is_symbol, sort_eq, sorts_eq, symbol_sort, with_sorts, cons_sort}
use Rattle.smt_meaning.specs.Interpretation.{has_sort, have_sorts}
use Rattle.model_build.specs.declared.given.Given.{Given}
use Rattle.model_build.specs.declared.given.Given.TheVariants.{Unmarked, InRange, PastRange}
use Rattle.model_build.specs.Given.{given_at, is_marked, is_past, has_past, givens, head_of, arguments_of, arguments_given, IsApplication}
use Rattle.model_build.specs.Building.{is_given_of, IsGivenOf, AreGiven}
use Rattle.model_build.specs.Filling.{value_of}
use Rattle.model_build.proofs.Looking.{left_true, right_true, or_left, or_right}
use Rattle.smt_laws.proofs.SameTree.{tree_eq-true}
use Rattle.smt_meaning.specs.TreeShape.{tree_eq}

-- ---- equal sorts

sort_eq-true : (a b : Sort) → sort_eq a b ≡ true → a ≡ b
sort_eq-true Truths Truths h = refl
sort_eq-true Truths Ints h = cc
sort_eq-true Truths (Free b) h = cc
sort_eq-true Ints Truths h = cc
sort_eq-true Ints Ints h = refl
sort_eq-true Ints (Free b) h = cc
sort_eq-true (Free a) Truths h = cc
sort_eq-true (Free a) Ints h = cc
sort_eq-true (Free a) (Free b) h = ap Free (eqb-true a b h)

sorts_eq-true : (as' bs : List Sort) → sorts_eq as' bs ≡ true → as' ≡ bs
sorts_eq-true [] [] h = refl
sorts_eq-true [] (b ∷ bs) h = cc
sorts_eq-true (a ∷ as') [] h = cc
sorts_eq-true (a ∷ as') (b ∷ bs) h =
    ap (λ x. x ∷ as') (sort_eq-true a b (left_true (sort_eq a b) (sorts_eq as' bs) h)) ∙ ap (λ xs. b ∷ xs) (sorts_eq-true as' bs (right_true (sort_eq a b) (sorts_eq as' bs) h))

-- ---- places

-- a tree whose place is within the list stands there
pub stands_there : (t : Tree) (ts : List Tree) → place_of t ts < length ts → tree_at ts (place_of t ts) ≡ t
stands_there t [] h = absurd (omega arith)
stands_there t (u ∷ us) h = by (tree_eq t u) refl (stands_there t us) h
  where
    by : (b : Bool) → tree_eq t u ≡ b → (place_of t us < length us → tree_at us (place_of t us) ≡ t) → (if b then 0 else suc (place_of t us)) < length (u ∷ us)
        → tree_at (u ∷ us) (if b then 0 else suc (place_of t us)) ≡ t
    by true e rest h = sym (tree_eq-true t u e)
    by false e rest h = rest (omega arith)

-- a marked place is within the list
pub marked_within : (gs : List Given) (p : ℕ) → is_marked (given_at gs p) ≡ true → p < length gs
marked_within gs p m = by (cases_lt p (length gs))
  where
    by : (p < length gs) ⊎ (length gs ≤ p) → p < length gs
    by (inl h) = h
    by (inr h) = let e : given_at gs p ≡ Unmarked = get_or_past gs p Unmarked h in let f : is_marked (given_at gs p) ≡ false = ap is_marked e in absurd cc

-- ---- an application by its declaration

-- the declaration of an application's symbol, and what it says of the arguments
pub record IsDeclared (ds : List Declaration) (f : ℕ) (us : Trees) (g : Given) : Type 0 where
  pub declaration : Declaration
  pub found : function_with_id f ds ≡ Some declaration
  pub symbol : is_symbol declaration ≡ true
  pub sorts : tree_sorts ds us ≡ Some declaration.rank.arguments
  pub result : is_given_of g declaration.rank.result ≡ true

declared_by : (ds : List Declaration) (f : ℕ) (us : Trees) (g : Given) (o : Option Declaration) (ss : Option (List Sort)) → function_with_id f ds ≡ o → tree_sorts ds us ≡ ss
    → IsGivenOf g (with_sorts ds (Symbol f) ss) → IsDeclared ds f us g
declared_by ds f us g o None found sorts given = absurd given
declared_by ds f us g None (Some ss) found sorts given = absurd (subst (λ x. IsGivenOf g (symbol_sort x ss)) found given)
declared_by ds f us g (Some d) (Some ss) found sorts given =
    by (is_symbol d && sorts_eq ss d.rank.arguments) refl (subst (λ x. IsGivenOf g (symbol_sort x ss)) found given)
  where
    by : (b : Bool) → (is_symbol d && sorts_eq ss d.rank.arguments) ≡ b → IsGivenOf g (if b then Some d.rank.result else None) → IsDeclared ds f us g
    by true e h = record {
      declaration = d;
      found = found;
      symbol = left_true (is_symbol d) (sorts_eq ss d.rank.arguments) e;
      sorts = sorts ∙ ap Some (sorts_eq-true ss d.rank.arguments (right_true (is_symbol d) (sorts_eq ss d.rank.arguments) e));
      result = h;
    }
    by false e h = absurd h

pub declared : (ds : List Declaration) (f : ℕ) (us : Trees) (g : Given) → IsGivenOf g (tree_sort ds (node (Symbol f) us)) → IsDeclared ds f us g
declared ds f us g given = declared_by ds f us g (function_with_id f ds) (tree_sorts ds us) refl refl given

-- ---- arguments

pub both_true : (a b : Bool) → a ≡ true → b ≡ true → a && b ≡ true
both_true true b h k = k
both_true false b h k = cc

pub value_sort : (g : Given) (s : Sort) → is_given_of g s ≡ true → is_past g ≡ false → has_sort (value_of g) s ≡ true
value_sort Unmarked s h p = cc
value_sort (InRange v) s h p = left_true (has_sort v s) (in_range v) h
value_sort PastRange s h p = cc

value_in_range : (g : Given) (s : Sort) → is_given_of g s ≡ true → is_past g ≡ false → in_range (value_of g) ≡ true
value_in_range Unmarked s h p = cc
value_in_range (InRange v) s h p = right_true (has_sort v s) (in_range v) h
value_in_range PastRange s h p = cc

abbrev pub have_given_sorts : List Given → List Sort → Bool
have_given_sorts [] [] = true
have_given_sorts (g ∷ gs) (s ∷ ss) = is_given_of g s && have_given_sorts gs ss
have_given_sorts [] (s ∷ ss) = false
have_given_sorts (g ∷ gs) [] = false

of_sort : (g : Given) (o : Option Sort) (s : Sort) → IsGivenOf g o → o ≡ Some s → is_given_of g s ≡ true
of_sort g None s h e = absurd h
of_sort g (Some r) s h e = let same : r ≡ s = cc in subst (λ x. is_given_of g x ≡ true) same h

module _ (ds : List Declaration) (ts : List Tree) (gs : List Given) (given : AreGiven ds ts gs) where
  pub within : (p : ℕ) → is_marked (given_at gs p) ≡ true → p < length ts
  within p m = let h = marked_within gs p m in omega (arith, given.size)

  marked_sort : (u : Tree) → is_marked (given_at gs (place_of u ts)) ≡ true → IsGivenOf (given_at gs (place_of u ts)) (tree_sort ds u)
  marked_sort u m =
      let h = within (place_of u ts) m in
      subst (λ x. IsGivenOf (given_at gs (place_of u ts)) (tree_sort ds x)) (stands_there u ts h) (given.sorts (place_of u ts) h m)

  consed : (o : Option Sort) (r : Option (List Sort)) (ss : List Sort) (A : Type 0) → cons_sort o r ≡ Some ss → ((s : Sort) (rest : List Sort) → o ≡ Some s → r ≡ Some rest → ss ≡ s ∷ rest → A) → A
  consed None r ss A e k = absurd cc
  consed (Some s) None ss A e k = absurd cc
  consed (Some s) (Some rest) ss A e k = k s rest refl refl (let same : s ∷ rest ≡ ss = cc in sym same)

  pub arguments_sorted : (us : Trees) (ss : List Sort) → All (λ g. is_marked g ≡ true) (givens ts gs us) → tree_sorts ds us ≡ Some ss → have_given_sorts (givens ts gs us) ss ≡ true
  arguments_sorted none ss marked e = let same : [] ≡ ss = cc in subst (λ xs. have_given_sorts [] xs ≡ true) same refl
  arguments_sorted (more u us) ss marked e =
      consed (tree_sort ds u) (tree_sorts ds us) ss (have_given_sorts (given_at gs (place_of u ts) ∷ givens ts gs us) ss ≡ true) e
      (λ s rest first others same.
      subst (λ xs. have_given_sorts (given_at gs (place_of u ts) ∷ givens ts gs us) xs ≡ true) (sym same)
      (both_true (is_given_of (given_at gs (place_of u ts)) s) (have_given_sorts (givens ts gs us) rest)
      (of_sort (given_at gs (place_of u ts)) (tree_sort ds u) s
      (marked_sort u (All-head (λ g. is_marked g ≡ true) (given_at gs (place_of u ts)) (givens ts gs us) marked)) first)
      (arguments_sorted us rest (All-tail (λ g. is_marked g ≡ true) (given_at gs (place_of u ts)) (givens ts gs us) marked) others)))

  -- what is said of an application at a marked place
  pub record IsSortedAt (f p : ℕ) : Type 0 where
    pub declaration : Declaration
    pub found : function_with_id f ds ≡ Some declaration
    pub symbol : is_symbol declaration ≡ true
    pub arguments : have_given_sorts (arguments_given ts gs p) declaration.rank.arguments ≡ true
    pub result : is_given_of (given_at gs p) declaration.rank.result ≡ true
    pub within : is_past (given_at gs p) ≡ false
    pub marked : All (λ g. is_marked g ≡ true) (arguments_given ts gs p)

  application_node : (t : Tree) (f : ℕ) → head_of t ≡ Symbol f → t ≡ node (Symbol f) (arguments_of t)
  application_node (node h us) f e = ap (λ x. node x us) e

  pub sorted_at : (f p : ℕ) → IsApplication ts gs f p → IsSortedAt f p
  sorted_at f p a =
      let t = tree_at ts p in
      let d = declared ds f (arguments_of t) (given_at gs p)
      (subst (λ x. IsGivenOf (given_at gs p) (tree_sort ds x)) (application_node t f a.symbol) (given.sorts p a.within a.marked)) in
      record {
        declaration = d.declaration;
        found = d.found;
        symbol = d.symbol;
        arguments = arguments_sorted (arguments_of t) d.declaration.rank.arguments (given.closed p a.within a.marked) d.sorts;
        result = d.result;
        within = given.applications f p a;
        marked = given.closed p a.within a.marked;
      }

-- ---- what follows for the values

pub have_values_sorts : (gs : List Given) (ss : List Sort) → have_given_sorts gs ss ≡ true → has_past gs ≡ false → have_sorts (map value_of gs) ss ≡ true
have_values_sorts [] [] h p = refl
have_values_sorts [] (s ∷ ss) h p = cc
have_values_sorts (g ∷ gs) [] h p = cc
have_values_sorts (g ∷ gs) (s ∷ ss) h p =
    both_true (has_sort (value_of g) s) (have_sorts (map value_of gs) ss) (value_sort g s (left_true (is_given_of g s) (have_given_sorts gs ss) h) (or_left (is_past g) (has_past gs) p))
    (have_values_sorts gs ss (right_true (is_given_of g s) (have_given_sorts gs ss) h) (or_right (is_past g) (has_past gs) p))

pub have_values_in_range : (gs : List Given) (ss : List Sort) → have_given_sorts gs ss ≡ true → has_past gs ≡ false → all_in_range (map value_of gs) ≡ true
have_values_in_range [] ss h p = refl
have_values_in_range (g ∷ gs) [] h p = cc
have_values_in_range (g ∷ gs) (s ∷ ss) h p =
    both_true (in_range (value_of g)) (all_in_range (map value_of gs)) (value_in_range g s (left_true (is_given_of g s) (have_given_sorts gs ss) h) (or_left (is_past g) (has_past gs) p))
    (have_values_in_range gs ss (right_true (is_given_of g s) (have_given_sorts gs ss) h) (or_right (is_past g) (has_past gs) p))

pub no_sorts : (gs : List Given) → have_given_sorts gs [] ≡ true → gs ≡ []
no_sorts [] h = refl
no_sorts (g ∷ gs) h = cc

pub some_sorts : (ss : List Sort) (g : Given) (gs hs : List Given) → have_given_sorts (g ∷ gs) ss ≡ true → have_given_sorts hs ss ≡ true → hs ≢ []
some_sorts [] g gs hs a b e = cc
some_sorts (s ∷ ss) g gs [] a b e = cc
some_sorts (s ∷ ss) g gs (h ∷ hs) a b e = cc
