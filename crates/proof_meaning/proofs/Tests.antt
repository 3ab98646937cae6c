-- Terms and literals that are by their rules, found by tests: for the examples.
use Rattle.std.proofs.Common.{◌≡◌, ℕ, ◌<◌, Bool, true, false, not, ◌&&◌, nat_lt, List, [], ◌∷◌, ◌++◌, length, All, Option, Some, None, ap, sym, subst, ◌∙◌, refl, arith}
use Rattle.std.specs.Prelude.{ℤ, pos, AllPairs}
use Rattle.std.proofs.lemmas.Bool.Decides.{nat_tests}
use Rattle.std.proofs.lemmas.List.{append_assoc}
use Rattle.std.proofs.lemmas.List.Elements.{All-nil, All-cons}
use Rattle.std.proofs.lemmas.List.Kept.{AllPairs-cons}
use Rattle.smt_meaning.specs.declared.values.Sort.{Sort}
use Rattle.smt_meaning.specs.declared.values.Sort.TheVariants.{Bool as Truths, Int as Ints, Free}
use Rattle.smt_meaning.specs.declared.clauses.Summand.{Summand}
use Rattle.smt_meaning.specs.declared.clauses.Atom.{Atom}
use Rattle.smt_meaning.specs.declared.clauses.Atom.TheVariants.{Truth, AtMost, Same}
use Rattle.smt_meaning.specs.declared.clauses.Literal.{Literal}
use Rattle.smt_meaning.specs.declared.nodes.Node.{Node}
use Rattle.smt_meaning.specs.Declaration.{Declaration}
use Rattle.smt_meaning.specs.Term.{Tree, tree_at}
use Rattle.smt_meaning.specs.Signature.{is_bool, is_int}
use Rattle.smt_meaning.specs.Linear.{is_zero}
use Rattle.smt_meaning.specs.Nodes.{tree_of, trees_from, trees_of}
use Rattle.proof_meaning.specs.Proof.{term_sort, is_linear_term, AreTerms, no_terms, next_term, IsTerm, IsSummand, IsAtom, IsLiteral, is_leaf}
use Rattle.smt_laws.proofs.Both.{and_left, and_right}

pub less : (i n : ℕ) → nat_lt i n ≡ true → i < n
less i n h = grind (arith, nat_tests)

abbrev pub all_below : ℕ → List ℕ → Bool
all_below n [] = true
all_below n (i ∷ is) = nat_lt i n && all_below n is

below : (n : ℕ) (is : List ℕ) → all_below n is ≡ true → All (λ i. i < n) is
below n [] h = All-nil (λ i. i < n)
below n (i ∷ is) h = All-cons (λ j. j < n) i is (less i n (and_left (nat_lt i n) (all_below n is) h)) (below n is (and_right (nat_lt i n) (all_below n is) h))

abbrev pub is_some : Option Sort → Bool
is_some (Some s) = true
is_some None = false

some_sort : (o : Option Sort) → is_some o ≡ true → (s : Sort) × (o ≡ Some s)
some_sort (Some s) h = (s, refl)
some_sort None h = let e : false ≡ true = h in cc

abbrev pub is_term : List Declaration → List Tree → Node → Bool
is_term ds ts n = all_below (length ts) n.arguments && (is_some (term_sort ds (tree_of ts n)) && is_linear_term (tree_of ts n))

one_term : (ds : List Declaration) (ts : List Tree) (n : Node) → is_term ds ts n ≡ true → IsTerm ds ts n
one_term ds ts n h =
    let rest : (is_some (term_sort ds (tree_of ts n)) && is_linear_term (tree_of ts n)) ≡ true =
    and_right (all_below (length ts) n.arguments) (is_some (term_sort ds (tree_of ts n)) && is_linear_term (tree_of ts n)) h in
    let sort : (s : Sort) × (term_sort ds (tree_of ts n) ≡ Some s) = some_sort (term_sort ds (tree_of ts n)) (and_left (is_some (term_sort ds (tree_of ts n))) (is_linear_term (tree_of ts n)) rest) in
    record {
      earlier = below (length ts) n.arguments (and_left (all_below (length ts) n.arguments) (is_some (term_sort ds (tree_of ts n)) && is_linear_term (tree_of ts n)) h);
      sort = sort.0;
      has_sort = sort.1;
      linear = and_right (is_some (term_sort ds (tree_of ts n))) (is_linear_term (tree_of ts n)) rest;
    }

abbrev pub are_terms : List Declaration → List Tree → List Node → Bool
are_terms ds ts [] = true
are_terms ds ts (n ∷ ns) = is_term ds ts n && are_terms ds (ts ++ tree_of ts n ∷ []) ns

terms_from : (ds : List Declaration) (before : List Node) (ts : List Tree) (ns : List Node) → AreTerms ds before ts → are_terms ds ts ns ≡ true → AreTerms ds (before ++ ns) (trees_from ts ns)
terms_from ds before ts [] h e = subst (λ ms. AreTerms ds ms ts) (no_more before) h
  where
    no_more : (ms : List Node) → ms ≡ ms ++ []
    no_more [] = refl
    no_more (m ∷ ms) = cc (no_more ms)
terms_from ds before ts (n ∷ ns) h e =
    let first : is_term ds ts n ≡ true = and_left (is_term ds ts n) (are_terms ds (ts ++ tree_of ts n ∷ []) ns) e in
    subst (λ ms. AreTerms ds ms (trees_from (ts ++ tree_of ts n ∷ []) ns)) (append_assoc before (n ∷ []) ns)
    (terms_from ds (before ++ n ∷ []) (ts ++ tree_of ts n ∷ []) ns (next_term h n (one_term ds ts n first)) (and_right (is_term ds ts n) (are_terms ds (ts ++ tree_of ts n ∷ []) ns) e))

pub terms : (ds : List Declaration) (ns : List Node) → are_terms ds [] ns ≡ true → AreTerms ds ns (trees_of ns)
terms ds ns h = terms_from ds [] [] ns no_terms h

-- ---- literals

pub bool_sort : (o : Option Sort) → is_bool o ≡ true → o ≡ Some Truths
bool_sort (Some Truths) h = refl
bool_sort (Some Ints) h = let e : false ≡ true = h in cc
bool_sort (Some (Free k)) h = let e : false ≡ true = h in cc
bool_sort None h = let e : false ≡ true = h in cc

pub int_sort : (o : Option Sort) → is_int o ≡ true → o ≡ Some Ints
int_sort (Some Ints) h = refl
int_sort (Some Truths) h = let e : false ≡ true = h in cc
int_sort (Some (Free k)) h = let e : false ≡ true = h in cc
int_sort None h = let e : false ≡ true = h in cc

pub other_than_zero : (c : ℤ) → is_zero c ≡ false → c ≡ pos 0 → ⊥
other_than_zero c h e = let f : true ≡ false = ap is_zero (sym e) ∙ h in cc

abbrev pub is_summand : List Declaration → List Tree → Summand → Bool
is_summand ds ts p = nat_lt p.term (length ts) && (is_int (term_sort ds (tree_at ts p.term)) && (is_leaf (tree_at ts p.term) && not (is_zero p.coefficient)))

abbrev pub are_summands : List Declaration → List Tree → List Summand → Bool
are_summands ds ts [] = true
are_summands ds ts (p ∷ ps) = is_summand ds ts p && are_summands ds ts ps

abbrev pub before_each : ℕ → List Summand → Bool
before_each i [] = true
before_each i (p ∷ ps) = nat_lt i p.term && before_each i ps

abbrev pub ascend : List Summand → Bool
ascend [] = true
ascend (p ∷ ps) = before_each p.term ps && ascend ps

abbrev pub is_one_sort : Option Sort → Option Sort → Bool
is_one_sort (Some Truths) (Some Truths) = true
is_one_sort (Some Ints) (Some Ints) = true
is_one_sort _ _ = false

abbrev pub is_atom : List Declaration → List Tree → Atom → Bool
is_atom ds ts (Truth i) = nat_lt i (length ts) && is_bool (term_sort ds (tree_at ts i))
is_atom ds ts (Same i j) = nat_lt i (length ts) && (nat_lt j (length ts) && is_one_sort (term_sort ds (tree_at ts i)) (term_sort ds (tree_at ts j)))
is_atom ds ts (AtMost ps k) = are_summands ds ts ps && ascend ps

abbrev pub are_literals : List Declaration → List Tree → List Literal → Bool
are_literals ds ts [] = true
are_literals ds ts (l ∷ ls) = is_atom ds ts l.atom && are_literals ds ts ls

not_true : (b : Bool) → not b ≡ true → b ≡ false
not_true false h = refl
not_true true h = let e : false ≡ true = h in cc

one_summand : (ds : List Declaration) (ts : List Tree) (p : Summand) → is_summand ds ts p ≡ true → IsSummand ds ts p
one_summand ds ts p h =
    let within : Bool = nat_lt p.term (length ts) in
    let int : Bool = is_int (term_sort ds (tree_at ts p.term)) in
    let leaf : Bool = is_leaf (tree_at ts p.term) in
    let some : Bool = not (is_zero p.coefficient) in
    let rest : (int && (leaf && some)) ≡ true = and_right within (int && (leaf && some)) h in
    let last : (leaf && some) ≡ true = and_right int (leaf && some) rest in
    record {
      int = (less p.term (length ts) (and_left within (int && (leaf && some)) h), int_sort (term_sort ds (tree_at ts p.term)) (and_left int (leaf && some) rest));
      leaf = and_left leaf some last;
      not_zero = other_than_zero p.coefficient (not_true (is_zero p.coefficient) (and_right leaf some last));
    }

summands : (ds : List Declaration) (ts : List Tree) (ps : List Summand) → are_summands ds ts ps ≡ true → All (IsSummand ds ts) ps
summands ds ts [] h = All-nil (IsSummand ds ts)
summands ds ts (p ∷ ps) h =
    All-cons (IsSummand ds ts) p ps (one_summand ds ts p (and_left (is_summand ds ts p) (are_summands ds ts ps) h)) (summands ds ts ps (and_right (is_summand ds ts p) (are_summands ds ts ps) h))

abbrev Before : Summand → Summand → Type 0
Before p q = p.term < q.term

each_later : (p : Summand) (ps : List Summand) → before_each p.term ps ≡ true → All (Before p) ps
each_later p [] h = All-nil (Before p)
each_later p (q ∷ ps) h =
    All-cons (Before p) q ps (less p.term q.term (and_left (nat_lt p.term q.term) (before_each p.term ps) h)) (each_later p ps (and_right (nat_lt p.term q.term) (before_each p.term ps) h))

ascending : (ps : List Summand) → ascend ps ≡ true → AllPairs Before ps
ascending [] h = λ i j d k l. absurd (omega (arith, l))
ascending (p ∷ ps) h =
    AllPairs-cons Before p ps (each_later p ps (and_left (before_each p.term ps) (ascend ps) h)) (ascending ps (and_right (before_each p.term ps) (ascend ps) h))

one_sort : (o p : Option Sort) → is_one_sort o p ≡ true → o ≡ p
one_sort (Some Truths) (Some Truths) h = refl
one_sort (Some Ints) (Some Ints) h = refl
one_sort o p h = cc

one_atom : (ds : List Declaration) (ts : List Tree) (a : Atom) → is_atom ds ts a ≡ true → IsAtom ds ts a
one_atom ds ts (Truth i) h =
    let sort : Option Sort = term_sort ds (tree_at ts i) in
    (less i (length ts) (and_left (nat_lt i (length ts)) (is_bool sort) h), bool_sort sort (and_right (nat_lt i (length ts)) (is_bool sort) h))
one_atom ds ts (Same i j) h =
    let same : Bool = is_one_sort (term_sort ds (tree_at ts i)) (term_sort ds (tree_at ts j)) in
    let rest : (nat_lt j (length ts) && same) ≡ true = and_right (nat_lt i (length ts)) (nat_lt j (length ts) && same) h in (
      less i (length ts) (and_left (nat_lt i (length ts)) (nat_lt j (length ts) && same) h),
      less j (length ts) (and_left (nat_lt j (length ts)) same rest),
      one_sort (term_sort ds (tree_at ts i)) (term_sort ds (tree_at ts j)) (and_right (nat_lt j (length ts)) same rest),
    )
one_atom ds ts (AtMost ps k) h = (summands ds ts ps (and_left (are_summands ds ts ps) (ascend ps) h), ascending ps (and_right (are_summands ds ts ps) (ascend ps) h))

pub literals : (ds : List Declaration) (ts : List Tree) (ls : List Literal) → are_literals ds ts ls ≡ true → All (IsLiteral ds ts) ls
literals ds ts [] h = All-nil (IsLiteral ds ts)
literals ds ts (l ∷ ls) h =
    All-cons (IsLiteral ds ts) l ls (one_atom ds ts l.atom (and_left (is_atom ds ts l.atom) (are_literals ds ts ls) h))
    (literals ds ts ls (and_right (is_atom ds ts l.atom) (are_literals ds ts ls) h))
