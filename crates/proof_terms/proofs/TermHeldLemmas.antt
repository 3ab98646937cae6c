-- Terms among those of the stack.
use Rattle.std.proofs.Common.{◌≡◌, ℕ, zero, suc, ◌+◌, ◌<◌, Bool, true, false, List, [], ◌∷◌, ◌++◌, length, get_or, take, drop, All, refl, ap, sym, subst, ◌∙◌, arith}
use Rattle.std.specs.Prelude.{ℤ, Option, Some, None, if◌then◌else◌}
use Rattle.std.proofs.lemmas.List.{get_or-take, length-take-le, take_more, drop_more}
use Rattle.smt_meaning.specs.declared.terms.Operator.{Operator}
use Rattle.smt_meaning.specs.declared.terms.Operator.TheVariants.{Divide, Modulo, Divisible}
use Rattle.smt_meaning.specs.declared.terms.Head.{Head}
use Rattle.smt_meaning.specs.declared.terms.Head.TheVariants.{Numeral, Theory, Symbol, Place}
use Rattle.smt_meaning.specs.Term.{Tree, Trees, node, none, more, tree_at}
use Rattle.smt_meaning.specs.TreeShape.{operation, quotient_tree, divided_from, is_among, with_tree, with_parts, with_all_parts, place_of}
use Rattle.smt_meaning.specs.Nodes.{pick}
use Rattle.proof_meaning.specs.Proof.{meant_at}
use Rattle.smt_laws.proofs.Among.{Among, among_append, kept_with_all_parts, among_parts}
use Rattle.smt_laws.proofs.SameTree.{found_again}
use Rattle.term_store.specs.Terms.{tree_with, IsPlace, IsNew, AreDifferent, AreComplete}
use Rattle.term_store.proofs.NodeLemmas.{pick-agree}
use Rattle.term_store.proofs.PlaceLemmas.{among_at, place_of-within, with_tree_new}
use Rattle.proof_terms.specs.declared.terms_facts.Fact.{Fact}
use Rattle.proof_terms.specs.TermFacts.{is_division, beside_quotient, with_held, held_of}

-- ---- the places of arguments

pub held_push : (fs : List Fact) (is : List ℕ) (f : Fact) (i : ℕ) → held_of fs ≡ Some is → f.held ≡ Some i → held_of (fs ++ f ∷ []) ≡ Some (is ++ i ∷ [])
held_push [] is f i e h = ap (λ o. with_held o (Some [])) h ∙ ap (λ (js : Option (List ℕ)). elim js [ None ↦ None | Some js ↦ Some (js ++ i ∷ []) ]) e
held_push (g ∷ fs) is f i e h = by g.held (held_of fs) (λ js r. held_push fs js f i r h) e refl
  where
    by : (o : Option ℕ) (rest : Option (List ℕ)) → ((js : List ℕ) → held_of fs ≡ Some js → held_of (fs ++ f ∷ []) ≡ Some (js ++ i ∷ [])) → with_held o rest ≡ Some is → held_of fs ≡ rest
        → with_held o (held_of (fs ++ f ∷ [])) ≡ Some (is ++ i ∷ [])
    by None rest before e r = cc
    by (Some j) None before e r = cc
    by (Some j) (Some js) before e r =
        let here : j ∷ js ≡ is = cc in
        ap (with_held (Some j)) (before js r) ∙ ap (λ (xs : List ℕ). Some (xs ++ i ∷ [])) here

with_none : (o : Option ℕ) → with_held o None ≡ None
with_none None = refl
with_none (Some i) = refl

pub held_nowhere : (fs : List Fact) (k : ℕ) (d : Fact) → k < length fs → (get_or fs k d).held ≡ None → held_of fs ≡ None
held_nowhere [] k d h e = absurd (omega arith)
held_nowhere (f ∷ fs) zero d h e = ap (λ o. with_held o (held_of fs)) e
held_nowhere (f ∷ fs) (suc k) d h e = ap (with_held f.held) (held_nowhere fs k d (omega arith) e) ∙ with_none f.held

-- ---- a copy

module _ (ts : List Tree) (k : ℕ) (h : Head) (is : List ℕ) (different : AreDifferent ts) (inside : k < length ts) (tree : tree_at ts k ≡ tree_with ts h is) (earlier : All (λ i. i < k) is) where
  in_take : (i : ℕ) → i < k → tree_at (take k ts) i ≡ tree_at ts i
  in_take i less = get_or-take k ts i _ less

  same_tree : tree_with (take k ts) h is ≡ tree_at ts k
  same_tree = ap (node h) (pick-agree ts (take k ts) is k in_take earlier) ∙ sym tree

  new_tree : IsNew (take k ts) (tree_with (take k ts) h is)
  new_tree i less e =
      let size : length (take k ts) ≡ k = length-take-le k ts (omega arith) in
      different i k (omega arith) inside (sym (in_take i (omega arith)) ∙ e ∙ same_tree)

  pub copied_more : (us : List Tree) → us ≡ take k ts → with_tree us (tree_with us h is) ≡ take (k + 1) ts
  copied_more us e =
      ap (λ xs. with_tree xs (tree_with xs h is)) e ∙ with_tree_new (tree_with (take k ts) h is) (take k ts) new_tree
      ∙ ap (λ t. take k ts ++ t ∷ []) same_tree ∙ sym (take_more ts k _ inside)

-- ---- the parts of a complete list

abbrev pub AllAmong : List Tree → Trees → Type 0
AllAmong hs none = Unit {0}
AllAmong hs (more v vs) = Among v hs × AllAmong hs vs

all_kept : (hs ks : List Tree) (vs : Trees) → ((t : Tree) → Among t hs → Among t ks) → AllAmong hs vs → AllAmong ks vs
all_kept hs ks none f a = tt
all_kept hs ks (more v vs) f a = (f v a.0, all_kept hs ks vs f a.1)

all_added : (hs : List Tree) (vs : Trees) → AllAmong (with_all_parts hs vs) vs
all_added hs none = tt
all_added hs (more v vs) = (kept_with_all_parts v (with_parts hs v) vs (among_parts v hs), all_added (with_parts hs v) vs)

kept_tree : (t u : Tree) (hs : List Tree) → Among t hs → Among t (with_tree hs u)
kept_tree t u hs a = by (is_among u hs)
  where
    by : (b : Bool) → Among t (if b then hs else (hs ++ u ∷ []))
    by true = a
    by false = among_append t hs (u ∷ []) a

pub arguments_among : (hs : List Tree) (h : Head) (vs : Trees) (i : ℕ) → AreComplete hs → IsPlace hs i (node h vs) → AllAmong hs vs
arguments_among hs h vs i complete at =
    let e : with_parts hs (node h vs) ≡ hs = ap (with_parts hs) (sym at.1) ∙ complete i at.0 in
    all_kept (with_all_parts hs vs) hs vs (λ t a. subst (Among t) e (kept_tree t (node h vs) (with_all_parts hs vs) a)) (all_added hs vs)

pub not_among_new : (hs : List Tree) (t : Tree) → IsNew hs t → Among t hs → ⊥
not_among_new hs t new a = new (place_of t hs) (place_of-within t hs a) (found_again t hs a)

pub not_among_is_new : (hs : List Tree) (t : Tree) → is_among t hs ≡ false → IsNew hs t
not_among_is_new hs t h i less e = let a = among_at t hs i less e in cc

-- ---- the trees from which a tree of the list is made

placed : (hs : List Tree) (t : Tree) → Among t hs → IsPlace hs (place_of t hs) t
placed hs t a = (place_of-within t hs a, found_again t hs a)

divided_among : (hs : List Tree) (t : Tree) (ts : Trees) (i : ℕ) → AreComplete hs → IsPlace hs i (divided_from t ts) → AllAmong hs (more t ts)
divided_among hs t none i complete at = (among_at t hs i at.0 at.1, tt)
divided_among hs t (more u us) i complete at =
    let rest = divided_among hs (quotient_tree t u) us i complete at in
    let parts = arguments_among hs (Theory Divide) (more t (more u none)) (place_of (quotient_tree t u) hs) complete (placed hs (quotient_tree t u) rest.0) in
    (parts.0, (parts.1.0, rest.1))

operation_among : (hs : List Tree) (o : Operator) (ws : Trees) (i : ℕ) → AreComplete hs → IsPlace hs i (operation o ws) → AllAmong hs ws
operation_among hs Divide none i complete at = tt
operation_among hs Divide (more t ts) i complete at = divided_among hs t ts i complete at
operation_among hs Modulo (more t (more u none)) i complete at =
    let a = arguments_among hs (Theory Modulo) (more t (more u (more (quotient_tree t u) none))) i complete at in
    (a.0, (a.1.0, tt))
operation_among hs Divisible (more t (more u none)) i complete at =
    let a = arguments_among hs (Theory Divisible) (more t (more u (more (quotient_tree t u) none))) i complete at in
    (a.0, (a.1.0, tt))
operation_among hs o ws i complete at = arguments_among hs (Theory o) ws i complete at

-- of a tree of the list that a head makes of some, these are in the list
pub meant_among : (hs : List Tree) (h : Head) (ws : Trees) (i : ℕ) → AreComplete hs → IsPlace hs i (meant_at h ws) → AllAmong hs ws
meant_among hs (Theory o) ws i complete at = operation_among hs o ws i complete at
meant_among hs (Numeral n) none i complete at = tt
meant_among hs (Numeral n) (more t none) i complete at =
    let u : Tree = node (Numeral n) none in
    let a = arguments_among hs (Theory Divisible) (more t (more u (more (quotient_tree t u) none))) i complete at in
    (a.0, tt)
meant_among hs (Numeral n) (more t (more u us)) i complete at = arguments_among hs (Numeral n) (more t (more u us)) i complete at
meant_among hs (Symbol f) ws i complete at = arguments_among hs (Symbol f) ws i complete at
meant_among hs (Place k) ws i complete at = arguments_among hs (Place k) ws i complete at

-- ---- what isn't in the list as something of it isn't

pub divided_new : (hs : List Tree) (t : Tree) (us : Trees) → AreComplete hs → IsNew hs t → IsNew hs (divided_from t us)
divided_new hs t us complete new i less e = not_among_new hs t new (divided_among hs t us i complete (less, e)).0

pub divided_nowhere : (hs : List Tree) (t u : Tree) (ds : List ℕ) (i d : ℕ) → AreComplete hs → i < length ds → divided_from t (pick hs ds) ≡ divided_from u (pick hs (drop i ds))
    → IsNew hs (quotient_tree u (tree_at hs (get_or ds i d))) → IsNew hs (divided_from t (pick hs ds))
divided_nowhere hs t u ds i d complete inside e new =
    let next : Trees = pick hs (drop (i + 1) ds) in
    let shape : divided_from t (pick hs ds) ≡ divided_from (quotient_tree u (tree_at hs (get_or ds i d))) next = e ∙ ap (λ is. divided_from u (pick hs is)) (drop_more ds i d inside) in
    subst (IsNew hs) (sym shape) (divided_new hs (quotient_tree u (tree_at hs (get_or ds i d))) next complete new)

module _ (hs : List Tree) (o : Operator) (t u : Tree) (complete : AreComplete hs) where
  parts : (i : ℕ) → i < length hs → tree_at hs i ≡ beside_quotient o t u → AllAmong hs (more t (more u (more (quotient_tree t u) none)))
  parts i less e = arguments_among hs (Theory o) (more t (more u (more (quotient_tree t u) none))) i complete (less, e)

  pub beside_new : IsNew hs (quotient_tree t u) → IsNew hs (beside_quotient o t u)
  beside_new new i less e = not_among_new hs (quotient_tree t u) new (parts i less e).1.1.0

  pub divisor_new : IsNew hs u → IsNew hs (beside_quotient o t u)
  divisor_new new i less e = not_among_new hs u new (parts i less e).1.0

-- ---- operators

pub operation_plain : (o : Operator) (us : Trees) → is_division o ≡ false → node (Theory o) us ≡ operation o us
operation_plain Divide us h = cc
operation_plain Modulo us h = cc
operation_plain Divisible us h = cc
operation_plain o us h = refl

pub operation_beside : (o : Operator) (t u : Tree) → is_division o ≡ true → (o ≡ Divide → ⊥) → beside_quotient o t u ≡ operation o (more t (more u none))
operation_beside Divide t u h other = absurd (other refl)
operation_beside Modulo t u h other = refl
operation_beside Divisible t u h other = refl
operation_beside o t u h other = cc

not_two : (o : Operator) (us : Trees) → (o ≡ Divide → ⊥) → ((t u : Tree) → us ≡ more t (more u none) → ⊥) → node (Theory o) us ≡ operation o us
not_two Divide us other two = absurd (other refl)
not_two Modulo (more t (more u none)) other two = absurd (two t u refl)
not_two Divisible (more t (more u none)) other two = absurd (two t u refl)
not_two o us other two = refl

two_picked : (hs : List Tree) (is : List ℕ) (t u : Tree) → pick hs is ≡ more t (more u none) → length is ≡ 2
two_picked hs [] t u e = cc
two_picked hs (i ∷ []) t u e = cc
two_picked hs (i ∷ j ∷ []) t u e = refl
two_picked hs (i ∷ j ∷ k ∷ is) t u e = cc

pub operation_alone : (hs : List Tree) (o : Operator) (is : List ℕ) → (o ≡ Divide → ⊥) → (length is ≡ 2 → ⊥) → node (Theory o) (pick hs is) ≡ operation o (pick hs is)
operation_alone hs o is other two = not_two o (pick hs is) other (λ t u e. two (two_picked hs is t u e))

pub numeral_alone : (hs : List Tree) (h : Head) (n : ℤ) (is : List ℕ) → h ≡ Numeral n → (length is ≡ 1 → ⊥) → node (Numeral n) (pick hs is) ≡ meant_at h (pick hs is)
numeral_alone hs h n is e other = by is other ∙ ap (λ k. meant_at k (pick hs is)) (sym e)
  where
    by : (js : List ℕ) → (length js ≡ 1 → ⊥) → node (Numeral n) (pick hs js) ≡ meant_at (Numeral n) (pick hs js)
    by [] k = refl
    by (j ∷ []) k = absurd (k refl)
    by (i ∷ j ∷ js) k = refl
