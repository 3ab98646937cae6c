-- Which terms are wide `xor`s.
use Rattle.std.proofs.Common.{◌≡◌, ℕ, ◌+◌, ◌<◌, ◌≤◌, inl, inr, Bool, List, [], ◌∷◌, ◌++◌, length, All, Contains, subst, sym, ap, ◌∙◌, refl, arith}
use Rattle.std.proofs.lemmas.Bool.{cases_lt}
use Rattle.std.proofs.lemmas.List.{get_or_past}
use Rattle.std.proofs.lemmas.List.Elements.{All-head, All-tail, All-weaker, Contains-append_left, Contains-push}
use Rattle.smt_meaning.specs.declared.terms.Operator.TheVariants.{False, Xor}
use Rattle.smt_meaning.specs.declared.terms.Head.{Head}
use Rattle.smt_meaning.specs.declared.terms.Head.TheVariants.{Theory}
use Rattle.smt_meaning.specs.Nodes.{pick}
use Rattle.smt_meaning.specs.Term.{Tree, Trees, node, more, none, tree_at}
use Rattle.term_store.specs.Terms.{tree_with, AreDifferent}
use Rattle.check_atoms.specs.Parts.{IsMarked}
use Rattle.closure_log.specs.Parts.{IsWideXor, AreWideXorsBelow, AreWideXors}

pub one_place : (ts : List Tree) (i j : ℕ) → AreDifferent ts → i < length ts → j < length ts → tree_at ts i ≡ tree_at ts j → i ≡ j
one_place ts i j d h k e = elim (cases_lt i j) [
  | inl less ↦ absurd (d i j less k e)
  | inr past ↦ elim (cases_lt j i) [
    | inl less ↦ absurd (d j i less h (sym e))
    | inr other ↦ omega arith
  ]
]

-- where no tree stands twice, the arguments' places are determined
pub one_list : (ts : List Tree) → AreDifferent ts → (is js : List ℕ) → All (λ i. i < length ts) is → All (λ i. i < length ts) js → pick ts is ≡ pick ts js → is ≡ js
one_list ts d [] [] h k e = refl
one_list ts d [] (j ∷ js) h k e = absurd cc
one_list ts d (i ∷ is) [] h k e = absurd cc
one_list ts d (i ∷ is) (j ∷ js) h k e =
    ap (λ n. n ∷ is) (one_place ts i j d (All-head (λ n. n < length ts) i is h) (All-head (λ n. n < length ts) j js k) (heads (tree_at ts i) (tree_at ts j) (pick ts is) (pick ts js) e))
    ∙ ap (λ ns. j ∷ ns) (one_list ts d is js (All-tail (λ n. n < length ts) i is h) (All-tail (λ n. n < length ts) j js k) (tails (tree_at ts i) (tree_at ts j) (pick ts is) (pick ts js) e))
  where
    heads : (t u : Tree) (ts us : Trees) → more t ts ≡ more u us → t ≡ u
    heads t u ts us q = cc

    tails : (t u : Tree) (ts us : Trees) → more t ts ≡ more u us → ts ≡ us
    tails t u ts us q = cc

pub head_of : (h k : Head) (ts us : Trees) → node h ts ≡ node k us → h ≡ k
head_of h k ts us e = cc

pub arguments_of : (h k : Head) (ts us : Trees) → node h ts ≡ node k us → ts ≡ us
arguments_of h k ts us e = cc

-- a wide `xor` stands among the terms
pub within : (ts : List Tree) (p : ℕ) (is : List ℕ) → IsWideXor ts p is → p < length ts
within ts p is h = elim (cases_lt p (length ts)) [
  | inl less ↦ less
  | inr past ↦ absurd (apart (pick ts is) (sym (get_or_past ts p (node (Theory False) none) past) ∙ h.tree))
]
  where
    apart : (us : Trees) → node (Theory False) none ≡ node (Theory Xor) us → ⊥
    apart us e = cc

-- ---- lists of wide `xor`s

pub all_below : (ts : List Tree) (marks : List Bool) (n : ℕ) (ps : List ℕ) → length ts ≤ n → AreWideXorsBelow ts marks n ps → AreWideXors ts marks ps
all_below ts marks n ps past h p is marked x = let less : p < length ts = within ts p is x in h p is (omega arith) marked x

pub added : (ts : List Tree) (marks : List Bool) (n : ℕ) (ps : List ℕ) → AreWideXorsBelow ts marks n ps → AreWideXorsBelow ts marks (n + 1) (ps ++ n ∷ [])
added ts marks n ps h p is less marked x = elim (cases_lt p n) [
  | inl before ↦ Contains-append_left ps (n ∷ []) p (h p is before marked x)
  | inr past ↦ let here : n ≡ p = omega arith in subst (Contains (ps ++ n ∷ [])) here (Contains-push ps n)
]

pub left_out : (ts : List Tree) (marks : List Bool) (n : ℕ) (ps : List ℕ) → ((is : List ℕ) → IsMarked marks n → IsWideXor ts n is → ⊥) → AreWideXorsBelow ts marks n ps → AreWideXorsBelow ts marks (n + 1) ps
left_out ts marks n ps not_here h p is less marked x = elim (cases_lt p n) [
  | inl before ↦ h p is before marked x
  | inr past ↦
      let here : p ≡ n = omega arith in
      absurd (not_here is (subst (IsMarked marks) here marked) (subst (λ q. IsWideXor ts q is) here x))
]

-- ---- the node of a term

module _ (ts : List Tree) (p : ℕ) (h : Head) (args : List ℕ) (different : AreDifferent ts) (place : p < length ts) (tree : tree_at ts p ≡ tree_with ts h args) (earlier : All (λ i. i < p) args) where
  are_within : All (λ i. i < length ts) args
  are_within = All-weaker (λ i. i < p) (λ i. i < length ts) (λ i less. omega arith) args earlier

  pub is_wide : h ≡ Theory Xor → 4 ≤ length args → IsWideXor ts p args
  is_wide e wide = record { tree = subst (λ (k : Head). tree_at ts p ≡ tree_with ts k args) e tree; earlier = are_within; wide = wide }

  pub its_head : (js : List ℕ) → IsWideXor ts p js → h ≡ Theory Xor
  its_head js x = head_of h (Theory Xor) (pick ts args) (pick ts js) (sym tree ∙ x.tree)

  pub its_arguments : (js : List ℕ) → IsWideXor ts p js → js ≡ args
  its_arguments js x = one_list ts different js args x.earlier are_within (sym (arguments_of h (Theory Xor) (pick ts args) (pick ts js) (sym tree ∙ x.tree)))
