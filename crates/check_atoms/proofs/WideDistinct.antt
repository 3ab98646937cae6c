-- What a wide `distinct` compares.
use Rattle.std.proofs.Common.{◌≡◌, inl, inr, ℕ, ◌<◌, true, false, nat_lt, List, [], ◌∷◌, length, Contains, subst, sym, ap, ◌∙◌, refl, arith}
use Rattle.std.specs.Prelude.{if◌then◌else◌}
use Rattle.std.proofs.lemmas.Bool.Decides.{nat_tests}
use Rattle.std.proofs.lemmas.List.Elements.{Contains-append_cases, Contains-append_right}
use Rattle.smt_meaning.specs.declared.terms.Operator.TheVariants.{Distinct}
use Rattle.smt_meaning.specs.declared.terms.Head.{Head}
use Rattle.smt_meaning.specs.declared.terms.Head.TheVariants.{Theory}
use Rattle.smt_meaning.specs.declared.clauses.Atom.{Atom}
use Rattle.smt_meaning.specs.Declaration.{Declaration}
use Rattle.smt_meaning.specs.Term.{Tree, Trees, tree_at}
use Rattle.smt_meaning.specs.Nodes.{pick}
use Rattle.smt_meaning.specs.Kinds.{count_trees}
use Rattle.smt_meaning.specs.Atoms.{of_first_with, of_pairs, comparison_atoms, most_compared, is_wide, early_atoms}

counted : (ts : List Tree) (is : List ℕ) → count_trees (pick ts is) ≡ length is
counted ts [] = refl
counted ts (i ∷ is) = let rest : count_trees (pick ts is) ≡ length is = counted ts is in omega arith

more_than : (a b : ℕ) → a < b → nat_lt a b ≡ true
more_than a b h = grind (arith, nat_tests)

pub many_are_wide : (ts : List Tree) (h : Head) (is : List ℕ) → h ≡ Theory Distinct → most_compared < length is → is_wide h (pick ts is) ≡ true
many_are_wide ts h is e many = subst (λ (k : Head). is_wide k (pick ts is) ≡ true) (sym e) (ap (nat_lt most_compared) (counted ts is) ∙ more_than most_compared (length is) many)

pub wide_is_distinct : (h : Head) (us : Trees) → is_wide h us ≡ true → h ≡ Theory Distinct
wide_is_distinct (Theory Distinct) us e = refl
wide_is_distinct h us e = absurd (let x : false ≡ true = e in cc)

module _ (ts : List Tree) (ds : List Declaration) (h : Head) (us : Trees) where
  pub early_unless_wide : is_wide h us ≡ false → early_atoms ts ds h us ≡ comparison_atoms ts ds h us
  early_unless_wide e = ap (λ b. if b then [] else comparison_atoms ts ds h us) e

  pub none_if_wide : is_wide h us ≡ true → early_atoms ts ds h us ≡ []
  none_if_wide e = ap (λ b. if b then [] else comparison_atoms ts ds h us) e

-- two of these places, and an atom of the terms there
pub record IsOfTwo (ts : List Tree) (f : Tree → Tree → List Atom) (is : List ℕ) (a : Atom) : Type 0 where
  pub left : ℕ
  pub right : ℕ
  pub left_in : Contains is left
  pub right_in : Contains is right
  pub among : Contains (f (tree_at ts left) (tree_at ts right)) a

module _ (ts : List Tree) (f : Tree → Tree → List Atom) (a : Atom) where
  first_in : (i : ℕ) (is : List ℕ) → Contains (i ∷ is) i
  first_in i is = (0, omega arith, refl)

  later_in : (i j : ℕ) (is : List ℕ) → Contains is j → Contains (i ∷ is) j
  later_in i j is c = Contains-append_right (i ∷ []) is j c

  of_first : (i : ℕ) (js : List ℕ) → Contains (of_first_with f (tree_at ts i) (pick ts js)) a → (j : ℕ) × Contains js j × Contains (f (tree_at ts i) (tree_at ts j)) a
  of_first i [] c = absurd (omega (arith, c.1))
  of_first i (j ∷ js) c = elim (Contains-append_cases (f (tree_at ts i) (tree_at ts j)) (of_first_with f (tree_at ts i) (pick ts js)) a c) [
    | inl here ↦ (j, first_in j js, here)
    | inr rest ↦ let r = of_first i js rest in (r.0, later_in j r.0 js r.1, r.2)
  ]

  pub of_two : (is : List ℕ) → Contains (of_pairs f (pick ts is)) a → IsOfTwo ts f is a
  of_two [] c = absurd (omega (arith, c.1))
  of_two (i ∷ is) c = elim (Contains-append_cases (of_first_with f (tree_at ts i) (pick ts is)) (of_pairs f (pick ts is)) a c) [
    | inl first ↦ let r = of_first i is first in record { left = i; right = r.0; left_in = first_in i is; right_in = later_in i r.0 is r.1; among = r.2 }
    | inr rest ↦
        let r = of_two is rest in
        record { left = r.left; right = r.right; left_in = later_in i r.left is r.left_in; right_in = later_in i r.right is r.right_in; among = r.among }
  ]
