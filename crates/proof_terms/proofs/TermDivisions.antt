-- Whether a tree is a numeral, or the negation of one, by its node.
use Rattle.std.proofs.Common.{◌≡◌, ℕ, ◌<◌, false, List, [], ◌∷◌, length, refl, ap, sym, ◌∙◌, arith}
use Rattle.smt_meaning.specs.declared.terms.Head.{Head}
use Rattle.smt_meaning.specs.declared.terms.Head.TheVariants.{Numeral, Theory, Symbol, Place}
use Rattle.smt_meaning.specs.declared.terms.Operator.TheVariants.{Subtract}
use Rattle.smt_meaning.specs.Term.{Tree, Trees, node, none, more, tree_at}
use Rattle.smt_meaning.specs.Nodes.{pick}
use Rattle.term_store.specs.Terms.{tree_with}
use Rattle.proof_terms.specs.TermFacts.{is_nonzero, is_negation}

-- ---- a numeral, or the negation of one

more_than_numeral : (h : Head) (t : Tree) (us : Trees) → false ≡ is_nonzero (node h (more t us))
more_than_numeral (Numeral n) t us = refl
more_than_numeral (Theory o) t us = refl
more_than_numeral (Symbol f) t us = refl
more_than_numeral (Place k) t us = refl

nothing_subtracted : (h : Head) → false ≡ is_negation (node h none)
nothing_subtracted (Theory Subtract) = refl
nothing_subtracted (Theory o) = refl
nothing_subtracted (Numeral n) = refl
nothing_subtracted (Symbol f) = refl
nothing_subtracted (Place k) = refl

two_subtracted : (h : Head) (t u : Tree) (us : Trees) → false ≡ is_negation (node h (more t (more u us)))
two_subtracted (Theory Subtract) t u us = refl
two_subtracted (Theory o) t u us = refl
two_subtracted (Numeral n) t u us = refl
two_subtracted (Symbol f) t u us = refl
two_subtracted (Place k) t u us = refl

module _ (ts : List Tree) (t : Tree) (h : Head) where
  pub some_arguments : (is : List ℕ) → t ≡ tree_with ts h is → 0 < length is → false ≡ is_nonzero t
  some_arguments [] e some = absurd (omega (arith, some))
  some_arguments (i ∷ is) e some = more_than_numeral h (tree_at ts i) (pick ts is) ∙ ap is_nonzero (sym e)

  pub not_one : (is : List ℕ) → t ≡ tree_with ts h is → (length is ≡ 1 → ⊥) → false ≡ is_negation t
  not_one [] e other = nothing_subtracted h ∙ ap is_negation (sym e)
  not_one (i ∷ []) e other = absurd (other refl)
  not_one (i ∷ j ∷ is) e other = two_subtracted h (tree_at ts i) (tree_at ts j) (pick ts is) ∙ ap is_negation (sym e)
