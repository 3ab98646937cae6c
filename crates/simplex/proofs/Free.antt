-- The variables of a tableau that aren't basic are independent.
use Rattle.std.proofs.Common.{List, refl, sym, subst}
use Rattle.fraction128.specs.Number.{SameNumber}
use Rattle.fraction128.specs.declared.Column.{Column}
use Rattle.fraction128.specs.Grid.{variable_of}
use Rattle.simplex_steps.specs.Law.{ComeFromTerms}
use Rattle.simplex_steps.proofs.Independent.{solutions_are_free}
use Rattle.tableau.specs.Table.{Table}
use Rattle.simplex_steps.specs.State.{grid_of}
use Rattle.simplex_steps.proofs.Sound.{is_grid}
use Rattle.simplex.specs.Sums.{IsMeant, HaveOwnSums, MeantAreFree}
use Rattle.simplex.proofs.Leaves.{leaf_found}

come : (t : Table) (cs : List Column) → IsMeant t.rows cs → HaveOwnSums cs → ComeFromTerms (grid_of t cs)
come t cs meant own v fv met = (
  (λ term. v (variable_of cs term)),
  (λ term. fv (variable_of cs term)),
  λ i lt. sym (meant.determined v (λ term. v (variable_of cs term)) fv (λ term. fv (variable_of cs term)) met
      (λ j term lj e. subst (λ n. SameNumber (v j) (v n)) (sym (leaf_found cs term j own lj e)) refl) i lt),
)

pub meant_are_free : MeantAreFree
meant_are_free t cs table s meant own = solutions_are_free (grid_of t cs) (is_grid t cs table s) (come t cs meant own)
