-- The atoms of a `distinct` with which a check begins: of three terms each two are compared, of two hundred and one no two are.
use Rattle.std.proofs.Common.{◌≡◌, ℕ, zero, suc, true, false, List, [], ◌∷◌, refl}
use Rattle.std.specs.Prelude.{None}
use Rattle.smt_meaning.specs.declared.values.Sort.TheVariants.{Int as Ints}
use Rattle.smt_meaning.specs.declared.terms.Operator.TheVariants.{Equal, Distinct}
use Rattle.smt_meaning.specs.declared.terms.Head.TheVariants.{Theory, Symbol}
use Rattle.smt_meaning.specs.Declaration.{Declaration}
use Rattle.smt_meaning.specs.Term.{Tree, Trees, node, none, more}
use Rattle.smt_meaning.specs.Atoms.{is_wide, early_atoms}

abbrev x : Tree
x = node (Symbol 0) none

-- so many times the same term
abbrev times : ℕ → Trees
times zero = none
times (suc n) = more x (times n)

abbrev signature : List Declaration
signature = record { id = 0; name = []; rank = record { arguments = []; result = Ints }; body = None; is_sort = false; is_name = false } ∷ []

three : is_wide (Theory Distinct) (times 3) ≡ false
three = refl

most : is_wide (Theory Distinct) (times 200) ≡ false
most = refl

one_more : is_wide (Theory Distinct) (times 201) ≡ true
one_more = refl

-- an equality of so many terms is not wide
no_distinct : is_wide (Theory Equal) (times 201) ≡ false
no_distinct = refl

-- no two are compared, where each two of three are
compares_none : early_atoms (x ∷ []) signature (Theory Distinct) (times 201) ≡ []
compares_none = refl
