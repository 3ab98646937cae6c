-- What the examples of answers share: constants, and that every check is decided.
use Rattle.std.proofs.Common.{ℕ, true, false, List, []}
use Rattle.std.specs.Prelude.{None}
use Rattle.smt_meaning.specs.declared.values.Sort.{Sort}
use Rattle.smt_meaning.specs.declared.values.Sort.TheVariants.{Bool as Truths}
use Rattle.smt_meaning.specs.declared.terms.Head.TheVariants.{Symbol as Function}
use Rattle.smt_meaning.specs.Declaration.{Declaration}
use Rattle.smt_meaning.specs.Term.{Tree, node, none}
use Rattle.smt_meaning.specs.MayReply.{Decided}

abbrev pub every : Decided
every frames = true

abbrev pub constant : Sort → ℕ → List ℕ → Declaration
constant s id n = record { id = id; name = n; rank = record { arguments = []; result = s }; body = None; is_sort = false; is_name = false }

abbrev pub truth_constant : ℕ → List ℕ → Declaration
truth_constant = constant Truths

-- the constants that are declared first and second
abbrev pub first_tree : Tree
first_tree = node (Function 0) none

abbrev pub second_tree : Tree
second_tree = node (Function 1) none
