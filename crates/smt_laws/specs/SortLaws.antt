-- Laws of the sorts that terms are judged to have.
use Rattle.std.specs.Prelude.{◌≡◌, ℕ, List, [], Some, map, All, Contains, IsTrue}
use Rattle.smt_meaning.specs.declared.values.Sort.{Sort}
use Rattle.smt_meaning.specs.declared.values.Sort.TheVariants.{Bool as Truths}
use Rattle.smt_meaning.specs.Declaration.{Declaration}
use Rattle.smt_meaning.specs.declared.commands.Command.{Command}
use Rattle.smt_meaning.specs.Term.{Tree}
use Rattle.smt_meaning.specs.Sexp.{Sexp}
use Rattle.smt_meaning.specs.TreeShape.{is_among}
use Rattle.smt_meaning.specs.Parts.{IsPart, AreInOrder}
use Rattle.smt_meaning.specs.Signature.{tree_sort, HasNoIdTwice}
use Rattle.smt_meaning.specs.Clause.{symbols}
use Rattle.smt_meaning.specs.Follows.{declared_ids}
use Rattle.smt_meaning.specs.Sorts.{Scope, done, Typed, Rules, judge}
use Rattle.smt_meaning.specs.Stack.{Frame, signature_of, assertions_of, up_to}
use Rattle.smt_meaning.specs.StackCommand.{start, after_all, scope_of}

-- whatever commands came before, the tree of an accepted term has the sort that the term was judged to have
abbrev pub AcceptedTermHasItsSort : Type 0
AcceptedTermHasItsSort =
    (cs : List Command) (r : Rules) (x : Sexp) (t : Scope) (a : Typed) → judge r [] x (scope_of (after_all start cs)) ≡ done a t → tree_sort t.signature a.tree ≡ Some a.sort

-- whatever commands come, each assertion on the stack has the sort Bool under the stack's signature
abbrev pub AssertionsAreTruths : Type 0
AssertionsAreTruths =
    (cs : List Command) → All (λ (u : Tree). tree_sort (signature_of (after_all start cs).frames) u ≡ Some Truths) (assertions_of (after_all start cs).frames)

-- whatever commands come, the stack's trees are different, and each stands after its arguments
abbrev pub TreesAreInOrder : Type 0
TreesAreInOrder = (cs : List Command) → AreInOrder (after_all start cs).trees

-- whatever commands come, each part of an assertion is among the stack's trees
abbrev pub PartsAreAmongTheTrees : Type 0
PartsAreAmongTheTrees =
    (cs : List Command) → All (λ (t : Tree). (u : Tree) → IsPart u t → IsTrue (is_among u (after_all start cs).trees)) (assertions_of (after_all start cs).frames)

-- where no id stands twice, a term whose symbols are declared at a level has there the sort that it has above, or none there as above
abbrev pub SortsAreTheSameBelow : Type 0
SortsAreTheSameBelow =
    (frames : List Frame) (l : ℕ) (t : Tree) → HasNoIdTwice (signature_of frames) → All (Contains (declared_ids (up_to l frames))) (symbols t)
    → tree_sort (signature_of (up_to l frames)) t ≡ tree_sort (signature_of frames) t

-- each symbol of a term that has a sort is declared
abbrev pub SymbolsAreDeclared : Type 0
SymbolsAreDeclared =
    (ds : List Declaration) (t : Tree) (s : Sort) → tree_sort ds t ≡ Some s → All (Contains (map (λ (d : Declaration). d.id) ds)) (symbols t)

-- whatever commands come, each assertion of the levels up to one has the sort Bool under what these levels declare
abbrev pub AssertionsAreTruthsAtTheirLevels : Type 0
AssertionsAreTruthsAtTheirLevels =
    (cs : List Command) (l : ℕ)
    → All (λ (t : Tree). tree_sort (signature_of (up_to l (after_all start cs).frames)) t ≡ Some Truths) (assertions_of (up_to l (after_all start cs).frames))
