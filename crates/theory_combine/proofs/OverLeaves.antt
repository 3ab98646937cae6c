-- The sum of a bound of two Ints among the parts is over leaves.
use Rattle.std.proofs.Common.{◌≡◌, ℕ, Bool, List, [], ◌∷◌, length, All, sym, subst}
use Rattle.std.proofs.lemmas.List.Elements.{All-nil, All-cons, All-head, All-tail}
use Rattle.std.specs.Prelude.{ℤ}
use Rattle.smt_meaning.specs.declared.clauses.Summand.{Summand}
use Rattle.smt_meaning.specs.declared.clauses.Atom.{Atom}
use Rattle.smt_meaning.specs.declared.clauses.Atom.TheVariants.{AtMost}
use Rattle.smt_meaning.specs.Term.{tree_at}
use Rattle.smt_meaning.specs.Clause.{sum_places, atom_places}
use Rattle.smt_meaning.specs.Atoms.{at_most_atom}
use Rattle.smt_meaning.specs.StackCommand.{Stack}
use Rattle.scope_stack.specs.Shown.{IsLawful}
use Rattle.check_atoms.specs.Laws.{IsIntLeaf, BoundsAreOverLeaves}
use Rattle.check_atoms.specs.Marks.{AreStackParts}
use Rattle.theory_combine.specs.Pairs.{IsFit}
use Rattle.theory_combine.specs.Shown.{IsMarkedLeaf}

summands : (s : Stack) (marks : List Bool) (sum : List Summand) → All (IsIntLeaf s marks) (sum_places sum) → All (λ (p : Summand). IsMarkedLeaf s marks p.term) sum
summands s marks [] h = All-nil (λ (p : Summand). IsMarkedLeaf s marks p.term)
summands s marks (p ∷ ps) h =
    let leaf = All-head (IsIntLeaf s marks) p.term (sum_places ps) h in
    All-cons (λ (q : Summand). IsMarkedLeaf s marks q.term) p ps (record { within = leaf.within; marked = leaf.marked; is_int = leaf.int; leaf = leaf.leaf })
    (summands s marks ps (All-tail (IsIntLeaf s marks) p.term (sum_places ps) h))

pub bound_leaves : BoundsAreOverLeaves → (s : Stack) (marks : List Bool) (i j : ℕ) (sum : List Summand) (k : ℤ) → IsLawful s → AreStackParts s marks → length marks ≡ length s.trees
    → IsFit s marks i → IsFit s marks j → AtMost sum k ≡ at_most_atom s.trees (tree_at s.trees i) (tree_at s.trees j) → All (λ (p : Summand). IsMarkedLeaf s marks p.term) sum
bound_leaves law s marks i j sum k lawful parts size left right e =
    summands s marks sum (subst (λ (a : Atom). All (IsIntLeaf s marks) (atom_places a)) (sym e) (law s marks i j lawful parts size left.marked right.marked left.is_int right.is_int))
