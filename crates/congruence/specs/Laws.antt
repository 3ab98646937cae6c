-- Laws of justified steps.
use Rattle.std.specs.Prelude.{◌≡◌, ℕ, true, List, All, Contains}
use Rattle.literals.specs.Signed.{Signed, literal_true}
use Rattle.smt_meaning.specs.declared.clauses.Atom.{Atom}
use Rattle.smt_meaning.specs.declared.clauses.Atom.TheVariants.{Truth, Same}
use Rattle.smt_meaning.specs.declared.terms.Head.{Head}
use Rattle.smt_meaning.specs.Declaration.{Declaration}
use Rattle.smt_meaning.specs.Term.{Tree, Interpretation, tree_at}
use Rattle.smt_meaning.specs.Interpretation.{Interprets}
use Rattle.term_store.specs.Terms.{tree_with}
use Rattle.search_port.specs.State.{atom_at}
use Rattle.point_closure.specs.declared.step.Step.{Step}
use Rattle.point_closure.specs.Closure.{Point, AreRead}
use Rattle.point_closure.specs.Laws.{point_value}
use Rattle.congruence.specs.declared.congruence.Congruence.{Congruence}
use Rattle.congruence.specs.Reasons.{AreReasonsOf}
use Rattle.congruence.specs.Recorded.{IsConflict as IsClash}
use Rattle.check_atoms.specs.Atoms.{is_bool_at}
use Rattle.congruence.specs.Steps.{truth_step, pair_step, node_steps, choice_steps}
use Rattle.congruence.specs.Justified.{truth_by, IsJustified, AreJustified}
use Rattle.congruence.specs.Clauses.{IsFalseClause}

-- ---- what a literal justifies

abbrev pub TruthIsJustified : Type 0
TruthIsJustified =
    (ds : List Declaration) (ts : List Tree) (table : List Atom) (l : Signed) (t : ℕ) → atom_at table l.atom ≡ Truth t → is_bool_at ds ts t ≡ true
    → IsJustified ds ts table l (truth_step t l.positive)

abbrev pub SamenessIsJustified : Type 0
SamenessIsJustified =
    (ds : List Declaration) (ts : List Tree) (table : List Atom) (l : Signed) (i j : ℕ) → atom_at table l.atom ≡ Same i j
    → IsJustified ds ts table l (pair_step i j l.positive)

abbrev pub NodeStepsAreJustified : Type 0
NodeStepsAreJustified =
    (ds : List Declaration) (ts : List Tree) (table : List Atom) (l : Signed) (t : ℕ) (h : Head) (is : List ℕ) → atom_at table l.atom ≡ Truth t → tree_at ts t ≡ tree_with ts h is
    → All (IsJustified ds ts table l) (node_steps h is l.positive)

abbrev pub ChoiceStepsAreJustified : Type 0
ChoiceStepsAreJustified =
    (ds : List Declaration) (ts : List Tree) (table : List Atom) (l : Signed) (t p : ℕ) (h : Head) (is : List ℕ) → atom_at table l.atom ≡ Truth t → tree_at ts p ≡ tree_with ts h is
    → All (IsJustified ds ts table l) (choice_steps p h is t l.positive)

-- ---- what follows from reasons

-- where the reasons of an equality are true, the two points have one value
abbrev pub ReasonsMakeEqual : Type 0
ReasonsMakeEqual =
    (ds : List Declaration) (ts : List Tree) (table : List Atom) (ps : List Point) (steps : List Step) (reasons ls : List Signed) (i j : ℕ) (I : Interpretation)
    → AreRead ts ps → AreJustified ds ts table steps reasons → AreReasonsOf ps steps reasons i j ls → Interprets ds I
    → All (λ (l : Signed). literal_true (truth_by ts table I) l ≡ true) ls → point_value ts I i ≡ point_value ts I j

-- the clause that a closure's reasons break is true everywhere, and false in a log with all reasons
abbrev pub ClashIsFalseClause : Type 0
ClashIsFalseClause =
    (ds : List Declaration) (ts : List Tree) (table : List Atom) (c : Congruence) (log ls : List Signed)
    → AreRead ts c.closure.graph → AreJustified ds ts table c.closure.steps.items c.reasons.items → All (Contains log) c.reasons.items → IsClash c ls
    → IsFalseClause ds ts table log ls
