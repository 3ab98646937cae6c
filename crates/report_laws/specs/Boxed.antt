-- Stacks on which each Int leaf has a box, and what follows for reports of spent units where there is no limit.
use Rattle.std.specs.Prelude.{◌≡◌, ℕ, ◌<◌, ◌^◌, true, List, ◌∷◌, ◌++◌, length, Contains, ℤ, neg_ℤ}
use Rattle.fraction128.specs.declared.Summand.{Summand}
use Rattle.fraction128.specs.declared.Line.{Line}
use Rattle.smt_meaning.specs.declared.clauses.Atom.{Atom}
use Rattle.smt_meaning.specs.declared.reports.Unit.{Unit as Spent}
use Rattle.smt_meaning.specs.declared.reports.Unit.TheVariants.{Numbered}
use Rattle.smt_meaning.specs.Term.{Tree}
use Rattle.smt_meaning.specs.Stack.{Frame}
use Rattle.smt_meaning.specs.Atoms.{stack_atoms}
use Rattle.smt_meaning.specs.Boxes.{term_at_most, negation_at_most, asserted_atoms}
use Rattle.smt_meaning.specs.CheckAtoms.{IsLeaf, IsFirstAtom, IsCheckAtom, AreBranches}
use Rattle.smt_meaning.specs.Report.{is_unlimited, AreAllSpent}

-- ---- boxes

-- asserted bounds give the term a least and a greatest value
pub record HasBox (ts : List Tree) (frames : List Frame) (t : ℕ) : Type 0 where
  pub least : ℤ
  pub greatest : ℤ
  pub has_least : Contains (asserted_atoms ts frames) (negation_at_most t (neg_ℤ least))
  pub has_greatest : Contains (asserted_atoms ts frames) (term_at_most t greatest)

abbrev pub AreBoxed : List Tree → List Frame → Type 0
AreBoxed ts frames = (t : ℕ) → IsLeaf ts frames t → HasBox ts frames t

-- so whatever the branches, a check has no atom that it hadn't before them
abbrev pub BranchesStayInBoxes : Type 0
BranchesStayInBoxes =
    (ts : List Tree) (frames : List Frame) (sums : List (List Summand)) (branches : List Line) → AreBoxed ts frames → AreBranches ts frames sums branches
    → (a : Atom) → IsCheckAtom ts frames branches a → IsFirstAtom ts frames a

-- ---- spent units where there is no limit

-- an atom of the check that isn't the stack's and wasn't numbered before
pub record IsNewAtom (ts : List Tree) (frames : List Frame) (branches : List Line) (earlier : List Spent) (u : Spent) : Type 0 where
  pub atom : Atom
  pub is : u ≡ Numbered atom
  pub of_check : IsCheckAtom ts frames branches atom
  pub not_of_stack : Contains (stack_atoms ts frames) atom → ⊥
  pub new : Contains earlier u → ⊥

-- each is such an atom
abbrev pub UnitsAreNewAtoms : Type 0
UnitsAreNewAtoms =
    (ts : List Tree) (frames : List Frame) (limit : ℤ) (branches : List Line) (us : List Spent) → is_unlimited limit ≡ true → AreAllSpent ts frames limit branches us
    → (before after : List Spent) (u : Spent) → us ≡ before ++ u ∷ after → IsNewAtom ts frames branches before u

-- so no report of spent units is lawful where a list of fewer than 2^40 atoms has each that the check may have
abbrev pub FewAtomsAreNotSpent : Type 0
FewAtomsAreNotSpent =
    (ts : List Tree) (frames : List Frame) (limit : ℤ) (branches : List Line) (us : List Spent) (atoms : List Atom) → is_unlimited limit ≡ true
    → ((a : Atom) → IsCheckAtom ts frames branches a → Contains atoms a) → length atoms < 2 ^ 40 → AreAllSpent ts frames limit branches us → ⊥

-- on boxed stacks it need have those before any branch alone
abbrev pub BoxedStacksAreNotSpent : Type 0
BoxedStacksAreNotSpent =
    (ts : List Tree) (frames : List Frame) (limit : ℤ) (branches : List Line) (us : List Spent) (atoms : List Atom) → is_unlimited limit ≡ true → AreBoxed ts frames
    → ((a : Atom) → IsFirstAtom ts frames a → Contains atoms a) → length atoms < 2 ^ 40 → AreAllSpent ts frames limit branches us → ⊥
