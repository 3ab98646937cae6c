-- The atoms of a check before any branch as a list, and how long it is.
use Rattle.std.specs.Prelude.{◌≡◌, ℕ, zero, suc, ◌+◌, ◌*◌, ◌<◌, ◌≤◌, ◌^◌, ◌&&◌, true, nat_eq, List, [], ◌∷◌, ◌++◌, map, flat_map, length, Contains, ℤ, pos, negsuc, ◌+ℤ◌, ◌-ℤ◌, neg_ℤ, int_le, if◌then◌else◌}
use Rattle.std.specs.List.{range_with_len}
use Rattle.smt_meaning.specs.declared.clauses.Atom.{Atom}
use Rattle.smt_meaning.specs.declared.clauses.Atom.TheVariants.{AtMost}
use Rattle.smt_meaning.specs.declared.reports.Unit.{Unit as Spent}
use Rattle.smt_meaning.specs.Term.{Tree, Trees, node, none, more, int_eq}
use Rattle.smt_meaning.specs.Stack.{Frame, signature_of, assertions_of}
use Rattle.smt_meaning.specs.Atoms.{pair_atoms, stack_atoms}
use Rattle.smt_meaning.specs.Boxes.{asserted_atoms, term_at_most, negation_at_most}
use Rattle.smt_meaning.specs.CheckAtoms.{IsPartOfStack, IsFirstAtom}
use Rattle.smt_meaning.specs.Report.{is_unlimited, AreAllSpent}
use Rattle.fraction128.specs.declared.Line.{Line}
use Rattle.report_laws.specs.Boxed.{AreBoxed}

-- ---- parts

abbrev mutual
  pub parts_of : Tree → List Tree
  parts_of (node h us) = node h us ∷ parts_of_all us

  pub parts_of_all : Trees → List Tree
  parts_of_all none = []
  parts_of_all (more u us) = parts_of u ++ parts_of_all us

-- each part of the assertions, as often as it stands there
abbrev pub stack_parts : List Frame → List Tree
stack_parts frames = flat_map parts_of (assertions_of frames)

-- ---- the numbers of a box

-- the bound of an atom on this multiple of the term alone
abbrev pub ends_at : ℤ → ℕ → Atom → List ℤ
ends_at c t (AtMost (p ∷ []) k) = if nat_eq p.term t && int_eq p.coefficient c then k ∷ [] else []
ends_at c t a = []

abbrev pub greatest_of : ℤ → List ℤ → ℤ
greatest_of k [] = k
greatest_of k (j ∷ js) = greatest_of (if int_le k j then j else k) js

abbrev pub least_of : ℤ → List ℤ → ℤ
least_of k [] = k
least_of k (j ∷ js) = least_of (if int_le j k then j else k) js

abbrev pub whole_from : ℤ → ℕ → List ℤ
whole_from k zero = []
whole_from k (suc n) = k ∷ whole_from (k +ℤ pos 1) n

-- how many numbers there are up to one that is so much greater
abbrev pub count_to : ℤ → ℕ
count_to (pos n) = suc n
count_to (negsuc n) = 0

-- the numbers from the greatest of some up to the least of others
abbrev pub numbers_between : List ℤ → List ℤ → List ℤ
numbers_between (k ∷ ks) (j ∷ js) = whole_from (greatest_of k ks) (count_to (least_of j js -ℤ greatest_of k ks))
numbers_between ks js = []

-- the numbers in the box of the term at a place
abbrev pub box_numbers : List Tree → List Frame → ℕ → List ℤ
box_numbers ts frames t = numbers_between (map neg_ℤ (flat_map (ends_at (negsuc 0) t) (asserted_atoms ts frames))) (flat_map (ends_at (pos 1) t) (asserted_atoms ts frames))

abbrev pub bounds_at : ℕ → ℤ → List Atom
bounds_at t n = term_at_most t n ∷ negation_at_most t (neg_ℤ n) ∷ []

-- the places of the trees, and that of trees that aren't among these
abbrev pub places : List Tree → List ℕ
places ts = range_with_len 0 (length ts + 1)

-- ---- the list

-- the stack's atoms, those that compare two of these parts, and the bounds at the numbers of the boxes
abbrev pub listed_atoms : List Tree → List Frame → List Tree → List Atom
listed_atoms ts frames parts =
    stack_atoms ts frames
    ++ (flat_map (λ s. flat_map (pair_atoms ts (signature_of frames) s) parts) parts ++ flat_map (λ t. flat_map (bounds_at t) (box_numbers ts frames t)) (places ts))

abbrev pub AreAllParts : List Frame → List Tree → Type 0
AreAllParts frames parts = (t : Tree) → IsPartOfStack frames t → Contains parts t

-- how many numbers the boxes have
abbrev pub box_sizes : List Tree → List Frame → List ℕ → ℕ
box_sizes ts frames [] = 0
box_sizes ts frames (t ∷ rest) = length (box_numbers ts frames t) + box_sizes ts frames rest

-- at most three atoms compare two parts, and two bound a leaf at a number
abbrev pub atom_count : List Tree → List Frame → List Tree → ℕ
atom_count ts frames parts = length (stack_atoms ts frames) + (3 * (length parts * length parts) + 2 * box_sizes ts frames (places ts))

-- ---- laws

abbrev pub PartsAreAll : Type 0
PartsAreAll = (frames : List Frame) → AreAllParts frames (stack_parts frames)

-- where all parts are among these, the list has each atom, whatever the assertions
abbrev pub ListHasEach : Type 0
ListHasEach = (ts : List Tree) (frames : List Frame) (parts : List Tree) → AreAllParts frames parts → (a : Atom) → IsFirstAtom ts frames a → Contains (listed_atoms ts frames parts) a

abbrev pub ListIsShort : Type 0
ListIsShort = (ts : List Tree) (frames : List Frame) (parts : List Tree) → length (listed_atoms ts frames parts) ≤ atom_count ts frames parts

-- so on boxed stacks no report of spent units is lawful without a limit where that number is below 2^40
abbrev pub SmallBoxesAreNotSpent : Type 0
SmallBoxesAreNotSpent =
    (ts : List Tree) (frames : List Frame) (limit : ℤ) (branches : List Line) (us : List Spent) (parts : List Tree) → is_unlimited limit ≡ true → AreBoxed ts frames → AreAllParts frames parts
    → atom_count ts frames parts < 2 ^ 40 → AreAllSpent ts frames limit branches us → ⊥
