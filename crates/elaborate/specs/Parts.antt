-- A stored term is copied with its parts: the jobs that are left, and where the copies stand.
use Rattle.std.specs.Prelude.{◌≡◌, ℕ, ◌+◌, ◌<◌, List, [], ◌∷◌, length, map, Option, Some, IsSome, IsTrue}
use Rattle.smt_meaning.specs.Term.{Tree, Trees, node, none, more, tree_at}
use Rattle.smt_meaning.specs.TreeShape.{is_among, with_tree, with_parts}
use Rattle.smt_laws.specs.Todo.{Todo, visit, keep, after}
use Rattle.term_store.specs.Terms.{IsPlace}
use Rattle.elaborate.specs.declared.parts.Job.{Job}
use Rattle.elaborate.specs.declared.parts.Job.TheVariants.{Visit, Keep}

-- each copy is the term that was copied
abbrev pub AreCopies : List Tree → List Tree → (ℕ → Option ℕ) → Type 0
AreCopies ts out copies = (i c : ℕ) → copies i ≡ Some c → IsPlace out c (tree_at ts i)

-- each stored term that is in the list has a copy
abbrev pub HaveCopies : List Tree → List Tree → (ℕ → Option ℕ) → Type 0
HaveCopies ts out copies = (i : ℕ) → i < length ts → IsTrue (is_among (tree_at ts i) out) → IsSome (copies i)

-- ---- what is still to join

abbrev pub AreAllAmong : Trees → List Tree → Type 0
AreAllAmong none out = Unit {0}
AreAllAmong (more u us) out = IsTrue (is_among u out) × AreAllAmong us out

abbrev pub HasArguments : Tree → List Tree → Type 0
HasArguments (node h us) out = AreAllAmong us out

-- each tree that is kept joins after its arguments
abbrev pub KeepsInOrder : List Todo → List Tree → Type 0
KeepsInOrder [] out = Unit {0}
KeepsInOrder (visit t ∷ todo) out = KeepsInOrder todo (with_parts out t)
KeepsInOrder (keep t ∷ todo) out = HasArguments t out × KeepsInOrder todo (with_tree out t)

-- more steps than a tree takes, where each part joins however often it stands there
abbrev mutual
  pub steps_of : Tree → ℕ
  steps_of (node h us) = steps_of_all us + 2

  pub steps_of_all : Trees → ℕ
  steps_of_all none = 0
  steps_of_all (more u us) = steps_of u + steps_of_all us

abbrev pub steps_left : List Todo → ℕ
steps_left [] = 0
steps_left (visit t ∷ todo) = steps_of t + steps_left todo
steps_left (keep t ∷ todo) = 1 + steps_left todo

-- ---- jobs

abbrev pub job_place : Job → ℕ
job_place (Visit i) = i
job_place (Keep i) = i

abbrev pub todo_at : List Tree → Job → Todo
todo_at ts (Visit i) = visit (tree_at ts i)
todo_at ts (Keep i) = keep (tree_at ts i)

-- what these jobs make of the copies
abbrev pub outcome : List Tree → List Job → List Tree → List Tree
outcome ts jobs out = after (map (todo_at ts) jobs) out

abbrev pub AreInOrder : List Tree → List Job → List Tree → Type 0
AreInOrder ts jobs out = KeepsInOrder (map (todo_at ts) jobs) out

abbrev pub jobs_left : List Tree → List Job → ℕ
jobs_left ts jobs = steps_left (map (todo_at ts) jobs)

-- visits of these terms, before other jobs
abbrev pub visits_of : List ℕ → List Job → List Job
visits_of [] jobs = jobs
visits_of (i ∷ is) jobs = Visit i ∷ visits_of is jobs
