-- When a clause follows from the levels of a stack.
use Rattle.std.specs.Prelude.{ℕ, ◌<◌, List, map, length, All, Contains}
use Rattle.smt_meaning.specs.Declaration.{Declaration}
use Rattle.smt_meaning.specs.declared.clauses.Clause.{Clause}
use Rattle.smt_meaning.specs.Term.{Tree, Interpretation}
use Rattle.smt_meaning.specs.Interpretation.{Interprets}
use Rattle.smt_meaning.specs.Stack.{Frame, Holds, signature_of, up_to}
use Rattle.smt_meaning.specs.Clause.{ClauseTrue, places, clause_symbols}

abbrev pub declared_ids : List Frame → List ℕ
declared_ids frames = map (λ (d : Declaration). d.id) (signature_of frames)

-- a clause, read by a list of trees, follows from frames
pub record FollowsFrom (ts : List Tree) (frames : List Frame) (c : Clause) : Type 0 where
  -- whatever makes every assertion true makes it true
  pub true_wherever : (I : Interpretation) → Interprets (signature_of frames) I → Holds I frames → ClauseTrue ts I c
  -- each symbol in it is declared there
  pub declared : All (Contains (declared_ids frames)) (clause_symbols ts c)
  -- each place that it names is one of the list
  pub within : All (λ i. i < length ts) (places c.literals)

-- it follows from the levels 0 to l
unfoldable pub Follows : List Tree → List Frame → ℕ → Clause → Type 0
Follows ts frames l c = FollowsFrom ts (up_to l frames) c

pub follows : (ts : List Tree) (frames : List Frame) (l : ℕ) (c : Clause) → FollowsFrom ts (up_to l frames) c → Follows ts frames l c
unfolding Follows
follows ts frames l c h = h

pub follows_from : (ts : List Tree) (frames : List Frame) (l : ℕ) (c : Clause) → Follows ts frames l c → FollowsFrom ts (up_to l frames) c
unfolding Follows
follows_from ts frames l c h = h
