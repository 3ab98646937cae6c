-- Whether numbers that are written differ, however large they are.
use Rattle.std.specs.Prelude.{◌≡◌, ℕ, ◌-◌, List, ◌++◌, map, length, replicate, Option, Some, None}
use Rattle.std.specs.Borrow.{Bor}
use Rattle.smt_meaning.specs.declared.tokens.Token.{Token}
use Rattle.smt_meaning.specs.declared.clauses.Summand.{Summand}
use Rattle.smt_meaning.specs.Sorts.{decimal}
use Rattle.look_ahead.specs.Ahead.{ahead, IsNext}
use Rattle.proof_read.specs.declared.read_parts.Progress.{Progress}
use Rattle.proof_read.specs.declared.read_apart.Lead.{Lead}
use Rattle.proof_read.specs.ReadParts.{first_by}
use Rattle.proof_read.specs.ReadSums.{summand_in}

abbrev pub numbers_of : List (Bor (List ℕ)) → List ℕ
numbers_of bs = map (λ (b : Bor (List ℕ)). decimal b.now) bs

-- the digits of a leaf, where a summand is next
pub record IsLeaf (ts : List Token) (old new : Progress) (cs : List ℕ) : Type 0 where
  pub next : IsNext ts old.place new.place
  pub leaf : (p : Summand) → summand_in next.part ≡ Some p → p.term ≡ decimal cs

abbrev pub HasLeaf : List Token → Progress → Progress → Option (Bor (List ℕ)) → Type 0
HasLeaf ts old new None = (p : Summand) → first_by summand_in (ahead ts old.place) ≡ Some p → ⊥
HasLeaf ts old new (Some cs) = IsLeaf ts old new cs.now

-- so many digits, of which the first are 0
abbrev pub padded : ℕ → List ℕ → List ℕ
padded count cs = replicate (count - length cs) 0 ++ map (λ c. c - 48) cs

-- what each of two numbers is ahead of the other
pub record Leads (m n : ℕ) (lead : Lead) : Type 0 where
  pub left_is : lead.left ≡ m - n
  pub right_is : lead.right ≡ n - m
