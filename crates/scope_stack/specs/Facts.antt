-- What is kept beside the terms of a stack, by their places.
use Rattle.std.specs.Prelude.{◌≡◌, ℕ, ◌<◌, ◌≤◌, max, Bool, List, [], ◌∷◌, map, take, length, All, Contains, Some, slice_index, slice_index_or}
use Rattle.smt_meaning.specs.declared.values.Sort.{Sort}
use Rattle.smt_meaning.specs.declared.values.Sort.TheVariants.{Bool as Truths, Int as Ints}
use Rattle.smt_meaning.specs.declared.terms.Operator.{Operator}
use Rattle.smt_meaning.specs.declared.terms.Head.{Head}
use Rattle.smt_meaning.specs.declared.terms.Operator.TheVariants.{Add, Subtract, Multiply, Ite, Divide, Modulo, Absolute}
use Rattle.smt_meaning.specs.Declaration.{Declaration}
use Rattle.smt_meaning.specs.Term.{Tree, tree_at}
use Rattle.smt_meaning.specs.Signature.{function_with_id, symbol_sort, tree_sort}
use Rattle.smt_meaning.specs.Clause.{symbols, head_symbols}
use Rattle.smt_meaning.specs.Follows.{declared_ids}
use Rattle.smt_meaning.specs.Stack.{Frame, up_to}
use Rattle.smt_sorts.specs.Names.{Names, signature, ids_up_to}
use Rattle.term_store.specs.Terms.{Terms}
use Rattle.scope_stack.specs.declared.answers.Assertion.{Assertion}
use Rattle.scope_stack.specs.Inside.{IsStack}

-- of so many terms: where a term has a sort, it is this one
pub record AreSorts (ds : List Declaration) (trees : List Tree) (count : ℕ) (sorts : List Sort) : Type 0 where
  pub size : length sorts ≡ count
  pub each : (p : ℕ) (s : Sort) → p < count → tree_sort ds (tree_at trees p) ≡ Some s → slice_index_or sorts p Truths ≡ s

-- the sort that an operator makes, where a branch of an `ite` has this sort
abbrev pub made_sort : Operator → Sort → Sort
made_sort Add branch = Ints
made_sort Subtract branch = Ints
made_sort Multiply branch = Ints
made_sort Divide branch = Ints
made_sort Modulo branch = Ints
made_sort Absolute branch = Ints
made_sort Ite branch = branch
made_sort _ branch = Truths

-- ---- what stays as it is kept, whatever is declared or popped

-- the ids of the symbols in the term were given
abbrev pub HasGivenSymbols : ℕ → Tree → Type 0
HasGivenSymbols given t = All (λ f. f < given) (symbols t)

-- those in all of the terms
abbrev pub HaveGivenSymbols : ℕ → List Tree → Type 0
HaveGivenSymbols given trees = (p : ℕ) → p < length trees → HasGivenSymbols given (tree_at trees p)

-- where the symbol is declared, its results have this sort
pub record IsResult (t : Names) (f : ℕ) (r : Sort) : Type 0 where
  pub sort : (arguments : List Sort) (s : Sort) → symbol_sort (function_with_id f (signature t)) arguments ≡ Some s → r ≡ s

-- the sort of a term, where it has one
pub record IsFact (t : Names) (u : Tree) (r : Sort) : Type 0 where
  pub given : HasGivenSymbols t.given u
  pub sort : (s : Sort) → tree_sort (signature t) u ≡ Some s → r ≡ s

-- those of the first terms
pub record AreFacts (t : Names) (trees : List Tree) (count : ℕ) (rs : List Sort) : Type 0 where
  pub given : (p : ℕ) → p < count → HasGivenSymbols t.given (tree_at trees p)
  pub sorts : AreSorts (signature t) trees count rs

-- ---- levels

-- all of these are known at level l, and at none below
pub record IsLeast (known : ℕ → List ℕ) (fs : List ℕ) (l : ℕ) : Type 0 where
  pub declared : All (Contains (known l)) fs
  pub least : (k : ℕ) → All (Contains (known k)) fs → l ≤ k

-- of so many terms: where all symbols of a term are declared, this is the least level with all of them
pub record AreLevels (frames : List Frame) (trees : List Tree) (count : ℕ) (levels : List ℕ) : Type 0 where
  pub size : length levels ≡ count
  pub each : (p : ℕ) → p < count → All (Contains (declared_ids frames)) (symbols (tree_at trees p)) → IsLeast (λ l. declared_ids (up_to l frames)) (symbols (tree_at trees p)) (slice_index levels p)

-- the greatest of a number and of those at these places
abbrev pub greatest_of : List ℕ → List ℕ → ℕ → ℕ
greatest_of levels [] l = l
greatest_of levels (p ∷ ps) l = greatest_of levels ps (max l (slice_index levels p))

-- the least level with a head's symbol, by a table's names, where it is declared
abbrev pub IsHeadLevel : Names → Head → ℕ → Type 0
IsHeadLevel t h l = All (Contains (map (λ (d : Declaration). d.id) (signature t))) (head_symbols h) → IsLeast (λ k. ids_up_to k t.levels) (head_symbols h) l

-- the least level with all symbols of a term, by a table's names, where all are declared
abbrev pub IsTermLevel : Names → Tree → ℕ → Type 0
IsTermLevel t u l = All (Contains (map (λ (d : Declaration). d.id) (signature t))) (symbols u) → IsLeast (λ k. ids_up_to k t.levels) (symbols u) l

-- those of the first terms
pub record HaveLevels (t : Names) (trees : List Tree) (count : ℕ) (levels : List ℕ) : Type 0 where
  pub size : length levels ≡ count
  pub each : (p : ℕ) → p < count → IsTermLevel t (tree_at trees p) (slice_index levels p)

-- what is kept beside the first terms, by names of few levels, where the symbols of all terms were given
pub record MayExtend (t : Names) (trees : List Tree) (from : ℕ) (rs : List Sort) (ls : List ℕ) : Type 0 where
  pub within : from ≤ length trees
  pub few : length t.levels ≤ 65536
  pub given : HaveGivenSymbols t.given trees
  pub facts : AreFacts t trees from rs
  pub levels : HaveLevels t trees from ls

-- what is kept beside all terms
pub record AreExtended (t : Names) (trees : List Tree) (rs : List Sort) (ls : List ℕ) : Type 0 where
  pub facts : AreFacts t trees (length trees) rs
  pub levels : HaveLevels t trees (length trees) ls

-- what was kept beside the first terms is still there
pub record KeepFirst (from : ℕ) (rs rs' : List Sort) (ls ls' : List ℕ) : Type 0 where
  pub sorts : take from rs' ≡ rs
  pub levels : take from ls' ≡ ls

-- ---- beside a stack

-- the sorts and the levels of all terms are kept
pub record IsKept (g : Bool) (t : Names) (store : Terms) (xss : List (List Assertion)) (rs : List Sort) (ls : List ℕ) : Type 0 where
  pub stack : IsStack g t store xss
  pub facts : AreFacts t store.trees (length store.trees) rs
  pub levels : HaveLevels t store.trees (length store.trees) ls
