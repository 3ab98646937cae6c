-- A list of different trees, of at most so many, and one tree more. A term's number is its place in the list.
use Rattle.std.specs.Prelude.{◌≡◌, ◌≢◌, ℕ, ◌<◌, List, length, IsFalse, refl}
use Rattle.std.specs.Coded.{Coded, code_by, coded×, coded_ℕ}
use Rattle.smt_meaning.specs.declared.terms.Head.{Head}
use Rattle.smt_meaning.specs.Term.{Tree, node, tree_at}
use Rattle.smt_meaning.specs.Nodes.{pick}
use Rattle.smt_meaning.specs.TreeShape.{with_tree, with_parts, is_among}
use Rattle.smt_meaning.specs.TreeCode.{coded_trees}

-- what a store of terms is seen as
pub record Terms : Type 0 where
  pub limit : ℕ
  pub trees : List Tree

abbrev pub terms_code : Coded Terms
terms_code = code_by (ℕ × List Tree) (coded× coded_ℕ coded_trees) (λ t. (t.limit, t.trees)) (λ p. record { limit = p.0; trees = p.1 }) (λ _. refl)

-- the tree with this head and, as its arguments, the trees at these places
abbrev pub tree_with : List Tree → Head → List ℕ → Tree
tree_with ts h is = node h (pick ts is)

-- the tree is at this place
abbrev pub IsPlace : List Tree → ℕ → Tree → Type 0
IsPlace ts i t = (i < length ts) × (tree_at ts i ≡ t)

-- the tree is at no place
abbrev pub IsNew : List Tree → Tree → Type 0
IsNew ts t = (i : ℕ) → i < length ts → tree_at ts i ≢ t

-- no tree stands at two places
abbrev pub AreDifferent : List Tree → Type 0
AreDifferent ts = (j k : ℕ) → j < k → k < length ts → tree_at ts j ≢ tree_at ts k

-- the parts of each tree are in the list
abbrev pub AreComplete : List Tree → Type 0
AreComplete ts = (i : ℕ) → i < length ts → with_parts ts (tree_at ts i) ≡ ts

-- with a tree, after its arguments, that is added only where it isn't there
abbrev pub interned : Terms → Tree → Terms
interned s t = record { limit = s.limit; trees = with_tree s.trees t }

-- there is no room for the tree
abbrev pub IsFullFor : Terms → Tree → Type 0
IsFullFor s t = (length s.trees ≡ s.limit) × IsFalse (is_among t s.trees)
