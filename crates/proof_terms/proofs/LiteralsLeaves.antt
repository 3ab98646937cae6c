-- Heads of terms, and sums whose leaves ascend.
use Rattle.std.proofs.Common.{◌≡◌, ℕ, zero, suc, ◌+◌, ◌-◌, ◌<◌, ◌≤◌, not, List, length, get_or, ap, subst, arith}
use Rattle.std.specs.Prelude.{AllPairs}
use Rattle.smt_meaning.specs.declared.nodes.Node.{Node}
use Rattle.smt_meaning.specs.declared.clauses.Summand.{Summand}
use Rattle.smt_meaning.specs.Declaration.{Declaration}
use Rattle.smt_meaning.specs.Term.{Tree, tree_at}
use Rattle.smt_meaning.specs.TreeShape.{is_constant_head}
use Rattle.proof_meaning.specs.Proof.{AreTerms, node_at, is_leaf}
use Rattle.proof_meaning.proofs.Terms.{Stands, stands}

-- a term's head is that of its node
pub leaf_of_node : (ds : List Declaration) (ns : List Node) (ts : List Tree) → AreTerms ds ns ts → (i : ℕ) → i < length ns → is_leaf (tree_at ts i) ≡ not (is_constant_head (node_at ns i).head)
leaf_of_node ds ns ts terms i h = let s : Stands ts (node_at ns i) i = stands ds ns ts terms i h in ap is_leaf s.tree

-- ---- leaves ascend

pub ascending_pairs : (sum : List Summand) (n : ℕ) → length sum ≤ n → ((k : ℕ) (d : Summand) → k + 1 < n → k + 1 < length sum → (get_or sum k d).term < (get_or sum (k + 1) d).term) → AllPairs (λ (p q : Summand). p.term < q.term) sum
ascending_pairs sum n whole next i j d below within = up (j - i - 1) i (omega arith) j (omega arith)
  where
    -- the distance is one more than the count
    up : (count i : ℕ) → i + count + 1 < length sum → (j : ℕ) → j ≡ i + count + 1 → (get_or sum i d).term < (get_or sum j d).term
    up zero i h j e = subst (λ m. (get_or sum i d).term < (get_or sum m d).term) (let f : i + 1 ≡ j = omega arith in f) (next i d (omega arith) (omega arith))
    up (suc count) i h j e =
        let first : (get_or sum i d).term < (get_or sum (i + 1) d).term = next i d (omega arith) (omega arith) in
        let rest : (get_or sum (i + 1) d).term < (get_or sum j d).term = up count (i + 1) (omega arith) j (omega arith) in
        omega arith
