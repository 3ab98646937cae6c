-- A clause whose literals are judged, and that is kept.
use Rattle.std.specs.Prelude.{◌++◌, ◌∷◌, [], ℕ, List, All}
use Rattle.smt_meaning.specs.declared.clauses.Literal.{Literal}
use Rattle.smt_meaning.specs.declared.nodes.Node.{Node}
use Rattle.proof_meaning.specs.Proof.{IsLiteral, node_at, are_same}
use Rattle.proof_meaning.specs.Rules.{differing}
use Rattle.proof_terms.specs.Terms.{ProofTerms}
use Rattle.proof_terms.specs.Kept.{Kept, KeepsAll}
use Rattle.proof_terms.specs.declared.verdict.Verdict.{Verdict}
use Rattle.proof_terms.specs.declared.verdict.Verdict.TheVariants.{Good, Wrong, Range}

-- it is kept where its literals are over the terms, of the right sorts
abbrev pub IsKeptIfOver : ProofTerms → Kept → Kept → List Literal → Verdict → Type 0
IsKeptIfOver t old new ls Good = All (IsLiteral t.declared t.trees) ls × ((before : List (List Literal)) → KeepsAll old before → KeepsAll new (before ++ ls ∷ []))
IsKeptIfOver t old new ls Wrong = All (IsLiteral t.declared t.trees) ls → ⊥
IsKeptIfOver t old new ls Range = ⊥

-- that two applications are equal unless some of their arguments differ
abbrev pub cong_clause : List Node → ℕ → ℕ → List Literal
cong_clause ns i j = differing (node_at ns i).arguments (node_at ns j).arguments ++ are_same i j ∷ []
