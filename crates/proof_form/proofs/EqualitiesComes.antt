-- What a step comes to by its clause.
use Rattle.std.proofs.Common.{◌≡◌, ℕ, zero, suc, true, ◌+◌, ◌<◌, List, [], ◌∷◌, ◌++◌, length, get_or, take, sym, ap, subst, ◌∙◌, inl, inr, arith, refl}
use Rattle.std.specs.Prelude.{All, Contains}
use Rattle.std.proofs.lemmas.Bool.{false≢true}
use Rattle.smt_meaning.specs.declared.clauses.Literal.{Literal}
use Rattle.proof_meaning.specs.declared.proof.Step.{Step}
use Rattle.smt_meaning.specs.Term.{Tree}
use Rattle.proof_meaning.specs.Proof.{IsLiteral, negated, are_same}
use Rattle.proof_meaning.specs.Rules.{IsByRule, differing}
use Rattle.proof_read.specs.Written.{numbers_fit}
use Rattle.proof_terms.specs.Range.{RuleLeaves}
use Rattle.proof_terms.specs.Terms.{ProofTerms}
use Rattle.proof_terms.specs.Kept.{Kept, KeepsAll, AreCodesOf, GoOn}
use Rattle.proof_terms.specs.Comes.{Comes, Stays}
use Rattle.proof_form.specs.EqualitiesKept.{IsKeptIfOver}
use Rattle.proof_terms.proofs.ClausesCodes.{kept_on}
use Rattle.proof_terms.specs.declared.verdict.Verdict.{Verdict}
use Rattle.proof_terms.specs.declared.verdict.Verdict.TheVariants.{Good, Wrong, Range}

pub stays : (t : ProofTerms) (s : Step) → numbers_fit s ≡ true → (RuleLeaves t.declared t.nodes t.trees s → ⊥) → Stays t s
stays t s e f (inl g) = false≢true (sym g ∙ e)
stays t s e f (inr h) = f h

module _ (t : ProofTerms) (asserted : List Tree) (old new : Kept) (step : Step) (in_range : Stays t step) where
  pub comes_wrong : ((before : List (List Literal)) (ls : List Literal) → IsByRule t.declared t.nodes t.trees asserted before step ls → ⊥) → Comes t asserted old new step Wrong
  comes_wrong f = (in_range, λ before ls k a g. f before ls g.by_rule)

  pub comes_by : (clause : List Literal) → ((before : List (List Literal)) → IsByRule t.declared t.nodes t.trees asserted before step clause)
      → ((before : List (List Literal)) (ls : List Literal) → IsByRule t.declared t.nodes t.trees asserted before step ls → ls ≡ clause) → (v : Verdict) → IsKeptIfOver t old new clause v → Comes t asserted old new step v
  comes_by clause rule only Good h = (in_range, λ before k a. record { clause = clause; gives = record { by_rule = rule before; literals = h.0 }; keeps = h.1 before k })
  comes_by clause rule only Wrong h = (in_range, λ before ls k a g. h (subst (λ (ms : List Literal). All (IsLiteral t.declared t.trees) ms) (only before ls g.by_rule) g.literals))
  comes_by clause rule only Range h = absurd h

-- ---- arguments that differ

abbrev pub differ_at : List ℕ → List ℕ → ℕ → Literal
differ_at xs ys i = negated (are_same (get_or xs i 0) (get_or ys i 0))

differing_suc : (xs ys : List ℕ) (i : ℕ) → i < length xs → length xs ≡ length ys → differing (take (suc i) xs) (take (suc i) ys) ≡ differing (take i xs) (take i ys) ++ differ_at xs ys i ∷ []
differing_suc [] ys i h e = absurd (omega arith)
differing_suc (x ∷ xs) [] i h e = absurd (omega arith)
differing_suc (x ∷ xs) (y ∷ ys) zero h e = refl
differing_suc (x ∷ xs) (y ∷ ys) (suc i) h e = ap (λ (ls : List Literal). negated (are_same x y) ∷ ls) (differing_suc xs ys i (omega arith) (omega arith))

pub differing_more : (xs ys : List ℕ) (i : ℕ) → i < length xs → length xs ≡ length ys → differing (take (i + 1) xs) (take (i + 1) ys) ≡ differing (take i xs) (take i ys) ++ differ_at xs ys i ∷ []
differing_more xs ys i h e =
    let next : suc i ≡ i + 1 = omega arith in
    subst (λ n. differing (take n xs) (take n ys) ≡ differing (take i xs) (take i ys) ++ differ_at xs ys i ∷ []) next (differing_suc xs ys i h e)

pub differs_at : (xs ys : List ℕ) (i : ℕ) → i < length xs → length xs ≡ length ys → Contains (differing xs ys) (differ_at xs ys i)
differs_at [] ys i h e = absurd (omega arith)
differs_at (x ∷ xs) [] i h e = absurd (omega arith)
differs_at (x ∷ xs) (y ∷ ys) zero h e = (0, (omega arith), refl)
differs_at (x ∷ xs) (y ∷ ys) (suc i) h e = let w = differs_at xs ys i (omega arith) (omega arith) in let less : w.0 < length (differing xs ys) = w.1 in (suc w.0, (omega arith), w.2)

-- ---- a clause kept after its codes were found

pub kept_by : (t : ProofTerms) (old start mid after new : Kept) (codes : List ℕ) (ls : List Literal) → start ≡ old → All (IsLiteral t.declared t.trees) ls → AreCodesOf mid.atoms codes ls → GoOn start.atoms mid.atoms
    → mid.clauses ≡ start.clauses → ((before : List (List Literal)) (ls : List Literal) → KeepsAll mid before → AreCodesOf mid.atoms codes ls → KeepsAll after (before ++ ls ∷ [])) → new ≡ after → IsKeptIfOver t old new ls Good
kept_by t old start mid after new codes ls s literals of g e keep f =
    (literals, λ before k. subst (λ (x : Kept). KeepsAll x (before ++ ls ∷ [])) (sym f) (keep before ls (kept_on start mid g e before (subst (λ (x : Kept). KeepsAll x before) (sym s) k)) of))
