-- What a step on the table of divisions comes to.
use Rattle.std.proofs.Common.{◌≡◌, inl, inr, ℕ, ◌<◌, true, false, ◌&&◌, List, [], ◌∷◌, length, map, refl, ap, sym, ◌∙◌}
use Rattle.std.specs.List.{list_all}
use Rattle.smt_meaning.specs.declared.terms.Head.{Head}
use Rattle.smt_meaning.specs.Term.{Tree}
use Rattle.smt_meaning.specs.Division.{Limit, Row}
use Rattle.proof_meaning.specs.declared.proof.Step.TheVariants.{Euclid}
use Rattle.proof_meaning.specs.Proof.{AreTerms, node_at}
use Rattle.smt_laws.specs.Rows.{placed_literals}
use Rattle.proof_terms.specs.Range.{limit_stays, row_stays, EuclidLeaves}
use Rattle.proof_terms.specs.Terms.{ProofTerms}
use Rattle.proof_terms.specs.Kept.{Kept}
use Rattle.proof_terms.specs.Comes.{Comes, Stays}
use Rattle.proof_terms.specs.declared.verdict.Verdict.{Verdict}
use Rattle.proof_terms.specs.declared.verdict.Verdict.TheVariants.{Good, Wrong, Range}
use Rattle.proof_terms.specs.TermRows.{tree_limit, tree_row, tree_limit_stays}
use Rattle.proof_terms.specs.EuclidRows.{IsRowAt, RowLeaves}
use Rattle.proof_terms.specs.EuclidCodes.{KeepsRow}
use Rattle.proof_terms.proofs.TermRowForms.{stays_by_trees}
use Rattle.proof_terms.proofs.EuclidLiterals.{row_literals}

-- whether folding a row stays in the range depends on its trees alone
limits_by_trees : (ts : List Tree) (ls : List (Limit ℕ)) → list_all (limit_stays ts) ls ≡ list_all (tree_limit_stays ts) (map (tree_limit ts) ls)
limits_by_trees ts [] = refl
limits_by_trees ts (l ∷ ls) = ap (λ b. b && list_all (limit_stays ts) ls) (stays_by_trees ts l) ∙ ap (λ b. tree_limit_stays ts (tree_limit ts l) && b) (limits_by_trees ts ls)

same_stays : (ts : List Tree) (r s : Row ℕ) → tree_row ts r ≡ tree_row ts s → row_stays ts r ≡ row_stays ts s
same_stays ts r s e = limits_by_trees ts r.limits ∙ ap (λ (x : Row Tree). list_all (tree_limit_stays ts) x.limits) e ∙ sym (limits_by_trees ts s.limits)

module _ (t : ProofTerms) (asserted : List Tree) (old new : Kept) (i n : ℕ) where
  abbrev head : Head
  head = (node_at t.nodes i).head

  abbrev arguments : List ℕ
  arguments = (node_at t.nodes i).arguments

  stays : (EuclidLeaves t.nodes t.trees i n → ⊥) → Stays t (Euclid i n)
  stays h (inl e) = let x : true ≡ false = e in cc
  stays h (inr leaves) = h leaves

  row_range : i < length t.nodes → RowLeaves t.trees i head arguments n → Comes t asserted old new (Euclid i n) Range
  row_range h l = inr (record { within = h; rows = l.rows; has = l.has; row = l.row; row_is = l.row_is; outside = l.outside })

  pub row_comes : AreTerms t.declared t.nodes t.trees → i < length t.nodes → (row : Row ℕ) → IsRowAt t.trees i head arguments n row → (v : Verdict) → KeepsRow old new t.trees i row v → Comes t asserted old new (Euclid i n) v
  row_comes terms h row at Good keeps = (
    stays (λ leaves. (let e : row_stays t.trees leaves.row ≡ true = same_stays t.trees leaves.row row (at.only leaves.rows leaves.has leaves.row leaves.row_is) ∙ keeps.0 in let f : row_stays t.trees leaves.row ≡ false = leaves.outside in let x : true ≡ false = sym e ∙ f in cc)),
    λ before kept literals.
        record {
          clause = placed_literals t.trees i row;
          gives = record {
            by_rule = record { within = h; rows = at.rows; has = at.has; row = row; row_is = at.row_is; clause = refl };
            literals = row_literals t.declared t.nodes t.trees terms i n at.rows row h at.has at.row_is;
          };
          keeps = keeps.1 before kept;
        },
  )
  row_comes terms h row at Wrong keeps = absurd keeps
  row_comes terms h row at Range out = row_range h (record { rows = at.rows; has = at.has; row = row; row_is = at.row_is; outside = out })
