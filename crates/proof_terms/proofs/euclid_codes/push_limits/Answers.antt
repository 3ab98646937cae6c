use Rattle.std.proofs.Common.{length, All, sym, subst}
use Rattle.std.proofs.lemmas.List.Elements.{All-tail}
use Rattle.pair_bounds.specs.Rows.{listed, IsRowLimit}
use Rattle.proof_terms.specs.Terms.{ProofTerms}
use Rattle.proof_terms.proofs.euclid_codes.push_limits.Goals as goal

pub push_other-requires : goal.push_other-requires
push_other-requires c =
    subst (λ (t : ProofTerms). All (IsRowLimit (length t.nodes)) (listed c.args.row.other)) (sym c.push_limit.ensures.same)
    (All-tail (IsRowLimit (length c.args.terms.now.nodes)) c.args.row.limit (listed c.args.row.other) c.requires)
