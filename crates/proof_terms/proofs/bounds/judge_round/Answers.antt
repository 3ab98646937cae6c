use Rattle.std.proofs.Common.{[], ◌∷◌, ◌++◌, List, pos, subst, to_z, of_z}
use Rattle.std.specs.Int.{w128}
use Rattle.std.specs.Prelude.{ℤ}
use Rattle.fraction128.proofs.Integers.{same_bits}
use Rattle.smt_meaning.specs.declared.clauses.Literal.{Literal}
use Rattle.smt_meaning.specs.declared.clauses.Summand.{Summand}
use Rattle.proof_terms.specs.Kept.{KeepsAll}
use Rattle.proof_terms.specs.BoundCodes.{round_clause}
use Rattle.proof_terms.proofs.BoundJudging.{round_good, round_ranges}
use Rattle.proof_terms.proofs.bounds.judge_round.Goals as goal

pub returns : goal.returns
returns c =
    let sum = c.in-AtMost.sum in
    let limit = c.in-AtMost.limit in
    let old = c.args.clauses.now in
    let new = c.keep_round.new.clauses in
    let ranges = round_ranges c.args.literal.now.atom sum limit c.args.divisor c.in-AtMost.is c.requires in
    let keeps : (before : List (List Literal)) → KeepsAll old before → KeepsAll new (before ++ round_clause sum limit (pos c.args.divisor) ∷ []) =
    subst (λ (ps : List Summand). (before : List (List Literal)) → KeepsAll old before → KeepsAll new (before ++ round_clause ps limit (pos c.args.divisor) ∷ [])) c.as_slice.ensures
    (subst (λ (z : ℤ). (before : List (List Literal)) → KeepsAll old before → KeepsAll new (before ++ round_clause c.as_slice.result.now z (pos c.args.divisor) ∷ [])) (same_bits limit ranges.0)
    (subst (λ (z : ℤ). (before : List (List Literal)) → KeepsAll old before → KeepsAll new (before ++ round_clause c.as_slice.result.now (to_z w128 (of_z w128 limit)) z ∷ []))
    (same_bits (pos c.args.divisor) ranges.1) c.in_ok-keep_round.ensures)) in
    λ asserted.
    round_good c.args.terms.now asserted old new c.args.literal.now c.args.divisor c.requires sum limit c.in-AtMost.is (c.is_literal.ensures.0 c.if-not-is_literal.false)
    (c.is_divided.ensures.0 c.if-not-is_divided.false) keeps
