use Rattle.std.proofs.Common.{◌≡◌, [], ◌∷◌, true, false, subst, ap, ap₂, ◌∙◌, to_z, of_z}
use Rattle.std.specs.Prelude.{ℤ, List}
use Rattle.std.specs.Int.{w128}
use Rattle.std.proofs.lemmas.Int.{to_z-of_z}
use Rattle.smt_meaning.specs.declared.clauses.Atom.TheVariants.{AtMost}
use Rattle.smt_meaning.specs.declared.clauses.Summand.{Summand}
use Rattle.smt_meaning.specs.Atoms.{divided, each_divided}
use Rattle.proof_meaning.specs.Proof.{literal}
use Rattle.linear_forms.proofs.TableLemmas.{on_ok}
use Rattle.proof_terms.specs.BoundCodes.{HaveJoined, round_clause}
use Rattle.proof_terms.proofs.BoundJoining.{joined_two, joined_all}
use Rattle.proof_terms.proofs.bounds.keep_round.Goals as goal

pub returns : goal.returns
returns c =
    let sum = c.args.sum.now in
    let by : to_z w128 (of_z w128 c.args.divisor) ≡ c.args.divisor = to_z-of_z w128 c.args.divisor c.ranges.divisor in
    let most : to_z w128 (of_z w128 c.args.limit) ≡ c.args.limit = to_z-of_z w128 c.args.limit c.ranges.limit in
    let quotient : to_z w128 (of_z w128 c.floor_div.result) ≡ divided c.args.limit c.args.divisor =
    to_z-of_z w128 c.floor_div.result (record { sfits = c.floor_div.type_inv }) ∙ c.floor_div.ensures.value ∙ ap₂ divided most by in
    let quotients : c.as_slice.result.now ≡ each_divided c.args.divisor sum = c.as_slice.ensures.value ∙ c.in_ok-quotients.ensures ∙ ap (λ z. each_divided z sum) by in
    let first = subst (λ (z : ℤ). HaveJoined c.args.clauses.now c.push_bound.new.clauses c.new-codes.result.items c.push_bound.new.codes.items (literal false (AtMost sum z) ∷ [])) most c.in_ok-push_bound.ensures in
    let second =
    subst (λ (z : ℤ). HaveJoined c.push_bound.new.clauses c.push_bound-2.new.clauses c.push_bound.new.codes.items c.push_bound-2.new.codes.items (literal true (AtMost (each_divided c.args.divisor sum) z) ∷ [])) quotient
    (subst (λ (ps : List Summand). HaveJoined c.push_bound.new.clauses c.push_bound-2.new.clauses c.push_bound.new.codes.items c.push_bound-2.new.codes.items (literal true (AtMost ps (to_z w128 (of_z w128 c.floor_div.result))) ∷ []))
    quotients c.in_ok-push_bound-2.ensures) in
    let both =
    joined_two c.args.clauses.now c.push_bound.new.clauses c.push_bound-2.new.clauses c.new-codes.result.items c.push_bound.new.codes.items c.push_bound-2.new.codes.items
    (literal false (AtMost sum c.args.limit) ∷ []) (literal true (AtMost (each_divided c.args.divisor sum) (divided c.args.limit c.args.divisor)) ∷ []) first second in
    on_ok c.keep.result _ _ c.keep.ensures.kept (λ h before kept.
    h before (round_clause sum c.args.limit c.args.divisor) (both.kept before kept)
    (joined_all c.args.clauses.now c.push_bound-2.new.clauses c.new-codes.result.items c.push_bound-2.new.codes.items (round_clause sum c.args.limit c.args.divisor) c.new-codes.ensures.items both))
