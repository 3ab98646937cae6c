use Rattle.std.proofs.Common.{rules, ◌≡◌, ◌∷◌, [], length, arith}
use Rattle.literals.specs.Signed.{opposite}
use Rattle.smt_meaning.specs.Stack.{signature_of}
use Rattle.closure_log.specs.Seen.{state_of}
use Rattle.closure_log.proofs.DistinctClauses.{is_within, false_clause}
use Rattle.closure_log.proofs.Wholeness.{told_at_one_level}
use Rattle.closure_log.proofs.distinct.clause_of.Goals as goal

pub add_reasons-requires-clause-left : goal.add_reasons-requires-clause-left
add_reasons-requires-clause-left c =
    let r = c.requires in
    let before = r.equal.earlier in
    let less = r.equal.later in
    is_within (length c.args.stack.now.trees) (length c.args.congruence.now.closure.graph) c.args.arguments.now c.args.equal.earlier r.distinct.within r.grounded.reasoned.every (omega (arith, before, less))

pub add_reasons-requires-clause-right : goal.add_reasons-requires-clause-right
add_reasons-requires-clause-right c =
    let r = c.requires in
    is_within (length c.args.stack.now.trees) (length c.args.congruence.now.closure.graph) c.args.arguments.now c.args.equal.later r.distinct.within r.grounded.reasoned.every r.equal.later

pub returns : goal.returns
returns c =
    let s = c.args.stack.now in
    let table = c.args.atoms.now.atoms in
    let log = c.args.log.now in
    let r = c.requires in
    let reasoned = r.grounded.reasoned in
    let begun : c.push.new.self.items ≡ opposite c.args.literal ∷ [] = search rules in
    c.lemma_of.ensures.conflict (signature_of s.frames) (state_of s table log) (told_at_one_level s table log c.args.places.now r.setting r.log c.flat_says_the_same.ensures)
    (false_clause s table log c.args.congruence.now c.args.place c.args.arguments.now c.args.literal c.args.equal c.push.new.self.items c.add_reasons.new.clause.items r.grounded r.distinct r.literal r.equal begun
    (c.in_ok-add_reasons.ensures (signature_of s.frames) s.trees table reasoned.read reasoned.justified))
