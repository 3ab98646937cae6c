use Rattle.std.proofs.Common.{rules}
use Rattle.proof_form.specs.EqualitiesKept.{cong_clause}
use Rattle.proof_form.proofs.EqualitiesComes.{kept_by}
use Rattle.proof_form.proofs.equalities.keep_cong.Goals as goal

pub returns : goal.returns
returns c =
    let t = c.args.terms.now in
    let good = c.cong_codes.ensures.literals (search rules) in
    kept_by t c.args.clauses.now c.take_scratch-codes.new.self c.cong_codes.new.clauses c.keep.new.self c.give_scratch-2.new.self c.cong_codes.new.codes.items (cong_clause t.nodes c.args.left c.args.right)
    c.take_scratch-codes.ensures.same good.0 good.1 c.cong_codes.ensures.atoms c.cong_codes.ensures.clauses c.in_ok-keep.ensures.kept c.give_scratch-2.ensures
