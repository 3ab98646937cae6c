use Rattle.std.proofs.Common.{refl}
use Rattle.std.proofs.lemmas.Result.{on_ok_weaker}
use Rattle.proof_terms.specs.Kept.{Kept}
use Rattle.proof_terms.specs.ClausesLaid.{clauses_in}
use Rattle.proof_terms.proofs.ClausesCodes.{set_kept}
use Rattle.proof_terms.proofs.clauses.Clauses.keep.Goals as goal

pub returns-clause-kept : goal.returns-clause-kept
returns-clause-kept c =
    let s = c.self.inside in
    let seen : Kept = record { atoms = s.atoms.atoms; clauses = clauses_in s.clauses } in
    let new : Kept = record { atoms = s.atoms.atoms; clauses = clauses_in c.append.new.rows } in
    on_ok_weaker c.append.result
    (λ e. set_kept seen c.args.self.now new c.args.codes.now.items c.order.new.codes.items c.deref.result.now c.self.view_is refl c.order.ensures c.deref.ensures.value e) c.append.ensures.ok
