use Rattle.std.proofs.Common.{refl}
use Rattle.proof_terms.specs.Kept.{Kept}
use Rattle.proof_terms.specs.ClausesLaid.{clauses_in}
use Rattle.proof_terms.proofs.ClausesCodes.{kept_on_seen}
use Rattle.proof_terms.proofs.clauses.Clauses.same.Goals as goal

pub returns-clause-kept : goal.returns-clause-kept
returns-clause-kept c =
    let s = c.self.inside in
    let seen : Kept = record { atoms = s.atoms.atoms; clauses = clauses_in s.clauses } in
    let new : Kept = record { atoms = c.core_code.new.atoms.atoms; clauses = clauses_in s.clauses } in
    kept_on_seen seen c.args.self.now new c.self.view_is c.core_code.ensures.atoms refl
