use Rattle.std.proofs.Common.{subst, sym}
use Rattle.search_port.specs.State.{TheoryState, IsFull}
use Rattle.first_clauses.specs.Holding.{IsAgreed}
use Rattle.theory_combine.proofs.theory.CombinedTheory.final_check.Goals as goal

pub check-requires-clause-full : goal.check-requires-clause-full
check-requires-clause-full c = subst (λ (s : TheoryState). IsFull s.reading s.log) (sym c.self.view_is) c.requires.full

pub check-requires-clause-agreed : goal.check-requires-clause-agreed
check-requires-clause-agreed c = subst (λ (s : TheoryState). IsAgreed s.reading s.log) (sym c.self.view_is) c.requires.agreed
