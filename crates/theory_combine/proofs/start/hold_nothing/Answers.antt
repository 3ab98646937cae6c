use Rattle.std.proofs.Common.{◌∙◌, List, [], sym, subst}
use Rattle.literals.specs.Signed.{Signed}
use Rattle.closure_log.specs.Places.{ArePlaces}
use Rattle.theory_combine.proofs.start.hold_nothing.Goals as goal

pub returns-clause-held : goal.returns-clause-held
returns-clause-held c = record {
  told = c.in_ok-closure.ensures.told c.args.atoms.now.atoms;
  knows = c.requires.knows;
  columns = c.requires.columns;
  same = c.requires.log ∙ sym c.in_ok-closure.ensures.log;
  size = c.in_ok-grow.ensures.size ∙ c.len.ensures.count;
  told_at = subst (λ (ls : List Signed). ArePlaces ls c.grow.new.self.places.items) (sym c.in_ok-closure.ensures.log) (c.grow.ensures.told [] c.new-scan.ensures.told);
}
