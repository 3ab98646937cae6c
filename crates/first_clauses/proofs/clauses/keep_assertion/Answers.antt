use Rattle.std.proofs.Common.{[], ◌∷◌, subst, sym, refl}
use Rattle.literals.specs.Signed.{Signed}
use Rattle.smt_meaning.specs.declared.clauses.Atom.TheVariants.{Truth}
use Rattle.smt_meaning.specs.Term.{tree_at}
use Rattle.search_port.specs.State.{Reading}
use Rattle.first_clauses.specs.PartClausesFirst.{HasClause, IsAsserted, IsBegun, IsClause}
use Rattle.first_clauses.proofs.PartClausesKeeping.{on_ok}
use Rattle.first_clauses.specs.CheckClausesFirst.{reading_of}
use Rattle.first_clauses.proofs.Following.{unit_is}
use Rattle.first_clauses.proofs.clauses.keep_assertion.Goals as goal

pub returns-clause-begun : goal.returns-clause-begun
returns-clause-begun c =
    let s = c.args.stack.now in
    let table = c.args.atoms.now.atoms in
    let clause : IsClause (reading_of s table) 0 (c.new.result ∷ []) =
    subst (λ (l : Signed). IsClause (reading_of s table) 0 (l ∷ [])) (sym c.new.ensures)
    (unit_is c.flat_says_the_same.ensures s table c.requires.declared c.in-Some.number c.args.term c.in-Some.ensures.some c.requires.asserted) in
    on_ok c.keep.result ((q : Reading) → IsBegun q c.args.store.now → IsClause q 0 (c.new.result ∷ []) → IsBegun q c.keep.new.store) (IsBegun (reading_of s table) c.keep.new.store) c.keep.ensures.begun
    (λ h. h (reading_of s table) c.requires.begun clause)

pub returns-clause-has : goal.returns-clause-has
returns-clause-has c =
    on_ok c.keep.result (HasClause c.keep.new.store.clauses (c.new.result ∷ []))
    (IsAsserted c.args.stack.now.trees c.args.atoms.now.atoms c.keep.new.store.clauses (tree_at c.args.stack.now.trees c.args.term)) c.keep.ensures.has
    (λ h. record {
      number = c.in-Some.number;
      place = c.args.term;
      within = c.in-Some.ensures.some.0;
      atom = c.in-Some.ensures.some.1 (Truth 0);
      term = refl;
      kept = subst (λ (l : Signed). HasClause c.keep.new.store.clauses (l ∷ [])) c.new.ensures h;
    })
