use Rattle.std.proofs.Common.{All, length}
use Rattle.search_port.specs.State.{Reading}
use Rattle.first_clauses.specs.PartClausesFirst.{HasClause, IsBegun, IsClause}
use Rattle.first_clauses.proofs.PartClausesKeeping.{known, on_ok}
use Rattle.first_clauses.specs.CheckClausesFirst.{reading_of, IsFirst}
use Rattle.first_clauses.specs.Kept.{HasAxioms}
use Rattle.first_clauses.proofs.Sound.{bounds_fit, axioms_follow, still_first, has_axioms}
use Rattle.first_clauses.proofs.kept_axioms_keep.keep_axioms.Goals as goal

pub put_all_axioms-requires : goal.put_all_axioms-requires
put_all_axioms-requires c = bounds_fit c.args.parts.now.atoms.atoms (length c.args.stack.now.trees) c.requires.atoms.bounds

pub keep_all-requires : goal.keep_all-requires
keep_all-requires c =
    let s = c.args.stack.now in
    let table = c.args.parts.now.atoms.atoms in
    known (reading_of s table) c.args.store.now c.put_all_axioms.new.clauses c.requires.first.begun
    (axioms_follow s table c.flat_says_the_same.ensures c.requires.atoms.declared c.new-axioms.result c.put_all_axioms.new.clauses c.new-axioms.ensures c.in_ok-put_all_axioms.ensures)

pub returns-clause-first : goal.returns-clause-first
returns-clause-first c =
    let s = c.args.stack.now in
    let table = c.args.parts.now.atoms.atoms in
    let follow : All (IsClause (reading_of s table) 0) c.put_all_axioms.new.clauses =
    axioms_follow s table c.flat_says_the_same.ensures c.requires.atoms.declared c.new-axioms.result c.put_all_axioms.new.clauses c.new-axioms.ensures c.in_ok-put_all_axioms.ensures in
    on_ok c.keep_all.result ((q : Reading) → IsBegun q c.args.store.now → All (IsClause q 0) c.put_all_axioms.new.clauses → IsBegun q c.keep_all.new.store) (IsFirst s table c.keep_all.new.store)
    c.keep_all.ensures.begun
    (λ h. still_first s table c.more_force_parts.ensures c.args.store.now c.keep_all.new.store c.requires.first c.keep_all.ensures.stay (h (reading_of s table) c.requires.first.begun follow))

pub returns-clause-has : goal.returns-clause-has
returns-clause-has c =
    on_ok c.keep_all.result (All (HasClause c.keep_all.new.store.clauses) c.put_all_axioms.new.clauses) (HasAxioms c.args.parts.now.atoms.atoms c.keep_all.new.store.clauses) c.keep_all.ensures.has
    (λ h. has_axioms c.args.parts.now.atoms.atoms c.keep_all.new.store.clauses c.new-axioms.result c.put_all_axioms.new.clauses c.new-axioms.ensures c.in_ok-put_all_axioms.ensures h)
