use Rattle.std.proofs.Common.{◌≡◌, ◌++◌, All, List, subst, ap, ◌∙◌}
use Rattle.literals.specs.Signed.{Signed}
use Rattle.smt_meaning.specs.Term.{Tree}
use Rattle.smt_meaning.specs.Stack.{signature_of}
use Rattle.order_clauses.specs.Clauses.{part_clauses_of}
use Rattle.order_clauses.specs.Sound.{AreSound}
use Rattle.first_clauses.specs.PartClausesFirst.{IsClause, HasClause}
use Rattle.first_clauses.proofs.PartClausesKeeping.{known}
use Rattle.first_clauses.specs.CheckClausesFirst.{reading_of}
use Rattle.first_clauses.proofs.Following.{put_clauses}
use Rattle.first_clauses.proofs.nodes.keep_compared.Goals as goal

pub put_part-requires : goal.put_part-requires
put_part-requires g c = λ κs lives.
    let node = c.requires.1.1.1.1.0 in (lives, (c.requires.1.1.1.0, (node.tree, (node.within, (node.arguments, c.requires.1.1.1.1.1.0)))))

pub keep_all-requires : goal.keep_all-requires
keep_all-requires g c =
    let s = c.args.stack.now in
    let table = c.args.atoms.now.atoms in
    let added = part_clauses_of c.args.sorts.now g.trees table c.args.operator c.args.place c.args.arguments.now in
    let clauses : All (IsClause (reading_of s table) 0) c.put_part.new.clauses =
    put_clauses c.flat_says_the_same.ensures s table c.requires.1.1.0 c.clear.new.self c.put_part.new.clauses added c.clear.ensures c.in_ok-put_part.ensures.put
    (subst (λ (ts : List Tree). AreSound (signature_of s.frames) ts table added) c.requires.1.0 (c.in_ok-put_part.ensures.sound (signature_of s.frames) c.requires.1.1.1.1.1.1.0 c.requires.1.1.1.1.1.1.1.0)) in
    known (reading_of s table) c.args.store.now c.put_part.new.clauses c.requires.1.1.1.1.1.1.1.1 clauses

pub returns-clause-begun : goal.returns-clause-begun
returns-clause-begun g c =
    let s = c.args.stack.now in
    let table = c.args.atoms.now.atoms in
    let added = part_clauses_of c.args.sorts.now g.trees table c.args.operator c.args.place c.args.arguments.now in
    let clauses : All (IsClause (reading_of s table) 0) c.put_part.new.clauses =
    put_clauses c.flat_says_the_same.ensures s table c.requires.1.1.0 c.clear.new.self c.put_part.new.clauses added c.clear.ensures c.in_ok-put_part.ensures.put
    (subst (λ (ts : List Tree). AreSound (signature_of s.frames) ts table added) c.requires.1.0 (c.in_ok-put_part.ensures.sound (signature_of s.frames) c.requires.1.1.1.1.1.1.0 c.requires.1.1.1.1.1.1.1.0)) in
    c.in_ok-keep_all.ensures.begun (reading_of s table) c.requires.1.1.1.1.1.1.1.1 clauses

pub returns-clause-has : goal.returns-clause-has
returns-clause-has g c =
    let added = part_clauses_of c.args.sorts.now g.trees c.args.atoms.now.atoms c.args.operator c.args.place c.args.arguments.now in
    let same : c.put_part.new.clauses ≡ added = c.in_ok-put_part.ensures.put ∙ ap (λ (cs : List (List Signed)). cs ++ added) c.clear.ensures in
    subst (All (HasClause c.keep_all.new.store.clauses)) same c.in_ok-keep_all.ensures.has
