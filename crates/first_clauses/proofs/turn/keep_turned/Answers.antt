use Rattle.std.proofs.Common.{List, slice_index_or, subst, sym, arith}
use Rattle.std.proofs.lemmas.List.Elements.{Contains-get_or}
use Rattle.smt_meaning.specs.Term.{Tree}
use Rattle.clause_form.specs.Node.{HasNoAtomTwice}
use Rattle.search_port.specs.State.{Reading}
use Rattle.first_clauses.specs.PartClausesFirst.{HasClause, IsBegun, IsClause}
use Rattle.first_clauses.specs.Turned.{AreTurned, IsKeptTurned}
use Rattle.first_clauses.proofs.PartClausesKeeping.{known_clause, on_ok}
use Rattle.first_clauses.proofs.Following.{turned_is}
use Rattle.order_clauses.proofs.Soundness.{no_pair_at}
use Rattle.first_clauses.proofs.Turning.{kept_so}
use Rattle.first_clauses.specs.CheckClausesFirst.{reading_of}
use Rattle.first_clauses.proofs.turn.keep_turned.Goals as goal

pub keep-requires : goal.keep-requires
keep-requires c = known_clause (reading_of c.args.stack.now c.args.atoms.now.atoms) c.args.store.now c.args.clause.now c.requires.begun c.requires.follows

pub returns-then-clause-le2-clause-begun : goal.returns-then-clause-le2-clause-begun
returns-then-clause-le2-clause-begun c =
    on_ok c.keep.result ((q : Reading) → IsBegun q c.args.store.now → IsClause q 0 c.args.clause.now → IsBegun q c.keep.new.store) (IsBegun (reading_of c.args.stack.now c.args.atoms.now.atoms) c.keep.new.store) c.keep.ensures.begun
    (λ h. h (reading_of c.args.stack.now c.args.atoms.now.atoms) c.requires.begun c.requires.follows)

pub returns-then-clause-le2-clause-has : goal.returns-then-clause-le2-clause-has
returns-then-clause-le2-clause-has c =
    on_ok c.keep.result (HasClause c.keep.new.store.clauses c.args.clause.now) (IsKeptTurned c.args.stack.now.trees c.args.atoms.now.atoms c.keep.new.store.clauses c.args.clause.now) c.keep.ensures.has
    (kept_so c.args.stack.now.trees c.args.atoms.now.atoms c.keep.new.store.clauses c.args.clause.now)

pub put_turned-requires-clause-within : goal.put_turned-requires-clause-within
put_turned-requires-clause-within c = λ k d l. c.requires.follows.over.within (slice_index_or c.args.clause.now k d) (Contains-get_or c.args.clause.now k d l)

pub keep-requires-then-not-has_each_once : goal.keep-requires-then-not-has_each_once
keep-requires-then-not-has_each_once c = known_clause (reading_of c.args.stack.now c.args.atoms.now.atoms) c.args.store.now c.args.clause.now c.requires.begun c.requires.follows

pub returns-then-not-has_each_once-clause-begun : goal.returns-then-not-has_each_once-clause-begun
returns-then-not-has_each_once-clause-begun c =
    on_ok c.keep-then-not-has_each_once.result ((q : Reading) → IsBegun q c.args.store.now → IsClause q 0 c.args.clause.now → IsBegun q c.keep-then-not-has_each_once.new.store)
    (IsBegun (reading_of c.args.stack.now c.args.atoms.now.atoms) c.keep-then-not-has_each_once.new.store) c.keep-then-not-has_each_once.ensures.begun
    (λ h. h (reading_of c.args.stack.now c.args.atoms.now.atoms) c.requires.begun c.requires.follows)

pub returns-then-not-has_each_once-clause-has : goal.returns-then-not-has_each_once-clause-has
returns-then-not-has_each_once-clause-has c =
    on_ok c.keep-then-not-has_each_once.result (HasClause c.keep-then-not-has_each_once.new.store.clauses c.args.clause.now)
    (IsKeptTurned c.args.stack.now.trees c.args.atoms.now.atoms c.keep-then-not-has_each_once.new.store.clauses c.args.clause.now) c.keep-then-not-has_each_once.ensures.has
    (kept_so c.args.stack.now.trees c.args.atoms.now.atoms c.keep-then-not-has_each_once.new.store.clauses c.args.clause.now)

pub returns-clause-begun : goal.returns-clause-begun
returns-clause-begun c =
    let follows : IsClause (reading_of c.args.stack.now c.args.atoms.now.atoms) 0 c.put_turned.new.put.items =
    turned_is c.flat_says_the_same.ensures c.args.stack.now c.args.atoms.now.atoms c.requires.declared c.args.clause.now c.put_turned.new.put.items
    c.requires.follows (subst (λ (ts : List Tree). AreTurned ts c.args.atoms.now.atoms c.args.clause.now c.put_turned.new.put.items) c.terms.ensures.trees c.in_ok-put_turned.ensures.turned) c.in_ok-put_turned.ensures.within
    (λ l x y. no_pair_at c.put_turned.new.put.items once l x.0 y.0 x.1 y.1 x.2 y.2) in
    on_ok c.keep-2.result ((q : Reading) → IsBegun q c.args.store.now → IsClause q 0 c.deref-2.result.now → IsBegun q c.keep-2.new.store) (IsBegun (reading_of c.args.stack.now c.args.atoms.now.atoms) c.keep-2.new.store) c.keep-2.ensures.begun
    (λ h. h (reading_of c.args.stack.now c.args.atoms.now.atoms) c.requires.begun (subst (IsClause (reading_of c.args.stack.now c.args.atoms.now.atoms) 0) (sym c.deref-2.ensures.value) follows))
  where
    once : HasNoAtomTwice c.put_turned.new.put.items
    once = subst HasNoAtomTwice c.deref.ensures.value (c.has_each_once.ensures c.if-not-has_each_once.false)

pub returns-clause-has : goal.returns-clause-has
returns-clause-has c =
    on_ok c.keep-2.result (HasClause c.keep-2.new.store.clauses c.deref-2.result.now) (IsKeptTurned c.args.stack.now.trees c.args.atoms.now.atoms c.keep-2.new.store.clauses c.args.clause.now) c.keep-2.ensures.has
    (λ h. record {
      turned = c.put_turned.new.put.items;
      are = subst (λ (ts : List Tree). AreTurned ts c.args.atoms.now.atoms c.args.clause.now c.put_turned.new.put.items) c.terms.ensures.trees c.in_ok-put_turned.ensures.turned;
      short = λ l. absurd (omega (arith, l, c.if-clause-le2.false));
      kept = subst (HasClause c.keep-2.new.store.clauses) c.deref-2.ensures.value h;
    })
