use Rattle.std.proofs.Common.{◌≡◌, ◌++◌, ◌∷◌, [], true, List, length, All, sym, ap, subst, arith}
use Rattle.std.specs.Prelude.{ℕ, Option}
use Rattle.std.proofs.lemmas.List.{length_push}
use Rattle.std.proofs.lemmas.List.Elements.{All-weaker}
use Rattle.smt_meaning.specs.declared.clauses.Summand.{Summand}
use Rattle.smt_meaning.specs.declared.clauses.Atom.{Atom}
use Rattle.smt_meaning.specs.declared.clauses.Atom.TheVariants.{AtMost}
use Rattle.search_port.specs.Calls.{IsLemma}
use Rattle.closure_log.specs.Seen.{state_of}
use Rattle.model_eval.specs.Walk.{is_marked}
use Rattle.exact_model.specs.Atoms.{HasMarkedPlaces}
use Rattle.theory_combine.specs.Numbering.{table_of}
use Rattle.theory_combine.specs.Shown.{IsMarkedLeaf}
use Rattle.theory_combine.proofs.Saying.{pushed_at}
use Rattle.theory_combine.proofs.Comparing.{over_marked}
use Rattle.theory_combine.proofs.Marking.{at_places, marked_is_of}
use Rattle.theory_combine.proofs.step.go_on_with_bound.Goals as goal

pub number_new-requires-clause-of_stack : goal.number_new-requires-clause-of_stack
number_new-requires-clause-of_stack c =
    let s = c.args.parts.now.stack.now in
    let marks = c.args.parts.now.marks.items in
    let sum = c.args.bound.sum.items in
    let all : All (λ (p : Summand). is_marked marks p.term ≡ true) sum =
    All-weaker (λ (p : Summand). IsMarkedLeaf s marks p.term) (λ (p : Summand). is_marked marks p.term ≡ true) (λ p h. h.marked) sum c.requires.leaves in
    let marked : HasMarkedPlaces marks (AtMost sum c.args.bound.threshold) = at_places (λ p. is_marked marks p ≡ true) sum all in
    record {
      terms = tt;
      declared = marked_is_of c.symbols_are_declared.ensures c.flat_says_the_same.ensures s marks c.requires.ready.parts.0 (AtMost sum c.args.bound.threshold) marked;
      marked = marked;
      proper = (c.requires.proper, c.requires.in_range);
    }

pub number_new-requires-clause-to_show : goal.number_new-requires-clause-to_show
number_new-requires-clause-to_show c = record {
  of_check = c.requires.of_check;
  leaves =
      over_marked c.flat_says_the_same.ensures c.args.parts.now.stack.now c.args.parts.now.marks.items c.requires.ready.parts.2.only c.requires.ready.under_way.0.different c.args.bound.sum.items c.requires.leaves;
  ints = tt;
}

pub said_of-requires : goal.said_of-requires
said_of-requires c =
    let size : length c.number_new.new.progress.atoms.atoms ≡ length (c.args.progress.now.atoms.atoms ++ AtMost c.args.bound.sum.items c.args.bound.threshold ∷ []) = ap (λ (table : List Atom). length table) c.in-Ok.ensures.added in
    omega (arith, size, length_push c.args.progress.now.atoms.atoms (AtMost c.args.bound.sum.items c.args.bound.threshold), c.len-number.ensures.count, c.len-few.ensures.count, c.len-few.ensures.few)

pub returns-in-Ok-said_of : goal.returns-in-Ok-said_of
returns-in-Ok-said_of c =
    let s = c.args.parts.now.stack.now in
    let new = c.number_new.new.progress in
    let a : Atom = AtMost c.args.bound.sum.items c.args.bound.threshold in
    record {
      went = c.number_new.ensures.went;
      found = (
        subst (λ (o : Option ℕ). All (IsLemma (state_of s (table_of o new.atoms.atoms) new.held.closure.log.items).reading) c.in-Ok-said_of.lemmas) (sym c.in-Ok.ensures.kept)
            (c.in-Ok-said_of.ensures (state_of s new.atoms.atoms new.held.closure.log.items).reading (pushed_at c.args.progress.now.atoms.atoms new.atoms.atoms a c.len-number.result c.in-Ok.ensures.added c.len-number.ensures.count)),
        omega (arith, c.in-Ok.ensures.spent),
      );
    }

pub returns-in-Err : goal.returns-in-Err
returns-in-Err c = record { went = c.number_new.ensures.went; found = c.in-Err.ensures.ended }

pub returns : goal.returns
returns c = record { went = c.number_new.ensures.went; found = tt }
