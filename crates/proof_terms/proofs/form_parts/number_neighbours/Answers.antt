use Rattle.std.proofs.Common.{◌≡◌, ◌-◌, ℕ, Some, get_or, subst, ◌∙◌, arith}
use Rattle.proof_terms.specs.Terms.{ProofTerms}
use Rattle.proof_terms.specs.FormParts.{IsNumbered, relation_atom, relation_fits}
use Rattle.proof_terms.proofs.FormNumbers.{extends_further, neighbours_more, fits_more, misfit}
use Rattle.proof_terms.proofs.form_parts.number_neighbours.Goals as goal

pub returns-in-None-clause-range : goal.returns-in-None-clause-range
returns-in-None-clause-range c = λ _.
    let x : ℕ = get_or c.args.arguments.now (c.loop-place.place - 1) 0 in
    let y : ℕ = get_or c.args.arguments.now c.loop-place.place 0 in
    let h = subst (IsNumbered c.number_pair.new.clauses.atoms (relation_atom c.loop-place.terms.trees c.args.relation x y) (relation_fits c.loop-place.terms.trees c.args.relation x y)) c.in-None.is c.in_ok-number.ensures.number in
    let k = subst (λ (t : ProofTerms). relation_fits t.trees c.args.relation x y ≡ Rattle.std.proofs.Common.false) c.loop-place.invariant.0 h in
    misfit (relation_fits c.args.terms.now.trees c.args.relation) c.args.arguments.now c.loop-place.place (omega arith) c.loop-place-test.true k

pub loop-place-preserved : goal.loop-place-preserved
loop-place-preserved c =
    let x : ℕ = get_or c.args.arguments.now (c.loop-place.place - 1) 0 in
    let y : ℕ = get_or c.args.arguments.now c.loop-place.place 0 in
    let h = subst (IsNumbered c.number_pair.new.clauses.atoms (relation_atom c.loop-place.terms.trees c.args.relation x y) (relation_fits c.loop-place.terms.trees c.args.relation x y)) c.in-Some.is c.in_ok-number.ensures.number in
    let k = subst (λ (t : ProofTerms). IsNumbered c.number_pair.new.clauses.atoms (relation_atom t.trees c.args.relation x y) (relation_fits t.trees c.args.relation x y) (Some c.in-Some.number)) c.loop-place.invariant.0 h in (
      c.number_pair.ensures.same ∙ c.loop-place.invariant.0,
      extends_further c.args.clauses.now c.loop-place.clauses c.number_pair.new.clauses c.loop-place.invariant.1 c.number_pair.ensures.more,
      neighbours_more (relation_atom c.args.terms.now.trees c.args.relation) c.loop-place.clauses c.number_pair.new.clauses c.loop-place.numbers.items c.push.new.self.items c.args.arguments.now c.loop-place.place
          c.in-Some.number c.number_pair.ensures.more (omega arith) c.loop-place-test.true c.loop-place.invariant.2 k.0 c.in_ok-push-in-Some.ensures.items,
      fits_more (relation_fits c.args.terms.now.trees c.args.relation) c.args.arguments.now c.loop-place.place (omega arith) c.loop-place-test.true c.loop-place.invariant.3 k.1,
    )

pub returns-in_err-number-clause-more : goal.returns-in_err-number-clause-more
returns-in_err-number-clause-more c = extends_further c.args.clauses.now c.loop-place.clauses c.number_pair.new.clauses c.loop-place.invariant.1 c.number_pair.ensures.more

pub returns-in-None-clause-more : goal.returns-in-None-clause-more
returns-in-None-clause-more c = extends_further c.args.clauses.now c.loop-place.clauses c.number_pair.new.clauses c.loop-place.invariant.1 c.number_pair.ensures.more

pub returns-in_err-push-in-Some-clause-more : goal.returns-in_err-push-in-Some-clause-more
returns-in_err-push-in-Some-clause-more c = extends_further c.args.clauses.now c.loop-place.clauses c.number_pair.new.clauses c.loop-place.invariant.1 c.number_pair.ensures.more
