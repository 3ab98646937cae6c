use Rattle.std.proofs.Common.{◌∙◌, List, All, sym, subst}
use Rattle.literals.specs.Signed.{Signed}
use Rattle.search_port.specs.State.{TheoryState}
use Rattle.congruence.specs.Implied.{IsPressingLemma}
use Rattle.closure_log.specs.Seen.{state_of}
use Rattle.theory_combine.proofs.Chained.{keeps_both}
use Rattle.theory_combine.proofs.implied.follow_rows.Goals as goal

pub returns-then-len-eq-GIVEN-clause-found : goal.returns-then-len-eq-GIVEN-clause-found
returns-then-len-eq-GIVEN-clause-found c = λ b d. c.inferred.ensures (state_of c.args.stack.now c.args.atoms.now.atoms c.loop-turn.held.closure.log.items) b d c.loop-turn.invariant.found

pub returns-in_default-clause-found : goal.returns-in_default-clause-found
returns-in_default-clause-found c = λ b d. c.inferred-in_default.ensures (state_of c.args.stack.now c.args.atoms.now.atoms c.loop-turn.held.closure.log.items) b d c.loop-turn.invariant.found

pub loop-turn-preserved : goal.loop-turn-preserved
loop-turn-preserved c =
    let t : TheoryState = state_of c.args.stack.now c.args.atoms.now.atoms c.look_at-found.new.held.closure.log.items in
    record {
      held = c.look_at-found.ensures.held;
      log = c.look_at-found.ensures.log ∙ c.loop-turn.invariant.log;
      variables = keeps_both c.args.held.now.bounds c.loop-turn.held.bounds c.look_at-found.new.held.bounds c.loop-turn.invariant.variables c.look_at-found.ensures.variables;
      found = c.in-Ok.ensures t (c.short.ensures t c.look_at-found.ensures.found)
          (subst (λ (ls : List Signed). All (IsPressingLemma (state_of c.args.stack.now c.args.atoms.now.atoms ls)) c.loop-turn.clauses.items) (sym c.look_at-found.ensures.log) c.loop-turn.invariant.found);
    }

pub returns-clause-found : goal.returns-clause-found
returns-clause-found c = λ b d. c.inferred-2.ensures (state_of c.args.stack.now c.args.atoms.now.atoms c.loop-turn.held.closure.log.items) b d c.loop-turn.invariant.found

pub returns-in_default-keep-clause-variables : goal.returns-in_default-keep-clause-variables
returns-in_default-keep-clause-variables c =
    keeps_both c.args.held.now.bounds c.loop-turn.held.bounds c.look_at-found.new.held.bounds c.loop-turn.invariant.variables c.look_at-found.ensures.variables
