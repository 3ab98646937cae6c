use Rattle.std.proofs.Common.{◌∙◌, length, map, ap, subst, sym}
use Rattle.smt_meaning.specs.declared.replies.Held.{Held}
use Rattle.smt_meaning.specs.Core.{checked_trees, name_of, name_or_none, text_at}
use Rattle.smt_meaning.specs.Sexp.{sexp}
use Rattle.smt_meaning.specs.Stack.{assertions_of}
use Rattle.smt_meaning.specs.State.{State, checked_frames, is_unsat}
use Rattle.scope_stack.specs.declared.answers.Assertion.{Assertion}
use Rattle.scope_stack.specs.Shown.{AreAsserted}
use Rattle.goal_search.specs.Tries.{AreCandidates}
use Rattle.session.specs.Above.{above_by}
use Rattle.session.proofs.Reduces.{core_answered, held_named, named_candidates}
use Rattle.session.proofs.state.Session.get_unsat_core.Goals as goal

pub core-requires-clause-candidates : goal.core-requires-clause-candidates
core-requires-clause-candidates g c =
    let s = c.self.inside in
    subst (λ (t : State). AreCandidates 0 (length (assertions_of (checked_frames t))) c.deref.result.now) c.self.view_is
    (named_candidates s.stack (above_by s.stack.trees s.above) c.assertions.result.now c.deref.result.now c.assertions.ensures (c.deref.ensures.value ∙ c.in_ok-places.ensures))

pub names_of-requires : goal.names_of-requires
names_of-requires g c =
    let t : State = c.args.self.now in
    let xs = c.assertions.result.now in
    let ys = c.assertions-2.result.now in
    let before : AreAsserted t.stack xs = subst (λ (u : State). AreAsserted u.stack xs) c.self.view_is c.assertions.ensures in
    let after : AreAsserted t.stack ys = subst (λ (u : State). AreAsserted u.stack ys) (c.self-2.view_is ∙ c.in_ok-held.ensures.stays) c.assertions-2.ensures in
    rw (c.as_slice.ensures)
    (held_named t.stack xs ys c.deref.result.now (checked_trees t) (checked_frames t) t.settings.workers t.options.reproducible_resource_limit c.in_ok-held.held before after
    (c.deref.ensures.value ∙ c.in_ok-places.ensures) c.in_ok-held.ensures.core)

pub returns-clause-ok : goal.returns-clause-ok
returns-clause-ok g c =
    let t : State = c.args.self.now in
    let xs = c.assertions.result.now in
    let ys = c.assertions-2.result.now in
    core_answered t c.core.new.self xs ys c.deref.result.now c.in_ok-held.held c.in_ok-names.names
    (ap (λ (u : State). is_unsat u.mode) (sym c.self.view_is) ∙ sym c.is_unsat.ensures ∙ c.if-not-is_unsat.false)
    (ap (λ (u : State). u.options.produce_unsat_cores) (sym c.self.view_is) ∙ c.if-not-self.false)
    c.in_ok-held.ensures.stays
    (subst (λ (u : State). AreAsserted u.stack xs) c.self.view_is c.assertions.ensures)
    (subst (λ (u : State). AreAsserted u.stack ys) c.self-2.view_is c.assertions-2.ensures)
    (c.deref.ensures.value ∙ c.in_ok-places.ensures) c.in_ok-held.ensures.core
    (c.in_ok-names.ensures
    ∙ ap (map (λ (h : Held). name_or_none (name_of (sexp (text_at (map (λ (a : Assertion). a.text) ys) h.place))))) c.as_slice.ensures)
