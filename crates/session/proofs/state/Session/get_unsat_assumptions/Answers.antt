use Rattle.std.proofs.Common.{◌∙◌, ◌+◌, ◌-◌, List, length, map, ap, subst, sym, refl}
use Rattle.std.specs.Prelude.{flat_map}
use Rattle.std.specs.List.{range_with_len}
use Rattle.smt_meaning.specs.declared.replies.Held.{Held}
use Rattle.smt_meaning.specs.declared.tokens.Token.{Token}
use Rattle.smt_meaning.specs.Core.{checked_trees, text_at}
use Rattle.smt_meaning.specs.Stack.{assertions_of}
use Rattle.smt_meaning.specs.State.{State, checked_frames, is_unsat, texts_of}
use Rattle.scope_stack.specs.Shown.{AreAsserted}
use Rattle.goal_search.specs.Tries.{AreCandidates}
use Rattle.session.specs.Above.{above_by}
use Rattle.session.proofs.CoreCandidates.{held_within}
use Rattle.session.proofs.Reduces.{assumed_candidates, assumed_inside, assumptions_answered}
use Rattle.session.proofs.state.Session.get_unsat_assumptions.Goals as goal

pub core-requires-clause-candidates : goal.core-requires-clause-candidates
core-requires-clause-candidates g c =
    let s = c.self.inside in
    let xs = c.assertions-below.result.now in
    subst (λ (t : State). AreCandidates 0 (length (assertions_of (checked_frames t))) c.deref.result.now) c.self.view_is
    (assumed_candidates s.stack (above_by s.stack.trees s.above) xs (length xs) c.in_ok-texts.texts c.deref.result.now c.assertions-below.ensures refl (c.in_ok-texts.ensures s.stack.trees)
    (c.deref.ensures.value ∙ c.in_ok-places.ensures ∙ ap (range_with_len (length xs)) c.len.ensures))

pub texts_held-requires : goal.texts_held-requires
texts_held-requires g c =
    let t : State = c.args.self.now in
    let xs = c.assertions-below.result.now in
    let texts = c.in_ok-texts.texts in
    rw (c.as_slice-2.ensures, c.as_slice.ensures)
    (held_within (length xs) (length xs + length texts) (checked_trees t) (checked_frames t) t.settings.workers t.options.reproducible_resource_limit c.deref.result.now c.in_ok-held.held
    (assumed_inside (length xs) texts c.deref.result.now (c.deref.ensures.value ∙ c.in_ok-places.ensures ∙ ap (range_with_len (length xs)) c.len.ensures)) c.in_ok-held.ensures.core)

pub returns-clause-ok : goal.returns-clause-ok
returns-clause-ok g c =
    let s = c.self.inside in
    let xs = c.assertions-below.result.now in
    let texts = c.in_ok-texts.texts in
    assumptions_answered c.args.self.now c.core.new.self xs (length xs) texts c.in_ok-texts-2.texts c.deref.result.now c.in_ok-held.held
    (ap (λ (t : State). is_unsat t.mode) (sym c.self.view_is) ∙ sym c.is_unsat.ensures ∙ c.if-not-is_unsat.false)
    (ap (λ (t : State). t.options.produce_unsat_assumptions) (sym c.self.view_is) ∙ c.if-not-self.false)
    c.in_ok-held.ensures.stays
    (subst (λ (t : State). AreAsserted t.stack xs) c.self.view_is c.assertions-below.ensures) refl
    (c.in_ok-texts.ensures s.stack.trees ∙ ap (λ (t : State). flat_map texts_of t.above) c.self.view_is)
    (c.deref.ensures.value ∙ c.in_ok-places.ensures ∙ ap (range_with_len (length xs)) c.len.ensures)
    c.in_ok-held.ensures.core
    (c.in_ok-texts-2.ensures
    ∙ ap (λ (ws : List (List Token)). map (λ (h : Held). text_at ws (h.place - length xs)) c.as_slice-2.result.now) c.as_slice.ensures
    ∙ ap (map (λ (h : Held). text_at texts (h.place - length xs))) c.as_slice-2.ensures)
