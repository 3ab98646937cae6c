use Rattle.std.proofs.Common.{ℕ, ◌<◌, ◌∙◌, ◌&&◌, List, length, take, All, sym, ap, subst, refl, arith}
use Rattle.smt_meaning.specs.TreeShape.{is_constant_head}
use Rattle.term_store.specs.Terms.{Terms, AreComplete}
use Rattle.linear_forms.specs.Table.{AreForms}
use Rattle.proof_terms.specs.declared.terms_facts.Fact.{Fact}
use Rattle.proof_terms.specs.TermFacts.{all_constant, held_of}
use Rattle.proof_terms.specs.TermTable.{IsHeldPlace, AreFiled, IsEntered}
use Rattle.proof_terms.proofs.TermNodeLemmas.{in_two}
use Rattle.proof_terms.proofs.TermEntering.{held_below, seen_below, filed_then, filed_same}
use Rattle.proof_terms.proofs.terms_table.TermTable.enter.Goals as goal

pub held_place-requires-clause-complete : goal.held_place-requires-clause-complete
held_place-requires-clause-complete c = subst AreComplete (sym c.requires.can.table.held) c.requires.can.table.complete

pub held_place-requires-clause-places : goal.held_place-requires-clause-places
held_place-requires-clause-places c = λ is e.
    held_below c.requires.declared c.requires.held c.args.self.now c.args.head c.args.arguments.now c.args.sort c.requires.can is (ap held_of (sym c.deref.ensures.value) ∙ e)

pub enter-requires-clause-below : goal.enter-requires-clause-below
enter-requires-clause-below c =
    subst (All (λ p. p < length c.args.self.now.distinct.store.trees)) (sym c.deref-3.ensures.value)
    (seen_below c.requires.declared c.requires.held c.args.self.now c.args.head c.args.arguments.now c.args.sort c.requires.can)

pub returns-clause-table : goal.returns-clause-table
returns-clause-table c = λ ds hs can.
    let t = c.args.self.now in
    let facts = t.arguments.facts.items in
    let count = can.table.filed.places_count in
    let fact : Fact = record { sort = c.args.sort; constant = c.is_constant.result; first = c.len.result; held = c.in_ok-held.held } in
    let both : AreFiled ds hs c.enter.new.nodes c.enter.new.places.items c.enter.new.distinct.store.trees c.enter.new.distinct.facts.items × AreForms (take (length t.forms) c.enter.new.distinct.store.trees) t.forms =
    in_two c.enter.result _ _ _ c.enter.ensures.ok c.enter.ensures.err
    (λ e.
    filed_then ds hs t c.args.head c.args.arguments.now c.args.sort can fact refl
    (c.is_constant.ensures ∙ ap (λ fs. is_constant_head c.args.head && all_constant fs) c.deref-2.ensures.value) (omega arith)
    (subst (λ (fs : List Fact). IsHeldPlace t.held.trees c.args.head (held_of fs) c.in_ok-held.held) c.deref.ensures.value c.in_ok-held.ensures.ok)
    c.enter.new.nodes c.enter.new.places.items c.enter.new.distinct.store.trees c.enter.new.distinct.facts.items
    (subst
    (λ (ps : List ℕ). IsEntered t.nodes t.places.items t.distinct.store.trees t.distinct.facts.items c.args.head c.args.arguments.now ps fact c.enter.new.nodes c.enter.new.places.items c.enter.new.distinct.store.trees c.enter.new.distinct.facts.items)
    c.deref-3.ensures.value e))
    (λ e. filed_same ds hs t c.enter.new.nodes c.enter.new.places.items c.enter.new.distinct.store.trees c.enter.new.distinct.facts.items can.table e.0 e.1 e.2 e.3) in
    record {
      filed = both.0;
      held = ap (λ (s : Terms). s.trees) c.held_place.ensures.same ∙ can.table.held;
      complete = can.table.complete;
      held_different = can.table.held_different;
      forms = both.1;
    }
