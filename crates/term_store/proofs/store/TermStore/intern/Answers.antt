use Rattle.std.proofs.Common.{arith, sym, ap, ◌∙◌, refl}
use Rattle.smt_meaning.specs.Term.{Tree}
use Rattle.smt_meaning.specs.TreeShape.{place_of}
use Rattle.term_store.specs.Terms.{Terms, tree_with}
use Rattle.term_store.proofs.PlaceLemmas.{among_at, new_not_among, with_tree_old, with_tree_new, place_of-is, place_of-new}
use Rattle.term_store.proofs.PartLemmas.{parts_with}
use Rattle.term_store.proofs.store.TermStore.intern.Goals as goal

pub returns-in-Some-clause-ok : goal.returns-in-Some-clause-ok
returns-in-Some-clause-ok c =
    let t : Tree = tree_with c.args.self.now.trees c.args.head c.args.arguments.now in
    let at = c.in-Some.ensures.some in
    ap (λ ts. record { limit = c.args.self.now.limit; trees = ts }) (sym (with_tree_old t c.args.self.now.trees c.in-Some.old at.0 at.1))

pub returns-in-Some-clause-number : goal.returns-in-Some-clause-number
returns-in-Some-clause-number c =
    let t : Tree = tree_with c.args.self.now.trees c.args.head c.args.arguments.now in
    let at = c.in-Some.ensures.some in
    sym (place_of-is t c.args.self.now.trees c.in-Some.old c.in-Some.ensures.different at.0 at.1)

pub returns-in-Some-clause-full : goal.returns-in-Some-clause-full
returns-in-Some-clause-full c =
    let t : Tree = tree_with c.args.self.now.trees c.args.head c.args.arguments.now in
    let at = c.in-Some.ensures.some in
    let among = among_at t c.args.self.now.trees c.in-Some.old at.0 at.1 in
    (λ e. cc, λ full. (let absent = full.1 in cc))

pub returns-then-id-self-clause-full : goal.returns-then-id-self-clause-full
returns-then-id-self-clause-full c =
    let t : Tree = tree_with c.args.self.now.trees c.args.head c.args.arguments.now in
    (λ e. (grind arith, new_not_among t c.args.self.now.trees c.in_default.ensures.none), λ full. refl)

pub returns-clause-ok : goal.returns-clause-ok
returns-clause-ok c =
    let t : Tree = tree_with c.args.self.now.trees c.args.head c.args.arguments.now in
    c.in_ok-add.ensures.ok ∙ ap (λ ts. record { limit = c.args.self.now.limit; trees = ts }) (sym (with_tree_new t c.args.self.now.trees c.in_default.ensures.none))

pub returns-clause-number : goal.returns-clause-number
returns-clause-number c =
    let t : Tree = tree_with c.args.self.now.trees c.args.head c.args.arguments.now in
    c.len-id.ensures.value
    ∙ sym (place_of-new t c.args.self.now.trees c.len-id.ensures.different c.in_default.ensures.none)
    ∙ ap (λ (s : Terms). place_of t s.trees) (sym c.in_ok-add.ensures.ok)

pub returns-in-Some-clause-parts : goal.returns-in-Some-clause-parts
returns-in-Some-clause-parts c =
    let t : Tree = tree_with c.args.self.now.trees c.args.head c.args.arguments.now in
    let at = c.in-Some.ensures.some in
    sym (parts_with c.args.self.now.trees c.args.head c.args.arguments.now c.len-id.ensures.parts c.requires ∙ with_tree_old t c.args.self.now.trees c.in-Some.old at.0 at.1)

pub returns-clause-parts : goal.returns-clause-parts
returns-clause-parts c =
    let t : Tree = tree_with c.args.self.now.trees c.args.head c.args.arguments.now in
    ap (λ (s : Terms). s.trees) c.in_ok-add.ensures.ok
    ∙ sym (parts_with c.args.self.now.trees c.args.head c.args.arguments.now c.len-id.ensures.parts c.requires ∙ with_tree_new t c.args.self.now.trees c.in_default.ensures.none)
