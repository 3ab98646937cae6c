use Rattle.std.proofs.Common.{rules, ◌≡◌, ◌∙◌, Bool, List, ℤ, [], Contains, sym, ap, subst, to_z, of_z}
use Rattle.std.proofs.lemmas.Int.{to_z-of_z}
use Rattle.std.proofs.lemmas.List.Elements.{Contains-get_or}
use mir.Syntax.{w128}
use mir.Val.{SFits}
use Rattle.smt_meaning.specs.declared.clauses.Summand.{Summand}
use Rattle.smt_meaning.specs.declared.clauses.Atom.TheVariants.{Truth, AtMost}
use Rattle.search_port.specs.State.{atom_at}
use Rattle.bound_log.specs.Pending.{FailsToTake}
use Rattle.theory_combine.proofs.errors.untold.Goals as goal

pub error_of-requires : goal.error_of-requires
error_of-requires c = λ r.
    let table = c.args.atoms.now.atoms in
    let k = c.in-Bound.bound.threshold in
    let sum = c.sum.result.now in
    let fits : SFits w128 k = search rules in
    let same : atom_at table c.atom-number.result ≡ AtMost sum k = c.in-Bound.ensures.atom.1 (Truth 0) ∙ ap (λ (ps : List Summand). AtMost ps k) (c.sum.ensures.1 []) in
    subst (λ (b : Bool). FailsToTake c.args.bounds.now sum (to_z w128 (of_z w128 k)) b) (sym c.is_positive.ensures)
    (subst (λ (z : ℤ). FailsToTake c.args.bounds.now sum z c.args.literal.positive) (sym (to_z-of_z w128 k fits))
    (c.requires.fails r table sum k c.requires.knows (ap (atom_at table) (sym c.atom-number.ensures) ∙ same)))

pub returns-in-Bound : goal.returns-in-Bound
returns-in-Bound c =
    let table = c.args.atoms.now.atoms in
    let k = c.in-Bound.bound.threshold in
    let sum = c.sum.result.now in
    let fits : SFits w128 k = search rules in
    let same : atom_at table c.atom-number.result ≡ AtMost sum k = c.in-Bound.ensures.atom.1 (Truth 0) ∙ ap (λ (ps : List Summand). AtMost ps k) (c.sum.ensures.1 []) in
    c.error_of.ensures table table c.requires.knows (λ a h. h)
    (subst (λ (z : ℤ). Contains table (AtMost sum z)) (sym (to_z-of_z w128 k fits)) (subst (Contains table) same (Contains-get_or table c.atom-number.result (Truth 0) c.in-Bound.ensures.atom.0)))
