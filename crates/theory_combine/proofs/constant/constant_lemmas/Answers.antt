use Rattle.std.proofs.Common.{rules, ◌≡◌, ◌∷◌, [], sym, subst}
use Rattle.smt_meaning.specs.declared.clauses.Atom.TheVariants.{AtMost}
use Rattle.theory_combine.specs.Steps.{AreLemmasOf, constant_clause}
use Rattle.theory_combine.proofs.Saying.{constant_is_said}
use Rattle.theory_combine.proofs.constant.constant_lemmas.Goals as goal

pub returns : goal.returns
returns c =
    let is : c.push.new.self ≡ constant_clause c.args.number c.args.threshold ∷ [] = search rules in
    subst (AreLemmasOf c.args.number (AtMost [] c.args.threshold)) (sym is) (constant_is_said c.constant_has_value.ensures c.args.number c.args.threshold)
