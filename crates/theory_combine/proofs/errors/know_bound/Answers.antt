use Rattle.std.proofs.Common.{◌≡◌, ◌∷◌, ◌++◌, [], true, ℤ, subst, to_z, of_z}
use Rattle.std.specs.Int.{w128}
use Rattle.std.proofs.lemmas.Int.{to_z-of_z}
use Rattle.std.proofs.lemmas.List.Elements.{Contains-append_left, Contains-push}
use Rattle.smt_meaning.specs.declared.clauses.Atom.{Atom}
use Rattle.smt_meaning.specs.declared.clauses.Atom.TheVariants.{AtMost}
use Rattle.bound_log.specs.Told.{column_sums}
use Rattle.theory_combine.specs.Errors.{IsErrorOver}
use Rattle.theory_combine.proofs.errors.know_bound.Goals as goal

pub error_of-requires : goal.error_of-requires
error_of-requires c = λ r. c.in-Err.ensures.fails r true

pub returns-in-Err-clause-err : goal.returns-in-Err-clause-err
returns-in-Err-clause-err c = λ table knows.
    let sum = c.args.sum.now in
    let n : to_z w128 (of_z w128 c.args.threshold) ≡ c.args.threshold = to_z-of_z w128 c.args.threshold c.ranges.threshold in
    let a : Atom = AtMost sum (to_z w128 (of_z w128 c.args.threshold)) in
    subst (λ (z : ℤ). IsErrorOver (column_sums c.know_bound.new.self) (table ++ AtMost sum z ∷ []) c.error_of.result) n
    (c.error_of.ensures table (table ++ a ∷ []) (c.in-Err.ensures.stays table knows) (λ b h. Contains-append_left table (a ∷ []) b h) (Contains-push table a))
