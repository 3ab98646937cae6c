-- How a proof stores what contracts see of the theory. No definition speaks of it.
use Rattle.std.specs.Prelude.{ℕ, Bool, List, Option, refl}
use Rattle.std.specs.Coded.{Coded, code_by, coded×, coded_ℕ, coded_bool, coded_list, coded_option}
use Rattle.literals.specs.Signed.{Signed}
use Rattle.fraction128.specs.declared.Summand.{Summand}
use Rattle.fraction128.specs.contracts.Summand as summand
use Rattle.fraction128.specs.declared.Grid.{Grid}
use Rattle.fraction128.specs.contracts.Grid as grid
use Rattle.smt_meaning.specs.declared.clauses.Atom.{Atom}
use Rattle.smt_meaning.specs.contracts.clauses.Atom as atom
use Rattle.smt_meaning.specs.Term.{Tree}
use Rattle.smt_meaning.specs.TreeCode.{coded_trees}
use Rattle.smt_meaning.specs.Stack.{Frame}
use Rattle.scope_stack.specs.StackCode.{coded_frame}
use Rattle.search_port.specs.State.{TheoryState, Variables}

abbrev pub signed_code : Coded Signed
signed_code = code_by (ℕ × Bool) (coded× coded_ℕ coded_bool) (λ (l : Signed). (l.atom, l.positive)) (λ p. record { atom = p.0; positive = p.1 }) (λ _. refl)

abbrev pub variables_code : Coded Variables
variables_code =
    code_by (List (List Summand) × (Option (List Bool) × Option Grid)) (coded× (coded_list (coded_list summand.the_row.coded)) (coded× (coded_option (coded_list coded_bool)) (coded_option grid.the_row.coded)))
    (λ (v : Variables). (v.sums, (v.basic, v.grid))) (λ p. record { sums = p.0; basic = p.1.0; grid = p.1.1 }) (λ _. refl)

abbrev pub state_code : Coded TheoryState
state_code =
    code_by (List Tree × (List Frame × (List Atom × (Bool × (List Signed × Variables)))))
    (coded× coded_trees (coded× (coded_list coded_frame) (coded× (coded_list atom.the_row.coded) (coded× coded_bool (coded× (coded_list signed_code) variables_code)))))
    (λ (t : TheoryState). (t.reading.trees, (t.reading.frames, (t.reading.table, (t.reading.closed, (t.log, t.variables))))))
    (λ p. record { reading = record { trees = p.0; frames = p.1.0; table = p.1.1.0; closed = p.1.1.1.0 }; log = p.1.1.1.1.0; variables = p.1.1.1.1.1 })
    (λ _. refl)
