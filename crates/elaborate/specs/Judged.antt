-- What judging a term comes to.
use Rattle.std.specs.Prelude.{◌≡◌, ℕ, ◌+◌, true, Bool, List, [], ◌∷◌}
use Rattle.smt_meaning.specs.declared.terms.Head.TheVariants.{Place}
use Rattle.smt_meaning.specs.Term.{Tree, node, none, tree_at}
use Rattle.smt_meaning.specs.Sorts.{Scope, Outcome, refused, Typed, Variable, Rules}
use Rattle.smt_meaning.specs.StackCommand.{Bodied}
use Rattle.smt_sorts.specs.Names.{Names, signature}
use Rattle.elaborate.specs.declared.error.JudgeError.{JudgeError}
use Rattle.elaborate.specs.declared.error.JudgeError.TheVariants.{Refused, Memory}
use Rattle.elaborate.specs.declared.TypedTerm.{TypedTerm}
use Rattle.elaborate.specs.declared.TypedBody.{TypedBody}
use Rattle.elaborate.specs.declared.Parameter.{Parameter}
use Rattle.elaborate.specs.declared.apply.Rules.{Rules as Allowed}

-- where a term is judged
abbrev pub scope_of : Names → List Tree → Scope
scope_of t ts = record { signature = signature t; given = t.given; trees = ts }

abbrev pub term_rules : Bool → Rules
term_rules naming = record { naming = naming; closed = true }

abbrev pub typed_term : List Tree → TypedTerm → Typed
typed_term ts a = record { tree = tree_at ts a.id; sort = a.sort }

-- the refusal is the one that the judgement gives; want of memory is free
abbrev pub IsCauseOf : {A : Type 0} → JudgeError → Outcome A → Type 0
IsCauseOf (Refused r) o = o ≡ refused r
IsCauseOf Memory o = Unit {0}

-- ---- bodies of definitions

-- the k-th parameter is the k-th place
abbrev pub parameters_from : ℕ → List Parameter → List Variable
parameters_from k [] = []
parameters_from k (p ∷ ps) = record { name = p.name; term = record { tree = node (Place k) none; sort = p.sort } } ∷ parameters_from (k + 1) ps

abbrev pub variables_of : List Parameter → List Variable
variables_of ps = parameters_from 0 ps

abbrev pub bodied_of : TypedBody → Bodied
bodied_of b = record { body = b.body; sort = b.sort }

abbrev pub rules_of : Allowed → Rules
rules_of r = record { naming = r.naming; closed = r.closed }
