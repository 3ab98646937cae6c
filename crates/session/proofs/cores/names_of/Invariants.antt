use Rattle.std.proofs.Common.{◌≡◌, ◌++◌, drop, map}
use Rattle.smt_meaning.specs.declared.replies.Held.{Held}
use Rattle.smt_meaning.specs.Core.{name_of, name_or_none, text_at}
use Rattle.smt_meaning.specs.Sexp.{sexp}
use Rattle.scope_stack.specs.declared.answers.Assertion.{Assertion}
use Rattle.session.proofs.cores.names_of.Given as goal

abbrev pub invariant-loop-one : goal.invariant-loop-one
invariant-loop-one l =
    let name = λ (h : Held). name_or_none (name_of (sexp (text_at (map (λ (a : Assertion). a.text) l.assertions) h.place))) in
    l.names ++ map name (drop l.one-index l.held) ≡ map name l.held
