-- The trees that judging goes through join any list of trees alike.
use Rattle.std.specs.Prelude.{◌≡◌, ℕ, List, []}
use Rattle.smt_meaning.specs.declared.tokens.Token.{Token}
use Rattle.smt_meaning.specs.Declaration.{Declaration}
use Rattle.smt_meaning.specs.Term.{Tree}
use Rattle.smt_meaning.specs.Sexp.{Sexp}
use Rattle.smt_meaning.specs.Sorts.{Scope, Outcome, done, refused, Judging, with_all, Variable, Rules, judge}
use Rattle.smt_meaning.specs.StackCommand.{judge_terms}

abbrev pub scope_at : List Declaration → ℕ → List Tree → Scope
scope_at ds n ts = record { signature = ds; given = n; trees = ts }

-- what comes of judging over a list of trees, where this comes of it over none
abbrev pub Alike : {A : Type 0} → List Tree → Outcome A → Outcome A → Type 0
Alike ts (done a u) o = o ≡ done a (record u { trees = with_all ts u.trees })
Alike ts (refused r) o = o ≡ refused r

abbrev pub JoinsAlike : {A : Type 0} → Judging A → Type 0
JoinsAlike m = (ds : List Declaration) (n : ℕ) (ts : List Tree) → Alike ts (m (scope_at ds n [])) (m (scope_at ds n ts))

-- a term has the same sort and tree, or is refused alike, whatever trees were judged before, and the trees that it goes through join them in order
abbrev pub TermsJoinAlike : Type 0
TermsJoinAlike = (r : Rules) (vs : List Variable) (x : Sexp) → JoinsAlike (judge r vs x)

-- so do those of several terms, one after another
abbrev pub QuestionsJoinAlike : Type 0
QuestionsJoinAlike = (texts : List (List Token)) → JoinsAlike (judge_terms texts)
