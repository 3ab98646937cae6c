-- Laws of the definitions of terms.
use Rattle.std.specs.Prelude.{◌≡◌, ℕ, ◌≤◌, List, [], ◌++◌, map, length, All, Some, IsTrue, Contains, true}
use Rattle.smt_meaning.specs.declared.values.Sort.{Sort}
use Rattle.smt_meaning.specs.declared.values.Value.{Value}
use Rattle.smt_meaning.specs.declared.values.Table.{Table}
use Rattle.smt_meaning.specs.declared.terms.Operator.{Operator}
use Rattle.smt_meaning.specs.declared.commands.Command.{Command}
use Rattle.smt_meaning.specs.Declaration.{Declaration}
use Rattle.smt_meaning.specs.Term.{Tree, Trees, Interpretation, value, values, value_with, operate}
use Rattle.smt_meaning.specs.Sexp.{Sexp, tokens, sexp, IsSexp, is_proper, nested}
use Rattle.smt_meaning.specs.declared.tokens.Token.{Token}
use Rattle.smt_meaning.specs.Reading.{IsSExpr, most_open}
use Rattle.smt_meaning.specs.Signature.{tree_sort, tree_sorts, takes, operator_sort, HasNoIdTwice}
use Rattle.smt_meaning.specs.Sorts.{Scope, done, Typed, Variable, Rules, trees_of, judge}
use Rattle.smt_meaning.specs.Stack.{signature_of}
use Rattle.smt_meaning.specs.StackCommand.{start, after_all, in_assert, in_question}
use Rattle.smt_meaning.specs.Environment.{Environment, term_value}
use Rattle.smt_meaning.specs.Interpretation.{Interprets, has_sort, meaning, AreTablesFor}
use Rattle.smt_meaning.specs.Clause.{symbols}
use Rattle.smt_meaning.specs.TreeShape.{tree_eq, is_linear, is_linear_operation, operation}

-- a term that has a sort has a value of that sort
abbrev pub ValueHasItsSort : Type 0
ValueHasItsSort =
    (ds : List Declaration) (I : Interpretation) (t : Tree) (s : Sort) → Interprets ds I → tree_sort ds t ≡ Some s → IsTrue (has_sort (value I t) s)

-- an operator that is applied to what it takes has its sort, its value, and is linear where it may be applied to linear terms
abbrev pub OperationHasSort : Type 0
OperationHasSort =
    (ds : List Declaration) (o : Operator) (us : Trees) (ss : List Sort) (s : Sort) → tree_sorts ds us ≡ Some ss → IsTrue (takes o (length ss)) → operator_sort o ss ≡ Some s
    → tree_sort ds (operation o us) ≡ Some s

abbrev pub OperationHasValue : Type 0
OperationHasValue = (I : Interpretation) (o : Operator) (us : Trees) → value I (operation o us) ≡ operate o (values I us)

abbrev pub OperationIsLinear : Type 0
OperationIsLinear =
    (o : Operator) (ts : List Typed) → IsTrue (takes o (length ts)) → IsTrue (is_linear_operation o (trees_of ts)) → All (λ (a : Typed). IsTrue (is_linear a.tree)) ts
    → IsTrue (is_linear (operation o (trees_of ts)))

-- the tables for a signature interpret it
abbrev pub TablesInterpret : Type 0
TablesInterpret = (ds : List Declaration) (ts : List Table) → HasNoIdTwice ds → AreTablesFor ds ts → Interprets ds (meaning ts)

-- two interpretations agree on these symbols
abbrev pub AgreeOn : Interpretation → Interpretation → List ℕ → Type 0
AgreeOn I J fs = (f : ℕ) → Contains fs f → (vs : List Value) → I f vs ≡ J f vs

-- the value of a term depends on its symbols alone
abbrev pub ValueDependsOnSymbols : Type 0
ValueDependsOnSymbols = (I J : Interpretation) (t : Tree) → AgreeOn I J (symbols t) → value I t ≡ value J t

-- the tokens of an s-expression read back as it, and as nothing else
abbrev pub TokensReadBack : Type 0
TokensReadBack = (s : Sexp) → IsTrue (is_proper s) → IsSexp (tokens s) × (sexp (tokens s) ≡ s)

-- the tokens that the lexicon calls one s-expression are those of the tree that they read as; no word of it is a parenthesis, and it is nested no deeper than allowed
abbrev pub SExprsReadBack : Type 0
SExprsReadBack =
    (ts : List Token) → IsSExpr ts → IsSexp ts × (tokens (sexp ts) ≡ ts) × IsTrue (is_proper (sexp ts)) × (nested (sexp ts) ≤ most_open)

-- the tokens of each such tree are what the lexicon calls one s-expression
abbrev pub SexpsAreSExprs : Type 0
SexpsAreSExprs = (s : Sexp) → IsTrue (is_proper s) → nested s ≤ most_open → IsSExpr (tokens s)

-- the values of variables, where parameters have these values
abbrev pub environment_of : Interpretation → List Value → List Variable → Environment
environment_of I parameters vs = map (λ (v : Variable). record { name = v.name; value = value_with I parameters v.term.tree }) vs

-- the tree of an accepted term has the value of the term
abbrev pub TreeHasTheTermsValue : Type 0
TreeHasTheTermsValue =
    (r : Rules) (x : Sexp) (s t : Scope) (a : Typed) (I : Interpretation) → judge r [] x s ≡ done a t → value I a.tree ≡ term_value t.signature I [] x

-- so has the tree of a definition's body, whatever values its parameters have
abbrev pub BodyHasTheTermsValue : Type 0
BodyHasTheTermsValue =
    (r : Rules) (vs : List Variable) (x : Sexp) (s t : Scope) (a : Typed) (I : Interpretation) (parameters : List Value)
    → judge r vs x s ≡ done a t → value_with I parameters a.tree ≡ term_value t.signature I (environment_of I parameters vs) x

-- whatever commands come, no id stands twice in the signature of the stack
abbrev pub NoIdTwice : Type 0
NoIdTwice = (cs : List Command) → HasNoIdTwice (signature_of (after_all start cs).frames)

-- the test for equal trees is true exactly where they are one tree
abbrev pub TreeEqualityDecides : Type 0
TreeEqualityDecides = (t u : Tree) → (tree_eq t u ≡ true → t ≡ u) × (t ≡ u → tree_eq t u ≡ true)

-- trees joined the list at its end; and whatever joins it later, the term is judged alike again and adds none
pub record IsJudgedAgain (vs : List Variable) (x : Sexp) (s t : Scope) (a : Typed) : Type 0 where
  pub joined : List Tree
  pub grown : t ≡ record s { trees = s.trees ++ joined }
  pub again : (later : List Tree) → judge in_question vs x (record t { trees = t.trees ++ later }) ≡ done a (record t { trees = t.trees ++ later })

-- so it is with each term that is accepted as a question
abbrev pub JudgedAgain : Type 0
JudgedAgain = (vs : List Variable) (x : Sexp) (s t : Scope) (a : Typed) → judge in_question vs x s ≡ done a t → IsJudgedAgain vs x s t a

-- a term that is accepted as a question is accepted alike in an assertion
abbrev pub QuestionsAreAssertions : Type 0
QuestionsAreAssertions = (vs : List Variable) (x : Sexp) (s t : Scope) (a : Typed) → judge in_question vs x s ≡ done a t → judge in_assert vs x s ≡ done a t
