-- The judgement of a body from that of its term.
use Rattle.std.proofs.Common.{◌≡◌, ℕ, List, length, map, ap, sym, subst, ◌∙◌, arith}
use Rattle.std.specs.Prelude.{Result, Ok, Err}
use Rattle.smt_meaning.specs.declared.tokens.Token.{Token}
use Rattle.smt_meaning.specs.Declaration.{Body}
use Rattle.smt_meaning.specs.Term.{Tree, tree_at}
use Rattle.smt_meaning.specs.Sexp.{Sexp, sexp}
use Rattle.smt_meaning.specs.Sorts.{done, judge}
use Rattle.smt_meaning.specs.StackCommand.{apart, in_body, judge_body}
use Rattle.smt_sorts.specs.Names.{Names}
use Rattle.elaborate.specs.declared.Parameter.{Parameter}
use Rattle.elaborate.specs.declared.value.Value.{Value}
use Rattle.elaborate.specs.declared.frame.Binding.{Binding}
use Rattle.elaborate.specs.declared.error.JudgeError.{JudgeError}
use Rattle.elaborate.specs.declared.error.JudgeError.TheVariants.{Refused, Memory}
use Rattle.elaborate.specs.Judged.{scope_of, variables_of, IsCauseOf}
use Rattle.elaborate.specs.Values.{Comes}
use Rattle.elaborate.specs.Frames.{variable_at, AreBound}
use Rattle.smt_sorts.specs.Workshop.{places_from}
use Rattle.elaborate.specs.Bodies.{bindings_from}
use Rattle.elaborate.proofs.Copies.{trees_of_parameters, variables_are, parameters_bound}

pub all_bound : (ts : List Tree) (n : ℕ) (ps : List Parameter) (bs : List Binding) → ts ≡ places_from 0 n → n ≡ length ps → bs ≡ bindings_from 0 ps → AreBound ts bs
all_bound ts n ps bs e size h = subst (λ us. AreBound us bs) (sym e) (subst (AreBound (places_from 0 n)) (sym h) (parameters_bound n 0 ps (omega arith)))

pub judged_so : (ts us : List Tree) (n : ℕ) (ps : List Parameter) (bs : List Binding) (x : Sexp) (t : Names) (y : Result Value JudgeError) → ts ≡ places_from 0 n → n ≡ length ps → bs ≡ bindings_from 0 ps
    → Comes (judge in_body (map (variable_at ts) bs) x) (scope_of t ts) us y → Comes (judge in_body (variables_of ps) x) (scope_of t (places_from 0 (length ps))) us y
judged_so ts us n ps bs x t y e size h k =
    let variables : map (variable_at ts) bs ≡ variables_of ps =
    ap (λ vs. map (variable_at vs) bs) e ∙ ap (map (variable_at (places_from 0 n))) h ∙ variables_are n 0 ps (omega arith) in
    subst (λ vs. Comes (judge in_body (variables_of ps) x) (scope_of t vs) us y) (e ∙ ap (places_from 0) size)
    (subst (λ vs. Comes (judge in_body vs x) (scope_of t ts) us y) variables k)

pub body_done : (t : Names) (ps : List Parameter) (x : List Token) (us vs : List Tree) (v : Value) (b : Body) → Comes (judge in_body (variables_of ps) (sexp x)) (scope_of t (places_from 0 (length ps))) us (Ok v) → vs ≡ us
    → b ≡ record { terms = vs; term = tree_at vs v.id } → (ts : List Tree) → judge_body (variables_of ps) x (scope_of t ts) ≡ done (record { body = b; sort = v.sort }) (scope_of t ts)
unfolding judge_body
body_done t ps x us vs v b h e k ts =
    ap (λ ws. apart (scope_of t ts) (judge in_body (variables_of ps) (sexp x) (scope_of t ws))) (trees_of_parameters 0 ps)
    ∙ ap (apart (scope_of t ts)) h.0
    ∙ ap (λ ws. done (record { body = record { terms = ws; term = tree_at ws v.id }; sort = v.sort }) (scope_of t ts)) (sym e)
    ∙ ap (λ c. done (record { body = c; sort = v.sort }) (scope_of t ts)) (sym k)

pub body_refused : (t : Names) (ps : List Parameter) (x : List Token) (us : List Tree) (e : JudgeError) → Comes (judge in_body (variables_of ps) (sexp x)) (scope_of t (places_from 0 (length ps))) us (Err e)
    → (ts : List Tree) → IsCauseOf e (judge_body (variables_of ps) x (scope_of t ts))
unfolding judge_body
body_refused t ps x us (Refused r) h ts =
    ap (λ ws. apart (scope_of t ts) (judge in_body (variables_of ps) (sexp x) (scope_of t ws))) (trees_of_parameters 0 ps) ∙ ap (apart (scope_of t ts)) h
body_refused t ps x us Memory h ts = tt
