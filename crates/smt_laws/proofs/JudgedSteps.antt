-- What holds of the steps of which judging terms is made holds of judging them.
use Rattle.std.proofs.Common.{◌≡◌, ℕ, List, [], ◌∷◌, ◌++◌, refl, Bool, true, false, Option, Some, None}
use Rattle.std.specs.Prelude.{pos, codes, bytes_eq}
use Rattle.smt_meaning.specs.declared.values.Sort.{Sort}
use Rattle.smt_meaning.specs.declared.values.Sort.TheVariants.{Bool as Truths}
use Rattle.smt_meaning.specs.declared.terms.Operator.{Operator}
use Rattle.smt_meaning.specs.declared.terms.Operator.TheVariants.{True, False, Divisible}
use Rattle.smt_meaning.specs.declared.terms.Head.TheVariants.{Numeral as Number}
use Rattle.smt_meaning.specs.declared.tokens.Token.{Token}
use Rattle.smt_meaning.specs.declared.tokens.Token.TheVariants.{Numeral, Symbol, Reserved, Keyword}
use Rattle.smt_meaning.specs.declared.tokens.Word.TheVariants.{Exclamation, Let}
use Rattle.smt_meaning.specs.Declaration.{Declaration}
use Rattle.smt_meaning.specs.declared.refusals.Refusal.{Refusal}
use Rattle.smt_meaning.specs.Term.{Tree, Trees, node, none, more}
use Rattle.smt_meaning.specs.Sexp.{Sexp, Sexps, word, group, end, ◌▸◌, sexp}
use Rattle.smt_meaning.specs.Sorts.{Scope, Judging, ◌>>=◌, ◌>>◌, return, refuse, require, required, the_scope, note, found, declare, Typed, Variable, Rules, Known, variable, operator, function, unknown, known, can_be_applied, judge_application, judge_bare, judge_symbol, judge_operator, judge_token, head_number, judge_head, judge_divisible, check_bindings, none_twice, bound_names, name_by, judge_attributes, either, judge, judge_all, judge_bindings}
use Rattle.smt_meaning.specs.StackCommand.{in_question, judge_terms}

-- it holds where judgements give, refuse, note, find and declare, and of one judgement after another
pub record HoldsOfSteps (Holds : (A : Type 0) → Judging A → Type 0) : Type 1 where
  pub bind : {A B : Type 0} {m : Judging A} {k : A → Judging B} → Holds _ m → ((a : A) → Holds _ (k a)) → Holds _ (m >>= k)
  pub next : {A B : Type 0} {m : Judging A} {n : Judging B} → Holds _ m → Holds _ n → Holds _ (m >> n)
  pub returns : {A : Type 0} (a : A) → Holds _ (return a)
  pub refuses : (A : Type 0) (r : Refusal) → Holds A (refuse r)
  pub requires : (b : Bool) (r : Refusal) → Holds _ (require b r)
  pub notes : (ts : List Tree) → Holds _ (note ts)
  pub finds : (t : Tree) (x : Sort) → Holds _ (found t x)
  pub declares : (d : ℕ → Declaration) → ((n : ℕ) → (d n).id ≡ n) → Holds _ (declare d)
  -- where what comes next doesn't depend on the trees
  pub scope_then : {A : Type 0} (k : Scope → Judging A)
      → ((ds : List Declaration) (n : ℕ) (ts : List Tree) → k (record { signature = ds; given = n; trees = ts }) ≡ k (record { signature = ds; given = n; trees = [] }))
      → ((s : Scope) → Holds _ (k s)) → Holds _ (the_scope >>= k)

module _ {Holds : (A : Type 0) → Judging A → Type 0} (steps : HoldsOfSteps Holds) where
  open steps use {bind, next, returns, refuses, requires, notes, finds, declares, scope_then}

  required_holds : {A : Type 0} (o : Option A) (r : Refusal) → Holds _ (required o r)
  unfolding required
  required_holds None r = refuses _ r
  required_holds (Some a) r = returns a

  symbol_holds : (r : Rules) (d : Declaration) (ts : Trees) → Holds _ (judge_symbol r d ts)
  symbol_holds r d ts = next (requires _ _) (next (notes _) (finds _ _))

  operator_holds : (r : Rules) (o : Operator) (ts : Trees) (x : Sort) → Holds _ (judge_operator r o ts x)
  operator_holds r o ts x = next (requires _ _) (next (notes _) (finds _ _))

  bare_holds : (r : Rules) (n : List ℕ) (k : Known) → Holds _ (judge_bare r n k)
  bare_holds r n (variable t) = returns t
  bare_holds r n unknown = refuses _ _
  bare_holds r n (operator True) = operator_holds r True _ _
  bare_holds r n (operator False) = operator_holds r False _ _
  bare_holds r n (operator _) = refuses _ _
  bare_holds r n (function d) = next (requires _ _) (symbol_holds r d _)

  application_holds : (r : Rules) (n : List ℕ) (k : Known) (ts : List Typed) → Holds _ (judge_application r n k ts)
  application_holds r n (variable t) ts = refuses _ _
  application_holds r n unknown ts = refuses _ _
  application_holds r n (operator o) ts = next (requires _ _) (bind (required_holds _ _) (λ x. operator_holds r o _ x))
  application_holds r n (function d) ts = next (requires _ _) (next (requires _ _) (symbol_holds r d _))

  applied_holds : (n : List ℕ) (k : Known) → Holds _ (can_be_applied n k)
  applied_holds n (variable t) = refuses _ _
  applied_holds n unknown = refuses _ _
  applied_holds n _ = returns tt

  token_holds : (r : Rules) (vs : List Variable) (t : Token) → Holds _ (judge_token r vs t)
  token_holds r vs (Symbol n) = scope_then (λ s. judge_bare r n (known vs n s)) (λ ds i ts. refl) (λ s. bare_holds r n (known vs n s))
  token_holds r vs (Numeral cs) = next (requires _ _) (next (notes _) (finds _ _))
  token_holds r vs _ = refuses _ _

  head_holds : (o : Option ℕ) → Holds _ (judge_head o)
  head_holds None = refuses _ _
  head_holds (Some n) = next (requires _ _) (next (requires _ _) (returns n))

  divisible_holds : (r : Rules) (n : ℕ) (ts : List Typed) → Holds _ (judge_divisible r n ts)
  divisible_holds r n [] = refuses _ _
  divisible_holds r n (a ∷ []) = next (requires _ _) (operator_holds r Divisible (more a.tree (more (node (Number (pos n)) none) none)) Truths)
  divisible_holds r n (a ∷ b ∷ ts) = refuses _ _

  none_twice_holds : (before ns : List (List ℕ)) → Holds _ (none_twice before ns)
  none_twice_holds before [] = returns tt
  none_twice_holds before (n ∷ ns) = next (requires _ _) (none_twice_holds (n ∷ before) ns)

  bindings_holds : (o : Option (List (List ℕ))) → Holds _ (check_bindings o)
  bindings_holds None = refuses _ _
  bindings_holds (Some []) = refuses _ _
  bindings_holds (Some (n ∷ ns)) = none_twice_holds [] (n ∷ ns)

  name_holds : (r : Rules) (open_term : Bool) (t : Typed) (ss : Sexps) → Holds _ (name_by r open_term t ss)
  name_holds r open_term t (word (Symbol n) ▸ rest) =
      scope_then _ (λ ds i ts. refl) (λ s. next (requires _ _) (next (requires _ _) (next (requires _ _) (declares _ (λ n. refl)))))
  name_holds r open_term t _ = refuses _ _

  either_holds : {A : Type 0} (b : Bool) (m n : Judging A) → Holds _ m → Holds _ n → Holds _ (either b m n)
  either_holds true m n h g = h
  either_holds false m n h g = g

  attributes_holds : (r : Rules) (open_term : Bool) (t : Typed) (ss : Sexps) → Holds _ (judge_attributes r open_term t ss)
  attributes_holds r open_term t end = returns tt
  attributes_holds r open_term t (word (Keyword k) ▸ rest) =
      either_holds (bytes_eq k (codes "named")) _ _ (next (name_holds r open_term t rest) (attributes_holds r open_term t rest)) (attributes_holds r open_term t rest)
  attributes_holds r open_term t (_ ▸ rest) = attributes_holds r open_term t rest

  mutual
    pub judge_holds : (r : Rules) (vs : List Variable) (x : Sexp) → Holds _ (judge r vs x)
    judge_holds r vs (word t) = token_holds r vs t
    judge_holds r vs (group (word (Reserved Let) ▸ group bs ▸ b ▸ end)) =
        next (bindings_holds (bound_names bs)) (bind (bound_holds r vs bs) (λ xs. judge_holds r (xs ++ vs) b))
    judge_holds r vs (group (word (Reserved Let) ▸ _)) = refuses _ _
    judge_holds r vs (group (word (Reserved Exclamation) ▸ t ▸ rest)) =
        next (requires _ _)
        (bind (judge_holds r vs t) (λ a. next (attributes_holds r _ a rest) (returns a)))
    judge_holds r vs (group (word (Reserved Exclamation) ▸ end)) = refuses _ _
    judge_holds r vs (group (word (Reserved w) ▸ _)) = refuses _ _
    judge_holds r vs (group (word (Symbol n) ▸ ss)) =
        scope_then (λ s. can_be_applied n (known vs n s) >> (judge_all r vs ss >>= λ ts. judge_application r n (known vs n s) ts)) (λ ds i ts. refl) (λ s.
        next (applied_holds n (known vs n s)) (bind (all_holds r vs ss) (application_holds r n (known vs n s))))
    judge_holds r vs (group (group hs ▸ ss)) =
        bind (head_holds (head_number hs)) (λ n. bind (all_holds r vs ss) (divisible_holds r n))
    judge_holds r vs (group _) = refuses _ _

    all_holds : (r : Rules) (vs : List Variable) (ss : Sexps) → Holds _ (judge_all r vs ss)
    all_holds r vs end = returns []
    all_holds r vs (x ▸ ss) = bind (judge_holds r vs x) (λ a. bind (all_holds r vs ss) (λ ts. returns (a ∷ ts)))

    bound_holds : (r : Rules) (vs : List Variable) (ss : Sexps) → Holds _ (judge_bindings r vs ss)
    bound_holds r vs end = returns []
    bound_holds r vs (group (word (Symbol n) ▸ t ▸ end) ▸ rest) =
        bind (judge_holds r vs t) (λ a. bind (bound_holds r vs rest) (λ xs. returns _))
    bound_holds r vs (_ ▸ rest) = refuses _ _

  pub terms_hold : (ts : List (List Token)) → Holds _ (judge_terms ts)
  terms_hold [] = returns []
  terms_hold (t ∷ ts) = bind (judge_holds in_question [] (sexp t)) (λ a. bind (terms_hold ts) (λ bs. returns (a ∷ bs)))
