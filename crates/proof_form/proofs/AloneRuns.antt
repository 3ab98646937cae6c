-- Terms and steps determine the trees, and the clauses up to the order of literals.
use Rattle.std.proofs.Common.{◌≡◌, ◌≤◌, List, [], ◌∷◌, ◌++◌, length, refl, sym, ap, ◌∙◌, subst, arith, inl, inr}
use Rattle.std.proofs.lemmas.Bool.{cases_lt}
use Rattle.std.proofs.lemmas.List.{length-append, same_from_push}
use Rattle.smt_meaning.specs.declared.nodes.Node.{Node}
use Rattle.smt_meaning.specs.declared.clauses.Literal.{Literal}
use Rattle.proof_meaning.specs.declared.proof.Step.{Step}
use Rattle.smt_meaning.specs.Declaration.{Declaration}
use Rattle.smt_meaning.specs.Term.{Tree}
use Rattle.smt_meaning.specs.Nodes.{tree_of}
use Rattle.proof_meaning.specs.Proof.{IsTerm, AreTerms, no_terms, next_term}
use Rattle.proof_meaning.specs.Rules.{Gives, Runs, no_steps, next_step}
use Rattle.proof_form.proofs.AloneLists.{heads_same, same_front, longer_front, not_nothing, AreAlike, turned, alike_push}
use Rattle.proof_form.proofs.AloneRules.{rule_same, gives_over}

one_last : {A : Type 0} (xs : List A) (y : A) (ys zs : List A) (z : A) → xs ++ y ∷ ys ≡ zs ++ z ∷ [] → length zs ≤ length xs → (xs ≡ zs) × (y ≡ z)
one_last xs y ys zs z e h =
    let t : (xs ≡ zs) × (y ∷ ys ≡ z ∷ []) = same_front xs (y ∷ ys) zs (z ∷ []) e (omega (arith, h, ap length e, length-append xs (y ∷ ys), length-append zs (z ∷ []))) in
    (t.0, heads_same t.1)

-- ---- terms

pub terms_same : (ds : List Declaration) (ns ms : List Node) (ts us : List Tree) → AreTerms ds ns ts → AreTerms ds ms us → ns ≡ ms → ts ≡ us
terms_same ds _ _ _ _ no_terms no_terms e = refl
terms_same ds _ _ _ _ no_terms (next_term {ns = ms} k m t) e = absurd (not_nothing ms m [] e)
terms_same ds _ _ _ _ (next_term {ns = ns} h n s) no_terms e = absurd (not_nothing ns n [] (sym e))
terms_same ds _ _ _ _ (next_term {ns = ns} {ts = ts} h n s) (next_term {ns = ms} {ts = us} k m t) e =
    let p : (ns ≡ ms) × (n ≡ m) = same_from_push ns ms n m e in
    ap (λ vs. vs ++ tree_of vs n ∷ []) (terms_same ds ns ms ts us h k p.0) ∙ ap (λ v. us ++ tree_of us v ∷ []) p.1

pub record TermAt (ds : List Declaration) (front : List Node) (n : Node) : Type 0 where
  pub trees : List Tree
  pub terms : AreTerms ds front trees
  pub term : IsTerm ds trees n

pub term_at : (ds : List Declaration) (ns : List Node) (ts : List Tree) → AreTerms ds ns ts → (front : List Node) (n : Node) (back : List Node) → ns ≡ front ++ n ∷ back → TermAt ds front n
term_at ds _ _ no_terms front n back e = absurd (not_nothing front n back e)
term_at ds _ _ (next_term {ns = ms} {ts = ts} h m t) front n back e = elim (cases_lt (length front) (length ms)) [
  | inl earlier ↦ (
      let l : (mid : List Node) × (ms ≡ front ++ n ∷ mid) = longer_front front n back ms (m ∷ []) (sym e) earlier in
      term_at ds ms ts h front n l.0 l.1
      )
  | inr last ↦ (
      let s : (front ≡ ms) × (n ≡ m) = one_last front n back ms m (sym e) last in
      record { trees = ts; terms = subst (λ v. AreTerms ds v ts) (sym s.0) h; term = subst (IsTerm ds ts) (sym s.1) t }
      )
]

-- ---- steps

pub runs_alike : (ds : List Declaration) (ns : List Node) (ts asserted : List Tree) (ps qs : List Step) (cs bs : List (List Literal))
    → Runs ds ns ts asserted ps cs → Runs ds ns ts asserted qs bs → ps ≡ qs → AreAlike cs bs
runs_alike ds ns ts asserted _ _ _ _ no_steps no_steps e = tt
runs_alike ds ns ts asserted _ _ _ _ no_steps (next_step {steps = qs} k q ks t) e = absurd (not_nothing qs q [] e)
runs_alike ds ns ts asserted _ _ _ _ (next_step {steps = ps} h p ls s) no_steps e = absurd (not_nothing ps p [] (sym e))
runs_alike ds ns ts asserted _ _ _ _ (next_step {steps = ps} {before = cs} h p ls s) (next_step {steps = qs} {before = bs} k q ks t) e =
    let l : (ps ≡ qs) × (p ≡ q) = same_from_push ps qs p q e in
    let same : AreAlike cs bs = runs_alike ds ns ts asserted ps qs cs bs h k l.0 in
    let other : Gives ds ns ts asserted cs p ks = gives_over ds ns ts asserted bs cs (turned cs bs same) p ks (subst (λ v. Gives ds ns ts asserted bs v ks) (sym l.1) t) in
    alike_push cs bs ls ks same (rule_same ds ns ts asserted cs p ls ks s.by_rule other.by_rule)

pub record StepAt (ds : List Declaration) (ns : List Node) (ts asserted : List Tree) (front : List Step) (s : Step) : Type 0 where
  pub clauses : List (List Literal)
  pub clause : List Literal
  pub runs : Runs ds ns ts asserted front clauses
  pub gives : Gives ds ns ts asserted clauses s clause

pub step_at : (ds : List Declaration) (ns : List Node) (ts asserted : List Tree) (ps : List Step) (cs : List (List Literal)) → Runs ds ns ts asserted ps cs
    → (front : List Step) (s : Step) (back : List Step) → ps ≡ front ++ s ∷ back → StepAt ds ns ts asserted front s
step_at ds ns ts asserted _ _ no_steps front s back e = absurd (not_nothing front s back e)
step_at ds ns ts asserted _ _ (next_step {steps = ps} {before = cs} h p ls g) front s back e = elim (cases_lt (length front) (length ps)) [
  | inl earlier ↦ (
      let l : (mid : List Step) × (ps ≡ front ++ s ∷ mid) = longer_front front s back ps (p ∷ []) (sym e) earlier in
      step_at ds ns ts asserted ps cs h front s l.0 l.1
      )
  | inr last ↦ (
      let l : (front ≡ ps) × (s ≡ p) = one_last front s back ps p (sym e) last in
      record { clauses = cs; clause = ls; runs = subst (λ v. Runs ds ns ts asserted v cs) (sym l.0) h; gives = subst (λ v. Gives ds ns ts asserted cs v ls) (sym l.1) g }
      )
]
