-- The steps of a proof, one after the other.
use Rattle.std.proofs.Common.{◌≡◌, ℕ, ◌<◌, Bool, true, false, ◌||◌, List, [], ◌∷◌, ◌++◌, All, Contains, length, map, ap, sym, subst, ◌∙◌, refl, arith}
use Rattle.std.specs.Prelude.{IsTrue}
use Rattle.std.proofs.lemmas.List.Elements.{All-nil, All-push, All-contains, All-head, All-tail, Contains-append_left, Contains-push}
use Rattle.smt_meaning.specs.declared.nodes.Node.{Node}
use Rattle.smt_meaning.specs.declared.clauses.Literal.{Literal}
use Rattle.proof_meaning.specs.declared.proof.Proof.{Proof}
use Rattle.proof_meaning.specs.declared.proof.Step.{Step}
use Rattle.proof_meaning.specs.declared.proof.Step.TheVariants.{Assert, Form, Pick, Euclid, Refl, Sym, Trans, Cong, Truth, Both, Neither, Link, Round, Farkas, Res}
use Rattle.smt_meaning.specs.Declaration.{Declaration}
use Rattle.smt_meaning.specs.Interpretation.{Interprets}
use Rattle.smt_meaning.specs.Stack.{Frame, Satisfies, HasNoModel, no_model, assertions_of, signature_of}
use Rattle.smt_meaning.specs.Term.{Tree, Interpretation, tree_at, value, truth_of}
use Rattle.smt_meaning.specs.Clause.{value_at}
use Rattle.proof_meaning.specs.Proof.{meant, AreTerms, IsLiteral}
use Rattle.proof_meaning.specs.Rules.{Runs, no_steps, next_step, IsByRule, Gives, IsGood, clause_at, truth_clause, both_clause, neither_clause}
use Rattle.proof_meaning.specs.Laws.{IsTrueClause, ProofClausesAreTrue, NamedAssertionsHaveNoModel}
use Rattle.proof_meaning.proofs.Meant.{meant_value_at}
use Rattle.proof_meaning.proofs.Facts.{Facts, facts}
use Rattle.proof_meaning.proofs.Equality.{same_true, sym_true, trans_true, truth_true, both_true, neither_true}
use Rattle.proof_meaning.proofs.Resolving.{resolvent_true}
use Rattle.proof_meaning.proofs.Adding.{farkas_true}
use Rattle.proof_meaning.proofs.Rounding.{round_true}
use Rattle.proof_meaning.proofs.Alike.{cong_true}
use Rattle.proof_meaning.proofs.Linking.{link_true}
use Rattle.proof_meaning.proofs.Forms.{form_true, pick_true}
use Rattle.proof_meaning.proofs.Dividing.{euclid_true}

first : {ds : List Declaration} {ts : List Tree} {a b c : Literal} → All (IsLiteral ds ts) (a ∷ b ∷ c ∷ []) → IsLiteral ds ts a
first {ds} {ts} {a} {b} {c} all = All-head (IsLiteral ds ts) a (b ∷ c ∷ []) all

second : {ds : List Declaration} {ts : List Tree} {a b c : Literal} → All (IsLiteral ds ts) (a ∷ b ∷ c ∷ []) → IsLiteral ds ts b
second {ds} {ts} {a} {b} {c} all = All-head (IsLiteral ds ts) b (c ∷ []) (All-tail (IsLiteral ds ts) a (b ∷ c ∷ []) all)

third : {ds : List Declaration} {ts : List Tree} {a b c : Literal} → All (IsLiteral ds ts) (a ∷ b ∷ c ∷ []) → IsLiteral ds ts c
third {ds} {ts} {a} {b} {c} all =
    All-head (IsLiteral ds ts) c [] (All-tail (IsLiteral ds ts) b (c ∷ []) (All-tail (IsLiteral ds ts) a (b ∷ c ∷ []) all))

or_false : (b : Bool) → b ≡ true → (b || false) ≡ true
or_false true h = refl
or_false false h = h

-- what the values of the terms give, for one interpretation
record Given (ds : List Declaration) (ns : List Node) (ts : List Tree) (I : Interpretation) : Type 0 where
  terms : AreTerms ds ns ts
  facts : Facts ds ts I

rule_true : (ds : List Declaration) (ns : List Node) (ts asserted : List Tree) (I : Interpretation) → Given ds ns ts I → (before : List (List Literal)) → All (IsTrueClause ts I) before
    → (step : Step) → ((a i : ℕ) → step ≡ Assert a i → a < length asserted → Satisfies I (tree_at asserted a))
    → (ls : List Literal) → IsByRule ds ns ts asserted before step ls → All (IsLiteral ds ts) ls → IsTrueClause ts I ls
rule_true ds ns ts asserted I g before all (Assert a i) named ls h literals =
    subst (IsTrueClause ts I) (sym h.clause) (or_false (truth_of (value_at (map meant ts) I i))
    (subst (λ v. IsTrue (truth_of v)) (sym (meant_value_at ts I i ∙ ap (value I) h.tree_is)) (named a i refl h.asserted_within)))
rule_true ds ns ts asserted I g before all (Form i ms) named ls h literals = form_true ds ns ts I g.terms g.facts i ls h.0
rule_true ds ns ts asserted I g before all (Pick i n) named ls h literals = pick_true ds ns ts I g.terms (same_true (map meant ts) I) i n ls h
rule_true ds ns ts asserted I g before all (Euclid i n) named ls h literals = euclid_true ds ns ts I g.terms g.facts i n ls h
rule_true ds ns ts asserted I g before all (Refl i) named ls h literals = subst (IsTrueClause ts I) (sym h) (same_true (map meant ts) I i)
rule_true ds ns ts asserted I g before all (Sym i j) named ls h literals = subst (IsTrueClause ts I) (sym h) (sym_true (map meant ts) I i j)
rule_true ds ns ts asserted I g before all (Trans i j k) named ls h literals = subst (IsTrueClause ts I) (sym h) (trans_true (map meant ts) I i j k)
rule_true ds ns ts asserted I g before all (Cong i j) named ls h literals = cong_true ds ns ts I g.terms (same_true (map meant ts) I) i j ls h
rule_true ds ns ts asserted I g before all (Truth i j) named ls h literals =
    let own : All (IsLiteral ds ts) (truth_clause i j) = subst (All (IsLiteral ds ts)) h literals in
    subst (IsTrueClause ts I) (sym h) (truth_true (map meant ts) I i j ((g.facts).bool i (second own)) ((g.facts).bool j (third own)))
rule_true ds ns ts asserted I g before all (Both i j) named ls h literals =
    let own : All (IsLiteral ds ts) (both_clause i j) = subst (All (IsLiteral ds ts)) h literals in
    subst (IsTrueClause ts I) (sym h) (both_true (map meant ts) I i j ((g.facts).bool i (first own)) ((g.facts).bool j (second own)))
rule_true ds ns ts asserted I g before all (Neither i j) named ls h literals =
    let own : All (IsLiteral ds ts) (neither_clause i j) = subst (All (IsLiteral ds ts)) h literals in
    subst (IsTrueClause ts I) (sym h) (neither_true (map meant ts) I i j ((g.facts).bool i (first own)) ((g.facts).bool j (second own)))
rule_true ds ns ts asserted I g before all (Link i j n) named ls h literals = link_true ds ts I g.facts i j n ls h
rule_true ds ns ts asserted I g before all (Round l k) named ls h literals = round_true (map meant ts) I l k ls h
rule_true ds ns ts asserted I g before all (Farkas ws) named ls h literals = farkas_true (map meant ts) I ws ls h
rule_true ds ns ts asserted I g before all (Res p q l) named ls h literals =
    resolvent_true (map meant ts) I (clause_at before p) (clause_at before q) l ls h.gives (all p [] h.left_earlier) (all q [] h.right_earlier)

-- where no clause stands before and nothing is asserted, each clause that a step gives is true
pub alone_true : (ds : List Declaration) (ns : List Node) (ts : List Tree) (I : Interpretation) → Interprets ds I → AreTerms ds ns ts → (step : Step) (ls : List Literal)
    → Gives ds ns ts [] [] step ls → IsTrueClause ts I ls
alone_true ds ns ts I int terms step ls gives =
    rule_true ds ns ts [] I (record { terms = terms; facts = facts ds ns ts I int terms }) [] (All-nil (IsTrueClause ts I)) step (λ a i e lt. absurd (omega (arith, lt))) ls gives.by_rule gives.literals

run_true : (ds : List Declaration) (ns : List Node) (ts asserted : List Tree) (I : Interpretation) → Given ds ns ts I → (steps : List Step) (clauses : List (List Literal))
    → Runs ds ns ts asserted steps clauses → ((a i : ℕ) → Contains steps (Assert a i) → a < length asserted → Satisfies I (tree_at asserted a)) → All (IsTrueClause ts I) clauses
run_true ds ns ts asserted I g _ _ no_steps named = All-nil (IsTrueClause ts I)
run_true ds ns ts asserted I g _ _ (next_step {steps = ss} {before = bs} run step ls gives) named =
    let before_true : All (IsTrueClause ts I) bs = run_true ds ns ts asserted I g ss bs run (λ a i c. named a i (Contains-append_left ss (step ∷ []) (Assert a i) c)) in
    All-push (IsTrueClause ts I) bs ls before_true
    (rule_true ds ns ts asserted I g bs before_true step (λ a i e. named a i (subst (λ x. Contains (ss ++ step ∷ []) x) e (Contains-push ss step))) ls gives.by_rule gives.literals)

pub clauses_true : ProofClausesAreTrue
clauses_true frames p ts clauses I int rules named =
    run_true (signature_of frames) p.nodes ts (assertions_of frames) I
    (record { terms = rules.terms; facts = facts (signature_of frames) p.nodes ts I int rules.terms })
    p.steps clauses rules.steps named

pub named_refuted : ProofClausesAreTrue → NamedAssertionsHaveNoModel
named_refuted law frames p I good int named =
    let all : All (IsTrueClause good.trees I) (good.clauses ++ [] ∷ []) = law frames p good.trees (good.clauses ++ [] ∷ []) I int good.by_rules named in
    let e : false ≡ true = All-contains (IsTrueClause good.trees I) (good.clauses ++ [] ∷ []) [] all (Contains-push good.clauses []) in
    cc

pub good_refutes : NamedAssertionsHaveNoModel → (frames : List Frame) (p : Proof) → IsGood frames p → HasNoModel frames
good_refutes law frames p good = no_model frames (λ I int holds. law frames p I good int (λ a i c lt. holds a _ lt))
