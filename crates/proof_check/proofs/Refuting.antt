-- What a good proof says.
use Rattle.std.proofs.Common.{◌≡◌, ◌∙◌, List, [], ◌∷◌, append-nil, refl, sym, ap, subst, Option, Some}
use Rattle.std.specs.Prelude.{unwrap_or}
use Rattle.smt_meaning.specs.declared.nodes.Node.{Node}
use Rattle.proof_meaning.specs.declared.proof.Step.{Step}
use Rattle.proof_meaning.specs.declared.proof.Proof.{Proof}
use Rattle.smt_meaning.specs.Declaration.{Declaration}
use Rattle.smt_meaning.specs.Command.{each}
use Rattle.smt_meaning.specs.Sexp.{Sexp, Sexps, word, group, end, ◌▸◌}
use Rattle.smt_meaning.specs.Stack.{Frame, signature_of}
use Rattle.proof_meaning.specs.Reading.{with, lists_of, listed, AreRead, proof_read, node_read, step_read}
use Rattle.proof_meaning.specs.Rules.{IsGood}
use Rattle.proof_meaning.specs.Laws.{NamedAssertionsHaveNoModel, GoodProofLeavesNoModel}
use Rattle.proof_form.specs.Found.{IsGoodInRange}
use Rattle.proof_check.specs.Checked.{Refutes}

-- what is read one by one is read as a list
each_read : {A : Type 0} (f : Sexp → Option A) (ss : Sexps) (xs : List A) → AreRead f (listed ss) xs → each f ss ≡ Some xs
each_read f end [] h = refl
each_read f end (x ∷ xs) h = absurd h
each_read f (s ▸ ss) [] h = absurd h
each_read f (s ▸ ss) (x ∷ xs) h = rw (h.0, each_read f ss xs h.1) refl

pair_is : {A B : Type 0} (a c : A) (b d : B) → ◌≡◌ {A = Option (A × B)} (Some (a, b)) (Some (c, d)) → (a ≡ c) × (b ≡ d)
pair_is {A} {B} a c b d e =
    let same : ◌≡◌ {A = A × B} (a, b) (c, d) = ap (λ o. unwrap_or o (a, b)) e in
    (ap (λ p. p.0) same, ap (λ p. p.1) same)

abbrev made : List Node → List Step → Proof
made nodes steps = record { nodes = nodes; steps = steps }

-- from two lists the proof is read
proof_of : (ds : List Declaration) (x : Sexp) (ns ps : Sexps) (nodes : List Node) (steps : List Step) → lists_of x ≡ Some (ns, ps)
    → each (node_read ds) ns ≡ Some nodes → each step_read ps ≡ Some steps → proof_read ds x ≡ Some (record { nodes = nodes; steps = steps })
proof_of ds (group (group ns ▸ group ps ▸ end)) ms qs nodes steps e a b =
    let same = pair_is ns ms ps qs e in
    ap (λ o. with o (λ xs. with (each step_read ps) (λ ys. Some (made xs ys)))) (ap (each (node_read ds)) same.0 ∙ a)
    ∙ ap (λ o. with o (λ ys. Some (made nodes ys))) (ap (each step_read) same.1 ∙ b)
proof_of ds (word t) ms qs nodes steps e a b = absurd cc
proof_of ds (group end) ms qs nodes steps e a b = absurd cc
proof_of ds (group (word t ▸ ss)) ms qs nodes steps e a b = absurd cc
proof_of ds (group (group ns ▸ end)) ms qs nodes steps e a b = absurd cc
proof_of ds (group (group ns ▸ word t ▸ ss)) ms qs nodes steps e a b = absurd cc
proof_of ds (group (group ns ▸ group ps ▸ s ▸ ss)) ms qs nodes steps e a b = absurd cc

pub refutes : NamedAssertionsHaveNoModel → GoodProofLeavesNoModel → (frames : List Frame) (x : Sexp) → IsGoodInRange frames x → Refutes frames x
refutes named none frames x g =
    let c = g.comes in
    let proof : Proof = record { nodes = c.nodes; steps = g.done } in
    let good : IsGood frames proof = record { trees = c.trees; clauses = g.clauses; by_rules = record { terms = c.good; steps = c.runs } } in
    record {
      proof = proof;
      read = proof_of (signature_of frames) x c.terms c.steps c.nodes g.done c.lists (each_read (node_read (signature_of frames)) c.terms c.nodes c.nodes_read)
          (each_read step_read c.steps g.done (subst (λ xs. AreRead step_read xs g.done) (sym (c.split ∙ append-nil g.before)) c.steps_read));
      good = good;
      named = λ I interprets makes. named frames proof I good interprets makes;
      none = none frames proof good;
    }
