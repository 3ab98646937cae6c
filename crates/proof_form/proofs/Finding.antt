-- What is found of a proof, from what its terms and its steps come to.
use Rattle.std.proofs.Common.{◌≡◌, inl, inr, ℕ, List, [], ◌∷◌, ◌++◌, All, Some, None, Result, Ok, Err, IfOk, sym, ap, ◌∙◌, subst}
use Rattle.std.proofs.lemmas.List.{append-nil}
use Rattle.std.specs.declared.alloc.AllocError.{AllocError}
use Rattle.smt_meaning.specs.declared.clauses.Literal.{Literal}
use Rattle.proof_meaning.specs.declared.proof.Step.{Step}
use Rattle.smt_meaning.specs.Declaration.{Declaration}
use Rattle.smt_meaning.specs.Sexp.{Sexp, Sexps}
use Rattle.smt_meaning.specs.Term.{Tree}
use Rattle.smt_meaning.specs.Stack.{Frame, signature_of, assertions_of}
use Rattle.proof_meaning.specs.Proof.{AreTerms}
use Rattle.proof_meaning.specs.Rules.{Gives, Runs}
use Rattle.proof_meaning.specs.Reading.{node_read, lists_of, listed, AreRead, IsWrongNode}
use Rattle.proof_terms.specs.Range.{LeavesRange}
use Rattle.proof_terms.specs.Terms.{ProofTerms}
use Rattle.proof_form.specs.Asserted.{asserted_at}
use Rattle.proof_form.specs.Found.{IsFound, ComesTo}
use Rattle.proof_form.specs.Whole.{AreAdded, EndsAt, NodesCome, HaveRun, EndsSo, StepsCome, faulty, outside, ended}
use Rattle.proof_form.specs.declared.found.Found.{Found}
use Rattle.proof_form.specs.declared.found.Found.TheVariants.{Yes, Node as WrongNode, No, Range as OutOfRange, NoProof}

pub found_node : (frames : List Frame) (x : Sexp) (terms steps : Sexps) (ds : List Declaration) (held : List Tree) (n : ℕ) (t : ProofTerms)
    → ds ≡ signature_of frames → lists_of x ≡ Some (terms, steps) → EndsAt ds held (listed terms) n t → IsWrongNode frames x n
found_node frames x terms steps ds held n t same lists h =
    let e : EndsAt (signature_of frames) held (listed terms) n t = subst (λ (d : List Declaration). EndsAt d held (listed terms) n t) same h in
    record {
      terms = terms;
      steps = steps;
      lists = lists;
      before = e.added.before;
      at = e.at;
      after = e.after;
      split = e.added.split;
      number = e.added.number_is;
      nodes = t.nodes;
      trees = t.trees;
      read = e.added.read;
      good = e.added.good;
      wrong = e.wrong;
    }

-- where the steps stand, with all terms added
record Standing (frames : List Frame) (x : Sexp) (terms steps : Sexps) (t : ProofTerms) (asserted : List Tree) : Type 0 where
  lists : lists_of x ≡ Some (terms, steps)
  declared : t.declared ≡ signature_of frames
  asserted_is : asserted ≡ assertions_of frames
  read : AreRead (node_read (signature_of frames)) (listed terms) t.nodes
  good : AreTerms (signature_of frames) t.nodes t.trees

abbrev comes_to : (frames : List Frame) (x : Sexp) (terms steps : Sexps) (t : ProofTerms) (asserted : List Tree) → Standing frames x terms steps t asserted
    → (after : List Sexp) (number : ℕ) (done : List Step) (clauses : List (List Literal)) (run : HaveRun t asserted (listed steps) after number done clauses)
    → ComesTo frames x run.before after done clauses
comes_to frames x terms steps t asserted s after number done clauses run =
    record {
      terms = terms;
      steps = steps;
      lists = s.lists;
      nodes = t.nodes;
      trees = t.trees;
      nodes_read = s.read;
      good = s.good;
      split = run.split;
      steps_read = run.read;
      runs =
          subst (λ (xs : List Tree). Runs (signature_of frames) t.nodes t.trees xs done clauses) s.asserted_is
          (subst (λ (d : List Declaration). Runs d t.nodes t.trees asserted done clauses) s.declared run.runs);
      in_range = subst (λ (d : List Declaration). All (λ (st : Step). LeavesRange d t.nodes t.trees st → ⊥) done) s.declared run.in_range;
    }

gives_back : (frames : List Frame) (x : Sexp) (terms steps : Sexps) (t : ProofTerms) (asserted : List Tree) → Standing frames x terms steps t asserted
    → (clauses : List (List Literal)) (st : Step) (ls : List Literal) → Gives (signature_of frames) t.nodes t.trees (assertions_of frames) clauses st ls
    → Gives t.declared t.nodes t.trees asserted clauses st ls
gives_back frames x terms steps t asserted s clauses st ls gives =
    subst (λ (xs : List Tree). Gives t.declared t.nodes t.trees xs clauses st ls) (sym s.asserted_is)
    (subst (λ (d : List Declaration). Gives d t.nodes t.trees (assertions_of frames) clauses st ls) (sym s.declared) gives)

leaves_back : (frames : List Frame) (x : Sexp) (terms steps : Sexps) (t : ProofTerms) (asserted : List Tree) → Standing frames x terms steps t asserted
    → (st : Step) → LeavesRange (signature_of frames) t.nodes t.trees st → LeavesRange t.declared t.nodes t.trees st
leaves_back frames x terms steps t asserted s st h = subst (λ (d : List Declaration). LeavesRange d t.nodes t.trees st) (sym s.declared) h

at_end : (frames : List Frame) (x : Sexp) (terms steps : Sexps) (t : ProofTerms) (asserted : List Tree) → Standing frames x terms steps t asserted
    → (found : Found) (number : ℕ) (done : List Step) (clauses : List (List Literal)) → HaveRun t asserted (listed steps) [] number done clauses → EndsSo number clauses found → IsFound frames x found
at_end frames x terms steps t asserted s Yes number done clauses run e =
    let r : HaveRun t asserted (listed steps) [] number done (e.0 ++ [] ∷ []) = subst (λ (cs : List (List Literal)). HaveRun t asserted (listed steps) [] number done cs) e.1 run in
    record { before = r.before; done = done; clauses = e.0; comes = comes_to frames x terms steps t asserted s [] number done (e.0 ++ [] ∷ []) r }
at_end frames x terms steps t asserted s (No n) number done clauses run e =
    inr (record { before = run.before; done = done; clauses = clauses; comes = comes_to frames x terms steps t asserted s [] number done clauses run; number = e.0 ∙ run.number_is; not_empty = e.1 })
at_end frames x terms steps t asserted s (WrongNode n) number done clauses run e = absurd e
at_end frames x terms steps t asserted s (OutOfRange n) number done clauses run e = absurd e
at_end frames x terms steps t asserted s NoProof number done clauses run e = absurd e

by_steps : (frames : List Frame) (x : Sexp) (terms steps : Sexps) (t : ProofTerms) (asserted : List Tree) → Standing frames x terms steps t asserted
    → (found : Found) → StepsCome t asserted (listed steps) found → IsFound frames x found
by_steps frames x terms steps t asserted s _ (faulty {number = n} f) =
    inl (record {
      before = f.run.run.before;
      at = f.at;
      after = f.after;
      done = f.run.done;
      clauses = f.run.clauses;
      comes = comes_to frames x terms steps t asserted s (f.at ∷ f.after) n f.run.done f.run.clauses f.run.run;
      number = f.run.run.number_is;
      stays = λ st read leaves. (f.wrong st read).0 (leaves_back frames x terms steps t asserted s st leaves);
      wrong = λ st ls read gives. (f.wrong st read).1 f.run.clauses ls f.run.keeps f.run.literals (gives_back frames x terms steps t asserted s f.run.clauses st ls gives);
    })
by_steps frames x terms steps t asserted s _ (outside {number = n} o) =
    record {
      before = o.run.run.before;
      at = o.at;
      after = o.after;
      done = o.run.done;
      clauses = o.run.clauses;
      comes = comes_to frames x terms steps t asserted s (o.at ∷ o.after) n o.run.done o.run.clauses o.run.run;
      number = o.run.run.number_is;
      step = o.step;
      read = o.read;
      leaves = subst (λ (d : List Declaration). LeavesRange d t.nodes t.trees o.step) s.declared o.leaves;
    }
by_steps frames x terms steps t asserted s found (ended e) = at_end frames x terms steps t asserted s found e.number e.run.done e.run.clauses e.run.run e.end_is

pub found_steps : (frames : List Frame) (x : Sexp) (terms steps : Sexps) (ds : List Declaration) (held : List Tree) (n : ℕ) (t : ProofTerms) (asserted : List Tree) (found : Found)
    → ds ≡ signature_of frames → asserted ≡ assertions_of frames → lists_of x ≡ Some (terms, steps) → AreAdded ds held (listed terms) [] n t
    → StepsCome t asserted (listed steps) found → IsFound frames x found
found_steps frames x terms steps ds held n t asserted found same asserted_is lists h come =
    let a : AreAdded (signature_of frames) held (listed terms) [] n t = subst (λ (d : List Declaration). AreAdded d held (listed terms) [] n t) same h in
    by_steps frames x terms steps t asserted
    (record {
      lists = lists;
      declared = a.declared;
      asserted_is = asserted_is;
      read = subst (λ (xs : List Sexp). AreRead (node_read (signature_of frames)) xs t.nodes) (sym (append-nil a.before) ∙ sym a.split) a.read;
      good = a.good;
    })
    found come

pub found_wrong : (frames : List Frame) (x : Sexp) (terms steps : Sexps) (sig : List Declaration) (held : List Tree) (t u : ProofTerms) (n : ℕ)
    → t ≡ record { declared = sig; held = held; nodes = []; trees = [] } → signature_of frames ≡ sig → lists_of x ≡ Some (terms, steps)
    → NodesCome t.declared t.held (listed terms) u (Some n) → IsWrongNode frames x n
found_wrong frames x terms steps sig held t u n first same lists h = found_node frames x terms steps t.declared t.held n u (ap (λ (v : ProofTerms). v.declared) first ∙ sym same) lists h

pub found_rest : (frames : List Frame) (x : Sexp) (terms steps : Sexps) (sig : List Declaration) (held : List Tree) (t u : ProofTerms) (is : List ℕ) (r : Result Found AllocError)
    → t ≡ record { declared = sig; held = held; nodes = []; trees = [] } → signature_of frames ≡ sig → lists_of x ≡ Some (terms, steps)
    → NodesCome t.declared t.held (listed terms) u None → asserted_at held is ≡ assertions_of frames
    → IfOk r (StepsCome u (asserted_at u.held is) (listed steps)) → IfOk r (IsFound frames x)
found_rest frames x terms steps sig held t u is (Ok found) first same lists h asserted come =
    let own : AreAdded t.declared t.held (listed terms) [] h.0 u = h.1 in
    found_steps frames x terms steps t.declared t.held h.0 u (asserted_at u.held is) found (ap (λ (w : ProofTerms). w.declared) first ∙ sym same)
    (ap (λ (ts : List Tree). asserted_at ts is) (own.held_is ∙ ap (λ (w : ProofTerms). w.held) first) ∙ asserted) lists own come
found_rest frames x terms steps sig held t u is (Err e) first same lists h asserted come = tt
