-- A clause by the rule: from the kind of a term and what judging by numbers came to.
use Rattle.std.proofs.Common.{◌≡◌, ℕ, ◌<◌, Bool, true, ◌&&◌, List, [], ◌∷◌, length, map, All, Contains, refl, sym, ap, ◌∙◌, subst, ◌⊎◌}
use Rattle.std.specs.List.{list_all}
use Rattle.smt_meaning.specs.declared.terms.Operator.{Operator}
use Rattle.smt_meaning.specs.declared.terms.Head.TheVariants.{Theory}
use Rattle.smt_meaning.specs.declared.nodes.Node.{Node}
use Rattle.smt_meaning.specs.declared.clauses.Atom.{Atom}
use Rattle.smt_meaning.specs.declared.clauses.Atom.TheVariants.{Truth}
use Rattle.smt_meaning.specs.declared.clauses.Literal.{Literal}
use Rattle.smt_meaning.specs.Declaration.{Declaration}
use Rattle.smt_meaning.specs.Term.{Tree}
use Rattle.proof_meaning.specs.Proof.{node_at}
use Rattle.proof_meaning.specs.Rules.{HasParts, IsForm, every, no_one, pairs, along}
use Rattle.proof_terms.specs.declared.verdict.Verdict.{Verdict}
use Rattle.proof_terms.specs.declared.verdict.Verdict.TheVariants.{Good, Wrong, Range}
use Rattle.proof_terms.specs.declared.form_values.Connective.{Connective}
use Rattle.proof_terms.specs.declared.form_values.Connective.TheVariants.{And}
use Rattle.proof_terms.specs.declared.form_parts.Relation.{Relation}
use Rattle.proof_terms.specs.Range.{bounds_fit, neighbours_fit}
use Rattle.proof_terms.specs.Kept.{Kept, AreCodesOf}
use Rattle.proof_terms.specs.FormValues.{itself}
use Rattle.proof_terms.specs.FormParts.{HasJust, IsOfBools, IsOfNeighbours, IsOfPairs, relation_atom, relation_fits, AreNumbersOf, Extends, by_connective, IsTrueClause, KeepsClause, IsConcluded, IsJudgedForm, IsRightForm}
use Rattle.proof_terms.specs.FormPairs.{IsConcludedPairs}
use Rattle.proof_terms.proofs.FormLifting.{codes_later}

form_of : (ds : List Declaration) (ns : List Node) (ts : List Tree) (o : Operator) (is : List ℕ) (i : ℕ) (ls : List Literal) (parts : List Atom) (value other : (Atom → Bool) → Bool) → i < length ns → node_at ns i ≡ record { head = Theory o; arguments = is }
    → HasJust ds ts o is parts value → ((v : Atom → Bool) → value v ≡ other v) → IsTrueClause i parts other ls → IsForm ds ns ts i ls
form_of ds ns ts o is i ls parts value other h e just same t = record {
  within = h;
  operator = o;
  head = ap (λ (n : Node). n.head) e;
  parts = parts;
  value = value;
  by = subst (λ (n : Node). HasParts ds ts o n.arguments parts value) (sym e) just.has;
  on = t.on;
  always = λ v q. t.always v (q ∙ same v);
}

of_form : (ds : List Declaration) (ns : List Node) (ts : List Tree) (o : Operator) (is : List ℕ) (i : ℕ) (ls : List Literal) (parts : List Atom) (value other : (Atom → Bool) → Bool) → node_at ns i ≡ record { head = Theory o; arguments = is }
    → HasJust ds ts o is parts value → ((v : Atom → Bool) → value v ≡ other v) → IsForm ds ns ts i ls → IsTrueClause i parts other ls
of_form ds ns ts o is i ls parts value other e just same f = record {
  on = subst (λ (qs : List Atom). All (λ (l : Literal). (l.atom ≡ Truth i) ⊎ Contains qs l.atom) ls) it.0 f.on;
  always = λ v q. f.always v (q ∙ sym (same v) ∙ sym (it.1 v));
}
  where
    operator_is : f.operator ≡ o
    operator_is = let two : Theory f.operator ≡ Theory o = sym f.head ∙ ap (λ (n : Node). n.head) e in cc

    it : (f.parts ≡ parts) × ((v : Atom → Bool) → f.value v ≡ value v)
    it =
        just.only f.parts f.value
        (subst (λ (p : Operator). HasParts ds ts p is f.parts f.value) operator_is (subst (λ (n : Node). HasParts ds ts f.operator n.arguments f.parts f.value) e f.by))

right : (ds : List Declaration) (ns : List Node) (ts : List Tree) (o : Operator) (is : List ℕ) (i : ℕ) (ls : List Literal) (old mid new : Kept) (parts : List Atom) (value other : (Atom → Bool) → Bool) → i < length ns → node_at ns i ≡ record { head = Theory o; arguments = is }
    → HasJust ds ts o is parts value → ((v : Atom → Bool) → value v ≡ other v) → bounds_fit ts o is ≡ true → Extends old mid → IsTrueClause i parts other ls × KeepsClause mid new ls → IsRightForm ds ns ts o is i ls old new
right ds ns ts o is i ls old mid new parts value other h e just same fits more t = record {
  form = form_of ds ns ts o is i ls parts value other h e just same t.0;
  fits = fits;
  kept = record { keeps = λ before k. t.1.keeps before (more.kept before k) };
}

pub judged_bools : (ds : List Declaration) (ns : List Node) (ts : List Tree) (o : Operator) (is : List ℕ) (i : ℕ) (ls : List Literal) (old mid new : Kept) (codes numbers : List ℕ) (c : Connective) → i < length ns → node_at ns i ≡ record { head = Theory o; arguments = is }
    → IsOfBools ds ts o is c → AreCodesOf old.atoms codes ls → Extends old mid → AreNumbersOf mid.atoms numbers (map Truth is) → (v : Verdict) → IsConcluded mid new codes i c numbers v → IsJudgedForm ds ns ts o is i ls old new v
judged_bools ds ns ts o is i ls old mid new codes numbers c h e k coded more are Good t =
    right ds ns ts o is i ls old mid new (map Truth is) _ (by_connective c (map Truth is)) h e k.just k.gives k.fits more (t ls (map Truth is) (codes_later old mid codes ls more coded) are)
judged_bools ds ns ts o is i ls old mid new codes numbers c h e k coded more are Wrong t = record {
  no_form = λ f. t ls (map Truth is) (codes_later old mid codes ls more coded) are (of_form ds ns ts o is i ls (map Truth is) _ (by_connective c (map Truth is)) e k.just k.gives f);
  fits = k.fits;
}
judged_bools ds ns ts o is i ls old mid new codes numbers c h e k coded more are Range t = absurd t

every_is : (v : Atom → Bool) (ps : List Atom) → every v ps ≡ list_all itself (map v ps)
every_is v [] = refl
every_is v (p ∷ ps) = ap (λ b. v p && b) (every_is v ps)

pub judged_neighbours : (ds : List Declaration) (ns : List Node) (ts : List Tree) (o : Operator) (is : List ℕ) (i : ℕ) (ls : List Literal) (old mid new : Kept) (codes numbers : List ℕ) (r : Relation) → i < length ns → node_at ns i ≡ record { head = Theory o; arguments = is }
    → IsOfNeighbours ds ts o is r → neighbours_fit (relation_fits ts r) is ≡ true → AreCodesOf old.atoms codes ls → Extends old mid → AreNumbersOf mid.atoms numbers (along (relation_atom ts r) is)
    → (v : Verdict) → IsConcluded mid new codes i And numbers v → IsJudgedForm ds ns ts o is i ls old new v
judged_neighbours ds ns ts o is i ls old mid new codes numbers r h e k fits coded more are Good t =
    right ds ns ts o is i ls old mid new (along (relation_atom ts r) is) _ (by_connective And (along (relation_atom ts r) is)) h e k.just (λ v. every_is v (along (relation_atom ts r) is)) (k.fits ∙ fits) more
    (t ls (along (relation_atom ts r) is) (codes_later old mid codes ls more coded) are)
judged_neighbours ds ns ts o is i ls old mid new codes numbers r h e k fits coded more are Wrong t = record {
  no_form = λ f.
      t ls (along (relation_atom ts r) is) (codes_later old mid codes ls more coded) are
      (of_form ds ns ts o is i ls (along (relation_atom ts r) is) _ (by_connective And (along (relation_atom ts r) is)) e k.just (λ v. every_is v (along (relation_atom ts r) is)) f);
  fits = k.fits ∙ fits;
}
judged_neighbours ds ns ts o is i ls old mid new codes numbers r h e k fits coded more are Range t = absurd t

pub judged_pairs : (ds : List Declaration) (ns : List Node) (ts : List Tree) (o : Operator) (is : List ℕ) (i : ℕ) (ls : List Literal) (old mid new : Kept) (codes : List ℕ) → i < length ns → node_at ns i ≡ record { head = Theory o; arguments = is }
    → IsOfPairs ds ts o is → AreCodesOf old.atoms codes ls → Extends old mid → (v : Verdict) → IsConcludedPairs mid new codes i is ls v → IsJudgedForm ds ns ts o is i ls old new v
judged_pairs ds ns ts o is i ls old mid new codes h e k coded more Good t =
    right ds ns ts o is i ls old mid new (pairs is) _ (λ v. no_one v (pairs is)) h e k.just (λ v. refl) k.fits more (t (codes_later old mid codes ls more coded))
judged_pairs ds ns ts o is i ls old mid new codes h e k coded more Wrong t = record {
  no_form = λ f. t (codes_later old mid codes ls more coded) (of_form ds ns ts o is i ls (pairs is) _ (λ v. no_one v (pairs is)) e k.just (λ v. refl) f);
  fits = k.fits;
}
judged_pairs ds ns ts o is i ls old mid new codes h e k coded more Range t = absurd t
