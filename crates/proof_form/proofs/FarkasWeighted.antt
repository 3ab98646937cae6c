-- Weighted literals, as they are tested.
use Rattle.std.proofs.Common.{◌≡◌, ◌↔◌, Bool, true, false, ◌&&◌, List, nat_lt, sym, refl, Some}
use Rattle.std.specs.Prelude.{IsTrue}
use Rattle.std.proofs.lemmas.Bool.{ltb-true}
use Rattle.smt_meaning.specs.declared.clauses.Atom.{Atom}
use Rattle.smt_meaning.specs.declared.clauses.Atom.TheVariants.{AtMost, Truth, Same}
use Rattle.proof_meaning.specs.declared.proof.Weighted.{Weighted}
use Rattle.smt_meaning.specs.Declaration.{Declaration}
use Rattle.smt_meaning.specs.Term.{Tree}
use Rattle.smt_meaning.specs.Linear.{Form}
use Rattle.proof_meaning.specs.Proof.{IsLiteral}
use Rattle.proof_meaning.specs.Rules.{false_bound}
use Rattle.smt_laws.proofs.Both.{and_left, and_right}
use Rattle.proof_terms.specs.Range.{IsWeighted}
use Rattle.proof_form.specs.FarkasSums.{is_bound, multiplies_bound}

some_form : (b : Bool) (a : Atom) → is_bound a ≡ true → (f : Form) × (false_bound b a ≡ Some f)
some_form true (AtMost ps k) h = (_, refl)
some_form false (AtMost ps k) h = (_, refl)
some_form b (Truth i) h = absurd (cc)
some_form b (Same i j) h = absurd (cc)

pub weighted_literal : (ds : List Declaration) (ts : List Tree) (w : Weighted) (b : Bool) → true ≡ multiplies_bound w → IsTrue b ↔ IsLiteral ds ts w.literal → IsTrue b ↔ IsWeighted ds ts w
weighted_literal ds ts w b h literal = (
  λ t.
      (let e : multiplies_bound w ≡ true = sym h in
      let rest : (nat_lt 0 w.denominator && is_bound w.literal.atom) ≡ true = and_right (nat_lt 0 w.numerator) (nat_lt 0 w.denominator && is_bound w.literal.atom) e in
      let found = some_form w.literal.positive w.literal.atom (and_right (nat_lt 0 w.denominator) (is_bound w.literal.atom) rest) in
      record {
        numerator_above = ltb-true 0 w.numerator (and_left (nat_lt 0 w.numerator) (nat_lt 0 w.denominator && is_bound w.literal.atom) e);
        denominator_above = ltb-true 0 w.denominator (and_left (nat_lt 0 w.denominator) (is_bound w.literal.atom) rest);
        literal = literal.0 t;
        form = found.0;
        bound = found.1;
      }),
  λ k. literal.1 k.literal,
)
