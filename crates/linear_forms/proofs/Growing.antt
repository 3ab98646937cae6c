-- What is known of the first terms of a list, where the list grows.
use Rattle.std.proofs.Common.{◌≡◌, ◌⊎◌, inl, inr, ℕ, ◌<◌, ◌≤◌, List, [], length, max, take, Some, None, subst, sym, ◌∙◌, refl, arith}
use Rattle.std.specs.Prelude.{MatchOption}
use Rattle.std.proofs.lemmas.List.{get_or-take, length-take, length-take-le, take_all}
use Rattle.std.proofs.lemmas.Bool.{cases_lt}
use Rattle.smt_meaning.specs.Term.{Tree, tree_at}
use Rattle.smt_meaning.specs.Linear.{Form}
use Rattle.term_store.specs.Terms.{AreDifferent}
use Rattle.linear_forms.specs.Table.{Known, known_at, nothing_known, HasForm, IsOutside, IsKnown, AreFormsTo, AreForms}
use Rattle.linear_forms.proofs.Unfolding.{linked_same, known_same}

same_in_take : (ts : List Tree) (n k : ℕ) → k < n → tree_at (take n ts) k ≡ tree_at ts k
same_in_take ts n k h = get_or-take n ts k _ h

different_take : (ts : List Tree) (n : ℕ) → n ≤ length ts → AreDifferent ts → AreDifferent (take n ts)
different_take ts n short d j k less inside e =
    let size : length (take n ts) ≡ n = length-take-le n ts short in
    d j k less (omega arith) (sym (same_in_take ts n j (omega arith)) ∙ e ∙ same_in_take ts n k (omega arith))

pub within : (ts : List Tree) (known : List Known) → AreForms (take (length known) ts) known → length known ≤ length ts
within ts known f = let size = f.forms.size in omega (arith, length-take (length known) ts)

pub grown : (ts : List Tree) (known : List Known) → AreDifferent ts → AreForms (take (length known) ts) known → AreFormsTo ts (length known) known
grown ts known d f =
    let n : ℕ = length known in
    let short : n ≤ length ts = within ts known f in
    let size : length (take n ts) ≡ n = length-take-le n ts short in
    let first : AreFormsTo (take n ts) n known = subst (λ m. AreFormsTo (take n ts) m known) size f.forms in
    let same : (k : ℕ) → k < n → tree_at ts k ≡ tree_at (take n ts) k = λ k h. sym (same_in_take ts n k h) in
    record {
      size = refl;
      linked = linked_same (take n ts) ts n (omega arith) short f.different d same first.linked;
      each = λ k h. known_same (take n ts) ts n (omega arith) short f.different d same first.linked k (known_at known k) h (first.each k h);
    }

pub shrunk : (ts : List Tree) (known : List Known) → AreDifferent ts → length known ≤ length ts → AreFormsTo ts (length known) known → AreForms (take (length known) ts) known
shrunk ts known d short f =
    let n : ℕ = length known in
    let size : length (take n ts) ≡ n = length-take-le n ts short in
    let e : AreDifferent (take n ts) = different_take ts n short d in
    let same : (k : ℕ) → k < n → tree_at (take n ts) k ≡ tree_at ts k = λ k h. same_in_take ts n k h in
    let first : AreFormsTo (take n ts) n known = record {
      size = refl;
      linked = linked_same ts (take n ts) n short (omega arith) d e same f.linked;
      each = λ k h. known_same ts (take n ts) n short (omega arith) d e same f.linked k (known_at known k) h (f.each k h);
    } in
    record { different = e; forms = subst (λ m. AreFormsTo (take n ts) m known) (sym size) first }

pub form_known : (ts : List Tree) (known : List Known) (place : ℕ) (f : Form) → AreForms ts known → place < length known → known_at known place ≡ record { form = f; outside = None } → HasForm ts place f
form_known ts known place f a h e = let size = a.forms.size in subst (IsKnown ts place) e (a.forms.each place (omega arith))

pub outside_known : (ts : List Tree) (known : List Known) (place part : ℕ) → AreForms ts known → place < length known → (known_at known place).outside ≡ Some part → IsOutside ts place part
outside_known ts known place part a h e =
    let size = a.forms.size in
    subst (λ o. MatchOption o (HasForm ts place (known_at known place).form) (IsOutside ts place)) e (a.forms.each place (omega arith))

-- ---- nothing, and less

pub none_known : (ts : List Tree) → AreForms (take 0 ts) []
none_known ts = record {
  different = λ j k less h e. absurd (omega arith);
  forms = record { size = refl; linked = λ k h. absurd (omega arith); each = λ k h. absurd (omega arith) };
}

pub cut_forms : (ts : List Tree) (known : List Known) (len : ℕ) → AreForms ts known → AreForms (take len ts) (take len known)
cut_forms ts known len a = by (cases_lt len (length known))
  where
    by : (len < length known) ⊎ (length known ≤ len) → AreForms (take len ts) (take len known)
    by (inl less) =
        let size = a.forms.size in
        let now : length (take len known) ≡ len = length-take-le len known (omega arith) in
        let first : AreFormsTo ts (length (take len known)) (take len known) = record {
          size = refl;
          linked = λ k h. a.forms.linked k (omega arith);
          each = λ k h. subst (IsKnown ts k) (sym (get_or-take len known k nothing_known (omega arith))) (a.forms.each k (omega arith));
        } in
        subst (λ m. AreForms (take m ts) (take len known)) now (shrunk ts (take len known) a.different (omega arith) first)
    by (inr all) =
        let size = a.forms.size in
        subst (λ us. AreForms us (take len known)) (sym (take_all len ts (omega arith))) (subst (AreForms ts) (sym (take_all len known all)) a)

-- where as many are known as there are, all are
pub covered : (ts : List Tree) (old new : List Known) (count : ℕ) → count ≡ length ts → AreForms (take (length old) ts) old → AreForms (take (length new) ts) new → length new ≡ max (length old) count → AreForms ts new
covered ts old new count c f g e =
    let short : length old ≤ length ts = within ts old f in
    let all : length ts ≤ length new = omega (arith, c, e, short) in
    subst (λ us. AreForms us new) (take_all (length new) ts all) g
