-- A step gives one clause, up to the order of its literals and how often one stands in it.
use Rattle.std.proofs.Common.{◌≡◌, ◌≢◌, ◌⊎◌, ℕ, zero, suc, ◌≤◌, List, [], ◌∷◌, ◌++◌, length, map, All, Contains, Some, refl, sym, ap, ◌∙◌, arith, inl, inr}
use Rattle.std.specs.Prelude.{slice_get, ℤ, pos, true, false}
use Rattle.std.proofs.lemmas.List.{length_push, same_from_push}
use Rattle.std.proofs.lemmas.List.Elements.{All-weaker, All-contains, All-contains_itself}
use Rattle.smt_meaning.specs.declared.terms.Head.{Head}
use Rattle.smt_meaning.specs.declared.terms.Head.TheVariants.{Numeral, Theory}
use Rattle.smt_meaning.specs.declared.terms.Operator.TheVariants.{Divide}
use Rattle.smt_meaning.specs.declared.nodes.Node.{Node}
use Rattle.smt_meaning.specs.declared.clauses.Summand.{Summand}
use Rattle.smt_meaning.specs.declared.clauses.Atom.TheVariants.{AtMost}
use Rattle.smt_meaning.specs.declared.clauses.Literal.{Literal}
use Rattle.proof_meaning.specs.declared.proof.Step.{Step}
use Rattle.proof_meaning.specs.declared.proof.Step.TheVariants.{Assert, Form as FormStep, Pick, Euclid, Refl, Sym, Trans, Cong, Truth as TruthStep, Both, Neither, Link, Round, Farkas, Res}
use Rattle.smt_meaning.specs.Declaration.{Declaration}
use Rattle.smt_meaning.specs.Term.{Tree, tree_at, node, none}
use Rattle.smt_meaning.specs.TreeShape.{quotient_tree}
use Rattle.smt_meaning.specs.Nodes.{pick}
use Rattle.smt_meaning.specs.Linear.{Form, linear_form}
use Rattle.smt_meaning.specs.Division.{Row, quotient_rows, remainder_rows, divisible_rows, absolute_rows}
use Rattle.smt_meaning.specs.Atoms.{divided, each_divided, positive, row_atoms, truth_literals}
use Rattle.smt_laws.specs.Rows.{place_form, placed_literals}
use Rattle.proof_meaning.specs.Proof.{node_at, literal, negated}
use Rattle.proof_meaning.specs.Rules.{IsResolution, IsPick, pick_clause, IsRound, divisor_at, HasRows, of_quotient, of_last_quotient, of_remainder, of_divisibility, of_absolute, IsEuclid, clause_at, IsByRule, Gives}
use Rattle.proof_form.proofs.AloneLists.{some_same, heads_same, tails_same, SameLiterals, same_literals, AreAlike, as_long, alike_at}

-- ---- resolution

abbrev Left : List Literal → Literal → Literal → Type 0
Left ls l m = (m ≡ l) ⊎ Contains ls m

abbrev Only : List Literal → List Literal → Literal → Literal → Type 0
Only p q l m = (Contains p m × (m ≢ l)) ⊎ (Contains q m × (m ≢ negated l))

all_over : (P : Literal → Type 0) (p q : List Literal) → SameLiterals p q → All P p → All P q
all_over P p q s all = All-weaker (Contains q) P (λ m c. All-contains P p m all (s.back m c)) q (All-contains_itself q)

only_over : (p q r s : List Literal) (l m : Literal) → SameLiterals p r → SameLiterals q s → Only p q l m → Only r s l m
only_over p q r s l m a b (inl h) = inl (a.there m h.0, h.1)
only_over p q r s l m a b (inr h) = inr (b.there m h.0, h.1)

resolution_over : (p q r s : List Literal) (l : Literal) (ls : List Literal) → SameLiterals p r → SameLiterals q s → IsResolution p q l ls → IsResolution r s l ls
resolution_over p q r s l ls a b h = record {
  left = a.there l h.left;
  right = b.there (negated l) h.right;
  from_left = all_over (Left ls l) p r a h.from_left;
  from_right = all_over (Left ls (negated l)) q s b h.from_right;
  only = All-weaker (Only p q l) (Only r s l) (λ m o. only_over p q r s l m a b o) ls h.only;
}

other_left : (ls : List Literal) (l m : Literal) → m ≢ l → Left ls l m → Contains ls m
other_left ls l m other (inl e) = absurd (other e)
other_left ls l m other (inr c) = c

from_one : (p q : List Literal) (l : Literal) (ks : List Literal) → IsResolution p q l ks → (m : Literal) → Only p q l m → Contains ks m
from_one p q l ks k m (inl h) = other_left ks l m h.1 (All-contains (Left ks l) p m k.from_left h.0)
from_one p q l ks k m (inr h) = other_left ks (negated l) m h.1 (All-contains (Left ks (negated l)) q m k.from_right h.0)

resolution_same : (p q : List Literal) (l : Literal) (ls ks : List Literal) → IsResolution p q l ls → IsResolution p q l ks → SameLiterals ls ks
resolution_same p q l ls ks h k = record {
  there = λ m c. from_one p q l ks k m (All-contains (Only p q l) ls m h.only c);
  back = λ m c. from_one p q l ls h m (All-contains (Only p q l) ks m k.only c);
}

-- ---- terms with several arguments

pick_same : (ds : List Declaration) (ns : List Node) (ts : List Tree) (i n : ℕ) (ls ks : List Literal) → IsPick ds ns ts i n ls → IsPick ds ns ts i n ks → ls ≡ ks
pick_same ds ns ts i n ls ks h k =
    let e : h.condition ∷ h.first ∷ h.second ∷ [] ≡ k.condition ∷ k.first ∷ k.second ∷ [] = ap (λ (m : Node). m.arguments) (sym h.node_is ∙ k.node_is) in
    h.clause
    ∙ ap (λ c. pick_clause i n c h.first h.second) (heads_same e)
    ∙ ap (λ a. pick_clause i n k.condition a h.second) (heads_same (tails_same e))
    ∙ ap (λ b. pick_clause i n k.condition k.first b) (heads_same (tails_same (tails_same e)))
    ∙ sym k.clause

sums_same : (ps qs : List Summand) (a b : ℤ) → literal true (AtMost ps a) ≡ literal true (AtMost qs b) → (ps ≡ qs) × (a ≡ b)
sums_same ps qs a b e = let f : AtMost ps a ≡ AtMost qs b = ap (λ (l : Literal). l.atom) e in (cc, cc)

abbrev rounded : ℕ → List Summand → ℤ → List Literal
rounded g ps m = literal false (AtMost ps m) ∷ literal true (AtMost (each_divided (pos g) ps) (divided m (pos g))) ∷ []

round_same : (l : Literal) (g : ℕ) (ls ks : List Literal) → IsRound l g ls → IsRound l g ks → ls ≡ ks
round_same l g ls ks h k =
    let e : (h.sum ≡ k.sum) × (h.most ≡ k.most) = sums_same h.sum k.sum h.most k.most (sym h.literal_is ∙ k.literal_is) in
    h.clause ∙ ap (λ ps. rounded g ps h.most) e.0 ∙ ap (λ m. rounded g k.sum m) e.1 ∙ sym k.clause

-- ---- divisions

-- what a row says, by the forms of its places
abbrev said : ℕ → Row Form → List Literal
said i r = truth_literals i r.truth ++ map positive (row_atoms (λ (f : Form). f) r)

module _ (ts : List Tree) (i : ℕ) where
  abbrev clauses : List (Row ℕ) → List (List Literal)
  clauses rows = map (placed_literals ts i) rows

  quotients_by : (a : ℕ) (d : ℤ) (q : ℕ) → clauses (quotient_rows a d q) ≡ map (said i) (quotient_rows (place_form ts a) d (place_form ts q))
  quotients_by a d q = refl

  remainders_by : (a : ℕ) (d : ℤ) (q m : ℕ) → clauses (remainder_rows a d q m) ≡ map (said i) (remainder_rows (place_form ts a) d (place_form ts q) (place_form ts m))
  remainders_by a d q m = refl

  divisibles_by : (a : ℕ) (d : ℤ) (q : ℕ) → clauses (divisible_rows a d q) ≡ map (said i) (divisible_rows (place_form ts a) d (place_form ts q))
  divisibles_by a d q = refl

  form_same : (a b : ℕ) → tree_at ts a ≡ tree_at ts b → place_form ts a ≡ place_form ts b
  form_same a b e = ap (linear_form ts) e

  last_quotients : (a b m n : ℕ) (is js : List ℕ) → tree_at ts a ≡ node (Theory Divide) (pick ts is) → tree_at ts b ≡ node (Theory Divide) (pick ts js) → is ++ m ∷ [] ≡ js ++ n ∷ []
      → clauses (quotient_rows a (divisor_at ts m) i) ≡ clauses (quotient_rows b (divisor_at ts n) i)
  last_quotients a b m n is js x y e =
      let s : (is ≡ js) × (m ≡ n) = same_from_push is js m n e in
      quotients_by a (divisor_at ts m) i
      ∙ ap (λ f. map (said i) (quotient_rows f (divisor_at ts m) (place_form ts i))) (form_same a b (x ∙ ap (λ ks. node (Theory Divide) (pick ts ks)) s.0 ∙ sym y))
      ∙ ap (λ k. map (said i) (quotient_rows (place_form ts b) (divisor_at ts k) (place_form ts i))) s.1
      ∙ sym (quotients_by b (divisor_at ts n) i)

  remainders : (a b m n p q : ℕ) → tree_at ts p ≡ quotient_tree (tree_at ts a) (tree_at ts m) → tree_at ts q ≡ quotient_tree (tree_at ts b) (tree_at ts n) → a ∷ m ∷ [] ≡ b ∷ n ∷ []
      → clauses (remainder_rows a (divisor_at ts m) p i) ≡ clauses (remainder_rows b (divisor_at ts n) q i)
  remainders a b m n p q x y e =
      let first : a ≡ b = heads_same e in
      let second : m ≡ n = heads_same (tails_same e) in
      remainders_by a (divisor_at ts m) p i
      ∙ ap (λ f. map (said i) (remainder_rows (place_form ts a) (divisor_at ts m) f (place_form ts i)))
      (form_same p q (x ∙ ap (λ k. quotient_tree (tree_at ts k) (tree_at ts m)) first ∙ ap (λ k. quotient_tree (tree_at ts b) (tree_at ts k)) second ∙ sym y))
      ∙ ap (λ k. map (said i) (remainder_rows (place_form ts k) (divisor_at ts m) (place_form ts q) (place_form ts i))) first
      ∙ ap (λ k. map (said i) (remainder_rows (place_form ts b) (divisor_at ts k) (place_form ts q) (place_form ts i))) second
      ∙ sym (remainders_by b (divisor_at ts n) q i)

  divisibles : (a b : ℕ) (m n : ℤ) (p q : ℕ) → tree_at ts p ≡ quotient_tree (tree_at ts a) (node (Numeral m) none) → tree_at ts q ≡ quotient_tree (tree_at ts b) (node (Numeral n) none)
      → a ∷ [] ≡ b ∷ [] → Numeral m ≡ Numeral n → clauses (divisible_rows a m p) ≡ clauses (divisible_rows b n q)
  divisibles a b m n p q x y e h =
      let first : a ≡ b = heads_same e in
      let second : m ≡ n = cc in
      divisibles_by a m p
      ∙ ap (λ f. map (said i) (divisible_rows (place_form ts a) m f))
      (form_same p q (x ∙ ap (λ k. quotient_tree (tree_at ts k) (node (Numeral m) none)) first ∙ ap (λ k. quotient_tree (tree_at ts b) (node (Numeral k) none)) second ∙ sym y))
      ∙ ap (λ k. map (said i) (divisible_rows (place_form ts k) m (place_form ts q))) first
      ∙ ap (λ k. map (said i) (divisible_rows (place_form ts b) k (place_form ts q))) second
      ∙ sym (divisibles_by b n q)

  too_many : (a m n : ℕ) (js : List ℕ) → 2 ≤ length js → a ∷ m ∷ [] ≡ js ++ n ∷ [] → ⊥
  too_many a m n js h e = omega (arith, h, ap length e, length_push js n)

  rows_same : (g h : Head) (is js : List ℕ) (rows others : List (Row ℕ)) → HasRows ts i g is rows → HasRows ts i h js others → g ≡ h → is ≡ js → clauses rows ≡ clauses others
  rows_same _ _ _ _ _ _ (of_quotient a m) (of_quotient b n) g e =
      ap (λ k. clauses (quotient_rows k (divisor_at ts m) i)) (heads_same e) ∙ ap (λ k. clauses (quotient_rows b (divisor_at ts k) i)) (heads_same (tails_same e))
  rows_same _ _ _ _ _ _ (of_quotient a m) (of_last_quotient b n js h y) g e = absurd (too_many a m n js h e)
  rows_same _ _ _ _ _ _ (of_quotient a m) (of_remainder b n q y) g e = absurd (cc)
  rows_same _ _ _ _ _ _ (of_quotient a m) (of_divisibility b q n y) g e = absurd (cc)
  rows_same _ _ _ _ _ _ (of_quotient a m) (of_absolute b) g e = absurd (cc)
  rows_same _ _ _ _ _ _ (of_last_quotient a m is l x) (of_quotient b n) g e = absurd (too_many b n m is l (sym e))
  rows_same _ _ _ _ _ _ (of_last_quotient a m is l x) (of_last_quotient b n js h y) g e = last_quotients a b m n is js x y e
  rows_same _ _ _ _ _ _ (of_last_quotient a m is l x) (of_remainder b n q y) g e = absurd (cc)
  rows_same _ _ _ _ _ _ (of_last_quotient a m is l x) (of_divisibility b q n y) g e = absurd (cc)
  rows_same _ _ _ _ _ _ (of_last_quotient a m is l x) (of_absolute b) g e = absurd (cc)
  rows_same _ _ _ _ _ _ (of_remainder a m p x) (of_quotient b n) g e = absurd (cc)
  rows_same _ _ _ _ _ _ (of_remainder a m p x) (of_last_quotient b n js h y) g e = absurd (cc)
  rows_same _ _ _ _ _ _ (of_remainder a m p x) (of_remainder b n q y) g e = remainders a b m n p q x y e
  rows_same _ _ _ _ _ _ (of_remainder a m p x) (of_divisibility b q n y) g e = absurd (cc)
  rows_same _ _ _ _ _ _ (of_remainder a m p x) (of_absolute b) g e = absurd (cc)
  rows_same _ _ _ _ _ _ (of_divisibility a p m x) (of_quotient b n) g e = absurd (cc)
  rows_same _ _ _ _ _ _ (of_divisibility a p m x) (of_last_quotient b n js h y) g e = absurd (cc)
  rows_same _ _ _ _ _ _ (of_divisibility a p m x) (of_remainder b n q y) g e = absurd (cc)
  rows_same _ _ _ _ _ _ (of_divisibility a p m x) (of_divisibility b q n y) g e = divisibles a b m n p q x y e g
  rows_same _ _ _ _ _ _ (of_divisibility a p m x) (of_absolute b) g e = absurd (cc)
  rows_same _ _ _ _ _ _ (of_absolute a) (of_quotient b n) g e = absurd (cc)
  rows_same _ _ _ _ _ _ (of_absolute a) (of_last_quotient b n js h y) g e = absurd (cc)
  rows_same _ _ _ _ _ _ (of_absolute a) (of_remainder b n q y) g e = absurd (cc)
  rows_same _ _ _ _ _ _ (of_absolute a) (of_divisibility b q n y) g e = absurd (cc)
  rows_same _ _ _ _ _ _ (of_absolute a) (of_absolute b) g e = ap (λ k. clauses (absolute_rows k i)) (heads_same e)

  row_same : (rows others : List (Row ℕ)) (n : ℕ) (r s : Row ℕ) → slice_get rows n ≡ Some r → slice_get others n ≡ Some s → clauses rows ≡ clauses others
      → placed_literals ts i r ≡ placed_literals ts i s
  row_same [] others n r s h k e = absurd (cc)
  row_same (a ∷ rows) [] n r s h k e = absurd (cc)
  row_same (a ∷ rows) (b ∷ others) zero r s h k e = sym (ap (placed_literals ts i) (some_same h)) ∙ heads_same e ∙ ap (placed_literals ts i) (some_same k)
  row_same (a ∷ rows) (b ∷ others) (suc n) r s h k e = row_same rows others n r s h k (tails_same e)

euclid_same : (ns : List Node) (ts : List Tree) (i n : ℕ) (ls ks : List Literal) → IsEuclid ns ts i n ls → IsEuclid ns ts i n ks → ls ≡ ks
euclid_same ns ts i n ls ks h k =
    h.clause
    ∙ row_same ts i h.rows k.rows n h.row k.row h.row_is k.row_is
    (rows_same ts i (node_at ns i).head (node_at ns i).head (node_at ns i).arguments (node_at ns i).arguments h.rows k.rows h.has k.has refl refl)
    ∙ sym k.clause

-- ---- each rule

pub rule_same : (ds : List Declaration) (ns : List Node) (ts asserted : List Tree) (before : List (List Literal)) (s : Step) (ls ks : List Literal)
    → IsByRule ds ns ts asserted before s ls → IsByRule ds ns ts asserted before s ks → SameLiterals ls ks
rule_same ds ns ts asserted before (Assert a i) ls ks h k = same_literals (h.clause ∙ sym k.clause)
rule_same ds ns ts asserted before (FormStep i ms) ls ks h k = same_literals (h.1 ∙ sym k.1)
rule_same ds ns ts asserted before (Pick i n) ls ks h k = same_literals (pick_same ds ns ts i n ls ks h k)
rule_same ds ns ts asserted before (Euclid i n) ls ks h k = same_literals (euclid_same ns ts i n ls ks h k)
rule_same ds ns ts asserted before (Refl i) ls ks h k = same_literals (h ∙ sym k)
rule_same ds ns ts asserted before (Sym i j) ls ks h k = same_literals (h ∙ sym k)
rule_same ds ns ts asserted before (Trans i j l) ls ks h k = same_literals (h ∙ sym k)
rule_same ds ns ts asserted before (Cong i j) ls ks h k = same_literals (h.clause ∙ sym k.clause)
rule_same ds ns ts asserted before (TruthStep i j) ls ks h k = same_literals (h ∙ sym k)
rule_same ds ns ts asserted before (Both i j) ls ks h k = same_literals (h ∙ sym k)
rule_same ds ns ts asserted before (Neither i j) ls ks h k = same_literals (h ∙ sym k)
rule_same ds ns ts asserted before (Link i j n) ls ks h k = same_literals (h.clause ∙ sym k.clause)
rule_same ds ns ts asserted before (Round l g) ls ks h k = same_literals (round_same l g ls ks h k)
rule_same ds ns ts asserted before (Farkas ws) ls ks h k = same_literals (h.clause ∙ sym k.clause)
rule_same ds ns ts asserted before (Res p q l) ls ks h k = resolution_same (clause_at before p) (clause_at before q) l ls ks h.gives k.gives

rule_over : (ds : List Declaration) (ns : List Node) (ts asserted : List Tree) (cs bs : List (List Literal)) → AreAlike cs bs → (s : Step) (ls : List Literal)
    → IsByRule ds ns ts asserted cs s ls → IsByRule ds ns ts asserted bs s ls
rule_over ds ns ts asserted cs bs same (Assert a i) ls h = h
rule_over ds ns ts asserted cs bs same (FormStep i ms) ls h = h
rule_over ds ns ts asserted cs bs same (Pick i n) ls h = h
rule_over ds ns ts asserted cs bs same (Euclid i n) ls h = h
rule_over ds ns ts asserted cs bs same (Refl i) ls h = h
rule_over ds ns ts asserted cs bs same (Sym i j) ls h = h
rule_over ds ns ts asserted cs bs same (Trans i j l) ls h = h
rule_over ds ns ts asserted cs bs same (Cong i j) ls h = h
rule_over ds ns ts asserted cs bs same (TruthStep i j) ls h = h
rule_over ds ns ts asserted cs bs same (Both i j) ls h = h
rule_over ds ns ts asserted cs bs same (Neither i j) ls h = h
rule_over ds ns ts asserted cs bs same (Link i j n) ls h = h
rule_over ds ns ts asserted cs bs same (Round l g) ls h = h
rule_over ds ns ts asserted cs bs same (Farkas ws) ls h = h
rule_over ds ns ts asserted cs bs same (Res p q l) ls h = record {
  left_earlier = omega (arith, h.left_earlier, as_long cs bs same);
  right_earlier = omega (arith, h.right_earlier, as_long cs bs same);
  gives = resolution_over (clause_at cs p) (clause_at cs q) (clause_at bs p) (clause_at bs q) l ls (alike_at cs bs p same) (alike_at cs bs q same) h.gives;
}

-- clauses with the same literals before it make no difference
pub gives_over : (ds : List Declaration) (ns : List Node) (ts asserted : List Tree) (cs bs : List (List Literal)) → AreAlike cs bs → (s : Step) (ls : List Literal)
    → Gives ds ns ts asserted cs s ls → Gives ds ns ts asserted bs s ls
gives_over ds ns ts asserted cs bs same s ls g = record { by_rule = rule_over ds ns ts asserted cs bs same s ls g.by_rule; literals = g.literals }
