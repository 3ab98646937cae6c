-- The rules of proofs: which clause a step gives, after the clauses of the steps before it.
use Rattle.std.specs.Prelude.{zero, suc, ◌≡◌, ◌≢◌, ◌⊎◌, ◌<◌, ◌≤◌, ℕ, Bool, true, false, not, List, [], ◌∷◌, ◌++◌, length, All, Contains, map, slice_get, slice_index_or, ℤ, pos, negsuc, ◌*◌, neg_ℤ, ◌<ℤ◌, Option, Some, None, ◌&&◌, ◌||◌, IsTrue}
use Rattle.smt_meaning.specs.declared.values.Value.{Value}
use Rattle.smt_meaning.specs.declared.values.Value.TheVariants.{Truth as IsTruth}
use Rattle.smt_meaning.specs.declared.terms.Head.{Head}
use Rattle.smt_meaning.specs.declared.terms.Head.TheVariants.{Numeral, Theory}
use Rattle.smt_meaning.specs.declared.terms.Operator.{Operator}
use Rattle.smt_meaning.specs.declared.terms.Operator.TheVariants.{Equal, Distinct, Ite, AtMost as IsAtMost, Less, AtLeast, Greater, Divide, Modulo, Absolute}
use Rattle.smt_meaning.specs.declared.nodes.Node.{Node}
use Rattle.smt_meaning.specs.declared.clauses.Summand.{Summand}
use Rattle.smt_meaning.specs.declared.clauses.Atom.{Atom}
use Rattle.smt_meaning.specs.declared.clauses.Atom.TheVariants.{Truth, AtMost, Same}
use Rattle.smt_meaning.specs.declared.clauses.Literal.{Literal}
use Rattle.proof_meaning.specs.declared.proof.Proof.{Proof}
use Rattle.proof_meaning.specs.declared.proof.Weighted.{Weighted}
use Rattle.proof_meaning.specs.declared.proof.Step.{Step}
use Rattle.proof_meaning.specs.declared.proof.Step.TheVariants.{Assert, Form as FormStep, Pick, Euclid, Refl, Sym, Trans, Cong, Truth as TruthStep, Both, Neither, Link, Round, Farkas, Res}
use Rattle.smt_meaning.specs.Declaration.{Declaration}
use Rattle.smt_meaning.specs.Term.{Tree, node, none, tree_at, operate, truth_of}
use Rattle.smt_meaning.specs.TreeShape.{quotient_tree}
use Rattle.smt_meaning.specs.Nodes.{pick}
use Rattle.smt_meaning.specs.Clause.{signed}
use Rattle.smt_meaning.specs.Linear.{Form, form_plus, form_times, number_form}
use Rattle.smt_laws.specs.Rows.{place_form, placed_literals}
use Rattle.smt_meaning.specs.Division.{Row, quotient_rows, remainder_rows, divisible_rows, absolute_rows}
use Rattle.smt_meaning.specs.Atoms.{divided, each_divided, DividesEach, difference_of, at_most_atom, below_atom}
use Rattle.smt_meaning.specs.Stack.{Frame, signature_of, assertions_of}
use Rattle.proof_meaning.specs.Proof.{AreTerms, node_at, IsBoolAt, IsIntAt, IsLiteral, meant, literal, negated, is_true, are_same}

-- ---- equality and truth

abbrev pub sym_clause : ℕ → ℕ → List Literal
sym_clause i j = negated (are_same i j) ∷ are_same j i ∷ []

abbrev pub trans_clause : ℕ → ℕ → ℕ → List Literal
trans_clause i j k = negated (are_same i j) ∷ negated (are_same j k) ∷ are_same i k ∷ []

abbrev pub truth_clause : ℕ → ℕ → List Literal
truth_clause i j = negated (are_same i j) ∷ negated (is_true i) ∷ is_true j ∷ []

abbrev pub both_clause : ℕ → ℕ → List Literal
both_clause i j = negated (is_true i) ∷ negated (is_true j) ∷ are_same i j ∷ []

abbrev pub neither_clause : ℕ → ℕ → List Literal
neither_clause i j = is_true i ∷ is_true j ∷ are_same i j ∷ []

-- that some two of the arguments in the same place differ
abbrev pub differing : List ℕ → List ℕ → List Literal
differing [] js = []
differing (i ∷ is) [] = []
differing (i ∷ is) (j ∷ js) = negated (are_same i j) ∷ differing is js

-- one head, and as many arguments
pub record IsCong (ns : List Node) (i j : ℕ) (ls : List Literal) : Type 0 where
  pub left_within : i < length ns
  pub right_within : j < length ns
  pub head : (node_at ns i).head ≡ (node_at ns j).head
  pub count : length (node_at ns i).arguments ≡ length (node_at ns j).arguments
  pub clause : ls ≡ differing (node_at ns i).arguments (node_at ns j).arguments ++ are_same i j ∷ []

-- ---- resolution: a clause is a set, so the order of its literals is free, and how often one stands in it

pub record IsResolution (p q : List Literal) (l : Literal) (ls : List Literal) : Type 0 where
  pub left : Contains p l
  pub right : Contains q (negated l)
  pub from_left : All (λ (m : Literal). (m ≡ l) ⊎ Contains ls m) p
  pub from_right : All (λ (m : Literal). (m ≡ negated l) ⊎ Contains ls m) q
  pub only : All (λ (m : Literal). (Contains p m × (m ≢ l)) ⊎ (Contains q m × (m ≢ negated l))) ls

-- ---- the parts of a term, and the truth value that they give it

-- some literal is true where atoms have these truth values
abbrev pub some_by : (Atom → Bool) → List Literal → Bool
some_by v [] = false
some_by v (l ∷ ls) = signed l.positive (v l.atom) || some_by v ls

abbrev pub truths : (Atom → Bool) → List ℕ → List Value
truths v is = map (λ i. IsTruth (v (Truth i))) is

abbrev pub every : (Atom → Bool) → List Atom → Bool
every v [] = true
every v (a ∷ rest) = v a && every v rest

abbrev pub no_one : (Atom → Bool) → List Atom → Bool
no_one v [] = true
no_one v (a ∷ rest) = not (v a) && no_one v rest

-- an atom of each two neighbours
abbrev pub along_from : (ℕ → ℕ → Atom) → ℕ → List ℕ → List Atom
along_from at i [] = []
along_from at i (j ∷ js) = at i j ∷ along_from at j js

abbrev pub along : (ℕ → ℕ → Atom) → List ℕ → List Atom
along at [] = []
along at (i ∷ is) = along_from at i is

-- the equality of each two
abbrev pub with_others : ℕ → List ℕ → List Atom
with_others i [] = []
with_others i (j ∷ js) = Same i j ∷ with_others i js

abbrev pub pairs : List ℕ → List Atom
pairs [] = []
pairs (i ∷ is) = with_others i is ++ pairs is

-- the normal bounds by which two Int terms compare
abbrev pub not_above : List Tree → ℕ → ℕ → Atom
not_above ts i j = at_most_atom ts (tree_at ts i) (tree_at ts j)

abbrev pub below : List Tree → ℕ → ℕ → Atom
below ts i j = below_atom ts (tree_at ts i) (tree_at ts j)

abbrev pub turned : (ℕ → ℕ → Atom) → ℕ → ℕ → Atom
turned at i j = at j i

abbrev pub IsOtherAt : List Declaration → List Tree → ℕ → Type 0
IsOtherAt ds ts i = IsBoolAt ds ts i → ⊥

-- the parts of a term with this operator and these arguments, and its truth value by theirs
pub data HasParts (ds : List Declaration) (ts : List Tree) : Operator → List ℕ → List Atom → ((Atom → Bool) → Bool) → Type 0 where
  of_bools : {o : Operator} {is : List ℕ} → All (IsBoolAt ds ts) is → HasParts ds ts o is (map Truth is) (λ v. truth_of (operate o (truths v is)))
  of_equal : {is : List ℕ} → All (IsOtherAt ds ts) is → HasParts ds ts Equal is (along Same is) (λ v. every v (along Same is))
  of_distinct : {is : List ℕ} → All (IsOtherAt ds ts) is → HasParts ds ts Distinct is (pairs is) (λ v. no_one v (pairs is))
  of_at_most : {is : List ℕ} → All (IsIntAt ds ts) is → HasParts ds ts IsAtMost is (along (not_above ts) is) (λ v. every v (along (not_above ts) is))
  of_less : {is : List ℕ} → All (IsIntAt ds ts) is → HasParts ds ts Less is (along (below ts) is) (λ v. every v (along (below ts) is))
  of_at_least : {is : List ℕ} → All (IsIntAt ds ts) is → HasParts ds ts AtLeast is (along (turned (not_above ts)) is) (λ v. every v (along (turned (not_above ts)) is))
  of_greater : {is : List ℕ} → All (IsIntAt ds ts) is → HasParts ds ts Greater is (along (turned (below ts)) is) (λ v. every v (along (turned (below ts)) is))

-- whatever truth values the parts have, where the term has the one that they give it, one of the literals is true
pub record IsForm (ds : List Declaration) (ns : List Node) (ts : List Tree) (i : ℕ) (ls : List Literal) : Type 0 where
  pub within : i < length ns
  pub operator : Operator
  pub head : (node_at ns i).head ≡ Theory operator
  pub parts : List Atom
  pub value : (Atom → Bool) → Bool
  pub by : HasParts ds ts operator (node_at ns i).arguments parts value
  pub on : All (λ (l : Literal). (l.atom ≡ Truth i) ⊎ Contains parts l.atom) ls
  pub always : (v : Atom → Bool) → v (Truth i) ≡ value v → IsTrue (some_by v ls)

abbrev pub pick_clause : ℕ → ℕ → ℕ → ℕ → ℕ → List Literal
pick_clause i zero c a b = negated (is_true c) ∷ are_same i a ∷ []
pick_clause i (suc n) c a b = is_true c ∷ are_same i b ∷ []

-- an `ite` of no Bools
pub record IsPick (ds : List Declaration) (ns : List Node) (ts : List Tree) (i which : ℕ) (ls : List Literal) : Type 0 where
  pub within : i < length ns
  pub which_is : which < 2
  pub condition : ℕ
  pub first : ℕ
  pub second : ℕ
  pub node_is : node_at ns i ≡ record { head = Theory Ite; arguments = condition ∷ first ∷ second ∷ [] }
  pub other : IsOtherAt ds ts i
  pub clause : ls ≡ pick_clause i which condition first second

-- ---- equalities of Ints, and bounds

-- the first is at most the second: their difference as it is folded, not divided
abbrev pub folded_bound : List Tree → ℕ → ℕ → Atom
folded_bound ts i j = let f : Form = difference_of ts (tree_at ts i) (tree_at ts j) in AtMost f.sum (neg_ℤ f.constant)

abbrev pub link_clause : List Tree → ℕ → ℕ → ℕ → List Literal
link_clause ts i j zero = negated (are_same i j) ∷ literal true (folded_bound ts i j) ∷ []
link_clause ts i j (suc zero) = negated (are_same i j) ∷ literal true (folded_bound ts j i) ∷ []
link_clause ts i j (suc (suc n)) = literal false (folded_bound ts i j) ∷ literal false (folded_bound ts j i) ∷ are_same i j ∷ []

pub record IsLink (ds : List Declaration) (ts : List Tree) (i j which : ℕ) (ls : List Literal) : Type 0 where
  pub which_is : which < 3
  pub left : IsIntAt ds ts i
  pub right : IsIntAt ds ts j
  pub clause : ls ≡ link_clause ts i j which

-- a bound, divided by a number that divides each coefficient; over whole numbers what is left of the constant is rounded down
pub record IsRound (l : Literal) (g : ℕ) (ls : List Literal) : Type 0 where
  pub sum : List Summand
  pub most : ℤ
  pub literal_is : l ≡ literal true (AtMost sum most)
  pub above : 0 < g
  pub divides : DividesEach g sum
  pub clause : ls ≡ literal false (AtMost sum most) ∷ literal true (AtMost (each_divided (pos g) sum) (divided most (pos g))) ∷ []

-- ---- divisions

-- the number of a term, by which a division divides
abbrev pub divisor_at : List Tree → ℕ → ℤ
divisor_at ts i = (place_form ts i).constant

-- the rows of the table of divisions for a term with this head and these arguments; where they speak of a quotient that isn't the term, it is a term, too
pub data HasRows (ts : List Tree) (i : ℕ) : Head → List ℕ → List (Row ℕ) → Type 0 where
  of_quotient : (a n : ℕ) → HasRows ts i (Theory Divide) (a ∷ n ∷ []) (quotient_rows a (divisor_at ts n) i)
  -- by several divisors: the quotient by all but the last is divided by the last
  of_last_quotient : (a n : ℕ) (is : List ℕ) → 2 ≤ length is → tree_at ts a ≡ node (Theory Divide) (pick ts is)
      → HasRows ts i (Theory Divide) (is ++ n ∷ []) (quotient_rows a (divisor_at ts n) i)
  of_remainder : (a n q : ℕ) → tree_at ts q ≡ quotient_tree (tree_at ts a) (tree_at ts n)
      → HasRows ts i (Theory Modulo) (a ∷ n ∷ []) (remainder_rows a (divisor_at ts n) q i)
  of_divisibility : (a q : ℕ) (n : ℤ) → tree_at ts q ≡ quotient_tree (tree_at ts a) (node (Numeral n) none)
      → HasRows ts i (Numeral n) (a ∷ []) (divisible_rows a n q)
  of_absolute : (a : ℕ) → HasRows ts i (Theory Absolute) (a ∷ []) (absolute_rows a i)

-- the clause of a row, by its number: one of its limits holds, or the term has the truth value of which it speaks
pub record IsEuclid (ns : List Node) (ts : List Tree) (i n : ℕ) (ls : List Literal) : Type 0 where
  pub within : i < length ns
  pub rows : List (Row ℕ)
  pub has : HasRows ts i (node_at ns i).head (node_at ns i).arguments rows
  pub row : Row ℕ
  pub row_is : slice_get rows n ≡ Some row
  pub clause : ls ≡ placed_literals ts i row

-- ---- multiples of bounds

-- what is at most 0 where a literal on a bound is false; of another literal nothing
abbrev pub false_bound : Bool → Atom → Option Form
false_bound true (AtMost ps k) = Some (form_plus (form_times (negsuc 0) (record { sum = ps; constant = neg_ℤ k })) (number_form (pos 1)))
false_bound false (AtMost ps k) = Some (record { sum = ps; constant = neg_ℤ k })
false_bound b a = None

abbrev pub add_times : ℕ → Option Form → Option Form → Option Form
add_times w (Some f) (Some g) = Some (form_plus (form_times (pos w) f) g)
add_times w _ _ = None

-- the multiples of all
abbrev pub total : List Weighted → List ℕ → Option Form
total [] ns = Some (number_form (pos 0))
total (w ∷ ws) [] = None
total (w ∷ ws) (n ∷ ns) = add_times n (false_bound w.literal.positive w.literal.atom) (total ws ns)

-- whole weights that are the multipliers, above 0, times one number
abbrev pub AreScaled : ℕ → List Weighted → List ℕ → Type 0
AreScaled k [] [] = Unit {0}
AreScaled k (w ∷ ws) (n ∷ ns) = (0 < w.numerator) × (0 < w.denominator) × (n * w.denominator ≡ w.numerator * k) × AreScaled k ws ns
AreScaled k _ _ = ⊥

-- where all are false, they add up to a number above 0 that is at most 0; multipliers are fractions, here over one denominator
pub record IsFarkas (ws : List Weighted) (ls : List Literal) : Type 0 where
  pub scale : ℕ
  pub scale_above : 0 < scale
  pub weights : List ℕ
  pub scaled : AreScaled scale ws weights
  pub constant : ℤ
  pub sums : total ws weights ≡ Some (record { sum = []; constant = constant })
  pub above : pos 0 <ℤ constant
  pub clause : ls ≡ map (λ (w : Weighted). w.literal) ws

-- ---- assertions

pub record IsAssertion (ts asserted : List Tree) (a i : ℕ) (ls : List Literal) : Type 0 where
  pub asserted_within : a < length asserted
  pub within : i < length ts
  pub tree_is : meant (tree_at ts i) ≡ tree_at asserted a
  pub clause : ls ≡ is_true i ∷ []

-- ---- steps

abbrev pub clause_at : List (List Literal) → ℕ → List Literal
clause_at before n = slice_index_or before n []

pub record IsEarlierResolution (before : List (List Literal)) (p q : ℕ) (l : Literal) (ls : List Literal) : Type 0 where
  pub left_earlier : p < length before
  pub right_earlier : q < length before
  pub gives : IsResolution (clause_at before p) (clause_at before q) l ls

-- the clause is the one of the step's rule
abbrev pub IsByRule : List Declaration → List Node → List Tree → List Tree → List (List Literal) → Step → List Literal → Type 0
IsByRule ds ns ts asserted before (Assert a i) ls = IsAssertion ts asserted a i ls
IsByRule ds ns ts asserted before (FormStep i ms) ls = IsForm ds ns ts i ls × (ls ≡ ms)
IsByRule ds ns ts asserted before (Pick i n) ls = IsPick ds ns ts i n ls
IsByRule ds ns ts asserted before (Euclid i n) ls = IsEuclid ns ts i n ls
IsByRule ds ns ts asserted before (Refl i) ls = ls ≡ are_same i i ∷ []
IsByRule ds ns ts asserted before (Sym i j) ls = ls ≡ sym_clause i j
IsByRule ds ns ts asserted before (Trans i j k) ls = ls ≡ trans_clause i j k
IsByRule ds ns ts asserted before (Cong i j) ls = IsCong ns i j ls
IsByRule ds ns ts asserted before (TruthStep i j) ls = ls ≡ truth_clause i j
IsByRule ds ns ts asserted before (Both i j) ls = ls ≡ both_clause i j
IsByRule ds ns ts asserted before (Neither i j) ls = ls ≡ neither_clause i j
IsByRule ds ns ts asserted before (Link i j n) ls = IsLink ds ts i j n ls
IsByRule ds ns ts asserted before (Round l g) ls = IsRound l g ls
IsByRule ds ns ts asserted before (Farkas ws) ls = IsFarkas ws ls
IsByRule ds ns ts asserted before (Res p q l) ls = IsEarlierResolution before p q l ls

-- and its literals are over the proof's terms, of the right sorts
pub record Gives (ds : List Declaration) (ns : List Node) (ts asserted : List Tree) (before : List (List Literal)) (step : Step) (ls : List Literal) : Type 0 where
  pub by_rule : IsByRule ds ns ts asserted before step ls
  pub literals : All (IsLiteral ds ts) ls

-- the steps, one after the other, and the clauses that they give
pub data Runs (ds : List Declaration) (ns : List Node) (ts asserted : List Tree) : List Step → List (List Literal) → Type 0 where
  no_steps : Runs ds ns ts asserted [] []
  next_step : {steps : List Step} {before : List (List Literal)} → Runs ds ns ts asserted steps before → (step : Step) (ls : List Literal)
      → Gives ds ns ts asserted before step ls → Runs ds ns ts asserted (steps ++ step ∷ []) (before ++ ls ∷ [])

-- ---- proofs

-- each term and each step is by its rule
pub record IsByRules (frames : List Frame) (p : Proof) (ts : List Tree) (clauses : List (List Literal)) : Type 0 where
  pub terms : AreTerms (signature_of frames) p.nodes ts
  pub steps : Runs (signature_of frames) p.nodes ts (assertions_of frames) p.steps clauses

-- and the last clause is the empty one
pub record IsGood (frames : List Frame) (p : Proof) : Type 0 where
  pub trees : List Tree
  pub clauses : List (List Literal)
  pub by_rules : IsByRules frames p trees (clauses ++ [] ∷ [])
