-- What is read, and numbers of terms and steps that are too large to be any.
use Rattle.std.proofs.Common.{◌≡◌, ℕ, ◌<◌, ◌≤◌, ◌^◌, Bool, true, false, ◌&&◌, List, [], ◌∷◌, ◌++◌, length, map, All, Option, Some, nat_lt, refl, sym, ap, ◌∙◌, subst, arith}
use Rattle.std.specs.Prelude.{slice_get}
use Rattle.std.proofs.lemmas.List.Elements.{All-head, All-tail, All-contains}
use Rattle.std.proofs.lemmas.Option.{slice_get_within}
use Rattle.smt_meaning.specs.declared.terms.Head.{Head}
use Rattle.smt_meaning.specs.declared.nodes.Node.{Node}
use Rattle.smt_meaning.specs.declared.clauses.Summand.{Summand}
use Rattle.smt_meaning.specs.declared.clauses.Atom.{Atom}
use Rattle.smt_meaning.specs.declared.clauses.Atom.TheVariants.{Truth, AtMost, Same}
use Rattle.smt_meaning.specs.declared.clauses.Literal.{Literal}
use Rattle.proof_meaning.specs.declared.proof.Weighted.{Weighted}
use Rattle.proof_meaning.specs.declared.proof.Step.{Step}
use Rattle.proof_meaning.specs.declared.proof.Step.TheVariants.{Assert, Form as FormStep, Pick, Euclid, Refl, Sym, Trans, Cong, Truth as TruthStep, Both, Neither, Link, Round, Farkas, Res}
use Rattle.smt_meaning.specs.Declaration.{Declaration}
use Rattle.smt_meaning.specs.Sexp.{Sexp}
use Rattle.smt_meaning.specs.Term.{Tree}
use Rattle.smt_meaning.specs.Division.{Row}
use Rattle.proof_meaning.specs.Proof.{IsTerm, node_at, IsSummand, IsLiteral, IsAtom, literal, negated, is_true, are_same}
use Rattle.proof_meaning.specs.Rules.{HasRows, of_quotient, of_last_quotient, of_remainder, of_divisibility, of_absolute, Gives, clause_at, sym_clause, trans_clause, truth_clause, both_clause, neither_clause}
use Rattle.proof_meaning.specs.Reading.{AreRead}
use Rattle.proof_terms.specs.Range.{RuleLeaves, IsWeighted}
use Rattle.proof_read.specs.Reads.{is_term_number, is_step_number, leaves_near, atom_near, literals_near, weights_near, numbers_near, places_near}
use Rattle.proof_terms.specs.Terms.{ProofTerms}
use Rattle.proof_terms.specs.Comes.{AreLiterals}

pub read_push : {A : Type 0} (f : Sexp → Option A) (xs : List Sexp) (bs : List A) (x : Sexp) (a : A) → AreRead f xs bs → f x ≡ Some a → AreRead f (xs ++ x ∷ []) (bs ++ a ∷ [])
read_push f [] [] x a h e = (e, tt)
read_push f (y ∷ ys) (b ∷ bs) x a h e = (h.0, read_push f ys bs x a h.1 e)
read_push f [] (b ∷ bs) x a h e = absurd h
read_push f (y ∷ ys) [] x a h e = absurd h

both : (a b : Bool) → a ≡ true → b ≡ true → (a && b) ≡ true
both true b h k = k
both false b h k = cc

three : (a b c : Bool) → a ≡ true → b ≡ true → c ≡ true → (a && (b && c)) ≡ true
three a b c h k l = both a (b && c) h (both b c k l)

below_true : (a b : ℕ) → a < b → nat_lt a b ≡ true
below_true a b h = grind arith

near : (i m : ℕ) → i < m → m ≤ 2 ^ 32 → is_term_number i ≡ true
near i m h few = below_true i (2 ^ 32) (omega (arith, h, few))

step_near : (i m : ℕ) → i < m → m ≤ 2 ^ 64 → is_step_number i ≡ true
step_near i m h few = below_true i (2 ^ 64) (omega (arith, h, few))

-- ---- terms

all_near : (is : List ℕ) (m : ℕ) → m ≤ 2 ^ 32 → All (λ i. i < m) is → numbers_near is ≡ true
all_near [] m few all = refl
all_near (i ∷ is) m few all = both (is_term_number i) (numbers_near is) (near i m (All-head (λ (k : ℕ). k < m) i is all) few) (all_near is m few (All-tail (λ (k : ℕ). k < m) i is all))

pub far_is_no_term : (ds : List Declaration) (ts : List Tree) (n : Node) → length ts ≤ 2 ^ 32 → numbers_near n.arguments ≡ false → IsTerm ds ts n → ⊥
far_is_no_term ds ts n few far t = let near_all : numbers_near n.arguments ≡ true = all_near n.arguments (length ts) few t.earlier in cc

-- ---- literals

summands_near : (ds : List Declaration) (ts : List Tree) (ps : List Summand) → length ts ≤ 2 ^ 32 → All (IsSummand ds ts) ps → leaves_near ps ≡ true
summands_near ds ts [] few all = refl
summands_near ds ts (p ∷ ps) few all =
    both (is_term_number p.term) (leaves_near ps) (near p.term (length ts) (All-head (IsSummand ds ts) p ps all).int.0 few)
    (summands_near ds ts ps few (All-tail (IsSummand ds ts) p ps all))

is_near : (ds : List Declaration) (ts : List Tree) (a : Atom) → length ts ≤ 2 ^ 32 → IsAtom ds ts a → atom_near a ≡ true
is_near ds ts (Truth i) few h = near i (length ts) h.0 few
is_near ds ts (Same i j) few h = both (is_term_number i) (is_term_number j) (near i (length ts) h.0 few) (near j (length ts) h.1 few)
is_near ds ts (AtMost ps k) few h = summands_near ds ts ps few h.0

all_literals_near : (ds : List Declaration) (ts : List Tree) (ls : List Literal) → length ts ≤ 2 ^ 32 → All (IsLiteral ds ts) ls → literals_near ls ≡ true
all_literals_near ds ts [] few all = refl
all_literals_near ds ts (l ∷ ls) few all =
    both (atom_near l.atom) (literals_near ls) (is_near ds ts l.atom few (All-head (IsLiteral ds ts) l ls all)) (all_literals_near ds ts ls few (All-tail (IsLiteral ds ts) l ls all))

all_weights_near : (ds : List Declaration) (ts : List Tree) (ws : List Weighted) → length ts ≤ 2 ^ 32 → All (IsWeighted ds ts) ws → weights_near ws ≡ true
all_weights_near ds ts [] few all = refl
all_weights_near ds ts (w ∷ ws) few all =
    both (atom_near w.literal.atom) (weights_near ws) (is_near ds ts w.literal.atom few (All-head (IsWeighted ds ts) w ws all).literal) (all_weights_near ds ts ws few (All-tail (IsWeighted ds ts) w ws all))

literals_of_weights_near : (ds : List Declaration) (ts : List Tree) (ws : List Weighted) → length ts ≤ 2 ^ 32 → All (IsLiteral ds ts) (map (λ (w : Weighted). w.literal) ws) → weights_near ws ≡ true
literals_of_weights_near ds ts [] few all = refl
literals_of_weights_near ds ts (w ∷ ws) few all =
    let rest : List Literal = map (λ (v : Weighted). v.literal) ws in
    both (atom_near w.literal.atom) (weights_near ws) (is_near ds ts w.literal.atom few (All-head (IsLiteral ds ts) w.literal rest all)) (literals_of_weights_near ds ts ws few (All-tail (IsLiteral ds ts) w.literal rest all))

-- ---- steps

rows_few : (ts : List Tree) (i : ℕ) (h : Head) (is : List ℕ) (rows : List (Row ℕ)) → HasRows ts i h is rows → length rows ≤ 4
rows_few ts i _ _ _ (of_quotient a n) = omega arith
rows_few ts i _ _ _ (of_last_quotient a n is two e) = omega arith
rows_few ts i _ _ _ (of_remainder a n q e) = omega arith
rows_few ts i _ _ _ (of_divisibility a q n e) = omega arith
rows_few ts i _ _ _ (of_absolute a) = omega arith

-- the number of a row is small
row_near : (ts : List Tree) (i : ℕ) (h : Head) (is : List ℕ) (rows : List (Row ℕ)) (n : ℕ) (r : Row ℕ) → HasRows ts i h is rows → slice_get rows n ≡ Some r → is_step_number n ≡ true
row_near ts i h is rows n r k e =
    let few : length rows ≤ 4 = rows_few ts i h is rows k in
    step_near n (length rows) (slice_get_within rows n r e) (omega arith)

-- what leaves the range in a rule names terms that are there
leaving_is_near : (t : ProofTerms) (s : Step) → length t.trees ≤ 2 ^ 32 → length t.trees ≡ length t.nodes → RuleLeaves t.declared t.nodes t.trees s → places_near s ≡ true
leaving_is_near t (FormStep i ls) few same h =
    both (is_term_number i) (literals_near ls) (near i (length t.trees) (subst (λ n. i < n) (sym same) h.within) few) (all_literals_near t.declared t.trees ls few h.literals)
leaving_is_near t (Link i j n) few same h =
    three (is_term_number i) (is_term_number j) (is_step_number n) (near i (length t.trees) h.left.0 few) (near j (length t.trees) h.right.0 few) (step_near n 3 h.which_is (omega arith))
leaving_is_near t (Farkas ws) few same h = all_weights_near t.declared t.trees ws few h.weighted
leaving_is_near t (Assert a i) few same h = absurd h
leaving_is_near t (Pick i n) few same h = absurd h
leaving_is_near t (Euclid i n) few same h =
    both (is_term_number i) (is_step_number n) (near i (length t.trees) (subst (λ m. i < m) (sym same) h.within) few)
    (row_near t.trees i (node_at t.nodes i).head (node_at t.nodes i).arguments h.rows n h.row h.has h.row_is)
leaving_is_near t (Refl i) few same h = absurd h
leaving_is_near t (Sym i j) few same h = absurd h
leaving_is_near t (Trans i j k) few same h = absurd h
leaving_is_near t (Cong i j) few same h = absurd h
leaving_is_near t (TruthStep i j) few same h = absurd h
leaving_is_near t (Both i j) few same h = absurd h
leaving_is_near t (Neither i j) few same h = absurd h
leaving_is_near t (Round l g) few same h = absurd h
leaving_is_near t (Res p q l) few same h = absurd h

head_of : (ds : List Declaration) (ts : List Tree) (l : Literal) (ls : List Literal) → All (IsLiteral ds ts) (l ∷ ls) → IsLiteral ds ts l
head_of ds ts l ls all = All-head (IsLiteral ds ts) l ls all

next_of : (ds : List Declaration) (ts : List Tree) (l m : Literal) (ls : List Literal) → All (IsLiteral ds ts) (l ∷ m ∷ ls) → IsLiteral ds ts m
next_of ds ts l m ls all = All-head (IsLiteral ds ts) m ls (All-tail (IsLiteral ds ts) l (m ∷ ls) all)

-- a step that gives a clause names terms and steps that are there
giving_is_near : (t : ProofTerms) (asserted : List Tree) (before : List (List Literal)) (s : Step) (ls : List Literal)
    → length t.trees ≤ 2 ^ 32 → length t.trees ≡ length t.nodes → length asserted ≤ 2 ^ 64 → length before ≤ 2 ^ 64 → AreLiterals t before
    → Gives t.declared t.nodes t.trees asserted before s ls → places_near s ≡ true
giving_is_near t asserted before (Assert a i) ls few same fa fb lits g =
    both (is_step_number a) (is_term_number i) (step_near a (length asserted) g.by_rule.asserted_within fa) (near i (length t.trees) g.by_rule.within few)
giving_is_near t asserted before (FormStep i ms) ls few same fa fb lits g =
    both (is_term_number i) (literals_near ms) (near i (length t.trees) (subst (λ n. i < n) (sym same) g.by_rule.0.within) few)
    (all_literals_near t.declared t.trees ms few (subst (All (IsLiteral t.declared t.trees)) g.by_rule.1 g.literals))
giving_is_near t asserted before (Pick i n) ls few same fa fb lits g =
    both (is_term_number i) (is_step_number n) (near i (length t.trees) (subst (λ m. i < m) (sym same) g.by_rule.within) few) (step_near n 2 g.by_rule.which_is (omega arith))
giving_is_near t asserted before (Euclid i n) ls few same fa fb lits g =
    let r = g.by_rule in
    both (is_term_number i) (is_step_number n) (near i (length t.trees) (subst (λ m. i < m) (sym same) r.within) few)
    (row_near t.trees i (node_at t.nodes i).head (node_at t.nodes i).arguments r.rows n r.row r.has r.row_is)
giving_is_near t asserted before (Refl i) ls few same fa fb lits g =
    let own : All (IsLiteral t.declared t.trees) (are_same i i ∷ []) = subst (All (IsLiteral t.declared t.trees)) g.by_rule g.literals in
    near i (length t.trees) (head_of t.declared t.trees (are_same i i) [] own).0 few
giving_is_near t asserted before (Sym i j) ls few same fa fb lits g =
    let own : All (IsLiteral t.declared t.trees) (sym_clause i j) = subst (All (IsLiteral t.declared t.trees)) g.by_rule g.literals in
    let h : IsLiteral t.declared t.trees (negated (are_same i j)) = head_of t.declared t.trees (negated (are_same i j)) (are_same j i ∷ []) own in
    both (is_term_number i) (is_term_number j) (near i (length t.trees) h.0 few) (near j (length t.trees) h.1 few)
giving_is_near t asserted before (Trans i j k) ls few same fa fb lits g =
    let own : All (IsLiteral t.declared t.trees) (trans_clause i j k) = subst (All (IsLiteral t.declared t.trees)) g.by_rule g.literals in
    let h : IsLiteral t.declared t.trees (negated (are_same i j)) = head_of t.declared t.trees (negated (are_same i j)) (negated (are_same j k) ∷ are_same i k ∷ []) own in
    let n : IsLiteral t.declared t.trees (negated (are_same j k)) = next_of t.declared t.trees (negated (are_same i j)) (negated (are_same j k)) (are_same i k ∷ []) own in
    three (is_term_number i) (is_term_number j) (is_term_number k) (near i (length t.trees) h.0 few) (near j (length t.trees) h.1 few) (near k (length t.trees) n.1 few)
giving_is_near t asserted before (Cong i j) ls few same fa fb lits g =
    both (is_term_number i) (is_term_number j) (near i (length t.trees) (subst (λ m. i < m) (sym same) g.by_rule.left_within) few)
    (near j (length t.trees) (subst (λ m. j < m) (sym same) g.by_rule.right_within) few)
giving_is_near t asserted before (TruthStep i j) ls few same fa fb lits g =
    let own : All (IsLiteral t.declared t.trees) (truth_clause i j) = subst (All (IsLiteral t.declared t.trees)) g.by_rule g.literals in
    let h : IsLiteral t.declared t.trees (negated (are_same i j)) = head_of t.declared t.trees (negated (are_same i j)) (negated (is_true i) ∷ is_true j ∷ []) own in
    both (is_term_number i) (is_term_number j) (near i (length t.trees) h.0 few) (near j (length t.trees) h.1 few)
giving_is_near t asserted before (Both i j) ls few same fa fb lits g =
    let own : All (IsLiteral t.declared t.trees) (both_clause i j) = subst (All (IsLiteral t.declared t.trees)) g.by_rule g.literals in
    both (is_term_number i) (is_term_number j)
    (near i (length t.trees) (head_of t.declared t.trees (negated (is_true i)) (negated (is_true j) ∷ are_same i j ∷ []) own).0 few)
    (near j (length t.trees) (next_of t.declared t.trees (negated (is_true i)) (negated (is_true j)) (are_same i j ∷ []) own).0 few)
giving_is_near t asserted before (Neither i j) ls few same fa fb lits g =
    let own : All (IsLiteral t.declared t.trees) (neither_clause i j) = subst (All (IsLiteral t.declared t.trees)) g.by_rule g.literals in
    both (is_term_number i) (is_term_number j)
    (near i (length t.trees) (head_of t.declared t.trees (is_true i) (is_true j ∷ are_same i j ∷ []) own).0 few)
    (near j (length t.trees) (next_of t.declared t.trees (is_true i) (is_true j) (are_same i j ∷ []) own).0 few)
giving_is_near t asserted before (Link i j n) ls few same fa fb lits g =
    three (is_term_number i) (is_term_number j) (is_step_number n) (near i (length t.trees) g.by_rule.left.0 few) (near j (length t.trees) g.by_rule.right.0 few)
    (step_near n 3 g.by_rule.which_is (omega arith))
giving_is_near t asserted before (Round l k) ls few same fa fb lits g =
    let own : All (IsLiteral t.declared t.trees) ls = g.literals in
    let r = g.by_rule in
    let first : IsLiteral t.declared t.trees (literal false (AtMost r.sum r.most)) =
    subst (All (IsLiteral t.declared t.trees)) r.clause own 0 (literal false (AtMost r.sum r.most)) (omega arith) in
    ap (λ (m : Literal). atom_near m.atom) r.literal_is ∙ is_near t.declared t.trees (AtMost r.sum r.most) few first
giving_is_near t asserted before (Farkas ws) ls few same fa fb lits g =
    literals_of_weights_near t.declared t.trees ws few (subst (All (IsLiteral t.declared t.trees)) g.by_rule.clause g.literals)
giving_is_near t asserted before (Res p q l) ls few same fa fb lits g =
    three (is_step_number p) (is_step_number q) (atom_near l.atom) (step_near p (length before) g.by_rule.left_earlier fb) (step_near q (length before) g.by_rule.right_earlier fb)
    (is_near t.declared t.trees l.atom few
    (All-contains (IsLiteral t.declared t.trees) (clause_at before p) l (lits p [] g.by_rule.left_earlier) g.by_rule.gives.left))

pub far_leaves_not : (t : ProofTerms) (s : Step) → length t.trees ≤ 2 ^ 32 → length t.trees ≡ length t.nodes → places_near s ≡ false → RuleLeaves t.declared t.nodes t.trees s → ⊥
far_leaves_not t s few same far h = let n : places_near s ≡ true = leaving_is_near t s few same h in cc

pub far_gives_not : (t : ProofTerms) (asserted : List Tree) (before : List (List Literal)) (s : Step) (ls : List Literal)
    → length t.trees ≤ 2 ^ 32 → length t.trees ≡ length t.nodes → length asserted ≤ 2 ^ 64 → length before ≤ 2 ^ 64 → AreLiterals t before → places_near s ≡ false
    → Gives t.declared t.nodes t.trees asserted before s ls → ⊥
far_gives_not t asserted before s ls few same fa fb lits far g = let n : places_near s ≡ true = giving_is_near t asserted before s ls few same fa fb lits g in cc
