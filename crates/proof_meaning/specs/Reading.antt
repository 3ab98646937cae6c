-- What an s-expression says as a proof, and what is to be found of it. Numbers have no bound here.
use Rattle.std.specs.Prelude.{◌≡◌, zero, suc, ℕ, ℤ, pos, negsuc, Bool, true, false, not, ◌&&◌, ◌||◌, List, [], ◌∷◌, ◌++◌, length, Option, Some, None, nat_eq, nat_le, bytes_eq, codes, if◌then◌else◌}
use Rattle.smt_meaning.specs.declared.tokens.Token.TheVariants.{Numeral, Symbol}
use Rattle.smt_meaning.specs.declared.terms.Head.{Head}
use Rattle.smt_meaning.specs.declared.terms.Head.TheVariants.{Numeral as Number, Theory, Symbol as Function}
use Rattle.smt_meaning.specs.declared.terms.Operator.{Operator}
use Rattle.smt_meaning.specs.declared.nodes.Node.{Node}
use Rattle.smt_meaning.specs.declared.clauses.Summand.{Summand}
use Rattle.smt_meaning.specs.declared.clauses.Atom.{Atom}
use Rattle.smt_meaning.specs.declared.clauses.Atom.TheVariants.{Truth, AtMost, Same}
use Rattle.smt_meaning.specs.declared.clauses.Literal.{Literal}
use Rattle.proof_meaning.specs.declared.proof.Proof.{Proof}
use Rattle.proof_meaning.specs.declared.proof.Weighted.{Weighted}
use Rattle.proof_meaning.specs.declared.proof.Step.{Step}
use Rattle.proof_meaning.specs.declared.proof.Step.TheVariants as Rule
use Rattle.smt_meaning.specs.Sexp.{Sexp, Sexps, word, group, end, ◌▸◌}
use Rattle.smt_meaning.specs.Declaration.{Declaration}
use Rattle.smt_meaning.specs.Signature.{look_up, operators, find_function, is_symbol}
use Rattle.smt_meaning.specs.Sorts.{decimal, is_small, head_number}
use Rattle.smt_meaning.specs.Command.{each}
use Rattle.smt_meaning.specs.Term.{Tree}
use Rattle.smt_meaning.specs.Stack.{Frame, signature_of, assertions_of}
use Rattle.smt_meaning.specs.Linear.{summand, is_zero, sums_added}
use Rattle.proof_meaning.specs.Proof.{IsTerm, AreTerms, literal}
use Rattle.proof_meaning.specs.Rules.{Gives, Runs, IsByRules, IsGood}

-- what the first reading gives, read on
abbrev pub with : {A B : Type 0} → Option A → (A → Option B) → Option B
with None f = None
with (Some a) f = f a

-- ---- numbers

abbrev pub number : Sexp → Option ℕ
number (word (Numeral cs)) = Some (decimal cs)
number _ = None

abbrev pub below_zero : ℕ → Option ℤ
below_zero zero = None
below_zero (suc n) = Some (negsuc n)

-- as values print: a numeral, or `(- n)` of one that isn't 0
abbrev pub integer : Sexp → Option ℤ
integer (word (Numeral cs)) = Some (pos (decimal cs))
integer (group (word (Symbol n) ▸ word (Numeral cs) ▸ end)) = if bytes_eq n (codes "-") then below_zero (decimal cs) else None
integer _ = None

-- ---- literals

-- (coefficient leaf)
abbrev pub summand_read : Sexp → Option Summand
summand_read (group (c ▸ i ▸ end)) = with (integer c) (λ k. with (number i) (λ p. Some (summand p k)))
summand_read _ = None

abbrev pub names_place : ℕ → List Summand → Bool
names_place i [] = false
names_place i (p ∷ ps) = nat_eq i p.term || names_place i ps

-- no coefficient is 0, and no leaf stands twice
abbrev pub are_summands : List Summand → Bool
are_summands [] = true
are_summands (p ∷ ps) = not (is_zero p.coefficient) && (not (names_place p.term ps) && are_summands ps)

-- the order in which summands are written is free: a sum is the one with ascending leaves
abbrev pub bound_read : List Summand → ℤ → Option Atom
bound_read ps k = if are_summands ps then Some (AtMost (sums_added ps []) k) else None

abbrev pub truth_read : Sexps → Option Atom
truth_read (i ▸ end) = with (number i) (λ a. Some (Truth a))
truth_read _ = None

abbrev pub same_read : Sexps → Option Atom
same_read (i ▸ j ▸ end) = with (number i) (λ a. with (number j) (λ b. Some (Same a b)))
same_read _ = None

abbrev pub at_most_read : Sexps → Option Atom
at_most_read (group ps ▸ k ▸ end) = with (each summand_read ps) (λ qs. with (integer k) (λ m. bound_read qs m))
at_most_read _ = None

abbrev pub atom_forms : List (List ℕ × (Sexps → Option Atom))
atom_forms = (codes "t", truth_read) ∷ (codes "s", same_read) ∷ (codes "le", at_most_read) ∷ []

abbrev pub atom_read : Sexp → Option Atom
atom_read (group (word (Symbol n) ▸ ss)) = with (look_up n atom_forms) (λ f. f ss)
atom_read _ = None

abbrev pub signed_read : Bool → Sexp → Option Literal
signed_read b s = with (atom_read s) (λ a. Some (literal b a))

-- an atom, or `(not ..)` of one
abbrev pub literal_read : Sexp → Option Literal
literal_read (group (word (Symbol n) ▸ s ▸ end)) = if bytes_eq n (codes "not") then signed_read false s else signed_read true (group (word (Symbol n) ▸ s ▸ end))
literal_read s = signed_read true s

-- ---- steps

abbrev pub one_place : (ℕ → Step) → Sexps → Option Step
one_place f (i ▸ end) = with (number i) (λ a. Some (f a))
one_place f _ = None

abbrev pub two_places : (ℕ → ℕ → Step) → Sexps → Option Step
two_places f (i ▸ j ▸ end) = with (number i) (λ a. with (number j) (λ b. Some (f a b)))
two_places f _ = None

abbrev pub three_places : (ℕ → ℕ → ℕ → Step) → Sexps → Option Step
three_places f (i ▸ j ▸ k ▸ end) = with (number i) (λ a. with (number j) (λ b. with (number k) (λ c. Some (f a b c))))
three_places f _ = None

-- (form place literal ..)
abbrev pub form_read : Sexps → Option Step
form_read (i ▸ ls) = with (number i) (λ a. with (each literal_read ls) (λ ms. Some (Rule.Form a ms)))
form_read _ = None

-- (round literal divisor)
abbrev pub round_read : Sexps → Option Step
round_read (l ▸ g ▸ end) = with (literal_read l) (λ m. with (number g) (λ k. Some (Rule.Round m k)))
round_read _ = None

abbrev pub quotient_read : List ℕ → Sexp → Sexp → Literal → Option Weighted
quotient_read n a b l =
    if bytes_eq n (codes "/") then with (number a) (λ p. with (number b) (λ q. Some (record { numerator = p; denominator = q; literal = l }))) else None

-- a numeral, or `(/ a b)`
abbrev pub multiplier_read : Sexp → Literal → Option Weighted
multiplier_read (word (Numeral cs)) l = Some (record { numerator = decimal cs; denominator = 1; literal = l })
multiplier_read (group (word (Symbol n) ▸ a ▸ b ▸ end)) l = quotient_read n a b l
multiplier_read _ l = None

-- (multiplier literal)
abbrev pub weighted_read : Sexp → Option Weighted
weighted_read (group (m ▸ l ▸ end)) = with (literal_read l) (λ k. multiplier_read m k)
weighted_read _ = None

abbrev pub farkas_read : Sexps → Option Step
farkas_read ss = with (each weighted_read ss) (λ ws. Some (Rule.Farkas ws))

-- (res step step literal)
abbrev pub res_read : Sexps → Option Step
res_read (p ▸ q ▸ l ▸ end) = with (number p) (λ a. with (number q) (λ b. with (literal_read l) (λ m. Some (Rule.Res a b m))))
res_read _ = None

abbrev pub step_forms : List (List ℕ × (Sexps → Option Step))
step_forms =
    (codes "assert", two_places Rule.Assert) ∷ (codes "form", form_read) ∷ (codes "pick", two_places Rule.Pick) ∷ (codes "euclid", two_places Rule.Euclid)
    ∷ (codes "refl", one_place Rule.Refl) ∷ (codes "sym", two_places Rule.Sym) ∷ (codes "trans", three_places Rule.Trans) ∷ (codes "cong", two_places Rule.Cong)
    ∷ (codes "truth", two_places Rule.Truth) ∷ (codes "both", two_places Rule.Both) ∷ (codes "none", two_places Rule.Neither) ∷ (codes "link", three_places Rule.Link)
    ∷ (codes "round", round_read) ∷ (codes "farkas", farkas_read) ∷ (codes "res", res_read) ∷ []

abbrev pub step_read : Sexp → Option Step
step_read (group (word (Symbol n) ▸ ss)) = with (look_up n step_forms) (λ f. f ss)
step_read _ = None

-- ---- terms

abbrev pub symbol_head : Option Declaration → Option Head
symbol_head None = None
symbol_head (Some d) = if is_symbol d then Some (Function d.id) else None

abbrev pub operator_head : Option Operator → Option Head → Option Head
operator_head None h = h
operator_head (Some o) h = Some (Theory o)

-- an operator or a declared symbol; definitions and names are put in, so none stands in a proof
abbrev pub head_read : List Declaration → List ℕ → Option Head
head_read ds n = operator_head (look_up n operators) (symbol_head (find_function n ds))

-- at most 2^127 - 1
abbrev pub numeral_read : List ℕ → Option Node
numeral_read cs = if is_small (decimal cs) then Some (record { head = Number (pos (decimal cs)); arguments = [] }) else None

-- the head `(_ divisible n)`, with n from 1 on
abbrev pub divisor_read : Option ℕ → Option ℕ
divisor_read None = None
divisor_read (Some n) = if nat_le 1 n && is_small n then Some n else None

-- (name place ..), (numeral) or ((_ divisible n) place)
abbrev pub node_read : List Declaration → Sexp → Option Node
node_read ds (group (word (Numeral cs) ▸ end)) = numeral_read cs
node_read ds (group (word (Symbol n) ▸ ss)) = with (head_read ds n) (λ k. with (each number ss) (λ is. Some (record { head = k; arguments = is })))
node_read ds (group (group hs ▸ s ▸ end)) = with (divisor_read (head_number hs)) (λ n. with (number s) (λ i. Some (record { head = Number (pos n); arguments = i ∷ [] })))
node_read ds _ = None

-- ---- proofs

-- ((term ..) (step ..))
abbrev pub proof_read : List Declaration → Sexp → Option Proof
proof_read ds (group (group ns ▸ group ps ▸ end)) = with (each (node_read ds) ns) (λ a. with (each step_read ps) (λ b. Some (record { nodes = a; steps = b })))
proof_read ds _ = None

-- two lists
abbrev pub lists_of : Sexp → Option (Sexps × Sexps)
lists_of (group (group ns ▸ group ps ▸ end)) = Some (ns, ps)
lists_of _ = None

abbrev pub listed : Sexps → List Sexp
listed end = []
listed (s ▸ ss) = s ∷ listed ss

-- ---- what is found of an s-expression

-- each is read
abbrev pub AreRead : {A : Type 0} → (Sexp → Option A) → List Sexp → List A → Type 0
AreRead f [] [] = Unit {0}
AreRead f (s ∷ ss) (a ∷ rest) = (f s ≡ Some a) × AreRead f ss rest
AreRead f _ _ = ⊥

-- it is a good proof
pub record IsYes (frames : List Frame) (x : Sexp) : Type 0 where
  pub proof : Proof
  pub read : proof_read (signature_of frames) x ≡ Some proof
  pub good : IsGood frames proof

-- the terms before it are by their rule, and this one isn't
pub record IsWrongNode (frames : List Frame) (x : Sexp) (n : ℕ) : Type 0 where
  pub terms : Sexps
  pub steps : Sexps
  pub lists : lists_of x ≡ Some (terms, steps)
  pub before : List Sexp
  pub at : Sexp
  pub after : List Sexp
  pub split : listed terms ≡ before ++ at ∷ after
  pub number : n ≡ length before
  pub nodes : List Node
  pub trees : List Tree
  pub read : AreRead (node_read (signature_of frames)) before nodes
  pub good : AreTerms (signature_of frames) nodes trees
  pub wrong : (m : Node) → node_read (signature_of frames) at ≡ Some m → IsTerm (signature_of frames) trees m → ⊥

-- each term and the steps before it are by their rules, and this one isn't
pub record IsWrongStep (frames : List Frame) (x : Sexp) (n : ℕ) : Type 0 where
  pub terms : Sexps
  pub steps : Sexps
  pub lists : lists_of x ≡ Some (terms, steps)
  pub nodes : List Node
  pub trees : List Tree
  pub nodes_read : AreRead (node_read (signature_of frames)) (listed terms) nodes
  pub good : AreTerms (signature_of frames) nodes trees
  pub before : List Sexp
  pub at : Sexp
  pub after : List Sexp
  pub split : listed steps ≡ before ++ at ∷ after
  pub number : n ≡ length before
  pub done : List Step
  pub clauses : List (List Literal)
  pub steps_read : AreRead step_read before done
  pub runs : Runs (signature_of frames) nodes trees (assertions_of frames) done clauses
  pub wrong : (s : Step) (ls : List Literal) → step_read at ≡ Some s → Gives (signature_of frames) nodes trees (assertions_of frames) clauses s ls → ⊥

-- all are by their rules, and the last clause isn't empty, or there is none
pub record HasNoEnd (frames : List Frame) (x : Sexp) (n : ℕ) : Type 0 where
  pub proof : Proof
  pub read : proof_read (signature_of frames) x ≡ Some proof
  pub number : n ≡ length proof.steps
  pub trees : List Tree
  pub clauses : List (List Literal)
  pub by_rules : IsByRules frames proof trees clauses
  pub not_empty : (before : List (List Literal)) → clauses ≡ before ++ [] ∷ [] → ⊥
