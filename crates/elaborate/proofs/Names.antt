-- Terms of one token.
use Rattle.std.proofs.Common.{◌≡◌, ℕ, List, [], ◌∷◌, map, ap, sym, subst, ◌∙◌, refl, Bool, true, false, Option, Some, None}
use Rattle.std.specs.Prelude.{if◌then◌else◌, bytes_eq, pos, Result, Ok, Err, IfOk, OnErr}
use Rattle.smt_meaning.specs.declared.tokens.Token.{Token}
use Rattle.smt_meaning.specs.declared.tokens.Token.TheVariants.{Symbol, Decimal, Hex, Binary, Text}
use Rattle.smt_meaning.specs.declared.tokens.TokenView.{TokenView}
use Rattle.smt_meaning.specs.declared.tokens.TokenView.TheVariants.{Symbol as SymbolSeen, Numeral as NumeralSeen, Decimal as DecimalSeen, Hex as HexSeen, Binary as BinarySeen, Text as TextSeen}
use Rattle.smt_meaning.specs.Seen.{seen}
use Rattle.smt_meaning.specs.declared.terms.Operator.{Operator}
use Rattle.smt_meaning.specs.declared.terms.Head.{Head}
use Rattle.smt_meaning.specs.declared.terms.Head.TheVariants.{Numeral as Number}
use Rattle.smt_meaning.specs.declared.values.Sort.TheVariants.{Int as Ints}
use Rattle.smt_meaning.specs.declared.refusals.Refusal.TheVariants.{NumeralTooLarge, UnknownSymbol, WrongArguments}
use Rattle.smt_meaning.specs.Declaration.{Declaration}
use Rattle.smt_meaning.specs.Term.{Tree, node, none}
use Rattle.smt_meaning.specs.Signature.{look_up, operators, find_function}
use Rattle.smt_meaning.specs.Sorts.{Scope, done, refused, ◌>>=◌, ◌>>◌, return, refuse, require, note, found, the_scope, Typed, Variable, Rules, Known, variable, operator, function, unknown, find_variable, known, known_name, known_symbol, is_small, judge_bare, judge_application, judge_numeral, judge_token}
use Rattle.elaborate.specs.declared.value.Value.{Value}
use Rattle.elaborate.specs.declared.frame.Binding.{Binding}
use Rattle.elaborate.specs.declared.error.JudgeError.{JudgeError}
use Rattle.elaborate.specs.declared.error.JudgeError.TheVariants.{Memory}
use Rattle.elaborate.specs.Values.{typed, IsValue, IsNode, Comes, IsErrorOf}
use Rattle.elaborate.specs.Frames.{find_value, variable_at, AreBound}
use Rattle.elaborate.proofs.Applied.{comes_err, comes_same, memory_err, error_is, node_is}

-- ---- numerals

too_large_is : (n : ℕ) (s : Scope) → is_small n ≡ false → judge_numeral n s ≡ refused NumeralTooLarge
unfolding ◌>>◌ refuse require
too_large_is n s e = ap (λ b. (require b NumeralTooLarge >> (note (node (Number (pos n)) none ∷ []) >> found (node (Number (pos n)) none) Ints)) s) e

small_is : (n : ℕ) (s : Scope) → is_small n ≡ true → judge_numeral n s ≡ done (record { tree = node (Number (pos n)) none; sort = Ints }) (record s { trees = Rattle.smt_meaning.specs.TreeShape.with_parts s.trees (node (Number (pos n)) none) })
unfolding ◌>>◌ return require note found
small_is n s e = ap (λ b. (require b NumeralTooLarge >> (note (node (Number (pos n)) none ∷ []) >> found (node (Number (pos n)) none) Ints)) s) e

pub numeral_large : (n : ℕ) (s : Scope) → is_small n ≡ false → judge_numeral n s ≡ refused NumeralTooLarge
numeral_large n s e = too_large_is n s e

pub numeral_result : (n : ℕ) (h : Head) (s : Scope) (us : List Tree) (y : Result Value JudgeError) → h ≡ Number (pos n) → is_small n ≡ true → IfOk y (λ v. IsNode h Ints [] s.trees us v) → OnErr y (y ≡ Err Memory) → Comes (judge_numeral n) s us y
numeral_result n h s us (Ok v) e l k m =
    let here : IsNode (Number (pos n)) Ints [] s.trees us v = subst (λ j. IsNode j Ints [] s.trees us v) e k in
    (small_is n s l ∙ node_is (node (Number (pos n)) none) Ints s us v here.trees here.tree here.sort, here.value)
numeral_result n h s us (Err x) e l k m = memory_err (judge_numeral n) s us x (error_is x m)

-- ---- names

pub find_is : (n : List ℕ) (ts : List Tree) (bs : List Binding) (o : Option Value) → find_value n bs ≡ o → find_variable n (map (variable_at ts) bs) ≡ elim o [ None ↦ None | Some v ↦ Some (typed ts v) ]
find_is n ts [] None e = refl
find_is n ts [] (Some v) e = absurd (cc)
find_is n ts (b ∷ bs) o e = go (λ k. find_is n ts bs o k) (bytes_eq n b.name) e
  where
    go : (find_value n bs ≡ o → find_variable n (map (variable_at ts) bs) ≡ elim o [ None ↦ None | Some v ↦ Some (typed ts v) ]) → (c : Bool) → (if c then Some b.value else find_value n bs) ≡ o → (if c then Some (typed ts b.value) else find_variable n (map (variable_at ts) bs)) ≡ elim o [ None ↦ None | Some v ↦ Some (typed ts v) ]
    go rest true k = ap (λ (q : Option Value). elim q [ None ↦ None | Some v ↦ Some (typed ts v) ]) k
    go rest false k = rest k

pub found_value : (n : List ℕ) (ts : List Tree) (bs : List Binding) (v : Value) → find_value n bs ≡ Some v → AreBound ts bs → IsValue ts v
found_value n ts [] v e h = absurd (cc)
found_value n ts (b ∷ bs) v e h = go (λ k. found_value n ts bs v k h.1) (bytes_eq n b.name) e
  where
    same : (x : Value) → Some x ≡ Some v → x ≡ v
    same x k = cc

    go : (find_value n bs ≡ Some v → IsValue ts v) → (c : Bool) → (if c then Some b.value else find_value n bs) ≡ Some v → IsValue ts v
    go rest true k = subst (IsValue ts) (same b.value k) h.0
    go rest false k = rest k

pub known_variable : (n : List ℕ) (ts : List Tree) (bs : List Binding) (v : Value) (s : Scope) → find_value n bs ≡ Some v → known (map (variable_at ts) bs) n s ≡ variable (typed ts v)
known_variable n ts bs v s e = ap (λ o. known_name o (known_symbol (look_up n operators) (find_function n s.signature))) (find_is n ts bs (Some v) e)

pub known_other : (n : List ℕ) (ts : List Tree) (bs : List Binding) (s : Scope) → find_value n bs ≡ None → known (map (variable_at ts) bs) n s ≡ known_symbol (look_up n operators) (find_function n s.signature)
known_other n ts bs s e = ap (λ o. known_name o (known_symbol (look_up n operators) (find_function n s.signature))) (find_is n ts bs None e)

pub known_operator : (n : List ℕ) (ts : List Tree) (bs : List Binding) (o : Operator) (s : Scope) → find_value n bs ≡ None → look_up n operators ≡ Some o → known (map (variable_at ts) bs) n s ≡ operator o
known_operator n ts bs o s e f = known_other n ts bs s e ∙ ap (λ q. known_symbol q (find_function n s.signature)) f

pub known_function : (n : List ℕ) (ts : List Tree) (bs : List Binding) (d : Declaration) (s : Scope) → find_value n bs ≡ None → look_up n operators ≡ None → find_function n s.signature ≡ Some d → known (map (variable_at ts) bs) n s ≡ function d
known_function n ts bs d s e f g = known_other n ts bs s e ∙ ap (λ q. known_symbol q (find_function n s.signature)) f ∙ ap (known_symbol None) g

pub known_unknown : (n : List ℕ) (ts : List Tree) (bs : List Binding) (s : Scope) → find_value n bs ≡ None → look_up n operators ≡ None → find_function n s.signature ≡ None → known (map (variable_at ts) bs) n s ≡ unknown
known_unknown n ts bs s e f g = known_other n ts bs s e ∙ ap (λ q. known_symbol q (find_function n s.signature)) f ∙ ap (known_symbol None) g

-- a name is judged as what it is known as
pub name_is : (r : Rules) (vs : List Variable) (n : List ℕ) (k : Known) (s : Scope) → known vs n s ≡ k → judge_token r vs (Symbol n) s ≡ judge_bare r n k s
unfolding ◌>>=◌ the_scope
name_is r vs n k s e = ap (λ j. judge_bare r n j s) e

variable_is : (r : Rules) (n : List ℕ) (t : Typed) (s : Scope) → judge_bare r n (variable t) s ≡ done t s
unfolding return
variable_is r n t s = refl

unknown_is : (r : Rules) (n : List ℕ) (s : Scope) → judge_bare r n unknown s ≡ refused (UnknownSymbol (Symbol n))
unfolding refuse
unknown_is r n s = refl

pub variable_comes : (r : Rules) (n : List ℕ) (bs : List Binding) (v : Value) (s : Scope) → find_value n bs ≡ Some v → AreBound s.trees bs → Comes (judge_token r (map (variable_at s.trees) bs) (Symbol n)) s s.trees (Ok v)
variable_comes r n bs v s e h = (
  name_is r (map (variable_at s.trees) bs) n (variable (typed s.trees v)) s (known_variable n s.trees bs v s e) ∙ variable_is r n (typed s.trees v) s,
  found_value n s.trees bs v e h,
)

pub known_comes : (r : Rules) (n : List ℕ) (bs : List Binding) (k : Known) (s : Scope) (us : List Tree) (y : Result Value JudgeError) → known (map (variable_at s.trees) bs) n s ≡ k → Comes (judge_bare r n k) s us y
    → Comes (judge_token r (map (variable_at s.trees) bs) (Symbol n)) s us y
known_comes r n bs k s us y e h = comes_same (judge_token r (map (variable_at s.trees) bs) (Symbol n)) (judge_bare r n k) s us y (name_is r (map (variable_at s.trees) bs) n k s e) h

pub unknown_comes : (r : Rules) (n : List ℕ) (s : Scope) (us : List Tree) (e : JudgeError) → IsErrorOf (UnknownSymbol (Symbol n)) e → Comes (judge_bare r n unknown) s us (Err e)
unknown_comes r n s us e h = comes_err (judge_bare r n unknown) s us (UnknownSymbol (Symbol n)) e (unknown_is r n s) h

pub free_operator : (r : Rules) (n : List ℕ) (o : Operator) (s : Scope) (us : List Tree) (y : Result Value JudgeError) → look_up n operators ≡ Some o → Comes (judge_bare r n (operator o)) s us y
    → Comes (judge_bare r n (known_symbol (look_up n operators) (find_function n s.signature))) s us y
free_operator r n o s us y e h = subst (λ q. Comes (judge_bare r n (known_symbol q (find_function n s.signature))) s us y) (sym e) h

pub free_function : (r : Rules) (n : List ℕ) (d : Declaration) (s : Scope) (us : List Tree) (y : Result Value JudgeError) → look_up n operators ≡ None → find_function n s.signature ≡ Some d → Comes (judge_bare r n (function d)) s us y
    → Comes (judge_bare r n (known_symbol (look_up n operators) (find_function n s.signature))) s us y
free_function r n d s us y e f h =
    subst (λ q. Comes (judge_bare r n (known_symbol q (find_function n s.signature))) s us y) (sym e) (subst (λ q. Comes (judge_bare r n (known_symbol None q)) s us y) (sym f) h)

pub free_unknown : (r : Rules) (n : List ℕ) (s : Scope) (us : List Tree) (e : JudgeError) → look_up n operators ≡ None → find_function n s.signature ≡ None → IsErrorOf (UnknownSymbol (Symbol n)) e
    → Comes (judge_bare r n (known_symbol (look_up n operators) (find_function n s.signature))) s us (Err e)
free_unknown r n s us x e f h =
    subst (λ q. Comes (judge_bare r n (known_symbol q (find_function n s.signature))) s us (Err x)) (sym e) (subst (λ q. Comes (judge_bare r n (known_symbol None q)) s us (Err x)) (sym f) (unknown_comes r n s us x h))

pub free_comes : (r : Rules) (n : List ℕ) (bs : List Binding) (s : Scope) (us : List Tree) (y : Result Value JudgeError) → find_value n bs ≡ None
    → Comes (judge_bare r n (known_symbol (look_up n operators) (find_function n s.signature))) s us y → Comes (judge_token r (map (variable_at s.trees) bs) (Symbol n)) s us y
free_comes r n bs s us y e h = known_comes r n bs (known_symbol (look_up n operators) (find_function n s.signature)) s us y (known_other n s.trees bs s e) h

-- ---- tokens that are refused

-- a token of a theory that is left out
abbrev pub is_left_out : Token → Bool
is_left_out (Decimal cs) = true
is_left_out (Hex cs) = true
is_left_out (Binary cs) = true
is_left_out (Text cs) = true
is_left_out _ = false

left_out_is : (r : Rules) (vs : List Variable) (t : Token) (s : Scope) → is_left_out t ≡ true → judge_token r vs t s ≡ refused (UnknownSymbol t)
unfolding refuse
left_out_is r vs (Decimal cs) s h = refl
left_out_is r vs (Hex cs) s h = refl
left_out_is r vs (Binary cs) s h = refl
left_out_is r vs (Text cs) s h = refl
left_out_is r vs _ s h = absurd (cc)

pub left_out : (r : Rules) (vs : List Variable) (t : Token) (s : Scope) (us : List Tree) (e : JudgeError) → is_left_out t ≡ true → IsErrorOf (UnknownSymbol t) e → Comes (judge_token r vs t) s us (Err e)
left_out r vs t s us e h k = comes_err (judge_token r vs t) s us (UnknownSymbol t) e (left_out_is r vs t s h) k

pub stands_for_none : (r : Rules) (vs : List Variable) (t : TokenView) (s : Scope) → ((n : _) → t ≡ SymbolSeen n → ⊥) → ((n : _) → t ≡ NumeralSeen n → ⊥) → ((n : _) → t ≡ DecimalSeen n → ⊥) → ((n : _) → t ≡ HexSeen n → ⊥) → ((n : _) → t ≡ BinarySeen n → ⊥) → ((n : _) → t ≡ TextSeen n → ⊥)
    → judge_token r vs (seen t) s ≡ refused WrongArguments
unfolding refuse
stands_for_none r vs (SymbolSeen n) s a b c d e f = absurd (a n refl)
stands_for_none r vs (NumeralSeen n) s a b c d e f = absurd (b n refl)
stands_for_none r vs (DecimalSeen n) s a b c d e f = absurd (c n refl)
stands_for_none r vs (HexSeen n) s a b c d e f = absurd (d n refl)
stands_for_none r vs (BinarySeen n) s a b c d e f = absurd (e n refl)
stands_for_none r vs (TextSeen n) s a b c d e f = absurd (f n refl)
stands_for_none r vs _ s a b c d e f = refl

-- ---- applications of names

pub applied_operator : (r : Rules) (n m : List ℕ) (q : Option Operator) (o : Operator) (vs ws : List Value) (s : Scope) (us : List Tree) (y : Result Value JudgeError) → m ≡ n → ws ≡ vs → q ≡ Some o
    → Comes (judge_application r m (operator o) (map (typed s.trees) ws)) s us y → Comes (judge_application r n (known_symbol q (find_function n s.signature)) (map (typed s.trees) vs)) s us y
applied_operator r n m q o vs ws s us y e f g h =
    subst (λ x. Comes (judge_application r n (known_symbol x (find_function n s.signature)) (map (typed s.trees) vs)) s us y) (sym g)
    (subst (λ xs. Comes (judge_application r n (operator o) (map (typed s.trees) xs)) s us y) f (subst (λ k. Comes (judge_application r k (operator o) (map (typed s.trees) ws)) s us y) e h))

pub applied_function : (r : Rules) (n m : List ℕ) (q : Option Operator) (d : Declaration) (vs ws : List Value) (s : Scope) (us : List Tree) (y : Result Value JudgeError) → m ≡ n → ws ≡ vs → q ≡ None → find_function m s.signature ≡ Some d
    → Comes (judge_application r m (function d) (map (typed s.trees) ws)) s us y → Comes (judge_application r n (known_symbol q (find_function n s.signature)) (map (typed s.trees) vs)) s us y
applied_function r n m q d vs ws s us y e f g i h =
    subst (λ x. Comes (judge_application r n (known_symbol x (find_function n s.signature)) (map (typed s.trees) vs)) s us y) (sym g)
    (subst (λ x. Comes (judge_application r n (known_symbol None x) (map (typed s.trees) vs)) s us y) (sym (ap (λ k. find_function k s.signature) (sym e) ∙ i))
    (subst (λ xs. Comes (judge_application r n (function d) (map (typed s.trees) xs)) s us y) f (subst (λ k. Comes (judge_application r k (function d) (map (typed s.trees) ws)) s us y) e h)))

unknown_applied : (r : Rules) (n : List ℕ) (ts : List Typed) (s : Scope) → judge_application r n unknown ts s ≡ refused (UnknownSymbol (Symbol n))
unfolding refuse
unknown_applied r n ts s = refl

pub applied_unknown : (r : Rules) (n m : List ℕ) (q : Option Operator) (vs : List Value) (s : Scope) (us : List Tree) (x : JudgeError) → m ≡ n → q ≡ None → find_function m s.signature ≡ None → IsErrorOf (UnknownSymbol (Symbol m)) x
    → Comes (judge_application r n (known_symbol q (find_function n s.signature)) (map (typed s.trees) vs)) s us (Err x)
applied_unknown r n m q vs s us x e g i k =
    subst (λ z. Comes (judge_application r n (known_symbol z (find_function n s.signature)) (map (typed s.trees) vs)) s us (Err x)) (sym g)
    (subst (λ z. Comes (judge_application r n (known_symbol None z) (map (typed s.trees) vs)) s us (Err x)) (sym (ap (λ y. find_function y s.signature) (sym e) ∙ i))
    (comes_err (judge_application r n unknown (map (typed s.trees) vs)) s us (UnknownSymbol (Symbol n)) x (unknown_applied r n (map (typed s.trees) vs) s) (subst (λ y. IsErrorOf (UnknownSymbol (Symbol y)) x) e k)))
