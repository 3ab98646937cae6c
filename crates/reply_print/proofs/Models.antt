-- The texts of functions of models, as they are written from left to right.
use Rattle.std.proofs.Common.{◌≡◌, ◌≢◌, ℕ, zero, suc, ◌+◌, ◌-◌, ◌<◌, List, [], ◌∷◌, ◌++◌, sym, ap, ◌∙◌, refl, arith, append_assoc, append-nil, length, get_or, replicate, codes, true, false, Bool, drop, ◌≤◌}
use Rattle.std.proofs.lemmas.List.{drop_all}
use Rattle.std.specs.List.{flat_map}
use Rattle.smt_meaning.specs.declared.answers.PrintedValue.{PrintedValue}
use Rattle.smt_meaning.specs.declared.answers.PrintedRow.{PrintedRow}
use Rattle.smt_meaning.specs.declared.answers.PrintedFunction.{PrintedFunction}
use Rattle.smt_meaning.specs.Text.{function_text, symbol_text, parameters_from, spaced, listed, conjunction, equations_from, rows_text, value_text}
use Rattle.reply_print.specs.Pieces.{rest_of_list, equation_text, row_head, signature_text}
use Rattle.reply_print.proofs.Flat.{spaced_is, all_spaced}

pub conjunction_one : (vs : List PrintedValue) (d : PrintedValue) → length vs ≡ 1
    → conjunction (equations_from 0 vs) ≡ equation_text 0 (get_or vs 0 d)
conjunction_one [] d h = absurd (omega arith)
conjunction_one (v ∷ []) d h = refl
conjunction_one (v ∷ w ∷ vs) d h = absurd (omega arith)

pub conjunction_many : (vs : List PrintedValue) → length vs ≢ 1
    → conjunction (equations_from 0 vs) ≡ codes "(and" ++ (rest_of_list false (equations_from 0 vs) ++ 41 ∷ [])
conjunction_many [] h = refl
conjunction_many (v ∷ []) h = absurd (h refl)
conjunction_many (v ∷ w ∷ vs) h = ap (λ s. 40 ∷ (s ++ 41 ∷ [])) (sym (spaced_is (codes "and") (equations_from 0 (v ∷ w ∷ vs))))

-- closing parentheses
abbrev pub ends : ℕ → List ℕ
ends n = replicate n 41

closing : (n : ℕ) → ends n ++ 41 ∷ [] ≡ 41 ∷ ends n
closing zero = refl
closing (suc n) = ap (λ (s : List ℕ). 41 ∷ s) (closing n)

fewer : (n k : ℕ) → k < n → ends (n - k) ≡ 41 ∷ ends (n - (k + 1))
fewer n k h = let e : n - k ≡ suc (n - (k + 1)) = omega arith in ap ends e

-- one parenthesis of those that are left
pub one_closed : (out start new : List ℕ) (n k : ℕ) → k < n → new ≡ out ++ 41 ∷ []
    → out ++ ends (n - k) ≡ start ++ ends n → new ++ ends (n - (k + 1)) ≡ start ++ ends n
one_closed out start new n k h e inv =
    ap (λ s. s ++ ends (n - (k + 1))) e
    ∙ append_assoc out (41 ∷ []) (ends (n - (k + 1)))
    ∙ ap (λ s. out ++ s) (sym (fewer n k h))
    ∙ inv

row_before : (condition v heads default p q : List ℕ) → p ++ 41 ∷ [] ≡ 41 ∷ q
    → condition ++ 32 ∷ (v ++ 32 ∷ (heads ++ (default ++ p))) ++ 41 ∷ []
    ≡ condition ++ 32 ∷ (v ++ 32 ∷ []) ++ heads ++ (default ++ 41 ∷ q)
row_before condition v heads default p q e =
    simp append_assoc (ap (λ s. condition ++ 32 ∷ (v ++ 32 ∷ (heads ++ (default ++ s)))) e)

-- the heads of the rows, the default, and a closing parenthesis for each row
pub rows_are : (rs : List PrintedRow) (default : PrintedValue)
    → rows_text rs default ≡ flat_map row_head rs ++ (value_text default ++ ends (length rs))
rows_are [] default = sym (append-nil (value_text default))
rows_are (r ∷ rs) default =
    ap (λ s. listed (codes "ite" ∷ conjunction (equations_from 0 r.arguments) ∷ value_text r.value ∷ s ∷ [])) (rows_are rs default)
    ∙ ap (λ s. codes "(ite " ++ s)
    (row_before (conjunction (equations_from 0 r.arguments)) (value_text r.value) (flat_map row_head rs) (value_text default) (ends (length rs)) (ends (length rs)) (closing (length rs)))

-- ---- parameters

pub all_parameters : (out start : List ℕ) (sorts : List (List ℕ)) (first : Bool) (k : ℕ) → length sorts ≤ k
    → out ++ rest_of_list first (parameters_from k (drop k sorts)) ≡ start ++ rest_of_list true (parameters_from 0 sorts)
    → out ≡ start ++ spaced (parameters_from 0 sorts)
all_parameters out start sorts first k h e =
    sym (append-nil out)
    ∙ ap (λ s. out ++ rest_of_list first (parameters_from k s)) (sym (drop_all k sorts h))
    ∙ e ∙ ap (λ s. start ++ s) (all_spaced (parameters_from 0 sorts))

-- ---- functions

signature_before : (n p r b : List ℕ)
    → n ++ 32 ∷ (p ++ 32 ∷ (r ++ 32 ∷ b)) ++ 41 ∷ [] ≡ n ++ 32 ∷ (p ++ 32 ∷ r) ++ 32 ∷ (b ++ 41 ∷ [])
signature_before n p r b = simp append_assoc

pub function_is : (f : PrintedFunction) → function_text f ≡ signature_text f ++ (32 ∷ (rows_text f.rows f.default ++ 41 ∷ []))
function_is f =
    ap (λ s. codes "(define-fun " ++ s)
    (signature_before (symbol_text f.name) (listed (parameters_from 0 f.arguments)) (symbol_text f.result) (rows_text f.rows f.default))
