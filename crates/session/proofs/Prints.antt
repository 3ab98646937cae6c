-- What is printed of a model, one part after another.
use Rattle.std.proofs.Common.{◌≡◌, ℕ, ◌+◌, ◌<◌, ◌≤◌, true, false, List, [], ◌∷◌, ◌++◌, sym, ap, ◌∙◌, refl, subst, append_assoc, append-nil, length, drop, get_or}
use Rattle.std.proofs.lemmas.List.{drop_more, drop_all}
use Rattle.smt_meaning.specs.declared.values.Sort.{Sort}
use Rattle.smt_meaning.specs.declared.values.Value.{Value}
use Rattle.smt_meaning.specs.declared.values.Table.{Table}
use Rattle.smt_meaning.specs.declared.answers.PrintedFunction.{PrintedFunction}
use Rattle.smt_meaning.specs.declared.answers.PrintedValue.{PrintedValue}
use Rattle.smt_meaning.specs.Declaration.{Declaration}
use Rattle.smt_meaning.specs.Signature.{is_symbol}
use Rattle.smt_meaning.specs.State.{printed_all, printed_function, printed_functions}

nothing_shown : (ds : List Declaration) (ss : List Sort) → printed_all ds ss [] ≡ []
nothing_shown ds [] = refl
nothing_shown ds (s ∷ ss) = refl

-- where no value is left
all_are_shown : (ds : List Declaration) (ss : List Sort) (vs : List Value) (k : ℕ) → length vs ≤ k → printed_all ds (drop k ss) (drop k vs) ≡ []
all_are_shown ds ss vs k h = ap (printed_all ds (drop k ss)) (drop_all k vs h) ∙ nothing_shown ds (drop k ss)

pub all_are_told : (ds : List Declaration) (ss : List Sort) (vs : List Value) (k : ℕ) (out all : List PrintedValue) → length vs ≤ k
    → out ++ printed_all ds (drop k ss) (drop k vs) ≡ all → out ≡ all
all_are_told ds ss vs k out all h e = sym (append-nil out) ∙ ap (λ ys. out ++ ys) (sym (all_are_shown ds ss vs k h)) ∙ e

with_table : (ds rest : List Declaration) (d : Declaration) (t : Table) (ts : List Table) → is_symbol d ≡ true
    → printed_functions ds (d ∷ rest) (t ∷ ts) ≡ printed_function ds d t ∷ printed_functions ds rest ts
with_table ds rest d t ts e = rw e

without_table : (ds rest : List Declaration) (d : Declaration) (t : Table) (ts : List Table) → is_symbol d ≡ false
    → printed_functions ds (d ∷ rest) (t ∷ ts) ≡ printed_functions ds rest (t ∷ ts)
without_table ds rest d t ts e = rw e

first_left : {X : Type 0} (xs : List X) (k : ℕ) (x : X) → k < length xs → x ≡ get_or xs k x → drop k xs ≡ x ∷ drop (k + 1) xs
first_left xs k x h e = drop_more xs k x h ∙ ap (λ y. y ∷ drop (k + 1) xs) (sym e)

-- a declared function, with the next table
pub function_more : (ds xs : List Declaration) (ts : List Table) (k next next2 : ℕ) (d : Declaration) (t : Table) (f : PrintedFunction) (out out2 all : List PrintedFunction)
    → xs ≡ ds → k < length xs → d ≡ get_or xs k d → next < length ts → t ≡ get_or ts next t → is_symbol d ≡ true
    → f ≡ printed_function ds d t → out2 ≡ out ++ f ∷ [] → next2 ≡ next + 1
    → out ++ printed_functions ds (drop k ds) (drop next ts) ≡ all
    → out2 ++ printed_functions ds (drop (k + 1) ds) (drop next2 ts) ≡ all
function_more ds xs ts k next next2 d t f out out2 all same lt is nlt tis sy fis ois nis inv =
    let left : drop k ds ≡ d ∷ drop (k + 1) ds = subst (λ ys. drop k ys ≡ d ∷ drop (k + 1) ys) same (first_left xs k d lt is) in
    let tables : drop next ts ≡ t ∷ drop (next + 1) ts = first_left ts next t nlt tis in
    let rest = printed_functions ds (drop (k + 1) ds) (drop (next + 1) ts) in
    rw (ois, nis, fis)
    (append_assoc out (printed_function ds d t ∷ []) rest
    ∙ ap (λ ys. out ++ ys) (sym (with_table ds (drop (k + 1) ds) d t (drop (next + 1) ts) sy))
    ∙ ap (λ ys. out ++ printed_functions ds ys (t ∷ drop (next + 1) ts)) (sym left)
    ∙ ap (λ ys. out ++ printed_functions ds (drop k ds) ys) (sym tables)
    ∙ inv)

-- another declaration
pub function_less : (ds xs : List Declaration) (ts : List Table) (k next : ℕ) (d : Declaration) (out all : List PrintedFunction)
    → xs ≡ ds → k < length xs → d ≡ get_or xs k d → next < length ts → is_symbol d ≡ false
    → out ++ printed_functions ds (drop k ds) (drop next ts) ≡ all
    → out ++ printed_functions ds (drop (k + 1) ds) (drop next ts) ≡ all
function_less ds xs ts k next d out all same lt is nlt sy inv =
    let left : drop k ds ≡ d ∷ drop (k + 1) ds = subst (λ ys. drop k ys ≡ d ∷ drop (k + 1) ys) same (first_left xs k d lt is) in
    let skipped = any_left ds (drop (k + 1) ds) d (drop next ts) (λ t us e. without_table ds (drop (k + 1) ds) d t us sy) in
    ap (λ ys. out ++ ys) (sym skipped) ∙ ap (λ ys. out ++ printed_functions ds ys (drop next ts)) (sym left) ∙ inv
  where
    any_left : (ds rest : List Declaration) (d : Declaration) (us : List Table)
        → ((t : Table) (vs : List Table) → us ≡ t ∷ vs → printed_functions ds (d ∷ rest) (t ∷ vs) ≡ printed_functions ds rest (t ∷ vs))
        → printed_functions ds (d ∷ rest) us ≡ printed_functions ds rest us
    any_left ds [] d [] h = refl
    any_left ds (e ∷ rest) d [] h = refl
    any_left ds rest d (t ∷ vs) h = h t vs refl
