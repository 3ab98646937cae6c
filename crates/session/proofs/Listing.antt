-- Names and places that are listed one after another.
use Rattle.std.proofs.Common.{◌≡◌, ◌∙◌, ℕ, suc, ◌+◌, ◌-◌, ◌<◌, Bool, true, false, List, [], ◌∷◌, ◌++◌, map, drop, length, get_or, ap, sym, refl, arith, append_assoc, append-nil, if◌then◌else◌}
use Rattle.std.proofs.lemmas.List.{drop_more}
use Rattle.std.specs.List.{range_with_len}
use Rattle.smt_meaning.specs.Sexp.{sexp}
use Rattle.smt_meaning.specs.Signature.{is_some}
use Rattle.smt_meaning.specs.Core.{name_of, named_places}
use Rattle.std.specs.Prelude.{flat_map}
use Rattle.smt_meaning.specs.Term.{Tree}
use Rattle.smt_meaning.specs.Stack.{Assertion as Asserted}
use Rattle.smt_meaning.specs.State.{frame_of, texts_of}
use Rattle.scope_stack.specs.Inside.{asserted_by}
use Rattle.scope_stack.specs.declared.answers.Assertion.{Assertion}

first_left : {X : Type 0} (xs : List X) (k : ℕ) (x : X) → k < length xs → x ≡ get_or xs k x → drop k xs ≡ x ∷ drop (k + 1) xs
first_left xs k x h e = drop_more xs k x h ∙ ap (λ y. y ∷ drop (k + 1) xs) (sym e)

-- an assertion that has a name
pub named_more : (xs : List Assertion) (k : ℕ) (x : Assertion) (out out2 all : List ℕ) → k < length xs → x ≡ get_or xs k x → is_some (name_of (sexp x.text)) ≡ true → out2 ≡ out ++ k ∷ []
    → out ++ named_places k (map (λ (a : Assertion). a.text) (drop k xs)) ≡ all → out2 ++ named_places (k + 1) (map (λ (a : Assertion). a.text) (drop (k + 1) xs)) ≡ all
named_more xs k x out out2 all lt is some ois inv =
    let left : drop k xs ≡ x ∷ drop (k + 1) xs = first_left xs k x lt is in
    let rest = named_places (k + 1) (map (λ (a : Assertion). a.text) (drop (k + 1) xs)) in
    let here : named_places k (map (λ (a : Assertion). a.text) (drop k xs)) ≡ k ∷ rest =
    ap (λ (ys : List Assertion). named_places k (map (λ (a : Assertion). a.text) ys)) left ∙ ap (λ (b : Bool). if b then k ∷ rest else rest) some in
    rw ois (append_assoc out (k ∷ []) rest ∙ ap (λ ys. out ++ ys) (sym here) ∙ inv)

-- another
pub named_less : (xs : List Assertion) (k : ℕ) (x : Assertion) (out all : List ℕ) → k < length xs → x ≡ get_or xs k x → is_some (name_of (sexp x.text)) ≡ false
    → out ++ named_places k (map (λ (a : Assertion). a.text) (drop k xs)) ≡ all → out ++ named_places (k + 1) (map (λ (a : Assertion). a.text) (drop (k + 1) xs)) ≡ all
named_less xs k x out all lt is none inv =
    let left : drop k xs ≡ x ∷ drop (k + 1) xs = first_left xs k x lt is in
    let rest = named_places (k + 1) (map (λ (a : Assertion). a.text) (drop (k + 1) xs)) in
    let here : named_places k (map (λ (a : Assertion). a.text) (drop k xs)) ≡ rest =
    ap (λ (ys : List Assertion). named_places k (map (λ (a : Assertion). a.text) ys)) left ∙ ap (λ (b : Bool). if b then k ∷ rest else rest) none in
    ap (λ ys. out ++ ys) (sym here) ∙ inv

-- a place more of a range
pub range_more : (p end : ℕ) (out out2 all : List ℕ) → p < end → out2 ≡ out ++ p ∷ [] → out ++ range_with_len p (end - p) ≡ all → out2 ++ range_with_len (p + 1) (end - (p + 1)) ≡ all
range_more p end out out2 all lt ois inv =
    let count : end - p ≡ suc (end - (p + 1)) = omega arith in
    let here : range_with_len p (end - p) ≡ p ∷ range_with_len (p + 1) (end - (p + 1)) = ap (range_with_len p) count in
    rw ois (append_assoc out (p ∷ []) (range_with_len (p + 1) (end - (p + 1))) ∙ ap (λ ys. out ++ ys) (sym here) ∙ inv)

-- the texts of what is assumed are those of its level
pub level_texts : (ts : List Tree) (xs : List Assertion) → map (λ (a : Assertion). a.text) xs ≡ flat_map texts_of (frame_of (map (asserted_by ts) xs) ∷ [])
level_texts ts xs = each xs ∙ sym (append-nil (map (λ (a : Asserted). a.text) (map (asserted_by ts) xs)))
  where
    each : (ys : List Assertion) → map (λ (a : Assertion). a.text) ys ≡ map (λ (a : Asserted). a.text) (map (asserted_by ts) ys)
    each [] = refl
    each (y ∷ ys) = ap (λ zs. y.text ∷ zs) (each ys)
