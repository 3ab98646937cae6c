-- Terms that are asked for, and their values.
use Rattle.std.proofs.Common.{◌≡◌, ℕ, zero, suc, ◌<◌, true, false, Bool, ◌&&◌, List, [], ◌∷◌, map, ap, ◌∙◌, refl, subst, arith, length, get_or}
use Rattle.std.specs.Prelude.{IsTrue, IsFalse, All}
use Rattle.std.proofs.lemmas.List.Elements.{All-head, All-tail, All-map, All-same}
use Rattle.smt_meaning.specs.declared.tokens.Token.{Token}
use Rattle.smt_meaning.specs.Declaration.{Declaration}
use Rattle.smt_meaning.specs.Term.{Tree, tree_at, Interpretation, value, fits}
use Rattle.smt_meaning.specs.State.{all_fit, term_values, printed}
use Rattle.scope_stack.specs.declared.answers.Asked.{Asked}
use Rattle.scope_stack.specs.Carries.{typed_by}
use Rattle.smt_meaning.specs.declared.values.Value.{Value}
use Rattle.smt_meaning.specs.declared.answers.TermValue.{TermValue}
use Rattle.model_eval.specs.declared.EvalError.{EvalError}
use Rattle.model_eval.specs.declared.EvalError.TheVariants.{Range, Memory}
use Rattle.model_eval.specs.Unfit.{IsCauseOfAny}
use Rattle.session.specs.Shown.{shown_terms, IsUnfit}

-- the places of terms
abbrev pub places_of : List Asked → List ℕ
places_of asked = map (λ (a : Asked). a.term) asked

pub values_are : (ds : List Declaration) (I : Interpretation) (texts : List (List Token)) (trees : List Tree) (asked : List Asked)
    → shown_terms ds texts asked (map (λ t. value I (tree_at trees t)) (places_of asked)) ≡ term_values ds I texts (typed_by trees asked)
values_are ds I [] trees asked = refl
values_are ds I (t ∷ ts) trees [] = refl
values_are ds I (t ∷ ts) trees (a ∷ rest) =
    ap (λ vs. record { term = t; value = printed ds a.sort (value I (tree_at trees a.term)) } ∷ vs) (values_are ds I ts trees rest)

both_do : (a b : Bool) → a ≡ true → b ≡ true → a && b ≡ true
both_do true b h k = k
both_do false b h k = h

pub all_do_fit : (I : Interpretation) (trees : List Tree) (asked : List Asked)
    → All (λ t. IsTrue (fits I (tree_at trees t))) (places_of asked) → all_fit I (typed_by trees asked) ≡ true
all_do_fit I trees [] h = refl
all_do_fit I trees (a ∷ rest) h =
    let P : ℕ → Type 0 = λ t. IsTrue (fits I (tree_at trees t)) in
    both_do (fits I (tree_at trees a.term)) (all_fit I (typed_by trees rest)) (All-head P a.term (places_of rest) h)
    (all_do_fit I trees rest (All-tail P a.term (places_of rest) h))

one_does_not : (a b : Bool) → a ≡ false → a && b ≡ false
one_does_not true b h = cc
one_does_not false b h = refl

later_does_not : (a b : Bool) → b ≡ false → a && b ≡ false
later_does_not true b h = h
later_does_not false b h = refl

pub not_all_fit : (I : Interpretation) (trees : List Tree) (asked : List Asked) (k : ℕ) → k < length (places_of asked)
    → IsFalse (fits I (tree_at trees (get_or (places_of asked) k 0))) → all_fit I (typed_by trees asked) ≡ false
not_all_fit I trees [] k lt h = absurd (omega arith)
not_all_fit I trees (a ∷ rest) zero lt h = one_does_not (fits I (tree_at trees a.term)) (all_fit I (typed_by trees rest)) h
not_all_fit I trees (a ∷ rest) (suc k) lt h =
    later_does_not (fits I (tree_at trees a.term)) (all_fit I (typed_by trees rest)) (not_all_fit I trees rest k (omega arith) h)

-- each place is one of a tree
pub all_within : (n m : ℕ) (asked : List Asked) (ids : List ℕ) → m ≡ n → ids ≡ places_of asked
    → All (λ (a : Asked). a.term < n) asked → All (λ t. t < m) ids
all_within n m asked ids e is h =
    let P : ℕ → Type 0 = λ t. t < m in
    All-same P ids (places_of asked) is (All-map P (λ (a : Asked). a.term) asked (rw e h))

-- ---- what the evaluation of a list of places says of the terms

pub unfit_so : (I : Interpretation) (trees stored : List Tree) (asked : List Asked) (ids : List ℕ) (e : EvalError) → stored ≡ trees → ids ≡ places_of asked
    → IsCauseOfAny I stored ids e → IsUnfit e (all_fit I (typed_by trees asked))
unfit_so I trees stored asked ids Memory same is h = tt
unfit_so I trees stored asked ids (Range place) same is h =
    let cause : (k : ℕ) × (k < length (places_of asked)) × IsFalse (fits I (tree_at trees (get_or (places_of asked) k 0))) =
    subst (λ ts. (k : ℕ) × (k < length (places_of asked)) × IsFalse (fits I (tree_at ts (get_or (places_of asked) k 0)))) same
    (subst (λ xs. (k : ℕ) × (k < length xs) × IsFalse (fits I (tree_at stored (get_or xs k 0)))) is h.0) in
    not_all_fit I trees asked cause.0 cause.1 cause.2

pub fit_so : (I : Interpretation) (trees stored : List Tree) (asked : List Asked) (ids : List ℕ) → stored ≡ trees → ids ≡ places_of asked
    → All (λ t. IsTrue (fits I (tree_at stored t))) ids → all_fit I (typed_by trees asked) ≡ true
fit_so I trees stored asked ids same is h =
    all_do_fit I trees asked
    (subst (λ ts. All (λ t. IsTrue (fits I (tree_at ts t))) (places_of asked)) same
    (subst (λ xs. All (λ t. IsTrue (fits I (tree_at stored t))) xs) is h))

pub values_so : (ds : List Declaration) (I : Interpretation) (texts : List (List Token)) (trees stored : List Tree) (asked : List Asked) (ids : List ℕ) (found : List Value) (vs : List TermValue)
    → stored ≡ trees → ids ≡ places_of asked → found ≡ map (λ t. value I (tree_at stored t)) ids → vs ≡ shown_terms ds texts asked found
    → vs ≡ term_values ds I texts (typed_by trees asked)
values_so ds I texts trees stored asked ids found vs same is f v =
    v ∙ ap (shown_terms ds texts asked) (f ∙ ap (λ xs. map (λ t. value I (tree_at stored t)) xs) is ∙ ap (λ ts. map (λ t. value I (tree_at ts t)) (places_of asked)) same)
    ∙ values_are ds I texts trees asked
