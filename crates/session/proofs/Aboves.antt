-- What stood above the stack stays while its terms stay.
use Rattle.std.proofs.Common.{◌≡◌, ◌+◌, ◌<◌, List, [], ◌∷◌, ◌++◌, map, length, ap, sym, subst, ◌∙◌, refl, arith, All}
use Rattle.std.proofs.lemmas.List.{get_or_append_left, length-append}
use Rattle.std.proofs.lemmas.List.Elements.{All-head, All-tail, All-nil, All-cons}
use Rattle.smt_meaning.specs.Term.{Tree, tree_at}
use Rattle.smt_meaning.specs.State.{frame_of}
use Rattle.scope_stack.specs.declared.answers.Assertion.{Assertion}
use Rattle.scope_stack.specs.Inside.{asserted_by, IsWithin}
use Rattle.session.specs.declared.above.Above.{Above}
use Rattle.session.specs.declared.above.Above.TheVariants.{Nothing, Assumed}
use Rattle.session.specs.Above.{above_by, AreAbove, StandIn}

asserted_stay : (ts us : List Tree) (xs : List Assertion) → StandIn ts us → All (IsWithin ts) xs → map (asserted_by us) xs ≡ map (asserted_by ts) xs
asserted_stay ts us [] h a = refl
asserted_stay ts us (x ∷ xs) h a =
    ap (λ t. record { text = x.text; term = t } ∷ map (asserted_by us) xs) (h x.term (All-head (IsWithin ts) x xs a)).1
    ∙ ap (λ ys. asserted_by ts x ∷ ys) (asserted_stay ts us xs h (All-tail (IsWithin ts) x xs a))

within_stay : (ts us : List Tree) (xs : List Assertion) → StandIn ts us → All (IsWithin ts) xs → All (IsWithin us) xs
within_stay ts us [] h a = All-nil (IsWithin us)
within_stay ts us (x ∷ xs) h a = All-cons (IsWithin us) x xs (h x.term (All-head (IsWithin ts) x xs a)).0 (within_stay ts us xs h (All-tail (IsWithin ts) x xs a))

pub above_stays : (ts us : List Tree) (o : Above) → StandIn ts us → AreAbove ts o → above_by us o ≡ above_by ts o
above_stays ts us Nothing h a = refl
above_stays ts us (Assumed xs) h a = ap (λ ys. frame_of ys ∷ []) (asserted_stay ts us xs h a)

pub are_above_stays : (ts us : List Tree) (o : Above) → StandIn ts us → AreAbove ts o → AreAbove us o
are_above_stays ts us Nothing h a = tt
are_above_stays ts us (Assumed xs) h a = within_stay ts us xs h a

-- where trees joined at the end
pub stand_longer : (ts us rest : List Tree) → us ≡ ts ++ rest → StandIn ts us
stand_longer ts us rest e = λ i lt.
    let long : length us ≡ length ts + length rest = ap length e ∙ length-append ts rest in
    (omega (arith, long, lt), ap (λ xs. tree_at xs i) e ∙ get_or_append_left ts rest _ i lt)

pub stand_same : (ts us : List Tree) → us ≡ ts → StandIn ts us
stand_same ts us e = λ i lt. (subst (λ xs. i < length xs) (sym e) lt, ap (λ xs. tree_at xs i) e)
