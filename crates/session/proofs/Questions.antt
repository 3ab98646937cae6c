-- What comes of the question of the values of terms.
use Rattle.std.proofs.Common.{◌≡◌, ◌∙◌, ◌<◌, length, true, false, List, sym, ap, subst, All}
use Rattle.std.specs.Prelude.{codes}
use Rattle.smt_meaning.specs.declared.refusals.Refusal.{Refusal}
use Rattle.smt_meaning.specs.declared.errors.Error.TheVariants.{ValueTooLarge, Refused as RefusedIn}
use Rattle.smt_meaning.specs.declared.tokens.Token.{Token}
use Rattle.smt_meaning.specs.declared.values.Table.{Table}
use Rattle.smt_meaning.specs.declared.answers.Reply.{Reply}
use Rattle.smt_meaning.specs.declared.answers.Reply.TheVariants as Given
use Rattle.smt_meaning.specs.Interpretation.{meaning}
use Rattle.smt_meaning.specs.Stack.{signature_of}
use Rattle.smt_meaning.specs.StackCommand.{Stack, asks, judged, changed}
use Rattle.smt_meaning.specs.State.{State, Effect, denied, answered, provided, valued, all_fit, term_values}
use Rattle.scope_stack.specs.declared.answers.Asked.{Asked}
use Rattle.scope_stack.specs.Carries.{IsAsked, IsRefused, question, typed_by}
use Rattle.session.specs.Effects.{Comes, ComesOfQuestion}

comes_as : (e f : Effect) (s : State) (reply : Reply) (new : State) → e ≡ f → Comes f s reply new → Comes e s reply new
comes_as e f s reply new same h = subst (λ x. Comes x s reply new) (sym same) h

trees_are : (ts : List (List Token)) (asked : List Asked) (old new : Stack) (k : IsAsked ts asked old new) → new.trees ≡ k.scope.trees
trees_are ts asked old new k = ap (λ (s : Stack). s.trees) k.new_is

frames_are : (ts : List (List Token)) (asked : List Asked) (old new : Stack) → IsAsked ts asked old new → new.frames ≡ old.frames
frames_are ts asked old new k = ap (λ (s : Stack). s.frames) k.new_is

-- the places are among the stack's trees
pub places_within : (ts : List (List Token)) (asked : List Asked) (old new : Stack) → IsAsked ts asked old new → All (λ (a : Asked). a.term < length new.trees) asked
places_within ts asked old new k = subst (λ us. All (λ (a : Asked). a.term < length us) asked) (sym (trees_are ts asked old new k)) k.within

given_at : (s : State) (i : List Table) (ts : List (List Token)) (asked : List Asked) (new : Stack) (reply : Reply) → IsAsked ts asked s.stack new
    → all_fit (meaning i) (typed_by new.trees asked) ≡ true
    → reply ≡ Given.Values (term_values (signature_of new.frames) (meaning i) ts (typed_by new.trees asked))
    → Comes (valued s i ts (judged (question ts) s.stack)) s reply (record s { stack = new })
given_at s i ts asked new reply k fit is =
    let terms = typed_by k.scope.trees asked in
    let fits : all_fit (meaning i) terms ≡ true = ap (λ us. all_fit (meaning i) (typed_by us asked)) (sym (trees_are ts asked s.stack new k)) ∙ fit in
    let told : Effect = answered (Given.Values (term_values (signature_of s.stack.frames) (meaning i) ts terms)) (record s { stack = changed s.stack (asks terms) k.scope }) in
    comes_as (valued s i ts (judged (question ts) s.stack)) told s reply (record s { stack = new })
    (ap (valued s i ts) k.is_judged ∙ ap (λ b. provided b ValueTooLarge told) fits) (
      is
          ∙ ap (λ us. Given.Values (term_values (signature_of new.frames) (meaning i) ts (typed_by us asked))) (trees_are ts asked s.stack new k)
          ∙ ap (λ fs. Given.Values (term_values (signature_of fs) (meaning i) ts terms)) (frames_are ts asked s.stack new k),
      ap (λ (t : Stack). record s { stack = t }) k.new_is,
    )

pub values_given : (i : List Table) (ts : List (List Token)) (asked : List Asked) (old new : Stack) (reply : Reply) → IsAsked ts asked old new
    → all_fit (meaning i) (typed_by new.trees asked) ≡ true
    → reply ≡ Given.Values (term_values (signature_of new.frames) (meaning i) ts (typed_by new.trees asked))
    → ComesOfQuestion i ts old reply new
values_given i ts asked old new reply k fit is s e = given_at s i ts asked new reply (subst (λ t. IsAsked ts asked t new) (sym e) k) fit is

large_at : (s : State) (i : List Table) (ts : List (List Token)) (asked : List Asked) (new left : Stack) (reply : Reply) → IsAsked ts asked s.stack new
    → all_fit (meaning i) (typed_by new.trees asked) ≡ false → reply ≡ Given.Error ValueTooLarge → left ≡ s.stack
    → Comes (valued s i ts (judged (question ts) s.stack)) s reply (record s { stack = left })
large_at s i ts asked new left reply k fit is same =
    let terms = typed_by k.scope.trees asked in
    let fits : all_fit (meaning i) terms ≡ false = ap (λ us. all_fit (meaning i) (typed_by us asked)) (sym (trees_are ts asked s.stack new k)) ∙ fit in
    let told : Effect = answered (Given.Values (term_values (signature_of s.stack.frames) (meaning i) ts terms)) (record s { stack = changed s.stack (asks terms) k.scope }) in
    comes_as (valued s i ts (judged (question ts) s.stack)) (denied ValueTooLarge) s reply (record s { stack = left })
    (ap (valued s i ts) k.is_judged ∙ ap (λ b. provided b ValueTooLarge told) fits)
    (is, ap (λ (t : Stack). record s { stack = t }) same)

pub value_too_large : (i : List Table) (ts : List (List Token)) (asked : List Asked) (old new left : Stack) (reply : Reply) → IsAsked ts asked old new
    → all_fit (meaning i) (typed_by new.trees asked) ≡ false → reply ≡ Given.Error ValueTooLarge → left ≡ old → ComesOfQuestion i ts old reply left
value_too_large i ts asked old new left reply k fit is same s e =
    large_at s i ts asked new left reply (subst (λ t. IsAsked ts asked t new) (sym e) k) fit is (same ∙ sym e)

pub question_refused : (i : List Table) (ts : List (List Token)) (why : Refusal) (old new : Stack) (reply : Reply) → IsRefused (question ts) why old new
    → reply ≡ Given.Error (RefusedIn (codes "get-value") why) → ComesOfQuestion i ts old reply new
question_refused i ts why old new reply k is s e =
    comes_as (valued s i ts (judged (question ts) s.stack)) (denied (RefusedIn (codes "get-value") why)) s reply (record s { stack = new })
    (ap (valued s i ts) (ap (judged (question ts)) e ∙ k.is_judged))
    (is, ap (λ (t : Stack). record s { stack = t }) (k.same ∙ sym e))
