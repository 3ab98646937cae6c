-- What stands at a place, and behind it.
use Rattle.std.proofs.Common.{◌≡◌, ℕ, ◌+◌, ◌≤◌, List, [], ◌∷◌, ap, sym, ◌∙◌, refl, drop, length, Bool, true, false}
use Rattle.std.proofs.lemmas.List.{drop_all}
use Rattle.smt_meaning.specs.declared.tokens.Token.{Token}
use Rattle.smt_meaning.specs.declared.tokens.TokenView.{TokenView}
use Rattle.smt_meaning.specs.declared.tokens.TokenView.TheVariants.{Enter as EnterSeen, Leave as LeaveSeen}
use Rattle.smt_meaning.specs.declared.refusals.Refusal.TheVariants.{WrongArguments}
use Rattle.smt_meaning.specs.Sexp.{Sexp, Sexps, word, end, ◌▸◌, before, open_lists_of}
use Rattle.smt_meaning.specs.Seen.{seen}
use Rattle.smt_meaning.specs.Sorts.{Scope, require, refuse, return, are_attributes, are_attributes_from}
use Rattle.smt_laws.specs.Walk.{first_list, check_annotation}
use Rattle.look_ahead.specs.Ahead.{ahead, IsInside, checked}

word_before : (v : TokenView) (lists : List Sexps) (inner : Sexps) (outer : List Sexps) → (v ≡ EnterSeen → ⊥) → (v ≡ LeaveSeen → ⊥) → lists ≡ inner ∷ outer
    → first_list (before (seen v) lists) ≡ word (seen v) ▸ first_list lists
word_before EnterSeen lists inner outer h k e = absurd (h refl)
word_before LeaveSeen lists inner outer h k e = absurd (k refl)
word_before v [] inner outer h k e = absurd (cc)
word_before _ (l ∷ lists) inner outer h k e = refl

pub word_here : (ts : List Token) (i : ℕ) (v : TokenView) → drop i ts ≡ seen v ∷ drop (i + 1) ts → IsInside ts (i + 1) → (v ≡ EnterSeen → ⊥) → (v ≡ LeaveSeen → ⊥)
    → ahead ts i ≡ word (seen v) ▸ ahead ts (i + 1)
word_here ts i v e w h k = ap (λ x. first_list (open_lists_of x)) e ∙ word_before v (open_lists_of (drop (i + 1) ts)) w.0 w.1 h k w.2

pub past_all : (ts : List Token) (i : ℕ) → length ts ≤ i → ahead ts i ≡ end
past_all ts i h = ap (λ x. first_list (open_lists_of x)) (drop_all i ts h)

checked_so : (b : Bool) (s : Scope) → require b WrongArguments s ≡ checked b s
unfolding require refuse return
checked_so true s = refl
checked_so false s = refl

pub annotated : (l : Sexps) (t s' : Sexp) (rest rest' : Sexps) (b : Bool) → l ≡ t ▸ rest → rest ≡ s' ▸ rest' → are_attributes_from false rest ≡ b → (s : Scope) → check_annotation l s ≡ checked b s
annotated l t s' rest rest' b e f g s =
    ap (λ x. check_annotation x s) (e ∙ ap (λ x. t ▸ x) f) ∙ checked_so (are_attributes (s' ▸ rest')) s ∙ ap (λ c. checked c s) (ap (are_attributes_from false) (sym f) ∙ g)

pub not_annotated : (l : Sexps) (t : Sexp) (rest : Sexps) → l ≡ t ▸ rest → rest ≡ end → (s : Scope) → check_annotation l s ≡ checked false s
not_annotated l t rest e f s = ap (λ x. check_annotation x s) (e ∙ ap (λ x. t ▸ x) f) ∙ checked_so false s

pub nothing_annotated : (l : Sexps) → l ≡ end → (s : Scope) → check_annotation l s ≡ checked false s
unfolding refuse
nothing_annotated l e s = ap (λ x. check_annotation x s) e
