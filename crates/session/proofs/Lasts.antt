-- The levels of the last check, by the stack and what stood above it.
use Rattle.std.proofs.Common.{◌≡◌, ◌∙◌, List, [], ◌∷◌, ◌++◌, true, map, ap, subst, sym, refl, All}
use Rattle.std.proofs.lemmas.Grind.{flat_map-append}
use Rattle.std.proofs.lemmas.List.{append-nil}
use Rattle.std.proofs.lemmas.List.Elements.{All-nil}
use Rattle.smt_meaning.specs.Term.{Tree, tree_at}
use Rattle.smt_meaning.specs.Stack.{Assertion as Asserted, Frame, signature_of, assertions_of, terms_of}
use Rattle.smt_meaning.specs.StackCommand.{Stack}
use Rattle.smt_meaning.specs.State.{State}
use Rattle.scope_stack.specs.declared.answers.Assertion.{Assertion}
use Rattle.scope_stack.specs.Inside.{asserted_by, IsWithin}
use Rattle.session.specs.declared.above.Above.{Above}
use Rattle.session.specs.declared.above.Above.TheVariants.{Nothing, Assumed}
use Rattle.session.specs.Above.{above_by, AreAbove}
use Rattle.session.specs.LastCheck.{assumptions_of, is_after_check, IsOfLastCheck}

terms_by : (ts : List Tree) (xs : List Assertion) → map (λ (a : Asserted). a.term) (map (asserted_by ts) xs) ≡ map (λ (a : Assertion). tree_at ts a.term) xs
terms_by ts [] = refl
terms_by ts (x ∷ xs) = ap (λ us. tree_at ts x.term ∷ us) (terms_by ts xs)

no_names_above : (ts : List Tree) (o : Above) → signature_of (above_by ts o) ≡ []
no_names_above ts Nothing = refl
no_names_above ts (Assumed xs) = refl

assertions_above : (ts : List Tree) (o : Above) → assertions_of (above_by ts o) ≡ map (λ (a : Assertion). tree_at ts a.term) (assumptions_of o)
assertions_above ts Nothing = refl
assertions_above ts (Assumed xs) = append-nil (map (λ (a : Asserted). a.term) (map (asserted_by ts) xs)) ∙ terms_by ts xs

within_above : (ts : List Tree) (o : Above) → AreAbove ts o → All (IsWithin ts) (assumptions_of o)
within_above ts Nothing h = All-nil (IsWithin ts)
within_above ts (Assumed xs) h = h

pub of_last_check : (s : State) (stack : Stack) (o : Above) → is_after_check s.mode ≡ true → stack ≡ s.stack → s.above ≡ above_by s.stack.trees o → AreAbove s.stack.trees o
    → IsOfLastCheck s stack (assumptions_of o)
of_last_check s stack o after e a h =
    subst (λ (t : Stack). IsOfLastCheck s t (assumptions_of o)) (sym e)
    (record {
      after_check = after;
      stack_is = refl;
      signature =
          ap (λ f. signature_of (s.stack.frames ++ f)) a
          ∙ flat_map-append (λ (f : Frame). f.declared) s.stack.frames (above_by s.stack.trees o)
          ∙ ap (λ ds. signature_of s.stack.frames ++ ds) (no_names_above s.stack.trees o)
          ∙ append-nil (signature_of s.stack.frames);
      assertions =
          ap (λ f. assertions_of (s.stack.frames ++ f)) a
          ∙ flat_map-append terms_of s.stack.frames (above_by s.stack.trees o)
          ∙ ap (λ us. assertions_of s.stack.frames ++ us) (assertions_above s.stack.trees o);
      within = within_above s.stack.trees o h;
    })
