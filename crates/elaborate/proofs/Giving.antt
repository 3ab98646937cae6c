-- A term is given to the innermost open term.
use Rattle.std.proofs.Common.{◌≡◌, ℕ, List, [], ◌∷◌, ◌++◌, map, ap, sym, subst, ◌∙◌, refl, Option, Some, None}
use Rattle.std.proofs.lemmas.List.{map-append}
use Rattle.smt_meaning.specs.declared.tokens.Token.{Token}
use Rattle.smt_meaning.specs.declared.terms.Operator.{Operator}
use Rattle.smt_meaning.specs.Term.{Tree}
use Rattle.smt_meaning.specs.Signature.{find_function}
use Rattle.smt_meaning.specs.Sorts.{Scope, known_symbol}
use Rattle.smt_laws.specs.Walk.{application, division, given as given_to, give as given_all}
use Rattle.elaborate.specs.declared.value.Value.{Value}
use Rattle.elaborate.specs.declared.frame.Binding.{Binding}
use Rattle.elaborate.specs.declared.frame.Frame.{Frame}
use Rattle.elaborate.specs.declared.frame.Frame.TheVariants.{Application, Division, Bound, BoundTo, Body, Done, Annotation, Attributes}
use Rattle.elaborate.specs.declared.frame.Walk.{Walk}
use Rattle.elaborate.specs.Values.{typed, IsValue, AreValues}
use Rattle.elaborate.specs.Frames.{frame_of, outside, frames_of, stack_of, AreBound, AllHold, OthersWait, AnswerHolds}
use Rattle.elaborate.specs.Steps.{IsGiven, Given}
use Rattle.elaborate.proofs.Grow.{bound_outside}

values_more : (ts : List Tree) (vs : List Value) (v : Value) → AreValues ts vs → IsValue ts v → AreValues ts (vs ++ v ∷ [])
values_more ts [] v h k = (k, tt)
values_more ts (x ∷ vs) v h k = (h.0, values_more ts vs v h.1 k)

pub given_application : (n : List ℕ) (o : Option Operator) (vs ws : List Value) (v : Value) → ws ≡ vs ++ v ∷ [] → IsGiven (Application n o vs) v (Application n o ws)
given_application n o vs ws v e = record {
  given = λ tokens s bs. ap (application n (known_symbol o (find_function n s.signature))) (ap (map (typed s.trees)) e ∙ map-append (typed s.trees) vs (v ∷ []));
  outer = λ bs. refl;
  holds = λ s h k. (h.0, subst (AreValues s.trees) (sym e) (values_more s.trees vs v h.1 k));
}

pub given_division : (n : ℕ) (vs ws : List Value) (v : Value) → ws ≡ vs ++ v ∷ [] → IsGiven (Division n vs) v (Division n ws)
given_division n vs ws v e = record {
  given = λ tokens s bs. ap (division n) (ap (map (typed s.trees)) e ∙ map-append (typed s.trees) vs (v ∷ []));
  outer = λ bs. refl;
  holds = λ s h k. (h.0, subst (AreValues s.trees) (sym e) (values_more s.trees vs v h.1 k));
}

pub given_bound : (xs : List Binding) (n : List ℕ) (v : Value) → IsGiven (Bound xs n) v (BoundTo xs n v)
given_bound xs n v = record { given = λ tokens s bs. refl; outer = λ bs. refl; holds = λ s h k. (h, k) }

pub given_body : (k : ℕ) (v : Value) → IsGiven (Body k) v (Done v)
given_body k v = record { given = λ tokens s bs. refl; outer = λ bs. refl; holds = λ s h m. m }

pub given_annotation : (p : ℕ) (v : Value) → IsGiven (Annotation p) v (Attributes v p 0)
given_annotation p v = record { given = λ tokens s bs. refl; outer = λ bs. refl; holds = λ s h m. m }

whole_walk : (tokens : List Token) (s : Scope) (o : Option Value) (bs : List Binding) (fs : List Frame) (v : Value) → o ≡ None → fs ≡ [] → stack_of tokens s (Some v) bs fs ≡ given_all (typed s.trees v) (stack_of tokens s o bs fs)
whole_walk tokens s None bs [] v e f = refl
whole_walk tokens s None bs (x ∷ fs) v e f = absurd (cc)
whole_walk tokens s (Some x) bs fs v e f = absurd (cc)

pub give_whole : (w w' : Walk) (v : Value) → w.answer ≡ None → w.frames ≡ [] → w'.answer ≡ Some v → w'.bindings ≡ w.bindings → w'.frames ≡ [] → Given w v w'
give_whole w w' v e f a b g = record {
  walk = λ tokens s.
      ap (λ o. stack_of tokens s o w'.bindings w'.frames) a ∙ whole_walk tokens s w.answer w.bindings w.frames v e f;
  stands = λ s h k. record {
    answer = subst (AnswerHolds s) (sym a) k;
    frames = subst (AllHold s) (sym g) tt;
    others = subst OthersWait (sym g) tt;
    bindings = subst (AreBound s.trees) (sym b) h.bindings;
  };
}

frame_walk : (tokens : List Token) (s : Scope) (o : Option Value) (bs : List Binding) (f g : Frame) (fs : List Frame) (v : Value) → o ≡ None → IsGiven f v g
    → stack_of tokens s o (outside bs f) (g ∷ fs) ≡ given_all (typed s.trees v) (stack_of tokens s o bs (f ∷ fs))
frame_walk tokens s None bs f g fs v e k =
    ap (λ x. x ∷ frames_of tokens s (outside (outside bs f) g) fs) (k.given tokens s bs) ∙ ap (λ cs. given_to (frame_of tokens s bs f) (typed s.trees v) ∷ frames_of tokens s cs fs) (k.outer bs)
frame_walk tokens s (Some x) bs f g fs v e k = absurd (cc)

pub give_frame : (w w' : Walk) (v : Value) (f g : Frame) (rest : List Frame) → w.answer ≡ None → w.frames ≡ f ∷ rest → w'.answer ≡ w.answer → w'.bindings ≡ outside w.bindings f → w'.frames ≡ g ∷ rest → IsGiven f v g → Given w v w'
give_frame w w' v f g rest e h a b i k = record {
  walk = λ tokens s.
      ap (λ o. stack_of tokens s o w'.bindings w'.frames) a ∙ ap (λ bs. stack_of tokens s w.answer bs w'.frames) b ∙ ap (λ fs. stack_of tokens s w.answer (outside w.bindings f) fs) i
      ∙ frame_walk tokens s w.answer w.bindings f g rest v e k
      ∙ ap (λ fs. given_all (typed s.trees v) (stack_of tokens s w.answer w.bindings fs)) (sym h);
  stands = λ s st m.
      (let holds : AllHold s (f ∷ rest) = subst (AllHold s) h st.frames in
      record {
        answer = subst (AnswerHolds s) (sym a) st.answer;
        frames = subst (AllHold s) (sym i) (k.holds s holds.0 m, holds.1);
        others = subst OthersWait (sym i) (subst OthersWait h st.others);
        bindings = subst (AreBound s.trees) (sym b) (bound_outside s.trees w.bindings f st.bindings);
      });
}
