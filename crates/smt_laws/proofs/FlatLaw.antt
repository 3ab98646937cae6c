-- One level says what the levels say.
use Rattle.std.proofs.Common.{◌≡◌, ℕ, zero, suc, ◌+◌, List, [], ◌∷◌, ◌++◌, map, take, subst, sym, ap, ◌∙◌, refl, arith}
use Rattle.std.specs.Prelude.{flat_map}
use Rattle.std.proofs.lemmas.List.{append-nil, map-append}
use Rattle.std.proofs.lemmas.List.Elements.{All-same}
use Rattle.smt_meaning.specs.Declaration.{Declaration}
use Rattle.smt_meaning.specs.Interpretation.{Interprets}
use Rattle.smt_meaning.specs.Stack.{Frame, Assertion, signature_of, assertions_of, terms_of, up_to, Satisfies, no_model, no_model_is}
use Rattle.smt_laws.specs.Flat.{flat, SaysTheSame}

of_all : (frames : List Frame) → map (λ (a : Assertion). a.term) (flat_map (λ (f : Frame). f.asserted) frames) ≡ assertions_of frames
of_all [] = refl
of_all (f ∷ frames) = map-append (λ (a : Assertion). a.term) f.asserted (flat_map (λ (g : Frame). g.asserted) frames) ∙ ap (λ ts. terms_of f ++ ts) (of_all frames)

abbrev nothing : List Frame
nothing = []

one_more : (l : ℕ) → l + 1 ≡ suc l
one_more l = omega arith

none_left : (n : ℕ) → take n nothing ≡ nothing
none_left zero = refl
none_left (suc n) = refl

level : (f : Frame) (l : ℕ) → up_to l (f ∷ []) ≡ f ∷ []
level f l = ap (λ n. take n (f ∷ [])) (one_more l) ∙ ap (λ (fs : List Frame). f ∷ fs) (none_left l)

pub says_the_same : (frames : List Frame) → SaysTheSame frames
says_the_same frames = record {
  signature = append-nil (signature_of frames);
  assertions = append-nil _ ∙ of_all frames;
  every_level = λ l. level (record { declared = signature_of frames; asserted = flat_map (λ (f : Frame). f.asserted) frames }) l;
  no_model = λ h. no_model frames (λ I i holds.
      no_model_is (flat frames) h I (subst (λ (ds : List Declaration). Interprets ds I) (sym (append-nil (signature_of frames))) i)
      (All-same (Satisfies I) (assertions_of (flat frames)) (assertions_of frames) (append-nil _ ∙ of_all frames) holds));
}
