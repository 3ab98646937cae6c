use Rattle.std.proofs.Common.{◌≡◌, ◌≢◌, ℕ, false, List, [], ◌∷◌, ◌&&◌, length, nat_eq, refl, ap, sym, ◌∙◌, arith, Bool, true}
use Rattle.std.proofs.lemmas.Bool.Decides.{nat_tests}
use Rattle.smt_meaning.specs.declared.values.Sort.{Sort}
use Rattle.smt_meaning.specs.Signature.{sort_eq, sorts_eq}
use Rattle.proof_terms.specs.declared.terms_facts.Fact.{Fact}
use Rattle.proof_terms.specs.TermFacts.{sorts_of}
use Rattle.proof_terms.proofs.terms_facts.match_sorts.Goals as goal

and_false : (b : Bool) → (b && false) ≡ false
and_false true = refl
and_false false = refl

sorts_apart : (fs : List Fact) (ss : List Sort) → length fs ≢ length ss → sorts_eq (sorts_of fs) ss ≡ false
sorts_apart [] [] h = absurd (h refl)
sorts_apart [] (s ∷ ss) h = refl
sorts_apart (f ∷ fs) [] h = refl
sorts_apart (f ∷ fs) (s ∷ ss) h = ap (λ b. sort_eq f.sort s && b) (sorts_apart fs ss (λ e. h (omega arith))) ∙ and_false (sort_eq f.sort s)

not_equal : (m n : ℕ) → m ≢ n → nat_eq m n ≡ false
not_equal m n h = grind (arith, nat_tests)

pub returns-else-arguments-sorts : goal.returns-else-arguments-sorts
returns-else-arguments-sorts c =
    not_equal (length c.args.arguments.now) (length c.args.sorts.now) c.if-arguments-sorts.false
    ∙ sym (sorts_apart c.args.arguments.now c.args.sorts.now c.if-arguments-sorts.false)
