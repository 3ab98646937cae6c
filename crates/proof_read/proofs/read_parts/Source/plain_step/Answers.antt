use Rattle.std.proofs.Common.{refl}
use Rattle.proof_meaning.specs.declared.proof.Step.TheVariants as Rule
use Rattle.proof_read.specs.declared.read_names.StepName.TheVariants.{Assert, Pick, Euclid, Refl, Trans, Link}
use Rattle.proof_read.specs.Written.{numbers_fit}
use Rattle.proof_read.specs.Reads.{is_term_number, is_step_number, places_near}
use Rattle.proof_read.specs.ReadSteps.{plain_form}
use Rattle.proof_read.proofs.ReadPlaceForms.{reads_one, reads_two, reads_three}
use Rattle.proof_read.proofs.ReadStepForms.{reads_other}
use Rattle.proof_read.proofs.read_parts.Source.plain_step.Goals as goal

pub returns-in_ok-term-in-Assert : goal.returns-in_ok-term-in-Assert
returns-in_ok-term-in-Assert c =
    rw c.in-Assert.is (reads_two _ numbers_fit places_near (plain_form Assert) is_step_number is_term_number Rule.Assert _ _ _ _ _ _ (λ ss. refl) (λ p. refl) (λ p. refl) c.in_ok-assertion-in-Assert.ensures c.in_ok-term-in-Assert.ensures c.alone.ensures)

pub returns-in_ok-which-in-Pick : goal.returns-in_ok-which-in-Pick
returns-in_ok-which-in-Pick c =
    rw c.in-Pick.is (reads_two _ numbers_fit places_near (plain_form Pick) is_term_number is_step_number Rule.Pick _ _ _ _ _ _ (λ ss. refl) (λ p. refl) (λ p. refl) c.in_ok-term-in-Pick.ensures c.in_ok-which-in-Pick.ensures c.alone-in-Pick.ensures)

pub returns-in_ok-which-in-Euclid : goal.returns-in_ok-which-in-Euclid
returns-in_ok-which-in-Euclid c =
    rw c.in-Euclid.is (reads_two _ numbers_fit places_near (plain_form Euclid) is_term_number is_step_number Rule.Euclid _ _ _ _ _ _ (λ ss. refl) (λ p. refl) (λ p. refl) c.in_ok-term-in-Euclid.ensures c.in_ok-which-in-Euclid.ensures c.alone-in-Euclid.ensures)

pub returns-in_ok-term-in-Refl : goal.returns-in_ok-term-in-Refl
returns-in_ok-term-in-Refl c =
    rw c.in-Refl.is (reads_one _ numbers_fit places_near (plain_form Refl) is_term_number Rule.Refl _ _ _ _ (λ ss. refl) (λ p. refl) (λ p. refl) c.in_ok-term-in-Refl.ensures c.alone-in-Refl.ensures)

pub returns-in_ok-third-in-Trans : goal.returns-in_ok-third-in-Trans
returns-in_ok-third-in-Trans c =
    rw c.in-Trans.is (reads_three _ numbers_fit places_near (plain_form Trans) is_term_number is_term_number is_term_number Rule.Trans _ _ _ _ _ _ _ _ (λ ss. refl) (λ p. refl) (λ p. refl) c.in_ok-first-in-Trans.ensures c.in_ok-second-in-Trans.ensures c.in_ok-third-in-Trans.ensures c.alone-in-Trans.ensures)

pub returns-in_ok-which-in-Link : goal.returns-in_ok-which-in-Link
returns-in_ok-which-in-Link c =
    rw c.in-Link.is (reads_three _ numbers_fit places_near (plain_form Link) is_term_number is_term_number is_step_number Rule.Link _ _ _ _ _ _ _ _ (λ ss. refl) (λ p. refl) (λ p. refl) c.in_ok-left-in-Link.ensures c.in_ok-right-in-Link.ensures c.in_ok-which-in-Link.ensures c.alone-in-Link.ensures)

pub returns-in_default : goal.returns-in_default
returns-in_default c =
    reads_other c.args.self.now.proof.now c.args.name c.args.at.now c.pair_step.new.at c.pair_step.result c.in_default.not-Assert c.in_default.not-Pick c.in_default.not-Euclid c.in_default.not-Refl c.in_default.not-Trans c.in_default.not-Link c.pair_step.ensures
