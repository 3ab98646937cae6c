use Rattle.std.proofs.Common.{◌<◌, ◌∙◌, length, [], All, sym, ap, subst}
use Rattle.proof_form.specs.Asserted.{asserted_at}
use Rattle.proof_terms.specs.Terms.{ProofTerms}
use Rattle.proof_form.proofs.whole.judge_beside.Goals as goal

pub judge_lists-requires-clause-declared : goal.judge_lists-requires-clause-declared
judge_lists-requires-clause-declared c = c.requires.declared ∙ sym (ap (λ (t : ProofTerms). t.declared) c.in_ok-terms.ensures)

pub judge_lists-requires-clause-none : goal.judge_lists-requires-clause-none
judge_lists-requires-clause-none c =
    c.in_ok-terms.ensures
    ∙ sym (ap (λ (t : ProofTerms). let u : ProofTerms = record { declared = t.declared; held = t.held; nodes = []; trees = [] } in u) c.in_ok-terms.ensures)

pub judge_lists-requires-clause-asserted : goal.judge_lists-requires-clause-asserted
judge_lists-requires-clause-asserted c = subst (λ (t : ProofTerms). All (λ i. i < length t.held) c.args.asserted.now) (sym c.in_ok-terms.ensures) c.requires.asserted

pub returns : goal.returns
returns c = λ frames same asserted.
    c.judge_lists.ensures frames (same ∙ sym (ap (λ (t : ProofTerms). t.declared) c.in_ok-terms.ensures))
    (asserted ∙ sym (ap (λ (t : ProofTerms). asserted_at t.held c.args.asserted.now) c.in_ok-terms.ensures))
