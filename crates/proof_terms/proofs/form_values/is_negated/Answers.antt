use Rattle.std.proofs.Common.{◌/◌, ◌+◌, ap, sym, ◌∙◌, subst, Contains}
use Rattle.proof_terms.proofs.FormChosen.{from_in, half_twice}
use Rattle.proof_terms.proofs.form_values.is_negated.Goals as goal

pub returns-clause-clash : goal.returns-clause-clash
returns-clause-clash c = λ e h.
    let twice = half_twice c.args.code (λ o. c.if-code-eq1.false o) in
    record {
      atom = c.args.code / 2;
      negative = subst (Contains c.args.codes.now) (sym twice) h;
      positive = subst (Contains c.args.codes.now) (ap (λ n. n + 1) (sym twice)) (from_in c.args.codes.now _ (sym c.has.ensures ∙ e));
    }
