use Rattle.std.proofs.Common.{rules, ◌≡◌, true, ap, sym, ◌∙◌}
use Rattle.first_clauses.proofs.triangles.leads.Goals as goal

pub returns-then-is_pair : goal.returns-then-is_pair
returns-then-is_pair c = λ t v e f.
    let same : c.args.second ≡ c.args.next.left = search rules in
    let yes : c.is_pair.result ≡ true = search rules in
    c.is_pair.ensures yes v (e ∙ (ap v same ∙ f))

pub returns : goal.returns
returns c = λ t v e f.
    let same : c.args.second ≡ c.args.next.right = search rules in
    c.is_pair-2.ensures t v (e ∙ (ap v same ∙ sym f))
