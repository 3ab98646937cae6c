use Rattle.first_clauses.proofs.Triangular.{conjunction_makes}
use Rattle.first_clauses.proofs.diamonds.conjunction_gives.Goals as goal

pub returns : goal.returns
returns c = λ yes I h.
    conjunction_makes c.args.terms.now.trees c.args.place c.in-Some.both.left c.in-Some.both.right c.in-Some-two_of.one.left c.in-Some-two_of.one.right c.in-Some-two_of-2.other.left
    c.in-Some-two_of-2.other.right c.args.ends.left c.args.ends.right c.in-Some.ensures c.in-Some-two_of.ensures c.in-Some-two_of-2.ensures (c.joins.ensures yes) I h
