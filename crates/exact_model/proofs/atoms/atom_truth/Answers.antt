use Rattle.std.proofs.Common.{List, [], ◌∷◌, length, ◌<◌, All, subst}
use Rattle.std.proofs.lemmas.List.Elements.{All-head, All-tail}
use Rattle.smt_meaning.specs.declared.clauses.Summand.{Summand}
use Rattle.smt_meaning.specs.declared.clauses.Atom.TheVariants.{Truth, AtMost, Same}
use Rattle.smt_meaning.specs.Clause.{sum_places}
use Rattle.std.specs.Prelude.{slice_index_or}
use Rattle.exact_model.proofs.Deciding.{places_of, summands_below}
use Rattle.exact_model.proofs.atoms.atom_truth.Goals as goal

pub bounds-values-place : goal.bounds-values-place
bounds-values-place c =
    All-head (λ p. p < length c.args.values.now) c.in-Truth.place []
    (places_of c.args.atoms.now.atoms (length c.args.values.now) c.args.number (Truth c.in-Truth.place) c.requires.places c.in-Truth.ensures.atom)

pub bounds-values-left : goal.bounds-values-left
bounds-values-left c =
    All-head (λ p. p < length c.args.values.now) c.in-Same.left (c.in-Same.right ∷ [])
    (places_of c.args.atoms.now.atoms (length c.args.values.now) c.args.number (Same c.in-Same.left c.in-Same.right) c.requires.places c.in-Same.ensures.atom)

pub bounds-values-right : goal.bounds-values-right
bounds-values-right c =
    All-head (λ p. p < length c.args.values.now) c.in-Same.right []
    (All-tail (λ p. p < length c.args.values.now) c.in-Same.left (c.in-Same.right ∷ [])
    (places_of c.args.atoms.now.atoms (length c.args.values.now) c.args.number (Same c.in-Same.left c.in-Same.right) c.requires.places c.in-Same.ensures.atom))

pub is_at_most-requires : goal.is_at_most-requires
is_at_most-requires c =
    summands_below (length c.args.values.now) c.sum.result.now
    (subst (λ (sum : List Summand). All (λ p. p < length c.args.values.now) (sum_places sum)) (c.sum.ensures.1 [])
    (places_of c.args.atoms.now.atoms (length c.args.values.now) c.args.number (AtMost (slice_index_or c.args.atoms.now.sums c.in-Bound.bound.sum []) c.in-Bound.bound.threshold) c.requires.places
    c.in-Bound.ensures.atom))
