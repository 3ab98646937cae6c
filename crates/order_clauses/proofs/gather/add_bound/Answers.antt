use Rattle.std.proofs.Common.{rules, ◌≡◌, ◌<◌, ℤ, List, [], ◌∷◌, ◌++◌, inr, length, sym, ap, subst, ◌∙◌, to_z, of_z}
use Rattle.std.specs.Int.{w128}
use Rattle.fraction128.proofs.Integers.{same_bits}
use Rattle.literals.specs.Signed.{sign}
use Rattle.smt_meaning.specs.declared.clauses.Atom.TheVariants.{AtMost}
use Rattle.smt_meaning.specs.Term.{Tree, Interpretation}
use Rattle.smt_meaning.specs.Clause.{atom_true, sum_value}
use Rattle.pair_bounds.specs.Turning.{turned, is_within}
use Rattle.order_clauses.specs.Links.{sum_at}
use Rattle.order_clauses.proofs.gather.add_bound.Goals as goal

pub returns : goal.returns
returns c =
    let sum = c.args.sum.now in
    let sums = c.number_sum.new.sums in
    let link = c.link_of.result in
    let z : ℤ = to_z w128 (of_z w128 c.args.threshold) in
    let copied : c.extend_from_slice.new.self.items ≡ sum = search rules in
    let same : z ≡ c.args.threshold = same_bits c.args.threshold c.requires.in_range in
    let pushed : c.push.new.self.items ≡ c.args.links.now.items ++ link ∷ [] = search rules in
    let turned_items : c.turn_all-limit.new.sum.items ≡ turned sum = c.turn_all-limit.ensures.sum ∙ ap turned copied in
    let within : (ts : List Tree) (I : Interpretation) → is_within c.turn_all-limit.result (sum_value ts I (turned sum)) ≡ atom_true ts I (AtMost sum c.args.threshold) =
    λ ts I. sym (ap (λ s. is_within c.turn_all-limit.result (sum_value ts I s)) turned_items) ∙ c.turn_all-limit.ensures.says ts I ∙ ap (λ s. atom_true ts I (AtMost s z)) copied
    ∙ ap (λ t. atom_true ts I (AtMost sum t)) same in
    record {
      sums = c.in_ok-group.ensures.on;
      links = inr (
        link,
        pushed,
        record {
          number = c.link_of.ensures.number;
          group = subst (λ g. g < length sums) (sym c.link_of.ensures.group) c.in_ok-group.ensures.at.0;
          turned_sum = ap (sum_at sums) c.link_of.ensures.group ∙ c.in_ok-group.ensures.at.1 [] ∙ c.deref.ensures.value ∙ turned_items;
          says = λ ts I. ap (sign link.positive) (sym (within ts I)) ∙ c.link_of.ensures.says (sum_value ts I (turned sum));
        },
      );
    }
