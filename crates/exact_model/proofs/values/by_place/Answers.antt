use Rattle.std.proofs.Common.{◌≡◌, ◌<◌, ◌≤◌, ℕ, length, false, All, List, subst, sym, rules}
use Rattle.std.specs.Prelude.{slice_index_or, slice_set}
use Rattle.std.proofs.lemmas.List.{take_all}
use Rattle.smt_meaning.specs.declared.values.Value.TheVariants.{Truth}
use Rattle.exact_model.specs.Places.{value_at}
use Rattle.exact_model.proofs.Spreading.{spread_more}
use Rattle.exact_model.proofs.values.by_place.Goals as goal

pub loop-k-preserved : goal.loop-k-preserved
loop-k-preserved c =
    let less : c.loop-k.k < length c.args.places.now = search rules in
    let inside : slice_index_or c.args.places.now c.loop-k.k 0 < c.args.count = c.requires.within c.loop-k.k 0 less in
    let size : length (slice_set c.loop-k.all.items (slice_index_or c.args.places.now c.loop-k.k 0) (slice_index_or c.args.values.now c.loop-k.k (Truth false))) ≡ c.args.count = search rules in
    record {
      size = size;
      each = spread_more c.args.places.now c.args.values.now c.loop-k.all.items c.loop-k.k c.requires.size less
          (subst (λ n. slice_index_or c.args.places.now c.loop-k.k 0 < n) (sym c.loop-k.invariant.size) inside) c.loop-k.invariant.each;
    }

pub returns-clause-each : goal.returns-clause-each
returns-clause-each c f e =
    let past : length c.args.places.now ≤ c.loop-k.k = search rules in
    subst (λ (ps : List ℕ). All (λ p. value_at c.loop-k.all.items p ≡ f p) ps) (take_all c.loop-k.k c.args.places.now past) (c.loop-k.invariant.each f e)
