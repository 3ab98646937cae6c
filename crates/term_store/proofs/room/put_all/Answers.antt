use Rattle.std.proofs.Common.{◌≡◌, ◌∙◌, ◌<◌, ap, subst, length, take, arith}
use Rattle.std.specs.Prelude.{Result, Err}
use Rattle.smt_meaning.specs.Term.{tree_at}
use Rattle.smt_meaning.specs.TreeShape.{with_parts}
use Rattle.smt_meaning.specs.Sorts.{with_all}
use Rattle.term_store.specs.Terms.{Terms}
use Rattle.term_store.specs.declared.store.InternError.{InternError}
use Rattle.term_store.specs.declared.store.InternError.TheVariants.{Full}
use Rattle.term_store.proofs.RoomLemmas.{next_put, all_too_many, first_so}
use Rattle.term_store.proofs.room.put_all.Goals as goal

err_same : (x y : InternError) → x ≡ y → (let p : Result (Unit {0}) InternError = Err x in p ≡ Err y)
err_same x y e = ap (λ z. Err z) e

pub returns-in-Err-Full-clause-full : goal.returns-in-Err-Full-clause-full
returns-in-Err-Full-clause-full c e =
    let within : c.loop-id.id < length c.args.others.now.trees = omega (arith, c.len-id-end.ensures.value, c.loop-id-test.true) in
    let full : c.loop-id.store.limit < length (with_parts c.loop-id.store.trees (tree_at c.args.others.now.trees c.loop-id.id)) =
    c.in-Err-Full.ensures.full (err_same c.in-Err-Full.field-0 Full c.in-Err-Full.field-0-is) in
    let here : c.args.store.now.limit < length (with_parts (with_all c.args.store.now.trees (take c.loop-id.id c.args.others.now.trees)) (tree_at c.args.others.now.trees c.loop-id.id)) =
    subst (λ n. n < length (with_parts (with_all c.args.store.now.trees (take c.loop-id.id c.args.others.now.trees)) (tree_at c.args.others.now.trees c.loop-id.id))) c.loop-id.invariant.limit
    (subst (λ ts. c.loop-id.store.limit < length (with_parts ts (tree_at c.args.others.now.trees c.loop-id.id))) c.loop-id.invariant.trees full) in
    all_too_many c.args.store.now.trees c.args.others.now.trees c.loop-id.id c.args.store.now.limit within here

pub returns-in-Err-Full-clause-kept : goal.returns-in-Err-Full-clause-kept
returns-in-Err-Full-clause-kept c =
    first_so c.args.store.now.trees c.args.others.now.trees c.put.new.store.trees c.loop-id.id (ap (λ (s : Terms). s.trees) c.in-Err-Full.ensures.err ∙ c.loop-id.invariant.trees)

pub returns-in-Err-Memory-clause-kept : goal.returns-in-Err-Memory-clause-kept
returns-in-Err-Memory-clause-kept c =
    first_so c.args.store.now.trees c.args.others.now.trees c.put.new.store.trees c.loop-id.id (ap (λ (s : Terms). s.trees) c.in-Err-Memory.ensures.err ∙ c.loop-id.invariant.trees)

pub loop-id-preserved : goal.loop-id-preserved
loop-id-preserved c =
    let within : c.loop-id.id < length c.args.others.now.trees = omega (arith, c.len-id-end.ensures.value, c.loop-id-test.true) in
    record {
      size = c.in-Ok.ensures.size;
      places = c.in-Ok.ensures.places;
      trees = next_put c.args.store.now.trees c.args.others.now.trees c.put.new.store.trees c.loop-id.id within
          (c.in-Ok.ensures.trees ∙ ap (λ ts. with_parts ts (tree_at c.args.others.now.trees c.loop-id.id)) c.loop-id.invariant.trees);
      limit = c.in-Ok.ensures.limit ∙ c.loop-id.invariant.limit;
    }

pub returns-clause-kept : goal.returns-clause-kept
returns-clause-kept c = first_so c.args.store.now.trees c.args.others.now.trees c.loop-id.store.trees c.loop-id.id c.loop-id.invariant.trees
