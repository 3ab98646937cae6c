use Rattle.std.proofs.Common.{List, [], ◌∷◌, ◌++◌, All, subst, sym, ap, ◌∙◌}
use Rattle.std.proofs.lemmas.List.Elements.{All-push}
use Rattle.race_model.specs.declared.event.Entry.{Entry}
use Rattle.lemma_pool.specs.Pools.{cut_base, IsKnown}
use Rattle.lemma_pool.proofs.Kept.{known_of}
use Rattle.lemma_pool.proofs.pool.PoolShelf.share.Goals as goal

pub invariant_of-self-2 : goal.invariant_of-self-2
invariant_of-self-2 g c =
    let p = c.args.self.now in
    let b = cut_base p.levels (g.K.Framed.base p.stack.value) in
    record {
      roomy = p.roomy;
      standing = p.standing;
      known = subst (λ (es : List Entry). All (λ (e : Entry). IsKnown b e.clause) es)
          (sym (c.push_reserved.ensures.items ∙ ap (λ (l : List Entry). l ++ record { clause = c.args.clause; worker = c.args.worker } ∷ []) c.reserve.ensures.items))
          (All-push (λ (e : Entry). IsKnown b e.clause) p.entries.items (record { clause = c.args.clause; worker = c.args.worker }) p.known (known_of b c.args.clause c.requires));
    }
