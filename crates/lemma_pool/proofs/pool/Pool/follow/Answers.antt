use Rattle.std.proofs.Common.{◌≤◌, length, All, subst, sym, ap, ◌∙◌, arith}
use Rattle.race_model.specs.declared.event.Entry.{Entry}
use Rattle.lemma_pool.specs.Pools.{cut_base, IsKnown}
use Rattle.lemma_pool.proofs.Kept.{whole, still_sound, all_known, all_sound}
use Rattle.lemma_pool.proofs.pool.Pool.follow.Goals as goal

pub invariant_of-self : goal.invariant_of-self
invariant_of-self g c =
    let p = c.args.self.now in
    let base = g.K.Framed.base in
    let old = cut_base p.levels (base p.stack.value) in
    let new = base c.args.stack.now in
    let size = c.requires.levels in
    let within : c.args.levels ≤ length new.frames = omega arith in
    record {
      roomy = p.roomy;
      standing = subst (λ z. c.args.levels ≤ length (base z).frames) (sym c.of.ensures) within;
      known = subst (λ z. All (λ (e : Entry). IsKnown (cut_base c.args.levels (base z)) e.clause) p.entries.items) (sym c.of.ensures)
          (all_known (cut_base c.args.levels new) p.entries.items
          (still_sound c.sound_after_push.ensures c.sound_after_declared.ensures c.sound_after_assert.ensures c.sound_with_trees.ensures old new c.args.levels p.entries.items c.requires.grows size (all_sound old p.entries.items p.known)));
    }

pub returns-clause-base : goal.returns-clause-base
returns-clause-base g c = ap (λ z. cut_base c.args.levels (g.K.Framed.base z)) c.of.ensures ∙ whole (g.K.Framed.base c.args.stack.now) c.args.levels c.requires.levels
