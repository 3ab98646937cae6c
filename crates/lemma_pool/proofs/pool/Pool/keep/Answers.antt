use Rattle.std.proofs.Common.{rules, ◌≡◌, min, length, All, subst, sym, ap, ◌∙◌, refl}
use Rattle.std.specs.Prelude.{nat_lt}
use Rattle.std.proofs.lemmas.Fn.{filter_same}
use Rattle.race_model.specs.declared.event.Entry.{Entry}
use Rattle.race_model.specs.Race.{entries_below}
use Rattle.race_model.specs.Laws.{IsSound}
use Rattle.lemma_pool.specs.Pools.{cut_base, IsKnown}
use Rattle.lemma_pool.proofs.Kept.{cut_sound, cut_cut, levels_left, all_known, all_sound}
use Rattle.lemma_pool.proofs.pool.Pool.keep.Goals as goal

pub invariant_of-self : goal.invariant_of-self
invariant_of-self g c =
    let p = c.args.self.now in
    let b = g.K.Framed.base p.stack.value in
    let left = c.retain.new.self.items in
    let stay : left ≡ entries_below c.args.count p.entries.items = filter_same _ (λ (e : Entry). nat_lt e.clause.level c.args.count) _ (λ x t f' k. search rules) _ _ c.retain.ensures.filtered in
    let few : c.lesser-self.result ≡ min p.levels c.args.count = c.lesser-self.ensures in
    record {
      roomy = p.roomy;
      standing = levels_left p.levels c.args.count c.lesser-self.result (length b.frames) few p.standing;
      known = subst (λ n. All (λ (e : Entry). IsKnown (cut_base n b) e.clause) left) (sym few)
          (all_known (cut_base (min p.levels c.args.count) b) left
          (subst (λ es. All (λ (e : Entry). IsSound (cut_base (min p.levels c.args.count) b) e.clause) es) (sym stay)
          (cut_sound c.sound_after_cut.ensures b c.args.count p.levels p.entries.items p.standing (all_sound (cut_base p.levels b) p.entries.items p.known))));
    }

pub returns : goal.returns
returns g c =
    let p = c.args.self.now in
    let b = g.K.Framed.base p.stack.value in
    record {
      base = ap (λ n. cut_base n b) c.lesser-self.ensures ∙ cut_cut b c.args.count p.levels;
      entries = filter_same _ (λ (e : Entry). nat_lt e.clause.level c.args.count) _ (λ x t f' k. search rules) _ _ c.retain.ensures.filtered;
      ended = refl;
      room = refl;
      global = refl;
    }
