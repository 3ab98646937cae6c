use Rattle.std.proofs.Common.{◌≡◌, ℕ, refl, ◌++◌, ◌∷◌, [], List, All, length, take, sym, ap, ◌∙◌, subst, arith}
use Rattle.std.proofs.lemmas.List.{take-append-le, get_or_push, length_push}
use Rattle.point_closure.specs.declared.lists.Change.{Change}
use Rattle.point_closure.specs.Lists.{IsChangeOf, AreLists}
use Rattle.point_closure.proofs.ListsLemmas.{lists_revert}
use Rattle.point_closure.proofs.lists.Lists.undo_to.Goals as goal

last_change : (n : ℕ) (cs : List Change) (c : Change) → All (IsChangeOf n) (cs ++ c ∷ []) → IsChangeOf n c
last_change n cs c all = subst (IsChangeOf n) (get_or_push cs c c (length cs) refl) (all (length cs) c (omega (arith, length_push cs c)))

pub revert-requires : goal.revert-requires
revert-requires c =
    let is = subst (λ cs. AreLists c.changes.self-inside.lists.items cs) c.in-Some.ensures.items c.changes.invariant.lists in
    last_change (length c.changes.self-inside.lists.items) c.pop.new.self.items c.in-Some.change is.changes

pub changes-preserved-in-Some : goal.changes-preserved-in-Some
changes-preserved-in-Some c = record {
  lists = lists_revert c.changes.self-inside.lists.items c.revert.new.lists.items c.pop.new.self.items c.in-Some.change
      (subst (λ cs. AreLists c.changes.self-inside.lists.items cs) c.in-Some.ensures.items c.changes.invariant.lists) c.revert.ensures.count c.revert.ensures.reverted;
  count = c.revert.ensures.count ∙ c.changes.invariant.count;
  left =
      let e : c.changes.self-inside.changes.items ≡ c.pop.new.self.items ++ c.in-Some.change ∷ [] = c.in-Some.ensures.items in
      sym (take-append-le c.args.count c.pop.new.self.items (c.in-Some.change ∷ []) (omega (arith, ap length e, length_push c.pop.new.self.items c.in-Some.change)))
      ∙ ap (take c.args.count) (sym e) ∙ c.changes.invariant.left;
}
