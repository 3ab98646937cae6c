use Rattle.std.proofs.Common.{◌≡◌, ◌∙◌, sym, subst, ap, map, All, List, IfSome}
use Rattle.scope_stack.specs.declared.answers.Assertion.{Assertion}
use Rattle.scope_stack.specs.Pieces.{all_of, pieces}
use Rattle.scope_stack.specs.Inside.{asserted_by, IsWithin}
use Rattle.scope_stack.specs.Seen.{AreMoved}
use Rattle.scope_stack.proofs.PieceLemmas.{all-pieces}
use Rattle.scope_stack.proofs.CopyLemmas.{moved_pieces}
use Rattle.scope_stack.proofs.asserted.Asserted.moved.Goals as goal

pub move_all-requires-clause-within : goal.move_all-requires-clause-within
move_all-requires-clause-within c =
    rw c.deref.ensures.value
    (subst (All (IsWithin c.args.terms.now.trees)) (all-pieces 0 c.self.inside.items.items c.self.inside.starts.items)
    (subst (λ (xss : List (List Assertion)). All (IsWithin c.args.terms.now.trees) (all_of xss)) (sym c.self.view_is) c.requires.within))

pub returns : goal.returns
returns c =
    let trees = c.args.terms.now.trees in
    let copies = c.args.copies.now.trees in
    let same = subst (λ found. IfSome found (λ v. map (asserted_by copies) v.items ≡ map (asserted_by trees) c.deref.result.now)) c.in-Some.is c.in_ok-items.ensures.same in
    let within = subst (λ found. IfSome found (λ v. All (IsWithin copies) v.items)) c.in-Some.is c.in_ok-items.ensures.within in
    subst (λ (xss : List (List Assertion)). AreMoved trees copies xss (pieces 0 c.in-Some.items.items c.in_ok-starts.starts.items)) c.self.view_is
    (moved_pieces trees copies c.self.inside.items.items c.in-Some.items.items c.self.inside.starts.items c.in_ok-starts.starts.items
    (same ∙ ap (map (asserted_by trees)) c.deref.ensures.value) within
    (c.in_ok-starts.ensures.items_if_clones_equal (λ x y e. e) ∙ c.deref-2.ensures.value))
