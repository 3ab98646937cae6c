use Rattle.std.proofs.Common.{rules, ◌≡◌, ◌+◌, ◌<◌, List, ◌++◌, ◌∷◌, [], All, length, take, subst, sym, ap, ◌∙◌}
use Rattle.std.proofs.lemmas.List.{take_more}
use Rattle.std.proofs.lemmas.List.Elements.{All-push}
use Rattle.literals.specs.Signed.{Signed}
use Rattle.first_clauses.specs.Turned.{AreTurned}
use Rattle.first_clauses.proofs.Turning.{turned_more}
use Rattle.first_clauses.proofs.turn.put_turned.Goals as goal

pub loop-literal-preserved : goal.loop-literal-preserved
loop-literal-preserved c =
    let i = c.loop-literal.literal-index in
    let pushed : c.push.new.self.items ≡ c.loop-literal.put.items ++ c.turned.result ∷ [] = search rules in
    let list : take (i + 1) c.args.clause.now ≡ take i c.args.clause.now ++ c.literal-item.result ∷ [] =
    take_more c.args.clause.now i c.literal-item.result c.loop-literal-test.true ∙ ap (λ (l : Signed). take i c.args.clause.now ++ l ∷ []) (sym c.literal-item.is) in
    record {
      within = subst (All (λ (m : Signed). m.atom < length c.args.atoms.now.atoms)) (sym pushed) (All-push (λ (m : Signed). m.atom < length c.args.atoms.now.atoms) c.loop-literal.put.items c.turned.result c.loop-literal.invariant.within c.turned.ensures.within);
      turned = subst (λ (ls : List Signed). AreTurned c.args.terms.now.trees c.args.atoms.now.atoms ls c.push.new.self.items) (sym list)
          (subst (AreTurned c.args.terms.now.trees c.args.atoms.now.atoms (take i c.args.clause.now ++ c.literal-item.result ∷ [])) (sym pushed)
          (turned_more c.args.terms.now.trees c.args.atoms.now.atoms (take i c.args.clause.now) c.loop-literal.put.items c.literal-item.result c.turned.result c.loop-literal.invariant.turned c.turned.ensures.turned));
    }
