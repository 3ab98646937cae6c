use Rattle.std.proofs.Common.{◌≡◌, ◌++◌, ◌∷◌, [], suc, ◌-◌, length, drop, arith, sym, ap, subst, ◌∙◌}
use Rattle.std.proofs.lemmas.Grind.{common_steps}
use Rattle.model_eval.specs.Rows.{row_hashes}
use Rattle.model_eval.proofs.RowLemmas.{row_hashes-more, length-row_hashes}
use Rattle.model_eval.proofs.rows.hashed.Goals as goal

pub push-requires : goal.push-requires
push-requires c =
    let rest : length (drop c.loop-left.left c.args.rows.now) ≡ length c.args.rows.now - c.loop-left.left = grind (arith, common_steps) in
    omega (arith, ap length c.loop-left.invariant.hashes, length-row_hashes (drop c.loop-left.left c.args.rows.now))

pub loop-left-preserved : goal.loop-left-preserved
loop-left-preserved c =
    let within = c.loop-left.invariant.within in
    let i = c.loop-left.left - 1 in
    let up : suc i ≡ c.loop-left.left = omega arith in
    let h = c.hash_at.result in
    let more' : row_hashes (drop i c.args.rows.now) ≡ row_hashes (drop c.loop-left.left c.args.rows.now) ++ h ∷ [] =
    subst (λ n. row_hashes (drop i c.args.rows.now) ≡ row_hashes (drop n c.args.rows.now) ++ h ∷ []) up (row_hashes-more c.args.rows.now i h (omega arith) c.hash_at.ensures) in
    record {
      within = omega arith;
      hashes = c.in_ok-push.ensures.ok ∙ ap (λ hs. hs ++ h ∷ []) c.loop-left.invariant.hashes ∙ sym more';
    }
