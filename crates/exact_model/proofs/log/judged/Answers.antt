use Rattle.std.proofs.Common.{◌≡◌, ◌<◌, ◌≤◌, true, length, All, List, subst, sym, ◌∙◌, rules}
use Rattle.std.proofs.lemmas.List.{take_all, get_or_read}
use Rattle.literals.specs.Signed.{Signed, literal_true}
use Rattle.exact_model.specs.Atoms.{truth_by}
use Rattle.exact_model.proofs.Deciding.{true_so_far}
use Rattle.exact_model.proofs.log.judged.Goals as goal

pub loop-place-preserved : goal.loop-place-preserved
loop-place-preserved c =
    let less : c.loop-place.place < length c.args.log.now = search rules in
    let holds : c.in_ok-makes_true.field-0 ≡ true = search rules in
    true_so_far c.args.values.now c.args.atoms.now.atoms c.args.log.now c.loop-place.place less
    (subst (λ (l : Signed). literal_true (truth_by c.args.values.now c.args.atoms.now.atoms) l ≡ true)
    (get_or_read c.args.log.now c.loop-place.place c.index-log-place.result less c.index-log-place.is (record { atom = 0; positive = true })) (sym c.in_ok-makes_true.ensures ∙ holds))
    c.loop-place.invariant

pub returns : goal.returns
returns c =
    let past : length c.args.log.now ≤ c.loop-place.place = search rules in
    subst (λ (ls : List Signed). All (λ l. literal_true (truth_by c.args.values.now c.args.atoms.now.atoms) l ≡ true) ls) (take_all c.loop-place.place c.args.log.now past) c.loop-place.invariant
