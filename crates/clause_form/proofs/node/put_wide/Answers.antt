use Rattle.std.proofs.Common.{◌∙◌, ◌++◌, ap, map, true}
use Rattle.clause_form.specs.Signs.{sign, clashes}
use Rattle.clause_form.proofs.ApartClauses.{no_clash_of_yes}
use Rattle.clause_form.specs.Plain.{signs}
use Rattle.clause_form.proofs.node.put_wide.Goals as goal

pub put_equal-requires : goal.put_equal-requires
put_equal-requires c =
    ap clashes c.in_ok-add_all-in-Equal.ensures
    ∙ ap (λ ls. clashes (signs ls ++ map (λ i. sign i true) c.args.arguments.now)) c.clear.ensures.items
    ∙ no_clash_of_yes c.args.arguments.now
