use Rattle.std.proofs.Common.{rules, ◌≡◌, ◌<◌, true, sym, subst}
use Rattle.model_eval.specs.Walk.{is_marked}
use Rattle.theory_combine.proofs.Comparing.{part_left}
use Rattle.theory_combine.proofs.Fitting.{in_list}
use Rattle.theory_combine.proofs.unfit.unfolded_at.Goals as goal

pub form-requires : goal.form-requires
form-requires c =
    let s = c.args.parts.now.stack.now in
    let marked : is_marked c.args.parts.now.marks.items c.args.place ≡ true = search rules in
    subst (λ n. c.args.place < n) (sym c.requires.under_way.0.forms.size) (in_list s c.args.parts.now.marks.items c.args.place c.requires.parts.0 marked)

pub returns-in-Err-clause-some : goal.returns-in-Err-clause-some
returns-in-Err-clause-some c =
    let s = c.args.parts.now.stack.now in
    let marks = c.args.parts.now.marks.items in
    let marked : is_marked marks c.args.place ≡ true = search rules in
    let forms = c.requires.under_way.0 in
    part_left c.flat_says_the_same.ensures s marks c.requires.parts.2.only forms.different c.args.place c.in-Err.part (in_list s marks c.args.place c.requires.parts.0 marked) marked (c.in-Err.ensures.err s.trees forms)

pub returns-in-Ok-clause-none : goal.returns-in-Ok-clause-none
returns-in-Ok-clause-none c = λ m. (c.in-Ok.ensures.ok c.args.parts.now.stack.now.trees c.requires.under_way.0).fits
