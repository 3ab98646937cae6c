use Rattle.std.proofs.Common.{rules, ◌≡◌, ◌+◌, ◌++◌, ◌∷◌, [], List, false, sym, subst}
use Rattle.theory_combine.specs.declared.distincts.IntArgument.{IntArgument}
use Rattle.theory_combine.specs.ByValue.{int_argument, AreIntsAmong}
use Rattle.theory_combine.proofs.ByValue.{passed, taken}
use Rattle.theory_combine.proofs.distincts.add_if_int.Goals as goal

pub returns-then-not-is_fit : goal.returns-then-not-is_fit
returns-then-not-is_fit c =
    let no : c.is_fit.result ≡ false = search rules in
    passed c.args.parts.now c.args.given.now c.args.arguments.now c.args.number c.args.ints.now.items (c.is_fit.ensures.no no) c.requires.before

pub returns : goal.returns
returns c =
    let p = c.args.parts.now in
    let gs = c.args.given.now in
    let is = c.args.arguments.now in
    let old : List IntArgument = c.args.ints.now.items in
    let items : c.push.new.self.items ≡ old ++ int_argument gs is c.args.number ∷ [] = search rules in
    subst (λ (xs : List IntArgument). AreIntsAmong p gs is (c.args.number + 1) xs) (sym items) (taken p gs is c.args.number old c.requires.within c.requires.before)
