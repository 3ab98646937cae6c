use Rattle.std.proofs.Common.{◌^◌, ap, ◌∙◌, pos, arith}
use Rattle.std.specs.Prelude.{int_lt}
use Rattle.fraction128.proofs.Places.{held_is, keeps_sign, sign_is}
use Rattle.fraction128.proofs.wide.is_negative.Goals as goal

pub returns : goal.returns
returns c =
    ap (λ z. int_lt z (pos 0)) (held_is c.carried.result (2 ^ 126) (omega arith) c.carried.ensures.bound)
    ∙ sign_is c.args.places c.carried-one.result c.carried-two.result c.carried-three.result c.carried-fourth.result c.carried-five.result c.carried.result
    (keeps_sign (2 ^ 126) c.args.places.d0 c.args.places.d1 c.carried-one.result (omega arith) (omega (arith, c.requires.first)) (omega (arith, c.requires.second)) c.carried-one.ensures.sign)
    (keeps_sign (2 ^ 126) c.carried-one.result c.args.places.d2 c.carried-two.result (omega arith) c.carried-one.ensures.bound (omega (arith, c.requires.third)) c.carried-two.ensures.sign)
    (keeps_sign (2 ^ 126) c.carried-two.result c.args.places.d3 c.carried-three.result (omega arith) c.carried-two.ensures.bound (omega (arith, c.requires.fourth)) c.carried-three.ensures.sign)
    (keeps_sign (2 ^ 126) c.carried-three.result c.args.places.d4 c.carried-fourth.result (omega arith) c.carried-three.ensures.bound (omega (arith, c.requires.fifth)) c.carried-fourth.ensures.sign)
    (keeps_sign (2 ^ 126) c.carried-fourth.result c.args.places.d5 c.carried-five.result (omega arith) c.carried-fourth.ensures.bound (omega (arith, c.requires.sixth)) c.carried-five.ensures.sign)
    (keeps_sign (2 ^ 126) c.carried-five.result c.args.places.d6 c.carried.result (omega arith) c.carried-five.ensures.bound (omega (arith, c.requires.seventh)) c.carried.ensures.sign)
