use Rattle.std.proofs.Common.{◌^◌, arith}
use Rattle.fraction128.proofs.Places.{second_near, third_near, fourth_near, product_within, product_value}
use Rattle.fraction128.proofs.wide.with_product.Goals as goal

pub with_digit-b-requires-clause-near : goal.with_digit-b-requires-clause-near
with_digit-b-requires-clause-near c =
    second_near (2 ^ 125) c.args.places (omega arith) c.requires.near c.window.result c.with_digit-a.result c.window.ensures c.with_digit-a.ensures.grown c.window-2.result c.window-2.ensures

pub with_digit-c-requires-clause-near : goal.with_digit-c-requires-clause-near
with_digit-c-requires-clause-near c =
    third_near (2 ^ 125) c.args.places (omega arith) c.requires.near c.window.result c.with_digit-a.result c.window.ensures c.with_digit-a.ensures.grown c.window-2.result c.window-2.ensures c.with_digit-b.result
    c.with_digit-b.ensures.grown c.window-3.result c.window-3.ensures

pub with_digit-d-requires-clause-near : goal.with_digit-d-requires-clause-near
with_digit-d-requires-clause-near c =
    fourth_near (2 ^ 125) c.args.places (omega arith) c.requires.near c.window.result c.with_digit-a.result c.window.ensures c.with_digit-a.ensures.grown c.window-2.result c.window-2.ensures c.with_digit-b.result
    c.with_digit-b.ensures.grown c.window-3.result c.window-3.ensures c.with_digit-c.result c.with_digit-c.ensures.grown c.window-4.result c.window-4.ensures

pub returns-clause-value : goal.returns-clause-value
returns-clause-value c =
    product_value (2 ^ 125) c.args.places (omega arith) c.requires.near c.window.result c.with_digit-a.result c.window.ensures c.with_digit-a.ensures.grown c.window-2.result c.window-2.ensures c.with_digit-b.result
    c.with_digit-b.ensures.grown c.window-3.result c.window-3.ensures c.with_digit-c.result c.with_digit-c.ensures.grown c.window-4.result c.window-4.ensures c.with_digit-d.result c.with_digit-d.ensures.grown c.args.x c.args.y
    c.requires.right c.with_digit-a.ensures.value c.with_digit-b.ensures.value c.with_digit-c.ensures.value c.with_digit-d.ensures.value

pub returns-clause-grown : goal.returns-clause-grown
returns-clause-grown c n few within =
    product_within n c.args.places few within c.window.result c.with_digit-a.result c.window.ensures c.with_digit-a.ensures.grown c.window-2.result c.window-2.ensures c.with_digit-b.result c.with_digit-b.ensures.grown
    c.window-3.result c.window-3.ensures c.with_digit-c.result c.with_digit-c.ensures.grown c.window-4.result c.window-4.ensures c.with_digit-d.result c.with_digit-d.ensures.grown
