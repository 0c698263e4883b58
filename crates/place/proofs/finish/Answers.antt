-- Each text after the one before it.
use native.Mathlib.Omega.{arith}
use Rattle.text.proofs.PrintLaws.{then, wrote_as}
use Rattle.place.proofs.Laws.{field-short, end_is}
use Rattle.place.specs.Here.{tables_of}
use mathlib.Core.Path.{refl}
use Rattle.place.proofs.finish.Goals as goal

pub spaced-c-requires : goal.spaced-c-requires
spaced-c-requires c = let w0 = c.text-a.ensures in
    let w1 = c.spaced-b.ensures in
    omega (arith, c.requires.in_bounds, w0.end, w0.size, w1.end, w1.size, field-short c.args.place.now.number)

pub spaced-d-requires : goal.spaced-d-requires
spaced-d-requires c = let w0 = c.text-a.ensures in
    let w1 = c.spaced-b.ensures in
    let w2 = c.spaced-c.ensures in
    omega (arith, c.requires.in_bounds, w0.end, w0.size, w1.end, w1.size, w2.end, w2.size, field-short c.args.place.now.number, field-short c.occupied-live.result)

pub spaced-e-requires : goal.spaced-e-requires
spaced-e-requires c = let w0 = c.text-a.ensures in
    let w1 = c.spaced-b.ensures in
    let w2 = c.spaced-c.ensures in
    let w3 = c.spaced-d.ensures in
    omega (arith, c.requires.in_bounds, w0.end, w0.size, w1.end, w1.size, w2.end, w2.size, w3.end, w3.size, field-short c.args.place.now.number, field-short c.occupied-live.result, field-short c.agents-others.result)

pub text-requires : goal.text-requires
text-requires c = let w0 = c.text-a.ensures in
    let w1 = c.spaced-b.ensures in
    let w2 = c.spaced-c.ensures in
    let w3 = c.spaced-d.ensures in
    let w4 = c.spaced-e.ensures in
    omega (arith, c.requires.in_bounds, w0.end, w0.size, w1.end, w1.size, w2.end, w2.size, w3.end, w3.size, w4.end, w4.size, field-short c.args.place.now.number, field-short c.occupied-live.result, field-short c.agents-others.result, field-short c.args.place.now.tasks.small.peak)

pub returns : goal.returns
returns c = let t = tables_of c.args.place.now in
    wrote_as (end_is t _ _ _ _ c.occupied-live.ensures c.agents-others.ensures refl)
    (then (then (then (then (then c.text-a.ensures c.spaced-b.ensures) c.spaced-c.ensures) c.spaced-d.ensures) c.spaced-e.ensures) c.text.ensures)
