-- `quickwide::groups_lowest`: no check of the groups so far is broken. Assumes nothing.
use mathlib.Core.Path.{sym}
use Prim.Native.Nat.{◌-◌}
use native.Mathlib.Nat.{pos_of_ne-zero}
use native.Mathlib.Omega.{arith}
use lib.Count.{count_leading_zeros, leading_le}
use lib.ListN.{length, drop, length-take, length-drop}
use Rattle.bits.proofs.Leasts.{least_none}
use Rattle.vectors.specs.Vectors.{wbit}
use Rattle.vectors.proofs.Firsts.{first_digit}
use Rattle.quick.specs.groups.Groups.{behind}
use Rattle.quick.proofs.lowest_wide.Doubled.{group_passed, first_there, first_past}
use Rattle.quick.proofs.lowest_wide.groups_lowest.Goals as goal

pub loop-g-init : goal.loop-g-init
loop-g-init c = λ i l. absurd (omega arith)

pub wide_group-v-requires : goal.wide_group-v-requires
wide_group-v-requires c =
    let g = c.loop-g.g in
    let d = c.args.d.now in
    λ k l. omega (arith, c.requires.2 k l, length-take (length d - g) (drop g d), length-drop g d)

pub overflow_cast-l : goal.overflow_cast-l
overflow_cast-l c = omega (arith, leading_le 64 c.wide_group-v.result)

pub overflow_add-l : goal.overflow_add-l
overflow_add-l c = omega (arith, leading_le 64 c.wide_group-v.result)

pub returns-then-l-m : goal.returns-then-l-m
returns-then-l-m c =
    let a = c.args in
    let l = c.loop-g in
    let w = c.wide_group-v in
    first_there a.d.now a.begins.now a.m l.g w.result w.ensures l.invariant (count_leading_zeros 64 w.result)
    (first_digit 64 w.result (pos_of_ne-zero c.if-v-ne0.true) w.type_inv) (omega arith)

pub returns-then-v-ne0 : goal.returns-then-v-ne0
returns-then-v-ne0 c =
    let a = c.args in
    let l = c.loop-g in
    let w = c.wide_group-v in
    first_past a.d.now a.begins.now a.m l.g w.result w.ensures l.invariant (count_leading_zeros 64 w.result)
    (first_digit 64 w.result (pos_of_ne-zero c.if-v-ne0.true) w.type_inv) (omega arith)

pub loop-g-preserved : goal.loop-g-preserved
loop-g-preserved c =
    let a = c.args in
    let l = c.loop-g in
    let w = c.wide_group-v in
    group_passed a.d.now a.begins.now a.m l.g w.result w.ensures l.invariant c.if-v-ne0.false

pub returns : goal.returns
returns c =
    let a = c.args in
    let l = c.loop-g in
    sym (least_none a.m (behind a.begins.now (wbit a.d.now)) (λ i h. l.invariant i (omega arith)))
