-- `units::writable`: refusals in the order of their numbers. Assumes nothing.
use mathlib.Core.Path.{◌≡◌, sym, ◌∙◌, subst}
use mathlib.Core.Bool.{true}
use Prim.Native.Nat.{◌<◌, ◌^◌}
use native.Mathlib.Omega.{arith}
use Rattle.units.specs.unitrules.Units.{unit_code}
use Rattle.units.proofs.Lengths.{octets_given, octets_some, number_one, number_two, number_three, number-none}
use Rattle.units.proofs.writable.Goals as goal
use Rattle.units.proofs.writable.Goals.{In-Some}

-- The code is one of units.
is_code : (c : In-Some) → unit_code c.args.code ≡ true
is_code c = subst (λ n. unit_code n ≡ true) c.in-Some.ensures c.in-Some.unit_code.offered

pub returns-in_default-clause-numbered : goal.returns-in_default-clause-numbered
returns-in_default-clause-numbered c = sym (number_one c.args.code c.args.long c.args.room c.in_default.ensures)

pub returns-then-long-eq0-clause-numbered : goal.returns-then-long-eq0-clause-numbered
returns-then-long-eq0-clause-numbered c =
    let a = c.args in
    sym (number_two a.code a.long a.room (is_code (goal.at.returns-then-long-eq0-clause-numbered c).In-Some) c.if-long-eq0.true)

pub returns-then-needed-eq0-clause-numbered : goal.returns-then-needed-eq0-clause-numbered
returns-then-needed-eq0-clause-numbered c =
    let a = c.args in
    let u = is_code (goal.at.returns-then-needed-eq0-clause-numbered c).In-Some in
    let d = c.if-long-eq0.false in
    let h : a.room < 2 ^ 64 = omega arith in
    sym (number_three a.code a.long a.room u d (λ q.
    let z = octets_given a.code a.long c.unit_octets-needed.result a.room u d c.unit_octets-needed.ensures h q in
    omega (arith, c.if-needed-eq0.true, z, q)))

pub returns-then-room-needed-clause-numbered : goal.returns-then-room-needed-clause-numbered
returns-then-room-needed-clause-numbered c =
    let a = c.args in
    let u = is_code (goal.at.returns-then-room-needed-clause-numbered c).In-Some in
    let d = c.if-long-eq0.false in
    let h : a.room < 2 ^ 64 = omega arith in
    sym (number_three a.code a.long a.room u d (λ q. c.if-room-needed.true
    (octets_given a.code a.long c.unit_octets-needed.result a.room u d c.unit_octets-needed.ensures h q)))

pub returns-clause-numbered : goal.returns-clause-numbered
returns-clause-numbered c =
    let a = c.args in
    let u = is_code (goal.at.returns-clause-numbered c).In-Some in
    let d = c.if-long-eq0.false in
    sym (number-none a.code a.long a.room u d (c.if-room-needed.false
    ∙ octets_some a.code a.long c.unit_octets-needed.result u d c.unit_octets-needed.ensures c.if-needed-eq0.false))
