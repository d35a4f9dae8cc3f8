-- `smallest::among`: the smallest of the bits that are set, beginning with the bit or with the first of them. Assumes nothing.
use mathlib.Core.Path.{◌≡◌}
use mathlib.Core.Bool.{true}
use mathlib.Core.Logic.{inr}
use Prim.Native.Nat.{ℕ, ◌+◌, ◌≤◌, ◌<◌}
use native.Mathlib.Omega.{arith}
use lib.ListN.{length}
use Rattle.bits.specs.Bits.{digit}
use Rattle.samples.proofs.smallest.Masks.{marks, marks_hold, among_none, among_bit, among_all, among_one, first_before, one_set}
use Rattle.samples.proofs.smallest.among.Goals as goal

pub returns-then-mask-eq0 : goal.returns-then-mask-eq0
returns-then-mask-eq0 c =
    let a = c.args in
    among_none a.samples.now a.mask a.first c.if-mask-eq0.true a.bit

pub returns-then-bit-samples : goal.returns-then-bit-samples
returns-then-bit-samples c =
    let a = c.args in
    let f = c.smallest_of in
    let x = a.samples.now in
    let is = f.ensures.1 (marks x a.mask a.first) 64 (omega arith) (marks_hold x a.mask a.first) in
    let here = c.if-bit-samples.true in
    let before : (i : ℕ) → i < 64 → digit 64 a.mask i ≡ true → a.bit ≤ a.first + i = λ i l e. omega (arith, c.requires.0 here) in (
      λ u. absurd (omega (arith, f.ensures.0)),
      λ u. (
        among_one x a.mask a.first c.requires.1 a.bit here before f.result is,
        λ v. among_bit x a.mask a.first c.requires.1 a.bit here before f.result is,
        among_all x a.mask a.first c.requires.1 a.bit here before f.result is,
      ),
    )

pub overflow_add-first : goal.overflow_add-first
overflow_add-first c =
    let f = c.first_set in
    omega (arith, c.requires.1 f.result f.ensures.0 f.ensures.1)

pub smallest_of-requires-2 : goal.smallest_of-requires-2
smallest_of-requires-2 c =
    let f = c.first_set in
    (c.requires.1 f.result f.ensures.0 f.ensures.1, c.requires.1)

pub returns : goal.returns
returns c =
    let a = c.args in
    let g = c.first_set in
    let f = c.smallest_of-2 in
    let x = a.samples.now in
    let is = f.ensures.1 (marks x a.mask a.first) 64 (omega arith) (marks_hold x a.mask a.first) in
    let bit = a.first + g.result in
    let here : bit < length x = c.requires.1 g.result g.ensures.0 g.ensures.1 in
    let before = first_before a.mask a.first g.result g.ensures.2 in (
      λ u. absurd (omega (arith, f.ensures.0)),
      λ u. (
        inr (one_set a.mask a.first g.result f.result g.ensures.0 g.ensures.1
            (among_one x a.mask a.first c.requires.1 bit here before f.result is)),
        λ v. absurd (omega (arith, c.if-bit-samples.false)),
        among_all x a.mask a.first c.requires.1 bit here before f.result is,
      ),
    )
