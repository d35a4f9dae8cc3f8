-- `quick::answer`: all checks, or the lowest broken one and 1. Assumes nothing.
use mathlib.Core.Path.{◌≡◌, sym, ap, ◌∙◌}
use mathlib.Core.Bool.{true, false}
use Prim.Native.Nat.{suc, ◌+◌, ◌<◌}
use native.Mathlib.Omega.{arith}
use Rattle.rules.specs.Codes.{checks}
use Rattle.rules.specs.Checks.{lowest}
use Rattle.rules.proofs.Lowest.{lowest_le}
use Rattle.quick.specs.Quick.{as_read}
use Rattle.quick.proofs.Promises.{found_lowest, found_all}
use Rattle.quick.proofs.answer.Goals as goal

pub returns-then-lowest-all : goal.returns-then-lowest-all
returns-then-lowest-all c code x ea el =
    ap (λ k. record { number = 0; yes = true; evaluated = k }) ea
    ∙ sym (ap as_read (found_all code x (sym el ∙ c.if-lowest-all.true ∙ ea)))

pub returns : goal.returns
returns c code x ea el =
    let l : lowest code x < checks code = omega (arith, lowest_le code x, c.if-lowest-all.false, ea, el) in
    let e : c.args.lowest + 1 ≡ suc (lowest code x) = omega (arith, el) in
    ap (λ k. record { number = 0; yes = false; evaluated = k }) e
    ∙ sym (ap as_read (found_lowest code x l))
