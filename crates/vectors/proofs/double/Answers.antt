-- `vectors::double` meets its contract: the words that have a right neighbour, the last in front, and the last of all. Assumes nothing.
use mathlib.Core.Path.{◌≡◌, ◌∙◌}
use Prim.Native.Nat.{◌+◌, ◌-◌, ◌*◌, ◌/◌}
use native.Mathlib.Omega.{arith}
use lib.ListN.{length}
use Rattle.vectors.proofs.Doubling.{at_stored, end_stored}
use Rattle.vectors.proofs.double.Goals as goal

pub returns-then-n-d : goal.returns-then-n-d
returns-then-n-d c =
    let a = c.args in
    let w = c.double_words in
    let n = (a.m + 63) / 64 in
    let u = c.funnel in
    c.trim.ensures
    ∙ end_stored a.v.now w.new.d a.m n (64 * n - a.m) c.requires.0 (omega arith) (omega arith) (omega arith)
    w.ensures
    u.result (c.shared_slice_known-3-1.given 0).fits (omega arith) u.ensures

pub returns-else-n-d : goal.returns-else-n-d
returns-else-n-d c =
    let a = c.args in
    let w = c.double_words in
    let d = w.new.d in
    let n = (a.m + 63) / 64 in
    let same : length d ≡ length a.d.now = c.d-1.given in
    at_stored a.v.now d a.m n (64 * n - a.m) c.requires.0 (omega arith) (omega arith) (omega arith) w.ensures
    (c.shared_slice_known-3-1.given 0).fits (omega arith) (omega arith) (omega arith)
