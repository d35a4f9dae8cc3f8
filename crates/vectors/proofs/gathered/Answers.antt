-- `vectors::gathered` meets its contract: the number has the bits of the octets so far. Assumes nothing.
use mathlib.Core.Path.{sym, subst}
use Prim.Native.Nat.{ℕ, ◌+◌, ◌*◌, ◌^◌, ◌<◌}
use native.Mathlib.Omega.{arith}
use Rattle.std.proofs.lemmas.List.Edits.{length-between, get_or-between}
use Rattle.vectors.proofs.Octets.{Gathered, octet_more, fits}
use Rattle.vectors.proofs.gathered.Goals as goal

pub overflow_mul-number : goal.overflow_mul-number
overflow_mul-number c =
    let a = c.args in
    let l = c.loop-octet in
    let h : l.number < 2 ^ 56 =
    fits (8 * l.octet-index) 56 l.number l.invariant.0 (omega (arith, length-between a.octets.now a.at (a.at + a.n) c.requires.1)) in
    omega arith

pub overflow_add-number : goal.overflow_add-number
overflow_add-number c =
    let a = c.args in
    let l = c.loop-octet in
    let o = a.octets.now in
    let e = length-between o a.at (a.at + a.n) c.requires.1 in
    let h : l.number < 2 ^ 56 = fits (8 * l.octet-index) 56 l.number l.invariant.0 (omega arith) in
    let same = get_or-between o a.at (a.at + a.n) l.octet-index 0 (omega arith) in
    omega (arith, c.type_inv.octets (a.at + l.octet-index))

pub loop-octet-preserved : goal.loop-octet-preserved
loop-octet-preserved c =
    let a = c.args in
    let l = c.loop-octet in
    let o = a.octets.now in
    let k = l.octet-index in
    let e = length-between o a.at (a.at + a.n) c.requires.1 in
    subst (λ (b : ℕ). Gathered o a.at (k + 1) (l.number * 256 + b)) (sym (get_or-between o a.at (a.at + a.n) k 0 (omega arith)))
    (octet_more o a.at k l.number (c.type_inv.octets (a.at + k)).fits l.invariant)
