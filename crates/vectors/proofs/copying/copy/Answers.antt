-- `copying::copy`: what is copied so far agrees. Assumes nothing.
use mathlib.Core.Path.{◌≡◌, refl, ap, sym, ◌∙◌}
use mathlib.Core.List.{List, ◌∷◌, [], ◌++◌}
use Prim.Native.Nat.{ℕ, ◌<◌}
use native.Mathlib.Omega.{arith}
use native.Mathlib.Numerals.{add-one}
use lib.ListN.{length, take, get_or, length-set}
use lib.Seq.{take-suc-set, take-suc, take-length}
use Rattle.vectors.proofs.copying.copy.Goals as goal

pub loop-i-init : goal.loop-i-init
loop-i-init c = (omega arith, refl, refl)

pub loop-i-preserved : goal.loop-i-preserved
loop-i-preserved c =
    let h = c.loop-i in
    let s = c.args.octets.now in
    let b : h.i < length h.out = omega arith in
    let b2 : h.i < length s = omega arith in (
      omega arith,
      simp length-set h.invariant.1,
      rw add-one (
          take-suc-set h.out h.i (get_or s h.i 0) b
          ∙ ap (λ (l : List ℕ). l ++ (get_or s h.i 0 ∷ [])) h.invariant.2
          ∙ sym (take-suc s h.i 0 b2)
          ),
    )

pub returns : goal.returns
returns c =
    let h = c.loop-i in
    let s = c.args.octets.now in
    let e : h.i ≡ length s = omega arith in
    let e2 : length h.out ≡ length s = omega arith in
    sym (take-length h.out) ∙ ap (λ (n : ℕ). take n h.out) (e2 ∙ sym e) ∙ h.invariant.2 ∙ ap (λ (n : ℕ). take n s) e ∙ take-length s
