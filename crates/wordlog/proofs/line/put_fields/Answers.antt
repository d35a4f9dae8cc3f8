-- `line::put_fields` meets its contract: after k numbers the text is their fields. Assumes nothing.
use mathlib.Core.Path.{◌≡◌, refl, sym, ap, ◌∙◌}
use mathlib.Core.List.{List, ◌++◌, append-nil}
use Prim.Native.Nat.{ℕ, ◌<◌}
use native.Mathlib.Omega.{arith}
use lib.ListN.{length, take}
use lib.Seq.{take_all}
use Rattle.wordlog.specs.line.Line.{fields}
use Rattle.wordlog.proofs.line.Texts.{fields_next}
use Rattle.wordlog.proofs.line.put_fields.Goals as goal

pub loop-n-init : goal.loop-n-init
unfolding fields
loop-n-init c = (omega arith, omega arith, refl, sym (append-nil _))

pub loop-n-preserved : goal.loop-n-preserved
loop-n-preserved c =
    let a = c.args in
    let h = c.loop-n in
    let w = c.put_field-end in
    let l : h.n-index < length a.numbers.now = omega arith in (
      omega arith,
      omega (arith, w.ensures.0),
      omega arith,
      fields_next a.numbers.now (take a.at a.text.now) (take w.result w.new.text) (take h.end h.text) h.n-index l
          w.ensures.1 h.invariant.3,
    )

pub returns : goal.returns
returns c =
    let a = c.args in
    let h = c.loop-n in
    let e : h.n-index ≡ length a.numbers.now = omega arith in
    record {
      upper_bound = omega arith;
      text_after = h.invariant.3 ∙ ap (λ (l : List ℕ). take a.at a.text.now ++ fields l)
          (take_all h.n-index a.numbers.now (omega arith));
    }
