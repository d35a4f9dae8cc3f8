-- `lines::Block::write` meets its contract: after k words the text is the lines of the first k. Assumes nothing.
use mathlib.Core.Path.{◌≡◌, refl, ap, ◌∙◌}
use mathlib.Core.List.{List, ◌++◌}
use Prim.Native.Nat.{ℕ, ◌+◌}
use native.Mathlib.Numerals.{add-one}
use native.Mathlib.Omega.{arith}
use lib.ListN.{length}
use Rattle.wordlog.specs.line.Line.{word_line}
use Rattle.wordlog.specs.lines.Log.{word, lines}
use Rattle.wordlog.proofs.lines.Pieces.{starts_before}
use Rattle.wordlog.proofs.lines.Block.write.Goals as goal

pub loop-k-init : goal.loop-k-init
unfolding lines
loop-k-init c = (omega arith, omega arith, omega arith, refl, refl, refl)

pub write_at-end-requires : goal.write_at-end-requires
write_at-end-requires c =
    let h = c.loop-k in
    let b = (starts_before (length c.args.words.now) c.args.self.now.size c.loop-k.k c.requires.numbered.0.1 (omega (
      arith,
      c.requires.numbered.1,
    ))) in
    record {
      numbered = (c.requires.numbered.0, omega (arith, c.requires.numbered.1));
      out_len = (h.invariant.3 ∙ c.requires.out_len.0, omega (arith, b.0, b.1));
    }

pub loop-k-preserved : goal.loop-k-preserved
unfolding lines
loop-k-preserved c =
    let h = c.loop-k in
    let w = c.write_at-end in
    let b = (starts_before (length c.args.words.now) c.args.self.now.size c.loop-k.k c.requires.numbered.0.1 (omega (
      arith,
      c.requires.numbered.1,
    ))) in
    let a = c.args in (
      omega arith,
      omega arith,
      omega (arith, b.0, b.1),
      omega arith,
      omega arith,
      rw add-one (w.ensures.text_after ∙ ap (λ (p : List ℕ). p ++ word_line a.self.now.code a.self.now.limit (a.self.now.index + h.k)
          (word a.self.now.code a.words.now h.k)) h.invariant.5),
    )

pub returns : goal.returns
returns c =
    let a = c.args in
    let h = c.loop-k in
    let e : h.k ≡ a.self.now.count = omega arith in
    record {
      upper_bound = omega arith;
      text_after = h.invariant.5 ∙ ap (λ m. lines a.self.now.code a.self.now.limit
          a.self.now.index a.words.now m) e;
    }
