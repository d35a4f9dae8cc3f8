-- `line::put_header` meets its contract: the text in the code is the definition's. Assumes nothing.
use mathlib.Core.Path.{sym, ap}
use mathlib.Core.List.{List, ◌++◌}
use Prim.Native.Nat.{ℕ}
use native.Mathlib.Omega.{arith}
use lib.ListN.{take, drop}
use Rattle.std.proofs.lemmas.List.{length-take-le}
use Rattle.wordlog.specs.line.Line.{ascii, header}
use Rattle.wordlog.proofs.line.put_header.Goals as goal

pub slice_bounds-copy_from_slice-end-2 : goal.slice_bounds-copy_from_slice-end-2
slice_bounds-copy_from_slice-end-2 c = sym (length-take-le 36 c.args.text.now (omega arith))

pub copy_from_slice-requires : goal.copy_from_slice-requires
copy_from_slice-requires c = length-take-le 36 c.args.text.now (omega arith)

pub returns : goal.returns
unfolding header ascii
returns c = (omega arith, ap (λ (l : List ℕ). take 36 (l ++ drop 36 c.args.text.now)) c.copy_from_slice.ensures.after)
