-- `smallest::smallest_light`: four checks of which none is met, or the search by counts. Assumes nothing.
use mathlib.Core.Path.{◌≡◌, sym, subst}
use Prim.Native.Nat.{ℕ}
use Rattle.vectors.specs.Vectors.{wbit}
use Rattle.samples.specs.raising.Knowing.{Within}
use Rattle.samples.specs.smallest.Settling.{Lightest}
use Rattle.samples.proofs.smallest.smallest_light.Goals as goal

pub smallest_none-requires : goal.smallest_none-requires
smallest_none-requires c =
    let a = c.args in
    let four : a.n ≡ 4 = c.if-n-eq4.true in
    (subst (λ n. Within a.starts.now a.d.now a.from n a.m) four c.requires.0, c.requires.1)

pub returns-then-n-eq4 : goal.returns-then-n-eq4
returns-then-n-eq4 c =
    let a = c.args in
    let four : a.n ≡ 4 = c.if-n-eq4.true in
    let f = c.smallest_none in
    let found : ℕ → ℕ → Type 0 =
    λ n met. Lightest a.samples.now (wbit a.d.now) a.starts.now a.from n met a.m a.first a.m f.result in
    subst (λ n. found n a.met) (sym four) (subst (found 4) (sym c.if-met-eq0.true) f.ensures)
