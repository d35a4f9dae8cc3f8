-- `ties::tied` meets its contract: both parts of the identity.
use mathlib.Core.Path.{sym, ap, ◌∙◌}
use mathlib.Core.Bool.{Bool, ◌&&◌}
use native.Mathlib.Omega.{arith}
use Prim.Native.Nat.{◌+◌, ◌<◌}
use Rattle.rules.specs.Identity.{all_padded_of}
use Rattle.identity.specs.ties.Flat.{parity_of, generator_of}
use Rattle.identity.proofs.ties.Printed.{same_rows}
use Rattle.identity.proofs.ties.tied.Goals as goal

pub returns-then-rows_tied : goal.returns-then-rows_tied
returns-then-rows_tied c printed fits =
    let a = c.args.tables in
    let m = a.sizes.m in
    let count = a.sizes.information_blocks in
    let parts = a.sizes.parity_blocks in
    let G = generator_of m count parts a.generator.now in
    let P = parity_of m a.sizes.rows (count + parts) a.parity.now in
    let pos : 0 < m = omega arith in
    c.all_padded.ensures
    ∙ ap (λ (x : Bool). x && all_padded_of m G)
    (sym (same_rows m printed pos fits P G ∙ sym c.rows_tied.ensures ∙ c.if-rows_tied.true))

pub returns-else-rows_tied : goal.returns-else-rows_tied
returns-else-rows_tied c printed fits =
    let a = c.args.tables in
    let m = a.sizes.m in
    let count = a.sizes.information_blocks in
    let parts = a.sizes.parity_blocks in
    let G = generator_of m count parts a.generator.now in
    let P = parity_of m a.sizes.rows (count + parts) a.parity.now in
    let pos : 0 < m = omega arith in
    c.if-rows_tied.false
    ∙ ap (λ (x : Bool). x && all_padded_of m G)
    (sym (same_rows m printed pos fits P G ∙ sym c.rows_tied.ensures ∙ c.if-rows_tied.false))
