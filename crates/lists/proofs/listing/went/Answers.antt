-- `listing::went` meets its contract: field by field. Assumes nothing.
use mathlib.Core.Path.{refl, ap}
use mir.Syntax.{w8}
use mir.Val.{SFits}
use mir.ValLaws.{to_z-of_z}
use borrow.Author.Rules.{rules}
use Rattle.lists.proofs.listing.went.Goals as goal

pub returns : goal.returns
returns c =
    let a = c.args in
    let fits : SFits w8 a.excess = search rules in
    (refl, refl, ap (λ e. record { bit = a.bit; excess = e; left = a.left }) (to_z-of_z w8 a.excess fits), refl, refl, refl)
