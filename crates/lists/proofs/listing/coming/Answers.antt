-- `listing::coming` meets its contract. Assumes nothing.
use mathlib.Core.Path.{refl}
use Rattle.refusals.proofs.Admitted.{shaped}
use Rattle.lists.proofs.listing.coming.Goals as goal

pub comes_next-requires : goal.comes_next-requires
comes_next-requires c =
    ((shaped c.args.code.known refl).0, (shaped c.args.code.known refl).1, c.requires.1)

pub returns : goal.returns
returns c = c.comes_next.ensures
