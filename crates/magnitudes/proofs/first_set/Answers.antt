-- `magnitudes::first_set`: the leading zeros. Assumes nothing.
use Rattle.vectors.proofs.Firsts.{first_digit}
use borrow.Author.Rules.{rules}
use Rattle.magnitudes.proofs.first_set.Goals as goal

pub returns : goal.returns
returns c =
    let f = first_digit 64 c.args.v c.requires (search rules) in
    (f.inside, f.here, f.clear)
