-- `nearest::mended` meets its contract: the fewest flips of the word's bits, made and stored. Assumes nothing.
use Rattle.vectors.specs.Vectors.{wbit}
use Rattle.nearest.specs.Nearest.{fewest}
use Rattle.nearest.proofs.Searching.{held_small}
use Rattle.nearest.proofs.Reaching.{found_none, found_list}
use borrow.Author.Rules.{rules}
use Rattle.nearest.proofs.mended.Goals as goal

pub hand_out-requires : goal.hand_out-requires
hand_out-requires c =
    let m = held_small c.args.reach (wbit c.args.y.now) c.in-Some.l c.requires.1 c.in-Some.ensures in
    (search rules, m.0, m.1)

pub returns-in-Some : goal.returns-in-Some
returns-in-Some c =
    let x = wbit c.args.y.now in
    found_list x c.args.out.now (fewest c.args.reach x) c.in-Some.l c.in-Some.ensures _ c.hand_out.ensures

pub returns-in-None : goal.returns-in-None
returns-in-None c =
    let x = wbit c.args.y.now in
    found_none x c.args.out.now (fewest c.args.reach x) c.in-None.ensures
