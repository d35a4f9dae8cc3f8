-- `narrow::choose`: all blocks are weighed, and the best bit is taken. Assumes nothing.
use Rattle.flipping.proofs.narrow.choose.Goals as goal

pub best_of-requires : goal.best_of-requires
best_of-requires c =
    let held = c.requires.4 in
    record {
      code = held.code;
      table = c.args.parity.places.now;
      from = c.args.from;
      word = held.word;
      fit = c.args.parity.fit;
      lent = held.lent;
      narrow = c.requires.0;
      some = c.requires.1;
      begin = c.requires.2;
      long = c.requires.3;
      weighed = c.weigh_all.ensures held.code held.word held.lent held.rows_are;
    }

pub returns : goal.returns
returns c k x lent is =
    c.best_of.ensures k c.args.parity.places.now c.args.from x c.args.parity.fit lent c.requires.2 (λ some. (c.requires.3 some).1)
    (c.weigh_all.ensures k x lent is)
