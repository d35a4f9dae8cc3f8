-- `Room::new`: zeros hold no bits. Assumes nothing.
use Rattle.vectors.proofs.Filling.{zero_words}
use Rattle.word.proofs.measured.Room.new.Goals as goal

pub returns : goal.returns
returns c = (zero_words 130, zero_words 16)
