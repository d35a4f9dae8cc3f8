-- `why::follow`: the list goes on or has ended, and it has no more records than places.
use Rattle.std.proofs.Common.{◌-◌}
use Rattle.lists.specs.listing.Listings.{Lists}
use Rattle.why.proofs.follow.Given as goal

abbrev pub invariant-loop-l : goal.invariant-loop-l
invariant-loop-l g l = Lists l.code l.word l.limit 511 l.l l.room.h l.room.y l.room.z

abbrev pub decreases-loop-l : goal.decreases-loop-l
decreases-loop-l g l = 511 - l.l.place
