-- `bch::places` meets its contract: after j passes the bits are left whose first j coefficients are r's. Assumes nothing.
use Rattle.bch.proofs.Words.{Like}
use Rattle.bch.proofs.places.Given as goal

abbrev pub invariant-loop-j : goal.invariant-loop-j
invariant-loop-j l = Like l.r l.j l.m
