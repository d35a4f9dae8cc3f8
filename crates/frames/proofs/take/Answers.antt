-- `frames::take`: a call takes some octets of the part, and no more.
use Rattle.std.proofs.Common.{◌≡◌, ℕ, ◌<◌, ◌≤◌, List, length, sym, ap, subst}
use Rattle.telemetry.specs.taker.Taking.{Taker, take_answer}
use Rattle.telemetry.specs.taker.Answers.{as_taker}
use Rattle.telemetry.proofs.taker.Calls.{taken_some, taken_within}
use Rattle.frames.proofs.take.Goals as goal

taken_is : (s : Taker) (part : List ℕ) (taken : ℕ) → taken ≡ (take_answer s part).taken → 0 < length part → (0 < taken)
    × (taken ≤ length part)
taken_is s part taken e h = (subst (λ z. 0 < z) (sym e) (taken_some s part h), subst (λ z. z ≤ length part) (sym e) (taken_within s part))

pub returns-in_ok-map_err : goal.returns-in_ok-map_err
returns-in_ok-map_err g c =
    taken_is (as_taker c.args.s.taker) c.args.part.now c.take-r.result.taken (ap (λ z. z.taken) c.take-r.ensures) c.requires

pub returns-else-r : goal.returns-else-r
returns-else-r g c =
    taken_is (as_taker c.args.s.taker) c.args.part.now c.take-r.result.taken (ap (λ z. z.taken) c.take-r.ensures) c.requires
