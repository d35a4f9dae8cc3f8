-- The lowest broken check.
use mathlib.Core.Path.{◌≡◌}
use mathlib.Core.Bool.{true, false}
use Prim.Native.Nat.{ℕ, ◌≤◌, ◌<◌}
use Rattle.bits.specs.Bits.{Word}
use Rattle.bits.proofs.Leasts.{least_le, least_below, least_holds, least_counted}
use Rattle.rules.specs.Codes.{Code, checks}
use Rattle.rules.specs.Checks.{check, broken, lowest}

module _ (c : Code) (x : Word) where
  -- it is broken, if one is, and none below it is
  pub lowest_broken : lowest c x < checks c → check c x (lowest c x) ≡ true
  unfolding lowest
  lowest_broken = least_holds (checks c) (check c x)

  pub below_lowest : (k : ℕ) → k < lowest c x → check c x k ≡ false
  unfolding lowest
  below_lowest = least_below (checks c) (check c x)

  pub lowest_le : lowest c x ≤ checks c
  unfolding lowest
  lowest_le = least_le (checks c) (check c x)

  -- it is the number of checks exactly where the count is 0
  pub lowest_quiet : lowest c x ≡ checks c → broken c x ≡ 0
  unfolding lowest broken
  lowest_quiet = (least_counted (checks c) (check c x)).0

  pub quiet_lowest : broken c x ≡ 0 → lowest c x ≡ checks c
  unfolding lowest broken
  quiet_lowest = (least_counted (checks c) (check c x)).1
