-- The greatest value in a range, and the lowest number that has it.
use Rattle.std.specs.Prelude.{◌≡◌, ℕ, ◌≤◌, ◌<◌}

-- In the range from `from` to below `to`, g is greatest at `bit`, where it is `score`, and it is less at every lower number.
pub record Top (g : ℕ → ℕ) (from to bit score : ℕ) : Type 0 where
  pub above : from ≤ bit
  pub under : bit < to
  pub is : g bit ≡ score
  pub most : (i : ℕ) → from ≤ i → i < to → g i ≤ score
  pub first : (i : ℕ) → from ≤ i → i < bit → g i < score
