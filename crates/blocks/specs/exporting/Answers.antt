-- The call's result as the definition's answer.
use Rattle.std.specs.Prelude.{List, ℕ}
use Rattle.blocks.specs.Blocks.{Exported}

abbrev pub as_exported : ℕ → List ℕ → Exported
as_exported number out = record { number = number; out = out }
