-- `importing::clear`: all of the octets are zeros. Assumes nothing.
use mathlib.Core.Path.{◌≡◌}
use borrow.Author.Rules.{rules}
use borrow.Author.Tests.{tests}
use Rattle.std.proofs.lemmas.Iterator.{cases_from_all, YieldsList-from_slice}
use Rattle.blocks.proofs.Lists.{clear_cases}
use Rattle.blocks.proofs.importing.clear.Goals as goal

pub returns : goal.returns
returns c =
    clear_cases c.args.octets.now c.all.result
    (cases_from_all _ _ _ (λ x. x ≡ 0) (λ x. x ≡ 0 → ⊥) c.all.ensures.ran (YieldsList-from_slice c.args.octets.now cc)
    (λ x q k. search (rules, tests)) (λ x q k. search (rules, tests)))
