-- `taker::Taker::told`: an edition that is known, or 19. Assumes nothing.
use mathlib.Core.Path.{sym, ap, ap₂, ◌∙◌}
use Rattle.telemetry.proofs.taker.Editions.{made_known, made_unknown}
use Rattle.telemetry.proofs.taker.Taker.told.Goals as goal

pub returns-then-edition-gt5 : goal.returns-then-edition-gt5
returns-then-edition-gt5 c = let a = c.args in ap₂ (λ k z. record { number = k; taker = z }) c.number.ensures c.fresh-old.ensures
    ∙ sym (made_unknown a.edition a.limit c.if-edition-gt5.true)

pub returns : goal.returns
returns c = let a = c.args in ap (λ z. record { number = 0; taker = z }) c.fresh-taker.ensures
    ∙ sym (made_known a.edition a.limit c.if-edition-gt5.false)
