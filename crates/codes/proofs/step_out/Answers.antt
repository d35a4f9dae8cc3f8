-- `codes::step_out`: quiet, stuck, or one flip. Assumes nothing.
use mathlib.Core.Path.{sym, ap, ap₂, ◌∙◌, subst}
use mathlib.Core.Bool.{true, false}
use mir.Syntax.{w8}
use mir.Val.{SFits}
use mir.ValLaws.{to_z-of_z}
use lib.IntN.{pos}
use Rattle.bits.specs.Bits.{flipped}
use Rattle.rules.specs.Codes.{code}
use Rattle.rules.specs.Encoding.{written}
use Rattle.answers.specs.Calls.{next_step}
use Rattle.flipping.specs.runs.Passes.{comes_next_of, Within}
use borrow.Author.Rules.{rules}
use Rattle.codes.proofs.step_out.Goals as goal

pub write_flipped-requires : goal.write_flipped-requires
write_flipped-requires c =
    (subst (Within 8176) c.in-Flip.is c.requires.1, c.requires.0)

pub overflow_cast-result : goal.overflow_cast-result
overflow_cast-result c =
    let l = subst (Within 8176) c.in-Flip.is c.requires.1 in
    search rules

pub returns-in-Quiet : goal.returns-in-Quiet
unfolding next_step
returns-in-Quiet c n off is e =
    ap (λ z. record { number = 0; quiet = true; bit = 0; excess = pos 0; out = z }) c.copy.ensures
    ∙ ap (next_step (code n) _ _ c.args.out.now) (sym (ap comes_next_of c.in-Quiet.is))

pub returns-in-Stuck : goal.returns-in-Stuck
unfolding next_step
returns-in-Stuck c n off is e =
    c.refused_step.ensures c.args.out.now
    ∙ ap (next_step (code n) c.args.received.word.now _ c.args.out.now) (sym (ap comes_next_of c.in-Stuck.is))

pub returns-in-Flip : goal.returns-in-Flip
unfolding next_step
returns-in-Flip c n off is e =
    let b = c.in-Flip.bit in
    let ex = c.in-Flip.excess in
    let known = c.in-Flip.known_told-1-own.given in
    let fits : SFits w8 ex = search (rules, known) in
    ap₂ (λ z o. record { number = 0; quiet = false; bit = b; excess = z; out = o }) (to_z-of_z w8 ex fits)
    (c.write_flipped.ensures n off is ∙ ap (λ y. written (code n) (flipped y b)) e)
    ∙ ap (next_step (code n) c.args.received.word.now _ c.args.out.now) (sym (ap comes_next_of c.in-Flip.is))
