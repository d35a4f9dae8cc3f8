-- `randomiser::add_words`: what is done so far is randomised, and the rest is as it was. Assumes nothing.
use mathlib.Core.Path.{◌≡◌, refl, sym, ap, ◌∙◌}
use mathlib.Core.List.{◌++◌}
use Prim.Native.Nat.{◌≤◌, ◌-◌, ◌+◌, ◌*◌}
use native.Mathlib.Omega.{arith}
use lib.ListN.{length, take, drop, get_or, length-take, length-drop}
use borrow.Rule.Slice.PartMut.{put_mid}
use Rattle.randomiser.specs.Randomiser.{sequence_octet, randomised}
use Rattle.randomiser.proofs.Parts.{more_done, all_done}
use Rattle.randomiser.proofs.add_words.Goals as goal

pub loop-k-init : goal.loop-k-init
unfolding randomised
loop-k-init c = λ g used known. refl

pub add_word-requires : goal.add_word-requires
add_word-requires c =
    let l = c.loop-k in
    let at = 8 * l.k in
    let few = length-take (at + 8 - at) (drop at l.octets) in
    let left = length-drop at l.octets in
    (few ∙ omega (arith, left, c.requires.0), omega (arith, c.requires.1, c.requires.0))

pub loop-k-preserved : goal.loop-k-preserved
loop-k-preserved c =
    let l = c.loop-k in
    let at = 8 * l.k in
    let o = c.args.octets.now in
    let w = c.add_word in
    let new = w.new.octets in
    let m : at + 8 - at ≡ 8 = omega arith in
    let next : at + 8 ≡ 8 * (l.k + 1) = omega arith in
    let room : at + 8 ≤ length o = omega (arith, c.requires.0) in
    let few = length-take (at + 8 - at) (drop at l.octets) in
    λ g used known.
    ap (λ z. put_mid at z l.octets new) m
    ∙ more_done g used o l.octets new at 8 room (l.invariant g used known)
    (w.ensures g (used + at) (λ i h.
    let e : c.args.from + (at + i) ≡ c.args.from + at + i = omega arith in
    let f : used + (at + i) ≡ used + at + i = omega arith in
    ap (λ z. get_or c.args.sequence.now z 0) (sym e) ∙ known (at + i) (omega (arith, h, few, room)) ∙ ap (sequence_octet g) f)
    ∙ ap (λ z. randomised g (used + at) (take z (drop at l.octets))) m)
    ∙ ap (λ z. randomised g used (take z o) ++ drop z o) next

pub returns : goal.returns
returns c g used known =
    let l = c.loop-k in
    all_done g used c.args.octets.now l.octets (8 * l.k) (omega (arith, c.requires.0)) (l.invariant g used known)
