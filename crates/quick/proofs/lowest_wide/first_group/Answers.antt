-- `quickwide::first_group`: after k passes the first k places were added. Assumes nothing.
use lib.ListN.{get_or}
use mathlib.Core.Path.{◌≡◌, ap, ap₂, ◌∙◌}
use Prim.Native.Nat.{ℕ, ◌+◌, ◌*◌, ◌/◌}
use native.Mathlib.Omega.{arith}
use Rattle.bits.specs.Bits.{bit, ◌⊕◌}
use Rattle.rules.specs.Encoding.{lifted}
use Rattle.layout.proofs.Lending.{read_any}
use Rattle.syndromes.proofs.Bounds.{place_room}
use Rattle.vectors.proofs.Places.{digit_xor}
use Rattle.quick.specs.groups.Groups.{reached, group}
use Rattle.quick.proofs.groups.Groups.{group_none, group_more}
use Rattle.quick.proofs.lowest_wide.first_group.Goals as goal

pub loop-k-init : goal.loop-k-init
loop-k-init c =
    let a = c.args in
    (omega arith, λ code e i hi. group_none a.parity.shape a.parity.places.now (lifted code (bit a.sent.octets.now)) 0 i)

pub loop-k-preserved : goal.loop-k-preserved
loop-k-preserved c =
    let l = c.loop-k in
    let sh = c.args.parity.shape in
    let h = c.args.parity.places.now in
    let inside = place_room h sh c.args.parity.fit 0 (l.k / 2) c.requires.0 (omega arith) in
    let at : l.k ≡ 2 * (0 * sh.blocks) + l.k = omega arith in
    let here = read_any h l.k 0 sh.size (omega (arith, inside.0)) ∙ ap (λ q. get_or h q sh.size) at in (
      omega arith,
      λ code e i hi.
          let x = lifted code (bit c.args.sent.octets.now) in
          digit_xor 64 l.v c.wide_entry-v.result i
          ∙ ap₂ ◌⊕◌ (l.invariant.1 code e i hi)
          (c.wide_entry-v.ensures code e i hi ∙ ap (λ z. reached sh.size x (l.k / 2 * sh.size) z i) here)
          ∙ group_more sh h x 0 l.k i,
    )

pub returns : goal.returns
returns c =
    let a = c.args in
    let l = c.loop-k in
    let sh = a.parity.shape in
    let e : l.k ≡ 2 * sh.blocks = omega arith in
    λ code eu i hi. l.invariant.1 code eu i hi ∙ ap (λ (k : ℕ). group sh a.parity.places.now (lifted code (bit a.sent.octets.now)) 0 k i) e
