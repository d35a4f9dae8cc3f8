-- `taker::search`: a call on the whole part goes on as a call on the rest. Assumes nothing.
use mathlib.Core.Path.{◌≡◌, refl, sym, ap, ap₂, ◌∙◌}
use mathlib.Core.List.{List}
use Prim.Native.Nat.{ℕ, suc, ◌+◌, ◌<◌}
use native.Mathlib.Numerals.{add-one}
use native.Mathlib.Omega.{arith}
use lib.ListN.{length, get_or, drop}
use lib.Seq.{drop-cons}
use Rattle.telemetry.specs.taker.Taking.{matched, standing, taken_from, GoesOn}
use Rattle.telemetry.proofs.taker.Laws.{search_step}
use Rattle.telemetry.proofs.taker.search.Goals as goal

-- one octet of the search
one-octet : (part : List ℕ) (i m m' : ℕ) → i < length part → m < 4 → m' ≡ matched m (get_or part i 0) → GoesOn part i m (i + 1) m'
one-octet part i m m' here few e told octets =
    ap (taken_from i (standing m told octets)) (drop-cons part i 0 here)
    ∙ search_step told i m octets (get_or part i 0) (drop (suc i) part) few
    ∙ ap₂ (λ i m. taken_from i (standing m told octets) (drop i part)) (sym (add-one i)) (sym e)

pub returns-then-place-gt3 : goal.returns-then-place-gt3
returns-then-place-gt3 c = record { place_bound = (c.requires, omega arith, λ few. absurd (omega arith)); goes_on = λ told octets. refl }

pub loop-i-init : goal.loop-i-init
loop-i-init c = (c.jump-i.ensures.lower_bound.1, omega arith, c.jump-i.ensures.goes_on)

pub returns-then-m-gt3 : goal.returns-then-m-gt3
returns-then-m-gt3 c =
    let part = c.args.part.now in
    let h = c.loop-i in
    let k = c.matched-m in
    record {
      place_bound = (omega (arith, k.ensures.1), omega arith, λ few. absurd (omega arith));
      goes_on = λ told octets. h.invariant.2 told octets
          ∙ one-octet part h.i h.m k.result (omega arith) h.invariant.1 k.ensures.0 told octets;
    }

pub loop-i-smaller : goal.loop-i-smaller
loop-i-smaller c = omega (arith, c.jump-i-in-loop-i.ensures.lower_bound.0)

pub loop-i-preserved : goal.loop-i-preserved
loop-i-preserved c =
    let part = c.args.part.now in
    let h = c.loop-i in
    let k = c.matched-m in
    let j = c.jump-i-in-loop-i.ensures in (
      j.lower_bound.1,
      omega arith,
      λ told octets.
          h.invariant.2 told octets
          ∙ one-octet part h.i h.m k.result (omega arith) h.invariant.1 k.ensures.0 told octets
          ∙ j.goes_on told octets,
    )

pub returns : goal.returns
returns c = let h = c.loop-i in
    record { place_bound = (omega (arith, h.invariant.1), h.invariant.0, λ few. omega arith); goes_on = h.invariant.2 }
