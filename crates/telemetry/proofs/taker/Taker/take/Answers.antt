-- `taker::Taker::take`: searched, then held or complete. Assumes nothing.
use mathlib.Core.Path.{◌≡◌, sym, ap, ◌∙◌}
use mathlib.Core.List.{List}
use Prim.Native.Nat.{ℕ, ◌+◌, ◌-◌}
use native.Mathlib.Omega.{arith}
use lib.ListN.{length, drop, length-take}
use borrow.Author.Rules.{rules}
use Rattle.telemetry.specs.taker.Taking.{Told, tell, standing, waiting, completed, taken_from, read_place, take_answer}
use Rattle.telemetry.proofs.taker.Laws.{call_waits, call_holds, call_completes}
use Rattle.telemetry.proofs.taker.Taker.take.Goals as goal

begun : (p place : ℕ) (told : Told) (ys part : List ℕ) → place ≡ read_place p → take_answer (standing p told ys) part
    ≡ taken_from 0 (standing place told ys) part
unfolding take_answer
begun p place told ys part e = ap (λ z. taken_from 0 (standing z told ys) part) (sym e)

pub returns-then-place-lt4 : goal.returns-then-place-lt4
returns-then-place-lt4 c =
    let a = c.args in
    let r = c.search-searched.result in
    c.waiting.ensures ∙ sym (begun a.self.place c.read_place.result (tell a.self.edition a.self.limit)
    a.self.octets a.part.now c.read_place.ensures.0
    ∙ c.search-searched.ensures.goes_on (tell a.self.edition a.self.limit) a.self.octets
    ∙ call_waits (tell a.self.edition a.self.limit) a.self.octets a.part.now r.place r.at c.search-searched.ensures.place_bound.1
    (c.search-searched.ensures.place_bound.2 c.if-place-lt4.true))

pub hold-requires : goal.hold-requires
hold-requires c =
    let a = c.args in
    let r = c.search-searched.result in
    let e : length a.self.octets ≡ 1020 = search rules in
    omega (arith, length-take (length a.part.now - r.at) (drop r.at a.part.now), c.search-searched.ensures.place_bound.0)

pub returns-then-left-room : goal.returns-then-left-room
returns-then-left-room c =
    let a = c.args in
    let r = c.search-searched.result in
    c.waiting-then-left-room.ensures
    ∙ ap (λ z. waiting (length a.part.now) (standing (r.place + (length a.part.now - r.at))
    (tell a.self.edition a.self.limit) z)) c.hold.ensures
    ∙ sym (begun a.self.place c.read_place.result (tell a.self.edition a.self.limit) a.self.octets
    a.part.now c.read_place.ensures.0
    ∙ c.search-searched.ensures.goes_on (tell a.self.edition a.self.limit) a.self.octets
    ∙ call_holds (tell a.self.edition a.self.limit) a.self.octets a.part.now r.place r.at c.search-searched.ensures.place_bound.1
    c.if-place-lt4.false c.if-left-room.true)

pub hold-requires-2 : goal.hold-requires-2
hold-requires-2 c =
    let a = c.args in
    let r = c.search-searched.result in
    let e : length a.self.octets ≡ 1020 = search rules in
    omega (arith, length-take (r.at + (1024 - r.place) - r.at) (drop r.at a.part.now), c.search-searched.ensures.place_bound.0)

pub returns : goal.returns
returns c =
    let a = c.args in
    let r = c.search-searched.result in
    c.completed.ensures
    ∙ ap (λ z. completed (r.at + (1024 - r.place)) (tell a.self.edition a.self.limit) z) c.hold-2.ensures
    ∙ sym (begun a.self.place c.read_place.result (tell a.self.edition a.self.limit) a.self.octets
    a.part.now c.read_place.ensures.0
    ∙ c.search-searched.ensures.goes_on (tell a.self.edition a.self.limit) a.self.octets
    ∙ call_completes (tell a.self.edition a.self.limit) a.self.octets a.part.now r.place r.at
    c.search-searched.ensures.place_bound.1 c.if-place-lt4.false c.search-searched.ensures.place_bound.0
    c.if-left-room.false)
