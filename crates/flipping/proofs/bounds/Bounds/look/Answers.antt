-- `Bounds::look` meets its contract, by the tests' answers. Assumes nothing.
use mathlib.Core.Path.{refl, sym, ◌∙◌}
use Rattle.vectors.specs.Vectors.{wbit}
use Rattle.flipping.proofs.choice.Searches.{looked_found, looked_missed}
use Rattle.flipping.proofs.bounds.Bounds.look.Goals as goal

pub returns-then-k-m : goal.returns-then-k-m
returns-then-k-m c =
    let a = c.args in
    let s = a.self.now in
    let p = s.places in (
      refl,
      looked_found p.shape a.from (wbit a.rows.now) p.starts p.counts s.met a.b a.top s.ready c.requires.0 c.requires.1 c.requires.2
          c.first_met-k.result (sym c.bound_of.ensures ∙ c.if-bound_of-top.false) c.first_met-k.ensures c.if-k-m.true,
    )

pub invariant_of-self : goal.invariant_of-self
invariant_of-self c =
    let a = c.args in
    let s = a.self.now in
    let p = s.places in
    let missed = looked_missed p.shape a.from (wbit a.rows.now) p.starts p.counts s.met a.b a.top s.ready c.requires.0 c.requires.1
    c.requires.2 c.first_met-k.result (sym c.bound_of.ensures ∙ c.if-bound_of-top.false) c.first_met-k.ensures c.if-k-m.false in
    record { ready = missed.lowered.ready }

pub returns : goal.returns
returns c =
    let a = c.args in
    let s = a.self.now in
    let p = s.places in (
      refl,
      looked_missed p.shape a.from (wbit a.rows.now) p.starts p.counts s.met a.b a.top s.ready c.requires.0 c.requires.1 c.requires.2
          c.first_met-k.result (sym c.bound_of.ensures ∙ c.if-bound_of-top.false) c.first_met-k.ensures c.if-k-m.false,
    )
