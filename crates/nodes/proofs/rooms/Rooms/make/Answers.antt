-- What is there already is found, else there is place for it, else it stands nowhere.
use Rattle.std.proofs.Common.{◌∙◌, sym, eqb-true, arith}
use Rattle.std.proofs.lemmas.Bool.{eqb-false}
use Rattle.nodes.proofs.Packings.{packed-nonzero, packed-fits}
use Rattle.nodes.proofs.Making.{lo_small, hi_small, make_same, make-at, make-full}
use Rattle.nodes.proofs.Ordering.{plain-table, memo-kept, makeable_of}
use Rattle.nodes.proofs.rooms.Rooms.make.Goals as goal

pub returns-then-eq-clause-made : goal.returns-then-eq-clause-made
returns-then-eq-clause-made c =
    make_same _ _ _ _ (makeable_of c.args.self.now.table c.requires.variable c.requires.low c.requires.high) (eqb-true _ _ (sym c.eq.ensures ∙ c.if-eq.true))

pub pack-w-requires-clause-low : goal.pack-w-requires-clause-low
pack-w-requires-clause-low c = lo_small _ _ _ _ (makeable_of c.args.self.now.table c.requires.variable c.requires.low c.requires.high)

pub pack-w-requires-clause-high : goal.pack-w-requires-clause-high
pack-w-requires-clause-high c = hi_small _ _ _ _ (makeable_of c.args.self.now.table c.requires.variable c.requires.low c.requires.high)

-- the branches differ, so that the word is not 0, and it fits
pub probe-requires : goal.probe-requires
probe-requires c =
    let a = c.args in
    let m = makeable_of c.args.self.now.table c.requires.variable c.requires.low c.requires.high in
    let v = c.requires.variable in
    let l = lo_small _ _ _ _ m in
    let h = hi_small _ _ _ _ m in (
      λ z. packed-nonzero a.v.0 a.low.0 a.high.0 (eqb-false _ _ (sym c.eq.ensures ∙ c.if-eq.false)) (sym c.pack-w.ensures ∙ z),
      omega (arith, packed-fits a.v.0 a.low.0 a.high.0 l h (omega arith), c.pack-w.ensures),
      m.table.reached,
    )

pub returns-in_default-clause-made : goal.returns-in_default-clause-made
returns-in_default-clause-made c =
    let m = makeable_of c.args.self.now.table c.requires.variable c.requires.low c.requires.high in
    make-full _ _ _ _ m (eqb-false _ _ (sym c.eq.ensures ∙ c.if-eq.false)) _ c.pack-w.ensures c.in_default.ensures

pub invariant_of-self-2 : goal.invariant_of-self-2
invariant_of-self-2 c =
    let m = makeable_of c.args.self.now.table c.requires.variable c.requires.low c.requires.high in
    let p = c.in-Some.ensures in
    let b = make-at _ _ _ _ m (eqb-false _ _ (sym c.eq.ensures ∙ c.if-eq.false)) c.in-Some.s c.pack-w.result.0 c.pack-w.ensures p.0 p.1 m.low.tree m.high.tree m.low.stands m.high.stands in
    record { table = plain-table b.table; right = memo-kept _ c.args.self.now.table b.table b.grows c.args.self.now.right }

pub returns-clause-made : goal.returns-clause-made
returns-clause-made c =
    let m = makeable_of c.args.self.now.table c.requires.variable c.requires.low c.requires.high in
    let p = c.in-Some.ensures in
    make-at _ _ _ _ m (eqb-false _ _ (sym c.eq.ensures ∙ c.if-eq.false)) c.in-Some.s c.pack-w.result.0 c.pack-w.ensures p.0 p.1
