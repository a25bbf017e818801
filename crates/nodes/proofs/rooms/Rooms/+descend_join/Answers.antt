-- `descend` takes both nodes apart and puts the joins of their sides together: Applying has the laws.
use Rattle.std.proofs.Common.{Err, ℕ, ◌≤◌, List, length, ap, arith}
use Rattle.nodes.specs.Codes.{Held}
use Rattle.nodes.specs.Order.{IsTable, IsMemo}
use Rattle.nodes.specs.Work.{Splits}
use Rattle.nodes.specs.declared.joins.Parts.{Parts}
use Rattle.nodes.proofs.Standing.{stands-small}
use Rattle.nodes.proofs.Applying as app
use Rattle.nodes.proofs.Ordering.{full-table, full-memo, plain-memo, able}
use Rattle.nodes.proofs.rooms.Rooms.+descend_join.Goals as goal

pub join-known-requires-clause-small : goal.join-known-requires-clause-small
join-known-requires-clause-small g t c =
    let n = c.args.self.now.table.small in
    (stands-small n c.requires.left.stands, stands-small n c.requires.right.stands)

pub join-returns-in-Some-clause-joined : goal.join-returns-in-Some-clause-joined
join-returns-in-Some-clause-joined g t c =
    let rooms = c.args.self.now in
    app.known_joined g.C.Connective.or c.in-Some.r (able _ rooms.table rooms.right c.requires.left c.requires.right)
    (λ s u sa sb. c.in-Some.ensures rooms.nodes.now s u (full-table rooms.table) (full-memo _ rooms.table rooms.right) sa sb)

-- what is known once the nodes are taken apart
cut : {ws ms : List ℕ} {a b : ℕ} {p : Parts} → IsTable ws → IsMemo ws ms → Held ws 0 a → Held ws 0 b → (2 ≤ a) × (2 ≤ b) → Splits ws a b p → app.Cut ws ms a b p
cut T m h i two s = record { able = able _ T m h i; a2 = two.0; splits = s }

pub descend-join-requires : goal.descend-join-requires
descend-join-requires g t c κs within =
    let x = cut c.args.self.now.table c.args.self.now.right c.requires.left c.requires.right c.requires.nodes c.split-p.ensures in
    let y = app.able-low x in
    (omega (arith, app.falls-low x, c.decreases), (within, (y.left, (y.right, c.requires.some))))

pub descend-returns-in_err-low-clause-joined : goal.descend-returns-in_err-low-clause-joined
descend-returns-in_err-low-clause-joined g t c =
    let x = cut c.args.self.now.table c.args.self.now.right c.requires.left c.requires.right c.requires.nodes c.split-p.ensures in
    app.joined-err c.from_residual.result c.from_residual.ensures.0 (app.full-low x c.in_err-low.ensures.joined)

pub descend-join-requires-2 : goal.descend-join-requires-2
descend-join-requires-2 g t c κs within =
    let x = cut c.args.self.now.table c.args.self.now.right c.requires.left c.requires.right c.requires.nodes c.split-p.ensures in
    let j = c.in_ok-low.ensures.joined in
    let y = app.able-high x j in
    (omega (arith, app.falls-high x j, c.decreases), (within, (y.left, (y.right, omega (arith, c.in_ok-low.ensures.size, c.requires.some)))))

pub descend-returns-in_err-high-clause-joined : goal.descend-returns-in_err-high-clause-joined
descend-returns-in_err-high-clause-joined g t c =
    let x = cut c.args.self.now.table c.args.self.now.right c.requires.left c.requires.right c.requires.nodes c.split-p.ensures in
    app.joined-err c.from_residual-in_err-high.result c.from_residual-in_err-high.ensures.0
    (app.full-high x c.in_ok-low.ensures.joined c.in_err-high.ensures.joined)

pub descend-make-requires-clause-variable : goal.descend-make-requires-clause-variable
descend-make-requires-clause-variable g t c =
    let x = cut c.args.self.now.table c.args.self.now.right c.requires.left c.requires.right c.requires.nodes c.split-p.ensures in
    (app.makeable x c.in_ok-low.ensures.joined c.in_ok-high.ensures.joined).variable

pub descend-make-requires-clause-low : goal.descend-make-requires-clause-low
descend-make-requires-clause-low g t c =
    let x = cut c.args.self.now.table c.args.self.now.right c.requires.left c.requires.right c.requires.nodes c.split-p.ensures in
    (app.makeable x c.in_ok-low.ensures.joined c.in_ok-high.ensures.joined).low

pub descend-make-requires-clause-high : goal.descend-make-requires-clause-high
descend-make-requires-clause-high g t c =
    let x = cut c.args.self.now.table c.args.self.now.right c.requires.left c.requires.right c.requires.nodes c.split-p.ensures in
    (app.makeable x c.in_ok-low.ensures.joined c.in_ok-high.ensures.joined).high

pub descend-returns-in_err-r-clause-joined : goal.descend-returns-in_err-r-clause-joined
descend-returns-in_err-r-clause-joined g t c =
    let x = cut c.args.self.now.table c.args.self.now.right c.requires.left c.requires.right c.requires.nodes c.split-p.ensures in
    app.joined-as c.in_err-r.ensures.memo
    (app.joined-err c.from_residual-in_err-r.result c.from_residual-in_err-r.ensures.0
    (app.joined-made x c.in_ok-low.ensures.joined c.in_ok-high.ensures.joined c.make.new.self.nodes.now (Err (record {})) c.in_err-r.ensures.made))

pub descend-remember-requires : goal.descend-remember-requires
descend-remember-requires g t c =
    let x = cut c.args.self.now.table c.args.self.now.right c.requires.left c.requires.right c.requires.nodes c.split-p.ensures in
    let n = c.args.self.now.table.small in (
      omega (arith, ap (λ ms. length ms) c.in_ok-r.ensures.memo, c.in_ok-high.ensures.size, c.in_ok-low.ensures.size, c.requires.some),
      stands-small n c.requires.left.stands,
      stands-small n c.requires.right.stands,
      app.c-small x c.in_ok-low.ensures.joined c.in_ok-high.ensures.joined c.make.new.self.nodes.now c.in_ok-r.r c.in_ok-r.ensures.made,
    )

pub descend-invariant_of-self : goal.descend-invariant_of-self
descend-invariant_of-self g t c =
    let x = cut c.args.self.now.table c.args.self.now.right c.requires.left c.requires.right c.requires.nodes c.split-p.ensures in
    let q = app.remembered-as _ _ _ g.C.Connective.or c.args.a.0 c.args.b.0 c.in_ok-r.r.0 c.in_ok-r.ensures.memo c.remember.ensures in
    let d = app.done x c.in_ok-low.ensures.joined c.in_ok-high.ensures.joined c.make.new.self.nodes.now c.in_ok-r.r c.in_ok-r.ensures.made _ q in
    record { table = c.make.new.self.table; right = plain-memo _ (full-table c.make.new.self.table) d.memo }

pub descend-returns-clause-joined : goal.descend-returns-clause-joined
descend-returns-clause-joined g t c =
    let x = cut c.args.self.now.table c.args.self.now.right c.requires.left c.requires.right c.requires.nodes c.split-p.ensures in
    let q = app.remembered-as _ _ _ g.C.Connective.or c.args.a.0 c.args.b.0 c.in_ok-r.r.0 c.in_ok-r.ensures.memo c.remember.ensures in
    app.done x c.in_ok-low.ensures.joined c.in_ok-high.ensures.joined c.make.new.self.nodes.now c.in_ok-r.r c.in_ok-r.ensures.made _ q
