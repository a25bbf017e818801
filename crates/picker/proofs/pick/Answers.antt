-- The answer in the part of the room that counts, and both rooms emptied.
use Rattle.std.proofs.Common.{sym, subst, Err}
use Rattle.picker.specs.Promise.{PickPromise}
use Rattle.picker.proofs.Reducing.{sound-left, picked-right, picked-large}
use Rattle.picker.proofs.Lending.{error-is, answered}
use Rattle.picker.proofs.pick.Goals as goal

pub left_set-found-requires-clause-sound : goal.left_set-found-requires-clause-sound
left_set-found-requires-clause-sound c = sound-left c.args.rows.now c.args.costs.now c.in_ok-reduced.reduced c.in_ok-reduced.ensures

pub returns-in_err-found : goal.returns-in_err-found
returns-in_err-found c =
    let a = c.args in
    let rows = a.rows.now in
    let costs = a.costs.now in
    let part = c.left_set-found in
    let x = c.in_err-found.field-0.0 in
    subst (λ r. PickPromise rows costs a.nodes.now a.memo.now r c.empty.new.nodes c.clear.new.words)
    (sym (error-is c.from_residual-in_err-found.result x c.from_residual-in_err-found.ensures.1))
    (answered rows costs (sym c.in_ok-reduced.ensures.0) a.nodes.now a.memo.now (Err x) _ part.new.nodes _ part.new.memo _ c.capacity-words.ensures
    part.auto.nodes (picked-large rows costs c.in_ok-reduced.reduced c.in_ok-reduced.ensures _ x c.in_err-found.ensures) part.auto.memo c.empty.ensures
    c.clear.ensures)

pub returns : goal.returns
returns c =
    let a = c.args in
    let rows = a.rows.now in
    let costs = a.costs.now in
    let part = c.left_set-found in
    answered rows costs (sym c.in_ok-reduced.ensures.0) a.nodes.now a.memo.now _ _ part.new.nodes _ part.new.memo _ c.capacity-words.ensures
    part.auto.nodes
    (picked-right rows costs c.in_ok-reduced.reduced c.in_ok-reduced.ensures _ c.in_ok-found.found c.join-set.result c.cost_of.result c.in_ok-found.ensures
    c.join-set.ensures c.cost_of.ensures) part.auto.memo c.empty.ensures c.clear.ensures
