-- The run from the rows without their self edges, in the first part of 64.
use Rattle.std.proofs.Common.{◌≡◌, ◌∙◌, ◌-◌, ◌≤◌, sym, ap, min, length, replicate, arith}
use Rattle.reduction.proofs.Answers.{zeros-part, part-is, part-long, part-fit, rest-is, plain-fit, answered}
use Rattle.reduction.proofs.reduce_block.Goals as goal

pub in_rows-requires-clause-fit : goal.in_rows-requires-clause-fit
in_rows-requires-clause-fit c =
    let h = c.args.block.graph.sound in
    let n = c.len-n.result in
    let few : n ≤ 64 = omega (arith, c.len-n.ensures, h.few) in
    let outs = c.drop_selves.new.outs in
    let long : length outs ≡ n = c.drop_selves.auto.outs ∙ sym (zeros-part _ few) in
    part-fit _ few outs long (λ v. rw c.len-n.ensures (plain-fit _ h.fit outs c.drop_selves.ensures v))

pub returns : goal.returns
returns c =
    let rows = c.args.block.graph.rows.now in
    let h = c.args.block.graph.sound in
    let n = c.len-n.result in
    let few : n ≤ 64 = omega (arith, c.len-n.ensures, h.few) in
    let outs = c.drop_selves.new.outs in
    let long : length outs ≡ n = c.drop_selves.auto.outs ∙ sym (zeros-part _ few) in
    answered _ rows c.args.limit _ _ _ _ c.run-log.result h.fit (part-is _ few outs long ∙ c.drop_selves.ensures)
    (c.min-most.ensures ∙ ap (λ k. min c.args.limit k) c.len-n.ensures) (c.run-log.auto.outs ∙ sym (part-long _ few outs long) ∙ c.len-n.ensures)
    (rest-is _ few outs long ∙ ap (λ k. replicate (64 - k) 0) c.len-n.ensures) c.run-log.ensures
