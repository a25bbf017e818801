use Rattle.nodes.proofs.Standing.{held}
use Rattle.nodes.proofs.Walking.{walked_none, falls-high, falls-low}
use Rattle.nodes.proofs.Ordering.{full-table}
use Rattle.nodes.proofs.view.Nodes.value.Goals as goal

pub loop-v-init : goal.loop-v-init
loop-v-init c = walked_none _ _ _ c.requires

pub look-requires : goal.look-requires
look-requires c = held (full-table c.args.self.table) c.loop-v.invariant.stands

pub loop-v-smaller-then-has : goal.loop-v-smaller-then-has
loop-v-smaller-then-has c =
    let i = c.loop-v.invariant in
    falls-high (full-table c.args.self.table) i.stands _ _ _ (c.in-Branch.ensures i.tree i.stands)

pub loop-v-smaller : goal.loop-v-smaller
loop-v-smaller c =
    let i = c.loop-v.invariant in
    falls-low (full-table c.args.self.table) i.stands _ _ _ (c.in-Branch.ensures i.tree i.stands)
