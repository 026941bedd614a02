use Rattle.std.proofs.Common.{length, ap, arith}
use Rattle.drawing.proofs.Sizes.{room_left}
use Rattle.drawing.proofs.page.Page.filled.Goals as goal

pub draw_level-requires-clause-room : goal.draw_level-requires-clause-room
draw_level-requires-clause-room c =
    let v = c.args.vector.now in
    let few = v.few in
    let left = room_left v.inputs v.bits c.loop-level.level (omega arith) (omega arith) in
    let drawn = ap (λ d. length d.nodes) c.loop-level.invariant in
    omega arith
