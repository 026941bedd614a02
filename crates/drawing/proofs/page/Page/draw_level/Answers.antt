use Rattle.std.proofs.Common.{◌≡◌, length, ap, add-one, arith}
use Rattle.drawing.specs.Pieces.{with_pieces}
use Rattle.drawing.specs.Page.{draft}
use Rattle.drawing.proofs.Sizes.{pieces_add}
use Rattle.drawing.proofs.page.Page.draw_level.Goals as goal

pub draw_piece-requires-clause-room : goal.draw_piece-requires-clause-room
draw_piece-requires-clause-room c =
    let v = c.args.vector.now in
    let few = pieces_add v.inputs v.bits c.args.level c.loop-k.k (draft c.args.self.now) in
    let drawn = ap (λ d. length d.nodes) c.loop-k.invariant in
    omega arith

pub returns-2 : goal.returns-2
unfolding with_pieces
returns-2 c = let last : c.loop-k.k ≡ c.args.level = omega arith in rw add-one (cc)
