use Rattle.std.proofs.Common.{◌∙◌, arith, rules}
use Rattle.drawing.proofs.Pages.{draft_referred}
use Rattle.drawing.proofs.page.Page.draw_piece.Goals as goal

pub returns-then-piece-eq0 : goal.returns-then-piece-eq0
returns-then-piece-eq0 c = draft_referred c.args.self.now c.args.k _ (omega arith) ∙ search rules

pub returns-then-piece-span : goal.returns-then-piece-span
returns-then-piece-span c = draft_referred c.args.self.now c.args.k _ (omega arith) ∙ search rules
