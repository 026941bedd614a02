-- What each call of a service replies, read as the rules' replies: for whoever makes one.
-- A service that stands as the rules have it replies by them, whatever the terms and the lines are.
use Rattle.std.specs.Prelude.{◌≡◌, ℕ, cond, List, take, Ok, Err, Result, nat_lt}
use Rattle.refusal.specs.declared.table.Refusal.{Refusal}
use Rattle.design.specs.declared.mark.Mark.{Mark}
use Rattle.design.specs.Meaning.{Meaning}
use Rattle.diagram.specs.declared.node.Node.{Node}
use Rattle.drawing.specs.declared.drawn.Drawn.{Drawn}
use Rattle.drawing.specs.Pieces.{drawn_over}
use Rattle.commands.specs.declared.command.Line.{Line}
use Rattle.commands.specs.Rules.{taken}
use Rattle.rules.specs.declared.call.Asked.{Asked}
use Rattle.rules.specs.declared.call.Shown.{Shown}
use Rattle.rules.specs.declared.call.Call.{Call}
use Rattle.rules.specs.Rules.{Terms, Said, asked, shown, marks, draws, refused, reply, drawing}
use Rattle.service.specs.declared.service.Service.{Service}
use Rattle.service.specs.Holds.{Holds}

-- what ask says
abbrev pub said_asked : Asked → Said
said_asked a = asked a.limit a.spent a.lines a.taken

-- what show says
abbrev pub said_shown : Result Shown Refusal → Said
said_shown (Ok s) = shown s.vector s.wrong
said_shown (Err why) = refused why

-- what read says
abbrev pub said_mark : Result Mark Refusal → Said
said_mark (Ok mark) = marks mark
said_mark (Err why) = refused why

-- what draw says: the root, and the nodes in front of the buffer
abbrev pub said_drawn : Result Drawn Refusal → List Node → Said
said_drawn (Ok d) buffer = draws d.root (take d.count buffer)
said_drawn (Err why) buffer = refused why

-- a call on a service that stands as the rules have it is replied by them
abbrev pub Replied : {D : Type 0} {d : _} → (D → Meaning) → Call → Service D d → Said → Type 0
Replied means call service said = (t : Terms) (lines : List Line) → Holds means t lines service → said ≡ reply t lines call

-- a lent buffer after a draw: drawn over if the output is there and taken, else as before
abbrev pub lent_after : Terms → List Line → ℕ → List Node → List Node
lent_after t lines o buffer = cond (nat_lt o t.meaning.outputs) (cond (taken lines o) (drawn_over (drawing t o) buffer) buffer) buffer

-- a draw on a service that stands as the rules have it leaves the buffer so
abbrev pub DrawnByRules : {D : Type 0} {d : _} → (D → Meaning) → ℕ → Service D d → List Node → List Node → Type 0
DrawnByRules means o service buffer after = (t : Terms) (lines : List Line) → Holds means t lines service → after ≡ lent_after t lines o buffer
