-- The reply to each call of a service, from what it was opened with and the calls so far: for whoever calls one.
-- Nothing here is read from the service's own record; what is taken and spent follows from the log lines, and these from the calls.
use Rattle.std.specs.Prelude.{ℕ, ◌*◌, ◌^◌, cond, List, [], length, fold, count_ones, nat_lt, slice_index}
use Rattle.std.specs.List.{scan}
use Rattle.refusal.specs.declared.table.Refusal.{Refusal}
use Rattle.refusal.specs.declared.table.Refusal.TheVariants.{NoOutput, NoRow, NotTaken, NodesShort}
use Rattle.rows.specs.Rows.{sum_below, bit}
use Rattle.design.specs.declared.mark.Mark.{Mark}
use Rattle.design.specs.Meaning.{Meaning}
use Rattle.diagram.specs.declared.node.Node.{Node}
use Rattle.symmetric.specs.Vectors.{value}
use Rattle.symmetric.specs.Nearest.{bits, wrong}
use Rattle.drawing.specs.Pieces.{Drawing, drawn}
use Rattle.drawing.specs.Reduced.{marked}
use Rattle.commands.specs.declared.command.Command.TheVariants.{Take, Back}
use Rattle.commands.specs.declared.command.Answer.{Answer}
use Rattle.commands.specs.declared.command.Line.{Line}
use Rattle.commands.specs.Rules.{Account, taken, spent, numbered, logged}
use Rattle.rules.specs.declared.call.Call.{Call}
use Rattle.rules.specs.declared.call.Call.TheVariants as call

-- what a service is opened with: the design's meaning, the limit, and a price for each output
pub record Terms : Type 0 where
  pub meaning : Meaning
  pub limit : ℕ
  pub prices : List ℕ

-- the price of an output
abbrev pub price : Terms → ℕ → ℕ
price t o = slice_index t.prices o

-- what commands are decided by: an output costs its price for each row that its nearest symmetric function judges wrongly
abbrev pub account : Terms → Account
account t = record { outputs = t.meaning.outputs; cost = λ o. price t o * wrong t.meaning o; limit = t.limit }

-- a reply
pub data Said : Type 0 where
  answered : Answer → Said
  asked : (limit spent lines taken : ℕ) → Said
  shown : (vector wrong : ℕ) → Said
  marks : Mark → Said
  draws : (root : ℕ) (nodes : List Node) → Said
  refused : Refusal → Said

-- the taken outputs as one number, bit i for output i
abbrev pub taken_set : Terms → List Line → ℕ
taken_set t lines = sum_below t.meaning.outputs (λ o. bit (taken lines o) * 2 ^ o)

-- the mark handed out: of the nearest symmetric function if the output is taken, else the design's
abbrev pub handed : Terms → List Line → ℕ → ℕ → Mark
handed t lines o r = cond (taken lines o) (marked (value (bits t.meaning o) (count_ones r))) (t.meaning.mark o r)

-- the drawing of an output's nearest symmetric function
abbrev pub drawing : Terms → ℕ → Drawing
drawing t o = drawn t.meaning.inputs (bits t.meaning o)

-- what a drawing gives where there is room for so many nodes
abbrev pub in_room : Drawing → ℕ → Said
in_room d room = cond (nat_lt room (length d.nodes)) (refused (NodesShort (length d.nodes))) (draws d.root d.nodes)

-- the reply to a call, from the log lines so far
abbrev pub reply : Terms → List Line → Call → Said
reply t lines (call.Take k o) = answered (numbered (account t) lines k (Take o))
reply t lines (call.Back k o) = answered (numbered (account t) lines k (Back o))
reply t lines call.Ask = asked t.limit (spent lines) (length lines) (taken_set t lines)
reply t lines (call.Show o) = cond (nat_lt o t.meaning.outputs) (shown (bits t.meaning o) (wrong t.meaning o)) (refused NoOutput)
reply t lines (call.Read o r) = cond (nat_lt o t.meaning.outputs) (cond (nat_lt r (2 ^ t.meaning.inputs)) (marks (handed t lines o r)) (refused NoRow)) (refused NoOutput)
reply t lines (call.Draw o room) = cond (nat_lt o t.meaning.outputs) (cond (taken lines o) (in_room (drawing t o) room) (refused NotTaken)) (refused NoOutput)

-- the log after a call
abbrev pub logs : Terms → List Line → Call → List Line
logs t lines (call.Take k o) = logged (account t) lines k (Take o)
logs t lines (call.Back k o) = logged (account t) lines k (Back o)
logs t lines call.Ask = lines
logs t lines (call.Show o) = lines
logs t lines (call.Read o r) = lines
logs t lines (call.Draw o room) = lines

-- the log after some calls, from a log
unfoldable pub lines_from : Terms → List Line → List Call → List Line
lines_from t lines calls = fold (logs t) lines calls

-- and from the opening
abbrev pub lines : Terms → List Call → List Line
lines t calls = lines_from t [] calls

-- the replies to some calls, from a log
unfoldable pub replies_from : Terms → List Line → List Call → List Said
replies_from t lines calls = scan (logs t) (reply t) lines calls

-- and from the opening
abbrev pub replies : Terms → List Call → List Said
replies t calls = replies_from t [] calls

-- what a call is replied after those before it
abbrev pub says : Terms → List Call → Call → Said
says t before c = reply t (lines t before) c
