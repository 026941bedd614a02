-- Calls and replies in words, for what a program prints of them.
-- Assumes nothing.
use Rattle.std.specs.Prelude.{ℕ, List, ◌++◌, codes, decimal, vec_len}
use Rattle.design.specs.Marks.{mark_word}
use Rattle.drawing.specs.Text.{text}
use Rattle.commands.specs.Text.{refused_text, answer_text}
use Rattle.rules.specs.declared.call.Call.{Call}
use Rattle.rules.specs.declared.call.Call.TheVariants.{Take, Back, Ask, Show, Read, Draw}
use Rattle.rules.specs.declared.call.Asked.{Asked}
use Rattle.rules.specs.declared.call.Shown.{Shown}
use Rattle.rules.specs.declared.call.Reply.{Reply}
use Rattle.rules.specs.declared.call.Reply.TheVariants as reply

-- a call with what it names
abbrev pub call_text : Call → List ℕ
call_text (Take number output) = codes "take " ++ (decimal number ++ (codes " of output " ++ decimal output))
call_text (Back number output) = codes "back " ++ (decimal number ++ (codes " of output " ++ decimal output))
call_text Ask = codes "ask"
call_text (Show output) = codes "show output " ++ decimal output
call_text (Read output row) = codes "read output " ++ (decimal output ++ (codes " at row " ++ decimal row))
call_text (Draw output room) = codes "draw output " ++ (decimal output ++ (codes " in room for " ++ (decimal room ++ codes " nodes")))

-- the account: limit, spent figure, lines, taken set
abbrev pub asked_text : Asked → List ℕ
asked_text a = codes "limit " ++ (decimal a.limit ++ (codes ", spent " ++ (decimal a.spent ++ (codes ", " ++ (decimal a.lines ++ (codes " lines, taken set " ++ decimal a.taken))))))

-- a value vector as a number, and its wrong count
abbrev pub shown_text : Shown → List ℕ
shown_text s = codes "vector " ++ (decimal s.vector ++ (codes ", " ++ (decimal s.wrong ++ codes " windows judged wrongly")))

-- a reply: the text of what it holds; of a drawing its size and root, as drawing tells them
abbrev pub reply_text : Reply → List ℕ
reply_text (reply.Answered a) = answer_text a
reply_text (reply.Asked a) = asked_text a
reply_text (reply.Shown s) = shown_text s
reply_text (reply.Marked mark) = mark_word mark
reply_text (reply.Drawn root nodes) = text (record { count = vec_len nodes; root = root })
reply_text (reply.Refused why) = refused_text why
