-- What a fresh command changes in what ask is replied.
use Rattle.std.proofs.Common.{◌≡◌, ℕ, ◌+◌, ◌*◌, ◌^◌, ◌<◌, Bool, true, false, List, [], ◌∷◌, ◌++◌, length, ap, ◌∙◌, arith}
use Rattle.std.proofs.lemmas.List.{length_push}
use Rattle.rows.specs.Rows.{bit}
use Rattle.symmetric.proofs.Closest.{closest}
use Rattle.commands.specs.declared.command.Command.{Command}
use Rattle.commands.specs.declared.command.Command.TheVariants.{Take, Back}
use Rattle.commands.specs.declared.command.Answer.{Answer}
use Rattle.commands.specs.declared.command.Answer.TheVariants.{Taken, PutBack, Refused}
use Rattle.commands.specs.declared.command.Line.{Line}
use Rattle.commands.specs.Rules.{taken, spent, log_room, numbered}
use Rattle.commands.specs.Promise.{Moved, Unmoved, Changes}
use Rattle.commands.proofs.Logs.{next_line, fresh_answer}
use Rattle.commands.proofs.Changed.{decided_changes, moved_sum, unmoved_sum}
use Rattle.commands.proofs.Limits.{next_fresh}
use Rattle.rules.specs.declared.call.Call.{Call}
use Rattle.rules.specs.Rules.{Terms, account, price, taken_set, lines}
use Rattle.rules.specs.Standing.{Alters, Fresh, sent, misread}
use Rattle.rules.proofs.Runs.{lines_one, sent_reply, sent_logs, calls_keep, said_again}
use Rattle.rules.proofs.Handed.{digits, misread_taken}

-- the taken set, where one output alone was taken or put back
moved_set : (t : Terms) (before after : List Line) (o told : ℕ) (old new : Bool) → Moved (account t) before after o told old new
    → taken_set t after + bit old * 2 ^ o ≡ taken_set t before + bit new * 2 ^ o
moved_set t before after o told old new m = moved_sum (account t) before after o told old new (λ b p. bit b * 2 ^ p) m

unmoved_set : (t : Terms) (before after : List Line) → Unmoved before after → taken_set t after ≡ taken_set t before
unmoved_set t before after u = unmoved_sum (account t) before after (λ b p. bit b * 2 ^ p) u

misread_wrong : (t : Terms) (calls : List Call) (o : ℕ) → o < t.meaning.outputs → taken (lines t calls) o ≡ true → price t o * misread t calls o ≡ (account t).cost o
misread_wrong t calls o inside held = ap (λ e. price t o * e) (misread_taken t calls o inside held ∙ (closest t.meaning o).exact)

altered : (t : Terms) (before after : List Call) (command : Command) (answer : Answer) → length (lines t after) ≡ length (lines t before) + 1
    → Changes (account t) (lines t before) (lines t after) command answer
    → Alters t before after (spent (lines t before)) (length (lines t before)) (taken_set t (lines t before)) command answer
altered t before after (Take o) (Taken s) n c =
    let m = moved_set t (lines t before) (lines t after) o s false true c.0 in
    let f = c.0.figure in
    record {
      was = digits t (lines t before) (calls_keep t before) o ∙ c.0.was;
      costs = grind (arith, c.1, misread_wrong t after o c.0.output c.0.is);
      asks = grind arith;
    }
altered t before after (Take o) (PutBack s) n c = c
altered t before after (Take o) (Refused r) n c = grind (arith, c.figure, unmoved_set t (lines t before) (lines t after) c)
altered t before after (Back o) (Taken s) n c = c
altered t before after (Back o) (PutBack s) n c =
    let m = moved_set t (lines t before) (lines t after) o s true false c.0 in
    let f = c.0.figure in
    record {
      was = digits t (lines t before) (calls_keep t before) o ∙ c.0.was;
      costs = grind (arith, c.1, misread_wrong t before o c.0.output c.0.was);
      asks = grind arith;
    }
altered t before after (Back o) (Refused r) n c = grind (arith, c.figure, unmoved_set t (lines t before) (lines t after) c)

pub fresh_command : (t : Terms) (before : List Call) (command : Command) → length (lines t before) < log_room
    → Fresh t before (spent (lines t before)) (length (lines t before)) (taken_set t (lines t before)) command
fresh_command t before command few =
    let log : List Line = lines t before in
    let k : ℕ = length log + 1 in
    let new = next_fresh log few in
    let line = lines_one t before (sent k command) ∙ sent_logs t log k command ∙ next_line (account t) log k command new in
    let decision = fresh_answer (account t) log k command new in
    record {
      answer = numbered (account t) log k command;
      says_it = sent_reply t log k command;
      alters = altered t before (before ++ sent k command ∷ []) command (numbered (account t) log k command)
          (ap length line ∙ length_push log _)
          (rw (line, decision) (decided_changes (account t) log command (calls_keep t before)));
      again = λ between. said_again t before between k command new;
    }
