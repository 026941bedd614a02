-- Where a service stands after some calls, told by what any call would then be replied: for whoever burns a chip by its replies.
-- The calls before are any list, with gaps, repeats and refusals among them. A symmetric function is given by its value at each weight.
use Rattle.std.specs.Prelude.{◌≡◌, ℕ, ◌+◌, ◌-◌, ◌*◌, ◌^◌, ◌<◌, ◌≤◌, Bool, true, false, ◌&&◌, ◌||◌, ◌⊎◌, ◌↔◌, List, [], ◌∷◌, ◌++◌, length, count_ones}
use Rattle.refusal.specs.declared.table.Refusal.TheVariants.{NoOutput, NoRow, Gap, LogFull, AlreadyTaken, NotTaken, OverLimit, NodesShort}
use Rattle.rows.specs.Rows.{sum_below, count}
use Rattle.design.specs.declared.mark.Mark.{Mark}
use Rattle.design.specs.Meaning.{is_zero, is_one}
use Rattle.symmetric.specs.Vectors.{value}
use Rattle.symmetric.specs.Closest.{wrong_rows}
use Rattle.drawing.specs.Pieces.{Drawing}
use Rattle.drawing.specs.Reduced.{marked, Reduced}
use Rattle.commands.specs.declared.command.Command.{Command}
use Rattle.commands.specs.declared.command.Command.TheVariants.{Take, Back}
use Rattle.commands.specs.declared.command.Answer.{Answer}
use Rattle.commands.specs.declared.command.Answer.TheVariants.{Taken, PutBack, Refused}
use Rattle.commands.specs.Rules.{log_room}
use Rattle.rules.specs.declared.call.Call.{Call}
use Rattle.rules.specs.declared.call.Call.TheVariants as call
use Rattle.rules.specs.Rules.{Terms, price, Said, Said.answered, Said.asked, Said.shown, Said.marks, Said.draws, Said.refused, says}

-- output o is in a set of outputs: bit o of its number is one
abbrev pub in_set : ℕ → ℕ → Bool
in_set set o = value set o

-- a mark handed out is wrong: the design asks for one and it is zero, or for zero and it is one
abbrev pub wrong_mark : Mark → Mark → Bool
wrong_mark wanted given = (is_one wanted && is_zero given) || (is_zero wanted && is_one given)

-- a reply hands out a wrong mark
abbrev pub wrong_reply : Mark → Said → Bool
wrong_reply wanted (answered a) = false
wrong_reply wanted (asked limit spent lines taken) = false
wrong_reply wanted (shown vector wrong) = false
wrong_reply wanted (marks given) = wrong_mark wanted given
wrong_reply wanted (draws root nodes) = false
wrong_reply wanted (refused why) = false

-- at how many rows an output is read wrongly after some calls
abbrev pub misread : Terms → List Call → ℕ → ℕ
misread t before o = count t.meaning.inputs (λ r. wrong_reply (t.meaning.mark o r) (says t before (call.Read o r)))

-- what show is replied: a symmetric function and its wrong rows, and none is wrong at fewer
pub record Nearest (t : Terms) (before : List Call) (o : ℕ) : Type 0 where
  pub vector : ℕ
  pub wrong : ℕ
  pub shows : says t before (call.Show o) ≡ shown vector wrong
  pub fits : vector < 2 ^ (t.meaning.inputs + 1)
  pub exact : wrong_rows t.meaning o (value vector) ≡ wrong
  pub least : (f : ℕ → Bool) → wrong ≤ wrong_rows t.meaning o f

-- a taken output is handed out as the symmetric function of a vector, and drawn so
pub record Replaced (t : Terms) (before : List Call) (o vector : ℕ) : Type 0 where
  pub reads : (r : ℕ) → r < 2 ^ t.meaning.inputs → says t before (call.Read o r) ≡ marks (marked (value vector (count_ones r)))
  pub wrong : misread t before o ≡ wrong_rows t.meaning o (value vector)
  pub drawing : Drawing
  pub reduced : Reduced t.meaning.inputs vector drawing
  pub draws_it : (room : ℕ) → length drawing.nodes ≤ room → says t before (call.Draw o room) ≡ draws drawing.root drawing.nodes
  pub too_short : (room : ℕ) → room < length drawing.nodes → says t before (call.Draw o room) ≡ refused (NodesShort (length drawing.nodes))

-- an output that is not taken is handed out as the design has it
pub record Untouched (t : Terms) (before : List Call) (o : ℕ) : Type 0 where
  pub reads : (r : ℕ) → r < 2 ^ t.meaning.inputs → says t before (call.Read o r) ≡ marks (t.meaning.mark o r)
  pub wrong : misread t before o ≡ 0
  pub draws_none : (room : ℕ) → says t before (call.Draw o room) ≡ refused NotTaken

-- a command as it is sent under a number
abbrev pub sent : ℕ → Command → Call
sent number (Take o) = call.Take number o
sent number (Back o) = call.Back number o

-- the reply is 20, over the limit, by some excess
abbrev pub Over : Said → Type 0
Over said = (excess : ℕ) × (said ≡ answered (Refused (OverLimit excess)))

-- what would be spent with a symmetric function in the place of an output
abbrev pub spent_with : Terms → ℕ → ℕ → (ℕ → Bool) → ℕ
spent_with t spent o f = spent + price t o * wrong_rows t.meaning o f

-- one function passes the limit by so much, and none by less
pub record LeastOver (t : Terms) (spent o excess : ℕ) : Type 0 where
  pub function : ℕ → Bool
  pub reached : spent_with t spent o function ≡ t.limit + excess
  pub least : (f : ℕ → Bool) → t.limit + excess ≤ spent_with t spent o f

-- a fresh take of an untaken output is over the limit only if nothing fits, and is else granted at the least that any function costs
pub record Limited (t : Terms) (before : List Call) (spent numbers o : ℕ) : Type 0 where
  pub refuses : Over (says t before (call.Take (numbers + 1) o)) ↔ ((f : ℕ → Bool) → t.limit < spent_with t spent o f)
  pub grants :
      (f : ℕ → Bool) → spent_with t spent o f ≤ t.limit
      → (told : ℕ) × (says t before (call.Take (numbers + 1) o) ≡ answered (Taken told)) × (told ≤ spent_with t spent o f)
  -- the excess told is the least that any function passes the limit by
  pub excess : (excess : ℕ) → says t before (call.Take (numbers + 1) o) ≡ answered (Refused (OverLimit excess)) → LeastOver t spent o excess

-- what a granted take changes in what ask is replied: one output more
pub record TakenNow (t : Terms) (after : List Call) (spent numbers outputs o told : ℕ) : Type 0 where
  pub was : in_set outputs o ≡ false
  pub costs : told ≡ spent + price t o * misread t after o
  pub asks : says t after call.Ask ≡ asked t.limit told (numbers + 1) (outputs + 2 ^ o)

-- a granted back: one output less
pub record BackNow (t : Terms) (before after : List Call) (spent numbers outputs o told : ℕ) : Type 0 where
  pub was : in_set outputs o ≡ true
  pub costs : spent ≡ told + price t o * misread t before o
  pub asks : says t after call.Ask ≡ asked t.limit told (numbers + 1) (outputs - 2 ^ o)

-- a refusal: one line more, and nothing else
abbrev pub RefusedNow : Terms → List Call → ℕ → ℕ → ℕ → Type 0
RefusedNow t after spent numbers outputs = says t after call.Ask ≡ asked t.limit spent (numbers + 1) outputs

-- what a fresh command changes, by its answer: a take is never answered 'put back', nor a back 'taken'
abbrev pub Alters : Terms → List Call → List Call → ℕ → ℕ → ℕ → Command → Answer → Type 0
Alters t before after spent numbers outputs (Take o) (Taken told) = TakenNow t after spent numbers outputs o told
Alters t before after spent numbers outputs (Take o) (PutBack told) = ⊥
Alters t before after spent numbers outputs (Take o) (Refused why) = RefusedNow t after spent numbers outputs
Alters t before after spent numbers outputs (Back o) (Taken told) = ⊥
Alters t before after spent numbers outputs (Back o) (PutBack told) = BackNow t before after spent numbers outputs o told
Alters t before after spent numbers outputs (Back o) (Refused why) = RefusedNow t after spent numbers outputs

-- a command under the next number, while there is room for its line
pub record Fresh (t : Terms) (before : List Call) (spent numbers outputs : ℕ) (command : Command) : Type 0 where
  pub answer : Answer
  pub says_it : says t before (sent (numbers + 1) command) ≡ answered answer
  pub alters : Alters t before (before ++ sent (numbers + 1) command ∷ []) spent numbers outputs command answer
  -- whatever is called between, it is answered the same when it is sent again
  pub again : (between : List Call) → says t (before ++ sent (numbers + 1) command ∷ between) (sent (numbers + 1) command) ≡ answered answer

-- an output that is not there: every call on it is refused with 7, a command under the next number among them
pub record Absent (t : Terms) (before : List Call) (numbers o : ℕ) : Type 0 where
  pub shows : says t before (call.Show o) ≡ refused NoOutput
  pub reads : (r : ℕ) → says t before (call.Read o r) ≡ refused NoOutput
  pub draws_none : (room : ℕ) → says t before (call.Draw o room) ≡ refused NoOutput
  pub takes : numbers < log_room → says t before (call.Take (numbers + 1) o) ≡ answered (Refused NoOutput)
  pub backs : numbers < log_room → says t before (call.Back (numbers + 1) o) ≡ answered (Refused NoOutput)

-- where a service stands after some calls, by what any call would then be replied
pub record Stands (t : Terms) (before : List Call) : Type 0 where
  pub spent : ℕ
  pub numbers : ℕ
  pub outputs : ℕ
  pub asks : says t before call.Ask ≡ asked t.limit spent numbers outputs
  -- spent is true: price times the rows read wrongly, over all outputs
  pub sum : spent ≡ sum_below t.meaning.outputs (λ o. price t o * misread t before o)
  pub within : spent ≤ t.limit
  pub room : numbers ≤ log_room
  pub there : (o : ℕ) → in_set outputs o ≡ true → o < t.meaning.outputs
  pub nearest : (o : ℕ) → o < t.meaning.outputs → Nearest t before o
  pub symmetric : (o : ℕ) (inside : o < t.meaning.outputs) → in_set outputs o ≡ true → Replaced t before o (nearest o inside).vector
  pub design : (o : ℕ) → o < t.meaning.outputs → in_set outputs o ≡ false → Untouched t before o
  pub absent : (o : ℕ) → t.meaning.outputs ≤ o → Absent t before numbers o
  pub no_row : (o r : ℕ) → o < t.meaning.outputs → 2 ^ t.meaning.inputs ≤ r → says t before (call.Read o r) ≡ refused NoRow
  -- commands under the next number: takes and backs of an untaken output, then of a taken one
  pub limited : (o : ℕ) → o < t.meaning.outputs → in_set outputs o ≡ false → numbers < log_room → Limited t before spent numbers o
  pub none_to_return :
      (o : ℕ) → o < t.meaning.outputs → in_set outputs o ≡ false → numbers < log_room
      → says t before (call.Back (numbers + 1) o) ≡ answered (Refused NotTaken)
  pub taken_twice : (o : ℕ) → in_set outputs o ≡ true → numbers < log_room → says t before (call.Take (numbers + 1) o) ≡ answered (Refused AlreadyTaken)
  pub returned : (o : ℕ) → in_set outputs o ≡ true → numbers < log_room → (told : ℕ) × (says t before (call.Back (numbers + 1) o) ≡ answered (PutBack told))
  pub fresh : (command : Command) → numbers < log_room → Fresh t before spent numbers outputs command
  -- and under it where the log is full, and under none that was or is next
  pub full : (command : Command) → numbers ≡ log_room → says t before (sent (numbers + 1) command) ≡ answered (Refused LogFull)
  pub gap : (number : ℕ) (command : Command) → (number ≡ 0) ⊎ (numbers + 1 < number) → says t before (sent number command) ≡ answered (Refused (Gap (numbers + 1)))
