-- What a service promises over whole runs of calls, and with it where it stands after each: for whoever trusts its replies or sends a command twice.
-- Lists of calls are any lists, with gaps, repeats and refusals among them.
use Rattle.std.specs.Prelude.{◌≡◌, ℕ, Bool, true, false, ◌↔◌, List, [], ◌∷◌, ◌++◌, map}
use Rattle.std.specs.List.{scan}
use Rattle.refusal.specs.declared.table.Refusal.TheVariants.{NumberUsed}
use Rattle.commands.specs.declared.command.Command.{Command}
use Rattle.commands.specs.declared.command.Command.TheVariants.{Take, Back}
use Rattle.commands.specs.declared.command.Answer.TheVariants.{Refused}
use Rattle.commands.specs.declared.command.Line.{Line}
use Rattle.commands.specs.Rules.{fresh, used, repeats}
use Rattle.commands.specs.Strikes.{Left}
use Rattle.rules.specs.declared.call.Call.{Call}
use Rattle.rules.specs.declared.call.Call.TheVariants as call
use Rattle.rules.specs.Rules.{Terms, Said, Said.answered, Said.asked, reply, logs, lines, replies, says}
use Rattle.rules.specs.Standing.{sent, Stands}

-- a call is a repeat: a command whose number is that of a line with the same command
abbrev pub is_repeat : List Line → Call → Bool
is_repeat log (call.Take k o) = repeats log (record { number = k; command = Take o })
is_repeat log (call.Back k o) = repeats log (record { number = k; command = Back o })
is_repeat log call.Ask = false
is_repeat log (call.Show o) = false
is_repeat log (call.Read o r) = false
is_repeat log (call.Draw o room) = false

-- a call is fresh: a command under the next number, while there is room for its line
abbrev pub is_fresh : List Line → Call → Bool
is_fresh log (call.Take k o) = fresh log k
is_fresh log (call.Back k o) = fresh log k
is_fresh log call.Ask = false
is_fresh log (call.Show o) = false
is_fresh log (call.Read o r) = false
is_fresh log (call.Draw o room) = false

-- a call that was made before, and was fresh where it stood
pub record Earlier (t : Terms) (before : List Call) (c : Call) : Type 0 where
  pub earlier : List Call
  pub between : List Call
  pub parts : before ≡ earlier ++ c ∷ between
  pub was_fresh : is_fresh (lines t earlier) c ≡ true
  pub same : says t before c ≡ says t earlier c

-- a call as it was heard: the log that it met, its reply, and what any call would be replied after it
pub record Heard : Type 0 where
  pub before : List Line
  pub made : Call
  pub said : Said
  pub next : Call → Said

-- how a call is heard, from the log lines so far
abbrev pub hears : Terms → List Line → Call → Heard
hears t log c = record { before = log; made = c; said = reply t log c; next = reply t (logs t log c) }

-- the transcript of some calls, from a log
unfoldable pub heard_from : Terms → List Line → List Call → List Heard
heard_from t log calls = scan (logs t) (hears t) log calls

-- and from the opening
abbrev pub heard : Terms → List Call → List Heard
heard t calls = heard_from t [] calls

-- the calls of a transcript
abbrev pub calls_of : List Heard → List Call
calls_of transcript = map (λ h. h.made) transcript

-- some of a transcript's calls that are repeats where they stand are left out
abbrev pub Struck : List Heard → List Heard → Type 0
Struck = Left (λ h. is_repeat h.before h.made)

-- what a service opened on these terms promises
pub record Promised (t : Terms) : Type 0 where
  -- at the opening nothing is taken, spent or logged
  pub opened : says t [] call.Ask ≡ asked t.limit 0 0 0
  -- at the opening and after each call
  pub stands : (before : List Call) → Stands t before
  -- what show is replied stays the same
  pub steady : (before : List Call) (o : ℕ) → says t before (call.Show o) ≡ says t [] (call.Show o)
  -- the replies of a run are what each call is replied after those before it
  pub none_replied : replies t [] ≡ []
  pub replied : (before : List Call) (c : Call) → replies t (before ++ c ∷ []) ≡ replies t before ++ says t before c ∷ []
  -- a call is a repeat exactly if it was fresh before, and is then replied what it was replied there
  pub repeated : (before : List Call) (c : Call) → (is_repeat (lines t before) c ≡ true) ↔ Earlier t before c
  -- another command under the number of a line is refused with that number
  pub number_used :
      (before : List Call) (number : ℕ) (command : Command) → used (lines t before) number ≡ true
      → is_repeat (lines t before) (sent number command) ≡ false → says t before (sent number command) ≡ answered (Refused (NumberUsed number))
  -- a repeat left out changes no later reply, nor does anything else that is not fresh
  pub idle :
      (before later : List Call) (c : Call) → is_repeat (lines t before) c ≡ true
      → (d : Call) → says t (before ++ c ∷ later) d ≡ says t (before ++ later) d
  pub quiet :
      (before later : List Call) (c : Call) → is_fresh (lines t before) c ≡ false
      → (d : Call) → says t (before ++ c ∷ later) d ≡ says t (before ++ later) d
  -- what is left of a transcript is the transcript of what is left
  pub struck : (calls : List Call) (left : List Heard) → Struck (heard t calls) left → heard t (calls_of left) ≡ left
  -- and any call at the end is replied the same
  pub ended : (calls : List Call) (left : List Heard) → Struck (heard t calls) left → (c : Call) → says t (calls_of left) c ≡ says t calls c

-- on all terms
abbrev pub PromiseHolds : Type 0
PromiseHolds = (t : Terms) → Promised t
