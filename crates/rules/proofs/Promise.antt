-- The promise, from its parts.
use Rattle.std.proofs.Common.{◌≡◌, ℕ, Bool, ◌*◌, ◌^◌, ◌<◌, ◌≤◌, true, false, List, [], ◌∷◌, ◌++◌, length, sym, refl, ap, ◌∙◌, zero-mul, arith}
use Rattle.refusal.specs.declared.table.Refusal.TheVariants.{NumberUsed}
use Rattle.rows.proofs.Sums.{sum_none}
use Rattle.symmetric.specs.Nearest.{bits, wrong}
use Rattle.symmetric.proofs.Closest.{closest}
use Rattle.drawing.proofs.Diagrams.{reduced}
use Rattle.commands.specs.declared.command.Command.{Command}
use Rattle.commands.specs.declared.command.Command.TheVariants.{Take, Back}
use Rattle.commands.specs.declared.command.Answer.TheVariants.{Refused}
use Rattle.commands.specs.declared.command.Line.{Line}
use Rattle.commands.specs.Rules.{taken, spent, used}
use Rattle.commands.proofs.Strikes.{Idle, left_over}
use Rattle.commands.proofs.Limits.{put_back}
use Rattle.rules.specs.declared.call.Call.{Call}
use Rattle.rules.specs.declared.call.Call.TheVariants as call
use Rattle.rules.specs.Rules.{Terms, account, taken_set, drawing, Said.answered, Said.asked, reply, logs, lines_from, lines, replies_from, replies, says}
use Rattle.rules.specs.Standing.{in_set, Nearest, Replaced, Untouched, Absent, Stands, sent}
use Rattle.rules.specs.Promise.{Promised, hears, heard_from, is_repeat}
use Rattle.rules.proofs.Runs.{replies_one, sent_reply, repeat_adds_none, others_add_none, lines_without, calls_keep}
use Rattle.rules.proofs.Handed.{digits, reads_symmetric, reads_design, misread_taken, misread_free, spent_true}
use Rattle.rules.proofs.Fits.{limited_take}
use Rattle.rules.proofs.Altered.{fresh_command}
use Rattle.rules.proofs.Repeats.{was_earlier, is_repeated}

shown_nearest : (t : Terms) (before : List Call) (o : ℕ) → o < t.meaning.outputs → Nearest t before o
shown_nearest t before o inside =
    let c = closest t.meaning o in
    record {
      vector = bits t.meaning o;
      wrong = wrong t.meaning o;
      shows = grind arith;
      fits = c.fits;
      exact = c.exact;
      least = c.least;
    }

replaced : (t : Terms) (before : List Call) (o : ℕ) → o < t.meaning.outputs → taken (lines t before) o ≡ true → Replaced t before o (bits t.meaning o)
replaced t before o inside held = record {
  reads = λ r row. reads_symmetric t (lines t before) o r inside row held;
  wrong = misread_taken t before o inside held;
  drawing = drawing t o;
  reduced = reduced t.meaning.inputs (bits t.meaning o);
  draws_it = λ room h. grind arith;
  too_short = λ room h. grind arith;
}

untouched : (t : Terms) (before : List Call) (o : ℕ) → o < t.meaning.outputs → taken (lines t before) o ≡ false → Untouched t before o
untouched t before o inside free = record {
  reads = λ r row. reads_design t (lines t before) o r inside row free;
  wrong = misread_free t before o inside free;
  draws_none = λ room. grind arith;
}

absent : (t : Terms) (before : List Call) (o : ℕ) → t.meaning.outputs ≤ o → Absent t before (length (lines t before)) o
absent t before o out = record {
  shows = grind arith;
  reads = λ r. grind arith;
  draws_none = λ room. grind arith;
  takes = λ few. grind arith;
  backs = λ few. grind arith;
}

-- what the set of ask tells is so
told : (t : Terms) (before : List Call) (o : ℕ) {b : Bool} → in_set (taken_set t (lines t before)) o ≡ b → taken (lines t before) o ≡ b
told t before o h = sym (digits t (lines t before) (calls_keep t before) o) ∙ h

pub stands : (t : Terms) (before : List Call) → Stands t before
unfolding shown_nearest
stands t before =
    let k = calls_keep t before in
    record {
      spent = spent (lines t before);
      numbers = length (lines t before);
      outputs = taken_set t (lines t before);
      asks = refl;
      sum = spent_true t before;
      within = k.within;
      room = k.room;
      there = λ o h. k.there o (told t before o h);
      nearest = shown_nearest t before;
      symmetric = λ o inside h. replaced t before o inside (told t before o h);
      design = λ o inside h. untouched t before o inside (told t before o h);
      absent = absent t before;
      no_row = λ o r inside out. grind arith;
      none_to_return = λ o inside h few. let free = told t before o h in grind arith;
      taken_twice = λ o h few.
          let held = told t before o h in
          let inside = k.there o held in
          grind arith;
      limited = λ o inside h few. limited_take t before o few inside (told t before o h);
      returned = λ o h few.
          let held = told t before o h in
          (_, ap answered (put_back (account t) (lines t before) o few (k.there o held) held));
      fresh = fresh_command t before;
      full = λ c e. grind (arith, sent_reply t (lines t before));
      gap = λ n c h. grind (arith, sent_reply t (lines t before));
    }

opened : (t : Terms) → says t [] call.Ask ≡ asked t.limit 0 0 0
unfolding lines_from spent taken
opened t = ap (asked t.limit 0 0) (sum_none t.meaning.outputs (λ o. 0 * 2 ^ o) (λ o h. zero-mul (2 ^ o)))

none_replied : (t : Terms) → replies t [] ≡ []
unfolding replies_from
none_replied t = refl

-- a call that adds no line, left out
without : (t : Terms) (before later : List Call) (c : Call) → logs t (lines t before) c ≡ lines t before
    → (d : Call) → says t (before ++ c ∷ later) d ≡ says t (before ++ later) d
without t before later c h d = ap (λ l. reply t l d) (lines_without t before later c h)

number_used : (t : Terms) (log : List Line) (k : ℕ) (c : Command) → used log k ≡ true → is_repeat log (sent k c) ≡ false
    → reply t log (sent k c) ≡ answered (Refused (NumberUsed k))
number_used t log k (Take o) u h = grind arith
number_used t log k (Back o) u h = grind arith

-- a repeat changes nothing
repeats_idle : (t : Terms) → Idle (logs t) (hears t) (λ h. h.made) (λ h. is_repeat h.before h.made)
repeats_idle t = record { tells = λ log c. refl; stays = repeat_adds_none t }

pub promised : (t : Terms) → Promised t
unfolding lines_from heard_from
promised t = record {
  opened = opened t;
  stands = stands t;
  steady = λ before o. refl;
  none_replied = none_replied t;
  replied = replies_one t;
  repeated = λ before c. (was_earlier t before c, is_repeated t before c);
  number_used = λ before k c u h. number_used t (lines t before) k c u h;
  idle = λ before later c h. without t before later c (repeat_adds_none t (lines t before) c h);
  quiet = λ before later c h. without t before later c (others_add_none t (lines t before) c h);
  struck = λ calls left s. (left_over (repeats_idle t) s [] calls refl).0;
  ended = λ calls left s c. ap (λ l. reply t l c) (left_over (repeats_idle t) s [] calls refl).1;
}
