-- A run of calls, one by one.
use Rattle.std.proofs.Common.{◌≡◌, ℕ, ◌+◌, ◌<◌, ◌≤◌, List, [], ◌∷◌, ◌++◌, map, length, get_or, take, sym, ap, ◌∙◌}
use Rattle.std.proofs.lemmas.List.{take_more, take_all, map_push}
use Rattle.commands.specs.declared.command.Line.{Line}
use Rattle.rules.specs.declared.call.Call.{Call}
use Rattle.rules.specs.declared.call.Reply.{Reply}
use Rattle.rules.specs.Rules.{Terms, logs, reply, lines_from, lines, replies_from, replies}
use Rattle.rules.proofs.Runs.{lines_one, replies_one}
use Rattle.service.specs.Runs.{told}

-- a service's terms, lines and replies after so many of the calls
pub record Gone (t : Terms) (calls : List Call) (i : ℕ) (kept : Terms) (log : List Line) (items : List Reply) : Type 0 where
  pub terms : kept ≡ t
  pub lines : log ≡ lines t (take i calls)
  pub replies : map told items ≡ replies t (take i calls)

pub gone_none : (t : Terms) (calls : List Call) (kept : Terms) (log : List Line) (items : List Reply) → kept ≡ t → log ≡ [] → items ≡ [] → Gone t calls 0 kept log items
unfolding lines_from replies_from
gone_none t calls kept log items k l e = record { terms = k; lines = l; replies = ap (map told) e }

pub gone_more : (t : Terms) (calls : List Call) (i : ℕ) (d : Call) (kept kept' : Terms) (log log' : List Line) (items items' : List Reply) (r : Reply)
    → i < length calls → Gone t calls i kept log items
    → told r ≡ reply kept log (get_or calls i d) → log' ≡ logs kept log (get_or calls i d) → kept' ≡ kept → items' ≡ items ++ r ∷ []
    → Gone t calls (i + 1) kept' log' items'
gone_more t calls i d kept kept' log log' items items' r h inv said logged same pushed =
    let c = get_or calls i d in
    let tm = take_more calls i d h in
    let lines-here = lines_one t (take i calls) c in
    let replies-here = replies_one t (take i calls) c in
    let e = inv.terms in
    let l = inv.lines in record {
      terms = same ∙ inv.terms;
      lines = rw tm (logged ∙ rw (e, l) (sym lines-here));
      replies = ap (map told) pushed ∙ (map_push told items r ∙ rw (tm, said, e, l, inv.replies) (sym replies-here));
    }

pub gone_all : (t : Terms) (calls : List Call) (i : ℕ) (kept : Terms) (log : List Line) (items : List Reply) → length calls ≤ i → Gone t calls i kept log items → map told items ≡ replies t calls
gone_all t calls i kept log items h inv = inv.replies ∙ ap (replies t) (take_all i calls h)
