-- What a run of calls on a fresh service answers: for whoever makes one.
-- The code's replies are read as those of the rules.
use Rattle.std.specs.Prelude.{◌≡◌, ◌⊎◌, List, map, Ok, Err, vec_items, Result, Vec}
use Rattle.std.specs.declared.alloc.Global.{Global}
use Rattle.refusal.specs.declared.table.Refusal.{Refusal}
use Rattle.refusal.specs.declared.table.Refusal.TheVariants.{NoMemory}
use Rattle.rules.specs.declared.call.Call.{Call}
use Rattle.rules.specs.declared.call.Reply.{Reply}
use Rattle.rules.specs.declared.call.Reply.TheVariants as code
use Rattle.rules.specs.Rules.{Terms, Said, answered, marks, draws, refused, shown, replies}
use Rattle.service.specs.Opening.{opened}
use Rattle.service.specs.Replies.{said_asked}

-- a reply of the code
abbrev pub told : Reply → Said
told (code.Answered a) = answered a
told (code.Asked a) = said_asked a
told (code.Shown s) = shown s.vector s.wrong
told (code.Marked mark) = marks mark
told (code.Drawn root nodes) = draws root (vec_items nodes)
told (code.Refused why) = refused why

-- every reply is the one that the rules give; a refusal is the one of the opening, or want of memory where it has none
abbrev pub Ran : Terms → List Call → Result (Vec Reply Global) Refusal → Type 0
Ran t calls (Ok v) = (opened t ≡ Ok tt) × (map told (vec_items v) ≡ replies t calls)
Ran t calls (Err why) = (opened t ≡ Err why) ⊎ ((why ≡ NoMemory) × (opened t ≡ Ok tt))
