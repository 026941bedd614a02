-- Answers in words, for what a program prints of them.
-- Assumes nothing.
use Rattle.std.specs.Prelude.{ℕ, List, ◌++◌, codes, decimal}
use Rattle.refusal.specs.declared.table.Refusal.{Refusal}
use Rattle.refusal.specs.Table.{told}
use Rattle.refusal.specs.Text.{text}
use Rattle.commands.specs.declared.command.Answer.{Answer}
use Rattle.commands.specs.declared.command.Answer.TheVariants.{Taken, PutBack, Refused}

-- a refusal in words: its number, then its values
abbrev pub refused_text : Refusal → List ℕ
refused_text r = codes "refused " ++ text (told r)

-- an answer in words: what is then spent, or why it was refused
abbrev pub answer_text : Answer → List ℕ
answer_text (Taken s) = codes "taken, spent " ++ decimal s
answer_text (PutBack s) = codes "put back, spent " ++ decimal s
answer_text (Refused r) = refused_text r
