-- The burn sheet of a service, from its terms and the log lines so far: for whoever burns a chip of it.
-- A price fits a byte, since an opening passes 1 to 255 alone.
use Rattle.std.specs.Prelude.{◌≡◌, ℕ, zero, suc, ◌⊎◌, List, [], ◌∷◌, ◌++◌, Ok, Err, Result}
use Rattle.refusal.specs.declared.table.Refusal.{Refusal}
use Rattle.refusal.specs.declared.table.Refusal.TheVariants.{NoMemory}
use Rattle.design.specs.Meaning.{Meaning}
use Rattle.symmetric.specs.Nearest.{bits, wrong}
use Rattle.burn.specs.declared.entry.Entry.{Entry}
use Rattle.burn.specs.declared.sheet.Sheet.{Sheet}
use Rattle.burn.specs.Files.{Contents, told}
use Rattle.commands.specs.declared.command.Line.{Line}
use Rattle.commands.specs.Rules.{taken, spent}
use Rattle.rules.specs.Rules.{Terms, price}
use Rattle.service.specs.declared.account.Account.{Account}
use Rattle.service.specs.declared.service.Service.{Service}
use Rattle.service.specs.Holds.{Holds}
use Rattle.service.specs.Opening.{opened}

-- the entry of an output
abbrev pub entry_of : Terms → List Line → ℕ → Entry
entry_of t lines o = record { price = price t o; taken = taken lines o; vector = bits t.meaning o; wrong = wrong t.meaning o }

-- the entries of the outputs below k
unfoldable pub entries_below : Terms → List Line → ℕ → List Entry
entries_below t lines zero = []
entries_below t lines (suc k) = entries_below t lines k ++ entry_of t lines k ∷ []

-- the values of the sheet
abbrev pub sheet_of : Terms → List Line → Contents
sheet_of t lines = record { inputs = t.meaning.inputs; limit = t.limit; spent = spent lines; entries = entries_below t lines t.meaning.outputs }

-- an account as an entry
abbrev pub entry_from : Account → Entry
entry_from a = record { price = a.price; taken = a.taken; vector = a.vector.bits; wrong = a.wrong }

-- where the opening on these terms is not refused, the sheet, or none for want of memory
abbrev pub Sheeted : {D : Type 0} {d : _} → (D → Meaning) → Service D d → Result Sheet Refusal → Type 0
Sheeted means s r = (t : Terms) (lines : List Line) → Holds means t lines s → opened t ≡ Ok tt → (told r ≡ Ok (sheet_of t lines)) ⊎ (r ≡ Err NoMemory)
