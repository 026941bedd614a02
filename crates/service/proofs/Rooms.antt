-- Room for more nodes than any drawing has is room for every drawing.
use Rattle.std.proofs.Common.{◌≡◌, ℕ, ◌≤◌, min, cond, ltb, List, length, subst, ap, arith}
use Rattle.std.proofs.lemmas.Bool.Decides.{nat_tests}
use Rattle.refusal.specs.declared.table.Refusal.TheVariants.{NoOutput, NotTaken, NodesShort}
use Rattle.design.specs.Meaning.{Meaning, Sound}
use Rattle.symmetric.specs.Nearest.{bits}
use Rattle.drawing.specs.Pieces.{Drawing}
use Rattle.drawing.proofs.Sizes.{few_nodes}
use Rattle.commands.specs.declared.command.Line.{Line}
use Rattle.commands.specs.Rules.{taken}
use Rattle.rules.specs.declared.call.Call.TheVariants.{Draw}
use Rattle.rules.specs.Rules.{Terms, Said.draws, Said.refused, drawing, in_room, reply}
use Rattle.service.specs.declared.service.Service.{Service}
use Rattle.service.specs.Holds.{Holds}

same_test : (len room n : ℕ) → n ≤ 136 → len ≡ min room 136 → ltb len n ≡ ltb room n
same_test len room n h e = grind (arith, nat_tests)

same_drawing : (d : Drawing) (len room : ℕ) → length d.nodes ≤ 136 → len ≡ min room 136 → in_room d len ≡ in_room d room
same_drawing d len room h e = ap (λ b. cond b (refused (NodesShort (length d.nodes))) (draws d.root d.nodes)) (same_test len room (length d.nodes) h e)

pub same_room : (t : Terms) (lines : List Line) (o len room : ℕ) → t.meaning.inputs ≤ 16 → len ≡ min room 136 → reply t lines (Draw o len) ≡ reply t lines (Draw o room)
same_room t lines o len room n e = ap (λ x. cond (ltb o t.meaning.outputs) (cond (taken lines o) x (refused NotTaken)) (refused NoOutput)) (same_drawing (drawing t o) len room (few_nodes t.meaning.inputs (bits t.meaning o) n) e)

-- a service's inputs are few
pub inputs_few : {D : Type 0} {d : _} (means : D → Meaning) (t : Terms) (lines : List Line) (s : Service D d) → Sound (means s.design) → Holds means t lines s → t.meaning.inputs ≤ 16
inputs_few means t lines s sound h = subst (λ (m : Meaning). m.inputs ≤ 16) h.meaning sound.few_inputs
