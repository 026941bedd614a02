-- What is handed out: the rows read wrongly, and the taken set as a number.
use Rattle.std.proofs.Common.{◌≡◌, ℕ, ◌*◌, ◌^◌, ◌<◌, Bool, true, false, cond, List, refl, ◌∙◌, ⊎_elim, arith}
use lib.Count.{ones}
use Rattle.std.proofs.lemmas.Bool.{cases_lt, cases_Bool}
use Rattle.rows.specs.Rows.{sum_below}
use Rattle.rows.proofs.Sums.{sum_cong}
use Rattle.rows.proofs.Counts.{count_cong, count_none}
use Rattle.design.specs.declared.mark.Mark.{Mark}
use Rattle.design.specs.declared.mark.Mark.TheVariants.{Zero, One, DontCare}
use Rattle.symmetric.specs.Vectors.{value}
use Rattle.symmetric.specs.Nearest.{bits}
use Rattle.symmetric.specs.Closest.{differ, wrong_rows}
use Rattle.symmetric.proofs.Closest.{closest}
use Rattle.symmetric.proofs.Bits.{number_value, number_above}
use Rattle.drawing.specs.Reduced.{marked}
use Rattle.commands.specs.declared.command.Line.{Line}
use Rattle.commands.specs.Rules.{taken, spent}
use Rattle.commands.specs.Promise.{Kept}
use Rattle.rules.specs.declared.call.Call.{Call}
use Rattle.rules.specs.declared.call.Call.TheVariants as call
use Rattle.rules.specs.Rules.{Terms, account, price, taken_set, Said.marks, reply, lines}
use Rattle.rules.specs.Standing.{in_set, wrong_mark, misread}
use Rattle.rules.proofs.Runs.{calls_keep}

-- a set's digits tell what is taken
pub digits : (t : Terms) (log : List Line) → Kept (account t) log → (o : ℕ) → in_set (taken_set t log) o ≡ taken log o
digits t log k o =
    ⊎_elim
    (λ h. number_value (taken log) t.meaning.outputs o h)
    (λ h. grind (arith, number_above (taken log) t.meaning.outputs o h, k.there o))
    (cases_lt o t.meaning.outputs)

-- a read within the design hands out a mark: of the symmetric function if the output is taken
pub reads_symmetric : (t : Terms) (log : List Line) (o r : ℕ) → o < t.meaning.outputs → r < 2 ^ t.meaning.inputs → taken log o ≡ true
    → reply t log (call.Read o r) ≡ marks (marked (value (bits t.meaning o) (ones r)))
reads_symmetric t log o r inside row held = grind arith

-- else the design's
pub reads_design : (t : Terms) (log : List Line) (o r : ℕ) → o < t.meaning.outputs → r < 2 ^ t.meaning.inputs → taken log o ≡ false
    → reply t log (call.Read o r) ≡ marks (t.meaning.mark o r)
reads_design t log o r inside row free = grind arith

-- the mark of a value is wrong where the value is
wrong_value : (wanted : Mark) (b : Bool) → wrong_mark wanted (marked b) ≡ differ wanted b
wrong_value Zero true = refl
wrong_value Zero false = refl
wrong_value One true = refl
wrong_value One false = refl
wrong_value DontCare true = refl
wrong_value DontCare false = refl

-- and the design's own mark never
wrong_self : (wanted : Mark) → wrong_mark wanted wanted ≡ false
wrong_self Zero = refl
wrong_self One = refl
wrong_self DontCare = refl

pub misread_taken : (t : Terms) (before : List Call) (o : ℕ) → o < t.meaning.outputs → taken (lines t before) o ≡ true
    → misread t before o ≡ wrong_rows t.meaning o (value (bits t.meaning o))
misread_taken t before o inside held =
    count_cong t.meaning.inputs _ _
    (λ r row.
    let e = reads_symmetric t (lines t before) o r inside row held in
    grind (arith, wrong_value (t.meaning.mark o r) (value (bits t.meaning o) (ones r))))

pub misread_free : (t : Terms) (before : List Call) (o : ℕ) → o < t.meaning.outputs → taken (lines t before) o ≡ false → misread t before o ≡ 0
misread_free t before o inside free =
    count_none t.meaning.inputs _
    (λ r row. let e = reads_design t (lines t before) o r inside row free in grind (arith, wrong_self (t.meaning.mark o r)))

-- so an output costs its price for each row read wrongly
pub misread_cost : (t : Terms) (before : List Call) (o : ℕ) → o < t.meaning.outputs
    → cond (taken (lines t before) o) ((account t).cost o) 0 ≡ price t o * misread t before o
misread_cost t before o inside =
    ⊎_elim
    (λ held. grind (arith, (closest t.meaning o).exact, misread_taken t before o inside held))
    (λ free. grind (arith, misread_free t before o inside free))
    (cases_Bool (taken (lines t before) o))

pub spent_true : (t : Terms) (before : List Call) → spent (lines t before) ≡ sum_below t.meaning.outputs (λ o. price t o * misread t before o)
spent_true t before =
    (calls_keep t before).sum
    ∙ sum_cong t.meaning.outputs (λ o. cond (taken (lines t before) o) ((account t).cost o) 0) (λ o. price t o * misread t before o) (misread_cost t before)
