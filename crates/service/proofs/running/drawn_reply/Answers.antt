use Rattle.std.proofs.Common.{◌≡◌, min, length, take, ap, ◌∙◌, arith, rules}
use Rattle.std.proofs.lemmas.List.{take_at}
use Rattle.rules.specs.Rules.{Said.draws}
use Rattle.service.specs.Holds.{terms_of, lines_of}
use Rattle.service.proofs.Rooms.{same_room}
use Rattle.service.proofs.running.drawn_reply.Goals as goal

pub returns-in-Ok : goal.returns-in-Ok
returns-in-Ok g c =
    let s = c.args.service.now in
    let n : length c.deref_mut.result.now ≡ min c.args.room 136 = omega (arith, c.deref_mut.ensures.len, c.in_ok-nodes.ensures.len, c.min.ensures) in
    let l : length c.draw.new.buffer ≡ c.in_ok-nodes.nodes.len = search rules in
    ap (λ xs. draws c.in-Ok.drawn.root xs) (c.truncate.ensures.items ∙ ap (take c.in-Ok.drawn.count) (take_at c.draw.new.buffer _ c.in_ok-nodes.nodes.len l))
    ∙ (c.in-Ok.ensures.answer ∙ same_room (terms_of s) (lines_of s) c.args.output _ c.args.room (g.met.D.Design.sound s.design).few_inputs n)

pub returns-in-Err : goal.returns-in-Err
returns-in-Err g c =
    let s = c.args.service.now in
    let n : length c.deref_mut.result.now ≡ min c.args.room 136 = omega (arith, c.deref_mut.ensures.len, c.in_ok-nodes.ensures.len, c.min.ensures) in
    c.in-Err.ensures.answer ∙ same_room (terms_of s) (lines_of s) c.args.output _ c.args.room (g.met.D.Design.sound s.design).few_inputs n
