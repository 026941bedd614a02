use Rattle.std.proofs.Common.{◌≡◌, ◌/◌, ◌%◌, ◌*◌, length, sym, ◌∙◌, arith, rules}
use Rattle.std.proofs.lemmas.Bool.{eqb-true}
use Rattle.burn.proofs.Sums.{chunks_whole}
use Rattle.burn.proofs.Loads.{counted_by}
use Rattle.burn.proofs.block.Blocks.of.Goals as goal

pub invariant_of-result-clause-whole : goal.invariant_of-result-clause-whole
invariant_of-result-clause-whole c =
    let z : length c.args.file.now % 512 ≡ 0 = sym c.as_chunks.ensures.back_len ∙ eqb-true _ _ (sym c.is_empty.ensures ∙ c.if-is_empty.true) in
    (chunks_whole c.args.file.now c.as_chunks.result.0.now z c.as_chunks.ensures.front c.as_chunks.ensures.front_len).1

pub returns-then-contains : goal.returns-then-contains
returns-then-contains c =
    let z : length c.args.file.now % 512 ≡ 0 = sym c.as_chunks.ensures.back_len ∙ eqb-true _ _ (sym c.is_empty.ensures ∙ c.if-is_empty.true) in
    let l : length c.as_chunks.result.0.now ≡ length c.args.file.now / 512 = c.as_chunks.ensures.front_len in
    let w : length c.args.file.now ≡ length c.as_chunks.result.0.now * 512 = omega arith in
    (counted_by c.args.file.now (length c.as_chunks.result.0.now) w (search rules) (search rules), (chunks_whole c.args.file.now c.as_chunks.result.0.now z c.as_chunks.ensures.front l).0)
