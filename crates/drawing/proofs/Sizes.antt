-- How many nodes a drawing has: a piece adds at most one, and level j has j + 1 pieces, so there are at most 136 at 16 inputs.
use Rattle.std.proofs.Common.{◌≡◌, ℕ, zero, suc, ◌+◌, ◌-◌, ◌≤◌, eqb, length, Some, None, Option, arith}
use Rattle.std.proofs.lemmas.List.{length_push}
use Rattle.std.proofs.lemmas.Bool.{cond_both}
use Rattle.diagram.specs.declared.node.Node.{Node}
use Rattle.drawing.specs.Pieces.{Draft, piece, all_ones, settled, node_of, place_of, with_piece, with_pieces, with_levels, drawn}

-- at most one node more
abbrev AddsOne : Draft → Draft → Type 0
AddsOne before after = length after.nodes ≤ length before.nodes + 1

settled_adds : (k : ℕ) (node : Node) (place : Option ℕ) (d : Draft) → AddsOne d (settled k node place d)
settled_adds k node (Some p) d = omega arith
settled_adds k node None d = omega (arith, length_push d.nodes node)

piece_adds : (inputs bits level k : ℕ) (d : Draft) → AddsOne d (with_piece inputs bits level k d)
piece_adds inputs bits level k d =
    cond_both (eqb (piece inputs bits level k) 0) _ _ (λ x. AddsOne d x) (λ _. omega arith)
    (λ _. cond_both (eqb (piece inputs bits level k) (all_ones inputs level)) _ _ (λ x. AddsOne d x) (λ _. omega arith) (λ _. settled_adds k (node_of level k d) (place_of (node_of level k d) d.nodes) d))

pub pieces_add : (inputs bits level k : ℕ) (d : Draft) → length (with_pieces inputs bits level k d).nodes ≤ length d.nodes + k
unfolding with_pieces
pieces_add inputs bits level zero d = omega arith
pieces_add inputs bits level (suc k) d = let i = pieces_add inputs bits level k d in let p = piece_adds inputs bits level k (with_pieces inputs bits level k d) in omega arith

-- the pieces of the first so many levels
unfoldable pub tri : ℕ → ℕ
tri zero = 0
tri (suc m) = tri m + suc m

tri_ge : (n : ℕ) → n ≤ tri n
unfolding tri
tri_ge zero = omega arith
tri_ge (suc m) = omega arith

-- there are 136 of 16 levels, and of d levels fewer no more
tri_under : (d n : ℕ) → n + d ≡ 16 → tri n ≤ 136
unfolding tri
tri_under zero n e = let all : n ≡ 16 = omega arith in rw all (omega arith)
tri_under (suc d) n e = let more = tri_under d (suc n) (omega arith) in omega arith

pub tri_fits : (n : ℕ) → n ≤ 16 → tri n ≤ 136
tri_fits n few = tri_under (16 - n) n (omega arith)

levels_add : (inputs bits done : ℕ) → done ≤ inputs → length (with_levels inputs bits done).nodes + tri (inputs - done) ≤ tri inputs
unfolding with_levels tri
levels_add inputs bits zero h = let e : inputs - zero ≡ inputs = omega arith in rw e (omega arith)
levels_add inputs bits (suc done) h =
    let left = inputs - suc done in
    let e : inputs - done ≡ suc left = omega arith in
    let i = rw e at (levels_add inputs bits done (omega arith)) in
    let p = pieces_add inputs bits left (left + 1) (with_levels inputs bits done) in omega arith

-- of 16 inputs and fewer, before a level is drawn there is room for all its pieces
pub room_left : (inputs bits level : ℕ) → inputs ≤ 16 → level ≤ inputs → length (with_levels inputs bits (inputs - level)).nodes + level ≤ 136
room_left inputs bits level few h =
    let e : inputs - (inputs - level) ≡ level = omega arith in
    let a = rw e at (levels_add inputs bits (inputs - level) (omega arith)) in
    omega (arith, tri_fits inputs few, tri_ge level)

-- of 16 inputs and fewer, at most 136
pub few_nodes : (inputs bits : ℕ) → inputs ≤ 16 → length (drawn inputs bits).nodes ≤ 136
few_nodes inputs bits few = let e : inputs - 0 ≡ inputs = omega arith in let r = rw e at (room_left inputs bits 0 few (omega arith)) in omega arith
