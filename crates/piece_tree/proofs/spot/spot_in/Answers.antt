use Rattle.std.proofs.Common.{◌≡◌, ℕ, ◌+◌, ◌<◌, ◌≤◌, length, List, [], take, get_or, sym, ap, subst, ◌∙◌, arith, sum_by}
use Rattle.std.proofs.lemmas.List.Sums.{sum_by-take-le}
use Rattle.piece_tree.specs.declared.piece.Measure.TheVariants.{Parts, Characters}
use Rattle.piece_tree.specs.Nodes.{AreShort, pieces_of}
use Rattle.piece_tree.specs.Spots.{IsReached, measured}
use Rattle.piece_tree.proofs.Lists.{length_more, length_within}
use Rattle.piece_tree.proofs.Shorts.{node_short, read_at, sums_more, sums_within}
use Rattle.piece_tree.proofs.Reaching.{reached_in, measured_is}
use Rattle.piece_tree.proofs.spot.spot_in.Goals as goal

pub overflow_add-more_parts : goal.overflow_add-more_parts
overflow_add-more_parts g c =
    let ns : List (List g.row.T.Denot) = c.args.nodes.now in
    let k : ℕ = c.loop-node.node-index in
    let lt : k < length ns = c.loop-node-test.true in
    let same : c.pieces-pieces.result.now ≡ get_or ns k [] = read_at ns k c.node-item.result c.pieces-pieces.result.now lt c.pieces-pieces.ensures c.node-item.is in
    let is : c.node-item.result ≡ get_or ns k [] = sym c.pieces-pieces.ensures ∙ same in
    let in_parts : c.loop-node.parts + c.size.result ≡ sum_by (g.T.Piece.size Parts) (pieces_of (take (k + 1) ns)) =
    ap (λ (n : ℕ). n + c.size.result) c.loop-node.invariant.parts
    ∙ ap (λ (n : ℕ). sum_by (g.T.Piece.size Parts) (pieces_of (take k ns)) + n) (c.size.ensures ∙ ap (λ (l : List g.row.T.Denot). sum_by (g.T.Piece.size Parts) l) is)
    ∙ sym (sums_more (g.T.Piece.size Parts) ns k lt) in
    omega (arith, c.requires.short.parts, sums_within (g.T.Piece.size Parts) ns (k + 1))

pub overflow_add-more_characters : goal.overflow_add-more_characters
overflow_add-more_characters g c =
    let ns : List (List g.row.T.Denot) = c.args.nodes.now in
    let k : ℕ = c.loop-node.node-index in
    let lt : k < length ns = c.loop-node-test.true in
    let same : c.pieces-pieces.result.now ≡ get_or ns k [] = read_at ns k c.node-item.result c.pieces-pieces.result.now lt c.pieces-pieces.ensures c.node-item.is in
    let is : c.node-item.result ≡ get_or ns k [] = sym c.pieces-pieces.ensures ∙ same in
    let in_characters : c.loop-node.characters + c.size-in-loop-node.result ≡ sum_by (g.T.Piece.size Characters) (pieces_of (take (k + 1) ns)) =
    ap (λ (n : ℕ). n + c.size-in-loop-node.result) c.loop-node.invariant.characters
    ∙ ap (λ (n : ℕ). sum_by (g.T.Piece.size Characters) (pieces_of (take k ns)) + n) (c.size-in-loop-node.ensures ∙ ap (λ (l : List g.row.T.Denot). sum_by (g.T.Piece.size Characters) l) is)
    ∙ sym (sums_more (g.T.Piece.size Characters) ns k lt) in
    omega (arith, c.requires.short.characters, sums_within (g.T.Piece.size Characters) ns (k + 1))

pub spot_among-spot-requires : goal.spot_among-spot-requires
spot_among-spot-requires g c =
    let ns : List (List g.row.T.Denot) = c.args.nodes.now in
    let k : ℕ = c.loop-node.node-index in
    let lt : k < length ns = c.loop-node-test.true in
    let same : c.pieces-pieces.result.now ≡ get_or ns k [] = read_at ns k c.node-item.result c.pieces-pieces.result.now lt c.pieces-pieces.ensures c.node-item.is in
    let is : c.node-item.result ≡ get_or ns k [] = sym c.pieces-pieces.ensures ∙ same in
    subst (λ (l : List g.row.T.Denot). AreShort g.T.Piece.size l) (sym same) (node_short g.T.Piece.size ns k lt c.requires.short)

pub overflow_add-result : goal.overflow_add-result
overflow_add-result g c =
    let ns : List (List g.row.T.Denot) = c.args.nodes.now in
    let k : ℕ = c.loop-node.node-index in
    let lt : k < length ns = c.loop-node-test.true in
    let same : c.pieces-pieces.result.now ≡ get_or ns k [] = read_at ns k c.node-item.result c.pieces-pieces.result.now lt c.pieces-pieces.ensures c.node-item.is in
    let is : c.node-item.result ≡ get_or ns k [] = sym c.pieces-pieces.ensures ∙ same in
    let r : IsReached g.T.Piece.size c.args.measure (get_or ns k []) c.saturating_sub-within.result c.spot_among-spot.result =
    subst (λ (l : List g.row.T.Denot). IsReached g.T.Piece.size c.args.measure l c.saturating_sub-within.result c.spot_among-spot.result) same c.spot_among-spot.ensures in
    omega (arith, c.requires.few, c.loop-node.invariant.counted, r.within, length_more ns k lt, length_within ns (k + 1))

pub overflow_add-result-then-measured-place : goal.overflow_add-result-then-measured-place
overflow_add-result-then-measured-place g c =
    let ns : List (List g.row.T.Denot) = c.args.nodes.now in
    let k : ℕ = c.loop-node.node-index in
    let lt : k < length ns = c.loop-node-test.true in
    let same : c.pieces-pieces.result.now ≡ get_or ns k [] = read_at ns k c.node-item.result c.pieces-pieces.result.now lt c.pieces-pieces.ensures c.node-item.is in
    let is : c.node-item.result ≡ get_or ns k [] = sym c.pieces-pieces.ensures ∙ same in
    let r : IsReached g.T.Piece.size c.args.measure (get_or ns k []) c.saturating_sub-within.result c.spot_among-spot.result =
    subst (λ (l : List g.row.T.Denot). IsReached g.T.Piece.size c.args.measure l c.saturating_sub-within.result c.spot_among-spot.result) same c.spot_among-spot.ensures in
    let within : sum_by (g.T.Piece.size Parts) (take c.spot_among-spot.result.index (get_or ns k [])) ≤ sum_by (g.T.Piece.size Parts) (get_or ns k []) = sum_by-take-le (g.T.Piece.size Parts) (get_or ns k []) c.spot_among-spot.result.index in
    omega (arith, c.requires.short.parts, c.loop-node.invariant.parts, r.parts, sums_more (g.T.Piece.size Parts) ns k lt, sums_within (g.T.Piece.size Parts) ns (k + 1))

pub overflow_add-result-then-measured-place-2 : goal.overflow_add-result-then-measured-place-2
overflow_add-result-then-measured-place-2 g c =
    let ns : List (List g.row.T.Denot) = c.args.nodes.now in
    let k : ℕ = c.loop-node.node-index in
    let lt : k < length ns = c.loop-node-test.true in
    let same : c.pieces-pieces.result.now ≡ get_or ns k [] = read_at ns k c.node-item.result c.pieces-pieces.result.now lt c.pieces-pieces.ensures c.node-item.is in
    let is : c.node-item.result ≡ get_or ns k [] = sym c.pieces-pieces.ensures ∙ same in
    let r : IsReached g.T.Piece.size c.args.measure (get_or ns k []) c.saturating_sub-within.result c.spot_among-spot.result =
    subst (λ (l : List g.row.T.Denot). IsReached g.T.Piece.size c.args.measure l c.saturating_sub-within.result c.spot_among-spot.result) same c.spot_among-spot.ensures in
    let within : sum_by (g.T.Piece.size Characters) (take c.spot_among-spot.result.index (get_or ns k [])) ≤ sum_by (g.T.Piece.size Characters) (get_or ns k []) = sum_by-take-le (g.T.Piece.size Characters) (get_or ns k []) c.spot_among-spot.result.index in
    omega (arith, c.requires.short.characters, c.loop-node.invariant.characters, r.characters, sums_more (g.T.Piece.size Characters) ns k lt, sums_within (g.T.Piece.size Characters) ns (k + 1))

pub overflow_add-index : goal.overflow_add-index
overflow_add-index g c =
    let ns : List (List g.row.T.Denot) = c.args.nodes.now in
    let k : ℕ = c.loop-node.node-index in
    let lt : k < length ns = c.loop-node-test.true in
    let same : c.pieces-pieces.result.now ≡ get_or ns k [] = read_at ns k c.node-item.result c.pieces-pieces.result.now lt c.pieces-pieces.ensures c.node-item.is in
    let is : c.node-item.result ≡ get_or ns k [] = sym c.pieces-pieces.ensures ∙ same in
    omega (arith, c.requires.few, c.loop-node.invariant.counted, ap length same, length_more ns k lt, length_within ns (k + 1))

pub returns-then-measured-place : goal.returns-then-measured-place
returns-then-measured-place g c =
    let ns : List (List g.row.T.Denot) = c.args.nodes.now in
    let k : ℕ = c.loop-node.node-index in
    let lt : k < length ns = c.loop-node-test.true in
    let same : c.pieces-pieces.result.now ≡ get_or ns k [] = read_at ns k c.node-item.result c.pieces-pieces.result.now lt c.pieces-pieces.ensures c.node-item.is in
    let is : c.node-item.result ≡ get_or ns k [] = sym c.pieces-pieces.ensures ∙ same in
    let in_parts : c.loop-node.parts + c.size.result ≡ sum_by (g.T.Piece.size Parts) (pieces_of (take (k + 1) ns)) =
    ap (λ (n : ℕ). n + c.size.result) c.loop-node.invariant.parts
    ∙ ap (λ (n : ℕ). sum_by (g.T.Piece.size Parts) (pieces_of (take k ns)) + n) (c.size.ensures ∙ ap (λ (l : List g.row.T.Denot). sum_by (g.T.Piece.size Parts) l) is)
    ∙ sym (sums_more (g.T.Piece.size Parts) ns k lt) in
    let in_characters : c.loop-node.characters + c.size-in-loop-node.result ≡ sum_by (g.T.Piece.size Characters) (pieces_of (take (k + 1) ns)) =
    ap (λ (n : ℕ). n + c.size-in-loop-node.result) c.loop-node.invariant.characters
    ∙ ap (λ (n : ℕ). sum_by (g.T.Piece.size Characters) (pieces_of (take k ns)) + n) (c.size-in-loop-node.ensures ∙ ap (λ (l : List g.row.T.Denot). sum_by (g.T.Piece.size Characters) l) is)
    ∙ sym (sums_more (g.T.Piece.size Characters) ns k lt) in
    let r : IsReached g.T.Piece.size c.args.measure (get_or ns k []) c.saturating_sub-within.result c.spot_among-spot.result =
    subst (λ (l : List g.row.T.Denot). IsReached g.T.Piece.size c.args.measure l c.saturating_sub-within.result c.spot_among-spot.result) same c.spot_among-spot.ensures in
    let before : measured c.args.measure c.loop-node.parts c.loop-node.characters ≡ sum_by (g.T.Piece.size c.args.measure) (pieces_of (take k ns)) =
    measured_is g.T.Piece.size c.args.measure (pieces_of (take k ns)) c.loop-node.parts c.loop-node.characters c.loop-node.invariant.parts c.loop-node.invariant.characters in
    let behind : c.measured.result ≡ sum_by (g.T.Piece.size c.args.measure) (pieces_of (take (k + 1) ns)) =
    c.measured.ensures ∙ measured_is g.T.Piece.size c.args.measure (pieces_of (take (k + 1) ns)) (c.loop-node.parts + c.size.result) (c.loop-node.characters + c.size-in-loop-node.result) in_parts in_characters in
    reached_in g.T.Piece.size c.args.measure ns k c.args.place c.saturating_sub-within.result c.spot_among-spot.result
    (record { index = c.loop-node.index + c.spot_among-spot.result.index; parts = c.loop-node.parts + c.spot_among-spot.result.parts; characters = c.loop-node.characters + c.spot_among-spot.result.characters })
    lt r (omega (arith, c.saturating_sub-within.ensures, c.measured-then-measured-place.ensures)) (omega (arith, c.if-measured-place.true, sums_more (g.T.Piece.size c.args.measure) ns k lt))
    (λ some. c.loop-node.invariant.before (omega (arith, c.loop-node.invariant.counted)))
    (omega (arith, c.loop-node.invariant.counted)) (omega (arith, c.loop-node.invariant.parts)) (omega (arith, c.loop-node.invariant.characters))
