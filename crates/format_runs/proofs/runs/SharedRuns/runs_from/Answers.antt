use Rattle.std.proofs.Common.{◌≡◌, ℕ, ◌-◌, ◌+◌, ◌<◌, Bor, List, [], ◌∷◌, ◌++◌, Some, length, take, drop, get_or, arith, sym, ap, ◌∙◌}
use Rattle.std.specs.List.{slice_get}
use Rattle.std.proofs.lemmas.Bool.{some_since}
use Rattle.std.proofs.lemmas.List.{length-drop}
use Rattle.std.proofs.lemmas.List.Elements.{All-drop}
use Rattle.std.proofs.lemmas.Option.{get_or_from_slice_get}
use Rattle.std.proofs.lemmas.List.Sums.{sum_by-take-le}
use Rattle.piece_tree.specs.Nodes.{pieces_of}
use Rattle.piece_tree.specs.declared.spot.Spot.{Spot}
use Rattle.piece_tree.proofs.Walking.{rest_some}
use Rattle.format_runs.specs.Runs.{Run, character_count}
use Rattle.format_runs.proofs.Pieces.{IsIn, counted_around, index_is_in, sum_characters}
use Rattle.format_runs.proofs.Walking.{first_left, left_from, next_piece, rest_left, start_of}
use Rattle.format_runs.proofs.runs.SharedRuns.runs_from.Goals as goal

pub unwrap-requires : goal.unwrap-requires
unwrap-requires c =
    let ps : List (List Run) = c.self.inside.pieces in
    let spot : Spot = c.spot-spot.result in
    let all : List (List Run) = c.pieces_from-pieces.result in
    let less : c.args.index < length (pieces_of ps) = omega (arith, c.if-index-count.false, c.count.ensures, ap length c.self.view_is) in
    let i : IsIn ps spot.index spot.parts c.args.index = index_is_in ps c.args.index spot less c.spot-spot.ensures in
    some_since c.next.result ((all ≡ []) × (c.next.new.self ≡ [])) (λ (x : Bor (List Run)). all ≡ x.now ∷ c.next.new.self) c.next.ensures.steps
    (λ none. omega (arith, i.inside, length-drop spot.index ps, ap length (sym c.pieces_from-pieces.ensures ∙ none.0)))

pub split_at-requires : goal.split_at-requires
split_at-requires c =
    let ps : List (List Run) = c.self.inside.pieces in
    let spot : Spot = c.spot-spot.result in
    let less : c.args.index < length (pieces_of ps) = omega (arith, c.if-index-count.false, c.count.ensures, ap length c.self.view_is) in
    let i : IsIn ps spot.index spot.parts c.args.index = index_is_in ps c.args.index spot less c.spot-spot.ensures in
    let behind : drop spot.index ps ≡ c.unwrap.result.now ∷ c.next.new.self =
    next_piece ps c.pieces_from-pieces.result c.next.new.self spot.index c.next.result c.unwrap.result c.pieces_from-pieces.ensures c.unwrap.ensures c.next.ensures.steps in
    let is : slice_get ps spot.index ≡ Some c.runs-runs.result.now =
    first_left ps c.next.new.self spot.index c.unwrap.result.now behind ∙ ap (λ (l : List Run). Some l) (sym c.runs-runs.ensures) in
    let own : get_or ps spot.index [] ≡ c.runs-runs.result.now = get_or_from_slice_get ps spot.index c.runs-runs.result.now [] is in
    omega (arith, i.high, i.low, ap length own)

pub characters_of-requires : goal.characters_of-requires
characters_of-requires c =
    let ps : List (List Run) = c.self.inside.pieces in
    let k : ℕ = c.spot-spot.result.index in
    let behind : drop k ps ≡ c.unwrap.result.now ∷ c.next.new.self =
    next_piece ps c.pieces_from-pieces.result c.next.new.self k c.next.result c.unwrap.result c.pieces_from-pieces.ensures c.unwrap.ensures c.next.ensures.steps in
    let is : slice_get ps k ≡ Some c.runs-runs.result.now =
    first_left ps c.next.new.self k c.unwrap.result.now behind ∙ ap (λ (l : List Run). Some l) (sym c.runs-runs.ensures) in
    let own : get_or ps k [] ≡ c.runs-runs.result.now = get_or_from_slice_get ps k c.runs-runs.result.now [] is in
    omega (
      arith,
      c.keeps.ensures.short.characters,
      sum_characters ps,
      counted_around ps k,
      ap character_count own,
      ap character_count c.split_at.ensures.front,
      sum_by-take-le (λ (r : Run). r.characters) c.runs-runs.result.now (c.args.index - c.spot-spot.result.parts),
    )

pub overflow_add-start : goal.overflow_add-start
overflow_add-start c =
    let ps : List (List Run) = c.self.inside.pieces in
    let k : ℕ = c.spot-spot.result.index in
    let behind : drop k ps ≡ c.unwrap.result.now ∷ c.next.new.self =
    next_piece ps c.pieces_from-pieces.result c.next.new.self k c.next.result c.unwrap.result c.pieces_from-pieces.ensures c.unwrap.ensures c.next.ensures.steps in
    let is : slice_get ps k ≡ Some c.runs-runs.result.now =
    first_left ps c.next.new.self k c.unwrap.result.now behind ∙ ap (λ (l : List Run). Some l) (sym c.runs-runs.ensures) in
    let own : get_or ps k [] ≡ c.runs-runs.result.now = get_or_from_slice_get ps k c.runs-runs.result.now [] is in
    omega (
      arith,
      c.keeps.ensures.short.characters,
      sum_characters ps,
      counted_around ps k,
      ap character_count own,
      c.characters_of.ensures,
      ap character_count c.split_at.ensures.front,
      c.spot-spot.ensures.characters ∙ sum_characters (take k ps),
      sum_by-take-le (λ (r : Run). r.characters) c.runs-runs.result.now (c.args.index - c.spot-spot.result.parts),
    )

pub invariant_of-result : goal.invariant_of-result
invariant_of-result c =
    let ps : List (List Run) = c.self.inside.pieces in
    let k : ℕ = c.spot-spot.result.index in
    let behind : drop k ps ≡ c.unwrap.result.now ∷ c.next.new.self =
    next_piece ps c.pieces_from-pieces.result c.next.new.self k c.next.result c.unwrap.result c.pieces_from-pieces.ensures c.unwrap.ensures c.next.ensures.steps in
    rest_some (drop k ps) c.next.new.self c.unwrap.result.now behind
    (All-drop (λ (piece : List Run). 0 < length piece) k ps c.self.invariant.filled)

pub returns-clause-runs : goal.returns-clause-runs
returns-clause-runs c =
    let ps : List (List Run) = c.self.inside.pieces in
    let spot : Spot = c.spot-spot.result in
    let o : ℕ = c.args.index - spot.parts in
    let less : c.args.index < length (pieces_of ps) = omega (arith, c.if-index-count.false, c.count.ensures, ap length c.self.view_is) in
    let i : IsIn ps spot.index spot.parts c.args.index = index_is_in ps c.args.index spot less c.spot-spot.ensures in
    let behind : drop spot.index ps ≡ c.unwrap.result.now ∷ c.next.new.self =
    next_piece ps c.pieces_from-pieces.result c.next.new.self spot.index c.next.result c.unwrap.result c.pieces_from-pieces.ensures c.unwrap.ensures c.next.ensures.steps in
    let is : slice_get ps spot.index ≡ Some c.runs-runs.result.now =
    first_left ps c.next.new.self spot.index c.unwrap.result.now behind ∙ ap (λ (l : List Run). Some l) (sym c.runs-runs.ensures) in
    ap (λ (l : List Run). l ++ pieces_of c.next.new.self) c.split_at.ensures.back
    ∙ ap (λ (l : List (List Run)). drop o c.runs-runs.result.now ++ pieces_of l) (sym (rest_left ps c.next.new.self spot.index c.unwrap.result.now behind))
    ∙ left_from ps spot.index spot.parts c.args.index c.runs-runs.result.now i is
    ∙ ap (drop c.args.index) c.self.view_is

pub returns-clause-start : goal.returns-clause-start
returns-clause-start c =
    let ps : List (List Run) = c.self.inside.pieces in
    let spot : Spot = c.spot-spot.result in
    let less : c.args.index < length (pieces_of ps) = omega (arith, c.if-index-count.false, c.count.ensures, ap length c.self.view_is) in
    let i : IsIn ps spot.index spot.parts c.args.index = index_is_in ps c.args.index spot less c.spot-spot.ensures in
    let behind : drop spot.index ps ≡ c.unwrap.result.now ∷ c.next.new.self =
    next_piece ps c.pieces_from-pieces.result c.next.new.self spot.index c.next.result c.unwrap.result c.pieces_from-pieces.ensures c.unwrap.ensures c.next.ensures.steps in
    let is : slice_get ps spot.index ≡ Some c.runs-runs.result.now =
    first_left ps c.next.new.self spot.index c.unwrap.result.now behind ∙ ap (λ (l : List Run). Some l) (sym c.runs-runs.ensures) in
    start_of ps spot.index spot.parts c.args.index spot.characters c.characters_of.result c.runs-runs.result.now i is
    (c.spot-spot.ensures.characters ∙ sum_characters (take spot.index ps)) (c.characters_of.ensures ∙ ap character_count c.split_at.ensures.front)
    ∙ ap (λ (l : List Run). character_count (take c.args.index l)) c.self.view_is
