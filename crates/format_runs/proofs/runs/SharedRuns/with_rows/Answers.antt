use Rattle.std.proofs.Common.{◌≡◌, ℕ, ◌-◌, ◌+◌, ◌≤◌, ◌++◌, List, [], get_or, length, take, drop, arith, sym, ap, subst, ◌∙◌}
use Rattle.std.specs.List.{slice_range}
use Rattle.std.proofs.lemmas.Option.{IfSome_then, same_Some}
use Rattle.std.proofs.lemmas.Result.{IfOk-weaker}
use Rattle.mark_anchors.specs.Formatting.{Format}
use Rattle.piece_tree.specs.Nodes.{pieces_of}
use Rattle.span_flatten.specs.Edges.{KeepEdges}
use Rattle.piece_tree.specs.declared.spot.Spot.{Spot}
use Rattle.format_runs.specs.Runs.{AreAlike, AreApart, AreMaximal, IsBetween, IsInside, Run, character_count, formats_in, formats_of}
use Rattle.format_runs.proofs.Formats.{count_added, count_rows, formats_rows, length_formats, length_rows, length_runs}
use Rattle.format_runs.proofs.Slices.{short_part, slice_from_start, slice_to_end}
use Rattle.format_runs.proofs.Pieces.{counted_around, piece_maximal, piece_small, sum_characters}
use Rattle.format_runs.proofs.Edges.{back_alike, back_apart, first_row, front_alike, front_apart, last_row}
use Rattle.format_runs.proofs.Putting.{drop_least}
use Rattle.format_runs.proofs.Windows.{IsAt, IsMade, first_is_at, last_is_at, window_count, window_formats, window_made, window_maximal, window_order}
use Rattle.format_runs.proofs.runs.SharedRuns.with_rows.Goals as goal

-- ---- the formats that are known
pub runs_of-requires-clause-begin : goal.runs_of-requires-clause-begin
runs_of-requires-clause-begin c =
    IfSome_then c.run_behind.result c.run_behind.ensures
    (λ run at row others is.
    let known = c.requires.edges.front at.0 in
    same_Some run.now.format known.1.0 (sym at.1 ∙ known.1.1) ∙ first_row c.args.rows.now others row known.1.0 c.requires.maximal is known.1.2)

pub runs_of-requires-clause-end : goal.runs_of-requires-clause-end
runs_of-requires-clause-end c =
    IfSome_then c.run_before.result c.run_before.ensures
    (λ run at others row is.
    let known = c.requires.edges.back (omega (arith, at.0, length_formats c.args.self.now)) in
    same_Some run.now.format known.1.0 (sym at.1 ∙ known.1.1) ∙ last_row c.args.rows.now others row known.1.0 c.requires.maximal is known.1.2)

-- ---- where the window begins
pub is_inside-cuts_front-requires-clause-short : goal.is_inside-cuts_front-requires-clause-short
is_inside-cuts_front-requires-clause-short c =
    omega (
      arith,
      c.keeps.ensures.short.characters,
      sum_characters c.self.inside.pieces,
      counted_around c.self.inside.pieces c.spot-first.result.index,
      ap character_count c.runs_at-front.ensures,
    )

pub is_inside-cuts_front-requires-clause-within : goal.is_inside-cuts_front-requires-clause-within
is_inside-cuts_front-requires-clause-within c =
    let ps : List (List Run) = c.self.inside.pieces in
    let first : Spot = c.spot-first.result in
    let within : c.args.from ≤ character_count (pieces_of ps) = omega (arith, c.requires.order, c.requires.within, ap character_count c.self.view_is) in
    let at : IsAt ps first.index first.characters c.args.from = first_is_at ps c.args.from first within c.spot-first.ensures in
    omega (arith, at.reached, ap character_count c.runs_at-front.ensures)

pub add_runs-requires-clause-alike : goal.add_runs-requires-clause-alike
add_runs-requires-clause-alike c =
    let ps : List (List Run) = c.self.inside.pieces in
    let first : Spot = c.spot-first.result in
    let from : ℕ = c.args.from in
    let front : List Run = c.runs_at-front.result.now in
    let rows : List Format = formats_in c.args.rows.now in
    let spelt : formats_of c.in_ok-fresh.fresh.items ≡ rows =
    ap formats_of c.in_ok-fresh.ensures.runs ∙ formats_rows c.args.rows.now in
    let within : from ≤ character_count (pieces_of ps) = omega (arith, c.requires.order, c.requires.within, ap character_count c.self.view_is) in
    let at : IsAt ps first.index first.characters from = first_is_at ps from first within c.spot-first.ensures in
    let keep : KeepEdges (formats_of (pieces_of ps)) from c.args.to rows =
    subst (λ (l : List Run). KeepEdges (formats_of l) from c.args.to rows) (sym c.self.view_is) c.requires.edges in
    let head : formats_of c.in_ok-runs.runs.items ≡ take (from - first.characters) (formats_of (get_or ps first.index [])) =
    c.in_ok-runs.ensures.formats ∙ slice_from_start (formats_of front) (from - first.characters)
    ∙ ap (λ (l : List Run). take (from - first.characters) (formats_of l)) c.runs_at-front.ensures in
    λ join.
    let inside : IsInside (get_or ps first.index []) (from - first.characters) =
    subst (λ (l : List Run). IsInside l (from - first.characters)) c.runs_at-front.ensures (c.is_inside-cuts_front.ensures.inside join) in
    subst (λ (l : List Format). AreAlike (formats_of c.in_ok-runs.runs.items) l) (sym spelt)
    (front_alike ps from c.args.to rows keep first.index first.characters (formats_of c.in_ok-runs.runs.items) at head inside)

pub add_runs-requires-clause-apart : goal.add_runs-requires-clause-apart
add_runs-requires-clause-apart c =
    let ps : List (List Run) = c.self.inside.pieces in
    let first : Spot = c.spot-first.result in
    let from : ℕ = c.args.from in
    let front : List Run = c.runs_at-front.result.now in
    let rows : List Format = formats_in c.args.rows.now in
    let spelt : formats_of c.in_ok-fresh.fresh.items ≡ rows =
    ap formats_of c.in_ok-fresh.ensures.runs ∙ formats_rows c.args.rows.now in
    let within : from ≤ character_count (pieces_of ps) = omega (arith, c.requires.order, c.requires.within, ap character_count c.self.view_is) in
    let at : IsAt ps first.index first.characters from = first_is_at ps from first within c.spot-first.ensures in
    let keep : KeepEdges (formats_of (pieces_of ps)) from c.args.to rows =
    subst (λ (l : List Run). KeepEdges (formats_of l) from c.args.to rows) (sym c.self.view_is) c.requires.edges in
    let head : formats_of c.in_ok-runs.runs.items ≡ take (from - first.characters) (formats_of (get_or ps first.index [])) =
    c.in_ok-runs.ensures.formats ∙ slice_from_start (formats_of front) (from - first.characters)
    ∙ ap (λ (l : List Run). take (from - first.characters) (formats_of l)) c.runs_at-front.ensures in
    λ apart.
    let between : IsBetween (get_or ps first.index []) (from - first.characters) =
    subst (λ (l : List Run). IsBetween l (from - first.characters)) c.runs_at-front.ensures (c.is_inside-cuts_front.ensures.between apart) in
    subst (λ (l : List Format). AreApart (formats_of c.in_ok-runs.runs.items) l) (sym spelt)
    (front_apart ps from c.args.to rows keep first.index first.characters (formats_of c.in_ok-runs.runs.items) c.self.invariant.maximal at head between)

-- ---- where it ends
pub is_inside-cuts_back-requires-clause-short : goal.is_inside-cuts_back-requires-clause-short
is_inside-cuts_back-requires-clause-short c =
    omega (
      arith,
      c.keeps.ensures.short.characters,
      sum_characters c.self.inside.pieces,
      counted_around c.self.inside.pieces c.spot-last.result.index,
      ap character_count c.runs_at-back.ensures,
    )

pub is_inside-cuts_back-requires-clause-within : goal.is_inside-cuts_back-requires-clause-within
is_inside-cuts_back-requires-clause-within c =
    let ps : List (List Run) = c.self.inside.pieces in
    let last : Spot = c.spot-last.result in
    let within : c.args.to ≤ character_count (pieces_of ps) = omega (arith, c.requires.within, ap character_count c.self.view_is) in
    let at : IsAt ps last.index last.characters c.args.to = last_is_at ps c.args.to last within c.spot-last.ensures in
    omega (arith, at.reached, ap character_count c.runs_at-back.ensures)

pub add_runs-requires-2-clause-alike : goal.add_runs-requires-2-clause-alike
add_runs-requires-2-clause-alike c =
    let ps : List (List Run) = c.self.inside.pieces in
    let last : Spot = c.spot-last.result in
    let to : ℕ = c.args.to in
    let rows : List Format = formats_in c.args.rows.now in
    let spelt : formats_of c.in_ok-fresh.fresh.items ≡ rows =
    ap formats_of c.in_ok-fresh.ensures.runs ∙ formats_rows c.args.rows.now in
    let joined : formats_of c.add_runs.new.runs.items ≡ formats_of c.in_ok-runs.runs.items ++ rows =
    c.in_ok-add_runs.ensures.formats ∙ ap (λ (l : List Format). formats_of c.in_ok-runs.runs.items ++ l) spelt in
    let own : List Format = formats_of (get_or ps last.index []) in
    let within : to ≤ character_count (pieces_of ps) = omega (arith, c.requires.within, ap character_count c.self.view_is) in
    let at : IsAt ps last.index last.characters to = last_is_at ps to last within c.spot-last.ensures in
    let keep : KeepEdges (formats_of (pieces_of ps)) c.args.from to rows =
    subst (λ (l : List Run). KeepEdges (formats_of l) c.args.from to rows) (sym c.self.view_is) c.requires.edges in
    let long : length own ≤ c.character_count.result =
    omega (arith, length_formats (get_or ps last.index []), counted_around ps last.index, c.character_count.ensures, ap character_count c.self.view_is) in
    let rest : formats_of c.in_ok-behind.behind.items ≡ drop (to - last.characters) own =
    c.in_ok-behind.ensures.formats
    ∙ ap (λ (l : List Run). slice_range (formats_of l) (to - last.characters) c.character_count.result) c.runs_at-back.ensures
    ∙ slice_to_end own (to - last.characters) c.character_count.result long in
    λ join.
    let inside : IsInside (get_or ps last.index []) (to - last.characters) =
    subst (λ (l : List Run). IsInside l (to - last.characters)) c.runs_at-back.ensures (c.is_inside-cuts_back.ensures.inside join) in
    back_alike ps c.args.from to rows keep last.index last.characters (formats_of c.in_ok-runs.runs.items) (formats_of c.add_runs.new.runs.items) (formats_of c.in_ok-behind.behind.items)
    at joined rest inside

pub add_runs-requires-2-clause-apart : goal.add_runs-requires-2-clause-apart
add_runs-requires-2-clause-apart c =
    let ps : List (List Run) = c.self.inside.pieces in
    let last : Spot = c.spot-last.result in
    let to : ℕ = c.args.to in
    let rows : List Format = formats_in c.args.rows.now in
    let spelt : formats_of c.in_ok-fresh.fresh.items ≡ rows =
    ap formats_of c.in_ok-fresh.ensures.runs ∙ formats_rows c.args.rows.now in
    let joined : formats_of c.add_runs.new.runs.items ≡ formats_of c.in_ok-runs.runs.items ++ rows =
    c.in_ok-add_runs.ensures.formats ∙ ap (λ (l : List Format). formats_of c.in_ok-runs.runs.items ++ l) spelt in
    let own : List Format = formats_of (get_or ps last.index []) in
    let within : to ≤ character_count (pieces_of ps) = omega (arith, c.requires.within, ap character_count c.self.view_is) in
    let at : IsAt ps last.index last.characters to = last_is_at ps to last within c.spot-last.ensures in
    let keep : KeepEdges (formats_of (pieces_of ps)) c.args.from to rows =
    subst (λ (l : List Run). KeepEdges (formats_of l) c.args.from to rows) (sym c.self.view_is) c.requires.edges in
    let long : length own ≤ c.character_count.result =
    omega (arith, length_formats (get_or ps last.index []), counted_around ps last.index, c.character_count.ensures, ap character_count c.self.view_is) in
    let rest : formats_of c.in_ok-behind.behind.items ≡ drop (to - last.characters) own =
    c.in_ok-behind.ensures.formats
    ∙ ap (λ (l : List Run). slice_range (formats_of l) (to - last.characters) c.character_count.result) c.runs_at-back.ensures
    ∙ slice_to_end own (to - last.characters) c.character_count.result long in
    λ apart.
    let between : IsBetween (get_or ps last.index []) (to - last.characters) =
    subst (λ (l : List Run). IsBetween l (to - last.characters)) c.runs_at-back.ensures (c.is_inside-cuts_back.ensures.between apart) in
    back_apart ps c.args.from to rows keep last.index last.characters (formats_of c.in_ok-runs.runs.items) (formats_of c.add_runs.new.runs.items) (formats_of c.in_ok-behind.behind.items)
    c.self.invariant.maximal at joined rest between

-- ---- the calls
pub between-requires-clause-maximal : goal.between-requires-clause-maximal
between-requires-clause-maximal c =
    subst AreMaximal (sym c.runs_at-front.ensures) (piece_maximal c.self.inside.pieces c.spot-first.result.index c.self.invariant.maximal)

pub between-requires-2-clause-maximal : goal.between-requires-2-clause-maximal
between-requires-2-clause-maximal c =
    subst AreMaximal (sym c.runs_at-back.ensures) (piece_maximal c.self.inside.pieces c.spot-last.result.index c.self.invariant.maximal)

pub add_runs-requires-clause-maximal_more : goal.add_runs-requires-clause-maximal_more
add_runs-requires-clause-maximal_more c = subst AreMaximal (sym c.in_ok-fresh.ensures.runs) c.requires.maximal

pub add_runs-requires-clause-few : goal.add_runs-requires-clause-few
add_runs-requires-clause-few c =
    omega (
      arith,
      c.requires.short,
      short_part c.runs_at-front.result.now c.in_ok-runs.runs.items 0 (c.args.from - c.spot-first.result.characters) c.in_ok-runs.ensures.formats,
      ap character_count c.in_ok-fresh.ensures.runs,
      count_rows c.args.rows.now,
      ap character_count c.runs_at-front.ensures,
      counted_around c.self.inside.pieces c.spot-first.result.index,
      ap character_count c.self.view_is,
    )

pub add_runs-requires-2-clause-few : goal.add_runs-requires-2-clause-few
add_runs-requires-2-clause-few c =
    let rows : List Format = formats_in c.args.rows.now in
    let spelt : formats_of c.in_ok-fresh.fresh.items ≡ rows =
    ap formats_of c.in_ok-fresh.ensures.runs ∙ formats_rows c.args.rows.now in
    let joined : formats_of c.add_runs.new.runs.items ≡ formats_of c.in_ok-runs.runs.items ++ rows =
    c.in_ok-add_runs.ensures.formats ∙ ap (λ (l : List Format). formats_of c.in_ok-runs.runs.items ++ l) spelt in
    omega (
      arith,
      c.requires.short,
      count_added c.in_ok-runs.runs.items c.add_runs.new.runs.items c.args.rows.now joined,
      short_part c.runs_at-front.result.now c.in_ok-runs.runs.items 0 (c.args.from - c.spot-first.result.characters) c.in_ok-runs.ensures.formats,
      ap character_count c.runs_at-front.ensures,
      counted_around c.self.inside.pieces c.spot-first.result.index,
      short_part c.runs_at-back.result.now c.in_ok-behind.behind.items (c.args.to - c.spot-last.result.characters) c.character_count.result c.in_ok-behind.ensures.formats,
      ap character_count c.runs_at-back.ensures,
      counted_around c.self.inside.pieces c.spot-last.result.index,
      ap character_count c.self.view_is,
    )

pub put-requires-clause-order : goal.put-requires-clause-order
put-requires-clause-order c =
    let ps : List (List Run) = c.self.inside.pieces in
    let first : Spot = c.spot-first.result in
    let last : Spot = c.spot-last.result in
    let from : ℕ = c.args.from in
    let to : ℕ = c.args.to in
    let rows : List Format = formats_in c.args.rows.now in
    let spelt : formats_of c.in_ok-fresh.fresh.items ≡ rows =
    ap formats_of c.in_ok-fresh.ensures.runs ∙ formats_rows c.args.rows.now in
    let joined : formats_of c.add_runs.new.runs.items ≡ formats_of c.in_ok-runs.runs.items ++ rows =
    c.in_ok-add_runs.ensures.formats ∙ ap (λ (l : List Format). formats_of c.in_ok-runs.runs.items ++ l) spelt in
    let whole : List Run = c.add_runs-2.new.runs.items in
    let within : to ≤ character_count (pieces_of ps) = omega (arith, c.requires.within, ap character_count c.self.view_is) in
    let size : c.character_count.result ≡ character_count (pieces_of ps) = c.character_count.ensures ∙ sym (ap character_count c.self.view_is) in
    let behind : formats_of c.in_ok-behind.behind.items ≡ slice_range (formats_of c.runs_at-back.result.now) (to - last.characters) (character_count (pieces_of ps)) =
    c.in_ok-behind.ensures.formats
    ∙ ap (λ n. slice_range (formats_of c.runs_at-back.result.now) (to - last.characters) n) size in
    let m : IsMade ps from to first.index first.characters last.index last.characters rows whole =
    window_made ps from to first last rows c.runs_at-front.result.now c.runs_at-back.result.now c.in_ok-runs.runs.items c.add_runs.new.runs.items c.in_ok-behind.behind.items whole
    c.self.invariant.maximal c.requires.order within c.spot-first.ensures c.spot-last.ensures c.runs_at-front.ensures c.runs_at-back.ensures
    c.in_ok-runs.ensures.formats joined behind c.in_ok-add_runs-2.ensures.formats c.in_ok-add_runs-2.ensures.maximal in
    omega (
      arith,
      window_order ps from to first.index first.characters last.index last.characters rows whole m,
      m.inside,
      c.in_ok-end.ensures.order,
      c.min-end.ensures,
      c.len.ensures,
    )

pub put-requires-clause-maximal : goal.put-requires-clause-maximal
put-requires-clause-maximal c =
    let ps : List (List Run) = c.self.inside.pieces in
    let first : Spot = c.spot-first.result in
    let last : Spot = c.spot-last.result in
    let from : ℕ = c.args.from in
    let to : ℕ = c.args.to in
    let rows : List Format = formats_in c.args.rows.now in
    let spelt : formats_of c.in_ok-fresh.fresh.items ≡ rows =
    ap formats_of c.in_ok-fresh.ensures.runs ∙ formats_rows c.args.rows.now in
    let joined : formats_of c.add_runs.new.runs.items ≡ formats_of c.in_ok-runs.runs.items ++ rows =
    c.in_ok-add_runs.ensures.formats ∙ ap (λ (l : List Format). formats_of c.in_ok-runs.runs.items ++ l) spelt in
    let whole : List Run = c.add_runs-2.new.runs.items in
    let within : to ≤ character_count (pieces_of ps) = omega (arith, c.requires.within, ap character_count c.self.view_is) in
    let size : c.character_count.result ≡ character_count (pieces_of ps) = c.character_count.ensures ∙ sym (ap character_count c.self.view_is) in
    let behind : formats_of c.in_ok-behind.behind.items ≡ slice_range (formats_of c.runs_at-back.result.now) (to - last.characters) (character_count (pieces_of ps)) =
    c.in_ok-behind.ensures.formats
    ∙ ap (λ n. slice_range (formats_of c.runs_at-back.result.now) (to - last.characters) n) size in
    let m : IsMade ps from to first.index first.characters last.index last.characters rows whole =
    window_made ps from to first last rows c.runs_at-front.result.now c.runs_at-back.result.now c.in_ok-runs.runs.items c.add_runs.new.runs.items c.in_ok-behind.behind.items whole
    c.self.invariant.maximal c.requires.order within c.spot-first.ensures c.spot-last.ensures c.runs_at-front.ensures c.runs_at-back.ensures
    c.in_ok-runs.ensures.formats joined behind c.in_ok-add_runs-2.ensures.formats c.in_ok-add_runs-2.ensures.maximal in
    let before : List Run = pieces_of (take first.index ps) in
    let same : before ++ (c.fill.new.runs.items ++ pieces_of (drop c.in_ok-end.end ps)) ≡ before ++ (whole ++ pieces_of (drop (last.index + 1) ps)) =
    ap (λ (l : List Run). before ++ l)
    (c.in_ok-end.ensures.same ∙ ap (λ (l : List (List Run)). whole ++ pieces_of l) (drop_least ps (last.index + 1) c.min-end.result (omega (arith, c.min-end.ensures, c.len.ensures)))) in
    subst AreMaximal (sym same) (window_maximal ps from to first.index first.characters last.index last.characters rows whole m)

pub put-requires-clause-short : goal.put-requires-clause-short
put-requires-clause-short c =
    let ps : List (List Run) = c.self.inside.pieces in
    let first : Spot = c.spot-first.result in
    let last : Spot = c.spot-last.result in
    let from : ℕ = c.args.from in
    let to : ℕ = c.args.to in
    let rows : List Format = formats_in c.args.rows.now in
    let spelt : formats_of c.in_ok-fresh.fresh.items ≡ rows =
    ap formats_of c.in_ok-fresh.ensures.runs ∙ formats_rows c.args.rows.now in
    let joined : formats_of c.add_runs.new.runs.items ≡ formats_of c.in_ok-runs.runs.items ++ rows =
    c.in_ok-add_runs.ensures.formats ∙ ap (λ (l : List Format). formats_of c.in_ok-runs.runs.items ++ l) spelt in
    let whole : List Run = c.add_runs-2.new.runs.items in
    let within : to ≤ character_count (pieces_of ps) = omega (arith, c.requires.within, ap character_count c.self.view_is) in
    let size : c.character_count.result ≡ character_count (pieces_of ps) = c.character_count.ensures ∙ sym (ap character_count c.self.view_is) in
    let behind : formats_of c.in_ok-behind.behind.items ≡ slice_range (formats_of c.runs_at-back.result.now) (to - last.characters) (character_count (pieces_of ps)) =
    c.in_ok-behind.ensures.formats
    ∙ ap (λ n. slice_range (formats_of c.runs_at-back.result.now) (to - last.characters) n) size in
    let m : IsMade ps from to first.index first.characters last.index last.characters rows whole =
    window_made ps from to first last rows c.runs_at-front.result.now c.runs_at-back.result.now c.in_ok-runs.runs.items c.add_runs.new.runs.items c.in_ok-behind.behind.items whole
    c.self.invariant.maximal c.requires.order within c.spot-first.ensures c.spot-last.ensures c.runs_at-front.ensures c.runs_at-back.ensures
    c.in_ok-runs.ensures.formats joined behind c.in_ok-add_runs-2.ensures.formats c.in_ok-add_runs-2.ensures.maximal in
    let before : List Run = pieces_of (take first.index ps) in
    let same : before ++ (c.fill.new.runs.items ++ pieces_of (drop c.in_ok-end.end ps)) ≡ before ++ (whole ++ pieces_of (drop (last.index + 1) ps)) =
    ap (λ (l : List Run). before ++ l)
    (c.in_ok-end.ensures.same ∙ ap (λ (l : List (List Run)). whole ++ pieces_of l) (drop_least ps (last.index + 1) c.min-end.result (omega (arith, c.min-end.ensures, c.len.ensures)))) in
    omega (
      arith,
      c.requires.order,
      c.requires.short,
      ap character_count c.self.view_is,
      ap character_count same,
      length_rows c.args.rows.now,
      window_count ps from to first.index first.characters last.index last.characters rows whole m within,
    )

pub returns-clause-formats : goal.returns-clause-formats
returns-clause-formats c =
    let ps : List (List Run) = c.self.inside.pieces in
    let first : Spot = c.spot-first.result in
    let last : Spot = c.spot-last.result in
    let from : ℕ = c.args.from in
    let to : ℕ = c.args.to in
    let rows : List Format = formats_in c.args.rows.now in
    let spelt : formats_of c.in_ok-fresh.fresh.items ≡ rows =
    ap formats_of c.in_ok-fresh.ensures.runs ∙ formats_rows c.args.rows.now in
    let joined : formats_of c.add_runs.new.runs.items ≡ formats_of c.in_ok-runs.runs.items ++ rows =
    c.in_ok-add_runs.ensures.formats ∙ ap (λ (l : List Format). formats_of c.in_ok-runs.runs.items ++ l) spelt in
    let whole : List Run = c.add_runs-2.new.runs.items in
    let within : to ≤ character_count (pieces_of ps) = omega (arith, c.requires.within, ap character_count c.self.view_is) in
    let size : c.character_count.result ≡ character_count (pieces_of ps) = c.character_count.ensures ∙ sym (ap character_count c.self.view_is) in
    let behind : formats_of c.in_ok-behind.behind.items ≡ slice_range (formats_of c.runs_at-back.result.now) (to - last.characters) (character_count (pieces_of ps)) =
    c.in_ok-behind.ensures.formats
    ∙ ap (λ n. slice_range (formats_of c.runs_at-back.result.now) (to - last.characters) n) size in
    let m : IsMade ps from to first.index first.characters last.index last.characters rows whole =
    window_made ps from to first last rows c.runs_at-front.result.now c.runs_at-back.result.now c.in_ok-runs.runs.items c.add_runs.new.runs.items c.in_ok-behind.behind.items whole
    c.self.invariant.maximal c.requires.order within c.spot-first.ensures c.spot-last.ensures c.runs_at-front.ensures c.runs_at-back.ensures
    c.in_ok-runs.ensures.formats joined behind c.in_ok-add_runs-2.ensures.formats c.in_ok-add_runs-2.ensures.maximal in
    let before : List Run = pieces_of (take first.index ps) in
    let same : before ++ (c.fill.new.runs.items ++ pieces_of (drop c.in_ok-end.end ps)) ≡ before ++ (whole ++ pieces_of (drop (last.index + 1) ps)) =
    ap (λ (l : List Run). before ++ l)
    (c.in_ok-end.ensures.same ∙ ap (λ (l : List (List Run)). whole ++ pieces_of l) (drop_least ps (last.index + 1) c.min-end.result (omega (arith, c.min-end.ensures, c.len.ensures)))) in
    IfOk-weaker c.put.result _ _
    (λ _ e. ap formats_of (e ∙ same) ∙ window_formats ps from to first.index first.characters last.index last.characters rows whole m
    ∙ ap (λ (l : List Run). take from (formats_of l) ++ (rows ++ drop to (formats_of l))) c.self.view_is)
    c.put.ensures.runs

-- ---- what is made
pub returns-clause-count : goal.returns-clause-count
returns-clause-count c =
    let few : length c.fill.new.runs.items ≤ length c.args.rows.now + 96 =
    omega (
      arith,
      piece_small c.self.inside.pieces c.spot-first.result.index c.self.invariant.small,
      ap length c.runs_at-front.ensures,
      c.in_ok-runs.ensures.count,
      ap length c.in_ok-fresh.ensures.runs,
      length_runs c.args.rows.now,
      c.in_ok-add_runs.ensures.count,
      piece_small c.self.inside.pieces c.spot-last.result.index c.self.invariant.small,
      ap length c.runs_at-back.ensures,
      c.in_ok-behind.ensures.count,
      c.in_ok-add_runs-2.ensures.count,
      c.in_ok-end.ensures.few,
      ap length c.self.view_is,
    ) in
    IfOk-weaker c.put.result _ _ (λ _ e. omega (arith, e, few, ap length c.self.view_is)) c.put.ensures.count

pub returns-clause-spent : goal.returns-clause-spent
returns-clause-spent c =
    omega (
      arith,
      piece_small c.self.inside.pieces c.spot-first.result.index c.self.invariant.small,
      ap length c.runs_at-front.ensures,
      c.in_ok-runs.ensures.count,
      ap length c.in_ok-fresh.ensures.runs,
      length_runs c.args.rows.now,
      c.in_ok-add_runs.ensures.count,
      piece_small c.self.inside.pieces c.spot-last.result.index c.self.invariant.small,
      ap length c.runs_at-back.ensures,
      c.in_ok-behind.ensures.count,
      c.in_ok-add_runs-2.ensures.count,
      c.in_ok-end.ensures.few,
      ap length c.self.view_is,
      c.runs_of.ensures.spent,
      c.put.ensures.spent,
    )
