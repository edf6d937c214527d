use Rattle.std.proofs.Common.{◌≡◌, ◌<◌, ◌≤◌, List, All, length, sym, subst, ◌∙◌, ap, arith}
use Rattle.piece_tree.specs.Nodes.{pieces_of}
use Rattle.format_runs.specs.Runs.{AreRuns, Run}
use Rattle.format_runs.proofs.Putting.{put_counted, put_few, put_kept, put_pieces, put_rooted, put_short}
use Rattle.format_runs.proofs.runs.put.Goals as goal

pub with_window-requires-clause-few : goal.with_window-requires-clause-few
with_window-requires-clause-few c =
    let made : List (List Run) = c.as_slice.result.now in
    let fresh : All (λ (p : List Run). 0 < length p) made = subst (λ (l : List (List Run)). All (λ (p : List Run). 0 < length p) l) (sym c.as_slice.ensures.value) c.in_ok-made.ensures.filled in
    let small : All (λ (p : List Run). length p ≤ 48) made = subst (λ (l : List (List Run)). All (λ (p : List Run). length p ≤ 48) l) (sym c.as_slice.ensures.value) c.in_ok-made.ensures.small in
    let flat : pieces_of made ≡ c.args.runs.items = ap pieces_of c.as_slice.ensures.value ∙ c.in_ok-made.ensures.flat in
    put_few c.args.pieces.now made c.args.from c.args.to c.args.runs.items c.requires.order c.requires.within c.requires.filled fresh flat c.requires.small small c.requires.maximal c.requires.short

pub with_window-requires-clause-short : goal.with_window-requires-clause-short
with_window-requires-clause-short c =
    let made : List (List Run) = c.as_slice.result.now in
    let fresh : All (λ (p : List Run). 0 < length p) made = subst (λ (l : List (List Run)). All (λ (p : List Run). 0 < length p) l) (sym c.as_slice.ensures.value) c.in_ok-made.ensures.filled in
    let small : All (λ (p : List Run). length p ≤ 48) made = subst (λ (l : List (List Run)). All (λ (p : List Run). length p ≤ 48) l) (sym c.as_slice.ensures.value) c.in_ok-made.ensures.small in
    let flat : pieces_of made ≡ c.args.runs.items = ap pieces_of c.as_slice.ensures.value ∙ c.in_ok-made.ensures.flat in
    put_short c.args.pieces.now made c.args.from c.args.to c.args.runs.items c.requires.order c.requires.within c.requires.filled fresh flat c.requires.small small c.requires.maximal c.requires.short

pub invariant_of-result : goal.invariant_of-result
invariant_of-result c =
    let made : List (List Run) = c.as_slice.result.now in
    let fresh : All (λ (p : List Run). 0 < length p) made = subst (λ (l : List (List Run)). All (λ (p : List Run). 0 < length p) l) (sym c.as_slice.ensures.value) c.in_ok-made.ensures.filled in
    let small : All (λ (p : List Run). length p ≤ 48) made = subst (λ (l : List (List Run)). All (λ (p : List Run). length p ≤ 48) l) (sym c.as_slice.ensures.value) c.in_ok-made.ensures.small in
    let flat : pieces_of made ≡ c.args.runs.items = ap pieces_of c.as_slice.ensures.value ∙ c.in_ok-made.ensures.flat in
    subst AreRuns (sym c.in_ok-pieces.ensures.pieces)
    (put_kept c.args.pieces.now made c.args.from c.args.to c.args.runs.items c.requires.order c.requires.within c.requires.filled fresh flat c.requires.small small c.requires.maximal c.requires.short)

pub returns-in_err-pieces-clause-spent : goal.returns-in_err-pieces-clause-spent
returns-in_err-pieces-clause-spent c =
    let made : List (List Run) = c.as_slice.result.now in
    let fresh : All (λ (p : List Run). 0 < length p) made = subst (λ (l : List (List Run)). All (λ (p : List Run). 0 < length p) l) (sym c.as_slice.ensures.value) c.in_ok-made.ensures.filled in
    let small : All (λ (p : List Run). length p ≤ 48) made = subst (λ (l : List (List Run)). All (λ (p : List Run). length p ≤ 48) l) (sym c.as_slice.ensures.value) c.in_ok-made.ensures.small in
    let flat : pieces_of made ≡ c.args.runs.items = ap pieces_of c.as_slice.ensures.value ∙ c.in_ok-made.ensures.flat in
    omega (
      arith,
      put_rooted c.args.pieces.now made c.args.from c.args.to c.args.runs.items c.requires.order c.requires.within c.requires.filled fresh flat c.requires.small small c.requires.maximal c.requires.short,
      ap length c.as_slice.ensures.value,
      c.in_ok-made.ensures.few,
      c.cut.ensures.spent,
      c.with_window.ensures.spent,
    )

pub returns-clause-spent : goal.returns-clause-spent
returns-clause-spent c =
    let made : List (List Run) = c.as_slice.result.now in
    let fresh : All (λ (p : List Run). 0 < length p) made = subst (λ (l : List (List Run)). All (λ (p : List Run). 0 < length p) l) (sym c.as_slice.ensures.value) c.in_ok-made.ensures.filled in
    let small : All (λ (p : List Run). length p ≤ 48) made = subst (λ (l : List (List Run)). All (λ (p : List Run). length p ≤ 48) l) (sym c.as_slice.ensures.value) c.in_ok-made.ensures.small in
    let flat : pieces_of made ≡ c.args.runs.items = ap pieces_of c.as_slice.ensures.value ∙ c.in_ok-made.ensures.flat in
    omega (
      arith,
      put_rooted c.args.pieces.now made c.args.from c.args.to c.args.runs.items c.requires.order c.requires.within c.requires.filled fresh flat c.requires.small small c.requires.maximal c.requires.short,
      ap length c.as_slice.ensures.value,
      c.in_ok-made.ensures.few,
      c.cut.ensures.spent,
      c.with_window.ensures.spent,
    )

pub returns-clause-count : goal.returns-clause-count
returns-clause-count c =
    let made : List (List Run) = c.as_slice.result.now in
    let fresh : All (λ (p : List Run). 0 < length p) made = subst (λ (l : List (List Run)). All (λ (p : List Run). 0 < length p) l) (sym c.as_slice.ensures.value) c.in_ok-made.ensures.filled in
    let small : All (λ (p : List Run). length p ≤ 48) made = subst (λ (l : List (List Run)). All (λ (p : List Run). length p ≤ 48) l) (sym c.as_slice.ensures.value) c.in_ok-made.ensures.small in
    let flat : pieces_of made ≡ c.args.runs.items = ap pieces_of c.as_slice.ensures.value ∙ c.in_ok-made.ensures.flat in
    omega (
      arith,
      put_counted c.args.pieces.now made c.args.from c.args.to c.args.runs.items c.requires.order c.requires.within c.requires.filled fresh flat c.requires.small small c.requires.maximal c.requires.short,
      ap length (put_pieces c.args.pieces.now made c.args.from c.args.to c.args.runs.items c.requires.order c.requires.within c.requires.filled fresh flat c.requires.small small c.requires.maximal c.requires.short),
      ap (λ (l : List (List Run)). length (pieces_of l)) c.in_ok-pieces.ensures.pieces,
    )
