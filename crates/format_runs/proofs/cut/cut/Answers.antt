use Rattle.std.proofs.Common.{◌≡◌, ℕ, ◌+◌, ◌-◌, ◌*◌, ◌<◌, ◌≤◌, ◌++◌, ◌∷◌, [], inl, inr, List, All, length, take, drop, arith, sym, ap, subst, ◌∙◌, length-append}
use Rattle.std.specs.Vec.Iter.{into_iter_items}
use Rattle.std.proofs.lemmas.List.{append-nil, drop-drop, length-drop, length-take-le}
use Rattle.std.proofs.lemmas.List.Elements.{All-push}
use Rattle.std.proofs.lemmas.List.Sums.{sum_by-take-drop}
use Rattle.std.proofs.Math.Seq.{take-add}
use Rattle.piece_tree.specs.Nodes.{pieces_of}
use Rattle.piece_tree.proofs.Lists.{pieces_append}
use Rattle.format_runs.specs.Runs.{Run, character_count}
use Rattle.format_runs.proofs.cut.cut.Goals as goal

pub piece_of-requires-clause-there : goal.piece_of-requires-clause-there
piece_of-requires-clause-there c =
    let runs : List Run = into_iter_items c.into_iter-left.result in
    omega (arith, c.next_size-size.ensures.within, length-drop c.loop-at.at runs, ap length c.loop-at.invariant.rest, ap length c.into_iter-left.ensures.rest)

pub piece_of-requires-clause-short : goal.piece_of-requires-clause-short
piece_of-requires-clause-short c =
    let runs : List Run = into_iter_items c.into_iter-left.result in
    omega (
      arith,
      c.requires,
      ap character_count c.into_iter-left.ensures.rest,
      ap character_count c.loop-at.invariant.rest,
      sum_by-take-drop (λ (r : Run). r.characters) runs c.loop-at.at,
    )

pub loop-at-preserved : goal.loop-at-preserved
loop-at-preserved c =
    let runs : List Run = into_iter_items c.into_iter-left.result in
    let at : ℕ = c.loop-at.at in
    let size : ℕ = c.next_size-size.result in
    let piece : List Run = c.in_ok-piece.piece in
    let pieces : List (List Run) = c.loop-at.pieces.items in
    let is : piece ≡ take size (drop at runs) = c.in_ok-piece.ensures.piece ∙ ap (λ (l : List Run). take size l) c.loop-at.invariant.rest in
    let same = ap length c.into_iter-left.ensures.rest in
    let part : length (take size (drop at runs)) ≡ size =
    length-take-le size (drop at runs) (omega (arith, length-drop at runs, c.next_size-size.ensures.within, same)) in
    let long : length piece ≡ size = ap length is ∙ part in
    let all : All (λ (p : List Run). 0 < length p) (pieces ++ piece ∷ []) =
    All-push (λ (p : List Run). 0 < length p) pieces piece c.loop-at.invariant.filled (omega (arith, long, c.next_size-size.ensures.some)) in
    let small : All (λ (p : List Run). length p ≤ 48) (pieces ++ piece ∷ []) =
    All-push (λ (p : List Run). length p ≤ 48) pieces piece c.loop-at.invariant.small (omega (arith, long, c.next_size-size.ensures.at_most)) in
    let few : 16 * length pieces ≤ at = c.loop-at.invariant.few (omega (arith, c.loop-at-test.true, same)) in
    let count : length c.add.new.pieces.items ≡ length pieces + 1 = ap length c.in_ok-add.ensures ∙ length-append pieces (piece ∷ []) in
    record {
      rest = c.in_ok-piece.ensures.left ∙ ap (λ (l : List Run). drop size l) c.loop-at.invariant.rest ∙ drop-drop size at runs;
      within = omega (arith, c.next_size-size.ensures.within, c.loop-at-test.true, same);
      flat = ap pieces_of c.in_ok-add.ensures ∙ pieces_append pieces (piece ∷ [])
          ∙ ap (λ (l : List Run). l ++ (piece ++ [])) c.loop-at.invariant.flat
          ∙ ap (λ (l : List Run). take at runs ++ l) (append-nil piece ∙ is) ∙ sym (take-add at size runs);
      filled = subst (λ (l : List (List Run)). All (λ (p : List Run). 0 < length p) l) (sym c.in_ok-add.ensures) all;
      small = subst (λ (l : List (List Run)). All (λ (p : List Run). length p ≤ 48) l) (sym c.in_ok-add.ensures) small;
      few = λ more. elim c.next_size-size.ensures.half [ inl half ↦ omega (arith, few, count, half) | inr last ↦ absurd (omega (arith, last, more, same)) ];
      few_all = omega (arith, few, count, c.next_size-size.ensures.some);
      spent = omega (arith, count, c.in_ok-piece.ensures.spent, c.loop-at.invariant.spent);
      less = omega (arith, c.loop-at.invariant.less);
    }
