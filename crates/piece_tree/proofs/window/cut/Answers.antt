use Rattle.std.proofs.Common.{◌≡◌, ℕ, ◌+◌, ◌-◌, List, [], ◌∷◌, ◌++◌, length, take, drop, sym, ap, subst, ◌∙◌, arith}
use Rattle.std.proofs.lemmas.List.{length-drop, length-take-le}
use Rattle.piece_tree.proofs.Cutting.{IsNextSize, AreCut, cut_next, paid_all, paid_more, paid_on}
use Rattle.piece_tree.proofs.Shorts.{short_drop, short_take}
use Rattle.piece_tree.specs.Nodes.{AreShort}
use Rattle.piece_tree.proofs.window.cut.Goals as goal

pub loop-at-preserved : goal.loop-at-preserved
loop-at-preserved g c =
    let cs : List g.row.T.Denot = c.args.pieces.now in
    let at : ℕ = c.loop-at.at in
    let size : ℕ = c.next_size-size.result in
    let n : IsNextSize (length cs - at) size = record { some = c.next_size-size.ensures.some; within = c.next_size-size.ensures.within; at_most = c.next_size-size.ensures.at_most; half = c.next_size-size.ensures.half; rest_half = c.next_size-size.ensures.rest_half } in
    let width : (at + size) - at ≡ size = omega arith in
    let node : c.in_ok-node.node ≡ take size (drop at cs) =
    c.in_ok-node.ensures.node ∙ c.in_ok-share_all.ensures ∙ ap (λ (l : List g.row.T.Denot). l ++ take ((at + size) - at) (drop at cs)) c.in_ok-part.ensures.items
    ∙ ap (λ (k : ℕ). take k (drop at cs)) width in
    let part : length c.share_all.new.to.items ≡ size =
    ap length (c.in_ok-share_all.ensures ∙ ap (λ (l : List g.row.T.Denot). l ++ take ((at + size) - at) (drop at cs)) c.in_ok-part.ensures.items)
    ∙ ap (λ (k : ℕ). length (take k (drop at cs))) width
    ∙ length-take-le size (drop at cs) (omega (arith, length-drop at cs, n.within)) in
    let next : AreCut cs (c.loop-at.nodes.items ++ c.in_ok-node.node ∷ []) (at + size) = cut_next cs c.in_ok-node.node c.loop-at.nodes.items at size c.loop-at-test.true n node c.loop-at.invariant.cut in
    record {
      cut = subst (λ (l : List (List g.row.T.Denot)). AreCut cs l (at + size)) (sym c.in_ok-add.ensures) next;
      paid = paid_more c.loop-at.nodes.items c.add.new.to.items c.in_ok-node.node (length c.share_all.new.to.items) at size c.args.budget.now c.loop-at.budget c.new.new.budget
          c.in_ok-add.ensures part c.loop-at.invariant.paid c.new.ensures.paid;
    }

pub new-requires-clause-short : goal.new-requires-clause-short
new-requires-clause-short g c =
    let cs : List g.row.T.Denot = c.args.pieces.now in
    let at : ℕ = c.loop-at.at in
    let size : ℕ = c.next_size-size.result in
    let part : c.share_all.new.to.items ≡ take ((at + size) - at) (drop at cs) =
    c.in_ok-share_all.ensures ∙ ap (λ (l : List g.row.T.Denot). l ++ take ((at + size) - at) (drop at cs)) c.in_ok-part.ensures.items in
    subst (λ (l : List g.row.T.Denot). AreShort g.T.Piece.size l) (sym part)
    (short_take g.T.Piece.size ((at + size) - at) (drop at cs) (short_drop g.T.Piece.size at cs c.requires))

pub returns-in_err-part-clause-spent : goal.returns-in_err-part-clause-spent
returns-in_err-part-clause-spent g c =
    let cs : List g.row.T.Denot = c.args.pieces.now in
    let at : ℕ = c.loop-at.at in
    let size : ℕ = c.next_size-size.result in
    let n : IsNextSize (length cs - at) size = record { some = c.next_size-size.ensures.some; within = c.next_size-size.ensures.within; at_most = c.next_size-size.ensures.at_most; half = c.next_size-size.ensures.half; rest_half = c.next_size-size.ensures.rest_half } in
    paid_on cs c.loop-at.nodes.items at size c.args.budget.now c.loop-at.budget c.loop-at.budget c.loop-at-test.true n c.loop-at.invariant.cut c.loop-at.invariant.paid (omega arith)

pub returns-in_err-share_all-clause-spent : goal.returns-in_err-share_all-clause-spent
returns-in_err-share_all-clause-spent g c =
    let cs : List g.row.T.Denot = c.args.pieces.now in
    let at : ℕ = c.loop-at.at in
    let size : ℕ = c.next_size-size.result in
    let n : IsNextSize (length cs - at) size = record { some = c.next_size-size.ensures.some; within = c.next_size-size.ensures.within; at_most = c.next_size-size.ensures.at_most; half = c.next_size-size.ensures.half; rest_half = c.next_size-size.ensures.rest_half } in
    paid_on cs c.loop-at.nodes.items at size c.args.budget.now c.loop-at.budget c.loop-at.budget c.loop-at-test.true n c.loop-at.invariant.cut c.loop-at.invariant.paid (omega arith)

pub returns-in_err-node-clause-spent : goal.returns-in_err-node-clause-spent
returns-in_err-node-clause-spent g c =
    let cs : List g.row.T.Denot = c.args.pieces.now in
    let at : ℕ = c.loop-at.at in
    let size : ℕ = c.next_size-size.result in
    let n : IsNextSize (length cs - at) size = record { some = c.next_size-size.ensures.some; within = c.next_size-size.ensures.within; at_most = c.next_size-size.ensures.at_most; half = c.next_size-size.ensures.half; rest_half = c.next_size-size.ensures.rest_half } in
    let width : (at + size) - at ≡ size = omega arith in
    let part : length c.share_all.new.to.items ≡ size =
    ap length (c.in_ok-share_all.ensures ∙ ap (λ (l : List g.row.T.Denot). l ++ take ((at + size) - at) (drop at cs)) c.in_ok-part.ensures.items)
    ∙ ap (λ (k : ℕ). length (take k (drop at cs))) width
    ∙ length-take-le size (drop at cs) (omega (arith, length-drop at cs, n.within)) in
    paid_on cs c.loop-at.nodes.items at size c.args.budget.now c.loop-at.budget c.new.new.budget c.loop-at-test.true n c.loop-at.invariant.cut c.loop-at.invariant.paid (omega (arith, c.new.ensures.paid))

pub returns-in_err-add-clause-spent : goal.returns-in_err-add-clause-spent
returns-in_err-add-clause-spent g c =
    let cs : List g.row.T.Denot = c.args.pieces.now in
    let at : ℕ = c.loop-at.at in
    let size : ℕ = c.next_size-size.result in
    let n : IsNextSize (length cs - at) size = record { some = c.next_size-size.ensures.some; within = c.next_size-size.ensures.within; at_most = c.next_size-size.ensures.at_most; half = c.next_size-size.ensures.half; rest_half = c.next_size-size.ensures.rest_half } in
    let width : (at + size) - at ≡ size = omega arith in
    let part : length c.share_all.new.to.items ≡ size =
    ap length (c.in_ok-share_all.ensures ∙ ap (λ (l : List g.row.T.Denot). l ++ take ((at + size) - at) (drop at cs)) c.in_ok-part.ensures.items)
    ∙ ap (λ (k : ℕ). length (take k (drop at cs))) width
    ∙ length-take-le size (drop at cs) (omega (arith, length-drop at cs, n.within)) in
    paid_on cs c.loop-at.nodes.items at size c.args.budget.now c.loop-at.budget c.new.new.budget c.loop-at-test.true n c.loop-at.invariant.cut c.loop-at.invariant.paid (omega (arith, c.new.ensures.paid))

pub returns-clause-spent : goal.returns-clause-spent
returns-clause-spent g c = paid_all c.args.pieces.now c.loop-at.nodes.items c.loop-at.at c.args.budget.now c.loop-at.budget (omega arith) c.loop-at.invariant.cut c.loop-at.invariant.paid
