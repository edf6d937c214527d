use Rattle.std.proofs.Common.{◌≡◌, ℕ, ◌+◌, ◌-◌, ◌≤◌, ◌⊎◌, inl, inr, List, [], ◌++◌, length, take, drop, get_or, Bool, true, false, sym, ap, subst, ◌∙◌, arith}
use Rattle.piece_tree.specs.Nodes.{AreShort}
use Rattle.piece_tree.proofs.Filled.{node_few, front_few, back_few}
use Rattle.piece_tree.proofs.Windows.{IsSpot, IsReplaced, AreMade, to_end, window_replaced}
use Rattle.piece_tree.proofs.Shorts.{window_short}
use Rattle.piece_tree.proofs.window.replaced.Given.{Over}
use Rattle.piece_tree.proofs.window.replaced.Goals as goal
use Rattle.piece_tree.proofs.window.replaced.Goals.{then-made, else-made}

pub made_between-requires-clause-short : goal.made_between-requires-clause-short
made_between-requires-clause-short g c =
    let ns : List (List g.row.T.Denot) = c.args.nodes.now in
    let o : ℕ = c.args.from - c.node_reaching-first.result.start in
    let p : ℕ = c.args.to - c.node_reaching-last.result.start in
    let a : IsSpot ns c.args.from c.node_reaching-first.result.node c.node_reaching-first.result.start = record { within = c.node_reaching-first.ensures.within; start_is = c.node_reaching-first.ensures.start; up_to = c.node_reaching-first.ensures.up_to; before = c.node_reaching-first.ensures.before; reached = c.node_reaching-first.ensures.reached } in
    let b : IsSpot ns c.args.to c.node_reaching-last.result.node c.node_reaching-last.result.start = record { within = c.node_reaching-last.ensures.within; start_is = c.node_reaching-last.ensures.start; up_to = c.node_reaching-last.ensures.up_to; before = c.node_reaching-last.ensures.before; reached = c.node_reaching-last.ensures.reached } in
    let at_first : List g.row.T.Denot → List g.row.T.Denot → List g.row.T.Denot → Type 0 = λ (f l n : List g.row.T.Denot).
    AreShort g.T.Piece.size (take o f ++ (c.args.new.now ++ (take (length l - p) (drop p l) ++ n))) in
    let short : AreShort g.T.Piece.size (take o (get_or ns c.node_reaching-first.result.node []) ++ (c.args.new.now ++ (drop p (get_or ns c.node_reaching-last.result.node []) ++ get_or ns (c.node_reaching-last.result.node + 1) []))) =
    window_short g.T.Piece.size ns c.args.new.now c.args.from c.args.to c.node_reaching-first.result.node c.node_reaching-first.result.start c.node_reaching-last.result.node c.node_reaching-last.result.start a b c.requires.short in
    let cut : at_first (get_or ns c.node_reaching-first.result.node []) (get_or ns c.node_reaching-last.result.node []) (get_or ns (c.node_reaching-last.result.node + 1) []) =
    subst (λ (l : List g.row.T.Denot). AreShort g.T.Piece.size (take o (get_or ns c.node_reaching-first.result.node []) ++ (c.args.new.now ++ (l ++ get_or ns (c.node_reaching-last.result.node + 1) []))))
    (sym (to_end (get_or ns c.node_reaching-last.result.node []) p)) short in
    subst (λ (f : List g.row.T.Denot). at_first f c.pieces_at-2.result.now c.pieces_at-next.result.now) (sym c.pieces_at.ensures)
    (subst (λ (l : List g.row.T.Denot). at_first (get_or ns c.node_reaching-first.result.node []) l c.pieces_at-next.result.now) (sym c.pieces_at-2.ensures)
    (subst (λ (n : List g.row.T.Denot). at_first (get_or ns c.node_reaching-first.result.node []) (get_or ns c.node_reaching-last.result.node []) n) (sym c.pieces_at-next.ensures) cut))

replaced_is : (g : Over) (c : goal.After-drop-made-2 g) → IsReplaced c.args.nodes.now c.in_ok-all.all.items c.args.from c.args.to c.args.new.now
replaced_is g c =
    let ns : List (List g.row.T.Denot) = c.args.nodes.now in
    let o : ℕ = c.args.from - c.node_reaching-first.result.start in
    let p : ℕ = c.args.to - c.node_reaching-last.result.start in
    let a : IsSpot ns c.args.from c.node_reaching-first.result.node c.node_reaching-first.result.start = record { within = c.node_reaching-first.ensures.within; start_is = c.node_reaching-first.ensures.start; up_to = c.node_reaching-first.ensures.up_to; before = c.node_reaching-first.ensures.before; reached = c.node_reaching-first.ensures.reached } in
    let b : IsSpot ns c.args.to c.node_reaching-last.result.node c.node_reaching-last.result.start = record { within = c.node_reaching-last.ensures.within; start_is = c.node_reaching-last.ensures.start; up_to = c.node_reaching-last.ensures.up_to; before = c.node_reaching-last.ensures.before; reached = c.node_reaching-last.ensures.reached } in
    let made : List (List g.row.T.Denot) = c.in_ok-made.made.nodes.items in
    let took : Bool = c.in_ok-made.made.took_next in
    let end : ℕ = c.if-made.end in
    let m : AreMade made (take o c.pieces_at.result.now) c.args.new.now (take (length c.pieces_at-2.result.now - p) (drop p c.pieces_at-2.result.now)) c.pieces_at-next.result.now took =
    record { flat = c.in_ok-made.ensures.flat; filled = c.in_ok-made.ensures.filled; half = c.in_ok-made.ensures.half; half_with_next = c.in_ok-made.ensures.half_with_next } in
    let m1 : AreMade made (take o (get_or ns c.node_reaching-first.result.node [])) c.args.new.now (take (length c.pieces_at-2.result.now - p) (drop p c.pieces_at-2.result.now)) c.pieces_at-next.result.now took =
    subst (λ (l : List g.row.T.Denot). AreMade made (take o l) c.args.new.now (take (length c.pieces_at-2.result.now - p) (drop p c.pieces_at-2.result.now)) c.pieces_at-next.result.now took) c.pieces_at.ensures m in
    let m2 : AreMade made (take o (get_or ns c.node_reaching-first.result.node [])) c.args.new.now (take (length (get_or ns c.node_reaching-last.result.node []) - p) (drop p (get_or ns c.node_reaching-last.result.node []))) c.pieces_at-next.result.now took =
    subst (λ (l : List g.row.T.Denot). AreMade made (take o (get_or ns c.node_reaching-first.result.node [])) c.args.new.now (take (length l - p) (drop p l)) c.pieces_at-next.result.now took) c.pieces_at-2.ensures m1 in
    let m3 : AreMade made (take o (get_or ns c.node_reaching-first.result.node [])) c.args.new.now (take (length (get_or ns c.node_reaching-last.result.node []) - p) (drop p (get_or ns c.node_reaching-last.result.node []))) (get_or ns (c.node_reaching-last.result.node + 1) []) took =
    subst (λ (l : List g.row.T.Denot). AreMade made (take o (get_or ns c.node_reaching-first.result.node [])) c.args.new.now (take (length (get_or ns c.node_reaching-last.result.node []) - p) (drop p (get_or ns c.node_reaching-last.result.node []))) l took) c.pieces_at-next.ensures m2 in
    let e : ((took ≡ true) × (end ≡ c.node_reaching-last.result.node + 2)) ⊎ ((took ≡ false) × (end ≡ c.node_reaching-last.result.node + 1)) =
    elim c.if-made.branch [ then-made w ↦ inl (w.if-made.true, w.end-is) | else-made w ↦ inr (w.if-made.false, w.end-is) ] in
    let is : c.in_ok-all.all.items ≡ take c.node_reaching-first.result.node ns ++ (made ++ take (length ns - end) (drop end ns)) =
    c.in_ok-all.ensures ∙ ap (λ (l : List (List g.row.T.Denot)). take c.node_reaching-first.result.node ns ++ (l ++ take (length ns - end) (drop end ns))) c.as_slice.ensures.value in
    window_replaced ns made c.in_ok-all.all.items c.args.new.now c.args.from c.args.to c.node_reaching-first.result.node c.node_reaching-first.result.start c.node_reaching-last.result.node c.node_reaching-last.result.start end took
    c.requires.filled a b m3 e is

pub returns-clause-flat : goal.returns-clause-flat
returns-clause-flat g c = (replaced_is g c).flat

pub returns-clause-filled : goal.returns-clause-filled
returns-clause-filled g c = (replaced_is g c).filled

pub made_between-requires-clause-front : goal.made_between-requires-clause-front
made_between-requires-clause-front g c =
    front_few c.args.nodes.now c.pieces_at.result.now c.node_reaching-first.result.node (c.args.from - c.node_reaching-first.result.start) c.requires.filled c.pieces_at.ensures

pub made_between-requires-clause-back : goal.made_between-requires-clause-back
made_between-requires-clause-back g c =
    let p : ℕ = c.args.to - c.node_reaching-last.result.start in
    back_few c.args.nodes.now c.pieces_at-2.result.now c.node_reaching-last.result.node p (length c.pieces_at-2.result.now - p) c.requires.filled c.pieces_at-2.ensures

pub made_between-requires-clause-next : goal.made_between-requires-clause-next
made_between-requires-clause-next g c =
    let few : length (get_or c.args.nodes.now (c.node_reaching-last.result.node + 1) []) ≤ 32 = node_few c.args.nodes.now (c.node_reaching-last.result.node + 1) c.requires.filled in
    omega (arith, ap length c.pieces_at-next.ensures)
