use Rattle.std.proofs.Common.{◌≡◌, ◌∙◌, ℕ, ◌+◌, ◌∷◌, [], ◌++◌, List, length, take, drop, ap, sym, arith, length-append}
use Rattle.std.specs.Vec.Iter.{into_iter_items}
use Rattle.std.proofs.lemmas.List.{drop-drop}
use Rattle.std.proofs.Math.Seq.{take-add}
use Rattle.format_runs.specs.Runs.{Run}
use Rattle.format_runs.proofs.cut.piece_of.Goals as goal

pub loop-left-preserved : goal.loop-left-preserved
loop-left-preserved c =
    let all : List Run = into_iter_items c.args.left.now in
    let part : List Run = c.loop-left.part.items in
    let run : Run = c.in-Some.run' in
    let step : into_iter_items c.loop-left.left ≡ run ∷ into_iter_items c.next.new.self = c.in-Some.ensures.items in
    let behind : drop (length part) all ≡ run ∷ into_iter_items c.next.new.self = sym c.loop-left.invariant.rest ∙ step in
    let grown : c.push.new.self.items ≡ part ++ run ∷ [] = c.in_ok-push.ensures.items in
    let long : length c.push.new.self.items ≡ length part + 1 = ap length grown ∙ length-append part (run ∷ []) in
    let taken : take (length part + 1) all ≡ part ++ run ∷ [] =
    take-add (length part) 1 all ∙ ap (λ (l : List Run). l ++ take 1 (drop (length part) all)) (sym c.loop-left.invariant.taken)
    ∙ ap (λ (l : List Run). part ++ take 1 l) behind in
    record {
      few = omega (arith, long, c.loop-left-test.true);
      taken = grown ∙ sym taken ∙ ap (λ n. take n all) (sym long);
      rest = ap (drop 1) (sym behind) ∙ drop-drop 1 (length part) all ∙ ap (λ n. drop n all) (sym long);
    }
