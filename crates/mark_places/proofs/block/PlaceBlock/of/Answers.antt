use Rattle.std.proofs.Common.{[], ◌^◌, All, refl, sym, subst}
use Rattle.std.proofs.lemmas.List.Elements.{All-nil, All-cons}
use Rattle.mark_places.specs.Ranks.{IsBelow}
use Rattle.mark_places.proofs.Blocks.{one_mark}
use Rattle.mark_places.proofs.block.PlaceBlock.of.Goals as goal

pub of_lists-requires-clause-below : goal.of_lists-requires-clause-below
of_lists-requires-clause-below c =
    let mark = c.args.mark.now in
    subst (All (IsBelow (2 ^ 31))) (sym (one_mark mark (record { index = mark.index; id = mark.id; key = mark.key }) refl)) (All-cons (IsBelow (2 ^ 31)) mark [] c.requires (All-nil (IsBelow (2 ^ 31))))
