-- Lists in order, by their items and by their places.
use Rattle.std.proofs.Common.{List, get_or, subst, arith}
use Rattle.std.specs.List.{AllPairs}
use Rattle.std.proofs.lemmas.Option.{slice_get-get_or, slice_get_within, get_or_from_slice_get}
use Rattle.char_sequence.proofs.Lists.{InOrder}

pub in_order_from_pairs : {X : Type 0} (R : X → X → Type 0) (xs : List X) → AllPairs R xs → InOrder R xs
in_order_from_pairs R xs pairs i j x y less g h =
    subst (λ z. R x z) (get_or_from_slice_get xs j y x h)
    (subst (λ z. R z (get_or xs j x)) (get_or_from_slice_get xs i x x g) (pairs i j x less (slice_get_within xs j y h)))

pub pairs_from_in_order : {X : Type 0} (R : X → X → Type 0) (xs : List X) → InOrder R xs → AllPairs R xs
pairs_from_in_order R xs order i j d less within = order i j (get_or xs i d) (get_or xs j d) less (slice_get-get_or xs i d (omega arith)) (slice_get-get_or xs j d within)
