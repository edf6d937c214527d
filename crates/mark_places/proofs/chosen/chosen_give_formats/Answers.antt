use Rattle.mark_places.proofs.Deciding.{with_marks, others_shown, others_marks, one_format}
use Rattle.mark_places.proofs.chosen.chosen_give_formats.Goals as goal

pub returns : goal.returns
returns c =
    λ es ops marks chosen low high h are chosen_are. (
      with_marks ops chosen,
      others_shown es ops marks chosen h are chosen_are.held,
      others_marks es ops marks chosen h are chosen_are.held,
      λ e place f at from to. one_format es ops marks chosen h are chosen_are.held low high chosen_are e place at from to f,
    )
