use Rattle.char_sequence.proofs.Naming.{place_found, place_missed}
use Rattle.char_sequence.proofs.index.place_among.Goals as goal

pub returns-in-Ok : goal.returns-in-Ok
returns-in-Ok c = λ rising. place_found _ _ _ c.in-Ok.ensures.position rising

pub returns-in-Err : goal.returns-in-Err
returns-in-Err c = λ rising. place_missed _ _ _ c.in-Err.ensures.position rising
