use Rattle.std.proofs.Common.{◌≡◌, ◌-◌, ◌∙◌, take, drop, length, ap, sym, arith}
use Rattle.std.proofs.lemmas.List.{length-take, take_rest}
use Rattle.web_door.proofs.LineLemmas.{front_given_of}
use Rattle.web_door.proofs.line.Line.give.Goals as goal
use Rattle.web_door.proofs.line.Line.give.Goals.{else-self-via-then-self+else-count-buf, else-self-via-else-self}

pub returns-clause-given : goal.returns-clause-given
returns-clause-given c =
    let text = c.self.inside.text in
    let start = c.self.inside.start in
    let count = c.min-count.result in
    let given = c.copy_from_slice.new.self in
    let is_count : length given ≡ count =
    omega (arith, c.copy_from_slice.ensures.len, length-take count c.args.buf.now, c.min-count.ensures) in
    let is_front : given ≡ take count (drop start text) =
    c.copy_from_slice.ensures.after
    ∙ ap (λ bytes. take count (take (length bytes - start) (drop start bytes))) (c.as_bytes.ensures.value ∙ c.as_str.ensures)
    ∙ ap (take count) (take_rest text start) in
    elim c.else-self.branch [
      | else-self-via-then-self+else-count-buf w ↦ rw (w.self-is, sym c.self.view_is)
          (front_given_of text start count given _ _ is_count is_front)
      | else-self-via-else-self w ↦ rw (w.self-is, sym c.self.view_is)
          (front_given_of text start count given _ _ is_count is_front)
    ]
