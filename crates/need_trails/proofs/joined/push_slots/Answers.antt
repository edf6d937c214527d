use Rattle.std.proofs.Common.{ℕ, ◌+◌, ◌++◌, ◌∙◌, ap, List, Bool, true, drop, string_bytes}
use Rattle.known_ways.specs.Ways.{Way}
use Rattle.known_ways.specs.Told.{ways_seen}
use Rattle.need_trails.specs.Trail.{agrees, slots_text}
use Rattle.need_trails.proofs.Slots.{slots_more, slots_none, slots_all}
use Rattle.need_trails.proofs.joined.push_slots.Goals.{then-agrees+in_ok-push_slot, else-agrees}
use Rattle.need_trails.proofs.joined.push_slots.Goals as goal

pub loop-way-preserved : goal.loop-way-preserved
loop-way-preserved c =
    let wanted = c.args.wanted.now in
    let known = c.args.known in
    let ways = c.args.ways.now in
    let rest : List Way = ways_seen (drop (c.loop-way.way-index + 1) ways) in
    let is = c.agrees.ensures ∙ ap (agrees known) c.is_known.ensures in
    elim c.if-agrees.branch [
      | then-agrees+in_ok-push_slot w ↦ record {
        written =
            ap (λ (text : List ℕ). text ++ slots_text wanted known c.if-agrees.some rest) (ap string_bytes w.text-is)
            ∙ ap (λ (some : Bool). string_bytes w.push_slot.new.text ++ slots_text wanted known some rest) w.some-is
            ∙ ap (λ (text : List ℕ). text ++ slots_text wanted known true rest) w.in_ok-push_slot.ensures
            ∙ slots_more (string_bytes c.loop-way.text) wanted known c.loop-way.some ways c.way-item.result c.loop-way.way-index c.agrees.result c.loop-way-test.true c.way-item.is is w.if-agrees.true
            ∙ c.loop-way.invariant.written;
      }
      | else-agrees w ↦ record {
        written =
            ap (λ (text : List ℕ). text ++ slots_text wanted known c.if-agrees.some rest) (ap string_bytes w.text-is)
            ∙ ap (λ (some : Bool). string_bytes c.loop-way.text ++ slots_text wanted known some rest) w.some-is
            ∙ ap (λ (text : List ℕ). string_bytes c.loop-way.text ++ text) (slots_none wanted known c.loop-way.some ways c.way-item.result c.loop-way.way-index c.agrees.result c.loop-way-test.true c.way-item.is is w.if-agrees.false)
            ∙ c.loop-way.invariant.written;
      }
    ]

pub returns : goal.returns
returns c =
    slots_all (string_bytes c.loop-way.text) c.args.wanted.now c.args.known c.loop-way.some c.args.ways.now c.loop-way.way-index _ c.loop-way-test.false c.loop-way.invariant.written
