use Rattle.std.proofs.Common.{◌≡◌, ◌≤◌, length, get_or, arith, ap, ◌∙◌}
use Rattle.hub_core.specs.Machine.{Core}
use Rattle.hub_core.specs.Opened.{open_ids}
use Rattle.hub_core.proofs.Jobs.{none_more, none_below, none_left}
use Rattle.hub_core.proofs.Opened.{id_at, ids_are}
use Rattle.hub_core.proofs.hub.Core.next_job.Goals as goal

pub next_version-requires : goal.next_version-requires
next_version-requires g c =
    let ids = c.as_slice-id-items.result.now in
    let are = c.as_slice-id-items.ensures.value ∙ c.self.invariant.2 ∙ ap (λ (z : Core g.row.S.Denot). open_ids 0 z.subscribers) c.self.view_is in
    let there = ids_are c.args.self.now.subscribers c.loop-id.id-index (get_or ids c.loop-id.id-index 0) (id_at c.args.self.now.subscribers ids c.loop-id.id-index are c.loop-id-test.true) in
    (there.0, (there.1, there.2))

pub returns-in-Some : goal.returns-in-Some
returns-in-Some g c =
    let ids = c.as_slice-id-items.result.now in
    let are = c.as_slice-id-items.ensures.value ∙ c.self.invariant.2 ∙ ap (λ (z : Core g.row.S.Denot). open_ids 0 z.subscribers) c.self.view_is in
    let at = id_at c.args.self.now.subscribers ids c.loop-id.id-index are c.loop-id-test.true in
    (c.in-Some.ensures, none_below c.args.self.now c.loop-id.id-index (get_or ids c.loop-id.id-index 0) at c.loop-id.invariant)

pub loop-id-preserved : goal.loop-id-preserved
loop-id-preserved g c =
    let ids = c.as_slice-id-items.result.now in
    let are = c.as_slice-id-items.ensures.value ∙ c.self.invariant.2 ∙ ap (λ (z : Core g.row.S.Denot). open_ids 0 z.subscribers) c.self.view_is in
    let at = id_at c.args.self.now.subscribers ids c.loop-id.id-index are c.loop-id-test.true in
    none_more c.args.self.now c.loop-id.id-index (get_or ids c.loop-id.id-index 0) at c.loop-id.invariant c.in_default.ensures

pub returns : goal.returns
returns g c =
    let are = c.as_slice-id-items.ensures.value ∙ c.self.invariant.2 ∙ ap (λ (z : Core g.row.S.Denot). open_ids 0 z.subscribers) c.self.view_is in
    let past : length (open_ids 0 c.args.self.now.subscribers) ≤ c.loop-id.id-index = omega (arith, ap length are, c.loop-id-test.false) in
    none_left c.args.self.now c.loop-id.id-index past c.loop-id.invariant
