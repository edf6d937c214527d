use Rattle.std.proofs.Common.{◌≡◌, ◌+◌, ◌-◌, ◌/◌, take, drop, length, set, refl, sym, ap, ◌∙◌, arith}
use Rattle.std.specs.List.{flat_map, insert}
use Rattle.std.proofs.lemmas.Option.{same_Some}
use Rattle.mark_anchors.proofs.Lists.{read_at}
use Rattle.mark_places.proofs.Joined.{split_same, halves}
use Rattle.mark_places.proofs.places.make_room.Goals as goal

pub part-requires : goal.part-requires
part-requires c =
    let blocks = c.args.blocks.now.items in
    let at = c.args.at in
    let full = c.index.result.now in
    let b = c.index-2.result.now in
    let whole = c.index-3.result.now in
    let r1 = read_at blocks at full c.index.ensures c.requires in
    let r2 = read_at blocks at b c.index-2.ensures c.requires in
    let r3 = read_at blocks at whole c.index-3.ensures c.requires in
    let s1 = ap length (same_Some full b (sym r1 ∙ r2)) in
    let s2 = ap length (same_Some b whole (sym r2 ∙ r3)) in
    let many = c.is_full.ensures.0 c.if-not-is_full.false in
    let count = c.len-count.ensures in
    (omega (arith, s1, s2, many, count), omega (arith, s1, s2, many, count))

pub returns-clause-same : goal.returns-clause-same
returns-clause-same c =
    let blocks = c.args.blocks.now.items in
    let at = c.args.at in
    let b = c.index-2.result.now in
    let first = c.index-3.result.now in
    let second = c.index-4.result.now in
    let n = c.len-count.result in
    let r2 = read_at blocks at b c.index-2.ensures c.requires in
    let r3 = read_at blocks at first c.index-3.ensures c.requires in
    let r4 = read_at blocks at second c.index-4.ensures c.requires in
    let s3 = same_Some first b (sym r3 ∙ r2) in
    let s4 = same_Some second b (sym r4 ∙ r2) in
    let front = c.in_ok-front.ensures ∙ ap (λ xs. take (n / 2 - 0) (drop 0 xs)) s3 in
    let back = c.in_ok-back.ensures ∙ ap (λ xs. take (n - n / 2) (drop (n / 2) xs)) s4 in
    let put : c.insert.new.self.items ≡ insert blocks (at + 1) c.in_ok-back.back = c.in_ok-insert.ensures.items in
    ap (λ bs. flat_map (λ x. x) (set bs at c.in_ok-front.front)) put
    ∙ split_same blocks at (at + 1) b c.in_ok-front.front c.in_ok-back.back r2 refl (halves b c.in_ok-front.front c.in_ok-back.back n (n / 2) c.len-count.ensures front back)
