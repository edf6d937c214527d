use Rattle.std.proofs.Common.{◌≡◌, ◌<◌, length, subst, sym}
use Rattle.change_ops.specs.declared.operation.Anchor.TheVariants.{AfterCharacter}
use Rattle.insert_place.proofs.Ends.{one_ends, one_listed, not_none, some_left}
use Rattle.insert_place.proofs.bears_end.Goals as goal

pub returns : goal.returns
returns c =
    let ids = c.in_ok-ids.ids.items in
    let long : c.in_ok-ids.ids.len ≡ length ids = c.in_ok-ids.ids.ok.0 in
    let anchor = AfterCharacter c.args.id in (
      (λ some. one_ends c.args.marks.now anchor ids c.in_ok-ids.ensures (subst (λ n. 0 < n) long (not_none c.in_ok-ids.ids.len c.is_empty.result c.is_empty.ensures some))),
      (λ bears. some_left c.in_ok-ids.ids.len c.is_empty.result c.is_empty.ensures (subst (λ n. 0 < n) (sym long) (one_listed c.args.marks.now anchor ids c.in_ok-ids.ensures bears))),
    )
