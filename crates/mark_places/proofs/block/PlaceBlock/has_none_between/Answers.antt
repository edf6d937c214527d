use Rattle.std.proofs.Common.{◌∙◌, ◌&&◌, Bool, refl, sym, ap, inl, inr}
use Rattle.std.specs.Prelude.{not}
use Rattle.std.specs.List.{list_all, list_any}
use Rattle.mark_places.specs.Blocks.{ranked}
use Rattle.mark_places.specs.Uniform.{is_between, has_none_between}
use Rattle.mark_places.proofs.Uniform.{all_beside, block_none}
use Rattle.mark_places.proofs.block.PlaceBlock.has_none_between.Goals.{then-self-from-via-then-self-from, then-self-from-via-else-self-from+then-below-self}
use Rattle.mark_places.proofs.block.PlaceBlock.has_none_between.Goals as goal

pub returns-then-self-from : goal.returns-then-self-from
returns-then-self-from c =
    let b = c.self.inside in
    let marks = ranked b.offset b.names.items b.starts.items b.ends.items in
    let within = c.self.invariant.bounded.within in
    sym (ap (list_all (has_none_between c.args.from c.args.below)) (sym c.self.view_is)
    ∙ elim c.then-self-from.branch [
      | then-self-from-via-then-self-from w ↦ all_beside c.args.from c.args.below b.least b.greatest marks (inl w.if-self-from.true) within
      | then-self-from-via-else-self-from+then-below-self w ↦ all_beside c.args.from c.args.below b.least b.greatest marks (inr w.if-below-self.true) within
    ])

pub returns-then-not-has_rank_between : goal.returns-then-not-has_rank_between
returns-then-not-has_rank_between c =
    let b = c.self.inside in
    let P = is_between c.saturating_sub-from.result c.saturating_sub-below.result in
    let is =
    block_none b.offset c.args.from c.args.below c.saturating_sub-from.result c.saturating_sub-below.result b.names.items b.starts.items b.ends.items
    c.deref.result.now c.deref-then-not-has_rank_between.result.now c.args.self.now c.self.view_is c.self.invariant.starts_sized c.self.invariant.ends_sized
    c.saturating_sub-from.ensures c.saturating_sub-below.ensures c.deref.ensures.value c.deref-then-not-has_rank_between.ensures.value in
    sym (is
    ∙ ap (λ (z : Bool). not z && not (list_any P c.deref-then-not-has_rank_between.result.now)) (sym c.has_rank_between.ensures ∙ c.if-not-has_rank_between.true)
    ∙ ap not (sym c.has_rank_between-then-not-has_rank_between.ensures))

pub returns-else-not-has_rank_between : goal.returns-else-not-has_rank_between
returns-else-not-has_rank_between c =
    let b = c.self.inside in
    let P = is_between c.saturating_sub-from.result c.saturating_sub-below.result in
    let is =
    block_none b.offset c.args.from c.args.below c.saturating_sub-from.result c.saturating_sub-below.result b.names.items b.starts.items b.ends.items
    c.deref.result.now b.ends.items c.args.self.now c.self.view_is c.self.invariant.starts_sized c.self.invariant.ends_sized
    c.saturating_sub-from.ensures c.saturating_sub-below.ensures c.deref.ensures.value refl in
    ap not c.if-not-has_rank_between.false
    ∙ sym (is ∙ ap (λ (z : Bool). not z && not (list_any P b.ends.items)) (sym c.has_rank_between.ensures ∙ c.if-not-has_rank_between.false))
