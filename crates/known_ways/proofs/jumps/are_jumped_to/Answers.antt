use Rattle.std.proofs.Common.{◌≡◌, Bool, List, None, get_or, length, replicate, false, sym, ap, ◌∙◌, arith, rules}
use Rattle.std.proofs.lemmas.List.{get_or-replicate}
use Rattle.std.specs.List.{slice_get}
use Rattle.known_ways.specs.Ways.{target_at}
use Rattle.known_ways.proofs.Gathering.{jumped_more, jumped_nowhere}
use Rattle.known_ways.proofs.jumps.are_jumped_to.Goals as goal

pub loop-from-init : goal.loop-from-init
loop-from-init c =
    let zeros : c.in_ok-are.are.items ≡ replicate (length c.args.targets.now) false = c.in_ok-are.ensures.items_if_clones_equal (λ y same. search rules) in
    record {
      size = search rules;
      each = λ program are k less.
          ap (λ (xs : List Bool). get_or xs k false) zeros ∙ get_or-replicate (length c.args.targets.now) k false false less ∙ sym (jumped_nowhere program k);
    }

pub loop-from-preserved : goal.loop-from-preserved
loop-from-preserved c =
    let from = c.loop-from.from in
    let old = c.loop-from.are.items in
    record {
      size = c.mark.ensures.size ∙ c.loop-from.invariant.size;
      each = λ program are k less.
          let marked = c.mark.ensures.marked k (omega (arith, less, c.loop-from.invariant.size)) in
          let at : get_or c.args.targets.now from None ≡ target_at from (slice_get program from) = are.1 from (omega (arith, c.loop-from-test.true, are.0)) in
          jumped_more program k from (get_or old k false) (get_or c.mark.new.are.items k false) (get_or c.args.targets.now from None) (c.loop-from.invariant.each program are k less) at
          marked;
    }
