use Rattle.std.proofs.Common.{◌≡◌, ◌+◌, ◌<◌, ◌≤◌, ◌^◌, ◌++◌, ◌∷◌, min, max, map, take, drop, length, sym, subst, ap, ◌∙◌, arith, rules}
use Rattle.std.specs.List.{insert}
use Rattle.std.specs.List.Sorted.{IsPermutation}
use Rattle.std.proofs.lemmas.List.Elements.{All-weaker, All-same}
use Rattle.std.proofs.lemmas.List.Sorted.{IsPermutation-insert}
use Rattle.mark_places.specs.declared.block.MarkName.{MarkName}
use Rattle.mark_places.specs.Ranks.{raised}
use Rattle.mark_places.proofs.Raising.{take_first}
use Rattle.mark_places.proofs.Blocks.{ranked_size, block_insert, starts_low, ends_low}
use Rattle.mark_places.proofs.block.PlaceBlock.insert.Goals as goal

pub raise-requires : goal.raise-requires
raise-requires c =
    let b = c.self.inside in
    let below = c.self.invariant.bounded.below in
    All-same (λ r. r + b.offset < 2 ^ 32) c.deref_mut.result.now b.starts.items (c.deref_mut.ensures.value ∙ c.in_ok-reserve-2.ensures.items)
    (All-weaker (λ r. b.offset + r ≤ b.greatest) (λ r. r + b.offset < 2 ^ 32) (λ r low. omega arith) b.starts.items
    (starts_low b.offset b.least b.greatest b.names.items b.starts.items b.ends.items c.self.invariant.starts_sized c.self.invariant.ends_sized c.self.invariant.bounded.within))

pub raise-requires-2 : goal.raise-requires-2
raise-requires-2 c =
    let b = c.self.inside in
    let below = c.self.invariant.bounded.below in
    All-same (λ r. r + b.offset < 2 ^ 32) c.deref_mut-2.result.now b.ends.items (c.deref_mut-2.ensures.value ∙ c.in_ok-reserve-3.ensures.items)
    (All-weaker (λ r. b.offset + r ≤ b.greatest) (λ r. r + b.offset < 2 ^ 32) (λ r low. omega arith) b.ends.items
    (ends_low b.offset b.least b.greatest b.names.items b.starts.items b.ends.items c.self.invariant.starts_sized c.self.invariant.ends_sized c.self.invariant.bounded.within))

pub insert-requires : goal.insert-requires
insert-requires c =
    let b = c.self.inside in
    let within : c.begun_by-at.result ≤ length c.reserve.new.self.items =
    omega (arith, c.begun_by-at.ensures, ap length c.self.view_is, ranked_size b.offset b.names.items b.starts.items b.ends.items c.self.invariant.starts_sized c.self.invariant.ends_sized, ap length c.in_ok-reserve.ensures.items) in
    search rules

pub insert-requires-2 : goal.insert-requires-2
insert-requires-2 c =
    let b = c.self.inside in
    let within : c.begun_by-at.result ≤ length c.reserve-2.new.self.items =
    omega (arith, c.begun_by-at.ensures, ap length c.self.view_is, ranked_size b.offset b.names.items b.starts.items b.ends.items c.self.invariant.starts_sized c.self.invariant.ends_sized, c.self.invariant.starts_sized, ap length c.in_ok-reserve-2.ensures.items) in
    search rules

pub insert-requires-3 : goal.insert-requires-3
insert-requires-3 c =
    let b = c.self.inside in
    let within : c.begun_by-at.result ≤ length c.reserve-3.new.self.items =
    omega (arith, c.begun_by-at.ensures, ap length c.self.view_is, ranked_size b.offset b.names.items b.starts.items b.ends.items c.self.invariant.starts_sized c.self.invariant.ends_sized, c.self.invariant.ends_sized, ap length c.in_ok-reserve-3.ensures.items) in
    search rules

pub invariant_of-self-2 : goal.invariant_of-self-2
invariant_of-self-2 c =
    let mark = c.args.mark.now in
    let name : MarkName = record { index = mark.index; id = mark.id; key = mark.key } in
    let b = c.self.inside in
    let at = c.begun_by-at.result in
    let f = raised 0 b.offset in
    let moved : take b.starts.len (c.raise.new.ranks ++ drop (length c.raise.new.ranks) b.starts.items) ≡ map f b.starts.items =
    take_first _ _ _ (omega arith) ∙ c.raise.ensures ∙ ap (map f) (c.deref_mut.ensures.value ∙ c.in_ok-reserve-2.ensures.items) in
    let also : take b.ends.len (c.raise-2.new.ranks ++ drop (length c.raise-2.new.ranks) b.ends.items) ≡ map f b.ends.items =
    take_first _ _ _ (omega arith) ∙ c.raise-2.ensures ∙ ap (map f) (c.deref_mut-2.ensures.value ∙ c.in_ok-reserve-3.ensures.items) in
    let within : at ≤ length b.names.items =
    omega (arith, c.begun_by-at.ensures, ap length c.self.view_is, ranked_size b.offset b.names.items b.starts.items b.ends.items c.self.invariant.starts_sized c.self.invariant.ends_sized) in
    let put : c.insert.new.self.items ≡ insert c.reserve.new.self.items at name = search rules in
    let names : c.insert.new.self.items ≡ insert b.names.items at name = put ∙ ap (λ xs. insert xs at name) c.in_ok-reserve.ensures.items in
    let put_start : c.insert-2.new.self.items ≡ insert (take b.starts.len (c.raise.new.ranks ++ drop (length c.raise.new.ranks) b.starts.items)) at mark.start = search rules in
    let starts : c.insert-2.new.self.items ≡ insert (map f b.starts.items) at mark.start = put_start ∙ ap (λ xs. insert xs at mark.start) moved in
    let put_end : c.insert-3.new.self.items ≡ insert (take b.ends.len (c.raise-2.new.ranks ++ drop (length c.raise-2.new.ranks) b.ends.items)) at mark.end = search rules in
    let ends : c.insert-3.new.self.items ≡ insert (map f b.ends.items) at mark.end = put_end ∙ ap (λ xs. insert xs at mark.end) also in
    let low = c.min-self-inside.ensures ∙ ap (λ l. min l mark.end) c.min.ensures in
    let high = c.max-self-inside.ensures ∙ ap (λ l. max l mark.end) c.max.ensures in
    (block_insert b.offset b.least b.greatest _ _ b.names.items b.starts.items b.ends.items at name mark.start mark.end _ _ _ within low high c.requires.0 c.requires.1 names starts ends c.self.invariant).0

pub returns-clause-ok : goal.returns-clause-ok
returns-clause-ok c =
    let mark = c.args.mark.now in
    let name : MarkName = record { index = mark.index; id = mark.id; key = mark.key } in
    let b = c.self.inside in
    let at = c.begun_by-at.result in
    let f = raised 0 b.offset in
    let moved : take b.starts.len (c.raise.new.ranks ++ drop (length c.raise.new.ranks) b.starts.items) ≡ map f b.starts.items =
    take_first _ _ _ (omega arith) ∙ c.raise.ensures ∙ ap (map f) (c.deref_mut.ensures.value ∙ c.in_ok-reserve-2.ensures.items) in
    let also : take b.ends.len (c.raise-2.new.ranks ++ drop (length c.raise-2.new.ranks) b.ends.items) ≡ map f b.ends.items =
    take_first _ _ _ (omega arith) ∙ c.raise-2.ensures ∙ ap (map f) (c.deref_mut-2.ensures.value ∙ c.in_ok-reserve-3.ensures.items) in
    let within : at ≤ length b.names.items =
    omega (arith, c.begun_by-at.ensures, ap length c.self.view_is, ranked_size b.offset b.names.items b.starts.items b.ends.items c.self.invariant.starts_sized c.self.invariant.ends_sized) in
    let put : c.insert.new.self.items ≡ insert c.reserve.new.self.items at name = search rules in
    let names : c.insert.new.self.items ≡ insert b.names.items at name = put ∙ ap (λ xs. insert xs at name) c.in_ok-reserve.ensures.items in
    let put_start : c.insert-2.new.self.items ≡ insert (take b.starts.len (c.raise.new.ranks ++ drop (length c.raise.new.ranks) b.starts.items)) at mark.start = search rules in
    let starts : c.insert-2.new.self.items ≡ insert (map f b.starts.items) at mark.start = put_start ∙ ap (λ xs. insert xs at mark.start) moved in
    let put_end : c.insert-3.new.self.items ≡ insert (take b.ends.len (c.raise-2.new.ranks ++ drop (length c.raise-2.new.ranks) b.ends.items)) at mark.end = search rules in
    let ends : c.insert-3.new.self.items ≡ insert (map f b.ends.items) at mark.end = put_end ∙ ap (λ xs. insert xs at mark.end) also in
    let low = c.min-self-inside.ensures ∙ ap (λ l. min l mark.end) c.min.ensures in
    let high = c.max-self-inside.ensures ∙ ap (λ l. max l mark.end) c.max.ensures in
    let is = (block_insert b.offset b.least b.greatest _ _ b.names.items b.starts.items b.ends.items at name mark.start mark.end _ _ _ within low high c.requires.0 c.requires.1 names starts ends c.self.invariant).1 in
    subst (IsPermutation (mark ∷ c.args.self.now)) (sym (is ∙ ap (λ ms. insert ms at mark) c.self.view_is)) (IsPermutation-insert c.args.self.now at mark)
