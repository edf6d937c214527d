use Rattle.std.proofs.Common.{◌≡◌, ◌+◌, ◌<◌, ◌≤◌, ◌^◌, ◌++◌, map, length, take, drop, ◌-◌, sym, ap, ◌∙◌, arith}
use Rattle.std.proofs.lemmas.List.Elements.{All-weaker, All-same}
use Rattle.mark_places.specs.Ranks.{raised, mark_raised}
use Rattle.mark_places.proofs.Raising.{take_first}
use Rattle.mark_places.proofs.Blocks.{block_none, block_all, block_some, block_fits, starts_low, ends_low}
use Rattle.mark_places.proofs.block.PlaceBlock.raise.Goals as goal

pub overflow_add-self : goal.overflow_add-self
overflow_add-self c =
    let b = c.self.inside in
    let fits = (block_fits b.offset b.least b.greatest c.args.from c.args.by b.names.items b.starts.items b.ends.items c.args.self.now c.if-self-from.false c.self.view_is c.requires c.self.invariant) in
    omega (arith, fits)

pub returns-then-self-from : goal.returns-then-self-from
returns-then-self-from c =
    let b = c.self.inside in
    let same = block_none b.offset b.least b.greatest c.args.from c.args.by b.names.items b.starts.items b.ends.items c.if-self-from.true c.self.invariant in
    sym (ap (map (mark_raised c.args.from c.args.by)) (sym c.self.view_is) ∙ same ∙ c.self.view_is)

pub invariant_of-self : goal.invariant_of-self
invariant_of-self c =
    let b = c.self.inside in
    (block_all b.offset b.least b.greatest c.args.from c.args.by b.names.items b.starts.items b.ends.items c.if-from-self.true c.if-self-from.false (block_fits b.offset b.least b.greatest c.args.from c.args.by b.names.items b.starts.items b.ends.items c.args.self.now c.if-self-from.false c.self.view_is c.requires c.self.invariant) c.self.invariant).0

pub returns-then-from-self : goal.returns-then-from-self
returns-then-from-self c =
    let b = c.self.inside in
    (block_all b.offset b.least b.greatest c.args.from c.args.by b.names.items b.starts.items b.ends.items c.if-from-self.true c.if-self-from.false (block_fits b.offset b.least b.greatest c.args.from c.args.by b.names.items b.starts.items b.ends.items c.args.self.now c.if-self-from.false c.self.view_is c.requires c.self.invariant) c.self.invariant).1
    ∙ ap (map (mark_raised c.args.from c.args.by)) c.self.view_is

pub raise-requires : goal.raise-requires
raise-requires c =
    let b = c.self.inside in
    All-same (λ r. r + c.args.by < 2 ^ 32) c.deref_mut.result.now b.starts.items c.deref_mut.ensures.value
    (All-weaker (λ r. b.offset + r ≤ b.greatest) (λ r. r + c.args.by < 2 ^ 32) (λ r low. omega (arith, (block_fits b.offset b.least b.greatest c.args.from c.args.by b.names.items b.starts.items b.ends.items c.args.self.now c.if-self-from.false c.self.view_is c.requires c.self.invariant))) b.starts.items
    (starts_low b.offset b.least b.greatest b.names.items b.starts.items b.ends.items c.self.invariant.starts_sized c.self.invariant.ends_sized c.self.invariant.bounded.within))

pub raise-requires-2 : goal.raise-requires-2
raise-requires-2 c =
    let b = c.self.inside in
    All-same (λ r. r + c.args.by < 2 ^ 32) c.deref_mut-2.result.now b.ends.items c.deref_mut-2.ensures.value
    (All-weaker (λ r. b.offset + r ≤ b.greatest) (λ r. r + c.args.by < 2 ^ 32) (λ r low. omega (arith, (block_fits b.offset b.least b.greatest c.args.from c.args.by b.names.items b.starts.items b.ends.items c.args.self.now c.if-self-from.false c.self.view_is c.requires c.self.invariant))) b.ends.items
    (ends_low b.offset b.least b.greatest b.names.items b.starts.items b.ends.items c.self.invariant.starts_sized c.self.invariant.ends_sized c.self.invariant.bounded.within))

pub invariant_of-self-2 : goal.invariant_of-self-2
invariant_of-self-2 c =
    let b = c.self.inside in
    let f = raised (c.args.from - b.offset) c.args.by in
    let starts : take b.starts.len (c.raise.new.ranks ++ drop (length c.raise.new.ranks) b.starts.items) ≡ map f b.starts.items =
    take_first b.starts.len c.raise.new.ranks _ (omega arith) ∙ c.raise.ensures ∙ ap (map f) c.deref_mut.ensures.value in
    let ends : take b.ends.len (c.raise-2.new.ranks ++ drop (length c.raise-2.new.ranks) b.ends.items) ≡ map f b.ends.items =
    take_first b.ends.len c.raise-2.new.ranks _ (omega arith) ∙ c.raise-2.ensures ∙ ap (map f) c.deref_mut-2.ensures.value in
    (block_some b.offset b.least b.greatest c.args.from c.args.by b.names.items b.starts.items b.ends.items _ _ c.if-from-self.false c.if-self-from.false (block_fits b.offset b.least b.greatest c.args.from c.args.by b.names.items b.starts.items b.ends.items c.args.self.now c.if-self-from.false c.self.view_is c.requires c.self.invariant) starts ends c.self.invariant).0

pub returns : goal.returns
returns c =
    let b = c.self.inside in
    let f = raised (c.args.from - b.offset) c.args.by in
    let starts : take b.starts.len (c.raise.new.ranks ++ drop (length c.raise.new.ranks) b.starts.items) ≡ map f b.starts.items =
    take_first b.starts.len c.raise.new.ranks _ (omega arith) ∙ c.raise.ensures ∙ ap (map f) c.deref_mut.ensures.value in
    let ends : take b.ends.len (c.raise-2.new.ranks ++ drop (length c.raise-2.new.ranks) b.ends.items) ≡ map f b.ends.items =
    take_first b.ends.len c.raise-2.new.ranks _ (omega arith) ∙ c.raise-2.ensures ∙ ap (map f) c.deref_mut-2.ensures.value in
    (block_some b.offset b.least b.greatest c.args.from c.args.by b.names.items b.starts.items b.ends.items _ _ c.if-from-self.false c.if-self-from.false (block_fits b.offset b.least b.greatest c.args.from c.args.by b.names.items b.starts.items b.ends.items c.args.self.now c.if-self-from.false c.self.view_is c.requires c.self.invariant) starts ends c.self.invariant).1
    ∙ ap (map (mark_raised c.args.from c.args.by)) c.self.view_is
