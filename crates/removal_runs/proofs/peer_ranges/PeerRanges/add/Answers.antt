use Rattle.std.proofs.Common.{◌≡◌, suc, ◌+◌, ◌-◌, ◌^◌, ◌∷◌, Some, length, set, sym, ap, ◌∙◌, subst, refl, arith, rules, vec_len}
use Rattle.std.specs.List.{slice_get, insert, remove, flat_map, Contains}
use Rattle.std.specs.List.Sorted.{IsPermutation}
use Rattle.std.proofs.lemmas.Option.{same_Some, slice_get_within, slice_get_read}
use Rattle.removal_runs.specs.Apart.{HaveBegun}
use Rattle.removal_runs.specs.IdSets.{PeerCounters, begin_of_range, counters_in, AreRanges, JoinsBefore, JoinsBehind}
use Rattle.removal_runs.specs.declared.peer_ranges.Range.{Range}
use Rattle.removal_runs.proofs.RangeLists.{alone, joined_before, joined_behind, joined_apart, joined_permutes}
use Rattle.removal_runs.proofs.peer_ranges.PeerRanges.add.Goals as goal

pub invariant_of-self : goal.invariant_of-self
invariant_of-self c =
    let ranges = c.self.inside.ranges.items in
    let place = c.begun_by-place.result in
    let counter = c.args.counter in
    let begins : HaveBegun begin_of_range ranges counter place = subst (λ z. HaveBegun begin_of_range z counter place) c.deref.ensures.value c.begun_by-place.ensures in
    let before : JoinsBefore ranges place counter = subst (λ z. JoinsBefore z place counter) c.deref-2.ensures.value (c.joins_before-before.ensures.0 c.if-before.true) in
    let behind : JoinsBehind ranges place counter = subst (λ z. JoinsBehind z place counter) c.deref-3.ensures.value (c.joins_behind-behind.ensures.0 c.if-behind.true) in
    let first = c.index_mut.result.now in
    let second = c.index.result.now in
    let joined : Range = record { first = first.first; last = second.last } in
    let back : suc (place - 1) ≡ place = omega (arith, before.some) in
    let at_first : slice_get ranges (place - 1) ≡ Some first = slice_get_read ranges (length ranges) (place - 1) first refl (slice_get_within ranges (place - 1) before.range before.at) c.index_mut.ensures.value in
    let at_second : slice_get ranges (suc (place - 1)) ≡ Some second = ap (slice_get ranges) back ∙ slice_get_read ranges (length ranges) place second refl (slice_get_within ranges place behind.range behind.at) c.index.ensures in
    let items : c.remove.new.self.items ≡ remove (set ranges (place - 1) joined) place = search rules in
    let left : c.remove.new.self.items ≡ remove (set ranges (place - 1) joined) (suc (place - 1)) = items ∙ ap (remove (set ranges (place - 1) joined)) (sym back) in
    subst AreRanges (sym left) (joined_apart 0 ranges (2 ^ 48) (place - 1) first second joined c.self.invariant at_first at_second refl refl)

pub returns-then-behind-clause-ok : goal.returns-then-behind-clause-ok
returns-then-behind-clause-ok c =
    let ranges = c.self.inside.ranges.items in
    let place = c.begun_by-place.result in
    let counter = c.args.counter in
    let begins : HaveBegun begin_of_range ranges counter place = subst (λ z. HaveBegun begin_of_range z counter place) c.deref.ensures.value c.begun_by-place.ensures in
    let before : JoinsBefore ranges place counter = subst (λ z. JoinsBefore z place counter) c.deref-2.ensures.value (c.joins_before-before.ensures.0 c.if-before.true) in
    let behind : JoinsBehind ranges place counter = subst (λ z. JoinsBehind z place counter) c.deref-3.ensures.value (c.joins_behind-behind.ensures.0 c.if-behind.true) in
    let first = c.index_mut.result.now in
    let second = c.index.result.now in
    let joined : Range = record { first = first.first; last = second.last } in
    let back : suc (place - 1) ≡ place = omega (arith, before.some) in
    let at_first : slice_get ranges (place - 1) ≡ Some first = slice_get_read ranges (length ranges) (place - 1) first refl (slice_get_within ranges (place - 1) before.range before.at) c.index_mut.ensures.value in
    let at_second : slice_get ranges (suc (place - 1)) ≡ Some second = ap (slice_get ranges) back ∙ slice_get_read ranges (length ranges) place second refl (slice_get_within ranges place behind.range behind.at) c.index.ensures in
    let items : c.remove.new.self.items ≡ remove (set ranges (place - 1) joined) place = search rules in
    let left : c.remove.new.self.items ≡ remove (set ranges (place - 1) joined) (suc (place - 1)) = items ∙ ap (remove (set ranges (place - 1) joined)) (sym back) in
    let ends : first.last + 1 ≡ counter = ap (λ (r : Range). r.last + 1) (same_Some first before.range (sym at_first ∙ before.at)) ∙ before.next in
    let follows : second.first ≡ counter + 1 = ap (λ (r : Range). r.first) (same_Some second behind.range (sym at_second ∙ ap (slice_get ranges) back ∙ behind.at)) ∙ behind.next in
    subst (λ (v : PeerCounters). IsPermutation (counter ∷ v.counters) (flat_map counters_in c.remove.new.self.items)) c.self.view_is
    (subst (λ z. IsPermutation (counter ∷ flat_map counters_in ranges) (flat_map counters_in z)) (sym left) (joined_permutes 0 ranges (2 ^ 48) (place - 1) counter first second joined c.self.invariant at_first at_second ends follows refl refl))

pub invariant_of-self-then-before-2 : goal.invariant_of-self-then-before-2
invariant_of-self-then-before-2 c =
    let ranges = c.self.inside.ranges.items in
    let place = c.begun_by-place.result in
    let counter = c.args.counter in
    let begins : HaveBegun begin_of_range ranges counter place = subst (λ z. HaveBegun begin_of_range z counter place) c.deref.ensures.value c.begun_by-place.ensures in
    let before : JoinsBefore ranges place counter = subst (λ z. JoinsBefore z place counter) c.deref-2.ensures.value (c.joins_before-before.ensures.0 c.if-before-2.true) in
    let range = c.index_mut-then-before-2.result.now in
    let longer : Range = record { first = range.first; last = counter } in
    let at : slice_get ranges (place - 1) ≡ Some range = slice_get_read ranges (length ranges) (place - 1) range refl (slice_get_within ranges (place - 1) before.range before.at) c.index_mut-then-before-2.ensures.value in
    let ends : range.last + 1 ≡ counter = ap (λ (r : Range). r.last + 1) (same_Some range before.range (sym at ∙ before.at)) ∙ before.next in
    let both = joined_before ranges counter place range longer c.self.invariant begins c.requires.small at before.some ends refl refl in
    both.0

pub returns-then-before-2-clause-ok : goal.returns-then-before-2-clause-ok
returns-then-before-2-clause-ok c =
    let ranges = c.self.inside.ranges.items in
    let place = c.begun_by-place.result in
    let counter = c.args.counter in
    let begins : HaveBegun begin_of_range ranges counter place = subst (λ z. HaveBegun begin_of_range z counter place) c.deref.ensures.value c.begun_by-place.ensures in
    let before : JoinsBefore ranges place counter = subst (λ z. JoinsBefore z place counter) c.deref-2.ensures.value (c.joins_before-before.ensures.0 c.if-before-2.true) in
    let range = c.index_mut-then-before-2.result.now in
    let longer : Range = record { first = range.first; last = counter } in
    let at : slice_get ranges (place - 1) ≡ Some range = slice_get_read ranges (length ranges) (place - 1) range refl (slice_get_within ranges (place - 1) before.range before.at) c.index_mut-then-before-2.ensures.value in
    let ends : range.last + 1 ≡ counter = ap (λ (r : Range). r.last + 1) (same_Some range before.range (sym at ∙ before.at)) ∙ before.next in
    let both = joined_before ranges counter place range longer c.self.invariant begins c.requires.small at before.some ends refl refl in
    subst (λ (v : PeerCounters). IsPermutation (counter ∷ v.counters) (flat_map counters_in (set ranges (place - 1) longer))) c.self.view_is
    (both.1)

pub index_mut-requires-then-behind-2 : goal.index_mut-requires-then-behind-2
index_mut-requires-then-behind-2 c =
    let ranges = c.self.inside.ranges.items in
    let place = c.begun_by-place.result in
    let counter = c.args.counter in
    let begins : HaveBegun begin_of_range ranges counter place = subst (λ z. HaveBegun begin_of_range z counter place) c.deref.ensures.value c.begun_by-place.ensures in
    let behind : JoinsBehind ranges place counter = subst (λ z. JoinsBehind z place counter) c.deref-3.ensures.value (c.joins_behind-behind.ensures.0 c.if-behind-2.true) in
    let size : vec_len c.self.inside.ranges ≡ length ranges = search rules in
    let within = slice_get_within ranges place behind.range behind.at in
    omega arith

pub invariant_of-self-then-behind-2 : goal.invariant_of-self-then-behind-2
invariant_of-self-then-behind-2 c =
    let ranges = c.self.inside.ranges.items in
    let place = c.begun_by-place.result in
    let counter = c.args.counter in
    let begins : HaveBegun begin_of_range ranges counter place = subst (λ z. HaveBegun begin_of_range z counter place) c.deref.ensures.value c.begun_by-place.ensures in
    let fresh = subst (λ (v : PeerCounters). Contains v.counters counter → ⊥) (sym c.self.view_is) c.requires.fresh in
    let behind : JoinsBehind ranges place counter = subst (λ z. JoinsBehind z place counter) c.deref-3.ensures.value (c.joins_behind-behind.ensures.0 c.if-behind-2.true) in
    let range = c.index_mut-then-behind-2.result.now in
    let longer : Range = record { first = counter; last = range.last } in
    let at : slice_get ranges place ≡ Some range = slice_get_read ranges (length ranges) place range refl (slice_get_within ranges place behind.range behind.at) c.index_mut-then-behind-2.ensures.value in
    let follows : range.first ≡ counter + 1 = ap (λ (r : Range). r.first) (same_Some range behind.range (sym at ∙ behind.at)) ∙ behind.next in
    let both = joined_behind ranges counter place range longer c.self.invariant begins fresh at follows refl refl in
    both.0

pub returns-then-behind-2-clause-ok : goal.returns-then-behind-2-clause-ok
returns-then-behind-2-clause-ok c =
    let ranges = c.self.inside.ranges.items in
    let place = c.begun_by-place.result in
    let counter = c.args.counter in
    let begins : HaveBegun begin_of_range ranges counter place = subst (λ z. HaveBegun begin_of_range z counter place) c.deref.ensures.value c.begun_by-place.ensures in
    let fresh = subst (λ (v : PeerCounters). Contains v.counters counter → ⊥) (sym c.self.view_is) c.requires.fresh in
    let behind : JoinsBehind ranges place counter = subst (λ z. JoinsBehind z place counter) c.deref-3.ensures.value (c.joins_behind-behind.ensures.0 c.if-behind-2.true) in
    let range = c.index_mut-then-behind-2.result.now in
    let longer : Range = record { first = counter; last = range.last } in
    let at : slice_get ranges place ≡ Some range = slice_get_read ranges (length ranges) place range refl (slice_get_within ranges place behind.range behind.at) c.index_mut-then-behind-2.ensures.value in
    let follows : range.first ≡ counter + 1 = ap (λ (r : Range). r.first) (same_Some range behind.range (sym at ∙ behind.at)) ∙ behind.next in
    let both = joined_behind ranges counter place range longer c.self.invariant begins fresh at follows refl refl in
    subst (λ (v : PeerCounters). IsPermutation (counter ∷ v.counters) (flat_map counters_in (set ranges place longer))) c.self.view_is
    (both.1)

pub invariant_of-self-in-Continue-1 : goal.invariant_of-self-in-Continue-1
invariant_of-self-in-Continue-1 c =
    let ranges = c.self.inside.ranges.items in
    let place = c.begun_by-place.result in
    let counter = c.args.counter in
    let begins : HaveBegun begin_of_range ranges counter place = subst (λ z. HaveBegun begin_of_range z counter place) c.deref.ensures.value c.begun_by-place.ensures in
    let fresh = subst (λ (v : PeerCounters). Contains v.counters counter → ⊥) (sym c.self.view_is) c.requires.fresh in
    let one : Range = record { first = counter; last = counter } in
    let items : c.insert.new.self.items ≡ insert ranges place one = search rules in
    let both = alone ranges counter place one c.self.invariant begins fresh c.requires.small refl refl in
    subst AreRanges (sym items) both.0

pub returns-in_ok-insert-clause-ok : goal.returns-in_ok-insert-clause-ok
returns-in_ok-insert-clause-ok c =
    let ranges = c.self.inside.ranges.items in
    let place = c.begun_by-place.result in
    let counter = c.args.counter in
    let begins : HaveBegun begin_of_range ranges counter place = subst (λ z. HaveBegun begin_of_range z counter place) c.deref.ensures.value c.begun_by-place.ensures in
    let fresh = subst (λ (v : PeerCounters). Contains v.counters counter → ⊥) (sym c.self.view_is) c.requires.fresh in
    let one : Range = record { first = counter; last = counter } in
    let items : c.insert.new.self.items ≡ insert ranges place one = search rules in
    let both = alone ranges counter place one c.self.invariant begins fresh c.requires.small refl refl in
    subst (λ (v : PeerCounters). IsPermutation (counter ∷ v.counters) (flat_map counters_in c.insert.new.self.items)) c.self.view_is
    (subst (λ z. IsPermutation (counter ∷ flat_map counters_in ranges) (flat_map counters_in z)) (sym items) both.1)
