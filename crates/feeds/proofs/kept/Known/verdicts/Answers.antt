use Rattle.std.proofs.Common.{rules, ◌≡◌, ◌+◌, ◌-◌, ◌++◌, ◌∙◌, IfOk, ℕ, List, length, take, drop, ap, subst, arith, vec_len}
use Rattle.feeds.proofs.Reuse.{counted, reused_of}
use Rattle.feeds.proofs.kept.Known.verdicts.Goals as goal

pub overflow_sub-len : goal.overflow_sub-len
overflow_sub-len g c =
    let here = c.self.inside in
    let verdicts = c.into_verdicts-verdicts.result in
    let size : vec_len verdicts ≡ length verdicts.items = search rules in
    let count = counted here.kept.program.value here.kept.version here.stretch.older verdicts.items c.into_verdicts-verdicts.ensures c.self.invariant.0 in
    let within = c.front-front.ensures.alike.within_older in
    omega (arith, size, count, within, c.len.ensures, c.front-front.ensures.count)

pub overflow_sub-len-2 : goal.overflow_sub-len-2
overflow_sub-len-2 g c =
    let here = c.self.inside in
    let verdicts = c.into_verdicts-verdicts.result in
    let size : vec_len verdicts ≡ length verdicts.items = search rules in
    let count = counted here.kept.program.value here.kept.version here.stretch.older verdicts.items c.into_verdicts-verdicts.ensures c.self.invariant.0 in
    let within = c.front-front.ensures.alike.within_older in
    omega (arith, size, count, within, c.len.ensures, c.front-front.ensures.count, c.back-back.ensures.count)

pub overwritten-requires : goal.overwritten-requires
overwritten-requires g c =
    let here = c.self.inside in
    let verdicts = c.into_verdicts-verdicts.result in
    let size : vec_len verdicts ≡ length verdicts.items = search rules in
    let count = counted here.kept.program.value here.kept.version here.stretch.older verdicts.items c.into_verdicts-verdicts.ensures c.self.invariant.0 in
    let within = c.front-front.ensures.alike.within_older in
    omega (arith, size, count, within, c.len.ensures, c.front-front.ensures.count, c.back-back.ensures.count)

pub returns-then-middle-len : goal.returns-then-middle-len
returns-then-middle-len g c =
    let here = c.self.inside in
    let verdicts = c.into_verdicts-verdicts.result in
    let front = c.front-front.result in
    let back = c.back-back.result in
    let middle = c.args.middle.now in
    let size : vec_len verdicts ≡ length verdicts.items = search rules in
    let count = counted here.kept.program.value here.kept.version here.stretch.older verdicts.items c.into_verdicts-verdicts.ensures c.self.invariant.0 in
    let within = c.front-front.ensures.alike.within_older in
    let end : front + length middle ≡ length verdicts.items - back =
    omega (arith, size, count, within, c.len.ensures, c.front-front.ensures.count, c.back-back.ensures.count) in
    c.overwritten.ensures ∙ ap (λ n. (take front verdicts.items ++ middle) ++ drop n verdicts.items) end
    ∙ reused_of c.args.self here.kept here.stretch front back verdicts.items middle c.self.view_is c.self.invariant.0 c.self.invariant.1
    c.front-front.ensures.alike c.front-front.ensures.count c.back-back.ensures.count c.into_verdicts-verdicts.ensures c.requires

pub joined-requires : goal.joined-requires
joined-requires g c =
    let here = c.self.inside in
    let verdicts = c.into_verdicts-verdicts.result in
    let count = counted here.kept.program.value here.kept.version here.stretch.older verdicts.items c.into_verdicts-verdicts.ensures c.self.invariant.0 in
    let same = ap length c.deref.ensures.value in
    let within = c.front-front.ensures.alike.within_older in
    omega (arith, count, same, within, c.front-front.ensures.count, c.back-back.ensures.count)

pub returns : goal.returns
returns g c =
    let here = c.self.inside in
    let numbers = c.deref.result.now in
    let all = reused_of c.args.self here.kept here.stretch c.front-front.result c.back-back.result numbers c.args.middle.now c.self.view_is c.self.invariant.0 c.self.invariant.1
    c.front-front.ensures.alike c.front-front.ensures.count c.back-back.ensures.count (c.deref.ensures.value ∙ c.into_verdicts-verdicts.ensures) c.requires in
    subst (λ (l : List ℕ). IfOk c.joined.result (λ all. all.items ≡ l)) all c.joined.ensures
