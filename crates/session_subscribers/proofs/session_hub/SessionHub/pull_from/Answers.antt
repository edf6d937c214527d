use Rattle.std.proofs.Common.{rules, ◌≡◌, ◌+◌, ◌-◌, ◌<◌, ◌∷◌, [], Some, length, take, drop, slice_get, refl, sym, ap, subst, arith, string_bytes}
use Rattle.std.proofs.lemmas.Option.{slice_get_read}
use mathlib.Core.List.{IsPrefix}
use Rattle.stream_readers.specs.Readers.{Reader}
use Rattle.session_subscribers.specs.Holding.{IsAllGiven}
use Rattle.session_subscribers.specs.Items.{Gives}
use Rattle.session_subscribers.proofs.Givings.{takes_gives, short_gives, gives_none, gives_both, given_short, one_judged, where_err}
use Rattle.session_subscribers.proofs.Pulls.{here_next, some_given, few_next, told_items, given_all}
use Rattle.session_subscribers.proofs.session_hub.SessionHub.pull_from.Goals as goal
use Rattle.session_subscribers.proofs.session_hub.SessionHub.pull_from.Goals.{else-loop-version-test, then-loop-version-test+then-given-count}

pub returns-in_default-clause-ok : goal.returns-in_default-clause-ok
returns-in_default-clause-ok g c =
    let look = c.in_default.ensures in
    record {
      state = look.0;
      sight = look.1;
      many = 0;
      most = omega arith;
      gives = gives_none look.0.versions c.args.reader.now (string_bytes c.args.out.now);
      told = refl;
    }

pub returns-in_err-given-clause-err : goal.returns-in_err-given-clause-err
returns-in_err-given-clause-err g c =
    let look = c.in-Ok.ensures in
    where_err c.from_residual.result _ (look.0, look.1, short_gives look.0.versions c.args.count _ _ _ _ c.in_err-given.ensures.err)

pub loop-version-init : goal.loop-version-init
loop-version-init g c = record {
  next = omega (arith, c.in_ok-given.ensures.ok.1.next, c.next_version-from.ensures);
  each = omega arith;
  most = c.in_ok-given.ensures.ok.0;
  none = c.in_ok-given.ensures.all;
  gives = λ all found. takes_gives all c.in_ok-given.given _ _ _ _ c.in_ok-given.ensures.ok.1;
}

pub judge-judged-requires-clause-few : goal.judge-judged-requires-clause-few
judge-judged-requires-clause-few g c κs within =
    let look = c.in-Ok.ensures in
    let is : c.deref-version-items.result.now ≡ take c.args.count (drop c.next_version-from.result look.0.versions) = search rules in
    few_next g.N.Naming.size look.0 c.args.count c.next_version-from.result c.loop-version.version-index c.loop-version.reader.next c.deref-version-items.result.now look.1.consistent is c.loop-version-test.true c.loop-version.invariant.next

pub returns-in_default-judged-clause-ok : goal.returns-in_default-judged-clause-ok
returns-in_default-judged-clause-ok g c =
    let look = c.in-Ok.ensures in
    let is : c.deref-version-items.result.now ≡ take c.args.count (drop c.next_version-from.result look.0.versions) = search rules in
    let same : c.judge-judged.new.self ≡ c.loop-version.reader = c.in_default-judged.ensures.err in
    record {
      state = look.0;
      sight = look.1;
      many = c.loop-version.given;
      most = c.loop-version.invariant.most;
      gives = subst (λ (r : Reader). Gives look.0.versions c.loop-version.given c.args.reader.now r (string_bytes c.args.out.now) (string_bytes c.loop-version.out)) (sym same) (c.loop-version.invariant.gives look.0.versions is);
      told = refl;
    }

pub returns-in_err-given-2-clause-err : goal.returns-in_err-given-2-clause-err
returns-in_err-given-2-clause-err g c =
    let look = c.in-Ok.ensures in
    let all = look.0.versions in
    let is : c.deref-version-items.result.now ≡ take c.args.count (drop c.next_version-from.result all) = search rules in
    let at : slice_get c.deref-version-items.result.now c.loop-version.version-index ≡ Some c.version-item.result =
    slice_get_read c.deref-version-items.result.now (length c.deref-version-items.result.now) c.loop-version.version-index c.version-item.result refl c.loop-version-test.true c.version-item.is in
    let here : IsPrefix (c.version-item.result ∷ []) (drop c.loop-version.reader.next all) =
    subst (λ n. IsPrefix (c.version-item.result ∷ []) (drop n all)) (sym c.loop-version.invariant.next)
    (here_next c.next_version-from.result c.loop-version.version-index c.args.count all c.deref-version-items.result.now c.version-item.result is at) in
    let none = c.loop-version.invariant.none (omega (arith, c.loop-version.invariant.most, c.if-given-count.false)) in
    let judged = one_judged all c.version-item.result c.loop-version.reader c.judge-judged.new.self (string_bytes c.loop-version.out) here none c.in-Ok-judged.ensures.ok in
    let before = gives_both all c.loop-version.given 0 c.loop-version.given _ _ _ _ _ _ (omega arith) (c.loop-version.invariant.gives all is) judged in
    where_err c.from_residual-in_err-given-2.result _
    (look.0, look.1, given_short all c.loop-version.given (c.args.count - c.loop-version.given) c.args.count _ _ _ _ _ _ (omega (arith, c.loop-version.invariant.most)) before (short_gives all (c.args.count - c.loop-version.given) _ _ _ _ c.in_err-given-2.ensures.err))

pub loop-version-preserved : goal.loop-version-preserved
loop-version-preserved g c =
    let given = c.loop-version.given in
    let more = c.in_ok-given-2.field-0 in
    let inv = c.loop-version.invariant in
    let fewer : given < c.args.count = omega (arith, inv.most, c.if-given-count.false) in
    let ok = c.in-Ok-judged.ensures.ok in
    let taken = c.in_ok-given-2.ensures.ok in
    let some = some_given more (c.args.count - given) c.judge-judged.new.self c.give_pending-in-loop-version.new.reader _ _ c.loop-version.reader.program c.version-item.result (omega (arith, fewer)) (ap (λ (r : Reader). r.pending) ok) taken.1 c.in_ok-given-2.ensures.all in
    record {
      next = omega (arith, taken.1.next, ap (λ (r : Reader). r.next) ok, inv.next);
      each = omega (arith, inv.each, some);
      most = omega (arith, inv.most, taken.0);
      none = λ less. c.in_ok-given-2.ensures.all (omega (arith, less));
      gives = λ all is.
          let at : slice_get c.deref-version-items.result.now c.loop-version.version-index ≡ Some c.version-item.result =
          slice_get_read c.deref-version-items.result.now (length c.deref-version-items.result.now) c.loop-version.version-index c.version-item.result refl c.loop-version-test.true c.version-item.is in
          let here : IsPrefix (c.version-item.result ∷ []) (drop c.loop-version.reader.next all) =
          subst (λ n. IsPrefix (c.version-item.result ∷ []) (drop n all)) (sym inv.next)
          (here_next c.next_version-from.result c.loop-version.version-index c.args.count all c.deref-version-items.result.now c.version-item.result is at) in
          let judged = one_judged all c.version-item.result c.loop-version.reader c.judge-judged.new.self (string_bytes c.loop-version.out) here (inv.none fewer) ok in
          gives_both all given more (given + more) _ _ _ _ _ _ refl (gives_both all given 0 given _ _ _ _ _ _ (omega arith) (inv.gives all is) judged)
          (takes_gives all more _ _ _ _ taken.1);
    }

pub returns-clause-ok : goal.returns-clause-ok
returns-clause-ok g c =
    let size = g.N.Naming.size in
    let look = c.in-Ok.ensures in
    let state = look.0 in
    let inv = c.loop-version.invariant in
    let found = c.deref-version-items.result.now in
    let is : found ≡ take c.args.count (drop c.next_version-from.result state.versions) = search rules in
    let latest : c.in-Ok.latest ≡ length state.changes = search rules in
    let all : c.loop-version.given < c.args.count → IsAllGiven state c.loop-version.reader = elim c.loop-version-test.branch [
      | else-loop-version-test w ↦ λ fewer.
          let last : c.loop-version.version-index ≡ length found = omega (arith, w.loop-version-test.false, c.loop-version.auto.version-index-end) in
          given_all size state c.args.count c.loop-version.given c.next_version-from.result c.loop-version.version-index found c.loop-version.reader look.1.consistent is last inv.next inv.each inv.none fewer
      | then-loop-version-test+then-given-count w ↦ λ fewer. absurd (omega (arith, fewer, w.if-given-count.true))
    ] in
    record {
      state = state;
      sight = look.1;
      many = c.loop-version.given;
      most = inv.most;
      gives = inv.gives state.versions is;
      told = told_items size state c.args.self.now.options.reads c.args.count c.loop-version.given c.in-Ok.latest c.loop-version.reader c.items_reply.result look.1.consistent latest c.items_reply.ensures.full c.items_reply.ensures.either all;
    }
