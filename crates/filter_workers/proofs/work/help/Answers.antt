use Rattle.std.proofs.Common.{◌≡◌, true, false, None, Some, [], ◌∷◌, refl, inl, inr, rules, subst, sym, ◌≤◌}
use Rattle.feeds.specs.Batches.{Job}
use Rattle.filter_workers.specs.Turns.{takes, IsShort}
use Rattle.filter_workers.proofs.Turning.{took_none, took, turned, turned_short, helps_short, is_long, is_within}
use Rattle.filter_workers.proofs.work.help.Goals as goal

pub returns-in_default : goal.returns-in_default
returns-in_default g c = (takes None ∷ [], took_none g.N.Naming.size c.args.share.now c.take_job.new.share c.in_default.ensures, inl refl)

pub returns-then-not-is_short : goal.returns-then-not-is_short
returns-then-not-is_short g c =
    let no : c.is_short.result ≡ false = search rules in (
      takes (Some c.in-Some.job) ∷ [],
      took g.N.Naming.size c.args.share.now c.take_job.new.share c.in-Some.job c.in-Some.ensures,
      inr (c.in-Some.job, is_long c.is_short.result c.in-Some.job c.args.most c.is_short.ensures no, refl),
    )

pub returns-in_err-_end : goal.returns-in_err-_end
returns-in_err-_end g c =
    let yes : c.is_short.result ≡ true = search rules in
    let did = turned_short g.N.Naming.size c.args.share.now c.take_job.new.share c.serve.new.share c.in-Some.job c.in-Some.ensures c.in_err-_end.ensures in (
      did.0,
      did.1,
      helps_short _ c.args.most c.from_residual.result did.0 c.from_residual.ensures.1 c.in-Some.job
          (is_within c.is_short.result c.in-Some.job c.args.most c.is_short.ensures yes) did.2,
    )

pub returns : goal.returns
returns g c =
    let yes : c.is_short.result ≡ true = search rules in
    let did = turned g.N.Naming.size c.args.share.now c.take_job.new.share c.serve.new.share c.in-Some.job c.in_ok-_end._end c.in-Some.ensures c.in_ok-_end.ensures in
    let few : IsShort c.args.most c.in-Some.job = is_within c.is_short.result c.in-Some.job c.args.most c.is_short.ensures yes in
    (did.0, did.1, (did.2.0, subst (λ (j : Job). IsShort c.args.most j) (sym did.2.1) few, did.2.3))
