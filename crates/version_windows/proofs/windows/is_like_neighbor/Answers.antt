use Rattle.std.proofs.Common.{◌<◌, ◌≤◌, inl, inr, ⊎_elim}
use Rattle.version_windows.proofs.windows.is_like_neighbor.Goals as goal

pub returns-then-range-end : goal.returns-then-range-end
returns-then-range-end c =
    λ yes. record {
      uniform = c.is_uniform.ensures.uniform yes;
      inside =
          ⊎_elim
          (λ (behind : 0 < c.args.range.low). inl behind)
          (λ (ahead : (c.args.range.low ≤ 0) × (c.args.range.high < c.args.end)). inr ahead.1)
          c.if-range-end.either;
    }
