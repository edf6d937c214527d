use Rattle.std.proofs.Common.{◌≡◌, ◌+◌, ◌-◌, ◌<◌, ◌≤◌, ℕ, true, sym, subst, arith}
use Rattle.span_flatten.specs.Version.{Version}
use Rattle.feeds.specs.Kept.{AlikeAt}
use Rattle.feeds.proofs.Walking.{AreKept, alike_here, alike_longer, left_on}
use Rattle.feeds.proofs.stretch.alike_up_to_last.Goals as goal
use Rattle.feeds.proofs.stretch.alike_up_to_last.Goals.{then-are_next_alike, else-are_next_alike}

pub loop-pair-preserved : goal.loop-pair-preserved
loop-pair-preserved c =
    let older : Version = c.args.older.now in
    let newer : Version = c.args.newer.now in
    let inv = c.loop-pair.invariant in
    let next = c.are_next_alike.ensures in
    let kept : AreKept older = record { maximal = c.keeps.ensures.maximal; short = c.keeps.ensures.short } in
    let kept_newer : AreKept newer = record { maximal = c.keeps-2.ensures.maximal; short = c.keeps-2.ensures.short } in
    let run : ℕ = c.loop-pair.alike in
    let done : ℕ = c.loop-pair._pair in
    let few : run ≤ done = inv.few in
    let p : ℕ = c.args.older_from + done in
    let q : ℕ = c.args.newer_from + done in
    let p' : ℕ = c.args.older_from + (done + 1) in
    let q' : ℕ = c.args.newer_from + (done + 1) in
    let on_p : p' ≡ p + 1 = omega arith in
    let on_q : q' ≡ q + 1 = omega arith in
    let AreAlike : ℕ → Type 0 = λ r. (i : ℕ) → i < r → AlikeAt older (p' - 1 - i) newer (q' - 1 - i) in
    record {
      few =
          elim c.if-are_next_alike.branch [
            | then-are_next_alike w ↦ let is : c.if-are_next_alike.alike ≡ run + 1 = w.alike-is in omega arith
            | else-are_next_alike w ↦ let is : c.if-are_next_alike.alike ≡ 0 = w.alike-is in omega arith
          ];
      one = left_on older p p' c.loop-pair.one c.are_next_alike.new.older inv.one next.older on_p;
      other = left_on newer q q' c.loop-pair.other c.are_next_alike.new.newer inv.other next.newer on_q;
      alike =
          elim c.if-are_next_alike.branch [
            | then-are_next_alike w ↦
                let yes : c.are_next_alike.result ≡ true = w.if-are_next_alike.true in
                subst AreAlike (sym w.alike-is)
                (alike_longer older newer p q p' q' run inv.alike
                (alike_here older newer p q c.loop-pair.one c.loop-pair.other kept kept_newer inv.one inv.other (next.alike yes)) on_p on_q)
            | else-are_next_alike w ↦ subst AreAlike (sym w.alike-is) (λ i less. absurd (omega arith))
          ];
    }

pub returns-clause-alike : goal.returns-clause-alike
returns-clause-alike c =
    let all : c.loop-pair._pair ≡ c.args.count = omega arith in
    subst (λ n. (i : ℕ) → i < c.loop-pair.alike → AlikeAt c.args.older.now (c.args.older_from + n - 1 - i) c.args.newer.now (c.args.newer_from + n - 1 - i))
    all c.loop-pair.invariant.alike
