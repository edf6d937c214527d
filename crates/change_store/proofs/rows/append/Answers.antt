use Rattle.std.proofs.Common.{◌≡◌, ◌++◌, sym, subst, arith, rules}
use Rattle.sqlite.specs.State.{State, HasCleanDisk, Survives}
use Rattle.sqlite.specs.Effect.{Database}
use Rattle.sqlite.specs.Held.{state}
use Rattle.change_store.specs.Inserted.{Leaves}
use Rattle.change_store.specs.Store.{AreKept}
use Rattle.change_store.proofs.InsertedLemmas.{left_by, survives_all, on_err, undone_by}
use Rattle.change_store.proofs.StoreLemmas.{kept_more, kept_undone}
use Rattle.change_store.proofs.rows.append.Goals as goal

pub returns-clause-all : goal.returns-clause-all
returns-clause-all g c clean =
    let last = c.insert_all.new.group.conn.now in
    let end = c.commit.new.self.0 in
    let late : HasCleanDisk (state g.S.Store end) = search rules in
    let all = left_by g.S.Store c.args.count c.args.texts.now c.args.conn.now c.transaction-group.result.conn.now last c.transaction-group.ensures.begun
    (c.in_ok-last.ensures.inserted (omega (arith, c.commit.ensures.survives.clean))) in
    subst (Leaves g.S.Store c.args.count c.args.texts.now c.args.conn.now) (search rules)
    (subst (Leaves g.S.Store c.args.count c.args.texts.now c.args.conn.now) (sym (c.in_ok-commit.ensures.ok late).1.committed_is) all)

pub returns-clause-crash : goal.returns-clause-crash
returns-clause-crash g c =
    subst (λ (s : State). Survives (state g.S.Store c.args.conn.now) s (λ trees. (db : Database) × Leaves g.S.Store c.args.count c.args.texts.now c.args.conn.now db × (trees ≡ db.trees))) (search rules)
    (survives_all g.S.Store c.args.count c.args.texts.now c.args.conn.now c.transaction-group.result.conn.now c.insert_all.new.group.conn.now c.transaction-group.ensures.begun c.commit.new.self.0
    c.in_ok-last.ensures.inserted c.insert_all.ensures.survives c.commit.ensures.survives)

pub returns-in_err-commit-clause-crash : goal.returns-in_err-commit-clause-crash
returns-in_err-commit-clause-crash g c =
    subst (λ (s : State). Survives (state g.S.Store c.args.conn.now) s (λ trees. (db : Database) × Leaves g.S.Store c.args.count c.args.texts.now c.args.conn.now db × (trees ≡ db.trees))) (search rules)
    (survives_all g.S.Store c.args.count c.args.texts.now c.args.conn.now c.transaction-group.result.conn.now c.insert_all.new.group.conn.now c.transaction-group.ensures.begun c.commit.new.self.0
    c.in_ok-last.ensures.inserted c.insert_all.ensures.survives c.commit.ensures.survives)

pub returns-clause-kept : goal.returns-clause-kept
returns-clause-kept g c before kept =
    subst (λ (s : State). AreKept s c.in_ok-last.last (before ++ c.args.texts.now)) (search rules)
    (kept_more g.S.Store c.args.count before c.args.texts.now c.args.conn.now c.transaction-group.result.conn.now c.insert_all.new.group.conn.now (state g.S.Store c.commit.new.self.0) c.transaction-group.ensures.begun kept
    c.insert_all.ensures.kept c.insert_all.ensures.survives (λ clean. omega (arith, c.commit.ensures.survives.clean)) c.in_ok-last.last c.in_ok-last.ensures.last c.in_ok-last.ensures.inserted (λ clean. (c.in_ok-commit.ensures.ok clean).1))

pub returns-in_err-last-clause-none : goal.returns-in_err-last-clause-none
returns-in_err-last-clause-none g c before kept =
    on_err c.from_residual.result (subst (λ (s : State). AreKept s c.args.count before) (search rules)
    (kept_undone g.S.Store c.args.count before c.args.texts.now c.args.conn.now c.transaction-group.result.conn.now c.insert_all.new.group.conn.now (state g.S.Store c.drop-group.new.self.0) c.transaction-group.ensures.begun kept
    c.insert_all.ensures.kept c.insert_all.ensures.survives (λ clean. omega (arith, c.drop-group.ensures.survives.clean)) c.drop-group.ensures.undone))

pub returns-in_err-commit-clause-none : goal.returns-in_err-commit-clause-none
returns-in_err-commit-clause-none g c before kept =
    let last = c.insert_all.new.group.conn.now in
    let end = state g.S.Store c.commit.new.self.0 in
    let inside = λ (early : HasCleanDisk (state g.S.Store last)). c.in_ok-last.ensures.inside early (rw c.transaction-group.ensures.begun) in
    on_err c.from_residual-in_err-commit.result (subst (λ (s : State). AreKept s c.args.count before) (search rules)
    (kept_undone g.S.Store c.args.count before c.args.texts.now c.args.conn.now c.transaction-group.result.conn.now last end c.transaction-group.ensures.begun kept
    c.insert_all.ensures.kept c.insert_all.ensures.survives (λ clean. omega (arith, c.commit.ensures.survives.clean))
    (λ clean. undone_by (state g.S.Store last) end _ (inside (omega (arith, c.commit.ensures.survives.clean))) (c.in_err-commit.ensures.err clean))))
