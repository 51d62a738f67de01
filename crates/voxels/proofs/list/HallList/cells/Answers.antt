use Rattle.std.proofs.Common.{◌<◌, ◌≤◌, length, sym, ap, ◌∙◌, subst, arith}
use Rattle.std.proofs.lemmas.Bool.{both_ways}
use Rattle.nodes.specs.Records.{none}
use Rattle.dag.specs.Sizes.{size}
use Rattle.dag.specs.Meets.{meet}
use Rattle.dag.specs.Checks.{Countable}
use Rattle.voxels.proofs.Verdicts.{root_countable, not_each, not_rooted, not_order, no_records, passed}
use Rattle.voxels.proofs.list.HallList.cells.Goals as goal

pub returns-then-not-all_fit : goal.returns-then-not-all_fit
returns-then-not-all_fit g c =
    let pool = c.args.self.now.pool.now in
    let ns = g.P.NodePool.nodes pool in
    let few : length ns ≤ none = omega (arith, g.P.NodePool.within pool, g.P.NodePool.bounded pool) in
    not_each c.args.self.now.levels.count ns c.args.self.now.levels.low few (λ p. both_ways _ c.if-not-all_fit.true (c.all_fit.ensures.1 p))

pub returns-then-count-eq0 : goal.returns-then-count-eq0
returns-then-count-eq0 g c =
    let pool = c.args.self.now.pool.now in
    let ns = g.P.NodePool.nodes pool in
    let few : length ns ≤ none = omega (arith, g.P.NodePool.within pool, g.P.NodePool.bounded pool) in
    no_records c.args.self.now.levels.count ns c.args.self.now.levels.low few (sym c.count.ensures ∙ c.if-count-eq0.true) (c.all_fit.ensures.0 c.if-not-all_fit.false)

pub returns-in_err-root : goal.returns-in_err-root
returns-in_err-root g c =
    let pool = c.args.self.now.pool.now in
    let ns = g.P.NodePool.nodes pool in
    let few : length ns ≤ none = omega (arith, g.P.NodePool.within pool, g.P.NodePool.bounded pool) in
    rw c.from_residual.ensures
    (not_rooted c.args.self.now.levels.count ns c.args.self.now.levels.low few (omega (arith, c.count.ensures, c.if-count-eq0.false)) c.in_err-root.ensures)

pub returns-in_err-_all : goal.returns-in_err-_all
returns-in_err-_all g c =
    let pool = c.args.self.now.pool.now in
    let ns = g.P.NodePool.nodes pool in
    let few : length ns ≤ none = omega (arith, g.P.NodePool.within pool, g.P.NodePool.bounded pool) in
    let root = c.in_ok-root.ensures in
    rw c.from_residual-in_err-_all.ensures
    (not_order c.args.self.now.levels.count ns c.args.self.now.levels.low few root.some (subst (λ m. length ns < meet ns c.args.self.now.levels.count m 0) root.last c.in_err-_all.ensures))

pub size_of-requires : goal.size_of-requires
size_of-requires g c =
    let ns = g.P.NodePool.nodes c.args.self.now.pool.now in
    let root = c.in_ok-root.ensures in
    (c.args.self.now.levels.high, subst (Countable ns c.args.self.now.levels.count) (sym root.last) (root_countable c.args.self.now.levels.count ns c.args.self.now.levels.low root.some (c.all_fit.ensures.0 c.if-not-all_fit.false) root.level))

pub returns : goal.returns
returns g c =
    let pool = c.args.self.now.pool.now in
    let ns = g.P.NodePool.nodes pool in
    let few : length ns ≤ none = omega (arith, g.P.NodePool.within pool, g.P.NodePool.bounded pool) in
    let root = c.in_ok-root.ensures in
    let met = c.in_ok-_all.ensures in
    let p = passed c.args.self.now.levels.count ns c.args.self.now.levels.low few root.some (c.all_fit.ensures.0 c.if-not-all_fit.false) root.level
    (subst (λ m. meet ns c.args.self.now.levels.count m 0 ≤ length ns) root.last (subst (λ x. x ≤ length ns) met.0 met.1)) in
    (p.0, c.size_of.ensures.is ∙ ap (size ns c.args.self.now.levels.count) root.last ∙ p.1)
