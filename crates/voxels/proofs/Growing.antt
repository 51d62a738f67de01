-- Pools that grow.
use Rattle.std.proofs.Common.{◌≡◌, ℕ, List, ◌∷◌, [], refl, ◌∙◌, subst, sym}
use Rattle.std.proofs.lemmas.Bool.{cond_both}
use Rattle.nodes.specs.declared.node.Node.{Node}
use Rattle.nodes.specs.Pools.{added, full}
use Rattle.dag.specs.Sealed.{Begins}
use Rattle.nodes.specs.declared.pool.NodePool.{Ghosts as PoolMeaning}
use Rattle.dag.proofs.Growth.{begins_self, begins_trans, begins_length}
use Rattle.voxels.specs.Growing.{Grown}
use Rattle.voxels.proofs.Numbering.{front_stays}

-- a pool that nothing was done to
pub grown_self : {P : Type 0} (pool : PoolMeaning P) (p : P) → Grown pool p p
grown_self pool p = record { list = begins_self (pool.nodes p); fixed = refl; untouched = refl; kept = refl }

-- growing twice
pub grown_trans : {P : Type 0} (pool : PoolMeaning P) (p q r : P) → Grown pool p q → Grown pool q r → Grown pool p r
grown_trans pool p q r a b = record {
  list = begins_trans _ _ _ a.list b.list;
  fixed = b.fixed ∙ a.fixed;
  untouched = b.untouched ∙ a.untouched;
  kept = front_stays _ _ _ _ (begins_length _ _ a.list) b.kept ∙ a.kept;
}

-- a list to which a record was added, or which was full
pub grows : (ns : List Node) (capacity : ℕ) (node : Node) (ms : List Node) → ms ≡ added ns capacity node → Begins ns ms
grows ns capacity node ms e =
    subst (Begins ns) (sym e) (cond_both (full ns capacity) ns _ (Begins ns) (λ z. begins_self ns) (λ z. (node ∷ [], refl)))
