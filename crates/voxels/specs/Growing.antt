-- A pool that may have grown.
use Rattle.std.specs.Prelude.{◌≡◌, length}
use Rattle.nodes.specs.declared.pool.NodePool.{Ghosts as PoolMeaning}
use Rattle.nodes.specs.Pools.{front}
use Rattle.dag.specs.Sealed.{Begins}

-- the list begins with the list that was there, and its memory, the capacity and what lies behind are as they were
pub record Grown {P : Type 0} (pool : PoolMeaning P) (before after : P) : Type 0 where
  pub list : Begins (pool.nodes before) (pool.nodes after)
  pub fixed : pool.capacity after ≡ pool.capacity before
  pub untouched : pool.behind after ≡ pool.behind before
  pub kept : front (length (pool.nodes before)) (pool.memory after) ≡ front (length (pool.nodes before)) (pool.memory before)
