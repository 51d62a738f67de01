-- What a map shows: its plain state, and what its pool and its store mean.
use Rattle.std.specs.Prelude.{◌≡◌, ℕ, Bool, List, Option}
use Rattle.cells.specs.Refusals.{Answer, gives, refuses}
use Rattle.nodes.specs.declared.node.Node.{Node}
use Rattle.nodes.specs.declared.pool.NodePool.{Ghosts as PoolMeaning}
use Rattle.nodes.specs.Pools.{Memory}
use Rattle.tags.specs.declared.store.TagStore.{Ghosts as StoreMeaning}
use Rattle.voxels.specs.declared.phase.Phase.{Phase}
use Rattle.voxels.specs.declared.row.OpenRow.{OpenRow}
use Rattle.voxels.specs.declared.map.Map.{Map}
use Rattle.voxels.specs.Stands.{OpenAs, SealedAs}

pub record Shown : Type 0 where
  pub phase : Phase
  pub levels : ℕ
  -- the last accepted code
  pub last : Option ℕ
  -- the open rows
  pub rows : List OpenRow
  -- the pool's list, its capacity, the whole memory that was lent to it, and the part behind the capacity
  pub nodes : List Node
  pub capacity : ℕ
  pub memory : Memory
  pub behind : Memory
  -- the store's words and its rule
  pub words : List ℕ
  pub admits : List ℕ → Bool

-- what a map over a pool and a store shows
abbrev pub shown : {P S K : Type 0} → PoolMeaning P → StoreMeaning S → Map P S K → Shown
shown pool store m = record {
  phase = m.plain.phase;
  levels = m.plain.levels;
  last = m.plain.last;
  rows = m.plain.rows;
  nodes = pool.nodes m.pool;
  capacity = pool.capacity m.pool;
  memory = pool.memory m.pool;
  behind = pool.behind m.pool;
  words = store.words m.store;
  admits = store.admits m.store;
}

-- what holds if a call was accepted
abbrev pub Accepted : {A : Type 0} → Answer A → Type 0 → Type 0
Accepted (gives _) P = P
Accepted (refuses _) P = Unit {0}

-- what holds if it was refused
abbrev pub Refused : {A : Type 0} → Answer A → Type 0 → Type 0
Refused (gives _) P = Unit {0}
Refused (refuses _) P = P

-- what holds of the value that a call gave
abbrev pub Given : {A : Type 0} → Answer A → (A → Type 0) → Type 0
Given (gives value) P = P value
Given (refuses _) P = Unit {0}

-- what no call changes: the capacity and the memory behind it, and the store's rule
pub record Fixed (before after : Shown) : Type 0 where
  pub capacity : after.capacity ≡ before.capacity
  pub behind : after.behind ≡ before.behind
  pub admits : after.admits ≡ before.admits

-- an open map that shows this stands for cells, in code order, and their tags
abbrev pub ShowsOpen : {K : Type 0} → (K → ℕ) → ℕ → List ℕ → List K → Shown → Type 0
ShowsOpen word_of L cells tags m = OpenAs word_of L cells tags m.phase m.levels m.last m.nodes m.rows m.words

-- a sealed map that shows this stands for cells, in code order, and their tags
abbrev pub ShowsSealed : {K : Type 0} → (K → ℕ) → ℕ → List ℕ → List K → Shown → Type 0
ShowsSealed word_of L cells tags m = SealedAs word_of L cells tags m.phase m.levels m.nodes m.words
