-- A pool that grew and was cut back is as it was.
use Rattle.std.proofs.Common.{◌≡◌, ℕ, List, length, take, sym, ap, ◌∙◌, subst}
use lib.Seq.{take-append_seam}
use Rattle.nodes.specs.declared.node.Node.{Node}
use Rattle.nodes.specs.Pools.{Memory, Holds, front}
use Rattle.nodes.proofs.Memories.{same_memory}
use Rattle.nodes.specs.declared.pool.NodePool.{Ghosts as PoolMeaning}
use Rattle.dag.specs.Sealed.{Begins}
use Rattle.dag.proofs.Growth.{begins_self}
use Rattle.voxels.specs.Growing.{Grown}

module _ (ns grown ms : List Node) (n : ℕ) (count : n ≡ length ns) (grows : Begins ns grown) (cut : ms ≡ take n grown) where
  pub cut_list : ms ≡ ns
  cut_list = cut ∙ ap (λ k. take k grown) count ∙ ap (take (length ns)) grows.1 ∙ take-append_seam ns grows.0

  module _ (memory between after : Memory) (room room' : ℕ) (behind behind' : Memory)
      (held : Holds memory ns room behind) (holds : Holds after ms room' behind') (fixed : room' ≡ room) (untouched : behind' ≡ behind)
      (kept : front (length ns) between ≡ front (length ns) memory) (stays : front (length ms) after ≡ front (length ms) between) where
    pub cut_memory : after ≡ memory
    cut_memory =
        same_memory after memory behind ns room
        (subst (λ xs. Holds after xs room behind) cut_list (subst (λ k. Holds after ms k behind) fixed (subst (λ b. Holds after ms room' b) untouched holds)))
        held
        (subst (λ (xs : List Node). front (length xs) after ≡ front (length xs) between) cut_list stays ∙ kept)

-- so a pool that grew and was cut to the number of records that it had is as it was
module _ {P : Type 0} (pool : PoolMeaning P) (p q r : P) (holds : (x : P) → Holds (pool.memory x) (pool.nodes x) (pool.capacity x) (pool.behind x))
    (n : ℕ) (count : n ≡ length (pool.nodes p)) (grown : Grown pool p q) (cut : pool.nodes r ≡ take n (pool.nodes q))
    (fixed : pool.capacity r ≡ pool.capacity q) (untouched : pool.behind r ≡ pool.behind q)
    (kept : front (length (pool.nodes r)) (pool.memory r) ≡ front (length (pool.nodes r)) (pool.memory q)) where
  pub back_list : pool.nodes r ≡ pool.nodes p
  back_list = cut_list (pool.nodes p) (pool.nodes q) (pool.nodes r) n count grown.list cut

  pub back_memory : pool.memory r ≡ pool.memory p
  back_memory =
      cut_memory (pool.nodes p) (pool.nodes q) (pool.nodes r) n count grown.list cut (pool.memory p) (pool.memory q) (pool.memory r)
      (pool.capacity p) (pool.capacity r) (pool.behind p) (pool.behind r) (holds p) (holds r)
      (fixed ∙ grown.fixed) (untouched ∙ grown.untouched) grown.kept kept

  pub back_grown : Grown pool p r
  back_grown = record {
    list = subst (Begins (pool.nodes p)) (sym back_list) (begins_self (pool.nodes p));
    fixed = fixed ∙ grown.fixed;
    untouched = untouched ∙ grown.untouched;
    kept = ap (front (length (pool.nodes p))) back_memory;
  }
