-- What a pool stands for.
use Rattle.std.specs.Prelude.{◌-◌, vec_len, vec_capacity}
use Rattle.race_model.specs.declared.shelf.Framed.{Ghosts}
use Rattle.race_model.specs.Shelves.{ShelfState}
use Rattle.lemma_pool.specs.declared.pool.Pool.{Pool}
use Rattle.lemma_pool.specs.Pools.{cut_base}

abbrev pub state_of : {K : Type 0} {G : Ghosts K} → Pool K G → ShelfState
state_of {K} {G} p = record {
  base = cut_base p.levels (G.base p.stack.value);
  entries = p.entries.items;
  ended = p.ended.items;
  room = p.room;
  spare = vec_capacity p.entries - vec_len p.entries;
  global = p.global;
}
