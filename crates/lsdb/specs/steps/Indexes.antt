-- The indexes of the slots of a section: by key, by Advertising Router, and by this and the prefix.
use Rattle.std.specs.Prelude.{List}
use Rattle.lsa_codec.specs.Order.{key_cmp, router_cmp}
use Rattle.lsdb.specs.declared.indexes.Indexes.{Indexes}
use Rattle.lsdb.specs.Slots.{Slot}
use Rattle.lsdb.specs.steps.IndexKeys.{origin_cmp, own_key, own_origin, own_router}
use Rattle.lsdb.specs.steps.SlotIndex.{IsIndex}

pub record AreIndexes {A : Type 0} (slots : List Slot) (indexes : Indexes A) : Type 0 where
  pub keys : IsIndex key_cmp own_key slots indexes.keys
  pub routers : IsIndex router_cmp own_router slots indexes.routers
  pub prefixes : IsIndex origin_cmp own_origin slots indexes.prefixes
