-- Lists of areas in rising order.
use Rattle.std.proofs.Common.{[]}
use Rattle.std.specs.List.Sorted.{IsStrictlySortedBy}
use Rattle.lsa_codec.specs.Order.{area_cmp}

pub none_rise : IsStrictlySortedBy area_cmp []
unfolding IsStrictlySortedBy
none_rise = tt
