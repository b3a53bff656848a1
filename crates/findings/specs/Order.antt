-- The order of LSAs that files report.
use Rattle.std.specs.Option.{option_cmp}
use Rattle.std.specs.Ordering.{ordering_then}
use Rattle.std.specs.declared.cmp.Ordering.{Ordering}
use Rattle.findings.specs.declared.reported_lsa.ReportedLsa.{ReportedLsa}
use Rattle.lsa_codec.specs.Order.{area_cmp, key_cmp}

-- those outside of the areas first, then by area, then by key
abbrev pub reported_cmp : ReportedLsa → ReportedLsa → Ordering
reported_cmp a b = ordering_then (option_cmp area_cmp a.area b.area) (key_cmp a.key b.key)
