-- What FRR and BIRD print around the rows of a list.
use Rattle.std.specs.Prelude.{ℕ, List, codes, Bool, Option}
use Rattle.std.specs.Option.{is_some}
use Rattle.text_words.specs.Words.{after_words}
use Rattle.frr_text.specs.Words.{words}
use Rattle.lsdb_listing.specs.declared.label.Label.{Label}
use Rattle.lsdb_listing.specs.declared.label.Label.TheVariants as label
use Rattle.lsdb_listing.specs.Lines.{Line}

unfoldable pub text_of : Label → List ℕ
text_of label.Router = codes "Router Link States"
text_of label.Network = codes "Net Link States"
text_of label.Summary = codes "Summary Link States"
text_of label.AsbrSummary = codes "ASBR-Summary Link States"
text_of label.External = codes "AS External Link States"
text_of label.Nssa = codes "NSSA-external Link States"
text_of label.LinkOpaque = codes "Link-Local Opaque-LSA"
text_of label.AreaOpaque = codes "Area-Local Opaque-LSA"
text_of label.AsOpaque = codes "AS-external Opaque-LSA"
text_of label.InArea = codes "(Area"
text_of label.Area = codes "Area"
text_of label.Global = codes "Global"
text_of label.Link = codes "Link"
text_of label.IdColumns = codes "Link ID ADV Router"
text_of label.OpaqueColumns = codes "Opaque-Type/Id ADV Router"
text_of label.TypeColumns = codes "Type LS ID Router"
text_of label.Printer = codes "OSPF Router with ID"
text_of label.Bird = codes "BIRD"
text_of label.States = codes "States"
text_of label.Age = codes "LS age:"

-- the words after a label, where the line begins with it
unfoldable pub after_label : Label → Line → Option Line
after_label label line = after_words (words (text_of label)) line

abbrev pub begins_with : Label → Line → Bool
begins_with label line = is_some (after_label label line)
