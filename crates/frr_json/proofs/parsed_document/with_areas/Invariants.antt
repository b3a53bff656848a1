use Rattle.std.proofs.Common.{◌≡◌, ◌++◌, drop}
use Rattle.json.specs.Value.{members_view}
use Rattle.frr_json.specs.ParsedDocuments.{areas_in}
use Rattle.frr_json.proofs.parsed_document.with_areas.Given as goal

abbrev pub invariant-areas : goal.invariant-areas
invariant-areas g l =
    l.parsed.items ++ areas_in l.table (members_view (drop l.member-index l.members))
    ≡ l.initial.parsed.items ++ areas_in l.table (members_view l.members)
