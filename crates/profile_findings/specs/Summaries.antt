-- Findings about summary-LSAs whose metrics are out of the profile of the planner (RFC 2328, 12.4.3).
use Rattle.std.specs.Prelude.{ℕ, List, ◌++◌, Option, None, Some}
use Rattle.std.specs.List.{filter_map}
use Rattle.audit_places.specs.Places.{PlaceValue, at_lsa, not_due, not_there, at_router, at_route, in_parts, undescribed, several_networks, shared_address, one_way, one_way_member, unequal_cost, several_neighbors}
use Rattle.audit_routes.specs.NotDue.{summary_not_due_places, summary_raised_places}
use Rattle.findings.specs.declared.finding.Finding.{Finding}
use Rattle.findings.specs.declared.finding.Finding.TheVariants.{NotDue, Raised}
use Rattle.findings.specs.declared.reported_lsa.ReportedLsa.{ReportedLsa}
use Rattle.lsa_names.specs.declared.lsa_name.LsaName.{LsaName}
use Rattle.lsdb.specs.Lists.{Lists}
use Rattle.profile_findings.specs.declared.summaries.Metric.{Metric}
use Rattle.profile_findings.specs.declared.summaries.Metric.TheVariants.{OfDrained, Other}

abbrev pub reported : LsaName → ReportedLsa
reported name = record { area = name.area; key = name.key }

abbrev pub finding_about : Metric → LsaName → Finding
finding_about OfDrained name = Raised (reported name)
finding_about Other name = NotDue (reported name)

module _ (metric : Metric) where
  -- the finding about the summary-LSA at a place where its metric is not the one that it is due
  abbrev pub finding_at : PlaceValue → Option Finding
  finding_at (at_lsa lsa) = None
  finding_at (not_due lsa of_lsa due) = Some (finding_about metric lsa)
  finding_at (not_there lsa due) = None
  finding_at (at_router router) = None
  finding_at (at_route router net) = None
  finding_at (in_parts area parts) = None
  finding_at (undescribed area router by) = None
  finding_at (several_networks net addresses) = None
  finding_at (shared_address address routers) = None
  finding_at (one_way area router number to) = None
  finding_at (one_way_member lsa router) = None
  finding_at (unequal_cost area router number to cost back) = None
  finding_at (several_neighbors area router address neighbors) = None

-- the live summary-LSAs of border routers that a refresh would give another metric: those with the raised metric of a drained
-- router, and then those with another one, by area and key
abbrev pub summary_findings : Lists → List Finding
summary_findings db =
    filter_map (finding_at OfDrained) (summary_raised_places db) ++ filter_map (finding_at Other) (summary_not_due_places db)
