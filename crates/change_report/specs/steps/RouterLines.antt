-- What differs for one router: each line by its own routes.
use Rattle.change_lines.specs.ChangeTexts.{ChangeLineValue}
use Rattle.change_lines.specs.declared.change_name.ChangeName.{ChangeName}
use Rattle.comparison.specs.Compared.{RouterCompared}
use Rattle.change_report.specs.Lines.{route_for}

-- a change, with the router's route of now and the one before
abbrev pub router_line : RouterCompared → ChangeName → ChangeLineValue
router_line c name = record {
  name = name;
  now = route_for c.both.present c.router name.net;
  was = route_for c.both.baseline c.router name.net;
}
