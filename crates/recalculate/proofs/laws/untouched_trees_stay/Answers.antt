use Rattle.recalculate.proofs.RouteEdits.{routes_touch_none}
use Rattle.recalculate.proofs.TreesLacking.{all_touched, few_lacking, few_runs}
use Rattle.recalculate.proofs.laws.untouched_trees_stay.Goals as goal

pub returns-clause-lacking : goal.returns-clause-lacking
returns-clause-lacking c = λ p router calls reached none made. all_touched router p none calls reached made

pub returns-clause-few : goal.returns-clause-few
returns-clause-few c = λ p router calls reached none made. few_lacking router p none calls reached made

pub returns-clause-runs : goal.returns-clause-runs
returns-clause-runs c = λ p router calls runs reached none made. few_runs router p none calls reached made runs

pub returns-clause-routes : goal.returns-clause-routes
returns-clause-routes c = routes_touch_none
