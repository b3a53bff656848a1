use Rattle.table_report.proofs.line.write_paths.Goals as goal

pub returns-clause-ascii : goal.returns-clause-ascii
returns-clause-ascii g c = c.write_kind.ensures.ascii (c.write_costs-start.ensures.ascii c.end_of-end.ensures.ascii)
