use Rattle.table_report.proofs.piece.write_address.Goals as goal

pub returns-clause-ascii : goal.returns-clause-ascii
returns-clause-ascii c = λ ascii.
    c.write_byte.ensures.ascii (c.write_marked-start-3.ensures.ascii
    (c.write_marked-start-2.ensures.ascii (c.write_marked-start.ensures.ascii ascii)))
