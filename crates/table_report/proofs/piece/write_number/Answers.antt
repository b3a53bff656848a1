use Rattle.std.proofs.Common.{arith, rules}
use Rattle.std.proofs.lemmas.Fmt.{length-decimal-le}
use Rattle.table_report.proofs.Ascii.{number_before}
use Rattle.table_report.proofs.piece.write_number.Goals as goal

pub write_digits-start-requires : goal.write_digits-start-requires
write_digits-start-requires c =
    (omega (arith, length-decimal-le 20 c.args.number (omega arith) (omega arith) c.ranges.number.fits), search rules)

pub write_character-requires-clause-room : goal.write_character-requires-clause-room
write_character-requires-clause-room c =
    let short = length-decimal-le 20 c.args.number (omega arith) (omega arith) c.ranges.number.fits in
    (omega (arith, short, c.write_digits-start.ensures.start), omega (arith, c.write_digits-start.ensures.start))

pub returns-clause-start : goal.returns-clause-start
returns-clause-start c =
    let short = length-decimal-le 20 c.args.number (omega arith) (omega arith) c.ranges.number.fits in (
      omega (arith, c.write_digits-start.ensures.start, c.write_character.ensures.start),
      omega (arith, short, c.write_digits-start.ensures.start, c.write_character.ensures.start),
    )

pub returns-clause-ascii : goal.returns-clause-ascii
returns-clause-ascii c = λ ascii.
    c.write_character.ensures.ascii (number_before _ _ _ c.ranges.number.fits c.write_digits-start.ensures.written ascii)
