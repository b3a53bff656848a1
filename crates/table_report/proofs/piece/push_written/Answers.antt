use Rattle.std.proofs.Common.{◌-◌, drop, arith, take_all, length-drop}
use Rattle.std.proofs.lemmas.Str.{IsUtf8-from_ascii}
use Rattle.table_report.proofs.piece.push_written.Goals as goal

pub from_utf8_unchecked-requires : goal.from_utf8_unchecked-requires
from_utf8_unchecked-requires g c =
    let buffer = c.args.buffer.now in
    let start = c.args.start in
    IsUtf8-from_ascii _ (rw (take_all (128 - start) (drop start buffer) (omega (arith, length-drop start buffer))) c.requires.ascii)
